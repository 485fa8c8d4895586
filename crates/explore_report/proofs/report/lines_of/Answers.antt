use Rattle.std.proofs.Common.{◌≡◌, ◌-◌, ℕ, List, length, arith, Bor}
use Rattle.device_ids.specs.Cuts.{parts}
use Rattle.explore_report.proofs.Looking.{all_but_last}
use Rattle.explore_report.proofs.report.lines_of.Goals as goal

pub returns : goal.returns
returns c =
    let many : c.loop-at.at ≡ length c.in_ok-parts.parts.items - 1 = omega (arith, c.loop-at-test.false, c.loop-at.auto.at-end, c.saturating_sub-at-end.ensures, c.len.ensures, c.in_ok-parts.parts.ok.0) in
    all_but_last (λ (line : Bor (List ℕ)). line.now) c.in_ok-parts.parts.items c.loop-at.at (parts 0x0A c.args.text.now) _ many c.in_ok-parts.ensures c.loop-at.invariant
