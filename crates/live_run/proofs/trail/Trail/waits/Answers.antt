use Rattle.std.proofs.Common.{ℕ, ap, arith, length, map, ◌≡◌, ◌∙◌}
use Rattle.std.specs.Prelude.{◌==◌}
use Rattle.live_run.specs.Views.{attached_of}
use Rattle.live_run.proofs.Trailing.{waits_so}
use Rattle.live_run.proofs.trail.Trail.waits.Goals as goal

pub returns : goal.returns
returns c =
    let len : c.args.self.now.waiting.len ≡ length c.args.self.now.waiting.items = grind (arith, c.args.self.now.waiting.ok) in
    waits_so c.is_empty.result (map attached_of c.args.self.now.attached.items) c.args.self.now.waiting.items (c.is_empty.ensures ∙ ap (λ (n : ℕ). n == 0) len)
