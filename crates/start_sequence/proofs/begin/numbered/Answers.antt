use Rattle.std.proofs.Common.{◌≡◌, ◌∙◌, sym, ap₂, ◌+◌, nat_le, length, true}
use Rattle.driver_rank.specs.Best.{choice_of}
use Rattle.driver_rank.specs.Candidates.{match_of}
use Rattle.start_sequence.proofs.Choosing.{chosen_none}
use Rattle.start_sequence.proofs.begin.numbered.Goals as goal

pub returns-in-None : goal.returns-in-None
returns-in-None g c =
    let best = c.args.best.now in
    let line = best.line.now in
    let few : nat_le (length line.lower + 1 + length line.upper) 16 ≡ true =
    ap₂ (λ a b. nat_le (a + 1 + b) 16) (sym c.len.ensures) (sym c.len-2.ensures) ∙ (sym c.are_few.ensures ∙ c.if-not-are_few.false) in
    chosen_none (g.R.Drivers.rows c.args.rack.now) (choice_of (match_of best)) c.in-Some.service c.in-Some.is few c.new-drivers.result.items c.append_line.new.drivers.items (rw c.in-None.is at c.in_ok-driver.ensures)
