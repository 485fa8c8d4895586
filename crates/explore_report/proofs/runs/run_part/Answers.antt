use Rattle.std.proofs.Common.{◌≡◌, ◌+◌, ◌-◌, ◌%◌, ◌^◌, ◌<◌, ◌≤◌, ◌++◌, ◌∷◌, [], min, ap, subst, ◌∙◌, arith}
use Rattle.std.proofs.Math.Nat.{mod-eq_of_lt}
use Rattle.script_family.specs.Laws.{part_of}
use Rattle.ending_tally.specs.Steps.{told}
use Rattle.explore_report.specs.Expectations.{few_of}
use Rattle.explore_report.proofs.Numbers.{next_of_part}
use Rattle.explore_report.proofs.Running.{part_grows, tally_more, tally_none}
use Rattle.explore_report.proofs.runs.run_part.Goals as goal

pub numbers-init : goal.numbers-init
numbers-init g c =
    let small : c.args.part.number - 1 < c.args.part.of = omega (arith, c.requires.part.0, c.requires.part.1) in
    let few : c.never.result + c.always.result ≡ few_of c.args.exploration.now.expected = omega (arith, c.never.ensures, c.always.ensures) in
    record {
      of_part = λ l. mod-eq_of_lt small;
      tally =
          tally_none (g.R.Runs.shows c.args.runs.now) c.args.family.now c.args.exploration.now.expected c.args.exploration.now.exact c.args.part.of (c.args.part.number - 1) c.args.below
          (c.never.result + c.always.result) (told c.in_ok-tally.tally) small few c.in_ok-tally.ensures.tally;
      seen = ([], c.in_ok-seen.ensures);
      same = λ other lines text h. h;
    }

pub numbers-preserved : goal.numbers-preserved
numbers-preserved g c =
    let inv = c.numbers.invariant in
    let of = c.args.part.of in
    let first = c.args.part.number - 1 in
    let number = c.numbers.number in
    let new = c.saturating_add-number.result in
    let below = c.args.below in
    let is : number % of ≡ first = inv.of_part c.numbers-test.true in
    let some : 0 < of = omega (arith, c.requires.part.0, c.requires.part.1) in
    let room : below ≤ 2 ^ 64 - 1 = omega (arith, c.ranges.below.fits) in
    let more : part_of of first (min new below) ≡ part_of of first (min number below) ++ number ∷ [] =
    subst (λ r. part_of of r (min new below) ≡ part_of of r (min number below) ++ number ∷ []) is (part_grows of number below new c.numbers-test.true room some c.saturating_add-number.ensures) in
    record {
      of_part = λ l.
          let next : new ≡ number + of = omega (arith, l, room, c.saturating_add-number.ensures) in
          ap (λ x. x % of) next ∙ next_of_part of number ∙ is;
      tally =
          tally_more (g.R.Runs.shows c.args.runs.now) (g.R.Runs.shows c.numbers.runs) c.args.family.now c.args.exploration.now.expected c.args.exploration.now.exact
          (part_of of first (min number below)) (part_of of first (min new below)) number (told c.numbers.tally) (told c.run_one.new.tally) inv.same more c.in_ok-run_one.ensures.ran inv.tally;
      seen = c.in_ok-run_one.ensures.seen;
      same = λ other lines text h. inv.same other lines text (c.in_ok-run_one.ensures.same other lines text h);
    }
