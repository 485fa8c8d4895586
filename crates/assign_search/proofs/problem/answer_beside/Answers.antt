use Rattle.std.proofs.Common.{map, Result, Ok, Err, IfOk, arith}
use Rattle.std.proofs.lemmas.List.Sorted.{IsPermutation-refl}
use Rattle.trial_journal.specs.ByKind.{kind_order, all_pairs}
use Rattle.assign_search.specs.Fixed.{serial_of, reqs_of, fixed_of, answer_of}
use Rattle.assign_search.specs.Walking.{held_in}
use Rattle.assign_search.proofs.Fixing.{few_in, all_fixed}
use Rattle.assign_search.proofs.SameAnswers.{answer_same}
use Rattle.assign_search.proofs.problem.answer_beside.Goals as goal

then_ok : {A E : Type 0} (r : Result A E) {P Q : A → Type 0} → ((x : A) → P x → Q x) → IfOk r P → IfOk r Q
then_ok (Ok x) f p = f x p
then_ok (Err e) f p = tt

pub search-requires : goal.search-requires
search-requires c =
    let all = few_in c.args.arbiters.now c.requires.few kind_order in
    let most = c.requires.budget in
    omega arith

pub returns-clause-answer : goal.returns-clause-answer
returns-clause-answer c =
    then_ok c.search.result (λ found is.
    answer_same (held_in c.args.arbiters.now) (fixed_of (map serial_of c.args.movers.now) (all_pairs c.args.arbiters.now))
    (all_fixed (map serial_of c.args.movers.now) (map serial_of c.args.movers.now) (IsPermutation-refl (map serial_of c.args.movers.now)) (all_pairs c.args.arbiters.now) c.requires.none)
    (map reqs_of c.args.movers.now) c.args.budget (answer_of found) is) c.search.ensures.answer
