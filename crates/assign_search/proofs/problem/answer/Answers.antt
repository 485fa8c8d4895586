use Rattle.std.proofs.Common.{false, ap, ap₂, length, map, sym, subst, arith, Result, Ok, Err, IfOk, ◌≡◌, ◌∙◌}
use Rattle.std.specs.Prelude.{IsPermutation}
use Rattle.trial_journal.specs.ByKind.{kind_order, all_pairs}
use Rattle.assign_search.specs.Fixed.{serial_of, reqs_of, fixed_pairs, has_moving, fixed_of, answer_of}
use Rattle.assign_search.specs.Walking.{held_in}
use Rattle.assign_search.proofs.Fixing.{few_in, same_res, all_fixed, fixed_same}
use Rattle.assign_search.proofs.SameAnswers.{answer_same}
use Rattle.assign_search.proofs.problem.answer.Goals as goal

then_ok : {A E : Type 0} (r : Result A E) {P Q : A → Type 0} → ((x : A) → P x → Q x) → IfOk r P → IfOk r Q
then_ok (Ok x) f p = f x p
then_ok (Err e) f p = tt

pub search-requires : goal.search-requires
search-requires c =
    let all = few_in c.args.arbiters.now c.requires.few kind_order in
    let most = c.requires.budget in
    omega arith

pub fixed_board-requires-clause-few : goal.fixed_board-requires-clause-few
fixed_board-requires-clause-few c =
    let all = few_in c.args.arbiters.now c.requires.few kind_order in
    let same : length c.deref-pairs.result.now ≡ length (all_pairs c.args.arbiters.now) = ap length (c.deref-pairs.ensures.value ∙ c.in_ok-held.ensures) in
    omega arith

pub search_on-requires : goal.search_on-requires
search_on-requires c =
    let all = few_in c.args.arbiters.now c.requires.few kind_order in
    let same : length c.deref-pairs.result.now ≡ length (all_pairs c.args.arbiters.now) = ap length (c.deref-pairs.ensures.value ∙ c.in_ok-held.ensures) in
    let few = c.in_ok-board.ensures.few in
    let most = c.requires.budget in
    omega arith

pub returns-then-not-has_moving-clause-answer : goal.returns-then-not-has_moving-clause-answer
returns-then-not-has_moving-clause-answer c =
    let held : c.deref-pairs.result.now ≡ all_pairs c.args.arbiters.now = c.deref-pairs.ensures.value ∙ c.in_ok-held.ensures in
    let none : has_moving c.in_ok-ascending.ascending.items (all_pairs c.args.arbiters.now) ≡ false =
    ap₂ has_moving (sym c.deref-serials.ensures.value) (sym held) ∙ sym c.has_moving.ensures ∙ c.if-not-has_moving.true in
    then_ok c.search.result (λ found is.
    answer_same (held_in c.args.arbiters.now) (fixed_of (map serial_of c.args.movers.now) (all_pairs c.args.arbiters.now))
    (all_fixed (map serial_of c.args.movers.now) c.in_ok-ascending.ascending.items c.in_ok-ascending.ensures.same (all_pairs c.args.arbiters.now) none)
    (map reqs_of c.args.movers.now) c.args.budget (answer_of found) is) c.search.ensures.answer

pub returns-clause-answer : goal.returns-clause-answer
returns-clause-answer c =
    let held : c.deref-pairs.result.now ≡ all_pairs c.args.arbiters.now = c.deref-pairs.ensures.value ∙ c.in_ok-held.ensures in
    let same : fixed_pairs c.deref-serials.result.now c.deref-pairs.result.now ≡ fixed_pairs (map serial_of c.args.movers.now) (all_pairs c.args.arbiters.now) =
    ap₂ fixed_pairs c.deref-serials.ensures.value held
    ∙ sym (fixed_same (map serial_of c.args.movers.now) c.in_ok-ascending.ascending.items c.in_ok-ascending.ensures.same (all_pairs c.args.arbiters.now)) in
    then_ok c.search_on.result (λ found is.
    answer_same (held_in c.in_ok-board.board) (fixed_of (map serial_of c.args.movers.now) (all_pairs c.args.arbiters.now))
    (same_res (fixed_pairs (map serial_of c.args.movers.now) (all_pairs c.args.arbiters.now)) (all_pairs c.in_ok-board.board)
    (subst (λ l. IsPermutation l (all_pairs c.in_ok-board.board)) same c.in_ok-board.ensures.fixed))
    (map reqs_of c.args.movers.now) c.args.budget (answer_of found) is) c.search_on.ensures
