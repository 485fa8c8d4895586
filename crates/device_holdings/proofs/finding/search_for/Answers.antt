use Rattle.std.proofs.Common.{◌≡◌, ◌≤◌, ◌^◌, ℕ, List, length, map, ap, ◌∙◌, subst, Result, IfOk}
use Rattle.trial_journal.specs.ByKind.{Arbiters, all_pairs}
use Rattle.resource_reqs.specs.Spelling.{IsAnswer}
use Rattle.assign_search.specs.declared.mover.Mover.{Mover}
use Rattle.assign_search.specs.declared.plan.Found.{Found}
use Rattle.assign_search.specs.Fixed as Fixed
use Rattle.trial_journal.proofs.KindsApart.{pairs_at}
use Rattle.pnp_model.specs.Records.{Node}
use Rattle.resource_reqs.specs.Resources.{Reqs}
use Rattle.device_holdings.specs.Answers.{AnswersTo}
use Rattle.device_holdings.proofs.Beside.{answered, then_ok}
use Rattle.device_holdings.proofs.Idling.{none_moving}
use Rattle.device_holdings.proofs.finding.search_for.Goals as goal

pub answer_beside-requires-clause-few : goal.answer_beside-requires-clause-few
answer_beside-requires-clause-few c = λ kind.
    subst (λ l. length l ≤ 2 ^ 29) (pairs_at c.args.arbiters.now kind) (c.requires.mirrored.1.few kind)

pub answer_beside-requires-clause-none : goal.answer_beside-requires-clause-none
answer_beside-requires-clause-none c =
    ap (λ (s : List ℕ). Fixed.has_moving s (all_pairs c.args.arbiters.now)) (ap (map Fixed.serial_of) c.deref.ensures.value ∙ c.in_ok-movers.ensures.serials)
    ∙ none_moving c.args.serials.now c.requires.mirrored.0 c.args.tree.now.nodes c.args.arbiters.now c.requires.mirrored.1 (c.are_idle.ensures c.if-are_idle.true)

pub answer-requires-clause-few : goal.answer-requires-clause-few
answer-requires-clause-few c = λ kind.
    subst (λ l. length l ≤ 2 ^ 29) (pairs_at c.args.arbiters.now kind) (c.requires.mirrored.1.few kind)

-- what an answer for these movers says of these serials
answers_for : {E : Type 0} (r : Result Found E) (movers items : List Mover) (nodes : List Node) (a : Arbiters) (serials : List ℕ) (needs : List Reqs) (budget : ℕ) → movers ≡ items
    → map Fixed.serial_of items ≡ serials → map Fixed.reqs_of items ≡ needs
    → IfOk r (λ found. IsAnswer (Fixed.fixed_of (map Fixed.serial_of movers) (all_pairs a)) (map Fixed.reqs_of movers) budget (Fixed.answer_of found))
    → IfOk r (λ found. AnswersTo needs nodes a serials budget found)
answers_for r movers items nodes a serials needs budget same ks rs =
    let keys : map Fixed.serial_of movers ≡ serials = ap (map Fixed.serial_of) same ∙ ks in
    let asked : map Fixed.reqs_of movers ≡ needs = ap (map Fixed.reqs_of) same ∙ rs in
    then_ok r (λ found is. λ reserved m.
    answered serials needs budget (Fixed.answer_of found) reserved nodes a m
    (subst (λ s. IsAnswer (Fixed.fixed_of s (all_pairs a)) needs budget (Fixed.answer_of found)) keys
    (subst (λ r. IsAnswer (Fixed.fixed_of (map Fixed.serial_of movers) (all_pairs a)) r budget (Fixed.answer_of found)) asked is)))

pub returns-then-are_idle-clause-answers : goal.returns-then-are_idle-clause-answers
returns-then-are_idle-clause-answers c =
    answers_for c.answer_beside.result c.deref.result.now c.in_ok-movers.movers.items c.args.tree.now.nodes c.args.arbiters.now c.args.serials.now _ c.args.budget
    c.deref.ensures.value c.in_ok-movers.ensures.serials c.in_ok-movers.ensures.needs c.answer_beside.ensures.answer

pub returns-clause-answers : goal.returns-clause-answers
returns-clause-answers c =
    answers_for c.answer.result c.deref-2.result.now c.in_ok-movers.movers.items c.args.tree.now.nodes c.args.arbiters.now c.args.serials.now _ c.args.budget
    c.deref-2.ensures.value c.in_ok-movers.ensures.serials c.in_ok-movers.ensures.needs c.answer.ensures.answer
