-- How many steps follow before a machine rests that is left alone: one number for each state, which falls by one with each step of a run.
use Rattle.std.proofs.Common.{ℕ, suc, ◌<◌, ◌≡◌, Option, Some, None, List, refl, sym, ap, ◌∙◌, subst, arith}
use mathlib.Core.WellFounded.{fix, fix-eq}
use Rattle.pnp_model.specs.Records.{State, Step, Settings, Doing, Driver}
use Rattle.pnp_model.specs.Records.Doing.{Does, Searches}
use Rattle.pnp_labels.specs.declared.label.Label.{Label}
use Rattle.pnp_model.proofs.Determined.{one_state}
use Rattle.pnp_laws.specs.StepsLeft.{CountsSteps, StepsAreCountedLaw}
use Rattle.pnp_laws.specs.Reached.{IsReached}
use Rattle.pnp_laws.proofs.AnswerThere.{answer_some}
use Rattle.pnp_laws.proofs.Falling.{dec_lowest, falls_end}
use Rattle.pnp_laws.proofs.RunsEnd.{Lowest, lowest_step}
use Rattle.pnp_laws.proofs.RunsStand.{Kept, reaches_kept}
use Rattle.pnp_laws.proofs.Joins.{Born}
use Rattle.pnp_laws.proofs.JoinMachine.{reaches_born}
use Rattle.pnp_model.specs.Machine as ma

-- the step that is done; a search has an answer
step_of : Settings → Doing Step → Step
step_of settings (Does step) = step
step_of settings (Searches problem by_answer) = by_answer (answer_some problem.fixed problem.movers settings.budget).0

state_after : Settings → Option (Doing Step) → Option State
state_after settings None = None
state_after settings (Some doing) = Some (step_of settings doing).state

-- one more than after the next step, where the numbers fall with it, as they do in runs
abbrev one_more : (s : State) → ((t : State) → Lowest t s → ℕ) → Option State → ℕ
one_more s left None = 0
one_more s left (Some t) = elim (dec_lowest t s) as (λ _. ℕ) [ yes lower ↦ suc (left t lower) | no other ↦ 0 ]

pub steps_left : Settings → State → ℕ
steps_left settings = fix {r = Lowest} {C = λ (_ : State). ℕ} falls_end (λ s left. one_more s left (state_after settings (ma.next settings s)))

left_is : (settings : Settings) (s : State) → steps_left settings s ≡ one_more s (λ t lower. steps_left settings t) (state_after settings (ma.next settings s))
unfolding steps_left
left_is settings s = fix-eq {r = Lowest} {C = λ (_ : State). ℕ} falls_end (λ s left. one_more s left (state_after settings (ma.next settings s))) s

pub none_left : (settings : Settings) (s : State) → ma.IsQuiet settings s → steps_left settings s ≡ 0
unfolding state_after
none_left settings s quiet = left_is settings s ∙ ap (λ (o : Option (Doing Step)). one_more s (λ t lower. steps_left settings t) (state_after settings o)) quiet

-- what is computed is a step
done_is : (settings : Settings) (doing : Doing Step) → ma.IsStep settings (Some doing) (step_of settings doing)
unfolding step_of
done_is settings (Does step) = refl
done_is settings (Searches problem by_answer) = let found = answer_some problem.fixed problem.movers settings.budget in (found.0, found.1, refl)

-- and so it is the step
after_is : (settings : Settings) (s t : State) (label : Label) → ma.Steps settings s label t → state_after settings (ma.next settings s) ≡ Some t
unfolding state_after
after_is settings s t label steps = by_next (ma.next settings s) refl
  where
    by_next : (o : Option (Doing Step)) → ma.next settings s ≡ o → state_after settings o ≡ Some t
    by_next None e = absurd (subst (λ (o : Option (Doing Step)). ma.IsStep settings o (record { label = label; state = t })) e steps)
    by_next (Some doing) e =
        let step = step_of settings doing in
        let goes : ma.Steps settings s step.label step.state = subst (λ (o : Option (Doing Step)). ma.IsStep settings o step) (sym e) (done_is settings doing) in
        ap (λ (x : State). Some x) (one_state settings s step.label label step.state t goes steps)

one_less : (settings : Settings) (s t : State) (label : Label) → Kept s → Born s → ma.Steps settings s label t → steps_left settings s ≡ suc (steps_left settings t)
one_less settings s t label kept born steps =
    left_is settings s ∙ ap (one_more s (λ t lower. steps_left settings t)) (after_is settings s t label steps) ∙ by_test (dec_lowest t s)
  where
    by_test : (d : Dec (Lowest t s)) → (elim d as (λ _. ℕ) [ yes lower ↦ suc (steps_left settings t) | no other ↦ 0 ]) ≡ suc (steps_left settings t)
    by_test (yes lower) = refl
    by_test (no other) = absurd (other (lowest_step settings s t label kept born steps))

pub one_left_less : (settings : Settings) (rack : List Driver) (s t : State) (label : Label) → IsReached settings rack s → ma.Steps settings s label t → steps_left settings s ≡ suc (steps_left settings t)
one_left_less settings rack s t label (entries, run) steps = one_less settings s t label (reaches_kept settings rack entries s run) (reaches_born settings rack entries s run) steps

-- so it bounds a loop of steps
pub left_falls : (settings : Settings) (rack : List Driver) (s t : State) (label : Label) → IsReached settings rack s → ma.Steps settings s label t → steps_left settings t < steps_left settings s
left_falls settings rack s t label reached steps = let e = one_left_less settings rack s t label reached steps in omega arith

pub steps_are_counted : StepsAreCountedLaw
steps_are_counted settings = (steps_left settings, counts)
  where
    counts : CountsSteps settings (steps_left settings)
    counts rack entries s run = (none_left settings s, λ label t steps. one_left_less settings rack s t label (entries, run) steps)
