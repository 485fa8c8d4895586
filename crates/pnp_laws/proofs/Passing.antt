-- What holds of all that a search may answer holds of the step.
use Rattle.std.proofs.Common.{ℕ, Option, Some, None, sym, subst}
use Rattle.resource_reqs.specs.Spelling.{IsAnswer}
use Rattle.pnp_model.specs.Machine.{IsStep}
use Rattle.pnp_model.specs.Records.{Doing, Found, Settings, Step}
use Rattle.pnp_model.specs.Records.Doing.{Does, Searches}

abbrev pub AllBy : ℕ → (P : Step → Type 0) → Doing Step → Type 0
AllBy budget P (Does step) = P step
AllBy budget P (Searches problem by_answer) = (found : Found) → IsAnswer problem.fixed problem.movers budget found → P (by_answer found)

abbrev pub AllNext : ℕ → (P : Step → Type 0) → Option (Doing Step) → Type 0
AllNext budget P None = Unit {0}
AllNext budget P (Some doing) = AllBy budget P doing

pub all_step : (P : Step → Type 0) (settings : Settings) (o : Option (Doing Step)) (step : Step) → AllNext settings.budget P o → IsStep settings o step → P step
all_step P settings None step h is = absurd is
all_step P settings (Some (Does one)) step h is = subst P (sym is) h
all_step P settings (Some (Searches problem by_answer)) step h is = subst P (sym is.2) (h is.0 is.1)

-- what follows from it holds of them as well
pub all_by : (P Q : Step → Type 0) (budget : ℕ) (o : Option (Doing Step)) → ((step : Step) → P step → Q step) → AllNext budget P o → AllNext budget Q o
all_by P Q budget None f h = tt
all_by P Q budget (Some (Does step)) f h = f step h
all_by P Q budget (Some (Searches problem by_answer)) f h = λ found answer. f (by_answer found) (h found answer)
