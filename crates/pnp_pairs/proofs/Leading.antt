-- Steps alone lead from one state to another.
use Rattle.std.proofs.Common.{◌≡◌, List, [], ◌∷◌, ◌++◌, Option, Some, refl, sym, subst}
use Rattle.resource_reqs.specs.Spelling.{IsAnswer}
use Rattle.pnp_model.specs.Machine.{IsStep, next}
use Rattle.pnp_model.specs.Records.{Doing, Found, SearchProblem, Settings, State, Step}
use Rattle.pnp_model.specs.Records.Doing.{Does, Searches}
use Rattle.pnp_model.specs.Runs.{Entry, Run}
use Rattle.pnp_model.specs.Runs.Entry.{Happens, Did, Declines}
use Rattle.pnp_laws.proofs.Reaching.{run_on}

-- all of them are steps
abbrev pub OnlySteps : List Entry → Type 0
OnlySteps [] = Unit {0}
OnlySteps (Happens event label ∷ rest) = ⊥
OnlySteps (Did label ∷ rest) = OnlySteps rest
OnlySteps (Declines label ∷ rest) = ⊥

pub record Leads (settings : Settings) (s t : State) : Type 0 where
  pub entries : List Entry
  pub steps : OnlySteps entries
  pub run : Run settings s entries t

pub stays : (settings : Settings) (s : State) → Leads settings s s
stays settings s = record { entries = []; steps = tt; run = refl }

-- a step that is next, and what follows
pub steps_on : (settings : Settings) (s t : State) (x : Step) → next settings s ≡ Some (Does x) → Leads settings x.state t → Leads settings s t
steps_on settings s t x is more =
    record {
      entries = Did x.label ∷ more.entries;
      steps = more.steps;
      run = (x.state, subst (λ (o : Option (Doing Step)). IsStep settings o x) (sym is) refl, more.run);
    }

-- a search that is next, its answer, and what follows
pub searches_on : (settings : Settings) (s t : State) (problem : SearchProblem) (by_answer : Found → Step) (found : Found) → next settings s ≡ Some (Searches problem by_answer)
    → IsAnswer problem.fixed problem.movers settings.budget found → Leads settings (by_answer found).state t → Leads settings s t
searches_on settings s t problem by_answer found is answer more =
    record {
      entries = Did (by_answer found).label ∷ more.entries;
      steps = more.steps;
      run = ((by_answer found).state, subst (λ (o : Option (Doing Step)). IsStep settings o (by_answer found)) (sym is) (found, answer, refl), more.run);
    }

only_on : (xs ys : List Entry) → OnlySteps xs → OnlySteps ys → OnlySteps (xs ++ ys)
only_on [] ys a b = b
only_on (Happens event label ∷ xs) ys a b = absurd a
only_on (Did label ∷ xs) ys a b = only_on xs ys a b
only_on (Declines label ∷ xs) ys a b = absurd a

pub leads_on : (settings : Settings) (a b c : State) → Leads settings a b → Leads settings b c → Leads settings a c
leads_on settings a b c one two =
    record { entries = one.entries ++ two.entries; steps = only_on one.entries two.entries one.steps two.steps; run = run_on settings a b c one.entries two.entries one.run two.run }
