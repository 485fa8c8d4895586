-- Whole runs, and what they print.
use Rattle.std.specs.Prelude.{ℕ, zero, suc, ◌≡◌, List, [], ◌∷◌, ◌++◌, Some, None, codes}
use Rattle.pnp_model.specs.Machine.{next, Steps, IsQuiet, IsDeclined}
use Rattle.pnp_model.specs.Events.{happens}
use Rattle.pnp_model.specs.Records.{Device, Node, Driver, State, Settings, Found, SearchProblem}
use Rattle.pnp_model.specs.Records.Doing.{Does, Searches}
use Rattle.pnp_labels.specs.Texts.{Text}
use Rattle.pnp_labels.specs.declared.states.DevState.{DevState}
use Rattle.pnp_labels.specs.declared.event.Event.{Event}
use Rattle.pnp_labels.specs.declared.label.Label.{Label}

-- what happens from outside, what the machine does, and that a client declines what is due
pub data Entry : Type 0 where
  Happens : (event : Event) (label : Label) → Entry
  Did : (label : Label) → Entry
  Declines : (label : Label) → Entry

-- events come at quiet states only
abbrev pub Goes : Settings → State → Entry → State → Type 0
Goes settings old (Happens event label) new =
    IsQuiet settings old × (happens old event ≡ record { label = label; state = new })
Goes settings old (Did label) new = Steps settings old label new
Goes settings old (Declines label) new = IsDeclined old label new

-- the entries lead from old to new, one after another
abbrev pub Run : Settings → State → List Entry → State → Type 0
Run settings old [] new = new ≡ old
Run settings old (entry ∷ rest) new = (mid : State) × Goes settings old entry mid × Run settings mid rest new

abbrev pub printed : Entry → Label
printed (Happens event label) = label
printed (Did label) = label
printed (Declines label) = label

abbrev pub root_path : Text
root_path = codes "HTREE\\ROOT\\0"

abbrev pub root_device : Device
root_device = record { born = 0; parent = 0; path = root_path; hw = []; compat = []; reqs = [] }

abbrev pub root_node : Node
root_node =
    record {
      serial = 0;
      parent = 0;
      born = 0;
      path = root_path;
      hw = [];
      compat = [];
      reqs = [];
      state = DevState.Started;
      problem = None;
      stack = [];
      holds = [];
    }

-- the root alone, in world and nodes
abbrev pub opening : List Driver → State
opening rack =
    record {
      world = root_device ∷ [];
      next_born = 1;
      core = record { nodes = root_node ∷ []; relations = []; rack = rack; reserved = [] };
      next_serial = 1;
      disabled = [];
      activities = [];
      operation = None;
      tasks = [];
      windows = [];
      handles = [];
    }

-- A run that computes, where the answers of its searches are given in their order ------------------

-- labels, the problems that were searched, the state after them, and the answers that are left
pub record Trace : Type 0 where
  pub labels : List Label
  pub problems : List SearchProblem
  pub state : State
  pub answers : List Found

abbrev pub at_rest : State → List Found → Trace
at_rest s answers = record { labels = []; problems = []; state = s; answers = answers }

abbrev pub labelled : Label → Trace → Trace
labelled label t = record t { labels = label ∷ t.labels }

abbrev pub searched : SearchProblem → Trace → Trace
searched problem t = record t { problems = problem ∷ t.problems }

-- at most n steps
abbrev pub settled : Settings → ℕ → State → List Found → Trace
settled settings zero s answers = at_rest s answers
settled settings (suc n) s answers =
    elim (next settings s) as (λ _. Trace) [
      | None ↦ at_rest s answers
      | Some doing ↦
          elim doing as (λ _. Trace) [
            | Does step ↦ labelled step.label (settled settings n step.state answers)
            | Searches problem by_answer ↦
                elim answers as (λ _. Trace) [
                  | [] ↦ at_rest s []
                  | found ∷ more ↦ searched problem (labelled (by_answer found).label (settled settings n (by_answer found).state more))
                ]
          ]
    ]

abbrev pub followed : Trace → Trace → Trace
followed first t = record t { labels = first.labels ++ t.labels; problems = first.problems ++ t.problems }

-- the events, each at a quiet state, with at most n steps after each
abbrev pub traced : Settings → ℕ → State → List Found → List Event → Trace
traced settings n s answers [] = at_rest s answers
traced settings n s answers (event ∷ events) =
    let t = settled settings n (happens s event).state answers in
    labelled (happens s event).label (followed t (traced settings n t.state t.answers events))
