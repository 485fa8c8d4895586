-- The choice of drivers for a device, and the begin of its start.
use Rattle.std.specs.Prelude.{◌≡◌, ◌≤◌, ℕ, Bool, true, false, List, ◌∷◌, ◌++◌, Option, Some, None, option_map, length}
use Rattle.inf_reader.specs.declared.parts.Inf.{Inf}
use Rattle.pnp_labels.specs.Texts.{Text}
use Rattle.pnp_labels.specs.declared.label.Label.{Label}
use Rattle.pnp_model.specs.Records as Records
use Rattle.pnp_model.specs.Records.{Node, Core, Driver, State, Step, Settings, Activity}
use Rattle.pnp_model.specs.States.{with_core, drop_task, begin_activity}
use Rattle.pnp_model.specs.Tasks.{begin_trouble, install, install_service, start_enabled}
use Rattle.driver_rank.specs.Best.{best}
use Rattle.driver_rank.specs.declared.choice.Choice.{Choice}
use Rattle.start_sequence.specs.declared.begin.Chosen.{Chosen}
use Rattle.start_sequence.specs.declared.begin.Chosen.TheVariants.{Trouble, Drivers}

-- the choice as the machine has it
abbrev pub choice_of : Choice → Records.Choice
choice_of c = record { rank = c.rank; lower = c.lower; service = c.service; upper = c.upper }

abbrev pub best_of : List Inf → List Text → List Text → Option Records.Choice
best_of infs hw compat = option_map choice_of (best infs hw compat)

-- what stays the same in a run with these INFs and this budget
abbrev pub settings_of : List Inf → ℕ → Settings
settings_of infs budget = record { best = best_of infs; budget = budget }

-- the numbers were appended, where all names have namesakes
abbrev pub AppendedBy : Option (List ℕ) → Bool → List ℕ → List ℕ → Type 0
AppendedBy (Some numbers) true old new = new ≡ old ++ numbers
AppendedBy None false old new = Unit {0}
AppendedBy (Some numbers) false old new = ⊥
AppendedBy None true old new = ⊥

-- the numbers of the filters with that of the function driver between them
abbrev pub between : Option (List ℕ) → Option ℕ → Option (List ℕ) → Option (List ℕ)
between (Some lower) (Some driver) (Some upper) = Some (lower ++ driver ∷ upper)
between (Some lower) (Some driver) None = None
between (Some lower) None upper = None
between None driver upper = None

-- all these were appended, and the function driver is told, where all have namesakes
abbrev pub AppendedLine : Option (List ℕ) → Option ℕ → Option (List ℕ) → (told : Option ℕ) → List ℕ → List ℕ → Type 0
AppendedLine lower driver upper (Some told) old new = (driver ≡ Some told) × AppendedBy (between lower driver upper) true old new
AppendedLine lower driver upper None old new = AppendedBy (between lower driver upper) false old new

-- the step by what was chosen; `drivers` as the machine keeps them
abbrev pub step_of : State → Node → Chosen → Step
step_of s node (Trouble problem) = begin_trouble s node problem
step_of s node (Drivers rank driver drivers) = install s node rank driver drivers

-- by the choice
abbrev pub ChosenBy : List Driver → Choice → Chosen → Type 0
ChosenBy rack choice chosen =
    (s : State) (node : Node) → s.core.rack ≡ rack → install_service s node (choice_of choice) choice.service ≡ step_of s node chosen

-- the state after it: with these nodes, without the first task, and with the start, if there is one
abbrev pub with_start : Option Activity → State → State
with_start None s = s
with_start (Some a) s = begin_activity a.serial a.phase s

abbrev pub begun : State → Option Activity → List Node → State
begun s work nodes = with_start work (with_core (record s.core { nodes = nodes }) (drop_task s))

-- at most 64 hardware IDs and 64 compatible ones
abbrev pub HasFewIds : Option Node → Type 0
HasFewIds None = Unit {0}
HasFewIds (Some node) = (length node.hw ≤ 64) × (length node.compat ≤ 64)

abbrev pub BegunFor : Settings → State → Option Node → Bool → Label → Option Activity → List Node → Type 0
BegunFor settings s None disabled label work nodes = ⊥
BegunFor settings s (Some node) disabled label work nodes =
    start_enabled settings s node disabled ≡ record { label = label; state = begun s work nodes }
