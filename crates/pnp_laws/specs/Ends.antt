-- That a machine which is left alone comes to rest, and how many nodes join.
use Rattle.std.specs.Prelude.{ℕ, ◌+◌, ◌*◌, ◌≤◌, List, [], ◌∷◌, length}
use Rattle.pnp_model.specs.Records.{Driver, Task, State, Settings, Duty}
use Rattle.pnp_model.specs.Laws.{Reaches}
use Rattle.pnp_model.specs.Runs.{Entry, Run, printed}
use Rattle.pnp_model.specs.Runs.Entry.{Happens, Did, Declines}
use Rattle.pnp_laws.specs.Quiet.{Rests}
use Rattle.pnp_laws.specs.Words.{joined}

-- steps alone, and no event
abbrev pub AllSteps : List Entry → Type 0
AllSteps [] = Unit {0}
AllSteps (Happens event label ∷ rest) = ⊥
AllSteps (Did label ∷ rest) = AllSteps rest
AllSteps (Declines label ∷ rest) = ⊥

-- where nothing happens, the machine comes to rest, and after so many steps at most
pub record Settles (settings : Settings) (s : State) : Type 0 where
  pub bound : ℕ
  pub within : (more : List Entry) (last : State) → AllSteps more → Run settings s more last → length more ≤ bound
  pub steps : List Entry
  pub last : State
  pub alone : AllSteps steps
  pub run : Run settings s steps last
  pub rests : Rests last

-- so it does from each state of a run
abbrev pub ComesToRestLaw : Type 0
ComesToRestLaw =
    (settings : Settings) (rack : List Driver) (entries : List Entry) (s : State) → Reaches settings rack entries s → Settles settings s

-- how often something happened
abbrev pub events : List Entry → ℕ
events [] = 0
events (Happens event label ∷ rest) = 1 + events rest
events (Did label ∷ rest) = events rest
events (Declines label ∷ rest) = events rest

-- how many nodes joined
abbrev pub joins : List Entry → ℕ
joins [] = 0
joins (entry ∷ rest) = joined (printed entry) + joins rest

abbrev pub starts_one : Duty → ℕ
starts_one Duty.Starting = 1
starts_one _ = 0

-- how many `start` tasks wait
abbrev pub waiting_starts : List Task → ℕ
waiting_starts [] = 0
waiting_starts (task ∷ tasks) = starts_one task.kind + waiting_starts tasks

-- in a run at most 4,096 nodes join for each event
abbrev pub JoinsAreLimitedLaw : Type 0
JoinsAreLimitedLaw =
    (settings : Settings) (rack : List Driver) (entries : List Entry) (s : State) → Reaches settings rack entries s → joins entries ≤ 4096 * events entries

-- from each state of a run on, until something happens, at most 4,096 nodes join, and 4,096 more for each `start` task that waits there
abbrev pub FewJoinLaw : Type 0
FewJoinLaw =
    (settings : Settings) (rack : List Driver) (entries : List Entry) (s : State) → Reaches settings rack entries s →
    (more : List Entry) (last : State) → AllSteps more → Run settings s more last → joins more ≤ 4096 * (1 + waiting_starts s.tasks)
