-- The starts of devices in order of serial, and the index of those that can go on.
use Rattle.std.specs.Prelude.{◌≡◌, ℕ, ◌+◌, ◌≤◌, Bool, true, false, not, List, Option, Some, None, map, option_map, find, Vec, vec_len, vec_capacity}
use Rattle.std.specs.declared.alloc.Global.{Global}
use Rattle.pnp_labels.specs.declared.words.Minor.{Minor}
use Rattle.pnp_model.specs.Keyed.{changed_first, without_first, those}
use Rattle.pnp_model.specs.Records.{Activity, Driver, Phase}
use Rattle.pnp_model.specs.States.{is_activity, with_phase}
use Rattle.pnp_model.specs.Machine.{is_ready, phase_walk}
use Rattle.pnp_model.specs.Events.{waits_for, completed_phase, answer_of}
use Rattle.pnp_laws.specs.Kept.{InOrder}
use Rattle.pnp_machine.specs.Devices.{Devices}
use Rattle.pnp_machine.specs.Doings.{Acts}
use Rattle.start_sequence.specs.declared.next.StartStep.{StartStep}
use Rattle.start_sequence.specs.declared.next.StartStep.TheVariants.{Did, Needs, Up, Over}

-- and for how many more there is room
pub record Starts : Type 0 where
  pub works : List Activity
  pub room : ℕ

abbrev pub serials_of : List Activity → List ℕ
serials_of works = map (λ a. a.serial) works

-- the serials of those that do not wait
abbrev pub ready_serials : List Activity → List ℕ
ready_serials works = serials_of (those is_ready works)

-- the lowest of them
abbrev pub first_ready : List Activity → Option ℕ
first_ready works = option_map (λ a. a.serial) (find is_ready works)

-- the index is that of the starts, and there is room for more in both
pub record IsIndexed (works : Vec Activity Global) (ready : Vec ℕ Global) (room : ℕ) : Type 0 where
  pub order : InOrder 0 works.items
  pub index : ready.items ≡ ready_serials works.items
  pub works_room : vec_len works + room ≤ vec_capacity works
  pub ready_room : vec_len works + room ≤ vec_capacity ready

-- whether a start is over with a step
abbrev pub is_over : StartStep → Bool
is_over (Did label) = false
is_over (Needs label) = true
is_over (Up label) = true
is_over (Over label) = true

-- whether a start is no longer among those that do not wait
abbrev pub leaves : Bool → Activity → Bool
leaves true a = true
leaves false a = not (is_ready a)

-- the starts after a step of one: it goes on in a phase, or is over
abbrev pub works_after : StartStep → ℕ → Phase → List Activity → List Activity
works_after (Did label) k phase works = changed_first (is_activity k) (with_phase phase) works
works_after (Needs label) k phase works = without_first (is_activity k) works
works_after (Up label) k phase works = without_first (is_activity k) works
works_after (Over label) k phase works = without_first (is_activity k) works

-- the next step of a start was done, for this budget
abbrev pub ActsBy : ℕ → Activity → List Activity → Devices → List Driver → StartStep → List Activity → Devices → List Driver → Type 0
ActsBy budget a works ds rack step works' ds' rack' =
    (phase : Phase) × Acts budget ds a.serial rack a.phase step ds' rack' phase × (works' ≡ works_after step a.serial phase works)

abbrev pub ActsFor : ℕ → Option Activity → List Activity → Devices → List Driver → StartStep → List Activity → Devices → List Driver → Type 0
ActsFor budget None works ds rack step works' ds' rack' = ⊥
ActsFor budget (Some a) works ds rack step works' ds' rack' = ActsBy budget a works ds rack step works' ds' rack'

-- where a request of the minor waits it got its answer, else nothing changed
abbrev pub CompletesIf : Bool → Activity → Bool → Bool → List Activity → List Activity → Type 0
CompletesIf true a ok done works works' =
    (done ≡ true) × (works' ≡ changed_first (is_activity a.serial) (with_phase (completed_phase (answer_of ok) a.phase)) works)
CompletesIf false a ok done works works' = (done ≡ false) × (works' ≡ works)

abbrev pub CompletesFor : Option Activity → Minor → Bool → Bool → List Activity → List Activity → Type 0
CompletesFor None minor ok done works works' = (done ≡ false) × (works' ≡ works)
CompletesFor (Some a) minor ok done works works' = CompletesIf (waits_for minor (phase_walk a.phase)) a ok done works works'
