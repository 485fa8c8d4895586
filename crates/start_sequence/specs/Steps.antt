-- One step of a start, as the machine has it.
use Rattle.std.specs.Prelude.{◌≡◌, ℕ, Bool, true, false, List, Option, Some, None, drop, slice_get}
use Rattle.resource_reqs.specs.Spelling.{IsAnswer}
use Rattle.pnp_labels.specs.declared.states.Problem.{Problem}
use Rattle.pnp_labels.specs.declared.words.Answer.{Answer}
use Rattle.pnp_labels.specs.declared.words.Answer.TheVariants.{Ok}
use Rattle.pnp_model.specs.Records.{Node, Core, Driver, Phase, Found, Doing}
use Rattle.pnp_model.specs.Records.Phase.{Adding, Due}
use Rattle.pnp_model.specs.Records.Doing.{Does, Searches}
use Rattle.pnp_model.specs.Cores.{node_at, set_rack, forget}
use Rattle.pnp_model.specs.Starts.{StartMove, StartBeside, act, adding}
use Rattle.devnode_tree.specs.Cores.{at_nodes}
use Rattle.trial_journal.specs.ByKind.{Arbiters}
use Rattle.device_holdings.specs.Mirrors.{Mirrors}
use Rattle.start_sequence.specs.declared.next.StartStep.{StartStep}
use Rattle.start_sequence.specs.declared.next.StartStep.TheVariants as steps

-- what is printed and what is there then are those of the move, and the step tells what is to be done beside it; where the
-- start goes on, its phase is that of the move
abbrev pub Moved : StartMove → StartStep → Core → Phase → Type 0
Moved m (steps.Did label) core phase =
    (m.beside ≡ StartBeside.On) × (label ≡ m.label) × (core ≡ m.core) × (phase ≡ m.frame)
Moved m (steps.Needs label) core phase = (m.beside ≡ StartBeside.Needs) × (label ≡ m.label) × (core ≡ m.core)
Moved m (steps.Up label) core phase = (m.beside ≡ StartBeside.Up) × (label ≡ m.label) × (core ≡ m.core)
Moved m (steps.Over label) core phase = (m.beside ≡ StartBeside.Over) × (label ≡ m.label) × (core ≡ m.core)

-- where it searches, by what is the answer for this budget
abbrev pub Done : ℕ → Doing StartMove → StartStep → Core → Phase → Type 0
Done budget (Does m) step core phase = Moved m step core phase
Done budget (Searches problem by_answer) step core phase =
    (found : Found) × IsAnswer problem.fixed problem.movers budget found × Moved (by_answer found) step core phase

-- of a device that has no relations
abbrev pub DoneFor : ℕ → Option Node → Core → Phase → StartStep → Core → Phase → Type 0
DoneFor budget None c phase step c' phase' = ⊥
DoneFor budget (Some node) c phase step c' phase' =
    forget node.serial c.relations ≡ c.relations → Done budget (act c node phase) step c' phase'

-- the step of the start of device k, for this budget and whatever else there is, where these arbiters mirror what is reserved
abbrev pub Acts : ℕ → Arbiters → ℕ → List Node → List Driver → Phase → StartStep → List Node → List Driver → Phase → Type 0
Acts budget arbiters k nodes rack phase step nodes' rack' phase' =
    (around : Core) → Mirrors around.reserved nodes arbiters
    → DoneFor budget (node_at k nodes) (at_nodes nodes (set_rack rack around)) phase step (at_nodes nodes' (set_rack rack' around)) phase'

-- the driver that is to be asked next to add the device
abbrev pub first_pending : Phase → Option ℕ
first_pending (Adding drivers) = slice_get drivers 0
first_pending phase = None

-- the phase after a driver was asked to add the device
abbrev pub phase_added : Phase → Bool → Phase
phase_added (Adding drivers) true = adding (drop 1 drivers)
phase_added phase true = phase
phase_added phase false = Due Problem.FailedAdd

abbrev pub is_ok : Answer → Bool
is_ok Ok = true
is_ok _ = false
