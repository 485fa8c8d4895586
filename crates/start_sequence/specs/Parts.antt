-- The parts of a step of a start.
use Rattle.std.specs.Prelude.{◌≡◌, ℕ, Bool, true, false, List, [], ◌∷◌, ◌++◌, Option, Some, None, length}
use Rattle.pnp_labels.specs.declared.label.Label.{Label}
use Rattle.pnp_labels.specs.declared.states.Problem.{Problem}
use Rattle.pnp_labels.specs.declared.words.AskWhat.{AskWhat}
use Rattle.pnp_model.specs.Records.{Node, Core, Driver, Walk, Phase}
use Rattle.pnp_model.specs.Records.Phase.{Starting, Removing, Due}
use Rattle.pnp_model.specs.Books.{name_of, rack_reply, rack_after}
use Rattle.pnp_model.specs.Walks.{has_ended}
use Rattle.pnp_model.specs.Cores.{is_node, forget, stacked, with_stack, with_problem}
use Rattle.pnp_model.specs.Keyed.{changed_first}
use Rattle.pnp_model.specs.Records.Doing.{Searches}
use Rattle.pnp_model.specs.Starts.{StartMove, StartBeside, start_on, remove_on, own_problem, searched}
use Rattle.start_sequence.specs.Steps.{is_ok, Done}
use Rattle.start_sequence.specs.declared.next.StartStep.{StartStep}
use Rattle.start_sequence.specs.declared.next.Started.{Started}
use Rattle.start_sequence.specs.declared.next.Started.TheVariants as starts
use Rattle.start_sequence.specs.declared.next.Removed.{Removed}
use Rattle.start_sequence.specs.declared.next.Removed.TheVariants as removes

-- the nodes after the driver was added on top, or was not
abbrev pub nodes_added : Node → ℕ → Bool → List Node → List Node
nodes_added node driver true nodes =
    changed_first (is_node node.serial) (with_stack (node.stack ++ driver ∷ []) (stacked node.state)) nodes
nodes_added node driver false nodes = nodes

-- the driver was asked to add the device
abbrev pub AddedFor : Option Node → ℕ → List Node → List Driver → Label → Bool → List Node → List Driver → Type 0
AddedFor None driver nodes rack label ok nodes' rack' = ⊥
AddedFor (Some node) driver nodes rack label ok nodes' rack' =
    (ok ≡ is_ok (rack_reply AskWhat.Add node.path rack driver)) × (label ≡ Label.Add node.path (name_of rack driver) ok)
    × (nodes' ≡ nodes_added node driver ok nodes) × (rack' ≡ rack_after AskWhat.Add node.path rack driver)

-- the request that starts the device went on, or ended
abbrev pub Starts : StartMove → Started → Core → Walk → Type 0
Starts m (starts.On label) core w = (m.beside ≡ StartBeside.On) × (label ≡ m.label) × (core ≡ m.core) × (m.frame ≡ Starting w)
Starts m (starts.Refused label) core w = (m.beside ≡ StartBeside.On) × (label ≡ m.label) × (core ≡ m.core) × (m.frame ≡ Due Problem.FailedStart)
Starts m (starts.Up label) core w = (m.beside ≡ StartBeside.Up) × (label ≡ m.label) × (core ≡ m.core)

abbrev pub StartsFor : Option Node → Core → Walk → Started → Core → Walk → Type 0
StartsFor None c w went c' w' = ⊥
StartsFor (Some node) c w went c' w' = Starts (start_on c node w (has_ended w (length node.stack))) went c' w'

-- the request that removes the drivers went on, or ended
abbrev pub Removes : StartMove → Removed → Core → Walk → Type 0
Removes m (removes.On label) core w = (m.beside ≡ StartBeside.On) × (label ≡ m.label) × (core ≡ m.core) × (m.frame ≡ Removing w)
Removes m (removes.Over label) core w = (m.beside ≡ StartBeside.Over) × (label ≡ m.label) × (core ≡ m.core)

abbrev pub RemovesFor : Option Node → Core → Walk → Removed → Core → Walk → Type 0
RemovesFor None c w went c' w' = ⊥
RemovesFor (Some node) c w went c' w' =
    forget node.serial c.relations ≡ c.relations → Removes (remove_on c node w (has_ended w (length node.stack))) went c' w'

-- the search for the resources of the device was answered, for this budget
abbrev pub SearchedFor : ℕ → Option Node → Core → StartStep → Core → Phase → Type 0
SearchedFor budget None c step c' phase' = ⊥
SearchedFor budget (Some node) c step c' phase' = Done budget (Searches (own_problem c node) (searched c node)) step c' phase'

abbrev pub is_full : {A : Type 0} → List A → Bool
is_full [] = false
is_full (x ∷ xs) = true

-- the device got a problem, and whether it has drivers is told
abbrev pub TroubledFor : Option Node → Problem → List Node → Label → Bool → List Node → Type 0
TroubledFor None problem nodes label has_drivers nodes' = ⊥
TroubledFor (Some node) problem nodes label has_drivers nodes' =
    (label ≡ Label.Trouble node.path problem) × (has_drivers ≡ is_full node.stack)
    × (nodes' ≡ changed_first (is_node node.serial) (with_problem (Some problem)) nodes)
