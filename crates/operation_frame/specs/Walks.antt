-- One step of a request of an operation, and its end.
use Rattle.std.specs.Prelude.{◌≡◌, Bool, true, false, List, Option, Some, None, length}
use Rattle.pnp_labels.specs.Texts.{Text}
use Rattle.pnp_labels.specs.declared.words.Minor.{Minor}
use Rattle.pnp_labels.specs.declared.label.Label.{Label}
use Rattle.pnp_model.specs.Keyed.{changed_first}
use Rattle.pnp_model.specs.Records.{Node, Core, Relation, Walk}
use Rattle.pnp_model.specs.Cores.{is_node, with_state}
use Rattle.pnp_model.specs.Walks.{is_bad, has_ended, state_after}
use Rattle.pnp_model.specs.Frames.{asked, state_label, ended}
use Rattle.devnode_tree.specs.Cores.{at_related}
use Rattle.operation_frame.specs.declared.walking.Walked.{Walked}
use Rattle.operation_frame.specs.declared.walking.Walked.TheVariants.{On, Ended}

-- the request, where one is on its way
abbrev pub walk_if : Bool → Walk → Option Walk
walk_if true w = Some w
walk_if false w = None

-- the next driver was asked, or the request has ended
abbrev pub WalksFor : Option Node → Core → Walk → Walked → Core → Walk → Type 0
WalksFor None c w went c' w' = ⊥
WalksFor (Some node) c w (On label) c' w' =
    (has_ended w (length node.stack) ≡ false) × (label ≡ (asked c node w).label) × (c' ≡ (asked c node w).core) × (w' ≡ (asked c node w).walk)
WalksFor (Some node) c w (Ended path refused) c' w' =
    (has_ended w (length node.stack) ≡ true) × (refused ≡ is_bad w) × (path ≡ node.path) × (c' ≡ c) × (w' ≡ w)

-- the device gets the state after the request, and the line tells it
abbrev pub EndsFor : Option Node → Minor → Bool → Text → List Node → Label → List Node → Type 0
EndsFor None minor refused path nodes label nodes' = ⊥
EndsFor (Some node) minor refused path nodes label nodes' =
    (label ≡ Label.State path (state_after minor refused node.state))
    × (nodes' ≡ changed_first (is_node node.serial) (with_state (state_after minor refused node.state)) nodes)

-- the same for any request: by the one that removes the drivers relations go too
abbrev pub EndedFor : Option Node → Minor → Bool → List Node → List Relation → Label → List Node → List Relation → Type 0
EndedFor None minor refused nodes relations label nodes' relations' = ⊥
EndedFor (Some node) minor refused nodes relations label nodes' relations' =
    (label ≡ state_label node minor refused)
    × ((around : Core) → at_related nodes' relations' around ≡ ended (at_related nodes relations around) node minor refused)
