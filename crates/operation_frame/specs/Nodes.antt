-- What an operation has to know of a device.
use Rattle.std.specs.Prelude.{◌≡◌, Bool, true, false, List, [], ◌∷◌, Option, Some, None}
use Rattle.pnp_labels.specs.Texts.{Text}
use Rattle.pnp_model.specs.Cores.{stack_of}
use Rattle.pnp_model.specs.Records.{Node}
use Rattle.devnode_tree.specs.Trees.{CanLeave}

abbrev pub PathIs : Option Node → Text → Type 0
PathIs None path = ⊥
PathIs (Some node) path = path ≡ node.path

abbrev pub HoldsNothing : Option Node → Type 0
HoldsNothing None = Unit {0}
HoldsNothing (Some node) = node.holds ≡ []

abbrev pub is_full : {A : Type 0} → List A → Bool
is_full [] = false
is_full (x ∷ xs) = true

abbrev pub has_drivers : Option Node → Bool
has_drivers o = is_full (stack_of o)

-- it may leave: it has no drivers, no holdings and no children, and is not the root
abbrev pub IsStripped : List Node → Node → Type 0
IsStripped nodes n = CanLeave n.serial nodes × (n.holds ≡ [])
