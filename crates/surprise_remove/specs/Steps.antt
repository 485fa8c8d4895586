-- What a step of a surprise removal needs.
use Rattle.std.specs.Prelude.{◌≡◌, ℕ, Bool, false, ◌||◌, List, [], IfSome}
use Rattle.std.specs.List.{list_any}
use Rattle.pnp_model.specs.Tests.{has}
use Rattle.pnp_model.specs.Frames.{first_node}
use Rattle.pnp_model.specs.Records.{Node, Relation, Handle, Job, Stage}
use Rattle.pnp_model.specs.Trees.{dependents}
use Rattle.pnp_model.specs.Handles.{is_open}
use Rattle.relations.specs.Leaving.{base, below}
use Rattle.operation_frame.specs.Nodes.{IsStripped}

-- one of these stayed behind
abbrev pub has_behind : Job → List ℕ → Bool
has_behind o serials = list_any (λ j. has o.behind j) serials

-- `stays_behind`, where only what depends on the device directly is looked at
abbrev pub stays : List Node → List Relation → Job → List Handle → ℕ → Bool
stays nodes relations o handles k = has o.told k || (is_open handles k || has_behind o (below nodes relations k))

-- where it is decided whether a device stays behind: one that depends on it stayed behind exactly where one did that
-- depends on it directly
abbrev pub DirectSays : List Node → List Relation → Job → Stage → Type 0
DirectSays nodes relations o Stage.Next =
    IfSome (first_node nodes o.todo) (λ n. has_behind o (dependents (base nodes relations) n.serial) ≡ has_behind o (below nodes relations n.serial))
DirectSays nodes relations o stage = Unit {0}

-- where a device is settled, it may leave
abbrev pub SettlesStripped : List Node → List Relation → Job → List Handle → Stage → Type 0
SettlesStripped nodes relations o handles Stage.Next =
    IfSome (first_node nodes o.todo) (λ n. n.stack ≡ [] → stays nodes relations o handles n.serial ≡ false → IsStripped nodes n)
SettlesStripped nodes relations o handles Stage.Settling = IfSome (first_node nodes o.todo) (IsStripped nodes)
SettlesStripped nodes relations o handles stage = Unit {0}
