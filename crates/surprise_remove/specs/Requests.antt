-- The request of which the next step of a surprise removal is.
use Rattle.std.specs.Prelude.{ℕ, Bool, true, false, List, [], ◌∷◌, Option, Some, None}
use Rattle.pnp_labels.specs.declared.words.Minor.{Minor}
use Rattle.pnp_model.specs.Records.{Node, Core, Handle, Walk, Job, Stage}
use Rattle.pnp_model.specs.Surprises.{stays_behind}
use Rattle.pnp_model.specs.Walks.{walk_of}

-- a device without drivers loses none
abbrev pub removal_of : List ℕ → Option Walk
removal_of [] = None
removal_of (d ∷ ds) = Some (walk_of Minor.Remove)

-- nor does one that stays behind
abbrev pub removal_unless : Bool → List ℕ → Option Walk
removal_unless true stack = None
removal_unless false stack = removal_of stack

abbrev pub begun_removal : Core → Job → List Handle → Option Node → Option Walk
begun_removal c o handles None = None
begun_removal c o handles (Some node) = removal_unless (stays_behind c o handles node.serial) node.stack

abbrev pub begun : Core → Job → List Handle → Stage → Option Node → Option Walk
begun c o handles Stage.Next n = begun_removal c o handles n
begun c o handles stage n = None

-- one is on its way, or begins with the step
abbrev pub request : Core → Job → List Handle → Option Walk → Option Node → Option Walk
request c o handles (Some w) n = Some w
request c o handles None n = begun c o handles o.stage n
