-- The request of which the next step of a removal is.
use Rattle.std.specs.Prelude.{Bool, true, false, List, Option, Some, None}
use Rattle.pnp_labels.specs.declared.words.Minor.{Minor}
use Rattle.pnp_model.specs.Records.{Node, Handle, Walk, Job, Stage}
use Rattle.pnp_model.specs.Removals.{refuses_unasked}
use Rattle.pnp_model.specs.Walks.{walk_of}

-- a device that refuses unasked is not asked
abbrev pub query_unless : Bool → Option Walk
query_unless true = None
query_unless false = Some (walk_of Minor.QueryRemove)

abbrev pub begun_query : List Handle → Option Node → Option Walk
begun_query handles None = None
begun_query handles (Some node) = query_unless (refuses_unasked handles node)

abbrev pub begun : List Handle → Stage → Option Node → Option Walk
begun handles Stage.Next n = begun_query handles n
begun handles stage n = None

-- one is on its way, or begins with the step
abbrev pub request : List Handle → Job → Option Walk → Option Node → Option Walk
request handles o (Some w) n = Some w
request handles o None n = begun handles o.stage n
