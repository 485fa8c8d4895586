-- A core of which a contract names some parts: whatever else there is, now or with more fields later.
use Rattle.std.specs.Prelude.{List}
use Rattle.pnp_model.specs.Records.{Node, Relation, Core}

-- with these nodes
abbrev pub at_nodes : List Node → Core → Core
at_nodes nodes around = record around { nodes = nodes }

-- with these nodes and relations
abbrev pub at_related : List Node → List Relation → Core → Core
at_related nodes relations around = record around { nodes = nodes; relations = relations }
