-- A device gets holdings in place of its own.
use Rattle.std.specs.Prelude.{ℕ, List, Option, Some, None}
use Rattle.resource_reqs.specs.Resources.{Res}
use Rattle.pnp_model.specs.Cores.{with_holds}
use Rattle.pnp_model.specs.Records.{Node}
use Rattle.pnp_model.specs.Rebalances.{part_for}
use Rattle.devnode_tree.specs.Trees.{Tree, changed}

-- the device with this serial, if there is one
abbrev pub given : Option ℕ → List Res → Tree → Tree
given None holds t = t
given (Some k) holds t = changed k (with_holds holds) t

-- the device holds its part of a plan, where it has one
abbrev pub with_part : List ℕ → List (List Res) → Node → Node
with_part serials plan n = record n { holds = part_for n.serial serials plan n.holds }
