-- The rows of the printed map, by the pairs that the arbiters hold.
use Rattle.std.specs.Prelude.{ℕ, ◌≡◌, List, [], Some, codes}
use Rattle.resource_reqs.specs.declared.owner.Owner.{Owner}
use Rattle.resource_reqs.specs.declared.owner.Owner.TheVariants.{Reserved, Device}
use Rattle.range_arbiter.specs.Pairs.{Pair}
use Rattle.pnp_labels.specs.Texts.{Text}
use Rattle.pnp_model.specs.Cores.{node_at, path_of, serials_of}
use Rattle.pnp_model.specs.Endings.{Held}
use Rattle.pnp_model.specs.Records.{Node, Core}
use Rattle.pnp_model.specs.Sharing.{Clear}
use Rattle.devnode_tree.specs.Trees.{Ascends}

-- 0 where it is reserved
abbrev pub owner_at : Owner → ℕ
owner_at Reserved = 0
owner_at (Device k) = k

abbrev pub owner_words : List Node → Owner → Text
owner_words nodes Reserved = codes "reserved"
owner_words nodes (Device k) = path_of (node_at k nodes)

abbrev pub row_of : List Node → Pair → Held
row_of nodes p = record { res = p.1; owner = owner_at p.0; words = owner_words nodes p.0 }

-- nothing clashes, serials ascend, and the root holds nothing
pub record IsOrderly (c : Core) : Type 0 where
  pub clear : Clear c.reserved c.nodes
  pub ascends : Ascends 0 (serials_of c.nodes)
  pub root : (n : Node) → node_at 0 c.nodes ≡ Some n → n.holds ≡ []
