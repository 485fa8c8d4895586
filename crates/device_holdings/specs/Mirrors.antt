-- What devices hold and what is reserved, as pairs of an owner and a resource, and the arbiters that hold just these.
use Rattle.std.specs.Prelude.{◌≡◌, ℕ, ◌≤◌, ◌+◌, ◌^◌, List, [], ◌∷◌, ◌++◌, map, length, sum_by}
use Rattle.std.specs.List.{count_by}
use Rattle.resource_reqs.specs.declared.kind.Kind.{Kind}
use Rattle.resource_reqs.specs.declared.owner.Owner.{Owner}
use Rattle.resource_reqs.specs.declared.owner.Owner.TheVariants.{Reserved, Device}
use Rattle.resource_reqs.specs.Resources.{Res, same_kind}
use Rattle.range_arbiter.specs.Pairs.{Pair}
use Rattle.trial_journal.specs.ByKind.{Arbiters, Lists, of_kind, lists_of}
use Rattle.assign_search.specs.Walking.{put_in}
use Rattle.pnp_model.specs.Records.{Node}

-- the pairs of one owner
abbrev pub pairs_of : Owner → List Res → List Pair
pairs_of owner held = map (λ res. (owner, res)) held

abbrev pub node_pairs : List Node → List Pair
node_pairs [] = []
node_pairs (n ∷ ns) = pairs_of (Device n.serial) n.holds ++ node_pairs ns

-- what is reserved, and what each device holds
abbrev pub held_pairs : List Res → List Node → List Pair
held_pairs reserved nodes = pairs_of Reserved reserved ++ node_pairs nodes

-- the lists that have just these pairs, each at its place
abbrev pub lists_with : List Pair → Lists
lists_with [] = record { port = []; irq = []; mem = []; dma = []; bus = [] }
lists_with (p ∷ ps) = put_in (lists_with ps) p.1.kind p

-- at most 2^29 pairs of each kind
abbrev pub AreFew : Lists → Type 0
AreFew lists = (kind : Kind) → length (of_kind lists kind) ≤ 2 ^ 29

-- how many of these are of a kind
abbrev pub count_of : Kind → List Res → ℕ
count_of kind held = count_by (λ res. same_kind kind res.kind) held

-- room for all that these parts have of each kind, and few pairs then
pub record HasRoom (a : Arbiters) (parts : List (List Res)) : Type 0 where
  pub spare : (kind : Kind) → sum_by (count_of kind) parts ≤ (of_kind a kind).spare
  pub few : (kind : Kind) → length (of_kind (lists_of a) kind) + sum_by (count_of kind) parts ≤ 2 ^ 29

-- the arbiters hold just what is reserved and what devices hold, and few pairs of each kind
pub record Mirrors (reserved : List Res) (nodes : List Node) (a : Arbiters) : Type 0 where
  pub lists : lists_of a ≡ lists_with (held_pairs reserved nodes)
  pub few : AreFew (lists_of a)

-- whatever is reserved
abbrev pub IsMirrored : List Node → Arbiters → Type 0
IsMirrored nodes a = (reserved : List Res) × Mirrors reserved nodes a

-- what is mirrored before is mirrored after, whatever is reserved
abbrev pub KeepsMirror : List Node → Arbiters → List Node → Arbiters → Type 0
KeepsMirror nodes a nodes' a' = (reserved : List Res) → Mirrors reserved nodes a → Mirrors reserved nodes' a'
