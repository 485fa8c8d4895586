-- Relations as edges between devices, kept in two orders.
use Rattle.std.specs.Prelude.{◌≡◌, ℕ, ◌==◌, Bool, not, ◌&&◌, List, map, sum_by}
use Rattle.std.specs.List.Sorted.{IsNonDecreasingBy}
use Rattle.pnp_model.specs.Records.{Relation}
use Rattle.pnp_model.specs.Tests.{same_rel}
use Rattle.pnp_labels.specs.declared.words.RelKind.{RelKind}
use Rattle.relations.specs.declared.edges.Edge.{Edge}

-- whatever is summed up, it is the same: the two have the same members, in any order
abbrev pub SameSums : {X : Type 0} → List X → List X → Type 0
SameSums {X} xs ys = (f : X → ℕ) → sum_by f xs ≡ sum_by f ys

-- an edge that neither begins nor ends there
abbrev pub is_apart : ℕ → Edge → Bool
is_apart k e = not (e.from == k) && not (e.to == k)

-- an edge to this device of this kind
abbrev pub is_edge : ℕ → RelKind → Edge → Bool
is_edge to kind e = e.to == to && same_rel e.kind kind

-- from the owner to the member, and back
abbrev pub to_member : Relation → Edge
to_member r = record { from = r.owner; to = r.member; kind = r.kind }

abbrev pub to_owner : Relation → Edge
to_owner r = record { from = r.member; to = r.owner; kind = r.kind }

-- the edges of all relations, sorted by the owner, and by the member
pub record IsIndexed (list : List Relation) (by_owner by_member : List Edge) : Type 0 where
  pub owned : SameSums by_owner (map to_member list)
  pub joined : SameSums by_member (map to_owner list)
  pub by_owner_sorted : IsNonDecreasingBy (λ e. e.from) by_owner
  pub by_member_sorted : IsNonDecreasingBy (λ e. e.from) by_member
