-- The edges of relations, by owner and by member.
use Rattle.std.proofs.Common.{◌≡◌, ℕ, ◌==◌, Bool, ◌&&◌, ◌||◌, List, [], ◌∷◌, map, refl, sym, ap, ◌∙◌, arith}
use Rattle.std.specs.List.{filter, list_any, sum_by}
use Rattle.std.proofs.lemmas.List.Kept.{IsNonDecreasingBy-filter}
use Rattle.pnp_model.specs.Records.{Relation}
use Rattle.pnp_model.specs.Tests.{same_rel}
use Rattle.pnp_model.specs.Cores.{forget, is_apart_from}
use Rattle.pnp_model.specs.Events.{is_relation}
use Rattle.pnp_labels.specs.declared.words.RelKind.{RelKind}
use Rattle.relations.specs.declared.edges.Edge.{Edge}
use Rattle.relations.specs.Edges.{SameSums, is_apart, is_edge, to_member, to_owner, IsIndexed}
use Rattle.relations.proofs.Sums.{those_filter, any_same, any_filter, any_agree, filter_agree, same_filter, filter_map}

pub forget_is : (k : ℕ) (rs : List Relation) → filter (is_apart_from k) rs ≡ forget k rs
forget_is k rs = sym (those_filter (is_apart_from k) rs)

module _ (g : Relation → Edge) (k : ℕ) (apart : (r : Relation) → is_apart k (g r) ≡ is_apart_from k r) where
  edges_forgotten : (rs : List Relation) (es : List Edge) → SameSums es (map g rs) → SameSums (filter (is_apart k) es) (map g (filter (is_apart_from k) rs))
  edges_forgotten rs es h f =
      same_filter (is_apart k) es (map g rs) h f
      ∙ ap (λ (l : List Edge). sum_by f l) (filter_map (is_apart k) g rs ∙ ap (map g) (filter_agree (λ r. is_apart k (g r)) (is_apart_from k) rs apart))

-- relations are forgotten in both orders
pub index_forgotten : (k : ℕ) (rs : List Relation) (by_owner by_member : List Edge) → IsIndexed rs by_owner by_member
    → IsIndexed (filter (is_apart_from k) rs) (filter (is_apart k) by_owner) (filter (is_apart k) by_member)
index_forgotten k rs by_owner by_member h =
    record {
      owned = edges_forgotten to_member k (λ r. grind (arith)) rs by_owner h.owned;
      joined = edges_forgotten to_owner k (λ r. grind (arith)) rs by_member h.joined;
      by_owner_sorted = IsNonDecreasingBy-filter (λ e. e.from) (is_apart k) by_owner h.by_owner_sorted;
      by_member_sorted = IsNonDecreasingBy-filter (λ e. e.from) (is_apart k) by_member h.by_member_sorted;
    }

-- the edges from a device
pub edges_of : (g : Relation → Edge) (k : ℕ) (rs : List Relation) (es : List Edge) → SameSums es (map g rs)
    → SameSums (filter (λ e. e.from == k) es) (filter (λ e. e.from == k) (map g rs))
edges_of g k rs es h = same_filter (λ e. e.from == k) es (map g rs) h

any_mapped : (p : Edge → Bool) (rs : List Relation) → list_any p (map to_member rs) ≡ list_any (λ r. p (to_member r)) rs
any_mapped p [] = refl
any_mapped p (r ∷ rs) = ap (λ b. p (to_member r) || b) (any_mapped p rs)

pub related_is : (kind : RelKind) (owner member : ℕ) (rs : List Relation) (es : List Edge) → SameSums es (map to_member rs)
    → list_any (is_edge member kind) (filter (λ e. e.from == owner) es) ≡ list_any (is_relation kind owner member) rs
related_is kind owner member rs es h =
    any_filter (is_edge member kind) (λ e. e.from == owner) es
    ∙ (any_same (λ e. (e.from == owner) && is_edge member kind e) es (map to_member rs) h
    ∙ (any_mapped (λ e. (e.from == owner) && is_edge member kind e) rs
    ∙ any_agree (λ r. (r.owner == owner) && ((r.member == member) && same_rel r.kind kind)) (is_relation kind owner member) rs (λ r. grind (arith))))
