-- Whether something that depends on a device directly stayed behind is told by its children and by the edges to its members.
use Rattle.std.proofs.Common.{◌≡◌, ℕ, ◌==◌, Bool, true, false, ◌&&◌, ◌||◌, cond, List, [], ◌∷◌, ◌++◌, map, reverse, refl, sym, ap, ◌∙◌}
use Rattle.std.specs.List.{list_any, filter}
use Rattle.std.proofs.lemmas.List.Folds.{list_any-append}
use Rattle.std.proofs.lemmas.List.Sorted.{IsPermutation-reverse, list_any-IsPermutation}
use Rattle.pnp_model.specs.Keyed.{those}
use Rattle.pnp_model.specs.Tests.{has}
use Rattle.pnp_model.specs.Records.{Node, Relation, Handle, Job}
use Rattle.pnp_model.specs.Handles.{is_open}
use Rattle.devnode_tree.specs.Entries.{child_serials}
use Rattle.relations.specs.declared.edges.Edge.{Edge}
use Rattle.relations.specs.Edges.{SameSums, to_member}
use Rattle.relations.specs.Leaving.{below, is_there}
use Rattle.relations.proofs.Graphs.{ends, below_same}
use Rattle.relations.proofs.Sums.{any_same, any_agree}
use Rattle.surprise_remove.specs.Steps.{has_behind, stays}

and_true : (b : Bool) → (b && true) ≡ b
and_true true = refl
and_true false = refl

and_false : (b : Bool) → (b && false) ≡ false
and_false true = refl
and_false false = refl

-- one passes the first test that passes the second
any_both : (q p : ℕ → Bool) (es : List Edge) → list_any (λ e. q e.to && p e.to) es ≡ list_any q (those p (ends es))
any_both q p [] = refl
any_both q p (e ∷ es) =
    elim (p e.to) as (λ b. ((q e.to && b) || list_any (λ e. q e.to && p e.to) es) ≡ list_any q (cond b (e.to ∷ those p (ends es)) (those p (ends es)))) [
      | true ↦ ap (λ b. b || list_any (λ e. q e.to && p e.to) es) (and_true (q e.to)) ∙ ap (λ b. q e.to || b) (any_both q p es)
      | false ↦ ap (λ b. b || list_any (λ e. q e.to && p e.to) es) (and_false (q e.to)) ∙ any_both q p es
    ]

pub any_below : (nodes : List Node) (rs : List Relation) (q : ℕ → Bool) (k : ℕ) (es : List Edge) → SameSums es (filter (λ e. e.from == k) (map to_member rs))
    → (list_any q (child_serials nodes k) || list_any (λ e. q e.to && is_there nodes e.to) es) ≡ list_any q (below nodes rs k)
any_below nodes rs q k es same =
    ap (λ b. list_any q (child_serials nodes k) || b) (any_both q (is_there nodes) es)
    ∙ (sym (list_any-append q (child_serials nodes k) (those (is_there nodes) (ends es)))
    ∙ any_same q (child_serials nodes k ++ those (is_there nodes) (ends es)) (below nodes rs k) (below_same nodes rs k (child_serials nodes k) es same))

-- a set is the same, whoever stands first
pub has-reverse : (ks : List ℕ) (k : ℕ) → has (reverse ks) k ≡ has ks k
has-reverse ks k = sym (list_any-IsPermutation (λ j. j == k) ks (reverse ks) (IsPermutation-reverse ks))

pub any-reverse : (ks js : List ℕ) → list_any (λ j. has (reverse ks) j) js ≡ list_any (λ j. has ks j) js
any-reverse ks js = any_agree (λ j. has (reverse ks) j) (λ j. has ks j) js (has-reverse ks)

-- not told before and without a handle, it stays behind by that alone
pub stays_so : (nodes : List Node) (rs : List Relation) (o : Job) (handles : List Handle) (k : ℕ) (b : Bool) → has o.told k ≡ false → is_open handles k ≡ false → b ≡ has_behind o (below nodes rs k) → b ≡ stays nodes rs o handles k
stays_so nodes rs o handles k b told shut h =
    h ∙ sym (ap (λ t. t || (is_open handles k || has_behind o (below nodes rs k))) told ∙ ap (λ t. t || has_behind o (below nodes rs k)) shut)
