-- What clashes with a range: among the pairs of its kind, and among all.
use Rattle.std.proofs.Common.{◌≡◌, inl, inr, Bool, true, false, cond, ◌||◌, List, [], ◌∷◌, ◌++◌, refl, sym, ap, ◌∙◌}
use Rattle.std.specs.List.{list_any}
use Rattle.resource_reqs.specs.declared.kind.Kind.{Kind}
use Rattle.resource_reqs.specs.declared.kind.Kind.TheVariants.{Port, Irq, Mem, Dma, Bus}
use Rattle.resource_reqs.specs.declared.owner.Owner.{Owner}
use Rattle.resource_reqs.specs.declared.owner.Owner.TheVariants.{Reserved, Device}
use Rattle.resource_reqs.specs.Resources.{Res, clashes, same_kind}
use Rattle.range_arbiter.specs.Pairs.{Pair, is_before, pairs_with, res_list}
use Rattle.trial_journal.specs.ByKind.{Arbiters, Lists, of_kind, lists_of}
use Rattle.trial_journal.proofs.EachKind.{with_at}
use Rattle.assign_search.specs.Walking.{put_in}
use Rattle.pnp_model.specs.Frames.{held_by}
use Rattle.pnp_model.specs.Records.{Node}
use Rattle.device_holdings.specs.Mirrors.{pairs_of, node_pairs, held_pairs, lists_with, Mirrors}

swapped_or : (a b c : Bool) → (a || (b || c)) ≡ (b || (a || c))
swapped_or true true c = refl
swapped_or true false c = refl
swapped_or false true c = refl
swapped_or false false c = refl

any_put : (t : Res → Bool) (qs : List Pair) (p : Pair) → list_any t (res_list (pairs_with qs p)) ≡ (t p.1 || list_any t (res_list qs))
any_put t [] p = refl
any_put t (q ∷ qs) p = by_test (is_before q p) (any_put t qs p)
  where
    by_test : (b : Bool) → list_any t (res_list (pairs_with qs p)) ≡ (t p.1 || list_any t (res_list qs))
        → list_any t (res_list (cond b (q ∷ pairs_with qs p) (p ∷ q ∷ qs))) ≡ (t p.1 || (t q.1 || list_any t (res_list qs)))
    by_test true e = ap (λ b. t q.1 || b) e ∙ swapped_or (t q.1) (t p.1) (list_any t (res_list qs))
    by_test false e = refl

-- of another kind nothing clashes
other_kind : (r : Res) (p : Pair) (k j : Kind) → r.kind ≡ k → p.1.kind ≡ j → (b : Bool) → same_kind k j ≡ false → (clashes r p.1 || b) ≡ b
other_kind r p k j e f b apart = rw (e, f, apart) refl

any_in : (r : Res) (l : Lists) (p : Pair) (k j : Kind) → r.kind ≡ k → p.1.kind ≡ j
    → list_any (clashes r) (res_list (of_kind (put_in l j p) k)) ≡ (clashes r p.1 || list_any (clashes r) (res_list (of_kind l k)))
any_in r l p k j e f = elim (with_at l j k (pairs_with (of_kind l j) p)) [
  | inl (same, here) ↦
      ap (λ (qs : List Pair). list_any (clashes r) (res_list qs)) here ∙ any_put (clashes r) (of_kind l j) p ∙ ap (λ i. clashes r p.1 || list_any (clashes r) (res_list (of_kind l i))) same
  | inr (apart, there) ↦
      ap (λ (qs : List Pair). list_any (clashes r) (res_list qs)) there ∙ sym (other_kind r p k j e f (list_any (clashes r) (res_list (of_kind l k))) apart)
]

none_empty : (r : Res) (k : Kind) → list_any (clashes r) (res_list (of_kind (lists_with []) k)) ≡ false
none_empty r Port = refl
none_empty r Irq = refl
none_empty r Mem = refl
none_empty r Dma = refl
none_empty r Bus = refl

-- what clashes among all clashes among those of its kind
any_with : (r : Res) (ps : List Pair) → list_any (clashes r) (res_list (of_kind (lists_with ps) r.kind)) ≡ list_any (clashes r) (res_list ps)
any_with r [] = none_empty r r.kind
any_with r (p ∷ ps) = any_in r (lists_with ps) p r.kind p.1.kind refl refl ∙ ap (λ b. clashes r p.1 || b) (any_with r ps)

-- The resources of pairs ---------------------------------------------------------------

res_append : (xs ys : List Pair) → res_list (xs ++ ys) ≡ res_list xs ++ res_list ys
res_append [] ys = refl
res_append (x ∷ xs) ys = ap (λ l. x.1 ∷ l) (res_append xs ys)

pub res_own : (o : Owner) (held : List Res) → res_list (pairs_of o held) ≡ held
res_own o [] = refl
res_own o (r ∷ held) = ap (λ l. r ∷ l) (res_own o held)

pub res_nodes : (nodes : List Node) → res_list (node_pairs nodes) ≡ held_by nodes
res_nodes [] = refl
res_nodes (n ∷ ns) = res_append (pairs_of (Device n.serial) n.holds) (node_pairs ns) ∙ (λ t. res_own (Device n.serial) n.holds t ++ res_nodes ns t)

res_held : (reserved : List Res) (nodes : List Node) → res_list (held_pairs reserved nodes) ≡ reserved ++ held_by nodes
res_held reserved nodes = res_append (pairs_of Reserved reserved) (node_pairs nodes) ∙ (λ t. res_own Reserved reserved t ++ res_nodes nodes t)

pub in_use : (r : Res) (reserved : List Res) (nodes : List Node) (a : Arbiters) → Mirrors reserved nodes a
    → list_any (clashes r) (res_list (of_kind (lists_of a) r.kind)) ≡ list_any (clashes r) (reserved ++ held_by nodes)
in_use r reserved nodes a m =
    ap (λ l. list_any (clashes r) (res_list (of_kind l r.kind))) m.lists ∙ any_with r (held_pairs reserved nodes) ∙ ap (list_any (clashes r)) (res_held reserved nodes)
