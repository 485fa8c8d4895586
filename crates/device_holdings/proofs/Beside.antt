-- The fixed pairs of a search are those of what is reserved and of what all others hold.
use Rattle.std.proofs.Common.{◌≡◌, ℕ, Bool, true, false, not, cond, List, [], ◌∷◌, ◌++◌, Contains, Result, Ok, Err, IfOk, refl, sym, ap, ◌∙◌, subst, arith, inl, inr}
use Rattle.std.specs.Prelude.{IsPermutation}
use Rattle.std.proofs.lemmas.Bool.{cases_Bool}
use Rattle.std.proofs.lemmas.List.Elements.{filter-append}
use Rattle.std.proofs.lemmas.List.Sorted.{Contains-permutation, IsPermutation-sym}
use Rattle.resource_reqs.specs.declared.owner.Owner.{Owner}
use Rattle.resource_reqs.specs.declared.owner.Owner.TheVariants.{Reserved, Device}
use Rattle.resource_reqs.specs.Resources.{Res, Reqs}
use Rattle.resource_reqs.specs.Spelling.{Answer, IsAnswer}
use Rattle.resource_reqs.proofs.Counts.{contains_cons}
use Rattle.range_arbiter.specs.Pairs.{Pair, res_list}
use Rattle.trial_journal.specs.ByKind.{Arbiters, all_kinds, all_pairs}
use Rattle.assign_search.specs.Fixed.{is_mover, fixed_pairs, fixed_of}
use Rattle.assign_search.proofs.SameHeld.{SameSet}
use Rattle.assign_search.proofs.SameAnswers.{answer_same}
use Rattle.assign_search.proofs.Touching.{contains_later}
use Rattle.pnp_model.specs.Keyed.{those}
use Rattle.pnp_model.specs.Tests.{has}
use Rattle.pnp_model.specs.Frames.{held_by, is_beside}
use Rattle.pnp_model.specs.Records.{Node}
use Rattle.device_holdings.specs.Mirrors.{pairs_of, node_pairs, held_pairs, lists_with, Mirrors}
use Rattle.device_holdings.specs.Answers.{held_beside}
use Rattle.device_holdings.proofs.Putting.{permuted}
use Rattle.device_holdings.proofs.Clashing.{res_own}

module _ (movers : List ℕ) where
  keeps : Pair → Bool
  keeps p = not (is_mover movers p.0)

  own_kept : (o : Owner) (held : List Res) → not (is_mover movers o) ≡ true → fixed_pairs movers (pairs_of o held) ≡ pairs_of o held
  own_kept o [] h = refl
  own_kept o (r ∷ held) h = rw h (ap (λ ps. (o, r) ∷ ps) (own_kept o held h))

  own_left : (o : Owner) (held : List Res) → not (is_mover movers o) ≡ false → fixed_pairs movers (pairs_of o held) ≡ []
  own_left o [] h = refl
  own_left o (r ∷ held) h = rw h (own_left o held h)

  res_append : (xs ys : List Pair) → res_list (xs ++ ys) ≡ res_list xs ++ res_list ys
  res_append [] ys = refl
  res_append (x ∷ xs) ys = ap (λ l. x.1 ∷ l) (res_append xs ys)

  fixed_append : (xs ys : List Pair) → fixed_of movers (xs ++ ys) ≡ fixed_of movers xs ++ fixed_of movers ys
  fixed_append xs ys = ap res_list (filter-append (λ p. not (is_mover movers p.0)) xs ys) ∙ res_append (fixed_pairs movers xs) (fixed_pairs movers ys)

  fixed_nodes : (nodes : List Node) → fixed_of movers (node_pairs nodes) ≡ held_by (those (is_beside movers) nodes)
  fixed_nodes [] = refl
  fixed_nodes (n ∷ ns) = fixed_append (pairs_of (Device n.serial) n.holds) (node_pairs ns) ∙ by_test (not (has movers n.serial)) refl (fixed_nodes ns)
    where
      by_test : (b : Bool) → not (has movers n.serial) ≡ b → fixed_of movers (node_pairs ns) ≡ held_by (those (is_beside movers) ns)
          → fixed_of movers (pairs_of (Device n.serial) n.holds) ++ fixed_of movers (node_pairs ns) ≡ held_by (cond b (n ∷ those (is_beside movers) ns) (those (is_beside movers) ns))
      by_test true is more = λ t. (ap res_list (own_kept (Device n.serial) n.holds is) ∙ res_own (Device n.serial) n.holds) t ++ more t
      by_test false is more = λ t. ap res_list (own_left (Device n.serial) n.holds is) t ++ more t

  pub fixed_is : (reserved : List Res) (nodes : List Node) → fixed_of movers (held_pairs reserved nodes) ≡ held_beside reserved nodes movers
  fixed_is reserved nodes =
      fixed_append (pairs_of Reserved reserved) (node_pairs nodes)
      ∙ (λ t. (ap res_list (own_kept Reserved reserved refl) ∙ res_own Reserved reserved) t ++ fixed_nodes nodes t)

  -- which resources are fixed, by their pairs
  fixed_pair : (xs : List Pair) (r : Res) → Contains (fixed_of movers xs) r → (p : Pair) × Contains xs p × (not (is_mover movers p.0) ≡ true) × (p.1 ≡ r)
  fixed_pair [] r h = absurd (let k = h.1 in omega arith)
  fixed_pair (x ∷ xs) r h = elim (cases_Bool (not (is_mover movers x.0))) [
    | inl is ↦ elim (contains_cons x.1 (fixed_of movers xs) r (rw is at h)) [
      | inl e ↦ (x, (0, omega arith, refl), is, sym e)
      | inr more ↦ behind (fixed_pair xs r more)
    ]
    | inr is ↦ behind (fixed_pair xs r (rw is at h))
  ]
    where
      behind : ((p : Pair) × Contains xs p × (not (is_mover movers p.0) ≡ true) × (p.1 ≡ r)) → (p : Pair) × Contains (x ∷ xs) p × (not (is_mover movers p.0) ≡ true) × (p.1 ≡ r)
      behind (p, inside, stays, is) = (p, contains_later x xs p inside, stays, is)

  pair_fixed : (xs : List Pair) (p : Pair) → Contains xs p → not (is_mover movers p.0) ≡ true → Contains (fixed_of movers xs) p.1
  pair_fixed [] p inside stays = absurd (let k = inside.1 in omega arith)
  pair_fixed (x ∷ xs) p inside stays = elim (contains_cons x xs p inside) [
    | inl e ↦
        let here : not (is_mover movers x.0) ≡ true = subst (λ (q : Pair). not (is_mover movers q.0) ≡ true) e stays in
        rw here (0, omega arith, sym (ap (λ (q : Pair). q.1) e))
    | inr more ↦ elim (cases_Bool (not (is_mover movers x.0))) [
      | inl is ↦ rw is (contains_later x.1 (fixed_of movers xs) p.1 (pair_fixed xs p more stays))
      | inr is ↦ rw is (pair_fixed xs p more stays)
    ]
  ]

  fixed_among : (xs ys : List Pair) → IsPermutation xs ys → (r : Res) → Contains (fixed_of movers xs) r → Contains (fixed_of movers ys) r
  fixed_among xs ys moved r h =
      let (p, inside, stays, is) = fixed_pair xs r h in
      subst (Contains (fixed_of movers ys)) is (pair_fixed ys p (Contains-permutation xs ys p moved inside) stays)

  same_fixed : (xs ys : List Pair) → IsPermutation xs ys → SameSet (fixed_of movers ys) (fixed_of movers xs)
  same_fixed xs ys moved r = (fixed_among ys xs (IsPermutation-sym xs ys moved) r, fixed_among xs ys moved r)

-- the answer beside the pairs of others is the answer beside what they hold
pub answered : (movers : List ℕ) (reqs : List Reqs) (budget : ℕ) (x : Answer) (reserved : List Res) (nodes : List Node) (a : Arbiters) → Mirrors reserved nodes a
    → IsAnswer (fixed_of movers (all_pairs a)) reqs budget x → IsAnswer (held_beside reserved nodes movers) reqs budget x
answered movers reqs budget x reserved nodes a m is =
    let here : IsAnswer (fixed_of movers (all_kinds (lists_with (held_pairs reserved nodes)))) reqs budget x =
    subst (λ l. IsAnswer (fixed_of movers (all_kinds l)) reqs budget x) m.lists is in
    subst (λ fixed. IsAnswer fixed reqs budget x) (fixed_is movers reserved nodes)
    (answer_same (fixed_of movers (all_kinds (lists_with (held_pairs reserved nodes)))) (fixed_of movers (held_pairs reserved nodes))
    (same_fixed movers (held_pairs reserved nodes) (all_kinds (lists_with (held_pairs reserved nodes))) (permuted (held_pairs reserved nodes))) reqs budget x here)

pub then_ok : {A E : Type 0} (r : Result A E) {P Q : A → Type 0} → ((x : A) → P x → Q x) → IfOk r P → IfOk r Q
then_ok (Ok x) f p = f x p
then_ok (Err e) f p = tt
