-- The devices that are still to do, and which is next.
use Rattle.std.proofs.Common.{◌≡◌, ℕ, zero, suc, ◌+◌, Bool, true, false, cond, List, [], ◌∷◌, ◌++◌, drop, slice_get, Some, refl, sym, ap, ◌∙◌, arith, append_assoc, add-one}
use Rattle.pnp_model.specs.Keyed.{those}
use Rattle.pnp_model.specs.Records.{Node}
use Rattle.pnp_model.specs.Cores.{node_at}
use Rattle.pnp_model.specs.Frames.{first_node, rest}

pub first_is : (nodes : List Node) (todo : List ℕ) (k : ℕ) → slice_get todo 0 ≡ Some k → first_node nodes todo ≡ node_at k nodes
first_is nodes [] k h = absurd (cc)
first_is nodes (j ∷ js) k h = let same : j ≡ k = grind arith in ap (λ i. node_at i nodes) same

pub rest_is : (todo : List ℕ) → drop 1 todo ≡ rest todo
rest_is [] = refl
rest_is (k ∷ ks) = refl

-- one more of a set that passes a test, or not
pub passes_more : (p : ℕ → Bool) (b : Bool) (xs : List ℕ) (i x : ℕ) (found found' all : List ℕ) → slice_get xs i ≡ Some x → p x ≡ b → found' ≡ cond b (found ++ x ∷ []) found → found ++ those p (drop i xs) ≡ all
    → found' ++ those p (drop (i + 1) xs) ≡ all
passes_more p b xs i x found found' all at test more h = ap (λ l. l ++ those p (drop (i + 1) xs)) more ∙ (by_test b ∙ (ap (λ l. found ++ l) (sym here) ∙ h))
  where
    next : (xs : List ℕ) (i : ℕ) → slice_get xs i ≡ Some x → drop i xs ≡ x ∷ drop (suc i) xs
    next [] i e = absurd (cc)
    next (y ∷ ys) zero e = let same : y ≡ x = grind arith in ap (λ n. n ∷ ys) same
    next (y ∷ ys) (suc i) e = next ys i e

    here : those p (drop i xs) ≡ cond b (x ∷ those p (drop (i + 1) xs)) (those p (drop (i + 1) xs))
    here = rw add-one (ap (those p) (next xs i at) ∙ ap (λ t. cond t (x ∷ those p (drop (suc i) xs)) (those p (drop (suc i) xs))) test)

    by_test : (t : Bool) → cond t (found ++ x ∷ []) found ++ those p (drop (i + 1) xs) ≡ found ++ cond t (x ∷ those p (drop (i + 1) xs)) (those p (drop (i + 1) xs))
    by_test true = append_assoc found (x ∷ []) (those p (drop (i + 1) xs))
    by_test false = refl
