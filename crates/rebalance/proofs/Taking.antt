-- Devices that are taken from a queue one after another.
use Rattle.std.proofs.Common.{◌≡◌, ℕ, ◌<◌, ◌==◌, Bool, true, false, cond, List, [], ◌∷◌, ◌++◌, length, drop, slice_get, Some, None, refl, sym, ap, ◌∙◌, arith}
use Rattle.std.proofs.lemmas.List.{append-nil}
use Rattle.pnp_model.specs.Keyed.{those, without_first}
use Rattle.pnp_model.specs.Records.{Node}
use Rattle.pnp_model.specs.Trees.{stands_up}
use Rattle.pnp_model.specs.Frames.{rest}
use Rattle.pnp_model.specs.Rebalances.{startable}

pub first_cut : (ks : List ℕ) (k : ℕ) → slice_get ks 0 ≡ Some k → ks ≡ k ∷ drop 1 ks
first_cut [] k e = absurd (cc)
first_cut (j ∷ js) k e = let same : j ≡ k = grind arith in ap (λ i. i ∷ js) same

pub none_first : (ks : List ℕ) → slice_get ks 0 ≡ None → ks ≡ []
none_first [] e = refl
none_first (j ∷ js) e = absurd (cc)

pub drop_first : (ks : List ℕ) → drop 1 ks ≡ rest ks
drop_first [] = refl
drop_first (k ∷ ks) = refl

-- one fewer
pub fewer : (old new : List ℕ) (k : ℕ) → old ≡ k ∷ new → length new < length old
fewer old new k e = let long = ap length e in omega arith

-- but for the first that is the device in front
abbrev pub others_after : ℕ → Bool → List ℕ → List ℕ
others_after first true ks = ks
others_after first false ks = without_first (λ j. j == first) ks

pub leave_more : (first : ℕ) (is_left_out : Bool) (done old new all : List ℕ) (k : ℕ) → (k == first) ≡ true → is_left_out ≡ false → old ≡ k ∷ new → done ++ others_after first is_left_out old ≡ all → done ++ others_after first true new ≡ all
leave_more first true done old new all k same still e h = absurd (cc)
leave_more first false done old new all k same still e h =
    ap (λ l. done ++ l) (sym (ap (without_first (λ j. j == first)) e ∙ ap (λ b. cond b new (k ∷ without_first (λ j. j == first) new)) same)) ∙ h

pub others_end : (first : ℕ) (is_left_out : Bool) (done left all : List ℕ) → left ≡ [] → done ++ others_after first is_left_out left ≡ all → done ≡ all
others_end first true done left all e h = sym (append-nil done) ∙ (ap (λ l. done ++ l) (sym e) ∙ h)
others_end first false done left all e h = sym (append-nil done) ∙ (ap (λ l. done ++ without_first (λ j. j == first) l) (sym e) ∙ h)

pub those_same : (p q : ℕ → Bool) (ks : List ℕ) → ((k : ℕ) → p k ≡ q k) → those p ks ≡ those q ks
those_same p q [] same = refl
those_same p q (k ∷ ks) same = λ t. cond (same k t) (k ∷ those_same p q ks same t) (those_same p q ks same t)

pub stands_first : (nodes : List Node) (ks new : List ℕ) (k : ℕ) → ks ≡ k ∷ new → stands_up nodes k ≡ true → startable nodes ks ≡ ks
stands_first nodes ks new k e up = ap (startable nodes) e ∙ (ap (λ b. cond b (k ∷ new) (startable nodes new)) up ∙ sym e)
