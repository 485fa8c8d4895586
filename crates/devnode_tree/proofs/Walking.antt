-- A walk from the greatest serial down passes no serial that it is asked for later.
use Rattle.std.proofs.Common.{◌≡◌, ℕ, ◌==◌, ◌+◌, ◌<◌, ◌≤◌, Bool, true, false, ◌||◌, List, [], ◌∷◌, ◌++◌, Option, Some, None, IfNone, option_to_list, length, length-append, refl, sym, ap, subst, ◌∙◌, arith}
use Rattle.std.specs.List.{AllByRecursion}
use Rattle.std.specs.List.Sorted.{IsStrictlySortedBy}
use Rattle.std.specs.Ordering.{nat_cmp}
use Rattle.std.specs.Map.{keys_of}
use Rattle.std.proofs.Common.{Less}
use Rattle.std.proofs.lemmas.Bool.Decides.{nat_tests}
use Rattle.std.proofs.lemmas.List.Folds.{list_any-append}
use Rattle.pnp_model.specs.Tests.{has}
use Rattle.pnp_model.specs.Handles.{is_open}
use Rattle.devnode_tree.specs.Counts.{handles_of}
use Rattle.devnode_tree.specs.Trees.{Ascends}
use Rattle.devnode_tree.specs.Walks.{ahead, IsAhead}

-- the keys of a map in order of their numbers
least : (x : ℕ) (xs : List ℕ) → AllByRecursion (λ y. nat_cmp x y ≡ Less) xs → IsStrictlySortedBy nat_cmp xs → Ascends (x + 1) xs
unfolding IsStrictlySortedBy
least x [] all sorted = tt
least x (y ∷ ys) all sorted = let first = all.0 in (grind (arith, nat_tests), least y ys sorted.0 sorted.1)

pub sorted_ascends : (xs : List ℕ) → IsStrictlySortedBy nat_cmp xs → Ascends 0 xs
unfolding IsStrictlySortedBy
sorted_ascends [] sorted = tt
sorted_ascends (x ∷ xs) sorted = (omega arith, least x xs sorted.0 sorted.1)

-- the serials with an open handle
pub open_keys : (k : ℕ) (es : List (ℕ × ℕ)) → has (keys_of es) k ≡ is_open (handles_of es) k
open_keys k [] = refl
open_keys k (e ∷ es) = ap (λ b. (e.0 == k) || b) (open_keys k es)

-- all but the last ascend too ..
pub front_ascends : (low : ℕ) (xs ys : List ℕ) → Ascends low (xs ++ ys) → Ascends low xs
front_ascends low [] ys h = tt
front_ascends low (x ∷ xs) ys h = (h.0, front_ascends (x + 1) xs ys h.1)

-- .. and are below it
absent_before : (low : ℕ) (xs : List ℕ) (s k : ℕ) → Ascends low (xs ++ s ∷ []) → s ≤ k → (has xs k ≡ false) × (low ≤ s)
absent_before low [] s k h le = (refl, h.0)
absent_before low (x ∷ xs) s k h le =
    let more = absent_before (x + 1) xs s k h.1 le in
    let first = h.0 in
    let rest = more.0 in
    let above = more.1 in
    (grind (arith, nat_tests), omega arith)

-- a serial that is not below the greatest is it or none
pub greatest_tells : (xs : List ℕ) (s k : ℕ) → Ascends 0 (xs ++ s ∷ []) → s ≤ k → has (xs ++ s ∷ []) k ≡ (s == k)
greatest_tells xs s k h le =
    list_any-append (λ j. j == k) xs (s ∷ [])
    ∙ (ap (λ b. b || ((s == k) || false)) (absent_before 0 xs s k h le).0 ∙ or_none (s == k))
  where
    or_none : (b : Bool) → (b || false) ≡ b
    or_none true = refl
    or_none false = refl

-- one that is below the greatest is not passed with it
pub greatest_passed : (xs : List ℕ) (s k : ℕ) → k < s → has (xs ++ s ∷ []) k ≡ has xs k
greatest_passed xs s k lt =
    list_any-append (λ j. j == k) xs (s ∷ []) ∙ (ap (λ b. has xs k || (b || false)) (other s k lt) ∙ or_none (has xs k))
  where
    other : (s k : ℕ) → k < s → (s == k) ≡ false
    other s k lt = grind (arith, nat_tests)

    or_none : (b : Bool) → (b || false) ≡ b
    or_none true = refl
    or_none false = refl

-- what a walk has ahead on its way down to a serial, up to which it has all that it had
pub record IsDown (rest : List ℕ) (head : Option ℕ) (had : List ℕ) (serial : ℕ) : Type 0 where
  pub is_ahead : IsAhead rest head
  pub same : (k : ℕ) → k ≤ serial → has (ahead rest head) k ≡ has had k

module _ (rest had : List ℕ) (s serial : ℕ) (down : IsDown rest (Some s) had serial) where
  pub passed_down : (rest' : List ℕ) (o : Option ℕ) → serial < s → rest ≡ rest' ++ option_to_list o → IfNone o (rest' ≡ []) → IsDown rest' o had serial
  passed_down rest' o above is none = record {
    is_ahead = record { in_order = subst (Ascends 0) is (front_ascends 0 rest (s ∷ []) down.is_ahead.in_order); taken = none };
    same = λ k le. ap (λ l. has l k) (sym is) ∙ (sym (greatest_passed rest s k (omega (arith, le, above))) ∙ down.same k le);
  }

  pub passed_less : (rest' : List ℕ) (o : Option ℕ) → rest ≡ rest' ++ option_to_list o → length (ahead rest' o) < length (ahead rest (Some s))
  passed_less rest' o is = let more = length-append rest (s ∷ []) in let same = ap length is in omega arith

  pub head_tells : s ≤ serial → (s == serial) ≡ has had serial
  head_tells le = sym (greatest_tells rest s serial down.is_ahead.in_order le) ∙ down.same serial (omega arith)

pub none_tells : (rest had : List ℕ) (serial : ℕ) → IsDown rest None had serial → false ≡ has had serial
none_tells rest had serial down = ap (λ l. has (l ++ []) serial) (sym down.is_ahead.taken) ∙ down.same serial (omega arith)

-- the keys of a map, of which the last one is taken off
pub all_ahead : (keys rest : List ℕ) (o : Option ℕ) → IsStrictlySortedBy nat_cmp keys → keys ≡ rest ++ option_to_list o → IfNone o (rest ≡ []) → IsAhead rest o
all_ahead keys rest o sorted is none = record { in_order = subst (Ascends 0) is (sorted_ascends keys sorted); taken = none }
