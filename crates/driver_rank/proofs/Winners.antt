-- The first of a list is one of it, and none of it goes before.
use Rattle.std.proofs.Common.{◌≡◌, ℕ, ◌<◌, Bool, true, false, cond, List, [], ◌∷◌, length, get_or, arith, ap, sym, refl, ◌∙◌, Option, Some, None, zero, suc, inl, inr, ◌⊎◌, ⊎_elim}
use Rattle.std.specs.List.{Contains}
use Rattle.std.proofs.lemmas.Bool.{cases_Bool}
use Rattle.driver_rank.specs.First.{first_of, least_of}
use Rattle.driver_rank.proofs.Firsts.{IsWeakOrder}

module _ {X : Type 0} (before : X → X → Bool) where
  some_chosen : (b : Bool) (x y : X) → cond b (Some y) (Some x) ≡ None → ⊥
  some_chosen true x y e = cc
  some_chosen false x y e = cc

  never_none : (x : X) (o : Option X) → first_of before (Some x) o ≡ None → ⊥
  never_none x None e = cc
  never_none x (Some y) e = some_chosen (before y x) x y e

  -- there is no first one only where there is none
  pub least_of-None : (xs : List X) → least_of before xs ≡ None → xs ≡ []
  least_of-None [] e = refl
  least_of-None (x ∷ xs) e = absurd (never_none x (least_of before xs) e)

  one_of : (b : Bool) (x y l : X) → cond b (Some y) (Some x) ≡ Some l → (x ≡ l) ⊎ (Some y ≡ Some l)
  one_of true x y l e = inr e
  one_of false x y l e = inl (cc)

  either : (x : X) (o : Option X) (l : X) → first_of before (Some x) o ≡ Some l → (x ≡ l) ⊎ (o ≡ Some l)
  either x None l e = inl (cc)
  either x (Some y) l e = one_of (before y x) x y l e

  pub least_in : (xs : List X) (l : X) → least_of before xs ≡ Some l → Contains xs l
  least_in [] l e = absurd (cc)
  least_in (x ∷ xs) l e = ⊎_elim (λ same. (0, omega arith, same)) (λ later. let w = least_in xs l later in (suc w.0, omega arith, w.2)) (either x (least_of before xs) l e)

  module _ (order : IsWeakOrder before) (same_last : (x : X) → before x x ≡ false) where
    asym : (x y : X) → before y x ≡ true → before x y ≡ false
    asym x y later = ⊎_elim (λ both. let self : before y y ≡ true = order.trans y x y later both in let not_self = same_last y in absurd (cc)) (λ apart. apart) (cases_Bool (before x y))

    -- the first of two goes behind neither of them
    chosen : (b : Bool) (x y l : X) → before y x ≡ b → cond b (Some y) (Some x) ≡ Some l → (before x l ≡ false) × (before y l ≡ false)
    chosen true x y l test e = let same : y ≡ l = cc in (ap (before x) (sym same) ∙ asym x y test, ap (before y) (sym same) ∙ same_last y)
    chosen false x y l test e = let same : x ≡ l = cc in (ap (before x) (sym same) ∙ same_last x, ap (before y) (sym same) ∙ test)

    not_first : (x : X) (o : Option X) (l : X) → first_of before (Some x) o ≡ Some l → before x l ≡ false
    not_first x None l e = let same : x ≡ l = cc in ap (before x) (sym same) ∙ same_last x
    not_first x (Some y) l e = (chosen (before y x) x y l refl e).0

    not_later : (x : X) (o : Option X) (l : X) (xs : List X) → least_of before xs ≡ o → 0 < length xs → first_of before (Some x) o ≡ Some l → (other : X) → ((y : X) → o ≡ Some y → before other y ≡ false) → before other l ≡ false
    not_later x None l xs at some e other rest = let none = ap length (least_of-None xs at) in absurd (omega arith)
    not_later x (Some y) l xs at some e other rest = order.apart other y l (rest y refl) (chosen (before y x) x y l refl e).1

    least_at : (xs : List X) (k : ℕ) (other l : X) → k < length xs → get_or xs k other ≡ other → least_of before xs ≡ Some l → before other l ≡ false
    least_at [] k other l within at e = absurd (omega arith)
    least_at (x ∷ xs) zero other l within at e = ap (λ t. before t l) (sym at) ∙ not_first x (least_of before xs) l e
    least_at (x ∷ xs) (suc k) other l within at e = not_later x (least_of before xs) l xs refl (omega arith) e other (λ y is. least_at xs k other y (omega arith) at is)

    -- nothing in the list goes before the first
    pub none_before : (xs : List X) (l : X) → least_of before xs ≡ Some l → (other : X) → Contains xs other → before other l ≡ false
    none_before xs l e other among = least_at xs among.0 other l among.1 among.2 e
