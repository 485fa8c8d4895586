-- Members of lists of pairs, lists in order, and a pair put into a list that is parted at another one.
use Rattle.std.proofs.Common.{◌≡◌, zero, suc, false, ◌⊎◌, inl, inr, List, [], ◌∷◌, ◌++◌, Contains, refl, sym, ◌∙◌, ap, ap₂, subst, arith}
use Rattle.std.proofs.lemmas.Bool.{cases_Bool}
use Rattle.resource_reqs.specs.declared.kind.Kind.{Kind}
use Rattle.range_arbiter.specs.Pairs.{Pair, is_before, pairs_with}
use Rattle.range_arbiter.specs.Orders.{In, IsOrdered, AreOfKind}
use Rattle.range_arbiter.proofs.PairOrder.{before_once, not_before_trans, same_pair}
use Rattle.range_arbiter.proofs.PairLists.{with_behind, with_here}

pub in_append : (p : Pair) (xs ys : List Pair) → In p (xs ++ ys) → In p xs ⊎ In p ys
in_append p [] ys i = inr i
in_append p (x ∷ xs) ys (inl e) = inl (inl e)
in_append p (x ∷ xs) ys (inr i) = elim (in_append p xs ys i) [ inl k ↦ inl (inr k) | inr k ↦ inr k ]

pub in_left : (p : Pair) (xs ys : List Pair) → In p xs → In p (xs ++ ys)
in_left p [] ys i = absurd i
in_left p (x ∷ xs) ys (inl e) = inl e
in_left p (x ∷ xs) ys (inr i) = inr (in_left p xs ys i)

pub in_right : (p : Pair) (xs ys : List Pair) → In p ys → In p (xs ++ ys)
in_right p [] ys i = i
in_right p (x ∷ xs) ys i = inr (in_right p xs ys i)

pub in_of : (p : Pair) (xs : List Pair) → Contains xs p → In p xs
in_of p [] (i, inside, is) = absurd (omega arith)
in_of p (x ∷ xs) (zero, inside, is) = inl (sym is)
in_of p (x ∷ xs) (suc i, inside, is) = inr (in_of p xs (i, omega arith, is))

pub in_with : (q : Pair) (xs : List Pair) (p : Pair) → In q (pairs_with xs p) → (q ≡ p) ⊎ In q xs
in_with q [] p (inl e) = inl e
in_with q [] p (inr i) = absurd i
in_with q (x ∷ xs) p i = elim (cases_Bool (is_before x p)) [
  | inl h ↦ behind (in_with q xs p) (subst (In q) (with_behind x xs p h) i)
  | inr h ↦ here (subst (In q) (with_here x xs p h) i)
]
  where
    behind : (In q (pairs_with xs p) → (q ≡ p) ⊎ In q xs) → In q (x ∷ pairs_with xs p) → (q ≡ p) ⊎ In q (x ∷ xs)
    behind more (inl e) = inr (inl e)
    behind more (inr k) = elim (more k) [ inl e ↦ inl e | inr m ↦ inr (inr m) ]

    here : In q (p ∷ x ∷ xs) → (q ≡ p) ⊎ In q (x ∷ xs)
    here (inl e) = inl e
    here (inr k) = inr k

pub in_keeps : (q : Pair) (xs : List Pair) (p : Pair) → In q xs → In q (pairs_with xs p)
in_keeps q [] p i = absurd i
in_keeps q (x ∷ xs) p i = elim (cases_Bool (is_before x p)) [
  | inl h ↦ subst (In q) (sym (with_behind x xs p h)) (behind (in_keeps q xs p) i)
  | inr h ↦ subst (In q) (sym (with_here x xs p h)) (inr i)
]
  where
    behind : (In q xs → In q (pairs_with xs p)) → In q (x ∷ xs) → In q (x ∷ pairs_with xs p)
    behind more (inl e) = inl e
    behind more (inr k) = inr (more k)

-- parts of a list in order
pub ordered_left : (xs ys : List Pair) → IsOrdered (xs ++ ys) → IsOrdered xs
ordered_left [] ys up = tt
ordered_left (x ∷ xs) ys up = (λ q i. up.0 q (in_left q xs ys i), ordered_left xs ys up.1)

pub ordered_right : (xs ys : List Pair) → IsOrdered (xs ++ ys) → IsOrdered ys
ordered_right [] ys up = up
ordered_right (x ∷ xs) ys up = ordered_right xs ys up.1

pub ordered_across : (xs ys : List Pair) → IsOrdered (xs ++ ys) → (p q : Pair) → In p xs → In q ys → is_before q p ≡ false
ordered_across [] ys up p q i k = absurd i
ordered_across (x ∷ xs) ys up p q (inl e) k = subst (λ z. is_before q z ≡ false) (sym e) (up.0 q (in_right q xs ys k))
ordered_across (x ∷ xs) ys up p q (inr i) k = ordered_across xs ys up.1 p q i k

-- a list in order stays so with a pair put in, and without it
pub ordered_with : (xs : List Pair) (p : Pair) → IsOrdered xs → IsOrdered (pairs_with xs p)
ordered_with [] p up = (λ q i. absurd i, tt)
ordered_with (x ∷ xs) p up = elim (cases_Bool (is_before x p)) [
  | inl h ↦ subst IsOrdered (sym (with_behind x xs p h)) (
    λ q i. elim (in_with q xs p i) [
      | inl e ↦ subst (λ z. is_before z x ≡ false) (sym e) (before_once x p h)
      | inr k ↦ up.0 q k
    ],
    ordered_with xs p up.1,
  )
  | inr h ↦ subst IsOrdered (sym (with_here x xs p h)) (λ q i. after q i h, up)
]
  where
    after : (q : Pair) → In q (x ∷ xs) → is_before x p ≡ false → is_before q p ≡ false
    after q (inl e) h = subst (λ z. is_before z p ≡ false) (sym e) h
    after q (inr i) h = not_before_trans p x q h (up.0 q i)

pub ordered_without : (xs : List Pair) (p : Pair) → IsOrdered (pairs_with xs p) → IsOrdered xs
ordered_without [] p up = tt
ordered_without (x ∷ xs) p up = elim (cases_Bool (is_before x p)) [
  | inl h ↦
      let whole : IsOrdered (x ∷ pairs_with xs p) = subst IsOrdered (with_behind x xs p h) up in
      (λ q i. whole.0 q (in_keeps q xs p i), ordered_without xs p whole.1)
  | inr h ↦ (let whole : IsOrdered (p ∷ x ∷ xs) = subst IsOrdered (with_here x xs p h) up in whole.1)
]

pub kinds_with : (kind : Kind) (xs : List Pair) (p : Pair) → p.1.kind ≡ kind → AreOfKind kind xs → AreOfKind kind (pairs_with xs p)
kinds_with kind xs p same kinds q i = elim (in_with q xs p i) [ inl e ↦ ap (λ (z : Pair). z.1.kind) e ∙ same | inr k ↦ kinds q k ]

pub kinds_without : (kind : Kind) (xs : List Pair) (p : Pair) → AreOfKind kind (pairs_with xs p) → AreOfKind kind xs
kinds_without kind xs p kinds q i = kinds q (in_keeps q xs p i)

-- a pair stands in a list in order where `pairs_with` puts it, whichever of its equals it is
at_front : (ys : List Pair) (p : Pair) → ((y : Pair) → In y ys → is_before y p ≡ false) → pairs_with ys p ≡ p ∷ ys
at_front [] p h = refl
at_front (y ∷ ys) p h = with_here y ys p (h y (inl refl))

pub with_same : (xs ys : List Pair) (p : Pair) → IsOrdered (xs ++ p ∷ ys) → AreOfKind p.1.kind xs → pairs_with (xs ++ ys) p ≡ xs ++ p ∷ ys
with_same [] ys p up kinds = at_front ys p up.0
with_same (x ∷ xs) ys p up kinds = go (with_same xs ys p up.1 (λ q i. kinds q (inr i)))
  where
    front : x ≡ p → pairs_with (xs ++ ys) p ≡ p ∷ (xs ++ ys)
    front one = at_front (xs ++ ys) p (λ y i. subst (λ z. is_before y z ≡ false) one (up.0 y (elim (in_append y xs ys i) [
      | inl k ↦ in_left y xs (p ∷ ys) k
      | inr k ↦ in_right y xs (p ∷ ys) (inr k)
    ])))

    go : pairs_with (xs ++ ys) p ≡ xs ++ p ∷ ys → pairs_with ((x ∷ xs) ++ ys) p ≡ (x ∷ xs) ++ p ∷ ys
    go more = elim (cases_Bool (is_before x p)) [
      | inl b ↦ with_behind x (xs ++ ys) p b ∙ ap (λ l. x ∷ l) more
      | inr b ↦
          let one : x ≡ p = same_pair x p (kinds x (inl refl)) b (up.0 p (in_right p xs (p ∷ ys) (inl refl))) in
          with_here x (xs ++ ys) p b ∙ ap₂ (λ a c. a ∷ c ∷ (xs ++ ys)) (sym one) one ∙ ap (λ l. x ∷ l) (sym (front one) ∙ more)
    ]
