-- The rows of the map in their order: the lists of the arbiters, kind by kind.
use Rattle.std.proofs.Common.{◌≡◌, ℕ, ◌<◌, ◌⊎◌, inl, inr, Bool, true, false, cond, List, [], ◌∷◌, ◌++◌, All, map, refl, sym, ap, ◌∙◌, subst, arith}
use Rattle.std.specs.List.{AllByRecursion, flat_map}
use Rattle.std.proofs.lemmas.Bool.{cases_Bool, cases_order}
use Rattle.std.proofs.lemmas.Bool.Decides.{nat_tests}
use Rattle.std.proofs.lemmas.List.Elements.{All-from_recursion, recursion_from_All}
use Rattle.std.proofs.lemmas.List.Sorted.{All-permutation}
use Rattle.resource_reqs.specs.declared.kind.Kind.{Kind}
use Rattle.resource_reqs.specs.declared.kind.Kind.TheVariants.{Port, Irq, Mem, Dma, Bus}
use Rattle.resource_reqs.specs.declared.owner.Owner.{Owner}
use Rattle.resource_reqs.specs.declared.owner.Owner.TheVariants.{Reserved, Device}
use Rattle.range_arbiter.specs.Pairs.{Pair, is_before, is_less, owner_number, share_number, pairs_with}
use Rattle.range_arbiter.proofs.PairOrder.{before_itself, before_once, not_before_trans}
use Rattle.trial_journal.specs.ByKind.{Lists, of_kind, all_kinds}
use Rattle.trial_journal.proofs.EachKind.{with_at, before, after, split_with, split_own, each_all}
use Rattle.assign_search.specs.Walking.{put_in}
use Rattle.pnp_model.specs.Keyed.{put_before, in_order}
use Rattle.pnp_model.specs.Endings.{comes_before, unit_number}
use Rattle.device_holdings.specs.Mirrors.{lists_with}
use Rattle.device_holdings.specs.MapRows.{owner_at}
use Rattle.device_holdings.proofs.Putting.{permuted}

abbrev pub pair_before : Pair → Pair → Bool
pair_before p q =
    comes_before (unit_number p.1.kind ∷ p.1.lo ∷ p.1.hi ∷ owner_at p.0 ∷ []) (unit_number q.1.kind ∷ q.1.lo ∷ q.1.hi ∷ owner_at q.0 ∷ [])

-- Sorting what is mapped ---------------------------------------------------------------

module _ {A B : Type 0} (f : A → B) (less : B → B → Bool) (low : A → A → Bool) (agree : (x y : A) → less (f x) (f y) ≡ low x y) where
  put_map : (x : A) (ys : List A) → put_before (less (f x)) (f x) (map f ys) ≡ map f (put_before (low x) x ys)
  put_map x [] = refl
  put_map x (y ∷ ys) = rw (agree x y) (by_test (low x y) (put_map x ys))
    where
      by_test : (b : Bool) → put_before (less (f x)) (f x) (map f ys) ≡ map f (put_before (low x) x ys)
          → cond b (f x ∷ f y ∷ map f ys) (f y ∷ put_before (less (f x)) (f x) (map f ys)) ≡ map f (cond b (x ∷ y ∷ ys) (y ∷ put_before (low x) x ys))
      by_test true e = refl
      by_test false e = ap (λ l. f y ∷ l) e

  pub order_map : (xs : List A) → in_order less (map f xs) ≡ map f (in_order low xs)
  order_map [] = refl
  order_map (x ∷ xs) = ap (put_before (less (f x)) (f x)) (order_map xs) ∙ put_map x (in_order low xs)

-- Putting into parts ---------------------------------------------------------------------

module _ (t : Pair → Bool) (p : Pair) where
  skip : (xs ys : List Pair) → AllByRecursion (λ x. t x ≡ false) xs → put_before t p (xs ++ ys) ≡ xs ++ put_before t p ys
  skip [] ys h = refl
  skip (x ∷ xs) ys h = rw h.0 (ap (λ l. x ∷ l) (skip xs ys h.1))

  stop : (xs ys : List Pair) → AllByRecursion (λ y. t y ≡ true) ys → put_before t p (xs ++ ys) ≡ put_before t p xs ++ ys
  stop [] [] h = refl
  stop [] (y ∷ ys) h = rw h.0 refl
  stop (x ∷ xs) ys h = by_test (t x) (stop xs ys h)
    where
      by_test : (b : Bool) → put_before t p (xs ++ ys) ≡ put_before t p xs ++ ys
          → cond b (p ∷ x ∷ (xs ++ ys)) (x ∷ put_before t p (xs ++ ys)) ≡ cond b (p ∷ x ∷ xs) (x ∷ put_before t p xs) ++ ys
      by_test true e = refl
      by_test false e = ap (λ l. x ∷ l) e

-- Two orders of pairs ----------------------------------------------------------------------

-- the same numbers of the same owner
pub record Ties (p q : Pair) : Type 0 where
  pub kind : p.1.kind ≡ q.1.kind
  pub lo : p.1.lo ≡ q.1.lo
  pub hi : p.1.hi ≡ q.1.hi
  pub owner : owner_at p.0 ≡ owner_at q.0

owner_rises : (o u : Owner) → owner_at o < owner_at u → owner_number o < owner_number u
owner_rises Reserved Reserved h = absurd (omega arith)
owner_rises Reserved (Device k) h = omega arith
owner_rises (Device j) Reserved h = absurd (omega arith)
owner_rises (Device j) (Device k) h = omega arith

three_numbers : (u a b o n s a' b' o' n' s' : ℕ) → (o < o' → n < n') → (o' < o → n' < n)
    → ((a ≡ a') × (b ≡ b') × (o ≡ o'))
    ⊎ (((comes_before (u ∷ a ∷ b ∷ o ∷ []) (u ∷ a' ∷ b' ∷ o' ∷ []) ≡ true) × (is_less (a' ∷ b' ∷ n' ∷ s' ∷ []) (a ∷ b ∷ n ∷ s ∷ []) ≡ false))
    ⊎ ((comes_before (u ∷ a ∷ b ∷ o ∷ []) (u ∷ a' ∷ b' ∷ o' ∷ []) ≡ false) × (is_less (a' ∷ b' ∷ n' ∷ s' ∷ []) (a ∷ b ∷ n ∷ s ∷ []) ≡ true)))
three_numbers u a b o n s a' b' o' n' s' up down = elim (cases_order a a') [
  | inr (inl l) ↦ inr (inl (grind (arith, nat_tests), grind (arith, nat_tests)))
  | inr (inr g) ↦ inr (inr (grind (arith, nat_tests), grind (arith, nat_tests)))
  | inl e ↦ elim (cases_order b b') [
    | inr (inl l) ↦ inr (inl (grind (arith, nat_tests), grind (arith, nat_tests)))
    | inr (inr g) ↦ inr (inr (grind (arith, nat_tests), grind (arith, nat_tests)))
    | inl f ↦ elim (cases_order o o') [
      | inr (inl l) ↦ let m = up l in inr (inl (grind (arith, nat_tests), grind (arith, nat_tests)))
      | inr (inr g) ↦ let m = down g in inr (inr (grind (arith, nat_tests), grind (arith, nat_tests)))
      | inl h ↦ inl (e, f, h)
    ]
  ]
]

three : (p q : Pair) → p.1.kind ≡ q.1.kind
    → Ties p q ⊎ (((pair_before p q ≡ true) × (is_before q p ≡ false)) ⊎ ((pair_before p q ≡ false) × (is_before q p ≡ true)))
three p q same =
    let (o, r) = p in let (v, s) = q in
    go (three_numbers (unit_number r.kind) r.lo r.hi (owner_at o) (owner_number o) (share_number r.shared) s.lo s.hi (owner_at v) (owner_number v) (share_number s.shared) (owner_rises o v) (owner_rises v o))
  where
    before : ℕ → Bool
    before n = comes_before (unit_number p.1.kind ∷ p.1.lo ∷ p.1.hi ∷ owner_at p.0 ∷ []) (n ∷ q.1.lo ∷ q.1.hi ∷ owner_at q.0 ∷ [])

    go : ((p.1.lo ≡ q.1.lo) × (p.1.hi ≡ q.1.hi) × (owner_at p.0 ≡ owner_at q.0))
        ⊎ (((before (unit_number p.1.kind) ≡ true) × (is_before q p ≡ false)) ⊎ ((before (unit_number p.1.kind) ≡ false) × (is_before q p ≡ true)))
        → Ties p q ⊎ (((pair_before p q ≡ true) × (is_before q p ≡ false)) ⊎ ((pair_before p q ≡ false) × (is_before q p ≡ true)))
    go (inl (lo, hi, owner)) = inl (record { kind = same; lo = lo; hi = hi; owner = owner })
    go (inr (inl (t, f))) = inr (inl (sym (ap (λ k. before (unit_number k)) same) ∙ t, f))
    go (inr (inr (f, t))) = inr (inr (sym (ap (λ k. before (unit_number k)) same) ∙ f, t))

-- no pair comes before an earlier one
abbrev pub Rises : List Pair → Type 0
Rises [] = Unit {0}
Rises (q ∷ qs) = AllByRecursion (λ r. is_before r q ≡ false) qs × Rises qs

first_put : (qs : List Pair) (p : Pair) → AllByRecursion (λ r. is_before r p ≡ false) qs → pairs_with qs p ≡ p ∷ qs
first_put [] p h = refl
first_put (r ∷ rs) p h = rw h.0 refl

-- at its place by the order of the map
put_same : (p : Pair) (qs : List Pair) → AllByRecursion (λ q. p.1.kind ≡ q.1.kind) qs → AllByRecursion (λ q. Ties p q → p ≡ q) qs → Rises qs
    → put_before (pair_before p) p qs ≡ pairs_with qs p
put_same p [] kinds ties rises = refl
put_same p (q ∷ qs) kinds ties rises = elim (three p q kinds.0) [
  | inl tie ↦ tied (pair_before p q) (ties.0 tie) (put_same p qs kinds.1 ties.1 rises.1)
  | inr (inl (t, f)) ↦ rw (t, f) refl
  | inr (inr (f, t)) ↦ rw (f, t) (ap (λ l. q ∷ l) (put_same p qs kinds.1 ties.1 rises.1))
]
  where
    by_test : (b : Bool) → p ≡ q → put_before (pair_before p) p qs ≡ p ∷ qs → cond b (p ∷ q ∷ qs) (q ∷ put_before (pair_before p) p qs) ≡ p ∷ q ∷ qs
    by_test true same e = refl
    by_test false same e = ap (λ l. q ∷ l) e ∙ ap (λ (x : Pair). x ∷ p ∷ qs) (sym same) ∙ ap (λ (x : Pair). p ∷ x ∷ qs) same

    tied : (b : Bool) → p ≡ q → put_before (pair_before p) p qs ≡ pairs_with qs p → cond b (p ∷ q ∷ qs) (q ∷ put_before (pair_before p) p qs) ≡ pairs_with (q ∷ qs) p
    tied b same rest =
        let here : is_before q p ≡ false = subst (λ (x : Pair). is_before x p ≡ false) same (before_itself p) in
        let after : pairs_with qs p ≡ p ∷ qs = first_put qs p (subst (λ (x : Pair). AllByRecursion (λ r. is_before r x ≡ false) qs) (sym same) rises.0) in
        rw here (by_test b same (rest ∙ after))

-- The lists rise, each with its kind -------------------------------------------------------

all_put : (P : Pair → Type 0) (qs : List Pair) (p : Pair) → P p → AllByRecursion P qs → AllByRecursion P (pairs_with qs p)
all_put P [] p h all = (h, tt)
all_put P (q ∷ qs) p h all = by_test (is_before q p) (all_put P qs p h all.1)
  where
    by_test : (b : Bool) → AllByRecursion P (pairs_with qs p) → AllByRecursion P (cond b (q ∷ pairs_with qs p) (p ∷ q ∷ qs))
    by_test true more = (all.0, more)
    by_test false more = (h, all)

all_weaker : (P Q : Pair → Type 0) → ((x : Pair) → P x → Q x) → (xs : List Pair) → AllByRecursion P xs → AllByRecursion Q xs
all_weaker P Q f [] h = tt
all_weaker P Q f (x ∷ xs) h = (f x h.0, all_weaker P Q f xs h.1)

rises_put : (qs : List Pair) (p : Pair) → Rises qs → Rises (pairs_with qs p)
rises_put [] p h = (tt, tt)
rises_put (q ∷ qs) p h = elim (cases_Bool (is_before q p)) [
  | inl t ↦ rw t (all_put (λ r. is_before r q ≡ false) qs p (before_once q p t) h.0, rises_put qs p h.1)
  | inr f ↦ rw f ((f, all_weaker (λ r. is_before r q ≡ false) (λ r. is_before r p ≡ false) (λ r g. not_before_trans p q r f g) qs h.0), h)
]

pub record Right (k : Kind) (qs : List Pair) : Type 0 where
  pub kinds : AllByRecursion (λ q. q.1.kind ≡ k) qs
  pub rises : Rises qs

right_put : (k : Kind) (qs : List Pair) (p : Pair) → p.1.kind ≡ k → Right k qs → Right k (pairs_with qs p)
right_put k qs p same r = record { kinds = all_put (λ q. q.1.kind ≡ k) qs p same r.kinds; rises = rises_put qs p r.rises }

abbrev AreRight : Lists → Type 0
AreRight l = (kind : Kind) → Right kind (of_kind l kind)

are_put : (l : Lists) (p : Pair) (k : Kind) → p.1.kind ≡ k → AreRight l → AreRight (put_in l k p)
are_put l p k same right = λ j. elim (with_at l k j (pairs_with (of_kind l k) p)) [
  | inl (at, here) ↦ subst (Right j) (sym here) (subst (λ i. Right i (pairs_with (of_kind l k) p)) at (right_put k (of_kind l k) p same (right k)))
  | inr (apart, there) ↦ subst (Right j) (sym there) (right j)
]

are_right : (ps : List Pair) → AreRight (lists_with ps)
are_right [] = none
  where
    none : (kind : Kind) → Right kind (of_kind (lists_with []) kind)
    none Port = record { kinds = tt; rises = tt }
    none Irq = record { kinds = tt; rises = tt }
    none Mem = record { kinds = tt; rises = tt }
    none Dma = record { kinds = tt; rises = tt }
    none Bus = record { kinds = tt; rises = tt }
are_right (p ∷ ps) = are_put (lists_with ps) p p.1.kind refl (are_right ps)

-- One pair more ---------------------------------------------------------------------------

pub join_all : (P : Pair → Type 0) (xs ys : List Pair) → AllByRecursion P xs → AllByRecursion P ys → AllByRecursion P (xs ++ ys)
join_all P [] ys h g = g
join_all P (x ∷ xs) ys h g = (h.0, join_all P xs ys h.1 g)

-- pairs of a lower kind come before, those of a higher kind after
later_kind : (p : Pair) (k : Kind) (qs : List Pair) → unit_number p.1.kind < unit_number k → AllByRecursion (λ q. q.1.kind ≡ k) qs → AllByRecursion (λ q. pair_before p q ≡ true) qs
later_kind p k qs less kinds =
    all_weaker (λ q. q.1.kind ≡ k) (λ q. pair_before p q ≡ true) (λ q is.
    let lower : unit_number p.1.kind < unit_number q.1.kind = subst (λ j. unit_number p.1.kind < unit_number j) (sym is) less in grind (arith, nat_tests)) qs kinds

earlier_kind : (p : Pair) (k : Kind) (qs : List Pair) → unit_number k < unit_number p.1.kind → AllByRecursion (λ q. q.1.kind ≡ k) qs → AllByRecursion (λ q. pair_before p q ≡ false) qs
earlier_kind p k qs less kinds =
    all_weaker (λ q. q.1.kind ≡ k) (λ q. pair_before p q ≡ false) (λ q is.
    let lower : unit_number q.1.kind < unit_number p.1.kind = subst (λ j. unit_number j < unit_number p.1.kind) (sym is) less in grind (arith, nat_tests)) qs kinds

-- the kinds before one are lower, those after it higher
lower : (k : Kind) → AllByRecursion (λ j. unit_number j < unit_number k) (before k)
lower Port = tt
lower Irq = (omega arith, tt)
lower Mem = (omega arith, (omega arith, tt))
lower Dma = (omega arith, (omega arith, (omega arith, tt)))
lower Bus = (omega arith, (omega arith, (omega arith, (omega arith, tt))))

higher : (k : Kind) → AllByRecursion (λ j. unit_number k < unit_number j) (after k)
higher Port = (omega arith, (omega arith, (omega arith, (omega arith, tt))))
higher Irq = (omega arith, (omega arith, (omega arith, tt)))
higher Mem = (omega arith, (omega arith, tt))
higher Dma = (omega arith, tt)
higher Bus = tt

module _ (p : Pair) (l : Lists) (right : AreRight l) (ties : All (λ q. Ties p q → p ≡ q) (all_kinds l)) where
  here : put_before (pair_before p) p (of_kind l p.1.kind) ≡ pairs_with (of_kind l p.1.kind) p
  here =
      let own = right p.1.kind in
      put_same p (of_kind l p.1.kind) (all_weaker (λ q. q.1.kind ≡ p.1.kind) (λ q. p.1.kind ≡ q.1.kind) (λ q is. sym is) (of_kind l p.1.kind) own.kinds)
      (recursion_from_All (λ q. Ties p q → p ≡ q) (of_kind l p.1.kind) (each_all (λ q. Ties p q → p ≡ q) l p.1.kind ties)) own.rises

  earlier : (kinds : List Kind) → AllByRecursion (λ k. unit_number k < unit_number p.1.kind) kinds → AllByRecursion (λ q. pair_before p q ≡ false) (flat_map (of_kind l) kinds)
  earlier [] less = tt
  earlier (k ∷ kinds) less =
      join_all (λ q. pair_before p q ≡ false) (of_kind l k) (flat_map (of_kind l) kinds) (earlier_kind p k (of_kind l k) less.0 (right k).kinds) (earlier kinds less.1)

  later : (kinds : List Kind) → AllByRecursion (λ k. unit_number p.1.kind < unit_number k) kinds → AllByRecursion (λ q. pair_before p q ≡ true) (flat_map (of_kind l) kinds)
  later [] less = tt
  later (k ∷ kinds) less =
      join_all (λ q. pair_before p q ≡ true) (of_kind l k) (flat_map (of_kind l) kinds) (later_kind p k (of_kind l k) less.0 (right k).kinds) (later kinds less.1)

  one_more : put_before (pair_before p) p (all_kinds l) ≡ all_kinds (put_in l p.1.kind p)
  one_more =
      let k = p.1.kind in
      let first = flat_map (of_kind l) (before k) in
      let last = flat_map (of_kind l) (after k) in
      ap (put_before (pair_before p) p) (split_own l k)
      ∙ skip (pair_before p) p first (of_kind l k ++ last) (earlier (before k) (lower k))
      ∙ ap (λ ps. first ++ ps) (stop (pair_before p) p (of_kind l k) last (later (after k) (higher k)) ∙ ap (λ ps. ps ++ last) here)
      ∙ sym (split_with l k (pairs_with (of_kind l k) p))

-- two that tie are one
abbrev pub TieFree : List Pair → Type 0
TieFree [] = Unit {0}
TieFree (p ∷ ps) = AllByRecursion (λ q. Ties p q → p ≡ q) ps × TieFree ps

pub order_is : (ps : List Pair) → TieFree ps → in_order pair_before ps ≡ all_kinds (lists_with ps)
order_is [] h = refl
order_is (p ∷ ps) h =
    ap (put_before (pair_before p) p) (order_is ps h.1)
    ∙ one_more p (lists_with ps) (are_right ps)
    (All-permutation (λ q. Ties p q → p ≡ q) ps (all_kinds (lists_with ps)) (permuted ps) (All-from_recursion (λ q. Ties p q → p ≡ q) ps h.0))
