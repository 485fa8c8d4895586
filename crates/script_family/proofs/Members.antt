-- Which scripts stand in the lists: those of the family.
use Rattle.std.proofs.Common.{◌≡◌, refl, sym, ◌∙◌, ap, subst, ℕ, zero, suc, ◌+◌, ◌-◌, ◌<◌, ◌≤◌, ◌⊎◌, inl, inr, Bool, true, false, List, [], ◌∷◌, ◌++◌, map, length, get_or, arith, length-append}
use Rattle.std.specs.List.{flat_map, Contains}
use Rattle.std.specs.Prelude.{◌↔◌}
use Rattle.std.proofs.lemmas.Bool.{cases_lt}
use Rattle.std.proofs.lemmas.List.{get_or_append_left, get_or-append_right}
use Rattle.script_family.specs.Families.{Family, Silent, Says, Followed, Chosen, Woven, Script, patterns, woven, pairs, over, alone, scripts_of, scripts, most, Weaves, over_both, takes_first, takes_second, IsScript, silent, says, followed, chosen_first, chosen_second, woven_both}

-- it is one of the elements
abbrev pub Elem : {X : Type 0} → X → List X → Type 0
Elem x [] = ⊥
Elem x (y ∷ ys) = (x ≡ y) ⊎ Elem x ys

pub elem_left : {X : Type 0} (x : X) (xs ys : List X) → Elem x xs → Elem x (xs ++ ys)
elem_left x [] ys h = absurd h
elem_left x (y ∷ xs) ys (inl e) = inl e
elem_left x (y ∷ xs) ys (inr h) = inr (elem_left x xs ys h)

pub elem_right : {X : Type 0} (x : X) (xs ys : List X) → Elem x ys → Elem x (xs ++ ys)
elem_right x [] ys h = h
elem_right x (y ∷ xs) ys h = inr (elem_right x xs ys h)

pub elem_split : {X : Type 0} (x : X) (xs ys : List X) → Elem x (xs ++ ys) → Elem x xs ⊎ Elem x ys
elem_split x [] ys h = inr h
elem_split x (y ∷ xs) ys (inl e) = inl (inl e)
elem_split x (y ∷ xs) ys (inr h) = elim (elem_split x xs ys h) [ inl a ↦ inl (inr a) | inr b ↦ inr b ]

pub elem_map : {X Y : Type 0} (f : X → Y) (x : X) (xs : List X) → Elem x xs → Elem (f x) (map f xs)
elem_map f x [] h = absurd h
elem_map f x (y ∷ xs) (inl e) = inl (ap f e)
elem_map f x (y ∷ xs) (inr h) = inr (elem_map f x xs h)

pub elem_of_map : {X Y : Type 0} (f : X → Y) (z : Y) (xs : List X) → Elem z (map f xs) → (x : X) × Elem x xs × (z ≡ f x)
elem_of_map f z [] h = absurd h
elem_of_map f z (y ∷ xs) (inl e) = (y, inl refl, e)
elem_of_map f z (y ∷ xs) (inr h) = let r = elem_of_map f z xs h in (r.0, inr r.1, r.2)

pub elem_flat : {X Y : Type 0} (f : X → List Y) (x : X) (z : Y) (xs : List X) → Elem x xs → Elem z (f x) → Elem z (flat_map f xs)
elem_flat f x z [] h k = absurd h
elem_flat f x z (y ∷ xs) (inl e) k = elem_left z (f y) (flat_map f xs) (subst (λ v. Elem z (f v)) e k)
elem_flat f x z (y ∷ xs) (inr h) k = elem_right z (f y) (flat_map f xs) (elem_flat f x z xs h k)

pub elem_of_flat : {X Y : Type 0} (f : X → List Y) (z : Y) (xs : List X) → Elem z (flat_map f xs) → (x : X) × Elem x xs × Elem z (f x)
elem_of_flat f z [] h = absurd h
elem_of_flat f z (y ∷ xs) h =
    elim (elem_split z (f y) (flat_map f xs) h) [
      | inl a ↦ (y, inl refl, a)
      | inr b ↦ let r = elem_of_flat f z xs b in (r.0, inr r.1, r.2)
    ]

last_or_below : (k n : ℕ) → k < suc n → (k < n) ⊎ (k ≡ n)
last_or_below zero zero lt = inr refl
last_or_below zero (suc n) lt = inl (omega arith)
last_or_below (suc k) zero lt = absurd (omega arith)
last_or_below (suc k) (suc n) lt = elim (last_or_below k n (omega arith)) [ inl h ↦ inl (omega arith) | inr e ↦ inr (ap suc e) ]

pub elem_over : (f : ℕ → List Script) (n k : ℕ) (z : Script) → k < n → Elem z (f k) → Elem z (over f n)
elem_over f zero k z lt h = absurd (omega arith)
elem_over f (suc n) k z lt h =
    elim (last_or_below k n lt) [
      | inl below ↦ elem_left z (over f n) (f n) (elem_over f n k z below h)
      | inr e ↦ elem_right z (over f n) (f n) (subst (λ m. Elem z (f m)) e h)
    ]

pub elem_of_over : (f : ℕ → List Script) (n : ℕ) (z : Script) → Elem z (over f n) → (k : ℕ) × (k < n) × Elem z (f k)
elem_of_over f zero z h = absurd h
elem_of_over f (suc n) z h =
    elim (elem_split z (over f n) (f n) h) [
      | inl a ↦ let r = elem_of_over f n z a in (r.0, omega (arith, r.1), r.2)
      | inr b ↦ (n, omega arith, b)
    ]

pub elem_pairs : (f : Script → Script → List Script) (x y z : Script) (xs ys : List Script) → Elem x xs → Elem y ys → Elem z (f x y) → Elem z (pairs f xs ys)
elem_pairs f x y z xs ys hx hy hz = elem_flat (λ v. flat_map (f v) ys) x z xs hx (elem_flat (f x) y z ys hy hz)

pub elem_of_pairs : (f : Script → Script → List Script) (z : Script) (xs ys : List Script) → Elem z (pairs f xs ys)
    → (x : Script) × (y : Script) × Elem x xs × Elem y ys × Elem z (f x y)
elem_of_pairs f z xs ys h =
    let r = elem_of_flat (λ v. flat_map (f v) ys) z xs h in
    let s = elem_of_flat (f r.0) z ys r.2 in
    (r.0, s.0, r.1, s.1, s.2)

-- Weaving ----------------------------------------------------------------------------------------

pub patterns_few : (n k : ℕ) (p : List Bool) → Elem p (patterns n k) → k ≤ n
patterns_few zero zero p h = omega arith
patterns_few zero (suc k) p h = absurd h
patterns_few (suc n) zero p h = omega arith
patterns_few (suc n) (suc k) p h =
    elim (elem_split p (map (λ q. true ∷ q) (patterns n k)) (map (λ q. false ∷ q) (patterns n (suc k))) h) [
      | inl a ↦ let r = elem_of_map (λ q. true ∷ q) p (patterns n k) a in let le : k ≤ n = patterns_few n k r.0 r.1 in omega arith
      | inr b ↦ let r = elem_of_map (λ q. false ∷ q) p (patterns n (suc k)) b in let le : suc k ≤ n = patterns_few n (suc k) r.0 r.1 in omega arith
    ]

pub weaves_by : (n k : ℕ) (p : List Bool) (xs ys : Script) → Elem p (patterns n k) → length xs ≡ k → length ys + k ≡ n → Weaves xs ys (woven p xs ys)
weaves_by zero zero p [] [] h lx ly = elim h [ inl e ↦ subst (λ q. Weaves [] [] (woven q [] [])) (sym e) over_both | inr g ↦ absurd g ]
weaves_by zero zero p [] (y ∷ ys) h lx ly = absurd (omega arith)
weaves_by zero zero p (x ∷ xs) ys h lx ly = absurd (omega arith)
weaves_by zero (suc k) p xs ys h lx ly = absurd h
weaves_by (suc n) zero p (x ∷ xs) ys h lx ly = absurd (omega arith)
weaves_by (suc n) zero p [] [] h lx ly = absurd (omega arith)
weaves_by (suc n) zero p [] (y ∷ ys) h lx ly =
    let r = elem_of_map (λ q. false ∷ q) p (patterns n zero) h in
    subst (λ q. Weaves [] (y ∷ ys) (woven q [] (y ∷ ys))) (sym r.2)
    (takes_second y [] ys (woven r.0 [] ys) (weaves_by n zero r.0 [] ys r.1 refl (omega arith)))
weaves_by (suc n) (suc k) p [] ys h lx ly = absurd (omega arith)
weaves_by (suc n) (suc k) p (x ∷ xs) [] h lx ly =
    elim (elem_split p (map (λ q. true ∷ q) (patterns n k)) (map (λ q. false ∷ q) (patterns n (suc k))) h) [
      | inl a ↦
          let r = elem_of_map (λ q. true ∷ q) p (patterns n k) a in
          subst (λ q. Weaves (x ∷ xs) [] (woven q (x ∷ xs) [])) (sym r.2)
          (takes_first x xs [] (woven r.0 xs []) (weaves_by n k r.0 xs [] r.1 (omega arith) (omega arith)))
      | inr b ↦
          let r = elem_of_map (λ q. false ∷ q) p (patterns n (suc k)) b in
          let le : suc k ≤ n = patterns_few n (suc k) r.0 r.1 in
          absurd (omega arith)
    ]
weaves_by (suc n) (suc k) p (x ∷ xs) (y ∷ ys) h lx ly =
    elim (elem_split p (map (λ q. true ∷ q) (patterns n k)) (map (λ q. false ∷ q) (patterns n (suc k))) h) [
      | inl a ↦
          let r = elem_of_map (λ q. true ∷ q) p (patterns n k) a in
          subst (λ q. Weaves (x ∷ xs) (y ∷ ys) (woven q (x ∷ xs) (y ∷ ys))) (sym r.2)
          (takes_first x xs (y ∷ ys) (woven r.0 xs (y ∷ ys)) (weaves_by n k r.0 xs (y ∷ ys) r.1 (omega arith) (omega arith)))
      | inr b ↦
          let r = elem_of_map (λ q. false ∷ q) p (patterns n (suc k)) b in
          subst (λ q. Weaves (x ∷ xs) (y ∷ ys) (woven q (x ∷ xs) (y ∷ ys))) (sym r.2)
          (takes_second y (x ∷ xs) ys (woven r.0 (x ∷ xs) ys) (weaves_by n (suc k) r.0 (x ∷ xs) ys r.1 lx (omega arith)))
    ]

-- the way of two scripts that are woven
pub pattern_second : (n k : ℕ) (p : List Bool) → Elem p (patterns n k) → Elem (false ∷ p) (patterns (suc n) k)
pattern_second n zero p h = elem_map (λ q. false ∷ q) p (patterns n zero) h
pattern_second n (suc k) p h =
    elem_right (false ∷ p) (map (λ q. true ∷ q) (patterns n k)) (map (λ q. false ∷ q) (patterns n (suc k))) (elem_map (λ q. false ∷ q) p (patterns n (suc k)) h)

pub way_of : (xs ys zs : Script) → Weaves xs ys zs → (p : List Bool) × Elem p (patterns (length zs) (length xs)) × (zs ≡ woven p xs ys)
way_of _ _ _ over_both = ([], inl refl, refl)
way_of _ _ _ (takes_first x xs ys zs w) =
    let r = way_of xs ys zs w in (
      true ∷ r.0,
      elem_left (true ∷ r.0) (map (λ q. true ∷ q) (patterns (length zs) (length xs))) (map (λ q. false ∷ q) (patterns (length zs) (suc (length xs))))
          (elem_map (λ q. true ∷ q) r.0 (patterns (length zs) (length xs)) r.1),
      ap (λ v. x ∷ v) r.2,
    )
way_of _ _ _ (takes_second y xs ys zs w) =
    let r = way_of xs ys zs w in
    (false ∷ r.0, pattern_second (length zs) (length xs) r.0 r.1, ap (λ v. y ∷ v) r.2)

pub length_weaves : (xs ys zs : Script) → Weaves xs ys zs → length zs ≡ length xs + length ys
length_weaves _ _ _ over_both = omega arith
length_weaves _ _ _ (takes_first x xs ys zs w) = let e : length zs ≡ length xs + length ys = length_weaves xs ys zs w in omega arith
length_weaves _ _ _ (takes_second y xs ys zs w) = let e : length zs ≡ length xs + length ys = length_weaves xs ys zs w in omega arith

-- Each script of the list of n lines has n lines -----------------------------------------------------

length_said : (line n : ℕ) (s : Script) → Elem s (alone line n) → (length s ≡ n) × (s ≡ line ∷ [])
length_said line zero s h = absurd h
length_said line (suc zero) s (inl e) = (ap length e, e)
length_said line (suc zero) s (inr h) = absurd h
length_said line (suc (suc n)) s h = absurd h

add_back : (n k : ℕ) → k < suc n → k + (n - k) ≡ n
add_back n k lt = omega arith

pub length_of : (f : Family) (n : ℕ) (s : Script) → Elem s (scripts_of f n) → length s ≡ n
length_of Silent zero s h = elim h [ inl e ↦ ap length e | inr g ↦ absurd g ]
length_of Silent (suc n) s h = absurd h
length_of (Says line) n s h = (length_said line n s h).0
length_of (Followed a b) n s h =
    let r = elem_of_over (λ k. pairs (λ x y. (x ++ y) ∷ []) (scripts_of a k) (scripts_of b (n - k))) (suc n) s h in
    let q = elem_of_pairs (λ x y. (x ++ y) ∷ []) s (scripts_of a r.0) (scripts_of b (n - r.0)) r.2 in
    let lx : length q.0 ≡ r.0 = length_of a r.0 q.0 q.2 in
    let ly : length q.1 ≡ n - r.0 = length_of b (n - r.0) q.1 q.3 in
    let is : s ≡ q.0 ++ q.1 = elim q.4 [ inl e ↦ e | inr g ↦ absurd g ] in
    ap length is ∙ length-append q.0 q.1 ∙ ap (λ m. m + length q.1) lx ∙ ap (λ m. r.0 + m) ly ∙ add_back n r.0 r.1
length_of (Chosen a b) n s h = elim (elem_split s (scripts_of a n) (scripts_of b n) h) [ inl x ↦ length_of a n s x | inr y ↦ length_of b n s y ]
length_of (Woven a b) n s h =
    let r = elem_of_over (λ k. pairs (λ x y. map (λ p. woven p x y) (patterns n k)) (scripts_of a k) (scripts_of b (n - k))) (suc n) s h in
    let q = elem_of_pairs (λ x y. map (λ p. woven p x y) (patterns n r.0)) s (scripts_of a r.0) (scripts_of b (n - r.0)) r.2 in
    let lx : length q.0 ≡ r.0 = length_of a r.0 q.0 q.2 in
    let ly : length q.1 ≡ n - r.0 = length_of b (n - r.0) q.1 q.3 in
    let w = elem_of_map (λ p. woven p q.0 q.1) s (patterns n r.0) q.4 in
    let k_is : length q.1 + r.0 ≡ n = omega (arith, ly, r.1) in
    ap length w.2 ∙ length_weaves q.0 q.1 (woven w.0 q.0 q.1) (weaves_by n r.0 w.0 q.0 q.1 w.1 lx k_is)
    ∙ ap (λ m. m + length q.1) lx ∙ ap (λ m. r.0 + m) ly ∙ add_back n r.0 r.1

-- What stands in the list is a script ----------------------------------------------------------------

pub is_script_of : (f : Family) (n : ℕ) (s : Script) → Elem s (scripts_of f n) → IsScript f s
is_script_of Silent zero s h = elim h [ inl e ↦ subst (λ v. IsScript Silent v) (sym e) silent | inr g ↦ absurd g ]
is_script_of Silent (suc n) s h = absurd h
is_script_of (Says line) n s h = subst (λ v. IsScript (Says line) v) (sym (length_said line n s h).1) (says line)
is_script_of (Followed a b) n s h =
    let r = elem_of_over (λ k. pairs (λ x y. (x ++ y) ∷ []) (scripts_of a k) (scripts_of b (n - k))) (suc n) s h in
    let q = elem_of_pairs (λ x y. (x ++ y) ∷ []) s (scripts_of a r.0) (scripts_of b (n - r.0)) r.2 in
    let is : s ≡ q.0 ++ q.1 = elim q.4 [ inl e ↦ e | inr g ↦ absurd g ] in
    subst (λ v. IsScript (Followed a b) v) (sym is) (followed a b q.0 q.1 (is_script_of a r.0 q.0 q.2) (is_script_of b (n - r.0) q.1 q.3))
is_script_of (Chosen a b) n s h =
    elim (elem_split s (scripts_of a n) (scripts_of b n) h) [
      | inl x ↦ chosen_first a b s (is_script_of a n s x)
      | inr y ↦ chosen_second a b s (is_script_of b n s y)
    ]
is_script_of (Woven a b) n s h =
    let r = elem_of_over (λ k. pairs (λ x y. map (λ p. woven p x y) (patterns n k)) (scripts_of a k) (scripts_of b (n - k))) (suc n) s h in
    let q = elem_of_pairs (λ x y. map (λ p. woven p x y) (patterns n r.0)) s (scripts_of a r.0) (scripts_of b (n - r.0)) r.2 in
    let lx : length q.0 ≡ r.0 = length_of a r.0 q.0 q.2 in
    let ly : length q.1 ≡ n - r.0 = length_of b (n - r.0) q.1 q.3 in
    let w = elem_of_map (λ p. woven p q.0 q.1) s (patterns n r.0) q.4 in
    let k_is : length q.1 + r.0 ≡ n = omega (arith, ly, r.1) in
    subst (λ v. IsScript (Woven a b) v) (sym w.2)
    (woven_both a b q.0 q.1 (woven w.0 q.0 q.1) (is_script_of a r.0 q.0 q.2) (is_script_of b (n - r.0) q.1 q.3)
    (weaves_by n r.0 w.0 q.0 q.1 w.1 lx k_is))

-- A script stands in the list of its number of lines -------------------------------------------------

minus_of : (n k m : ℕ) → n ≡ k + m → (n - k ≡ m) × (k < suc n)
minus_of n k m e = (omega arith, omega arith)

pub stands : (f : Family) (s : Script) → IsScript f s → Elem s (scripts_of f (length s))
stands _ _ silent = inl refl
stands _ _ (says line) = inl refl
stands _ _ (followed a b x y hx hy) =
    let m = minus_of (length (x ++ y)) (length x) (length y) (length-append x y) in
    elem_over (λ k. pairs (λ u v. (u ++ v) ∷ []) (scripts_of a k) (scripts_of b (length (x ++ y) - k))) (suc (length (x ++ y))) (length x) (x ++ y) m.1
    (elem_pairs (λ u v. (u ++ v) ∷ []) x y (x ++ y) (scripts_of a (length x)) (scripts_of b (length (x ++ y) - length x)) (stands a x hx)
    (subst (λ i. Elem y (scripts_of b i)) (sym m.0) (stands b y hy)) (inl refl))
stands _ _ (chosen_first a b s h) = elem_left s (scripts_of a (length s)) (scripts_of b (length s)) (stands a s h)
stands _ _ (chosen_second a b s h) = elem_right s (scripts_of a (length s)) (scripts_of b (length s)) (stands b s h)
stands _ _ (woven_both a b x y z hx hy w) =
    let m = minus_of (length z) (length x) (length y) (length_weaves x y z w) in
    let way = way_of x y z w in
    elem_over (λ k. pairs (λ u v. map (λ p. woven p u v) (patterns (length z) k)) (scripts_of a k) (scripts_of b (length z - k))) (suc (length z)) (length x) z m.1
    (elem_pairs (λ u v. map (λ p. woven p u v) (patterns (length z) (length x))) x y z (scripts_of a (length x)) (scripts_of b (length z - length x)) (stands a x hx)
    (subst (λ i. Elem y (scripts_of b i)) (sym m.0) (stands b y hy))
    (subst (λ v. Elem v (map (λ p. woven p x y) (patterns (length z) (length x)))) (sym way.2)
    (elem_map (λ p. woven p x y) way.0 (patterns (length z) (length x)) way.1)))

pub no_more : (f : Family) (s : Script) → IsScript f s → length s ≤ most f
no_more _ _ silent = omega arith
no_more _ _ (says line) = omega arith
no_more _ _ (followed a b x y hx hy) = omega (arith, length-append x y, no_more a x hx, no_more b y hy)
no_more _ _ (chosen_first a b s h) = omega (arith, no_more a s h)
no_more _ _ (chosen_second a b s h) = omega (arith, no_more b s h)
no_more _ _ (woven_both a b x y z hx hy w) = omega (arith, length_weaves x y z w, no_more a x hx, no_more b y hy)

-- By numbers -----------------------------------------------------------------------------------------

contains : {X : Type 0} (x : X) (xs : List X) → Elem x xs → Contains xs x
contains x [] h = absurd h
contains x (y ∷ xs) (inl e) = (zero, omega arith, sym e)
contains x (y ∷ xs) (inr h) = let r = contains x xs h in (suc r.0, omega (arith, r.1), r.2)

pub elem_at : {X : Type 0} (x : X) (xs : List X) (k : ℕ) → k < length xs → get_or xs k x ≡ x → Elem x xs
elem_at x [] k lt e = absurd (omega arith)
elem_at x (y ∷ xs) zero lt e = inl (sym e)
elem_at x (y ∷ xs) (suc k) lt e = inr (elem_at x xs k (omega arith) e)

pub elem_get : {X : Type 0} (xs : List X) (k : ℕ) (d : X) → k < length xs → Elem (get_or xs k d) xs
elem_get [] k d lt = absurd (omega arith)
elem_get (y ∷ xs) zero d lt = inl refl
elem_get (y ∷ xs) (suc k) d lt = inr (elem_get xs k d (omega arith))

pub has_a_number : (f : Family) (s : Script) → IsScript f s ↔ Contains (scripts f) s
has_a_number f s = (
  (λ h. let few : length s < suc (most f) = omega (arith, no_more f s h) in
      contains s (scripts f) (elem_over (scripts_of f) (suc (most f)) (length s) s few (stands f s h))),
  (λ c. let r = elem_of_over (scripts_of f) (suc (most f)) s (elem_at s (scripts f) c.0 c.1 c.2) in is_script_of f r.0 s r.2),
)

-- Shorter scripts first ------------------------------------------------------------------------------

shorter_below : (f : ℕ → List Script) → ((n : ℕ) (s : Script) → Elem s (f n) → length s ≡ n) → (n i : ℕ) → i < length (over f n) → length (get_or (over f n) i []) < n
shorter_below f has n i lt =
    let r = elem_of_over f n (get_or (over f n) i []) (elem_get (over f n) i [] lt) in
    omega (arith, has r.0 (get_or (over f n) i []) r.2, r.1)

at_last : (f : ℕ → List Script) → ((n : ℕ) (s : Script) → Elem s (f n) → length s ≡ n) → (n j : ℕ) → length (over f n) ≤ j → j < length (over f (suc n))
    → length (get_or (over f n ++ f n) j []) ≡ n
at_last f has n j le lt =
    let inside : j - length (over f n) < length (f n) = omega (arith, length-append (over f n) (f n)) in
    ap length (get_or-append_right (over f n) (f n) (length (over f n)) j [] refl le)
    ∙ has n (get_or (f n) (j - length (over f n)) []) (elem_get (f n) (j - length (over f n)) [] inside)

pub over_ordered : (f : ℕ → List Script) → ((n : ℕ) (s : Script) → Elem s (f n) → length s ≡ n) → (n i j : ℕ) → i ≤ j → j < length (over f n)
    → length (get_or (over f n) i []) ≤ length (get_or (over f n) j [])
over_ordered f has zero i j le lt = absurd (omega arith)
over_ordered f has (suc n) i j le lt =
    elim (cases_lt j (length (over f n))) [
      | inl j_in ↦
          let i_in : i < length (over f n) = omega arith in
          let a = get_or_append_left (over f n) (f n) [] i i_in in
          let b = get_or_append_left (over f n) (f n) [] j j_in in
          omega (arith, ap length a, ap length b, over_ordered f has n i j le j_in)
      | inr j_out ↦
          elim (cases_lt i (length (over f n))) [
            | inl i_in ↦
                let a = get_or_append_left (over f n) (f n) [] i i_in in
                omega (arith, ap length a, shorter_below f has n i i_in, at_last f has n j j_out lt)
            | inr i_out ↦ omega (arith, at_last f has n i i_out (omega arith), at_last f has n j j_out lt)
          ]
    ]

pub shorter_before : (f : Family) (i j : ℕ) → i ≤ j → j < length (scripts f) → length (get_or (scripts f) i []) ≤ length (get_or (scripts f) j [])
shorter_before f i j le lt = over_ordered (scripts_of f) (length_of f) (suc (most f)) i j le lt
