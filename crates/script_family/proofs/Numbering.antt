-- Which script has a number: by the block of its number, and then by quotient and remainder.
use Rattle.std.proofs.Common.{mul_assoc, mul_comm, ◌≡◌, refl, sym, ◌∙◌, ap, ap₂, ℕ, zero, suc, ◌+◌, ◌-◌, ◌*◌, ◌<◌, ◌≤◌, ◌⊎◌, inl, inr, List, [], ◌∷◌, ◌++◌, map, length, get_or, arith, subst}
use Rattle.std.proofs.lemmas.Nat.{mul-add-lt}
use Rattle.std.proofs.lemmas.List.{length-map, get_or_append_left, get_or-append-add}
use Rattle.std.specs.List.{flat_map}
use Rattle.script_family.specs.Families.{Family, Followed, Chosen, Woven, Script, patterns, woven, pairs, over, scripts_of}
use Rattle.script_family.specs.Counts.{sums, ways, count}
use Rattle.script_family.specs.Parts.{script_at}
use Rattle.script_family.proofs.Counting.{length_over, length_pieces, length_pairs, length_patterns, counted, sums_same}

times_assoc : (x y z : ℕ) → x * y * z ≡ x * (y * z)
times_assoc x y z = mul_assoc x y z

-- a place in a table of m rows of c
pub in_row : (i m c q : ℕ) → i < m → q < c → i * c + q < m * c
in_row i m c q il ql = omega (arith, mul-add-lt i c q m il ql, mul_comm c m)

-- the j-th of the i-th piece, where each piece has c
pub at_piece : {X : Type 0} (g : X → List Script) (c : ℕ) → ((x : X) → length (g x) ≡ c) → (xs : List X) (i j : ℕ) (e : X) → i < length xs → j < c
    → get_or (flat_map g xs) (i * c + j) [] ≡ get_or (g (get_or xs i e)) j []
at_piece g c each [] i j e lt in' = absurd (omega arith)
at_piece g c each (x ∷ xs) zero j e lt in' =
    let low : j < length (g x) = omega (arith, each x) in
    let place : 0 * c + j ≡ j = omega arith in
    ap (λ m. get_or (g x ++ flat_map g xs) m []) place ∙ get_or_append_left (g x) (flat_map g xs) [] j low
at_piece g c each (x ∷ xs) (suc i) j e lt in' =
    let place : suc i * c + j ≡ length (g x) + (i * c + j) = omega (arith, each x) in
    let less : i < length xs = omega arith in
    ap (λ m. get_or (g x ++ flat_map g xs) m []) place
    ∙ get_or-append-add (g x) (flat_map g xs) (i * c + j) []
    ∙ at_piece g c each xs i j e less in'

pub at_pair : (f : Script → Script → List Script) (c : ℕ) → ((x y : Script) → length (f x y) ≡ c) → (xs ys : List Script) (i j p : ℕ)
    → i < length xs → j < length ys → p < c
    → get_or (pairs f xs ys) (i * (length ys * c) + (j * c + p)) [] ≡ get_or (f (get_or xs i []) (get_or ys j [])) p []
at_pair f c each xs ys i j p il jl pl =
    let rows : (x : Script) → length (flat_map (f x) ys) ≡ length ys * c = λ x. length_pieces (f x) c (each x) ys in
    let within : j * c + p < length ys * c = in_row j (length ys) c p jl pl in
    at_piece (λ x. flat_map (f x) ys) (length ys * c) rows xs i (j * c + p) [] il within
    ∙ at_piece (f (get_or xs i [])) c (each (get_or xs i [])) ys j p [] jl pl

below_or_last : (k n : ℕ) → k < suc n → (k < n) ⊎ (k ≡ n)
below_or_last zero zero lt = inr refl
below_or_last zero (suc n) lt = inl (omega arith)
below_or_last (suc k) zero lt = inl (omega arith)
below_or_last (suc k) (suc n) lt = elim (below_or_last k n (omega arith)) [ inl h ↦ inl (omega arith) | inr e ↦ inr (ap suc e) ]

pub sums_below : (g : ℕ → ℕ) (n k : ℕ) → k < n → sums g k + g k ≤ sums g n
sums_below g zero k lt = omega arith
sums_below g (suc n) k lt =
    elim (below_or_last k n lt) [
      | inl h ↦ let before : sums g k + g k ≤ sums g n = sums_below g n k h in omega arith
      | inr e ↦ let P : ℕ → Type 0 = λ m. sums g m + g m ≤ sums g n + g n in subst P (sym e) (omega arith)
    ]

-- the place q of the block k of n blocks
pub at_block : (f : ℕ → List Script) (n k q : ℕ) → k < n → q < length (f k)
    → get_or (over f n) (sums (λ m. length (f m)) k + q) [] ≡ get_or (f k) q []
at_block f zero k q lt in' = absurd (omega arith)
at_block f (suc n) k q lt in' =
    elim (below_or_last k n lt) [
      | inl h ↦
          let before : sums (λ m. length (f m)) k + length (f k) ≤ sums (λ m. length (f m)) n = sums_below (λ m. length (f m)) n k h in
          let all : length (over f n) ≡ sums (λ m. length (f m)) n = length_over f n in
          let within : sums (λ m. length (f m)) k + q < length (over f n) = omega (arith, all) in
          get_or_append_left (over f n) (f n) [] (sums (λ m. length (f m)) k + q) within ∙ at_block f n k q h in'
      | inr e ↦
          let P : ℕ → Type 0 = λ m. get_or (over f n ++ f n) (sums (λ i. length (f i)) m + q) [] ≡ get_or (f m) q [] in
          subst P (sym e) (ap (λ m. get_or (over f n ++ f n) (m + q) []) (sym (length_over f n)) ∙ get_or-append-add (over f n) (f n) q [])
    ]

pub at_chosen_first : (a b : Family) (n r : ℕ) → r < count a n → script_at (Chosen a b) n r ≡ script_at a n r
at_chosen_first a b n r lt = get_or_append_left (scripts_of a n) (scripts_of b n) [] r (omega (arith, counted a n))

pub at_chosen_second : (a b : Family) (n r : ℕ) → script_at (Chosen a b) n (count a n + r) ≡ script_at b n r
at_chosen_second a b n r =
    ap (λ m. get_or (scripts_of a n ++ scripts_of b n) (m + r) []) (sym (counted a n)) ∙ get_or-append-add (scripts_of a n) (scripts_of b n) r []

-- the place of a pair in its block, by counts
pub at_blocks : (a b : ℕ → List Script) (ca cb c : ℕ → ℕ) (f : ℕ → Script → Script → List Script) (n k i j p : ℕ)
    → ((m : ℕ) → length (a m) ≡ ca m) → ((m : ℕ) → length (b m) ≡ cb m) → ((m : ℕ) (x y : Script) → length (f m x y) ≡ c m)
    → k < suc n → i < ca k → j < cb (n - k) → p < c k
    → get_or (over (λ m. pairs (f m) (a m) (b (n - m))) (suc n)) (sums (λ m. ca m * cb (n - m) * c m) k + (i * (cb (n - k) * c k) + (j * c k + p))) []
    ≡ get_or (f k (get_or (a k) i []) (get_or (b (n - k)) j [])) p []
at_blocks a b ca cb c f n k i j p as' bs' fs lt il jl pl =
    let F : ℕ → List Script = λ m. pairs (f m) (a m) (b (n - m)) in
    let size : (m : ℕ) → length (F m) ≡ ca m * cb (n - m) * c m =
    λ m. length_pairs (f m) (c m) (fs m) (a m) (b (n - m)) ∙ ap₂ (λ u v. u * v * c m) (as' m) (bs' (n - m)) in
    let il' : i < length (a k) = subst (λ u. i < u) (sym (as' k)) il in
    let jl' : j < length (b (n - k)) = subst (λ u. j < u) (sym (bs' (n - k))) jl in
    let inner : j * c k + p < cb (n - k) * c k = in_row j (cb (n - k)) (c k) p jl pl in
    let within : i * (cb (n - k) * c k) + (j * c k + p) < ca k * (cb (n - k) * c k) = in_row i (ca k) (cb (n - k) * c k) (j * c k + p) il inner in
    let q : ℕ = i * (cb (n - k) * c k) + (j * c k + p) in
    let q_in : q < length (F k) = subst (λ u. q < u) (sym (size k ∙ times_assoc (ca k) (cb (n - k)) (c k))) within in
    let place : sums (λ m. ca m * cb (n - m) * c m) k ≡ sums (λ m. length (F m)) k = sums_same (λ m. ca m * cb (n - m) * c m) (λ m. length (F m)) (λ m. sym (size m)) k in
    ap (λ u. get_or (over F (suc n)) (u + q) []) place
    ∙ at_block F (suc n) k q lt q_in
    ∙ ap (λ u. get_or (F k) (i * (u * c k) + (j * c k + p)) []) (sym (bs' (n - k)))
    ∙ at_pair (f k) (c k) (fs k) (a k) (b (n - k)) i j p il' jl' pl

pub numbers_of_followed : (a b : Family) (n k i j : ℕ) → k < suc n → i < count a k → j < count b (n - k)
    → script_at (Followed a b) n (sums (λ m. count a m * count b (n - m) * 1) k + (i * (count b (n - k) * 1) + (j * 1 + 0))) ≡ script_at a k i ++ script_at b (n - k) j
numbers_of_followed a b n k i j lt il jl =
    at_blocks (scripts_of a) (scripts_of b) (count a) (count b) (λ m. 1) (λ m x y. (x ++ y) ∷ []) n k i j 0 (counted a) (counted b) (λ m x y. refl) lt il jl (omega arith)

pub at_map : {X : Type 0} (g : X → Script) (xs : List X) (p : ℕ) (d : X) → p < length xs → get_or (map g xs) p [] ≡ g (get_or xs p d)
at_map g [] p d lt = absurd (omega arith)
at_map g (x ∷ xs) zero d lt = refl
at_map g (x ∷ xs) (suc p) d lt = at_map g xs p d (omega arith)

pub numbers_of_woven : (a b : Family) (n k i j p : ℕ) → k < suc n → i < count a k → j < count b (n - k) → p < ways n k
    → script_at (Woven a b) n (sums (λ m. count a m * count b (n - m) * ways n m) k + (i * (count b (n - k) * ways n k) + (j * ways n k + p)))
    ≡ woven (get_or (patterns n k) p []) (script_at a k i) (script_at b (n - k) j)
numbers_of_woven a b n k i j p lt il jl pl =
    let pl' : p < length (patterns n k) = subst (λ u. p < u) (sym (length_patterns n k)) pl in
    at_blocks (scripts_of a) (scripts_of b) (count a) (count b) (ways n) (λ m x y. map (λ w. woven w x y) (patterns n m)) n k i j p (counted a) (counted b)
    (λ m x y. length-map (patterns n m) (λ w. woven w x y) ∙ length_patterns n m) lt il jl pl
    ∙ at_map (λ w. woven w (script_at a k i) (script_at b (n - k) j)) (patterns n k) p [] pl'
