-- The count of a family is the length of its list of scripts.
use Rattle.std.proofs.Common.{mul_assoc, ◌≡◌, refl, sym, ◌∙◌, ap, ap₂, ℕ, zero, suc, ◌+◌, ◌-◌, ◌*◌, true, false, List, [], ◌∷◌, ◌++◌, map, length, arith}
use Rattle.std.proofs.lemmas.List.{length-append, length-map}
use Rattle.std.specs.List.{flat_map}
use Rattle.script_family.specs.Families.{Family, Silent, Says, Followed, Chosen, Woven, Script, patterns, woven, pairs, over, alone, scripts_of, scripts, most}
use Rattle.script_family.specs.Counts.{sums, ways, one_at, count, total}

pub sums_same : (f g : ℕ → ℕ) → ((k : ℕ) → f k ≡ g k) → (n : ℕ) → sums f n ≡ sums g n
sums_same f g same zero = refl
sums_same f g same (suc n) = ap₂ (λ a b. a + b) (sums_same f g same n) (same n)

pub length_over : (f : ℕ → List Script) (n : ℕ) → length (over f n) ≡ sums (λ k. length (f k)) n
length_over f zero = refl
length_over f (suc n) = length-append (over f n) (f n) ∙ ap (λ m. m + length (f n)) (length_over f n)

pub length_patterns : (n k : ℕ) → length (patterns n k) ≡ ways n k
length_patterns zero zero = refl
length_patterns zero (suc k) = refl
length_patterns (suc n) zero = length-map (patterns n zero) (λ p. false ∷ p) ∙ length_patterns n zero
length_patterns (suc n) (suc k) =
    length-append (map (λ p. true ∷ p) (patterns n k)) (map (λ p. false ∷ p) (patterns n (suc k)))
    ∙ ap₂ (λ a b. a + b)
    (length-map (patterns n k) (λ p. true ∷ p) ∙ length_patterns n k)
    (length-map (patterns n (suc k)) (λ p. false ∷ p) ∙ length_patterns n (suc k))

-- pieces of one length each
suc_times : (m c : ℕ) → c + m * c ≡ suc m * c
suc_times m c = omega arith

zero_times : (c : ℕ) → 0 ≡ 0 * c
zero_times c = omega arith

pub length_pieces : {X : Type 0} (g : X → List Script) (c : ℕ) → ((x : X) → length (g x) ≡ c) → (xs : List X) → length (flat_map g xs) ≡ length xs * c
length_pieces g c each [] = zero_times c
length_pieces g c each (x ∷ xs) =
    length-append (g x) (flat_map g xs) ∙ ap₂ (λ a b. a + b) (each x) (length_pieces g c each xs) ∙ suc_times (length xs) c

pub length_pairs : (f : Script → Script → List Script) (c : ℕ) → ((x y : Script) → length (f x y) ≡ c) → (xs ys : List Script)
    → length (pairs f xs ys) ≡ length xs * length ys * c
length_pairs f c each xs ys =
    let rows : (x : Script) → length (flat_map (f x) ys) ≡ length ys * c = λ x. length_pieces (f x) c (each x) ys in
    let all : length (pairs f xs ys) ≡ length xs * (length ys * c) = length_pieces (λ x. flat_map (f x) ys) (length ys * c) rows xs in
    all ∙ sym (mul_assoc (length xs) (length ys) c)

pub length_alone : (line n : ℕ) → length (alone line n) ≡ one_at n
length_alone line zero = refl
length_alone line (suc zero) = refl
length_alone line (suc (suc n)) = refl

-- a block of both: lines of the first, scripts of the first, scripts of the second
pub length_blocks : (a b : ℕ → List Script) (ca cb c : ℕ → ℕ) (f : ℕ → Script → Script → List Script) (n : ℕ)
    → ((k : ℕ) → length (a k) ≡ ca k) → ((k : ℕ) → length (b k) ≡ cb k) → ((k : ℕ) (x y : Script) → length (f k x y) ≡ c k)
    → length (over (λ k. pairs (f k) (a k) (b (n - k))) (suc n)) ≡ sums (λ k. ca k * cb (n - k) * c k) (suc n)
length_blocks a b ca cb c f n as' bs' fs =
    length_over (λ k. pairs (f k) (a k) (b (n - k))) (suc n)
    ∙ sums_same (λ k. length (pairs (f k) (a k) (b (n - k)))) (λ k. ca k * cb (n - k) * c k)
    (λ k. length_pairs (f k) (c k) (fs k) (a k) (b (n - k)) ∙ ap₂ (λ p q. p * q * c k) (as' k) (bs' (n - k)))
    (suc n)

pub counted : (f : Family) (n : ℕ) → length (scripts_of f n) ≡ count f n
counted Silent zero = refl
counted Silent (suc n) = refl
counted (Says line) n = length_alone line n
counted (Followed a b) n =
    length_blocks (scripts_of a) (scripts_of b) (count a) (count b) (λ k. 1) (λ k x y. (x ++ y) ∷ []) n (counted a) (counted b) (λ k x y. refl)
counted (Chosen a b) n = length-append (scripts_of a n) (scripts_of b n) ∙ ap₂ (λ p q. p + q) (counted a n) (counted b n)
counted (Woven a b) n =
    length_blocks (scripts_of a) (scripts_of b) (count a) (count b) (ways n) (λ k x y. map (λ p. woven p x y) (patterns n k)) n (counted a) (counted b)
    (λ k x y. length-map (patterns n k) (λ p. woven p x y) ∙ length_patterns n k)

pub all_counted : (f : Family) → length (scripts f) ≡ total f
all_counted f = length_over (scripts_of f) (suc (most f)) ∙ sums_same (λ k. length (scripts_of f k)) (count f) (counted f) (suc (most f))
