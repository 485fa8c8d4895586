-- A family of scripts: what it is, and which scripts it has, in their order.
use Rattle.std.specs.Prelude.{ℕ, zero, suc, ◌+◌, ◌-◌, Bool, true, false, List, [], ◌∷◌, ◌++◌, map, max}
use Rattle.std.specs.List.{flat_map}

-- A script, as its lines, each named by the place in the text of the family at which it begins.
abbrev pub Script : Type 0
Script = List ℕ

pub data Family : Type 0 where
  Silent : Family  -- no line
  Says : (line : ℕ) → Family  -- this line
  Followed : (first second : Family) → Family  -- the one, then the other
  Chosen : (first second : Family) → Family  -- exactly one of both
  Woven : (first second : Family) → Family  -- both, each in its own order, in any order of both

-- Of n lines, which k are of the first of both: all ways, those that begin with the first before the others.
abbrev pub patterns : ℕ → ℕ → List (List Bool)
patterns zero zero = [] ∷ []
patterns zero (suc k) = []
patterns (suc n) zero = map (λ p. false ∷ p) (patterns n zero)
patterns (suc n) (suc k) = map (λ p. true ∷ p) (patterns n k) ++ map (λ p. false ∷ p) (patterns n (suc k))

-- Two scripts by such a way.
abbrev pub woven : List Bool → Script → Script → Script
woven [] xs ys = []
woven (true ∷ p) (x ∷ xs) ys = x ∷ woven p xs ys
woven (true ∷ p) [] ys = []
woven (false ∷ p) xs (y ∷ ys) = y ∷ woven p xs ys
woven (false ∷ p) xs [] = []

-- What a script of the one and a script of the other give together.
abbrev pub pairs : (Script → Script → List Script) → List Script → List Script → List Script
pairs f xs ys = flat_map (λ x. flat_map (f x) ys) xs

-- What 0, 1 .. n - 1 give, one after another.
abbrev pub over : (ℕ → List Script) → ℕ → List Script
over f zero = []
over f (suc n) = over f n ++ f n

abbrev pub alone : ℕ → ℕ → List Script
alone line zero = []
alone line (suc zero) = (line ∷ []) ∷ []
alone line (suc (suc n)) = []

-- The scripts of n lines, in their order: by the lines of the first part, then by its script, then by that of the second part.
abbrev pub scripts_of : Family → ℕ → List Script
scripts_of Silent zero = [] ∷ []
scripts_of Silent (suc n) = []
scripts_of (Says line) n = alone line n
scripts_of (Followed a b) n = over (λ k. pairs (λ x y. (x ++ y) ∷ []) (scripts_of a k) (scripts_of b (n - k))) (suc n)
scripts_of (Chosen a b) n = scripts_of a n ++ scripts_of b n
scripts_of (Woven a b) n =
    over (λ k. pairs (λ x y. map (λ p. woven p x y) (patterns n k)) (scripts_of a k) (scripts_of b (n - k))) (suc n)

-- No script has more lines.
abbrev pub most : Family → ℕ
most Silent = 0
most (Says line) = 1
most (Followed a b) = most a + most b
most (Chosen a b) = max (most a) (most b)
most (Woven a b) = most a + most b

-- The scripts of a family: shorter ones first.
abbrev pub scripts : Family → List Script
scripts f = over (scripts_of f) (suc (most f))

-- The same in the subject's own words, without an order and without numbers -------------------

-- z has the lines of x and those of y, each in its own order
pub data Weaves : Script → Script → Script → Type 0 where
  over_both : Weaves [] [] []
  takes_first : (x : ℕ) (xs ys zs : Script) → Weaves xs ys zs → Weaves (x ∷ xs) ys (x ∷ zs)
  takes_second : (y : ℕ) (xs ys zs : Script) → Weaves xs ys zs → Weaves xs (y ∷ ys) (y ∷ zs)

pub data IsScript : Family → Script → Type 0 where
  silent : IsScript Silent []
  says : (line : ℕ) → IsScript (Says line) (line ∷ [])
  followed : (a b : Family) (x y : Script) → IsScript a x → IsScript b y → IsScript (Followed a b) (x ++ y)
  chosen_first : (a b : Family) (x : Script) → IsScript a x → IsScript (Chosen a b) x
  chosen_second : (a b : Family) (x : Script) → IsScript b x → IsScript (Chosen a b) x
  woven_both : (a b : Family) (x y z : Script) → IsScript a x → IsScript b y → Weaves x y z → IsScript (Woven a b) z
