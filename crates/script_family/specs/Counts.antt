-- How many scripts of n lines a family has, by sums and products alone, and where the counts end.
use Rattle.std.specs.Prelude.{ℕ, zero, suc, ◌+◌, ◌-◌, ◌*◌, ◌^◌, min}
use Rattle.script_family.specs.Families.{Family, Silent, Says, Followed, Chosen, Woven, most}

-- f 0 + f 1 + .. + f (n - 1)
abbrev pub sums : (ℕ → ℕ) → ℕ → ℕ
sums f zero = 0
sums f (suc n) = sums f n + f n

-- n over k, by Pascal's rule
abbrev pub ways : ℕ → ℕ → ℕ
ways zero zero = 1
ways zero (suc k) = 0
ways (suc n) zero = ways n zero
ways (suc n) (suc k) = ways n k + ways n (suc k)

-- how many of the ways to choose k of n + 1 places choose the first of them
abbrev pub firsts_of : ℕ → ℕ → ℕ
firsts_of n zero = 0
firsts_of n (suc k) = ways n k

abbrev pub one_at : ℕ → ℕ
one_at zero = 0
one_at (suc zero) = 1
one_at (suc (suc n)) = 0

abbrev pub count : Family → ℕ → ℕ
count Silent zero = 1
count Silent (suc n) = 0
count (Says line) n = one_at n
count (Followed a b) n = sums (λ k. count a k * count b (n - k) * 1) (suc n)
count (Chosen a b) n = count a n + count b n
count (Woven a b) n = sums (λ k. count a k * count b (n - k) * ways n k) (suc n)

-- how many scripts a family has in all
abbrev pub total : Family → ℕ
total f = sums (count f) (suc (most f))

-- counts are told up to 2^64 - 1, which stands for all from there on
abbrev pub capped : ℕ → ℕ
capped n = min n (2 ^ 64 - 1)
