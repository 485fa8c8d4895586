-- Two families that go together, and the place of a number among their scripts.
use Rattle.std.specs.Prelude.{ℕ, suc, ◌+◌, ◌-◌, ◌*◌, ◌^◌, ◌<◌, ◌≡◌, Bool, true, false}
use Rattle.script_family.specs.Families.{Family, Followed, Woven}
use Rattle.script_family.specs.Counts.{sums, count}
use Rattle.script_family.specs.Pairs.{times}

-- one behind the other, or woven
abbrev pub paired : Bool → Family → Family → Family
paired true a b = Woven a b
paired false a b = Followed a b

-- how many scripts of n lines have k of the first
abbrev pub together : Family → Family → Bool → ℕ → ℕ → ℕ
together a b woven n k = count a k * count b (n - k) * times woven n k

-- script r of n lines: k lines are of script i of the first, the others of script j of the second, in way p
pub record Numbered (a b : Family) (woven : Bool) (n r k i j p : ℕ) : Type 0 where
  pub inside : k < suc n
  pub first : i < count a k
  pub second : j < count b (n - k)
  pub way : p < times woven n k
  pub sum : sums (together a b woven n) k + (i * (count b (n - k) * times woven n k) + (j * times woven n k + p)) ≡ r
  pub first_small : i < 2 ^ 64 - 1
  pub second_small : j < 2 ^ 64 - 1
  pub way_small : p < 2 ^ 64 - 1
