-- The best driver is no worse than any other.
use Rattle.std.proofs.Common.{ℕ, ◌≡◌, inl, inr, Bool, true, false, cond, nat_lt, List, Option, Some, None, refl, arith, option_map}
use Rattle.std.proofs.lemmas.Bool.Decides.{nat_tests}
use Rattle.std.specs.List.{Contains}
use Rattle.driver_rank.specs.Best.{Match, by, choice_of, given_of, is_better, matches}
use Rattle.driver_rank.specs.First.{least_of}
use Rattle.driver_rank.specs.declared.choice.Choice.{Choice}
use Rattle.driver_rank.proofs.Orders.{better_order, better_self}
use Rattle.driver_rank.proofs.Winners.{least_in, none_before}
use Rattle.pnp_promises.specs.Ranks.{IsNoWorse, LessOr, TheBestIsChosenLaw}

-- where a is not less, and between equal ones what follows is not so, b is less, or they are equal
less_or : (a b : ℕ) (rest : Bool) (Rest : Type 0) → by a b rest ≡ false → (rest ≡ false → Rest) → LessOr b a Rest
less_or a b rest Rest h more = by_first (nat_lt a b) (nat_lt b a) refl refl h
  where
    by_first : (x y : Bool) → nat_lt a b ≡ x → nat_lt b a ≡ y → cond x true (cond y false rest) ≡ false → LessOr b a Rest
    by_first true y e f h = absurd (cc)
    by_first false true e f h = inl (grind (arith, nat_tests))
    by_first false false e f h = inr (grind (arith, nat_tests), more h)

no_worse : (m other : Match) → is_better other m ≡ false → IsNoWorse m other
no_worse m other h =
    less_or other.rank m.rank _ _ h (λ dates.
    less_or m.date other.date _ _ dates (λ versions.
    less_or m.version other.version _ _ versions (λ infs. less_or other.inf m.inf _ _ infs (λ lines. less_or other.line.line m.line.line _ _ lines (λ places. grind (arith, nat_tests))))))

of_match : (ms : List Match) (o : Option Match) (choice : Choice) → least_of is_better ms ≡ o → option_map choice_of o ≡ Some choice
    → (m : Match) × Contains ms m × (choice_of m ≡ choice) × ((other : Match) → Contains ms other → IsNoWorse m other)
of_match ms None choice at e = absurd (cc)
of_match ms (Some m) choice at e = (m, least_in is_better ms m at, (cc), λ other c. no_worse m other (none_before is_better better_order better_self ms m at other c))

pub the_best_is_chosen : TheBestIsChosenLaw
the_best_is_chosen infs hw compat choice e = of_match (matches (given_of hw compat) infs) (least_of is_better (matches (given_of hw compat) infs)) choice refl e
