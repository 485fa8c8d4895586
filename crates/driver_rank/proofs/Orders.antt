-- Better is a weak order, and so is less.
use Rattle.std.proofs.Common.{◌≡◌, ℕ, Bool, true, false, arith, ◌∙◌}
use Rattle.std.specs.Bool.{nat_lt}
use Rattle.std.proofs.lemmas.Bool.Decides.{nat_tests}
use Rattle.driver_rank.specs.Best.{Match, match_at, by, is_better}
use Rattle.driver_rank.proofs.Firsts.{IsWeakOrder}
use Rattle.inf_reader.specs.declared.parts.Inf.{Inf}
use Rattle.inf_reader.specs.declared.parts.ModelLine.{ModelLine}

lt-trans : (a b c : ℕ) → nat_lt a b ≡ true → nat_lt b c ≡ true → nat_lt a c ≡ true
lt-trans a b c p q = grind (arith, nat_tests)

lt-apart : (a b c : ℕ) → nat_lt a b ≡ false → nat_lt b c ≡ false → nat_lt a c ≡ false
lt-apart a b c p q = grind (arith, nat_tests)

pub less_order : IsWeakOrder nat_lt
less_order = record { trans = lt-trans; apart = lt-apart }

-- where the lesser number goes first
up-trans : (a b c : ℕ) (r s t : Bool) → (r ≡ true → s ≡ true → t ≡ true) → by a b r ≡ true → by b c s ≡ true → by a c t ≡ true
up-trans a b c r s t rest p q = grind (arith, nat_tests)

up-apart : (a b c : ℕ) (r s t : Bool) → (r ≡ false → s ≡ false → t ≡ false) → by a b r ≡ false → by b c s ≡ false → by a c t ≡ false
up-apart a b c r s t rest p q = grind (arith, nat_tests)

-- where the greater number goes first
down-trans : (a b c : ℕ) (r s t : Bool) → (r ≡ true → s ≡ true → t ≡ true) → by b a r ≡ true → by c b s ≡ true → by c a t ≡ true
down-trans a b c r s t rest p q = grind (arith, nat_tests)

down-apart : (a b c : ℕ) (r s t : Bool) → (r ≡ false → s ≡ false → t ≡ false) → by b a r ≡ false → by c b s ≡ false → by c a t ≡ false
down-apart a b c r s t rest p q = grind (arith, nat_tests)

better-trans : (x y z : Match) → is_better x y ≡ true → is_better y z ≡ true → is_better x z ≡ true
better-trans x y z =
    up-trans x.rank y.rank z.rank _ _ _
    (down-trans x.date y.date z.date _ _ _
    (down-trans x.version y.version z.version _ _ _
    (up-trans x.inf y.inf z.inf _ _ _
    (up-trans x.line.line y.line.line z.line.line _ _ _
    (lt-trans x.place y.place z.place)))))

better-apart : (x y z : Match) → is_better x y ≡ false → is_better y z ≡ false → is_better x z ≡ false
better-apart x y z =
    up-apart x.rank y.rank z.rank _ _ _
    (down-apart x.date y.date z.date _ _ _
    (down-apart x.version y.version z.version _ _ _
    (up-apart x.inf y.inf z.inf _ _ _
    (up-apart x.line.line y.line.line z.line.line _ _ _
    (lt-apart x.place y.place z.place)))))

pub better_order : IsWeakOrder is_better
better_order = record { trans = better-trans; apart = better-apart }

by-same : (a : ℕ) (rest : Bool) → by a a rest ≡ rest
by-same a rest = grind (arith, nat_tests)

by-less : (a b : ℕ) → by a b false ≡ nat_lt a b
by-less a b = grind (arith, nat_tests)

lt-same : (a : ℕ) → nat_lt a a ≡ false
lt-same a = grind (arith, nat_tests)

-- at one line the lesser rank is better
pub better_rank : (number : ℕ) (inf : Inf) (place : ℕ) (line : ModelLine) (r s : ℕ) → is_better (match_at number inf place line r) (match_at number inf place line s) ≡ nat_lt r s
better_rank number inf place line r s =
    (λ i. by r s ((by-same inf.date _ ∙ (by-same inf.version _ ∙ (by-same number _ ∙ (by-same line.line _ ∙ lt-same place)))) i))
    ∙ by-less r s

-- no match is better than itself
pub better_self : (m : Match) → is_better m m ≡ false
better_self m = by-same m.rank _ ∙ (by-same m.date _ ∙ (by-same m.version _ ∙ (by-same m.inf _ ∙ (by-same m.line.line _ ∙ lt-same m.place))))
