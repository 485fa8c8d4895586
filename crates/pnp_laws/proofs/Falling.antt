-- The four numbers that fall with each step come to an end, and how far they have fallen can be told.
use Rattle.std.proofs.Common.{ℕ, ◌≤◌, ◌<◌, ◌≡◌, ◌⊎◌, refl}
use mathlib.Core.WellFounded.{Acc, WellFounded}
use native.Mathlib.Decide.{dec_lt, dec_le}
use Rattle.pnp_model.specs.Records.{State}
use Rattle.pnp_laws.proofs.Decides.{dec_both, dec_or}
use Rattle.pnp_laws.proofs.Measures.{left_of}
use Rattle.pnp_laws.proofs.JoinCounts.{join_price}
use Rattle.pnp_laws.proofs.RunsEnd.{Lowest, at_numbers, first_of, last_of, by_four}

dec_less : (a x : ℕ) {A : Type 0} → Dec A → Dec ((a < x) ⊎ ((a ≤ x) × A))
dec_less a x more = dec_or (dec_lt a x) (dec_both (dec_le a x) more)

pub dec_lowest : (t s : State) → Dec (Lowest t s)
dec_lowest t s =
    dec_less (join_price t) (join_price s) (dec_less (first_of t) (first_of s) (dec_less (left_of t.operation) (left_of s.operation) (dec_lt (last_of t) (last_of s))))

-- of the states with these numbers
abbrev AllEnd : ℕ → ℕ → ℕ → ℕ → Type 0
AllEnd w x y z = (s : State) → join_price s ≡ w → first_of s ≡ x → left_of s.operation ≡ y → last_of s ≡ z → Acc Lowest s

all_end : (w x y z : ℕ) → AllEnd w x y z
all_end =
    by_four AllEnd
    (λ w x y z lower s e a b c. Acc.intro s
    (λ t l. lower (join_price t) (first_of t) (left_of t.operation) (last_of t) (at_numbers t s w x y z e a b c l) t refl refl refl refl))

-- from no state on can they fall for ever
pub falls_end : WellFounded Lowest
falls_end = record { apply = λ s. all_end (join_price s) (first_of s) (left_of s.operation) (last_of s) s refl refl refl refl }
