-- The settings of accepted words are within their limits.
use Rattle.std.proofs.Common.{ℕ, ◌≤◌, ◌≡◌, Bool, true, false, ◌&&◌, cond, List, [], ◌∷◌, length, Option, Some, None, refl, subst, arith, nat_le}
use Rattle.std.proofs.lemmas.Bool.Decides.{nat_tests}
use Rattle.clap.specs.Walk.{Row, Text, first_of}
use Rattle.clap.specs.Simple.{matches_of}
use Rattle.std.specs.Prelude.{codes, option_map}
use Rattle.pnp_cli.specs.Words.{pnpmgr, is_accepted, number_of, within, budget_of, made_of, infs_of, given, parts_of, settings_of}
use Rattle.pnp_cli.specs.Limits.{IsWithin}
use Rattle.pnp_cli.specs.declared.parts.Settings.{Settings}

abbrev Within : ℕ → Option ℕ → Type 0
Within most None = Unit {0}
Within most (Some n) = (1 ≤ n) × (n ≤ most)

within_most : (most : ℕ) (o : Option ℕ) → Within most (within most o)
within_most most None = tt
within_most most (Some n) = by_test (nat_le 1 n) (nat_le n most) refl refl
  where
    by_test : (a b : Bool) → nat_le 1 n ≡ a → nat_le n most ≡ b → Within most (cond (a && b) (Some n) None)
    by_test true true e f = (grind (arith, nat_tests), grind (arith, nat_tests))
    by_test true false e f = tt
    by_test false b e f = tt

budget_fine : (o : Option Text) → Within 1000000 (budget_of o)
budget_fine None = (omega arith, omega arith)
budget_fine (Some text) = within_most 1000000 (number_of text)

abbrev Made : Option (Option ℕ) → Type 0
Made None = Unit {0}
Made (Some made) = Within 400 made

made_some : (o : Option ℕ) → Within 400 o → Made (option_map (λ n. Some n) o)
made_some None h = tt
made_some (Some n) h = h

made_fine : (o : Option Text) → Made (made_of o)
made_fine None = tt
made_fine (Some text) = made_some (within 400 (number_of text)) (within_most 400 (number_of text))

abbrev Fine : Option Settings → Type 0
Fine None = Unit {0}
Fine (Some s) = IsWithin s

given_fine : (script : Option Text) (infs : List Text) (budget : Option ℕ) (made : Option (Option ℕ)) (check : Option Text) → length infs ≤ 64 → Within 1000000 budget → Made made
    → Fine (given script infs budget made check)
given_fine (Some script) infs (Some budget) (Some None) check few h g = record { infs = few; some = h.0; most = h.1; source = tt }
given_fine (Some script) infs (Some budget) (Some (Some n)) check few h g = tt
given_fine (Some script) infs (Some budget) None check few h g = tt
given_fine (Some script) infs None made check few h g = tt
given_fine None infs (Some budget) (Some (Some n)) None few h g = record { infs = few; some = h.0; most = h.1; source = g }
given_fine None infs (Some budget) (Some (Some n)) (Some trace) few h g = tt
given_fine None infs (Some budget) (Some None) check few h g = tt
given_fine None infs (Some budget) None check few h g = tt
given_fine None infs None made check few h g = tt

parts_fine : (rows : List Row) → Fine (parts_of rows)
parts_fine rows = by_test (nat_le (length (infs_of rows)) 64) refl
  where
    by_test : (b : Bool) → nat_le (length (infs_of rows)) 64 ≡ b
        → Fine (cond b (given (first_of (codes "script") rows) (infs_of rows) (budget_of (first_of (codes "budget") rows)) (made_of (first_of (codes "gen") rows)) (first_of (codes "check") rows)) None)
    by_test true e =
        given_fine (first_of (codes "script") rows) (infs_of rows) (budget_of (first_of (codes "budget") rows)) (made_of (first_of (codes "gen") rows)) (first_of (codes "check") rows) (grind (arith, nat_tests))
        (budget_fine (first_of (codes "budget") rows)) (made_fine (first_of (codes "gen") rows))
    by_test false e = tt

settings_fine : (words : List Text) → Fine (settings_of words)
settings_fine [] = tt
settings_fine (program ∷ words) = by_test (is_accepted (program ∷ words))
  where
    by_test : (b : Bool) → Fine (cond b (parts_of (matches_of pnpmgr (program ∷ words))) None)
    by_test true = parts_fine (matches_of pnpmgr (program ∷ words))
    by_test false = tt

pub settings_within : (words : List Text) (s : Settings) → settings_of words ≡ Some s → IsWithin s
settings_within words s is = subst Fine is (settings_fine words)
