-- Verdicts of what is left: where nothing is allowed, and where a line is.
use Rattle.std.proofs.Common.{ℕ, suc, ◌+◌, ◌≡◌, false, inl, inr, [], ◌∷◌, ◌++◌, length, refl, sym, ap, ◌∙◌, subst, arith, append_assoc}
use Rattle.pnp_labels.specs.Texts.{Text}
use Rattle.pnp_model.specs.Records.{State, Settings}
use Rattle.pnp_model.specs.Machine.{IsQuiet}
use Rattle.pnp_model.specs.Endings.{joined}
use Rattle.script_reader.specs.Script.{Trace, ends, stops}
use Rattle.free_model.specs.Checks.{Place, Runs, Ends, Allows, AllowsAtRest, IsNo, IsChecked, end_bytes, bad_line}
use Rattle.free_model.proofs.OneVerdict.{no_step}
use Rattle.trace_check.specs.declared.check.Checked.{Checked}
use Rattle.trace_check.specs.Turns.{Tells, IfFront}
use Rattle.trace_check.specs.Verdicts.{verdict}

-- A line ----------------------------------------------------------------------------------

one_longer : (n m : ℕ) → n ≡ m + 1 → n + 1 ≡ suc m + 1
one_longer n m e = omega arith

pub no_on : (told : Settings) (here mid : Place) (line rest : Text) (number : ℕ) → Allows told here line mid → IsNo told mid rest number → IsNo told here (line ++ 10 ∷ rest) (number + 1)
no_on told here mid line rest number allows (lines, there, left, follow, is, stuck, count) = (
  line ∷ lines,
  there,
  left,
  (mid, allows, follow),
  ap (λ (t : Text). line ++ 10 ∷ t) is ∙ sym (append_assoc line (10 ∷ joined lines) left),
  stuck,
  one_longer number (length lines) count,
)

later : (line lines number : ℕ) → line ≡ lines + 1 + number → line ≡ lines + (number + 1)
later line lines number e = omega arith

pub tells_on : (told : Settings) (checked : Checked) (here mid : Place) (line rest : Text) (lines : ℕ) → Allows told here line mid → Tells checked told mid rest (lines + 1) → Tells checked told here (line ++ 10 ∷ rest) lines
tells_on told Checked.Yes here mid line rest lines allows (texts, follow, is) = (line ∷ texts, (mid, allows, follow), ap (λ (t : Text). line ++ 10 ∷ t) is)
tells_on told (Checked.No at) here mid line rest lines allows (number, count, refused) = (number + 1, later at lines number count, no_on told here mid line rest number allows refused)

pub tells_none : (told : Settings) (s : State) (script : Trace) (rest : Text) (lines : ℕ)
    → ((line more : Text) (next : Place) → rest ≡ line ++ 10 ∷ more → Allows told (Runs s script) line next → ⊥) → Tells (Checked.No (lines + 1)) told (Runs s script) rest lines
tells_none told s script rest lines not =
    (1, refl, ([], Runs s script, rest, refl, refl, record { unallowed = not; undone = λ is here. absurd (cc) }, refl))

-- the whole
pub tells_all : (told : Settings) (checked : Checked) (here : Place) (trace : Text) → Tells checked told here trace 0 → IsChecked told here trace (verdict checked)
tells_all told Checked.Yes here trace h = h
tells_all told (Checked.No line) here trace (number, count, refused) = subst (IsNo told here trace) (from_zero line number count) refused
  where
    from_zero : (line number : ℕ) → line ≡ 0 + number → number ≡ line
    from_zero line number e = omega arith

-- At rest ---------------------------------------------------------------------------------

-- at a quiet state only what the script gives is allowed
pub none_at_rest : (told : Settings) (s : State) (script : Trace) (rest : Text) → IsQuiet told s → ((line more : Text) (next : Place) → rest ≡ line ++ 10 ∷ more → AllowsAtRest s script line next → ⊥)
    → (line more : Text) (next : Place) → rest ≡ line ++ 10 ∷ more → Allows told (Runs s script) line next → ⊥
none_at_rest told s script rest quiet not line more next is (inl (label, new, free, _, _)) = no_step told s label new quiet free
none_at_rest told s script rest quiet not line more next is (inr (still, allows)) = not line more next is allows

-- something is always due at the end
some_due : (s : State) → Ends [] ≡ Ends (end_bytes s) → ⊥
some_due s e = absurd (cc)

pub tells_end : (told : Settings) (checked : Checked) (s : State) (rest : Text) (lines : ℕ) → IsQuiet told s → Tells checked told (Ends (end_bytes s)) rest lines → Tells checked told (Runs s ends) rest lines
tells_end told Checked.Yes s rest lines quiet ([], follow, is) = absurd (some_due s follow)
tells_end told Checked.Yes s rest lines quiet (line ∷ texts, (mid, allows, follow), is) = (line ∷ texts, (mid, inr (quiet, allows), follow), is)
tells_end told (Checked.No at) s rest lines quiet (number, count, ([], there, left, follow, is, stuck, size)) = (
  number,
  count,
  (
    [],
    Runs s ends,
    left,
    refl,
    is,
    record {
      unallowed = none_at_rest told s ends left quiet (λ line more next here allows. stuck.unallowed line more next here (subst (λ (p : Place). Allows told p line next) (sym follow) allows));
      undone = λ none here. absurd (cc);
    },
    size,
  ),
)
tells_end told (Checked.No at) s rest lines quiet (number, count, (line ∷ texts, there, left, (mid, allows, follow), is, stuck, size)) =
    (number, count, (line ∷ texts, there, left, (mid, inr (quiet, allows), follow), is, stuck, size))

pub tells_bad : (told : Settings) (checked : Checked) (s : State) (number : ℕ) (rest : Text) (lines : ℕ) → IsQuiet told s
    → Tells checked told (Ends (end_bytes s)) rest (lines + 1) → Tells checked told (Runs s (stops number)) (bad_line number ++ 10 ∷ rest) lines
tells_bad told checked s number rest lines quiet tells = tells_on told checked (Runs s (stops number)) (Ends (end_bytes s)) (bad_line number) rest lines (inr (quiet, (refl, refl))) tells

pub tells_other : (told : Settings) (s : State) (number : ℕ) (rest : Text) (lines : ℕ) → IsQuiet told s → IfFront false rest (bad_line number ++ 10 ∷ []) → Tells (Checked.No (lines + 1)) told (Runs s (stops number)) rest lines
tells_other told s number rest lines quiet front =
    tells_none told s (stops number) rest lines
    (none_at_rest told s (stops number) rest quiet
    (λ line more next is (same, _). front more (is ∙ ap (λ (t : Text). t ++ 10 ∷ more) same ∙ sym (append_assoc (bad_line number) (10 ∷ []) more))))
