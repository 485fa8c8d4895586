-- Verdicts of what is left: where nothing is allowed, and where a line is.
use Rattle.std.proofs.Common.{ℕ, suc, ◌+◌, ◌≡◌, false, inl, inr, [], ◌∷◌, ◌++◌, length, refl, sym, ap, ◌∙◌, subst, arith, append_assoc}
use Rattle.pnp_labels.specs.Texts.{Text}
use Rattle.pnp_model.specs.Records.{Settings, State}
use Rattle.pnp_model.specs.Endings.{joined}
use Rattle.script_reader.specs.Script.{Trace, ends, stops}
use Rattle.free_model.specs.Checks.{end_bytes, bad_line}
use Rattle.notify_front.specs.Fronts.{Front, IsFrontQuiet}
use Rattle.free_front.proofs.Nexts.{no_free_step}
use Rattle.trace_check.specs.declared.check.Checked.{Checked}
use Rattle.trace_check.specs.Turns.{IfFront}
use Rattle.front_check.specs.FrontChecks.{Place, Runs, Ends, Allows, AllowsAtRest, IsNo, IsChecked}
use Rattle.front_check.specs.Turns.{Tells}
use Rattle.trace_check.specs.Verdicts.{verdict}

-- A line ----------------------------------------------------------------------------------

one_longer : (n m : ℕ) → n ≡ m + 1 → n + 1 ≡ suc m + 1
one_longer n m e = omega arith

pub no_on : (told : Settings) (here mid : Place) (line rest : Text) (number : ℕ) → Allows told here line mid → IsNo told mid rest number → IsNo told here (line ++ 10 ∷ rest) (number + 1)
no_on told here mid line rest number allows (lines, there, left, follow, is, stuck, count) = (
  line ∷ lines,
  there,
  left,
  (mid, allows, follow),
  ap (λ (t : Text). line ++ 10 ∷ t) is ∙ sym (append_assoc line (10 ∷ joined lines) left),
  stuck,
  one_longer number (length lines) count,
)

later : (line lines number : ℕ) → line ≡ lines + 1 + number → line ≡ lines + (number + 1)
later line lines number e = omega arith

pub tells_on : (told : Settings) (checked : Checked) (here mid : Place) (line rest : Text) (lines : ℕ) → Allows told here line mid → Tells checked told mid rest (lines + 1) → Tells checked told here (line ++ 10 ∷ rest) lines
tells_on told Checked.Yes here mid line rest lines allows (texts, follow, is) = (line ∷ texts, (mid, allows, follow), ap (λ (t : Text). line ++ 10 ∷ t) is)
tells_on told (Checked.No at) here mid line rest lines allows (number, count, refused) = (number + 1, later at lines number count, no_on told here mid line rest number allows refused)

pub tells_none : (told : Settings) (f : Front) (script : Trace) (rest : Text) (lines : ℕ)
    → ((line more : Text) (next : Place) → rest ≡ line ++ 10 ∷ more → Allows told (Runs f script) line next → ⊥) → Tells (Checked.No (lines + 1)) told (Runs f script) rest lines
tells_none told f script rest lines not =
    (1, refl, ([], Runs f script, rest, refl, refl, record { unallowed = not; undone = λ is here. absurd (cc) }, refl))

-- the whole
pub tells_all : (told : Settings) (checked : Checked) (here : Place) (trace : Text) → Tells checked told here trace 0 → IsChecked told here trace (verdict checked)
tells_all told Checked.Yes here trace h = h
tells_all told (Checked.No line) here trace (number, count, refused) = subst (IsNo told here trace) (from_zero line number count) refused
  where
    from_zero : (line number : ℕ) → line ≡ 0 + number → number ≡ line
    from_zero line number e = omega arith

-- At rest ---------------------------------------------------------------------------------

-- at a quiet state only what the script gives is allowed
pub none_at_rest : (told : Settings) (f : Front) (script : Trace) (rest : Text) → IsFrontQuiet told f → ((line more : Text) (next : Place) → rest ≡ line ++ 10 ∷ more → AllowsAtRest f script line next → ⊥)
    → (line more : Text) (next : Place) → rest ≡ line ++ 10 ∷ more → Allows told (Runs f script) line next → ⊥
none_at_rest told f script rest quiet not line more next is (inl (entry, new, free, _, _)) = no_free_step told f entry new quiet free
none_at_rest told f script rest quiet not line more next is (inr (still, allows)) = not line more next is allows

-- something is always due at the end
some_due : (s : State) → Ends [] ≡ Ends (end_bytes s) → ⊥
some_due s e = absurd (cc)

pub tells_end : (told : Settings) (checked : Checked) (f : Front) (rest : Text) (lines : ℕ) → IsFrontQuiet told f → Tells checked told (Ends (end_bytes f.state)) rest lines → Tells checked told (Runs f ends) rest lines
tells_end told Checked.Yes f rest lines quiet ([], follow, is) = absurd (some_due f.state follow)
tells_end told Checked.Yes f rest lines quiet (line ∷ texts, (mid, allows, follow), is) = (line ∷ texts, (mid, inr (quiet, allows), follow), is)
tells_end told (Checked.No at) f rest lines quiet (number, count, ([], there, left, follow, is, stuck, size)) = (
  number,
  count,
  (
    [],
    Runs f ends,
    left,
    refl,
    is,
    record {
      unallowed = none_at_rest told f ends left quiet (λ line more next here allows. stuck.unallowed line more next here (subst (λ (p : Place). Allows told p line next) (sym follow) allows));
      undone = λ none here. absurd (cc);
    },
    size,
  ),
)
tells_end told (Checked.No at) f rest lines quiet (number, count, (line ∷ texts, there, left, (mid, allows, follow), is, stuck, size)) =
    (number, count, (line ∷ texts, there, left, (mid, inr (quiet, allows), follow), is, stuck, size))

pub tells_bad : (told : Settings) (checked : Checked) (f : Front) (number : ℕ) (rest : Text) (lines : ℕ) → IsFrontQuiet told f
    → Tells checked told (Ends (end_bytes f.state)) rest (lines + 1) → Tells checked told (Runs f (stops number)) (bad_line number ++ 10 ∷ rest) lines
tells_bad told checked f number rest lines quiet tells = tells_on told checked (Runs f (stops number)) (Ends (end_bytes f.state)) (bad_line number) rest lines (inr (quiet, (refl, refl))) tells

pub tells_other : (told : Settings) (f : Front) (number : ℕ) (rest : Text) (lines : ℕ) → IsFrontQuiet told f → IfFront false rest (bad_line number ++ 10 ∷ []) → Tells (Checked.No (lines + 1)) told (Runs f (stops number)) rest lines
tells_other told f number rest lines quiet front =
    tells_none told f (stops number) rest lines
    (none_at_rest told f (stops number) rest quiet
    (λ line more next is (same, _). front more (is ∙ ap (λ (t : Text). t ++ 10 ∷ more) same ∙ sym (append_assoc (bad_line number) (10 ∷ []) more))))
