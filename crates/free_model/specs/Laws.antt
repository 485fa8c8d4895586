-- What is proved of the check.
use Rattle.std.specs.Prelude.{◌≡◌, ◌+◌, List, [], ◌++◌, ◌∷◌, length}
use Rattle.pnp_labels.specs.Texts.{Text}
use Rattle.pnp_model.specs.Records.{Settings, Found}
use Rattle.free_model.specs.Checks.{Place, Ends, Allows, Follow, Verdict, Yes, No, IsChecked}
use Rattle.free_model.specs.Follows.{checked, AllRight}

-- of the lines that are allowed at a place at most one begins a text, and it leads to one place
abbrev pub OnePlaceLaw : Type 0
OnePlaceLaw =
    (settings : Settings) (here : Place) (k l m n : Text) (x y : Place) → Allows settings here k x → Allows settings here l y
    → k ++ 10 ∷ m ≡ l ++ 10 ∷ n → (k ≡ l) × (x ≡ y)

-- a trace has one verdict
abbrev pub OneVerdictLaw : Type 0
OneVerdictLaw = (settings : Settings) (here : Place) (trace : Text) (v w : Verdict) → IsChecked settings here trace v → IsChecked settings here trace w → v ≡ w

-- the first line is not allowed here; or there is none, and more is due
abbrev pub IsRefused : Settings → Place → List Text → Type 0
IsRefused settings here [] = here ≡ Ends [] → ⊥
IsRefused settings here (line ∷ lines) = (next : Place) → Allows settings here line next → ⊥

-- what a verdict says of lines: all are allowed, one after another, up to where nothing is due; or so many are, and then not the next
abbrev pub Tells : Settings → Place → List Text → Verdict → Type 0
Tells settings here lines Yes = Follow settings here lines (Ends [])
Tells settings here lines (No number) =
    (before : List Text) × (there : Place) × (rest : List Text) × Follow settings here before there × (lines ≡ before ++ rest)
    × IsRefused settings there rest × (number ≡ length before + 1)

-- the check that computes tells what it says, where the answers that it is given are those of its searches
abbrev pub ComputesVerdictsLaw : Type 0
ComputesVerdictsLaw =
    (settings : Settings) (here : Place) (found : List Found) (lines : List Text) (verdict : Verdict) → AllRight settings here found lines
    → checked settings here found 1 lines ≡ verdict → Tells settings here lines verdict
