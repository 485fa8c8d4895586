-- What a line is, from what a reader of scripts gives.
use Rattle.std.proofs.Common.{◌≡◌, refl, ◌∙◌, ap, ℕ, ◌+◌, ◌<◌, length, arith, List, [], ◌∷◌, true}
use Rattle.device_ids.specs.Cuts.{parts}
use Rattle.script_reader.specs.declared.line.Line.{Line}
use Rattle.script_reader.specs.declared.line.ScriptEnd.{ScriptEnd}
use Rattle.script_reader.specs.declared.line.ScriptEnd.TheVariants as script_ends
use Rattle.script_reader.specs.Script.{Meaning, nothing, means, bad, gives, ends, stops, onward, of_lines, whole_line, trace}
use Rattle.script_reader.specs.Reading.{give_all}
use Rattle.script_reader.specs.Whole.{end_of}
use Rattle.script_family.specs.declared.sort.LineSort.TheVariants as sorts
use Rattle.script_family.specs.Lines.{by_meaning, tells}

told : (m : Meaning) (lines : List Line) (e : ScriptEnd) → give_all lines (end_of e) ≡ onward (0 + 1) m ends → tells lines e ≡ by_meaning m
told nothing [] script_ends.End is = refl
told nothing [] (script_ends.Bad line) is = absurd (let k : stops line ≡ ends = is in cc)
told nothing (line ∷ lines) e is = absurd (let k : gives line.line line.event (give_all lines (end_of e)) ≡ ends = is in cc)
told (means event) [] script_ends.End is = absurd (let k : ends ≡ gives (0 + 1) event ends = is in cc)
told (means event) [] (script_ends.Bad line) is = absurd (let k : stops line ≡ gives (0 + 1) event ends = is in cc)
told (means event) (line ∷ []) script_ends.End is = refl
told (means event) (line ∷ []) (script_ends.Bad n) is = absurd (let k : gives line.line line.event (stops n) ≡ gives (0 + 1) event ends = is in cc)
told (means event) (line ∷ next ∷ lines) e is =
    absurd (let k : gives line.line line.event (gives next.line next.event (give_all lines (end_of e))) ≡ gives (0 + 1) event ends = is in cc)
told bad [] script_ends.End is = absurd (let k : ends ≡ stops (0 + 1) = is in cc)
told bad [] (script_ends.Bad line) is = refl
told bad (line ∷ lines) e is = absurd (let k : gives line.line line.event (give_all lines (end_of e)) ≡ stops (0 + 1) = is in cc)

pub sort_told : (fed line : List ℕ) (lines : List Line) (e : ScriptEnd) → give_all lines (end_of e) ≡ trace true 0 fed → parts 0x0A fed ≡ line ∷ ([] ∷ [])
    → tells lines e ≡ by_meaning (whole_line line)
sort_told fed line lines e is cut = told (whole_line line) lines e (is ∙ ap (of_lines true 0) cut)

pub tells_nothing : (lines : List Line) → length lines ≡ 0 → tells lines script_ends.End ≡ sorts.Nothing
tells_nothing [] none = refl
tells_nothing (line ∷ lines) none = absurd (omega arith)

pub tells_said : (lines : List Line) → 0 < length lines → tells lines script_ends.End ≡ sorts.Said
tells_said [] some = absurd (omega arith)
tells_said (line ∷ lines) some = refl
