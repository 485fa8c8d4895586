-- The bad lines of a script: line by line, and that the first of them is where the script stops.
use Rattle.std.proofs.Common.{◌≡◌, ℕ, ◌+◌, ◌<◌, List, [], ◌∷◌, ◌++◌, length, Option, Some, None, true, false, refl, sym, ◌∙◌, ap, arith, append_assoc, append-nil}
use Rattle.std.specs.Option.{is_some}
use Rattle.device_ids.specs.Cuts.{parts}
use Rattle.script_reader.specs.Script.{Meaning, nothing, means, bad, Trace, ends, onward, of_lines, whole_line, last_line, trace}
use Rattle.script_reader.proofs.Gathering.{some_parts}
use Rattle.script_reader.specs.Faults.{Fault}
use Rattle.script_lint.specs.Script.{line_fault, is_bad, Bad, found_at, last_faults, faults_from, faults_in, first_line, stop_of}
use Rattle.script_lint.proofs.Exact.{tells}

found : (f : Option Fault) (m : Meaning) (n : ℕ) (more : List Bad) (t : Trace) → is_some f ≡ is_bad m → first_line more ≡ stop_of t
    → first_line (found_at n f ++ more) ≡ stop_of (onward n m t)
found None nothing n more t h k = k
found None (means event) n more t h k = k
found None bad n more t h k = absurd (let e : false ≡ true = h in cc)
found (Some f) nothing n more t h k = absurd (let e : true ≡ false = h in cc)
found (Some f) (means event) n more t h k = absurd (let e : true ≡ false = h in cc)
found (Some f) bad n more t h k = refl

same_stop : (passed : ℕ) (lines : List (List ℕ)) → first_line (faults_from passed lines) ≡ stop_of (of_lines true passed lines)
same_stop passed [] = refl
same_stop passed ([] ∷ []) = refl
same_stop passed ((byte ∷ rest) ∷ []) =
    ap first_line (sym (append-nil (found_at (passed + 1) (line_fault false (byte ∷ rest)))))
    ∙ found (line_fault false (byte ∷ rest)) (last_line (byte ∷ rest)) (passed + 1) [] ends (tells false (byte ∷ rest)) refl
same_stop passed (line ∷ next ∷ lines) =
    found (line_fault true line) (whole_line line) (passed + 1) (faults_from (passed + 1) (next ∷ lines)) (of_lines true (passed + 1) (next ∷ lines))
    (tells true line) (same_stop (passed + 1) (next ∷ lines))

pub stops_at_first : (bads : List Bad) (script : List ℕ) → bads ≡ faults_in script → first_line bads ≡ stop_of (trace true 0 script)
stops_at_first bads script is = ap first_line is ∙ same_stop 0 (parts 0x0A script)

-- Line by line -----------------------------------------------------------------------------------

next_line : (passed : ℕ) (line : List ℕ) (ps : List (List ℕ)) → 0 < length ps
    → faults_from passed (line ∷ ps) ≡ found_at (passed + 1) (line_fault true line) ++ faults_from (passed + 1) ps
next_line passed line [] some = absurd (omega arith)
next_line passed line (p ∷ ps) some = refl

-- one line more, and the rest behind it
pub line_more : (all old new : List Bad) (n : ℕ) (rest line after : List ℕ) (f : Option Fault) → parts 10 rest ≡ line ∷ parts 10 after → f ≡ line_fault true line
    → new ≡ old ++ found_at (n + 1) f → old ++ faults_from n (parts 10 rest) ≡ all → new ++ faults_from (n + 1) (parts 10 after) ≡ all
line_more all old new n rest line after f cut is more so =
    ap (λ l. l ++ faults_from (n + 1) (parts 10 after)) (more ∙ ap (λ g. old ++ found_at (n + 1) g) is)
    ∙ append_assoc old (found_at (n + 1) (line_fault true line)) (faults_from (n + 1) (parts 10 after))
    ∙ ap (λ l. old ++ l) (sym (next_line n line (parts 10 after) (some_parts 10 after)) ∙ ap (faults_from n) (sym cut)) ∙ so

-- nothing stands behind the last LF
pub none_left : (all old : List Bad) (n : ℕ) (rest : List ℕ) → parts 10 rest ≡ rest ∷ [] → rest ≡ [] → old ++ faults_from n (parts 10 rest) ≡ all → old ≡ all
none_left all old n rest cut empty so =
    sym (append-nil old) ∙ ap (λ r. old ++ last_faults n r) (sym empty) ∙ ap (λ ps. old ++ faults_from n ps) (sym cut) ∙ so

last_is : (n : ℕ) (rest : List ℕ) → 0 < length rest → last_faults n rest ≡ found_at (n + 1) (line_fault false rest)
last_is n [] some = absurd (omega arith)
last_is n (byte ∷ rest) some = refl

-- the last line stands there
pub one_left : (all old new : List Bad) (n : ℕ) (rest : List ℕ) (f : Option Fault) → parts 10 rest ≡ rest ∷ [] → 0 < length rest → f ≡ line_fault false rest
    → new ≡ old ++ found_at (n + 1) f → old ++ faults_from n (parts 10 rest) ≡ all → new ≡ all
one_left all old new n rest f cut some is more so =
    more ∙ ap (λ g. old ++ found_at (n + 1) g) is ∙ ap (λ l. old ++ l) (sym (last_is n rest some)) ∙ ap (λ ps. old ++ faults_from n ps) (sym cut) ∙ so
