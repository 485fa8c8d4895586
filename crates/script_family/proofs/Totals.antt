-- All scripts of a family: how many, and which has a number.
use Rattle.std.proofs.Common.{◌≡◌, sym, ◌∙◌, ap, subst, ℕ, suc, ◌+◌, ◌<◌, ◌≤◌, arith, length, get_or, [], List}
use Rattle.script_family.specs.Families.{Family, scripts_of, scripts, most, IsScript}
use Rattle.script_family.specs.Counts.{sums, count, total, capped}
use Rattle.script_family.specs.Parts.{script_at}
use Rattle.script_family.specs.Texts.{text_of}
use Rattle.script_family.specs.Weights.{most_bytes}
use Rattle.script_family.specs.Reads.{Told}
use Rattle.script_family.proofs.Bytes.{script_bytes}
use Rattle.script_family.proofs.Members.{is_script_of, elem_get}
use Rattle.script_family.proofs.Counting.{counted, all_counted, sums_same}
use Rattle.script_family.proofs.Numbering.{at_block}

pub script_numbered : (f : Family) (n rest number : ℕ) → n ≤ most f → sums (count f) n + rest ≡ number → rest < count f n
    → get_or (scripts f) number [] ≡ script_at f n rest
script_numbered f n rest number le is lt =
    let before : sums (count f) n ≡ sums (λ m. length (scripts_of f m)) n = sums_same (count f) (λ m. length (scripts_of f m)) (λ m. sym (counted f m)) n in
    ap (λ m. get_or (scripts f) m []) (sym is ∙ ap (λ m. m + rest) before)
    ∙ at_block (scripts_of f) (suc (most f)) n rest (omega arith) (omega (arith, counted f n))

pub capped_scripts : (f : Family) → capped (total f) ≡ capped (length (scripts f))
capped_scripts f = ap capped (sym (all_counted f))

-- behind the most lines nothing is left
pub none_left : (f : Family) (lines rest number : ℕ) → number < capped (total f) → lines ≡ most f + 1 → sums (count f) lines + rest ≡ number → ⊥
none_left f lines rest number below at is =
    let all : sums (count f) lines ≡ total f = ap (sums (count f)) (at ∙ next (most f)) in omega arith
  where
    next : (n : ℕ) → n + 1 ≡ suc n
    next n = omega arith

pub below_total : (f : Family) (number : ℕ) → number < capped (length (scripts f)) → number < capped (total f)
below_total f number lt = subst (λ m. number < m) (sym (capped_scripts f)) lt

-- the text of the script of a number
pub script_text : (text : List ℕ) (f : Family) (n rest number : ℕ) (places : List ℕ) (t : Told) → n ≤ most f → sums (count f) n + rest ≡ number → rest < count f n
    → places ≡ script_at f n rest → record { text = text; family = f } ≡ t → text_of text places ≡ text_of t.text (get_or (scripts t.family) number [])
script_text text f n rest number places t le is lt made view =
    ap (text_of text) (made ∙ sym (script_numbered f n rest number le is lt)) ∙ ap (λ (v : Told). text_of v.text (get_or (scripts v.family) number [])) view

pub script_short : (text : List ℕ) (f : Family) (n rest : ℕ) (places : List ℕ) → rest < count f n → places ≡ script_at f n rest → most_bytes text f ≤ 16777216
    → length (text_of text places) ≤ 16777216
script_short text f n rest places lt made few =
    let inside : rest < length (scripts_of f n) = omega (arith, counted f n) in
    let one : IsScript f (script_at f n rest) = is_script_of f n (script_at f n rest) (elem_get (scripts_of f n) rest [] inside) in
    subst (λ v. length (text_of text v) ≤ 16777216) (sym made) (omega (arith, script_bytes text f (script_at f n rest) one, few))
