-- A generated script is run to its end.
use Rattle.std.proofs.Common.{◌≡◌, ◌≤◌, ◌+◌, ◌*◌, ◌==◌, ◌&&◌, ℕ, zero, suc, Bool, true, false, not, List, [], ◌∷◌, ◌++◌, Some, length, take, refl, sym, ◌∙◌, ap, subst, arith, append_assoc, append-nil, length-append}
use Rattle.std.specs.Prelude.{codes, nat_le}
use Rattle.std.specs.List.{onto_first}
use Rattle.std.proofs.lemmas.Bool.{le-leb}
use Rattle.std.proofs.lemmas.Bool.Decides.{nat_tests}
use Rattle.std.proofs.lemmas.List.{take_all}
use Rattle.std.proofs.lemmas.List.Splits.{slice_split-cons_no}
use Rattle.pnp_laws.proofs.Truths.{and_both, not_true, or_neither}
use Rattle.script_reader.specs.Script.{Meaning, nothing, means, bad, whole_line, Trace, onward, trace}
use Rattle.script_reader.proofs.Scripts.{IsOne, trace_line}
use Rattle.pnp_cli.specs.Contents.{answer_of, decided_of, script_status}
use Rattle.pnp_cli.specs.Generated.{device_line, device_lines, gen_script, head, line}
use Rattle.pnp_cli.specs.GeneratedLaws.{GeneratedScriptEndsLaw}
use Rattle.pnp_cli.specs.Infs.{limit}
use Rattle.pnp_cli.specs.declared.status.Status.{Status}
use Rattle.pnp_cli.proofs.GoodLines.{device_good, device_text, has_feed, is_event, is_good}

-- Lines ---------------------------------------------------------------------------------------

-- a text of lines with events: what comes behind it decides the answer; and it has at most so many bytes
record Fine (text : List ℕ) (most : ℕ) : Type 0 where
  goes : (passed : ℕ) (rest : List ℕ) → (next : ℕ) × (answer_of (trace true passed (text ++ rest)) ≡ answer_of (trace true next rest))
  short : length text ≤ most

one_of : (text : List ℕ) → has_feed text ≡ false → IsOne 10 text
one_of [] none = refl
one_of (x ∷ text) none =
    let two = or_neither (x == 10) (has_feed text) none in
    slice_split-cons_no (λ b. b == 10) x text two.0 ∙ ap (onto_first x) (one_of text two.1)

onward_answer : (number : ℕ) (m : Meaning) (rest : Trace) → is_event m ≡ true → answer_of (onward number m rest) ≡ answer_of rest
onward_answer number nothing rest e = absurd (cc)
onward_answer number (means event) rest e = refl
onward_answer number bad rest e = absurd (cc)

line_short : (text : List ℕ) → nat_le (length text) 127 ≡ true → length (line text) ≤ 128
line_short text e = let low : length text ≤ 127 = grind (arith, nat_tests) in omega (arith, low, length-append text (10 ∷ []))

line_goes : (text : List ℕ) → is_event (whole_line text) ≡ true → has_feed text ≡ false → (passed : ℕ) (rest : List ℕ)
    → (next : ℕ) × (answer_of (trace true passed (line text ++ rest)) ≡ answer_of (trace true next rest))
line_goes text event none passed rest = (
  passed + 1,
  ap (λ (x : List ℕ). answer_of (trace true passed x)) (append_assoc text (10 ∷ []) rest) ∙ ap answer_of (trace_line true passed text rest (one_of text none))
      ∙ onward_answer (passed + 1) (whole_line text) (trace true (passed + 1) rest) event,
)

fine_line : (text : List ℕ) → is_good text ≡ true → Fine (line text) 128
fine_line text good =
    let two = and_both (is_event (whole_line text)) (not (has_feed text) && nat_le (length text) 127) good in
    let rest = and_both (not (has_feed text)) (nat_le (length text) 127) two.1 in
    record { goes = line_goes text two.0 (not_true (has_feed text) rest.0); short = line_short text rest.1 }

fine_both : (a b : List ℕ) (m n : ℕ) → Fine a m → Fine b n → Fine (a ++ b) (m + n)
fine_both a b m n h g =
    record {
      goes = λ passed rest.
          let first = h.goes passed (b ++ rest) in
          let then_ = g.goes first.0 rest in
          (then_.0, ap (λ (x : List ℕ). answer_of (trace true passed x)) (append_assoc a b rest) ∙ first.1 ∙ then_.1);
      short = omega (arith, h.short, g.short, length-append a b);
    }

more_lines : (k : ℕ) → 128 * k + 128 ≡ 128 * suc k
more_lines k = omega arith

fine_lines : (n : ℕ) → n ≤ 400 → Fine (device_lines n) (128 * n)
fine_lines zero low = record { goes = λ passed rest. (passed, refl); short = omega arith }
fine_lines (suc k) low =
    subst (λ (m : ℕ). Fine (device_lines k ++ device_line (suc k)) m) (more_lines k)
    (fine_both (device_lines k) (line (device_text (suc k))) (128 * k) 128 (fine_lines k (omega (arith, low))) (fine_line (device_text (suc k)) (device_good k low)))

fine_head : Fine head 384
fine_head =
    fine_both (line (codes "driver bus steady") ++ line (codes "driver dev steady")) (line (codes "plug HTREE\\ROOT\\0 GEN\\BUS 0")) 256 128
    (fine_both (line (codes "driver bus steady")) (line (codes "driver dev steady")) 128 128 (fine_line (codes "driver bus steady") refl) (fine_line (codes "driver dev steady") refl))
    (fine_line (codes "plug HTREE\\ROOT\\0 GEN\\BUS 0") refl)

fine_script : (n : ℕ) → n ≤ 400 → Fine (gen_script n) (384 + 128 * n)
unfolding gen_script
fine_script n low = fine_both head (device_lines n) 384 (128 * n) fine_head (fine_lines n low)

-- a text that is not too large is decided as it stands
decided_whole : (text : List ℕ) → length text ≤ limit → decided_of text ≡ trace true 0 text
decided_whole text low =
    ap (λ (b : Bool). trace b 0 (take limit text)) (le-leb (length text) limit low) ∙ ap (λ (x : List ℕ). trace true 0 x) (take_all limit text low)

script_ends : (text : List ℕ) (most : ℕ) → Fine text most → most ≤ limit → script_status (Some text) ≡ Some Status.Done
script_ends text most h small =
    let low : length text ≤ limit = omega (arith, h.short, small) in
    let end = h.goes 0 [] in
    ap Some (ap answer_of (decided_whole text low) ∙ ap (λ (x : List ℕ). answer_of (trace true 0 x)) (sym (append-nil text)) ∙ end.1)

pub generated_script : GeneratedScriptEndsLaw
generated_script n low = script_ends (gen_script n) (384 + 128 * n) (fine_script n low) (omega (arith, low))
