-- The first line of a script, and what it gives.
use Rattle.std.proofs.Common.{◌≡◌, ℕ, ◌+◌, ◌<◌, ◌≤◌, List, [], ◌∷◌, ◌++◌, length, take, drop, Bool, true, false, refl, sym, ◌∙◌, ap, arith, append_assoc, append-nil, length-append, cond, ◌==◌, ◌⊎◌, inl, inr, subst}
use Rattle.std.proofs.lemmas.Bool.{eq-eqb}
use Rattle.std.proofs.lemmas.List.Splits.{slice_split-cons_yes, slice_split-cons_no}
use Rattle.std.proofs.lemmas.List.{take_all, drop_all}
use Rattle.std.proofs.lemmas.Bool.{lt-leb, le-leb}
use Rattle.std.proofs.Math.Seq.{take-append_seam}
use Rattle.std.specs.List.{onto_first}
use Rattle.device_ids.specs.Cuts.{parts}
use Rattle.pnp_labels.specs.declared.event.Event.{Event}
use Rattle.std.specs.Str.Lines.{strip_carriage_return}
use Rattle.script_reader.specs.Words.{words_of}
use Rattle.script_reader.specs.Lines.{event_of}
use Rattle.script_reader.specs.Steps.{Reads}
use Rattle.script_reader.specs.Script.{Meaning, nothing, means, bad, event_or_bad, meaning_of, whole_line, last_line, waits, ends, stops, onward, of_lines, trace, MayFollow, Skips, GivesEvent, IsStuck, Waits}
use Rattle.script_reader.proofs.Gathering.{some_parts}

-- a text without such a byte
abbrev pub IsOne : ℕ → List ℕ → Type 0
IsOne at text = parts at text ≡ text ∷ []

bool_cases : (b : Bool) → (b ≡ true) ⊎ (b ≡ false)
bool_cases true = inl refl
bool_cases false = inr refl

onto_one : (x : ℕ) (ps : List (List ℕ)) (text : List ℕ) → onto_first x ps ≡ (x ∷ text) ∷ [] → (ps ≡ text ∷ []) ⊎ (ps ≡ []) × (text ≡ [])
onto_one x [] text h = inr (refl, (cc))
onto_one x (p ∷ ps) text h = inl (cc)

one_rest : (at x : ℕ) (text : List ℕ) → IsOne at (x ∷ text) → ((x == at) ≡ false) × IsOne at text
one_rest at x text h = elim (bool_cases (x == at)) [
  | inl yes_ ↦ absurd (let e : [] ∷ parts at text ≡ (x ∷ text) ∷ [] = sym (slice_split-cons_yes (λ b. b == at) x text yes_) ∙ h in cc)
  | inr no_ ↦ (
    no_,
    elim (onto_one x (parts at text) text (sym (slice_split-cons_no (λ b. b == at) x text no_) ∙ h)) [
      | inl e ↦ e
      | inr e ↦ absurd (let l : 0 < length (parts at text) = some_parts at text in omega (arith, ap length e.0))
    ],
  )
]

pub parts_whole : (at : ℕ) (line more : List ℕ) → IsOne at line → parts at (line ++ at ∷ more) ≡ line ∷ parts at more
parts_whole at [] more h = slice_split-cons_yes (λ b. b == at) at more (eq-eqb at at refl)
parts_whole at (x ∷ line) more h =
    let r : ((x == at) ≡ false) × IsOne at line = one_rest at x line h in
    slice_split-cons_no (λ b. b == at) x (line ++ at ∷ more) r.0 ∙ ap (onto_first x) (parts_whole at line more r.1)

pub parts_open : (at : ℕ) (rest more p : List ℕ) (ps : List (List ℕ)) → IsOne at rest → parts at more ≡ p ∷ ps → parts at (rest ++ more) ≡ (rest ++ p) ∷ ps
parts_open at [] more p ps h is = is
parts_open at (x ∷ rest) more p ps h is =
    let r : ((x == at) ≡ false) × IsOne at rest = one_rest at x rest h in
    slice_split-cons_no (λ b. b == at) x (rest ++ more) r.0 ∙ ap (onto_first x) (parts_open at rest more p ps r.1 is)

front_line : (f : Bool) (n : ℕ) (line : List ℕ) (ps : List (List ℕ)) → 0 < length ps
    → of_lines f n (line ∷ ps) ≡ onward (n + 1) (whole_line line) (of_lines f (n + 1) ps)
front_line f n line [] h = absurd (omega arith)
front_line f n line (p ∷ ps) h = refl

pub trace_line : (f : Bool) (n : ℕ) (line more : List ℕ) → IsOne 10 line
    → trace f n (line ++ 10 ∷ more) ≡ onward (n + 1) (whole_line line) (trace f (n + 1) more)
trace_line f n line more h = ap (of_lines f n) (parts_whole 10 line more h) ∙ front_line f n line (parts 10 more) (some_parts 10 more)

taken_line : (rest line back : List ℕ) → rest ≡ line ++ 10 ∷ back → take (length line + 1) rest ≡ line ++ 10 ∷ []
taken_line rest line back is =
    ap (take (length line + 1)) (is ∙ sym (append_assoc line (10 ∷ []) back))
    ∙ ap (λ n. take n ((line ++ 10 ∷ []) ++ back)) (sym (length-append line (10 ∷ [])))
    ∙ take-append_seam (line ++ 10 ∷ []) back

line_same : (f : Bool) (n : ℕ) (rest line back more : List ℕ) (m : Meaning) → rest ≡ line ++ 10 ∷ back → IsOne 10 line → whole_line line ≡ m
    → trace f n (take (length line + 1) rest ++ more) ≡ onward (n + 1) m (trace f (n + 1) more)
line_same f n rest line back more m is one meant =
    ap (λ t. trace f n (t ++ more)) (taken_line rest line back is)
    ∙ ap (trace f n) (append_assoc line (10 ∷ []) more)
    ∙ trace_line f n line more one ∙ ap (λ x. onward (n + 1) x (trace f (n + 1) more)) meant

line_inside : (rest line back : List ℕ) → rest ≡ line ++ 10 ∷ back → length line + 1 ≤ length rest
line_inside rest line back is = omega (arith, ap length is, length-append line (10 ∷ back))

skip_line : (finished : Bool) (rest line back : List ℕ) → rest ≡ line ++ 10 ∷ back → IsOne 10 line → whole_line line ≡ nothing
    → Skips finished rest (length line + 1)
skip_line finished rest line back is one meant = record {
  inside = line_inside rest line back is;
  some = omega arith;
  same = λ later more passed may. line_same later passed rest line back more nothing is one meant;
}

give_line : (finished : Bool) (rest line back : List ℕ) (e : Event) → rest ≡ line ++ 10 ∷ back → IsOne 10 line → whole_line line ≡ means e
    → GivesEvent finished rest (length line + 1) e
give_line finished rest line back e is one meant = record {
  inside = line_inside rest line back is;
  some = omega arith;
  same = λ later more passed may. line_same later passed rest line back more (means e) is one meant;
}

bad_line : (finished : Bool) (rest line back : List ℕ) → rest ≡ line ++ 10 ∷ back → IsOne 10 line → whole_line line ≡ bad → IsStuck finished rest
bad_line finished rest line back is one meant = record {
  same = λ later more passed may.
      ap (λ t. trace later passed (t ++ more)) is ∙ ap (trace later passed) (append_assoc line (10 ∷ back) more)
      ∙ trace_line later passed line (back ++ more) one ∙ ap (λ x. onward (passed + 1) x (trace later (passed + 1) (back ++ more))) meant;
}

-- the meaning of a line that is not too long is that of its words
short_line : (line text : List ℕ) (m : Meaning) → length line ≤ 4096 → text ≡ strip_carriage_return line → meaning_of (words_of text) ≡ m → whole_line line ≡ m
short_line line text m short is meant =
    ap (λ b. cond b (meaning_of (words_of (strip_carriage_return line))) bad) (le-leb (length line) 4096 short)
    ∙ ap (λ t. meaning_of (words_of t)) (sym is) ∙ meant

pub pass_line : (finished : Bool) (rest line back text : List ℕ) → rest ≡ line ++ 10 ∷ back → IsOne 10 line → length line ≤ 4096 → text ≡ strip_carriage_return line
    → meaning_of (words_of text) ≡ nothing → Skips finished rest (length line + 1)
pass_line finished rest line back text is one short same none = skip_line finished rest line back is one (short_line line text nothing short same none)

pub read_line : (finished : Bool) (rest line back text : List ℕ) → rest ≡ line ++ 10 ∷ back → IsOne 10 line → length line ≤ 4096 → text ≡ strip_carriage_return line
    → meaning_of (words_of text) ≡ event_or_bad (event_of (words_of text)) → Reads finished rest (length line + 1) text
read_line finished rest line back text is one short same meant = record {
  gives_event = λ e h. give_line finished rest line back e is one (short_line line text (means e) short same (meant ∙ ap event_or_bad h));
  is_stuck = λ h. bad_line finished rest line back is one (short_line line text bad short same (meant ∙ ap event_or_bad h));
}

pub over_line : (finished : Bool) (rest line back : List ℕ) → rest ≡ line ++ 10 ∷ back → IsOne 10 line → 4096 < length line → IsStuck finished rest
over_line finished rest line back is one long =
    bad_line finished rest line back is one (ap (λ b. cond b (meaning_of (words_of (strip_carriage_return line))) bad) (lt-leb (length line) 4096 long))

-- the last line
last_same : (n : ℕ) (rest : List ℕ) (m : Meaning) → 0 < length rest → IsOne 10 rest → last_line rest ≡ m → trace true n rest ≡ onward (n + 1) m ends
last_same n [] m some one meant = absurd (omega arith)
last_same n (b ∷ rest) m some one meant = ap (of_lines true n) one ∙ ap (λ x. onward (n + 1) x ends) meant

last_taken : (later : Bool) (n : ℕ) (rest more : List ℕ) (m : Meaning) → 0 < length rest → IsOne 10 rest → last_line rest ≡ m
    → MayFollow true (drop (length rest) rest) later more → trace later n (take (length rest) rest ++ more) ≡ onward (n + 1) m (trace later (n + 1) more)
last_taken later n rest more m some one meant may =
    let f : later ≡ true = (may refl).0 in
    let none : more ≡ [] = (may refl).1 ∙ drop_all (length rest) rest (omega arith) in
    ap (λ l. trace l n (take (length rest) rest ++ more)) f
    ∙ ap (λ x. trace true n (take (length rest) rest ++ x)) none
    ∙ ap (trace true n) (append-nil (take (length rest) rest) ∙ take_all (length rest) rest (omega arith))
    ∙ last_same n rest m some one meant
    ∙ ap (λ l. onward (n + 1) m (trace l (n + 1) [])) (sym f)
    ∙ ap (λ x. onward (n + 1) m (trace later (n + 1) x)) (sym none)

skip_last : (rest : List ℕ) → 0 < length rest → IsOne 10 rest → last_line rest ≡ nothing → Skips true rest (length rest)
skip_last rest some one meant = record {
  inside = omega arith;
  some = some;
  same = λ later more passed may. last_taken later passed rest more nothing some one meant may;
}

give_last : (rest : List ℕ) (e : Event) → 0 < length rest → IsOne 10 rest → last_line rest ≡ means e → GivesEvent true rest (length rest) e
give_last rest e some one meant = record {
  inside = omega arith;
  some = some;
  same = λ later more passed may. last_taken later passed rest more (means e) some one meant may;
}

bad_last : (rest : List ℕ) → 0 < length rest → IsOne 10 rest → last_line rest ≡ bad → IsStuck true rest
bad_last rest some one meant = record {
  same = λ later more passed may.
      ap (λ l. trace l passed (rest ++ more)) (may refl).0
      ∙ ap (λ x. trace true passed (rest ++ x)) (may refl).1
      ∙ ap (trace true passed) (append-nil rest)
      ∙ last_same passed rest bad some one meant;
}

short_last : (rest : List ℕ) (m : Meaning) → length rest ≤ 4096 → meaning_of (words_of rest) ≡ m → last_line rest ≡ m
short_last rest m short meant = ap (λ b. cond b (meaning_of (words_of rest)) bad) (le-leb (length rest) 4096 short) ∙ meant

pub pass_last : (finished : Bool) (rest : List ℕ) → finished ≡ true → 0 < length rest → IsOne 10 rest → length rest ≤ 4096
    → meaning_of (words_of rest) ≡ nothing → Skips finished rest (length rest)
pass_last finished rest on some one short none =
    subst (λ f. Skips f rest (length rest)) (sym on) (skip_last rest some one (short_last rest nothing short none))

pub read_last : (finished : Bool) (rest : List ℕ) → finished ≡ true → 0 < length rest → IsOne 10 rest → length rest ≤ 4096
    → meaning_of (words_of rest) ≡ event_or_bad (event_of (words_of rest)) → Reads finished rest (length rest) rest
read_last finished rest on some one short meant = subst (λ f. Reads f rest (length rest) rest) (sym on) (record {
  gives_event = λ e h. give_last rest e some one (short_last rest (means e) short (meant ∙ ap event_or_bad h));
  is_stuck = λ h. bad_last rest some one (short_last rest bad short (meant ∙ ap event_or_bad h));
})

long_line : (later : Bool) (n : ℕ) (text : List ℕ) (ps : List (List ℕ)) → 4096 < length text → of_lines later n (text ∷ ps) ≡ stops (n + 1)
long_line true n [] [] long = absurd (omega arith)
long_line true n (b ∷ text) [] long = rw (lt-leb (length (b ∷ text)) 4096 long) refl
long_line false n text [] long = rw (lt-leb (length text) 4096 long) refl
long_line later n text (p ∷ ps) long = rw (lt-leb (length text) 4096 long) refl

long_from : (later : Bool) (n : ℕ) (rest more : List ℕ) → IsOne 10 rest → 4096 < length rest → (ps : List (List ℕ)) → parts 10 more ≡ ps
    → trace later n (rest ++ more) ≡ stops (n + 1)
long_from later n rest more one long [] is = absurd (let l : 0 < length (parts 10 more) = some_parts 10 more in omega (arith, ap length is))
long_from later n rest more one long (p ∷ ps) is =
    ap (of_lines later n) (parts_open 10 rest more p ps one is)
    ∙ long_line later n (rest ++ p) ps (omega (arith, length-append rest p))

pub long_rest : (finished : Bool) (rest : List ℕ) → IsOne 10 rest → 4096 < length rest → IsStuck finished rest
long_rest finished rest one long = record { same = λ later more passed may. long_from later passed rest more one long (parts 10 more) refl }

pub wait_rest : (rest : List ℕ) → IsOne 10 rest → length rest ≤ 4096 → Waits false rest
wait_rest rest one short = record { open_ = refl; no_line = one; short = short; same = λ n. ap (of_lines false n) one ∙ ap (λ b. cond b waits (stops (n + 1))) (le-leb (length rest) 4096 short) }
