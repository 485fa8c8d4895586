-- The words of a line, one after another.
use Rattle.std.proofs.Common.{◌≡◌, ℕ, ◌+◌, ◌-◌, ◌<◌, ◌≤◌, List, [], ◌∷◌, ◌++◌, length, get_or, take, drop, true, false, refl, sym, ◌∙◌, ap, arith, suc, add-one, append_assoc, append-nil, length-append, length-drop, not, ◌==◌, cond, Bor, Bool, subst, Some, None, nat_lt, slice_set, length-set}
use Rattle.std.proofs.Math.Seq.{drop-cons}
use Rattle.std.proofs.lemmas.List.{drop_all, take_all, length-take-le}
use Rattle.std.proofs.lemmas.Slice.Eq.{bytes_eq-Decides}
use Rattle.std.specs.Str.{bytes_eq}
use Rattle.std.proofs.lemmas.Bool.Decides.{nat_tests}
use Rattle.std.proofs.lemmas.List.Splits.{slice_split-cons_yes, slice_split-cons_no}
use Rattle.std.specs.List.{filter, slice_split, onto_first, position, position_or_len}
use Rattle.std.specs.Option.{unwrap_or}
use Rattle.std.proofs.lemmas.Grind.{common_steps, take-set_at}
use Rattle.script_reader.specs.Words.{is_blank, words_of}
use Rattle.script_reader.specs.Lines.{event_of}
use Rattle.script_reader.specs.Script.{nothing, event_or_bad, meaning_of}
use Rattle.script_reader.proofs.Gathering.{now_of, length_now}

some_test : (n : ℕ) → 0 < n → not (n == 0) ≡ true
some_test n some = grind (arith, nat_tests)

none_test : (n : ℕ) → n ≡ 0 → not (n == 0) ≡ false
none_test n none = grind (arith, nat_tests)

pub kept : (word : List ℕ) (parts : List (List ℕ)) → 0 < length word
    → filter (λ w. not (length w == 0)) (word ∷ parts) ≡ word ∷ filter (λ w. not (length w == 0)) parts
kept word parts some = ap (λ b. cond b (word ∷ filter (λ w. not (length w == 0)) parts) (filter (λ w. not (length w == 0)) parts)) (some_test (length word) some)

nothing_there : (word : List ℕ) (parts : List (List ℕ)) → length word ≡ 0
    → filter (λ w. not (length w == 0)) (word ∷ parts) ≡ filter (λ w. not (length w == 0)) parts
nothing_there word parts none = ap (λ b. cond b (word ∷ filter (λ w. not (length w == 0)) parts) (filter (λ w. not (length w == 0)) parts)) (none_test (length word) none)

-- how many blanks stand at the front, and how many bytes of a word
abbrev pub blanks : List ℕ → ℕ
blanks line = position_or_len (λ byte. not (is_blank byte)) line

abbrev pub word_len : List ℕ → ℕ
word_len line = position_or_len is_blank line

next : (n : ℕ) → 1 + n ≡ suc n
next n = omega arith

words_behind : (b : Bool) (x : ℕ) (line : List ℕ) → is_blank x ≡ b → words_of line ≡ words_of (drop (blanks line) line)
    → words_of (x ∷ line) ≡ words_of (drop (cond (not (not b)) (1 + blanks line) 0) (x ∷ line))
words_behind true x line blank rest =
    ap (filter (λ w. not (length w == 0))) (slice_split-cons_yes is_blank x line blank) ∙ nothing_there [] (slice_split is_blank line) refl ∙ rest
    ∙ ap (λ n. words_of (drop n (x ∷ line))) (sym (next (blanks line)))
words_behind false x line blank rest = refl

behind_blanks : (line : List ℕ) → words_of line ≡ words_of (drop (blanks line) line)
behind_blanks [] = refl
behind_blanks (x ∷ line) = words_behind (is_blank x) x line refl (behind_blanks line)

-- the parts behind the blank that ends a word
abbrev parts_behind : List ℕ → List (List ℕ)
parts_behind [] = []
parts_behind (x ∷ line) = slice_split is_blank line

first_part_by : (b : Bool) (x : ℕ) (line : List ℕ) → is_blank x ≡ b → slice_split is_blank line ≡ take (word_len line) line ∷ parts_behind (drop (word_len line) line)
    → slice_split is_blank (x ∷ line) ≡ take (cond (not b) (1 + word_len line) 0) (x ∷ line) ∷ parts_behind (drop (cond (not b) (1 + word_len line) 0) (x ∷ line))
first_part_by true x line blank rest = slice_split-cons_yes is_blank x line blank
first_part_by false x line blank rest =
    slice_split-cons_no is_blank x line blank ∙ ap (onto_first x) rest
    ∙ ap (λ n. take n (x ∷ line) ∷ parts_behind (drop n (x ∷ line))) (sym (next (word_len line)))

first_part : (line : List ℕ) → slice_split is_blank line ≡ take (word_len line) line ∷ parts_behind (drop (word_len line) line)
first_part [] = refl
first_part (x ∷ line) = first_part_by (is_blank x) x line refl (first_part line)

behind_word_by : (b : Bool) (x : ℕ) (line : List ℕ) → is_blank x ≡ b
    → words_of (drop (word_len line) line) ≡ filter (λ w. not (length w == 0)) (parts_behind (drop (word_len line) line))
    → words_of (drop (cond (not b) (1 + word_len line) 0) (x ∷ line)) ≡ filter (λ w. not (length w == 0)) (parts_behind (drop (cond (not b) (1 + word_len line) 0) (x ∷ line)))
behind_word_by true x line blank rest =
    ap (filter (λ w. not (length w == 0))) (slice_split-cons_yes is_blank x line blank) ∙ nothing_there [] (slice_split is_blank line) refl
behind_word_by false x line blank rest =
    subst (λ n. words_of (drop n (x ∷ line)) ≡ filter (λ w. not (length w == 0)) (parts_behind (drop n (x ∷ line)))) (sym (next (word_len line))) rest

behind_word : (line : List ℕ) → words_of (drop (word_len line) line) ≡ filter (λ w. not (length w == 0)) (parts_behind (drop (word_len line) line))
behind_word [] = refl
behind_word (x ∷ line) = behind_word_by (is_blank x) x line refl (behind_word line)

word_here_by : (b : Bool) (x : ℕ) (line : List ℕ) → is_blank x ≡ b → (blanks line < length line → 0 < word_len (drop (blanks line) line))
    → cond (not (not b)) (1 + blanks line) 0 < suc (length line) → 0 < word_len (drop (cond (not (not b)) (1 + blanks line) 0) (x ∷ line))
word_here_by true x line blank rest less = subst (λ n. 0 < word_len (drop n (x ∷ line))) (sym (next (blanks line))) (rest (omega arith))
word_here_by false x line blank rest less = subst (λ b. 0 < cond (not b) (1 + word_len line) 0) (sym blank) (omega arith)

-- a word stands behind the blanks
pub word_here : (line : List ℕ) → blanks line < length line → 0 < word_len (drop (blanks line) line)
word_here [] less = absurd (omega arith)
word_here (x ∷ line) less = word_here_by (is_blank x) x line refl (word_here line) less

word_inside_by : (b : Bool) (x : ℕ) (line : List ℕ) → word_len line ≤ length line → cond (not b) (1 + word_len line) 0 ≤ suc (length line)
word_inside_by true x line rest = omega arith
word_inside_by false x line rest = omega arith

pub word_inside : (line : List ℕ) → word_len line ≤ length line
word_inside [] = omega arith
word_inside (x ∷ line) = word_inside_by (is_blank x) x line (word_inside line)

word_end_by : (b : Bool) (line : List ℕ) → nat_lt (word_len line) (length line) ≡ b → unwrap_or (cond b (Some (word_len line)) None) (length line) ≡ word_len line
word_end_by true line less = refl
word_end_by false line less = grind (arith, common_steps, word_inside line)

-- the end of a word, as it is found
pub word_end : (line : List ℕ) → unwrap_or (position is_blank line) (length line) ≡ word_len line
word_end line = word_end_by (nat_lt (word_len line) (length line)) line refl

pub no_word : (line : List ℕ) → position (λ byte. not (is_blank byte)) line ≡ None → words_of line ≡ []
no_word line none =
    let over : length line ≤ blanks line = grind (arith, common_steps) in
    behind_blanks line ∙ ap words_of (drop_all (blanks line) line over) ∙ nothing_there [] [] refl

pub behind_start : (line : List ℕ) (start : ℕ) → position (λ byte. not (is_blank byte)) line ≡ Some start → words_of line ≡ words_of (drop start line)
behind_start line start some =
    let is : start ≡ blanks line = grind (arith, common_steps) in
    behind_blanks line ∙ ap (λ n. words_of (drop n line)) (sym is)

a_word : (line : List ℕ) (start : ℕ) → position (λ byte. not (is_blank byte)) line ≡ Some start
    → (start < length line) × (0 < word_len (drop start line))
    × (words_of line ≡ take (word_len (drop start line)) (drop start line) ∷ words_of (drop (word_len (drop start line)) (drop start line)))
a_word line start some =
    let is : start ≡ blanks line = grind (arith, common_steps) in
    let less : start < length line = grind (arith, common_steps) in
    let text = drop start line in
    let here : 0 < word_len text = subst (λ n. 0 < word_len (drop n line)) (sym is) (word_here line (omega (arith, is, less))) in
    let long : 0 < length (take (word_len text) text) = omega (arith, length-take-le (word_len text) text (word_inside text), here) in (
      less,
      here,
      behind_start line start some
          ∙ ap (filter (λ w. not (length w == 0))) (first_part text)
          ∙ kept (take (word_len text) text) (parts_behind (drop (word_len text) text)) long
          ∙ ap (λ ws. take (word_len text) text ∷ ws) (sym (behind_word text)),
    )

-- the rest of a line from a place on, as it is cut
pub rest_is : (line : List ℕ) (start : ℕ) → take (length line - start) (drop start line) ≡ drop start line
rest_is line start = take_all (length line - start) (drop start line) (omega (arith, length-drop start line))

-- a word ends inside
pub end_inside : (text : List ℕ) (end : ℕ) → end ≡ unwrap_or (position is_blank text) (length text) → end ≤ length text
end_inside text end is = omega (arith, is, word_end text, word_inside text)

pub split_word : (line text front back : List ℕ) (start end : ℕ) → position (λ byte. not (is_blank byte)) line ≡ Some start
    → text ≡ take (length line - start) (drop start line) → end ≡ unwrap_or (position is_blank text) (length text)
    → front ≡ take end text → back ≡ drop end text
    → (words_of line ≡ front ∷ words_of back) × (length back < length line)
split_word line text front back start end some one is before behind =
    let same : text ≡ drop start line = one ∙ rest_is line start in
    let long : end ≡ word_len (drop start line) = is ∙ word_end text ∙ ap word_len same in
    let word = a_word line start some in
    let head : take (word_len (drop start line)) (drop start line) ≡ front = sym (before ∙ ap (λ n. take n text) long ∙ ap (take (word_len (drop start line))) same) in
    let tail : drop (word_len (drop start line)) (drop start line) ≡ back = sym (behind ∙ ap (λ n. drop n text) long ∙ ap (drop (word_len (drop start line))) same) in (
      word.2 ∙ ap (λ w. w ∷ words_of (drop (word_len (drop start line)) (drop start line))) head ∙ ap (λ r. front ∷ words_of r) tail,
      omega (arith, word.0, word.1, ap length (sym tail), length-drop (word_len (drop start line)) (drop start line), length-drop start line),
    )

-- so many words are written, and these bytes are left
pub record Written (line rest : List ℕ) (count : ℕ) (words : List (Bor (List ℕ))) : Type 0 where
  pub inside : count ≤ length words
  pub is : words_of line ≡ now_of (take count words) ++ words_of rest

pub written_none : (line : List ℕ) (words : List (Bor (List ℕ))) → Written line line 0 words
written_none line words = record { inside = omega arith; is = refl }

now_push : (items : List (Bor (List ℕ))) (part : Bor (List ℕ)) → now_of (items ++ part ∷ []) ≡ now_of items ++ part.now ∷ []
now_push [] part = refl
now_push (x ∷ items) part = ap (λ ws. x.now ∷ ws) (now_push items part)

pub written_next : (line rest more : List ℕ) (count : ℕ) (words : List (Bor (List ℕ))) (word : Bor (List ℕ)) → count < length words
    → words_of rest ≡ word.now ∷ words_of more → Written line rest count words → Written line more (count + 1) (slice_set words count word)
written_next line rest more count words word less first so = record {
  inside = omega (arith, length-set words count word);
  is = so.is ∙ ap (λ ws. now_of (take count words) ++ ws) first
      ∙ sym (append_assoc (now_of (take count words)) (word.now ∷ []) (words_of more))
      ∙ ap (λ ws. ws ++ words_of more) (sym (ap now_of (take-set_at words count (count + 1) word refl less) ∙ now_push (take count words) word));
}

pub written_full : (line rest : List ℕ) (count : ℕ) (words : List (Bor (List ℕ))) (word : List ℕ) (more : List (List ℕ)) → length words ≤ count
    → words_of rest ≡ word ∷ more → Written line rest count words → length words < length (words_of line)
written_full line rest count words word more full first so =
    omega (arith, so.inside, ap length so.is, ap length first, length-append (now_of (take count words)) (words_of rest), length_now (take count words), length-take-le count words so.inside)

pub written_all : (line rest : List ℕ) (count : ℕ) (words : List (Bor (List ℕ))) → words_of rest ≡ []
    → Written line rest count words → now_of (take count words) ≡ words_of line
written_all line rest count words none so =
    sym (so.is ∙ ap (λ ws. now_of (take count words) ++ ws) none ∙ append-nil (now_of (take count words)))

-- the blanks before are passed
pub record Front (line : List ℕ) (at : ℕ) : Type 0 where
  pub is : words_of (drop at line) ≡ words_of line

pub front_none : (line : List ℕ) → Front line 0
front_none line = record { is = refl }

front_is : (line : List ℕ) (at : ℕ) → at < length line → Front line at → words_of line ≡ words_of (get_or line at 0 ∷ drop (at + 1) line)
front_is line at less so =
    sym so.is ∙ ap words_of (drop-cons line at 0 less) ∙ ap (λ n. words_of (get_or line at 0 ∷ drop n line)) (sym (add-one at))

pub front_blank : (line : List ℕ) (at : ℕ) → at < length line → is_blank (get_or line at 0) ≡ true → Front line at → Front line (at + 1)
front_blank line at less blank so = record {
  is = sym (front_is line at less so
      ∙ ap (filter (λ w. not (length w == 0))) (slice_split-cons_yes is_blank (get_or line at 0) (drop (at + 1) line) blank)
      ∙ nothing_there [] (slice_split is_blank (drop (at + 1) line)) refl);
}

pub front_all : (line : List ℕ) (at : ℕ) → length line ≤ at → Front line at → meaning_of (words_of line) ≡ nothing
front_all line at long so = ap meaning_of (sym so.is ∙ ap words_of (drop_all at line long) ∙ nothing_there [] [] refl)

-- the first word begins with this byte
starts : (x : ℕ) (parts : List (List ℕ)) → (word : List ℕ) × (words : List (List ℕ)) × (filter (λ w. not (length w == 0)) (onto_first x parts) ≡ (x ∷ word) ∷ words)
starts x [] = ([], [], kept (x ∷ []) [] (omega arith))
starts x (part ∷ parts) = (part, filter (λ w. not (length w == 0)) parts, kept (x ∷ part) parts (omega arith))

begun : (x : ℕ) (word : List ℕ) (words all : List (List ℕ)) → all ≡ (x ∷ word) ∷ words → meaning_of all ≡ cond (x == 0x23) nothing (event_or_bad (event_of all))
begun x word words all is = subst (λ a. meaning_of a ≡ cond (x == 0x23) nothing (event_or_bad (event_of a))) (sym is) refl

pub front_word : (line : List ℕ) (at : ℕ) → at < length line → is_blank (get_or line at 0) ≡ false → Front line at
    → meaning_of (words_of line) ≡ cond (get_or line at 0 == 0x23) nothing (event_or_bad (event_of (words_of line)))
front_word line at less no_ so =
    let s : (word : List ℕ) × (words : List (List ℕ)) × (filter (λ w. not (length w == 0)) (onto_first (get_or line at 0) (slice_split is_blank (drop (at + 1) line))) ≡ (get_or line at 0 ∷ word) ∷ words) =
    starts (get_or line at 0) (slice_split is_blank (drop (at + 1) line)) in
    begun (get_or line at 0) s.0 s.1 (words_of line) (front_is line at less so
    ∙ ap (filter (λ w. not (length w == 0))) (slice_split-cons_no is_blank (get_or line at 0) (drop (at + 1) line) no_) ∙ s.2)

pub front_comment : (line : List ℕ) (at : ℕ) (b : Bool) → at < length line → is_blank (get_or line at 0) ≡ false → b ≡ (get_or line at 0 == 0x23) → b ≡ true → Front line at
    → meaning_of (words_of line) ≡ nothing
front_comment line at b less no_ is on so =
    front_word line at less no_ so ∙ ap (λ c. cond c nothing (event_or_bad (event_of (words_of line)))) (sym is ∙ on)

pub front_event : (line : List ℕ) (at : ℕ) (b : Bool) → at < length line → is_blank (get_or line at 0) ≡ false → b ≡ (get_or line at 0 == 0x23) → b ≡ false → Front line at
    → meaning_of (words_of line) ≡ event_or_bad (event_of (words_of line))
front_event line at b less no_ is off so =
    front_word line at less no_ so ∙ ap (λ c. cond c nothing (event_or_bad (event_of (words_of line)))) (sym is ∙ off)

-- two words are the same where they are as long and have the same bytes
pub same_words : (word other : List ℕ) (at : ℕ) → length word ≡ length other → length word ≤ at → take at word ≡ take at other → true ≡ bytes_eq word other
same_words word other at long all same =
    sym ((bytes_eq-Decides word other).1 (sym (take_all at word all) ∙ same ∙ take_all at other (omega arith)))
