-- A path has no blanks: it is one word.
use Rattle.std.proofs.Common.{◌≡◌, ℕ, ◌-◌, ◌<◌, List, [], ◌∷◌, ◌++◌, length, take, drop, true, false, Some, None, Ok, Err, sym, ◌∙◌, ap, arith, append_assoc, not, ◌==◌, ◌&&◌, IsTrue}
use Rattle.std.proofs.lemmas.Grind.{common_steps}
use Rattle.std.proofs.lemmas.Bool.Decides.{nat_tests}
use Rattle.std.proofs.lemmas.List.Elements.{All-weaker}
use Rattle.std.proofs.lemmas.List.Folds.{list_all-append}
use Rattle.std.proofs.lemmas.List.Splits.{slice_split_none, join_with_byte-slice_split}
use Rattle.std.proofs.lemmas.List.Sums.{AllPass-from_list_all}
use Rattle.std.specs.List.{filter, list_all, position, join_with_byte}
use Rattle.device_ids.specs.Cuts.{parts}
use Rattle.device_ids.specs.Ids.{is_id, is_id_byte, is_path, are_ids, joined}
use Rattle.script_reader.specs.Lines.{lone_path}
use Rattle.script_reader.specs.Faults.{fault, ok_if}
use Rattle.script_reader.specs.declared.cause.Cause.{Cause}
use Rattle.script_reader.specs.Words.{is_blank, words_of}
use Rattle.script_reader.proofs.Wording.{kept, behind_start, no_word, rest_is}

no_blank : (byte : ℕ) → is_id_byte byte ≡ true → is_blank byte ≡ false
no_blank byte legal = grind (arith, nat_tests)

legal_bytes : (bytes : List ℕ) → is_id bytes ≡ true → list_all is_id_byte bytes ≡ true
legal_bytes bytes legal = grind (arith, common_steps)

both : (before after : List ℕ) → (is_id before && is_id after) ≡ true → list_all is_id_byte (before ++ 0x5C ∷ after) ≡ true
both before after legal =
    list_all-append is_id_byte before (0x5C ∷ after) ∙ grind (arith, common_steps, legal_bytes before, legal_bytes after)

all_legal : (all : List (List ℕ)) → are_ids all ≡ true → list_all is_id_byte (join_with_byte 0x5C all) ≡ true
all_legal (bus ∷ name ∷ instance ∷ []) legal =
    ap (list_all is_id_byte) (sym (append_assoc bus (0x5C ∷ name) (0x5C ∷ instance))) ∙ both (joined bus name) instance legal
all_legal [] legal = absurd cc
all_legal (a ∷ []) legal = absurd cc
all_legal (a ∷ b ∷ []) legal = absurd cc
all_legal (a ∷ b ∷ c ∷ d ∷ more) legal = absurd cc

path_bytes : (text : List ℕ) → IsTrue (is_path text) → list_all is_id_byte text ≡ true
path_bytes text path =
    let ids : are_ids (parts 0x5C text) ≡ true = grind (arith, common_steps) in
    ap (list_all is_id_byte) (sym (join_with_byte-slice_split 0x5C text)) ∙ all_legal (parts 0x5C text) ids

some_bytes : (text : List ℕ) → IsTrue (is_path text) → 0 < length text
some_bytes [] path = absurd cc
some_bytes (byte ∷ text) path = omega arith

one_word : (text : List ℕ) → IsTrue (is_path text) → words_of text ≡ text ∷ []
one_word text path =
    ap (filter (λ word. not (length word == 0))) (slice_split_none is_blank text
    (All-weaker (λ b. is_id_byte b ≡ true) (λ b. is_blank b ≡ false) no_blank text (AllPass-from_list_all is_id_byte text (path_bytes text path))))
    ∙ kept text [] (some_bytes text path)

-- what stands behind the blanks is a path
pub path_behind : (keyword line path : List ℕ) (start : ℕ) → position (λ byte. not (is_blank byte)) line ≡ Some start
    → path ≡ take (length line - start) (drop start line) → IsTrue (is_path path) → lone_path keyword (words_of line) ≡ Ok path
path_behind keyword line path start some is legal =
    let same : drop start line ≡ path = sym (is ∙ rest_is line start) in
    let words : words_of line ≡ path ∷ [] = behind_start line start some ∙ ap words_of same ∙ one_word path legal in
    ap (lone_path keyword) words ∙ ap (λ b. ok_if b path (fault Cause.NotPath path)) legal

pub no_path : (keyword line : List ℕ) → position (λ byte. not (is_blank byte)) line ≡ None → lone_path keyword (words_of line) ≡ Err (fault Cause.FewWords keyword)
no_path keyword line none = ap (lone_path keyword) (no_word line none)
