-- A text that is read line by line.
use Rattle.std.proofs.Common.{◌≡◌, refl, sym, ◌∙◌, ap, ap₂, ℕ, suc, ◌+◌, ◌-◌, ◌<◌, ◌≤◌, arith, length, length-append, get_or, drop, take, List, [], ◌∷◌, ◌++◌, append_assoc}
use Rattle.std.proofs.lemmas.List.{drop-drop, drop_at, take_at}
use Rattle.device_ids.specs.Cuts.{parts}
use Rattle.script_reader.proofs.Gathering.{some_parts}
use Rattle.script_reader.proofs.Scripts.{parts_whole}
use Rattle.script_family.specs.declared.draft.Draft.{Draft}
use Rattle.script_family.specs.declared.error.FamilyError.{FamilyError}
use Rattle.script_family.specs.declared.error.FamilyError.TheVariants.{BadLine, TooLarge, WantOfMemory}
use Rattle.script_family.specs.declared.sort.LineSort.{LineSort}
use Rattle.script_family.specs.Families.{Family}
use Rattle.script_family.specs.Lines.{sort_of}
use Rattle.script_family.specs.Texts.{line_at}
use Rattle.script_family.specs.Weights.{line_bytes}
use Rattle.script_family.specs.Reading.{Standing, bad_line, goes, turn, onward, read_lines, finish, beginning}
use Rattle.script_family.specs.Drafts.{standing_of, standing_heavy, standing_most, IsDraft, Stopped, Went}
use Rattle.script_family.specs.Loops.{all_lines, AtLine, IsDraftOf, RefusesLines}
use Rattle.script_family.proofs.Drafting.{turn_heavy}

next_line : (passed at : ℕ) (line : List ℕ) (ps : List (List ℕ)) (s : Standing) → 0 < length ps
    → read_lines passed at (line ∷ ps) s ≡ onward (turn (sort_of line) (passed + 1) at s) (read_lines (passed + 1) (at + length line + 1) ps)
next_line passed at line [] s some = absurd (omega arith)
next_line passed at line (p ∷ ps) s some = refl

-- a line with its line feed, alone
pub line_alone : (line fed after rest : List ℕ) → parts 10 line ≡ line ∷ [] → rest ≡ line ++ 10 ∷ after → fed ≡ line ++ 10 ∷ [] → parts 10 fed ≡ line ∷ ([] ∷ [])
line_alone line fed after rest one cut is = ap (parts 10) is ∙ parts_whole 10 line [] one

pub line_fed : (line after rest : List ℕ) → rest ≡ line ++ 10 ∷ after → take (length line + 1) rest ≡ line ++ 10 ∷ []
line_fed line after rest is =
    ap (take (length line + 1)) (is ∙ sym (append_assoc line (10 ∷ []) after)) ∙ take_at (line ++ 10 ∷ []) after (length line + 1) (length-append line (10 ∷ []))

-- at the beginning
pub at_first : (text : List ℕ) (d : Draft) → IsDraft d → standing_of d ≡ beginning → AtLine text text 0 d
at_first text d named is =
    let none : length text - length text ≡ 0 = omega arith in
    let light : standing_heavy (line_bytes text) (standing_of d) ≡ 0 = ap (standing_heavy (line_bytes text)) is in
    let few : standing_most (standing_of d) ≡ 0 = ap standing_most is in
    record {
      place = ap (λ n. drop n text) none;
      few = omega arith;
      named = named;
      lines = omega (arith, few);
      bytes = omega (arith, light);
      same = ap₂ (λ n s. read_lines 0 n (parts 10 text) s) none is;
    }

-- what the turn of the next line is
pub line_is : (text rest line after : List ℕ) (passed : ℕ) (d : Draft) → AtLine text rest passed d → parts 10 rest ≡ line ∷ parts 10 after
    → onward (turn (sort_of line) (passed + 1) (length text - length rest) (standing_of d)) (read_lines (passed + 1) (length text - length rest + length line + 1) (parts 10 after))
    ≡ all_lines text
line_is text rest line after passed d at cut =
    sym (ap (λ ps. read_lines passed (length text - length rest) ps (standing_of d)) cut
    ∙ next_line passed (length text - length rest) line (parts 10 after) (standing_of d) (some_parts 10 after))
    ∙ at.same

-- one line more
pub line_more : (text rest line after : List ℕ) (passed : ℕ) (d e : Draft) (sort : LineSort) → AtLine text rest passed d → parts 10 rest ≡ line ∷ parts 10 after
    → rest ≡ line ++ 10 ∷ after → sort ≡ sort_of line → Went (turn sort (passed + 1) (length text - length rest) (standing_of d)) e → AtLine text after (passed + 1) e
line_more text rest line after passed d e sort at cut is sort_is went =
    let place : ℕ = length text - length rest in
    let long : length rest ≡ length line + suc (length after) = ap length is ∙ length-append line (10 ∷ after) in
    let next : length text - length after ≡ place + (length line + 1) = omega (arith, at.few) in
    let next' : length text - length after ≡ place + length line + 1 = omega (arith, at.few) in
    let here : line_at text place ≡ line = ap (λ b. get_or (parts 10 b) 0 []) at.place ∙ ap (λ ps. get_or ps 0 []) cut in
    let weight : line_bytes text place ≡ length line + 1 = ap (λ l. length l + 1) here in
    let goes_on : turn (sort_of line) (passed + 1) place (standing_of d) ≡ goes (standing_of e) =
    ap (λ s. turn s (passed + 1) place (standing_of d)) (sym sort_is) ∙ went.there in
    let one : standing_most (standing_of e) ≤ standing_most (standing_of d) + 1 =
    turn_heavy (λ a. 1) (sort_of line) (passed + 1) place (standing_of d) (standing_of e) goes_on in
    let bytes : standing_heavy (line_bytes text) (standing_of e) ≤ standing_heavy (line_bytes text) (standing_of d) + line_bytes text place =
    turn_heavy (line_bytes text) (sort_of line) (passed + 1) place (standing_of d) (standing_of e) goes_on in
    let split : rest ≡ (line ++ 10 ∷ []) ++ after = is ∙ sym (append_assoc line (10 ∷ []) after) in
    let front : length (line ++ 10 ∷ []) ≡ length line + 1 = length-append line (10 ∷ []) in
    record {
      place = ap (λ n. drop n text) next ∙ sym (drop-drop (length line + 1) place text) ∙ ap (drop (length line + 1)) (at.place ∙ split)
          ∙ drop_at (line ++ 10 ∷ []) after (length line + 1) front;
      few = omega (arith, at.few);
      named = went.named;
      lines = omega (arith, at.lines, one);
      bytes = omega (arith, at.bytes, bytes, weight);
      same = ap (λ n. read_lines (passed + 1) n (parts 10 after) (standing_of e)) next'
          ∙ sym (ap (λ t. onward t (read_lines (passed + 1) (place + length line + 1) (parts 10 after))) goes_on)
          ∙ line_is text rest line after passed d at cut;
    }

-- the line is refused
pub line_refused : (text rest line after : List ℕ) (passed : ℕ) (d : Draft) (sort : LineSort) (e : FamilyError) → AtLine text rest passed d → parts 10 rest ≡ line ∷ parts 10 after
    → sort ≡ sort_of line → Stopped e (turn sort (passed + 1) (length text - length rest) (standing_of d)) → RefusesLines e text
line_refused text rest line after passed d sort (BadLine n) at cut sort_is stopped =
    sym (line_is text rest line after passed d at cut)
    ∙ ap (λ t. onward t (read_lines (passed + 1) (length text - length rest + length line + 1) (parts 10 after)))
    (ap (λ s. turn s (passed + 1) (length text - length rest) (standing_of d)) (sym sort_is) ∙ stopped)
line_refused text rest line after passed d sort TooLarge at cut sort_is stopped =
    sym (line_is text rest line after passed d at cut)
    ∙ ap (λ t. onward t (read_lines (passed + 1) (length text - length rest + length line + 1) (parts 10 after)))
    (ap (λ s. turn s (passed + 1) (length text - length rest) (standing_of d)) (sym sort_is) ∙ stopped)
line_refused text rest line after passed d sort WantOfMemory at cut sort_is stopped = tt

-- nothing stands behind the last line feed
end_is : (text rest : List ℕ) (passed : ℕ) (d : Draft) → AtLine text rest passed d → parts 10 rest ≡ rest ∷ []
    → finish (standing_of d).now (standing_of d).blocks ≡ all_lines text
end_is text rest passed d at cut = sym (ap (λ ps. read_lines passed (length text - length rest) ps (standing_of d)) cut) ∙ at.same

pub end_open : (text rest : List ℕ) (passed line : ℕ) (d : Draft) → AtLine text rest passed d → parts 10 rest ≡ rest ∷ []
    → ((now : Family) → finish now (standing_of d).blocks ≡ bad_line line) → RefusesLines (BadLine line) text
end_open text rest passed line d at cut opened = sym (end_is text rest passed d at cut) ∙ opened (standing_of d).now

pub end_whole : (text rest : List ℕ) (passed : ℕ) (d : Draft) → AtLine text rest passed d → parts 10 rest ≡ rest ∷ [] → (standing_of d).blocks ≡ [] → IsDraftOf text d
end_whole text rest passed d at cut none =
    let light : standing_heavy (line_bytes text) (standing_of d) ≡ standing_heavy (line_bytes text) (record { now = (standing_of d).now; blocks = [] }) =
    ap (λ bs. standing_heavy (line_bytes text) (record { now = (standing_of d).now; blocks = bs })) none in
    record {
      there = at.named.now_in;
      whole = sym (end_is text rest passed d at cut) ∙ ap (finish (standing_of d).now) none;
      bytes = omega (arith, at.bytes, light);
    }
