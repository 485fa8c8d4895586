-- Lines of an ending, one after another.
use Rattle.std.proofs.Common.{◌≡◌, ℕ, suc, ◌+◌, ◌<◌, ◌≤◌, Bool, true, false, cond, ◌==◌, ◌&&◌, List, [], ◌∷◌, ◌++◌, length, map, get_or, take, drop, ◌-◌, sym, ap, ◌∙◌, arith, Bor}
use Rattle.std.proofs.lemmas.List.{at_drop_more, take_rest, append-nil, append_assoc, map_push}
use Rattle.std.specs.declared.vec.Vec.{Vec}
use Rattle.std.specs.declared.alloc.Global.{Global}
use Rattle.ending_tally.specs.Plain.{Node, depth_of, node_of, parent_of, begins_part, unless_empty, part_of, line_form, with_node, tree_forms, with_heading, parts_form, joined}
use Rattle.ending_tally.specs.Patterns.{word_fits, begins_with}
use Rattle.ending_tally.proofs.Trees.{same_forms}

-- the bytes of lines
abbrev pub bytes : List (Bor (List ℕ)) → List (List ℕ)
bytes lines = map (λ line. line.now) lines

pub depth_at : (line : List ℕ) (at d : ℕ) → at < length line → depth_of (drop at line) ≡ cond (get_or line at d == 0x20) (suc (depth_of (drop (at + 1) line))) 0
depth_at line at d l = at_drop_more depth_of line at d l

part_at : (lines : List (Bor (List ℕ))) (at : ℕ) (line : Bor (List ℕ)) → at < length lines → line ≡ get_or lines at line
    → part_of (bytes (drop at lines)) ≡ cond (begins_part line.now) [] (unless_empty line.now ++ part_of (bytes (drop (at + 1) lines)))
part_at lines at line l is =
    at_drop_more (λ (ls : List (Bor (List ℕ))). part_of (bytes ls)) lines at line l
    ∙ ap (λ (x : Bor (List ℕ)). cond (begins_part x.now) [] (unless_empty x.now ++ part_of (bytes (drop (at + 1) lines)))) (sym is)

pub tree_at : (above : List Node) (lines : List (Bor (List ℕ))) (at : ℕ) (d : Bor (List ℕ)) → at < length lines
    → tree_forms above (bytes (drop at lines)) ≡ line_form above (get_or lines at d).now (node_of (get_or lines at d).now) ∷ tree_forms (with_node (node_of (get_or lines at d).now) above) (bytes (drop (at + 1) lines))
tree_at above lines at d l = at_drop_more (λ (ls : List (Bor (List ℕ))). tree_forms above (bytes ls)) lines at d l

parts_at : (lines : List (Bor (List ℕ))) (at : ℕ) (line : Bor (List ℕ)) → at < length lines → line ≡ get_or lines at line
    → parts_form (bytes (drop at lines)) ≡ with_heading line.now (bytes (drop (at + 1) lines)) ++ parts_form (bytes (drop (at + 1) lines))
parts_at lines at line l is =
    at_drop_more (λ (ls : List (Bor (List ℕ))). parts_form (bytes ls)) lines at line l
    ∙ ap (λ (x : Bor (List ℕ)). with_heading x.now (bytes (drop (at + 1) lines)) ++ parts_form (bytes (drop (at + 1) lines))) (sym is)

-- ---- a line more is done

pub snoc : {A B : Type 0} (f : A → B) (xs : List A) (x : A) (rest whole : List B) → map f xs ++ (f x ∷ rest) ≡ whole → map f (xs ++ x ∷ []) ++ rest ≡ whole
snoc f xs x rest whole h = ap (λ l. l ++ rest) (map_push f xs x) ∙ append_assoc (map f xs) (f x ∷ []) rest ∙ h

pub tree_more : (forms : List (Vec ℕ Global)) (form : Vec ℕ Global) (before after : List Node) (lines : List (Bor (List ℕ))) (at : ℕ) (line : Bor (List ℕ)) (whole : List (List ℕ)) → at < length lines → line ≡ get_or lines at line
    → form.items ≡ line_form before line.now (node_of line.now)
    → ((depth : ℕ) → parent_of depth after ≡ parent_of depth (with_node (node_of line.now) before))
    → map (λ (v : Vec ℕ Global). v.items) forms ++ tree_forms before (bytes (drop at lines)) ≡ whole
    → map (λ (v : Vec ℕ Global). v.items) (forms ++ form ∷ []) ++ tree_forms after (bytes (drop (at + 1) lines)) ≡ whole
tree_more forms form before after lines at line whole l is same parents h =
    snoc (λ (v : Vec ℕ Global). v.items) forms form _ whole
    (ap (λ t. map (λ (v : Vec ℕ Global). v.items) forms ++ (t ∷ tree_forms after (bytes (drop (at + 1) lines)))) same
    ∙ ap (λ t. map (λ (v : Vec ℕ Global). v.items) forms ++ (line_form before line.now (node_of line.now) ∷ t)) (same_forms (bytes (drop (at + 1) lines)) after (with_node (node_of line.now) before) parents)
    ∙ ap (λ (x : Bor (List ℕ)). map (λ (v : Vec ℕ Global). v.items) forms ++ (line_form before x.now (node_of x.now) ∷ tree_forms (with_node (node_of x.now) before) (bytes (drop (at + 1) lines)))) is
    ∙ ap (λ t. map (λ (v : Vec ℕ Global). v.items) forms ++ t) (sym (tree_at before lines at line l))
    ∙ h)

-- the lines of a part: the next part begins, or another line is taken
pub part_stops : (part lines : List (Bor (List ℕ))) (at : ℕ) (line : Bor (List ℕ)) (whole : List (List ℕ)) → at < length lines → line ≡ get_or lines at line → begins_part line.now ≡ true
    → bytes part ++ part_of (bytes (drop at lines)) ≡ whole → bytes part ≡ whole
part_stops part lines at line whole l is begins h =
    sym (append-nil (bytes part))
    ∙ ap (λ t. bytes part ++ t) (sym (part_at lines at line l is ∙ ap (λ b. cond b [] (unless_empty line.now ++ part_of (bytes (drop (at + 1) lines)))) begins))
    ∙ h

pub part_more : (part new lines : List (Bor (List ℕ))) (at : ℕ) (line : Bor (List ℕ)) (whole : List (List ℕ)) → at < length lines → line ≡ get_or lines at line → begins_part line.now ≡ false
    → bytes new ≡ bytes part ++ unless_empty line.now
    → bytes part ++ part_of (bytes (drop at lines)) ≡ whole → bytes new ++ part_of (bytes (drop (at + 1) lines)) ≡ whole
part_more part new lines at line whole l is begins taken h =
    ap (λ t. t ++ part_of (bytes (drop (at + 1) lines))) taken
    ∙ append_assoc (bytes part) (unless_empty line.now) (part_of (bytes (drop (at + 1) lines)))
    ∙ ap (λ t. bytes part ++ t) (sym (part_at lines at line l is ∙ ap (λ b. cond b [] (unless_empty line.now ++ part_of (bytes (drop (at + 1) lines)))) begins))
    ∙ h

-- the parts of an ending
pub parts_more : (out new : List ℕ) (lines rest : List (Bor (List ℕ))) (at : ℕ) (line : Bor (List ℕ)) (whole : List ℕ) → at < length lines → line ≡ get_or lines at line → rest ≡ drop (at + 1) lines
    → new ≡ out ++ with_heading line.now (bytes rest)
    → out ++ parts_form (bytes (drop at lines)) ≡ whole → new ++ parts_form (bytes (drop (at + 1) lines)) ≡ whole
parts_more out new lines rest at line whole l is left made h =
    let later = parts_form (bytes (drop (at + 1) lines)) in
    ap (λ t. t ++ later) (made ∙ ap (λ r. out ++ with_heading line.now (bytes r)) left)
    ∙ append_assoc out (with_heading line.now (bytes (drop (at + 1) lines))) later
    ∙ ap (λ t. out ++ t) (sym (parts_at lines at line l is))
    ∙ h

-- forms are appended, each with its line feed
pub form_more : (out : List ℕ) (forms : List (Vec ℕ Global)) (at : ℕ) (form : Vec ℕ Global) (whole : List ℕ) → at < length forms → form ≡ get_or forms at form
    → out ++ joined (map (λ (v : Vec ℕ Global). v.items) (drop at forms)) ≡ whole
    → ((out ++ form.items) ++ 0x0A ∷ []) ++ joined (map (λ (v : Vec ℕ Global). v.items) (drop (at + 1) forms)) ≡ whole
form_more out forms at form whole l is h =
    let later = joined (map (λ (v : Vec ℕ Global). v.items) (drop (at + 1) forms)) in
    let here : joined (map (λ (v : Vec ℕ Global). v.items) (drop at forms)) ≡ (form.items ++ 0x0A ∷ []) ++ later =
    at_drop_more (λ (fs : List (Vec ℕ Global)). joined (map (λ (v : Vec ℕ Global). v.items) fs)) forms at form l
    ∙ ap (λ (v : Vec ℕ Global). (v.items ++ 0x0A ∷ []) ++ later) (sym is) in
    ap (λ t. t ++ later) (append_assoc out form.items (0x0A ∷ []))
    ∙ append_assoc out (form.items ++ 0x0A ∷ []) later
    ∙ ap (λ t. out ++ t) (sym here)
    ∙ h

-- ---- the words of a line against those of a pattern, one by one

abbrev pub begins : List (Vec ℕ Global) → ℕ → List (Bor (List ℕ)) → Bool
begins pattern at words = begins_with (map (λ (w : Vec ℕ Global). w.items) (drop at pattern)) (map (λ (w : Bor (List ℕ)). w.now) words)

begins_at : (pattern : List (Vec ℕ Global)) (at : ℕ) (word : Vec ℕ Global) (words : List (Bor (List ℕ))) → at < length pattern → word ≡ get_or pattern at word
    → begins pattern at words ≡ begins_with (word.items ∷ map (λ (w : Vec ℕ Global). w.items) (drop (at + 1) pattern)) (map (λ (w : Bor (List ℕ)). w.now) words)
begins_at pattern at word words l is =
    at_drop_more (λ (ws : List (Vec ℕ Global)). begins_with (map (λ (w : Vec ℕ Global). w.items) ws) (map (λ (w : Bor (List ℕ)). w.now) words)) pattern at word l
    ∙ ap (λ (v : Vec ℕ Global). begins_with (v.items ∷ map (λ (w : Vec ℕ Global). w.items) (drop (at + 1) pattern)) (map (λ (w : Bor (List ℕ)). w.now) words)) (sym is)

-- there is no word more
pub begins_none : (pattern : List (Vec ℕ Global)) (at : ℕ) (word : Vec ℕ Global) (words : List (Bor (List ℕ))) → at < length pattern → word ≡ get_or pattern at word → words ≡ [] → begins pattern at words ≡ false
begins_none pattern at word words l is none =
    begins_at pattern at word words l is
    ∙ ap (λ (ws : List (Bor (List ℕ))). begins_with (word.items ∷ map (λ (w : Vec ℕ Global). w.items) (drop (at + 1) pattern)) (map (λ (w : Bor (List ℕ)). w.now) ws)) none

-- the next word is looked at
pub begins_some : (pattern : List (Vec ℕ Global)) (at : ℕ) (word : Vec ℕ Global) (words more : List (Bor (List ℕ))) (first : Bor (List ℕ)) (fit : Bool) → at < length pattern → word ≡ get_or pattern at word → words ≡ first ∷ more → word_fits word.items first.now ≡ fit
    → begins pattern at words ≡ (fit && begins pattern (at + 1) more)
begins_some pattern at word words more first fit l is some fits_so =
    begins_at pattern at word words l is
    ∙ ap (λ (ws : List (Bor (List ℕ))). begins_with (word.items ∷ map (λ (w : Vec ℕ Global). w.items) (drop (at + 1) pattern)) (map (λ (w : Bor (List ℕ)). w.now) ws)) some
    ∙ ap (λ b. b && begins pattern (at + 1) more) fits_so

-- what a slice pattern takes apart
pub first_and_rest : (words : List (Bor (List ℕ))) (d : Bor (List ℕ)) → 1 ≤ length words → words ≡ get_or words 0 d ∷ take (length words - 1) (drop 1 words)
first_and_rest [] d h = absurd (omega (arith, h))
first_and_rest (word ∷ words) d h = ap (λ l. word ∷ l) (sym (take_rest (word ∷ words) 1))
