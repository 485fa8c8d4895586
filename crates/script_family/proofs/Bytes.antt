-- How long the text of a script is.
use Rattle.std.proofs.Common.{◌≡◌, ◌∙◌, ap, ℕ, ◌+◌, ◌≤◌, arith, length, length-append, List, [], ◌∷◌, ◌++◌}
use Rattle.std.proofs.lemmas.List.Concat.{flat_map-append}
use Rattle.script_family.specs.Families.{Family, Script, Weaves, over_both, takes_first, takes_second, IsScript, silent, says, followed, chosen_first, chosen_second, woven_both}
use Rattle.script_family.specs.Texts.{line_at, text_of}
use Rattle.script_family.specs.Weights.{most_bytes}

bytes_of_line : (text : List ℕ) (at : ℕ) (s : Script) → length (text_of text (at ∷ s)) ≡ length (line_at text at) + 1 + length (text_of text s)
bytes_of_line text at s =
    length-append (line_at text at ++ 10 ∷ []) (text_of text s) ∙ ap (λ m. m + length (text_of text s)) (length-append (line_at text at) (10 ∷ []))

weaves_bytes : (text : List ℕ) (x y z : Script) → Weaves x y z → length (text_of text z) ≡ length (text_of text x) + length (text_of text y)
weaves_bytes text _ _ _ over_both = omega arith
weaves_bytes text _ _ _ (takes_first a x y z w) =
    let e : length (text_of text z) ≡ length (text_of text x) + length (text_of text y) = weaves_bytes text x y z w in
    omega (arith, bytes_of_line text a z, bytes_of_line text a x)
weaves_bytes text _ _ _ (takes_second a x y z w) =
    let e : length (text_of text z) ≡ length (text_of text x) + length (text_of text y) = weaves_bytes text x y z w in
    omega (arith, bytes_of_line text a z, bytes_of_line text a y)

both_bytes : (text : List ℕ) (x y : Script) → length (text_of text (x ++ y)) ≡ length (text_of text x) + length (text_of text y)
both_bytes text x y = ap length (flat_map-append (λ at. line_at text at ++ 10 ∷ []) x y) ∙ length-append (text_of text x) (text_of text y)

pub script_bytes : (text : List ℕ) (f : Family) (s : Script) → IsScript f s → length (text_of text s) ≤ most_bytes text f
script_bytes text _ _ silent = omega arith
script_bytes text _ _ (says line) = omega (arith, bytes_of_line text line [])
script_bytes text _ _ (followed a b x y hx hy) = omega (arith, both_bytes text x y, script_bytes text a x hx, script_bytes text b y hy)
script_bytes text _ _ (chosen_first a b s h) = omega (arith, script_bytes text a s h)
script_bytes text _ _ (chosen_second a b s h) = omega (arith, script_bytes text b s h)
script_bytes text _ _ (woven_both a b x y z hx hy w) = omega (arith, weaves_bytes text x y z w, script_bytes text a x hx, script_bytes text b y hy)
