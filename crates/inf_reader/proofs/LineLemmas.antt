-- The first line of a text, and what a line adds.
use Rattle.std.proofs.Common.{◌≡◌, ℕ, ◌≤◌, ◌<◌, List, [], ◌∷◌, length, arith, ap, refl, ◌∙◌}
use Rattle.std.specs.Bool.{◌==◌}
use Rattle.std.specs.Str.Lines.{lines_of_parts, strip_carriage_return}
use Rattle.std.proofs.lemmas.List.Splits.{length-slice_split}
use Rattle.std.proofs.lemmas.Grind.{common_steps}
use Rattle.device_ids.specs.Cuts.{parts}
use Rattle.inf_reader.specs.Items.{written_lines, written_of, zip_written}

zip_first : (part : List ℕ) (parts : List (List ℕ)) → 1 ≤ length parts
    → zip_written (part ∷ parts) (lines_of_parts (part ∷ parts)) ≡ written_of (length part) (strip_carriage_return part) ∷ zip_written parts (lines_of_parts parts)
zip_first part [] h = absurd (omega arith)
zip_first part (next ∷ parts) h = refl

pub written_lines-cut : (text part after : List ℕ) → parts 0x0A text ≡ part ∷ parts 0x0A after → written_lines text ≡ written_of (length part) (strip_carriage_return part) ∷ written_lines after
written_lines-cut text part after found =
    let some : 1 ≤ length (parts 0x0A after) = omega (arith, length-slice_split (λ b. b == 0x0A) after) in
    ap (λ ps. zip_written ps (lines_of_parts ps)) found ∙ zip_first part (parts 0x0A after) some

zip_last : (text : List ℕ) → 0 < length text → zip_written (text ∷ []) (lines_of_parts (text ∷ [])) ≡ written_of (length text) text ∷ []
zip_last [] h = absurd (omega arith)
zip_last (b ∷ text) h = grind (arith, common_steps)

pub written_lines-no_cut : (text : List ℕ) → 0 < length text → parts 0x0A text ≡ text ∷ [] → written_lines text ≡ written_of (length text) text ∷ []
written_lines-no_cut text long none = ap (λ ps. zip_written ps (lines_of_parts ps)) none ∙ zip_last text long
