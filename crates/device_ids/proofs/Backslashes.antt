-- The last backslash of a path.
use Rattle.std.proofs.Common.{◌≡◌, ℕ, suc, ◌+◌, ◌<◌, List, [], ◌∷◌, ◌++◌, length, take, drop, true, false, refl, sym, ◌∙◌, ap, arith, append_assoc, length-append, ◌&&◌, ◌==◌, count_by}
use Rattle.std.proofs.lemmas.List.Splits.{length-slice_split}
use Rattle.device_ids.specs.Cuts.{parts}
use Rattle.device_ids.specs.Ids.{Sides, has_parts, are_parts, are_ids, joined, is_id, is_some_bytes}
use Rattle.std.proofs.lemmas.Bool.{lt-ltb}
use Rattle.std.proofs.Math.Seq.{take-append_seam, drop-append-add}

-- there is a part always
pub some_part : (at : ℕ) (bytes : List ℕ) → (p : List ℕ) × (ps : List (List ℕ)) × (parts at bytes ≡ p ∷ ps)
some_part at bytes = elim (parts at bytes) as (λ x. length x ≡ count_by (λ b. b == at) bytes + 1 → (p : List ℕ) × (ps : List (List ℕ)) × (x ≡ p ∷ ps)) [
  | [] ↦ λ h. absurd (omega arith)
  | p ∷ ps ↦ λ h. (p, ps, refl)
] (length-slice_split (λ b. b == at) bytes)

three_true : (bus name instance : List ℕ) → 0 < length bus → 0 < length name → 0 < length instance
    → (is_some_bytes bus && is_some_bytes name && is_some_bytes instance) ≡ true
three_true bus name instance a b c = rw (lt-ltb 0 (length bus) a, lt-ltb 0 (length name) b, lt-ltb 0 (length instance) c) refl

pub sides : (bytes bus rest name instance : List ℕ)
    → parts 92 bytes ≡ bus ∷ parts 92 rest → parts 92 rest ≡ name ∷ parts 92 instance → parts 92 instance ≡ instance ∷ []
    → bytes ≡ bus ++ 92 ∷ rest → rest ≡ name ++ 92 ∷ instance
    → 0 < length bus → 0 < length name → 0 < length instance
    → Sides bytes (length bus + 1 + length name)
sides bytes bus rest name instance first second third whole inner some_bus some_name some_instance =
    let all : parts 92 bytes ≡ bus ∷ name ∷ instance ∷ [] =
    first ∙ ap (λ more. bus ∷ more) (second ∙ ap (λ more. name ∷ more) third) in
    let long : length (joined bus name) ≡ length bus + 1 + length name = simp length-append (omega arith) in
    let one : bytes ≡ joined bus name ++ 92 ∷ instance =
    whole ∙ ap (λ x. bus ++ 92 ∷ x) inner ∙ sym (append_assoc bus (92 ∷ name) (92 ∷ instance)) in
    let before : take (length bus + 1 + length name) bytes ≡ joined bus name =
    ap (λ b. take (length bus + 1 + length name) b) one ∙ ap (λ n. take n (joined bus name ++ 92 ∷ instance)) (sym long)
    ∙ take-append_seam (joined bus name) (92 ∷ instance) in
    let after : drop (length bus + 1 + length name + 1) bytes ≡ instance =
    ap (λ b. drop (length bus + 1 + length name + 1) b) one ∙ ap (λ n. drop (n + 1) (joined bus name ++ 92 ∷ instance)) (sym long)
    ∙ drop-append-add (joined bus name) (92 ∷ instance) 1 in
    record {
      has = ap are_parts all ∙ three_true bus name instance some_bus some_name some_instance;
      inside = ap (λ x. length bus + 1 + length name + 1 + length x) after ∙ sym (ap length one ∙ length-append (joined bus name) (92 ∷ instance) ∙ ap (λ n. n + suc (length instance)) long ∙ omega arith);
      sides = ap are_ids all ∙ sym (ap (λ x. x && is_id (drop (length bus + 1 + length name + 1) bytes)) (ap is_id before) ∙ ap (λ x. is_id (joined bus name) && x) (ap is_id after));
    }

pub four_parts : (bytes bus rest name instance front back : List ℕ)
    → parts 92 bytes ≡ bus ∷ parts 92 rest → parts 92 rest ≡ name ∷ parts 92 instance → parts 92 instance ≡ front ∷ parts 92 back
    → has_parts bytes ≡ false
four_parts bytes bus rest name instance front back first second third =
    let (p, ps, is) = some_part 92 back in
    ap are_parts (first ∙ ap (λ more. bus ∷ more) (second ∙ ap (λ more. name ∷ more) (third ∙ ap (λ more. front ∷ more) is)))
