-- A list read one place after another.
use Rattle.std.proofs.Common.{◌≡◌, ℕ, zero, suc, ◌+◌, List, [], ◌∷◌, ◌++◌, drop, map, slice_get, Some, sym, ◌∙◌, ap, add-one, append_assoc}
use Rattle.resource_reqs.specs.Resources.{Res}
use Rattle.pnp_labels.specs.Texts.{after_spaces, res_text}

drop_read : {Y : Type 0} (ys : List Y) (at : ℕ) (y : Y) → slice_get ys at ≡ Some y → drop at ys ≡ y ∷ drop (suc at) ys
drop_read [] at y h = cc
drop_read (x ∷ ys) zero y h = cc
drop_read (x ∷ ys) (suc at) y h = drop_read ys at y h

-- what is left from a place on is what stands there, and what is left from the next one on
pub drop_next : {Y : Type 0} (ys : List Y) (at : ℕ) (y : Y) → slice_get ys at ≡ Some y → drop at ys ≡ y ∷ drop (at + 1) ys
drop_next ys at y h = drop_read ys at y h ∙ ap (λ n. y ∷ drop n ys) (sym (add-one at))

-- one more resource with a space before it
pub spaced_next : (line whole : List ℕ) (held : List Res) (at : ℕ) (res : Res) → slice_get held at ≡ Some res
    → line ++ after_spaces (map res_text (drop at held)) ≡ whole
    → (line ++ 32 ∷ []) ++ res_text res ++ after_spaces (map res_text (drop (at + 1) held)) ≡ whole
spaced_next line whole held at res read so_far =
    append_assoc (line ++ 32 ∷ []) (res_text res) (after_spaces (map res_text (drop (at + 1) held)))
    ∙ append_assoc line (32 ∷ []) (res_text res ++ after_spaces (map res_text (drop (at + 1) held)))
    ∙ ap (λ xs. line ++ after_spaces (map res_text xs)) (sym (drop_next held at res read))
    ∙ so_far
