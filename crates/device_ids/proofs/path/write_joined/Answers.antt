use Rattle.std.proofs.Common.{◌≡◌, ℕ, ◌+◌, ◌-◌, ◌≤◌, List, [], ◌∷◌, ◌++◌, length, take, drop, slice_set, arith, refl, ◌∙◌, ap, length-append, length-set, length-drop, append_assoc}
use Rattle.std.proofs.Math.Seq.{take-append_seam}
use Rattle.std.proofs.lemmas.Slice.{take-put_mid}
use Rattle.std.proofs.lemmas.Grind.{take-set_at}
use borrow.Rule.Slice.PartMut.{put_mid}
use Rattle.device_ids.specs.Ids.{joined}
use Rattle.device_ids.proofs.path.write_joined.Goals as goal

-- the front of the bytes, once the device ID, the backslash and the instance ID are written
front : (device instance bytes : List ℕ) → length device + 1 + length instance ≤ length bytes
    → take (length device + 1 + length instance) (put_mid (length device + 1) (length device + 1 + length instance - (length device + 1)) (slice_set (device ++ drop (length device) bytes) (length device) 92) instance)
    ≡ joined device instance
front device instance bytes fits =
    let n = length device in
    let whole = device ++ drop n bytes in
    let long : length whole ≡ length bytes = omega (arith, length-append device (drop n bytes), length-drop n bytes) in
    let set = slice_set whole n 92 in
    let same : length set ≡ length bytes = length-set whole n 92 ∙ long in
    let before : take (n + 1) set ≡ device ++ 92 ∷ [] =
    take-set_at whole n (n + 1) 92 refl (omega arith) ∙ ap (λ xs. xs ++ 92 ∷ []) (take-append_seam device (drop n bytes)) in
    take-put_mid (n + 1) (n + 1 + length instance - (n + 1)) set instance (n + 1 + length instance) (omega arith) (omega arith)
    ∙ ap (λ xs. xs ++ instance) before ∙ append_assoc device (92 ∷ []) instance

pub returns-clause-front : goal.returns-clause-front
returns-clause-front c =
    rw (c.copy_from_slice.ensures.after, c.copy_from_slice-2.ensures.after) (front c.args.device.now c.args.instance.now c.args.bytes.now c.requires)
