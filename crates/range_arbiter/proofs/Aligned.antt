-- Multiples of an alignment.
use Rattle.std.proofs.Common.{◌≡◌, ◌≢◌, ℕ, ◌+◌, ◌-◌, ◌*◌, ◌/◌, ◌%◌, ◌<◌, ◌≤◌, sym, ◌∙◌, ap, arith, div-add-mod', add-mul, one-mul}
use Rattle.std.proofs.lemmas.Nat.{mod-mul-add, mod_below}

-- between two multiples there is none
pub unaligned_until : (start align : ℕ) → 0 < align → 0 < start % align → (t : ℕ) → start ≤ t → t < start + (align - start % align) → t % align ≢ 0
unaligned_until start align positive past t from until aligned =
    let whole : start / align * align + start % align ≡ start = div-add-mod' start align in
    let past_last : start % align < align = mod_below start align positive in
    let offset : (start / align * align + (t - start / align * align)) % align ≡ t - start / align * align = mod-mul-add (start / align) align (t - start / align * align) (omega arith) in
    let is : start / align * align + (t - start / align * align) ≡ t = omega arith in
    let zero_ : t - start / align * align ≡ 0 = sym offset ∙ ap (λ x. x % align) is ∙ aligned in
    omega arith

pub aligned_next : (start align : ℕ) → 0 < align → 0 < start % align → (start + (align - start % align)) % align ≡ 0
aligned_next start align positive past =
    let whole : start / align * align + start % align ≡ start = div-add-mod' start align in
    let past_last : start % align < align = mod_below start align positive in
    let next : (start / align + 1) * align ≡ start / align * align + 1 * align = add-mul (start / align) 1 align in
    let once : 1 * align ≡ align = one-mul align in
    let is : start + (align - start % align) ≡ (start / align + 1) * align + 0 = omega arith in
    ap (λ x. x % align) is ∙ mod-mul-add (start / align + 1) align 0 positive
