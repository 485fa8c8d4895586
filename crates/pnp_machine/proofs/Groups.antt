-- Each alternative of some requirements is short, one after another.
use Rattle.std.proofs.Common.{◌≡◌, ℕ, ◌+◌, ◌<◌, ◌≤◌, inl, inr, Some, length, slice_get, refl, sym, ap, ◌∙◌, subst, arith}
use Rattle.std.proofs.lemmas.Bool.{cases_eq}
use Rattle.std.proofs.lemmas.Option.{slice_get_read}
use Rattle.resource_reqs.specs.Resources.{AltList, Reqs}
use Rattle.pnp_laws.specs.Held.{AreWithin}

abbrev ShortBelow : Reqs → ℕ → Type 0
ShortBelow reqs at = (k : ℕ) (list : AltList) → k < at → slice_get reqs k ≡ Some list → length list ≤ 16

pub one_more_short : (reqs : Reqs) (at : ℕ) (own : AltList) → ShortBelow reqs at → slice_get reqs at ≡ Some own → length own ≤ 16 → ShortBelow reqs (at + 1)
one_more_short reqs at own before here few = λ k list less there.
    elim (cases_eq k at) [
      | inl e ↦
          let same : Some own ≡ Some list = sym here ∙ (ap (slice_get reqs) (sym e) ∙ there) in
          let is : own ≡ list = cc in
          subst (λ (l : AltList). length l ≤ 16) is few
      | inr d ↦ before k list (omega arith) there
    ]

pub all_short : (reqs : Reqs) (at : ℕ) → ShortBelow reqs at → length reqs ≤ at → AreWithin 16 reqs
all_short reqs at short long = λ list (k, less, is). short k list (omega arith) (slice_get_read reqs (length reqs) k list refl less (sym is))
