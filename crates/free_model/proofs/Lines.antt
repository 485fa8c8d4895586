-- Small facts on bytes and lines.
use Rattle.std.proofs.Common.{◌≡◌, Bool, true, false, refl}
use Rattle.std.specs.Prelude.{◌||◌}

pub or_false : (b c : Bool) → (b || c) ≡ false → (b ≡ false) × (c ≡ false)
or_false false false e = (refl, refl)
or_false true c e = absurd (cc)
or_false false true e = absurd (cc)
