use Rattle.std.proofs.Common.{◌≡◌, ◌≤◌, length, take, drop, false}
use Rattle.std.specs.Fmt.{digits_onto, digits}
use Rattle.pnp_labels.proofs.digits.put_digits.Given as goal

abbrev pub invariant-loop-at : goal.invariant-loop-at
invariant-loop-at l =
    (l.at ≤ 64) × (length l.row ≡ 64) × (digits_onto l.at l.base false l.rest (drop l.at l.row) ≡ digits l.base false l.number)
    × (take l.at l.row ≡ take l.at l.fn.row)

abbrev pub decreases-loop-at : goal.decreases-loop-at
decreases-loop-at l = l.at
