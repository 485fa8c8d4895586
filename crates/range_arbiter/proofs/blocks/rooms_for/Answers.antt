use Rattle.std.proofs.Common.{◌≡◌, ℕ, ◌≤◌, ◌<◌, ◌+◌, ◌*◌, ◌/◌, ◌%◌, arith, div-add-mod'}
use Rattle.std.proofs.lemmas.Nat.{mod_below}
use Rattle.std.specs.Int.{div_ceil}
use Rattle.range_arbiter.proofs.blocks.rooms_for.Goals as goal

covered : (x : ℕ) → x ≤ 16 * div_ceil x 16
covered x =
    let whole : x / 16 * 16 + x % 16 ≡ x = div-add-mod' x 16 in
    let less : x % 16 < 16 = mod_below x 16 (omega arith) in
    omega arith

pub returns-clause-enough : goal.returns-clause-enough
returns-clause-enough c = λ many. let ceil = c.div_ceil.ensures in let enough = covered c.args.pairs in omega arith
