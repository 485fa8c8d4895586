use Rattle.std.proofs.Common.{◌≡◌, ◌++◌, reverse, vec_len}
use Rattle.relations.proofs.unrelated.falling.Given as goal

abbrev pub invariant-loop-serial : goal.invariant-loop-serial
invariant-loop-serial l = l.order ++ reverse l.serials.items ≡ reverse l.initial.serials.items

abbrev pub decreases-loop-serial : goal.decreases-loop-serial
decreases-loop-serial l = vec_len l.serials
