use Rattle.std.proofs.Common.{refl}
use Rattle.bridge_windows.proofs.bridges.Bridges.new.Goals as goal

pub invariant_of-result : goal.invariant_of-result
invariant_of-result c = λ born. rw (c.new-2.ensures.empty, c.new.ensures.items) refl
