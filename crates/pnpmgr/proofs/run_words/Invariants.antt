use Rattle.std.proofs.Common.{◌≡◌, length}
use Rattle.pnpmgr.proofs.run_words.Given as goal

abbrev pub invariant-boxes : goal.invariant-boxes
invariant-boxes l = length l.rack.items ≡ length l.yielded
