use Rattle.std.proofs.Common.{◌≡◌, length, take}
use Rattle.trace_hint.specs.Hints.{AreRead}
use Rattle.trace_hint.proofs.infs.read_infs.Given as goal

abbrev pub invariant-loop-bytes : goal.invariant-loop-bytes
invariant-loop-bytes l = record {
  read : AreRead (take l.bytes-index l.files) l.infs.items;
  each : length l.infs.items ≡ l.bytes-index;
}
