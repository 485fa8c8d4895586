use Rattle.device_ids.proofs.Scans.{Scanned}
use Rattle.device_ids.proofs.path.few_fault.Given as goal

abbrev pub invariant-loop-byte : goal.invariant-loop-byte
invariant-loop-byte l = Scanned l.text l.byte-index l.backslashes l.parts l.illegal l.begins
