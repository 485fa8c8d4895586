use Rattle.std.proofs.Common.{◌≡◌, ◌++◌, length}
use Rattle.device_ids.specs.Cuts.{parts}
use Rattle.lint_cli.proofs.drivers.push_parts.Given as goal

abbrev pub invariant-loop-part : goal.invariant-loop-part
invariant-loop-part l = l.names ++ parts 44 l.rest ≡ l.initial.names ++ parts 44 l.text

abbrev pub decreases-loop-part : goal.decreases-loop-part
decreases-loop-part l = length l.rest
