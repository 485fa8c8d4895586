use Rattle.std.proofs.Common.{◌≡◌, ◌++◌, length}
use Rattle.std.specs.List.{flat_map}
use Rattle.device_ids.specs.Cuts.{parts}
use Rattle.script_reader.specs.Words.{words_of}
use Rattle.lint_cli.specs.Warnings.{ids_in, script_ids}
use Rattle.lint_cli.proofs.drivers.script_ids.Given as goal

abbrev pub invariant-loop-line : goal.invariant-loop-line
invariant-loop-line l = l.names ++ flat_map (λ line. ids_in (words_of line)) (parts 10 l.rest) ≡ script_ids l.script

abbrev pub decreases-loop-line : goal.decreases-loop-line
decreases-loop-line l = length l.rest
