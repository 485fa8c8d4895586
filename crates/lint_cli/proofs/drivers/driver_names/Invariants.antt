use Rattle.std.proofs.Common.{◌≡◌, ◌++◌, length}
use Rattle.std.specs.List.{flat_map}
use Rattle.device_ids.specs.Cuts.{parts}
use Rattle.script_reader.specs.Words.{words_of}
use Rattle.lint_cli.specs.Warnings.{name_in, driver_names}
use Rattle.lint_cli.proofs.drivers.driver_names.Given as goal

abbrev pub invariant-loop-line : goal.invariant-loop-line
invariant-loop-line l = l.names ++ flat_map (λ line. name_in (words_of line)) (parts 10 l.rest) ≡ driver_names l.script

abbrev pub decreases-loop-line : goal.decreases-loop-line
decreases-loop-line l = length l.rest
