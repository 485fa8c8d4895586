use Rattle.std.proofs.Common.{◌≡◌, ◌++◌, map, take}
use Rattle.lint_cli.specs.Reports.{name_byte}
use Rattle.lint_cli.proofs.shown.push_name.Given as goal

abbrev pub invariant-loop-byte : goal.invariant-loop-byte
invariant-loop-byte l = l.out.items ≡ l.initial.out.items ++ map name_byte (take l.byte-index l.name)
