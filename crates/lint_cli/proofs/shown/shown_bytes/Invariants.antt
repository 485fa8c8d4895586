use Rattle.std.proofs.Common.{◌≡◌, map, take}
use Rattle.lint_cli.specs.Reports.{shown_byte}
use Rattle.lint_cli.proofs.shown.shown_bytes.Given as goal

abbrev pub invariant-loop-byte : goal.invariant-loop-byte
invariant-loop-byte l = l.bytes.items ≡ map shown_byte (take l.byte-index l.text)
