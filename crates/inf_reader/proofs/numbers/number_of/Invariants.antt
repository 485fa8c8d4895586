use Rattle.std.proofs.Common.{◌≡◌, ◌≤◌, drop}
use Rattle.inf_reader.specs.Numbers.{number_from, at_most}
use Rattle.inf_reader.proofs.numbers.number_of.Given as goal

abbrev pub invariant-loop-byte : goal.invariant-loop-byte
invariant-loop-byte l = record {
  value : at_most l.limit (number_from l.base 0 l.text) ≡ at_most l.limit (number_from l.base l.number (drop l.byte-index l.text));
  within : l.number ≤ l.limit;
}
