use Rattle.std.proofs.Common.{◌≡◌, ◌≤◌, take}
use Rattle.device_holdings.specs.Mirrors.{count_of}
use Rattle.device_holdings.proofs.pairs.count_in.Given as goal

abbrev pub invariant-held : goal.invariant-held
invariant-held l = record {
  count : l.count ≡ count_of l.kind (take l.at l.held);
  few : l.count ≤ l.at;
}
