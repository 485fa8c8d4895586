use Rattle.std.proofs.Common.{◌≡◌, map, take, option_copied}
use Rattle.assign_search.specs.Fixed as Fixed
use Rattle.device_holdings.specs.Answers.{asked_for}
use Rattle.device_holdings.proofs.Asking.{left_of}
use Rattle.device_holdings.proofs.finding.movers_of.Given as goal

abbrev pub invariant-serials : goal.invariant-serials
invariant-serials l = record {
  serials : map Fixed.serial_of l.movers.items ≡ take l.serial-index l.serials;
  needs : map Fixed.reqs_of l.movers.items ≡ asked_for (option_copied l.first) l.tree.nodes (take l.serial-index l.serials);
  given : option_copied l.given ≡ left_of (option_copied l.first) (take l.serial-index l.serials);
}
