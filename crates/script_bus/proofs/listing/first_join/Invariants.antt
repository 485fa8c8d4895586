use Rattle.std.proofs.Common.{◌≡◌, ◌&&◌, drop, find}
use Rattle.std.specs.Bool.{nat_le}
use Rattle.script_bus.specs.Differences.{is_new_born}
use Rattle.script_bus.proofs.listing.first_join.Given as goal

abbrev pub invariant-joins : goal.invariant-joins
invariant-joins l = find (λ k. nat_le l.from k && is_new_born l.world l.tree k) (drop l.at l.children) ≡ find (λ k. nat_le l.from k && is_new_born l.world l.tree k) l.children
