use Rattle.std.proofs.Common.{◌≡◌, ◌++◌, map, take}
use Rattle.view_drawings.specs.Holdings.{held_row}
use Rattle.view_drawings.proofs.holding.add_held.Given as goal

abbrev pub invariant-held : goal.invariant-held
invariant-held l = l.all.items ≡ l.initial.all.items ++ map (held_row l.serial l.path) (take l.at l.held)
