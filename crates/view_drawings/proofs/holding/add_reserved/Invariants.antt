use Rattle.std.proofs.Common.{◌≡◌, ◌++◌, take}
use Rattle.pnp_model.specs.Endings.{reserved_rows}
use Rattle.view_drawings.proofs.holding.add_reserved.Given as goal

abbrev pub invariant-reserved : goal.invariant-reserved
invariant-reserved l = l.all.items ≡ l.initial.all.items ++ reserved_rows (take l.res-index l.reserved)
