use Rattle.std.proofs.Common.{◌≤◌}
use Rattle.std.specs.List.{position_or_len}
use Rattle.pnp_model.specs.Books.{is_unnamed}
use Rattle.driver_rack.specs.Rows.{rows_of}
use Rattle.driver_rack.proofs.rack.first_unnamed.Given as goal

abbrev pub invariant-loop-i : goal.invariant-loop-i
invariant-loop-i g l = l.i ≤ position_or_len (is_unnamed l.kind) (rows_of g.D.Driver.kind_of g.D.Driver.book l.names l.drivers)
