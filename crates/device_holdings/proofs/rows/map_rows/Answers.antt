use Rattle.std.proofs.Common.{map, ◌∙◌, ap, subst}
use Rattle.device_holdings.specs.MapRows.{row_of}
use Rattle.device_holdings.proofs.RowsAre.{EndInOrder, rows_are}
use Rattle.device_holdings.proofs.rows.map_rows.Goals as goal

pub returns-clause-rows : goal.returns-clause-rows
returns-clause-rows c = λ core m orderly.
    let a = c.args.arbiters.now in
    let ends = subst EndInOrder (c.deref.ensures.value ∙ c.in_ok-rows.ensures) c.have_ends_in_order.ensures in
    ap (map (row_of core.nodes)) c.in_ok-rows.ensures ∙ rows_are a core ends m orderly
