use Rattle.std.proofs.Common.{IfOk, sym, subst}
use Rattle.pnp_model.specs.Records.{Settings}
use Rattle.notify_front.specs.Desks.{front_of, told_of}
use Rattle.front_hint.specs.Spots.{IsOf, IsMove, place}
use Rattle.front_hint.specs.declared.spot.Spot.{Spot}
use Rattle.front_hint.proofs.Spotting.{told_moves, due_moves}
use Rattle.front_hint.proofs.spot.move_on.Goals as goal

pub returns-in-Runs : goal.returns-in-Runs
returns-in-Runs c =
    subst (λ (s : Spot). IfOk c.run_move.result (λ next. (told : Settings) → IsOf told s → IsMove c.args.answer told (place s) next)) (sym c.in-Runs.is)
    (told_moves c.run_move.result c.args.answer (told_of c.in-Runs.run') (place (Spot.Runs c.in-Runs.run' c.in-Runs.reader)) c.run_move.ensures)

pub returns-in-Ends : goal.returns-in-Ends
returns-in-Ends c =
    subst (λ (s : Spot). IfOk c.end_move.result (λ next. (told : Settings) → IsOf told s → IsMove c.args.answer told (place s) next)) (sym c.in-Ends.is)
    (due_moves c.end_move.result c.args.answer c.in-Ends.due.items c.in-Ends.at c.end_move.ensures)
