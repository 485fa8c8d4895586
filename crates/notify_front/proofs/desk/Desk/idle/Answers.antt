use Rattle.std.proofs.Common.{◌∙◌, sym}
use Rattle.notify_front.proofs.DeskMoves.{nobody_alone}
use Rattle.notify_front.proofs.desk.Desk.idle.Goals as goal

pub pass-requires-clause-alone : goal.pass-requires-clause-alone
pass-requires-clause-alone g c =
    nobody_alone c.self.inside.manager c.self.inside.registrations c.self.inside.round c.args.self.now c.self.view_is c.requires (sym c.if-is_empty.true ∙ c.is_empty.ensures)
