use Rattle.std.proofs.lemmas.Result.{IfOk-weaker}
use Rattle.notify_front.proofs.DeskMoves.{pass_goes}
use Rattle.notify_front.proofs.desk.Desk.pass.Goals as goal

pub returns-clause-moves : goal.returns-clause-moves
returns-clause-moves g c =
    IfOk-weaker c.step.result _ _
    (λ moved moves.
    pass_goes c.self.inside.manager c.self.inside.registrations c.self.inside.round c.args.self.now c.self.view_is moved c.step.new.self moves c.requires.hand c.requires.alone)
    c.step.ensures.moves
