use Rattle.std.proofs.Common.{◌≡◌, ◌∙◌, Some, ap}
use Rattle.pnp_model.specs.Cores.{node_at, path_of}
use Rattle.pnp_model.specs.Records.{Node}
use Rattle.notify_front.proofs.DeskMoves.{decline_goes}
use Rattle.notify_front.proofs.desk.Desk.decline.Goals as goal

pub returns-clause-moves : goal.returns-clause-moves
returns-clause-moves g c =
    let m = c.self.inside.manager in
    let path : c.in_ok-path.path ≡ path_of (node_at c.args.serial m.state.core.nodes) =
    c.in_ok-path.ensures ∙ ap (λ (n : Node). n.path) c.behind-tree.view_is ∙ ap path_of c.at.ensures.node ∙ ap (λ ns. path_of (node_at c.args.serial ns)) c.tree.ensures in
    decline_goes m c.self.inside.registrations c.self.inside.round c.args.self.now c.self.view_is c.args.kind c.args.serial c.in_ok-client.client c.in_ok-path.path c.drop_due.new.self c.finish.new.self
    c.requires.hand path (ap Some c.in_ok-client.ensures ∙ c.refuser.ensures) c.drop_due.ensures.dropped c.finish.ensures
