use Rattle.std.proofs.Common.{◌≡◌, ◌∙◌, [], sym, ap}
use Rattle.std.proofs.lemmas.Bool.{eqb-true}
use Rattle.assign_search.proofs.Rest.{none_of_length}
use Rattle.pnp_model.specs.Records.{Node}
use Rattle.device_holdings.proofs.Apart.{holds_of}
use Rattle.device_holdings.proofs.Idling.{idle_of}
use Rattle.device_holdings.proofs.finding.is_idle.Goals as goal

pub returns-in-Some : goal.returns-in-Some
returns-in-Some c h =
    let none : c.node-in-Some.inside.holds ≡ [] = none_of_length c.node-in-Some.inside.holds (sym c.len.ensures ∙ eqb-true c.len.result 0 h) in
    idle_of c.args.serial 0 c.args.tree.now.nodes c.in-Some.ensures.tree.ascends
    (ap holds_of (sym c.in-Some.ensures.node) ∙ sym (ap (λ (n : Node). n.holds) c.node-in-Some.view_is) ∙ none)

pub returns-in-None : goal.returns-in-None
returns-in-None c h = idle_of c.args.serial 0 c.args.tree.now.nodes c.in-None.ensures.tree.ascends (ap holds_of (sym c.in-None.ensures.node))
