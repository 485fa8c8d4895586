use Rattle.std.proofs.Common.{◌≡◌, [], List, ◌∙◌, sym, ap}
use Rattle.pnp_model.specs.Rebalances.{plan_of}
use Rattle.pnp_model.specs.Records.{Node, Job}
use Rattle.device_holdings.proofs.Committing.{none_yet}
use Rattle.rebalance.proofs.Acting.{no_plan}
use Rattle.rebalance.proofs.frame.Rebalance.give_found.Goals as goal

pub returns-in_default : goal.returns-in_default
returns-in_default c =
    let r = c.args.self.now in
    let nothing : plan_of r.found ≡ [] = sym (ap (λ (r : Job). plan_of r.found) c.self.view_is) ∙ no_plan c.self.inside.found (λ plan e. c.in_default.not-Assignment plan e) in
    record {
      given = ap (λ (ns : List Node). record { nodes = ns; next = c.args.tree.now.next }) (none_yet c.args.movers.now (plan_of r.found) c.args.tree.now.nodes nothing);
      mirrors = λ reserved m. m;
      tree = tt;
    }
