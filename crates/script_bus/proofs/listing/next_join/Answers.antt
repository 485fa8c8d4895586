use Rattle.std.proofs.Common.{◌≡◌, ◌∙◌, ap, subst, option_map, IfSome, find}
use Rattle.pnp_model.specs.Records.{Device, Node}
use Rattle.pnp_model.specs.Tasks.{has_born}
use Rattle.script_bus.specs.Differences.{joins_from}
use Rattle.script_bus.proofs.Joining.{born_of_node}
use Rattle.script_bus.proofs.listing.next_join.Goals as goal

pub first_join-requires : goal.first_join-requires
first_join-requires c =
    ap (λ (n : Node). has_born n.born c.args.tree.now.nodes) c.node-in-Some.view_is ∙ born_of_node c.args.tree.now.nodes c.args.serial c.in-Some.node.now c.in-Some.ensures.node

pub returns-in-Some : goal.returns-in-Some
returns-in-Some c =
    let first = λ (n : Node). option_map (λ (d : Device). d.born) (find (joins_from c.args.from c.args.tree.now n) c.args.world.now.devices) in
    subst (λ o. IfSome o (λ n. c.first_join.result ≡ first n)) c.in-Some.ensures.node (c.first_join.ensures ∙ ap first c.node-in-Some.view_is)
