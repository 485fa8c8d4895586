use Rattle.std.proofs.Common.{◌∙◌, sym}
use Rattle.std.specs.BTreeMap.{keys}
use Rattle.devnode_tree.proofs.Walking.{all_ahead}
use Rattle.devnode_tree.proofs.handle_walk.HandleWalk.over.Goals as goal

pub invariant_of-result : goal.invariant_of-result
invariant_of-result c =
    let taken = c.take_last-head in
    all_ahead (keys c.args.counts.now) taken.new.rest taken.result c.keys-rest.ensures.ordered (sym c.keys-rest.ensures.rest ∙ taken.ensures.last) taken.ensures.none
