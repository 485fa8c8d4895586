use Rattle.devnode_tree.specs.Entries.{nodes_of}
use Rattle.devnode_tree.proofs.Lowering.{from_but}
use Rattle.devnode_tree.proofs.bottoms.lowest_left.Goals as goal

pub returns-else-serial-lowest : goal.returns-else-serial-lowest
returns-else-serial-lowest c = from_but (nodes_of c.args.entries.now) c.args.parent c.args.lowest c.lowered_by.result c.lowered_by.ensures.less c.lowered_by.ensures.bottom
