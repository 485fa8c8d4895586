use Rattle.std.proofs.Common.{◌-◌, length, get_or}
use Rattle.std.proofs.lemmas.Bool.{ltb-true}
use Rattle.devnode_tree.proofs.Ascending.{ascends_last}
use Rattle.devnode_tree.proofs.births.is_last.Goals as goal

pub returns-else-is_empty : goal.returns-else-is_empty
returns-else-is_empty c above h = ascends_last c.args.list.now c.args.born 0 (ltb-true (get_or c.args.list.now (length c.args.list.now - 1) 0) c.args.born above) h
