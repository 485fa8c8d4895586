use Rattle.std.proofs.Common.{◌∙◌, sym}
use Rattle.devnode_tree.proofs.Counting.{open_there}
use Rattle.devnode_tree.proofs.handles.Handles.is_open.Goals as goal

pub returns : goal.returns
returns c = rw (← c.self.view_is) (c.contains_key.ensures ∙ sym (open_there c.args.serial c.self.inside.counts.entries))
