use Rattle.view_states.proofs.Editing.{next_by}
use Rattle.view_states.proofs.edits.push_first.Goals as goal

pub returns : goal.returns
returns c =
    next_by c.args.out.now.items c.push_edit.new.out.items c.args.old.now c.args.new.now c.split_at.result.1.now c.split_at-2.result.1.now c.split_at-3.result.1.now c.split_at-4.result.0.now c.split_at-4.result.1.now
    c.same_front-stay.result c.change_of-change.result.go c.change_of-change.result.come c.same_front-stay.ensures.same c.split_at.ensures.back c.split_at-2.ensures.back c.split_at-3.ensures.back
    c.split_at-4.ensures.front c.split_at-4.ensures.back c.in_ok-push_edit.ensures
