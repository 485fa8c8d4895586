use Rattle.std.proofs.Common.{◌∙◌, ap, not}
use Rattle.relations.proofs.Notings.{noted_new, not_found}
use Rattle.relations.proofs.search.Found.note.Goals as goal

pub returns-in_ok-insert : goal.returns-in_ok-insert
returns-in_ok-insert c =
    rw c.in_ok-push.ensures.items
    (noted_new c.args.self.now.order.items c.args.self.now.counts c.insert.new.self c.args.serial c.requires
    (not_found c.get.result c.args.self.now.counts c.args.serial c.get.ensures.value (c.is_none.ensures ∙ ap not c.if-is_none.true))
    c.in_ok-insert.ensures.updates.0)
