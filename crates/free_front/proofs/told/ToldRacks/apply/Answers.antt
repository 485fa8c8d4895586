use Rattle.std.proofs.Common.{List, ap, ◌∙◌}
use Rattle.notify_front.specs.Desks.{front_of}
use Rattle.free_front.specs.declared.racks.Naming.{Naming}
use Rattle.free_front.specs.Racks.{named_all, list_of}
use Rattle.free_front.proofs.Events.{told_on}
use Rattle.free_front.proofs.told.ToldRacks.apply.Goals as goal

pub returns-clause-told : goal.returns-clause-told
returns-clause-told c =
    let old = c.args.self.now in
    let namings = list_of c.in_ok-naming.naming in
    let same = c.reserve.ensures.items in
    told_on (front_of c.args.front.now) (front_of c.apply.new.self) c.args.event namings old c.hear.new.self c.requires.told c.in_ok-label.ensures.done.1 c.in_ok-naming.ensures
    (c.hear.ensures.ok ∙ ap (λ (late : List Naming). named_all namings (named_all late old.ok)) same)
    (c.hear.ensures.fail ∙ ap (λ (late : List Naming). named_all namings (named_all late old.fail)) same)
    (c.hear.ensures.pend ∙ ap (λ (late : List Naming). named_all namings (named_all late old.pend)) same)
