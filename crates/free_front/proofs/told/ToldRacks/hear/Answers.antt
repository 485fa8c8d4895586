use Rattle.std.proofs.Common.{◌≡◌, ◌++◌, ◌∷◌, [], Bool, Option, cond, ap, sym, ◌∙◌}
use Rattle.free_front.specs.declared.racks.Naming.{Naming}
use Rattle.free_front.specs.Racks.{named_all, list_of}
use Rattle.free_front.proofs.Names.{heard_one}
use Rattle.free_front.proofs.told.ToldRacks.hear.Goals as goal

pub returns-clause-ok : goal.returns-clause-ok
returns-clause-ok c =
    let late = c.args.self.now.late.items in
    let put : c.push.new.self.items ≡ late ++ c.in-Some.naming ∷ [] =
    c.push.ensures.items ∙ ap (λ (b : Bool). cond b (late ++ c.in-Some.naming ∷ []) late) (c.push.ensures.succeeds c.requires.room) in
    heard_one late c.in-Some.naming c.push.new.self.items c.args.self.now.ok (named_all c.catch_up.new.self.late.items c.catch_up.new.self.ok) put c.catch_up.ensures.alike.ok
    ∙ ap (λ (n : Option Naming). named_all (list_of n) (named_all late c.args.self.now.ok)) (sym c.in-Some.is)

pub returns-clause-fail : goal.returns-clause-fail
returns-clause-fail c =
    let late = c.args.self.now.late.items in
    let put : c.push.new.self.items ≡ late ++ c.in-Some.naming ∷ [] =
    c.push.ensures.items ∙ ap (λ (b : Bool). cond b (late ++ c.in-Some.naming ∷ []) late) (c.push.ensures.succeeds c.requires.room) in
    heard_one late c.in-Some.naming c.push.new.self.items c.args.self.now.fail (named_all c.catch_up.new.self.late.items c.catch_up.new.self.fail) put c.catch_up.ensures.alike.fail
    ∙ ap (λ (n : Option Naming). named_all (list_of n) (named_all late c.args.self.now.fail)) (sym c.in-Some.is)

pub returns-clause-pend : goal.returns-clause-pend
returns-clause-pend c =
    let late = c.args.self.now.late.items in
    let put : c.push.new.self.items ≡ late ++ c.in-Some.naming ∷ [] =
    c.push.ensures.items ∙ ap (λ (b : Bool). cond b (late ++ c.in-Some.naming ∷ []) late) (c.push.ensures.succeeds c.requires.room) in
    heard_one late c.in-Some.naming c.push.new.self.items c.args.self.now.pend (named_all c.catch_up.new.self.late.items c.catch_up.new.self.pend) put c.catch_up.ensures.alike.pend
    ∙ ap (λ (n : Option Naming). named_all (list_of n) (named_all late c.args.self.now.pend)) (sym c.in-Some.is)
