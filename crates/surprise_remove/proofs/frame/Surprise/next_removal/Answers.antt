use Rattle.std.proofs.Common.{◌≡◌, ◌∙◌, true, false, slice_get, Some, ap, sym, arith}
use Rattle.pnp_model.specs.Records.{Job}
use Rattle.device_stack.specs.Standing.{Standing}
use Rattle.surprise_remove.proofs.Deciding.{removed_so}
use Rattle.surprise_remove.proofs.frame.Surprise.next_removal.Goals as goal

pub returns-then-stays : goal.returns-then-stays
returns-then-stays c =
    let full : c.has_drivers.result ≡ true = grind (arith, c.if-not-has_drivers.false) in
    let first : slice_get c.args.self.now.todo 0 ≡ Some c.in_ok-serial.serial = ap (λ (r : Job). slice_get r.todo 0) (sym c.self.view_is) ∙ sym c.get.ensures ∙ c.in_ok-serial.was in
    λ around. removed_so c.args.tree.now.nodes c.args.relations.now c.args.self.now c.args.handles.now c.requires around c.in_ok-serial.serial true true first (sym full ∙ c.has_drivers.ensures)
    (sym c.if-stays.true ∙ c.stays.ensures)

pub returns : goal.returns
returns c =
    let full : c.has_drivers.result ≡ true = grind (arith, c.if-not-has_drivers.false) in
    let first : slice_get c.args.self.now.todo 0 ≡ Some c.in_ok-serial.serial = ap (λ (r : Job). slice_get r.todo 0) (sym c.self.view_is) ∙ sym c.get.ensures ∙ c.in_ok-serial.was in
    λ around. ap (λ (s : Standing). Some s.walk) c.begin.ensures ∙ removed_so c.args.tree.now.nodes c.args.relations.now c.args.self.now c.args.handles.now c.requires around c.in_ok-serial.serial true false first (sym full ∙ c.has_drivers.ensures)
    (sym c.if-stays.false ∙ c.stays.ensures)
