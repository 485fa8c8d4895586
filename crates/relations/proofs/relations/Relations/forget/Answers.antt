use Rattle.std.proofs.Common.{◌≡◌, ◌∙◌, rules}
use Rattle.std.specs.Prelude.{filter}
use Rattle.std.proofs.lemmas.Fn.{filter_same}
use Rattle.pnp_model.specs.Cores.{is_apart_from}
use Rattle.relations.proofs.Indexes.{forget_is, index_forgotten}
use Rattle.relations.proofs.relations.Relations.forget.Goals as goal

pub invariant_of-self : goal.invariant_of-self
invariant_of-self c =
    let kept : c.retain.new.self.items ≡ filter (is_apart_from c.args.serial) c.self.inside.list.items =
    filter_same _ (is_apart_from c.args.serial) _ (λ x b f' k. search rules) _ _ c.retain.ensures.filtered in
    rw (kept, c.forget.ensures, c.forget-2.ensures) (index_forgotten c.args.serial c.self.inside.list.items c.self.inside.by_owner.items c.self.inside.by_member.items c.self.invariant)

pub returns : goal.returns
returns c =
    let kept : c.retain.new.self.items ≡ filter (is_apart_from c.args.serial) c.self.inside.list.items =
    filter_same _ (is_apart_from c.args.serial) _ (λ x b f' k. search rules) _ _ c.retain.ensures.filtered in
    rw (← c.self.view_is) (kept ∙ forget_is c.args.serial c.self.inside.list.items)
