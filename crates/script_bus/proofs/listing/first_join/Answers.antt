use Rattle.std.proofs.Common.{◌&&◌, ◌∙◌, ap, sym, subst, arith, find, get_or}
use Rattle.std.proofs.lemmas.List.{get_or_default}
use Rattle.std.specs.Bool.{nat_le}
use Rattle.devnode_tree.specs.Trees.{Ascends}
use Rattle.script_bus.specs.Differences.{is_new_born}
use Rattle.script_bus.specs.Worlds.{is_child}
use Rattle.script_bus.proofs.Births.{births_ascend, find_from}
use Rattle.script_bus.proofs.Joining.{first_by_birth, found_here, not_here, none_found}
use Rattle.script_bus.proofs.listing.first_join.Goals as goal

pub below_in-first-requires : goal.below_in-first-requires
below_in-first-requires c =
    subst (Ascends 0) (sym c.children-children.ensures.children) (births_ascend (is_child c.args.born) 0 c.args.world.now.devices c.children-children.ensures.world.ascends)

pub joins-init : goal.joins-init
joins-init c = find_from (is_new_born c.args.world.now c.args.tree.now) c.args.from c.children-children.result.now c.below_in-first.result c.below_in-first.ensures.within c.below_in-first.ensures.below

pub joins-preserved : goal.joins-preserved
joins-preserved c =
    let ks = c.children-children.result.now in
    let k = get_or ks c.joins.at 0 in
    not_here (λ k. nat_le c.args.from k && is_new_born c.args.world.now c.args.tree.now k) ks c.joins.at k (omega arith)
    (λ d. get_or_default ks c.joins.at d 0 (omega arith)) c.joins.invariant (sym c.is_new_from.ensures ∙ c.if-is_new_from.false)

pub returns-then-is_new_from : goal.returns-then-is_new_from
returns-then-is_new_from c =
    let ks = c.children-children.result.now in
    let k = get_or ks c.joins.at 0 in
    found_here (λ k. nat_le c.args.from k && is_new_born c.args.world.now c.args.tree.now k) ks c.joins.at k (omega arith)
    (λ d. get_or_default ks c.joins.at d 0 (omega arith)) c.joins.invariant (sym c.is_new_from.ensures ∙ c.if-is_new_from.true)
    ∙ (ap (find (λ k. nat_le c.args.from k && is_new_born c.args.world.now c.args.tree.now k)) c.children-children.ensures.children
    ∙ sym (first_by_birth c.args.world.now c.args.tree.now c.args.born c.children-children.ensures.world c.requires c.args.from))

pub returns : goal.returns
returns c =
    none_found (λ k. nat_le c.args.from k && is_new_born c.args.world.now c.args.tree.now k) c.children-children.result.now c.joins.at (omega arith) c.joins.invariant
    ∙ (ap (find (λ k. nat_le c.args.from k && is_new_born c.args.world.now c.args.tree.now k)) c.children-children.ensures.children
    ∙ sym (first_by_birth c.args.world.now c.args.tree.now c.args.born c.children-children.ensures.world c.requires c.args.from))
