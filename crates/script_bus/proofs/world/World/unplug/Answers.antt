use Rattle.std.proofs.Common.{◌<◌, ◌==◌, [], ◌∷◌, length, unwrap_or, ◌∙◌, ap, sym, subst, refl}
use Rattle.pnp_model.specs.Tests.{has}
use Rattle.script_bus.specs.Worlds.{World}
use Rattle.script_bus.proofs.Unplugs.{final, Rules, rules_of, goes_itself, passes_down, none_goes, all_without}
use Rattle.script_bus.proofs.Leaving.{not_root, outcome_kept, at_there, at_goes, shorter, nobody, all_out}
use Rattle.script_bus.proofs.world.World.unplug.Goals as goal

pub returns-then-not-has : goal.returns-then-not-has
returns-then-not-has c = nobody c.args.self.now c.args.born (none_goes c.args.self.now c.args.born c.has.ensures.world c.requires (sym c.if-not-has.ensures.has))

pub loop-self-init : goal.loop-self-init
loop-self-init c = record {
  outcome = refl;
  next = refl;
  rules = rules_of c.args.self.now c.args.born c.has.ensures.world;
  there = λ h. h;
  goes = λ h. goes_itself c.args.born c.args.self.now.devices;
}

pub take_leaf-requires-clause-no_root : goal.take_leaf-requires-clause-no_root
take_leaf-requires-clause-no_root c =
    let gone = final (c.args.born ∷ []) c.args.self.now.devices in
    let inv = c.loop-self.invariant in
    let goes = c.last_below-leaf.ensures.passes (has gone) (passes_down c.args.born gone c.loop-self.self.devices inv.rules) (inv.goes (sym c.loop-self-test.ensures.has)) in
    not_root c.args.self.now c.loop-self.self c.args.born c.last_below-leaf.result c.has.ensures.world c.has-in-loop-self.ensures.world c.requires inv.rules c.last_below-leaf.ensures.there c.last_below-leaf.ensures.leaf goes

pub loop-self-smaller : goal.loop-self-smaller
loop-self-smaller c =
    let leaf = c.last_below-leaf.result in
    let short = shorter (λ d. d.born == leaf) c.loop-self.self.devices c.last_below-leaf.ensures.there in
    subst (λ (w : World). length w.devices < length c.loop-self.self.devices) (sym c.take_leaf.ensures) short

pub loop-self-preserved : goal.loop-self-preserved
loop-self-preserved c =
    let born = c.args.born in
    let w0 = c.args.self.now in
    let w = c.loop-self.self in
    let leaf = c.last_below-leaf.result in
    let gone = final (born ∷ []) w0.devices in
    let inv = c.loop-self.invariant in
    let goes = c.last_below-leaf.ensures.passes (has gone) (passes_down born gone w.devices inv.rules) (inv.goes (sym c.loop-self-test.ensures.has)) in
    let h0 = c.has.ensures.world in
    let h = c.has-in-loop-self.ensures.world in
    let there = c.last_below-leaf.ensures.there in
    let bare = c.last_below-leaf.ensures.leaf in
    let next = c.unwrap_or-at.ensures ∙ ap (λ o. unwrap_or o born) c.parent_of.ensures.parent in
    rw c.take_leaf.ensures
    (record {
      outcome = outcome_kept w0 w born leaf h0 h c.requires inv.rules there bare goes inv.outcome;
      next = inv.next;
      rules = all_without (Rules born gone) (λ d. d.born == leaf) w.devices inv.rules;
      there = at_there w0 w born leaf h0 h c.requires inv.rules there bare goes c.unwrap_or-at.result next;
      goes = at_goes w0 w born leaf h0 h c.requires inv.rules there bare goes c.unwrap_or-at.result next;
    })

pub returns : goal.returns
returns c =
    all_out c.args.self.now c.loop-self.self c.args.born
    (none_goes c.loop-self.self c.args.born c.has-in-loop-self.ensures.world c.requires (sym c.loop-self-test.ensures.has))
    c.loop-self.invariant.outcome c.loop-self.invariant.next
