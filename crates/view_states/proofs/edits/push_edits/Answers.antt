use Rattle.std.proofs.Common.{◌≡◌, arith, rules}
use Rattle.std.proofs.lemmas.Grind.{common_steps}
use Rattle.view_states.proofs.Editing.{all_same, one_more, replaced}
use Rattle.view_states.proofs.edits.push_edits.Goals as goal

pub returns-then-eq : goal.returns-then-eq
returns-then-eq c =
    let same : c.loop.rest.old.now ≡ c.loop.rest.new.now = first_of (search rules, grind (arith, common_steps)) in
    all_same _ _ _ _ c.loop.rest.old.now c.loop.rest.new.now c.loop.invariant same

pub loop-preserved : goal.loop-preserved
loop-preserved c = one_more _ c.loop.out.items _ _ _ c.loop.rest.old.now c.loop.rest.new.now _ _ c.loop.invariant c.in_ok-rest.ensures

pub returns : goal.returns
returns c = replaced _ c.loop.out.items _ _ _ c.loop.rest.old.now c.loop.rest.new.now c.loop.invariant c.in_ok-push_edit.ensures
