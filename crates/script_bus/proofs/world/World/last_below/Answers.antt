use Rattle.std.proofs.Common.{◌-◌, length, arith}
use Rattle.script_bus.proofs.Unplugs.{last_among, last_later}
use Rattle.script_bus.proofs.world.World.last_below.Goals as goal

pub loop-child-smaller : goal.loop-child-smaller
loop-child-smaller c =
    let l = last_later c.args.self.now c.loop-child.at c.in-Some.child.now c.children.result.now (length c.children.result.now - 1) c.children.ensures.world c.children.ensures.children c.in-Some.ensures.value in
    let up = l.later in
    let low = l.below in
    omega arith

pub loop-child-preserved : goal.loop-child-preserved
loop-child-preserved c =
    let ks = c.children.result.now in
    let i = length c.children.result.now - 1 in
    record {
      there = (last_later c.args.self.now c.loop-child.at c.in-Some.child.now ks i c.children.ensures.world c.children.ensures.children c.in-Some.ensures.value).there;
      passes = λ p down h. down c.loop-child.at c.in-Some.child.now (c.loop-child.invariant.passes p down h) (last_among c.args.self.now.devices c.loop-child.at c.in-Some.child.now ks i c.children.ensures.children c.in-Some.ensures.value);
    }
