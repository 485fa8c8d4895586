use Rattle.std.proofs.Common.{ℕ, Option, subst}
use Rattle.devnode_tree.proofs.Walking.{IsDown, passed_down, head_tells}
use Rattle.devnode_tree.proofs.handle_walk.HandleWalk.is_open.Goals as goal

pub returns-then-head-serial-clause-open : goal.returns-then-head-serial-clause-open
returns-then-head-serial-clause-open c =
    let rest = c.down.self-inside.rest in
    let had = c.args.self.now in
    let down = subst (λ (o : Option ℕ). IsDown rest o had c.args.serial) c.in-Some.is c.down.invariant in
    head_tells rest had c.in-Some.head c.args.serial down c.if-head-serial.true

pub down-preserved : goal.down-preserved
down-preserved c =
    let rest = c.down.self-inside.rest in
    let had = c.args.self.now in
    let down = subst (λ (o : Option ℕ). IsDown rest o had c.args.serial) c.in-Some.is c.down.invariant in
    let taken = c.take_last-self-inside in
    passed_down rest had c.in-Some.head c.args.serial down taken.new.rest taken.result c.if-head-serial.false taken.ensures.last taken.ensures.none
