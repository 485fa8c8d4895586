use Rattle.std.proofs.Common.{ap, arith, length}
use Rattle.pnp_machine.proofs.Ready.{ready_short}
use Rattle.pnp_machine.proofs.starts.Starts.make_room.Goals as goal

pub overflow_sub-more : goal.overflow_sub-more
overflow_sub-more c =
    let short = ready_short c.self.inside.works.items in
    let same = ap length c.self.invariant.index in
    omega (arith, c.self.inside.works.ok.0, c.self.inside.ready.ok.0, c.in_ok-reserve.ensures.len, c.len.ensures, c.len-then-self-eq0.ensures)
