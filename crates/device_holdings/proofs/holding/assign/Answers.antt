use Rattle.std.proofs.Common.{subst}
use Rattle.device_holdings.specs.Mirrors.{HasRoom}
use Rattle.device_holdings.proofs.Apart.{mirrors_same}
use Rattle.device_holdings.proofs.holding.assign.Goals as goal

pub replace-requires-clause-mirrored : goal.replace-requires-clause-mirrored
replace-requires-clause-mirrored c =
    (c.requires.mirrored.0, mirrors_same c.requires.mirrored.0 c.args.tree.now.nodes c.args.arbiters.now c.room_for.new.arbiters c.in_ok-room_for.ensures.same c.requires.mirrored.1)

pub replace-requires-clause-room : goal.replace-requires-clause-room
replace-requires-clause-room c = subst (HasRoom c.room_for.new.arbiters) c.from_ref.ensures.value c.in_ok-room_for.ensures.room

pub returns-clause-mirrors : goal.returns-clause-mirrors
returns-clause-mirrors c = λ reserved m.
    c.replace.ensures.mirrors reserved (mirrors_same reserved c.args.tree.now.nodes c.args.arbiters.now c.room_for.new.arbiters c.in_ok-room_for.ensures.same m)
