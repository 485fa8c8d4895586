use Rattle.std.proofs.Common.{◌≡◌, length, map, arith}
use Rattle.std.proofs.lemmas.Bool.Decides.{nat_tests}
use Rattle.assign_search.specs.Fixed.{reqs_of}
use Rattle.assign_search.proofs.Watched.{only_open}
use Rattle.assign_search.proofs.watch.is_known_open.Goals as goal

pub returns : goal.returns
returns c one held list all inside =
    let single : length c.reqs_at.result.now ≡ 1 = grind (arith, nat_tests) in
    only_open held (map reqs_of c.args.movers.now) c.args.watch.now.sure c.args.watch.now.places c.args.mover list c.reqs_at.result.now c.reqs_at.ensures
    single (omega arith) all inside
