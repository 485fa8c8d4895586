use Rattle.std.proofs.Common.{length, arith, refl, le_refl}
use Rattle.device_ids.proofs.Parts.{cut_here, cut_none, once_here, once_none, front_whole}
use Rattle.device_ids.proofs.Places.{First, passed_all, first_at}
use Rattle.device_ids.proofs.cuts.split_once.Goals as goal

pub returns-in_err-index-clause-exact : goal.returns-in_err-index-clause-exact
returns-in_err-index-clause-exact c =
    rw c.from_residual.ensures (once_none c.args.bytes.now c.args.at (length c.args.bytes.now) (le_refl _) (passed_all c.args.bytes.now c.args.at c.in_err-index.ensures))

pub returns-in_err-index-clause-cut : goal.returns-in_err-index-clause-cut
returns-in_err-index-clause-cut c =
    rw c.from_residual.ensures (cut_none c.args.bytes.now c.args.at (length c.args.bytes.now) (le_refl _) (passed_all c.args.bytes.now c.args.at c.in_err-index.ensures))

pub returns : goal.returns
returns c =
    let first : First c.args.bytes.now c.args.at c.in_ok-index.index = first_at c.args.bytes.now c.args.at c.in_ok-index.index c.in_ok-index.ensures in
    record {
      exact = once_here c.args.bytes.now c.args.at c.in_ok-index.index _ first.within first.passed refl first.here;
      front = front_whole c.args.bytes.now c.args.at c.in_ok-index.index (omega arith) first.passed;
      cut = cut_here c.args.bytes.now c.args.at c.in_ok-index.index _ first.within first.passed refl first.here;
    }
