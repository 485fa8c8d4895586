use Rattle.std.proofs.Common.{◌≡◌, slice_get, Some, ap, refl, arith}
use Rattle.free_front.specs.Racks.{named_all}
use Rattle.free_front.proofs.Names.{first_of, first_given}
use Rattle.free_front.proofs.told.ToldRacks.give_first.Goals as goal

pub returns-in_err-give-2-clause-alike : goal.returns-in_err-give-2-clause-alike
returns-in_err-give-2-clause-alike c =
    let late = c.args.self.now.late.items in
    let first = c.index-first.result.now in
    let len = c.args.self.now.late.ok.0 in
    let some = c.requires.some in
    let at : slice_get late 0 ≡ Some first = first_of late first (omega arith) c.index-first.ensures in
    record {
      ok = first_given late first c.args.self.now.ok c.give.new.rack at c.in_ok-give.ensures.named;
      fail = ap (named_all late) c.in_err-give-2.ensures.err;
      pend = refl;
    }

pub returns-in_err-give-3-clause-alike : goal.returns-in_err-give-3-clause-alike
returns-in_err-give-3-clause-alike c =
    let late = c.args.self.now.late.items in
    let first = c.index-first.result.now in
    let len = c.args.self.now.late.ok.0 in
    let some = c.requires.some in
    let at : slice_get late 0 ≡ Some first = first_of late first (omega arith) c.index-first.ensures in
    record {
      ok = first_given late first c.args.self.now.ok c.give.new.rack at c.in_ok-give.ensures.named;
      fail = first_given late first c.args.self.now.fail c.give-2.new.rack at c.in_ok-give-2.ensures.named;
      pend = ap (named_all late) c.in_err-give-3.ensures.err;
    }
