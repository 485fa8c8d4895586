use Rattle.std.proofs.Common.{arith}
use Rattle.trial_journal.proofs.GoingBack.{room_left, put_goes, put_before}
use Rattle.trial_journal.proofs.trial.Tried+Journal.put.Goals as goal

pub put-requires : goal.put-requires
put-requires c =
    let left = room_left c.args.self.now.journal.room c.args.self.now.arbiters.now c.args.self.now.journal.entries c.requires.goes_back c.args.res.kind in
    omega (arith, c.requires.room)

pub returns-clause-goes_back : goal.returns-clause-goes_back
returns-clause-goes_back c =
    rw c.note.ensures
    (put_goes c.args.self.now.journal.room c.args.self.now.arbiters.now c.put.new.self c.args.owner c.args.res c.args.self.now.journal.entries
    c.put.ensures c.requires.room c.requires.goes_back)

pub returns-clause-same_before : goal.returns-clause-same_before
returns-clause-same_before c mark few =
    rw c.note.ensures
    (put_before c.args.self.now.journal.room mark c.args.self.now.arbiters.now c.put.new.self c.args.owner c.args.res c.args.self.now.journal.entries
    c.put.ensures c.requires.room c.requires.goes_back few)
