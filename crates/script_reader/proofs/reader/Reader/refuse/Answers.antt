use Rattle.std.proofs.Common.{rules, ◌≡◌, true}
use borrow.Author.Tests.{tests}
use Rattle.script_reader.proofs.Moving.{answer_stop, stop_moves}
use Rattle.script_reader.proofs.Feeding.{has_read_moves}
use Rattle.script_reader.proofs.reader.Reader.refuse.Goals as goal

pub returns-then-is_bad-clause-answers : goal.returns-then-is_bad-clause-answers
returns-then-is_bad-clause-answers c =
    let on : c.args.is_bad ≡ true = search (rules, tests) in
    answer_stop c.args.self.now c.stop.new.self c.stop.result c.args.count c.args.lines c.requires.reach (c.requires.stuck on) c.stop.ensures.new c.stop.ensures.result

pub returns-then-is_bad-clause-reads : goal.returns-then-is_bad-clause-reads
returns-then-is_bad-clause-reads c = λ all events h. has_read_moves all events _ _ _
    (stop_moves c.args.self.now c.stop.new.self c.stop.result c.args.count c.args.lines c.requires.reach c.stop.ensures.new c.stop.ensures.result) h
