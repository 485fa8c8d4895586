use Rattle.script_reader.proofs.Moving.{answer_event}
use Rattle.script_reader.proofs.Feeding.{has_read_moves}
use Rattle.script_reader.proofs.reader.Reader.pass.Goals as goal

pub returns-clause-answers : goal.returns-clause-answers
returns-clause-answers c = λ event gives.
    answer_event c.args.self.now c.self.inside.bytes.items c.self.inside.at c.self.inside.passed c.self.inside.line c.self.inside.fed c.self.inside.finished c.self.inside.bad c.args.count c.args.lines c.args.more event c.self.view_is c.requires.reach gives

pub returns-clause-reads : goal.returns-clause-reads
returns-clause-reads c = λ event gives all events h. has_read_moves all events _ _ _ (returns-clause-answers c event gives).0 h
