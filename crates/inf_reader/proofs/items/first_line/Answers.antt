use Rattle.inf_reader.proofs.LineLemmas.{written_lines-cut, written_lines-no_cut}
use Rattle.inf_reader.proofs.items.first_line.Goals as goal

pub returns-in-Some-clause-first : goal.returns-in-Some-clause-first
returns-in-Some-clause-first c =
    rw c.without_return.ensures (written_lines-cut c.args.text.now c.in-Some.part.now c.in-Some.after.now c.in-Some.ensures.cut.0)

pub returns-in-None-clause-first : goal.returns-in-None-clause-first
returns-in-None-clause-first c = written_lines-no_cut c.args.text.now c.requires c.in-None.ensures.cut
