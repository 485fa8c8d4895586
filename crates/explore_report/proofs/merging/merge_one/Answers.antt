use Rattle.ending_tally.specs.Steps.{told}
use Rattle.explore_report.proofs.merging.merge_one.Goals as goal

pub returns-clause-merged : goal.returns-clause-merged
returns-clause-merged g c =
    let read = c.in_ok-part.field-0 in
    record {
      read = record { part = read.part; told = told read.tally };
      from = record { part = c.in_ok-part.ensures.part; written = c.in_ok-part.ensures.written };
      come = c.comes.ensures.new c.if-not-comes.false;
      merged = c.in_ok-merge.ensures;
    }
