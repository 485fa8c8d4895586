use Rattle.std.proofs.Common.{sym, ap, ◌∙◌, length}
use Rattle.std.specs.FinMap.{len-entries}
use Rattle.std.proofs.lemmas.List.{length-map}
use Rattle.ending_tally.specs.Steps.{entry_of}
use Rattle.ending_tally.proofs.Maps.{endings_of, entries_seen}
use Rattle.ending_tally.proofs.tally.Tally.len.Goals as goal

pub returns : goal.returns
returns c =
    let m = c.args.self.now.endings in
    c.len.ensures.len ∙ sym (len-entries (endings_of m) ∙ ap (λ es. length es) (entries_seen m c.len.ensures.ordered) ∙ length-map m.entries entry_of)
