use Rattle.std.proofs.lemmas.Bool.Decides.{Decides-eqb}
use Rattle.std.proofs.lemmas.Slice.Eq.{slice_eq-Decides}
use Rattle.line_run.proofs.Tries.{line_so}
use Rattle.line_run.proofs.telling.is_same.Goals as goal

pub returns : goal.returns
returns c =
    let same = slice_eq-Decides Decides-eqb c.args.line.now c.args.own.now c.eq.result c.eq.ensures in
    λ label is. line_so c.eq.result c.args.line.now c.args.own.now same.0 same.1 label is
