use Rattle.std.proofs.Common.{◌≡◌, ◌∙◌, ap, suc, arith}
use Rattle.script_family.specs.Families.{most}
use Rattle.script_family.specs.Counts.{sums, count, capped}
use Rattle.script_family.specs.Steps.{shape}
use Rattle.script_family.proofs.family.total_of.Goals as goal

pub returns : goal.returns
returns c =
    let all : c.loop-lines.lines ≡ suc (most (shape c.args.parts.now c.args.part)) = omega arith in
    c.loop-lines.invariant ∙ ap (λ n. capped (sums (count (shape c.args.parts.now c.args.part)) n)) all
