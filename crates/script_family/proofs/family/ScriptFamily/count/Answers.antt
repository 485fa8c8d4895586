use Rattle.std.proofs.Common.{◌∙◌, ap, get_or, length}
use Rattle.script_family.specs.Families.{Silent, scripts}
use Rattle.script_family.specs.Counts.{capped}
use Rattle.script_family.specs.Reads.{Told}
use Rattle.script_family.proofs.Totals.{capped_scripts}
use Rattle.script_family.proofs.family.ScriptFamily.count.Goals as goal

pub returns : goal.returns
returns c =
    c.self.invariant.counted ∙ capped_scripts (get_or c.self.inside.parts.families c.self.inside.root Silent)
    ∙ ap (λ (t : Told). capped (length (scripts t.family))) c.self.view_is
