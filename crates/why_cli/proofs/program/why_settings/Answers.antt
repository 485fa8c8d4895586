use Rattle.std.proofs.Common.{◌∙◌, Some, ap, sym}
use Rattle.why_cli.proofs.program.why_settings.Goals as goal

pub why_drivers-requires-clause-script : goal.why_drivers-requires-clause-script
why_drivers-requires-clause-script g c = c.in-Some-script.is ∙ ap Some (sym c.bytes.ensures)
