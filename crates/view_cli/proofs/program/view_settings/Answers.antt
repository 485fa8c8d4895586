use Rattle.std.proofs.Common.{◌∙◌, Some, ap, sym}
use Rattle.view_cli.proofs.program.view_settings.Goals as goal

pub view_drivers-requires-clause-script : goal.view_drivers-requires-clause-script
view_drivers-requires-clause-script g c = c.in-Some-script.is ∙ ap Some (sym c.bytes.ensures)
