use Rattle.std.proofs.Common.{Some}
use Rattle.view_cli.proofs.drawing.tell_now.Goals as goal

pub returns : goal.returns
returns g c = record { text = Some c.in_ok-text.text.items; is = c.in_ok-text.ensures; tells = c.in_ok-tell.ensures }
