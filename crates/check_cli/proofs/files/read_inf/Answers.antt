use Rattle.std.proofs.Common.{◌≡◌, Ok, subst}
use Rattle.inf_reader.specs.Meaning.{inf}
use Rattle.pnp_labels.specs.Texts.{Text}
use Rattle.check_cli.proofs.files.read_inf.Goals as goal

pub returns-in-Ok-clause-accepted : goal.returns-in-Ok-clause-accepted
returns-in-Ok-clause-accepted g c = record {
  read = c.in-Ok.field-0;
  accepted = subst (λ (t : Text). inf t ≡ Ok c.in-Ok.field-0) c.deref.ensures.value c.in-Ok.ensures;
  size = c.in_ok-bytes.ensures.within;
}
