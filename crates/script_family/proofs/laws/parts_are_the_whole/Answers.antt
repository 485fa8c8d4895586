use Rattle.script_family.proofs.Sharing.{parts_are_all}
use Rattle.script_family.proofs.laws.parts_are_the_whole.Goals as goal

pub returns : goal.returns
returns c = parts_are_all
