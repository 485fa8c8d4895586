use Rattle.script_family.proofs.Members.{has_a_number}
use Rattle.script_family.proofs.laws.each_script_has_a_number.Goals as goal

pub returns : goal.returns
returns c = has_a_number
