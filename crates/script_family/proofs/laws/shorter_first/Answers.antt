use Rattle.script_family.proofs.Members.{shorter_before}
use Rattle.script_family.proofs.laws.shorter_first.Goals as goal

pub returns : goal.returns
returns c = shorter_before
