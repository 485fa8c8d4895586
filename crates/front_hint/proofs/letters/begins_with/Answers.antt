use Rattle.front_hint.proofs.Spotting.{front_by}
use Rattle.front_hint.proofs.letters.begins_with.Goals as goal

pub returns : goal.returns
returns c = front_by c.starts_with.result c.args.rest.now c.args.line.now c.starts_with.ensures.value
