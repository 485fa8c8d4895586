use Rattle.live_laws.proofs.AsksFirst.{asks_come_first}
use Rattle.live_laws.proofs.laws.asks_come_first.Goals as goal

pub returns : goal.returns
returns c = asks_come_first
