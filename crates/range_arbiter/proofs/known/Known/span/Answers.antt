use Rattle.range_arbiter.proofs.Knowing.{known_span_none}
use Rattle.range_arbiter.proofs.known.Known.span.Goals as goal

pub returns-in-None : goal.returns-in-None
returns-in-None c = λ xs h. known_span_none xs c.args.self.now c.args.shared c.in-None.is h
