use Rattle.std.proofs.Common.{rules}
use Rattle.driver_rack.proofs.Naming.{none_indexed}
use Rattle.driver_rack.proofs.names.Names.unnamed.Goals as goal

pub invariant_of-result : goal.invariant_of-result
invariant_of-result c = none_indexed c.loop.names.items c.args.drivers c.new-index.result.items (search rules) c.new-index.ensures.items
