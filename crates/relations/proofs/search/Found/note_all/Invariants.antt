use Rattle.std.proofs.Common.{take}
use Rattle.relations.specs.Searches.{Notes}
use Rattle.relations.proofs.search.Found.note_all.Given as goal

abbrev pub invariant-loop-serial : goal.invariant-loop-serial
invariant-loop-serial l = Notes l.initial.self.order.items l.self.order.items l.initial.self.counts l.self.counts (take l.serial-index l.serials)
