use Rattle.std.proofs.Common.{rules, ◌≡◌, sym, subst, insert}
use Rattle.range_arbiter.specs.Known.{Knows}
use Rattle.range_arbiter.proofs.Knowing.{knows_inserted}
use Rattle.range_arbiter.proofs.block.Block.put.Goals as goal
use Rattle.range_arbiter.proofs.block.Block.put.Goals.{then-cut, else-cut}

pub invariant_of-self : goal.invariant_of-self
invariant_of-self c =
    let xs = c.self.inside.pairs.items in
    let put : c.insert.new.self.items ≡ insert xs c.args.at c.args.pair = search rules in
    let knows : Knows c.insert.new.self.items c.if-cut.self = elim c.if-cut.branch [
      | then-cut w ↦ subst (Knows c.insert.new.self.items) (sym w.self-is)
          (subst (λ l. Knows l w.known_of-self-inside.result) w.deref.ensures.value w.known_of-self-inside.ensures)
      | else-cut w ↦ subst (Knows c.insert.new.self.items) (sym w.self-is)
          (subst (λ l. Knows l c.and-more.result) (sym put) (knows_inserted xs c.args.at c.args.pair c.and-more.result (c.and-more.ensures xs c.self.invariant.spans)))
    ] in
    record { some = search rules; few = search rules; place = search rules; spans = knows }
