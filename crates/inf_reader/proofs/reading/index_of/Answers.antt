use Rattle.inf_reader.specs.Found.{text_found}
use Rattle.inf_reader.specs.Maps.{by_key}
use Rattle.inf_reader.specs.Reading.{under}
use Rattle.inf_reader.proofs.Passes.{popped, seen_turn, makers_turn, fault_turn}
use Rattle.inf_reader.proofs.reading.index_of.Goals as goal

pub loop-item-preserved : goal.loop-item-preserved
loop-item-preserved c =
    let strings = text_found c.args.strings.now in
    let old = c.loop-item.current in
    let new = c.in_ok-current.current in
    let item = c.in-Some.item in
    let before = popped c.loop-item.items.items c.pop.new.self.items c.pop.result item c.in-Some.is c.pop.ensures.items in
    record {
      seen = λ q. seen_turn strings old new (by_key c.loop-item.sections) (by_key c.take_in.new.sections) q item _ _ _ c.in_ok-current.ensures.under (c.in_ok-current.ensures.seen q) before (c.loop-item.invariant.seen q);
      makers = makers_turn strings c.loop-item.gathered.makers c.take_in.new.gathered.makers _ (under old) (under new) item _ _ c.in_ok-current.ensures.under c.in_ok-current.ensures.makers before c.loop-item.invariant.makers;
      fault = fault_turn strings c.loop-item.gathered.fault c.take_in.new.gathered.fault _ (under old) (under new) item _ _ c.in_ok-current.ensures.under c.in_ok-current.ensures.fault before c.loop-item.invariant.fault;
    }
