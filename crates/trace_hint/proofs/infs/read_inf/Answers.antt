use Rattle.trace_hint.proofs.Walking.{memory_alone}
use Rattle.trace_hint.proofs.infs.read_inf.Goals as goal

pub inf_memory-requires : goal.inf_memory-requires
inf_memory-requires c = memory_alone c.in-Err.error c.args.bytes.now c.requires c.in-Err.ensures
