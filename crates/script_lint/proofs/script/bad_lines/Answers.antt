use Rattle.std.proofs.Common.{arith, ap, length, length-append, ◌∷◌, map}
use Rattle.std.specs.Option.{option_map}
use Rattle.script_reader.specs.Faults.{seen}
use Rattle.script_lint.specs.Script.{told}
use Rattle.script_lint.proofs.Stops.{line_more}
use Rattle.script_lint.proofs.script.bad_lines.Goals as goal

pub loop-line-preserved : goal.loop-line-preserved
loop-line-preserved c = (
  omega (arith, c.loop-line.invariant.0, ap length c.in-Some.ensures.cut.1, length-append c.in-Some.line.now (10 ∷ c.in-Some.after.now)),
  line_more _ (map told c.loop-line.bad.items) (map told c.push_fault.new.bad.items) c.loop-line.number c.loop-line.rest.now c.in-Some.line.now c.in-Some.after.now
      (option_map seen c.in_ok-fault_of.field-0) c.in-Some.ensures.cut.0 c.in_ok-fault_of.ensures.cause c.in_ok-push_fault.ensures c.loop-line.invariant.1,
)
