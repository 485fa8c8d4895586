use Rattle.std.proofs.Common.{ap, sym, subst}
use Rattle.pnp_model.specs.Machine.{IsQuiet}
use Rattle.free_run.specs.FreeRuns.{settings}
use Rattle.line_run.specs.Lines.{Lines}
use Rattle.line_run.proofs.Tries.{busy, is_step}
use Rattle.line_run.proofs.run.LineRun.is_quiet.Goals as goal

pub returns-in-Step : goal.returns-in-Step
returns-in-Step c = λ quiet.
    busy c.self.inside.run c.self.inside.ahead (ap is_step c.in-Step.is) c.self.invariant (subst (λ (l : Lines). IsQuiet (settings l.run) l.run.state) (sym c.self.view_is) quiet)
