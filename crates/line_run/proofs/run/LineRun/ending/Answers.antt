use Rattle.std.proofs.Common.{◌≡◌, ◌∙◌, IfOk, ap, sym, subst}
use Rattle.pnp_model.specs.Endings.{ending, joined}
use Rattle.pnp_model.specs.Machine.{IsQuiet}
use Rattle.free_run.specs.FreeRuns.{Free, settings}
use Rattle.line_run.specs.Lines.{Lines}
use Rattle.line_run.proofs.Tries.{none_ahead}
use Rattle.line_run.proofs.run.LineRun.ending.Goals as goal

pub returns : goal.returns
returns c =
    let quiet = subst (λ (l : Lines). IsQuiet (settings l.run) l.run.state) (sym c.self.view_is) c.requires.quiet in
    let none = ap (λ (l : Lines). l.offered) c.self.view_is ∙ c.requires.offered in
    let same = sym (none_ahead c.self.inside.run c.self.inside.ahead c.self.invariant quiet none) ∙ ap (λ (l : Lines). l.run) c.self.view_is in
    subst (λ (f : Free). IfOk c.ending.result (λ text. text.items ≡ joined (ending f.state))) same c.ending.ensures
