use Rattle.std.proofs.Common.{◌<◌, ◌^◌, sym, subst}
use Rattle.pnp_model.specs.Machine.{IsQuiet}
use Rattle.free_run.specs.FreeRuns.{Free, settings}
use Rattle.free_run.proofs.Events.{happened_on, as_before}
use Rattle.free_run.proofs.run.FreeRun.apply.Goals as goal

pub apply-requires-clause-told : goal.apply-requires-clause-told
apply-requires-clause-told c = c.self.invariant

pub apply-requires-clause-quiet : goal.apply-requires-clause-quiet
apply-requires-clause-quiet c = subst (λ (f : Free). IsQuiet (settings f) f.state) (sym c.self.view_is) c.requires.quiet

pub apply-requires-clause-ids : goal.apply-requires-clause-ids
apply-requires-clause-ids c = c.requires.ids

pub apply-requires-clause-events : goal.apply-requires-clause-events
apply-requires-clause-events c = subst (λ (f : Free). f.events < 2 ^ 24) (sym c.self.view_is) c.requires.events

pub invariant_of-self : goal.invariant_of-self
invariant_of-self c = c.apply.ensures.told

pub returns-clause-happened : goal.returns-clause-happened
returns-clause-happened c = happened_on c.self.inside.manager c.apply.new.manager c.args.self.now c.args.event c.apply.result c.self.view_is c.apply.ensures.done c.apply.ensures.count

pub returns-clause-err : goal.returns-clause-err
returns-clause-err c = as_before c.self.inside.manager c.apply.new.manager c.args.self.now c.apply.result c.self.view_is c.apply.ensures.err
