use Rattle.std.proofs.Common.{subst}
use Rattle.pnp_machine.specs.Managers.{KeepsFacts, Manager}
use Rattle.pnp_machine.proofs.RunLaws.{facts_of}
use Rattle.pnp_machine.proofs.manager.Manager.keeps_facts.Goals as goal

pub returns : goal.returns
returns g c = subst (λ (m : Manager). KeepsFacts m.state) c.self.view_is (facts_of _ _ _ c.self.invariant.run c.self.invariant.ids)
