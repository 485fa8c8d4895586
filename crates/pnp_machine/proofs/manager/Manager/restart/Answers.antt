use Rattle.std.proofs.Common.{[], refl, sym, subst, arith}
use Rattle.pnp_model.specs.Records.{State}
use Rattle.pnp_machine.specs.Ids.{AreFewIds}
use Rattle.pnp_machine.proofs.Ids.{few_opening}
use Rattle.pnp_machine.proofs.RunLaws.{facts_of}
use Rattle.start_sequence.specs.Begins.{settings_of}
use Rattle.pnp_machine.proofs.manager.Manager.restart.Goals as goal

pub invariant_of-self-2 : goal.invariant_of-self-2
invariant_of-self-2 g c =
    let rack = g.R.Drivers.rows c.args.rack.now in
    let opens = c.in_ok-restart.ensures.opens in
    record {
      few = c.self.invariant.few;
      spends = c.self.invariant.spends;
      happened = omega arith;
      ids = subst (λ (s : State). AreFewIds s) (sym opens) (few_opening rack);
      run = record { rack = rack; entries = []; reaches = (rack, refl, opens); count = refl; within = tt };
    }

pub returns-clause-facts : goal.returns-clause-facts
returns-clause-facts g c =
    let rack = g.R.Drivers.rows c.args.rack.now in
    let opens = c.in_ok-restart.ensures.opens in
    facts_of (settings_of c.self.inside.infs.items c.self.inside.budget) 0 _ (record { rack = rack; entries = []; reaches = (rack, refl, opens); count = refl; within = tt })
    (subst (λ (s : State). AreFewIds s) (sym opens) (few_opening rack))
