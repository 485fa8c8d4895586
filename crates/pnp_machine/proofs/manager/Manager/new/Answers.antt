use Rattle.std.proofs.Common.{[], ◌∙◌, refl, sym, subst, arith}
use Rattle.pnp_model.specs.Records.{State}
use Rattle.pnp_machine.specs.Ids.{AreFewIds}
use Rattle.pnp_machine.proofs.Ids.{few_opening}
use Rattle.pnp_machine.proofs.manager.Manager.new.Goals as goal

pub invariant_of-result : goal.invariant_of-result
invariant_of-result g c =
    let rack = g.R.Drivers.rows c.args.rack in
    let opens = c.in_ok-machine.ensures.ok ∙ c.in_ok-new.ensures in
    record {
      few = c.requires.few;
      spends = c.requires.budget;
      happened = omega arith;
      ids = subst (λ (s : State). AreFewIds s) (sym opens) (few_opening rack);
      run = record { rack = rack; entries = []; reaches = (rack, refl, opens); count = refl; within = tt };
    }
