use Rattle.std.proofs.Common.{◌∙◌, sym, ap}
use Rattle.std.specs.List.{list_any}
use Rattle.resource_reqs.specs.Resources.{clashes}
use Rattle.range_arbiter.specs.Pairs.{res_list}
use Rattle.trial_journal.proofs.KindsApart.{pairs_at}
use Rattle.device_holdings.proofs.Clashing.{in_use}
use Rattle.device_holdings.proofs.finding.is_in_use.Goals as goal

pub returns : goal.returns
returns c = λ reserved nodes m.
    c.clashes.ensures
    ∙ sym (ap (λ ps. list_any (clashes c.args.res.now) (res_list ps)) (pairs_at c.args.arbiters.now c.args.res.now.kind))
    ∙ in_use c.args.res.now reserved nodes c.args.arbiters.now m
