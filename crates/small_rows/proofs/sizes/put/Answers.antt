use Rattle.std.proofs.Common.{ap, ℕ}
use Rattle.node_pool.specs.Chains.{Chains}
use Rattle.small_rows.proofs.Standing.{put_in, still_in}
use Rattle.small_rows.proofs.sizes.put.Goals as goal

pub returns-in-Ok-clause-at : goal.returns-in-Ok-clause-at
returns-in-Ok-clause-at c =
    put_in c.args.at (c.in-Ok.place.node, c.args.value) c.args.pool.now c.insert_after.new.self c.requires.one c.requires.at (ap (λ (u : Chains ℕ). u.chains) c.in-Ok.ensures.put)

pub returns-in-Ok-clause-other : goal.returns-in-Ok-clause-other
returns-in-Ok-clause-other c =
    still_in c.args.other c.args.at (c.in-Ok.place.node, c.args.value) c.args.pool.now c.insert_after.new.self c.requires.one c.requires.other (ap (λ (u : Chains ℕ). u.chains) c.in-Ok.ensures.put)
