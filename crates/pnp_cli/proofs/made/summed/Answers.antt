use Rattle.notify_front.specs.Desks.{front_of, told_of}
use Rattle.pnp_cli.specs.Contents.{events_of}
use Rattle.pnp_cli.specs.Generated.{gen_script}
use Rattle.pnp_cli.proofs.Counting.{all_counted_if}
use Rattle.pnp_cli.proofs.Lawfulness.{plays_reach}
use Rattle.pnp_cli.proofs.made.summed.Goals as goal

pub summary-requires : goal.summary-requires
summary-requires g c =
    plays_reach c.args.front.now (events_of (gen_script c.args.n)) c.in_ok-tally.ensures.labels (front_of c.run_generated.new.front) c.requires.awaits c.in_ok-tally.ensures.plays

pub returns : goal.returns
returns g c =
    all_counted_if (told_of c.args.front.now) (front_of c.args.front.now) (events_of (gen_script c.args.n)) c.in_ok-tally.tally (front_of c.run_generated.new.front) c.args.n c.summary.result
    c.in_ok-tally.ensures c.if-tally.false c.summary.ensures
