use Rattle.std.proofs.Common.{◌≡◌, IfOk, subst, sym}
use Rattle.notify_front.specs.Desks.{Desk, front_of, told_of}
use Rattle.pnp_cli.specs.Contents.{events_of}
use Rattle.pnp_cli.specs.Generated.{gen_script}
use Rattle.pnp_cli.specs.Outputs.{Shows}
use Rattle.pnp_cli.specs.Summaries.{summary}
use Rattle.pnp_cli.specs.Turns.{Awaits}
use Rattle.pnp_cli.proofs.Ended.{awaits_first}
use Rattle.pnp_cli.proofs.made.sum_machine.Goals as goal

pub summed-requires-clause-awaits : goal.summed-requires-clause-awaits
summed-requires-clause-awaits g c = subst (λ (d : Desk). Awaits d) (sym c.new-front.ensures) (awaits_first c.args.manager c.requires.start)

pub summed-requires-clause-events : goal.summed-requires-clause-events
summed-requires-clause-events g c = subst (λ (d : Desk). d.manager.events ≡ 0) (sym c.new-front.ensures) c.requires.start.events

pub returns : goal.returns
returns g c =
    subst (λ (d : Desk). IfOk c.summed.result (λ text. Shows (told_of d) (front_of d) (events_of (gen_script c.args.n)) (summary c.args.n) text.items)) c.new-front.ensures c.summed.ensures
