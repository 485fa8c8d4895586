use Rattle.std.proofs.Common.{◌∙◌}
use Rattle.pnp_cli.proofs.Refusals.{refuses}
use Rattle.pnp_cli.proofs.words.matches.Goals as goal

pub returns-clause-bad : goal.returns-clause-bad
returns-clause-bad c = λ e.
    refuses _ _ c.in-Err.error c.in_ok-command.ensures c.in-Err.ensures.kinds
    (λ memory. c.in_default.not-OutOfMemory (c.kind.ensures ∙ memory))
