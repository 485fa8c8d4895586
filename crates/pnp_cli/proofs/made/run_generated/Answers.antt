use Rattle.std.proofs.Common.{◌≡◌, List, ℕ, Some, Err, ap, ◌∙◌, subst}
use Rattle.pnp_cli.specs.Contents.{script_status}
use Rattle.pnp_cli.specs.declared.status.Status.{Status}
use Rattle.pnp_cli.proofs.MadeRuns.{run_wants}
use Rattle.pnp_cli.proofs.made.run_generated.Goals as goal

pub run_memory-requires : goal.run_memory-requires
run_memory-requires g c =
    run_wants c.args.n c.in-Err.error c.requires.few
    (λ is. subst (λ (script : List ℕ). script_status (Some script) ≡ Some Status.TooLarge) (c.make-files.ensures ∙ c.deref.ensures.value ∙ c.in_ok-script.ensures) (c.in-Err.ensures.too_large (ap Err is)))
    (λ is. c.in-Err.ensures.read_fault (ap Err is)) (λ is. c.in-Err.ensures.write_fault (ap Err is))
