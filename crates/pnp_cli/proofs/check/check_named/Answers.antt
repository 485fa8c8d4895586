use Rattle.std.proofs.Common.{[], ◌∷◌}
use Rattle.pnp_cli.proofs.Checking.{rose_later}
use Rattle.pnp_cli.proofs.check.check_named.Goals as goal

pub returns-clause-failed : goal.returns-clause-failed
returns-clause-failed g c = λ is.
    rose_later (g.F.Files.faults c.args.files.now) (g.F.Files.faults c.read_infs.new.files) (g.F.Files.faults c.check_files.new.files) c.args.infs.now (c.args.trace.now ∷ c.args.script.now ∷ [])
    c.in_ok-infs.ensures.counts (c.check_files.ensures.failed is)
