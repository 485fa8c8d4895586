use Rattle.std.proofs.Common.{[], ◌∷◌, arith, refl}
use Rattle.pnp_cli.proofs.Checking.{fault_passed, rose_later}
use Rattle.pnp_cli.proofs.check.check_files.Goals as goal

pub returns-in_err-script-clause-failed : goal.returns-in_err-script-clause-failed
returns-in_err-script-clause-failed g c = λ is.
    rose_later (g.F.Files.faults c.args.files.now) (g.F.Files.faults c.read_file.new.files) (g.F.Files.faults c.read_file-2.new.files) (c.args.trace.now ∷ []) (c.args.script.now ∷ [])
    c.in_ok-trace.ensures.counts
    (record {
      name = c.args.script.now;
      named = (0, omega arith, refl);
      rose = c.in_err-script.ensures.failed (fault_passed c.from_residual-in_err-script.result c.in_err-script.field-0.0 c.from_residual-in_err-script.ensures.1 is);
    })
