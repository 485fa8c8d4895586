use Rattle.std.proofs.Common.{List, ℕ, Some, ap, arith}
use Rattle.pnp_io.proofs.sure.SureFilesFiles.TheImpl.Goals as goal

pub read-tells : goal.read-tells
read-tells g c =
    record {
      within = c.ensures.within;
      told = c.ensures.told;
      failed = λ h. absurd (c.ensures.failed h);
      counts = λ other. omega arith;
      same = ap (λ (bytes : List ℕ). Some (λ (name : List ℕ). Some bytes)) c.ensures.same;
    }
