use Rattle.std.proofs.Common.{List, ℕ, ap, length, ◌++◌}
use Rattle.std.proofs.lemmas.List.{drop-replicate}
use Rattle.device_ids.proofs.text.padded.Goals as goal

pub returns : goal.returns
returns c = rw c.copy_from_slice.ensures.after (ap (λ (xs : List ℕ). c.args.bytes.now ++ xs) (drop-replicate (length c.args.bytes.now) 32 92))
