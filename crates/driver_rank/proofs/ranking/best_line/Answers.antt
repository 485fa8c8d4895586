use Rattle.std.proofs.Common.{Result, Ok, Err, ◌∙◌}
use Rattle.std.specs.Result.{IfOk}
use Rattle.driver_rank.specs.Lookups.{base_found}
use Rattle.driver_rank.proofs.Totals.{best_is}
use Rattle.driver_rank.proofs.ranking.best_line.Goals as goal

by_ok : {X E : Type 0} (P Q : X → Type 0) (r : Result X E) → ((x : X) → P x → Q x) → IfOk r P → IfOk r Q
by_ok P Q (Ok x) f h = f x h
by_ok P Q (Err e) f h = tt

pub returns : goal.returns
returns c =
    by_ok _ _ c.best_match.result (λ found is. is ∙ best_is c.args.hw.now c.args.compat.now c.requires.hw (base_found c.in_ok-ids.ids) c.in_ok-ids.ensures c.args.infs.now) c.best_match.ensures
