use Rattle.std.proofs.Common.{◌∙◌, ap, None, true, false}
use Rattle.std.specs.Map.{lookup}
use Rattle.std.specs.Str.{bytes_eq}
use Rattle.driver_rank.specs.Best.{given_from}
use Rattle.driver_rank.specs.Lookups.{base_mapped}
use Rattle.driver_rank.proofs.Steps.{base_with-append, base_with-same}
use Rattle.driver_rank.proofs.given.MappedIds.new.Goals as goal

pub returns : goal.returns
returns c = λ q.
    let empty = λ (q : _). ap (lookup (λ k. bytes_eq q k.items)) c.new.ensures.empty in
    c.in_ok-put-2.ensures q
    ∙ base_with-append (base_mapped c.put.new.self) (λ _. None) (given_from false 0 c.args.hw.now) (given_from true 0 c.args.compat.now)
    (λ q. c.in_ok-put.ensures q ∙ base_with-same (base_mapped (record { bases = c.new.result })) (λ _. None) (given_from true 0 c.args.compat.now) empty q) q
