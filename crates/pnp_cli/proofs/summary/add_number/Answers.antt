use Rattle.std.proofs.Common.{[], ◌∷◌}
use Rattle.std.specs.Fmt.{decimal}
use Rattle.pnp_cli.proofs.MadeRuns.{three_parts}
use Rattle.pnp_cli.proofs.summary.add_number.Goals as goal

pub returns : goal.returns
returns c =
    three_parts c.args.text.now.items c.args.words.now (decimal c.args.n) (10 ∷ [])
    c.extend_from_slice.new.self.items c.push_decimal.new.out.items c.push.new.self.items
    c.in_ok-extend_from_slice.ensures.items c.in_ok-push_decimal.ensures c.in_ok-push.ensures.items
