use Rattle.std.proofs.Common.{[], ◌∷◌}
use Rattle.std.specs.Prelude.{codes}
use Rattle.std.specs.Fmt.{decimal}
use Rattle.pnp_cli.specs.Generated.{need_of}
use Rattle.pnp_cli.proofs.MadeLines.{five_parts}
use Rattle.pnp_cli.proofs.generated.add_line.Goals as goal

pub returns : goal.returns
returns c =
    five_parts c.args.text.now.items (codes "plug GEN\\BUS\\0 GEN\\DEV ") (decimal c.args.k) (codes " ") (need_of c.args.k) (10 ∷ [])
    c.extend_from_slice.new.self.items c.push_decimal.new.out.items c.extend_from_slice-2.new.self.items c.add_need.new.text.items c.push.new.self.items
    c.in_ok-extend_from_slice.ensures.items c.in_ok-push_decimal.ensures c.in_ok-extend_from_slice-2.ensures.items c.in_ok-add_need.ensures
    c.in_ok-push.ensures.items
