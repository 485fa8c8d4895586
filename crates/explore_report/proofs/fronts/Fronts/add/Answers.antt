use Rattle.std.proofs.Common.{◌≡◌, ◌<◌, ◌^◌, length, subst, arith}
use Rattle.explore_report.specs.Fronts.{Puts, edges_of}
use Rattle.explore_report.proofs.Keys.{edge_put}
use Rattle.explore_report.proofs.fronts.Fronts.add.Goals as goal

pub returns-clause-longer : goal.returns-clause-longer
returns-clause-longer c =
    let small : c.args.front < 2 ^ 64 = omega (arith, c.ranges.front.fits) in
    let few : c.len-number.result ≡ length c.args.self.now.first.items = omega (arith, c.len-number.ensures, c.args.self.now.first.ok.0) in
    subst (λ n. Puts (edges_of c.args.self.now.longer) (edges_of c.insert.new.self) c.args.front c.args.line.now n) few
    (edge_put c.args.front c.args.line.now c.in_ok-key.field-0.items c.len-number.result c.args.self.now.longer c.insert.new.self small c.in_ok-key.ensures c.in_ok-insert.ensures.updates)
