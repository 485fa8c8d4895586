use Rattle.std.proofs.Common.{List, ℕ, Option, subst}
use Rattle.pnp_io.specs.Outside.{HoldsMore}
use Rattle.pnp_cli.specs.Infs.{limit}
use Rattle.view_cli.proofs.Reading.{named_taken, large_script}
use Rattle.view_cli.proofs.program.page_named.Goals as goal

pub returns-in-Ok-clause-gives : goal.returns-in-Ok-clause-gives
returns-in-Ok-clause-gives g c =
    named_taken c.args.steps c.page_script.result (g.F.Files.contents c.args.files.now) (g.F.Files.contents c.read_infs.new.files) c.args.infs.now c.args.name.now c.in-Ok.taken.items (g.R.Drivers.rows c.args.rack) c.args.budget
    c.read_infs.ensures.same c.in-Ok.ensures.gives c.page_script.ensures.gives

pub returns-in-Ok-clause-too_large : goal.returns-in-Ok-clause-too_large
returns-in-Ok-clause-too_large g c = λ is.
    large_script (g.F.Files.contents c.args.files.now) c.args.infs.now c.args.name.now c.in-Ok.taken.items c.in-Ok.ensures.gives
    (subst (λ (o : Option (List ℕ → Option (List ℕ))). HoldsMore o c.args.name.now limit) c.read_infs.ensures.same (c.page_script.ensures.too_large is))
