use Rattle.std.proofs.Common.{◌≤◌, ℕ, List, length, subst, sym}
use Rattle.pnp_io.specs.Outside.{Holds}
use Rattle.view_cli.proofs.Reading.{viewed_script, viewing_told}
use Rattle.view_cli.proofs.program.page_script.Goals as goal

pub returns-clause-gives : goal.returns-clause-gives
returns-clause-gives g c =
    viewed_script c.args.steps (g.F.Files.contents c.args.files.now) c.args.name.now c.args.infs.items c.deref.result.now (g.R.Drivers.rows c.args.rack) c.args.budget
    c.in_ok-viewed.viewed.text.items c.in_ok-viewed.viewed.status
    (subst (λ (x : List ℕ). Holds (g.F.Files.contents c.args.files.now) c.args.name.now x) (sym c.deref.ensures.value) c.in_ok-script.ensures.whole)
    (subst (λ (x : List ℕ). length x ≤ 16777216) (sym c.deref.ensures.value) c.in_ok-script.ensures.within)
    c.in_ok-viewed.ensures

pub returns-clause-told : goal.returns-clause-told
returns-clause-told g c = viewing_told c.deref.result.now c.in_ok-viewed.viewed.text.items c.in_ok-viewed.viewed.status c.in_ok-viewed.ensures
