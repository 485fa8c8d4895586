use Rattle.std.proofs.Common.{arith}
use Rattle.std.proofs.lemmas.Grind.{common_steps}
use Rattle.std.proofs.lemmas.List.{map-append}
use Rattle.view_page.proofs.Growing.{marked}
use Rattle.view_page.proofs.page.Page.push_marked.Goals as goal

pub invariant_of-self-in-Ok : goal.invariant_of-self-in-Ok
invariant_of-self-in-Ok c =
    marked _ _ _ (c.args.part, c.args.text.now) _ _ _ c.self.invariant c.in-Ok.ensures.items (first_of (simp (c.in_ok-push.ensures.items, map-append, c.in_ok-text.ensures.items), grind (arith, common_steps))) c.requires
