use Rattle.std.proofs.Common.{◌∙◌, sym}
use Rattle.surprise_remove.proofs.Hanging.{child_says, edges_say}
use Rattle.surprise_remove.proofs.readiness.is_held_back.Goals as goal

pub returns-then-has_full_child : goal.returns-then-has_full_child
returns-then-has_full_child c =
    c.if-has_full_child.true ∙ sym (child_says c.args.tree.now.nodes c.args.relations.now c.args.serial (sym c.has_full_child.ensures ∙ c.if-has_full_child.true))

pub returns-else-has_full_child : goal.returns-else-has_full_child
returns-else-has_full_child c =
    c.leads_to_full.ensures ∙ edges_say c.args.tree.now.nodes c.args.relations.now c.args.serial c.owned.result.now c.owned.ensures (sym c.has_full_child.ensures ∙ c.if-has_full_child.false)
