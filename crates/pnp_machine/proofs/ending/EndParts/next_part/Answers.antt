use Rattle.std.proofs.Common.{◌≡◌, ◌<◌, ◌++◌, length, ap, ◌∙◌, arith}
use Rattle.pnp_labels.specs.Texts.{Text}
use Rattle.pnp_machine.specs.Endings.{ending_from}
use Rattle.pnp_machine.proofs.EndLines.{parts_more, parts_end, parts_less}
use Rattle.pnp_machine.proofs.ending.EndParts.next_part.Goals as goal

pub returns-then-self-len-clause-text : goal.returns-then-self-len-clause-text
returns-then-self-len-clause-text g c =
    parts_more c.self.inside.machine.now c.tree.result.now.nodes c.self.inside.next c.in_ok-self-inside.field-0 c.args.out.now.items c.add_nodes.new.out.items
    c.tree.ensures c.in_ok-self-inside.ensures.text
    ∙ ap (λ (x : Text). c.args.out.now.items ++ x) c.self.view_is

pub returns-then-self-len-clause-less : goal.returns-then-self-len-clause-less
returns-then-self-len-clause-less g c = λ e.
    let out : Text = c.args.out.now.items in
    let rest : Text = ending_from c.self.inside.machine.now c.in_ok-self-inside.field-0 in
    let same : c.add_nodes.new.out.items ++ rest ≡ out ++ c.args.self.now =
    parts_more c.self.inside.machine.now c.tree.result.now.nodes c.self.inside.next c.in_ok-self-inside.field-0 out c.add_nodes.new.out.items
    c.tree.ensures c.in_ok-self-inside.ensures.text
    ∙ ap (λ (x : Text). out ++ x) c.self.view_is in
    let more : c.in_ok-self-inside.field-0 < length c.deref.result.now = omega arith in
    let grown : length out < length c.add_nodes.new.out.items = omega (arith, c.in_ok-self-inside.ensures.enough more) in
    parts_less out c.add_nodes.new.out.items c.args.self.now rest same grown

pub returns-clause-text : goal.returns-clause-text
returns-clause-text g c =
    parts_end c.self.inside.machine.now c.tree.result.now.nodes c.self.inside.rows.items c.self.inside.next c.in_ok-self-inside.field-0 c.args.out.now.items
    c.add_nodes.new.out.items c.add_below_tree.new.out.items c.tree.ensures c.self.invariant.printed (omega arith) c.in_ok-self-inside.ensures.text
    c.in_ok-add_below_tree.ensures
    ∙ ap (λ (x : Text). c.args.out.now.items ++ x) c.self.view_is
