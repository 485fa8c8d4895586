use Rattle.std.proofs.Common.{◌≡◌, ◌∙◌, sym, ap, List, [], ◌∷◌, reverse, Some}
use Rattle.std.proofs.lemmas.List.{reverse-append}
use Rattle.script_family.specs.declared.draft.OpenBlock.{OpenBlock}
use Rattle.script_family.proofs.Drafting.{next_went}
use Rattle.script_family.proofs.draft.Draft.next_part.Goals as goal

pub returns : goal.returns
returns c =
    let fs = c.args.self.now.parts.families in
    let bs : List OpenBlock = reverse c.pop.new.self.items in
    let b : OpenBlock = c.in-Some.block in
    let next : OpenBlock = record { kind = b.kind; line = b.line; before = b.before; over = Some c.in_ok-over.over } in
    let rev : reverse c.args.self.now.blocks.items ≡ b ∷ bs = ap reverse c.in-Some.ensures.items ∙ reverse-append c.pop.new.self.items (b ∷ []) in
    let blocks : reverse c.push.new.self.items ≡ next ∷ bs =
    ap reverse c.in_ok-push.ensures.items ∙ reverse-append c.join.new.self.blocks.items (next ∷ []) ∙ ap (λ v. next ∷ reverse v) c.in_ok-over.ensures.blocks_kept in
    next_went fs c.in_ok-over.ensures.more c.join.new.self.parts.families c.args.self.now.current c.in_ok-over.over c.args.line c.args.kind b bs
    (reverse c.args.self.now.blocks.items) (record { parts = c.push_silent.new.self; current = c.len-self.result; blocks = c.push.new.self })
    rev c.requires c.in_ok-over.ensures.grown c.in_ok-over.ensures.there c.in_ok-over.ensures.same c.in_ok-over.ensures.small
    (sym c.same_kind.ensures ∙ c.if-not-same_kind.false) c.len-self.ensures c.in_ok-push_silent.ensures blocks
