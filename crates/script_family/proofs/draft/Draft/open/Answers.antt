use Rattle.std.proofs.Common.{◌≡◌, ◌∙◌, ap, List, [], ◌∷◌, map, reverse, None}
use Rattle.std.proofs.lemmas.List.{reverse-append}
use Rattle.script_family.specs.declared.draft.OpenBlock.{OpenBlock}
use Rattle.script_family.specs.Families.{Silent}
use Rattle.script_family.specs.Drafts.{block_of}
use Rattle.script_family.proofs.Drafting.{silent_stands, went}
use Rattle.script_family.proofs.draft.Draft.open.Goals as goal

pub returns : goal.returns
returns c =
    let b : OpenBlock = record { kind = c.args.kind; line = c.args.line; before = c.args.self.now.current; over = None } in
    let bs : List OpenBlock = reverse c.args.self.now.blocks.items in
    let rev : reverse c.push.new.self.items ≡ b ∷ bs = ap reverse c.in_ok-push.ensures.items ∙ reverse-append c.args.self.now.blocks.items (b ∷ []) in
    let s = silent_stands c.args.self.now.parts.families c.len-self.result (b ∷ bs) c.push_silent.new.self.families
    ((c.requires.now_in, tt), c.requires.blocks_in) c.len-self.ensures c.in_ok-push_silent.ensures in
    went (record { parts = c.push_silent.new.self; current = c.len-self.result; blocks = c.push.new.self }) (b ∷ bs)
    (record { now = Silent; blocks = map (block_of c.args.self.now.parts.families) (b ∷ bs) }) rev s.0 s.1
