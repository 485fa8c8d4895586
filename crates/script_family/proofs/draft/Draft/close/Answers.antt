use Rattle.std.proofs.Common.{◌≡◌, ◌≤◌, ◌∙◌, ap, subst, List, [], ◌∷◌, reverse}
use Rattle.std.proofs.lemmas.List.{reverse-append}
use Rattle.script_family.specs.declared.draft.OpenBlock.{OpenBlock}
use Rattle.script_family.specs.Drafts.{standing, standing_most, AreNamed}
use Rattle.script_family.proofs.Drafting.{close_few, close_went}
use Rattle.script_family.proofs.draft.Draft.close.Goals as goal

pub push_followed-requires-clause-few : goal.push_followed-requires-clause-few
push_followed-requires-clause-few c =
    let fs = c.args.self.now.parts.families in
    let bs : List OpenBlock = reverse c.pop.new.self.items in
    let rev : reverse c.args.self.now.blocks.items ≡ c.in-Some.block ∷ bs = ap reverse c.in-Some.ensures.items ∙ reverse-append c.pop.new.self.items (c.in-Some.block ∷ []) in
    close_few fs c.in_ok-joined.ensures.more c.join.new.self.parts.families c.args.self.now.current c.in_ok-joined.joined c.in-Some.block bs
    (subst (AreNamed fs c.args.self.now.current) rev c.requires.good) c.in_ok-joined.ensures.grown c.in_ok-joined.ensures.same
    (subst (λ v. standing_most (standing fs c.args.self.now.current v) ≤ 16777216) rev c.requires.few)

pub returns : goal.returns
returns c =
    let fs = c.args.self.now.parts.families in
    let bs : List OpenBlock = reverse c.pop.new.self.items in
    let rev : reverse c.args.self.now.blocks.items ≡ c.in-Some.block ∷ bs = ap reverse c.in-Some.ensures.items ∙ reverse-append c.pop.new.self.items (c.in-Some.block ∷ []) in
    close_went fs c.in_ok-joined.ensures.more c.join.new.self.parts.families c.args.self.now.current c.in_ok-joined.joined c.args.line c.in-Some.block bs
    (reverse c.args.self.now.blocks.items) (record { parts = c.push_followed.new.self; current = c.len-self.result; blocks = c.join.new.self.blocks })
    rev c.requires.good c.in_ok-joined.ensures.grown c.in_ok-joined.ensures.there c.in_ok-joined.ensures.same c.in_ok-joined.ensures.small c.len-self.ensures
    c.in_ok-push_followed.ensures (ap reverse c.in_ok-joined.ensures.blocks_kept)
