use Rattle.std.proofs.Common.{◌∙◌, sym}
use Rattle.relations.proofs.Relating.{same_related, cycle_related, free_related}
use Rattle.relations.proofs.relations.Relations.relate.Goals as goal

pub returns-then-related-clause-related : goal.returns-then-related-clause-related
returns-then-related-clause-related c =
    same_related c.args.tree.now.nodes c.args.owner c.args.member c.args.kind c.args.self.now c.requires.owner_there c.requires.member_there
    c.if-owner-member.false (sym c.related.ensures ∙ c.if-related.true)

pub returns-in-Ok-true-clause-related : goal.returns-in-Ok-true-clause-related
returns-in-Ok-true-clause-related c =
    cycle_related c.args.tree.now.nodes c.args.owner c.args.member c.args.kind c.args.self.now c.requires.owner_there c.requires.member_there
    c.if-owner-member.false (sym c.related.ensures ∙ c.if-related.false) (sym c.in-Ok-true.ensures ∙ c.in-Ok-true.field-0-test)

pub returns-in-Ok-false-clause-related : goal.returns-in-Ok-false-clause-related
returns-in-Ok-false-clause-related c =
    free_related c.args.tree.now.nodes c.args.owner c.args.member c.args.kind c.args.self.now c.requires.owner_there c.requires.member_there
    c.if-owner-member.false (sym c.related.ensures ∙ c.if-related.false) (sym c.in-Ok-false.ensures ∙ c.in-Ok-false.field-0-test)
    c.relate_free.result c.relate_free.new.self c.relate_free.ensures
