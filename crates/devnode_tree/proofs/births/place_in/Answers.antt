use Rattle.std.proofs.Common.{◌∙◌, sym}
use Rattle.devnode_tree.proofs.Ascending.{number_place, number_at}
use Rattle.devnode_tree.proofs.births.place_in.Goals as goal

pub returns-in-Some : goal.returns-in-Some
returns-in-Some c = number_at c.args.list.now c.requires c.args.number _ c.in-Some.last.now (sym c.in-Some.ensures.value) c.if-last-number.true

pub returns-in_default : goal.returns-in_default
returns-in_default c = c.ok.ensures.value ∙ number_place c.args.list.now c.requires c.args.number c.binary_search.result c.binary_search.ensures.bound c.binary_search.ensures.position
