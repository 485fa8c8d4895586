use Rattle.std.proofs.Common.{◌∙◌, refl, sym}
use Rattle.devnode_tree.specs.Entries.{nodes_of}
use Rattle.devnode_tree.proofs.Lookups.{node_found, node_missing}
use Rattle.devnode_tree.proofs.Lowering.{untold_says, full_says}
use Rattle.devnode_tree.proofs.bottoms.lowered_by.Goals as goal
use Rattle.devnode_tree.proofs.bottoms.lowered_by.Goals.{then-not-was_told-via-then-not-was_told, then-not-was_told-via-else-not-was_told+then-has_full_end}

pub returns-in_default-clause-bottom : goal.returns-in_default-clause-bottom
returns-in_default-clause-bottom c = λ n at bottom. absurd (let gone = node_missing c.args.entries.now c.args.entries.now refl c.args.serial c.in_default.ensures in cc)

pub returns-then-not-was_told-clause-bottom : goal.returns-then-not-was_told-clause-bottom
returns-then-not-was_told-clause-bottom c =
    λ n at bottom.
    let nodes = nodes_of c.args.entries.now in
    let d = c.index-entries-place.result in
    let there = node_found c.args.entries.now c.args.entries.now refl c.args.serial c.in-Some.place c.in-Some.ensures d c.index-entries-place.is in
    elim c.then-not-was_told.branch [
      | then-not-was_told-via-then-not-was_told w ↦ absurd (untold_says nodes c.args.serial d.node n there (sym c.was_told.ensures ∙ w.if-not-was_told.true) at bottom)
      | then-not-was_told-via-else-not-was_told+then-has_full_end w ↦ absurd (full_says nodes c.args.serial n (w.has_full_end.ensures w.if-has_full_end.true) at bottom)
    ]
