-- How many labels a run has, and how many rebalances moved.
use Rattle.std.specs.Prelude.{Bool, true, false, List, [], ◌∷◌, if◌then◌else◌}
use Rattle.pnp_labels.specs.declared.label.Label.{Label}
use Rattle.pnp_labels.specs.declared.label.OpKind.{OpKind}
use Rattle.pnp_labels.specs.declared.label.OpEnd.{OpEnd}
use Rattle.pnp_io.specs.Outside.{raised}
use Rattle.pnp_cli.specs.declared.tally.Tally.{Tally}

-- the end of a rebalance for which devices moved
abbrev pub has_moved : Label → Bool
has_moved (Label.End OpKind.Rebalance path OpEnd.Moved) = true
has_moved _ = false

-- one label more
abbrev pub with_one : Tally → Label → Tally
with_one tally label = record tally { steps = raised tally.steps; moved = if has_moved label then raised tally.moved else tally.moved }

abbrev pub with_all : Tally → List Label → Tally
with_all tally [] = tally
with_all tally (label ∷ labels) = with_all (with_one tally label) labels
