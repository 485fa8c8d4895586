-- The begin of a rebalance, or of a change, as the machine has it.
use Rattle.std.specs.Prelude.{List, Option}
use Rattle.resource_reqs.specs.Resources.{Reqs}
use Rattle.pnp_labels.specs.declared.label.Label.{Label}
use Rattle.pnp_model.specs.Records.{Node, Relation, Job}
use Rattle.pnp_model.specs.Rebalances.{begun_with}
use Rattle.pnp_laws.specs.Kept.{kind_by}
use Rattle.operation_frame.specs.Steps as frames

-- a change where something is wanted
abbrev pub BegunFor : (wanted : Option Reqs) → Option Node → List Node → Label → Job → Type 0
BegunFor wanted node nodes label j =
    (relations : List Relation)
    → frames.BegunFor (kind_by wanted) (λ c n. begun_with c (kind_by wanted) n wanted) node nodes relations label j
