-- How the device that is next is finished.
use Rattle.std.specs.Prelude.{Bool, true, false, ℕ, List, [], ◌∷◌}
use Rattle.pnp_model.specs.Cores.{node_at}
use Rattle.pnp_model.specs.Records.{Node}
use Rattle.operation_frame.specs.Nodes.{has_drivers}
use Rattle.operation_frame.specs.declared.leaving.Finish.{Finish}
use Rattle.operation_frame.specs.declared.leaving.Finish.TheVariants.{Removing, Settling, Ending}

-- where it has drivers they are removed first
abbrev pub finish_by : Bool → Finish
finish_by true = Removing
finish_by false = Settling

abbrev pub finish_of : List Node → List ℕ → Finish
finish_of nodes [] = Ending
finish_of nodes (k ∷ ks) = finish_by (has_drivers (node_at k nodes))
