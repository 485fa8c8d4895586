-- The operation that runs, in the words of the machine.
use Rattle.pnp_model.specs.Records.{Job}
use Rattle.pnp_machine.specs.declared.operation.Operation.{Operation}
use Rattle.pnp_machine.specs.declared.operation.Operation.TheVariants.{Rebalancing, Removing, Surprising, Finishing}

abbrev pub operation_of : Operation → Job
operation_of (Rebalancing j) = j
operation_of (Removing j) = j
operation_of (Surprising j) = j
operation_of (Finishing j) = j
