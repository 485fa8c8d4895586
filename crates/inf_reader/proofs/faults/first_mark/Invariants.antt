use Rattle.std.proofs.Common.{◌≡◌, drop}
use Rattle.std.specs.List.{flat_map}
use Rattle.inf_reader.specs.Meaning.{least_of, mark_of, earlier}
use Rattle.inf_reader.proofs.faults.first_mark.Given as goal

abbrev pub invariant-loop-item : goal.invariant-loop-item
invariant-loop-item l = earlier l.least (least_of (flat_map mark_of (drop l.item-index l.items))) ≡ least_of (flat_map mark_of l.items)
