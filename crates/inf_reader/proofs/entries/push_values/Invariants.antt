use Rattle.std.proofs.Common.{◌≡◌, ◌++◌, length}
use Rattle.std.specs.Option.{option_map}
use Rattle.inf_reader.specs.Found.{text_found}
use Rattle.inf_reader.specs.Entries.{values_of}
use Rattle.inf_reader.proofs.entries.push_values.Given as goal

abbrev pub invariant-loop-part : goal.invariant-loop-part
invariant-loop-part l = l.values ++ values_of (option_map (λ s. text_found s.now) l.fn.strings) l.rest ≡ l.initial.values ++ values_of (option_map (λ s. text_found s.now) l.fn.strings) l.symbols

abbrev pub decreases-loop-part : goal.decreases-loop-part
decreases-loop-part l = length l.rest
