use Rattle.std.proofs.Common.{◌≡◌, ◌++◌, drop}
use Rattle.std.specs.List.{filter}
use Rattle.inf_reader.specs.Filters.{is_some_text}
use Rattle.inf_reader.proofs.section.push_filters.Given as goal

abbrev pub invariant-loop-value : goal.invariant-loop-value
invariant-loop-value l = l.filters ++ filter is_some_text (drop l.value-index l.value-items) ≡ l.initial.filters ++ filter is_some_text l.value-items
