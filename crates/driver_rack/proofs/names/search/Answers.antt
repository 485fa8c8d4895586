use Rattle.std.proofs.Common.{rules}
use Rattle.std.proofs.lemmas.Fn.{always_returns_same}
use Rattle.driver_rack.specs.Naming.{folded_cmp}
use Rattle.driver_rack.proofs.names.search.Goals as goal

pub returns-clause-place : goal.returns-clause-place
returns-clause-place c = c.binary_search_by.ensures.position (λ e. folded_cmp e.0 c.args.name.now) (always_returns_same _ _ _ (λ a r f called. search rules))
