use Rattle.std.proofs.Common.{◌≡◌, List, refl, option_map, Some, None, Option, false}
use Rattle.std.specs.List.{Contains}
use Rattle.driver_rank.specs.Best.{Match, given_of, matches, choice_of, is_better}
use Rattle.driver_rank.specs.First.{least_of}
use Rattle.driver_rank.specs.declared.choice.Choice.{Choice}
use Rattle.driver_rank.proofs.Orders.{better_order, better_self}
use Rattle.driver_rank.proofs.Winners.{least_in, none_before}
use Rattle.driver_rank.proofs.laws.best_match.Goals as goal

of_match : (ms : List Match) (o : Option Match) (choice : Choice) → least_of is_better ms ≡ o → option_map choice_of o ≡ Some choice
    → (m : Match) × Contains ms m × (choice_of m ≡ choice) × ((other : Match) → Contains ms other → is_better other m ≡ false)
of_match ms None choice at e = absurd (cc)
of_match ms (Some m) choice at e = (m, least_in is_better ms m at, (cc), none_before is_better better_order better_self ms m at)

pub returns : goal.returns
returns c = λ infs hw compat choice e. of_match (matches (given_of hw compat) infs) (least_of is_better (matches (given_of hw compat) infs)) choice refl e
