-- What does not move, and an answer as contracts see it.
use Rattle.std.specs.Prelude.{ℕ, Bool, false, not, ◌==◌, List, filter}
use Rattle.std.specs.List.{list_any}
use Rattle.resource_reqs.specs.declared.owner.Owner.{Owner}
use Rattle.resource_reqs.specs.declared.owner.Owner.TheVariants.{Reserved, Device}
use Rattle.resource_reqs.specs.Resources.{Res, Reqs}
use Rattle.resource_reqs.specs.Spelling.{Answer, assignment, no_fit, spent}
use Rattle.range_arbiter.specs.Pairs.{Pair, res_list}
use Rattle.assign_search.specs.declared.mover.Mover.{Mover}
use Rattle.assign_search.specs.declared.plan.Found.{Found}
use Rattle.assign_search.specs.declared.plan.Found.TheVariants.{Assignment, NoFit, Spent}

abbrev pub serial_of : Mover → ℕ
serial_of m = m.serial

abbrev pub reqs_of : Mover → Reqs
reqs_of m = m.reqs.now

-- the owner is a device of one of these serials
abbrev pub is_mover : List ℕ → Owner → Bool
is_mover serials Reserved = false
is_mover serials (Device serial) = list_any (λ s. s == serial) serials

-- the pairs whose owner is none of these, and their resources
abbrev pub fixed_pairs : List ℕ → List Pair → List Pair
fixed_pairs serials pairs = filter (λ p. not (is_mover serials p.0)) pairs

-- whether some owner is one of these
abbrev pub has_moving : List ℕ → List Pair → Bool
has_moving serials pairs = list_any (λ p. is_mover serials p.0) pairs

abbrev pub fixed_of : List ℕ → List Pair → List Res
fixed_of serials pairs = res_list (fixed_pairs serials pairs)

-- what was found, in the words of the definition
abbrev pub answer_of : Found → Answer
answer_of (Assignment plan) = assignment plan
answer_of NoFit = no_fit
answer_of Spent = spent
