use Rattle.std.proofs.Common.{◌-◌, length}
use Rattle.resource_reqs.specs.Spelling.{place, Less}
use Rattle.assign_search.specs.Walking.{NoPick, held_in}
use Rattle.assign_search.proofs.look.first_pick.Given as goal

abbrev pub invariant-wants : goal.invariant-wants
invariant-wants l = record {
  after : Less (place l.at l.start) (place l.want l.from) → ⊥;
  none : NoPick (held_in l.board) l.group (place l.want l.from) (place l.at l.start);
}

abbrev pub decreases-wants : goal.decreases-wants
decreases-wants l = length l.group - l.at
