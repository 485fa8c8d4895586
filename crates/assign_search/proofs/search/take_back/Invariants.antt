use Rattle.std.proofs.Common.{◌≡◌, vec_len}
use Rattle.trial_journal.specs.ByKind.{Lists, lists_of}
use Rattle.assign_search.specs.Walking.{lists_along}
use Rattle.assign_search.proofs.search.take_back.Given as goal

abbrev pub invariant-frames : goal.invariant-frames
invariant-frames l = record {
  held : (before : Lists) × (lists_of l.board ≡ lists_along before l.path.items);
  back : (before : Lists) → lists_of l.fn.board ≡ lists_along before l.fn.path.items → lists_of l.board ≡ lists_along before l.path.items;
}

abbrev pub decreases-frames : goal.decreases-frames
decreases-frames l = vec_len l.path
