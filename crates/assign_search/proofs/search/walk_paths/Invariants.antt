use Rattle.std.proofs.Common.{◌≡◌, ◌+◌, ◌*◌, ◌-◌, ◌≤◌, map, length, vec_len}
use Rattle.trial_journal.specs.ByKind.{all_pairs, lists_of}
use Rattle.assign_search.specs.Fixed.{reqs_of}
use Rattle.assign_search.specs.Walking.{held_in, lists_along}
use Rattle.assign_search.specs.Watching.{AllWatched}
use Rattle.assign_search.proofs.Searching.{Inv}
use Rattle.assign_search.proofs.search.walk_paths.Given as goal

abbrev pub invariant-search : goal.invariant-search
invariant-search l = record {
  state : Inv (held_in l.fn.board) (map reqs_of l.movers) (lists_of l.fn.board) l.path.items (lists_of l.board) l.spot l.from l.count;
  few : length (all_pairs l.board) ≤ length (all_pairs l.fn.board) + l.count;
  along : lists_of l.board ≡ lists_along (lists_of l.fn.board) l.path.items;
  within : l.count ≤ l.budget;
  long : length l.watch.places ≡ length l.movers;
  watched : AllWatched (held_in l.board) (map reqs_of l.movers) l.watch.sure l.watch.places;
}

abbrev pub decreases-search : goal.decreases-search
decreases-search l = 2 * (l.budget - l.count) + vec_len l.path
