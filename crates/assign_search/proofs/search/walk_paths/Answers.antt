use Rattle.std.proofs.Common.{◌≡◌, ◌+◌, ◌≤◌, ◌++◌, [], ◌∷◌, List, map, length, Contains, option_to_list, refl, sym, ◌∙◌, subst, arith, ap}
use Rattle.resource_reqs.specs.Spelling.{IsPlan}
use Rattle.range_arbiter.specs.Pairs.{Pair}
use Rattle.trial_journal.specs.ByKind.{Arbiters, all_pairs, lists_of}
use Rattle.assign_search.specs.declared.spots.Frame.{Frame}
use Rattle.assign_search.specs.declared.spots.Spot.TheVariants.{Between}
use Rattle.assign_search.specs.declared.spots.Step.TheVariants.{Alt}
use Rattle.assign_search.specs.Fixed.{reqs_of}
use Rattle.assign_search.specs.Walking.{held_in, plan_in, lists_holding, lists_along, trial}
use Rattle.assign_search.proofs.Rest.{false_true, none_of_length}
use Rattle.trial_journal.proofs.KindsApart.{pairs_at}
use Rattle.assign_search.proofs.SameHeld.{fewer, more, holding_once}
use Rattle.std.proofs.Math.ListN.{length-map}
use Rattle.trial_journal.specs.ByKind.{Lists}
use Rattle.assign_search.specs.Watching.{AllWatched}
use Rattle.assign_search.proofs.SameHeld.{lists_res}
use Rattle.assign_search.proofs.Watched.{all_watched_less, watched_step, none_known, holding_adds, holding_within}
use Rattle.assign_search.proofs.Searching.{Inv, begins, spent_child, live_now, live_child, dead_child, back_to, there, last_there, ends_none, same_itself}
use Rattle.assign_search.proofs.Along.{along_more, along_back}
use Rattle.assign_search.proofs.Planning.{plan_found}
use Rattle.assign_search.proofs.search.walk_paths.Goals as goal
use Rattle.assign_search.proofs.search.walk_paths.Goals.{In-Some-pop}

pub search-init : goal.search-init
search-init c = record {
  state = subst (λ p. Inv (held_in c.args.board.now) (map reqs_of c.args.movers.now) (lists_of c.args.board.now) p (lists_of c.args.board.now) (Between 0) (Alt 0) 0) (sym c.requires.empty)
      (begins (map reqs_of c.args.movers.now) (lists_of c.args.board.now)
      c.requires.some_list c.requires.open_lists);
  few = omega arith;
  along = ap (lists_along (lists_of c.args.board.now)) (sym c.requires.empty);
  within = omega arith;
  long = c.requires.long;
  watched = (let all : length (map reqs_of c.args.movers.now) ≡ length c.args.movers.now = length-map c.args.movers.now reqs_of in
      none_known (held_in c.args.board.now) (map reqs_of c.args.movers.now) c.args.watch.now.sure c.args.watch.now.places (omega (arith, c.requires.sure)));
}

pub returns-in_default-pop-clause-answer : goal.returns-in_default-pop-clause-answer
returns-in_default-pop-clause-answer c =
    let empty : c.search.path.items ≡ [] = none_of_length c.search.path.items (sym c.search.path.ok.0 ∙ c.in_default-pop.ensures.cases.0) in
    ends_none (held_in c.args.board.now) (map reqs_of c.args.movers.now) (lists_of c.args.board.now) (same_itself (held_in c.args.board.now))
    (lists_of c.search.board) c.search.spot c.search.from c.search.count c.args.budget
    (subst (λ p. Inv (held_in c.args.board.now) (map reqs_of c.args.movers.now) (lists_of c.args.board.now) p (lists_of c.search.board) c.search.spot c.search.from c.search.count) empty c.search.invariant.state)
    c.in_default.ensures.none c.search.invariant.within

-- the path before the last frame was taken off
path_popped : (c : In-Some-pop) → c.search.path.items ≡ c.pop.new.self.items ++ c.in-Some-pop.last ∷ []
path_popped c = c.pop.ensures.items ∙ ap (λ o. c.pop.new.self.items ++ option_to_list o) c.in-Some-pop.is

popped : (c : In-Some-pop) → Inv (held_in c.args.board.now) (map reqs_of c.args.movers.now) (lists_of c.args.board.now) (c.pop.new.self.items ++ c.in-Some-pop.last ∷ []) (lists_of c.search.board) c.search.spot c.search.from c.search.count
popped c =
    subst (λ p. Inv (held_in c.args.board.now) (map reqs_of c.args.movers.now) (lists_of c.args.board.now) p (lists_of c.search.board) c.search.spot c.search.from c.search.count)
    (path_popped c) c.search.invariant.state

pub release-requires : goal.release-requires
release-requires c r some =
    subst (λ (l : List Pair). Contains l (trial, r)) (pairs_at c.search.board r.kind)
    (last_there (held_in c.args.board.now) (map reqs_of c.args.movers.now) (lists_of c.args.board.now) c.pop.new.self.items c.in-Some-pop.last
    (lists_of c.search.board) c.search.spot c.search.from c.search.count (popped ((goal.at.release-requires c).In-Some-pop)) r some)

pub search-preserved-in_default : goal.search-preserved-in_default
search-preserved-in_default c =
    let before = popped ((goal.at.search-preserved-in_default c).In-Some-pop) in
    let path_is = path_popped ((goal.at.search-preserved-in_default c).In-Some-pop) in
    record {
      state = back_to (held_in c.args.board.now) (map reqs_of c.args.movers.now) (lists_of c.args.board.now) (same_itself (held_in c.args.board.now))
          c.pop.new.self.items c.in-Some-pop.last (lists_of c.search.board) (lists_of c.release.new.board) c.search.spot c.search.from c.search.count before c.in_default.ensures.none c.release.ensures;
      few = fewer (lists_of c.release.new.board) (lists_of c.search.board) c.in-Some-pop.last.res (length (all_pairs c.args.board.now) + c.search.count) c.release.ensures c.search.invariant.few;
      along = along_back (lists_of c.args.board.now) (lists_of c.search.board) (lists_of c.release.new.board) c.pop.new.self.items c.in-Some-pop.last
          (c.search.invariant.along ∙ ap (lists_along (lists_of c.args.board.now)) path_is) c.release.ensures;
      within = c.search.invariant.within;
      long = c.search.invariant.long;
      watched = all_watched_less (held_in c.release.new.board) (held_in c.search.board)
          (holding_within (lists_of c.release.new.board) (lists_of c.search.board) c.in-Some-pop.last.res (sym c.release.ensures))
          (map reqs_of c.args.movers.now) c.search.watch.sure c.search.watch.places c.search.invariant.watched;
    }

pub returns-then-count-budget-clause-answer : goal.returns-then-count-budget-clause-answer
returns-then-count-budget-clause-answer c =
    spent_child (held_in c.args.board.now) (map reqs_of c.args.movers.now) (lists_of c.args.board.now) (same_itself (held_in c.args.board.now))
    c.search.path.items (lists_of c.search.board) c.search.spot c.search.from c.search.count c.search.invariant.state
    c.in-Some.child c.args.budget c.in-Some.ensures.found (omega arith)

pub search-preserved-then-live : goal.search-preserved-then-live
search-preserved-then-live c =
    let within : c.search.count ≤ c.args.budget = c.search.invariant.within in
    let f : Frame = record { before = c.search.spot; step = c.in-Some.child.step; next = c.in-Some.child.next; res = c.in-Some.child.res } in
    let live = (live_now (held_in c.args.board.now) (map reqs_of c.args.movers.now) (lists_of c.args.board.now) (same_itself (held_in c.args.board.now))
    c.search.path.items (lists_of c.search.board) c.search.spot c.search.from c.search.count c.search.invariant.state
    c.in-Some.child c.in-Some.ensures.found (lists_of c.hold.new.board) c.in_ok-live.live c.in_ok-hold.ensures.held
    (λ none lists. c.in_ok-live.ensures.listed none lists (watched_step (held_in c.search.board) (held_in c.hold.new.board) c.in-Some.child.res none
    (holding_adds (lists_of c.search.board) (lists_of c.hold.new.board) c.in-Some.child.res c.in_ok-hold.ensures.held)
    (map reqs_of c.args.movers.now) c.search.watch.sure c.search.watch.places c.search.invariant.watched))
    (λ res before some within' adds groups lists. c.in_ok-live.ensures.placed res before some adds
    (all_watched_less before (held_in c.search.board) within' (map reqs_of c.args.movers.now) c.search.watch.sure c.search.watch.places c.search.invariant.watched) groups lists)).0 c.if-live.true in
    let path_is : c.grow.new.path.items ≡ c.search.path.items ++ f ∷ [] =
    c.in_ok-grow.ensures.path ∙ ap (λ x. c.search.path.items ++ x ∷ []) c.frame_of-then-live.ensures in
    let lists_are : lists_of c.grow.new.board ≡ lists_of c.hold.new.board = ap lists_of (c.in_ok-grow.ensures.board ∙ c.in_ok-live.ensures.board) in
    record {
      state = subst (λ l. Inv (held_in c.args.board.now) (map reqs_of c.args.movers.now) (lists_of c.args.board.now) c.grow.new.path.items l c.in-Some.child.spot (Alt 0) (c.search.count + 1))
          (sym lists_are)
          (subst (λ p. Inv (held_in c.args.board.now) (map reqs_of c.args.movers.now) (lists_of c.args.board.now) p (lists_of c.hold.new.board) c.in-Some.child.spot (Alt 0) (c.search.count + 1))
          (sym path_is)
          (live_child (held_in c.args.board.now) (map reqs_of c.args.movers.now) (lists_of c.args.board.now) (same_itself (held_in c.args.board.now))
          c.search.path.items (lists_of c.search.board) c.search.spot c.search.from c.search.count c.search.invariant.state
          c.in-Some.child f (lists_of c.hold.new.board) c.in-Some.ensures.found refl refl refl refl c.in_ok-hold.ensures.held
          (λ done. false_true (sym c.if-is_complete.false ∙ c.is_complete.ensures.1 done)) live.0 live.1));
      few = subst (λ (b : Arbiters). length (all_pairs b) ≤ length (all_pairs c.args.board.now) + (c.search.count + 1)) (sym (c.in_ok-grow.ensures.board ∙ c.in_ok-live.ensures.board))
          (more (lists_of c.search.board) (lists_of c.hold.new.board) c.in-Some.child.res (length (all_pairs c.args.board.now)) c.search.count c.in_ok-hold.ensures.held c.search.invariant.few);
      along = along_more (lists_of c.args.board.now) (lists_of c.search.board) (lists_of c.grow.new.board) c.search.path.items f
          c.search.invariant.along (lists_are ∙ c.in_ok-hold.ensures.held) ∙ ap (lists_along (lists_of c.args.board.now)) (sym path_is);
      within = omega arith;
      long = c.in_ok-live.ensures.long;
      watched = subst (λ (b : Arbiters). AllWatched (held_in b) (map reqs_of c.args.movers.now) c.look_ahead.new.watch.sure c.look_ahead.new.watch.places)
          (sym (c.in_ok-grow.ensures.board ∙ c.in_ok-live.ensures.board))
          (c.in_ok-live.ensures.watched (held_in c.search.board) (holding_adds (lists_of c.search.board) (lists_of c.hold.new.board) c.in-Some.child.res c.in_ok-hold.ensures.held)
          c.search.invariant.watched c.if-live.true);
    }

pub release-requires-else-live : goal.release-requires-else-live
release-requires-else-live c r some =
    subst (λ (l : List Pair). Contains l (trial, r)) (pairs_at c.look_ahead.new.board r.kind)
    (there (lists_of c.search.board) (lists_of c.look_ahead.new.board) c.in-Some.child.res (ap lists_of c.in_ok-live.ensures.board ∙ c.in_ok-hold.ensures.held) r some)

pub look_ahead-requires-clause-there : goal.look_ahead-requires-clause-there
look_ahead-requires-clause-there c r some =
    subst (λ (l : List Pair). Contains l (trial, r)) (pairs_at c.hold.new.board r.kind)
    (there (lists_of c.search.board) (lists_of c.hold.new.board) c.in-Some.child.res c.in_ok-hold.ensures.held r some)

pub returns-in_err-live-clause-along : goal.returns-in_err-live-clause-along
returns-in_err-live-clause-along c =
    holding_once (lists_of c.look_ahead.new.board) (lists_of c.search.board) c.in-Some.child.res (c.in_err-live.ensures.back ∙ c.in_ok-hold.ensures.held) ∙ c.search.invariant.along

pub search-preserved : goal.search-preserved
search-preserved c =
    let within : c.search.count ≤ c.args.budget = c.search.invariant.within in
    let same : lists_of c.release-else-live.new.board ≡ lists_of c.search.board =
    holding_once (lists_of c.release-else-live.new.board) (lists_of c.search.board) c.in-Some.child.res
    (c.release-else-live.ensures ∙ ap lists_of c.in_ok-live.ensures.board ∙ c.in_ok-hold.ensures.held) in
    let live = live_now (held_in c.args.board.now) (map reqs_of c.args.movers.now) (lists_of c.args.board.now) (same_itself (held_in c.args.board.now))
    c.search.path.items (lists_of c.search.board) c.search.spot c.search.from c.search.count c.search.invariant.state
    c.in-Some.child c.in-Some.ensures.found (lists_of c.hold.new.board) c.in_ok-live.live c.in_ok-hold.ensures.held
    (λ none lists. c.in_ok-live.ensures.listed none lists (watched_step (held_in c.search.board) (held_in c.hold.new.board) c.in-Some.child.res none
    (holding_adds (lists_of c.search.board) (lists_of c.hold.new.board) c.in-Some.child.res c.in_ok-hold.ensures.held)
    (map reqs_of c.args.movers.now) c.search.watch.sure c.search.watch.places c.search.invariant.watched))
    (λ res before some within' adds groups lists. c.in_ok-live.ensures.placed res before some adds
    (all_watched_less before (held_in c.search.board) within' (map reqs_of c.args.movers.now) c.search.watch.sure c.search.watch.places c.search.invariant.watched) groups lists) in
    record {
      state = subst (λ l. Inv (held_in c.args.board.now) (map reqs_of c.args.movers.now) (lists_of c.args.board.now) c.search.path.items l c.search.spot c.in-Some.child.next (c.search.count + 1)) (sym same)
          (dead_child (held_in c.args.board.now) (map reqs_of c.args.movers.now) (lists_of c.args.board.now) (same_itself (held_in c.args.board.now))
          c.search.path.items (lists_of c.search.board) c.search.spot c.search.from c.search.count c.search.invariant.state
          c.in-Some.child c.in-Some.ensures.found (λ both. false_true (sym c.if-live.false ∙ live.1 both)));
      few = fewer (lists_of c.release-else-live.new.board) (lists_of c.hold.new.board) c.in-Some.child.res (length (all_pairs c.args.board.now) + (c.search.count + 1)) (c.release-else-live.ensures ∙ ap lists_of c.in_ok-live.ensures.board)
          (more (lists_of c.search.board) (lists_of c.hold.new.board) c.in-Some.child.res (length (all_pairs c.args.board.now)) c.search.count c.in_ok-hold.ensures.held c.search.invariant.few);
      along = same ∙ c.search.invariant.along;
      within = omega arith;
      long = c.in_ok-live.ensures.long;
      watched = subst (λ (l : Lists). AllWatched (lists_res l) (map reqs_of c.args.movers.now) c.look_ahead.new.watch.sure c.look_ahead.new.watch.places) (sym same)
          (c.in_ok-live.ensures.kept (held_in c.search.board) (holding_within (lists_of c.search.board) (lists_of c.hold.new.board) c.in-Some.child.res c.in_ok-hold.ensures.held)
          c.search.invariant.watched (λ h. false_true (sym c.if-live.false ∙ h)));
    }

pub grow-requires : goal.grow-requires
grow-requires c r some =
    subst (λ (l : List Pair). Contains l (trial, r)) (pairs_at c.look_ahead.new.board r.kind)
    (there (lists_of c.search.board) (lists_of c.look_ahead.new.board) c.in-Some.child.res (ap lists_of c.in_ok-live.ensures.board ∙ c.in_ok-hold.ensures.held) r
    (ap (λ (f : Frame). f.res) (sym c.frame_of-then-live.ensures) ∙ some))

pub returns-in_err-grow-clause-along : goal.returns-in_err-grow-clause-along
returns-in_err-grow-clause-along c =
    holding_once (lists_of c.grow.new.board) (lists_of c.search.board) c.in-Some.child.res
    (ap (λ (f : Frame). lists_holding (lists_of c.grow.new.board) f.res) (sym c.frame_of-then-live.ensures)
    ∙ c.in_err-grow.ensures.back ∙ ap lists_of c.in_ok-live.ensures.board ∙ c.in_ok-hold.ensures.held)
    ∙ c.search.invariant.along ∙ ap (lists_along (lists_of c.args.board.now)) (sym c.in_err-grow.ensures.short)

pub returns-then-is_complete-clause-answer : goal.returns-then-is_complete-clause-answer
returns-then-is_complete-clause-answer c =
    let done = c.is_complete.ensures.0 c.if-is_complete.true in
    let within : c.search.count ≤ c.args.budget = c.search.invariant.within in
    let f : Frame = record { before = c.search.spot; step = c.in-Some.child.step; next = c.in-Some.child.next; res = c.in-Some.child.res } in
    subst (IsPlan (held_in c.args.board.now) (map reqs_of c.args.movers.now) c.args.budget)
    (sym (c.in_ok-plan.ensures.plan ∙ ap (λ x. plan_in (map reqs_of c.args.movers.now) (c.search.path.items ++ x ∷ [])) c.frame_of.ensures))
    (plan_found (held_in c.args.board.now) (map reqs_of c.args.movers.now) (lists_of c.args.board.now) (same_itself (held_in c.args.board.now))
    c.search.path.items (lists_of c.search.board) c.search.spot c.search.from c.search.count c.search.invariant.state
    c.in-Some.child f c.args.budget c.in-Some.ensures.found refl refl refl refl done.0 done.1 (omega arith))
