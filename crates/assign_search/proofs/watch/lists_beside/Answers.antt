use Rattle.std.proofs.Common.{◌≡◌, List, map, length, get_or, Option, Some, IfSome, IfNone, slice_get, [], refl, ◌+◌, sym, ◌∙◌, ap, subst, arith}
use Rattle.std.proofs.Math.ListN.{length-map}
use Rattle.assign_search.specs.Fixed.{reqs_of}
use Rattle.resource_reqs.specs.Resources.{Res}
use Rattle.assign_search.specs.Walking.{HasOpenList, held_in}
use Rattle.std.proofs.lemmas.Option.{slice_get-get_or}
use Rattle.assign_search.specs.declared.watch.Watch.{Watch}
use Rattle.assign_search.specs.Watching.{IsHit, Watches, AllWatched}
use Rattle.assign_search.proofs.Rest.{false_true}
use Rattle.assign_search.proofs.Watched.{SeenTo, seen_unhit, seen_anew, seen_dead, seen_all, off_live, off_watched}
use Rattle.assign_search.proofs.watch.lists_beside.Goals as goal
use Rattle.assign_search.proofs.watch.lists_beside.Goals.{then-at-watch+in_ok-places+in-Some+in_ok-set, else-at-watch+else-is_hit}

pub returns-in_default-clause-live : goal.returns-in_default-clause-live
returns-in_default-clause-live c before adds all was = (
  λ h. false_true h,
  λ h. absurd (seen_dead (held_in c.args.board.now) c.args.res.now (map reqs_of c.args.movers.now) c.args.from c.args.watch.now.sure c.args.watch.now.places c.movers.watch.places
      c.movers.at c.reqs_at.result.now (omega arith) c.reqs_at.ensures c.movers.invariant.state
      (subst (λ (o : Option (List Res)). IfNone o (HasOpenList (held_in c.args.board.now) c.reqs_at.result.now → ⊥)) c.in_default.is c.in_ok-places.ensures.none) before adds all h),
)

pub returns-in_default-clause-kept : goal.returns-in_default-clause-kept
returns-in_default-clause-kept c before within all dead =
    subst (λ n. AllWatched before (map reqs_of c.args.movers.now) n c.movers.watch.places) (sym c.movers.invariant.sure) (c.movers.invariant.state.kept before within all)

pub movers-preserved : goal.movers-preserved
movers-preserved c =
    let long : length c.movers.watch.places ≡ length c.args.movers.now = c.movers.invariant.state.long ∙ c.requires in
    elim c.if-at-watch.branch [
      | then-at-watch+in_ok-places+in-Some+in_ok-set w ↦ record {
        sure = ap (λ (x : Watch). x.sure) w.watch-is ∙ c.movers.invariant.sure;
        state = subst (λ (x : Watch). SeenTo (held_in c.args.board.now) c.args.res.now (map reqs_of c.args.movers.now) c.args.from c.args.watch.now.sure c.args.watch.now.places x.places (c.movers.at + 1)) (sym w.watch-is)
            (seen_anew (held_in c.args.board.now) c.args.res.now (map reqs_of c.args.movers.now) c.args.from c.args.watch.now.sure c.args.watch.now.places c.movers.watch.places
            c.movers.at w.reqs_at.result.now (omega arith) w.reqs_at.ensures c.movers.invariant.state
            w.set.new.self w.in-Some.places (omega arith) w.in_ok-set.ensures.set
            (subst (λ (o : Option (List Res)). IfSome o (λ places. Watches (held_in c.args.board.now) w.reqs_at.result.now places)) w.in-Some.is w.in_ok-places.ensures.watched));
      }
      | else-at-watch+else-is_hit w ↦ record {
        sure = ap (λ (x : Watch). x.sure) w.watch-is ∙ c.movers.invariant.sure;
        state = subst (λ (x : Watch). SeenTo (held_in c.args.board.now) c.args.res.now (map reqs_of c.args.movers.now) c.args.from c.args.watch.now.sure c.args.watch.now.places x.places (c.movers.at + 1)) (sym w.watch-is)
            (let read : slice_get (map reqs_of c.args.movers.now) c.movers.at ≡ Some (get_or (map reqs_of c.args.movers.now) c.movers.at []) =
            (let all : length (map reqs_of c.args.movers.now) ≡ length c.args.movers.now = length-map c.args.movers.now reqs_of in slice_get-get_or (map reqs_of c.args.movers.now) c.movers.at [] (omega arith)) in
            seen_unhit (held_in c.args.board.now) c.args.res.now (map reqs_of c.args.movers.now) c.args.from c.args.watch.now.sure c.args.watch.now.places c.movers.watch.places
            c.movers.at (get_or (map reqs_of c.args.movers.now) c.movers.at []) (omega arith) read c.movers.invariant.state (omega (arith, c.movers.invariant.sure, w.if-at-watch.false))
            (λ hit. false_true (sym w.if-is_hit.false ∙ w.is_hit.ensures.1 (subst (λ (l : List Res). IsHit l c.args.res.now) (sym w.get.ensures) hit))));
      }
    ]

pub returns-clause-watched : goal.returns-clause-watched
returns-clause-watched c before adds all live =
    let long : length (map reqs_of c.args.movers.now) ≡ length c.args.movers.now = length-map c.args.movers.now reqs_of in
    (seen_all (held_in c.args.board.now) c.args.res.now (map reqs_of c.args.movers.now) c.args.from c.args.watch.now.sure c.args.watch.now.places c.movers.watch.places
    c.movers.at (omega arith) c.movers.invariant.state before adds all).1

pub returns-then-not-may_be_hit-clause-live : goal.returns-then-not-may_be_hit-clause-live
returns-then-not-may_be_hit-clause-live c before adds all was = (
  λ h. off_live (held_in c.args.board.now) c.args.res.now (map reqs_of c.args.movers.now) c.args.from c.args.watch.now.sure c.args.watch.now.places (omega (arith, c.if-watch-from.true))
      (c.may_be_hit.ensures c.if-not-may_be_hit.true) before adds all,
  λ h. refl,
)

pub returns-then-not-may_be_hit-clause-watched : goal.returns-then-not-may_be_hit-clause-watched
returns-then-not-may_be_hit-clause-watched c before adds all live =
    off_watched (held_in c.args.board.now) c.args.res.now (map reqs_of c.args.movers.now) c.args.from c.args.watch.now.sure c.args.watch.now.places (omega (arith, c.if-watch-from.true))
    (c.may_be_hit.ensures c.if-not-may_be_hit.true) before adds all
