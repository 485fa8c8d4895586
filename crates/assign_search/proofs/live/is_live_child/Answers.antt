use Rattle.std.proofs.Common.{◌≡◌, ◌+◌, map, drop, length, Some, Result, Ok, Err, IfOk, refl, sym, ◌∙◌, ap, subst, arith}
use Rattle.std.specs.List.{AllByRecursion}
use Rattle.std.proofs.Math.ListN.{length-map}
use Rattle.assign_search.specs.Fixed.{reqs_of}
use Rattle.assign_search.specs.Walking.{Adds, AllOpen, HasOpenList, IsSpot, groups_at, movers_at, held_in}
use Rattle.assign_search.proofs.Rest.{false_true}
use Rattle.assign_search.proofs.Watched.{none_known, watched_step, open_left}
use Rattle.assign_search.proofs.live.is_live_child.Goals as goal
use Rattle.assign_search.proofs.live.is_live_child.Goals.{After-groups_beside}

groups_here : (c : After-groups_beside) → groups_at (map reqs_of c.args.movers.now) c.args.child.now.spot ≡ drop c.in-Inside.group c.groups_of-groups.result.now
groups_here c = ap (groups_at (map reqs_of c.args.movers.now)) c.in-Inside.is ∙ ap (drop c.in-Inside.group) (sym c.groups_of-groups.ensures)

movers_here : (c : After-groups_beside) → movers_at (map reqs_of c.args.movers.now) c.args.child.now.spot ≡ drop (c.in-Inside.mover + 1) (map reqs_of c.args.movers.now)
movers_here c = ap (movers_at (map reqs_of c.args.movers.now)) c.in-Inside.is

then_ok : {A E : Type 0} (r : Result A E) {P Q : A → Type 0} → ((x : A) → P x → Q x) → IfOk r P → IfOk r Q
then_ok (Ok x) f p = f x p
then_ok (Err e) f p = tt

pub returns-then-not-groups_beside-clause-placed : goal.returns-then-not-groups_beside-clause-placed
returns-then-not-groups_beside-clause-placed c res before some adds watched groups lists =
    let at : After-groups_beside = (goal.at.returns-then-not-groups_beside-clause-placed c).After-groups_beside in
    let same : res ≡ c.in-Some.res = (let both : Some res ≡ Some c.in-Some.res = sym some ∙ c.in-Some.is in cc) in
    let adds_it : Adds before c.in-Some.res (held_in c.args.board.now) = subst (λ r. Adds before r (held_in c.args.board.now)) same adds in
    let first = c.groups_beside.ensures before adds_it (subst (AllOpen before) (groups_here at) groups) in (
      λ h. false_true h,
      λ both. false_true (sym c.if-not-groups_beside.true ∙ first.1 (subst (AllOpen (held_in c.args.board.now)) (groups_here at) both.0)),
    )

pub returns-else-not-groups_beside-clause-placed : goal.returns-else-not-groups_beside-clause-placed
returns-else-not-groups_beside-clause-placed c res before some adds watched groups lists =
    let at : After-groups_beside = (goal.at.returns-else-not-groups_beside-clause-placed c).After-groups_beside in
    let same : res ≡ c.in-Some.res = (let both : Some res ≡ Some c.in-Some.res = sym some ∙ c.in-Some.is in cc) in
    let adds_it : Adds before c.in-Some.res (held_in c.args.board.now) = subst (λ r. Adds before r (held_in c.args.board.now)) same adds in
    let first = c.groups_beside.ensures before adds_it (subst (AllOpen before) (groups_here at) groups) in
    then_ok c.lists_beside.result
    (λ live second. (
      λ h. (
        subst (AllOpen (held_in c.args.board.now)) (sym (groups_here at)) (first.0 c.if-not-groups_beside.false),
        subst (AllByRecursion (HasOpenList (held_in c.args.board.now))) (sym (movers_here at)) (second.0 h),
      ),
      λ both. second.1 (subst (AllByRecursion (HasOpenList (held_in c.args.board.now))) (movers_here at) both.1),
    ))
    (c.lists_beside.ensures.live before adds_it watched (subst (AllByRecursion (HasOpenList before)) (movers_here at) lists))

pub returns-in-Between-clause-watched : goal.returns-in-Between-clause-watched
returns-in-Between-clause-watched c before adds watched live =
    let long : length (map reqs_of c.args.movers.now) ≡ length c.args.movers.now = length-map c.args.movers.now reqs_of in
    none_known (held_in c.args.board.now) (map reqs_of c.args.movers.now) (length c.args.movers.now) c.args.watch.now.places (omega arith)

pub returns-in-Between-clause-kept : goal.returns-in-Between-clause-kept
returns-in-Between-clause-kept c before within watched dead =
    let long : length (map reqs_of c.args.movers.now) ≡ length c.args.movers.now = length-map c.args.movers.now reqs_of in
    none_known before (map reqs_of c.args.movers.now) (length c.args.movers.now) c.args.watch.now.places (omega arith)

pub returns-then-is_known_open-clause-listed : goal.returns-then-is_known_open-clause-listed
returns-then-is_known_open-clause-listed c none lists watched =
    let ms = map reqs_of c.args.movers.now in
    let held = held_in c.args.board.now in
    let here : groups_at ms c.args.child.now.spot ≡ drop c.in-Inside.group c.groups_of-groups.result.now =
    ap (groups_at ms) c.in-Inside.is ∙ ap (drop c.in-Inside.group) (sym c.groups_of-groups.ensures) in
    let spot = subst (IsSpot ms) c.in-Inside.is c.requires.spot in
    let open_ : AllOpen held c.groups_of-groups.result.now =
    subst (AllOpen held) (sym c.groups_of-groups.ensures) (c.is_known_open.ensures c.if-is_known_open.true held c.in-Inside.list watched spot.1) in
    (λ h. subst (AllOpen held) (sym here) (open_left held c.groups_of-groups.result.now c.in-Inside.group open_), λ h. refl)

pub returns-then-is_known_open-clause-watched : goal.returns-then-is_known_open-clause-watched
returns-then-is_known_open-clause-watched c before adds watched live =
    watched_step before (held_in c.args.board.now) c.args.child.now.res c.in-None.is adds (map reqs_of c.args.movers.now) c.args.watch.now.sure c.args.watch.now.places watched

pub returns-else-is_known_open-clause-watched : goal.returns-else-is_known_open-clause-watched
returns-else-is_known_open-clause-watched c before adds watched live =
    watched_step before (held_in c.args.board.now) c.args.child.now.res c.in-None.is adds (map reqs_of c.args.movers.now) c.args.watch.now.sure c.args.watch.now.places watched
