-- Which driver is asked, in which state of the device, and when a request has ended.
use Rattle.std.proofs.Common.{ℕ, zero, suc, ◌<◌, ◌≡◌, ◌≢◌, ◌⊎◌, ◌&&◌, inl, inr, Bool, true, false, List, [], ◌∷◌, cond, length, nat_le, Option, Some, None, refl, sym, ap, subst, ◌∙◌, arith}
use Rattle.std.proofs.lemmas.Bool.Decides.{nat_tests}
use Rattle.std.proofs.lemmas.Option.{slice_get-get_or}
use Rattle.std.specs.Prelude.{slice_set}
use Rattle.std.specs.List.{find, slice_get}
use Rattle.resource_reqs.proofs.Counts.{contains_cons, contains_nil}
use Rattle.resource_reqs.specs.Spelling.Answer.{assignment, no_fit, spent}
use Rattle.pnp_labels.specs.Texts.{Text}
use Rattle.pnp_labels.specs.declared.label.Label.{Label}
use Rattle.pnp_labels.specs.declared.label.Shown.{Shown}
use Rattle.pnp_labels.specs.declared.states.DevState.{DevState}
use Rattle.pnp_labels.specs.declared.states.DevState.TheVariants.{NoStack, NotStarted, Started}
use Rattle.pnp_labels.specs.declared.event.Rule.{Rule}
use Rattle.pnp_labels.specs.declared.words.Answer.{Answer}
use Rattle.pnp_labels.specs.declared.words.AskWhat.{AskWhat}
use Rattle.pnp_labels.specs.declared.words.Minor.{Minor}
use Rattle.pnp_labels.specs.declared.words.Minor.TheVariants.{Start, QueryRemove, Remove, CancelRemove, Stop, QueryStop, CancelStop, SurpriseRemoval}
use Rattle.pnp_model.specs.Books.{answer_in, book_of, fits, later, name_of, one_less, rack_after, rack_reply, reply, used, with_later}
use Rattle.pnp_model.specs.Keyed.{changed_first}
use Rattle.pnp_model.specs.Cores.{node_at}
use Rattle.pnp_model.specs.Diagram.{Row}
use Rattle.pnp_model.specs.Frames.{first_node, next_driver}
use Rattle.pnp_model.specs.Handles.{is_open}
use Rattle.pnp_model.specs.Jobs.{JobMove}
use Rattle.pnp_model.specs.Machine.{phase_walk}
use Rattle.pnp_model.specs.Records.{Course, Driver, Found, Job, Node, Phase, Stage, State, Step, Walk, course_of}
use Rattle.pnp_model.specs.Runs.Entry.{Happens, Did, Declines}
use Rattle.pnp_model.specs.Rebalances as re
use Rattle.pnp_model.specs.States.{is_activity}
use Rattle.pnp_model.specs.Starts.{StartMove}
use Rattle.pnp_model.specs.Walks.{has_ended, is_bad, may_fail, place_of, shown_of, state_after, walk_of}
use Rattle.pnp_laws.specs.Effects.{Acting, PhaseOwn, Running, Turn}
use Rattle.pnp_laws.specs.Kept.{asked_in}
use Rattle.pnp_laws.specs.Told.{IsWalkOf}
use Rattle.pnp_laws.specs.Waiting.{is_held}
use Rattle.pnp_laws.specs.Words.{IsWord}
use Rattle.pnp_laws.proofs.Asked.{operation_asks}
use Rattle.pnp_laws.proofs.DriverNames.{place_below}
use Rattle.pnp_laws.proofs.EffectViews.{acting_at, acting_fits}
use Rattle.pnp_laws.proofs.EventChanges.{Outside, happens_outside}
use Rattle.pnp_promises.proofs.Fitting.{asked_is}
use Rattle.pnp_laws.proofs.IdleSteps.{ActivityStep, MachineStep, TaskStep, machine_step}
use Rattle.pnp_laws.proofs.Lists.{HeadIs, head_found, head_has}
use Rattle.pnp_laws.proofs.Lookups.{own_serial, some_same}
use Rattle.pnp_laws.proofs.Minors.{HasOwn, reaches_own}
use Rattle.pnp_laws.proofs.Phases.{phase_found}
use Rattle.pnp_laws.proofs.RunsStand.{Kept, reaches_kept}
use Rattle.pnp_laws.proofs.RunsTold.{states_are_told}
use Rattle.pnp_laws.proofs.ShutSteps.{unopen}
use Rattle.pnp_laws.proofs.Stages.{ActStep, FinishAct, JobStep, RebalanceAct, RemovalAct, SurpriseAct, asking}
use Rattle.pnp_laws.proofs.Standing.{FinishShut, JobShut, RemovalShut, SurpriseShut}
use Rattle.pnp_laws.proofs.Truths.{or_cases, or_neither, and_both}
use Rattle.pnp_laws.proofs.Turns.{running_good}
use Rattle.pnp_laws.proofs.TurnsKept.{running_shut}
use Rattle.pnp_model.specs.Machine as ma
use Rattle.pnp_promises.specs.Asks.{AllAnswered, AsksAreInOrderLaw, AsksNext, ByBook, EndsWhenAnsweredLaw, Goes_on, IsTurnOf, MayFail, Replies, book_at, fewer, once_more, shows}

-- The words ------------------------------------------------------------------------------------------

module _ (answered n : ℕ) (more : answered < n) where
  turn_of : (minor : Minor) → IsTurnOf minor n answered (place_of minor n answered)
  turn_of Start = (λ up. refl, λ down. absurd (down tt))
  turn_of QueryRemove = (λ up. absurd up, λ down. omega arith)
  turn_of Remove = (λ up. absurd up, λ down. omega arith)
  turn_of CancelRemove = (λ up. refl, λ down. absurd (down tt))
  turn_of Stop = (λ up. absurd up, λ down. omega arith)
  turn_of QueryStop = (λ up. absurd up, λ down. omega arith)
  turn_of CancelStop = (λ up. refl, λ down. absurd (down tt))
  turn_of SurpriseRemoval = (λ up. absurd up, λ down. omega arith)

may_is : (minor : Minor) → MayFail minor → may_fail minor ≡ true
may_is Start h = refl
may_is QueryRemove h = refl
may_is QueryStop h = refl
may_is _ h = absurd h

is_may : (minor : Minor) → may_fail minor ≡ true → MayFail minor
is_may Start h = tt
is_may QueryRemove h = tt
is_may QueryStop h = tt
is_may _ h = absurd (cc)

unfailed : (w : Walk) → is_bad w ≡ false → MayFail w.minor → w.failed ≡ false
unfailed w h may = by_b (may_fail w.minor) (may_is w.minor may) h
  where
    by_b : (b : Bool) → b ≡ true → (b && w.failed) ≡ false → w.failed ≡ false
    by_b true e g = g
    by_b false e g = absurd (cc)

and_false : (b : Bool) → (b && false) ≡ false
and_false true = refl
and_false false = refl

-- the next driver, of a request that has not ended
record NextOf (node : Node) (w : Walk) : Type 0 where
  none_failed : MayFail w.minor → w.failed ≡ false
  place : ℕ
  next : IsTurnOf w.minor (length node.stack) w.asked place
  of_stack : slice_get node.stack place ≡ Some (next_driver node w)

next_of : (node : Node) (w : Walk) → has_ended w (length node.stack) ≡ false → NextOf node w
next_of node w more =
    let two = or_neither (is_bad w) (nat_le (length node.stack) w.asked) more in
    let left : w.asked < length node.stack = let t = two.1 in grind (arith, nat_tests) in
    record {
      none_failed = unfailed w two.0;
      place = place_of w.minor (length node.stack) w.asked;
      next = turn_of w.asked (length node.stack) left w.minor;
      of_stack = slice_get-get_or node.stack (place_of w.minor (length node.stack) w.asked) 0 (place_below w (length node.stack) more);
    }

-- By which rule a driver answers ------------------------------------------------------------------------

fewer_is : (uses : Option ℕ) → one_less uses ≡ fewer uses
fewer_is None = refl
fewer_is (Some n) = refl

used_is : (rule : Rule) → used rule ≡ once_more rule
used_is rule = ap (λ (u : Option ℕ). record rule { uses = u }) (fewer_is rule.uses)

longer : (what : AskWhat) (path : Text) (rule : Rule) (book : List Rule) (answer : Answer) (now : List Rule) → fits what path rule ≡ false → ByBook what path book answer now → ByBook what path (rule ∷ book) answer (rule ∷ now)
longer what path rule _ _ _ e (ByBook.no_rule book none) = ByBook.no_rule (rule ∷ book) (λ r c. elim (contains_cons rule book r c) [ inl is ↦ ap (fits what path) is ∙ e | inr later ↦ none r later ])
longer what path rule _ _ _ e (ByBook.by_rule before own after none fit) =
    ByBook.by_rule (rule ∷ before) own after (λ r c. elim (contains_cons rule before r c) [ inl is ↦ ap (fits what path) is ∙ e | inr later ↦ none r later ]) fit

by_book : (what : AskWhat) (path : Text) (book : List Rule) → ByBook what path book (reply what path book) (later what path book)
by_book what path [] = ByBook.no_rule [] (λ r c. absurd (contains_nil r c))
by_book what path (rule ∷ book) = by_b (fits what path rule) refl (by_book what path book)
  where
    by_b : (b : Bool) → fits what path rule ≡ b → ByBook what path book (reply what path book) (later what path book)
        → ByBook what path (rule ∷ book) (answer_in (cond b (Some rule) (find (fits what path) book))) (cond b (used rule ∷ book) (rule ∷ changed_first (fits what path) used book))
    by_b true e more = subst (λ (r : Rule). ByBook what path (rule ∷ book) rule.answer (r ∷ book)) (sym (used_is rule)) (ByBook.by_rule [] rule book (λ r c. absurd (contains_nil r c)) e)
    by_b false e more = longer what path rule book (reply what path book) (later what path book) e more

set_same : (rack : List Driver) (k : ℕ) (old new : Driver) → slice_get rack k ≡ Some old → slice_get (slice_set rack k new) k ≡ Some new
set_same [] k old new at = absurd (cc)
set_same (x ∷ xs) zero old new at = refl
set_same (x ∷ xs) (suc k) old new at = set_same xs k old new at

set_other : (rack : List Driver) (k d : ℕ) (new : Driver) → d ≢ k → slice_get (slice_set rack k new) d ≡ slice_get rack d
set_other [] k d new other = refl
set_other (x ∷ xs) zero zero new other = absurd (other refl)
set_other (x ∷ xs) zero (suc d) new other = refl
set_other (x ∷ xs) (suc k) zero new other = refl
set_other (x ∷ xs) (suc k) (suc d) new other = set_other xs k d new (λ e. other (ap suc e))

shown_is : (minor : Minor) (answer : Answer) → shown_of minor answer ≡ shows minor answer
shown_is minor Answer.Ok = refl
shown_is minor Answer.Pend = refl
shown_is Start Answer.Fail = refl
shown_is QueryRemove Answer.Fail = refl
shown_is QueryStop Answer.Fail = refl
shown_is _ Answer.Fail = refl

-- what is known of the rack after a driver was asked
replies : (s t : State) (what : AskWhat) (path : Text) (d : ℕ) → t.core.rack ≡ rack_after what path s.core.rack d
    → ByBook what path (book_at s d) (rack_reply what path s.core.rack d) (book_at t d) × ((e : ℕ) → e ≢ d → slice_get t.core.rack e ≡ slice_get s.core.rack e)
replies s t what path d is = by_driver (slice_get s.core.rack d) refl
  where
    by_driver : (o : Option Driver) → slice_get s.core.rack d ≡ o
        → ByBook what path (book_at s d) (rack_reply what path s.core.rack d) (book_at t d) × ((e : ℕ) → e ≢ d → slice_get t.core.rack e ≡ slice_get s.core.rack e)
    by_driver None e =
        let same : t.core.rack ≡ s.core.rack = is ∙ ap (with_later what path s.core.rack d) e in (
          subst (λ (book : List Rule). ByBook what path book (reply what path book) (book_at t d)) (sym (ap book_of e))
              (subst (λ (book : List Rule). ByBook what path [] (reply what path []) book) (sym (ap (λ (r : List Driver). book_of (slice_get r d)) same ∙ ap book_of e)) (by_book what path [])),
          λ i other. ap (λ (r : List Driver). slice_get r i) same,
        )
    by_driver (Some own) e =
        let now : t.core.rack ≡ slice_set s.core.rack d (record own { book = later what path own.book }) = is ∙ ap (with_later what path s.core.rack d) e in (
          subst (λ (book : List Rule). ByBook what path book (reply what path book) (book_at t d)) (sym (ap book_of e))
              (subst (λ (book : List Rule). ByBook what path own.book (reply what path own.book) book)
              (sym (ap (λ (r : List Driver). book_of (slice_get r d)) now ∙ ap book_of (set_same s.core.rack d own (record own { book = later what path own.book }) e))) (by_book what path own.book)),
          λ i other. ap (λ (r : List Driver). slice_get r i) now ∙ set_other s.core.rack d i _ other,
        )

-- of the request that is asked
module _ (s t : State) (node : Node) (w : Walk) (minor : Minor) (path : Text) (shown : Shown) (own : w.minor ≡ minor) (named : node.path ≡ path) where
  replies_so : t.core.rack ≡ rack_after (AskWhat.Irp w.minor) node.path s.core.rack (next_driver node w) → shown ≡ shown_of w.minor (rack_reply (AskWhat.Irp w.minor) node.path s.core.rack (next_driver node w)) → Replies s minor path shown (next_driver node w) t
  replies_so rack says =
      let d = next_driver node w in
      let answer = rack_reply (AskWhat.Irp w.minor) node.path s.core.rack d in
      let facts = replies s t (AskWhat.Irp w.minor) node.path d rack in
      record {
        answer = answer;
        is_shown = says ∙ shown_is w.minor answer ∙ ap (λ (m : Minor). shows m answer) own;
        by_book = subst (λ (m : Minor). ByBook (AskWhat.Irp m) path (book_at s d) answer (book_at t d)) own
            (subst (λ (p : Text). ByBook (AskWhat.Irp w.minor) p (book_at s d) answer (book_at t d)) named facts.0);
        others = facts.1;
      }

-- Which labels ask nobody ------------------------------------------------------------------------------

module _ (minor : Minor) (path driver : Text) (shown : Shown) where
  abbrev Asking : Label → Type 0
  Asking label = label ≡ Label.Asked minor path driver shown

  found_asks_not : (s : State) (o : Job) (found : Found) → Asking (re.searched s.core o found).label → ⊥
  found_asks_not s o (assignment plan) e = cc
  found_asks_not s o no_fit e = cc
  found_asks_not s o spent e = cc

  rebalance_asks_not : (s : State) (o : Job) (stage : Stage) (m : JobMove) → RebalanceAct s.core o stage m → Asking m.label → ⊥
  rebalance_asks_not s o stage _ (RebalanceAct.searches found budget answer) e = found_asks_not s o found e
  rebalance_asks_not s o stage _ RebalanceAct.sticks e = cc
  rebalance_asks_not s o stage _ RebalanceAct.commits e = cc
  rebalance_asks_not s o stage _ (RebalanceAct.failed node first) e = cc
  rebalance_asks_not s o stage _ RebalanceAct.closes e = cc

  removal_asks_not : (s : State) (o : Job) (stage : Stage) (m : JobMove) → RemovalAct s.core o stage m → Asking m.label → ⊥
  removal_asks_not s o stage _ (RemovalAct.declines node first) e = cc
  removal_asks_not s o stage _ (RemovalAct.leaves node first inside) e = cc
  removal_asks_not s o stage _ (RemovalAct.ejects node first) e = cc
  removal_asks_not s o stage _ (RemovalAct.disables node first over target) e = cc
  removal_asks_not s o stage _ (RemovalAct.remains node problem first over other) e = cc
  removal_asks_not s o stage _ RemovalAct.closes e = cc

  surprise_asks_not : (s : State) (o : Job) (back : Bool) (stage : Stage) (m : JobMove) → SurpriseAct s.core o back s.handles stage m → Asking m.label → ⊥
  surprise_asks_not s o back stage _ (SurpriseAct.lags node first behind) e = cc
  surprise_asks_not s o back stage _ (SurpriseAct.leaves node first why) e = cc
  surprise_asks_not s o back stage _ (SurpriseAct.remains node first other over) e = cc
  surprise_asks_not s o back stage _ (SurpriseAct.stays node first target there) e = cc
  surprise_asks_not s o back stage _ SurpriseAct.closes e = cc

  finish_asks_not : (s : State) (o : Job) (stage : Stage) (m : JobMove) → FinishAct s.core o s.handles stage m → Asking m.label → ⊥
  finish_asks_not s o stage _ (FinishAct.leaves node first) e = cc
  finish_asks_not s o stage _ (FinishAct.holds node first) e = cc
  finish_asks_not s o stage _ (FinishAct.closes none) e = cc

  acts_ask_not : (s : State) (o : Job) (m : JobMove) → ActStep s o m → Asking m.label → ⊥
  acts_ask_not s o _ (ActStep.rebalances stage m course is act) e = rebalance_asks_not s o stage m act e
  acts_ask_not s o _ (ActStep.removes stage m course is act) e = removal_asks_not s o stage m act e
  acts_ask_not s o _ (ActStep.surprises stage m course is act) e = surprise_asks_not s o _ stage m act e
  acts_ask_not s o _ (ActStep.finishes stage m course is act) e = finish_asks_not s o stage m act e

  tasks_ask_not : (s : State) (step : Step) → TaskStep s step → Asking step.label → ⊥
  tasks_ask_not s _ (TaskStep.skips kind k j first other) e = cc
  tasks_ask_not s _ (TaskStep.misses k first none) e = cc
  tasks_ask_not s _ (TaskStep.told node first at state) e = cc
  tasks_ask_not s _ (TaskStep.lists k node first) e = cc
  tasks_ask_not s _ (TaskStep.finds_gone node child gone) e = cc
  tasks_ask_not s _ (TaskStep.joins node d at up there) e = cc
  tasks_ask_not s _ (TaskStep.troubles node problem bare other) e = cc
  tasks_ask_not s _ (TaskStep.installs node rank d drivers bare chosen) e = cc
  tasks_ask_not s _ (TaskStep.begins kind node first alone at fits) e = cc

-- Who is asked -----------------------------------------------------------------------------------------

-- the first device of an operation
pub front_is : (nodes : List Node) (todo : List ℕ) (node : Node) → first_node nodes todo ≡ Some node → slice_get todo 0 ≡ Some node.serial
front_is nodes [] node e = absurd (cc)
front_is nodes (k ∷ ks) node e = ap Some (sym (own_serial k node nodes e))

begun_is : (minor : Minor) (w : Walk) → Some (walk_of minor) ≡ Some w → w ≡ walk_of w.minor
begun_is minor w e = let same : walk_of minor ≡ w = cc in subst (λ (x : Walk). x ≡ walk_of x.minor) same refl

turn_on : (s : State) (o p : Job) → Turn s o p → (node : Node) (w : Walk) → s.operation ≡ Some o → first_node s.core.nodes p.todo ≡ Some node → p.walk ≡ Some w → Goes_on s node.serial w
turn_on s o _ (Turn.same _) node w runs first walk = Goes_on.began (IsWalkOf.operates o runs (front_is s.core.nodes o.todo node first) walk)
turn_on s _ _ (Turn.queries o n course stage idle at willing) node w runs first walk = Goes_on.begins (begun_is QueryRemove w walk)
turn_on s _ _ (Turn.removes o n d ds course stage idle at goes full) node w runs first walk = Goes_on.begins (begun_is Remove w walk)
turn_on s _ _ (Turn.settles o n course stage idle at goes empty) node w runs first walk = absurd (cc)
turn_on s _ _ (Turn.finishes f k n course stage idle ready at) node w runs first walk = Goes_on.begins (begun_is Remove w walk)

-- no handle is open to a device that is asked to go
abbrev Leaves : Minor → Type 0
Leaves minor = (minor ≡ QueryRemove) ⊎ (minor ≡ Remove)

module _ (s : State) (o : Job) (k : ℕ) (minor : Minor) (head : HeadIs k o.todo) where
  shut_removal : (stage : Stage) → asked_in Course.Removing stage ≡ Some minor → RemovalShut s.handles o stage → Leaves minor → is_open s.handles k ≡ false
  shut_removal Stage.Asking is h leaves = h.1 k head
  shut_removal Stage.TakingBack is h (inl e) = absurd (cc)
  shut_removal Stage.TakingBack is h (inr e) = absurd (cc)
  shut_removal Stage.Cancelling is h (inl e) = absurd (cc)
  shut_removal Stage.Cancelling is h (inr e) = absurd (cc)
  shut_removal Stage.Removing is h leaves = h k (head_has k o.todo head)
  shut_removal _ is h leaves = absurd (cc)

  shut_surprise : (stage : Stage) → asked_in Course.Surprising stage ≡ Some minor → SurpriseShut s.handles o stage → Leaves minor → is_open s.handles k ≡ false
  shut_surprise Stage.Removing is h leaves = h k head
  shut_surprise Stage.Telling is h (inl e) = absurd (cc)
  shut_surprise Stage.Telling is h (inr e) = absurd (cc)
  shut_surprise _ is h leaves = absurd (cc)

  shut_finish : (stage : Stage) → asked_in Course.Finishing stage ≡ Some minor → FinishShut s.handles o stage → Leaves minor → is_open s.handles k ≡ false
  shut_finish Stage.Removing is h leaves = h k head
  shut_finish _ is h leaves = absurd (cc)

  shut_rebalance : (stage : Stage) → asked_in Course.Rebalancing stage ≡ Some minor → Leaves minor → is_open s.handles k ≡ false
  shut_rebalance Stage.Asking is (inl e) = absurd (cc)
  shut_rebalance Stage.Asking is (inr e) = absurd (cc)
  shut_rebalance Stage.TakingBack is (inl e) = absurd (cc)
  shut_rebalance Stage.TakingBack is (inr e) = absurd (cc)
  shut_rebalance Stage.Cancelling is (inl e) = absurd (cc)
  shut_rebalance Stage.Cancelling is (inr e) = absurd (cc)
  shut_rebalance Stage.Stopping is (inl e) = absurd (cc)
  shut_rebalance Stage.Stopping is (inr e) = absurd (cc)
  shut_rebalance Stage.Restarting is (inl e) = absurd (cc)
  shut_rebalance Stage.Restarting is (inr e) = absurd (cc)
  shut_rebalance _ is leaves = absurd (cc)

  shut_course : (course : Course) → asked_in course o.stage ≡ Some minor → JobShut s.handles course o → Leaves minor → is_open s.handles k ≡ false
  shut_course Course.Rebalancing is h leaves = shut_rebalance o.stage is leaves
  shut_course Course.Removing is h leaves = shut_removal o.stage is h leaves
  shut_course Course.Surprising is h leaves = shut_surprise o.stage is h leaves
  shut_course Course.Finishing is h leaves = shut_finish o.stage is h leaves

module _ (s : State) (kept : Kept s) (minor : Minor) (path driver : Text) (shown : Shown) where
  by_job : (o p : Job) (step : Step) → s.operation ≡ Some o → Turn s o p → JobStep s p step → step.label ≡ Label.Asked minor path driver shown → AsksNext s minor path driver shown step.state
  by_job o p _ runs turn (JobStep.asks node w asks) says =
      let running : Running s p = record { before = o; runs = runs; turn = turn } in
      let good = running_good s p running kept.good in
      let own : w.minor ≡ minor = cc in
      let named : node.path ≡ path = cc in
      let n = next_of node w (asks.more kept.good.serials) in
      let head = head_found s.core.nodes p.todo node asks.first in
      let rows = (operation_asks p s.core.nodes node w good.fits asks.first asks.walk).rows in
      let shut = shut_course s p node.serial w.minor head.0 (course_of p.kind) (asked_is p s.core.nodes w good.fits asks.walk) (running_shut s p running kept) in
      record {
        node = node;
        there = head.1;
        named = named;
        walk = w;
        on = turn_on s o p turn node w runs asks.first asks.walk;
        own = own;
        answers = asks.waits;
        none_failed = λ may. n.none_failed (subst MayFail (sym own) may);
        place = n.place;
        next = subst (λ (m : Minor). IsTurnOf m (length node.stack) w.asked n.place) own n.next;
        asked = next_driver node w;
        of_stack = n.of_stack;
        says = cc;
        replies = replies_so s (asking s p node w).state node w minor path shown own named refl (cc);
        state = state_after w.minor (may_fail w.minor && false) node.state;
        row = subst (λ (m : Minor). Row node.state m false (state_after w.minor (may_fail w.minor && false) node.state)) own
            (subst (λ (b : Bool). Row node.state w.minor b (state_after w.minor (may_fail w.minor && false) node.state)) (and_false (may_fail w.minor)) (rows false));
        closed = λ leaves. shut (subst (λ (m : Minor). Leaves m) (sym own) leaves);
      }
  by_job o p _ runs turn (JobStep.ends node w q ends after) says = absurd (cc)
  by_job o p _ runs turn (JobStep.acts m none act) says = absurd (acts_ask_not minor path driver shown s p m act says)

  unheld_start : (x : DevState) → x ≡ NotStarted → is_held x ≡ true → ⊥
  unheld_start x e h = let z = subst (λ (y : DevState). is_held y ≡ true) e h in cc

  by_start : (node : Node) (phase : Phase) (w : Walk) (state : DevState) → node_at node.serial s.core.nodes ≡ Some node → Acting s node.serial phase → phase_walk phase ≡ Some w → w.minor ≡ minor → w.waits ≡ false → has_ended w (length node.stack) ≡ false
      → node.state ≡ NotStarted → Row NotStarted minor false state → node.path ≡ path → driver ≡ name_of s.core.rack (next_driver node w)
      → (t : State) → t.core.rack ≡ rack_after (AskWhat.Irp w.minor) node.path s.core.rack (next_driver node w) → shown ≡ shown_of w.minor (rack_reply (AskWhat.Irp w.minor) node.path s.core.rack (next_driver node w)) → AsksNext s minor path driver shown t
  by_start node phase w state at acts walk own waits more down row named says t rack answers =
      let here = acting_at s node.serial phase kept.good.order acts in
      let n = next_of node w more in
      record {
        node = node;
        there = at;
        named = named;
        walk = w;
        on = Goes_on.began (IsWalkOf.starts here.activity acts.none here.at (ap phase_walk here.is ∙ walk));
        own = own;
        answers = waits;
        none_failed = λ may. n.none_failed (subst MayFail (sym own) may);
        place = n.place;
        next = subst (λ (m : Minor). IsTurnOf m (length node.stack) w.asked n.place) own n.next;
        asked = next_driver node w;
        of_stack = n.of_stack;
        says = says;
        replies = replies_so s t node w minor path shown own named rack answers;
        state = state;
        row = subst (λ (x : DevState). Row x minor false state) (sym down) row;
        closed = λ leaves. unopen s.handles s.core.nodes node.serial kept.waits.held (λ m there held.
            unheld_start m.state (ap (λ (x : Node). x.state) (some_same (node_at node.serial s.core.nodes) m node there at) ∙ down) held);
      }

  by_activity : HasOwn s → (node : Node) (phase : Phase) (m : StartMove) → node_at node.serial s.core.nodes ≡ Some node → Acting s node.serial phase → ActivityStep s.core node phase m → m.label ≡ Label.Asked minor path driver shown → AsksNext s minor path driver shown (ma.start_lifted s node.serial m).state
  by_activity owns node _ _ at acts (ActivityStep.asks_start w waits more) says =
      let here = acting_at s node.serial (Phase.Starting w) kept.good.order acts in
      let own : PhaseOwn (Phase.Starting w) = subst PhaseOwn here.is (phase_found PhaseOwn (is_activity node.serial) s.activities here.activity here.at owns) in
      let start : w.minor ≡ Start = cc in
      let is : w.minor ≡ minor = cc in
      let fits = (acting_fits s node.serial node (Phase.Starting w) at acts kept.good).1 in
      by_start node (Phase.Starting w) w Started at acts refl is waits more fits (subst (λ (m : Minor). Row NotStarted m false Started) (sym start ∙ is) Row.start) (cc) (cc) _ refl (cc)
  by_activity owns node _ _ at acts (ActivityStep.asks_remove w waits more) says =
      let here = acting_at s node.serial (Phase.Removing w) kept.good.order acts in
      let own : PhaseOwn (Phase.Removing w) = subst PhaseOwn here.is (phase_found PhaseOwn (is_activity node.serial) s.activities here.activity here.at owns) in
      let removes : w.minor ≡ Remove = cc in
      let is : w.minor ≡ minor = cc in
      let fits = (acting_fits s node.serial node (Phase.Removing w) at acts kept.good).1 in
      by_start node (Phase.Removing w) w NoStack at acts refl is waits more fits (subst (λ (m : Minor). Row NotStarted m false NoStack) (sym removes ∙ is) Row.remove) (cc) (cc) _ refl (cc)
  by_activity owns node _ _ at acts (ActivityStep.adds d ds) says = absurd (cc)
  by_activity owns node _ _ at acts (ActivityStep.refused d ds) says = absurd (cc)
  by_activity owns node _ _ at acts (ActivityStep.fits phase plan budget search answer) says = absurd (cc)
  by_activity owns node _ _ at acts (ActivityStep.unplaced phase search) says = absurd (cc)
  by_activity owns node _ _ at acts (ActivityStep.tires phase search) says = absurd (cc)
  by_activity owns node _ _ at acts (ActivityStep.fails w ended bad) says = absurd (cc)
  by_activity owns node _ _ at acts (ActivityStep.starts w ended good) says = absurd (cc)
  by_activity owns node _ _ at acts (ActivityStep.strips w ended) says = absurd (cc)
  by_activity owns node _ _ at acts (ActivityStep.empty problem none) says = absurd (cc)
  by_activity owns node _ _ at acts (ActivityStep.undoes problem d ds full) says = absurd (cc)

  by_machine : HasOwn s → (step : Step) → MachineStep s step → step.label ≡ Label.Asked minor path driver shown → AsksNext s minor path driver shown step.state
  by_machine owns step (MachineStep.operates o _ runs taken) says = by_job o taken.now step runs taken.turn taken.is says
  by_machine owns _ (MachineStep.starts node phase m at acts is) says = by_activity owns node phase m at acts is says
  by_machine owns _ (MachineStep.does step none is) says = absurd (tasks_ask_not minor path driver shown s step is says)

-- The laws ----------------------------------------------------------------------------------------------

no_word : (label : Label) (minor : Minor) (path driver : Text) (shown : Shown) → IsWord label → label ≡ Label.Asked minor path driver shown → ⊥
no_word label minor path driver shown word e = subst IsWord e word

pub asks_are_in_order : AsksAreInOrderLaw
asks_are_in_order settings rack entries s (Did label) t minor path driver shown run goes says =
    by_machine s (reaches_kept settings rack entries s run) minor path driver shown (reaches_own settings rack entries s run) (record { label = label; state = t }) (machine_step settings s (record { label = label; state = t }) goes) says
asks_are_in_order settings rack entries s (Happens event label) t minor path driver shown run goes says =
    absurd (no_word label minor path driver shown (subst (λ (x : Step). Outside s x) goes.1 (happens_outside s event)).word says)
asks_are_in_order settings rack entries s (Declines label) t minor path driver shown run goes says = absurd (let is = goes.says in cc)

answered_by : (w : Walk) (n : ℕ) → has_ended w n ≡ true → AllAnswered w n
answered_by w n h =
    elim (or_cases (is_bad w) (nat_le n w.asked) h) [
      | inl bad ↦ let two = and_both (may_fail w.minor) w.failed bad in inr (is_may w.minor two.0, two.1)
      | inr all ↦ inl (grind (arith, nat_tests))
    ]

pub ends_when_answered : EndsWhenAnsweredLaw
ends_when_answered settings rack entries s entry t path state k n run goes says at named =
    let told = (states_are_told settings rack entries s entry t run goes).walked path state says k n at named in
    (told.0, told.1, answered_by told.0 (length n.stack) told.2)
