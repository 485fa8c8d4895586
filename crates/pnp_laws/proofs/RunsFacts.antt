-- In each state of a run: who is related has drivers, nothing stands below a device that is not up, nobody is being started while an
-- operation runs, and whoever is Stopped, or holds something and is not up, is due or seen to by the operation that runs.
use Rattle.std.proofs.Common.{ℕ, ◌≡◌, ◌≢◌, ◌==◌, ◌⊎◌, inl, inr, Bool, true, false, ◌&&◌, List, [], ◌∷◌, Option, Some, None, refl, sym, ap, ◌∙◌, subst, arith}
use Rattle.std.specs.List.{list_any}
use Rattle.std.proofs.lemmas.Bool.Decides.{nat_tests}
use Rattle.resource_reqs.proofs.Counts.{all_at}
use Rattle.pnp_labels.specs.declared.label.Label.{Label}
use Rattle.pnp_labels.specs.declared.label.OpKind.{OpKind}
use Rattle.pnp_labels.specs.declared.states.DevState.{DevState}
use Rattle.pnp_labels.specs.declared.states.DevState.TheVariants.{NoStack, NotStarted, Stopped, SurpriseRemoved}
use Rattle.pnp_labels.specs.declared.words.Minor.{Minor}
use Rattle.pnp_labels.specs.declared.words.Minor.TheVariants.{Start, QueryRemove, Remove, CancelRemove, Stop, QueryStop, CancelStop, SurpriseRemoval}
use Rattle.pnp_model.specs.Cores.{node_at}
use Rattle.pnp_model.specs.Records.{Activity, Course, Driver, Duty, Job, Node, Settings, Stage, State, Step, Walk, course_of}
use Rattle.pnp_model.specs.Runs.{Entry, Goes}
use Rattle.pnp_model.specs.Runs.Entry.{Happens, Did, Declines}
use Rattle.pnp_model.specs.Starts.{StartBeside}
use Rattle.pnp_model.specs.Machine.{after_start}
use Rattle.pnp_model.specs.States.{activity_at, with_core}
use Rattle.pnp_model.specs.Tasks.{begin}
use Rattle.pnp_model.specs.Tests.{has, is_surprise_task}
use Rattle.pnp_model.specs.Trees.{above, hangs_on}
use Rattle.pnp_model.specs.Walks.{state_after}
use Rattle.pnp_laws.specs.Due.{is_due, leads}
use Rattle.pnp_laws.specs.Effects.{AnswerEffect, NodeEffect, OpEffect, Request, SameWork, Turn, begun}
use Rattle.pnp_laws.specs.Kept.{IsGood, JobFits, OperationFits, SurpriseEnds, asked_in, is_idle}
use Rattle.pnp_laws.specs.Reached.{IsReached}
use Rattle.pnp_laws.specs.Strays.{NobodyForgotten}
use Rattle.pnp_laws.specs.Words.{spared, spared_in}
use Rattle.pnp_laws.proofs.Declined.{idle_after}
use Rattle.pnp_laws.proofs.Due.{no_due, none_leads}
use Rattle.pnp_laws.proofs.EffectViews.{Origin, origin}
use Rattle.pnp_laws.proofs.EffectsOf.{effect_goes}
use Rattle.pnp_laws.proofs.IdleSteps.{MachineStep, TaskStep, machine_step}
use Rattle.pnp_laws.proofs.Kept.{alone, none_acts}
use Rattle.pnp_laws.proofs.Lists.{has_cases}
use Rattle.pnp_laws.proofs.Lookups.{own_serial, some_same}
use Rattle.pnp_laws.proofs.Reaching.{kept, reached_on}
use Rattle.pnp_laws.proofs.RunsStand.{Kept, reaches_kept}
use Rattle.pnp_laws.proofs.RunsWhole.{reached_is_whole}
use Rattle.pnp_laws.proofs.Sounds.{no_children}
use Rattle.pnp_laws.proofs.Standing.{AllTold, FinishesBut, StageKept, SurpriseOrder, SurpriseTold, ToldKept, rebalance_waiting, waiting, JobKept, JobTold, waiting_in}
use Rattle.pnp_laws.proofs.StrayMoves.{From, Seen, from, spared_by}
use Rattle.pnp_laws.proofs.EffectsOfOperations.{begun_work, turn_work}
use Rattle.pnp_laws.proofs.Turns.{running_good}
use Rattle.pnp_laws.proofs.Truths.{or_left}
use Rattle.pnp_laws.specs.Facts.{AdriftSeen, FactsAreKeptLaw, IdleChildless, IsAdrift, IsDriven, IsRemovalOrFinish, NobodyAdrift, SeenIn, SeenTo, StopsNobody, to_finish, to_restart}
use Rattle.pnp_laws.proofs.Related.{IsUpAt, JoinsUp, related_up}
use Rattle.pnp_laws.proofs.RunsStrays.{each_stray_is_seen, nobody_is_forgotten}
use Rattle.pnp_laws.proofs.FitsBy.{asked_is}

-- States -----------------------------------------------------------------------------------

waits_idle : (x : DevState) → x ≡ NotStarted → is_idle x ≡ true
waits_idle x e = ap is_idle e

idle_either : (x : DevState) → (x ≡ NoStack) ⊎ (x ≡ NotStarted) → is_idle x ≡ true
idle_either x (inl e) = ap is_idle e
idle_either x (inr e) = ap is_idle e

-- Relations and children -------------------------------------------------------------------

module _ (s : State) (holds : Kept s) where
  driven : (k : ℕ) → IsUpAt s.core.nodes k → IsDriven s.core.nodes k
  driven k (n, at, up) = (n, at, λ other none. let state = ap is_idle ((holds.good.stacks k n at).some other none) in absurd (cc))

  not_waiting : (k j : ℕ) (n : Node) → node_at k s.core.nodes ≡ Some n → n.state ≡ NotStarted → IsUpAt s.core.nodes j → j ≢ k
  not_waiting k j n at waits (m, there, up) e =
      let same = some_same (node_at k s.core.nodes) m n (subst (λ (i : ℕ). node_at i s.core.nodes ≡ Some m) e there) at in
      let idle = ap (λ (x : Node). is_idle x.state) same ∙ waits_idle n.state waits in
      absurd (cc)

  hangs_below : (k i : ℕ) (m : Node) → node_at i s.core.nodes ≡ Some m → i ≢ 0 → m.parent ≡ k → hangs_on s.core (k ∷ []) m ≡ true
  hangs_below k i m at up parent =
      let own = own_serial i m s.core.nodes at in
      or_left _ (list_any (λ r. r.member == m.serial && has (k ∷ []) r.owner) s.core.relations) (grind (arith, nat_tests))

  childless : IdleChildless s.core
  childless k n at idle =
      no_children 0 k s.core.nodes holds.good.serials
      (λ i m there up parent. holds.stands.tree.idle k n at (idle_either n.state idle) i m there (hangs_below k i m there up parent))

-- Who is seen to ---------------------------------------------------------------------------

adrift_not : (s : State) (k : ℕ) (n : Node) (x : DevState) → n.state ≡ x → x ≢ Stopped → x ≢ NotStarted → IsAdrift s k n → ⊥
adrift_not s k n x e a b (inl stopped) = a (sym e ∙ stopped)
adrift_not s k n x e a b (inr stray) = b (sym e ∙ stray.waits)

restarts_are : (r : Job) (stage : Stage) (k : ℕ) → has (rebalance_waiting r stage) k ≡ true → has (to_restart r stage) k ≡ true
restarts_are r Stage.Asking k h = h
restarts_are r _ k h = h

module _ (s : State) (k : ℕ) (n : Node) (at : node_at k s.core.nodes ≡ Some n) (adrift : IsAdrift s k n) where
  -- of the set of a surprise removal who is not to be finished any more has no drivers, or stayed behind
  not_done : (set behind todo : List ℕ) → FinishesBut s.core set behind todo → AllTold behind s.core.nodes → has set k ≡ true → has todo k ≡ true
  not_done set behind todo order told inside = by_todo (has todo k) refl
    where
      by_behind : (b : Bool) → has behind k ≡ b → has todo k ≡ false → ⊥
      by_behind true e out = adrift_not s k n SurpriseRemoved (told k n e at) (λ q. absurd (cc)) (λ q. absurd (cc)) adrift
      by_behind false e out = adrift_not s k n NoStack (order.bare k n at inside out e) (λ q. absurd (cc)) (λ q. absurd (cc)) adrift

      by_todo : (b : Bool) → has todo k ≡ b → has todo k ≡ true
      by_todo true e = e
      by_todo false e = absurd (by_behind (has behind k) refl e)

  finished_yet : (o : Job) (stage : Stage) → SurpriseEnds o stage → SurpriseOrder s.core o stage → SurpriseTold s.core o stage → has o.set k ≡ true → has (to_finish o stage) k ≡ true
  finished_yet o Stage.Telling ends order told inside = inside
  finished_yet o Stage.Next ends order told inside = not_done o.set o.behind o.todo order told.stayed inside
  finished_yet o Stage.Removing ends order told inside = not_done o.set o.behind o.todo order.0 told.1.stayed inside
  finished_yet o Stage.Settling ends order told inside = not_done o.set o.behind o.todo order.0 told.stayed inside
  finished_yet o Stage.Ending ends order told inside = not_done o.set o.behind [] order told.stayed inside
  finished_yet o _ ends order told inside = absurd ends

  -- one that is Stopped, and one that holds something
  stopped_seen : (o : Option Job) → OperationFits o s.core.nodes → StageKept o s.core → ToldKept o s.core → has (waiting o) k ≡ true → SeenTo o k n
  stopped_seen None fits stage told h = absurd (cc)
  stopped_seen (Some o) fits stage told h = by_course (course_of o.kind) fits stage told h
    where
      by_course : (course : Course) → JobFits course o s.core.nodes → JobKept course o s.core → JobTold course o s.core → has (waiting_in course o) k ≡ true → SeenIn course o k n
      by_course Course.Rebalancing fits stage told h = inr (restarts_are o o.stage k h)
      by_course Course.Surprising fits stage told h = (h, finished_yet o o.stage fits.ends stage.0 told h)
      by_course Course.Removing fits stage told h = absurd (cc)
      by_course Course.Finishing fits stage told h = absurd (cc)

  stray_seen : (o : Option Job) → OperationFits o s.core.nodes → StageKept o s.core → ToldKept o s.core → n.state ≡ NotStarted → has (spared_by o) k ≡ true → SeenTo o k n
  stray_seen None fits stage told waits h = absurd (cc)
  stray_seen (Some o) fits stage told waits h = by_course (course_of o.kind) fits stage told h
    where
      by_course : (course : Course) → JobFits course o s.core.nodes → JobKept course o s.core → JobTold course o s.core → has (spared_in o course) k ≡ true → SeenIn course o k n
      by_course Course.Rebalancing fits stage told h = inl (waits, elim (has_cases o.target k [] h) [ inl e ↦ e | inr none ↦ absurd (cc) ])
      by_course Course.Surprising fits stage told h = (h, finished_yet o o.stage fits.ends stage.0 told h)
      by_course Course.Removing fits stage told h = absurd (cc)
      by_course Course.Finishing fits stage told h = absurd (cc)

adrift_seen : (s : State) → Kept s → Seen s → AdriftSeen s
adrift_seen s holds seen k n at (inl stopped) =
    elim (holds.stands.due k n at stopped) [ inl due ↦ inl due | inr more ↦ inr (stopped_seen s k n at (inl stopped) s.operation holds.good.fits holds.stands.stage holds.waits.told more) ]
adrift_seen s holds seen k n at (inr stray) =
    elim (seen.strays k n at stray) [ inl due ↦ inl due | inr more ↦ inr (stray_seen s k n at (inr stray) s.operation holds.good.fits holds.stands.stage holds.waits.told stray.waits more) ]

-- In a disable, an eject or a finish nobody is -------------------------------------------------

quiet_runs : (o : Option Job) → StopsNobody o → (p : Job) × (o ≡ Some p)
quiet_runs None h = absurd h
quiet_runs (Some p) h = (p, refl)

work_quiet : (o p : Job) → SameWork o p → StopsNobody (Some p) → StopsNobody (Some o)
work_quiet o p work h = subst (λ (x : OpKind). IsRemovalOrFinish (course_of x)) work.kind h

-- where such an operation begins its task comes first, so nobody is due
begun_leads : (s : State) (step : Step) → TaskStep s step → s.operation ≡ None → StopsNobody step.state.operation → leads s.tasks ≡ []
begun_leads s _ (TaskStep.skips kind k j first other) none h = absurd (subst StopsNobody none h)
begun_leads s _ (TaskStep.misses k first gone) none h = absurd (subst StopsNobody none h)
begun_leads s _ (TaskStep.told node first at state) none h = absurd (subst StopsNobody none h)
begun_leads s _ (TaskStep.lists k node first) none h = absurd (subst StopsNobody none h)
begun_leads s _ (TaskStep.finds_gone node child gone) none h = absurd (subst StopsNobody none h)
begun_leads s _ (TaskStep.joins node d at up there) none h = absurd (subst StopsNobody none h)
begun_leads s _ (TaskStep.troubles node problem bare other) none h = absurd (subst StopsNobody none h)
begun_leads s _ (TaskStep.installs node rank driver drivers bare chosen) none h = absurd (subst StopsNobody none h)
begun_leads s _ (TaskStep.begins kind node first alone at fits) none h =
    none_leads s.tasks (record { kind = Duty.Begins kind; serial = node.serial }) first (by_kind kind h)
  where
    by_kind : (kind : OpKind) → StopsNobody (Some (begun s kind node)) → is_surprise_task (Duty.Begins kind) ≡ false
    by_kind OpKind.Rebalance h = refl
    by_kind OpKind.Disable h = refl
    by_kind OpKind.Eject h = refl
    by_kind OpKind.Surprise h = absurd (subst (λ (x : OpKind). IsRemovalOrFinish (course_of x)) (begun_work s OpKind.Surprise node).0 h)
    by_kind OpKind.Finish h = refl
    by_kind OpKind.Change h = refl

machine_leads : (s : State) (step : Step) → MachineStep s step → s.operation ≡ None → StopsNobody step.state.operation → leads s.tasks ≡ []
machine_leads s step (MachineStep.operates o _ runs taken) none h = absurd (cc)
machine_leads s _ (MachineStep.starts node phase m at acts step) none h = absurd (subst StopsNobody (start_idle m.beside) h)
  where
    start_idle : (beside : StartBeside) → (after_start node.serial m.frame beside (with_core m.core s)).operation ≡ None
    start_idle StartBeside.On = none
    start_idle StartBeside.Needs = none
    start_idle StartBeside.Up = none
    start_idle StartBeside.Over = none
machine_leads s step (MachineStep.does _ idle task) none h = begun_leads s step task none h

-- nobody becomes Stopped in one
abbrev is_stop : Option Minor → Bool
is_stop (Some Stop) = true
is_stop _ = false

quiet_stops : (course : Course) (stage : Stage) → IsRemovalOrFinish course → is_stop (asked_in course stage) ≡ false
quiet_stops Course.Removing stage h = by_stage stage
  where
    by_stage : (stage : Stage) → is_stop (asked_in Course.Removing stage) ≡ false
    by_stage Stage.Asking = refl
    by_stage _ = refl
quiet_stops Course.Finishing stage h = by_stage stage
  where
    by_stage : (stage : Stage) → is_stop (asked_in Course.Finishing stage) ≡ false
    by_stage Stage.Removing = refl
    by_stage _ = refl
quiet_stops _ stage h = absurd h

turned_quiet : (s : State) (o p : Job) → Turn s o p → StopsNobody (Some o) → StopsNobody (Some p)
turned_quiet s o p turn h = subst (λ (x : OpKind). IsRemovalOrFinish (course_of x)) (sym (turn_work s o p turn).kind) h

stopped_before : (minor : Minor) (bad : Bool) (x : DevState) → is_stop (Some minor) ≡ false → state_after minor bad x ≡ Stopped → x ≡ Stopped
stopped_before Start true x other h = h
stopped_before Start false x other h = absurd (cc)
stopped_before QueryRemove true x other h = h
stopped_before QueryRemove false x other h = absurd (cc)
stopped_before Remove bad x other h = absurd (cc)
stopped_before CancelRemove bad x other h = absurd (cc)
stopped_before Stop bad x other h = absurd (cc)
stopped_before QueryStop true x other h = h
stopped_before QueryStop false x other h = absurd (cc)
stopped_before CancelStop bad x other h = absurd (cc)
stopped_before SurpriseRemoval bad x other h = absurd (cc)

module _ (s : State) (label : Label) (t : State) (o : Job) (good : IsGood s) (runs : s.operation ≡ Some o) (quiet : StopsNobody (Some o)) where
  asks_no_stop : (n : Node) (minor : Minor) (w : Walk) → Request s n minor w → is_stop (Some minor) ≡ false
  asks_no_stop n _ w (Request.starts _ acts) = absurd (let none = acts.none in cc)
  asks_no_stop n _ w (Request.undoes _ acts) = absurd (let none = acts.none in cc)
  asks_no_stop n _ w (Request.operates _ asking) =
      let same : o ≡ asking.runs.before = (let there = asking.runs.runs in cc) in
      let still = turned_quiet s asking.runs.before asking.operation asking.runs.turn (subst (λ (x : Job). StopsNobody (Some x)) same quiet) in
      ap is_stop (sym (asked_is asking.operation s.core.nodes w (running_good s asking.operation asking.runs good).fits asking.walk)) ∙ quiet_stops (course_of asking.operation.kind) asking.operation.stage still

  stopped_from : (k : ℕ) (m : Node) → Origin s label t k m → m.state ≡ Stopped → (n : Node) × (node_at k s.core.nodes ≡ Some n) × (n.state ≡ Stopped)
  stopped_from k _ (Origin.was n at) e = (n, at, e)
  stopped_from k _ (Origin.walked n minor w bad at request other ends verdict prints) e = (n, at, stopped_before minor bad n.state (asks_no_stop n minor w request) e)
  stopped_from k _ (Origin.troubled n problem at) e = (n, at, e)
  stopped_from k _ (Origin.stacks n d ds name at acts prints) e = absurd (let none = acts.none in cc)
  stopped_from k _ (Origin.assigned n phase plan at acts search part now) e = absurd (let none = acts.none in cc)
  stopped_from k _ (Origin.stripped n w at request prints) e = absurd (cc)
  stopped_from k _ (Origin.commits r n rebalances course stage at) e = absurd (subst (λ (x : Course). IsRemovalOrFinish x) course (subst StopsNobody (sym runs ∙ rebalances) quiet))
  stopped_from k _ (Origin.joins node d there none own) e = absurd (cc)

-- A step or an event ---------------------------------------------------------------------------

-- while an operation runs nothing is being started
idle_in : (s : State) (o : Job) (k : ℕ) → IsGood s → s.operation ≡ Some o → activity_at k s.activities ≡ None
idle_in s o k good runs = subst (λ (x : List Activity). activity_at k x ≡ None) (sym (alone s o good runs)) refl

-- who is adrift was so before, where the nodes are the same and nothing was being started
still_adrift : (s t : State) (k : ℕ) (n : Node) → activity_at k s.activities ≡ None → IsAdrift t k n → IsAdrift s k n
still_adrift s t k n idle (inl stopped) = inl stopped
still_adrift s t k n idle (inr stray) = inr (record { waits = stray.waits; holds = stray.holds; idle = idle })

same_nobody : (s t : State) → t.core.nodes ≡ s.core.nodes → ((k : ℕ) → activity_at k s.activities ≡ None) → NobodyAdrift s → NobodyAdrift t
same_nobody s t same idle h k n at adrift = h k n (subst (λ (x : List Node). node_at k x ≡ Some n) same at) (still_adrift s t k n (idle k) adrift)

spares_nobody : (o : Job) (k : ℕ) → StopsNobody (Some o) → has (spared o) k ≡ true → ⊥
spares_nobody o k h g = by_course (course_of o.kind) h g
  where
    by_course : (course : Course) → IsRemovalOrFinish course → has (spared_in o course) k ≡ true → ⊥
    by_course Course.Removing h g = cc
    by_course Course.Finishing h g = cc
    by_course _ h g = h

module _ (settings : Settings) (rack : List Driver) (s : State) (reached : IsReached settings rack s) (old : StopsNobody s.operation → NobodyAdrift s) where
  good : IsGood s
  good = (reaches_kept settings rack reached.0 s reached.1).good

  -- an operation that runs goes on
  goes_quiet : (label : Label) (t : State) (o p : Job) → s.operation ≡ Some o → t.operation ≡ Some p → IsGood t → SameWork o p → NodeEffect s label t → StopsNobody (Some p) → NobodyAdrift t
  goes_quiet label t o p runs after now work nodes h k m at adrift = by_adrift adrift
    where
      quiet : StopsNobody (Some o)
      quiet = work_quiet o p work h

      before : NobodyAdrift s
      before = old (subst StopsNobody (sym runs) quiet)

      by_from : m.state ≡ NotStarted → m.holds ≢ [] → From s t k m → ⊥
      by_from waits holds (From.unchanged n there state same) =
          before k n there (inr (record { waits = state waits; holds = λ e. holds (same ∙ e); idle = idle_in s o k good runs }))
      by_from waits holds (From.emptied none) = holds none
      by_from waits holds (From.placed a found placed) = none_acts t p k a now after found
      by_from waits holds (From.moved q n rebalances there moves) =
          let same : q ≡ o = (let one = rebalances in let two = runs in cc) in
          spares_nobody o k quiet (subst (λ (x : Job). has (spared x) k ≡ true) same (moves waits).1)

      by_adrift : IsAdrift t k m → ⊥
      by_adrift (inl stopped) =
          let (n, there, state) = stopped_from s label t o good runs quiet k m (origin s label t good.serials k m nodes at) stopped in
          before k n there (inl state)
      by_adrift (inr stray) = by_from stray.waits stray.holds (from s label t good (reached_is_whole settings rack s reached) nodes k m at)

  -- one begins where nobody is due
  begins_quiet : (label : Label) (t : State) (kind : OpKind) (node : Node) → s.operation ≡ None → s.activities ≡ [] → record { label = label; state = t } ≡ begin s kind node (begun s kind node) → leads s.tasks ≡ [] → NobodyAdrift t
  begins_quiet label t kind node none alone is first k n at adrift =
      let core : t.core.nodes ≡ s.core.nodes = ap (λ (x : Step). x.state.core.nodes) is in
      let there = subst (λ (x : List Node). node_at k x ≡ Some n) core at in
      let idle : activity_at k s.activities ≡ None = subst (λ (x : List Activity). activity_at k x ≡ None) (sym alone) refl in
      let due : is_due s.tasks s.core.nodes k ≡ true = by_adrift there (still_adrift s t k n idle adrift) in
      let undue : is_due s.tasks s.core.nodes k ≡ false = ap (λ (ls : List ℕ). list_any (λ i. has ls i) (k ∷ above s.core.nodes k)) first ∙ no_due (k ∷ above s.core.nodes k) in
      absurd (cc)
    where
      seen : NobodyForgotten s
      seen = nobody_is_forgotten settings rack reached.0 s reached.1 none

      by_adrift : node_at k s.core.nodes ≡ Some n → IsAdrift s k n → is_due s.tasks s.core.nodes k ≡ true
      by_adrift there (inl stopped) = seen.stopped k n there stopped
      by_adrift there (inr stray) = seen.strays k n there stray

  stepped : (label : Label) (t : State) → Goes settings s (Did label) t → IsGood t → NodeEffect s label t → OpEffect s label t → StopsNobody t.operation → NobodyAdrift t
  stepped label t goes now nodes (OpEffect.idles none after prints) h = absurd (subst StopsNobody after h)
  stepped label t goes now nodes (OpEffect.begins kind node none alone at fits is) h =
      begins_quiet label t kind node none alone is (machine_leads s (record { label = label; state = t }) (machine_step settings s (record { label = label; state = t }) goes) none h)
  stepped label t goes now nodes (OpEffect.goes o p runs after work prints) h = goes_quiet label t o p runs after now work nodes (subst StopsNobody after h)
  stepped label t goes now nodes (OpEffect.ends o result runs after prints by closes) h = absurd (subst StopsNobody after h)

  still : (label : Label) (t : State) → t.core.nodes ≡ s.core.nodes → StopsNobody s.operation → NobodyAdrift t
  still label t same h =
      let (o, runs) = quiet_runs s.operation h in
      same_nobody s t same (λ k. idle_in s o k good runs) (old h)

  answered : (label : Label) (t : State) → AnswerEffect s label t → StopsNobody t.operation → NobodyAdrift t
  answered label t (AnswerEffect.stays word nodes acts after) h = still label t nodes (subst StopsNobody after h)
  answered label t (AnswerEffect.answers word nodes j a ok found acts after) h = still label t nodes (subst StopsNobody after h)
  answered label t (AnswerEffect.answered word nodes acts ok o runs after) h =
      still label t nodes (subst StopsNobody (sym runs) (subst StopsNobody after h))

quiet_goes : (settings : Settings) (rack : List Driver) (s : State) (entry : Entry) (t : State) → IsReached settings rack s → (StopsNobody s.operation → NobodyAdrift s) → Goes settings s entry t → StopsNobody t.operation → NobodyAdrift t
quiet_goes settings rack s (Happens event label) t reached old goes = answered settings rack s reached old label t (effect_goes settings s (Happens event label) t goes).operation
quiet_goes settings rack s (Did label) t reached old goes =
    let effect = effect_goes settings s (Did label) t goes in
    let now = reaches_kept settings rack _ t (reached_on settings rack s (Did label) t reached goes).1 in
    stepped settings rack s reached old label t goes now.good effect.nodes effect.operation
quiet_goes settings rack s (Declines label) t reached old goes = λ h. absurd (subst StopsNobody (idle_after s label t goes) h)

-- The law -----------------------------------------------------------------------------------------

pub facts_are_kept : FactsAreKeptLaw
facts_are_kept settings rack entries s run =
    let holds = reaches_kept settings rack entries s run in
    let related = related_up settings rack entries s run in
    record {
      ends = λ r there. let up = all_at (JoinsUp s.core.nodes) s.core.relations r related there in (driven s holds r.owner up.0, driven s holds r.member up.1);
      unstarted = λ k n at waits r there.
          let up = all_at (JoinsUp s.core.nodes) s.core.relations r related there in
          (not_waiting s holds k r.owner n at waits up.0, not_waiting s holds k r.member n at waits up.1);
      childless = childless s holds;
      alone = λ o runs. alone s o holds.good runs;
      adrift = adrift_seen s holds (each_stray_is_seen settings rack entries s run);
      none = kept (λ (x : State). StopsNobody x.operation → NobodyAdrift x) settings rack (quiet_goes settings rack) (λ h. absurd h) s (entries, run);
    }
