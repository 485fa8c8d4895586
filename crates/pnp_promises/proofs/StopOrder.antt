-- Devices are stopped from the greatest serial down.
use Rattle.std.proofs.Common.{ℕ, ◌≡◌, inl, inr, Bool, true, false, List, [], ◌∷◌, Option, Some, None, refl, sym, ap, subst, ◌∙◌, reverse, if◌then◌else◌}
use Rattle.resource_reqs.specs.Resources.{Reqs}
use Rattle.resource_reqs.specs.Spelling.Answer.{assignment, no_fit, spent}
use Rattle.pnp_labels.specs.declared.event.Event.{Event}
use Rattle.pnp_labels.specs.declared.label.Label.{Label}
use Rattle.pnp_labels.specs.declared.label.OpKind.{OpKind}
use Rattle.pnp_labels.specs.declared.words.Minor.{Minor}
use Rattle.pnp_model.specs.Events.{answer_of, completed}
use Rattle.pnp_model.specs.Cores.{serials_of}
use Rattle.pnp_model.specs.Frames.{rest}
use Rattle.pnp_model.specs.Jobs.{Beside, JobMove, each_gets, job_of}
use Rattle.pnp_model.specs.Keyed.{those}
use Rattle.pnp_model.specs.Machine as ma
use Rattle.pnp_model.specs.Rebalances as re
use Rattle.pnp_model.specs.Records.{Core, Course, Driver, Found, Job, Node, Settings, Stage, State, Step, course_of}
use Rattle.pnp_model.specs.Records.Stage.{Asking, TakingBack, Searching, Cancelling, Stopping, Restarting, Ending}
use Rattle.pnp_model.specs.Runs.{Entry, Goes}
use Rattle.pnp_model.specs.Runs.Entry.{Happens, Did, Declines}
use Rattle.pnp_model.specs.States.{device_born}
use Rattle.pnp_model.specs.Trees.{stands_up}
use Rattle.pnp_laws.specs.Effects.{OpEffect, Turn, begun, required}
use Rattle.pnp_laws.specs.Kept.{JobFits, OneIsNext, OperationFits, RemovalAsks, SurpriseEnds, asked_in}
use Rattle.pnp_laws.specs.Reached.{IsReached}
use Rattle.pnp_laws.specs.Rebalanced.{Falling, Rising}
use Rattle.pnp_laws.proofs.Askings.{falling_reverse}
use Rattle.pnp_laws.proofs.EffectsOf.{effect_goes}
use Rattle.pnp_laws.proofs.EffectsOfOperations.{begun_work}
use Rattle.pnp_laws.proofs.EventChanges.{Answered, happens_outside}
use Rattle.pnp_laws.proofs.IdleSteps.{MachineStep, machine_step}
use Rattle.pnp_laws.proofs.Lookups.{some_same}
use Rattle.pnp_laws.proofs.Reaching.{kept, reached_on}
use Rattle.pnp_laws.proofs.RunsStand.{Kept, reaches_kept}
use Rattle.pnp_laws.proofs.Stages.{JobStep, OperationStep, RebalanceAct, RebalanceStep, own_step}
use Rattle.pnp_laws.proofs.Standing.{OrderKept, StageKept, kept_by}
use Rattle.pnp_promises.proofs.Fitting.{asked_is}
use Rattle.pnp_promises.proofs.Hears.{falls}
use Rattle.pnp_promises.specs.StopOrder.{StoppedFromTheGreatestLaw}

-- while devices are stopped, those that are left fall
abbrev Falls : Job → Type 0
Falls p = p.stage ≡ Stopping → Falling p.todo

abbrev pub StopsFall : State → Type 0
StopsFall s = (p : Job) → s.operation ≡ Some p → Falls p

-- What comes next ---------------------------------------------------------------------------------------

cancel_on_falls : (r : Job) (todo : List ℕ) → Falls (re.cancel_on r todo)
cancel_on_falls r [] = by_wanted r.wanted
  where
    by_wanted : (wanted : Option Reqs) → re.cancelled wanted ≡ Stopping → Falling []
    by_wanted wanted e = tt
cancel_on_falls r (k ∷ ks) = λ e. absurd (cc)

ask_on_falls : (r : Job) (todo : List ℕ) → Falls (re.ask_on r todo)
ask_on_falls r (k ∷ ks) = λ e. absurd (cc)
ask_on_falls r [] = by_refused (re.has_refused r)
  where
    by_refused : (b : Bool) → Falls (if b then re.cancel_on r r.agreed else record r { todo = []; stage = Searching; walk = None })
    by_refused true = cancel_on_falls r r.agreed
    by_refused false = λ e. tt

stop_on_falls : (r : Job) (todo : List ℕ) → Falling todo → Falls (re.stop_on r todo)
stop_on_falls r [] falling = λ e. tt
stop_on_falls r (k ∷ ks) falling = λ e. falling

restart_on_falls : (nodes : List Node) (r : Job) (todo : List ℕ) → Falls (re.restart_on nodes r todo)
restart_on_falls nodes r todo = by_list (re.startable nodes todo)
  where
    by_list : (ks : List ℕ) → Falls (each_gets Minor.Start Restarting r ks (record r { todo = []; stage = Ending; walk = None }))
    by_list [] = λ e. tt
    by_list (k ∷ ks) = λ e. absurd (cc)

rest_falls : (todo : List ℕ) → Falling todo → Falling (rest todo)
rest_falls [] h = h
rest_falls (k ∷ ks) h = h.1

found_falls : (c : Core) (r : Job) (found : Found) → Rising r.agreed → Falls (re.searched c r found).frame
found_falls c r (assignment plan) rises = stop_on_falls (record r { found = assignment plan }) (reverse r.agreed) (falling_reverse r.agreed rises)
found_falls c r no_fit rises = cancel_on_falls (record r { found = no_fit }) r.agreed
found_falls c r spent rises = cancel_on_falls (record r { found = spent }) r.agreed

-- One step of a rebalance ------------------------------------------------------------------------------

module _ (s : State) (o : Job) (runs : s.operation ≡ Some o) (course : course_of o.kind ≡ Course.Rebalancing) (all : Kept s) (before : Falls o) where
  order : OrderKept o o.stage
  order = (kept_by Course.Rebalancing o s.core course (subst (λ (x : Option Job). StageKept x s.core) runs all.stands.stage)).0

  abbrev Q : Step → Type 0
  Q step = (p : Job) → step.state.operation ≡ Some p → Falls p

  on : (p q : Job) → Falls q → Some q ≡ Some p → Falls p
  on p q h e = let same : q ≡ p = cc in subst Falls same h

  act_falls : (stage : Stage) (m : JobMove) → o.stage ≡ stage → RebalanceAct s.core o stage m → Q (ma.job_lifted s m)
  act_falls _ _ at (RebalanceAct.searches found budget answer) p e = by_found found e
    where
      rises : Rising o.agreed
      rises = subst (λ (x : Stage). OrderKept o x) at order

      by_found : (found : Found) → (ma.job_lifted s (re.searched s.core o found)).state.operation ≡ Some p → Falls p
      by_found (assignment plan) e = on p _ (found_falls s.core o (assignment plan) rises) e
      by_found no_fit e = on p _ (found_falls s.core o no_fit rises) e
      by_found spent e = on p _ (found_falls s.core o spent rises) e
  act_falls _ _ at RebalanceAct.sticks p e = on p (re.stuck s.core o).frame (λ is. tt) e
  act_falls _ _ at RebalanceAct.commits p e = on p _ (restart_on_falls s.core.nodes o o.agreed) e
  act_falls _ _ at (RebalanceAct.failed node first) p e = on p _ (restart_on_falls s.core.nodes o (rest o.todo)) e
  act_falls _ _ at RebalanceAct.closes p e = absurd (by_found o.found o.wanted e)
    where
      by_up : (b : Bool) → (ma.after_job o (if b then Beside.OverStart else Beside.Over) s).operation ≡ Some p → ⊥
      by_up true e = cc
      by_up false e = cc

      by_found : (found : Found) (wanted : Option Reqs) → (ma.after_job o (re.over s.core o found wanted) s).operation ≡ Some p → ⊥
      by_found (assignment plan) None e = by_up (stands_up s.core.nodes o.target) e
      by_found no_fit None e = cc
      by_found spent None e = cc
      by_found (assignment plan) (Some wanted) e = cc
      by_found no_fit (Some wanted) e = cc
      by_found spent (Some wanted) e = cc

  rebalance_falls : (stage : Stage) (m : JobMove) → o.stage ≡ stage → RebalanceStep s.core o stage m → Q (ma.job_lifted s m)
  rebalance_falls _ _ at (RebalanceStep.agrees node w ends good) p e = on p _ (ask_on_falls (record o { agreed = node.serial ∷ o.agreed }) (rest o.todo)) e
  rebalance_falls _ _ at (RebalanceStep.refuses node w ends bad) p e = on p _ (λ is. absurd (cc)) e
  rebalance_falls _ _ at (RebalanceStep.takes_back node w ends) p e = on p _ (ask_on_falls o _) e
  rebalance_falls _ _ at (RebalanceStep.cancels node w ends) p e = on p _ (cancel_on_falls o (rest o.todo)) e
  rebalance_falls _ _ at (RebalanceStep.stops node w ends) p e = on p _ (stop_on_falls o (rest o.todo) (rest_falls o.todo (before at))) e
  rebalance_falls _ _ at (RebalanceStep.restarts node w ends good) p e = on p _ (restart_on_falls _ o (rest o.todo)) e
  rebalance_falls _ _ at (RebalanceStep.fails node w ends bad) p e = on p _ (λ is. absurd (cc)) e
  rebalance_falls stage m at (RebalanceStep.acts _ _ act) p e = act_falls stage m at act p e

  step_falls : (step : Step) → OperationStep s o step → Q step
  step_falls _ (OperationStep.asks node w asks) p e = on p _ before e
  step_falls _ (OperationStep.rebalances stage m own at step) p e = rebalance_falls stage m at step p e
  step_falls _ (OperationStep.removes stage m own at step) p e = absurd (cc)
  step_falls _ (OperationStep.surprises stage m own at step) p e = absurd (cc)
  step_falls _ (OperationStep.finishes stage m own at step) p e = absurd (cc)

  job_falls : (now : Job) (step : Step) → Turn s o now → JobStep s now step → Q step
  job_falls _ step (Turn.same _) is p e = step_falls step (own_step s o step (subst (λ (x : Option Job). OperationFits x s.core.nodes) runs all.good.fits) is) p e
  job_falls _ step (Turn.queries _ n c stage none at willing) is p e = absurd (cc)
  job_falls _ step (Turn.removes _ n d ds c stage none at goes full) is p e = absurd (cc)
  job_falls _ step (Turn.settles _ n c stage none at goes empty) is p e = absurd (cc)
  job_falls _ step (Turn.finishes _ k n c stage none ready at) is p e = absurd (cc)

  machine_falls : (step : Step) → MachineStep s step → Q step
  machine_falls step (MachineStep.operates now _ own taken) p e = job_falls taken.now step (subst (λ (x : Job). Turn s x taken.now) (some_same s.operation now o own runs) taken.turn) taken.is p e
  machine_falls _ (MachineStep.starts node phase m at acts is) p e = absurd (let none = acts.none in cc)
  machine_falls _ (MachineStep.does _ none is) p e = absurd (cc)

-- Each step ---------------------------------------------------------------------------------------------

-- no other operation stops devices
stopping_course : (course : Course) (p : Job) (nodes : List Node) → JobFits course p nodes → p.stage ≡ Stopping → course ≡ Course.Rebalancing
stopping_course Course.Rebalancing p nodes fits is = refl
stopping_course Course.Removing p nodes fits is = absurd (let asks = fits.asks in subst (λ (x : Stage). RemovalAsks p x) is asks)
stopping_course Course.Surprising p nodes fits is = absurd (let ends = fits.ends in subst (λ (x : Stage). SurpriseEnds p x) is ends)
stopping_course Course.Finishing p nodes fits is = absurd (let one = fits.one in subst (λ (x : Stage). OneIsNext p x) is one)

begun_falls : (s : State) (kind : OpKind) (node : Node) → course_of (begun s kind node).kind ≡ Course.Rebalancing → Falls (begun s kind node)
begun_falls s OpKind.Rebalance node course = ask_on_falls (record (job_of OpKind.Rebalance node) { wanted = None }) (reverse (serials_of (those re.is_asked s.core.nodes)))
begun_falls s OpKind.Change node course = ask_on_falls (record (job_of OpKind.Change node) { wanted = Some (required s node (device_born node.born s.world)) }) (reverse (serials_of (those re.is_asked s.core.nodes)))
begun_falls s OpKind.Disable node course = absurd (let k = (begun_work s OpKind.Disable node).0 in let e = sym (ap course_of k) ∙ course in cc)
begun_falls s OpKind.Eject node course = absurd (let k = (begun_work s OpKind.Eject node).0 in let e = sym (ap course_of k) ∙ course in cc)
begun_falls s OpKind.Surprise node course = absurd (let k = (begun_work s OpKind.Surprise node).0 in let e = sym (ap course_of k) ∙ course in cc)
begun_falls s OpKind.Finish node course = absurd (let k = (begun_work s OpKind.Finish node).0 in let e = sym (ap course_of k) ∙ course in cc)

module _ (settings : Settings) (s : State) (all : Kept s) (before : StopsFall s) where
  did_falls : (label : Label) (t : State) → Goes settings s (Did label) t → Kept t → OpEffect s label t → StopsFall t
  did_falls label t goes now (OpEffect.idles none after prints) p e is = absurd (cc)
  did_falls label t goes now (OpEffect.begins kind node none alone at why same) p e is =
      let op : Some (begun s kind node) ≡ Some p = sym (ap (λ (x : Step). x.state.operation) same) ∙ e in
      let own : begun s kind node ≡ p = cc in
      subst Falls own (begun_falls s kind node (ap (λ (x : Job). course_of x.kind) own ∙ stopping_course (course_of p.kind) p t.core.nodes (subst (λ (x : Option Job). OperationFits x t.core.nodes) e now.good.fits) is)) is
  did_falls label t goes now (OpEffect.goes o q runs after work prints) p e is =
      let same = some_same t.operation q p after e in
      let course : course_of o.kind ≡ Course.Rebalancing =
      ap course_of (sym work.kind) ∙ ap (λ (x : Job). course_of x.kind) same ∙ stopping_course (course_of p.kind) p t.core.nodes (subst (λ (x : Option Job). OperationFits x t.core.nodes) e now.good.fits) is in
      machine_falls s o runs course all (before o runs) (record { label = label; state = t }) (machine_step settings s (record { label = label; state = t }) goes) p e is
  did_falls label t goes now (OpEffect.ends o result runs after prints by closes) p e is = absurd (cc)

  event_falls : (event : Event) (label : Label) (t : State) → Goes settings s (Happens event label) t → StopsFall t
  event_falls event label t goes p e is = by_op (subst (λ (x : Step). Answered s.operation x.state.operation) goes.1 (happens_outside s event).operation)
    where
      by_op : Answered s.operation t.operation → Falling p.todo
      by_op (inl same) = before p (sym same ∙ e) is
      by_op (inr (ok, o, was, now)) =
          let own : completed (answer_of ok) o ≡ p = some_same t.operation (completed (answer_of ok) o) p now e in
          subst (λ (x : Job). Falling x.todo) own (before o was (ap (λ (x : Job). x.stage) own ∙ is))

  pub stops_fall : (entry : Entry) (t : State) → Goes settings s entry t → Kept t → StopsFall t
  stops_fall (Happens event label) t goes now p e is = event_falls event label t goes p e is
  stops_fall (Did label) t goes now p e is = did_falls label t goes now (effect_goes settings s (Did label) t goes).operation p e is
  stops_fall (Declines label) t goes now p e is = before p (ap (λ (x : State). x.operation) (sym goes.dropped) ∙ e) is

reached_kept : (settings : Settings) (rack : List Driver) (s : State) → IsReached settings rack s → Kept s
reached_kept settings rack s reached = reaches_kept settings rack reached.0 s reached.1

pub reached_falls : (settings : Settings) (rack : List Driver) (s : State) → IsReached settings rack s → StopsFall s
reached_falls settings rack =
    kept StopsFall settings rack (λ old entry new reached h goes. stops_fall settings old (reached_kept settings rack old reached) h entry new goes (reached_kept settings rack new (reached_on settings rack old entry new reached goes)))
    (λ p e is. absurd (cc))

-- where STOP is asked
stop_stage : (course : Course) (stage : Stage) → asked_in course stage ≡ Some Minor.Stop → stage ≡ Stopping
stop_stage Course.Rebalancing Stopping e = refl
stop_stage Course.Rebalancing Asking e = absurd (cc)
stop_stage Course.Rebalancing TakingBack e = absurd (cc)
stop_stage Course.Rebalancing Cancelling e = absurd (cc)
stop_stage Course.Rebalancing Restarting e = absurd (cc)
stop_stage Course.Rebalancing _ e = absurd (cc)
stop_stage Course.Removing Asking e = absurd (cc)
stop_stage Course.Removing TakingBack e = absurd (cc)
stop_stage Course.Removing Cancelling e = absurd (cc)
stop_stage Course.Removing Stage.Removing e = absurd (cc)
stop_stage Course.Removing _ e = absurd (cc)
stop_stage Course.Surprising Stage.Telling e = absurd (cc)
stop_stage Course.Surprising Stage.Removing e = absurd (cc)
stop_stage Course.Surprising _ e = absurd (cc)
stop_stage Course.Finishing Stage.Removing e = absurd (cc)
stop_stage Course.Finishing _ e = absurd (cc)

pub stopped_from_the_greatest : StoppedFromTheGreatestLaw
stopped_from_the_greatest settings rack entries s k w run asked is =
    let o = asked.operation in
    let all = reaches_kept settings rack entries s run in
    let stage = stop_stage (course_of o.kind) o.stage (asked_is o s.core.nodes w (subst (λ (x : Option Job). OperationFits x s.core.nodes) asked.runs all.good.fits) asked.walk ∙ ap Some is) in
    falls k o.todo asked.first (reached_falls settings rack s (entries, run) o asked.runs stage)
