-- An operation stays in its set.
use Rattle.std.proofs.Common.{ℕ, ◌≡◌, ◌≢◌, ◌⊎◌, ◌↔◌, inl, inr, Bool, true, false, List, [], ◌∷◌, Option, Some, refl, sym, ap, ◌∙◌, subst}
use Rattle.pnp_labels.specs.Texts.{Text}
use Rattle.pnp_labels.specs.declared.event.Event.{Event}
use Rattle.pnp_labels.specs.declared.label.Label.{Label}
use Rattle.pnp_labels.specs.declared.label.OpKind.{OpKind}
use Rattle.pnp_labels.specs.declared.label.OpEnd.{OpEnd}
use Rattle.pnp_labels.specs.declared.states.Problem.{Problem}
use Rattle.pnp_labels.specs.declared.words.Minor.{Minor}
use Rattle.pnp_model.specs.Cores.{bare, is_node, node_at, stack_of, with_problem, with_state}
use Rattle.pnp_model.specs.Events as ev
use Rattle.pnp_model.specs.Frames.{ended, first_node, rest, state_label}
use Rattle.pnp_model.specs.Jobs.{Beside, JobMove, stands}
use Rattle.pnp_model.specs.Keyed.{changed_first, without_first}
use Rattle.pnp_model.specs.Laws.{AllWithin, IsWithin, Reaches}
use Rattle.pnp_model.specs.Machine as ma
use Rattle.pnp_model.specs.Records.{Core, Course, Driver, Job, Node, Settings, Stage, State, Step, Walk, course_of}
use Rattle.pnp_model.specs.Removals as rm
use Rattle.pnp_model.specs.Runs.{Entry, Goes, Run}
use Rattle.pnp_model.specs.Runs.Entry.{Happens, Did, Declines}
use Rattle.pnp_model.specs.States.{set_operation, unplug, with_core}
use Rattle.pnp_model.specs.Surprises as su
use Rattle.pnp_model.specs.Tests.{has}
use Rattle.pnp_model.specs.Walks.{state_after}
use Rattle.pnp_laws.specs.Effects.{OpEffect, Turn, begun}
use Rattle.pnp_laws.specs.Kept.{JobFits, OperationFits, RemovalAsks, Within}
use Rattle.pnp_laws.proofs.EffectsOf.{effect_goes}
use Rattle.pnp_laws.proofs.EffectsOfOperations.{begun_work}
use Rattle.pnp_laws.proofs.EventChanges.{Answered, happens_outside}
use Rattle.pnp_laws.proofs.Finishing.{relist_only}
use Rattle.pnp_laws.proofs.Lists.{head_found, head_has, member}
use Rattle.pnp_laws.proofs.Lookups.{left_other, node_changed_other, some_same}
use Rattle.pnp_laws.proofs.RebalanceRuns.{after_core}
use Rattle.pnp_laws.proofs.RunsStand.{Kept, kept_goes, reaches_kept}
use Rattle.pnp_laws.proofs.Stages.{OperationStep, RemovalAct, RemovalStep, SurpriseAct, SurpriseStep, asking, ended_by, held, operation_step, own_step}
use Rattle.pnp_laws.proofs.Turns.{running_good}
use Rattle.pnp_promises.specs.Lines.{Takes}
use Rattle.pnp_promises.proofs.Lines.{lines_mean_what_they_say}
use Rattle.pnp_pairs.specs.OwnSets.{IsInSet, NamesOneOf, OperationsStayInTheirSetLaw, TakesSet}

-- an operation goes on with the same set
record Same (o p : Job) : Type 0 where
  kind : p.kind ≡ o.kind
  path : p.path ≡ o.path
  set : p.set ≡ o.set

same_after : (o p q : Job) → Same o p → Same p q → Same o q
same_after o p q a b = record { kind = b.kind ∙ a.kind; path = b.path ∙ a.path; set = b.set ∙ a.set }

finish_same : (nodes : List Node) (o : Job) (ks : List ℕ) → Same o (rm.finish_on nodes o ks)
finish_same nodes o [] = record { kind = refl; path = refl; set = refl }
finish_same nodes o (k ∷ ks) = by_stack (stack_of (node_at k nodes))
  where
    by_stack : (stack : List ℕ) → Same o (rm.finish_with o (k ∷ ks) stack)
    by_stack [] = record { kind = refl; path = refl; set = refl }
    by_stack (d ∷ ds) = record { kind = refl; path = refl; set = refl }

ask_same : (nodes : List Node) (o : Job) (ks : List ℕ) → Same o (rm.ask_on nodes o ks)
ask_same nodes o [] = finish_same nodes o o.set
ask_same nodes o (k ∷ ks) = record { kind = refl; path = refl; set = refl }

cancel_same : (o : Job) (ks : List ℕ) → Same o (rm.cancel_on o ks)
cancel_same o [] = record { kind = refl; path = refl; set = refl }
cancel_same o (k ∷ ks) = record { kind = refl; path = refl; set = refl }

settle_same : (o : Job) (ks : List ℕ) → Same o (su.finish_on o ks)
settle_same o [] = record { kind = refl; path = refl; set = refl }
settle_same o (k ∷ ks) = record { kind = refl; path = refl; set = refl }

tell_same : (o : Job) (ks : List ℕ) → Same o (su.tell_on o ks)
tell_same o [] = settle_same o o.set
tell_same o (k ∷ ks) = record { kind = refl; path = refl; set = refl }

turn_same : (s : State) (o p : Job) → Turn s o p → Same o p
turn_same s o _ (Turn.same p) = record { kind = refl; path = refl; set = refl }
turn_same s _ _ (Turn.queries o node course is none first asked) = record { kind = refl; path = refl; set = refl }
turn_same s _ _ (Turn.removes o node d ds course is none first goes stack) = record { kind = refl; path = refl; set = refl }
turn_same s _ _ (Turn.settles o node course is none first goes stack) = record { kind = refl; path = refl; set = refl }
turn_same s _ _ (Turn.finishes f k node course is none ready at) = record { kind = refl; path = refl; set = refl }

-- what is still to do is of the set
removal_within : (o : Job) (stage : Stage) → RemovalAsks o stage → Within o.todo o.set
removal_within o Stage.Next h = h.2
removal_within o Stage.Asking h = h.2
removal_within o Stage.TakingBack h = h.2
removal_within o Stage.Cancelling h = h
removal_within o Stage.Removing h = h
removal_within o Stage.Settling h = h
removal_within o Stage.Ending h = h
removal_within o _ h = absurd h

-- it goes on
abbrev OnBeside : Beside → Type 0
OnBeside Beside.Over = ⊥
OnBeside Beside.OverStart = ⊥
OnBeside Beside.OverUndo = ⊥
OnBeside _ = Unit {0}

runs_on : (j : Job) (beside : Beside) (c : Core) (s : State) → OnBeside beside → (ma.after_job j beside (with_core c s)).operation ≡ Some j
runs_on j Beside.On c s on = refl
runs_on j (Beside.Left path born) c s on = (relist_only path born (set_operation (Some j) (with_core c s))).operation
runs_on j (Beside.Disabled path) c s on = refl
runs_on j (Beside.Ejected path born) c s on = (relist_only path born (unplug born (set_operation (Some j) (with_core c s)))).operation
runs_on j (Beside.FailedRestart k) c s on = refl
runs_on j Beside.Over c s on = absurd on
runs_on j Beside.OverStart c s on = absurd on
runs_on j Beside.OverUndo c s on = absurd on

module _ (before : Core) (kind : OpKind) (takes : TakesSet kind) (n : Node) (set : List ℕ) (is_set : (j : ℕ) → (has set j ≡ true) ↔ IsInSet before n j) where
  -- all others are as they were
  abbrev pub Others : List Node → Type 0
  Others nodes = (j : ℕ) → has set j ≡ false → node_at j nodes ≡ node_at j before.nodes

  -- the operation runs, and all others are as they were
  pub record Stays (s : State) : Type 0 where
    pub operation : Job
    pub runs : s.operation ≡ Some operation
    pub own_kind : operation.kind ≡ kind
    pub own_path : operation.path ≡ n.path
    pub own_set : operation.set ≡ set
    pub others : Others s.core.nodes

  pub record Stepped (s : State) (step : Step) : Type 0 where
    pub names : NamesOneOf before kind n s step.label
    pub others : Others step.state.core.nodes
    pub on : IsWithin step.label → Stays step.state

  module _ (s : State) (o : Job) (own_kind : o.kind ≡ kind) (own_path : o.path ≡ n.path) (own_set : o.set ≡ set) (old : Others s.core.nodes) where
    -- the operation goes on by a move
    goes_on : (m : JobMove) → NamesOneOf before kind n s m.label → Others m.core.nodes → Same o m.frame → OnBeside m.beside → Stepped s (ma.job_lifted s m)
    goes_on m names others same on =
        let core = after_core m.frame m.beside m.core s in
        let now = subst (λ (c : Core). Others c.nodes) (sym core) others in
        record {
          names = names;
          others = now;
          on = λ within. record { operation = m.frame; runs = runs_on m.frame m.beside m.core s on; own_kind = same.kind ∙ own_kind; own_path = same.path ∙ own_path; own_set = same.set ∙ own_set; others = now };
        }

    -- it ends
    closed : (m : JobMove) (result : OpEnd) → m.label ≡ Label.End o.kind o.path result → m.core ≡ s.core → Stepped s (ma.job_lifted s m)
    closed m result says core =
        record {
          names = subst (λ (x : Label). NamesOneOf before kind n s x) (sym says) (own_kind, own_path);
          others = subst (λ (c : Core). Others c.nodes) (sym (after_core m.frame m.beside m.core s ∙ core)) old;
          on = λ within. absurd (subst (λ (x : Label). IsWithin x) says within);
        }

    module _ (within : Within o.todo o.set) (node : Node) (first : first_node s.core.nodes o.todo ≡ Some node) where
      inside : has set node.serial ≡ true
      inside = subst (λ (ks : List ℕ). has ks node.serial ≡ true) own_set (within node.serial (head_has node.serial o.todo (head_found s.core.nodes o.todo node first).0))

      one_of : (m : Node) × (node_at m.serial s.core.nodes ≡ Some m) × (m.path ≡ node.path) × IsInSet before n m.serial
      one_of = (node, (head_found s.core.nodes o.todo node first).1, refl, (is_set node.serial).0 inside)

      other : (j : ℕ) → has set j ≡ false → node.serial ≢ j
      other j out e = absurd (let here = subst (λ (i : ℕ). has set i ≡ true) e inside in cc)

      changed : (f : Node → Node) → ((x : Node) → (f x).serial ≡ x.serial) → Others (changed_first (is_node node.serial) f s.core.nodes)
      changed f keeps j out = node_changed_other node.serial j f s.core.nodes keeps (other j out) ∙ old j out

      left : Others (without_first (is_node node.serial) s.core.nodes)
      left j out = left_other node.serial j s.core.nodes (other j out) ∙ old j out

    removal_act : (stage : Stage) (m : JobMove) → Within o.todo o.set → RemovalAct s.core o stage m → Stepped s (ma.job_lifted s m)
    removal_act _ _ within (RemovalAct.declines node first) =
        let refused : Job = record o { refused = node.serial ∷ o.refused } in
        goes_on (rm.declines s.core o node) (one_of within node first) old (let same = cancel_same refused o.agreed in record { kind = same.kind; path = same.path; set = same.set }) tt
    removal_act _ _ within (RemovalAct.leaves node first up) =
        goes_on (rm.leaves s.core o node (Label.Leave node.path) (Beside.Left node.path node.born)) (one_of within node first) (left within node first) (finish_same s.core.nodes o (rest o.todo)) tt
    removal_act _ _ within (RemovalAct.ejects node first) =
        goes_on (rm.leaves s.core o node (Label.Ejected node.path) (Beside.Ejected node.path node.born)) (one_of within node first) (left within node first) (finish_same s.core.nodes o (rest o.todo)) tt
    removal_act _ _ within (RemovalAct.disables node first up target) =
        goes_on (rm.remains s.core o node Problem.Disabled (Beside.Disabled node.path)) (one_of within node first) (changed within node first (with_problem (Some Problem.Disabled)) (λ x. refl)) (finish_same s.core.nodes o (rest o.todo)) tt
    removal_act _ _ within (RemovalAct.remains node problem first up fine) =
        goes_on (rm.remains s.core o node problem Beside.On) (one_of within node first) (changed within node first (with_problem (Some problem)) (λ x. refl)) (finish_same s.core.nodes o (rest o.todo)) tt
    removal_act _ _ within RemovalAct.closes = closed (rm.close s.core o) (rm.end_of s.core o.refused) refl refl

    removal_step : (stage : Stage) (m : JobMove) → Within o.todo o.set → RemovalStep s.core o stage m → Stepped s (ma.job_lifted s m)
    removal_step _ _ within (RemovalStep.agrees node w e good) =
        let agreed : Job = record o { agreed = node.serial ∷ o.agreed } in
        goes_on (ended_by s.core node Minor.QueryRemove false (rm.answers s.core o node false)) (one_of within node e.first) (changed within node e.first (with_state (state_after Minor.QueryRemove false node.state)) (λ x. refl))
        (let same = ask_same s.core.nodes agreed (rest o.todo) in record { kind = same.kind; path = same.path; set = same.set }) tt
    removal_step _ _ within (RemovalStep.refuses node w e bad) =
        goes_on (ended_by s.core node Minor.QueryRemove true (rm.answers s.core o node true)) (one_of within node e.first) (changed within node e.first (with_state (state_after Minor.QueryRemove true node.state)) (λ x. refl)) (record { kind = refl; path = refl; set = refl }) tt
    removal_step _ _ within (RemovalStep.takes_back node w e) =
        goes_on (ended_by s.core node Minor.CancelRemove false (rm.cancel_on o o.agreed)) (one_of within node e.first) (changed within node e.first (with_state (state_after Minor.CancelRemove false node.state)) (λ x. refl)) (cancel_same o o.agreed) tt
    removal_step _ _ within (RemovalStep.cancels node w e) =
        goes_on (ended_by s.core node Minor.CancelRemove false (rm.cancel_on o (rest o.todo))) (one_of within node e.first) (changed within node e.first (with_state (state_after Minor.CancelRemove false node.state)) (λ x. refl)) (cancel_same o (rest o.todo)) tt
    removal_step _ _ within (RemovalStep.removes node w e) =
        goes_on (ended_by s.core node Minor.Remove false (stands o o.todo Stage.Settling)) (one_of within node e.first) (changed within node e.first bare (λ x. refl)) (record { kind = refl; path = refl; set = refl }) tt
    removal_step _ _ within (RemovalStep.acts stage m act) = removal_act stage m within act

    surprise_act : (back : Bool) (stage : Stage) (m : JobMove) → Within o.todo o.set → SurpriseAct s.core o back s.handles stage m → Stepped s (ma.job_lifted s m)
    surprise_act back _ _ within (SurpriseAct.lags node first behind) =
        let waits : Job = record o { behind = node.serial ∷ o.behind } in
        goes_on (su.wait s.core o node) (one_of within node first) old (let same = settle_same waits (rest o.todo) in record { kind = same.kind; path = same.path; set = same.set }) tt
    surprise_act back _ _ within (SurpriseAct.leaves node first why) = goes_on (su.leaves s.core o node) (one_of within node first) (left within node first) (settle_same o (rest o.todo)) tt
    surprise_act back _ _ within (SurpriseAct.remains node first apart up) =
        goes_on (held s.core o node) (one_of within node first) (changed within node first (with_problem (Some Problem.Held)) (λ x. refl)) (settle_same o (rest o.todo)) tt
    surprise_act back _ _ within (SurpriseAct.stays node first target there) = closed (su.close s.core o) (su.end_of o.behind) refl refl
    surprise_act back _ _ within SurpriseAct.closes = closed (su.close s.core o) (su.end_of o.behind) refl refl

    surprise_step : (back : Bool) (stage : Stage) (m : JobMove) → Within o.todo o.set → SurpriseStep s.core o back s.handles stage m → Stepped s (ma.job_lifted s m)
    surprise_step back _ _ within (SurpriseStep.tells node w e) =
        goes_on (ended_by s.core node Minor.SurpriseRemoval false (su.tell_on o (rest o.todo))) (one_of within node e.first) (changed within node e.first (with_state (state_after Minor.SurpriseRemoval false node.state)) (λ x. refl)) (tell_same o (rest o.todo)) tt
    surprise_step back _ _ within (SurpriseStep.removes node w e) =
        goes_on (ended_by s.core node Minor.Remove false (stands o o.todo Stage.Settling)) (one_of within node e.first) (changed within node e.first bare (λ x. refl)) (record { kind = refl; path = refl; set = refl }) tt
    surprise_step back _ _ within (SurpriseStep.acts stage m act) = surprise_act back stage m within act

    -- the next driver is asked
    asks : (node : Node) (w : Walk) → Within o.todo o.set → first_node s.core.nodes o.todo ≡ Some node → Stepped s (asking s o node w)
    asks node w within first =
        record {
          names = one_of within node first;
          others = old;
          on = λ go. record { operation = record o { walk = Some (Rattle.pnp_model.specs.Frames.asked s.core node w).walk }; runs = refl; own_kind = own_kind; own_path = own_path; own_set = own_set; others = old };
        }

    -- the course of such an operation is one of two
    course_cases : (course_of o.kind ≡ Course.Removing) ⊎ (course_of o.kind ≡ Course.Surprising)
    course_cases = elim (by_kind kind takes) [ inl e ↦ inl (ap course_of own_kind ∙ e) | inr e ↦ inr (ap course_of own_kind ∙ e) ]
      where
        by_kind : (k : OpKind) → TakesSet k → (course_of k ≡ Course.Removing) ⊎ (course_of k ≡ Course.Surprising)
        by_kind OpKind.Disable t = inl refl
        by_kind OpKind.Eject t = inl refl
        by_kind OpKind.Surprise t = inr refl
        by_kind _ t = absurd t

    within_set : OperationFits (Some o) s.core.nodes → Within o.todo o.set
    within_set fits =
        elim course_cases [
          | inl removing ↦ removal_within o o.stage (subst (λ (c : Course). JobFits c o s.core.nodes) removing fits).asks
          | inr surprising ↦ (subst (λ (c : Course). JobFits c o s.core.nodes) surprising fits).inside
        ]

    no_other : (course : Course) → course_of o.kind ≡ course → (course ≡ Course.Removing) ⊎ (course ≡ Course.Surprising)
    no_other course e = elim course_cases [ inl r ↦ inl (sym e ∙ r) | inr r ↦ inr (sym e ∙ r) ]

    op_step : (step : Step) → Within o.todo o.set → OperationStep s o step → Stepped s step
    op_step _ within (OperationStep.asks node w a) = asks node w within a.first
    op_step _ within (OperationStep.removes stage m course is x) = removal_step stage m within x
    op_step _ within (OperationStep.surprises stage m course is x) = surprise_step (ma.is_back s o Course.Surprising) stage m within x
    op_step _ within (OperationStep.rebalances stage m course is x) = absurd (elim (no_other Course.Rebalancing course) [ inl e ↦ cc | inr e ↦ cc ])
    op_step _ within (OperationStep.finishes stage m course is x) = absurd (elim (no_other Course.Finishing course) [ inl e ↦ cc | inr e ↦ cc ])

  pub stepped : (settings : Settings) (s : State) (step : Step) → Kept s → Stays s → ma.IsStep settings (ma.next settings s) step → Stepped s step
  stepped settings s step kept stays is =
      let taken = operation_step settings s stays.operation step stays.runs is in
      let same = turn_same s stays.operation taken.now taken.turn in
      let fits = (running_good s taken.now (record { before = stays.operation; runs = stays.runs; turn = taken.turn }) kept.good).fits in
      let own_kind = same.kind ∙ stays.own_kind in
      let own_path = same.path ∙ stays.own_path in
      let own_set = same.set ∙ stays.own_set in
      op_step s taken.now own_kind own_path own_set stays.others step (within_set s taken.now own_kind own_path own_set stays.others fits) (own_step s taken.now step fits taken.is)

  -- what its step is of, and that its next device is of the set
  pub record Taken (s : State) (step : Step) : Type 0 where
    pub now : Job
    pub course : (course_of now.kind ≡ Course.Removing) ⊎ (course_of now.kind ≡ Course.Surprising)
    pub is : OperationStep s now step
    pub within : Within now.todo set

  pub taken : (settings : Settings) (s : State) (step : Step) → Kept s → Stays s → ma.IsStep settings (ma.next settings s) step → Taken s step
  taken settings s step kept stays is =
      let takes_next = operation_step settings s stays.operation step stays.runs is in
      let same = turn_same s stays.operation takes_next.now takes_next.turn in
      let fits = (running_good s takes_next.now (record { before = stays.operation; runs = stays.runs; turn = takes_next.turn }) kept.good).fits in
      let own_kind = same.kind ∙ stays.own_kind in
      let own_path = same.path ∙ stays.own_path in
      let own_set = same.set ∙ stays.own_set in
      record {
        now = takes_next.now;
        course = course_cases s takes_next.now own_kind own_path own_set stays.others;
        is = own_step s takes_next.now step fits takes_next.is;
        within = subst (λ (ks : List ℕ). Within takes_next.now.todo ks) own_set (within_set s takes_next.now own_kind own_path own_set stays.others fits);
      }

  -- an event answers the operation's request at most
  answered : (s t : State) → Stays s → t.core.nodes ≡ s.core.nodes → Answered s.operation t.operation → Stays t
  answered s t stays nodes (inl e) =
      record { operation = stays.operation; runs = e ∙ stays.runs; own_kind = stays.own_kind; own_path = stays.own_path; own_set = stays.own_set; others = subst (λ (x : List Node). Others x) (sym nodes) stays.others }
  answered s t stays nodes (inr (ok, p, e, q)) =
      let same : p ≡ stays.operation = some_same s.operation p stays.operation e stays.runs in
      record {
        operation = ev.completed (ev.answer_of ok) p;
        runs = q;
        own_kind = ap (λ (x : Job). x.kind) same ∙ stays.own_kind;
        own_path = ap (λ (x : Job). x.path) same ∙ stays.own_path;
        own_set = ap (λ (x : Job). x.set) same ∙ stays.own_set;
        others = subst (λ (x : List Node). Others x) (sym nodes) stays.others;
      }

  pub happens_stays : (s : State) (event : Event) → Stays s → Stays (ev.happens s event).state
  happens_stays s event stays = let out = happens_outside s event in answered s (ev.happens s event).state stays out.nodes out.operation

  stays_goes : (settings : Settings) (s : State) (entry : Entry) (t : State) → Kept s → Stays s → IsWithin (Rattle.pnp_model.specs.Runs.printed entry) → Goes settings s entry t → Stays t
  stays_goes settings s (Happens event label) t kept stays within goes = subst (λ (x : Step). Stays x.state) goes.1 (happens_stays s event stays)
  stays_goes settings s (Did label) t kept stays within goes = (stepped settings s (record { label = label; state = t }) kept stays goes).on within
  stays_goes settings s (Declines label) t kept stays within goes = absurd (let due = ap (λ (o : Option Job). ma.due_with s o) (sym stays.runs) ∙ goes.is_due in cc)

  stays_run : (settings : Settings) (s : State) (entries : List Entry) (t : State) → Kept s → Stays s → AllWithin entries → Run settings s entries t → Kept t × Stays t
  stays_run settings s [] t kept stays within run = subst (λ (x : State). Kept x × Stays x) (sym run) (kept, stays)
  stays_run settings s (entry ∷ more) t kept stays within (mid, goes, run) =
      stays_run settings mid more t (kept_goes settings s entry mid kept goes) (stays_goes settings s entry mid kept stays within.0 goes) within.1 run

-- The begin ----------------------------------------------------------------------------------------------

-- the operation that begins is named by its device
begun_path : (s : State) (kind : OpKind) (path : Text) (t : State) → OpEffect s (Label.Begin kind path) t → (o : Job) × (t.operation ≡ Some o) × (o.path ≡ path)
begun_path s kind path t (OpEffect.idles none now (inl beside)) = absurd beside
begun_path s kind path t (OpEffect.idles none now (inr owes)) = absurd (let e = owes.prints in cc)
begun_path s kind path t (OpEffect.begins own node none alone at for is) =
    let label = ap (λ (x : Step). x.label) is in
    let same : path ≡ node.path = cc in
    (begun s own node, ap (λ (x : Step). x.state.operation) is, (begun_work s own node).1 ∙ sym same)
begun_path s kind path t (OpEffect.goes o p runs now work (inl beside)) = absurd beside
begun_path s kind path t (OpEffect.goes o p runs now work (inr conflicts)) = absurd (let e = conflicts.2 in cc)
begun_path s kind path t (OpEffect.ends o result runs now says by closes) = absurd (cc)

-- the set is the device with all that depends on it
takes_set : (s : State) (kind : OpKind) (n : Node) (o : Job) → TakesSet kind → Takes s kind n o → (j : ℕ) → (has o.set j ≡ true) ↔ IsInSet s.core n j
takes_set s OpKind.Disable n o t takes = takes
takes_set s OpKind.Eject n o t takes = takes
takes_set s OpKind.Surprise n o t takes = takes
takes_set s _ n o t takes = absurd t

-- an operation that has begun, with its set
pub record HasBegun (before : Core) (kind : OpKind) (takes : TakesSet kind) (n : Node) (s : State) : Type 0 where
  pub set : List ℕ
  pub is_set : (j : ℕ) → (has set j ≡ true) ↔ IsInSet before n j
  pub stays : Stays before kind takes n set is_set s

pub has_begun : (settings : Settings) (rack : List Driver) (earlier : List Entry) (before : State) (kind : OpKind) (takes : TakesSet kind) (n : Node) (begun_state : State) → Reaches settings rack earlier before
    → node_at n.serial before.core.nodes ≡ Some n → Goes settings before (Did (Label.Begin kind n.path)) begun_state → HasBegun before.core kind takes n begun_state
has_begun settings rack earlier before kind takes n begun_state run at begins =
    let kept = reaches_kept settings rack earlier before run in
    let (own, there, named, b) = lines_mean_what_they_say settings rack earlier before (Label.Begin kind n.path) begun_state run begins in
    let own_is : own ≡ n = some_same (node_at n.serial before.core.nodes) own n (subst (λ (k : ℕ). node_at k before.core.nodes ≡ Some own) (kept.stands.tree.paths own.serial n.serial own n there at named) there) at in
    let is_set = subst (λ (x : Node). (j : ℕ) → (has b.operation.set j ≡ true) ↔ IsInSet before.core x j) own_is (takes_set before kind own b.operation takes b.takes) in
    let (o, runs, path) = begun_path before kind n.path begun_state (effect_goes settings before (Did (Label.Begin kind n.path)) begun_state begins).operation in
    let same : o ≡ b.operation = some_same begun_state.operation o b.operation runs b.runs in
    record {
      set = b.operation.set;
      is_set = is_set;
      stays =
          record {
            operation = b.operation;
            runs = b.runs;
            own_kind = b.own_kind;
            own_path = ap (λ (x : Job). x.path) (sym same) ∙ path;
            own_set = refl;
            others = λ j out. ap (λ (x : State). node_at j x.core.nodes) b.rest;
          };
    }

pub operations_stay_in_their_set : OperationsStayInTheirSetLaw
operations_stay_in_their_set settings rack earlier entries before begun_state s t kind n label run takes at begins more within goes =
    let kept = reaches_kept settings rack earlier before run in
    let h = has_begun settings rack earlier before kind takes n begun_state run at begins in
    let (kept_now, stays) = stays_run before.core kind takes n h.set h.is_set settings begun_state entries s (kept_goes settings before (Did (Label.Begin kind n.path)) begun_state kept begins) h.stays within more in
    let step = stepped before.core kind takes n h.set h.is_set settings s (record { label = label; state = t }) kept_now stays goes in
    (step.names, λ j out. step.others j (outsider h.set j (λ q. out ((h.is_set j).0 q))))
  where
    outsider : (set : List ℕ) (j : ℕ) → (has set j ≡ true → ⊥) → has set j ≡ false
    outsider set j out = elim (member set j) [ inl h ↦ absurd (out h) | inr h ↦ h ]
