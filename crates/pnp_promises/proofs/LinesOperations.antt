-- What the lines of operations mean.
use Rattle.std.proofs.Common.{ℕ, ◌≡◌, ◌≢◌, ◌⊎◌, ◌==◌, ◌&&◌, inl, inr, Bool, true, false, List, [], ◌∷◌, length, Option, Some, None, refl, sym, ap, subst, ◌∙◌, arith, map, reverse, drop}
use Rattle.std.specs.Prelude.{◌↔◌}
use Rattle.std.proofs.lemmas.Bool.Decides.{nat_tests}
use Rattle.std.specs.Prelude.{if◌then◌else◌}
use Rattle.std.specs.Option.{option_map}
use Rattle.resource_reqs.specs.Resources.{Reqs, Res}
use Rattle.resource_reqs.specs.Spelling.Answer.{assignment, no_fit, spent}
use Rattle.pnp_labels.specs.Texts.{Text}
use Rattle.pnp_labels.specs.declared.label.Label.{Label}
use Rattle.pnp_labels.specs.declared.label.OpEnd.{OpEnd}
use Rattle.pnp_labels.specs.declared.label.OpKind.{OpKind}
use Rattle.pnp_labels.specs.declared.states.DevState.TheVariants.{SurpriseRemoved}
use Rattle.pnp_labels.specs.declared.states.Problem.{Problem}
use Rattle.pnp_labels.specs.declared.words.Minor.{Minor}
use Rattle.pnp_model.specs.Cores.{drop_node, node_at, path_of, serials_of, stack_of}
use Rattle.pnp_model.specs.Frames.{asked, first_node, rest}
use Rattle.pnp_model.specs.Handles.{is_open, is_ready_device, ready_device, was_told}
use Rattle.pnp_model.specs.Jobs as jobs
use Rattle.pnp_model.specs.Jobs.{Beside, JobMove, begins, each_gets, job_of, stands}
use Rattle.pnp_model.specs.Keyed.{those}
use Rattle.pnp_model.specs.Machine.{IsStep}
use Rattle.pnp_model.specs.Records.{Core, Course, Device, Found, Job, Node, Relation, Settings, Stage, State, Step, Walk, course_of, doing_map}
use Rattle.pnp_model.specs.Records.Doing.{Does}
use Rattle.pnp_model.specs.States.{device_born, device_of, list_node, node_born, relist, relist_device, relist_other, set_operation, unplug, with_core}
use Rattle.pnp_model.specs.Tests.{has, is_eject, is_surprise_removed}
use Rattle.pnp_model.specs.Trees.{dependents, direct, hangs_on, leaving, set_of, stands_up}
use Rattle.pnp_model.specs.Walks.{has_ended, walk_of}
use Rattle.pnp_laws.specs.Effects.{Running, Turn, begun, required}
use Rattle.pnp_laws.specs.Kept.{Ascending, Within}
use Rattle.pnp_laws.proofs.Closures.{Closed, closed_keeps, closed_within, hangs_more, set_within, those_serial}
use Rattle.pnp_laws.proofs.Finishes.{leaving_all, leaving_has, set_is_closed}
use Rattle.pnp_laws.proofs.Lists.{has_cases, head_found, those_found, without_has}
use Rattle.pnp_laws.proofs.Lookups.{left_same, map_from as node_from_map, own_serial, some_same}
use Rattle.pnp_laws.proofs.OpSteps.{is_SurpriseRemoved}
use Rattle.pnp_laws.proofs.Orders.{Ranked, picked}
use Rattle.pnp_laws.proofs.Sharing.{part_not}
use Rattle.pnp_laws.proofs.Stages.{ActStep, FinishAct, JobStep, RebalanceAct, SurpriseAct, operation_step}
use Rattle.pnp_laws.proofs.Truths.{and_both, by_test, or_cases}
use Rattle.pnp_model.specs.Finishes as fi
use Rattle.pnp_model.specs.Machine as ma
use Rattle.pnp_model.specs.Rebalances as re
use Rattle.pnp_model.specs.Removals as rm
use Rattle.pnp_model.specs.Surprises as su
use Rattle.pnp_model.specs.Tasks as tk
use Rattle.pnp_promises.specs.Lines.{Because, EndsSo, IsTrouble, Means, Takes}
use Rattle.pnp_promises.proofs.Keeps.{reqs_stay}
use Rattle.pnp_promises.proofs.LinesIdle.{Meant}

-- The set of an operation ------------------------------------------------------------------------------

-- the leaving order has the device and all that depends on it, and nobody else
module _ (rank : ℕ → ℕ) (c : Core) (k : ℕ) (n : Node) (order : Ascending 0 c.nodes) (ranked : Ranked rank c) (at : node_at k c.nodes ≡ Some n) where
  own_in : has (set_of c k) k ≡ true
  own_in = closed_keeps c (k ∷ []) k n order at (grind (arith, nat_tests))

  closed : Closed c (set_of c k)
  closed = set_is_closed c k n order at

  direct_in : Within (direct c k) (set_of c k)
  direct_in j h =
      let f = those_found 0 (hangs_on c (k ∷ [])) c.nodes j order h in
      closed j f.0 f.1 (hangs_more c k (set_of c k) f.0 own_in f.2)

  inside : (j : ℕ) → (j ≡ k) ⊎ (has (dependents c k) j ≡ true) → has (set_of c k) j ≡ true
  inside j (inl e) = subst (λ (i : ℕ). has (set_of c k) i ≡ true) (sym e) own_in
  inside j (inr h) = closed_within c (direct c k) (set_of c k) order closed direct_in j h

  from_set : (j : ℕ) → has (set_of c k) j ≡ true → (j ≡ k) ⊎ (has (dependents c k) j ≡ true)
  from_set j h = elim (has_cases k j (dependents c k) (set_within c k order j h)) [ inl e ↦ inl (sym e) | inr q ↦ inr q ]

  leaving_is : (set : List ℕ) → set ≡ leaving c k → (j : ℕ) → (has set j ≡ true) ↔ ((j ≡ k) ⊎ (has (dependents c k) j ≡ true))
  leaving_is set e j = (
    (λ h. from_set j (leaving_has rank c k j order ranked (subst (λ (x : List ℕ). has x j ≡ true) e h))),
    λ h. subst (λ (x : List ℕ). has x j ≡ true) (sym e) (leaving_all rank c k j order ranked (inside j h)),
  )

-- what an operation is for stays while it goes on
record SameAim (o p : Job) : Type 0 where
  kind : p.kind ≡ o.kind
  target : p.target ≡ o.target
  set : p.set ≡ o.set

same_aim : (o : Job) → SameAim o o
same_aim o = record { kind = refl; target = refl; set = refl }

finish_aim : (nodes : List Node) (o : Job) (ks : List ℕ) → SameAim o (rm.finish_on nodes o ks)
finish_aim nodes o [] = record { kind = refl; target = refl; set = refl }
finish_aim nodes o (k ∷ ks) = by_stack (stack_of (node_at k nodes))
  where
    by_stack : (stack : List ℕ) → SameAim o (rm.finish_with o (k ∷ ks) stack)
    by_stack [] = record { kind = refl; target = refl; set = refl }
    by_stack (d ∷ ds) = record { kind = refl; target = refl; set = refl }

ask_aim : (nodes : List Node) (o : Job) (ks : List ℕ) → SameAim o (rm.ask_on nodes o ks)
ask_aim nodes o [] = finish_aim nodes o o.set
ask_aim nodes o (k ∷ ks) = record { kind = refl; target = refl; set = refl }

tell_aim : (o : Job) (ks : List ℕ) → SameAim o (su.tell_on o ks)
tell_aim o [] = by_set o.set
  where
    by_set : (ks : List ℕ) → SameAim o (su.finish_on o ks)
    by_set [] = record { kind = refl; target = refl; set = refl }
    by_set (k ∷ ks) = record { kind = refl; target = refl; set = refl }
tell_aim o (k ∷ ks) = record { kind = refl; target = refl; set = refl }

each_aim : (minor : Minor) (stage : Stage) (o over : Job) (ks : List ℕ) → SameAim o over → SameAim o (each_gets minor stage o ks over)
each_aim minor stage o over [] same = same
each_aim minor stage o over (k ∷ ks) same = record { kind = refl; target = refl; set = refl }

stop_aim : (r : Job) (ks : List ℕ) → SameAim r (re.ask_on r ks)
stop_aim r ks = each_aim Minor.QueryStop Stage.Asking r _ ks (by_refusal (re.has_refused r))
  where
    by_refusal : (b : Bool) → SameAim r (if b then re.cancel_on r r.agreed else stands r [] Stage.Searching)
    by_refusal true = each_aim Minor.CancelStop Stage.Cancelling r _ r.agreed (record { kind = refl; target = refl; set = refl })
    by_refusal false = record { kind = refl; target = refl; set = refl }

-- an operation before it has taken its first device
abbrev removal_first : Core → OpKind → Node → Job
removal_first c kind n =
    record (job_of kind n) { set = leaving c n.serial; ejecting = map (λ (r : Relation). r.member) (those (rm.is_ejecting (leaving c n.serial)) c.relations) }

abbrev surprise_first : Core → Node → Job
surprise_first c n = record (job_of OpKind.Surprise n) { set = leaving c n.serial; told = those (λ k. was_told (node_at k c.nodes)) (leaving c n.serial) }

abbrev moving_first : OpKind → Node → Option Reqs → Job
moving_first kind n wanted = record (job_of kind n) { wanted = wanted }

-- Begins -----------------------------------------------------------------------------------------------

module _ (settings : Settings) (s : State) (none : s.operation ≡ None) (alone : s.activities ≡ []) (rank : ℕ → ℕ) (order : Ascending 0 s.core.nodes) (ranked : Ranked rank s.core) (n : Node) (at : node_at n.serial s.core.nodes ≡ Some n) where
  begun_so : (kind : OpKind) (o first : Job) → SameAim first o → first.kind ≡ kind → first.target ≡ n.serial → Takes s kind n o → Means settings s (Label.Begin kind n.path) (record s { operation = Some o; tasks = drop 1 s.tasks })
  begun_so kind o first same own target takes = (
    n,
    at,
    refl,
    record { none = none; alone = alone; operation = o; runs = refl; own_kind = same.kind ∙ own; target = same.target ∙ target; takes = takes; rest = refl },
  )

  takes_all : (o : Job) (set : List ℕ) → o.set ≡ set → set ≡ leaving s.core n.serial → (j : ℕ) → (has o.set j ≡ true) ↔ ((j ≡ n.serial) ⊎ (has (dependents s.core n.serial) j ≡ true))
  takes_all o set e f = leaving_is rank s.core n.serial n order ranked at o.set (e ∙ f)

  removal_aim : (kind : OpKind) → SameAim (removal_first s.core kind n) (rm.begun_removal s.core kind n)
  removal_aim kind = ask_aim s.core.nodes (removal_first s.core kind n) (those (λ k. rm.is_queried_node (node_at k s.core.nodes)) (leaving s.core n.serial))

  surprise_aim : SameAim (surprise_first s.core n) (su.begun_surprise s.core n)
  surprise_aim = tell_aim (surprise_first s.core n) (those (λ k. su.is_told_node (node_at k s.core.nodes)) (leaving s.core n.serial))

  moving_aim : (kind : OpKind) (wanted : Option Reqs) → SameAim (moving_first kind n wanted) (re.begun_with s.core kind n wanted)
  moving_aim kind wanted = stop_aim (moving_first kind n wanted) (reverse (serials_of (those re.is_asked s.core.nodes)))

  removal_takes : (kind : OpKind) (j : ℕ) → (has (rm.begun_removal s.core kind n).set j ≡ true) ↔ ((j ≡ n.serial) ⊎ (has (dependents s.core n.serial) j ≡ true))
  removal_takes kind = takes_all (rm.begun_removal s.core kind n) (leaving s.core n.serial) (removal_aim kind).set refl

  pub begun_means : (kind : OpKind) → Meant settings s (tk.begin s kind n (begun s kind n))
  begun_means OpKind.Rebalance = begun_so OpKind.Rebalance (re.begun_rebalance s.core n) (moving_first OpKind.Rebalance n None) (moving_aim OpKind.Rebalance None) refl refl tt
  begun_means OpKind.Change =
      let wanted = required s n (device_born n.born s.world) in
      begun_so OpKind.Change (re.begun_change s.core n wanted) (moving_first OpKind.Change n (Some wanted)) (moving_aim OpKind.Change (Some wanted)) refl refl tt
  begun_means OpKind.Finish = begun_so OpKind.Finish (fi.begun_finish n) (job_of OpKind.Finish n) (record { kind = refl; target = refl; set = refl }) refl refl tt
  begun_means OpKind.Disable = begun_so OpKind.Disable (rm.begun_removal s.core OpKind.Disable n) (removal_first s.core OpKind.Disable n) (removal_aim OpKind.Disable) refl refl (removal_takes OpKind.Disable)
  begun_means OpKind.Eject = begun_so OpKind.Eject (rm.begun_removal s.core OpKind.Eject n) (removal_first s.core OpKind.Eject n) (removal_aim OpKind.Eject) refl refl (removal_takes OpKind.Eject)
  begun_means OpKind.Surprise =
      begun_so OpKind.Surprise (su.begun_surprise s.core n) (surprise_first s.core n) surprise_aim refl refl (takes_all (su.begun_surprise s.core n) (leaving s.core n.serial) surprise_aim.set refl)

-- Steps ------------------------------------------------------------------------------------------------

-- beside this the operation is over
abbrev Closing : Beside → Type 0
Closing Beside.Over = Unit {0}
Closing Beside.OverStart = Unit {0}
Closing Beside.OverUndo = Unit {0}
Closing _ = ⊥

-- where a parent's node is listed again nothing of the tree changes
relisted : (path : Text) (born : ℕ) (s : State) → (relist path born s).core ≡ s.core
relisted path born s = by_device (device_of path s.world)
  where
    by_node : (o : Option Node) → (list_node o s).core ≡ s.core
    by_node None = refl
    by_node (Some n) = refl

    by_other : (d : Device) (b : Bool) → (relist_other d b s).core ≡ s.core
    by_other d true = refl
    by_other d false = by_node (node_born d.parent s.core.nodes)

    by_device : (o : Option Device) → (relist_device born o s).core ≡ s.core
    by_device None = refl
    by_device (Some d) = by_other d (d.born == born)

module _ (settings : Settings) (s : State) (order : Ascending 0 s.core.nodes) where
  abbrev P : Step → Type 0
  P step = Meant settings s step

  -- the end of an operation
  ended : (o : Job) (running : Running s o) (course : Course) (result : OpEnd) (t : State) → course_of o.kind ≡ course → t.operation ≡ None → EndsSo s o course result → Means settings s (Label.End o.kind o.path result) t
  ended o running course result t is over so =
      record { operation = o; ran = running; own_kind = refl; own_path = refl; over = over; so = subst (λ (x : Course). EndsSo s o x result) (sym is) so }

  -- a device that leaves is there no more
  left : (n : Node) (path : Text) (born : ℕ) (t : State) → t.core ≡ drop_node n.serial s.core → node_at n.serial (relist path born t).core.nodes ≡ None
  left n path born t e = ap (λ (c : Core). node_at n.serial c.nodes) (relisted path born t ∙ e) ∙ left_same 0 n.serial s.core.nodes order

  -- A removal in order

  module _ (o : Job) (runs : s.operation ≡ Some o) (course : course_of o.kind ≡ Course.Removing) where
    running : Running s o
    running = record { before = o; runs = runs; turn = Turn.same o }

    eject_is : is_eject o.kind ≡ true → o.kind ≡ OpKind.Eject
    eject_is h = by_kind o.kind h
      where
        by_kind : (kind : OpKind) → is_eject kind ≡ true → kind ≡ OpKind.Eject
        by_kind OpKind.Eject h = refl
        by_kind _ h = absurd (cc)

    disable_is : is_eject o.kind ≡ false → o.kind ≡ OpKind.Disable
    disable_is h = by_kind o.kind h course
      where
        by_kind : (kind : OpKind) → is_eject kind ≡ false → course_of kind ≡ Course.Removing → kind ≡ OpKind.Disable
        by_kind OpKind.Disable h c = refl
        by_kind _ h c = absurd (cc)

    removal_ends : (refused : List ℕ) → o.refused ≡ refused → P (ma.job_lifted s (jobs.closes s.core o (rm.end_of s.core refused) Beside.Over))
    removal_ends [] e = ended o running Course.Removing OpEnd.Done _ course refl (inl (e, refl))
    removal_ends (q ∷ qs) e = ended o running Course.Removing _ _ course refl (inr (q, qs, path_of (node_at q s.core.nodes), e, refl))

    module _ (n : Node) (at : node_at n.serial s.core.nodes ≡ Some n) where
      unasked : rm.refuses_unasked s.handles n ≡ true → (is_open s.handles n.serial ≡ true) ⊎ (n.state ≡ SurpriseRemoved)
      unasked h = elim (or_cases (is_open s.handles n.serial) (is_surprise_removed n.state) h) [ inl a ↦ inl a | inr b ↦ inr (is_SurpriseRemoved n.state b) ]

      declined : rm.refuses_unasked s.handles n ≡ true → P (ma.job_lifted s (rm.declines s.core o n))
      declined h = (n, at, refl, unasked h)

      is_target_of : (n.serial == o.target) ≡ true → n.serial ≡ o.target
      is_target_of h = grind (arith, nat_tests)

      not_target : (n.serial == o.target) ≡ false → n.serial ≢ o.target
      not_target h e = grind (arith, nat_tests)

      settled : P (ma.job_lifted s (rm.settle s.core o n))
      settled =
          let leaving : JobMove = rm.leaves s.core o n (Label.Leave n.path) (Beside.Left n.path n.born) in
          let ejected : JobMove = rm.leaves s.core o n (Label.Ejected n.path) (Beside.Ejected n.path n.born) in
          let disabled : JobMove = rm.remains s.core o n Problem.Disabled (Beside.Disabled n.path) in
          let for_eject : JobMove = rm.remains s.core o n Problem.HeldForEject Beside.On in
          let held_on : JobMove = rm.remains s.core o n Problem.Held Beside.On in
          let related : JobMove = if is_eject o.kind && has o.ejecting n.serial then for_eject else held_on in
          let target : JobMove = if is_eject o.kind then ejected else disabled in
          by_test (λ b. P (ma.job_lifted s (if b then leaving else if n.serial == o.target then target else related))) (has o.set n.parent)
          (λ inside. (n, at, refl, left n n.path n.born (set_operation (Some (rm.finish_on s.core.nodes o (rest o.todo))) (with_core (drop_node n.serial s.core) s)) refl))
          (λ over. by_test (λ b. P (ma.job_lifted s (if b then target else related))) (n.serial == o.target)
          (λ is_target. by_test (λ b. P (ma.job_lifted s (if b then ejected else disabled))) (is_eject o.kind)
          (λ eject. (n, at, refl, (left n n.path n.born (unplug n.born (set_operation (Some (rm.finish_on s.core.nodes o (rest o.todo))) (with_core (drop_node n.serial s.core) s))) refl, o, running, eject_is eject, sym (is_target_of is_target))))
          (λ disable. IsTrouble.of n at refl refl (Because.disabled o running (disable_is disable) (sym (is_target_of is_target)) refl)))
          (λ other. by_test (λ b. P (ma.job_lifted s (if b then for_eject else held_on))) (is_eject o.kind && has o.ejecting n.serial)
          (λ ejecting. let two = and_both (is_eject o.kind) (has o.ejecting n.serial) ejecting in IsTrouble.of n at refl refl (Because.for_eject o running (eject_is two.0) (not_target other) two.1))
          (λ plain. IsTrouble.of n at refl refl (Because.held o running (not_target other) (λ eject. not_ejecting (is_eject o.kind) (has o.ejecting n.serial) plain (ap is_eject eject))))))
        where
          not_ejecting : (a b : Bool) → (a && b) ≡ false → a ≡ true → b ≡ false
          not_ejecting true b h e = h
          not_ejecting false b h e = absurd (cc)

    query_means : (n : Node) (b : Bool) (step : Step) → node_at n.serial s.core.nodes ≡ Some n → rm.refuses_unasked s.handles n ≡ b → IsStep settings (option_map (doing_map (ma.job_lifted s)) (option_map (λ m. Does m) (rm.query s.core o n b))) step → P step
    query_means n true step at e is = subst P (sym is) (declined n at e)
    query_means n false step at e is = by_walk (has_ended (walk_of Minor.QueryRemove) (length n.stack)) is
      where
        by_walk : (over : Bool)
            → IsStep settings (option_map (doing_map (ma.job_lifted s)) (option_map (λ m. Does m) (if over then option_map (jobs.ends s.core n (walk_of Minor.QueryRemove)) (Some (rm.answers s.core (rm.queried o) n false)) else Some (jobs.asks (rm.queried o) (asked s.core n (walk_of Minor.QueryRemove)))))) step
            → P step
        by_walk true is = subst P (sym is) tt
        by_walk false is = subst P (sym is) tt

    removal_by : (stage : Stage) (n : Option Node) (step : Step) → first_node s.core.nodes o.todo ≡ n → IsStep settings (option_map (doing_map (ma.job_lifted s)) (option_map (λ m. Does m) (rm.acts s.core o s.handles stage n))) step → P step
    removal_by Stage.Ending n step first is = subst P (sym is) (removal_ends o.refused refl)
    removal_by Stage.Next (Some n) step first is = query_means n (rm.refuses_unasked s.handles n) step (head_found s.core.nodes o.todo n first).1 refl is
    removal_by Stage.Settling (Some n) step first is = subst P (sym is) (settled n (head_found s.core.nodes o.todo n first).1)
    removal_by Stage.Next None step first is = absurd is
    removal_by Stage.Settling None step first is = absurd is
    removal_by _ n step first is = absurd is

    removal_means : o.walk ≡ None → (step : Step) → IsStep settings (ma.next settings s) step → P step
    removal_means idle step is =
        let one : IsStep settings (ma.operation_next s o (ma.is_waiting o.walk)) step = subst (λ (x : Option Job). IsStep settings (ma.next_of settings s x) step) runs is in
        let two : IsStep settings (ma.operation_next s o false) step = subst (λ (x : Option Walk). IsStep settings (ma.operation_next s o (ma.is_waiting x)) step) idle one in
        let three : IsStep settings (option_map (doing_map (ma.job_lifted s)) (ma.acts s.core o (ma.is_back s o (course_of o.kind)) s.handles (first_node s.core.nodes o.todo) (course_of o.kind))) step =
        subst (λ (x : Option Walk). IsStep settings (option_map (doing_map (ma.job_lifted s)) (ma.job_step s.core o (course_of o.kind) (ma.is_back s o (course_of o.kind)) s.handles x (first_node s.core.nodes o.todo))) step) idle two in
        let four : IsStep settings (option_map (doing_map (ma.job_lifted s)) (ma.acts s.core o (ma.is_back s o Course.Removing) s.handles (first_node s.core.nodes o.todo) Course.Removing)) step =
        subst (λ (x : Course). IsStep settings (option_map (doing_map (ma.job_lifted s)) (ma.acts s.core o (ma.is_back s o x) s.handles (first_node s.core.nodes o.todo) x)) step) course three in
        removal_by o.stage (first_node s.core.nodes o.todo) step refl four

  -- All others

  module _ (o : Job) (running : Running s o) where
    found_means : (found : Found) → course_of o.kind ≡ Course.Rebalancing → s.operation ≢ None → P (ma.job_lifted s (re.searched s.core o found))
    found_means (assignment plan) course busy = tt
    found_means spent course busy = tt
    found_means no_fit course busy = λ idle. absurd (busy idle)

    commit_wants : (reqs : Reqs) → o.wanted ≡ Some reqs → (m : Node) → node_at o.target (re.commit s.core o).nodes ≡ Some m → m.reqs ≡ reqs
    commit_wants reqs wants m at =
        let from = node_from_map o.target (re.committed o.wanted o.target (re.movers o) (re.plan_of o.found)) s.core.nodes m (λ x. refl) at in
        let own = own_serial o.target from.0 s.core.nodes from.1 in
        ap (λ (x : Node). x.reqs) from.2 ∙ ap (λ (x : Option Reqs). re.reqs_after x o.target from.0) wants ∙ own_needs reqs from.0 own
      where
        own_needs : (reqs : Reqs) (n : Node) → n.serial ≡ o.target → re.reqs_after (Some reqs) o.target n ≡ reqs
        own_needs reqs n e = grind (arith, nat_tests)

    commit_others : (k : ℕ) (n m : Node) → node_at k s.core.nodes ≡ Some n → node_at k (re.commit s.core o).nodes ≡ Some m → o.target ≢ k → has o.agreed k ≡ false → m ≡ n
    commit_others k n m was now other stays =
        let from = node_from_map k (re.committed o.wanted o.target (re.movers o) (re.plan_of o.found)) s.core.nodes m (λ x. refl) now in
        let same = some_same (node_at k s.core.nodes) from.0 n from.1 was in
        let own = own_serial k from.0 s.core.nodes from.1 in
        let out : has (re.movers o) from.0.serial ≡ false = subst (λ (i : ℕ). has (re.movers o) i ≡ false) (sym own) (let z = without_has o.target k o.agreed other in grind (arith, nat_tests)) in
        let held = part_not from.0.serial (re.movers o) (re.plan_of o.found) from.0.holds out in
        let needs = reqs_stay o.wanted o.target from.0 (λ e. other (sym e ∙ own)) in
        from.2 ∙ ap (λ (h : List Res). record from.0 { reqs = re.reqs_after o.wanted o.target from.0; holds = h }) held ∙ ap (λ (r : Reqs). record from.0 { reqs = r }) needs ∙ same

    trouble_is : (found : Found) → (re.trouble_of found ≡ Problem.NormalConflict) ⊎ (re.trouble_of found ≡ Problem.Budget)
    trouble_is (assignment plan) = inl refl
    trouble_is no_fit = inl refl
    trouble_is spent = inr refl

    closes_over : (label : Label) (beside : Beside) → Closing beside → (ma.after_job o beside (with_core s.core s)).operation ≡ None
    closes_over label Beside.Over h = refl
    closes_over label Beside.OverStart h = refl
    closes_over label Beside.OverUndo h = refl
    closes_over label _ h = absurd h

    over_closes : (found : Found) (wanted : Option Reqs) → Closing (re.over s.core o found wanted)
    over_closes (assignment plan) None = by_b (stands_up s.core.nodes o.target)
      where
        by_b : (b : Bool) → Closing (if b then Beside.OverStart else Beside.Over)
        by_b true = tt
        by_b false = tt
    over_closes no_fit None = tt
    over_closes spent None = tt
    over_closes (assignment plan) (Some wanted) = tt
    over_closes no_fit (Some wanted) = tt
    over_closes spent (Some wanted) = tt

    rebalance_means : (stage : Stage) (m : JobMove) → course_of o.kind ≡ Course.Rebalancing → o.stage ≡ stage → s.operation ≢ None → RebalanceAct s.core o stage m → P (ma.job_lifted s m)
    rebalance_means _ _ course is busy (RebalanceAct.searches found budget answer) = found_means found course busy
    rebalance_means _ _ course is busy RebalanceAct.sticks = IsTrouble.of_target o running course is refl (trouble_is o.found) refl
    rebalance_means _ _ course is busy RebalanceAct.commits = record { operation = o; ran = running; course = course; wanted = commit_wants; others = commit_others }
    rebalance_means _ _ course is busy (RebalanceAct.failed n first) = IsTrouble.of n (head_found s.core.nodes o.todo n first).1 refl refl (Because.restart o running course refl)
    rebalance_means _ _ course is busy RebalanceAct.closes =
        ended o running Course.Rebalancing (re.result o.found (re.has_refused o)) _ course (closes_over (Label.Gone []) (re.over s.core o o.found o.wanted) (over_closes o.found o.wanted)) tt

    surprise_ends : (behind : List ℕ) → course_of o.kind ≡ Course.Surprising → o.behind ≡ behind → P (ma.job_lifted s (jobs.closes s.core o (su.end_of behind) Beside.Over))
    surprise_ends [] course e = ended o running Course.Surprising OpEnd.Done _ course refl (inl (e, refl))
    surprise_ends (k ∷ ks) course e = ended o running Course.Surprising OpEnd.Waiting _ course refl (inr ((λ q. cc), refl))

    no_eject : course_of o.kind ≡ Course.Surprising → o.kind ≡ OpKind.Eject → ⊥
    no_eject course e = let z : course_of o.kind ≡ Course.Removing = ap course_of e in cc

    surprise_means : (back : Bool) (stage : Stage) (m : JobMove) → course_of o.kind ≡ Course.Surprising → SurpriseAct s.core o back s.handles stage m → P (ma.job_lifted s m)
    surprise_means back _ _ course (SurpriseAct.lags n first behind) = tt
    surprise_means back _ _ course (SurpriseAct.leaves n first why) =
        (n, (head_found s.core.nodes o.todo n first).1, refl, left n n.path n.born (set_operation (Some (su.finish_on o (rest o.todo))) (with_core (drop_node n.serial s.core) s)) refl)
    surprise_means back _ _ course (SurpriseAct.remains n first other over) =
        IsTrouble.of n (head_found s.core.nodes o.todo n first).1 refl refl (Because.held o running (λ e. grind (arith, nat_tests)) (λ eject. absurd (no_eject course eject)))
    surprise_means back _ _ course (SurpriseAct.stays n first target there) = surprise_ends o.behind course refl
    surprise_means back _ _ course SurpriseAct.closes = surprise_ends o.behind course refl

    nobody_ready : fi.node_of_ready s.core.nodes (ready_device s.core s.handles) ≡ None → (k : ℕ) (n : Node) → node_at k s.core.nodes ≡ Some n → is_ready_device s.core s.handles n ≡ true → ⊥
    nobody_ready none k n at ready =
        let own = those_serial 0 (is_ready_device s.core s.handles) s.core.nodes k n order at ready in
        let some = picked (serials_of (those (is_ready_device s.core s.handles) s.core.nodes)) k own in
        let there = those_found 0 (is_ready_device s.core s.handles) s.core.nodes some.0 order some.2 in
        let z : fi.node_of_ready s.core.nodes (Some some.0) ≡ None = subst (λ (x : Option ℕ). fi.node_of_ready s.core.nodes x ≡ None) some.1 none in
        let y = there.1 in
        cc

    is_finish : course_of o.kind ≡ Course.Finishing → o.kind ≡ OpKind.Finish
    is_finish course = by_kind o.kind course
      where
        by_kind : (kind : OpKind) → course_of kind ≡ Course.Finishing → kind ≡ OpKind.Finish
        by_kind OpKind.Finish h = refl
        by_kind _ h = absurd (cc)

    finish_means : (stage : Stage) (m : JobMove) → course_of o.kind ≡ Course.Finishing → FinishAct s.core o s.handles stage m → P (ma.job_lifted s m)
    finish_means _ _ course (FinishAct.leaves n first) =
        (n, (head_found s.core.nodes o.todo n first).1, refl, left n n.path n.born (set_operation (Some (fi.next_on o)) (with_core (drop_node n.serial s.core) s)) refl)
    finish_means _ _ course (FinishAct.holds n first) = IsTrouble.of n (head_found s.core.nodes o.todo n first).1 refl refl (Because.finished o running (is_finish course))
    finish_means _ _ course (FinishAct.closes none) = ended o running Course.Finishing OpEnd.Done _ course refl (refl, nobody_ready none)

    act_means : (m : JobMove) → s.operation ≢ None → (course_of o.kind ≡ Course.Removing → ⊥) → ActStep s o m → P (ma.job_lifted s m)
    act_means _ busy other (ActStep.rebalances stage m course is act) = rebalance_means stage m course is busy act
    act_means _ busy other (ActStep.removes stage m course is act) = absurd (other course)
    act_means _ busy other (ActStep.surprises stage m course is act) = surprise_means _ stage m course act
    act_means _ busy other (ActStep.finishes stage m course is act) = finish_means stage m course act

  -- the operation that runs, and its next device taken
  turned : (o p : Job) → Turn s o p → p.walk ≡ None → (o.walk ≡ None → course_of o.kind ≡ Course.Removing → ⊥) → course_of p.kind ≡ Course.Removing → ⊥
  turned o _ (Turn.same _) idle other course = other idle course
  turned _ _ (Turn.queries o n c stage none at willing) idle other course = absurd (cc)
  turned _ _ (Turn.removes o n d ds c stage none at goes full) idle other course = absurd (cc)
  turned _ _ (Turn.settles o n c stage none at goes empty) idle other course = other none course
  turned _ _ (Turn.finishes f k n c stage none ready at) idle other course = absurd (cc)

  job_means : (o p : Job) (step : Step) → s.operation ≡ Some o → Turn s o p → (o.walk ≡ None → course_of o.kind ≡ Course.Removing → ⊥) → JobStep s p step → P step
  job_means o p _ runs turn other (JobStep.asks n w asks) = tt
  job_means o p _ runs turn other (JobStep.ends n w q ends after) = tt
  job_means o p _ runs turn other (JobStep.acts m idle act) = act_means p (record { before = o; runs = runs; turn = turn }) m (λ none. cc) (turned o p turn idle other) act

  pub operation_means : (o : Job) → s.operation ≡ Some o → (step : Step) → IsStep settings (ma.next settings s) step → P step
  operation_means o runs step is = by_both (course_of o.kind) o.walk refl refl
    where
      others : (o.walk ≡ None → course_of o.kind ≡ Course.Removing → ⊥) → P step
      others other = let taken = operation_step settings s o step runs is in job_means o taken.now step runs taken.turn other taken.is

      by_both : (course : Course) (walk : Option Walk) → course_of o.kind ≡ course → o.walk ≡ walk → P step
      by_both Course.Removing None c w = removal_means o runs c w step is
      by_both Course.Removing (Some v) c w = others (λ none course. cc)
      by_both Course.Rebalancing walk c w = others (λ none course. cc)
      by_both Course.Surprising walk c w = others (λ none course. cc)
      by_both Course.Finishing walk c w = others (λ none course. cc)
