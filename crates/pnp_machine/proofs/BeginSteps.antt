-- The task that begins an operation, as the machine's step.
use Rattle.std.proofs.Common.{◌≡◌, ℕ, Bool, true, false, cond, List, Option, Some, None, Result, Ok, Err, IfOk, IsSome, refl, sym, ◌∙◌, ap, subst}
use Rattle.std.specs.declared.alloc.AllocError.{AllocError}
use Rattle.pnp_labels.specs.declared.label.Label.{Label}
use Rattle.pnp_labels.specs.declared.label.OpKind.{OpKind}
use Rattle.pnp_labels.specs.declared.states.DevState.{DevState}
use Rattle.pnp_labels.specs.declared.states.DevState.TheVariants.{NoStack, NotStarted, Started, StopPending, Stopped, RemovePending, SurpriseRemoved}
use Rattle.pnp_model.specs.Cores.{node_at}
use Rattle.pnp_model.specs.Rebalances.{begun_change}
use Rattle.pnp_model.specs.Records.{Core, Device, Job, Node, Relation, State}
use Rattle.pnp_model.specs.Records.Duty.{Begins}
use Rattle.pnp_model.specs.Surprises.{begun_surprise}
use Rattle.pnp_model.specs.Finishes.{begun_finish}
use Rattle.pnp_model.specs.Handles.{was_told}
use Rattle.pnp_model.specs.States.{set_operation, drop_task, device_born, let_through}
use Rattle.pnp_model.specs.Windows.{clip}
use Rattle.pnp_model.specs.Tasks.{begin, begin_step, change_born, change_task, skip, rebalance_task, disable_task, surprise_task, finish_task}
use Rattle.pnp_model.specs.Tests.{is_not_started, is_started, is_surprise_removed}
use Rattle.resource_reqs.specs.Resources.{Reqs}
use Rattle.script_bus.proofs.Unplugs.{by_bool}
use Rattle.pnp_machine.specs.Devices.{Devices, wanted_at, wanted_of}
use Rattle.pnp_laws.proofs.Lookups.{own_serial}
use Rattle.operation_frame.specs.Steps.{BegunFor}
use Rattle.surprise_remove.specs.Ready.{is_ready_at}
use Rattle.pnp_machine.specs.Machines.{IsDone, DoneFor, can_rebalance, is_disabled, is_disabled_node}

-- where the begin reads the device alone
pub any_relations : (kind : OpKind) (begun : Node → Job) (o : Option Node) (nodes : List Node) (rs rs' : List Relation) (line : Label) (j : Job) → BegunFor kind (λ c n. begun n) o nodes rs line j → BegunFor kind (λ c n. begun n) o nodes rs' line j
any_relations kind begun None nodes rs rs' line j h = absurd h
any_relations kind begun (Some n) nodes rs rs' line j h = h

module _ (s t : State) (label line : Label) (own : label ≡ line) where
  pub job_begun : (kind : OpKind) (begun : Core → Node → Job) (j : Job) (o : Option Node) → BegunFor kind begun o s.core.nodes s.core.relations line j → t ≡ set_operation (Some j) (drop_task s)
      → DoneFor o (λ n. begin s kind n (begun s.core n)) label t
  job_begun kind begun j None h is = absurd h
  job_begun kind begun j (Some n) (e, f) is = (own ∙ e, is ∙ ap (λ (x : Job). set_operation (Some x) (drop_task s)) (f s.core))

  -- what the world's device requires, as it comes through, is what the change wants
  pub change_begun : (ds : Devices) (wanted : Reqs) (r : Job) (o : Option Node) → ds.world.devices ≡ s.world → ds.tree.nodes ≡ s.core.nodes → ds.windows ≡ s.windows → Some wanted ≡ wanted_at ds o
      → BegunFor OpKind.Change (λ c n. begun_change c n wanted) o s.core.nodes s.core.relations line r → t ≡ set_operation (Some r) (drop_task s) → DoneFor o (λ n. change_task s n n.state) label t
  change_begun ds wanted r None a b c w h is = absurd h
  change_begun ds wanted r (Some n) a b c w (e, f) is = by_state n.state refl
    where
      told : (d : Device) → device_born n.born s.world ≡ Some d → wanted ≡ let_through n.parent d s → IsDone (change_born s n (device_born n.born s.world)) label t
      told d at same =
          subst (λ (x : Option Device). IsDone (change_born s n x) label t) (sym at)
          (own ∙ e, is ∙ ap (λ (x : Job). set_operation (Some x) (drop_task s)) (f s.core ∙ ap (begun_change s.core n) same))

      by_device : (o : Option Device) → device_born n.born ds.world.devices ≡ o → Some wanted ≡ wanted_of ds n o → IsDone (change_born s n (device_born n.born s.world)) label t
      by_device None at q = absurd (cc)
      by_device (Some d) at q =
          told d (ap (device_born n.born) (sym a) ∙ at)
          ((let same : wanted ≡ clip ds.windows ds.tree.nodes n.parent d.reqs = cc in same) ∙ ap (λ x. clip x ds.tree.nodes n.parent d.reqs) c ∙ ap (λ x. clip s.windows x n.parent d.reqs) b)

      up : (state : DevState) → n.state ≡ state → is_started state ≡ true → IsDone (change_task s n state) label t
      up Started q h =
          by_device (device_born n.born ds.world.devices) refl
          (w ∙ ap (λ x. cond (is_started x) (wanted_of ds n (device_born n.born ds.world.devices)) None) q)
      up _ q h = absurd (cc)

      by_state : (state : DevState) → n.state ≡ state → IsDone (change_task s n state) label t
      by_state state q =
          by_bool (λ b. Some wanted ≡ cond b (wanted_of ds n (device_born n.born ds.world.devices)) None → is_started state ≡ b → IsDone (change_task s n state) label t) (is_started state)
          (λ e h g. up state q g)
          (λ e h g. absurd (cc))
          (w ∙ ap (λ x. cond (is_started x) (wanted_of ds n (device_born n.born ds.world.devices)) None) q) refl

module _ (s : State) (k : ℕ) (label : Label) (t : State) where
  -- a device that is not there or not NotStarted needs none
  pub not_rebalanced : can_rebalance (node_at k s.core.nodes) ≡ false → IsDone (skip (Begins OpKind.Rebalance) k s) label t
      → IsDone (begin_step s OpKind.Rebalance k (node_at k s.core.nodes)) label t
  not_rebalanced busy h = by_node (node_at k s.core.nodes) refl busy
    where
      by_node : (o : Option Node) → node_at k s.core.nodes ≡ o → can_rebalance o ≡ false → IsDone (begin_step s OpKind.Rebalance k o) label t
      by_node None e b = h
      by_node (Some n) e b = by_state n.state refl
        where
          skipped : IsDone (skip (Begins OpKind.Rebalance) n.serial s) label t
          skipped = subst (λ i. IsDone (skip (Begins OpKind.Rebalance) i s) label t) (sym (own_serial k n s.core.nodes e)) h

          by_state : (state : DevState) → n.state ≡ state → IsDone (rebalance_task s n state) label t
          by_state NoStack q = skipped
          by_state NotStarted q = absurd (let up = ap is_not_started q in cc)
          by_state Started q = skipped
          by_state StopPending q = skipped
          by_state Stopped q = skipped
          by_state RemovePending q = skipped
          by_state SurpriseRemoved q = skipped

  -- one that is disabled is not disabled again
  pub not_disabled : is_disabled k s ≡ true → IsDone (skip (Begins OpKind.Disable) k s) label t
      → IsDone (begin_step s OpKind.Disable k (node_at k s.core.nodes)) label t
  not_disabled shut h = by_node (node_at k s.core.nodes) refl shut
    where
      by_node : (o : Option Node) → node_at k s.core.nodes ≡ o → is_disabled_node o s.disabled ≡ true → IsDone (begin_step s OpKind.Disable k o) label t
      by_node None e b = h
      by_node (Some n) e b =
          subst (λ (x : Bool). IsDone (disable_task s n x) label t) (sym b)
          (subst (λ i. IsDone (skip (Begins OpKind.Disable) i s) label t) (sym (own_serial k n s.core.nodes e)) h)

  -- a device that is not Started, or in the world no more, is not changed
  pub not_changed : (ds : Devices) → ds.world.devices ≡ s.world → ds.tree.nodes ≡ s.core.nodes → IsSome (node_at k s.core.nodes) → None ≡ wanted_at ds (node_at k s.core.nodes)
      → IsDone (skip (Begins OpKind.Change) k s) label t → DoneFor (node_at k s.core.nodes) (λ n. change_task s n n.state) label t
  not_changed ds a b there w h = by_node (node_at k s.core.nodes) refl there w
    where
      by_node : (o : Option Node) → node_at k s.core.nodes ≡ o → IsSome o → None ≡ wanted_at ds o → DoneFor o (λ n. change_task s n n.state) label t
      by_node None e there w = absurd (cc)
      by_node (Some n) e there w = by_state n.state refl
        where
          skipped : IsDone (skip (Begins OpKind.Change) n.serial s) label t
          skipped = subst (λ i. IsDone (skip (Begins OpKind.Change) i s) label t) (sym (own_serial k n s.core.nodes e)) h

          by_device : (o : Option Device) → device_born n.born ds.world.devices ≡ o → None ≡ wanted_of ds n o → IsDone (change_born s n o) label t
          by_device None at q = skipped
          by_device (Some d) at q = absurd (cc)

          by_state : (state : DevState) → n.state ≡ state → IsDone (change_task s n state) label t
          by_state NoStack q = skipped
          by_state NotStarted q = skipped
          by_state Started q =
              subst (λ (x : List Device). IsDone (change_born s n (device_born n.born x)) label t) a
              (by_device (device_born n.born ds.world.devices) refl (w ∙ ap (λ x. cond (is_started x) (wanted_of ds n (device_born n.born ds.world.devices)) None) q))
          by_state StopPending q = skipped
          by_state Stopped q = skipped
          by_state RemovePending q = skipped
          by_state SurpriseRemoved q = skipped

  -- one that was told that it has gone is not told again
  pub not_surprised : was_told (node_at k s.core.nodes) ≡ true → IsDone (skip (Begins OpKind.Surprise) k s) label t → IsDone (begin_step s OpKind.Surprise k (node_at k s.core.nodes)) label t
  not_surprised told h = by_node (node_at k s.core.nodes) refl told
    where
      by_node : (o : Option Node) → node_at k s.core.nodes ≡ o → was_told o ≡ true → IsDone (begin_step s OpKind.Surprise k o) label t
      by_node None e b = h
      by_node (Some n) e b = by_state n.state refl
        where
          by_state : (state : DevState) → n.state ≡ state → IsDone (surprise_task s n state) label t
          by_state SurpriseRemoved q = subst (λ i. IsDone (skip (Begins OpKind.Surprise) i s) label t) (sym (own_serial k n s.core.nodes e)) h
          by_state NoStack q = absurd (let up = ap is_surprise_removed q in cc)
          by_state NotStarted q = absurd (let up = ap is_surprise_removed q in cc)
          by_state Started q = absurd (let up = ap is_surprise_removed q in cc)
          by_state StopPending q = absurd (let up = ap is_surprise_removed q in cc)
          by_state Stopped q = absurd (let up = ap is_surprise_removed q in cc)
          by_state RemovePending q = absurd (let up = ap is_surprise_removed q in cc)

  -- any other is
  surprises_it : was_told (node_at k s.core.nodes) ≡ false → DoneFor (node_at k s.core.nodes) (λ n. begin s OpKind.Surprise n (begun_surprise s.core n)) label t
      → IsDone (begin_step s OpKind.Surprise k (node_at k s.core.nodes)) label t
  surprises_it untold h = by_node (node_at k s.core.nodes) untold h
    where
      by_node : (o : Option Node) → was_told o ≡ false → DoneFor o (λ n. begin s OpKind.Surprise n (begun_surprise s.core n)) label t
          → IsDone (begin_step s OpKind.Surprise k o) label t
      by_node None b h = absurd h
      by_node (Some n) b h = by_state n.state refl
        where
          by_state : (state : DevState) → n.state ≡ state → IsDone (surprise_task s n state) label t
          by_state SurpriseRemoved q = absurd (let up = ap is_surprise_removed q in cc)
          by_state NoStack q = h
          by_state NotStarted q = h
          by_state Started q = h
          by_state StopPending q = h
          by_state Stopped q = h
          by_state RemovePending q = h

  -- a device that is not ready is not finished
  pub not_finished : is_ready_at s.core s.handles (node_at k s.core.nodes) ≡ false → IsDone (skip (Begins OpKind.Finish) k s) label t → IsDone (begin_step s OpKind.Finish k (node_at k s.core.nodes)) label t
  not_finished busy h = by_node (node_at k s.core.nodes) refl busy
    where
      by_node : (o : Option Node) → node_at k s.core.nodes ≡ o → is_ready_at s.core s.handles o ≡ false → IsDone (begin_step s OpKind.Finish k o) label t
      by_node None e b = h
      by_node (Some n) e b =
          subst (λ (x : Bool). IsDone (finish_task s n x) label t) (sym b)
          (subst (λ i. IsDone (skip (Begins OpKind.Finish) i s) label t) (sym (own_serial k n s.core.nodes e)) h)

  -- one that is ready is
  finishes_it : is_ready_at s.core s.handles (node_at k s.core.nodes) ≡ true → DoneFor (node_at k s.core.nodes) (λ n. begin s OpKind.Finish n (begun_finish n)) label t
      → IsDone (begin_step s OpKind.Finish k (node_at k s.core.nodes)) label t
  finishes_it ready h = by_node (node_at k s.core.nodes) ready h
    where
      by_node : (o : Option Node) → is_ready_at s.core s.handles o ≡ true → DoneFor o (λ n. begin s OpKind.Finish n (begun_finish n)) label t
          → IsDone (begin_step s OpKind.Finish k o) label t
      by_node None b h = absurd h
      by_node (Some n) b h = subst (λ (x : Bool). IsDone (finish_task s n x) label t) (sym b) h

-- the same where memory may be wanting
pub finish_taken : (s : State) (k : ℕ) (t : State) (result : Result Label AllocError) → true ≡ is_ready_at s.core s.handles (node_at k s.core.nodes)
    → IfOk result (λ label. DoneFor (node_at k s.core.nodes) (λ n. begin s OpKind.Finish n (begun_finish n)) label t)
    → IfOk result (λ label. IsDone (begin_step s OpKind.Finish k (node_at k s.core.nodes)) label t)
finish_taken s k t (Ok label) ready h = finishes_it s k label t (sym ready) h
finish_taken s k t (Err refused) ready h = tt
