-- What an operator commands, as what happens by the definition.
use Rattle.std.proofs.Common.{◌≡◌, ℕ, ◌==◌, Bool, true, false, not, ◌&&◌, cond, find, nat_lt, IfSome, List, [], ◌∷◌, ◌++◌, Option, Some, None, Result, Ok, Err, is_some, refl, sym, ◌∙◌, ap, subst, arith, option_map}
use Rattle.std.proofs.lemmas.Bool.Decides.{nat_tests}
use Rattle.pnp_labels.specs.Texts.{Text}
use Rattle.pnp_labels.specs.declared.event.Event.{Event}
use Rattle.pnp_labels.specs.declared.deed.Deed.{Deed}
use Rattle.pnp_labels.specs.declared.label.EventWord.{EventWord}
use Rattle.pnp_labels.specs.declared.label.Label.{Label}
use Rattle.pnp_labels.specs.declared.label.OpKind.{OpKind}
use Rattle.pnp_labels.specs.declared.label.Reason.{Reason}
use Rattle.pnp_labels.specs.declared.words.RelKind.{RelKind}
use Rattle.pnp_model.specs.Cores.{node_at, path_of, serials_of}
use Rattle.pnp_model.specs.Events.{finish_due, with_handles, happens, relates_two, refused}
use Rattle.pnp_model.proofs.Guards.{where_false, where_some, where_true}
use Rattle.pnp_model.specs.Handles.{closed_with, is_handle_of, opened}
use Rattle.pnp_model.specs.Machine.{is_born}
use Rattle.pnp_model.specs.Records.{Node, Driver, Activity, Job, State, Step, Task, Duty}
use Rattle.pnp_model.specs.States.{is_in_world, node_of}
use Rattle.pnp_model.specs.Tests.{has_same, is_started, is_surprise_removed}
use Rattle.resource_reqs.specs.Resources.{Reqs}
use Rattle.script_bus.specs.Worlds.{changed}
use Rattle.devnode_tree.specs.Counts.{handle_with}
use Rattle.devnode_tree.specs.Trees.{Ascends}
use Rattle.relations.specs.Relating.{Relates, RelatesFor}
use Rattle.relations.specs.declared.error.RelateError.{RelateError}
use Rattle.pnp_machine.specs.Devices.{Devices}
use Rattle.pnp_machine.specs.Machines.{state_of, IsDone}
use Rattle.pnp_machine.specs.Operations.{operation_of}
use Rattle.pnp_machine.specs.declared.operation.Operation as declared
use Rattle.pnp_machine.proofs.EventSteps.{FoundAt, found_at}

-- no operation runs, in the words of the machine
pub idle_if : (o : Option declared.Operation) → is_some o ≡ false → is_some (option_map operation_of o) ≡ false
idle_if None e = refl
idle_if (Some o) e = absurd (cc)

-- a handle is open where the count is not 0
some_handle : (k n : ℕ) → (n ≡ 0 → ⊥) → handle_with k n ≡ Some (record { serial = k; count = n })
some_handle k n some = ap (λ b. cond b None (Some (record { serial = k; count = n }))) (apart n some)
  where
    apart : (n : ℕ) → (n ≡ 0 → ⊥) → (n == 0) ≡ false
    apart n some = grind (arith, nat_tests, some)

not_root : (n k : ℕ) → n ≡ k → (k ≡ 0 → ⊥) → (n == 0) ≡ false
not_root n k own up = grind (arith, nat_tests, up)

-- the state before, by its parts
module _ (ds : Devices) (rack : List Driver) (paths : List Text) (works : List Activity) (operation : Option Job) (tasks : List Task) (s0 : State) (is : state_of ds rack paths works operation tasks ≡ s0)
    (order : Ascends 0 (serials_of s0.core.nodes)) where
  abbrev s : State
  s = state_of ds rack paths works operation tasks

  -- the node of a path, by its serial
  here : (path : Text) (k : ℕ) → Some k ≡ option_map (λ n. n.serial) (node_of path ds.tree.nodes) → FoundAt path k ds.tree.nodes
  here path k found = found_at path k ds.tree.nodes (subst (λ (x : State). Ascends 0 (serials_of x.core.nodes)) (sym is) order) found

  path_is : (path : Text) (k : ℕ) (n : FoundAt path k ds.tree.nodes) → path_of (node_at k s0.core.nodes) ≡ n.node.path
  path_is path k n = ap (λ (x : State). path_of (node_at k x.core.nodes)) (sym is) ∙ ap path_of n.at

  -- what is done in the state before
  done_of : (event : Event) (label : Label) (t : State) (step : Step) → happens s event ≡ step → IsDone step label t → IsDone (happens s0 event) label t
  done_of event label t step e h = subst (λ x. IsDone (happens x event) label t) is (subst (λ x. IsDone x label t) (sym e) h)

  -- A device is to leave -------------------------------------------------------------------

  module _ (tasks' : List Task) (path : Text) (k : ℕ) (found : Some k ≡ option_map (λ n. n.serial) (node_of path ds.tree.nodes)) (up : k ≡ 0 → ⊥) (what : Text)
      (spelled : what ≡ path_of (node_at k s0.core.nodes)) where
    abbrev t : State
    t = state_of ds rack paths works operation tasks'

    n : FoundAt path k ds.tree.nodes
    n = here path k found

    more_is : (kind : Duty) → tasks' ≡ tasks ++ record { kind = kind; serial = k } ∷ [] → t ≡ state_of ds rack paths works operation (tasks ++ record { kind = kind; serial = n.node.serial } ∷ [])
    more_is kind more = ap (state_of ds rack paths works operation) (more ∙ ap (λ i. tasks ++ record { kind = kind; serial = i } ∷ []) (sym n.own))

    pub disables : has_same path paths ≡ false → tasks' ≡ tasks ++ record { kind = Duty.Begins OpKind.Disable; serial = k } ∷ []
        → IsDone (happens s0 (Event.Disable path)) (Label.Did (Deed.Disabled what)) t
    disables enabled more =
        done_of (Event.Disable path) (Label.Did (Deed.Disabled what)) t _
        (where_some (node_of path ds.tree.nodes) n.node _ _ n.found ∙ where_false (n.node.serial == 0) _ _ (not_root n.node.serial k n.own up) ∙ where_false (has_same path paths) _ _ enabled)
        (ap (λ (p : Text). Label.Did (Deed.Disabled p)) (spelled ∙ path_is path k n), more_is (Duty.Begins OpKind.Disable) more)

    pub ejects : tasks' ≡ tasks ++ record { kind = Duty.Begins OpKind.Eject; serial = k } ∷ [] → IsDone (happens s0 (Event.Eject path)) (Label.Did (Deed.Ejected what)) t
    ejects more =
        done_of (Event.Eject path) (Label.Did (Deed.Ejected what)) t _
        (where_some (node_of path ds.tree.nodes) n.node _ _ n.found ∙ where_false (n.node.serial == 0) _ _ (not_root n.node.serial k n.own up))
        (ap (λ (p : Text). Label.Did (Deed.Ejected p)) (spelled ∙ path_is path k n), more_is (Duty.Begins OpKind.Eject) more)

  -- A device requires something else --------------------------------------------------------

  module _ (reqs : Reqs) (path : Text) (k : ℕ) (found : Some k ≡ option_map (λ n. n.serial) (node_of path ds.tree.nodes)) where
    m : FoundAt path k ds.tree.nodes
    m = here path k found

    abbrev Changed : Label → State → Type 0
    Changed label t = IsDone (happens s0 (Event.Change path reqs)) label t

    -- whether the device is in the world
    there : (b : Bool) → b ≡ is_born ds.world.devices (node_at k ds.tree.nodes) → not (is_in_world ds.world.devices m.node.born) ≡ not b
    there b e = ap not (sym (ap (is_born ds.world.devices) m.at) ∙ sym e)

    refuses_change : (reason : Reason) → happens s (Event.Change path reqs) ≡ refused EventWord.Change reason s → Changed (Label.Refused EventWord.Change reason) s0
    refuses_change reason step = done_of (Event.Change path reqs) (Label.Refused EventWord.Change reason) s0 (refused EventWord.Change reason s) step (refl, sym is)

    pub change_absent : false ≡ is_born ds.world.devices (node_at k ds.tree.nodes) → Changed (Label.Refused EventWord.Change Reason.NoDevice) s0
    change_absent e =
        refuses_change Reason.NoDevice
        (where_some (node_of path ds.tree.nodes) m.node _ _ m.found ∙ where_true (not (is_in_world ds.world.devices m.node.born)) _ _ (there false e))

    module _ (e : true ≡ is_born ds.world.devices (node_at k ds.tree.nodes)) where
      pub change_of_root : k ≡ 0 → Changed (Label.Refused EventWord.Change Reason.RootStays) s0
      change_of_root z =
          let root : (m.node.serial == 0) ≡ true = (let own = m.own in grind (arith, nat_tests)) in
          refuses_change Reason.RootStays
          (where_some (node_of path ds.tree.nodes) m.node _ _ m.found ∙ where_false (not (is_in_world ds.world.devices m.node.born)) _ _ (there true e)
          ∙ where_true (m.node.serial == 0) _ _ root)

      module _ (up : k ≡ 0 → ⊥) (x : Node) (at : Some x ≡ node_at k ds.tree.nodes) where
        same_node : x ≡ m.node
        same_node = let own = m.at in cc

        started : (b : Bool) → is_started x.state ≡ b → not (is_started m.node.state) ≡ not b
        started b h = ap not (sym (ap (λ (y : Node). is_started y.state) same_node) ∙ h)

        pub change_down : is_started x.state ≡ false → Changed (Label.Refused EventWord.Change Reason.NotStarted) s0
        change_down h =
            refuses_change Reason.NotStarted
            (where_some (node_of path ds.tree.nodes) m.node _ _ m.found ∙ where_false (not (is_in_world ds.world.devices m.node.born)) _ _ (there true e)
            ∙ where_false (m.node.serial == 0) _ _ (not_root m.node.serial k m.own up) ∙ where_true (not (is_started m.node.state)) _ _ (started false h))

        pub changes : (ds' : Devices) (tasks' : List Task) (what : Text) → is_started x.state ≡ true → what ≡ path_of (node_at k s0.core.nodes)
            → IfSome (node_at k ds.tree.nodes) (λ n. ds' ≡ record ds { world = changed n.born reqs ds.world }) → tasks' ≡ tasks ++ record { kind = Duty.Begins OpKind.Change; serial = k } ∷ []
            → Changed (Label.Did (Deed.Changed what)) (state_of ds' rack paths works operation tasks')
        changes ds' tasks' what h spelled now more =
            let own : ds' ≡ record ds { world = changed m.node.born reqs ds.world } =
            subst (λ (o : Option Node). IfSome o (λ n. ds' ≡ record ds { world = changed n.born reqs ds.world })) m.at now in
            done_of (Event.Change path reqs) (Label.Did (Deed.Changed what)) (state_of ds' rack paths works operation tasks') _
            (where_some (node_of path ds.tree.nodes) m.node _ _ m.found ∙ where_false (not (is_in_world ds.world.devices m.node.born)) _ _ (there true e)
            ∙ where_false (m.node.serial == 0) _ _ (not_root m.node.serial k m.own up) ∙ where_false (not (is_started m.node.state)) _ _ (started true h)) (
              ap (λ (p : Text). Label.Did (Deed.Changed p)) (spelled ∙ path_is path k m),
              ap (λ d. state_of d rack paths works operation tasks') own
                  ∙ ap (state_of (record ds { world = changed m.node.born reqs ds.world }) rack paths works operation) (more ∙ ap (λ i. tasks ++ record { kind = Duty.Begins OpKind.Change; serial = i } ∷ []) (sym m.own)),
            )

  -- A handle is opened or closed -------------------------------------------------------------

  module _ (path : Text) (k : ℕ) (found : Some k ≡ option_map (λ n. n.serial) (node_of path ds.tree.nodes)) (x : Node) (at : Some x ≡ node_at k ds.tree.nodes) where
    o : FoundAt path k ds.tree.nodes
    o = here path k found

    own_node : x ≡ o.node
    own_node = let own = o.at in cc

    module _ (idle : is_some operation ≡ false) (up : k ≡ 0 → ⊥) where
      started_by : (b : Bool) → is_started x.state ≡ b → not (is_started o.node.state) ≡ not b
      started_by b h = ap not (sym (ap (λ (y : Node). is_started y.state) own_node) ∙ h)

      pub open_down : is_started x.state ≡ false → IsDone (happens s0 (Event.OpenHandle path)) (Label.Refused EventWord.HandleOpen Reason.NotStarted) s0
      open_down h =
          done_of (Event.OpenHandle path) (Label.Refused EventWord.HandleOpen Reason.NotStarted) s0 (refused EventWord.HandleOpen Reason.NotStarted s)
          (where_some (node_of path ds.tree.nodes) o.node _ _ o.found ∙ where_false (o.node.serial == 0) _ _ (not_root o.node.serial k o.own up)
          ∙ where_false (is_some operation) _ _ idle ∙ where_true (not (is_started o.node.state)) _ _ (started_by false h)) (refl, sym is)

      pub opens : (ds' : Devices) (what : Text) → is_started x.state ≡ true → what ≡ path_of (node_at k s0.core.nodes) → ds' ≡ record ds { handles = opened k ds.handles }
          → IsDone (happens s0 (Event.OpenHandle path)) (Label.Did (Deed.HandleOpened what)) (state_of ds' rack paths works operation tasks)
      opens ds' what h spelled now =
          done_of (Event.OpenHandle path) (Label.Did (Deed.HandleOpened what)) (state_of ds' rack paths works operation tasks) _
          (where_some (node_of path ds.tree.nodes) o.node _ _ o.found ∙ where_false (o.node.serial == 0) _ _ (not_root o.node.serial k o.own up)
          ∙ where_false (is_some operation) _ _ idle ∙ where_false (not (is_started o.node.state)) _ _ (started_by true h)) (
            ap (λ (p : Text). Label.Did (Deed.HandleOpened p)) (spelled ∙ path_is path k o),
            ap (λ d. state_of d rack paths works operation tasks) (now ∙ ap (λ i. record ds { handles = opened i ds.handles }) (sym o.own)),
          )

    module _ (count : ℕ) (some : count ≡ 0 → ⊥) (held : find (is_handle_of k) ds.handles ≡ handle_with k count) where
      -- is another one open?
      abbrev more : Bool
      more = nat_lt 1 count

      abbrev less : Devices
      less = record ds { handles = closed_with o.node.serial ds.handles more }

      -- what is due then
      due_is : (b : Bool) (tasks' : List Task) → tasks' ≡ cond b (tasks ++ record { kind = Duty.Begins OpKind.Finish; serial = k } ∷ []) tasks
          → state_of less rack paths works operation tasks' ≡ finish_due o.node b (with_handles (closed_with o.node.serial ds.handles more) s)
      due_is true tasks' e = ap (state_of less rack paths works operation) (e ∙ ap (λ i. tasks ++ record { kind = Duty.Begins OpKind.Finish; serial = i } ∷ []) (sym o.own))
      due_is false tasks' e = ap (state_of less rack paths works operation) e

      pub closes : (ds' : Devices) (tasks' : List Task) (what : Text) → what ≡ path_of (node_at k s0.core.nodes) → ds' ≡ record ds { handles = closed_with k ds.handles more }
          → tasks' ≡ cond (not more && is_surprise_removed x.state) (tasks ++ record { kind = Duty.Begins OpKind.Finish; serial = k } ∷ []) tasks
          → IsDone (happens s0 (Event.CloseHandle path)) (Label.Did (Deed.HandleClosed what)) (state_of ds' rack paths works operation tasks')
      closes ds' tasks' what spelled now due =
          done_of (Event.CloseHandle path) (Label.Did (Deed.HandleClosed what)) (state_of ds' rack paths works operation tasks') _
          (where_some (node_of path ds.tree.nodes) o.node _ _ o.found
          ∙ where_some (find (is_handle_of o.node.serial) ds.handles) (record { serial = k; count = count }) _ _ (ap (λ i. find (is_handle_of i) ds.handles) o.own ∙ held ∙ some_handle k count some)) (
            ap (λ (p : Text). Label.Did (Deed.HandleClosed p)) (spelled ∙ path_is path k o),
            ap (λ d. state_of d rack paths works operation tasks') (now ∙ ap (λ i. record ds { handles = closed_with i ds.handles more }) (sym o.own))
                ∙ due_is (not more && is_surprise_removed o.node.state) tasks' (due ∙ ap (λ (y : Node). cond (not more && is_surprise_removed y.state) (tasks ++ record { kind = Duty.Begins OpKind.Finish; serial = k } ∷ []) tasks) own_node),
          )

  -- Two devices are related ------------------------------------------------------------------

  module _ (ds' : Devices) (kind : RelKind) (owner member : Text) (i j : ℕ) (found_owner : Some i ≡ option_map (λ n. n.serial) (node_of owner ds.tree.nodes))
      (found_member : Some j ≡ option_map (λ n. n.serial) (node_of member ds.tree.nodes)) (idle : is_some operation ≡ false) (stays : ds' ≡ record ds { relations = ds'.relations }) where
    abbrev after : State
    after = state_of ds' rack paths works operation tasks

    -- the relations are those of this answer
    abbrev IsRelated : Result (Unit {0}) RelateError → Type 0
    IsRelated result = RelatesFor (node_at i ds.tree.nodes) (node_at j ds.tree.nodes) ds.tree.nodes kind ds.relations result ds'.relations

    a : FoundAt owner i ds.tree.nodes
    a = here owner i found_owner

    b : FoundAt member j ds.tree.nodes
    b = here member j found_member

    abbrev two : Step
    two = relates_two s kind a.node b.node

    step : happens s (Event.Relate kind owner member) ≡ two
    step =
        where_some (node_of owner ds.tree.nodes) a.node _ _ a.found ∙ where_some (node_of member ds.tree.nodes) b.node _ _ b.found
        ∙ where_false (is_some operation) _ _ idle

    relates : (result : Result (Unit {0}) RelateError) → IsRelated result → Relates s kind a.node b.node ds.relations result ds'.relations
    relates result h =
        let own = subst (λ o. RelatesFor o (node_at j ds.tree.nodes) ds.tree.nodes kind ds.relations result ds'.relations) a.at h in
        let both : RelatesFor (Some a.node) (Some b.node) ds.tree.nodes kind ds.relations result ds'.relations =
        subst (λ o. RelatesFor (Some a.node) o ds.tree.nodes kind ds.relations result ds'.relations) b.at own in
        both s s.core refl

    after_is : after ≡ state_of (record ds { relations = ds'.relations }) rack paths works operation tasks
    after_is = ap (λ d. state_of d rack paths works operation tasks) stays

    same_after : ds'.relations ≡ ds.relations → after ≡ s
    same_after e = after_is ∙ ap (λ r. state_of (record ds { relations = r }) rack paths works operation tasks) e

    -- the label, by the paths of these nodes
    abbrev related : Text → Text → Label
    related owner member = Label.Did (Deed.Related kind owner member)

    pub relate_done : (label : Label) → label ≡ related (path_of (node_at i s0.core.nodes)) (path_of (node_at j s0.core.nodes)) → IsRelated (Ok tt)
        → IsDone (happens s0 (Event.Relate kind owner member)) label after
    relate_done label spelled h =
        let label_is = spelled ∙ ap (λ p. related p (path_of (node_at j s0.core.nodes))) (path_is owner i a) ∙ ap (related a.node.path) (path_is member j b) in
        done_of (Event.Relate kind owner member) label after _ (step ∙ relates (Ok tt) h) (label_is, after_is)

    refuses : (reason : Reason) → (ds'.relations ≡ ds.relations) × (two ≡ refused EventWord.Relate reason s)
        → IsDone (happens s0 (Event.Relate kind owner member)) (Label.Refused EventWord.Relate reason) after
    refuses reason (same, told) = done_of (Event.Relate kind owner member) (Label.Refused EventWord.Relate reason) after (refused EventWord.Relate reason s) (step ∙ told) (refl, same_after same)

    pub relate_self : IsRelated (Err RelateError.SelfRelation) → IsDone (happens s0 (Event.Relate kind owner member)) (Label.Refused EventWord.Relate Reason.SelfRelation) after
    relate_self h = refuses Reason.SelfRelation (relates (Err RelateError.SelfRelation) h)

    pub relate_again : IsRelated (Err RelateError.SameRelation) → IsDone (happens s0 (Event.Relate kind owner member)) (Label.Refused EventWord.Relate Reason.SameRelation) after
    relate_again h = refuses Reason.SameRelation (relates (Err RelateError.SameRelation) h)

    pub relate_cycle : IsRelated (Err RelateError.RelationCycle) → IsDone (happens s0 (Event.Relate kind owner member)) (Label.Refused EventWord.Relate Reason.RelationCycle) after
    relate_cycle h = refuses Reason.RelationCycle (relates (Err RelateError.RelationCycle) h)

    pub relate_not_started : IsRelated (Err RelateError.NotStarted) → IsDone (happens s0 (Event.Relate kind owner member)) (Label.Refused EventWord.Relate Reason.NotStarted) after
    relate_not_started h = refuses Reason.NotStarted (relates (Err RelateError.NotStarted) h)

    pub relate_stays : IsRelated (Err RelateError.WantOfMemory) → after ≡ s0
    relate_stays h = same_after (relates (Err RelateError.WantOfMemory) h) ∙ is
