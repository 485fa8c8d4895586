-- In an operation who was to lose its drivers still is, or is dead, and what left does not join again.
use Rattle.std.proofs.Common.{ℕ, ◌≡◌, ◌≢◌, ◌==◌, ◌⊎◌, inl, inr, Bool, true, false, not, ◌&&◌, ◌||◌, cond, List, [], ◌∷◌, Option, Some, None, refl, sym, ap, ◌∙◌, subst, arith}
use Rattle.std.proofs.lemmas.Bool.{cases_eq}
use Rattle.std.proofs.lemmas.Bool.Decides.{nat_tests}
use Rattle.pnp_model.specs.Keyed.{without_first}
use Rattle.pnp_model.specs.Tests.{has, is_surprise_removed}
use Rattle.pnp_model.specs.Records.{Node, Device, Activity, Walk, State, Step, Course, Job, Stage, course_of}
use Rattle.pnp_model.specs.Diagram.{Change}
use Rattle.pnp_labels.specs.declared.states.DevState.{DevState}
use Rattle.pnp_model.specs.Cores.{node_at, is_node, drop_node, stack_of}
use Rattle.pnp_model.specs.Handles.{was_told}
use Rattle.pnp_model.specs.Frames.{asked, first_node, rest}
use Rattle.pnp_model.specs.States.{activity_at, with_core, set_operation, relist, unplug, without_those, is_in_world}
use Rattle.pnp_model.specs.Machine.{after_job, is_back, is_born, job_lifted}
use Rattle.pnp_labels.specs.declared.states.DevState.TheVariants.{NoStack, SurpriseRemoved}
use Rattle.pnp_labels.specs.declared.label.Label.{Label}
use Rattle.pnp_laws.specs.Words.{IsNoJoin}
use Rattle.pnp_laws.specs.Effects.{Running, Turn}
use Rattle.pnp_laws.specs.Kept.{Ascending, RemovalKeeps, SurpriseKeeps, settling_state, Each}
use Rattle.pnp_laws.proofs.Lookups.{some_same, own_serial, left_from, left_missing}
use Rattle.pnp_laws.proofs.Lists.{HeadIs, head_found, rest_has}
use Rattle.pnp_laws.proofs.Finishing.{relist_only, head_bare}
use Rattle.pnp_laws.proofs.SurpriseSteps.{last_alone}
use Rattle.pnp_laws.proofs.Standing.{AllTold, Finishes, IsNoLeave, RemovalOrder, SurpriseOrder, SurpriseTold}
use Rattle.pnp_laws.proofs.Joins.{closed, closed_in, removal_closed, is_barren, some_there, is_live, stage_leaving, In, Gone}
use Rattle.pnp_laws.proofs.JoinSteps.{Closes, Closing, Knows, closed_walked}
use Rattle.pnp_laws.proofs.Stages.{FinishAct, FinishStep, RemovalAct, RemovalStep, SurpriseAct, SurpriseStep, asking}
use Rattle.pnp_laws.proofs.Truths.{or_right}
use Rattle.pnp_model.specs.Removals as rm
use Rattle.pnp_model.specs.Surprises as su
use Rattle.pnp_model.specs.Finishes as fi
use Rattle.pnp_model.specs.Jobs.{JobMove, Beside, stands}

-- The dead ------------------------------------------------------------------------------------------------

dead_closed : (t : State) (m : Node) → closed t.operation m.serial ≡ true → is_live t m ≡ false
dead_closed t m e = by_test (closed t.operation m.serial) e
  where
    by_test : (b : Bool) → b ≡ true → (not b && (not (is_barren m.state) || some_there (activity_at m.serial t.activities))) ≡ false
    by_test true e = refl
    by_test false e = absurd (cc)

-- nothing joins below a device without drivers, or one that was told that it has gone
pub dead_barren : (t : State) (m : Node) → is_barren m.state ≡ true → t.activities ≡ [] → is_live t m ≡ false
dead_barren t m e empty = by_tests (closed t.operation m.serial) (is_barren m.state) (some_there (activity_at m.serial t.activities)) e (ap (λ (acts : List Activity). some_there (activity_at m.serial acts)) empty)
  where
    by_tests : (a b c : Bool) → b ≡ true → c ≡ false → (not a && (not b || c)) ≡ false
    by_tests true b c e f = refl
    by_tests false true true e f = absurd (cc)
    by_tests false true false e f = refl
    by_tests false false c e f = absurd (cc)

-- Steps of an operation ------------------------------------------------------------------------------------

abbrev pub ClosesStep : State → Step → Type 0
ClosesStep s step = Knows s step → Closing s step.state

-- nobody leaves
all_stay : (s : State) (step : Step) → IsNoLeave step.label → (Knows s step → Closes s step.state) → ClosesStep s step
all_stay s step no_leave closes knows = record { closes = closes knows; gone = λ k n at gone. absurd (knows.sound.stays no_leave k n at gone) }

-- a device leaves
one_leaves : (s t : State) (label : Label) (node : Node) → node_at node.serial s.core.nodes ≡ Some node → t.core.nodes ≡ without_first (is_node node.serial) s.core.nodes
    → (Knows s (record { label = label; state = t }) → Closes s t) → (Knows s (record { label = label; state = t }) → Gone s t node) → ClosesStep s (record { label = label; state = t })
one_leaves s t label node at nodes closes gone knows =
    record {
      closes = closes knows;
      gone =
          λ k n was none.
          let is : node.serial ≡ k = left_missing node.serial k s.core.nodes n was (subst (λ (x : List Node). node_at k x ≡ None) nodes none) in
          let same : node ≡ n = some_same (node_at k s.core.nodes) node n (subst (λ (i : ℕ). node_at i s.core.nodes ≡ Some node) is at) was in
          subst (λ (x : Node). Gone s t x) same (gone knows);
    }

pub closed_by : (course : Course) (o : Job) → course_of o.kind ≡ course → (k : ℕ) → closed (Some o) k ≡ closed_in course o k
closed_by course o is k = ap (λ (x : Course). closed_in x o k) is

-- the operation takes the drivers of the same devices
abbrev pub Shuts : State → Job → Type 0
Shuts s o = (k : ℕ) → closed s.operation k ≡ closed (Some o) k

-- also where its next device is taken
turn_closed : (s : State) (o p : Job) → Turn s o p → (k : ℕ) → closed (Some o) k ≡ closed (Some p) k
turn_closed s _ _ (Turn.same o) k = refl
turn_closed s _ _ (Turn.queries o node course is idle first asks) k = closed_by Course.Removing o course k ∙ ap (λ (x : Stage). removal_closed o x k) is ∙ sym (closed_by Course.Removing (rm.queried o) course k)
turn_closed s _ _ (Turn.removes o node d ds course is idle first goes full) k = closed_by Course.Surprising o course k ∙ sym (closed_by Course.Surprising (su.removing o) course k)
turn_closed s _ _ (Turn.settles o node course is idle first goes none) k = closed_by Course.Surprising o course k ∙ sym (closed_by Course.Surprising (stands o o.todo Stage.Settling) course k)
turn_closed s _ _ (Turn.finishes f i node course is idle ready at) k = closed_by Course.Finishing f course k ∙ sym (closed_by Course.Finishing (fi.taken f node) course k)

pub running_shuts : (s : State) (o : Job) → Running s o → Shuts s o
running_shuts s o now k = ap (λ (x : Option Job). closed x k) now.runs ∙ turn_closed s now.before o now.turn k

pub asks_closing : (s : State) (o : Job) (node : Node) (w : Walk) → Shuts s o → ClosesStep s (asking s o node w)
asks_closing s o node w shuts = all_stay s (asking s o node w) tt (λ knows k n at free. inl (shuts k ∙ sym (closed_walked o (Some (asked s.core node w).walk) k) ∙ free))

-- Removals ---------------------------------------------------------------------------------------------------

pub record InRemoval (s : State) (o : Job) (stage : Stage) : Type 0 where
  pub shuts : Shuts s o
  pub course : course_of o.kind ≡ Course.Removing
  pub is : o.stage ≡ stage
  pub empty : s.activities ≡ []

rm_closed : (s : State) (o : Job) (stage : Stage) → InRemoval s o stage → (k : ℕ) → closed s.operation k ≡ removal_closed o stage k
rm_closed s o stage h k = h.shuts k ∙ closed_by Course.Removing o h.course k ∙ ap (λ (x : Stage). removal_closed o x k) h.is

-- who is still to do is closed
closed_rest : (nodes : List Node) (o : Job) → course_of o.kind ≡ Course.Removing → (js : List ℕ) (k : ℕ) → has o.set k ≡ true → (js ≡ []) ⊎ (closed (Some (rm.finish_on nodes o js)) k ≡ true)
closed_rest nodes o course [] k h = inl refl
closed_rest nodes o course (j ∷ js) k h = inr (by_stack (stack_of (node_at j nodes)))
  where
    by_stack : (stack : List ℕ) → closed (Some (rm.finish_with o (j ∷ js) stack)) k ≡ true
    by_stack [] = closed_by Course.Removing (rm.finish_with o (j ∷ js) []) course k ∙ h
    by_stack (d ∷ ds) = closed_by Course.Removing (rm.finish_with o (j ∷ js) (d ∷ ds)) course k ∙ h

-- the device at the head is settled
record Settles (s : State) (o : Job) (node : Node) : Type 0 where
  in_it : InRemoval s o Stage.Settling
  head : HeadIs node.serial o.todo
  at : node_at node.serial s.core.nodes ≡ Some node
  each : Each (λ k x. settling_state o.todo k x) s.core.nodes
  order : Finishes s.core o.set o.todo

at_head : (s : State) (o : Job) (node : Node) → InRemoval s o Stage.Settling → RemovalKeeps o Stage.Settling s.core.nodes → RemovalOrder s.core o Stage.Settling → first_node s.core.nodes o.todo ≡ Some node → Settles s o node
at_head s o node h keeps order first =
    let found = head_found s.core.nodes o.todo node first in
    record { in_it = h; head = found.0; at = found.1; each = keeps.each; order = order }

-- the state after it
record Settled (s t : State) (o : Job) : Type 0 where
  op : t.operation ≡ Some (rm.finish_on s.core.nodes o (rest o.todo))
  acts : t.activities ≡ s.activities

-- while the devices are settled none of the set lives
settled_dead : (s t : State) (o : Job) (node : Node) (label : Label) → Settles s o node → Settled s t o → ((a b : DevState) → Change label a b → b ≡ a) → IsNoJoin label → Knows s (record { label = label; state = t }) →
    (k : ℕ) (m : Node) → has o.set k ≡ true → node_at k t.core.nodes ≡ Some m → is_live t m ≡ false
settled_dead s t o node label h u same no_join knows k m in_set at =
    let own : m.serial ≡ k = own_serial k m t.core.nodes at in
    let was = knows.sound.births no_join k m at in
    elim (closed_rest s.core.nodes o h.in_it.course (rest o.todo) k in_set) [
      | inr shut ↦ dead_closed t m (ap (closed t.operation) own ∙ ap (λ (x : Option Job). closed x k) u.op ∙ shut)
      | inl over ↦
          let bare : was.0.state ≡ NoStack =
          elim (cases_eq node.serial k) [
            | inl q ↦ head_bare o.todo k was.0.state (subst (λ (i : ℕ). HeadIs i o.todo) q h.head) (h.each k was.0 was.1)
            | inr d ↦ h.order.bare k was.0 was.1 in_set (sym (rest_has node.serial k o.todo h.head d) ∙ ap (λ (ks : List ℕ). has ks k) over)
          ] in
          dead_barren t m (ap is_barren (same was.0.state m.state (knows.diagram.stays k was.0 m was.1 at) ∙ bare)) (u.acts ∙ h.in_it.empty)
    ]

settled_closes : (s t : State) (o : Job) (node : Node) (label : Label) → Settles s o node → Settled s t o → ((a b : DevState) → Change label a b → b ≡ a) → IsNoJoin label → Knows s (record { label = label; state = t }) → Closes s t
settled_closes s t o node label h u same no_join knows k m at free = by_set (has o.set k) refl
  where
    by_set : (b : Bool) → has o.set k ≡ b → (closed s.operation k ≡ false) ⊎ (is_live t m ≡ false)
    by_set true e = inr (settled_dead s t o node label h u same no_join knows k m e at)
    by_set false e = inl (rm_closed s o Stage.Settling h.in_it k ∙ e)

-- who is not in the world cannot join
unplugged : (gone : List ℕ) (b : ℕ) (ds : List Device) → has gone b ≡ true → (d : Device) → In d (without_those gone ds) → d.born ≢ b
unplugged gone b [] own d there = absurd there
unplugged gone b (x ∷ ds) own d there = by_test (has gone x.born) (has gone x.parent) refl (unplugged (x.born ∷ gone) b ds (longer gone own) d) (unplugged gone b ds own d) there
  where
    longer : (gone : List ℕ) → has gone b ≡ true → has (x.born ∷ gone) b ≡ true
    longer gone h = or_right (x.born == b) (has gone b) h

    by_test : (p q : Bool) → has gone x.born ≡ p → (In d (without_those (x.born ∷ gone) ds) → d.born ≢ b) → (In d (without_those gone ds) → d.born ≢ b) → In d (cond (p || q) (without_those (x.born ∷ gone) ds) (x ∷ without_those gone ds)) → d.born ≢ b
    by_test true q e more same there = more there
    by_test false true e more same there = more there
    by_test false false e more same (inr there) = same there
    by_test false false e more same (inl is) = λ f. absurd (let g : x.born ≡ b = ap (λ (z : Device). z.born) is ∙ f in let h = subst (λ (i : ℕ). has gone i ≡ false) g e in cc)

pub removal_closing : (s : State) (o : Job) (stage : Stage) (m : JobMove) → InRemoval s o stage → RemovalKeeps o stage s.core.nodes → RemovalOrder s.core o stage → RemovalStep s.core o stage m → ClosesStep s (job_lifted s m)
removal_closing s o stage m h keeps order (RemovalStep.removes node w e) = all_stay s (job_lifted s m) tt (λ knows k n at shut. inl (rm_closed s o stage h k ∙ sym (closed_by Course.Removing m.frame h.course k) ∙ shut))
removal_closing s o stage m h keeps order (RemovalStep.acts _ _ (RemovalAct.leaves node first inside)) =
    let settles = at_head s o node h keeps order first in
    let move = rm.leaves s.core o node (Label.Leave node.path) (Beside.Left node.path node.born) in
    let u = set_operation (Some move.frame) (with_core move.core s) in
    let t = relist node.path node.born u in
    let only = relist_only node.path node.born u in
    let now : Settled s t o = record { op = only.operation; acts = only.activities } in
    one_leaves s t (Label.Leave node.path) node settles.at only.nodes (settled_closes s t o node (Label.Leave node.path) settles now (λ a b c. c) tt)
    (λ knows. inr (λ m at. settled_dead s t o node (Label.Leave node.path) settles now (λ a b c. c) tt knows node.parent m inside at))
removal_closing s o stage m h keeps order (RemovalStep.acts _ _ (RemovalAct.ejects node first)) =
    let settles = at_head s o node h keeps order first in
    let move = rm.leaves s.core o node (Label.Ejected node.path) (Beside.Ejected node.path node.born) in
    let u = unplug node.born (set_operation (Some move.frame) (with_core move.core s)) in
    let t = relist node.path node.born u in
    let only = relist_only node.path node.born u in
    let world : t.world ≡ without_those (node.born ∷ []) s.world = only.world in
    one_leaves s t (Label.Ejected node.path) node settles.at only.nodes
    (settled_closes s t o node (Label.Ejected node.path) settles (record { op = only.operation; acts = only.activities }) (λ a b c. c) tt)
    (λ knows. inl (λ d there. unplugged (node.born ∷ []) node.born s.world (grind (arith, nat_tests)) d (subst (λ (w : List Device). In d w) world there)))
removal_closing s o stage m h keeps order (RemovalStep.acts _ _ (RemovalAct.disables node first over target)) =
    all_stay s (job_lifted s m) tt (settled_closes s (job_lifted s m).state o node m.label (at_head s o node h keeps order first) (record { op = refl; acts = refl }) (λ a b c. c) tt)
removal_closing s o stage m h keeps order (RemovalStep.acts _ _ (RemovalAct.remains node problem first over other)) =
    all_stay s (job_lifted s m) tt (settled_closes s (job_lifted s m).state o node m.label (at_head s o node h keeps order first) (record { op = refl; acts = refl }) (λ a b c. c) tt)
removal_closing s o stage m h keeps order _ = all_stay s (job_lifted s m) tt (λ knows k n at free. inl (rm_closed s o stage h k))

-- Surprises ---------------------------------------------------------------------------------------------------

pub record InSurprise (s : State) (o : Job) : Type 0 where
  pub shuts : Shuts s o
  pub course : course_of o.kind ≡ Course.Surprising
  pub empty : s.activities ≡ []

su_closed : (s : State) (o : Job) → InSurprise s o → (k : ℕ) → closed s.operation k ≡ has o.set k
su_closed s o h k = h.shuts k ∙ closed_by Course.Surprising o h.course k

-- the operation goes on with the same set
su_on : (s : State) (o : Job) (m : JobMove) → InSurprise s o → m.frame.kind ≡ o.kind → m.frame.set ≡ o.set → IsNoLeave m.label → m.beside ≡ Beside.On → ClosesStep s (job_lifted s m)
su_on s o m h kind same no_leave on =
    all_stay s (job_lifted s m) no_leave
    (λ knows k n at free. inl (su_closed s o h k ∙ ap (λ (ks : List ℕ). has ks k) (sym same) ∙ sym (closed_by Course.Surprising m.frame (ap course_of kind ∙ h.course) k)
    ∙ subst (λ (b : Beside). closed (after_job m.frame b (with_core m.core s)).operation k ≡ false) on free))

kind_finish_on : (o : Job) (todo : List ℕ) → (su.finish_on o todo).kind ≡ o.kind
kind_finish_on o [] = refl
kind_finish_on o (k ∷ ks) = refl

kind_tell_on : (o : Job) (todo : List ℕ) → (su.tell_on o todo).kind ≡ o.kind
kind_tell_on o [] = kind_finish_on o o.set
kind_tell_on o (k ∷ ks) = refl

set_finish_on : (o : Job) (todo : List ℕ) → (su.finish_on o todo).set ≡ o.set
set_finish_on o [] = refl
set_finish_on o (k ∷ ks) = refl

set_tell_on : (o : Job) (todo : List ℕ) → (su.tell_on o todo).set ≡ o.set
set_tell_on o [] = set_finish_on o o.set
set_tell_on o (k ∷ ks) = refl

-- the operation ends, and of the set all have no drivers, or stayed behind
su_over : (s : State) (o : Job) → InSurprise s o → AllTold o.behind s.core.nodes → ((k : ℕ) (n : Node) → node_at k s.core.nodes ≡ Some n → has o.set k ≡ true → has o.behind k ≡ false → n.state ≡ NoStack) → ClosesStep s (job_lifted s (su.close s.core o))
su_over s o h stayed bare =
    let m = su.close s.core o in
    all_stay s (job_lifted s m) tt (λ knows k n at free. by_set k n at (has o.set k) refl)
  where
    barren : (k : ℕ) (n : Node) → node_at k s.core.nodes ≡ Some n → has o.set k ≡ true → (b : Bool) → has o.behind k ≡ b → is_barren n.state ≡ true
    barren k n at e true behind = ap is_barren (stayed k n behind at)
    barren k n at e false done = ap is_barren (bare k n at e done)

    by_set : (k : ℕ) (n : Node) → node_at k s.core.nodes ≡ Some n → (b : Bool) → has o.set k ≡ b → (closed s.operation k ≡ false) ⊎ (is_live (after_job o Beside.Over (with_core s.core s)) n ≡ false)
    by_set k n at true e = inr (dead_barren (after_job o Beside.Over (with_core s.core s)) n (barren k n at e (has o.behind k) refl) h.empty)
    by_set k n at false e = inl (su_closed s o h k ∙ e)

-- no device of the world has this birth number
outside_world : (s t : State) (b : ℕ) → t.world ≡ s.world → is_in_world s.world b ≡ false → (d : Device) → In d t.world → d.born ≢ b
outside_world s t b world out d there e = let q = in_world s.world d (subst (λ (w : List Device). In d w) world there) e in absurd (cc)
  where
    in_world : (world : List Device) (d : Device) → In d world → d.born ≡ b → is_in_world world b ≡ true
    in_world [] d there e = absurd there
    in_world (x ∷ xs) d (inl is) e = let f = ap (λ (z : Device). z.born) is in grind (arith, nat_tests)
    in_world (x ∷ xs) d (inr there) e = or_right (x.born == b) (is_in_world xs b) (in_world xs d there e)

closes_leaves : (s : State) (o : Job) (node : Node) → InSurprise s o → node_at node.serial s.core.nodes ≡ Some node → (has o.set node.parent ≡ true) ⊎ (is_in_world s.world node.born ≡ false) → ClosesStep s (job_lifted s (su.leaves s.core o node))
closes_leaves s o node h at why =
    let m = su.leaves s.core o node in
    let u = set_operation (Some m.frame) (with_core m.core s) in
    let t = relist node.path node.born u in
    let only = relist_only node.path node.born u in
    let set : m.frame.set ≡ o.set = set_finish_on o (rest o.todo) in
    let course : course_of m.frame.kind ≡ Course.Surprising = ap course_of (kind_finish_on o (rest o.todo)) ∙ h.course in
    let shut : (k : ℕ) → closed t.operation k ≡ has o.set k = λ k. ap (λ (x : Option Job). closed x k) only.operation ∙ closed_by Course.Surprising m.frame course k ∙ ap (λ (ks : List ℕ). has ks k) set in
    one_leaves s t (Label.Leave node.path) node at only.nodes
    (λ knows k n at_k free. inl (su_closed s o h k ∙ sym (shut k) ∙ free))
    (λ knows. elim why [
      | inl inside ↦ inr (λ p at_p. dead_closed t p (ap (closed t.operation) (own_serial node.parent p t.core.nodes at_p) ∙ shut node.parent ∙ inside))
      | inr out ↦ inl (outside_world s t node.born only.world out)
    ])

pub surprise_closing : (s : State) (o : Job) (stage : Stage) (m : JobMove) → InSurprise s o → SurpriseKeeps o stage s.core.nodes → SurpriseOrder s.core o stage → SurpriseTold s.core o stage → SurpriseStep s.core o (is_back s o Course.Surprising) s.handles stage m
    → ClosesStep s (job_lifted s m)
surprise_closing s o stage m h keeps order told (SurpriseStep.tells node w e) = su_on s o m h (kind_tell_on o (rest o.todo)) (set_tell_on o (rest o.todo)) tt refl
surprise_closing s o stage m h keeps order told (SurpriseStep.removes node w e) = su_on s o m h refl refl tt refl
surprise_closing s o stage m h keeps order told (SurpriseStep.acts _ _ (SurpriseAct.lags node first behind)) = su_on s o m h (kind_finish_on (record o { behind = node.serial ∷ o.behind }) (rest o.todo)) (set_finish_on (record o { behind = node.serial ∷ o.behind }) (rest o.todo)) tt refl
surprise_closing s o stage m h keeps order told (SurpriseStep.acts _ _ (SurpriseAct.leaves node first (inl inside))) = closes_leaves s o node h (head_found s.core.nodes o.todo node first).1 (inl inside)
surprise_closing s o stage m h keeps order told (SurpriseStep.acts _ _ (SurpriseAct.leaves node first (inr (target, gone)))) =
    let at = (head_found s.core.nodes o.todo node first).1 in
    let own : node.serial ≡ o.target = grind (arith, nat_tests) in
    closes_leaves s o node h at (inr (ap (is_born s.world) (sym (subst (λ (i : ℕ). node_at i s.core.nodes ≡ Some node) own at)) ∙ gone))
surprise_closing s o stage m h keeps order told (SurpriseStep.acts _ _ (SurpriseAct.remains node first other over)) = su_on s o m h (kind_finish_on o (rest o.todo)) (set_finish_on o (rest o.todo)) tt refl
surprise_closing s o stage m h keeps order told (SurpriseStep.acts _ _ (SurpriseAct.stays node first target back)) =
    let head = (head_found s.core.nodes o.todo node first).0 in
    let own : node.serial ≡ o.target = grind (arith, nat_tests) in
    let over = last_alone o.target o.todo (subst (λ (i : ℕ). HeadIs i o.todo) own head) keeps.ends in
    su_over s o h told.stayed
    (λ k n there in_set done.
    elim (cases_eq node.serial k) [
      | inl q ↦ head_bare o.todo k n.state (subst (λ (i : ℕ). HeadIs i o.todo) q head) (keeps.each k n there)
      | inr d ↦ order.0.bare k n there in_set (sym (rest_has node.serial k o.todo head d) ∙ ap (λ (ks : List ℕ). has ks k) over) done
    ])
surprise_closing s o stage m h keeps order told (SurpriseStep.acts _ _ SurpriseAct.closes) = su_over s o h told.stayed (λ k m at in_set done. order.bare k m at in_set refl done)

-- Finishes ----------------------------------------------------------------------------------------------------

pub record InFinish (s : State) (f : Job) (stage : Stage) : Type 0 where
  pub shuts : Shuts s f
  pub course : course_of f.kind ≡ Course.Finishing
  pub empty : s.activities ≡ []
  pub order : Ascending 0 s.core.nodes
  pub leaving : stage_leaving f stage s.core.nodes s.world

-- and takes no drivers of others
fi_closed : (s : State) (f : Job) (stage : Stage) → InFinish s f stage → (k : ℕ) → closed s.operation k ≡ false
fi_closed s f stage h k = h.shuts k ∙ closed_by Course.Finishing f h.course k

-- a device that was told that it has gone
is_told_parent : (o : Option Node) (n : Node) → o ≡ Some n → was_told o ≡ true → is_barren n.state ≡ true
is_told_parent None n at told = absurd (cc)
is_told_parent (Some m) n at told = let same : m ≡ n = cc in subst (λ (x : Node). is_barren x.state ≡ true) same (by_state m.state told)
  where
    by_state : (x : DevState) → is_surprise_removed x ≡ true → is_barren x ≡ true
    by_state SurpriseRemoved told = refl
    by_state _ told = absurd (cc)

pub finish_closing : (s : State) (f : Job) (stage : Stage) (m : JobMove) → InFinish s f stage → FinishStep s.core f (is_back s f Course.Finishing) s.handles stage m → ClosesStep s (job_lifted s m)
finish_closing s f stage m h (FinishStep.acts _ _ (FinishAct.leaves node first)) =
    let at = (head_found s.core.nodes f.todo node first).1 in
    let u = set_operation (Some (fi.next_on f)) (with_core (drop_node node.serial s.core) s) in
    let t = relist node.path node.born u in
    let only = relist_only node.path node.born u in
    one_leaves s t (Label.Leave node.path) node at only.nodes (λ knows k n at_k free. inl (fi_closed s f stage h k))
    (λ knows. elim (h.leaving node first) [
      | inl told ↦ inr (λ p at_p.
          let was = (left_from node.serial node.parent s.core.nodes p h.order (subst (λ (x : List Node). node_at node.parent x ≡ Some p) only.nodes at_p)).1 in
          dead_barren t p (is_told_parent (node_at node.parent s.core.nodes) p was told) (only.activities ∙ h.empty))
      | inr out ↦ inl (outside_world s t node.born only.world out)
    ])
finish_closing s f stage m h (FinishStep.removes node w e) = all_stay s (job_lifted s m) tt (λ knows k n at free. inl (fi_closed s f stage h k))
finish_closing s f stage m h (FinishStep.acts _ _ (FinishAct.holds node first)) = all_stay s (job_lifted s m) tt (λ knows k n at free. inl (fi_closed s f stage h k))
finish_closing s f stage m h (FinishStep.acts _ _ (FinishAct.closes none)) = all_stay s (job_lifted s m) tt (λ knows k n at free. inl (fi_closed s f stage h k))
