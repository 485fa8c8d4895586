-- In each state of a run a device that a disable is about to finish is not disabled yet.
use Rattle.std.proofs.Common.{ℕ, ◌≡◌, ◌==◌, ◌⊎◌, inl, inr, Bool, true, false, List, [], ◌∷◌, ◌++◌, map, Option, Some, None, refl, sym, ap, ◌∙◌, subst, arith}
use Rattle.std.proofs.lemmas.Bool.Decides.{nat_tests}
use Rattle.device_ids.specs.Folding.{same}
use Rattle.pnp_labels.specs.Texts.{Text}
use Rattle.pnp_labels.specs.declared.states.DevState.TheVariants.{RemovePending}
use Rattle.pnp_labels.specs.declared.states.Problem.{Problem}
use Rattle.pnp_labels.specs.declared.event.Event.{Event}
use Rattle.pnp_labels.specs.declared.label.OpKind.{OpKind}
use Rattle.pnp_labels.specs.declared.label.Label.{Label}
use Rattle.pnp_model.specs.Cores.{drop_node, is_node, node_at, bare, with_state, with_problem, stack_of}
use Rattle.pnp_model.specs.Frames.{first_node, rest}
use Rattle.pnp_model.specs.Keyed.{changed_first, those, without_first}
use Rattle.pnp_model.specs.Laws.{Reaches}
use Rattle.pnp_model.specs.Jobs.{JobMove, job_of}
use Rattle.pnp_model.specs.Machine.{IsStep, job_lifted, next}
use Rattle.pnp_model.specs.Records.{Course, Driver, Job, Node, Settings, Stage, State, Step, course_of}
use Rattle.pnp_model.specs.Removals.{ask_on, cancel_on, finish_on, finish_with, is_ejecting}
use Rattle.pnp_model.specs.Runs.{Entry, Goes}
use Rattle.pnp_model.specs.Runs.Entry.{Happens, Did, Declines}
use Rattle.pnp_model.specs.States.{relist, set_operation, unplug, with_core}
use Rattle.pnp_model.specs.Tests.{has, has_same, is_eject}
use Rattle.pnp_model.specs.Trees.{leaving}
use Rattle.pnp_laws.specs.Words.{IsWord}
use Rattle.pnp_laws.specs.Effects.{BeginsFor, OpEffect, PathEffect, Turn, begun}
use Rattle.pnp_laws.specs.Kept.{Ascending, Distinct, IsGood, JobFits, OperationFits}
use Rattle.pnp_laws.specs.Reached.{IsReached}
use Rattle.pnp_laws.proofs.EffectsOf.{effect_goes}
use Rattle.pnp_laws.proofs.EffectsOfEvents.{event_effect}
use Rattle.pnp_laws.proofs.EffectsOfOperations.{begun_work}
use Rattle.pnp_laws.proofs.EventChanges.{Answered, happens_outside}
use Rattle.pnp_laws.proofs.Finishing.{relist_only}
use Rattle.pnp_laws.proofs.Lists.{HeadIs, head_found, head_has, rest_not, rest_within}
use Rattle.pnp_laws.proofs.Lookups.{left_from, node_from, some_same}
use Rattle.pnp_laws.proofs.Reached.{reached_is_good}
use Rattle.pnp_laws.proofs.Reaching.{kept}
use Rattle.pnp_laws.proofs.Stages.{OperationStep, RemovalAct, RemovalStep, operation_step, own_step}
use Rattle.pnp_laws.proofs.Turns.{turn_fits}
use Rattle.pnp_model.specs.Events as ev

-- the path of the device is not disabled
abbrev pub IsFreshAt : ℕ → List Node → List Text → Type 0
IsFreshAt k nodes disabled = (n : Node) → node_at k nodes ≡ Some n → has_same n.path disabled ≡ false

-- the target, while it is still to be finished
abbrev pub FreshIn : Job → Stage → List Node → List Text → Type 0
FreshIn j Stage.Next nodes disabled = IsFreshAt j.target nodes disabled
FreshIn j Stage.Asking nodes disabled = IsFreshAt j.target nodes disabled
FreshIn j Stage.Removing nodes disabled = has j.todo j.target ≡ true → IsFreshAt j.target nodes disabled
FreshIn j Stage.Settling nodes disabled = has j.todo j.target ≡ true → IsFreshAt j.target nodes disabled
FreshIn j _ nodes disabled = Unit {0}

-- only a disable disables
abbrev pub FreshFor : Job → List Node → List Text → Type 0
FreshFor j nodes disabled = j.kind ≡ OpKind.Disable → FreshIn j j.stage nodes disabled

abbrev pub FreshWhile : Option Job → List Node → List Text → Type 0
FreshWhile None nodes disabled = Unit {0}
FreshWhile (Some j) nodes disabled = FreshFor j nodes disabled

abbrev pub IsTargetFresh : State → Type 0
IsTargetFresh s = FreshWhile s.operation s.core.nodes s.disabled

-- What keeps it -----------------------------------------------------------------------

changed_fresh : (k j : ℕ) (f : Node → Node) (nodes : List Node) (disabled : List Text) → ((n : Node) → (f n).serial ≡ n.serial) → ((n : Node) → (f n).path ≡ n.path)
    → IsFreshAt k nodes disabled → IsFreshAt k (changed_first (is_node j) f nodes) disabled
changed_fresh k j f nodes disabled serial path h m at =
    elim (node_from j k f nodes m serial at) [
      | inl (e, (n, there, is)) ↦ ap (λ (x : Node). has_same x.path disabled) is ∙ ap (λ (p : Text). has_same p disabled) (path n) ∙ h n there
      | inr (d, there) ↦ h m there
    ]

left_fresh : (k j : ℕ) (nodes : List Node) (disabled : List Text) → Ascending 0 nodes → IsFreshAt k nodes disabled → IsFreshAt k (without_first (is_node j) nodes) disabled
left_fresh k j nodes disabled order h m at = h m (left_from j k nodes m order at).1

-- where operation, nodes and disabled paths are the same
same_fresh : (s t : State) → t.operation ≡ s.operation → t.core.nodes ≡ s.core.nodes → t.disabled ≡ s.disabled → IsTargetFresh s → IsTargetFresh t
same_fresh s t a b c h =
    subst (λ (x : Option Job). FreshWhile x t.core.nodes t.disabled) (sym a)
    (subst (λ (x : List Node). FreshWhile s.operation x t.disabled) (sym b) (subst (λ (x : List Text). FreshWhile s.operation s.core.nodes x) (sym c) h))

relist_disabled : (path : Text) (born : ℕ) (s : State) → (relist path born s).disabled ≡ s.disabled
relist_disabled path born s = grind arith

relist_fresh : (path : Text) (born : ℕ) (s : State) → IsTargetFresh s → IsTargetFresh (relist path born s)
relist_fresh path born s h =
    let only = relist_only path born s in
    same_fresh s (relist path born s) only.operation only.nodes (relist_disabled path born s) h

-- What comes next, by the devices that are still to do ------------------------------------

module _ (old new : List Node) (disabled : List Text) where
  finishes : (o : Job) (ks : List ℕ) → (o.kind ≡ OpKind.Disable → has ks o.target ≡ true → IsFreshAt o.target new disabled) → FreshFor (finish_on old o ks) new disabled
  finishes o [] h = λ e. tt
  finishes o (k ∷ ks) h = by_stack (stack_of (node_at k old))
    where
      by_stack : (stack : List ℕ) → FreshFor (finish_with o (k ∷ ks) stack) new disabled
      by_stack [] = h
      by_stack (d ∷ ds) = h

  asks : (o : Job) (ks : List ℕ) → (o.kind ≡ OpKind.Disable → IsFreshAt o.target new disabled) → FreshFor (ask_on old o ks) new disabled
  asks o [] h = finishes o o.set (λ e there. h e)
  asks o (k ∷ ks) h = h

  cancels : (o : Job) (ks : List ℕ) → FreshFor (cancel_on o ks) new disabled
  cancels o [] = λ e. tt
  cancels o (k ∷ ks) = λ e. tt

-- A step of a removal -----------------------------------------------------------------------

module _ (s : State) (o : Job) where
  remains_fresh : (node : Node) (problem : Problem) → (o.kind ≡ OpKind.Disable → has o.todo o.target ≡ true → IsFreshAt o.target s.core.nodes s.disabled)
      → FreshFor (finish_on s.core.nodes o (rest o.todo)) (changed_first (is_node node.serial) (with_problem (Some problem)) s.core.nodes) s.disabled
  remains_fresh node problem h =
      finishes s.core.nodes _ s.disabled o (rest o.todo)
      (λ e there. changed_fresh o.target node.serial (with_problem (Some problem)) s.core.nodes s.disabled (λ n. refl) (λ n. refl) (h e (rest_within o.target o.todo there)))

  leaves_fresh : (node : Node) → Ascending 0 s.core.nodes → (o.kind ≡ OpKind.Disable → has o.todo o.target ≡ true → IsFreshAt o.target s.core.nodes s.disabled)
      → FreshFor (finish_on s.core.nodes o (rest o.todo)) (without_first (is_node node.serial) s.core.nodes) s.disabled
  leaves_fresh node order h =
      finishes s.core.nodes _ s.disabled o (rest o.todo)
      (λ e there. left_fresh o.target node.serial s.core.nodes s.disabled order (h e (rest_within o.target o.todo there)))

  -- the target is no longer to do
  not_again : (node : Node) → HeadIs node.serial o.todo → Distinct o.todo → (node.serial == o.target) ≡ true → has (rest o.todo) o.target ≡ true → ⊥
  not_again node head distinct is there =
      let own : node.serial ≡ o.target = grind (arith, nat_tests) in
      let gone = subst (λ (k : ℕ). has (rest o.todo) k ≡ false) own (rest_not node.serial o.todo head distinct) in
      cc

  act_fresh : (stage : Stage) (m : JobMove) → Ascending 0 s.core.nodes → Distinct o.todo → (o.kind ≡ OpKind.Disable → FreshIn o stage s.core.nodes s.disabled) → RemovalAct s.core o stage m → IsTargetFresh (job_lifted s m).state
  act_fresh stage m order distinct h (RemovalAct.declines node first) = cancels s.core.nodes _ s.disabled (record o { refused = node.serial ∷ o.refused }) o.agreed
  act_fresh stage m order distinct h (RemovalAct.leaves node first inside) =
      relist_fresh node.path node.born (set_operation (Some (finish_on s.core.nodes o (rest o.todo))) (with_core (drop_node node.serial s.core) s)) (leaves_fresh node order h)
  act_fresh stage m order distinct h (RemovalAct.ejects node first) =
      relist_fresh node.path node.born (unplug node.born (set_operation (Some (finish_on s.core.nodes o (rest o.todo))) (with_core (drop_node node.serial s.core) s))) (leaves_fresh node order h)
  act_fresh stage m order distinct h (RemovalAct.disables node first over target) =
      finishes s.core.nodes _ (s.disabled ++ node.path ∷ []) o (rest o.todo) (λ e there. absurd (not_again node (head_found s.core.nodes o.todo node first).0 distinct target there))
  act_fresh stage m order distinct h (RemovalAct.remains node problem first over other) = remains_fresh node problem h
  act_fresh stage m order distinct h RemovalAct.closes = tt

  removal_fresh : (stage : Stage) (m : JobMove) → Ascending 0 s.core.nodes → Distinct o.todo → (o.kind ≡ OpKind.Disable → FreshIn o stage s.core.nodes s.disabled) → RemovalStep s.core o stage m → IsTargetFresh (job_lifted s m).state
  removal_fresh stage m order distinct h (RemovalStep.agrees node w e good) =
      asks s.core.nodes _ s.disabled (record o { agreed = node.serial ∷ o.agreed }) (rest o.todo)
      (λ e. changed_fresh o.target node.serial (with_state RemovePending) s.core.nodes s.disabled (λ n. refl) (λ n. refl) (h e))
  removal_fresh stage m order distinct h (RemovalStep.refuses node w e bad) = λ e. tt
  removal_fresh stage m order distinct h (RemovalStep.takes_back node w e) = cancels s.core.nodes _ s.disabled o o.agreed
  removal_fresh stage m order distinct h (RemovalStep.cancels node w e) = cancels s.core.nodes _ s.disabled o (rest o.todo)
  removal_fresh stage m order distinct h (RemovalStep.removes node w e) = λ e there. changed_fresh o.target node.serial bare s.core.nodes s.disabled (λ n. refl) (λ n. refl) (h e there)
  removal_fresh stage m order distinct h (RemovalStep.acts at move act) = act_fresh stage m order distinct h act

-- A step where no operation runs ----------------------------------------------------------------

-- a disable begins where the path is not disabled
begins_fresh : (s : State) (kind : OpKind) (node : Node) → node_at node.serial s.core.nodes ≡ Some node → BeginsFor s kind node → kind ≡ OpKind.Disable → FreshWhile (Some (begun s kind node)) s.core.nodes s.disabled
begins_fresh s OpKind.Disable node at fits disable =
    let set = leaving s.core node.serial in
    asks s.core.nodes s.core.nodes s.disabled (record (job_of OpKind.Disable node) { set = set; ejecting = map (λ r. r.member) (those (is_ejecting set) s.core.relations) }) _
    (λ e m there. ap (λ (x : Node). has_same x.path s.disabled) (some_same (node_at node.serial s.core.nodes) m node there at) ∙ fits)
begins_fresh s _ node at fits disable = absurd (cc)

-- Each step ----------------------------------------------------------------------------------------

none_fresh : (t : State) → t.operation ≡ None → IsTargetFresh t
none_fresh t now = subst (λ (x : Option Job). FreshWhile x t.core.nodes t.disabled) (sym now) tt

-- an operation that is no disable
other_fresh : (t : State) (p : Job) → t.operation ≡ Some p → (p.kind ≡ OpKind.Disable → ⊥) → IsTargetFresh t
other_fresh t p now other = subst (λ (x : Option Job). FreshWhile x t.core.nodes t.disabled) (sym now) (λ e. absurd (other e))

-- where its next device is taken
turn_fresh : (s : State) (o p : Job) → Turn s o p → course_of o.kind ≡ Course.Removing → FreshFor o s.core.nodes s.disabled → FreshFor p s.core.nodes s.disabled
turn_fresh s o _ (Turn.same _) course h = h
turn_fresh s _ _ (Turn.queries o node goes is none first asked) course h = λ e. subst (λ (x : Stage). FreshIn o x s.core.nodes s.disabled) is (h e)
turn_fresh s _ _ (Turn.removes o node d ds goes is none first told stack) course h = absurd (let no = sym goes ∙ course in cc)
turn_fresh s _ _ (Turn.settles o node goes is none first told stack) course h = absurd (let no = sym goes ∙ course in cc)
turn_fresh s _ _ (Turn.finishes f k node goes is none ready at) course h = absurd (let no = sym goes ∙ course in cc)

operation_fresh : (s : State) (o : Job) (step : Step) → Ascending 0 s.core.nodes → course_of o.kind ≡ Course.Removing → Distinct o.todo → FreshFor o s.core.nodes s.disabled → OperationStep s o step → IsTargetFresh step.state
operation_fresh s o step order course distinct h (OperationStep.asks node w asks) = h
operation_fresh s o step order course distinct h (OperationStep.removes stage m goes is x) = removal_fresh s o stage m order distinct (subst (λ (y : Stage). o.kind ≡ OpKind.Disable → FreshIn o y s.core.nodes s.disabled) is h) x
operation_fresh s o step order course distinct h (OperationStep.rebalances stage m goes is x) = absurd (let no = sym goes ∙ course in cc)
operation_fresh s o step order course distinct h (OperationStep.surprises stage m goes is x) = absurd (let no = sym goes ∙ course in cc)
operation_fresh s o step order course distinct h (OperationStep.finishes stage m goes is x) = absurd (let no = sym goes ∙ course in cc)

-- the step of a disable
disable_fresh : (settings : Settings) (s : State) (step : Step) (o : Job) → IsGood s → s.operation ≡ Some o → o.kind ≡ OpKind.Disable → IsStep settings (next settings s) step → IsTargetFresh s → IsTargetFresh step.state
disable_fresh settings s step o good runs disable goes h =
    let course = ap course_of disable in
    let fresh = subst (λ (x : Option Job). FreshWhile x s.core.nodes s.disabled) runs h in
    let fits = subst (λ (x : Option Job). OperationFits x s.core.nodes) runs good.fits in
    let taken = operation_step settings s o step runs goes in
    let later = turn_fits s good.stacks good.serials o taken.now taken.turn fits in
    let kind : taken.now.kind ≡ o.kind = turn_kind s o taken.now taken.turn in
    let still = ap course_of kind ∙ course in
    operation_fresh s taken.now step good.serials still (subst (λ (x : Course). JobFits x taken.now s.core.nodes) still later).todo (turn_fresh s o taken.now taken.turn course fresh) (own_step s taken.now step later taken.is)
  where
    turn_kind : (s : State) (o p : Job) → Turn s o p → p.kind ≡ o.kind
    turn_kind s _ _ (Turn.same o) = refl
    turn_kind s _ _ (Turn.queries o node goes is none first asked) = refl
    turn_kind s _ _ (Turn.removes o node d ds goes is none first told stack) = refl
    turn_kind s _ _ (Turn.settles o node goes is none first told stack) = refl
    turn_kind s _ _ (Turn.finishes f k node goes is none ready at) = refl

-- is it a disable?
either_kind : (kind : OpKind) → (kind ≡ OpKind.Disable) ⊎ (kind ≡ OpKind.Disable → ⊥)
either_kind OpKind.Disable = inl refl
either_kind _ = inr (λ e. cc)

step_fresh : (settings : Settings) (s : State) (label : Label) (t : State) → IsGood s → OpEffect s label t → Goes settings s (Did label) t → IsTargetFresh s → IsTargetFresh t
step_fresh settings s label t good (OpEffect.idles none now prints) goes h = none_fresh t now
step_fresh settings s label t good (OpEffect.begins kind node none alone at fits is) goes h =
    elim (either_kind kind) [
      | inl e ↦ subst (λ (x : Step). IsTargetFresh x.state) (sym is) (begins_fresh s kind node at fits e)
      | inr other ↦ other_fresh t (begun s kind node) (ap (λ (x : Step). x.state.operation) is) (λ e. other (sym (begun_work s kind node).0 ∙ e))
    ]
step_fresh settings s label t good (OpEffect.goes o p runs now work prints) goes h =
    elim (either_kind o.kind) [
      | inl e ↦ disable_fresh settings s (record { label = label; state = t }) o good runs e goes h
      | inr other ↦ other_fresh t p now (λ e. other (sym work.kind ∙ e))
    ]
step_fresh settings s label t good (OpEffect.ends o result runs now prints by over) goes h = none_fresh t now

-- Events -------------------------------------------------------------------------------------------

-- no path is disabled that was not
abbrev IsFewer : List Text → List Text → Type 0
IsFewer old new = (p : Text) → has_same p old ≡ false → has_same p new ≡ false

fewer_same : (old new : List Text) → new ≡ old → IsFewer old new
fewer_same old new e p h = ap (has_same p) e ∙ h

fewer_without : (test : Text → Bool) (paths : List Text) → IsFewer paths (without_first test paths)
fewer_without test [] p h = h
fewer_without test (q ∷ qs) p h = grind (arith, fewer_without test qs p)

fewer_paths : (s : State) (label : Label) (t : State) → IsWord label → PathEffect s label t → IsFewer s.disabled t.disabled
fewer_paths s label t word (PathEffect.same e) = fewer_same s.disabled t.disabled e
fewer_paths s label t word (PathEffect.disables o node runs course first prints e) = absurd (subst (λ (x : Label). IsWord x) prints word)
fewer_paths s label t word (PathEffect.enables path e) = subst (IsFewer s.disabled) (sym e) (fewer_without (same path) s.disabled)

fewer_fresh : (nodes : List Node) (old new : List Text) → IsFewer old new → (o : Option Job) → FreshWhile o nodes old → FreshWhile o nodes new
fewer_fresh nodes old new fewer None h = tt
fewer_fresh nodes old new fewer (Some o) h = λ e. by_stage o.stage (h e)
  where
    by_stage : (stage : Stage) → FreshIn o stage nodes old → FreshIn o stage nodes new
    by_stage Stage.Next g = λ n at. fewer n.path (g n at)
    by_stage Stage.Asking g = λ n at. fewer n.path (g n at)
    by_stage Stage.Removing g = λ there n at. fewer n.path (g there n at)
    by_stage Stage.Settling g = λ there n at. fewer n.path (g there n at)
    by_stage _ g = tt

-- an answer leaves all but its walk
answered_fresh : (nodes : List Node) (disabled : List Text) (old new : Option Job) → Answered old new → FreshWhile old nodes disabled → FreshWhile new nodes disabled
answered_fresh nodes disabled old new (inl e) h = subst (λ (x : Option Job). FreshWhile x nodes disabled) (sym e) h
answered_fresh nodes disabled old new (inr (ok, o, was, is)) h =
    let as_was : FreshFor o nodes disabled = subst (λ (x : Option Job). FreshWhile x nodes disabled) was h in subst (λ (x : Option Job). FreshWhile x nodes disabled) (sym is) as_was

event_fresh : (s : State) (event : Event) → IsTargetFresh s → IsTargetFresh (ev.happens s event).state
event_fresh s event h =
    let t = (ev.happens s event).state in
    let out = happens_outside s event in
    subst (λ (x : List Node). FreshWhile t.operation x t.disabled) (sym out.nodes)
    (fewer_fresh s.core.nodes s.disabled t.disabled (fewer_paths s (ev.happens s event).label t out.word (event_effect s event).paths) t.operation (answered_fresh s.core.nodes s.disabled s.operation t.operation out.operation h))

-- Runs -----------------------------------------------------------------------------------------------

goes_fresh : (settings : Settings) (rack : List Driver) (old : State) (entry : Entry) (new : State) → IsReached settings rack old → IsTargetFresh old → Goes settings old entry new → IsTargetFresh new
goes_fresh settings rack old (Happens event label) new reached h goes = subst (λ (x : Step). IsTargetFresh x.state) goes.1 (event_fresh old event h)
goes_fresh settings rack old (Did label) new reached h goes =
    step_fresh settings old label new (reached_is_good settings rack old reached) (effect_goes settings old (Did label) new goes).operation goes h
goes_fresh settings rack old (Declines label) new reached h goes = subst (λ (x : State). IsTargetFresh x) (sym goes.dropped) h

pub target_fresh : (settings : Settings) (rack : List Driver) (entries : List Entry) (s : State) → Reaches settings rack entries s → IsTargetFresh s
target_fresh settings rack entries s run = kept IsTargetFresh settings rack (goes_fresh settings rack) tt s (entries, run)

-- a removal that ejects nothing is a disable
only_disable : (kind : OpKind) → course_of kind ≡ Course.Removing → is_eject kind ≡ false → kind ≡ OpKind.Disable
only_disable OpKind.Disable course none = refl
only_disable OpKind.Eject course none = absurd (cc)
only_disable _ course none = absurd (cc)

-- the path of a device that is about to be disabled is not disabled yet
pub settles_new : (settings : Settings) (rack : List Driver) (entries : List Entry) (s : State) → Reaches settings rack entries s → (o : Job) (n : Node)
    → s.operation ≡ Some o → course_of o.kind ≡ Course.Removing → o.stage ≡ Stage.Settling → first_node s.core.nodes o.todo ≡ Some n → (n.serial == o.target) ≡ true → is_eject o.kind ≡ false
    → has_same n.path s.disabled ≡ false
settles_new settings rack entries s run o n runs course stage first is none =
    let fresh = subst (λ (x : Option Job). FreshWhile x s.core.nodes s.disabled) runs (target_fresh settings rack entries s run) in
    let settling = subst (λ (x : Stage). FreshIn o x s.core.nodes s.disabled) stage (fresh (only_disable o.kind course none)) in
    let found = head_found s.core.nodes o.todo n first in
    let own : n.serial ≡ o.target = grind (arith, nat_tests) in
    let there = subst (λ (k : ℕ). has o.todo k ≡ true) own (head_has n.serial o.todo found.0) in
    settling there n (subst (λ (k : ℕ). node_at k s.core.nodes ≡ Some n) own found.1)
