-- While neither a surprise removal nor a finish runs, who is ready to be finished was so before the step or the event, or its last
-- handle has just been closed.
use Rattle.std.proofs.Common.{ℕ, ◌≡◌, ◌≢◌, ◌⊎◌, ◌∙◌, inl, inr, Bool, true, false, not, ◌&&◌, nat_lt, List, [], ◌∷◌, ◌++◌, Option, Some, refl, sym, ap, subst, arith}
use Rattle.std.proofs.lemmas.Bool.{cases_eq}
use Rattle.std.proofs.lemmas.Bool.Decides.{nat_tests}
use Rattle.device_ids.specs.Folding.{same}
use Rattle.pnp_labels.specs.declared.label.Label.{Label}
use Rattle.pnp_labels.specs.declared.label.OpKind.{OpKind}
use Rattle.pnp_labels.specs.declared.states.DevState.{DevState}
use Rattle.pnp_labels.specs.declared.states.DevState.TheVariants.{NoStack, NotStarted, SurpriseRemoved}
use Rattle.pnp_labels.specs.declared.words.Minor.{Minor}
use Rattle.pnp_labels.specs.declared.words.Minor.TheVariants.{Start, QueryRemove, Remove, QueryStop, SurpriseRemoval}
use Rattle.pnp_model.specs.Cores.{change_node, drop_node, node_at, stacked, strip}
use Rattle.pnp_model.specs.Events.{finish_due, with_handles}
use Rattle.pnp_model.specs.Frames.{first_node}
use Rattle.pnp_model.specs.Handles.{closed_with, comes_after, is_handle_of, is_open, one_less, one_more, opened, opened_with}
use Rattle.pnp_model.specs.Keyed.{changed_first, put_before, without_first}
use Rattle.pnp_model.specs.Rebalances.{committed, movers, plan_of}
use Rattle.pnp_model.specs.Records.{Course, Duty, Handle, Job, Node, Phase, Stage, State, Step, Task, Walk, course_of}
use Rattle.pnp_model.specs.Runs.{Entry}
use Rattle.pnp_model.specs.States.{new_child}
use Rattle.pnp_model.specs.Tests.{is_surprise_removed}
use Rattle.pnp_model.specs.Walks.{state_after}
use Rattle.pnp_laws.specs.Effects.{Alters, HandleEffect, NodeEffect, Request, Running, Turn, to_leave}
use Rattle.pnp_laws.specs.Waiting.{IsNeither, NeitherRuns, is_to_finish}
use Rattle.pnp_laws.proofs.Asked.{left_bare}
use Rattle.pnp_laws.proofs.DependentsTold.{kept_told}
use Rattle.pnp_laws.proofs.EffectViews.{Origin, acting_fits, alters_keeps, origin}
use Rattle.pnp_laws.proofs.EffectsOfOperations.{turn_work}
use Rattle.pnp_laws.proofs.FirstFinish.{finish_last}
use Rattle.pnp_laws.proofs.Lists.{head_found, head_has}
use Rattle.pnp_laws.proofs.Lookups.{node_found, some_same}
use Rattle.pnp_laws.proofs.Readied.{AllBare, bare_changed, bare_joined, bare_left, bare_mapped, bare_related, bare_still, bare_stripped}
use Rattle.pnp_laws.proofs.Standing.{Kept, RemovalTold, told_by}
use Rattle.pnp_laws.proofs.Tolds.{was_waiting}
use Rattle.pnp_laws.proofs.Turns.{running_good}
use Rattle.pnp_laws.proofs.TurnsKept.{running_told}
use Rattle.pnp_laws.proofs.FitsBy.{asked_is}
use Rattle.pnp_laws.specs.Kept.{asked_in}

-- Which requests are made ------------------------------------------------------------------------------

turn_neither : (s : State) (o p : Job) → Turn s o p → NeitherRuns (Some o) → NeitherRuns (Some p)
turn_neither s o p turn h = subst (λ (x : OpKind). IsNeither (course_of x)) (sym (turn_work s o p turn).kind) h

-- no device is told that it has gone
untelling : (course : Course) (stage : Stage) → IsNeither course → asked_in course stage ≡ Some SurpriseRemoval → ⊥
untelling Course.Rebalancing stage neither is = rebalance stage is
  where
    rebalance : (stage : Stage) → asked_in Course.Rebalancing stage ≡ Some SurpriseRemoval → ⊥
    rebalance Stage.Asking e = cc
    rebalance _ e = cc
untelling Course.Removing stage neither is = removal stage is
  where
    removal : (stage : Stage) → asked_in Course.Removing stage ≡ Some SurpriseRemoval → ⊥
    removal Stage.Asking e = cc
    removal _ e = cc
untelling _ stage neither is = neither

-- a rebalance removes no drivers
unremoving : (stage : Stage) → asked_in Course.Rebalancing stage ≡ Some Remove → ⊥
unremoving Stage.Asking e = cc
unremoving _ e = cc

told_before : (minor : Minor) (bad : Bool) (x : DevState) → state_after minor bad x ≡ SurpriseRemoved → (minor ≡ SurpriseRemoval) ⊎ (x ≡ SurpriseRemoved)
told_before Start true x h = inr h
told_before QueryRemove true x h = inr h
told_before QueryStop true x h = inr h
told_before SurpriseRemoval bad x h = inl refl
told_before _ bad x h = absurd (cc)

bare_before : (minor : Minor) (bad : Bool) (x : DevState) → minor ≢ Remove → state_after minor bad x ≡ NoStack → x ≡ NoStack
bare_before Start true x other h = h
bare_before QueryRemove true x other h = h
bare_before QueryStop true x other h = h
bare_before Remove bad x other h = absurd (other refl)
bare_before _ bad x other h = absurd (cc)

stacked_told : (x : DevState) → stacked x ≡ SurpriseRemoved → x ≡ SurpriseRemoved
stacked_told NoStack h = absurd (cc)
stacked_told _ h = h

stacked_full : (x : DevState) → stacked x ≡ NoStack → x ≡ NoStack
stacked_full NoStack h = refl
stacked_full _ h = h

module _ (s : State) (kept : Kept s) (neither : NeitherRuns s.operation) where
  running_neither : (o : Job) → Running s o → NeitherRuns (Some o)
  running_neither o running = turn_neither s running.before o running.turn (subst (λ (x : Option Job). NeitherRuns x) running.runs neither)

  asks_no_surprise : (node : Node) (minor : Minor) (w : Walk) → Request s node minor w → minor ≡ SurpriseRemoval → ⊥
  asks_no_surprise node _ _ (Request.starts w acts) is = cc
  asks_no_surprise node _ _ (Request.undoes w acts) is = cc
  asks_no_surprise node _ w (Request.operates _ asks) is =
      let o = asks.operation in
      untelling (course_of o.kind) o.stage (running_neither o asks.runs) (asked_is o s.core.nodes w (running_good s o asks.runs kept.good).fits asks.walk ∙ ap Some is)

  -- who loses its drivers does not wait
  loser_untold : (node : Node) (minor : Minor) (w : Walk) → node_at node.serial s.core.nodes ≡ Some node → Request s node minor w → minor ≡ Remove → node.state ≢ SurpriseRemoved
  loser_untold node _ _ at (Request.starts w acts) is state = cc
  loser_untold node _ _ at (Request.undoes w acts) is state = let fit : node.state ≡ NotStarted = (acting_fits s node.serial node (Phase.Removing w) at acts kept.good).1 in cc
  loser_untold node _ w at (Request.operates _ asks) is state =
      by_course (course_of asks.operation.kind) refl (asked_is asks.operation s.core.nodes w (running_good s asks.operation asks.runs kept.good).fits asks.walk ∙ ap Some is) (running_neither asks.operation asks.runs)
    where
      by_stage : (o : Job) (stage : Stage) → first_node s.core.nodes o.todo ≡ Some node → asked_in Course.Removing stage ≡ Some Remove → RemovalTold s.core o stage → ⊥
      by_stage o Stage.Removing first e told = told.1 node.serial node (head_has node.serial o.todo (head_found s.core.nodes o.todo node first).0) at state
      by_stage o Stage.Asking first e told = cc
      by_stage o _ first e told = cc

      by_course : (course : Course) → course_of asks.operation.kind ≡ course → asked_in course asks.operation.stage ≡ Some Remove → IsNeither course → ⊥
      by_course Course.Rebalancing course e none = unremoving asks.operation.stage e
      by_course Course.Removing course e none =
          by_stage asks.operation asks.operation.stage asks.first e (told_by Course.Removing asks.operation s.core course (running_told s asks.operation asks.runs kept))
      by_course _ course e none = none

  -- Nodes and relations ----------------------------------------------------------------------------------

  module _ (label : Label) (t : State) (effect : NodeEffect s label t) (k : ℕ) (m : Node) (now : node_at k t.core.nodes ≡ Some m) (state : m.state ≡ SurpriseRemoved) where
    from : (x : Node) → Origin s label t k x → x.state ≡ SurpriseRemoved → (n : Node) × (node_at k s.core.nodes ≡ Some n) × (n.state ≡ SurpriseRemoved)
    from x (Origin.was _ at) told = (x, at, told)
    from _ (Origin.walked n minor w bad at request other ends verdict prints) told =
        elim (told_before minor bad n.state told) [
          | inl e ↦ absurd (asks_no_surprise n minor w request e)
          | inr q ↦ (n, at, q)
        ]
    from _ (Origin.troubled n problem at) told = (n, at, told)
    from _ (Origin.stacks n d ds name at acts prints) told = (n, at, stacked_told n.state told)
    from _ (Origin.assigned n phase plan at acts search part same) told = (n, at, told)
    from _ (Origin.stripped n w at request prints) told = absurd (cc)
    from _ (Origin.commits r n runs course is at) told = (n, at, told)
    from _ (Origin.joins node d below gone own) told = absurd (cc)

    pub waited : (n : Node) × (node_at k s.core.nodes ≡ Some n) × (n.state ≡ SurpriseRemoved)
    waited = from m (origin s label t kept.good.serials k m effect now) state

    alters_bare : (j : ℕ) (f : Node → Node) → Alters s label t j f → (x : Node) → node_at j s.core.nodes ≡ Some x → (f x).state ≡ NoStack → x.state ≡ NoStack
    alters_bare j f (Alters.walked node minor w bad at request other ends verdict prints) x there h =
        subst (λ (y : Node). y.state ≡ NoStack) (some_same (node_at j s.core.nodes) node x at there) (bare_before minor bad node.state other h)
    alters_bare j f (Alters.troubled _ problem) x there h = h
    alters_bare j f (Alters.stacks node d ds name at acts prints) x there h =
        subst (λ (y : Node). y.state ≡ NoStack) (some_same (node_at j s.core.nodes) node x at there) (stacked_full node.state h)
    alters_bare j f (Alters.assigned node phase plan acts search part same) x there h = h

    -- the device that lost its drivers did not hang on it
    bare_loser : (node : Node) (w : Walk) → node_at node.serial s.core.nodes ≡ Some node → Request s node Remove w → t.core.nodes ≡ (strip node.serial s.core).nodes → AllBare (strip node.serial s.core) k → AllBare s.core k
    bare_loser node w there request a bare i x at on =
        elim (cases_eq node.serial i) [
          | inl e ↦
              let own : node ≡ x = some_same (node_at i s.core.nodes) node x (subst (λ (y : ℕ). node_at y s.core.nodes ≡ Some node) e there) at in
              let told = kept_told s kept neither k waited.0 waited.1 waited.2 i x at on in
              absurd (loser_untold node Remove w there request refl (subst (λ (y : Node). y.state ≡ SurpriseRemoved) (sym own) told))
          | inr d ↦
              let other = (was_waiting s.core node.serial k m (subst (λ (y : List Node). node_at k y ≡ Some m) a now) state).0 in
              bare_stripped s.core k node.serial other bare i x at d on
        ]

    -- what hung on it had no drivers
    pub bare_was : AllBare t.core k → NodeEffect s label t → AllBare s.core k
    bare_was bare (NodeEffect.same a b) = bare_still s.core t.core k a b bare
    bare_was bare (NodeEffect.changed j f alters a b) =
        let ids = alters_keeps s label t j f alters in
        bare_changed s.core k j f ids.serial ids.parent (alters_bare j f alters) (bare_still (change_node j f s.core) t.core k a b bare)
    bare_was bare (NodeEffect.stripped node w there request ends prints a b) = bare_loser node w there request a (bare_still (strip node.serial s.core) t.core k a b bare)
    bare_was bare (NodeEffect.commits r runs course is a b) = bare_mapped s.core t.core k (committed r.wanted r.target (movers r) (plan_of r.found)) a b (λ x. refl) (λ x. refl) (λ x. refl) bare
    bare_was bare (NodeEffect.joins node d none there up below is) = bare_joined s.core k (new_child node.serial d s) (subst (λ (x : Step). AllBare x.state.core k) is bare)
    bare_was bare (NodeEffect.left node o runs first a b) =
        bare_left s.core k node.serial node (head_found s.core.nodes (to_leave o) node first).1 (left_bare o s.core.nodes node (running_good s o runs kept.good).fits first) (bare_still (drop_node node.serial s.core) t.core k a b bare)
    bare_was bare (NodeEffect.related r rel a b) = bare_related s.core t.core k r a b bare

-- Handles ------------------------------------------------------------------------------------------------

any_changed : (k j : ℕ) (f : Handle → Handle) (hs : List Handle) → ((h : Handle) → (f h).serial ≡ h.serial) → is_open (changed_first (is_handle_of j) f hs) k ≡ is_open hs k
any_changed k j f [] keeps = refl
any_changed k j f (x ∷ xs) keeps = grind (arith, keeps x, any_changed k j f xs keeps)

open_put : (k j : ℕ) (hs : List Handle) → is_open hs k ≡ true → is_open (put_before (comes_after j) (record { serial = j; count = 1 }) hs) k ≡ true
open_put k j [] h = absurd (cc)
open_put k j (x ∷ xs) h = grind (arith, nat_tests, open_put k j xs)

open_other : (k j : ℕ) (hs : List Handle) → j ≢ k → is_open (without_first (is_handle_of j) hs) k ≡ is_open hs k
open_other k j [] d = refl
open_other k j (x ∷ xs) d = grind (arith, nat_tests, open_other k j xs d)

opened_keeps : (k j : ℕ) (hs : List Handle) → is_open (opened j hs) k ≡ false → is_open hs k ≡ false
opened_keeps k j hs h = by_open (is_open hs j) h
  where
    by_open : (b : Bool) → is_open (opened_with j hs b) k ≡ false → is_open hs k ≡ false
    by_open true h = sym (any_changed k j one_more hs (λ x. refl)) ∙ h
    by_open false h = by_own (is_open hs k) refl
      where
        by_own : (b : Bool) → is_open hs k ≡ b → b ≡ false
        by_own true e = let more = open_put k j hs e in cc
        by_own false e = refl

module _ (s : State) (entry : Entry) (t : State) (kept : Kept s) (k : ℕ) (n : Node) (at : node_at k s.core.nodes ≡ Some n) (state : n.state ≡ SurpriseRemoved) where
  -- no handle was open, or its last one was closed, and it is to be finished
  pub shut_was : HandleEffect s entry t → is_open t.handles k ≡ false → (is_open s.handles k ≡ false) ⊎ (is_to_finish t.tasks k ≡ true)
  shut_was (HandleEffect.same e) shut = inl (subst (λ (hs : List Handle). is_open hs k ≡ false) e shut)
  shut_was (HandleEffect.opens node path label none found up started event is) shut = inl (opened_keeps k node.serial s.handles (subst (λ (x : State). is_open x.handles k ≡ false) is shut))
  shut_was (HandleEffect.closes node path label handle found there event handles is) shut = by_more (nat_lt 1 handle.count) handles is
    where
      own : node.serial ≡ k → node ≡ n
      own e = some_same (node_at k s.core.nodes) node n (subst (λ (i : ℕ). node_at i s.core.nodes ≡ Some node) e (node_found (λ n. same n.path path) 0 s.core.nodes node kept.good.serials found).1) at

      by_more : (more : Bool) → t.handles ≡ closed_with node.serial s.handles more → t ≡ finish_due node (not more && is_surprise_removed node.state) (with_handles t.handles s) → (is_open s.handles k ≡ false) ⊎ (is_to_finish t.tasks k ≡ true)
      by_more true e is = inl (sym (any_changed k node.serial one_less s.handles (λ x. refl)) ∙ subst (λ (hs : List Handle). is_open hs k ≡ false) e shut)
      by_more false e is =
          elim (cases_eq node.serial k) [
            | inl q ↦
                let told : is_surprise_removed node.state ≡ true = ap (λ (x : Node). is_surprise_removed x.state) (own q) ∙ ap is_surprise_removed state in
                let tasks = ap (λ (x : State). x.tasks) is ∙ ap (λ (b : Bool). (finish_due node b (with_handles t.handles s)).tasks) told in
                inr (subst (λ (ts : List Task). is_to_finish ts k ≡ true) (sym tasks) (subst (λ (i : ℕ). is_to_finish (s.tasks ++ record { kind = Duty.Begins OpKind.Finish; serial = i } ∷ []) k ≡ true) (sym q) (finish_last s.tasks k)))
            | inr d ↦ inl (sym (open_other k node.serial s.handles d) ∙ subst (λ (hs : List Handle). is_open hs k ≡ false) e shut)
          ]
