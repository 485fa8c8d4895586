-- Each step and each event keeps that who has a handle is there, and up or waiting to be finished.
use Rattle.std.proofs.Common.{ℕ, ◌≡◌, ◌⊎◌, ◌∙◌, inl, inr, Bool, true, false, cond, nat_lt, List, [], ◌∷◌, Option, Some, None, refl, sym, ap, subst, arith}
use Rattle.std.specs.List.{list_any}
use Rattle.std.proofs.lemmas.Bool.Decides.{nat_tests}
use Rattle.device_ids.specs.Folding.{same}
use Rattle.pnp_labels.specs.declared.words.Minor.{Minor}
use Rattle.pnp_labels.specs.declared.words.Minor.TheVariants.{Start, QueryRemove, QueryStop, Remove}
use Rattle.pnp_labels.specs.declared.states.DevState.{DevState}
use Rattle.pnp_labels.specs.declared.states.DevState.TheVariants.{NoStack}
use Rattle.pnp_labels.specs.declared.label.Label.{Label}
use Rattle.pnp_model.specs.Cores.{node_at, stacked}
use Rattle.pnp_model.specs.Frames.{first_node}
use Rattle.pnp_model.specs.Handles.{closed_with, comes_after, is_handle_of, is_open, one_less, one_more, opened, opened_with}
use Rattle.pnp_model.specs.Keyed.{changed_first, put_before, without_first}
use Rattle.pnp_model.specs.Records.{Handle, Node, Phase, State, Walk, Job, Stage, Course, course_of}
use Rattle.pnp_model.specs.Runs.{Entry, printed}
use Rattle.pnp_model.specs.Walks.{state_after}
use Rattle.pnp_laws.specs.Effects.{HandleEffect, NodeEffect, Request}
use Rattle.pnp_laws.specs.Kept.{is_idle, asked_in}
use Rattle.pnp_laws.proofs.Asked.{left_bare}
use Rattle.pnp_laws.proofs.EffectViews.{Origin, acting_fits, gone_left, origin}
use Rattle.pnp_laws.proofs.Lists.{head_found, head_has}
use Rattle.pnp_laws.proofs.Lookups.{node_found, own_serial, some_same}
use Rattle.pnp_laws.proofs.ShutSteps.{unopen}
use Rattle.pnp_laws.proofs.Standing.{FinishShut, HandlesFit, Kept, RemovalShut, SurpriseShut, is_held, JobShut}
use Rattle.pnp_laws.proofs.Tolds.{idle_unheld}
use Rattle.pnp_laws.proofs.Truths.{by_test, or_cases, or_left, or_right}
use Rattle.pnp_laws.proofs.Turns.{running_good}
use Rattle.pnp_laws.proofs.TurnsKept.{running_shut}
use Rattle.pnp_laws.proofs.FitsBy.{asked_is}

-- Handles ------------------------------------------------------------------------------------------

any_changed : (test p : Handle → Bool) (f : Handle → Handle) (xs : List Handle) → ((h : Handle) → test (f h) ≡ test h) → list_any test (changed_first p f xs) ≡ list_any test xs
any_changed test p f [] keeps = refl
any_changed test p f (x ∷ xs) keeps = grind (arith, keeps x, any_changed test p f xs keeps)

any_without : (test p : Handle → Bool) (xs : List Handle) → list_any test (without_first p xs) ≡ true → list_any test xs ≡ true
any_without test p [] h = h
any_without test p (x ∷ xs) h = grind (arith, any_without test p xs)

any_put : (test p : Handle → Bool) (y : Handle) (xs : List Handle) → list_any test (put_before p y xs) ≡ true → (test y ≡ true) ⊎ (list_any test xs ≡ true)
any_put test p y [] h = elim (or_cases (test y) false h) [ inl e ↦ inl e | inr q ↦ absurd (cc) ]
any_put test p y (x ∷ xs) h =
    let more = any_put test p y xs in
    by_test (λ b. list_any test (cond b (y ∷ x ∷ xs) (x ∷ put_before p y xs)) ≡ true → (test y ≡ true) ⊎ (list_any test (x ∷ xs) ≡ true)) (p x)
    (λ e g. or_cases (test y) (list_any test (x ∷ xs)) g)
    (λ e g. elim (or_cases (test x) (list_any test (put_before p y xs)) g) [
      | inl q ↦ inr (or_left (test x) (list_any test xs) q)
      | inr q ↦ elim (more q) [ inl r ↦ inl r | inr r ↦ inr (or_right (test x) (list_any test xs) r) ]
    ]) h

-- one more open handle is of the device, or was open
open_opened : (k j : ℕ) (handles : List Handle) → is_open (opened k handles) j ≡ true → (k ≡ j) ⊎ (is_open handles j ≡ true)
open_opened k j handles h = by_open (is_open handles k) h
  where
    by_open : (b : Bool) → is_open (opened_with k handles b) j ≡ true → (k ≡ j) ⊎ (is_open handles j ≡ true)
    by_open true g = inr (sym (any_changed (is_handle_of j) (is_handle_of k) one_more handles (λ h. refl)) ∙ g)
    by_open false g = elim (any_put (is_handle_of j) (comes_after k) (record { serial = k; count = 1 }) handles g) [ inl e ↦ inl (grind (arith, nat_tests)) | inr q ↦ inr q ]

pub open_closed : (k j : ℕ) (handles : List Handle) (more : Bool) → is_open (closed_with k handles more) j ≡ true → is_open handles j ≡ true
open_closed k j handles true h = sym (any_changed (is_handle_of j) (is_handle_of k) one_less handles (λ h. refl)) ∙ h
open_closed k j handles false h = any_without (is_handle_of j) (is_handle_of k) handles h

-- The device of a request -----------------------------------------------------------------------------

-- its drivers are to be removed, or it is asked whether they may be
abbrev pub Takes : Minor → Type 0
Takes QueryRemove = Unit {0}
Takes Remove = Unit {0}
Takes _ = ⊥

takes_as : (own minor : Minor) → Some own ≡ Some minor → Takes minor → Takes own
takes_as own minor is takes = let same : own ≡ minor = cc in subst (λ (m : Minor). Takes m) (sym same) takes

-- no handle to it is open
module _ (handles : List Handle) (nodes : List Node) (o : Job) (node : Node) (minor : Minor) (first : first_node nodes o.todo ≡ Some node) (takes : Takes minor) where
  rebalance_asks : (stage : Stage) → asked_in Course.Rebalancing stage ≡ Some minor → is_open handles node.serial ≡ false
  rebalance_asks Stage.Asking is = absurd (takes_as Minor.QueryStop minor is takes)
  rebalance_asks Stage.TakingBack is = absurd (takes_as Minor.CancelStop minor is takes)
  rebalance_asks Stage.Cancelling is = absurd (takes_as Minor.CancelStop minor is takes)
  rebalance_asks Stage.Stopping is = absurd (takes_as Minor.Stop minor is takes)
  rebalance_asks Stage.Restarting is = absurd (takes_as Minor.Start minor is takes)
  rebalance_asks _ is = absurd (cc)

  removal_asks : (stage : Stage) → RemovalShut handles o stage → asked_in Course.Removing stage ≡ Some minor → is_open handles node.serial ≡ false
  removal_asks Stage.Asking shut is = shut.1 node.serial (head_found nodes o.todo node first).0
  removal_asks Stage.TakingBack shut is = absurd (takes_as Minor.CancelRemove minor is takes)
  removal_asks Stage.Cancelling shut is = absurd (takes_as Minor.CancelRemove minor is takes)
  removal_asks Stage.Removing shut is = shut node.serial (head_has node.serial o.todo (head_found nodes o.todo node first).0)
  removal_asks _ shut is = absurd (cc)

  surprise_asks : (stage : Stage) → SurpriseShut handles o stage → asked_in Course.Surprising stage ≡ Some minor → is_open handles node.serial ≡ false
  surprise_asks Stage.Telling shut is = absurd (takes_as Minor.SurpriseRemoval minor is takes)
  surprise_asks Stage.Removing shut is = shut node.serial (head_found nodes o.todo node first).0
  surprise_asks _ shut is = absurd (cc)

  finish_asks : (stage : Stage) → FinishShut handles o stage → asked_in Course.Finishing stage ≡ Some minor → is_open handles node.serial ≡ false
  finish_asks Stage.Removing shut is = shut node.serial (head_found nodes o.todo node first).0
  finish_asks _ shut is = absurd (cc)

  asks_by : (course : Course) → JobShut handles course o → asked_in course o.stage ≡ Some minor → is_open handles node.serial ≡ false
  asks_by Course.Rebalancing shut is = rebalance_asks o.stage is
  asks_by Course.Removing shut is = removal_asks o.stage shut is
  asks_by Course.Surprising shut is = surprise_asks o.stage shut is
  asks_by Course.Finishing shut is = finish_asks o.stage shut is

module _ (s : State) (kept : Kept s) where
  -- a device that starts has no handle
  start_shut : (node : Node) (idle : is_idle node.state ≡ true) → node_at node.serial s.core.nodes ≡ Some node → is_open s.handles node.serial ≡ false
  start_shut node idle at = unopen s.handles s.core.nodes node.serial kept.waits.held (λ n there. idle_unheld n.state (subst (λ (x : Node). is_idle x.state ≡ true) (some_same (node_at node.serial s.core.nodes) node n at there) idle))

  request_shut : (node : Node) (minor : Minor) (w : Walk) → node_at node.serial s.core.nodes ≡ Some node → Request s node minor w → Takes minor → is_open s.handles node.serial ≡ false
  request_shut node _ w at (Request.starts _ acts) takes = absurd takes
  request_shut node _ w at (Request.undoes _ acts) takes = start_shut node (ap is_idle (acting_fits s node.serial node (Phase.Removing w) at acts kept.good).1) at
  request_shut node _ w at (Request.operates _ asks) takes =
      let o = asks.operation in
      asks_by s.handles s.core.nodes o node w.minor asks.first takes (course_of o.kind) (running_shut s o asks.runs kept) (asked_is o s.core.nodes w (running_good s o asks.runs kept.good).fits asks.walk)

-- A device that has a handle ------------------------------------------------------------------------------

held_after : (minor : Minor) (bad : Bool) (x : DevState) → (Takes minor → ⊥) → is_held x ≡ true → is_held (state_after minor bad x) ≡ true
held_after Start true x other h = h
held_after Start false x other h = refl
held_after QueryRemove bad x other h = absurd (other tt)
held_after Remove bad x other h = absurd (other tt)
held_after QueryStop true x other h = h
held_after QueryStop false x other h = refl
held_after _ bad x other h = refl

held_stacked : (x : DevState) → is_held x ≡ true → is_held (stacked x) ≡ true
held_stacked NoStack h = absurd (cc)
held_stacked _ h = h

module _ (s : State) (label : Label) (t : State) (kept : Kept s) (k : ℕ) (h : is_open s.handles k ≡ true) (n : Node) (at : node_at k s.core.nodes ≡ Some n) (held : is_held n.state ≡ true) where
  -- its drivers are not asked for in this way
  not_taken : (m : Node) (minor : Minor) (w : Walk) → node_at k s.core.nodes ≡ Some m → Request s m minor w → Takes minor → ⊥
  not_taken m minor w there request takes =
      let own = own_serial k m s.core.nodes there in
      let shut = subst (λ (i : ℕ). is_open s.handles i ≡ false) own (request_shut s kept m minor w (subst (λ (i : ℕ). node_at i s.core.nodes ≡ Some m) (sym own) there) request takes) in
      cc

  was_held : (m : Node) → node_at k s.core.nodes ≡ Some m → is_held m.state ≡ true
  was_held m there = subst (λ (x : Node). is_held x.state ≡ true) (some_same (node_at k s.core.nodes) n m at there) held

  still_held : (m : Node) → Origin s label t k m → is_held m.state ≡ true
  still_held m (Origin.was _ there) = was_held m there
  still_held _ (Origin.walked m minor w bad there request other ends verdict prints) = held_after minor bad m.state (not_taken m minor w there request) (was_held m there)
  still_held _ (Origin.troubled m problem there) = was_held m there
  still_held _ (Origin.stacks m d ds name there acts prints) = held_stacked m.state (was_held m there)
  still_held _ (Origin.assigned m phase plan there acts search part now) = was_held m there
  still_held _ (Origin.stripped m w there request prints) = absurd (not_taken m Minor.Remove w there request tt)
  still_held _ (Origin.commits r m runs course is there) = was_held m there
  still_held _ (Origin.joins node d below gone own) = absurd (cc)

  -- so it does not leave
  stays_held : NodeEffect s label t → (m : Node) × (node_at k t.core.nodes ≡ Some m) × (is_held m.state ≡ true)
  stays_held effect = by_now (node_at k t.core.nodes) refl
    where
      by_now : (o : Option Node) → node_at k t.core.nodes ≡ o → (m : Node) × (o ≡ Some m) × (is_held m.state ≡ true)
      by_now (Some m) now = (m, refl, still_held m (origin s label t kept.good.serials k m effect now))
      by_now None gone =
          let left = gone_left s label t effect k n at gone in
          absurd (let bare = left_bare left.0 s.core.nodes n (running_good s left.0 left.1 kept.good).fits left.2 in let z = sym (ap is_held bare) ∙ held in cc)

module _ (s : State) (entry : Entry) (t : State) (kept : Kept s) (effect : NodeEffect s (printed entry) t) where
  open_before : (k : ℕ) → is_open s.handles k ≡ true → (m : Node) × (node_at k t.core.nodes ≡ Some m) × (is_held m.state ≡ true)
  open_before k h = let there = kept.waits.held k h in stays_held s (printed entry) t kept k h there.0 there.1 there.2 effect

  pub held_goes : HandleEffect s entry t → HandlesFit t.handles t.core.nodes
  held_goes (HandleEffect.same e) k h = open_before k (subst (λ (hs : List Handle). is_open hs k ≡ true) e h)
  held_goes (HandleEffect.opens node path label none found up started event is) k h =
      elim (open_opened node.serial k s.handles (subst (λ (x : State). is_open x.handles k ≡ true) is h)) [
        | inl e ↦
            let at = (node_found (λ n. same n.path path) 0 s.core.nodes node kept.good.serials found).1 in
            (node, subst (λ (x : State). node_at k x.core.nodes ≡ Some node) (sym is) (subst (λ (i : ℕ). node_at i s.core.nodes ≡ Some node) e at), ap is_held started)
        | inr q ↦ open_before k q
      ]
  held_goes (HandleEffect.closes node path label handle found at event handles is) k h =
      open_before k (open_closed node.serial k s.handles (nat_lt 1 handle.count) (subst (λ (hs : List Handle). is_open hs k ≡ true) handles h))
