-- What a state of a run gives to each step.
use Rattle.std.proofs.lemmas.Bool.Decides.{nat_tests}
use Rattle.std.proofs.Common.{Contains, ℕ, ◌==◌, Bool, cond, suc, ◌≡◌, ◌≢◌, inl, inr, true, false, List, [], ◌∷◌, Option, Some, None, IsSome, refl, sym, ap, ◌∙◌, subst, arith, add-one}
use Rattle.resource_reqs.specs.Resources.{Res, Reqs, Whole}
use Rattle.pnp_labels.specs.declared.label.Label.{Label}
use Rattle.pnp_labels.specs.declared.states.DevState.{DevState}
use Rattle.pnp_labels.specs.declared.states.DevState.TheVariants.{NoStack, NotStarted, Started, StopPending, Stopped, RemovePending, SurpriseRemoved}
use Rattle.pnp_model.specs.Records.{Node, Driver, Activity, Phase, State, Step, Settings, Job, Course, Doing, course_of}
use Rattle.pnp_model.specs.Records.Phase.{Adding, Searching, Starting, Removing, Due}
use Rattle.pnp_model.specs.Cores.{node_at, bare, forget, serials_of}
use Rattle.pnp_model.specs.Handles.{was_told}
use Rattle.pnp_model.specs.Laws.{Reaches, is_up_to_now}
use Rattle.pnp_model.specs.Machine.{is_waiting, next, next_of, operation_next}
use Rattle.pnp_model.specs.Rebalances.{reqs_after}
use Rattle.pnp_model.specs.Runs.{Entry, Goes, printed}
use Rattle.pnp_model.specs.States.{activity_at}
use Rattle.pnp_model.specs.Tests.{is_surprise_removed}
use Rattle.pnp_laws.specs.Kept.{Alone, Ascending, Fits, IsGood, JobFits, OperationFits, RebalanceKeeps, TargetFits, is_idle}
use Rattle.pnp_laws.specs.Quiet.{RestsWith}
use Rattle.pnp_laws.specs.Reached.{IsReached}
use Rattle.pnp_laws.proofs.EffectViews.{Origin, origin}
use Rattle.pnp_laws.proofs.EffectsOf.{effect_goes}
use Rattle.pnp_laws.proofs.Lookups.{own_serial}
use Rattle.pnp_laws.proofs.Reached.{reached_is_good}
use Rattle.pnp_laws.proofs.Reaching.{kept}
use Rattle.pnp_laws.proofs.Runs.{root_is}
use Rattle.pnp_laws.proofs.RunsShare.{nothing_clashes}
use Rattle.pnp_laws.proofs.RunsStand.{reaches_kept}
use Rattle.pnp_laws.proofs.RunsStep.{quiet_where_it_rests}
use Rattle.pnp_laws.proofs.RunsWhole.{all_hold_whole}
use Rattle.devnode_tree.specs.Trees.{Ascends}
use Rattle.device_holdings.specs.MapRows.{IsOrderly}
use Rattle.operation_frame.specs.Steps.{HasNext}
use Rattle.query_remove.specs.Parts as query
use Rattle.query_remove.proofs.Given.{removal_ready}
use Rattle.surprise_remove.specs.Steps as surprise
use Rattle.surprise_remove.specs.FinishSteps as finish
use Rattle.surprise_remove.proofs.Given.{surprise_ready}
use Rattle.surprise_remove.proofs.FinishGiven.{finish_ready}
use Rattle.pnp_laws.proofs.Related.{related_up, no_relations}

-- The root needs nothing and holds nothing ---------------------------------------------------

abbrev pub RootNeedsNothing : List Node → Type 0
RootNeedsNothing nodes = (n : Node) → node_at 0 nodes ≡ Some n → n.reqs ≡ []

-- a change is not of the root
not_changed : (wanted : Option Reqs) (target : ℕ) (n : Node) → target ≢ 0 → n.serial ≡ 0 → reqs_after wanted target n ≡ n.reqs
not_changed None target n up own = refl
not_changed (Some wanted) target n up own =
    let apart : (n.serial == target) ≡ false = grind (arith, nat_tests, up) in
    ap (λ (b : Bool). cond b wanted n.reqs) apart

needs_committed : (r : Job) (n : Node) (nodes : List Node) (wanted : Option Reqs) → r.wanted ≡ wanted → TargetFits wanted r.target nodes → node_at 0 nodes ≡ Some n → reqs_after r.wanted r.target n ≡ n.reqs
needs_committed r n nodes None e fits at = ap (λ w. reqs_after w r.target n) e
needs_committed r n nodes (Some wanted) e fits at = not_changed r.wanted r.target n fits.3 (own_serial 0 n nodes at)

needs_from : (s : State) (label : Label) (t : State) (m : Node) → IsGood s → RootNeedsNothing s.core.nodes → Origin s label t 0 m → m.reqs ≡ []
needs_from s label t _ good h (Origin.was n at) = h n at
needs_from s label t _ good h (Origin.walked n minor w bad at request other ends verdict prints) = h n at
needs_from s label t _ good h (Origin.troubled n problem at) = h n at
needs_from s label t _ good h (Origin.stacks n d ds name at acts prints) = h n at
needs_from s label t _ good h (Origin.assigned n phase plan at acts search part now) = h n at
needs_from s label t _ good h (Origin.stripped n w at request prints) = h n at
needs_from s label t _ good h (Origin.commits r n runs course is at) =
    let fits : RebalanceKeeps r r.stage s.core.nodes = subst (λ (x : Course). JobFits x r s.core.nodes) course (subst (λ (o : Option Job). OperationFits o s.core.nodes) runs good.fits) in
    needs_committed r n s.core.nodes r.wanted refl fits.waits at ∙ h n at
-- what joins is not the root
needs_from s label t _ good h (Origin.joins node d below gone own) = absurd (let begun = good.begun in omega arith)

goes_needs : (settings : Settings) (rack : List Driver) (old : State) (entry : Entry) (new : State) → IsReached settings rack old → RootNeedsNothing old.core.nodes → Goes settings old entry new
    → RootNeedsNothing new.core.nodes
goes_needs settings rack old entry new reached h goes =
    let good = reached_is_good settings rack old reached in
    λ m at. needs_from old (printed entry) new m good h (origin old (printed entry) new good.serials 0 m (effect_goes settings old entry new goes).nodes at)

-- a device that needs nothing holds nothing where it holds one whole alternative
nothing_held : (reqs : Reqs) (holds : List Res) → reqs ≡ [] → Whole reqs holds → holds ≡ []
nothing_held reqs holds e (inl (none, bare)) = bare
nothing_held reqs holds e (inr (list, there, parts)) = absurd (let (k, below, is) = subst (λ (lists : Reqs). Contains lists list) e there in omega arith)

-- Serials ascend, as the tree has it
ascends : (low : ℕ) (nodes : List Node) → Ascending low nodes → Ascends low (serials_of nodes)
ascends low [] h = tt
ascends low (n ∷ nodes) h = (h.0, subst (λ (k : ℕ). Ascends k (serials_of nodes)) (sym (add-one n.serial)) (ascends (suc n.serial) nodes h.1))

-- The device of a start was never up -----------------------------------------------------------

waits_idle : (x : DevState) → x ≡ NotStarted → is_idle x ≡ true
waits_idle x e = ap is_idle e

fits_idle : (phase : Phase) (x : DevState) → Fits phase x → is_idle x ≡ true
fits_idle (Adding []) x h = waits_idle x h
fits_idle (Adding (d ∷ drivers)) x h = h
fits_idle Searching x h = waits_idle x h
fits_idle (Starting w) x h = waits_idle x h
fits_idle (Removing w) x h = waits_idle x h
fits_idle (Due problem) x h = h

idle_untold : (x : DevState) → is_idle x ≡ true → is_surprise_removed x ≡ false
idle_untold NoStack h = refl
idle_untold NotStarted h = refl
idle_untold Started h = absurd (cc)
idle_untold StopPending h = absurd (cc)
idle_untold Stopped h = absurd (cc)
idle_untold RemovePending h = absurd (cc)
idle_untold SurpriseRemoved h = absurd (cc)

-- What each step needs -----------------------------------------------------------------------

module _ (settings : Settings) (rack : List Driver) (entries : List Entry) (s : State) (run : Reaches settings rack entries s) where
  pub root_needs_nothing : RootNeedsNothing s.core.nodes
  root_needs_nothing =
      kept (λ (x : State). RootNeedsNothing x.core.nodes) settings rack (goes_needs settings rack)
      (λ n at. ap (λ (x : Node). x.reqs) (sym (root_is 0 n at).0)) s (entries, run)

  pub root_holds_nothing : (n : Node) → node_at 0 s.core.nodes ≡ Some n → n.holds ≡ []
  root_holds_nothing n at =
      let state = ((reaches_kept settings rack entries s run).good.stacks 0 n at).root refl in
      let whole = (all_hold_whole settings rack entries s run).up 0 n at (ap is_up_to_now state) in
      nothing_held n.reqs n.holds (root_needs_nothing n at) whole

  -- nothing clashes, serials ascend, and the root holds nothing
  pub orderly : IsOrderly s.core
  orderly =
      record {
        clear = nothing_clashes settings rack entries s run;
        ascends = ascends 0 s.core.nodes (reaches_kept settings rack entries s run).good.serials;
        root = root_holds_nothing;
      }

  -- an operation that runs and does not wait can go on
  pub operation_goes : (o : Job) → s.operation ≡ Some o → is_waiting o.walk ≡ false → IsSome (operation_next s o false)
  operation_goes o runs awake = by_next (operation_next s o false) refl
    where
      by_next : (x : Option (Doing Step)) → operation_next s o false ≡ x → IsSome x
      by_next None e =
          let quiet : next settings s ≡ None = ap (next_of settings s) runs ∙ ap (operation_next s o) awake ∙ e in
          let rests = subst (RestsWith s) runs ((quiet_where_it_rests settings rack entries s run).0 quiet) in
          absurd (cc)
      by_next (Some doing) e = refl

  -- a removal can take its step, and what it settles may leave
  pub removal_goes : (o : Job) → s.operation ≡ Some o → course_of o.kind ≡ Course.Removing → HasNext s.core.nodes o o.stage × query.SettlesStripped s.core.nodes o o.stage
  removal_goes o runs course = removal_ready s o course (reaches_kept settings rack entries s run) (all_hold_whole settings rack entries s run) runs

  -- likewise a surprise removal, where what depends on the device directly tells whether it stays behind
  pub surprise_goes : (o : Job) → s.operation ≡ Some o → course_of o.kind ≡ Course.Surprising
      → HasNext s.core.nodes o o.stage × surprise.DirectSays s.core.nodes s.core.relations o o.stage × surprise.SettlesStripped s.core.nodes s.core.relations o s.handles o.stage
  surprise_goes o runs course = surprise_ready s o s.handles course (reaches_kept settings rack entries s run) (all_hold_whole settings rack entries s run) runs

  -- and the end of surprise removals
  pub finish_goes : (f : Job) → s.operation ≡ Some f → course_of f.kind ≡ Course.Finishing → finish.HasCurrent s.core.nodes f f.stage × finish.LeavesStripped s.core.nodes f f.stage
  finish_goes f runs course = finish_ready s f course (reaches_kept settings rack entries s run) (all_hold_whole settings rack entries s run) runs

  -- the device of a start is there, and not the root
  pub start_there : (k : ℕ) (a : Activity) → activity_at k s.activities ≡ Some a → (n : Node) × (node_at k s.core.nodes ≡ Some n) × (k ≢ 0) × Fits a.phase n.state
  start_there k a at = (reaches_kept settings rack entries s run).good.phases k a at

  -- it was never up, so it has no relations
  pub start_unrelated : (k : ℕ) (a : Activity) → activity_at k s.activities ≡ Some a → forget k s.core.relations ≡ s.core.relations
  start_unrelated k a at =
      let (n, there, up, fits) = start_there k a at in
      no_relations s.core k n (related_up settings rack entries s run) there (fits_idle a.phase n.state fits)

  -- nor was it told that it has gone
  pub start_untold : (k : ℕ) (a : Activity) → activity_at k s.activities ≡ Some a → was_told (node_at k s.core.nodes) ≡ false
  start_untold k a at = let (n, there, up, fits) = start_there k a at in ap was_told there ∙ idle_untold n.state (fits_idle a.phase n.state fits)

  -- while an operation runs, no device starts
  pub alone : (o : Job) → s.operation ≡ Some o → s.activities ≡ []
  alone o runs = subst (λ (x : Option Job). Alone x s.activities) runs (reaches_kept settings rack entries s run).good.alone
