-- Each step of a start keeps what a run keeps.
use Rattle.std.proofs.Common.{ℕ, ◌≡◌, ◌≢◌, ◌⊎◌, inl, inr, true, List, [], ◌∷◌, ◌++◌, Some, None, refl, sym, ap, ◌∙◌, subst}
use Rattle.pnp_model.specs.Keyed.{changed_first, without_first}
use Rattle.pnp_model.specs.Records.{Node, Activity, Phase, State}
use Rattle.pnp_model.specs.Records.Phase.{Adding, Searching, Starting, Removing, Due}
use Rattle.pnp_model.specs.Cores.{is_node, node_at, with_state, with_problem, with_stack, with_holds, bare, stacked}
use Rattle.pnp_model.specs.States.{is_activity, activity_at, with_phase}
use Rattle.pnp_model.specs.Walks.{walk_of}
use Rattle.pnp_model.specs.Starts.{StartMove, adding, own_part}
use Rattle.pnp_model.specs.Machine.{start_lifted}
use Rattle.pnp_laws.specs.Effects.{IsSearch}
use Rattle.pnp_laws.specs.Kept.{Good, InOrder, Lawful, HasStackOf, Fits, is_calm, is_idle}
use Rattle.pnp_labels.specs.declared.states.DevState.{DevState}
use Rattle.pnp_labels.specs.declared.words.Minor.{Minor}
use Rattle.pnp_labels.specs.declared.states.Problem.{Problem}
use Rattle.pnp_labels.specs.declared.states.DevState.TheVariants.{NoStack, NotStarted, Started}
use Rattle.pnp_laws.proofs.IdleSteps.{ActivityStep}
use Rattle.pnp_laws.proofs.Lookups.{changed_none, phase_from, phase_set_other, ended_same, ended_other, InOrder-set_phase, InOrder-ended}
use Rattle.pnp_laws.proofs.Diagrams.{Each_changed}
use Rattle.pnp_laws.proofs.Kept.{lawful_by, Good_changed}

-- a device is changed by f, and what activities it has
pub lawful_changed : (s t : State) (f : Node → Node) (node : Node) (acts : List Activity) → t.next_serial ≡ s.next_serial → t.core.nodes ≡ changed_first (is_node node.serial) f s.core.nodes → t.activities ≡ acts → t.operation ≡ None
    → ((x : Node) → (f x).serial ≡ x.serial) → node_at node.serial s.core.nodes ≡ Some node → HasStackOf node.serial (f node).state (f node).stack → is_calm (f node).state ≡ true
    → InOrder 0 acts → ((k : ℕ) → node.serial ≢ k → activity_at k acts ≡ activity_at k s.activities) → ((a : Activity) → activity_at node.serial acts ≡ Some a → (node.serial ≢ 0) × Fits a.phase (f node).state)
    → Good s.next_serial s.core.nodes s.activities None → Lawful t
lawful_changed s t f node acts a b c d keeps at stack calm order other here good =
    lawful_by t s.next_serial (changed_first (is_node node.serial) f s.core.nodes) acts None a b c d
    (Good_changed s.next_serial node.serial f node s.core.nodes s.activities acts None None keeps at stack order other here tt
    (Each_changed (λ k x. is_calm x) (λ k x. is_calm x) node.serial f s.core.nodes node keeps at calm (λ k x d h. h) good.fits) good)

-- small facts of states

pub idle_calm : (x : DevState) → is_idle x ≡ true → is_calm x ≡ true
idle_calm NoStack h = refl
idle_calm NotStarted h = refl
idle_calm _ h = cc

pub stacked_idle : (x : DevState) → is_idle x ≡ true → stacked x ≡ NotStarted
stacked_idle NoStack h = refl
stacked_idle NotStarted h = refl
stacked_idle _ h = cc

idle_or : (x : DevState) → is_idle x ≡ true → (x ≡ NoStack) ⊎ (x ≡ NotStarted)
idle_or NoStack h = inl refl
idle_or NotStarted h = inr refl
idle_or _ h = cc

pushed : (xs : List ℕ) (x : ℕ) → xs ++ x ∷ [] ≢ []
pushed [] x h = cc
pushed (y ∷ xs) x h = cc

adding_fits : (ds : List ℕ) → Fits (adding ds) NotStarted
adding_fits [] = refl
adding_fits (d ∷ ds) = refl

pub add_changes : (x : DevState) → is_idle x ≡ true → (stacked x ≡ x) ⊎ ((x ≡ NoStack) × (stacked x ≡ NotStarted))
add_changes x h =
    elim (idle_or x h) [
      | inl e ↦ inr (e, stacked_idle x h)
      | inr e ↦ inl (stacked_idle x h ∙ sym e)
    ]

pub search_fits : (phase : Phase) (x : DevState) → IsSearch phase → Fits phase x → x ≡ NotStarted
search_fits (Adding []) x h fit = fit
search_fits Searching x h fit = fit
search_fits _ x h fit = absurd h

idle_with_stack : (k : ℕ) (x : DevState) (stack : List ℕ) (d : ℕ) (ds : List ℕ) → stack ≡ d ∷ ds → is_idle x ≡ true → HasStackOf k x stack → x ≡ NotStarted
idle_with_stack k x stack d ds e idle h =
    elim (idle_or x idle) [ inl q ↦ absurd (let z = h.none q in cc) | inr q ↦ q ]

-- the ways of a start
module _ (s : State) (node : Node) (none : s.operation ≡ None) (at : node_at node.serial s.core.nodes ≡ Some node) (up : node.serial ≢ 0) (good : Good s.next_serial s.core.nodes s.activities None) where
  same_stack : HasStackOf node.serial node.state node.stack
  same_stack = good.stacks node.serial node at

  same_calm : is_calm node.state ≡ true
  same_calm = good.fits node.serial node at

  -- it goes on, and the device is changed by f
  goes : (t : State) (phase : Phase) (f : Node → Node) → t.next_serial ≡ s.next_serial → t.core.nodes ≡ changed_first (is_node node.serial) f s.core.nodes → t.activities ≡ changed_first (is_activity node.serial) (with_phase phase) s.activities → t.operation ≡ s.operation → ((x : Node) → (f x).serial ≡ x.serial) → HasStackOf node.serial (f node).state (f node).stack
      → Fits phase (f node).state → is_calm (f node).state ≡ true → Lawful t
  goes t phase f a b c d keeps stack fit calm =
      lawful_changed s t f node (changed_first (is_activity node.serial) (with_phase phase) s.activities) a b c (d ∙ none) keeps at stack calm (InOrder-set_phase 0 node.serial phase s.activities good.order)
      (λ k d. phase_set_other node.serial k phase s.activities d)
      (λ x g. elim (phase_from node.serial node.serial phase s.activities x g) [
        | inl (e, (y, q, r)) ↦ (up, subst (λ (z : Activity). Fits z.phase (f node).state) (sym r) fit)
        | inr (d, q) ↦ absurd (d refl)
      ])
      good

  stays : (t : State) (phase : Phase) → t.next_serial ≡ s.next_serial → t.core.nodes ≡ s.core.nodes → t.activities ≡ changed_first (is_activity node.serial) (with_phase phase) s.activities → t.operation ≡ s.operation → Fits phase node.state → Lawful t
  stays t phase a b c d fit = goes t phase (λ x. x) a (b ∙ sym (changed_none (is_node node.serial) s.core.nodes)) c d (λ x. refl) same_stack fit same_calm

  -- it ends
  ends : (t : State) (f : Node → Node) → t.next_serial ≡ s.next_serial → t.core.nodes ≡ changed_first (is_node node.serial) f s.core.nodes → t.activities ≡ without_first (is_activity node.serial) s.activities → t.operation ≡ s.operation
      → ((x : Node) → (f x).serial ≡ x.serial) → HasStackOf node.serial (f node).state (f node).stack → is_calm (f node).state ≡ true → Lawful t
  ends t f a b c d keeps stack calm =
      let gone = ended_same 0 node.serial s.activities good.order in
      lawful_changed s t f node (without_first (is_activity node.serial) s.activities) a b c (d ∙ none) keeps at stack calm (InOrder-ended 0 node.serial s.activities good.order)
      (λ k d. ended_other node.serial k s.activities d) (λ x g. absurd (cc)) good

  pub lawful_act : (phase : Phase) (m : StartMove) → Fits phase node.state → ActivityStep s.core node phase m → Lawful (start_lifted s node.serial m).state
  lawful_act _ _ idle (ActivityStep.adds d ds) =
      let now = stacked_idle node.state idle in
      goes _ (adding ds) (with_stack (node.stack ++ d ∷ []) (stacked node.state)) refl refl refl refl (λ x. refl)
      (record { none = λ h. absurd (cc); some = λ e h. absurd (pushed node.stack d h); root = λ z. absurd (up z) })
      (subst (λ (x : DevState). Fits (adding ds) x) (sym now) (adding_fits ds)) (ap is_calm now)
  lawful_act _ _ idle (ActivityStep.refused d ds) = stays _ (Due Problem.FailedAdd) refl refl refl refl idle
  lawful_act phase _ fit (ActivityStep.fits _ plan budget search answer) = goes _ (Starting (walk_of Minor.Start)) (with_holds (own_part plan)) refl refl refl refl (λ x. refl) same_stack (search_fits phase node.state search fit) same_calm
  lawful_act phase _ fit (ActivityStep.unplaced _ search) = ends _ (λ x. x) refl (sym (changed_none (is_node node.serial) s.core.nodes)) refl refl (λ x. refl) same_stack same_calm
  lawful_act phase _ fit (ActivityStep.tires _ search) = stays _ (Due Problem.Budget) refl refl refl refl (ap is_idle (search_fits phase node.state search fit))
  lawful_act _ _ fit (ActivityStep.asks_start w waits more) = stays _ (Starting _) refl refl refl refl fit
  lawful_act _ _ fit (ActivityStep.fails w ended bad) = goes _ (Due Problem.FailedStart) (with_state node.state) refl refl refl refl (λ x. refl) same_stack (ap is_idle fit) same_calm
  lawful_act _ _ fit (ActivityStep.starts w ended well) =
      ends _ (with_state Started) refl refl refl refl (λ x. refl)
      (record { none = λ h. absurd (cc); some = λ d h. absurd (let q = same_stack.some d h in cc); root = λ z. refl })
      refl
  lawful_act _ _ fit (ActivityStep.asks_remove w waits more) = stays _ (Removing _) refl refl refl refl fit
  lawful_act _ _ fit (ActivityStep.strips w ended) =
      ends _ bare refl refl refl refl (λ x. refl) (record { none = λ h. refl; some = λ d h. refl; root = λ z. absurd (up z) }) refl
  lawful_act _ _ idle (ActivityStep.empty problem bare_stack) = ends _ (with_problem (Some problem)) refl refl refl refl (λ x. refl) same_stack same_calm
  lawful_act _ _ idle (ActivityStep.undoes problem d ds stack) =
      goes _ (Removing (walk_of Minor.Remove)) (with_problem (Some problem)) refl refl refl refl (λ x. refl) same_stack (idle_with_stack node.serial node.state node.stack d ds stack idle same_stack) same_calm
