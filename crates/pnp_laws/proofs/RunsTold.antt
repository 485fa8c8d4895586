-- In each step of a run only the device whose path is printed changes its state, by the row of the request that has ended.
use Rattle.std.proofs.Common.{ℕ, ◌≡◌, ◌⊎◌, ◌&&◌, inl, inr, Bool, true, false, List, [], ◌∷◌, length, Option, Some, refl, sym, ap, ◌∙◌, subst}
use Rattle.pnp_labels.specs.Texts.{Text}
use Rattle.pnp_labels.specs.declared.label.Label.{Label}
use Rattle.pnp_labels.specs.declared.states.DevState.{DevState}
use Rattle.pnp_labels.specs.declared.words.Minor.{Minor}
use Rattle.std.specs.List.{slice_get}
use Rattle.std.specs.Option.{option_map}
use Rattle.pnp_model.specs.Cores.{node_at}
use Rattle.pnp_model.specs.States.{is_activity}
use Rattle.pnp_model.specs.Diagram.{Row}
use Rattle.pnp_model.specs.Frames.{first_node}
use Rattle.pnp_model.specs.Machine.{phase_walk}
use Rattle.pnp_model.specs.Records.{Node, Phase, State, Walk}
use Rattle.pnp_model.specs.Records.Phase.{Starting, Removing}
use Rattle.pnp_model.specs.Runs.{Entry, printed}
use Rattle.pnp_model.specs.Walks.{has_ended, is_bad, may_fail, state_after}
use Rattle.pnp_laws.specs.Effects.{Acting, DriverEffect, IsUnasked, PhaseOwn, Request, phase_minor}
use Rattle.pnp_laws.specs.Kept.{IsGood}
use Rattle.pnp_laws.specs.Told.{ChangesAt, IsWalkOf, StatesAreToldLaw}
use Rattle.pnp_laws.proofs.Asked.{Rows, request_rows}
use Rattle.pnp_laws.proofs.EffectsOf.{effect_goes}
use Rattle.pnp_laws.proofs.EffectViews.{Turns, acting_at, state_from}
use Rattle.pnp_laws.proofs.Lookups.{own_serial, some_same}
use Rattle.pnp_laws.proofs.Minors.{HasOwn, reaches_own}
use Rattle.pnp_laws.proofs.Phases.{phase_found}
use Rattle.pnp_laws.proofs.WalkEnds.{ended_runs}
use Rattle.pnp_laws.proofs.RunsStand.{Kept, reaches_kept}

-- the first device of an operation
front_is : (nodes : List Node) (todo : List ℕ) (node : Node) → first_node nodes todo ≡ Some node → slice_get todo 0 ≡ Some node.serial
front_is nodes [] node e = absurd (cc)
front_is nodes (k ∷ ks) node e = ap Some (sym (own_serial k node nodes e))

-- a request is on its way to its device
record UnderWay (s : State) (node : Node) (minor : Minor) (w : Walk) : Type 0 where
  walk : IsWalkOf s node.serial w
  own : w.minor ≡ minor

module _ (s : State) (good : IsGood s) (owns : HasOwn s) (node : Node) (there : node_at node.serial s.core.nodes ≡ Some node) where
  -- in the start of the device, whose phase asks this request
  by_start : (phase : Phase) (w : Walk) (minor : Minor) → Acting s node.serial phase → phase_walk phase ≡ Some w → phase_minor phase ≡ Some minor → UnderWay s node minor w
  by_start phase w minor acts walk is =
      let here = acting_at s node.serial phase good.order acts in
      let own : PhaseOwn phase = subst PhaseOwn here.is (phase_found PhaseOwn (is_activity node.serial) s.activities here.activity here.at owns) in
      let of_walk : Some w.minor ≡ phase_minor phase = ap (λ (o : Option Walk). option_map (λ (v : Walk). v.minor) o) (sym walk) ∙ own in
      record {
        walk = IsWalkOf.starts here.activity acts.none here.at (ap phase_walk here.is ∙ walk);
        own = cc;
      }

  under_way : (minor : Minor) (w : Walk) → Request s node minor w → has_ended w (length node.stack) ≡ true → UnderWay s node minor w
  under_way _ _ (Request.starts w acts) ends = by_start (Starting w) w Minor.Start acts refl refl
  under_way _ _ (Request.undoes w acts) ends = by_start (Removing w) w Minor.Remove acts refl refl
  under_way _ _ (Request.operates w asks) ends =
      let runs = ended_runs s asks.operation node w good asks.runs asks.first asks.walk ends in
      record { walk = IsWalkOf.operates asks.operation runs (front_is s.core.nodes asks.operation.todo node asks.first) asks.walk; own = refl }

-- how a request ended is how its walk did
ends_by_walk : (w : Walk) (minor : Minor) → w.minor ≡ minor → (may_fail minor && is_bad w) ≡ is_bad w
ends_by_walk w minor own = ap (λ (m : Minor). may_fail m && is_bad w) (sym own) ∙ twice (may_fail w.minor) w.failed
  where
    twice : (a b : Bool) → (a && (a && b)) ≡ (a && b)
    twice true b = refl
    twice false b = refl

-- Who changes --------------------------------------------------------------------------------------------

changes_at : (s : State) (label : Label) (k : ℕ) (n : Node) → Turns s label k n → ChangesAt label n.path
changes_at s label k n (Turns.told y prints) = subst (λ (l : Label). ChangesAt l n.path) (sym prints) refl
changes_at s label k n (Turns.added d ds name acts prints) = subst (λ (l : Label). ChangesAt l n.path) (sym prints) refl

alone : (s : State) (label : Label) (k : ℕ) (n m : Node) → (m.state ≡ n.state) ⊎ Turns s label k n → (m.state ≡ n.state) ⊎ ChangesAt label n.path
alone s label k n m (inl e) = inl e
alone s label k n m (inr turns) = inr (changes_at s label k n turns)

-- Whose state is told --------------------------------------------------------------------------------------

no_state : (label : Label) (path : Text) (state : DevState) → IsUnasked label → label ≡ Label.State path state → ⊥
no_state label path state unasked e = subst (λ (l : Label). IsUnasked l) e unasked

module _ (s : State) (entry : Entry) (t : State) (all : Kept s) (path : Text) (state : DevState) (is : printed entry ≡ Label.State path state) (k : ℕ) (n : Node) (at : node_at k s.core.nodes ≡ Some n) (own : n.path ≡ path) where
  told : HasOwn s → DriverEffect s entry t → (w : Walk) × IsWalkOf s k w × (has_ended w (length n.stack) ≡ true) × Row n.state w.minor (is_bad w) state
  told owns (DriverEffect.ended node minor w bad there request ends verdict prints rack) =
      let same_label : Label.State path state ≡ Label.State node.path (state_after minor bad node.state) = sym is ∙ prints in
      let same_path : path ≡ node.path = cc in
      let same_after : state_after minor bad node.state ≡ state = cc in
      let k_is : node.serial ≡ k = all.stands.tree.paths node.serial k node n there at (sym same_path ∙ sym own) in
      let one : node ≡ n = some_same (node_at k s.core.nodes) node n (subst (λ (i : ℕ). node_at i s.core.nodes ≡ Some node) k_is there) at in
      let way = under_way s all.good owns node there minor w request ends in
      let ends_so : is_bad w ≡ bad = sym (ends_by_walk w minor way.own) ∙ verdict in
      let after : state_after w.minor (is_bad w) node.state ≡ state = ap (λ (m : Minor). state_after m (is_bad w) node.state) way.own ∙ ap (λ (b : Bool). state_after minor b node.state) ends_so ∙ same_after in
      let rows : Rows w.minor node.state = subst (λ (m : Minor). Rows m node.state) (sym way.own) (request_rows s all.good node there minor w request) in (
        w,
        subst (λ (i : ℕ). IsWalkOf s i w) k_is way.walk,
        subst (λ (x : Node). has_ended w (length x.stack) ≡ true) one ends,
        subst (λ (x : Node). Row x.state w.minor (is_bad w) state) one (subst (λ (y : DevState). Row node.state w.minor (is_bad w) y) after (rows w.failed)),
      )
  told owns (DriverEffect.same unasked rack) = absurd (no_state (printed entry) path state unasked is)
  told owns (DriverEffect.asked node w shown there on prints rack) = absurd (cc)
  told owns (DriverEffect.added node d ds acts prints rack activities) = absurd (cc)
  told owns (DriverEffect.refused node d ds acts prints rack) = absurd (cc)
  told owns (DriverEffect.named kind name label gives unasked rack) = absurd (no_state (printed entry) path state unasked is)
  told owns (DriverEffect.taught name rule unasked rack) = absurd (no_state (printed entry) path state unasked is)

pub states_are_told : StatesAreToldLaw
states_are_told settings rack entries old entry new run goes =
    let all = reaches_kept settings rack entries old run in
    let effect = effect_goes settings old entry new goes in
    record {
      alone = λ k n m at now. alone old (printed entry) k n m (state_from old (printed entry) new all.good.serials k n m at effect.nodes now);
      walked = λ path state is k n at own. told old entry new all path state is k n at own (reaches_own settings rack entries old run) effect.drivers;
    }
