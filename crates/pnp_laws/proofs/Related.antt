-- In each state of a run each relation joins two devices that are up or were so.
use Rattle.std.proofs.Common.{ℕ, suc, ◌≤◌, ◌≡◌, ◌≢◌, ◌==◌, inl, inr, Bool, true, false, not, ◌||◌, cond, List, [], ◌∷◌, ◌++◌, map, Some, refl, sym, ap, ◌∙◌, subst, arith}
use Rattle.std.specs.List.{find, AllByRecursion}
use Rattle.std.proofs.lemmas.Bool.{cases_eq}
use Rattle.std.proofs.lemmas.Bool.Decides.{nat_tests}
use Rattle.pnp_labels.specs.Texts.{Text}
use Rattle.pnp_labels.specs.declared.label.Label.{Label}
use Rattle.pnp_labels.specs.declared.states.DevState.{DevState}
use Rattle.pnp_labels.specs.declared.states.DevState.TheVariants.{NoStack, NotStarted, Started, StopPending, Stopped, RemovePending, SurpriseRemoved}
use Rattle.pnp_model.specs.Keyed.{changed_first, without_first, those}
use Rattle.pnp_model.specs.Records.{Node, Core, Driver, Relation, State, Step, Settings}
use Rattle.pnp_model.specs.Cores.{is_node, node_at, bare, forget, is_apart_from}
use Rattle.pnp_model.specs.Diagram.{FollowsDiagram}
use Rattle.pnp_model.specs.Laws.{Reaches}
use Rattle.pnp_model.specs.Rebalances.{committed, movers, plan_of}
use Rattle.pnp_model.specs.Runs.{Entry, Goes, printed}
use Rattle.pnp_model.specs.States.{new_child, node_of}
use Rattle.pnp_model.specs.Tests.{is_started}
use Rattle.pnp_laws.specs.Kept.{Ascending, is_idle}
use Rattle.pnp_laws.specs.Reached.{IsReached}
use Rattle.pnp_laws.specs.Effects.{NodeEffect}
use Rattle.pnp_laws.proofs.EffectViews.{KeepsIds, StaysUp, alters_keeps, alters_up}
use Rattle.pnp_laws.proofs.EffectsOf.{effect_goes}
use Rattle.pnp_laws.proofs.Lookups.{joined_keeps, left_other, left_same, node_at-map, node_changed_other, node_changed_same, some_same}
use Rattle.pnp_laws.proofs.Reached.{reached_is_good}
use Rattle.pnp_laws.proofs.Reaching.{kept}
use Rattle.pnp_laws.proofs.RunsStand.{every_run_follows}
use Rattle.device_ids.specs.Folding as folding

-- the device is there, and has been up since its drivers were added
abbrev pub IsUpAt : List Node → ℕ → Type 0
IsUpAt nodes k = (n : Node) × (node_at k nodes ≡ Some n) × (is_idle n.state ≡ false)

abbrev pub JoinsUp : List Node → Relation → Type 0
JoinsUp nodes r = IsUpAt nodes r.owner × IsUpAt nodes r.member

-- owner and member of each relation are such devices
abbrev pub RelatedUp : Core → Type 0
RelatedUp c = AllByRecursion (JoinsUp c.nodes) c.relations

-- What a change keeps -----------------------------------------------------------------

module _ (old new : List Node) where
  all_up : ((k : ℕ) → IsUpAt old k → IsUpAt new k) → (rs : List Relation) → AllByRecursion (JoinsUp old) rs → AllByRecursion (JoinsUp new) rs
  all_up up [] h = tt
  all_up up (r ∷ rs) h = ((up r.owner h.0.0, up r.member h.0.1), all_up up rs h.1)

  -- all but the relations of one device
  others_up : (j : ℕ) → ((k : ℕ) → j ≢ k → IsUpAt old k → IsUpAt new k) → (rs : List Relation) → AllByRecursion (JoinsUp old) rs
      → AllByRecursion (JoinsUp new) (those (is_apart_from j) rs)
  others_up j up [] h = tt
  others_up j up (r ∷ rs) h = by_test (is_apart_from j r) refl (others_up j up rs h.1)
    where
      by_test : (b : Bool) → is_apart_from j r ≡ b → AllByRecursion (JoinsUp new) (those (is_apart_from j) rs)
          → AllByRecursion (JoinsUp new) (cond b (r ∷ those (is_apart_from j) rs) (those (is_apart_from j) rs))
      by_test true e more = ((up r.owner (grind (arith, nat_tests)) h.0.0, up r.member (grind (arith, nat_tests)) h.0.1), more)
      by_test false e more = more

  one_more_up : (r : Relation) → JoinsUp new r → (rs : List Relation) → AllByRecursion (JoinsUp new) rs → AllByRecursion (JoinsUp new) (rs ++ r ∷ [])
  one_more_up r own [] h = (own, tt)
  one_more_up r own (q ∷ rs) h = (h.0, one_more_up r own rs h.1)

changed_up : (j : ℕ) (f : Node → Node) (nodes : List Node) → KeepsIds f → ((n : Node) → node_at j nodes ≡ Some n → StaysUp n.state (f n).state)
    → (k : ℕ) → IsUpAt nodes k → IsUpAt (changed_first (is_node j) f nodes) k
changed_up j f nodes keeps up k (n, at, h) =
    elim (cases_eq j k) [
      | inl e ↦
          let at_j = subst (λ (i : ℕ). node_at i nodes ≡ Some n) (sym e) at in
          let same = node_changed_same j f nodes keeps.serial in
          subst (λ (i : ℕ). IsUpAt (changed_first (is_node j) f nodes) i) e (f n, cc, up n at_j h)
      | inr d ↦ (n, node_changed_other j k f nodes keeps.serial d ∙ at, h)
    ]

bare_up : (j : ℕ) (nodes : List Node) (k : ℕ) → j ≢ k → IsUpAt nodes k → IsUpAt (changed_first (is_node j) bare nodes) k
bare_up j nodes k d (n, at, h) = (n, node_changed_other j k bare nodes (λ m. refl) d ∙ at, h)

mapped_up : (f : Node → Node) → ((n : Node) → (f n).serial ≡ n.serial) → ((n : Node) → (f n).state ≡ n.state) → (nodes : List Node) (k : ℕ) → IsUpAt nodes k → IsUpAt (map f nodes) k
mapped_up f serial state nodes k (n, at, h) =
    let same = node_at-map k f nodes serial in
    (f n, cc, ap is_idle (state n) ∙ h)

joined_up : (nodes : List Node) (new : Node) (k : ℕ) → IsUpAt nodes k → IsUpAt (nodes ++ new ∷ []) k
joined_up nodes new k (n, at, h) = (n, joined_keeps k nodes new n at, h)

-- what leaves was not up
left_up : (label : Label) (j : ℕ) (nodes : List Node) → Ascending 0 nodes → FollowsDiagram label nodes (without_first (is_node j) nodes)
    → (k : ℕ) → IsUpAt nodes k → IsUpAt (without_first (is_node j) nodes) k
left_up label j nodes order follows k (n, at, h) =
    elim (cases_eq j k) [
      | inl e ↦
          let at_j = subst (λ (i : ℕ). node_at i nodes ≡ Some n) (sym e) at in
          let state = follows.leaves j n at_j (left_same 0 j nodes order) in
          absurd (let idle = ap is_idle state in cc)
      | inr d ↦ (n, left_other j k nodes d ∙ at, h)
    ]

-- Steps and events ----------------------------------------------------------------------

-- by a core's parts
from_parts : (c : Core) (nodes : List Node) (relations : List Relation) → c.nodes ≡ nodes → c.relations ≡ relations → AllByRecursion (JoinsUp nodes) relations → RelatedUp c
from_parts c nodes relations a b h =
    subst (λ (x : List Node). AllByRecursion (JoinsUp x) c.relations) (sym a) (subst (λ (x : List Relation). AllByRecursion (JoinsUp nodes) x) (sym b) h)

-- a device that is found is found by its serial
found_at : (test : Node → Bool) (lo : ℕ) (nodes : List Node) (n : Node) → Ascending lo nodes → find test nodes ≡ Some n → (lo ≤ n.serial) × (node_at n.serial nodes ≡ Some n)
found_at test lo [] n order h = absurd (cc)
found_at test lo (x ∷ xs) n order h = grind (arith, nat_tests, found_at test (suc x.serial) xs n)

started_up : (x : DevState) → is_started x ≡ true → is_idle x ≡ false
started_up NoStack h = absurd (cc)
started_up NotStarted h = absurd (cc)
started_up Started h = refl
started_up StopPending h = refl
started_up Stopped h = refl
started_up RemovePending h = refl
started_up SurpriseRemoved h = refl

found_up : (nodes : List Node) (path : Text) (n : Node) → Ascending 0 nodes → node_of path nodes ≡ Some n → is_started n.state ≡ true → IsUpAt nodes n.serial
found_up nodes path n order found up = (n, (found_at (λ m. folding.same m.path path) 0 nodes n order found).1, started_up n.state up)

effect_up : (s : State) (label : Label) (t : State) → NodeEffect s label t → Ascending 0 s.core.nodes → FollowsDiagram label s.core.nodes t.core.nodes → RelatedUp s.core → RelatedUp t.core
effect_up s label t (NodeEffect.same a b) order follows h = from_parts t.core s.core.nodes s.core.relations a b h
effect_up s label t (NodeEffect.changed j f alters a b) order follows h =
    from_parts t.core (changed_first (is_node j) f s.core.nodes) s.core.relations a b
    (all_up s.core.nodes _ (changed_up j f s.core.nodes (alters_keeps s label t j f alters) (alters_up s label t j f alters)) s.core.relations h)
effect_up s label t (NodeEffect.stripped node w at request ends prints a b) order follows h =
    from_parts t.core (changed_first (is_node node.serial) bare s.core.nodes) (forget node.serial s.core.relations) a b (others_up s.core.nodes _ node.serial (bare_up node.serial s.core.nodes) s.core.relations h)
effect_up s label t (NodeEffect.commits r runs course is a b) order follows h =
    from_parts t.core (map (committed r.wanted r.target (movers r) (plan_of r.found)) s.core.nodes) s.core.relations a b
    (all_up s.core.nodes _ (mapped_up (committed r.wanted r.target (movers r) (plan_of r.found)) (λ n. refl) (λ n. refl) s.core.nodes) s.core.relations h)
effect_up s label t (NodeEffect.joins node d none at up there is) order follows h =
    subst (λ (x : Step). RelatedUp x.state.core) (sym is) (all_up s.core.nodes _ (joined_up s.core.nodes (new_child node.serial d s)) s.core.relations h)
effect_up s label t (NodeEffect.left node o runs first a b) order follows h =
    let leaves = subst (λ (x : List Node). FollowsDiagram label s.core.nodes x) a follows in
    from_parts t.core (without_first (is_node node.serial) s.core.nodes) s.core.relations a b (all_up s.core.nodes _ (left_up label node.serial s.core.nodes order leaves) s.core.relations h)
effect_up s label t (NodeEffect.related r related a b) order follows h =
    let owner = found_up s.core.nodes related.owner_path related.owner order related.owner_at related.owner_up in
    let member = found_up s.core.nodes related.member_path related.member order related.member_at related.member_up in
    from_parts t.core s.core.nodes (s.core.relations ++ r ∷ []) a b
    (one_more_up s.core.nodes s.core.nodes r (subst (λ (i : ℕ). IsUpAt s.core.nodes i) (sym related.owner_is) owner, subst (λ (i : ℕ). IsUpAt s.core.nodes i) (sym related.member_is) member) s.core.relations h)

goes_up : (settings : Settings) (rack : List Driver) (old : State) (entry : Entry) (new : State) → IsReached settings rack old → RelatedUp old.core → Goes settings old entry new → RelatedUp new.core
goes_up settings rack old entry new reached h goes =
    effect_up old (printed entry) new (effect_goes settings old entry new goes).nodes (reached_is_good settings rack old reached).serials
    (every_run_follows settings rack reached.0 old entry new reached.1 goes).0 h

pub reached_up : (settings : Settings) (rack : List Driver) (s : State) → IsReached settings rack s → RelatedUp s.core
reached_up settings rack s reached = kept (λ (x : State). RelatedUp x.core) settings rack (goes_up settings rack) tt s reached

-- each relation of a state of a run joins two devices that are up
pub related_up : (settings : Settings) (rack : List Driver) (entries : List Entry) (s : State) → Reaches settings rack entries s → RelatedUp s.core
related_up settings rack entries s run = reached_up settings rack s (entries, run)

-- What has no relations --------------------------------------------------------------------

module _ (nodes : List Node) (k : ℕ) (n : Node) (at : node_at k nodes ≡ Some n) (idle : is_idle n.state ≡ true) where
  not_here : (j : ℕ) → IsUpAt nodes j → (j == k) ≡ false
  not_here j (m, there, up) =
      elim (cases_eq j k) [
        | inl e ↦
            let at_k = subst (λ (i : ℕ). node_at i nodes ≡ Some m) e there in
            let same : m ≡ n = some_same (node_at k nodes) m n at_k at in
            let state = ap (λ (x : Node). is_idle x.state) same in
            absurd (cc)
        | inr d ↦ grind (arith, nat_tests)
      ]

  none_forgotten : (rs : List Relation) → AllByRecursion (JoinsUp nodes) rs → forget k rs ≡ rs
  none_forgotten [] h = refl
  none_forgotten (r ∷ rs) h =
      let owner = not_here r.owner h.0.0 in
      let member = not_here r.member h.0.1 in
      let apart : is_apart_from k r ≡ true = ap (λ b. not (b || (r.member == k))) owner ∙ ap not member in
      ap (λ b. cond b (r ∷ forget k rs) (forget k rs)) apart ∙ ap (λ (x : List Relation). r ∷ x) (none_forgotten rs h.1)

-- a device that was never up has no relations
pub no_relations : (c : Core) (k : ℕ) (n : Node) → RelatedUp c → node_at k c.nodes ≡ Some n → is_idle n.state ≡ true → forget k c.relations ≡ c.relations
no_relations c k n up at idle = none_forgotten c.nodes k n at idle c.relations up
