-- A step of a request and its end are steps of the machine, whatever the operation is.
use Rattle.std.proofs.Common.{◌≡◌, ℕ, Bool, List, Option, Some, None, option_map, if◌then◌else◌, refl, sym, ap, ◌∙◌, subst}
use Rattle.pnp_labels.specs.Texts.{Text}
use Rattle.pnp_labels.specs.declared.label.Label.{Label}
use Rattle.pnp_labels.specs.declared.words.Minor.{Minor}
use Rattle.pnp_labels.specs.declared.words.Minor.TheVariants.{Start, QueryRemove, Remove, CancelRemove, Stop, QueryStop, CancelStop, SurpriseRemoval}
use Rattle.pnp_labels.specs.declared.states.DevState.TheVariants.{NoStack}
use Rattle.pnp_model.specs.Keyed.{changed_first}
use Rattle.pnp_model.specs.Walks.{is_bad, state_after}
use Rattle.pnp_model.specs.Cores.{is_node, node_at, set_state, set_rack, bare, forget}
use Rattle.pnp_model.specs.Frames.{asked, state_label, ended}
use Rattle.pnp_model.specs.Jobs.{JobMove, Beside, asks, ends}
use Rattle.pnp_model.specs.Machine.{after_end, job_step}
use Rattle.pnp_model.specs.Records.{Node, Core, Driver, Handle, Relation, Walk, Job, Course, Doing}
use Rattle.pnp_model.specs.Records.Doing.{Does}
use Rattle.pnp_laws.proofs.Lookups.{own_serial}
use Rattle.devnode_tree.specs.Cores.{at_nodes, at_related}
use Rattle.operation_frame.specs.Nodes.{PathIs}
use Rattle.operation_frame.specs.Steps.{StepIs, StandsAfter}
use Rattle.operation_frame.specs.Walks.{WalksFor, EndsFor, EndedFor}
use Rattle.operation_frame.specs.declared.walking.Walked.TheVariants.{On, Ended}

-- The end of a request ------------------------------------------------------------------------

-- one that leaves the drivers gives a state
ended_state : (minor : Minor) → (minor ≡ Remove → ⊥) → (c : Core) (n : Node) (bad : Bool) → ended c n minor bad ≡ set_state n.serial (state_after minor bad n.state) c
ended_state Remove other c n bad = absurd (other refl)
ended_state Start other c n bad = refl
ended_state QueryRemove other c n bad = refl
ended_state CancelRemove other c n bad = refl
ended_state Stop other c n bad = refl
ended_state QueryStop other c n bad = refl
ended_state CancelStop other c n bad = refl
ended_state SurpriseRemoval other c n bad = refl

pub ended_alone : (x : Option Node) (minor : Minor) (bad : Bool) (path : Text) (nodes nodes' : List Node) (rs : List Relation) (label : Label) → (minor ≡ Remove → ⊥)
    → PathIs x path → EndsFor x minor bad path nodes label nodes' → EndedFor x minor bad nodes rs label nodes' rs
ended_alone None minor bad path nodes nodes' rs label other p e = absurd p
ended_alone (Some n) minor bad path nodes nodes' rs label other p e = (
  e.0 ∙ ap (λ t. Label.State t (state_after minor bad n.state)) p,
  (λ around. ap (λ ns. at_related ns rs around) e.1 ∙ sym (ended_state minor other (at_related nodes rs around) n bad)),
)

-- the one that removes them
pub stripped_is : (k : ℕ) (bad : Bool) (path : Text) (nodes nodes' : List Node) (rs rs' : List Relation) (label : Label) → PathIs (node_at k nodes) path → label ≡ Label.State path NoStack
    → nodes' ≡ changed_first (is_node k) bare nodes → rs' ≡ forget k rs → EndedFor (node_at k nodes) Remove bad nodes rs label nodes' rs'
stripped_is k bad path nodes nodes' rs rs' label p l e f = by (node_at k nodes) refl p
  where
    by : (x : Option Node) → node_at k nodes ≡ x → PathIs x path → EndedFor x Remove bad nodes rs label nodes' rs'
    by None at p = absurd p
    by (Some n) at p = (
      l ∙ ap (λ t. Label.State t NoStack) p,
      (λ around. ap (λ ns. at_related ns rs' around) e ∙ (ap (λ rs. at_related (changed_first (is_node k) bare nodes) rs around) f
          ∙ ap (λ i. at_related (changed_first (is_node i) bare nodes) (forget i rs) around) (sym (own_serial k n nodes at)))),
    )

-- A step of the request of the device that is next -------------------------------------------------

-- `By` is what a step is to the step of the machine, and `on` says which step has nothing beside it
module _ (By : Option (Doing JobMove) → Label → Core → Job → Type 0) (on : (m : JobMove) (label : Label) (core : Core) (j : Job) → StepIs m Beside.On label core j → By (Some (Does m)) label core j)
    (course : Course) (in_world : Bool) (handles : List Handle) (j new : Job) (x : Option Node) (rack rack' : List Driver) (w w' : Walk) (label : Label) where
  -- a driver is asked
  pub goes_on : ((around : Core) → WalksFor x (set_rack rack around) w (On label) (set_rack rack' around) w') → new ≡ record j { walk = Some w' }
      → (around : Core) → By (job_step (set_rack rack around) j course in_world handles (Some w) x) label (set_rack rack' around) new
  goes_on h f around = by x (h around)
    where
      by : (x : Option Node) → WalksFor x (set_rack rack around) w (On label) (set_rack rack' around) w' → By (job_step (set_rack rack around) j course in_world handles (Some w) x) label (set_rack rack' around) new
      by None h = absurd h
      by (Some n) h =
          let c = set_rack rack around in
          subst (λ (b : Bool). By (option_map (λ m. Does m) (if b then option_map (ends c n w) (after_end c j in_world n (is_bad w) course) else Some (asks j (asked c n w)))) label (set_rack rack' around) new) (sym h.0)
          (on (asks j (asked c n w)) label (set_rack rack' around) new (refl, h.1, h.2, f ∙ ap (λ (v : Walk). record j { walk = Some v }) h.3))

  -- the request ends
  pub ends_so : (path : Text) (refused : Bool) (nodes nodes' : List Node) (rs rs' : List Relation) → ((around : Core) → WalksFor x (set_rack rack around) w (Ended path refused) (set_rack rack' around) w')
      → EndedFor x w.minor refused nodes rs label nodes' rs' → StandsAfter course x nodes j in_world refused new
      → (around : Core) → By (job_step (at_related nodes rs (set_rack rack around)) j course in_world handles (Some w) x) label (at_related nodes' rs' (set_rack rack' around)) new
  ends_so path refused nodes nodes' rs rs' h e stands around = by x (h around) e stands
    where
      by : (x : Option Node) → WalksFor x (set_rack rack around) w (Ended path refused) (set_rack rack' around) w' → EndedFor x w.minor refused nodes rs label nodes' rs' → StandsAfter course x nodes j in_world refused new
          → By (job_step (at_related nodes rs (set_rack rack around)) j course in_world handles (Some w) x) label (at_related nodes' rs' (set_rack rack' around)) new
      by None h e stands = absurd h
      by (Some n) h e stands =
          let c = at_related nodes rs (set_rack rack around) in
          let same : rack' ≡ rack = ap (λ (d : Core). d.rack) h.3 in
          subst (λ (b : Bool). By (option_map (λ m. Does m) (if b then option_map (ends c n w) (after_end c j in_world n (is_bad w) course) else Some (asks j (asked c n w)))) label (at_related nodes' rs' (set_rack rack' around)) new) (sym h.0)
          (subst (λ (next : Option Job). By (option_map (λ m. Does m) (option_map (ends c n w) next)) label (at_related nodes' rs' (set_rack rack' around)) new) (sym (subst (λ (b : Bool). after_end c j in_world n b course ≡ Some new) h.1 (stands c)))
          (on (ends c n w new) label (at_related nodes' rs' (set_rack rack' around)) new (
            refl,
            e.0 ∙ ap (state_label n w.minor) h.1,
            ap (λ (r : List Driver). at_related nodes' rs' (set_rack r around)) same ∙ (e.1 (set_rack rack around) ∙ ap (ended c n w.minor) h.1),
            refl,
          )))

-- how it stands then is asked for the device alone
pub stands_if : (course : Course) (x : Option Node) (nodes : List Node) (j : Job) (in_world refused : Bool) (new : Job)
    → ((n : Node) → x ≡ Some n → (around : Core) → after_end (at_nodes nodes around) j in_world n refused course ≡ Some new) → StandsAfter course x nodes j in_world refused new
stands_if course None nodes j in_world refused new h = tt
stands_if course (Some n) nodes j in_world refused new h = h n refl
