-- A request goes through the drivers of a device, all of which agree: of an operation, and of a start.
use Rattle.std.proofs.Common.{ℕ, zero, suc, ◌+◌, ◌≤◌, ◌==◌, ◌≡◌, Bool, true, false, [], ◌∷◌, length, nat_le, Option, Some, None, refl, ap, ◌∙◌, subst, arith, cond, if◌then◌else◌}
use Rattle.std.specs.List.{AllByRecursion}
use Rattle.std.specs.Option.{option_map}
use Rattle.std.specs.Prelude.{◌&&◌, ◌||◌}
use Rattle.std.proofs.lemmas.Bool.Decides.{nat_tests}
use Rattle.pnp_labels.specs.declared.words.Minor.{Minor}
use Rattle.pnp_model.specs.Cores.{node_at}
use Rattle.pnp_model.specs.Frames.{Ask, asked, first_node}
use Rattle.pnp_model.specs.Jobs as jobs
use Rattle.pnp_model.specs.Machine as ma
use Rattle.pnp_model.specs.Records.{Activity, Doing, Job, Node, Phase, Settings, State, Step, Walk, course_of, doing_map}
use Rattle.pnp_model.specs.Records.Doing.{Does}
use Rattle.pnp_model.specs.Starts as st
use Rattle.pnp_model.specs.Walks.{has_ended, is_bad, may_fail}
use Rattle.pnp_pairs.specs.DisabledAndEnabled.{HasNoRule}
use Rattle.pnp_pairs.proofs.Agreeing.{agreed, asked_agrees, next_agrees}
use Rattle.pnp_pairs.proofs.Leading.{Leads, stays, steps_on}

-- so many drivers have answered, and all have agreed
abbrev pub walk_at : Minor → ℕ → Walk
walk_at minor i = record { minor = minor; asked = i; failed = false; waits = false }

pub is_good : (minor : Minor) (i : ℕ) → is_bad (walk_at minor i) ≡ false
is_good minor i = by_test (may_fail minor)
  where
    by_test : (b : Bool) → (b && false) ≡ false
    by_test true = refl
    by_test false = refl

pub goes_on : (minor : Minor) (i n : ℕ) → i + 1 ≤ n → has_ended (walk_at minor i) n ≡ false
goes_on minor i n below = let more : nat_le n i ≡ false = grind (arith, nat_tests) in ap (λ (b : Bool). b || nat_le n i) (is_good minor i) ∙ more

pub is_over : (minor : Minor) (n : ℕ) → has_ended (walk_at minor n) n ≡ true
is_over minor n = let all : nat_le n n ≡ true = grind (arith, nat_tests) in ap (λ (b : Bool). b || nat_le n n) (is_good minor n) ∙ all

module _ (settings : Settings) (base : State) (minor : Minor) (node : Node) (steady : AllByRecursion (HasNoRule base.core.rack node.path) node.stack) where
  abbrev n : ℕ
  n = length node.stack

  -- of an operation
  module _ (j : Job) (first : first_node base.core.nodes j.todo ≡ Some node) where
    abbrev pub asking : ℕ → State
    asking i = record base { operation = Some (record j { walk = Some (walk_at minor i) }) }

    one_more : (i : ℕ) → i + 1 ≤ n → ma.next settings (asking i) ≡ Some (Does (ma.job_lifted (asking i) (jobs.asks (record j { walk = Some (walk_at minor i) }) (agreed base.core node (walk_at minor i)))))
    one_more i below =
        let own : Job = record j { walk = Some (walk_at minor i) } in
        let s = asking i in
        let w = walk_at minor i in
        let course = course_of j.kind in
        let back = ma.is_back s own course in
        ap (λ (o : Option Node). option_map (doing_map (ma.job_lifted s)) (ma.job_step base.core own course back base.handles (Some w) o)) first
        ∙ ap (λ (b : Bool). option_map (doing_map (ma.job_lifted s)) (option_map (λ (m : jobs.JobMove). Doing.Does m)
        (if b then option_map (jobs.ends base.core node w) (ma.after_end base.core own back node (is_bad w) course) else Some (jobs.asks own (asked base.core node w))))) (goes_on minor i n below)
        ∙ ap (λ (x : Ask). Some (Does (ma.job_lifted s (jobs.asks own x)))) (asked_agrees base.core node w (next_agrees base.core.rack node w steady (omega arith)))

    pub asks_all : (m i : ℕ) → i + m ≡ n → Leads settings (asking i) (asking n)
    asks_all zero i e = let is : i ≡ n = omega arith in subst (λ (x : ℕ). Leads settings (asking i) (asking x)) is (stays settings (asking i))
    asks_all (suc m) i e =
        steps_on settings (asking i) (asking n) (ma.job_lifted (asking i) (jobs.asks (record j { walk = Some (walk_at minor i) }) (agreed base.core node (walk_at minor i)))) (one_more i (omega arith))
        (asks_all m (i + 1) (omega arith))

    -- and has ended: the operation stands as it is to stand
    pub ends_well : (next : Option Job) → ma.after_end base.core (record j { walk = Some (walk_at minor n) }) (ma.is_back (asking n) (record j { walk = Some (walk_at minor n) }) (course_of j.kind)) node false (course_of j.kind) ≡ next
        → ma.next settings (asking n) ≡ option_map (doing_map (ma.job_lifted (asking n))) (option_map (λ (m : jobs.JobMove). Doing.Does m) (option_map (jobs.ends base.core node (walk_at minor n)) next))
    ends_well next e =
        let own : Job = record j { walk = Some (walk_at minor n) } in
        let s = asking n in
        let w = walk_at minor n in
        let course = course_of j.kind in
        let back = ma.is_back s own course in
        ap (λ (o : Option Node). option_map (doing_map (ma.job_lifted s)) (ma.job_step base.core own course back base.handles (Some w) o)) first
        ∙ ap (λ (b : Bool). option_map (doing_map (ma.job_lifted s)) (option_map (λ (m : jobs.JobMove). Doing.Does m)
        (if b then option_map (jobs.ends base.core node w) (ma.after_end base.core own back node (is_bad w) course) else Some (jobs.asks own (asked base.core node w))))) (is_over minor n)
        ∙ ap (λ (b : Bool). option_map (doing_map (ma.job_lifted s)) (option_map (λ (m : jobs.JobMove). Doing.Does m) (option_map (jobs.ends base.core node w) (ma.after_end base.core own back node b course)))) (is_good minor n)
        ∙ ap (λ (o : Option Job). option_map (doing_map (ma.job_lifted s)) (option_map (λ (m : jobs.JobMove). Doing.Does m) (option_map (jobs.ends base.core node w) o))) e

-- The start of a device ------------------------------------------------------------------------------------

-- the start stands in this phase, and nothing else is under way
abbrev pub in_phase : State → ℕ → Phase → State
in_phase base k phase = record base { operation = None; activities = record { serial = k; phase = phase } ∷ [] }

-- a move by which the start goes on
pub moves_on : (base : State) (k : ℕ) (phase : Phase) (m : st.StartMove) → m.beside ≡ st.StartBeside.On → ma.start_lifted (in_phase base k phase) k m ≡ record { label = m.label; state = in_phase (record base { core = m.core }) k m.frame }
moves_on base k phase m on =
    let own : (k == k) ≡ true = grind (arith, nat_tests) in
    ap (λ (x : st.StartBeside). let t : Step = record { label = m.label; state = ma.after_start k m.frame x (record (in_phase base k phase) { core = m.core }) } in t) on
    ∙ ap (λ (b : Bool). let t : Step = record { label = m.label; state = record base { core = m.core; operation = None; activities = cond b (record { serial = k; phase = m.frame } ∷ []) (record { serial = k; phase = phase } ∷ []) } } in t) own

-- what a start that does not wait does
pub acts_next : (settings : Settings) (base : State) (node : Node) → node_at node.serial base.core.nodes ≡ Some node → (phase : Phase) → ma.is_waiting (ma.phase_walk phase) ≡ false
    → ma.next settings (in_phase base node.serial phase) ≡ Some (doing_map (ma.start_lifted (in_phase base node.serial phase) node.serial) (st.act base.core node phase))
acts_next settings base node at phase ready =
    let s = in_phase base node.serial phase in
    let a : Activity = record { serial = node.serial; phase = phase } in
    ap (λ (b : Bool). ma.idle_next settings s (cond (Rattle.std.specs.Prelude.not b) (Some a) None)) ready
    ∙ ap (λ (o : Option Node). ma.activity_next s a o) at

module _ (settings : Settings) (base : State) (node : Node) (steady : AllByRecursion (HasNoRule base.core.rack node.path) node.stack) (at : node_at node.serial base.core.nodes ≡ Some node) where
  abbrev pub starting : ℕ → State
  starting i = in_phase base node.serial (Phase.Starting (walk_at Minor.Start i))

  start_more : (i : ℕ) → i + 1 ≤ length node.stack → ma.next settings (starting i) ≡ Some (Does (record { label = (agreed base.core node (walk_at Minor.Start i)).label; state = starting (i + 1) }))
  start_more i below =
      let w = walk_at Minor.Start i in
      acts_next settings base node at (Phase.Starting w) refl
      ∙ ap (λ (b : Bool). Some (Does (ma.start_lifted (starting i) node.serial (st.start_on base.core node w b)))) (goes_on Minor.Start i (length node.stack) below)
      ∙ ap (λ (x : Ask). Some (Does (ma.start_lifted (starting i) node.serial (st.asks Phase.Starting x)))) (asked_agrees base.core node w (next_agrees base.core.rack node w steady (omega arith)))
      ∙ ap (λ (x : Step). Some (Does x)) (moves_on base node.serial (Phase.Starting w) (st.asks Phase.Starting (agreed base.core node w)) refl)

  pub starts_all : (m i : ℕ) → i + m ≡ length node.stack → Leads settings (starting i) (starting (length node.stack))
  starts_all zero i e = let is : i ≡ length node.stack = omega arith in subst (λ (x : ℕ). Leads settings (starting i) (starting x)) is (stays settings (starting i))
  starts_all (suc m) i e =
      steps_on settings (starting i) (starting (length node.stack)) (record { label = (agreed base.core node (walk_at Minor.Start i)).label; state = starting (i + 1) }) (start_more i (omega arith)) (starts_all m (i + 1) (omega arith))
