-- Where a rebalance stands next.
use Rattle.std.proofs.Common.{◌≡◌, ℕ, Bool, true, false, List, [], ◌∷◌, is_some, Option, Some, None, option_map, if◌then◌else◌, refl, sym, ap, ◌∙◌}
use Rattle.pnp_labels.specs.Texts.{Text}
use Rattle.pnp_labels.specs.declared.label.Label.{Label}
use Rattle.pnp_labels.specs.declared.words.Answer.{Answer}
use Rattle.pnp_labels.specs.declared.words.Minor.{Minor}
use Rattle.pnp_model.specs.Keyed.{changed_first, those}
use Rattle.pnp_model.specs.Cores.{is_node, node_at, with_state}
use Rattle.pnp_model.specs.Frames.{rest}
use Rattle.pnp_model.specs.Jobs.{stands, each_gets}
use Rattle.pnp_model.specs.Records as Records
use Rattle.pnp_model.specs.Records.{Node, Core, Walk, Job, Course}
use Rattle.pnp_model.specs.Walks.{after, state_after}
use Rattle.pnp_model.specs.Rebalances.{after_end, after_restart, answers, ask_on, cancel_on, cancelled, has_refused, is_not_above, restart_on, stop_on}
use Rattle.pnp_laws.specs.Kept.{IsOwn, asked_in}
use Rattle.pnp_laws.proofs.Lookups.{own_serial}
use Rattle.devnode_tree.specs.Cores.{at_nodes}
use Rattle.operation_frame.specs.Steps.{StandsAfter}
use Rattle.operation_frame.specs.Walks.{EndsFor, WalksFor}
use Rattle.operation_frame.specs.declared.walking.Walked.TheVariants.{On}
use Rattle.rebalance.specs.Stages.{stage_of, walk_at}
use Rattle.rebalance.specs.declared.frame.Stage.{Stage}
use Rattle.rebalance.specs.declared.frame.Stage.TheVariants.{Asking, TakingBack, Cancelling, Stopping, Restarting}

-- Each of these gets a request ---------------------------------------------------------------

module _ (minor : Minor) (stage : Records.Stage) (r : Job) where
  -- what was to do before is not read, nor how it stood
  pub gets_same : (t todo : List ℕ) (was : Records.Stage) (walk : Option Walk) (over : Job) → each_gets minor stage (record r { todo = t; stage = was; walk = walk }) todo over ≡ each_gets minor stage r todo over
  gets_same t [] was walk over = refl
  gets_same t (k ∷ ks) was walk over = refl

pub ask_same : (r : Job) (t todo : List ℕ) (was : Records.Stage) (walk : Option Walk) → ask_on (record r { todo = t; stage = was; walk = walk }) todo ≡ ask_on r todo
ask_same r t todo was walk =
    gets_same Minor.QueryStop Records.Stage.Asking r t todo was walk (if has_refused r then cancel_on (record r { todo = t; stage = was; walk = walk }) r.agreed else stands r [] Records.Stage.Searching)
    ∙ ap (λ (x : Job). each_gets Minor.QueryStop Records.Stage.Asking r todo (if has_refused r then x else stands r [] Records.Stage.Searching)) (gets_same Minor.CancelStop Records.Stage.Cancelling r t r.agreed was walk (stands r [] (cancelled r.wanted)))

-- The request of a stage has ended -----------------------------------------------------------

module _ (nodes : List Node) (k : ℕ) (r r' : Job) (refused : Bool) where
  stands_when : ((n : Node) → n.serial ≡ k → (c : Core) → c.nodes ≡ nodes → after_end c r n refused r.stage ≡ Some r') → StandsAfter Course.Rebalancing (node_at k nodes) nodes r false refused r'
  stands_when f = by (node_at k nodes) refl
    where
      by : (x : Option Node) → node_at k nodes ≡ x → StandsAfter Course.Rebalancing x nodes r false refused r'
      by None at = tt
      by (Some n) at = λ around. f n (own_serial k n nodes at) (at_nodes nodes around) refl

  pub stands_answered : r.stage ≡ Records.Stage.Asking → ((n : Node) → n.serial ≡ k → r' ≡ answers r n refused) → StandsAfter Course.Rebalancing (node_at k nodes) nodes r false refused r'
  stands_answered e f = stands_when (λ n own c is. ap (after_end c r n refused) e ∙ ap (λ (x : Job). Some x) (sym (f n own)))

  pub stands_taken : r.stage ≡ Records.Stage.TakingBack → r' ≡ ask_on r (those (is_not_above nodes k) (rest r.todo)) → StandsAfter Course.Rebalancing (node_at k nodes) nodes r false refused r'
  stands_taken e f =
      stands_when
      (λ n own c is. ap (after_end c r n refused) e ∙ (ap (λ (ns : List Node). Some (ask_on r (those (is_not_above ns n.serial) (rest r.todo)))) is
      ∙ (ap (λ i. Some (ask_on r (those (is_not_above nodes i) (rest r.todo)))) own ∙ ap (λ (x : Job). Some x) (sym f))))

  pub stands_cancelled : r.stage ≡ Records.Stage.Cancelling → r' ≡ cancel_on r (rest r.todo) → StandsAfter Course.Rebalancing (node_at k nodes) nodes r false refused r'
  stands_cancelled e f = stands_when (λ n own c is. ap (after_end c r n refused) e ∙ ap (λ (x : Job). Some x) (sym f))

  pub stands_stopped : r.stage ≡ Records.Stage.Stopping → r' ≡ stop_on r (rest r.todo) → StandsAfter Course.Rebalancing (node_at k nodes) nodes r false refused r'
  stands_stopped e f = stands_when (λ n own c is. ap (after_end c r n refused) e ∙ ap (λ (x : Job). Some x) (sym f))

  pub stands_restarted : (nodes' : List Node) (path : Text) (label : Label) → r.stage ≡ Records.Stage.Restarting → EndsFor (node_at k nodes) Minor.Start refused path nodes label nodes'
      → (refused ≡ true → r' ≡ stands r r.todo Records.Stage.Failed) → (refused ≡ false → r' ≡ restart_on nodes' r (rest r.todo)) → StandsAfter Course.Rebalancing (node_at k nodes) nodes r false refused r'
  stands_restarted nodes' path label e ends bad good = by (node_at k nodes) refused refl ends
    where
      by : (x : Option Node) (b : Bool) → refused ≡ b → EndsFor x Minor.Start refused path nodes label nodes' → StandsAfter Course.Rebalancing x nodes r false refused r'
      by None b f ends = tt
      by (Some n) true f ends = λ around. ap (after_end (at_nodes nodes around) r n refused) e ∙ (ap (λ b. Some (after_restart (at_nodes nodes around) r n b)) f ∙ ap (λ (x : Job). Some x) (sym (bad f)))
      by (Some n) false f ends = λ around.
          ap (after_end (at_nodes nodes around) r n refused) e
          ∙ (ap (λ b. Some (after_restart (at_nodes nodes around) r n b)) f
          ∙ ap (λ (x : Job). Some x) (sym (good f ∙ ap (λ ns. restart_on ns r (rest r.todo)) (ends.1 ∙ ap (λ b. changed_first (is_node n.serial) (with_state (state_after Minor.Start b n.state)) nodes) f))))

-- The request that is on its way is the one of the stage ---------------------------------------

pub own_start : (walk : Option Walk) (minor : Minor) (stage : Records.Stage) → IsOwn walk (Some minor) → IsOwn walk (asked_in Course.Rebalancing stage) → stage ≡ Records.Stage.Restarting → minor ≡ Minor.Start
own_start walk minor stage h own e = let is : Some minor ≡ Some Minor.Start = sym h ∙ (own ∙ ap (asked_in Course.Rebalancing) e) in cc

pub no_remove : (stage : Records.Stage) (minor : Minor) → asked_in Course.Rebalancing stage ≡ Some minor → minor ≡ Minor.Remove → ⊥
no_remove Records.Stage.Asking minor h e = cc
no_remove Records.Stage.TakingBack minor h e = cc
no_remove Records.Stage.Cancelling minor h e = cc
no_remove Records.Stage.Stopping minor h e = cc
no_remove Records.Stage.Restarting minor h e = cc
no_remove _ minor h e = cc

-- it is there where the stage has one
pub walk_is : (s : Stage) (w v : Walk) → is_some (walk_at s w) ≡ true → walk_at s v ≡ Some v
walk_is s w v h = by (asked_in Course.Rebalancing (stage_of s)) h
  where
    by : (asked : Option Minor) → is_some (option_map (λ minor. w) asked) ≡ true → option_map (λ minor. v) asked ≡ Some v
    by None h = absurd (cc)
    by (Some minor) h = refl

-- a driver that is asked leaves it
after_minor : (w : Walk) (answer : Answer) → (after w answer).minor ≡ w.minor
after_minor w Answer.Ok = refl
after_minor w Answer.Fail = refl
after_minor w Answer.Pend = refl

pub walked_minor : (x : Option Node) (c c' : Core) (w w' : Walk) (label : Label) → WalksFor x c w (On label) c' w' → w'.minor ≡ w.minor
walked_minor None c c' w w' label h = absurd h
walked_minor (Some n) c c' w w' label h = ap (λ (v : Walk). v.minor) h.3 ∙ after_minor w _

pub own_on : (asked : Option Minor) (w w' : Walk) → w'.minor ≡ w.minor → IsOwn (option_map (λ minor. w) asked) asked → IsOwn (option_map (λ minor. w') asked) asked
own_on None w w' same own = refl
own_on (Some minor) w w' same own = ap (λ (m : Minor). Some m) same ∙ own

-- which stage is left
pub only_restarting : (s : Stage) (w : Walk) (minor : Minor) → (s ≡ Asking → ⊥) → (s ≡ TakingBack → ⊥) → (s ≡ Cancelling → ⊥) → (s ≡ Stopping → ⊥) → IsOwn (walk_at s w) (Some minor) → s ≡ Restarting
only_restarting Asking w minor a b c d h = absurd (a refl)
only_restarting TakingBack w minor a b c d h = absurd (b refl)
only_restarting Cancelling w minor a b c d h = absurd (c refl)
only_restarting Stopping w minor a b c d h = absurd (d refl)
only_restarting Restarting w minor a b c d h = refl
only_restarting _ w minor a b c d h = absurd (cc)
