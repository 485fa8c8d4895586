-- What the machine does beside a step of an operation that removes devices, by the step: only where a removal settles a
-- device it is disabled or ejected.
use Rattle.std.proofs.Common.{◌≡◌, ℕ, ◌==◌, Bool, true, false, ◌&&◌, List, [], ◌∷◌, Option, Some, None, IfSome, if◌then◌else◌, refl, sym, ◌∙◌, ap, subst, option_map, length}
use Rattle.pnp_labels.specs.Texts.{Text}
use Rattle.pnp_labels.specs.declared.label.Label.{Label}
use Rattle.pnp_labels.specs.declared.states.Problem.{Problem}
use Rattle.pnp_labels.specs.declared.words.Minor.{Minor}
use Rattle.pnp_model.specs.Cores.{set_problem}
use Rattle.pnp_model.specs.Frames.{asked, first_node, rest}
use Rattle.pnp_model.specs.Handles.{ready_device}
use Rattle.pnp_model.specs.Jobs.{Beside, JobMove, asks, ends, moves, stands, walks}
use Rattle.pnp_model.specs.Machine.{after_end, job_step}
use Rattle.pnp_model.specs.Records.{Core, Course, Doing, Handle, Job, Node, Stage, Walk}
use Rattle.pnp_model.specs.Records.Doing.{Does}
use Rattle.pnp_model.specs.Removals as removals
use Rattle.pnp_model.specs.Surprises as surprises
use Rattle.pnp_model.specs.Finishes as finishes
use Rattle.pnp_model.specs.Tests.{has, is_eject}
use Rattle.pnp_model.specs.Walks.{has_ended, is_bad, walk_of}
use Rattle.query_remove.specs.Parts.{is_settling}
use Rattle.pnp_machine.specs.Machines.{settled_path, path_if, path_where}

-- nothing is disabled or ejected
pub data IsPlain : Beside → Type 0 where
  on : IsPlain Beside.On
  left : (path : Text) (born : ℕ) → IsPlain (Beside.Left path born)
  over : IsPlain Beside.Over

pub not_disabled : (path : Text) (b : Beside) → b ≡ Beside.Disabled path → IsPlain b → ⊥
not_disabled path _ e IsPlain.on = cc
not_disabled path _ e (IsPlain.left own born) = cc
not_disabled path _ e IsPlain.over = cc

pub not_ejected : (path : Text) (born : ℕ) (b : Beside) → b ≡ Beside.Ejected path born → IsPlain b → ⊥
not_ejected path born _ e IsPlain.on = cc
not_ejected path born _ e (IsPlain.left own at) = cc
not_ejected path born _ e IsPlain.over = cc

-- a device is settled with the step, and this is what the machine does beside it
pub record Settles (c : Core) (o : Job) (beside : Beside) : Type 0 where
  pub node : Node
  pub first : first_node c.nodes o.todo ≡ Some node
  pub stage : o.stage ≡ Stage.Settling
  pub disables : (path : Text) → beside ≡ Beside.Disabled path → (path ≡ node.path) × ((node.serial == o.target) ≡ true) × (is_eject o.kind ≡ false)
  pub ejects : (path : Text) (born : ℕ) → beside ≡ Beside.Ejected path born → born ≡ node.born

plain_as : (x m : JobMove) → Some x ≡ Some m → IsPlain x.beside → IsPlain m.beside
plain_as x m e plain = subst (λ (y : Option JobMove). IfSome y (λ z. IsPlain z.beside)) e plain

-- the step of a request
walks_plain : (c : Core) (o : Job) (node : Node) (w : Walk) (next : Option Job) (m : JobMove) → walks c o node w next ≡ Some m → IsPlain m.beside
walks_plain c o node w next m e = by (has_ended w (length node.stack)) next e
  where
    by : (b : Bool) (next : Option Job) → (if b then option_map (ends c node w) next else Some (asks o (asked c node w))) ≡ Some m → IsPlain m.beside
    by true None e = absurd (cc)
    by true (Some p) e = plain_as (ends c node w p) m e IsPlain.on
    by false next e = plain_as (asks o (asked c node w)) m e IsPlain.on

does_is : (x : Option JobMove) (m : JobMove) → option_map (λ m. Does m) x ≡ Some (Does m) → x ≡ Some m
does_is None m e = absurd (cc)
does_is (Some x) m e = let same : x ≡ m = cc in ap (λ (y : JobMove). Some y) same

module _ (c : Core) (o : Job) (handles : List Handle) where
  -- A removal ----------------------------------------------------------------------------

  -- what a device that is settled brings about
  record Settled (node : Node) (beside : Beside) : Type 0 where
    pub disables : (path : Text) → beside ≡ Beside.Disabled path → (path ≡ node.path) × ((node.serial == o.target) ≡ true) × (is_eject o.kind ≡ false)
    pub ejects : (path : Text) (born : ℕ) → beside ≡ Beside.Ejected path born → born ≡ node.born

  settled : (node : Node) → Settled node (removals.settle c o node).beside
  settled node = by (has o.set node.parent) (node.serial == o.target) (is_eject o.kind) (is_eject o.kind && has o.ejecting node.serial) refl refl
    where
      by : (inner target eject held : Bool) → (node.serial == o.target) ≡ target → is_eject o.kind ≡ eject
          → Settled node
          (if inner then removals.leaves c o node (Label.Leave node.path) (Beside.Left node.path node.born)
          else if target then
          if eject then removals.leaves c o node (Label.Ejected node.path) (Beside.Ejected node.path node.born)
          else removals.remains c o node Problem.Disabled (Beside.Disabled node.path)
          else if held then removals.remains c o node Problem.HeldForEject Beside.On
          else removals.remains c o node Problem.Held Beside.On).beside
      by true target eject held own kind = record { disables = λ path e. absurd (cc); ejects = λ path born e. absurd (cc) }
      by false true true held own kind = record { disables = λ path e. absurd (cc); ejects = λ path born e. cc }
      by false true false held own kind = record { disables = λ path e. (cc, own, kind); ejects = λ path born e. absurd (cc) }
      by false false eject true own kind = record { disables = λ path e. absurd (cc); ejects = λ path born e. absurd (cc) }
      by false false eject false own kind = record { disables = λ path e. absurd (cc); ejects = λ path born e. absurd (cc) }

  -- a move is plain, or it settles a device
  Kinds : Beside → Type 0
  Kinds b = (IsPlain b → ⊥) → Settles c o b

  plain_kinds : (b : Beside) → IsPlain b → Kinds b
  unfolding Kinds
  plain_kinds b plain busy = absurd (busy plain)

  query_plain : (node : Node) (b : Bool) (m : JobMove) → removals.query c o node b ≡ Some m → IsPlain m.beside
  query_plain node true m e = plain_as _ m e IsPlain.on
  query_plain node false m e = walks_plain c (removals.queried o) node (walk_of Minor.QueryRemove) (Some (removals.answers c (removals.queried o) node false)) m e

  removal_acts : (stage : Stage) (n : Option Node) (m : JobMove) → o.stage ≡ stage → first_node c.nodes o.todo ≡ n → removals.acts c o handles stage n ≡ Some m → Kinds m.beside
  unfolding Kinds
  removal_acts Stage.Ending n m s f e = plain_kinds m.beside (plain_as (removals.close c o) m e IsPlain.over)
  removal_acts Stage.Next (Some node) m s f e = plain_kinds m.beside (query_plain node (removals.refuses_unasked handles node) m e)
  removal_acts Stage.Next None m s f e = absurd (cc)
  removal_acts Stage.Settling (Some node) m s f e =
      let h : Settled node m.beside = subst (λ (x : Option JobMove). IfSome x (λ y. Settled node y.beside)) e (settled node) in
      λ busy. record { node = node; first = f; stage = s; disables = h.disables; ejects = h.ejects }
  removal_acts Stage.Settling None m s f e = absurd (cc)
  removal_acts _ n m s f e = absurd (cc)

  removal_kinds : (in_world : Bool) (walk : Option Walk) (n : Option Node) (m : JobMove) → first_node c.nodes o.todo ≡ n → job_step c o Course.Removing in_world handles walk n ≡ Some (Does m) → Kinds m.beside
  removal_kinds in_world None n m f e = removal_acts o.stage n m refl f (does_is _ m e)
  removal_kinds in_world (Some w) None m f e = absurd (cc)
  removal_kinds in_world (Some w) (Some node) m f e = plain_kinds m.beside (walks_plain c o node w (after_end c o in_world node (is_bad w) Course.Removing) m (does_is _ m e))

  module _ (in_world : Bool) (m : JobMove) (e : job_step c o Course.Removing in_world handles o.walk (first_node c.nodes o.todo) ≡ Some (Does m)) where
    pub disables : (path : Text) → m.beside ≡ Beside.Disabled path → Settles c o m.beside
    unfolding Kinds
    disables path b = removal_kinds in_world o.walk (first_node c.nodes o.todo) m refl e (not_disabled path m.beside b)

    pub ejects : (path : Text) (born : ℕ) → m.beside ≡ Beside.Ejected path born → Settles c o m.beside
    unfolding Kinds
    ejects path born b = removal_kinds in_world o.walk (first_node c.nodes o.todo) m refl e (not_ejected path born m.beside b)

  -- A surprise removal, and its end ----------------------------------------------------------

  gone_settled : (p : Job) (node : Node) (in_world : Bool) → IsPlain (surprises.settle c p node in_world).beside
  gone_settled p node in_world = by (node.serial == p.target) in_world (has p.set node.parent)
    where
      by : (target in_world inner : Bool)
          → IsPlain
          (if target then if in_world then surprises.close c p else surprises.leaves c p node
          else if inner then surprises.leaves c p node
          else moves (Label.Trouble node.path Problem.Held) (set_problem node.serial (Some Problem.Held) c) (surprises.finish_on p (rest p.todo))).beside
      by true true inner = IsPlain.over
      by true false inner = IsPlain.left node.path node.born
      by false in_world true = IsPlain.left node.path node.born
      by false in_world false = IsPlain.on

  gone_finished : (node : Node) (in_world behind : Bool) → IsPlain (surprises.finish c o node in_world behind).beside
  gone_finished node in_world true = IsPlain.on
  gone_finished node in_world false = by node.stack
    where
      by : (stack : List ℕ) → IsPlain (surprises.finish_with c o node in_world stack).beside
      by [] = gone_settled (stands o o.todo Stage.Settling) node in_world
      by (d ∷ ds) = IsPlain.on

  surprise_acts : (in_world : Bool) (stage : Stage) (n : Option Node) (m : JobMove) → surprises.acts c o in_world handles stage n ≡ Some m → IsPlain m.beside
  surprise_acts in_world Stage.Ending n m e = plain_as _ m e IsPlain.over
  surprise_acts in_world Stage.Next (Some node) m e = plain_as _ m e (gone_finished node in_world (surprises.stays_behind c o handles node.serial))
  surprise_acts in_world Stage.Next None m e = absurd (cc)
  surprise_acts in_world Stage.Settling (Some node) m e = plain_as _ m e (gone_settled o node in_world)
  surprise_acts in_world Stage.Settling None m e = absurd (cc)
  surprise_acts in_world _ n m e = absurd (cc)

  taken_plain : (n : Option Node) → IsPlain (finishes.take c o n).beside
  taken_plain None = IsPlain.over
  taken_plain (Some node) = IsPlain.on

  finish_acts : (stage : Stage) (n : Option Node) (m : JobMove) → finishes.acts c o handles stage n ≡ Some m → IsPlain m.beside
  finish_acts Stage.Next n m e = plain_as _ m e (taken_plain (finishes.node_of_ready c.nodes (ready_device c handles)))
  finish_acts Stage.Leaving (Some node) m e = plain_as _ m e (IsPlain.left node.path node.born)
  finish_acts Stage.Leaving None m e = absurd (cc)
  finish_acts Stage.Holding (Some node) m e = plain_as _ m e IsPlain.on
  finish_acts Stage.Holding None m e = absurd (cc)
  finish_acts _ n m e = absurd (cc)

  pub other_plain : (course : Course) → (course ≡ Course.Rebalancing → ⊥) → (course ≡ Course.Removing → ⊥) → (in_world : Bool) (walk : Option Walk) (n : Option Node) (m : JobMove)
      → job_step c o course in_world handles walk n ≡ Some (Does m) → IsPlain m.beside
  other_plain course a b in_world (Some w) None m e = absurd (cc)
  other_plain course a b in_world (Some w) (Some node) m e = walks_plain c o node w (after_end c o in_world node (is_bad w) course) m (does_is _ m e)
  other_plain Course.Surprising a b in_world None n m e = surprise_acts in_world o.stage n m (does_is _ m e)
  other_plain Course.Finishing a b in_world None n m e = finish_acts o.stage n m (does_is _ m e)
  other_plain Course.Rebalancing a b in_world None n m e = absurd (a refl)
  other_plain Course.Removing a b in_world None n m e = absurd (b refl)

-- the path of the device for which a removal runs, where it settles that one
pub settled_is : (c : Core) (o : Job) (b : Beside) (h : Settles c o b) → (h.node.serial == o.target) ≡ true → settled_path o c.nodes ≡ Some h.node.path
settled_is c o b h own =
    ap (λ x. path_if (is_settling x) o.target (first_node c.nodes o.todo)) h.stage
    ∙ ap (path_if true o.target) h.first
    ∙ ap (λ x. path_where x h.node.path) own
