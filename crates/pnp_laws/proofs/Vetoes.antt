-- Each step of a removal keeps what a veto is to restore.
use Rattle.std.proofs.Common.{ℕ, ◌≡◌, ◌==◌, ◌⊎◌, inl, inr, Bool, true, false, cond, map, List, [], ◌∷◌, Some, refl, sym, ap, ◌∙◌, subst, arith}
use Rattle.std.proofs.lemmas.Bool.{cases_eq}
use Rattle.std.proofs.lemmas.Bool.Decides.{nat_tests}
use Rattle.pnp_model.specs.Keyed.{those}
use Rattle.pnp_model.specs.Records.{Node, Core, Job, Stage}
use Rattle.pnp_model.specs.Cores.{node_at, with_state, stack_of}
use Rattle.pnp_model.specs.Frames.{first_node, rest}
use Rattle.pnp_model.specs.Laws.{IsWithin}
use Rattle.pnp_model.specs.Removals.{ask_on, begun_with, cancel_on, close, finish_on, finish_with, is_ejecting, is_queried_node}
use Rattle.pnp_laws.specs.Kept.{RemovalKeeps}
use Rattle.pnp_laws.specs.Vetoes.{turned, marked, Held, Since}
use Rattle.pnp_labels.specs.declared.states.DevState.{DevState}
use Rattle.pnp_labels.specs.declared.label.OpKind.{OpKind}
use Rattle.pnp_labels.specs.declared.states.DevState.TheVariants.{Started, RemovePending}
use Rattle.pnp_laws.proofs.Lookups.{own_serial}
use Rattle.pnp_laws.proofs.EffectsOfOperations.{rm_ask_on, rm_cancel_on, rm_finish_on}
use Rattle.pnp_laws.proofs.Lists.{head_found}
use Rattle.pnp_laws.proofs.RemovalSteps.{head_querying, head_refusing}
use Rattle.pnp_laws.proofs.Stages.{RemovalAct, RemovalStep}
use Rattle.pnp_model.specs.Jobs.{JobMove, Beside, job_of}

-- to give a node the state that it has changes nothing
pub turned_same : (k : ℕ) (x : DevState) (nodes : List Node) (n : Node) → node_at k nodes ≡ Some n → n.state ≡ x → turned x k nodes ≡ nodes
turned_same k x [] n at e = refl
turned_same k x (m ∷ ms) n at e =
    elim (cases_eq m.serial k) [
      | inl z ↦
          let same : m ≡ n = grind (arith, nat_tests) in
          let state : x ≡ m.state = sym e ∙ ap (λ (v : Node). v.state) (sym same) in
          let own : with_state x m ≡ m = ap (λ (y : DevState). with_state y m) state in
          let test : (m.serial == k) ≡ true = grind (arith, nat_tests) in
          ap (λ (b : Bool). cond b (with_state x m ∷ ms) (m ∷ turned x k ms)) test ∙ ap (λ (v : Node). v ∷ ms) own
      | inr d ↦
          let more = turned_same k x ms n (grind (arith, nat_tests)) e in
          let test : (m.serial == k) ≡ false = grind (arith, nat_tests) in
          ap (λ (b : Bool). cond b (with_state x m ∷ ms) (m ∷ turned x k ms)) test ∙ ap (λ (vs : List Node). m ∷ vs) more
    ]

-- the last state counts
pub turned_twice : (k : ℕ) (x y : DevState) (nodes : List Node) → turned x k (turned y k nodes) ≡ turned x k nodes
turned_twice k x y [] = refl
turned_twice k x y (m ∷ ms) =
    let more = turned_twice k x y ms in
    let by_test : (b : Bool) → (m.serial == k) ≡ b → turned x k (cond b (with_state y m ∷ ms) (m ∷ turned y k ms)) ≡ cond b (with_state x m ∷ ms) (m ∷ turned x k ms) =
    λ b. elim b as (λ b. (m.serial == k) ≡ b → turned x k (cond b (with_state y m ∷ ms) (m ∷ turned y k ms)) ≡ cond b (with_state x m ∷ ms) (m ∷ turned x k ms)) [
      | true ↦ λ e. ap (λ (c : Bool). cond c (with_state x m ∷ ms) (with_state y m ∷ turned x k ms)) e
      | false ↦ λ e. ap (λ (c : Bool). cond c (with_state x m ∷ turned y k ms) (m ∷ turned x k (turned y k ms))) e ∙ ap (λ (vs : List Node). m ∷ vs) more
    ] in
    by_test (m.serial == k) refl

module _ (y : DevState) (before now : Core) where
  -- one more agrees
  pub held_agreed : (k : ℕ) (agreed : List ℕ) (n : Node) → node_at k now.nodes ≡ Some n → n.state ≡ Started → Held y before now agreed → Held y before (record now { nodes = turned y k now.nodes }) (k ∷ agreed)
  held_agreed k agreed n at e h =
      record {
        nodes = ap (λ (x : List Node). turned y k x) h.nodes;
        back = (turned_same k Started (marked y agreed before.nodes) n (sym (ap (λ (x : List Node). node_at k x) h.nodes) ∙ at) e, h.back);
        relations = h.relations;
        reserved = h.reserved;
      }

  -- a device gets the state that it has
  pub held_same : (k : ℕ) (x : DevState) (agreed : List ℕ) (n : Node) → node_at k now.nodes ≡ Some n → n.state ≡ x → Held y before now agreed → Held y before (record now { nodes = turned x k now.nodes }) agreed
  held_same k x agreed n at e h = record { nodes = turned_same k x now.nodes n at e ∙ h.nodes; back = h.back; relations = h.relations; reserved = h.reserved }

  -- one is taken back
  pub held_back : (k : ℕ) (ks : List ℕ) → Held y before now (k ∷ ks) → Held y before (record now { nodes = turned Started k now.nodes }) ks
  held_back k ks h =
      record {
        nodes = ap (λ (x : List Node). turned Started k x) h.nodes ∙ turned_twice k Started y (marked y ks before.nodes) ∙ h.back.0;
        back = h.back.1;
        relations = h.relations;
        reserved = h.reserved;
      }

  -- nodes, relations and ranges are the same
  pub held_still : (d : Core) (ks : List ℕ) → d.nodes ≡ now.nodes → d.relations ≡ now.relations → d.reserved ≡ now.reserved → Held y before now ks → Held y before d ks
  held_still d ks a b e h = record { nodes = a ∙ h.nodes; back = h.back; relations = b ∙ h.relations; reserved = e ∙ h.reserved }

-- what comes next

since_finish_with : (before now : Core) (o : Job) (todo stack : List ℕ) → o.refused ≡ [] → Since before now (finish_with o todo stack) (finish_with o todo stack).stage
since_finish_with before now o todo [] e = e
since_finish_with before now o todo (d ∷ ds) e = e

since_finish_on : (before now : Core) (nodes : List Node) (o : Job) (todo : List ℕ) → o.refused ≡ [] → Since before now (finish_on nodes o todo) (finish_on nodes o todo).stage
since_finish_on before now nodes o [] e = inl e
since_finish_on before now nodes o (k ∷ ks) e = since_finish_with before now o (k ∷ ks) (stack_of (node_at k nodes)) e

since_ask_on : (before now : Core) (nodes : List Node) (o : Job) (todo : List ℕ) → Held RemovePending before now o.agreed → o.refused ≡ [] → Since before now (ask_on nodes o todo) (ask_on nodes o todo).stage
since_ask_on before now nodes o [] h e = since_finish_on before now nodes o o.set e
since_ask_on before now nodes o (k ∷ ks) h e = (h, e)

since_cancel_on : (before now : Core) (o : Job) (todo : List ℕ) → Held RemovePending before now todo → Since before now (cancel_on o todo) (cancel_on o todo).stage
since_cancel_on before now o [] h = inr h
since_cancel_on before now o (k ∷ ks) h = h

-- the steps

since_cancel_head : (before c : Core) (o : Job) (todo : List ℕ) (node : Node) → first_node c.nodes todo ≡ Some node → Held RemovePending before c todo →
    Since before (record c { nodes = turned Started node.serial c.nodes }) (cancel_on o (rest todo)) (cancel_on o (rest todo)).stage
since_cancel_head before c o [] node first h = absurd (cc)
since_cancel_head before c o (k ∷ ks) node first h =
    let own = own_serial k node c.nodes first in
    subst (λ (i : ℕ). Since before (record c { nodes = turned Started i c.nodes }) (cancel_on o ks) (cancel_on o ks).stage) (sym own)
    (since_cancel_on before (record c { nodes = turned Started k c.nodes }) o ks (held_back RemovePending before c k ks h))

-- the operation goes on
abbrev pub IsOn : Beside → Type 0
IsOn Beside.Over = ⊥
IsOn Beside.OverStart = ⊥
IsOn Beside.OverUndo = ⊥
IsOn _ = Unit {0}

pub record SinceOn (before : Core) (o : Job) (m : JobMove) : Type 0 where
  pub kind : m.frame.kind ≡ o.kind
  pub within : IsWithin m.label
  pub on : IsOn m.beside
  pub since : Since before m.core m.frame m.frame.stage

module _ (before c : Core) (o : Job) where
  finishes : (m : JobMove) → IsWithin m.label → IsOn m.beside → m.frame ≡ finish_on c.nodes o (rest o.todo) → o.refused ≡ [] → SinceOn before o m
  finishes m within on is none = record { kind = ap (λ (q : Job). q.kind) is ∙ (rm_finish_on c.nodes o (rest o.todo)).kind; within = within; on = on; since = subst (λ (q : Job). Since before m.core q q.stage) (sym is) (since_finish_on before m.core c.nodes o (rest o.todo) none) }

  -- only the last stage closes
  pub since_step : (stage : Stage) (m : JobMove) → RemovalKeeps o stage c.nodes → Since before c o stage → RemovalStep c o stage m → SinceOn before o m ⊎ ((stage ≡ Stage.Ending) × (m ≡ close c o))
  since_step stage m keeps since (RemovalStep.acts _ _ (RemovalAct.declines node first)) =
      inl (record { kind = (rm_cancel_on (record o { refused = node.serial ∷ o.refused }) o.agreed).kind; within = tt; on = tt; since = since_cancel_on before c (record o { refused = node.serial ∷ o.refused }) o.agreed since.0 })
  since_step stage m keeps since (RemovalStep.agrees node w e good) =
      let h = head_found c.nodes o.todo node e.first in
      let state = head_querying o.todo o.agreed o.set node.serial node.state h.0 (keeps.each node.serial node h.1) in
      inl (record { kind = (rm_ask_on c.nodes (record o { agreed = node.serial ∷ o.agreed }) (rest o.todo)).kind; within = tt; on = tt; since = since_ask_on before _ c.nodes (record o { agreed = node.serial ∷ o.agreed }) (rest o.todo) (held_agreed RemovePending before c node.serial o.agreed node h.1 state since.0) since.1 })
  since_step stage m keeps since (RemovalStep.refuses node w e bad) =
      inl (record { kind = refl; within = tt; on = tt; since = held_same RemovePending before c node.serial node.state o.agreed node (head_found c.nodes o.todo node e.first).1 refl since.0 })
  since_step stage m keeps since (RemovalStep.takes_back node w e) =
      let h = head_found c.nodes o.todo node e.first in
      let state = head_refusing o.todo o.agreed node.serial node.state h.0 (keeps.each node.serial node h.1) in
      inl (record { kind = (rm_cancel_on o o.agreed).kind; within = tt; on = tt; since = since_cancel_on before _ o o.agreed (held_same RemovePending before c node.serial Started o.agreed node h.1 state since) })
  since_step stage m keeps since (RemovalStep.cancels node w e) = inl (record { kind = (rm_cancel_on o (rest o.todo)).kind; within = tt; on = tt; since = since_cancel_head before c o o.todo node e.first since })
  since_step stage m keeps since (RemovalStep.removes node w e) = inl (record { kind = refl; within = tt; on = tt; since = since })
  since_step stage m keeps since (RemovalStep.acts _ _ (RemovalAct.leaves node first inside)) = inl (finishes _ tt tt refl since)
  since_step stage m keeps since (RemovalStep.acts _ _ (RemovalAct.ejects node first)) = inl (finishes _ tt tt refl since)
  since_step stage m keeps since (RemovalStep.acts _ _ (RemovalAct.disables node first over target)) = inl (finishes _ tt tt refl since)
  since_step stage m keeps since (RemovalStep.acts _ _ (RemovalAct.remains node problem first over other)) = inl (finishes _ tt tt refl since)
  since_step stage m keeps since (RemovalStep.acts _ _ RemovalAct.closes) = inr (refl, refl)

-- the begin
pub since_begun : (c : Core) (kind : OpKind) (node : Node) (set : List ℕ) → Since c c (begun_with c kind node set) (begun_with c kind node set).stage
since_begun c kind node set =
    since_ask_on c c c.nodes (record (job_of kind node) { set = set; ejecting = map (λ r. r.member) (those (is_ejecting set) c.relations) }) (those (λ k. is_queried_node (node_at k c.nodes)) set)
    (record { nodes = refl; back = tt; relations = refl; reserved = refl }) refl

-- a veto restores
pub veto_restores : (before c : Core) (o : Job) (q : ℕ) (qs : List ℕ) → o.refused ≡ q ∷ qs → Since before c o Stage.Ending → (c.nodes ≡ before.nodes) × (c.relations ≡ before.relations) × (c.reserved ≡ before.reserved)
veto_restores before c o q qs e (inl none) = absurd (cc)
veto_restores before c o q qs e (inr h) = (h.nodes, h.relations, h.reserved)
