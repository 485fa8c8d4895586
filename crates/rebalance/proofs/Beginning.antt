-- A rebalance or a change begins as the machine has it.
use Rattle.std.proofs.Common.{◌≡◌, ℕ, Bool, true, false, List, [], ◌∷◌, reverse, Option, Some, None, if◌then◌else◌, refl, ap, ◌∙◌, subst}
use Rattle.resource_reqs.specs.Resources.{Reqs}
use Rattle.pnp_labels.specs.Texts.{Text}
use Rattle.pnp_labels.specs.declared.label.Label.{Label}
use Rattle.pnp_labels.specs.declared.label.OpKind.{OpKind}
use Rattle.pnp_model.specs.Keyed.{those}
use Rattle.pnp_model.specs.Cores.{core_of, node_at, serials_of}
use Rattle.pnp_model.specs.Jobs.{job_of, stands}
use Rattle.pnp_model.specs.Records.{Node, Core, Job, Stage}
use Rattle.pnp_model.specs.Rebalances.{ask_on, cancel_on, has_refused, is_asked, begun_with}
use Rattle.pnp_laws.specs.Kept.{kind_by}
use Rattle.devnode_tree.specs.Cores.{at_nodes}
use Rattle.rebalance.specs.Begins.{BegunFor}
use Rattle.rebalance.proofs.Moving.{ask_same}

-- whoever is asked, what it is stays
asked_kind : (r : Job) (todo : List ℕ) → (ask_on r todo).kind ≡ r.kind
asked_kind r (k ∷ ks) = refl
asked_kind r [] = by_test (has_refused r)
  where
    cancelled_kind : (agreed : List ℕ) → (cancel_on r agreed).kind ≡ r.kind
    cancelled_kind [] = refl
    cancelled_kind (k ∷ ks) = refl

    by_test : (b : Bool) → (if b then cancel_on r r.agreed else stands r [] Stage.Searching).kind ≡ r.kind
    by_test false = refl
    by_test true = cancelled_kind r.agreed

module _ (wanted : Option Reqs) (nodes : List Node) (node : Node) where
  abbrev first : Job
  first = record (job_of (kind_by wanted) node) { wanted = wanted }

  abbrev before : ℕ → Text → List ℕ → List ℕ → List ℕ → Job
  before target path todo agreed refused =
      record first { target = target; path = path; todo = todo; agreed = agreed; refused = refused; stage = Stage.Searching; walk = None }

  pub of_wanted_is : (path : Text) (target : ℕ) (nobody todo agreed refused : List ℕ) (new : Job)
      → path ≡ node.path → target ≡ node.serial → nobody ≡ [] → todo ≡ reverse (serials_of (those is_asked nodes)) → agreed ≡ [] → refused ≡ [] → new ≡ ask_on (before target path nobody agreed refused) todo
      → (around : Core) → new ≡ begun_with (at_nodes nodes around) (kind_by wanted) node wanted
  of_wanted_is path target nobody todo agreed refused new p t i d a f n around =
      n
      ∙ (ap (λ x. ask_on (before x path nobody agreed refused) todo) t
      ∙ (ap (λ x. ask_on (before node.serial x nobody agreed refused) todo) p
      ∙ (ap (λ x. ask_on (before node.serial node.path x agreed refused) todo) i
      ∙ (ap (λ x. ask_on (before node.serial node.path [] x refused) todo) a
      ∙ (ap (λ x. ask_on (before node.serial node.path [] [] x) todo) f
      ∙ (ask_same first [] todo Stage.Searching None ∙ ap (ask_on first) d))))))

  pub begun_is : (k : ℕ) (path : Text) (op : OpKind) (new : Job) → Some node ≡ node_at k nodes
      → path ≡ node.path → op ≡ new.kind → ((around : Core) → new ≡ begun_with (at_nodes nodes around) (kind_by wanted) node wanted)
      → BegunFor wanted (node_at k nodes) nodes (Label.Begin op path) new
  begun_is k path op new at p o n =
      let kind : new.kind ≡ kind_by wanted = ap (λ (r : Job). r.kind) (n (core_of nodes [] [] [])) ∙ asked_kind first (reverse (serials_of (those is_asked nodes))) in
      subst (λ (x : Option Node). BegunFor wanted x nodes (Label.Begin op path) new) at
      (λ relations. (ap (λ x. Label.Begin x path) (o ∙ kind) ∙ ap (λ x. Label.Begin (kind_by wanted) x) p, (λ around. n (record around { relations = relations }))))
