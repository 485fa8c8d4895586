-- A removal begins as the machine has it.
use Rattle.std.proofs.Common.{◌≡◌, ℕ, List, [], Option, Some, ap, ◌∙◌, subst}
use Rattle.pnp_labels.specs.Texts.{Text}
use Rattle.pnp_labels.specs.declared.label.Label.{Label}
use Rattle.pnp_labels.specs.declared.label.OpKind.{OpKind}
use Rattle.pnp_model.specs.Jobs.{job_of}
use Rattle.pnp_model.specs.Keyed.{those}
use Rattle.pnp_model.specs.Cores.{node_at}
use Rattle.pnp_model.specs.Records.{Node, Core, Relation, Job, Stage}
use Rattle.pnp_model.specs.Trees.{leaving}
use Rattle.pnp_model.specs.Removals.{ask_on, is_queried_node, begun_with, begun_removal}
use Rattle.devnode_tree.specs.Cores.{at_related}
use Rattle.relations.specs.Leaving.{IsLeaving}
use Rattle.relations.specs.Relating.{ejected}
use Rattle.operation_frame.specs.Steps.{BegunFor}
use Rattle.query_remove.proofs.Moving.{ask_same}

-- before it is known who is to be asked
abbrev before : OpKind → Node → List ℕ → List ℕ → Job
before kind node set members = record (job_of kind node) { set = set; ejecting = members }

module _ (nodes : List Node) (rs : List Relation) (kind : OpKind) (node : Node) where
  pub of_set_is : (path : Text) (set members todo agreed refused : List ℕ) (target : ℕ) (new : Job)
      → path ≡ node.path → target ≡ node.serial → members ≡ ejected rs set → todo ≡ those (λ j. is_queried_node (node_at j nodes)) set → agreed ≡ [] → refused ≡ []
      → new ≡ ask_on nodes (record (before kind node set members) { target = target; path = path; todo = todo; agreed = agreed; refused = refused; stage = Stage.Ending }) todo
      → (around : Core) → new ≡ begun_with (at_related nodes rs around) kind node set
  of_set_is path set members todo agreed refused target new p t m d a r n around =
      n
      ∙ (ap (λ x. ask_on nodes (record (before kind node set members) { target = x; path = path; todo = todo; agreed = agreed; refused = refused; stage = Stage.Ending }) todo) t
      ∙ (ap (λ x. ask_on nodes (record (before kind node set members) { path = x; todo = todo; agreed = agreed; refused = refused; stage = Stage.Ending }) todo) p
      ∙ (ap (λ x. ask_on nodes (record (before kind node set members) { todo = todo; agreed = x; refused = refused; stage = Stage.Ending }) todo) a
      ∙ (ap (λ x. ask_on nodes (record (before kind node set members) { todo = todo; refused = x; stage = Stage.Ending }) todo) r
      ∙ (ask_same nodes (before kind node set members) todo Stage.Ending todo
      ∙ (ap (λ x. ask_on nodes (before kind node set x) todo) m
      ∙ ap (λ x. ask_on nodes (before kind node set (ejected rs set)) x) d))))))

  pub begun_is : (own : OpKind) → own ≡ kind → (k : ℕ) (path : Text) (set : List ℕ) (target : ℕ) (new : Job) → Some node ≡ node_at k nodes
      → path ≡ node.path → target ≡ node.serial → IsLeaving nodes rs target set → ((around : Core) → new ≡ begun_with (at_related nodes rs around) own node set)
      → BegunFor kind (λ c n. begun_removal c kind n) (node_at k nodes) nodes rs (Label.Begin kind path) new
  begun_is own same k path set target new at p t leave n =
      subst (λ (o : Option Node). BegunFor kind (λ c n. begun_removal c kind n) o nodes rs (Label.Begin kind path) new) at (
        ap (λ x. Label.Begin kind x) p,
        (λ around.
            n around
            ∙ (ap (λ x. begun_with (at_related nodes rs around) x node set) same ∙ ap (begun_with (at_related nodes rs around) kind node) (leave around ∙ ap (leaving (at_related nodes rs around)) t))),
      )
