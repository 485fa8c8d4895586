-- A surprise removal begins as the machine has it.
use Rattle.std.proofs.Common.{◌≡◌, ℕ, List, Option, Some, ap, ◌∙◌, subst}
use Rattle.pnp_labels.specs.Texts.{Text}
use Rattle.pnp_labels.specs.declared.label.Label.{Label}
use Rattle.pnp_labels.specs.declared.label.OpKind.{OpKind}
use Rattle.pnp_model.specs.Jobs.{job_of}
use Rattle.pnp_model.specs.Keyed.{those}
use Rattle.pnp_model.specs.Cores.{node_at}
use Rattle.pnp_model.specs.Records.{Node, Core, Relation, Job, Stage}
use Rattle.pnp_model.specs.Trees.{leaving}
use Rattle.pnp_model.specs.Handles.{was_told}
use Rattle.pnp_model.specs.Surprises.{tell_on, is_told_node, begun_with, begun_surprise}
use Rattle.devnode_tree.specs.Cores.{at_related}
use Rattle.relations.specs.Leaving.{IsLeaving}
use Rattle.operation_frame.specs.Steps.{BegunFor}
use Rattle.surprise_remove.proofs.Moving.{tell_same}

-- before it is known who is to be told
abbrev pub before : Node → List ℕ → List ℕ → Job
before node set told = record (job_of OpKind.Surprise node) { set = set; told = told }

module _ (nodes : List Node) (rs : List Relation) (node : Node) where
  pub of_set_is : (path : Text) (set told todo : List ℕ) (target : ℕ) (new : Job)
      → path ≡ node.path → target ≡ node.serial → told ≡ those (λ j. was_told (node_at j nodes)) set → todo ≡ those (λ j. is_told_node (node_at j nodes)) set
      → new ≡ tell_on (record (before node set told) { target = target; path = path; todo = todo; stage = Stage.Ending }) todo
      → (around : Core) → new ≡ begun_with (at_related nodes rs around) node set
  of_set_is path set told todo target new p t b d n around =
      n
      ∙ (ap (λ x. tell_on (record (before node set told) { target = x; path = path; todo = todo; stage = Stage.Ending }) todo) t
      ∙ (ap (λ x. tell_on (record (before node set told) { path = x; todo = todo; stage = Stage.Ending }) todo) p
      ∙ (tell_same (before node set told) todo Stage.Ending todo
      ∙ (ap (λ x. tell_on (before node set told) x) d
      ∙ ap (λ x. tell_on (before node set x) (those (λ j. is_told_node (node_at j nodes)) set)) b))))

  pub begun_is : (k : ℕ) (path : Text) (set : List ℕ) (target : ℕ) (new : Job) → Some node ≡ node_at k nodes
      → path ≡ node.path → target ≡ node.serial → IsLeaving nodes rs target set → ((around : Core) → new ≡ begun_with (at_related nodes rs around) node set)
      → BegunFor OpKind.Surprise begun_surprise (node_at k nodes) nodes rs (Label.Begin OpKind.Surprise path) new
  begun_is k path set target new at p t leave n =
      subst (λ (o : Option Node). BegunFor OpKind.Surprise begun_surprise o nodes rs (Label.Begin OpKind.Surprise path) new) at (
        ap (λ x. Label.Begin OpKind.Surprise x) p,
        (λ around. n around ∙ ap (begun_with (at_related nodes rs around) node) (leave around ∙ ap (leaving (at_related nodes rs around)) t)),
      )
