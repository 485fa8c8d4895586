-- What a removal leaves under way: its set, and maybe the listing of a device below which the world has another device of the path of one that left.
use Rattle.std.proofs.Common.{ℕ, ◌≡◌, ◌≢◌, ◌⊎◌, ◌==◌, ◌||◌, inl, inr, Bool, true, false, List, [], ◌∷◌, ◌++◌, Option, Some, None, Contains, refl, sym, ap, ◌∙◌, subst, arith, cond}
use Rattle.std.specs.List.{find}
use Rattle.std.proofs.lemmas.Bool.Decides.{nat_tests}
use Rattle.device_ids.specs.Folding.{same}
use Rattle.resource_reqs.proofs.Counts.{contains_cons, contains_nil}
use Rattle.pnp_labels.specs.declared.label.Label.{Label}
use Rattle.pnp_model.specs.Cores.{drop_node, is_node, node_at}
use Rattle.pnp_model.specs.Frames.{first_node}
use Rattle.pnp_model.specs.Jobs.{Beside, JobMove}
use Rattle.pnp_model.specs.Keyed.{without_first}
use Rattle.pnp_model.specs.Machine as ma
use Rattle.pnp_model.specs.Records.{Course, Device, Duty, Job, Node, Stage, State, Step, Task, course_of}
use Rattle.pnp_model.specs.States.{device_of, node_born, relist, relist_device, relist_other, list_node, set_operation, unplug, with_core, without_those}
use Rattle.pnp_model.specs.Tests.{has}
use Rattle.pnp_laws.specs.Kept.{Ascending}
use Rattle.pnp_laws.proofs.Decides.{contains_here, contains_later}
use Rattle.pnp_laws.proofs.Finishing.{relist_only}
use Rattle.pnp_laws.proofs.Lookups.{Ascending-without, find_passes, left_from, node_found}
use Rattle.pnp_laws.proofs.Stages.{OperationStep, RemovalAct, RemovalStep, SurpriseAct, SurpriseStep}
use Rattle.pnp_promises.proofs.LinesIdle.{found_in}

-- the device that left, another device of its path in the world, and the node below which that one is to join
pub record Relisted (s : State) (o : Job) (tasks : List Task) : Type 0 where
  pub node : Node
  pub first : first_node s.core.nodes o.todo ≡ Some node
  pub other : Device
  pub there : Contains s.world other
  pub path : same other.path node.path ≡ true
  pub apart : other.born ≢ node.born
  pub over : Node
  pub over_at : node_at over.serial s.core.nodes ≡ Some over
  pub under : over.born ≡ other.parent
  pub is : tasks ≡ s.tasks ++ record { kind = Duty.Listing; serial = over.serial } ∷ []

pub record Rest (s : State) (o : Job) (step : Step) : Type 0 where
  pub activities : step.state.activities ≡ s.activities
  pub tasks : (step.state.tasks ≡ s.tasks) ⊎ Relisted s o step.state.tasks

pub in_world_still : (gone : List ℕ) (world : List Device) (d : Device) → Contains (without_those gone world) d → Contains world d
in_world_still gone [] d c = absurd (contains_nil d c)
in_world_still gone (x ∷ xs) d c = by_test (has gone x.born || has gone x.parent) c (in_world_still (x.born ∷ gone) xs d) (in_world_still gone xs d)
  where
    by_test : (b : Bool) → Contains (cond b (without_those (x.born ∷ gone) xs) (x ∷ without_those gone xs)) d → (Contains (without_those (x.born ∷ gone) xs) d → Contains xs d) → (Contains (without_those gone xs) d → Contains xs d) → Contains (x ∷ xs) d
    by_test true h more less = contains_later x xs d (more h)
    by_test false h more less =
        elim (contains_cons x (without_those gone xs) d h) [ inl e ↦ subst (λ (z : Device). Contains (x ∷ xs) z) (sym e) (contains_here x xs) | inr q ↦ contains_later x xs d (less q) ]

module _ (s : State) (o : Job) (order : Ascending 0 s.core.nodes) where
  -- a node left, and this is the state after it
  module _ (node : Node) (first : first_node s.core.nodes o.todo ≡ Some node) (x : State) (tasks : x.tasks ≡ s.tasks) (world : (d : Device) → Contains x.world d → Contains s.world d) (nodes : x.core.nodes ≡ without_first (is_node node.serial) s.core.nodes) where
    by_over : (d : Device) → device_of node.path x.world ≡ Some d → (d.born == node.born) ≡ false → (p : Option Node) → node_born d.parent x.core.nodes ≡ p → ((list_node p x).tasks ≡ s.tasks) ⊎ Relisted s o (list_node p x).tasks
    by_over d found other None e = inl tasks
    by_over d found other (Some over) e =
        let here : find (λ (n : Node). n.born == d.parent) (without_first (is_node node.serial) s.core.nodes) ≡ Some over = subst (λ (ns : List Node). node_born d.parent ns ≡ Some over) nodes e in
        let at = (node_found (λ (n : Node). n.born == d.parent) 0 (without_first (is_node node.serial) s.core.nodes) over (Ascending-without 0 node.serial s.core.nodes order) here).1 in
        let born : (over.born == d.parent) ≡ true = find_passes (λ (n : Node). n.born == d.parent) (without_first (is_node node.serial) s.core.nodes) over here in
        inr (record {
          node = node;
          first = first;
          other = d;
          there = world d (found_in (λ (y : Device). same y.path node.path) x.world d found);
          path = find_passes (λ (y : Device). same y.path node.path) x.world d found;
          apart = λ z. (let q : d.born ≡ node.born = z in let w : (d.born == node.born) ≡ true = grind (arith, nat_tests) in let v = other in cc);
          over = over;
          over_at = (left_from node.serial over.serial s.core.nodes over order at).1;
          under = grind (arith, nat_tests);
          is = ap (λ (ts : List Task). ts ++ record { kind = Duty.Listing; serial = over.serial } ∷ []) tasks;
        })

    by_other : (d : Device) → device_of node.path x.world ≡ Some d → (b : Bool) → (d.born == node.born) ≡ b → ((relist_other d b x).tasks ≡ s.tasks) ⊎ Relisted s o (relist_other d b x).tasks
    by_other d found true e = inl tasks
    by_other d found false e = by_over d found e (node_born d.parent x.core.nodes) refl

    by_device : (p : Option Device) → device_of node.path x.world ≡ p → ((relist_device node.born p x).tasks ≡ s.tasks) ⊎ Relisted s o (relist_device node.born p x).tasks
    by_device None e = inl tasks
    by_device (Some d) e = by_other d e (d.born == node.born) refl

    left : ((relist node.path node.born x).tasks ≡ s.tasks) ⊎ Relisted s o (relist node.path node.born x).tasks
    left = by_device (device_of node.path x.world) refl

  leaves : (node : Node) → first_node s.core.nodes o.todo ≡ Some node → (label : Label) (p : Job) → Rest s o (ma.job_lifted s (record { label = label; core = drop_node node.serial s.core; frame = p; beside = Beside.Left node.path node.born }))
  leaves node first label p =
      let x = set_operation (Some p) (with_core (drop_node node.serial s.core) s) in
      record { activities = (relist_only node.path node.born x).activities; tasks = left node first x refl (λ d c. c) refl }

  ejects : (node : Node) → first_node s.core.nodes o.todo ≡ Some node → (label : Label) (p : Job) → Rest s o (ma.job_lifted s (record { label = label; core = drop_node node.serial s.core; frame = p; beside = Beside.Ejected node.path node.born }))
  ejects node first label p =
      let x = unplug node.born (set_operation (Some p) (with_core (drop_node node.serial s.core) s)) in
      record { activities = (relist_only node.path node.born x).activities; tasks = left node first x refl (λ d c. in_world_still (node.born ∷ []) s.world d c) refl }

  same_tasks : (step : Step) → step.state.activities ≡ s.activities → step.state.tasks ≡ s.tasks → Rest s o step
  same_tasks step a t = record { activities = a; tasks = inl t }

  removal_act : (stage : Stage) (m : JobMove) → RemovalAct s.core o stage m → Rest s o (ma.job_lifted s m)
  removal_act _ _ (RemovalAct.declines node first) = same_tasks _ refl refl
  removal_act _ _ (RemovalAct.leaves node first up) = leaves node first _ _
  removal_act _ _ (RemovalAct.ejects node first) = ejects node first _ _
  removal_act _ _ (RemovalAct.disables node first up target) = same_tasks _ refl refl
  removal_act _ _ (RemovalAct.remains node problem first up fine) = same_tasks _ refl refl
  removal_act _ _ RemovalAct.closes = same_tasks _ refl refl

  removal_step : (stage : Stage) (m : JobMove) → RemovalStep s.core o stage m → Rest s o (ma.job_lifted s m)
  removal_step _ _ (RemovalStep.agrees node w e good) = same_tasks _ refl refl
  removal_step _ _ (RemovalStep.refuses node w e bad) = same_tasks _ refl refl
  removal_step _ _ (RemovalStep.takes_back node w e) = same_tasks _ refl refl
  removal_step _ _ (RemovalStep.cancels node w e) = same_tasks _ refl refl
  removal_step _ _ (RemovalStep.removes node w e) = same_tasks _ refl refl
  removal_step _ _ (RemovalStep.acts stage m act) = removal_act stage m act

  surprise_act : (back : Bool) (stage : Stage) (m : JobMove) → SurpriseAct s.core o back s.handles stage m → Rest s o (ma.job_lifted s m)
  surprise_act back _ _ (SurpriseAct.lags node first behind) = same_tasks _ refl refl
  surprise_act back _ _ (SurpriseAct.leaves node first why) = leaves node first _ _
  surprise_act back _ _ (SurpriseAct.remains node first apart up) = same_tasks _ refl refl
  surprise_act back _ _ (SurpriseAct.stays node first target there) = same_tasks _ refl refl
  surprise_act back _ _ SurpriseAct.closes = same_tasks _ refl refl

  surprise_step : (back : Bool) (stage : Stage) (m : JobMove) → SurpriseStep s.core o back s.handles stage m → Rest s o (ma.job_lifted s m)
  surprise_step back _ _ (SurpriseStep.tells node w e) = same_tasks _ refl refl
  surprise_step back _ _ (SurpriseStep.removes node w e) = same_tasks _ refl refl
  surprise_step back _ _ (SurpriseStep.acts stage m act) = surprise_act back stage m act

  -- of a step of a removal or a surprise removal
  pub op_rest : (step : Step) → (course_of o.kind ≡ Course.Removing) ⊎ (course_of o.kind ≡ Course.Surprising) → OperationStep s o step → Rest s o step
  op_rest _ course (OperationStep.asks node w a) = same_tasks _ refl refl
  op_rest _ course (OperationStep.removes stage m is at x) = removal_step stage m x
  op_rest _ course (OperationStep.surprises stage m is at x) = surprise_step (ma.is_back s o Course.Surprising) stage m x
  op_rest _ course (OperationStep.rebalances stage m is at x) = absurd (elim course [ inl e ↦ (let z = sym e ∙ is in cc) | inr e ↦ (let z = sym e ∙ is in cc) ])
  op_rest _ course (OperationStep.finishes stage m is at x) = absurd (elim course [ inl e ↦ (let z = sym e ∙ is in cc) | inr e ↦ (let z = sym e ∙ is in cc) ])
