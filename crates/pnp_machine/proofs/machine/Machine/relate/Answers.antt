use Rattle.std.proofs.Common.{◌≡◌, Some, Err, IsSome, sym, subst, ◌∙◌, option_map}
use Rattle.device_ids.specs.Folding.{same}
use Rattle.pnp_model.specs.Cores.{node_at}
use Rattle.pnp_model.specs.Records.{State}
use Rattle.pnp_model.specs.States.{node_of}
use Rattle.devnode_tree.specs.Trees.{Tree}
use Rattle.relations.specs.Relating.{RelatesFor}
use Rattle.relations.specs.declared.error.RelateError.{RelateError}
use Rattle.pnp_machine.specs.Operations.{operation_of}
use Rattle.pnp_machine.proofs.EventSteps.{is_there}
use Rattle.pnp_machine.proofs.CommandSteps.{relate_done, relate_self, relate_again, relate_cycle, relate_not_started, relate_stays, idle_if}
use Rattle.pnp_machine.proofs.machine.Machine.relate.Goals as goal

pub related-requires-clause-owner : goal.related-requires-clause-owner
related-requires-clause-owner g c =
    let there = is_there (λ n. same n.path c.args.owner.now) c.in-Some-Some.owner c.tree-tree.result.now.nodes c.in-Some-Some.ensures in
    subst (λ (s : State). IsSome (node_at c.in-Some-Some.owner s.core.nodes)) c.self.view_is (subst (λ (t : Tree). IsSome (node_at c.in-Some-Some.owner t.nodes)) c.tree-tree.ensures there)

pub related-requires-clause-member : goal.related-requires-clause-member
related-requires-clause-member g c =
    let there = is_there (λ n. same n.path c.args.member.now) c.in-Some-Some.member c.tree-tree.result.now.nodes c.in-Some-Some.ensures' in
    subst (λ (s : State). IsSome (node_at c.in-Some-Some.member s.core.nodes)) c.self.view_is (subst (λ (t : Tree). IsSome (node_at c.in-Some-Some.member t.nodes)) c.tree-tree.ensures there)

pub relate-requires-clause-owner_there : goal.relate-requires-clause-owner_there
relate-requires-clause-owner_there g c =
    subst (λ (t : Tree). IsSome (node_at c.in-Some-Some.owner t.nodes)) c.tree-tree.ensures
    (is_there (λ n. same n.path c.args.owner.now) c.in-Some-Some.owner c.tree-tree.result.now.nodes c.in-Some-Some.ensures)

pub relate-requires-clause-member_there : goal.relate-requires-clause-member_there
relate-requires-clause-member_there g c =
    subst (λ (t : Tree). IsSome (node_at c.in-Some-Some.member t.nodes)) c.tree-tree.ensures
    (is_there (λ n. same n.path c.args.member.now) c.in-Some-Some.member c.tree-tree.result.now.nodes c.in-Some-Some.ensures')

pub returns-in-Ok-clause-done : goal.returns-in-Ok-clause-done
returns-in-Ok-clause-done g c =
    let owner = subst (λ (t : Tree). Some c.in-Some-Some.owner ≡ option_map (λ n. n.serial) (node_of c.args.owner.now t.nodes)) c.tree-tree.ensures c.in-Some-Some.ensures in
    let member = subst (λ (t : Tree). Some c.in-Some-Some.member ≡ option_map (λ n. n.serial) (node_of c.args.member.now t.nodes)) c.tree-tree.ensures c.in-Some-Some.ensures' in
    relate_done c.self.inside.devices (g.R.Drivers.rows c.self.inside.rack) c.self.inside.disabled.paths c.self.inside.starts.works (option_map operation_of c.self.inside.operation)
    c.self.inside.tasks.tasks c.args.self.now c.self.view_is c.related.ensures.order c.relate.new.self c.args.kind c.args.owner.now c.args.member.now c.in-Some-Some.owner c.in-Some-Some.member
    owner member (idle_if c.self.inside.operation (sym c.is_some.ensures ∙ c.if-is_some.false)) c.in-Ok.ensures.same c.in_ok-label.label c.in_ok-label.ensures.label c.in-Ok.ensures.related

pub returns-in-Err-SelfRelation-clause-done : goal.returns-in-Err-SelfRelation-clause-done
returns-in-Err-SelfRelation-clause-done g c =
    let owner = subst (λ (t : Tree). Some c.in-Some-Some.owner ≡ option_map (λ n. n.serial) (node_of c.args.owner.now t.nodes)) c.tree-tree.ensures c.in-Some-Some.ensures in
    let member = subst (λ (t : Tree). Some c.in-Some-Some.member ≡ option_map (λ n. n.serial) (node_of c.args.member.now t.nodes)) c.tree-tree.ensures c.in-Some-Some.ensures' in
    let R : RelateError → Type 0 = λ e. RelatesFor (node_at c.in-Some-Some.owner c.self.inside.devices.tree.nodes) (node_at c.in-Some-Some.member c.self.inside.devices.tree.nodes) c.self.inside.devices.tree.nodes c.args.kind c.self.inside.devices.relations (Err e) c.relate.new.self.relations in
    rw c.refusal-in-Err-SelfRelation.ensures
    (relate_self c.self.inside.devices (g.R.Drivers.rows c.self.inside.rack) c.self.inside.disabled.paths c.self.inside.starts.works (option_map operation_of c.self.inside.operation)
    c.self.inside.tasks.tasks c.args.self.now c.self.view_is c.related.ensures.order c.relate.new.self c.args.kind c.args.owner.now c.args.member.now c.in-Some-Some.owner c.in-Some-Some.member
    owner member (idle_if c.self.inside.operation (sym c.is_some.ensures ∙ c.if-is_some.false)) c.in-Err-SelfRelation.ensures.same (subst R c.in-Err-SelfRelation.field-0-is c.in-Err-SelfRelation.ensures.related))

pub returns-in-Err-SameRelation-clause-done : goal.returns-in-Err-SameRelation-clause-done
returns-in-Err-SameRelation-clause-done g c =
    let owner = subst (λ (t : Tree). Some c.in-Some-Some.owner ≡ option_map (λ n. n.serial) (node_of c.args.owner.now t.nodes)) c.tree-tree.ensures c.in-Some-Some.ensures in
    let member = subst (λ (t : Tree). Some c.in-Some-Some.member ≡ option_map (λ n. n.serial) (node_of c.args.member.now t.nodes)) c.tree-tree.ensures c.in-Some-Some.ensures' in
    let R : RelateError → Type 0 = λ e. RelatesFor (node_at c.in-Some-Some.owner c.self.inside.devices.tree.nodes) (node_at c.in-Some-Some.member c.self.inside.devices.tree.nodes) c.self.inside.devices.tree.nodes c.args.kind c.self.inside.devices.relations (Err e) c.relate.new.self.relations in
    rw c.refusal-in-Err-SameRelation.ensures
    (relate_again c.self.inside.devices (g.R.Drivers.rows c.self.inside.rack) c.self.inside.disabled.paths c.self.inside.starts.works (option_map operation_of c.self.inside.operation)
    c.self.inside.tasks.tasks c.args.self.now c.self.view_is c.related.ensures.order c.relate.new.self c.args.kind c.args.owner.now c.args.member.now c.in-Some-Some.owner c.in-Some-Some.member
    owner member (idle_if c.self.inside.operation (sym c.is_some.ensures ∙ c.if-is_some.false)) c.in-Err-SameRelation.ensures.same (subst R c.in-Err-SameRelation.field-0-is c.in-Err-SameRelation.ensures.related))

pub returns-in-Err-RelationCycle-clause-done : goal.returns-in-Err-RelationCycle-clause-done
returns-in-Err-RelationCycle-clause-done g c =
    let owner = subst (λ (t : Tree). Some c.in-Some-Some.owner ≡ option_map (λ n. n.serial) (node_of c.args.owner.now t.nodes)) c.tree-tree.ensures c.in-Some-Some.ensures in
    let member = subst (λ (t : Tree). Some c.in-Some-Some.member ≡ option_map (λ n. n.serial) (node_of c.args.member.now t.nodes)) c.tree-tree.ensures c.in-Some-Some.ensures' in
    let R : RelateError → Type 0 = λ e. RelatesFor (node_at c.in-Some-Some.owner c.self.inside.devices.tree.nodes) (node_at c.in-Some-Some.member c.self.inside.devices.tree.nodes) c.self.inside.devices.tree.nodes c.args.kind c.self.inside.devices.relations (Err e) c.relate.new.self.relations in
    rw c.refusal-in-Err-RelationCycle.ensures
    (relate_cycle c.self.inside.devices (g.R.Drivers.rows c.self.inside.rack) c.self.inside.disabled.paths c.self.inside.starts.works (option_map operation_of c.self.inside.operation)
    c.self.inside.tasks.tasks c.args.self.now c.self.view_is c.related.ensures.order c.relate.new.self c.args.kind c.args.owner.now c.args.member.now c.in-Some-Some.owner c.in-Some-Some.member
    owner member (idle_if c.self.inside.operation (sym c.is_some.ensures ∙ c.if-is_some.false)) c.in-Err-RelationCycle.ensures.same (subst R c.in-Err-RelationCycle.field-0-is c.in-Err-RelationCycle.ensures.related))

pub returns-in-Err-NotStarted-clause-done : goal.returns-in-Err-NotStarted-clause-done
returns-in-Err-NotStarted-clause-done g c =
    let owner = subst (λ (t : Tree). Some c.in-Some-Some.owner ≡ option_map (λ n. n.serial) (node_of c.args.owner.now t.nodes)) c.tree-tree.ensures c.in-Some-Some.ensures in
    let member = subst (λ (t : Tree). Some c.in-Some-Some.member ≡ option_map (λ n. n.serial) (node_of c.args.member.now t.nodes)) c.tree-tree.ensures c.in-Some-Some.ensures' in
    let R : RelateError → Type 0 = λ e. RelatesFor (node_at c.in-Some-Some.owner c.self.inside.devices.tree.nodes) (node_at c.in-Some-Some.member c.self.inside.devices.tree.nodes) c.self.inside.devices.tree.nodes c.args.kind c.self.inside.devices.relations (Err e) c.relate.new.self.relations in
    rw c.refusal-in-Err-NotStarted.ensures
    (relate_not_started c.self.inside.devices (g.R.Drivers.rows c.self.inside.rack) c.self.inside.disabled.paths c.self.inside.starts.works (option_map operation_of c.self.inside.operation)
    c.self.inside.tasks.tasks c.args.self.now c.self.view_is c.related.ensures.order c.relate.new.self c.args.kind c.args.owner.now c.args.member.now c.in-Some-Some.owner c.in-Some-Some.member
    owner member (idle_if c.self.inside.operation (sym c.is_some.ensures ∙ c.if-is_some.false)) c.in-Err-NotStarted.ensures.same (subst R c.in-Err-NotStarted.field-0-is c.in-Err-NotStarted.ensures.related))

pub returns-clause-err : goal.returns-clause-err
returns-clause-err g c =
    let owner = subst (λ (t : Tree). Some c.in-Some-Some.owner ≡ option_map (λ n. n.serial) (node_of c.args.owner.now t.nodes)) c.tree-tree.ensures c.in-Some-Some.ensures in
    let member = subst (λ (t : Tree). Some c.in-Some-Some.member ≡ option_map (λ n. n.serial) (node_of c.args.member.now t.nodes)) c.tree-tree.ensures c.in-Some-Some.ensures' in
    let R : RelateError → Type 0 = λ e. RelatesFor (node_at c.in-Some-Some.owner c.self.inside.devices.tree.nodes) (node_at c.in-Some-Some.member c.self.inside.devices.tree.nodes) c.self.inside.devices.tree.nodes c.args.kind c.self.inside.devices.relations (Err e) c.relate.new.self.relations in
    relate_stays c.self.inside.devices (g.R.Drivers.rows c.self.inside.rack) c.self.inside.disabled.paths c.self.inside.starts.works (option_map operation_of c.self.inside.operation)
    c.self.inside.tasks.tasks c.args.self.now c.self.view_is c.related.ensures.order c.relate.new.self c.args.kind c.args.owner.now c.args.member.now c.in-Some-Some.owner c.in-Some-Some.member
    owner member (idle_if c.self.inside.operation (sym c.is_some.ensures ∙ c.if-is_some.false)) c.in-Err-WantOfMemory.ensures.same (subst R c.in-Err-WantOfMemory.field-0-is c.in-Err-WantOfMemory.ensures.related)
