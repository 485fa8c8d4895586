use Rattle.std.proofs.Common.{◌≡◌, ◌∙◌, ap, sym, subst}
use Rattle.pnp_labels.specs.declared.states.Problem.{Problem}
use Rattle.pnp_model.specs.Cores.{node_at, set_rack}
use Rattle.pnp_model.specs.Records.{Activity, Phase}
use Rattle.pnp_model.specs.Records.Phase.{Starting, Due}
use Rattle.devnode_tree.specs.Cores.{at_nodes}
use Rattle.start_sequence.specs.Works.{phase_of}
use Rattle.start_sequence.specs.Parts.{AddedFor, StartsFor}
use Rattle.start_sequence.specs.Steps.{DoneFor}
use Rattle.start_sequence.specs.declared.next.StartStep.TheVariants as steps
use Rattle.start_sequence.specs.declared.next.Started.TheVariants as starts
use Rattle.start_sequence.proofs.Acting.{added, start_refused}
use Rattle.start_sequence.proofs.work.StartWork.next.Goals as goal

pub returns-in-Refused-clause-acts : goal.returns-in-Refused-clause-acts
returns-in-Refused-clause-acts g c around mirrors =
    let phase : c.args.self.now.phase ≡ Starting c.in-Starting.walk.walk = ap (λ (a : Activity). a.phase) (sym c.self.view_is) ∙ ap phase_of c.in-Starting.is in
    let same : c.self.inside.serial ≡ c.args.self.now.serial = ap (λ (a : Activity). a.serial) c.self.view_is in
    let before = at_nodes c.args.tree.now.nodes (set_rack (g.R.Drivers.rows c.args.rack.now) around) in
    let after = at_nodes c.start.new.tree.nodes (set_rack (g.R.Drivers.rows c.start.new.rack) around) in
    let started = (rw c.in-Refused.is at c.in_ok-label-in-Starting.ensures.started) around in
    subst (λ (p : Phase). DoneFor c.args.budget (node_at c.args.self.now.serial c.args.tree.now.nodes) before c.args.self.now.phase (steps.Did c.in-Refused.label) after p) (sym (ap (λ (a : Activity). a.phase) c.enter.ensures))
    (subst (λ p. DoneFor c.args.budget (node_at c.args.self.now.serial c.args.tree.now.nodes) before p (steps.Did c.in-Refused.label) after (Due Problem.FailedStart)) (sym phase)
    (start_refused c.args.budget (node_at c.args.self.now.serial c.args.tree.now.nodes) before after c.in-Starting.walk.walk c.start.new.walk.walk c.in-Refused.label
    (subst (λ k. StartsFor (node_at k c.args.tree.now.nodes) before c.in-Starting.walk.walk (starts.Refused c.in-Refused.label) after c.start.new.walk.walk) same started)))

pub returns-in-Some-clause-mirrors : goal.returns-in-Some-clause-mirrors
returns-in-Some-clause-mirrors g c = c.add.ensures.mirrors c.args.arbiters.now

pub returns-in-On-clause-mirrors : goal.returns-in-On-clause-mirrors
returns-in-On-clause-mirrors g c = c.start.ensures.mirrors c.args.arbiters.now

pub returns-in-Up-clause-mirrors : goal.returns-in-Up-clause-mirrors
returns-in-Up-clause-mirrors g c = c.start.ensures.mirrors c.args.arbiters.now

pub returns-in-Refused-clause-mirrors : goal.returns-in-Refused-clause-mirrors
returns-in-Refused-clause-mirrors g c = c.start.ensures.mirrors c.args.arbiters.now

pub returns-then-not-has_drivers-clause-mirrors : goal.returns-then-not-has_drivers-clause-mirrors
returns-then-not-has_drivers-clause-mirrors g c = c.trouble.ensures.mirrors c.args.arbiters.now

pub returns-else-not-has_drivers-clause-mirrors : goal.returns-else-not-has_drivers-clause-mirrors
returns-else-not-has_drivers-clause-mirrors g c = c.trouble.ensures.mirrors c.args.arbiters.now

pub returns-in-Some-clause-acts : goal.returns-in-Some-clause-acts
returns-in-Some-clause-acts g c around mirrors =
    let nodes = c.args.tree.now.nodes in
    let work = c.args.self.now in
    let rack = g.R.Drivers.rows c.args.rack.now in
    let later = g.R.Drivers.rows c.add.new.rack in
    let same = ap (λ (a : Activity). a.serial) c.self.view_is in
    let adds = subst (λ k. AddedFor (node_at k nodes) c.in-Some.driver nodes rack c.in_ok-label.label c.in_ok-label.ok c.add.new.tree.nodes later) same c.in_ok-label.ensures.added in
    subst (λ (p : Phase). DoneFor c.args.budget (node_at work.serial nodes) (at_nodes nodes (set_rack rack around)) work.phase (steps.Did c.in_ok-label.label) (at_nodes c.add.new.tree.nodes (set_rack later around)) p)
    (sym (ap (λ (a : Activity). a.phase) c.note_added.ensures))
    (added c.args.budget (node_at work.serial nodes) (at_nodes nodes (set_rack rack around)) c.add.new.tree.nodes later work.phase c.in-Some.driver c.in_ok-label.label c.in_ok-label.ok (sym c.in-Some.ensures) adds)
