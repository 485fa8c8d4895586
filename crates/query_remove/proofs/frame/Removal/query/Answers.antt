use Rattle.std.proofs.Common.{◌∙◌, slice_get, ap, sym}
use Rattle.pnp_labels.specs.declared.label.RemoveStep.TheVariants as steps
use Rattle.pnp_model.specs.Records.{Job}
use Rattle.operation_frame.proofs.Requests.{ok_then}
use Rattle.query_remove.proofs.Querying.{queries_so, refuses_so}
use Rattle.query_remove.proofs.frame.Removal.query.Goals as goal

pub returns-then-refuses_unasked-clause-removes : goal.returns-then-refuses_unasked-clause-removes
returns-then-refuses_unasked-clause-removes g c =
    refuses_so c.args.tree.now.nodes c.args.relations.now (g.R.Drivers.rows c.args.rack.now) c.args.handles.now c.args.self.now c.decline.new.self (steps.Did c.in_ok-decline.field-0) c.first.result c.at.result.now c.requires.next c.requires.none
    (ap (λ (r : Job). slice_get r.todo 0) (sym c.self.view_is) ∙ c.first.ensures) c.at.ensures.node c.refuses_unasked.result c.refuses_unasked.ensures c.if-refuses_unasked.true c.in_ok-decline.ensures.declined

pub returns-else-is_err-clause-removes : goal.returns-else-is_err-clause-removes
returns-else-is_err-clause-removes g c =
    ok_then _ _
    (λ step h.
    queries_so c.args.tree.now.nodes c.walk_on-asked.new.tree.nodes c.args.relations.now c.walk_on-asked.new.relations (g.R.Drivers.rows c.args.rack.now) (g.R.Drivers.rows c.walk_on-asked.new.rack) c.args.handles.now c.args.self.now c.walk_on-asked.new.self step
    c.first.result c.at.result.now c.requires.next c.requires.none (ap (λ (r : Job). slice_get r.todo 0) (sym c.self.view_is) ∙ c.first.ensures) c.at.ensures.node c.refuses_unasked.result c.refuses_unasked.ensures c.if-refuses_unasked.false
    c.begin_query.new.self c.begin_query.ensures (h c.args.handles.now))
    c.walk_on-asked.result c.walk_on-asked.ensures.removes
