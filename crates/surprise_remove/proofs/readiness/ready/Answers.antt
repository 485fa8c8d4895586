use Rattle.std.proofs.Common.{◌≡◌, ◌∙◌, ◌-◌, true, sym, ap, subst, Some, Option, List, ℕ, ◌<◌}
use Rattle.pnp_model.specs.Keyed.{those}
use Rattle.pnp_model.specs.Cores.{node_at, serials_of}
use Rattle.pnp_model.specs.Trees.{greatest}
use Rattle.pnp_model.specs.Records.{Node}
use Rattle.pnp_model.specs.Handles.{is_ready_device}
use Rattle.relations.specs.Leaving.{base}
use Rattle.relations.proofs.Directs.{ascending}
use Rattle.surprise_remove.specs.Ready.{is_ready_at}
use Rattle.surprise_remove.proofs.Readying.{none_more, none_past, last_is, tells_last, tells_before, tells_fewer, none_below, ready_is_bottom}
use Rattle.surprise_remove.proofs.readiness.ready.Goals as goal

pub loop-at-preserved-else-is_ready_on : goal.loop-at-preserved-else-is_ready_on
loop-at-preserved-else-is_ready_on c =
    let nodes = c.args.tree.now.nodes in
    let hs = c.args.handles.now in
    let here = base nodes c.args.relations.now in
    let node = c.in-Some.node.now in
    let found = sym c.in-Some.ensures.node in
    let above = c.loop-at.invariant.ahead in
    let told = c.is_ready_on.ensures.ready hs (tells_last nodes hs c.loop-at.walk c.loop-at.at above node c.loop-at-test.true found) here in
    record {
      none = none_more (is_ready_device here hs) nodes c.loop-at.at node c.loop-at-test.true found (sym told ∙ c.if-is_ready_on.false) c.loop-at.invariant.none;
      ahead = tells_before nodes hs c.loop-at.walk c.loop-at.at above node c.is_ready_on.new.walk (ascending 0 nodes c.len-at.ensures.tree.ascends) found c.is_ready_on.ensures.below;
    }

pub loop-at-preserved : goal.loop-at-preserved
loop-at-preserved c =
    let nodes = c.args.tree.now.nodes in
    let hs = c.args.handles.now in
    record {
      none = none_past (is_ready_device (base nodes c.args.relations.now) hs) nodes (c.loop-at.at - 1) (sym c.in_default.ensures.node);
      ahead = tells_fewer nodes hs c.loop-at.walk c.loop-at.at c.loop-at.invariant.ahead;
    }

-- the one that is found
told : (c : goal.Then-is_ready_on) → is_ready_device (base c.args.tree.now.nodes c.args.relations.now) c.args.handles.now c.in-Some.node.now ≡ true
told c =
    let nodes = c.args.tree.now.nodes in
    let hs = c.args.handles.now in
    let before = tells_last nodes hs c.loop-at.walk c.loop-at.at c.loop-at.invariant.ahead c.in-Some.node.now c.loop-at-test.true (sym c.in-Some.ensures.node) in
    sym (c.is_ready_on.ensures.ready hs before (base nodes c.args.relations.now)) ∙ c.if-is_ready_on.true

found : (c : goal.Then-is_ready_on) → (greatest (serials_of (those (is_ready_device (base c.args.tree.now.nodes c.args.relations.now) c.args.handles.now) c.args.tree.now.nodes)) ≡ Some c.in-Some.node.now.serial) × (node_at c.in-Some.node.now.serial c.args.tree.now.nodes ≡ Some c.in-Some.node.now)
found c =
    let nodes = c.args.tree.now.nodes in
    last_is (is_ready_device (base nodes c.args.relations.now) c.args.handles.now) nodes c.loop-at.at c.in-Some.node.now (ascending 0 nodes c.len-at.ensures.tree.ascends) c.loop-at-test.true
    (sym c.in-Some.ensures.node) (told c) c.loop-at.invariant.none

pub returns-then-is_ready_on-clause-device : goal.returns-then-is_ready_on-clause-device
returns-then-is_ready_on-clause-device c = λ around. ap (λ (n : Node). Some n.serial) c.node.view_is ∙ sym (found c).0

pub returns-then-is_ready_on-clause-ready : goal.returns-then-is_ready_on-clause-ready
returns-then-is_ready_on-clause-ready c =
    let nodes = c.args.tree.now.nodes in
    let here = base nodes c.args.relations.now in
    let at = ap (λ (n : Node). node_at n.serial nodes) c.node.view_is ∙ (found c).1 in
    λ around. subst (λ (o : Option Node). is_ready_at here c.args.handles.now o ≡ true) (sym at) (told c)

pub returns-then-node-lowest-clause-device : goal.returns-then-node-lowest-clause-device
returns-then-node-lowest-clause-device c =
    let nodes = c.args.tree.now.nodes in
    let rs = c.args.relations.now in
    let hs = c.args.handles.now in
    λ around. sym (ap (λ (ns : List Node). greatest (serials_of ns))
    (none_below (is_ready_device (base nodes rs) hs) nodes c.loop-at.at c.in-Some.node.now c.lowest_bottom-lowest.result (ascending 0 nodes c.len-at.ensures.tree.ascends) c.loop-at-test.true (sym c.in-Some.ensures.node)
    (subst (λ (i : ℕ). i < c.lowest_bottom-lowest.result) (ap (λ (n : Node). n.serial) c.node.view_is) c.if-node-lowest.true) (λ k m at ready. c.lowest_bottom-lowest.ensures k m at (ready_is_bottom nodes rs hs m ready)) c.loop-at.invariant.none))
