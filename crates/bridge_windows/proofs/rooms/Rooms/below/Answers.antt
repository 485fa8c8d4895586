use Rattle.std.proofs.Common.{◌≡◌, ◌<◌, ℕ, ◌∙◌, ap, sym, subst}
use Rattle.pnp_model.specs.Cores.{node_at}
use Rattle.pnp_model.specs.Records.{Node}
use Rattle.devnode_tree.proofs.Climbs.{parent_at}
use Rattle.bridge_windows.specs.Rooms.{room_in, narrowed_by, ranges_at}
use Rattle.bridge_windows.proofs.Levels.{Climbed, begun, one_more, at_root, at_none}
use Rattle.bridge_windows.proofs.rooms.Rooms.below.Goals as goal

pub levels-init : goal.levels-init
levels-init c = λ kind.
    begun c.args.tree.now.nodes c.args.bridges.now kind c.args.parent (room_in c.all-rooms.result kind) (room_in c.pass.new.self kind) (c.all-rooms.ensures kind) (c.pass.ensures kind)

pub returns-in_default : goal.returns-in_default
returns-in_default c = λ kind.
    at_none c.args.tree.now.nodes c.args.bridges.now kind c.args.parent c.levels.at (room_in c.levels.rooms kind) (sym c.in_default.ensures.node) (c.levels.invariant kind)

pub levels-smaller : goal.levels-smaller
levels-smaller c =
    let parent = ap (λ (n : Node). n.parent) c.node-in-levels.view_is in
    let up = (parent_at c.args.tree.now c.node.ensures.tree c.levels.at c.in-Some.node.now (sym c.in-Some.ensures.node) c.levels-test.true).0 in
    subst (λ (p : ℕ). p < c.levels.at) (sym parent) up

pub levels-preserved : goal.levels-preserved
levels-preserved c = λ kind.
    let t = c.args.tree.now in
    let windows = c.args.bridges.now in
    let n = c.in-Some.node.now in
    let parent : c.node-in-levels.inside.parent ≡ n.parent = ap (λ (m : Node). m.parent) c.node-in-levels.view_is in
    let r = room_in c.levels.rooms kind in
    let r' = room_in c.pass-in-levels.new.self kind in
    let is = c.pass-in-levels.ensures kind ∙ ap (λ (p : ℕ). narrowed_by kind (ranges_at windows (node_at p t.nodes)) r) parent in
    subst (λ (p : ℕ). Climbed windows t.nodes c.args.parent p kind r') (sym parent)
    (one_more t c.node.ensures.tree windows kind c.args.parent c.levels.at n (sym c.in-Some.ensures.node) c.levels-test.true r r' is (c.levels.invariant kind))

pub returns : goal.returns
returns c = λ kind.
    at_root c.args.tree.now.nodes c.args.bridges.now kind c.args.parent (room_in c.levels.rooms kind)
    (subst (λ (p : ℕ). Climbed c.args.bridges.now c.args.tree.now.nodes c.args.parent p kind (room_in c.levels.rooms kind)) c.levels-test.false (c.levels.invariant kind))
