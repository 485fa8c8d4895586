-- A walk that has ended is of the operation as it runs: where a device is only now taken, its drivers are still to be asked.
use Rattle.std.proofs.Common.{◌≡◌, ◌≢◌, true, [], length, Some, sym, ap, ◌∙◌}
use Rattle.pnp_model.specs.Cores.{node_at}
use Rattle.pnp_model.specs.Frames.{first_node}
use Rattle.pnp_model.specs.Records.{Course, Job, Node, State, Walk, course_of}
use Rattle.pnp_model.specs.Removals.{queried}
use Rattle.pnp_model.specs.Walks.{has_ended, walk_of}
use Rattle.pnp_labels.specs.declared.words.Minor.{Minor}
use Rattle.pnp_laws.specs.Effects.{Running, Turn}
use Rattle.pnp_laws.specs.Kept.{IsGood}
use Rattle.pnp_laws.proofs.FitsBy.{fits_by}
use Rattle.pnp_laws.proofs.Turns.{running_good}
use Rattle.pnp_laws.proofs.FinishSteps.{not_root}
use Rattle.pnp_laws.proofs.Lists.{head_found, head_has}
use Rattle.pnp_laws.proofs.Lookups.{found_self, some_same}
use Rattle.pnp_laws.proofs.Readies.{asks_fresh, ready_fresh}
use Rattle.pnp_laws.proofs.RemovalSteps.{head_querying}

-- a device that is asked whether it may be removed has drivers
queried_drivers : (s : State) (o : Job) (node : Node) → course_of o.kind ≡ Course.Removing → IsGood s → Running s (queried o) → first_node s.core.nodes o.todo ≡ Some node → node.stack ≢ []
queried_drivers s o node course good running first none =
    let g = running_good s (queried o) running good in
    let fits = fits_by Course.Removing (queried o) s.core.nodes course g.fits in
    let head = head_found s.core.nodes o.todo node first in
    let up = head_querying o.todo o.agreed o.set node.serial node.state head.0 (fits.each node.serial node head.1) in
    let low = not_root o.set o.todo node.serial fits.rootless fits.asks.2 (head_has node.serial o.todo head.0) in
    let bare = (g.stacks node.serial node head.1).some low none in
    cc

pub ended_runs : (s : State) (o : Job) (node : Node) (w : Walk) → IsGood s → Running s o → first_node s.core.nodes o.todo ≡ Some node → o.walk ≡ Some w → has_ended w (length node.stack) ≡ true → s.operation ≡ Some o
ended_runs s o node w good running first walk ended = by_turn running.before o running.runs running.turn first walk
  where
    by_turn : (p q : Job) → s.operation ≡ Some p → Turn s p q → first_node s.core.nodes q.todo ≡ Some node → q.walk ≡ Some w → s.operation ≡ Some q
    by_turn p _ runs (Turn.same _) first walk = runs
    by_turn _ _ runs (Turn.queries r m course is idle next asked) first walk =
        let some = queried_drivers s r node course good (record { before = r; runs = runs; turn = Turn.queries r m course is idle next asked }) first in
        absurd (let begun = asks_fresh Minor.QueryRemove node.stack some in let own : walk_of Minor.QueryRemove ≡ w = cc in cc)
    by_turn _ _ runs (Turn.removes r m d ds course is idle next goes full) first walk =
        let same : m ≡ node = cc in
        let some : node.stack ≢ [] = λ none. let z = sym full ∙ ap (λ (x : Node). x.stack) same ∙ none in cc in
        absurd (let begun = asks_fresh Minor.Remove node.stack some in let own : walk_of Minor.Remove ≡ w = cc in cc)
    by_turn _ _ runs (Turn.settles r m course is idle next goes none) first walk = absurd (cc)
    by_turn _ _ runs (Turn.finishes f k m course is idle ready at) first walk =
        absurd (let begun = ready_fresh s.core s.handles k m good.serials ready at in let own : walk_of Minor.Remove ≡ w = cc in let same : m ≡ node = some_same (node_at m.serial s.core.nodes) m node (found_self k s.core.nodes m at) first in cc)
