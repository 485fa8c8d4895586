use Rattle.std.proofs.Common.{◌≡◌, ◌≤◌, ◌*◌, ◌-◌, [], length}
use Rattle.req_bytes.specs.Bytes.{items_in, pieces}
use Rattle.req_bytes.specs.Readings.{opened, IsOpen}
use Rattle.req_bytes.proofs.groups.read_items.Given as goal

abbrev pub invariant-loop-item : goal.invariant-loop-item
invariant-loop-item l =
    (32 * (l.count - l.item) ≤ length l.rest) × IsOpen l.groups.whole l.groups.last
    × (items_in l.list l.item (opened l.groups.whole l.groups.last) (pieces (l.count - l.item) l.rest) ≡ items_in l.list 0 [] (pieces l.count l.bytes))
