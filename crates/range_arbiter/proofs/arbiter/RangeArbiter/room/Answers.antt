use Rattle.std.proofs.Common.{◌≡◌, length, sym, ap, subst, arith}
use Rattle.range_arbiter.specs.Orders.{IsOrdered, AreOfKind}
use Rattle.range_arbiter.specs.Blocks.{pairs_in, AreSome}
use Rattle.range_arbiter.specs.Whole.{Tells}
use Rattle.range_arbiter.proofs.arbiter.RangeArbiter.room.Goals as goal

pub invariant_of-self : goal.invariant_of-self
invariant_of-self c =
    let was = c.self.invariant in
    let same = sym c.stock_up.ensures.pairs in
    let long = ap (λ l. length (pairs_in l)) c.stock_up.ensures.pairs in
    let count = c.stock_up.ensures.count in
    let grows = c.stock_up.ensures.grows in
    let one = was.stocked.one in
    let enough = was.stocked.enough in
    record {
      kinds = subst (λ l. AreOfKind c.self.inside.kind (pairs_in l)) same was.kinds;
      in_order = subst (λ l. IsOrdered (pairs_in l)) same was.in_order;
      count = subst (λ l. c.self.inside.held ≡ length (pairs_in l)) same was.count;
      few = was.few;
      stocked = record {
        some = subst AreSome same was.stocked.some;
        one = λ some. omega arith;
        enough = λ many. omega arith;
        block_place = c.stock_up.ensures.block_place;
        room_place = c.stock_up.ensures.room_place;
      };
      at_once = subst (λ l. Tells (pairs_in l) c.self.inside.whole) same was.at_once;
    }

pub invariant_of-self-2 : goal.invariant_of-self-2
invariant_of-self-2 c =
    let was = c.self.invariant in
    let same = sym c.stock_up.ensures.pairs in
    let long = ap (λ l. length (pairs_in l)) c.stock_up.ensures.pairs in
    let count = c.stock_up.ensures.count in
    let held = was.count in
    let rooms = c.in_ok-stock_up.ensures.ok in
    let there = c.len-there.ensures in
    let left = c.saturating_sub.ensures in
    let one = c.rooms_for-rooms.ensures.one in
    let enough = c.rooms_for-rooms.ensures.enough in
    let most = c.min-wanted.ensures in
    record {
      kinds = subst (λ l. AreOfKind c.self.inside.kind (pairs_in l)) same was.kinds;
      in_order = subst (λ l. IsOrdered (pairs_in l)) same was.in_order;
      count = subst (λ l. c.self.inside.held ≡ length (pairs_in l)) same was.count;
      few = omega arith;
      stocked = record {
        some = subst AreSome same was.stocked.some;
        one = λ some. omega arith;
        enough = λ many. omega arith;
        block_place = c.stock_up.ensures.block_place;
        room_place = c.stock_up.ensures.room_place;
      };
      at_once = subst (λ l. Tells (pairs_in l) c.self.inside.whole) same was.at_once;
    }
