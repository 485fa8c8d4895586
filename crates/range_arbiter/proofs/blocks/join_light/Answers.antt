use Rattle.std.proofs.Common.{rules, ◌≡◌, ◌<◌, ◌+◌, ◌-◌, length, ap, subst, arith, vec_len}
use Rattle.range_arbiter.proofs.Blocking.{joined_same, joined_some}
use Rattle.range_arbiter.proofs.blocks.join_light.Goals as goal

pub returns-in-Some-clause-pairs : goal.returns-in-Some-clause-pairs
returns-in-Some-clause-pairs c =
    let bs = c.args.blocks.now.items in
    let at = c.in-Some.at in
    let positive = c.in-Some.ensures.some.0 in
    let within : at < length bs = subst (λ l. at < length l) c.deref.ensures.value c.in-Some.ensures.some.1 in
    joined_same bs c.remove-back.new.self.items at (at - 1) c.index_mut.result.now c.remove-back.result c.join-room.new.self (omega arith) within
    c.remove-back.ensures.items c.index_mut.ensures.value c.remove-back.ensures.value c.join-room.ensures

pub returns-in-Some-clause-stocked : goal.returns-in-Some-clause-stocked
returns-in-Some-clause-stocked c =
    let bs = c.args.blocks.now.items in
    let at = c.in-Some.at in
    let positive = c.in-Some.ensures.some.0 in
    let within : at < length bs = subst (λ l. at < length l) c.deref.ensures.value c.in-Some.ensures.some.1 in
    let same = joined_same bs c.remove-back.new.self.items at (at - 1) c.index_mut.result.now c.remove-back.result c.join-room.new.self (omega arith) within
    c.remove-back.ensures.items c.index_mut.ensures.value c.remove-back.ensures.value c.join-room.ensures in
    let long = ap length same in
    let pushed : vec_len c.push.new.self ≡ vec_len c.args.stock.now + 1 = search rules in
    let less = c.remove-back.ensures.len in
    let place = c.remove-back.ensures.capacity in
    let kept = c.push.ensures.capacity in
    let was = c.requires.stocked in
    let one = was.one in
    let enough = was.enough in
    let block_place = was.block_place in
    let room_place = was.room_place in
    record {
      some = joined_some bs c.remove-back.new.self.items at (at - 1) c.index_mut.result.now c.remove-back.result c.join-room.new.self (omega arith) within
          c.remove-back.ensures.items c.index_mut.ensures.value c.remove-back.ensures.value c.join-room.ensures was.some;
      one = λ some. omega arith;
      enough = λ many. omega arith;
      block_place = omega arith;
      room_place = omega arith;
    }
