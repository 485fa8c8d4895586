use Rattle.std.proofs.Common.{rules, ◌≡◌, ◌<◌, ◌≤◌, ◌+◌, ◌-◌, length, remove, sym, ◌∙◌, ap, subst, arith, vec_len}
use Rattle.range_arbiter.specs.Pairs.{pairs_with}
use Rattle.range_arbiter.specs.Blocks.{pairs_in, IsPlace}
use Rattle.range_arbiter.proofs.PairLists.{length-pairs_with}
use Rattle.range_arbiter.proofs.Blocking.{ordered_block, held_before, kept_block, take_at, take_only, some_set, some_remove}
use Rattle.std.proofs.lemmas.List.Edits.{length-remove}
use Rattle.range_arbiter.proofs.blocks.take_pair.Goals as goal

pub place_of-place-requires : goal.place_of-place-requires
place_of-place-requires c =
    let bs = c.args.blocks.now.items in
    let at = c.block_of-at.result in
    let within : at < length bs = subst (λ l. at < length l) c.deref.ensures.value c.block_of-at.ensures.within in
    ordered_block bs at c.index_mut-block.result.now within c.index_mut-block.ensures.value c.requires.in_order

pub overflow_sub-place : goal.overflow_sub-place
overflow_sub-place c =
    let bs = c.args.blocks.now.items in
    let p = c.args.pair.now in
    let at = c.block_of-at.result in
    let within : at < length bs = subst (λ l. at < length l) c.deref.ensures.value c.block_of-at.ensures.within in
    let place : IsPlace bs p at = subst (λ l. IsPlace l p at) c.deref.ensures.value c.block_of-at.ensures.place in
    held_before bs at c.index_mut-block.result.now c.place_of-place.result p within c.index_mut-block.ensures.value c.requires.stocked.some place
    c.place_of-place.ensures.back c.requires.held

pub returns-then-pairs-gt1-clause-pairs : goal.returns-then-pairs-gt1-clause-pairs
returns-then-pairs-gt1-clause-pairs c =
    let bs = c.args.blocks.now.items in
    let p = c.args.pair.now in
    let at = c.block_of-at.result in
    let b = c.index_mut-block.result.now in
    let is = c.index_mut-block.ensures.value in
    let j = c.place_of-place.result in
    let within : at < length bs = subst (λ l. at < length l) c.deref.ensures.value c.block_of-at.ensures.within in
    let place : IsPlace bs p at = subst (λ l. IsPlace l p at) c.deref.ensures.value c.block_of-at.ensures.place in
    let positive : 0 < j = held_before bs at b j p within is c.requires.stocked.some place c.place_of-place.ensures.back c.requires.held in
    take_at bs at b c.take.new.self j p within is c.requires.in_order c.requires.kinds place c.place_of-place.ensures.front c.place_of-place.ensures.back
    c.requires.held positive c.place_of-place.ensures.within c.take.ensures

pub returns-then-pairs-gt1-clause-stocked : goal.returns-then-pairs-gt1-clause-stocked
returns-then-pairs-gt1-clause-stocked c =
    let bs = c.args.blocks.now.items in
    let p = c.args.pair.now in
    let at = c.block_of-at.result in
    let b = c.index_mut-block.result.now in
    let x = c.take.new.self in
    let is = c.index_mut-block.ensures.value in
    let j = c.place_of-place.result in
    let within : at < length bs = subst (λ l. at < length l) c.deref.ensures.value c.block_of-at.ensures.within in
    let place : IsPlace bs p at = subst (λ l. IsPlace l p at) c.deref.ensures.value c.block_of-at.ensures.place in
    let positive : 0 < j = held_before bs at b j p within is c.requires.stocked.some place c.place_of-place.ensures.back c.requires.held in
    let same = take_at bs at b x j p within is c.requires.in_order c.requires.kinds place c.place_of-place.ensures.front c.place_of-place.ensures.back
    c.requires.held positive c.place_of-place.ensures.within c.take.ensures in
    let fewer = ap length same ∙ length-pairs_with _ p in
    let most = c.place_of-place.ensures.within in
    let cut : length (remove b (j - 1)) + 1 ≡ length b = length-remove b (j - 1) (omega arith) in
    let left : length x ≡ length (remove b (j - 1)) = ap length c.take.ensures in
    let several : 1 < length b = subst (λ l. 1 < length l) c.pairs.ensures.pairs c.if-pairs-gt1.true in
    let was = c.requires.stocked in
    let one = was.one in
    let enough = was.enough in
    record { some = some_set bs at x within (omega arith) was.some; one = λ some. omega arith; enough = λ many. omega arith; block_place = was.block_place; room_place = was.room_place }

pub returns-clause-pairs : goal.returns-clause-pairs
returns-clause-pairs c =
    let bs = c.args.blocks.now.items in
    let p = c.args.pair.now in
    let at = c.block_of-at.result in
    let b = c.index_mut-block.result.now in
    let is = c.index_mut-block.ensures.value in
    let j = c.place_of-place.result in
    let within : at < length bs = subst (λ l. at < length l) c.deref.ensures.value c.block_of-at.ensures.within in
    let place : IsPlace bs p at = subst (λ l. IsPlace l p at) c.deref.ensures.value c.block_of-at.ensures.place in
    let positive : 0 < j = held_before bs at b j p within is c.requires.stocked.some place c.place_of-place.ensures.back c.requires.held in
    let rest : c.remove-alone.new.self.items ≡ remove bs at = c.remove-alone.ensures.items ∙ ap (λ l. remove l at) (kept_block bs at b is) in
    let few : length b ≤ 1 = subst (λ l. length l ≤ 1) c.pairs.ensures.pairs c.if-pairs-gt1.false in
    take_only bs at b j p within is c.requires.in_order c.requires.kinds place c.place_of-place.ensures.front c.place_of-place.ensures.back
    c.requires.held positive c.place_of-place.ensures.within few ∙ ap (λ l. pairs_with (pairs_in l) p) (sym rest)

pub returns-clause-stocked : goal.returns-clause-stocked
returns-clause-stocked c =
    let bs = c.args.blocks.now.items in
    let p = c.args.pair.now in
    let at = c.block_of-at.result in
    let b = c.index_mut-block.result.now in
    let is = c.index_mut-block.ensures.value in
    let j = c.place_of-place.result in
    let within : at < length bs = subst (λ l. at < length l) c.deref.ensures.value c.block_of-at.ensures.within in
    let place : IsPlace bs p at = subst (λ l. IsPlace l p at) c.deref.ensures.value c.block_of-at.ensures.place in
    let positive : 0 < j = held_before bs at b j p within is c.requires.stocked.some place c.place_of-place.ensures.back c.requires.held in
    let rest : c.remove-alone.new.self.items ≡ remove bs at = c.remove-alone.ensures.items ∙ ap (λ l. remove l at) (kept_block bs at b is) in
    let few : length b ≤ 1 = subst (λ l. length l ≤ 1) c.pairs.ensures.pairs c.if-pairs-gt1.false in
    let same = take_only bs at b j p within is c.requires.in_order c.requires.kinds place c.place_of-place.ensures.front c.place_of-place.ensures.back
    c.requires.held positive c.place_of-place.ensures.within few ∙ ap (λ l. pairs_with (pairs_in l) p) (sym rest) in
    let fewer = ap length same ∙ length-pairs_with _ p in
    let was = c.requires.stocked in
    let one = was.one in
    let enough = was.enough in
    let block_place = was.block_place in
    let room_place = was.room_place in
    let less = c.remove-alone.ensures.len in
    let place_kept = c.remove-alone.ensures.capacity in
    let pushed : vec_len c.push.new.self ≡ vec_len c.args.stock.now + 1 = search rules in
    let kept = c.push.ensures.capacity in
    record {
      some = rw rest (some_remove bs at was.some);
      one = λ some. omega arith;
      enough = λ many. omega arith;
      block_place = omega arith;
      room_place = omega arith;
    }
