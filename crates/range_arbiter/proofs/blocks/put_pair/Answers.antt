use Rattle.std.proofs.Common.{rules, ◌≡◌, ◌<◌, ◌≤◌, ◌+◌, length, insert, slice_set, sym, ◌∙◌, ap, subst, arith, vec_len}
use Rattle.range_arbiter.specs.Pairs.{pairs_with}
use Rattle.range_arbiter.specs.Orders.{IsOrdered, AreOfKind}
use Rattle.range_arbiter.specs.Blocks.{pairs_in, IsPlace}
use Rattle.range_arbiter.proofs.PairLists.{length-pairs_with}
use Rattle.std.proofs.lemmas.Option.{MatchOption-at_some, MatchOption-at_none}
use Rattle.range_arbiter.proofs.Blocking.{ordered_block, put_at, put_parted, some_set, some_parted, long_block}
use Rattle.std.proofs.lemmas.List.Edits.{length-insert}
use Rattle.range_arbiter.proofs.blocks.put_pair.Goals as goal

pub place_of-place-requires : goal.place_of-place-requires
place_of-place-requires c =
    let bs = c.join_light.new.blocks.items in
    let at = c.block_of-at.result in
    let within : at < length bs = subst (λ l. at < length l) c.deref.ensures.value c.block_of-at.ensures.within in
    ordered_block bs at c.index_mut-block.result.now within c.index_mut-block.ensures.value (subst IsOrdered (sym c.join_light.ensures.pairs) c.requires.in_order)

pub returns-then-pairs-lt32-clause-pairs : goal.returns-then-pairs-lt32-clause-pairs
returns-then-pairs-lt32-clause-pairs c =
    let bs = c.join_light.new.blocks.items in
    let p = c.args.pair in
    let at = c.block_of-at.result in
    let within : at < length bs = subst (λ l. at < length l) c.deref.ensures.value c.block_of-at.ensures.within in
    let place : IsPlace bs p at = subst (λ l. IsPlace l p at) c.deref.ensures.value c.block_of-at.ensures.place in
    let same = sym c.join_light.ensures.pairs in
    put_at bs at c.index_mut-block.result.now c.put.new.self c.place_of-place.result p within c.index_mut-block.ensures.value (subst IsOrdered same c.requires.in_order)
    (subst (AreOfKind p.1.kind) same c.requires.kinds) place c.place_of-place.ensures.front c.place_of-place.ensures.back c.put.ensures
    ∙ ap (λ l. pairs_with l p) (sym same)

pub returns-then-pairs-lt32-clause-stocked : goal.returns-then-pairs-lt32-clause-stocked
returns-then-pairs-lt32-clause-stocked c =
    let bs = c.join_light.new.blocks.items in
    let p = c.args.pair in
    let at = c.block_of-at.result in
    let b = c.index_mut-block.result.now in
    let x = c.put.new.self in
    let j = c.place_of-place.result in
    let within : at < length bs = subst (λ l. at < length l) c.deref.ensures.value c.block_of-at.ensures.within in
    let place : IsPlace bs p at = subst (λ l. IsPlace l p at) c.deref.ensures.value c.block_of-at.ensures.place in
    let same = sym c.join_light.ensures.pairs in
    let with = put_at bs at b x j p within c.index_mut-block.ensures.value (subst IsOrdered same c.requires.in_order)
    (subst (AreOfKind p.1.kind) same c.requires.kinds) place c.place_of-place.ensures.front c.place_of-place.ensures.back c.put.ensures in
    let longer = ap length with ∙ length-pairs_with (pairs_in bs) p in
    let most = c.place_of-place.ensures.within in
    let more : length x ≡ length b + 1 = ap length c.put.ensures ∙ length-insert b j p most in
    let was = c.join_light.ensures.stocked in
    let one = was.one in
    let enough = was.enough in
    let positive = c.requires.spare in
    record { some = some_set bs at x within (omega arith) was.some; one = λ some. omega arith; enough = λ many. omega arith; block_place = was.block_place; room_place = was.room_place }

pub unreachable-requires : goal.unreachable-requires
unreachable-requires c =
    let bs = c.join_light.new.blocks.items in
    let at = c.block_of-at.result in
    let b = c.index_mut-block.result.now in
    let within : at < length bs = subst (λ l. at < length l) c.deref.ensures.value c.block_of-at.ensures.within in
    let full : 32 ≤ length b = subst (λ l. 32 ≤ length l) c.pairs.ensures.pairs c.if-pairs-lt32.false in
    let long : length b ≤ length (pairs_in bs) = long_block bs at b within c.index_mut-block.ensures.value in
    let same = ap length c.join_light.ensures.pairs in
    let some : 0 < vec_len c.join_light.new.stock = c.join_light.ensures.room c.requires.spare (omega arith) in
    let none : vec_len c.join_light.new.stock ≡ 0 = (MatchOption-at_none _ _ c.in-None.is c.pop-2.ensures.cases).0 in
    omega arith

pub returns-clause-pairs : goal.returns-clause-pairs
returns-clause-pairs c =
    let bs = c.join_light.new.blocks.items in
    let p = c.args.pair in
    let at = c.block_of-at.result in
    let within : at < length bs = subst (λ l. at < length l) c.deref.ensures.value c.block_of-at.ensures.within in
    let place : IsPlace bs p at = subst (λ l. IsPlace l p at) c.deref.ensures.value c.block_of-at.ensures.place in
    let same = sym c.join_light.ensures.pairs in
    let put : c.insert.new.self.items ≡ insert (slice_set bs at c.put_parting-back.new.self) (at + 1) c.put_parting-back.result = search rules in
    ap pairs_in put
    ∙ put_parted bs at c.index_mut-block.result.now c.put_parting-back.new.self c.put_parting-back.result c.place_of-place.result p within c.index_mut-block.ensures.value
    (subst IsOrdered same c.requires.in_order) (subst (AreOfKind p.1.kind) same c.requires.kinds) place c.place_of-place.ensures.front c.place_of-place.ensures.back c.put_parting-back.ensures.both
    ∙ ap (λ l. pairs_with l p) (sym same)

pub returns-clause-stocked : goal.returns-clause-stocked
returns-clause-stocked c =
    let bs = c.join_light.new.blocks.items in
    let p = c.args.pair in
    let at = c.block_of-at.result in
    let within : at < length bs = subst (λ l. at < length l) c.deref.ensures.value c.block_of-at.ensures.within in
    let place : IsPlace bs p at = subst (λ l. IsPlace l p at) c.deref.ensures.value c.block_of-at.ensures.place in
    let same = sym c.join_light.ensures.pairs in
    let put : c.insert.new.self.items ≡ insert (slice_set bs at c.put_parting-back.new.self) (at + 1) c.put_parting-back.result = search rules in
    let with = ap pairs_in put
    ∙ put_parted bs at c.index_mut-block.result.now c.put_parting-back.new.self c.put_parting-back.result c.place_of-place.result p within c.index_mut-block.ensures.value
    (subst IsOrdered same c.requires.in_order) (subst (AreOfKind p.1.kind) same c.requires.kinds) place c.place_of-place.ensures.front c.place_of-place.ensures.back c.put_parting-back.ensures.both in
    let longer = ap length with ∙ length-pairs_with (pairs_in bs) p in
    let was = c.join_light.ensures.stocked in
    let one = was.one in
    let block_place = was.block_place in
    let room_place = was.room_place in
    let positive = c.requires.spare in
    let more : vec_len c.insert.new.self ≡ vec_len c.join_light.new.blocks + 1 = search rules in
    let less : vec_len c.pop-2.new.self + 1 ≡ vec_len c.join_light.new.stock = MatchOption-at_some _ _ _ c.in-Some-pop.is c.pop-2.ensures.cases in
    let kept = c.insert.ensures.capacity in
    let place_kept = c.pop-2.ensures.capacity in
    record {
      some = rw put (some_parted bs at c.put_parting-back.new.self c.put_parting-back.result within c.put_parting-back.ensures.front c.put_parting-back.ensures.back was.some);
      one = λ some. omega arith;
      enough = λ many. let enough = was.enough (omega arith) in omega arith;
      block_place = omega arith;
      room_place = omega arith;
    }
