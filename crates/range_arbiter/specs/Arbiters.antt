-- What an arbiter keeps. No public contract cites this.
use Rattle.std.specs.Prelude.{◌≡◌, ℕ, ◌+◌, ◌*◌, ◌^◌, ◌<◌, ◌≤◌, List, length, Vec, vec_len, vec_capacity}
use Rattle.std.specs.declared.alloc.Global.{Global}
use Rattle.resource_reqs.specs.declared.kind.Kind.{Kind}
use Rattle.range_arbiter.specs.Pairs.{Pair}
use Rattle.range_arbiter.specs.Orders.{IsOrdered, AreOfKind}
use Rattle.range_arbiter.specs.Blocks.{pairs_in, AreSome}
use Rattle.range_arbiter.specs.Whole.{Tells}
use Rattle.range_arbiter.specs.declared.room.Room.{Room}
use Rattle.range_arbiter.specs.declared.whole.Whole.{Whole}

-- Blocks that have pairs; a block or a room where a pair is held or spare, and where these are more than 32, one for each sixteen
-- of them and one more; and place in both lists for all blocks and rooms.
pub record AreStocked (blocks : Vec (List Pair) Global) (stock : Vec Room Global) (spare : ℕ) : Type 0 where
  pub some : AreSome blocks.items
  pub one : 0 < length (pairs_in blocks.items) + spare → 0 < vec_len blocks + vec_len stock
  pub enough : 32 < length (pairs_in blocks.items) + spare → length (pairs_in blocks.items) + spare + 16 ≤ 16 * (vec_len blocks + vec_len stock)
  pub block_place : vec_len blocks + vec_len stock ≤ vec_capacity blocks
  pub room_place : vec_len blocks + vec_len stock ≤ vec_capacity stock

-- Pairs of its kind, in order, with their number, room for the spare ones, and what is known of all at once.
pub record IsArbiter (kind : Kind) (blocks : Vec (List Pair) Global) (stock : Vec Room Global) (held spare : ℕ) (whole : Whole) : Type 0 where
  pub kinds : AreOfKind kind (pairs_in blocks.items)
  pub in_order : IsOrdered (pairs_in blocks.items)
  pub count : held ≡ length (pairs_in blocks.items)
  pub few : held + spare < 2 ^ 32
  pub stocked : AreStocked blocks stock spare
  pub at_once : Tells (pairs_in blocks.items) whole
