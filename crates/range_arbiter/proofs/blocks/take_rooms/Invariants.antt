use Rattle.std.proofs.Common.{◌≤◌, ◌-◌, vec_len, vec_capacity}
use Rattle.range_arbiter.proofs.blocks.take_rooms.Given as goal

abbrev pub invariant-rooms : goal.invariant-rooms
invariant-rooms l = (vec_len l.fn.stock ≤ vec_len l.stock) × (vec_len l.fn.stock ≤ l.rooms → vec_len l.stock ≤ l.rooms) × (vec_capacity l.fn.stock ≤ vec_capacity l.stock)

abbrev pub decreases-rooms : goal.decreases-rooms
decreases-rooms l = l.rooms - vec_len l.stock
