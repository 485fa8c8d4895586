use Rattle.std.proofs.Common.{◌≡◌, length, map, take, drop, vec_len}
use Rattle.device_holdings.specs.Giving.{with_part}
use Rattle.device_holdings.specs.Mirrors.{KeepsMirror, HasRoom}
use Rattle.device_holdings.proofs.holding.assign_all.Given as goal

abbrev pub invariant-parts : goal.invariant-parts
invariant-parts l = record {
  left : l.parts.items ≡ take (length l.parts.items) l.plan;
  so_far : l.tree ≡ record l.fn.tree { nodes = map (with_part (drop (length l.parts.items) l.serials) (drop (length l.parts.items) l.plan)) l.fn.tree.nodes };
  mirrors : KeepsMirror l.fn.tree.nodes l.fn.arbiters l.tree.nodes l.arbiters;
  room : HasRoom l.arbiters l.parts.items;
}

abbrev pub decreases-parts : goal.decreases-parts
decreases-parts l = vec_len l.parts
