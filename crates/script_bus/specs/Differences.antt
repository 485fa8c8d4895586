-- What a listing finds: who joins the tree, and who is gone from the world.
use Rattle.std.specs.Prelude.{ℕ, Bool, false, not, ◌&&◌, nat_le, List, Option, Some, None}
use Rattle.pnp_model.specs.Cores.{serials_of, node_at}
use Rattle.pnp_model.specs.Keyed.{those}
use Rattle.pnp_model.specs.Records.{Device, Node}
use Rattle.pnp_model.specs.States.{device_born, is_in_world}
use Rattle.pnp_model.specs.Tasks.{joins, has_born, has_path}
use Rattle.pnp_model.specs.Trees.{children}
use Rattle.devnode_tree.specs.Trees.{Tree}
use Rattle.script_bus.specs.Worlds.{World, births_of}

-- the world children of a node's device for which no node has the birth number or the path
abbrev pub joins_of : World → Tree → Node → List ℕ
joins_of w t n = births_of (those (joins n.born t.nodes) w.devices)

-- a node whose birth number is not in the world
abbrev pub is_lost : World → Node → Bool
is_lost w n = not (is_in_world w.devices n.born)

abbrev pub gone_of : World → Tree → ℕ → List ℕ
gone_of w t serial = serials_of (those (is_lost w) (children serial t.nodes))

-- the same by number
abbrev pub is_new : Tree → Option Device → Bool
is_new t None = false
is_new t (Some d) = not (has_born d.born t.nodes) && not (has_path d.path t.nodes)

abbrev pub is_new_born : World → Tree → ℕ → Bool
is_new_born w t born = is_new t (device_born born w.devices)

abbrev pub is_lost_node : World → Option Node → Bool
is_lost_node w None = false
is_lost_node w (Some n) = is_lost w n

abbrev pub is_lost_serial : World → Tree → ℕ → Bool
is_lost_serial w t serial = is_lost_node w (node_at serial t.nodes)

-- a device that joins and has at least this birth number
abbrev pub joins_from : ℕ → Tree → Node → Device → Bool
joins_from from t n d = nat_le from d.born && joins n.born t.nodes d
