-- The nodes of a tree as the code keeps them.
use Rattle.std.specs.Prelude.{List, map, reverse}
use Rattle.ending_tally.specs.Plain as plain
use Rattle.ending_tally.specs.declared.plain.Node.{Node}

-- a node, without where its texts lie in memory
abbrev pub seen : Node → plain.Node
seen n = record { depth = n.depth; path = n.path.now; rest = n.rest.now }

-- the nodes above, of which the nearest is kept last
abbrev pub above_of : List Node → List plain.Node
above_of kept = reverse (map seen kept)
