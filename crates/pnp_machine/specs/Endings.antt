-- The lines of the end of the output.
use Rattle.std.specs.Prelude.{◌≡◌, ℕ, Bool, true, false, List, [], ◌∷◌, ◌++◌, Option, Some, codes, drop, map, length, slice_index}
use Rattle.pnp_labels.specs.Texts.{Text}
use Rattle.pnp_model.specs.Cores.{node_at, core_of}
use Rattle.pnp_model.specs.Records.{Node, Driver, Handle, Walk, Activity, Job, State}
use Rattle.pnp_model.specs.Endings.{joined, print_order, tree_line, map_line, map_rows, outstanding, outstanding_line, activity_rows, operation_rows, walk_row, handle_line, handles_part}
use Rattle.pnp_model.specs.Books.{name_of}
use Rattle.pnp_model.specs.Walks.{place_of}
use Rattle.pnp_labels.specs.Texts.{spaced, minor_text}
use Rattle.devnode_tree.specs.Trees.{Tree, IsTree}
use Rattle.devnode_tree.specs.Rows.{row_of}
use Rattle.devnode_tree.specs.declared.print.PrintRow.{PrintRow}
use Rattle.pnp_machine.specs.Managers.{IsOfRun}

-- the line of the row's node was appended
pub record RowAdded (t : Tree) (row : PrintRow) (old new : Text) : Type 0 where
  pub tree : IsTree t
  pub line : (n : Node) → node_at row.serial t.nodes ≡ Some n → new ≡ old ++ joined (tree_line (record { depth = row.depth; node = n }) ∷ [])

-- the line of a request that waits at a device
abbrev pub waiting_line : Node → List Driver → Walk → Text
waiting_line node rack w =
    spaced (node.path ∷ minor_text w.minor ∷ name_of rack (slice_index node.stack (place_of w.minor (length node.stack) w.asked)) ∷ [])

-- the line of a request at a device, where it waits
abbrev pub request_lines : List Node → List Driver → ℕ → Option Walk → Text
request_lines nodes rack k walk = joined (map (outstanding_line (core_of nodes [] rack [])) (walk_row k walk))

-- the lines of those of starts, and of the operation that runs
abbrev pub works_lines : List Node → List Driver → List Activity → Text
works_lines nodes rack works = joined (map (outstanding_line (core_of nodes [] rack [])) (activity_rows works))

abbrev pub operation_lines : List Node → List Driver → Option Job → Text
operation_lines nodes rack operation = joined (map (outstanding_line (core_of nodes [] rack [])) (operation_rows operation))

-- the lines of handles, without and with the word above them
abbrev pub handle_lines : List Node → List Handle → Text
handle_lines nodes handles = joined (map (handle_line (core_of nodes [] [] [])) handles)

abbrev pub handles_lines : List Node → List Handle → Text
handles_lines nodes handles = joined (handles_part (core_of nodes [] [] []) handles)

-- what comes below the tree
abbrev pub below_tree : State → List Text
below_tree s =
    codes "map" ∷ (map map_line (map_rows s.core) ++ (codes "outstanding" ∷ (map (outstanding_line s.core) (outstanding s) ++ handles_part s.core s.handles)))

-- the end of the output from this row of the tree on
abbrev pub ending_from : State → ℕ → Text
ending_from s next = joined (map tree_line (drop next (print_order s.core.nodes)) ++ below_tree s)

-- these are the rows of the tree of a state of a run
pub record IsEnding (s : State) (rows : List PrintRow) : Type 0 where
  pub run : IsOfRun s
  pub printed : rows ≡ map row_of (print_order s.core.nodes)

-- what is left behind a part: a text, or nothing where no more comes
abbrev pub left : Bool → Text → Text
left true text = text
left false text = []
