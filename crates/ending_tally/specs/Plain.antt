-- The plain form of an ending: what it says, but for the serials of devices and for the order of the lines of a part.
use Rattle.std.specs.Prelude.{ℕ, suc, Bool, false, ◌==◌, ◌||◌, nat_lt, if◌then◌else◌, List, [], ◌∷◌, ◌++◌, length, drop, codes, Option, Some, None}
use Rattle.std.specs.List.{flat_map}
use Rattle.std.specs.Str.{bytes_eq}
use Rattle.std.specs.Ordering.{nat_cmp, is_lt}
use Rattle.std.specs.Cmp.Lexicographic.{slice_cmp}
use Rattle.ending_tally.specs.Sorting.{sorted_by}
use Rattle.device_ids.specs.Cuts.{parts, cut_once}

abbrev pub tree_word : List ℕ
tree_word = codes "tree"

-- the lines that begin the four parts of an ending
abbrev pub begins_part : List ℕ → Bool
begins_part line = bytes_eq line tree_word || bytes_eq line (codes "map") || bytes_eq line (codes "outstanding") || bytes_eq line (codes "handles")

-- ---- the line of a node: as many blanks as it is deep, its serial, its path, and its state and problem

pub record Node : Type 0 where
  pub depth : ℕ
  pub path : List ℕ
  -- its state, and its problem, if it has one
  pub rest : List ℕ

-- how many blanks a line begins with
abbrev pub depth_of : List ℕ → ℕ
depth_of [] = 0
depth_of (byte ∷ line) = if byte == 0x20 then suc (depth_of line) else 0

abbrev pub behind_path : ℕ → Option (List ℕ × List ℕ) → Option Node
behind_path depth None = None
behind_path depth (Some said) = Some (record { depth = depth; path = said.0; rest = said.1 })

abbrev pub behind_serial : ℕ → Option (List ℕ × List ℕ) → Option Node
behind_serial depth None = None
behind_serial depth (Some said) = behind_path depth (cut_once 0x20 said.1)

-- the node of a line; none where the line has not three words
abbrev pub node_of : List ℕ → Option Node
node_of line = behind_serial (depth_of line) (cut_once 0x20 (drop (depth_of line) line))

-- The path of the parent of a node so deep: of the nodes above it, the nearest first, the first that is less deep.
abbrev pub parent_of : ℕ → List Node → Option (List ℕ)
parent_of depth [] = None
parent_of depth (node ∷ above) = if nat_lt node.depth depth then Some node.path else parent_of depth above

abbrev pub under : Option (List ℕ) → List ℕ
under None = []
under (Some path) = codes " under " ++ path

-- the plain form of a node's line: its path, state, problem, and its parent's path
abbrev pub form_of : Node → Option (List ℕ) → List ℕ
form_of node parent = node.path ++ 0x20 ∷ node.rest ++ under parent

abbrev pub node_form : Node → List Node → List ℕ
node_form node above = form_of node (parent_of node.depth above)

-- the plain form of a line, below these nodes; a line of no node is its own form
abbrev pub line_form : List Node → List ℕ → Option Node → List ℕ
line_form above line None = line
line_form above line (Some node) = node_form node above

abbrev pub with_node : Option Node → List Node → List Node
with_node None above = above
with_node (Some node) above = node ∷ above

-- the plain forms of the lines of a tree, below these nodes, the nearest first
abbrev pub tree_forms : List Node → List (List ℕ) → List (List ℕ)
tree_forms above [] = []
tree_forms above (line ∷ lines) = line_form above line (node_of line) ∷ tree_forms (with_node (node_of line) above) lines

-- ---- the lines of a part, and of all parts

-- texts in the order of their bytes
abbrev pub text_less : List ℕ → List ℕ → Bool
text_less text other = is_lt (slice_cmp nat_cmp text other)

abbrev pub in_order : List (List ℕ) → List (List ℕ)
in_order texts = sorted_by text_less texts

-- each line with its line feed
abbrev pub joined : List (List ℕ) → List ℕ
joined lines = flat_map (λ line. line ++ 0x0A ∷ []) lines

abbrev pub unless_empty : List ℕ → List (List ℕ)
unless_empty line = if length line == 0 then [] else line ∷ []

-- the lines of a part: those up to the next part, but for empty ones
abbrev pub part_of : List (List ℕ) → List (List ℕ)
part_of [] = []
part_of (line ∷ lines) = if begins_part line then [] else unless_empty line ++ part_of lines

-- their plain forms, in order; only in the tree a line has another form than itself
abbrev pub part_forms : Bool → List (List ℕ) → List (List ℕ)
part_forms is_tree lines = in_order (if is_tree then tree_forms [] (part_of lines) else part_of lines)

abbrev pub part_form : Bool → List (List ℕ) → List ℕ
part_form is_tree lines = joined (part_forms is_tree lines)

-- a line that begins a part, and the lines of the part in their plain form; nothing for any other line
abbrev pub with_heading : List ℕ → List (List ℕ) → List ℕ
with_heading line lines = if begins_part line then line ++ 0x0A ∷ part_form (bytes_eq line tree_word) lines else []

-- all parts that a line begins
abbrev pub parts_form : List (List ℕ) → List ℕ
parts_form [] = []
parts_form (line ∷ lines) = with_heading line lines ++ parts_form lines

-- The plain form of the text of an ending. What stands before the first part is a part as well.
abbrev pub plain : List ℕ → List ℕ
plain text = part_form false (parts 0x0A text) ++ parts_form (parts 0x0A text)
