-- What is ahead of a walk over the devices with an open handle, from the greatest serial down.
use Rattle.std.specs.Prelude.{◌≡◌, ℕ, List, [], ◌++◌, Option, IfNone, option_to_list}
use Rattle.devnode_tree.specs.Trees.{Ascends}

-- the rest, and behind it the one that is taken off it
abbrev pub ahead : List ℕ → Option ℕ → List ℕ
ahead rest head = rest ++ option_to_list head

-- the serials ascend, and one is taken off as long as there is one
pub record IsAhead (rest : List ℕ) (head : Option ℕ) : Type 0 where
  pub in_order : Ascends 0 (ahead rest head)
  pub taken : IfNone head (rest ≡ [])
