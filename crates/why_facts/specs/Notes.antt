-- Lines of a note.
use Rattle.std.specs.Prelude.{List, [], ◌∷◌, ◌++◌}
use Rattle.pnp_labels.specs.Texts.{Text}

-- the lines that are over, and the one that is being written
pub record Noting : Type 0 where
  pub lines : List Text
  pub open_ : Text

abbrev pub nothing : Noting
nothing = record { lines = []; open_ = [] }

-- the line that is being written goes on
abbrev pub added : Text → Noting → Noting
added part n = record n { open_ = n.open_ ++ part }

-- it is over
abbrev pub ended : Noting → Noting
ended n = record { lines = n.lines ++ n.open_ ∷ []; open_ = [] }

-- it goes on with this and is over
abbrev pub said : Text → Noting → Noting
said part n = ended (added part n)
