-- Renaming: other paths, identifiers and names of drivers, one to one, and the output has them in their places; nothing else changes.
use Rattle.std.specs.Prelude.{◌≡◌, List, [], map, option_map}
use Rattle.pnp_labels.specs.Texts.{Text}
use Rattle.pnp_model.specs.Endings.{Held, Placed, map_rows, outstanding, print_order}
use Rattle.pnp_model.specs.Laws.{Reaches}
use Rattle.pnp_model.specs.Machine.{IsQuiet}
use Rattle.pnp_model.specs.Records.{Driver, Settings, State}
use Rattle.pnp_model.specs.Runs.{Entry}
use Rattle.pnp_promises.specs.Later.{NoneDeclined, happened}
use Rattle.pnp_pairs.specs.Renamed as renamed
use Rattle.pnp_pairs.specs.Renamed.{Renaming}

-- for the new identifiers the second INFs name what the first name for the old ones, under the new names
pub record ChooseAlike (r : Renaming) (settings other : Settings) : Type 0 where
  pub best : (hw compat : List Text) → other.best (map r.id hw) (map r.id compat) ≡ option_map (renamed.choice r) (settings.best hw compat)
  pub budget : other.budget ≡ settings.budget

-- Where all that happens is renamed, and the drivers and INFs are, the machine does and prints the same with the new words, is in the
-- renamed state, and rests where it did.
abbrev pub RenamingRenamesLaw : Type 0
RenamingRenamesLaw =
    (r : Renaming) (settings other : Settings) (rack : List Driver) (entries : List Entry) (s : State) → ChooseAlike r settings other
    → Reaches settings rack entries s
    → Reaches other (renamed.rack r rack) (map (renamed.entry r) entries) (renamed.state r s) × (IsQuiet settings s → IsQuiet other (renamed.state r s))

-- And it does nothing else: where what happened is what happened in another run, renamed, and both have come to rest, all that was done
-- and printed is what was done and printed there, renamed.
abbrev pub RenamingOnlyRenamesLaw : Type 0
RenamingOnlyRenamesLaw =
    (r : Renaming) (settings other : Settings) (rack : List Driver) (one two : List Entry) (s t : State) → ChooseAlike r settings other
    → Reaches settings rack one s → Reaches other (renamed.rack r rack) two t → NoneDeclined one → NoneDeclined two → IsQuiet settings s → IsQuiet other t
    → happened two ≡ map (renamed.event r) (happened one) → (two ≡ map (renamed.entry r) one) × (t ≡ renamed.state r s)

-- a row of the map but for the path of who holds it
abbrev pub unnamed : Held → Held
unnamed h = record h { words = [] }

-- The end of the output has the same rows, in the same order: the tree the renamed nodes at their depths, the map the same resources and
-- owners, and the same requests wait.
pub record EndsAlike (r : Renaming) (s : State) : Type 0 where
  pub tree : print_order (renamed.nodes r s.core.nodes) ≡ map (λ (p : Placed). record p { node = renamed.node r p.node }) (print_order s.core.nodes)
  pub rows : map unnamed (map_rows (renamed.core r s.core)) ≡ map unnamed (map_rows s.core)
  pub waits : outstanding (renamed.state r s) ≡ outstanding s

abbrev pub RenamedEndsAlikeLaw : Type 0
RenamedEndsAlikeLaw = (r : Renaming) (s : State) → EndsAlike r s
