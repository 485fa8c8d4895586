-- Files and a sink in memory: what they hold, which calls fail, and what a call leaves.
use Rattle.std.specs.Prelude.{◌-◌, ◌==◌, ◌&&◌, ◌||◌, nat_lt, ℕ, min, Bool, List, [], ◌∷◌, ◌++◌, length, take, Option, option_map, unwrap_or, is_none, if◌then◌else◌}
use Rattle.std.specs.Str.{bytes_eq}
use Rattle.std.specs.List.{list_any, find}
use Rattle.pnp_io.specs.Outside.{raised}

-- names with their bytes, the numbers of the reads that fail, the numbers of those that are short with the most that they give,
-- and how many reads were made and how many failed
pub record HeldFiles : Type 0 where
  pub files : List (List ℕ × List ℕ)
  pub listed : List ℕ
  pub short : List (ℕ × ℕ)
  pub calls : ℕ
  pub faults : ℕ

-- the bytes taken, the most that are taken, the numbers of the writes that fail, the numbers of those that are short with the
-- most that they take, and how many writes were made and how many failed
pub record HeldSink : Type 0 where
  pub taken : List ℕ
  pub room : ℕ
  pub listed : List ℕ
  pub short : List (ℕ × ℕ)
  pub calls : ℕ
  pub faults : ℕ

-- the number of the next call, counted from 1, is listed
abbrev pub is_next_listed : List ℕ → ℕ → Bool
is_next_listed listed calls = list_any (λ call. call == raised calls) listed

-- how many of n bytes the call of this number moves: at most as many as are listed for it, by the first pair of its number
abbrev pub moved : List (ℕ × ℕ) → ℕ → ℕ → ℕ
moved short call n = unwrap_or (option_map (λ pair. min n pair.1) (find (λ pair. pair.0 == call) short)) n

-- the bytes of a name
abbrev pub file_in : List (List ℕ × List ℕ) → List ℕ → Option (List ℕ)
file_in files name = option_map (λ file. file.1) (find (λ file. bytes_eq file.0 name) files)

-- the files with these bytes for a name: in the place of those that the name had, or else at the end
abbrev pub with_file : List ℕ → List ℕ → List (List ℕ × List ℕ) → List (List ℕ × List ℕ)
with_file name bytes [] = (name, bytes) ∷ []
with_file name bytes (file ∷ files) = if bytes_eq file.0 name then (name, bytes) ∷ files else file ∷ with_file name bytes files

-- the next read fails: it is listed, or there is no file of the name
abbrev pub read_fails : HeldFiles → List ℕ → Bool
read_fails held name = is_next_listed held.listed held.calls || is_none (file_in held.files name)

-- after a read one more is counted, and where it failed one more fault
abbrev pub after_read : HeldFiles → List ℕ → HeldFiles
after_read held name = record held { calls = raised held.calls; faults = if read_fails held name then raised held.faults else held.faults }

-- how many bytes a sink still takes
abbrev pub room_left : HeldSink → ℕ
room_left held = held.room - length held.taken

-- the next write fails: it is listed, or the piece is not empty and the room is used up
abbrev pub write_fails : HeldSink → List ℕ → Bool
write_fails held piece = is_next_listed held.listed held.calls || (room_left held == 0 && nat_lt 0 (length piece))

-- how many bytes of the piece the next write takes: as many as fit, and no more than are listed
abbrev pub written : HeldSink → List ℕ → ℕ
written held piece = moved held.short (raised held.calls) (min (length piece) (room_left held))

-- after a write one more is counted, and so many bytes of the piece were taken, or where it failed none and one more fault is
-- counted
abbrev pub after_write : HeldSink → List ℕ → HeldSink
after_write held piece = record held {
  taken = if write_fails held piece then held.taken else held.taken ++ take (written held piece) piece;
  calls = raised held.calls;
  faults = if write_fails held piece then raised held.faults else held.faults;
}
