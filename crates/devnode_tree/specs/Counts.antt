-- How many handles to each device are open, as entries of a map.
use Rattle.std.specs.Prelude.{ℕ, ◌==◌, ◌≤◌, All, List, Option, Some, None, cond, map}
use Rattle.std.specs.List.{find}
use Rattle.std.specs.Map.{values_of}
use Rattle.pnp_model.specs.Records.{Handle}
use Rattle.pnp_model.specs.Handles.{is_handle_of}

abbrev pub handle_of : ℕ × ℕ → Handle
handle_of e = record { serial = e.0; count = e.1 }

abbrev pub handles_of : List (ℕ × ℕ) → List Handle
handles_of entries = map handle_of entries

-- no device without an open handle is kept
abbrev pub AreOpen : List (ℕ × ℕ) → Type 0
AreOpen entries = All (λ n. 1 ≤ n) (values_of entries)

-- the handles of a device of which so many are open
abbrev pub handle_with : ℕ → ℕ → Option Handle
handle_with k n = cond (n == 0) None (Some (record { serial = k; count = n }))

abbrev pub counted : Option Handle → ℕ
counted None = 0
counted (Some h) = h.count

-- how many handles to a device are open
abbrev pub count_of : List Handle → ℕ → ℕ
count_of handles k = counted (find (is_handle_of k) handles)
