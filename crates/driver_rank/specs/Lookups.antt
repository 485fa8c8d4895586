-- The IDs of a device as a function of folded texts.
use Rattle.std.specs.Prelude.{ℕ, ◌+◌, ◌*◌, ◌==◌, List, [], ◌∷◌, take, Bool, true, false, Option, Some, None, if◌then◌else◌}
use Rattle.std.specs.Option.{option_map}
use Rattle.std.specs.Str.{bytes_eq}
use Rattle.std.specs.HashMap.{get_by}
use Rattle.device_ids.specs.Folding.{folded}
use Rattle.driver_rank.specs.Best.{Given, given_from}
use Rattle.driver_rank.specs.declared.given.GivenIds.{GivenIds}
use Rattle.driver_rank.specs.declared.given.GivenIds.TheVariants.{Few, Mapped}
use Rattle.driver_rank.specs.declared.given.MappedIds.{MappedIds}

-- what the rank of a match with the first ID of a line adds to the score
abbrev pub base_at : Bool → ℕ → ℕ
base_at compatible at = (if compatible then 0x2000 else 0) + 8 * at

-- the first ID with a folded text, and else what f finds
abbrev pub base_with : (List ℕ → Option ℕ) → List Given → List ℕ → Option ℕ
base_with f [] q = f q
base_with f (g ∷ gs) q = if bytes_eq q (folded g.text) then Some (base_at g.compatible g.at) else base_with f gs q

abbrev pub base_of : List Given → List ℕ → Option ℕ
base_of gs = base_with (λ _. None) gs

abbrev pub base_mapped : MappedIds → List ℕ → Option ℕ
base_mapped ids q = get_by (λ k. bytes_eq q k.items) ids.bases

-- the first of a few IDs of one list
abbrev pub base_among : Bool → List (List ℕ) → List ℕ → Option ℕ
base_among compatible ids = base_of (given_from compatible 0 (take 4 ids))

abbrev pub base_found : GivenIds → List ℕ → Option ℕ
base_found (Few hw compat) q = base_with (base_among true compat.now) (given_from false 0 (take 4 hw.now)) q
base_found (Mapped ids) q = base_mapped ids q

-- the least rank at which the ID of a line matches
abbrev pub rank_from_base : ℕ → ℕ → ℕ → ℕ
rank_from_base score at b = score * 0x10000 + b + (if at == 0 then 0 else 0x1000) + at

abbrev pub id_rank : (List ℕ → Option ℕ) → ℕ → ℕ → List ℕ → Option ℕ
id_rank f score at [] = None
id_rank f score at (b ∷ id) = option_map (rank_from_base score at) (f (folded (b ∷ id)))
