-- What a resource that comes to what is held leaves open.
use Rattle.std.proofs.Common.{ℕ, suc, inl, inr, List, ◌∷◌, get_or, Contains, sym, subst, arith}
use Rattle.std.proofs.lemmas.List.Elements.{All-contains, Contains-get_or}
use Rattle.resource_reqs.specs.Resources.{Res, Want, Clash, Free, May, IsOpen, Group, res_at}
use Rattle.resource_reqs.proofs.Points.{contains_read}
use Rattle.assign_search.specs.Walking.{HasOpen, Touches, TouchesGroup, Adds}

pub free_from : (held : List Res) (r : Res) → ((other : Res) → Contains held other → Clash other r → ⊥) → Free held r
free_from held r h = λ k d within. h (get_or held k d) (Contains-get_or held k d within)

-- a resource that clashes at a place of the want touches the want
touched : (want : Want) (res : Res) (s : ℕ) → May want (res_at want s) → Clash res (res_at want s) → Touches want res
touched want res s (kinds, shares, low, high, long, aligned) (same, (n, lo, hi, from, to), apart) =
    (same, apart, omega arith, omega arith)

untouched_place : (before held : List Res) (want : Want) (res : Res) (s : ℕ) → Adds before res held → (Touches want res → ⊥) → IsOpen before want s → IsOpen held want s
untouched_place before held want res s adds off (may, free) = (
  may,
  free_from held (res_at want s) (λ other inside clash. elim (adds other inside) [
    | inl old ↦ All-contains (λ x. ¬ Clash x (res_at want s)) before other free old clash
    | inr new ↦ off (touched want res s may (subst (λ x. Clash x (res_at want s)) (sym new) clash))
  ]),
)

pub untouched_group : (before held : List Res) (res : Res) (g : Group) → Adds before res held → (TouchesGroup g res → ⊥) → HasOpen before g → HasOpen held g
untouched_group before held res g adds off (w, s, (want, read, open_)) =
    (w, s, (want, read, untouched_place before held want res s adds (λ t. off (want, contains_read g w want read, t)) open_))

pub contains_later : {X : Type 0} (x : X) (xs : List X) (y : X) → Contains xs y → Contains (x ∷ xs) y
contains_later x xs y (k, within, is) = (suc k, omega arith, is)
