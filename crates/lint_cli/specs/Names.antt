-- Names that are looked up in any letters.
use Rattle.std.specs.Prelude.{◌≡◌, ℕ, List, Option}
use Rattle.std.specs.Option.{is_some}
use Rattle.std.specs.List.{list_any}
use Rattle.std.specs.BTreeMap.{BTreeMap, get_by}
use Rattle.std.specs.Cmp.Lexicographic.{slice_cmp}
use Rattle.std.specs.Ordering.{nat_cmp}
use Rattle.std.specs.Str.{bytes_eq}
use Rattle.std.specs.declared.vec.Vec.{Vec}
use Rattle.std.specs.declared.alloc.Global.{Global}
use Rattle.device_ids.specs.Folding.{folded}
use Rattle.pnp_labels.specs.Texts.{Text}

-- what a map has under the bytes of a key
abbrev pub by_key : {X : Type 0} → BTreeMap (Vec ℕ Global) X → List ℕ → Option X
by_key map key = get_by (λ k. slice_cmp nat_cmp key k.items) map

-- the map has just the folded names as its keys
abbrev pub IsIndexOf : {X : Type 0} → BTreeMap (Vec ℕ Global) X → List Text → Type 0
IsIndexOf index names = (q : List ℕ) → is_some (by_key index q) ≡ list_any (λ known. bytes_eq q (folded known)) names
