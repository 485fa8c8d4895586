-- Maps of the crate as functions of the bytes of a key.
use Rattle.std.specs.Prelude.{ℕ, List, Option}
use Rattle.std.specs.BTreeMap.{BTreeMap, get_by}
use Rattle.std.specs.Cmp.Lexicographic.{slice_cmp}
use Rattle.std.specs.Ordering.{nat_cmp}
use Rattle.std.specs.declared.vec.Vec.{Vec}
use Rattle.std.specs.declared.alloc.Global.{Global}

abbrev pub by_key : {X : Type 0} → BTreeMap (Vec ℕ Global) X → List ℕ → Option X
by_key map key = get_by (λ k. slice_cmp nat_cmp key k.items) map
