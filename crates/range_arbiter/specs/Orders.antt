-- Lists of pairs in order, and of one kind. No public contract cites this.
use Rattle.std.specs.Prelude.{◌≡◌, ◌⊎◌, false, List, [], ◌∷◌}
use Rattle.resource_reqs.specs.declared.kind.Kind.{Kind}
use Rattle.range_arbiter.specs.Pairs.{Pair, is_before}

-- one of these
abbrev pub In : Pair → List Pair → Type 0
In p [] = ⊥
In p (q ∷ qs) = (p ≡ q) ⊎ In p qs

-- no pair comes before an earlier one
abbrev pub IsOrdered : List Pair → Type 0
IsOrdered [] = Unit {0}
IsOrdered (p ∷ ps) = ((q : Pair) → In q ps → is_before q p ≡ false) × IsOrdered ps

abbrev pub AreOfKind : Kind → List Pair → Type 0
AreOfKind kind pairs = (p : Pair) → In p pairs → p.1.kind ≡ kind
