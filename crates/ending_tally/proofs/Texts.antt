-- What is sorted: the lines of a part, and endings.
use Rattle.std.proofs.Common.{◌≡◌, ℕ, List, [], ◌∷◌, ◌++◌, map, refl, sym, ap, ◌∙◌, Bor}
use Rattle.std.specs.List.Sorted.{IsSorted, IsStable, IsSortedByKey, IsStableByKey, IsStrictlySortedBy}
use Rattle.std.specs.Ordering.{nat_cmp, is_lt}
use Rattle.std.specs.Cmp.{nat_cmp_total}
use Rattle.std.specs.Cmp.Lexicographic.{slice_cmp, nat_list_cmp_total}
use Rattle.std.specs.FinMap.{values}
use Rattle.std.specs.Map.{keys_of, values_of}
use Rattle.std.proofs.lemmas.List.{append-nil}
use Rattle.std.specs.declared.vec.Vec.{Vec}
use Rattle.std.specs.declared.alloc.Global.{Global}
use Rattle.std.proofs.lemmas.List.Sorted.{ranks_by}
use Rattle.ending_tally.specs.declared.tally.Ending.{Ending}
use Rattle.ending_tally.specs.Plain.{in_order, text_less}
use Rattle.ending_tally.specs.Tallies.{Ended}
use Rattle.ending_tally.specs.Steps.{ended, entry_of, earlier, by_first}
use Rattle.ending_tally.proofs.Sorting.{sorted_once, mapped_sorted}
use Rattle.ending_tally.proofs.Maps.{Kept, endings_of, entries_seen}

pub sorted_texts : (xs ys : List (Vec ℕ Global)) → IsSorted (λ (x y : Vec ℕ Global). slice_cmp nat_cmp x.items y.items) ys → IsStable (λ (x y : Vec ℕ Global). slice_cmp nat_cmp x.items y.items) xs ys
    → map (λ (v : Vec ℕ Global). v.items) ys ≡ in_order (map (λ (v : Vec ℕ Global). v.items) xs)
sorted_texts xs ys up stable =
    ap (map (λ (v : Vec ℕ Global). v.items)) (sorted_once (λ x y. is_lt (slice_cmp nat_cmp x.items y.items)) (ranks_by nat_list_cmp_total (λ (v : Vec ℕ Global). v.items)) xs ys up stable)
    ∙ mapped_sorted (λ (v : Vec ℕ Global). v.items) text_less xs

pub sorted_endings : (xs ys : List (Bor Ending)) → IsSortedByKey (λ (e : Bor Ending). e.now.mark.first) nat_cmp ys → IsStableByKey (λ (e : Bor Ending). e.now.mark.first) nat_cmp xs ys
    → map (λ (e : Bor Ending). ended e.now) ys ≡ by_first (map (λ (e : Bor Ending). ended e.now) xs)
sorted_endings xs ys up stable =
    ap (map (λ (e : Bor Ending). ended e.now)) (sorted_once (λ x y. is_lt (nat_cmp x.now.mark.first y.now.mark.first)) (ranks_by nat_cmp_total (λ (e : Bor Ending). e.now.mark.first)) xs ys up stable)
    ∙ mapped_sorted (λ (e : Bor Ending). ended e.now) earlier xs

pub map_twice : {A B C : Type 0} (g : B → C) (f : A → B) (xs : List A) → map g (map f xs) ≡ map (λ x. g (f x)) xs
map_twice g f [] = refl
map_twice g f (x ∷ xs) = ap (λ l. g (f x) ∷ l) (map_twice g f xs)

pub values_seen : (m : Kept) → IsStrictlySortedBy (λ (x y : Vec ℕ Global). slice_cmp nat_cmp x.items y.items) (keys_of m.entries) → values (endings_of m) ≡ map (λ e. ended e.1) m.entries
values_seen m up = ap (map (λ (e : List ℕ × Ended). e.1)) (entries_seen m up) ∙ map_twice (λ (e : List ℕ × Ended). e.1) entry_of m.entries

pub endings_done : (m : Kept) (all sorted : List (Bor Ending)) (left : List Ending) → left ≡ [] → IsStrictlySortedBy (λ (x y : Vec ℕ Global). slice_cmp nat_cmp x.items y.items) (keys_of m.entries)
    → map (λ (e : Bor Ending). e.now) all ++ left ≡ values_of m.entries
    → IsSortedByKey (λ (e : Bor Ending). e.now.mark.first) nat_cmp sorted → IsStableByKey (λ (e : Bor Ending). e.now.mark.first) nat_cmp all sorted
    → map (λ (e : Bor Ending). ended e.now) sorted ≡ by_first (values (endings_of m))
endings_done m all sorted left empty up are rises stable =
    let every : map (λ (e : Bor Ending). e.now) all ≡ values_of m.entries =
    sym (append-nil (map (λ (e : Bor Ending). e.now) all)) ∙ ap (λ l. map (λ (e : Bor Ending). e.now) all ++ l) (sym empty) ∙ are in
    sorted_endings all sorted rises stable
    ∙ ap by_first (sym (map_twice ended (λ (e : Bor Ending). e.now) all) ∙ ap (map ended) every ∙ map_twice ended (λ (e : Vec ℕ Global × Ending). e.1) m.entries ∙ sym (values_seen m up))
