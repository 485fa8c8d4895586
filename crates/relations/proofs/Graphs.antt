-- Who depends directly on whom, by the lists that the code goes through.
use Rattle.std.proofs.Common.{◌≡◌, ℕ, zero, suc, ◌+◌, ◌≤◌, ◌==◌, Bool, List, [], ◌∷◌, ◌++◌, length, map, take, drop, slice_get, Some, refl, sym, ap, ◌∙◌, arith, append-nil, add-one}
use Rattle.std.specs.List.{filter, sum_by}
use Rattle.std.proofs.Math.ListN.{drop_of_length-le}
use Rattle.pnp_model.specs.Keyed.{those}
use Rattle.pnp_model.specs.Records.{Node, Relation}
use Rattle.relations.specs.declared.edges.Edge.{Edge}
use Rattle.relations.specs.Edges.{SameSums, to_member, to_owner}
use Rattle.relations.specs.Leaving.{is_there, members_of, owners_of}
use Rattle.relations.proofs.Sums.{those_filter, filter_map, same_map, same_filter, same_append}

abbrev pub ends : List Edge → List ℕ
ends es = map (λ (e : Edge). e.to) es

-- The loops --------------------------------------------------------------------------

pub all_taken : (p : ℕ → Bool) (es : List Edge) (i : ℕ) (found all : List ℕ) → length es ≤ i → found ++ those p (ends (drop i es)) ≡ all → found ≡ all
all_taken p es i found all le h =
    let none : drop i es ≡ [] = drop_of_length-le es le in
    sym (append-nil found) ∙ (ap (λ (l : List Edge). found ++ those p (ends l)) (sym none) ∙ h)

pub every_taken : (es : List Edge) (i : ℕ) (found all : List ℕ) → length es ≤ i → found ++ ends (drop i es) ≡ all → found ≡ all
every_taken es i found all le h =
    let none : drop i es ≡ [] = drop_of_length-le es le in
    sym (append-nil found) ∙ (ap (λ (l : List Edge). found ++ ends l) (sym none) ∙ h)

-- What they find ---------------------------------------------------------------------

members_are : (k : ℕ) (rs : List Relation) → ends (filter (λ e. e.from == k) (map to_member rs)) ≡ members_of rs k
members_are k rs = ap ends (filter_map (λ e. e.from == k) to_member rs) ∙ (twice (filter (λ r. r.owner == k) rs) ∙ ap (map (λ (r : Relation). r.member)) (sym (those_filter (λ r. r.owner == k) rs)))
  where
    twice : (xs : List Relation) → ends (map to_member xs) ≡ map (λ (r : Relation). r.member) xs
    twice [] = refl
    twice (x ∷ xs) = ap (λ l. x.member ∷ l) (twice xs)

owners_are : (k : ℕ) (rs : List Relation) → ends (filter (λ e. e.from == k) (map to_owner rs)) ≡ owners_of rs k
owners_are k rs = ap ends (filter_map (λ e. e.from == k) to_owner rs) ∙ (twice (filter (λ r. r.member == k) rs) ∙ ap (map (λ (r : Relation). r.owner)) (sym (those_filter (λ r. r.member == k) rs)))
  where
    twice : (xs : List Relation) → ends (map to_owner xs) ≡ map (λ (r : Relation). r.owner) xs
    twice [] = refl
    twice (x ∷ xs) = ap (λ l. x.owner ∷ l) (twice xs)

same_those : (p : ℕ → Bool) (xs ys : List ℕ) → SameSums xs ys → SameSums (those p xs) (those p ys)
same_those p xs ys h f = ap (λ l. sum_by f l) (those_filter p xs) ∙ (same_filter p xs ys h f ∙ ap (λ l. sum_by f l) (sym (those_filter p ys)))

pub below_same : (nodes : List Node) (rs : List Relation) (k : ℕ) (kids : List ℕ) (es : List Edge) → SameSums es (filter (λ e. e.from == k) (map to_member rs))
    → SameSums (kids ++ those (is_there nodes) (ends es)) (kids ++ those (is_there nodes) (members_of rs k))
below_same nodes rs k kids es h =
    same_append kids (those (is_there nodes) (ends es)) (those (is_there nodes) (members_of rs k))
    (same_those (is_there nodes) (ends es) (members_of rs k)
    (λ f. same_map (λ (e : Edge). e.to) es (filter (λ e. e.from == k) (map to_member rs)) h f ∙ ap (λ l. sum_by f l) (members_are k rs)))

pub over_same : (rs : List Relation) (k : ℕ) (parents : List ℕ) (es : List Edge) → SameSums es (filter (λ e. e.from == k) (map to_owner rs))
    → SameSums (parents ++ ends es) (parents ++ owners_of rs k)
over_same rs k parents es h =
    same_append parents (ends es) (owners_of rs k)
    (λ f. same_map (λ (e : Edge). e.to) es (filter (λ e. e.from == k) (map to_owner rs)) h f ∙ ap (λ l. sum_by f l) (owners_are k rs))

-- Serials one after another --------------------------------------------------------------

pub take_next : (xs : List ℕ) (i x : ℕ) → slice_get xs i ≡ Some x → take (i + 1) xs ≡ take i xs ++ x ∷ []
take_next xs i x at = rw add-one (by xs i at)
  where
    by : (xs : List ℕ) (i : ℕ) → slice_get xs i ≡ Some x → take (suc i) xs ≡ take i xs ++ x ∷ []
    by [] i at = absurd (cc)
    by (y ∷ ys) zero at = let same : y ≡ x = grind arith in ap (λ n. n ∷ []) same
    by (y ∷ ys) (suc i) at = ap (λ l. y ∷ l) (by ys i at)
