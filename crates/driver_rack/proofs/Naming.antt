-- The index of names: what a search in it finds, and what one more name makes of it.
use Rattle.std.proofs.Common.{◌≡◌, ℕ, zero, suc, ◌<◌, ◌≤◌, Bool, true, false, List, [], ◌∷◌, length, replicate, Option, Some, None, Err, refl, ap, sym, subst, ◌∙◌, arith, get_or, set, slice_get, slice_set, position, insert, cond, true≢false, length-set}
use Rattle.std.specs.List.{position_or_len, list_any, All, HoldsAt}
use Rattle.std.specs.List.Sorted.{IsNonDecreasingBy, IsPartitionPoint, IsBinarySearchResult}
use Rattle.std.specs.Ordering.{nat_cmp, ordering_index, ordering_reverse}
use Rattle.std.specs.declared.cmp.Ordering.{Ordering}
use Rattle.std.specs.declared.cmp.Ordering.TheVariants.{Less, Equal, Greater}
use Rattle.std.specs.Cmp.Lexicographic.{slice_cmp}
use Rattle.std.specs.Cmp.{IsTotalOrder}
use Rattle.std.specs.Str.{bytes_eq}
use Rattle.std.proofs.lemmas.Cmp.{on_total, nat_list_cmp_total, tied_itself, alike_right}
use Rattle.std.proofs.lemmas.Slice.Eq.{bytes_eq-Decides}
use Rattle.std.proofs.lemmas.Grind.{common_steps}
use Rattle.std.proofs.lemmas.Bool.Decides.{nat_tests}
use Rattle.std.proofs.lemmas.List.Sorted.{IsNonDecreasingBy-insert, IsPermutation-insert, All-permutation, list_any-IsPermutation}
use Rattle.std.proofs.lemmas.List.Elements.{All-cons}
use Rattle.std.proofs.lemmas.Option.{slice_get_past}
use Rattle.std.proofs.lemmas.List.{get_or_default}
use Rattle.device_ids.specs.Folding.{folded, same}
use Rattle.pnp_labels.specs.Texts.{Text}
use Rattle.pnp_model.specs.Books.{name_is}
use Rattle.driver_rack.specs.Naming.{Entry, folded_cmp, IsInOrder, IsTrueOf, IsWhole, IsIndexed}

total : IsTotalOrder folded_cmp
total = on_total folded nat_list_cmp_total

-- the order and the test agree
byte_tie : (x y : ℕ) → nat_cmp x y ≡ Equal → x ≡ y
byte_tie x y e = grind (arith, nat_tests)

ties : (a b : List ℕ) → slice_cmp nat_cmp a b ≡ Equal → a ≡ b
ties [] [] e = refl
ties [] (y ∷ ys) e = grind (arith, nat_tests)
ties (x ∷ xs) [] e = grind (arith, nat_tests)
ties (x ∷ xs) (y ∷ ys) e = grind (arith, nat_tests, byte_tie x y, ties xs ys)

-- a driver has one of two names that are the same where it has the other
name_is-same : (a b : Text) (name : Option Text) → folded a ≡ folded b → name_is a name ≡ name_is b name
name_is-same a b None e = refl
name_is-same a b (Some own) e = ap (λ (t : Text). bytes_eq (folded own) t) e

length-position : {A : Type 0} (p : A → Bool) (xs : List A) → position_or_len p xs ≤ length xs
length-position p [] = omega arith
length-position p (x ∷ xs) = grind (arith, common_steps, length-position p xs)

position_or_len-alike : {A : Type 0} (p q : A → Bool) → ((x : A) → p x ≡ q x) → (xs : List A) → position_or_len p xs ≡ position_or_len q xs
position_or_len-alike p q alike [] = refl
position_or_len-alike p q alike (x ∷ xs) = grind (arith, common_steps, alike x, position_or_len-alike p q alike xs)

position-same : (a b : Text) (names : List (Option Text)) → folded a ≡ folded b → position (name_is a) names ≡ position (name_is b) names
position-same a b names e = rw (position_or_len-alike (name_is a) (name_is b) (λ x. name_is-same a b x e) names) refl

same-refl : (a b : Text) → folded a ≡ folded b → same a b ≡ true
same-refl a b e = grind (arith, bytes_eq-Decides (folded a) (folded b))

same-folded : (a b : Text) → same a b ≡ true → folded a ≡ folded b
same-folded a b e = grind (arith, bytes_eq-Decides (folded a) (folded b))

some_none : (k : ℕ) → Some k ≡ None → ⊥
some_none k bad = absurd (cc)

none_unless : (o : Option ℕ) → ((k : ℕ) → o ≡ Some k → ⊥) → o ≡ None
none_unless None h = refl
none_unless (Some k) h = absurd (h k refl)

no_member : {A : Type 0} (p : A → Bool) (xs : List A) → All (λ x. p x ≡ false) xs → list_any p xs ≡ false
no_member p [] all = refl
no_member p (x ∷ xs) all = grind (arith, all 0 x (omega arith), no_member p xs (λ k d within. all (suc k) d (omega arith)))

-- no names, no entries
no_name : (name : Text) (n : ℕ) → position_or_len (name_is name) (replicate n None) ≡ n
no_name name zero = refl
no_name name (suc n) = grind (arith, common_steps, no_name name n)

pub none_indexed : (names : List (Option Text)) (n : ℕ) (entries : List Entry) → names ≡ replicate n None → entries ≡ [] → IsIndexed names entries
none_indexed names n entries all e = rw (all, e) (record {
  ordered = λ name i j d le within. absurd (omega arith);
  sound = λ k d within. absurd (omega arith);
  whole = λ name k found. absurd (grind (arith, nat_tests, common_steps, no_name name n));
})

parted_in : (entries : List Entry) (name : Text) (at : ℕ) → IsNonDecreasingBy (λ e. ordering_index (folded_cmp e.0 name)) entries → (lent : List Entry) → lent ≡ entries
    → IsBinarySearchResult (λ e. folded_cmp e.0 name) lent (Err at) → IsPartitionPoint (λ e. folded_cmp e.0 name ≡ Less) (λ e. folded_cmp e.0 name ≡ Greater) entries at
parted_in entries name at ordered lent is place = subst (λ (l : List Entry). IsBinarySearchResult (λ e. folded_cmp e.0 name) l (Err at)) is place ordered

module _ (names : List (Option Text)) (entries : List Entry) (indexed : IsIndexed names entries) (name : Text) (at : ℕ) where
  -- the entry that a search finds is the name's
  pub found : (lent : List Entry) → lent ≡ entries → at < length lent → HoldsAt (λ e. folded_cmp e.0 name ≡ Equal) lent at → (e : Entry) → e ≡ get_or entries at e
      → Some e.1 ≡ position (name_is name) names
  found lent is lent_within lent_holds e read =
      let within : at < length entries = rw (← is) lent_within in
      let holds : HoldsAt (λ e. folded_cmp e.0 name ≡ Equal) entries at = rw (← is) lent_holds in
      let tie : folded e.0 ≡ folded name = ties (folded e.0) (folded name) (rw read (holds e)) in
      let own : position (name_is e.0) names ≡ Some e.1 = rw read (indexed.sound at e within) in
      sym own ∙ position-same e.0 name names tie

  pub not_fresh : (lent : List Entry) → lent ≡ entries → at < length lent → HoldsAt (λ e. folded_cmp e.0 name ≡ Equal) lent at → position (name_is name) names ≡ None → ⊥
  not_fresh lent is within holds fresh =
      let e = get_or entries at ([], 0) in
      let within_entries : at < length entries = rw (← is) within in
      let here = found lent is within holds e (get_or_default entries at ([], 0) e within_entries) in
      let bad : Some e.1 ≡ None = here ∙ fresh in
      absurd (some_none e.1 bad)

  apart : IsPartitionPoint (λ e. folded_cmp e.0 name ≡ Less) (λ e. folded_cmp e.0 name ≡ Greater) entries at → All (λ e. same e.0 name ≡ false) entries
  apart parted k d within =
      let e = get_or entries k d in
      let equal : same e.0 name ≡ true → folded_cmp e.0 name ≡ Equal = λ h. ap (λ (t : Text). slice_cmp nat_cmp (folded e.0) t) (sym (same-folded e.0 name h)) ∙ tied_itself nat_list_cmp_total (folded e.0) in
      grind (arith, parted.0 k d, parted.1 k d)

  -- where it finds none, no driver has the name
  nowhere_in : IsPartitionPoint (λ e. folded_cmp e.0 name ≡ Less) (λ e. folded_cmp e.0 name ≡ Greater) entries at → None ≡ position (name_is name) names
  nowhere_in parted =
      let none = no_member (λ e. same e.0 name) entries (apart parted) in
      sym (none_unless (position (name_is name) names) (λ k h. true≢false (sym (indexed.whole name k h) ∙ none)))

  pub absent : (lent : List Entry) → lent ≡ entries → IsBinarySearchResult (λ e. folded_cmp e.0 name) lent (Err at) → None ≡ position (name_is name) names
  absent lent is place = nowhere_in (parted_in entries name at (indexed.ordered name) lent is place)

by_bool : (b : Bool) (G : Type 0) → (b ≡ true → G) → (b ≡ false → G) → G
by_bool true G at_true at_false = at_true refl
by_bool false G at_true at_false = at_false refl

false_unless : (b : Bool) → (b ≡ true → ⊥) → b ≡ false
false_unless true h = absurd (h refl)
false_unless false h = refl

-- what comes before another does so at any third
rises : (a b other : Text) → folded_cmp a b ≡ Less → ordering_index (folded_cmp a other) ≤ ordering_index (folded_cmp b other)
rises a b other less = by_ordering (folded_cmp b other)
    (λ h. let first : folded_cmp a other ≡ Less = total.trans a b other less h in rw (first, h) (omega arith))
    (λ h. let first : folded_cmp a other ≡ Less = sym (alike_right total b other a h) ∙ less in rw (first, h) (omega arith))
    (λ h. rw h (at_most (folded_cmp a other)))
  where
    by_ordering : {G : Type 0} (o : Ordering) → (o ≡ Less → G) → (o ≡ Equal → G) → (o ≡ Greater → G) → G
    by_ordering Less x y z = x refl
    by_ordering Equal x y z = y refl
    by_ordering Greater x y z = z refl

    at_most : (o : Ordering) → ordering_index o ≤ ordering_index Greater
    at_most Less = omega arith
    at_most Equal = omega arith
    at_most Greater = omega arith

-- one more name
set_named : (name other : Text) (names : List (Option Text)) (k : ℕ) → slice_get names k ≡ Some None → position_or_len (name_is name) names ≡ length names
    → position_or_len (name_is other) (set names k (Some name)) ≡ cond (same name other) k (position_or_len (name_is other) names)
set_named name other [] k was none = absurd (let bad : None ≡ Some None = was in cc)
set_named name other (n ∷ ns) zero was none =
    let free : n ≡ None = cc in
    grind (arith, common_steps, free)
set_named name other (n ∷ ns) (suc k) was none =
    let alike : same name other ≡ true → name_is name n ≡ name_is other n = λ h. name_is-same name other n (same-folded name other h) in
    grind (arith, common_steps, alike, set_named name other ns k was)

module _ (names : List (Option Text)) (name : Text) (k : ℕ) (was : slice_get names k ≡ Some None) (fresh : position (name_is name) names ≡ None) where
  nowhere : position_or_len (name_is name) names ≡ length names
  nowhere = grind (arith, nat_tests, length-position (name_is name) names)

  length_set : length (set names k (Some name)) ≡ length names
  length_set = length-set names k (Some name)

  inside : k < length names
  inside = grind (arith, slice_get_past names k)

  position-new : (other : Text) → same name other ≡ true → position (name_is other) (set names k (Some name)) ≡ Some k
  position-new other h = grind (arith, nat_tests, set_named name other names k was nowhere, length_set, inside)

  position-old : (other : Text) → same name other ≡ false → position (name_is other) (set names k (Some name)) ≡ position (name_is other) names
  position-old other h = grind (arith, nat_tests, set_named name other names k was nowhere, length_set)

  other_than : (e : Entry) → position (name_is e.0) names ≡ Some e.1 → same name e.0 ≡ false
  other_than e own = false_unless (same name e.0) (λ h. let none = position-same name e.0 names (same-folded name e.0 h) in grind (arith, none, own, fresh))

  module _ (entries : List Entry) (at : ℕ) (indexed : IsIndexed names entries) where
    sound_more : IsTrueOf (set names k (Some name)) (insert entries at (name, k))
    sound_more =
        let is_true = λ (e : Entry). position (name_is e.0) (set names k (Some name)) ≡ Some e.1 in
        let old : All (λ e. position (name_is e.0) (set names k (Some name)) ≡ Some e.1) entries =
        λ i d within. let e = get_or entries i d in position-old e.0 (other_than e (indexed.sound i d within)) ∙ indexed.sound i d within in
        All-permutation is_true ((name, k) ∷ entries) (insert entries at (name, k)) (IsPermutation-insert entries at (name, k)) (All-cons is_true (name, k) entries (position-new name (same-refl name name refl)) old)

    whole_more : IsWhole (set names k (Some name)) (insert entries at (name, k))
    whole_more other j h =
        let moved = list_any-IsPermutation (λ e. same e.0 other) ((name, k) ∷ entries) (insert entries at (name, k)) (IsPermutation-insert entries at (name, k)) in
        let any : list_any (λ e. same e.0 other) ((name, k) ∷ entries) ≡ true = by_bool (same name other) _
        (λ is. grind (arith, is)) (λ not_it. grind (arith, not_it, indexed.whole other j (sym (position-old other not_it) ∙ h))) in
        sym moved ∙ any

    ordered_more : at ≤ length entries → IsPartitionPoint (λ e. folded_cmp e.0 name ≡ Less) (λ e. folded_cmp e.0 name ≡ Greater) entries at → IsInOrder (insert entries at (name, k))
    ordered_more within parted other =
        IsNonDecreasingBy-insert (λ e. ordering_index (folded_cmp e.0 other)) entries at (name, k) (indexed.ordered other) within
        (λ i d lt. rises (get_or entries i d).0 name other (parted.0 i d (omega arith) lt))
        (λ i d le lt. rises name (get_or entries i d).0 other (total.antisymm name (get_or entries i d).0 ∙ ap ordering_reverse (parted.1 i d le lt)))

    pub indexed_more : (new_names : List (Option Text)) (new_entries lent : List Entry) → new_names ≡ slice_set names k (Some name) → new_entries ≡ insert entries at (name, k) → lent ≡ entries
        → at ≤ length lent → IsBinarySearchResult (λ e. folded_cmp e.0 name) lent (Err at) → IsIndexed new_names new_entries
    indexed_more new_names new_entries lent names_are entries_are is within place =
        let parted = parted_in entries name at (indexed.ordered name) lent is place in
        rw (names_are, entries_are) (record { ordered = ordered_more (rw (← is) within) parted; sound = sound_more; whole = whole_more })
