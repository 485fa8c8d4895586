-- Whatever keeps what is held, the search sees only what clashes with it: the lists of a board stand for one list.
use Rattle.std.proofs.Common.{◌≡◌, ℕ, ◌+◌, ◌≤◌, ◌⊎◌, inl, inr, List, [], ◌∷◌, ◌++◌, length, get_or, Contains, Option, Some, None, refl, sym, ap, ◌∙◌, subst, arith}
use Rattle.std.specs.Prelude.{IsPermutation}
use Rattle.std.specs.List.{AllByRecursion, flat_map}
use Rattle.std.proofs.lemmas.List.Elements.{All-contains, Contains-push, Contains-push_cases, Contains-append_left, Contains-get_or}
use Rattle.std.proofs.lemmas.List.Sorted.{IsPermutation-trans, IsPermutation-sym, IsPermutation-middle, IsPermutation-append_left, IsPermutation-append_right, IsPermutation-map, Contains-permutation, length_permutation}
use Rattle.resource_reqs.specs.declared.kind.Kind.{Kind}
use Rattle.resource_reqs.specs.Resources.{Res, Clash, Free, Group, AltList, Reqs, res_at}
use Rattle.resource_reqs.specs.Spelling.{Coord, alt, place, Place, res_of}
use Rattle.resource_reqs.proofs.Points.{all_weaker}
use Rattle.resource_reqs.proofs.Counts.{contains_cons}
use Rattle.range_arbiter.specs.Pairs.{Pair, pairs_with, res_list}
use Rattle.range_arbiter.proofs.PairLists.{with_permutation, with_once}
use Rattle.trial_journal.specs.ByKind.{Lists, of_kind, all_kinds}
use Rattle.trial_journal.proofs.EachKind.{kinds_either, with_there, with_other, same_each, before, after, split_with, split_own}
use Rattle.assign_search.specs.declared.spots.Child.{Child}
use Rattle.assign_search.specs.Walking.{OpenPick, HasOpen, AllOpen, HasOpenList, IsOpenCoord, IsChild, NoChild, coord_of, put_in, lists_holding, trial}
use Rattle.assign_search.proofs.Held.{held_of}
use Rattle.assign_search.proofs.Touching.{contains_later}

-- the same resources, in any order and number
abbrev pub SameSet : List Res → List Res → Type 0
SameSet a b = (r : Res) → (Contains a r → Contains b r) × (Contains b r → Contains a r)

free_by : (a : List Res) (r : Res) → ((other : Res) → Contains a other → Clash other r → ⊥) → Free a r
free_by a r h = λ k d within. h (get_or a k d) (Contains-get_or a k d within)

pub free_same : (a b : List Res) → SameSet a b → (r : Res) → Free a r → Free b r
free_same a b same r free = free_by b r (λ other inside. All-contains (λ x. ¬ Clash x r) a other free ((same other).1 inside))

-- a resource that is put anywhere among the others, and taken away again
pub same_put : (a a' b : List Res) (r : Res) → SameSet a b → ((x : Res) → (Contains a' x → Contains a x ⊎ (r ≡ x)) × ((Contains a x → Contains a' x) × Contains a' r)) → SameSet a' (b ++ r ∷ [])
same_put a a' b r same put x = (
  λ inside. elim ((put x).0 inside) [
    | inl h ↦ Contains-append_left b (r ∷ []) x ((same x).0 h)
    | inr e ↦ subst (Contains (b ++ r ∷ [])) e (Contains-push b r)
  ],
  λ inside. elim (Contains-push_cases b r x inside) [
    | inl h ↦ (put x).1.0 ((same x).1 h)
    | inr e ↦ subst (Contains a') e (put x).1.1
  ],
)

pub pick_same : (a b : List Res) → SameSet a b → (g : Group) (w s : ℕ) → OpenPick a g w s → OpenPick b g w s
pick_same a b same g w s (want, read, (may, free)) = (want, read, (may, free_same a b same (res_at want s) free))

pub open_same : (a b : List Res) → SameSet a b → (groups : List Group) (movers : List Reqs) (c : Coord) → IsOpenCoord a groups movers c → IsOpenCoord b groups movers c
open_same a b same [] movers (alt i) h = h
open_same a b same [] movers (place w s) h = h
open_same a b same (g ∷ groups) movers (alt i) h = h
open_same a b same (g ∷ groups) movers (place w s) h = pick_same a b same g w s h

pub same_back : (a b : List Res) → SameSet a b → SameSet b a
same_back a b same r = ((same r).1, (same r).0)

pub child_same : (a b : List Res) → SameSet a b → (all : List Reqs) (groups : List Group) (movers : List Reqs) (from : Coord) (child : Child)
    → IsChild a all groups movers from child → IsChild b all groups movers from child
child_same a b same all groups movers from child is = record {
  is_open = open_same a b same groups movers (coord_of child.step) is.is_open;
  after = is.after;
  least = λ x above below h. is.least x above below (open_same b a (same_back a b same) groups movers x h);
  goes = is.goes;
  spot = is.spot;
  next = is.next;
}

pub no_child_same : (a b : List Res) → SameSet a b → (groups : List Group) (movers : List Reqs) (from : Coord) → NoChild a groups movers from → NoChild b groups movers from
no_child_same a b same groups movers from none x above h = none x above (open_same b a (same_back a b same) groups movers x h)

pub all_open_same : (a b : List Res) → SameSet a b → (list : AltList) → AllOpen a list → AllOpen b list
all_open_same a b same list h = all_weaker (HasOpen a) (HasOpen b) (λ g (w, s, picked). (w, s, pick_same a b same g w s picked)) list h

pub lists_same : (a b : List Res) → SameSet a b → (movers : List Reqs) → AllByRecursion (HasOpenList a) movers → AllByRecursion (HasOpenList b) movers
lists_same a b same movers h = all_weaker (HasOpenList a) (HasOpenList b) (λ reqs k. one reqs k) movers h
  where
    one : (reqs : Reqs) → HasOpenList a reqs → HasOpenList b reqs
    one reqs (inl e) = inl e
    one reqs (inr (k, list, read, each)) = inr (k, list, read, all_open_same a b same list each)

-- the resources of all the lists
abbrev pub lists_res : Lists → List Res
lists_res l = res_list (all_kinds l)

-- the lists with these placed
abbrev pub board_of : Lists → List Place → Lists
board_of base [] = base
board_of base (p ∷ placed) = lists_holding (board_of base placed) (Some (res_of p))

-- the pairs after a put are the pair and those before
in_part : (b xs a : List Pair) (p : Pair) → IsPermutation (p ∷ (b ++ (xs ++ a))) (b ++ (pairs_with xs p ++ a))
in_part b xs a p =
    IsPermutation-trans (p ∷ (b ++ (xs ++ a))) (b ++ p ∷ (xs ++ a)) (b ++ (pairs_with xs p ++ a))
    (IsPermutation-sym (b ++ p ∷ (xs ++ a)) (p ∷ (b ++ (xs ++ a))) (IsPermutation-middle b p (xs ++ a)))
    (IsPermutation-append_right b (p ∷ (xs ++ a)) (pairs_with xs p ++ a) (IsPermutation-append_left a (p ∷ xs) (pairs_with xs p) (with_permutation xs p)))

pub put_permutation : (l : Lists) (kind : Kind) (p : Pair) → IsPermutation (p ∷ all_kinds l) (all_kinds (put_in l kind p))
put_permutation l kind p =
    let here = in_part (flat_map (of_kind l) (before kind)) (of_kind l kind) (flat_map (of_kind l) (after kind)) p in
    subst (λ ps. IsPermutation (p ∷ ps) (all_kinds (put_in l kind p))) (sym (split_own l kind))
    (subst (IsPermutation (p ∷ (flat_map (of_kind l) (before kind) ++ (of_kind l kind ++ flat_map (of_kind l) (after kind))))) (sym (split_with l kind (pairs_with (of_kind l kind) p))) here)

pub length-put_in : (l : Lists) (kind : Kind) (p : Pair) → length (all_kinds (put_in l kind p)) ≡ length (all_kinds l) + 1
length-put_in l kind p = let same = length_permutation (p ∷ all_kinds l) (all_kinds (put_in l kind p)) (put_permutation l kind p) in omega arith

pub length-holding : (l : Lists) (o : Option Res) → (length (all_kinds l) ≤ length (all_kinds (lists_holding l o))) × (length (all_kinds (lists_holding l o)) ≤ length (all_kinds l) + 1)
length-holding l None = (omega arith, omega arith)
length-holding l (Some r) = let more = length-put_in l r.kind (trial, r) in (omega arith, omega arith)

-- what a resource that is put in adds
pub put_adds : (l : Lists) (r : Res) (x : Res) → (Contains (lists_res (lists_holding l (Some r))) x → Contains (lists_res l) x ⊎ (r ≡ x))
    × ((Contains (lists_res l) x → Contains (lists_res (lists_holding l (Some r))) x) × Contains (lists_res (lists_holding l (Some r))) r)
put_adds l r x =
    let p : Pair = (trial, r) in
    let moved : IsPermutation (r ∷ lists_res l) (lists_res (put_in l r.kind p)) =
    IsPermutation-map (λ (q : Pair). q.1) (p ∷ all_kinds l) (all_kinds (put_in l r.kind p)) (put_permutation l r.kind p) in (
      λ inside. elim (contains_cons r (lists_res l) x (Contains-permutation (lists_res (put_in l r.kind p)) (r ∷ lists_res l) x
          (IsPermutation-sym (r ∷ lists_res l) (lists_res (put_in l r.kind p)) moved) inside)) [
            | inl e ↦ inr (sym e)
            | inr h ↦ inl h
          ],
      (
        λ inside. Contains-permutation (r ∷ lists_res l) (lists_res (put_in l r.kind p)) x moved (contains_later r (lists_res l) x inside),
        Contains-permutation (r ∷ lists_res l) (lists_res (put_in l r.kind p)) r moved (0, omega arith, refl),
      ),
    )

-- the lists of a board hold what is fixed and placed
pub board_same : (base : Lists) (fixed : List Res) (placed : List Place) → SameSet (lists_res base) fixed → SameSet (lists_res (board_of base placed)) (held_of fixed placed)
board_same base fixed [] same = same
board_same base fixed (p ∷ placed) same =
    same_put (lists_res (board_of base placed)) (lists_res (board_of base (p ∷ placed))) (held_of fixed placed) (res_of p)
    (board_same base fixed placed same) (put_adds (board_of base placed) (res_of p))

-- a pair stands in the list of its kind once it is put in
pub put_there : (l : Lists) (kind : Kind) (p : Pair) → Contains (of_kind (put_in l kind p) kind) p
put_there l kind p =
    subst (λ ps. Contains ps p) (sym (with_there l kind (pairs_with (of_kind l kind) p)))
    (Contains-permutation (p ∷ of_kind l kind) (pairs_with (of_kind l kind) p) p (with_permutation (of_kind l kind) p) (0, omega arith, refl))

-- what was put in and is taken away leaves the lists as they were
pub put_once : (l m : Lists) (kind : Kind) (p : Pair) → put_in l kind p ≡ put_in m kind p → l ≡ m
put_once l m kind p e = same_each l m (λ k. elim (kinds_either kind k) [
  | inl same ↦ subst (λ i. of_kind l i ≡ of_kind m i) same own
  | inr (apart, other) ↦ sym (with_other l kind k (pairs_with (of_kind l kind) p) other) ∙ at k ∙ with_other m kind k (pairs_with (of_kind m kind) p) other
])
  where
    at : (k : Kind) → of_kind (put_in l kind p) k ≡ of_kind (put_in m kind p) k
    at k = ap (λ (x : Lists). of_kind x k) e

    own : of_kind l kind ≡ of_kind m kind
    own = with_once (of_kind l kind) (of_kind m kind) p (sym (with_there l kind (pairs_with (of_kind l kind) p)) ∙ at kind ∙ with_there m kind (pairs_with (of_kind m kind) p))

pub holding_once : (l m : Lists) (o : Option Res) → lists_holding l o ≡ lists_holding m o → l ≡ m
holding_once l m None e = e
holding_once l m (Some r) e = put_once l m r.kind (trial, r) e

-- how many pairs there are after a release, and after a put
pub fewer : (l m : Lists) (o : Option Res) (n : ℕ) → lists_holding l o ≡ m → length (all_kinds m) ≤ n → length (all_kinds l) ≤ n
fewer l m o n is few =
    let longer = length-holding l o in
    let same : length (all_kinds (lists_holding l o)) ≡ length (all_kinds m) = ap (λ x. length (all_kinds x)) is in
    omega arith

pub more : (l m : Lists) (o : Option Res) (n count : ℕ) → m ≡ lists_holding l o → length (all_kinds l) ≤ n + count → length (all_kinds m) ≤ n + (count + 1)
more l m o n count is few =
    let longer = length-holding l o in
    let same : length (all_kinds m) ≡ length (all_kinds (lists_holding l o)) = ap (λ x. length (all_kinds x)) is in
    omega arith
