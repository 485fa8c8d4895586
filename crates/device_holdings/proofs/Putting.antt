-- Pairs that are put into the lists: in any order they give the same lists.
use Rattle.std.proofs.Common.{◌≡◌, ℕ, zero, suc, ◌≤◌, ◌+◌, List, [], ◌∷◌, ◌++◌, take, drop, length, slice_get, Some, Contains, cond, refl, sym, ap, ◌∙◌, subst, arith}
use Rattle.std.specs.Prelude.{IsPermutation}
use Rattle.std.proofs.lemmas.List.{append_assoc}
use Rattle.std.proofs.lemmas.List.Sums.{sum_by-cons, sum_by_push}
use Rattle.std.proofs.lemmas.List.Sorted.{IsPermutation-refl, IsPermutation-cons, IsPermutation-trans}
use Rattle.resource_reqs.specs.declared.kind.Kind.{Kind}
use Rattle.resource_reqs.specs.declared.kind.Kind.TheVariants.{Port, Irq, Mem, Dma, Bus}
use Rattle.resource_reqs.specs.declared.owner.Owner.{Owner}
use Rattle.resource_reqs.specs.Resources.{Res, same_kind}
use Rattle.range_arbiter.specs.Pairs.{Pair, Arbiter, pairs_with}
use Rattle.range_arbiter.proofs.PairLists.{with_swapped, length-pairs_with}
use Rattle.trial_journal.specs.ByKind.{ByKind, Arbiters, Lists, all_kinds, lists_of, of_kind, with_kind, arbiter_with, arbiters_with}
use Rattle.trial_journal.proofs.EachKind.{at_each}
use Rattle.trial_journal.proofs.KindsApart.{pairs_at}
use Rattle.assign_search.specs.Walking.{put_in}
use Rattle.assign_search.proofs.SameHeld.{put_permutation, put_once, put_there}
use Rattle.device_holdings.specs.Mirrors.{pairs_of, lists_with, count_of}

-- the order of two puts makes no difference
swapped : (l : Lists) (p q : Pair) (j k : Kind) → p.1.kind ≡ j → q.1.kind ≡ k → put_in (put_in l j p) k q ≡ put_in (put_in l k q) j p
swapped l p q Port Port e f = ap (λ ps. record l { port = ps }) (with_swapped l.port p q (e ∙ sym f))
swapped l p q Irq Irq e f = ap (λ ps. record l { irq = ps }) (with_swapped l.irq p q (e ∙ sym f))
swapped l p q Mem Mem e f = ap (λ ps. record l { mem = ps }) (with_swapped l.mem p q (e ∙ sym f))
swapped l p q Dma Dma e f = ap (λ ps. record l { dma = ps }) (with_swapped l.dma p q (e ∙ sym f))
swapped l p q Bus Bus e f = ap (λ ps. record l { bus = ps }) (with_swapped l.bus p q (e ∙ sym f))
swapped l p q _ _ e f = refl

-- a pair from the middle, and a block of pairs, at the front
pub from_middle : (xs : List Pair) (p : Pair) (ys : List Pair) → lists_with (xs ++ p ∷ ys) ≡ lists_with (p ∷ (xs ++ ys))
from_middle [] p ys = refl
from_middle (x ∷ xs) p ys =
    ap (λ l. put_in l x.1.kind x) (from_middle xs p ys) ∙ swapped (lists_with (xs ++ ys)) p x p.1.kind x.1.kind refl refl

pub blocks_swapped : (xs ys zs : List Pair) → lists_with (xs ++ (ys ++ zs)) ≡ lists_with (ys ++ (xs ++ zs))
blocks_swapped xs [] zs = refl
blocks_swapped xs (y ∷ ys) zs = from_middle xs y (ys ++ zs) ∙ ap (λ l. put_in l y.1.kind y) (blocks_swapped xs ys zs)

-- the same pairs before the same lists
pub same_before : (xs ys zs : List Pair) → lists_with ys ≡ lists_with zs → lists_with (xs ++ ys) ≡ lists_with (xs ++ zs)
same_before [] ys zs e = e
same_before (x ∷ xs) ys zs e = ap (λ l. put_in l x.1.kind x) (same_before xs ys zs e)

-- The arbiters ---------------------------------------------------------------------

pub lists_put : (a : Arbiters) (p : Pair) → lists_of (arbiters_with a p) ≡ put_in (lists_of a) p.1.kind p
lists_put a p = by_kind p.1.kind
  where
    by_kind : (k : Kind) → lists_of (with_kind a k (arbiter_with (of_kind a k) p)) ≡ put_in (lists_of a) k p
    by_kind Port = refl
    by_kind Irq = refl
    by_kind Mem = refl
    by_kind Dma = refl
    by_kind Bus = refl

-- How many are of a kind -----------------------------------------------------------

-- one where the kinds are the same
abbrev pub one_if_same : Kind → Kind → ℕ
one_if_same k j = cond (same_kind k j) 1 0

abbrev pub one_of : Kind → Res → ℕ
one_of k res = one_if_same k res.kind

pub own_one : (k : Kind) → one_if_same k k ≡ 1
own_one Port = refl
own_one Irq = refl
own_one Mem = refl
own_one Dma = refl
own_one Bus = refl

count_first : (k : Kind) (res : Res) (held : List Res) → count_of k (res ∷ held) ≡ one_of k res + count_of k held
count_first k res held = sum_by-cons (λ (r : Res). cond (same_kind k r.kind) 1 0) res held

-- what a change at one kind does to each: one more of that kind, and none of the others
at_one : {X : Type 0} (P : ℕ → X → X → Type 0) (each : ByKind X) (j k : Kind) (x : X) → P 1 (of_kind each j) x → ((y : X) → P 0 y y)
    → P (one_if_same k j) (of_kind each k) (of_kind (with_kind each j x) k)
at_one P each Port Port x changed same = changed
at_one P each Irq Irq x changed same = changed
at_one P each Mem Mem x changed same = changed
at_one P each Dma Dma x changed same = changed
at_one P each Bus Bus x changed same = changed
at_one P each _ k x changed same = same (of_kind each k)

-- How long the lists are -----------------------------------------------------------

no_shorter : (l : Lists) (p : Pair) (j k : Kind) → length (of_kind l k) ≤ length (of_kind (put_in l j p) k)
no_shorter l p j k =
    at_each (λ (xs ys : List Pair). length xs ≤ length ys) l j (pairs_with (of_kind l j) p) (let n = length-pairs_with (of_kind l j) p in omega arith) (λ ys. omega arith) k

-- with more pairs the lists are no shorter
pub longer_with : (xs ys : List Pair) (k : Kind) → length (of_kind (lists_with ys) k) ≤ length (of_kind (lists_with (xs ++ ys)) k)
longer_with [] ys k = omega arith
longer_with (x ∷ xs) ys k = let more = longer_with xs ys k in let here = no_shorter (lists_with (xs ++ ys)) x x.1.kind k in omega arith

longer_put : (l : Lists) (p : Pair) (k : Kind) → length (of_kind (put_in l p.1.kind p) k) ≤ length (of_kind l k) + one_of k p.1
longer_put l p k =
    at_one (λ (n : ℕ) (xs ys : List Pair). length ys ≤ length xs + n) l p.1.kind k (pairs_with (of_kind l p.1.kind) p)
    (let n = length-pairs_with (of_kind l p.1.kind) p in omega arith) (λ ys. omega arith)

-- with what an owner has they are longer by no more than it has of the kind
pub longer_by : (owner : Owner) (held : List Res) (ys : List Pair) (k : Kind)
    → length (of_kind (lists_with (pairs_of owner held ++ ys)) k) ≤ count_of k held + length (of_kind (lists_with ys) k)
longer_by owner [] ys k = omega arith
longer_by owner (res ∷ held) ys k =
    let more = longer_by owner held ys k in
    let here = longer_put (lists_with (pairs_of owner held ++ ys)) (owner, res) k in
    let count = count_first k res held in omega arith

-- the same pairs, in another order
pub permuted : (ps : List Pair) → IsPermutation ps (all_kinds (lists_with ps))
permuted [] = IsPermutation-refl []
permuted (p ∷ ps) =
    IsPermutation-trans (p ∷ ps) (p ∷ all_kinds (lists_with ps)) (all_kinds (lists_with (p ∷ ps)))
    (IsPermutation-cons p ps (all_kinds (lists_with ps)) (permuted ps)) (put_permutation (lists_with ps) p.1.kind p)

-- One pair more, one pair less ------------------------------------------------------

split_at : {X : Type 0} (xs : List X) (i : ℕ) (x : X) → slice_get xs i ≡ Some x → drop i xs ≡ x ∷ drop (i + 1) xs
split_at [] i x h = absurd (cc)
split_at (y ∷ xs) zero x h = grind arith
split_at (y ∷ xs) (suc i) x h = grind (arith, split_at xs i x)

pub front_at : {X : Type 0} (xs : List X) (i : ℕ) (x : X) → slice_get xs i ≡ Some x → take (i + 1) xs ≡ take i xs ++ x ∷ []
front_at [] i x h = absurd (cc)
front_at (y ∷ xs) zero x h = grind arith
front_at (y ∷ xs) (suc i) x h = grind (arith, front_at xs i x)

-- what is left of a kind
pub count_left : (k : Kind) (held : List Res) (i : ℕ) (res : Res) → slice_get held i ≡ Some res → count_of k (drop i held) ≡ one_of k res + count_of k (drop (i + 1) held)
count_left k held i res read = ap (count_of k) (split_at held i res read) ∙ count_first k res (drop (i + 1) held)

-- what there is of it so far
pub count_front : (k : Kind) (held : List Res) (i : ℕ) (res : Res) → slice_get held i ≡ Some res → count_of k (take (i + 1) held) ≡ count_of k (take i held) + one_of k res
count_front k held i res read = ap (count_of k) (front_at held i res read) ∙ sum_by_push (λ (r : Res). cond (same_kind k r.kind) 1 0) (take i held) res

pub pairs_append : (owner : Owner) (xs ys : List Res) → pairs_of owner (xs ++ ys) ≡ pairs_of owner xs ++ pairs_of owner ys
pairs_append owner [] ys = refl
pairs_append owner (x ∷ xs) ys = ap (λ ps. (owner, x) ∷ ps) (pairs_append owner xs ys)

module _ (a b : Arbiters) (owner : Owner) (held : List Res) (i : ℕ) (res : Res) (read : slice_get held i ≡ Some res) (rest : List Pair) where
  pub put_more : b ≡ arbiters_with a (owner, res) → lists_of a ≡ lists_with (pairs_of owner (take i held) ++ rest)
      → lists_of b ≡ lists_with (pairs_of owner (take (i + 1) held) ++ rest)
  put_more put so_far =
      ap lists_of put ∙ lists_put a (owner, res) ∙ ap (λ l. put_in l res.kind (owner, res)) so_far
      ∙ sym (from_middle (pairs_of owner (take i held)) (owner, res) rest)
      ∙ ap lists_with (sym (ap (λ ps. ps ++ rest) (ap (pairs_of owner) (front_at held i res read) ∙ pairs_append owner (take i held) (res ∷ []))
      ∙ append_assoc (pairs_of owner (take i held)) ((owner, res) ∷ []) rest))

  first_left : lists_of a ≡ lists_with (pairs_of owner (drop i held) ++ rest) → lists_of a ≡ put_in (lists_with (pairs_of owner (drop (i + 1) held) ++ rest)) res.kind (owner, res)
  first_left so_far = so_far ∙ ap (λ xs. lists_with (pairs_of owner xs ++ rest)) (split_at held i res read)

  pub take_more : a ≡ arbiters_with b (owner, res) → lists_of a ≡ lists_with (pairs_of owner (drop i held) ++ rest)
      → lists_of b ≡ lists_with (pairs_of owner (drop (i + 1) held) ++ rest)
  take_more taken so_far =
      put_once (lists_of b) (lists_with (pairs_of owner (drop (i + 1) held) ++ rest)) res.kind (owner, res)
      (sym (ap lists_of taken ∙ lists_put b (owner, res)) ∙ first_left so_far)

  pub is_held : lists_of a ≡ lists_with (pairs_of owner (drop i held) ++ rest) → Contains (of_kind a res.kind).pairs (owner, res)
  is_held so_far =
      subst (λ l. Contains l (owner, res)) (pairs_at a res.kind)
      (subst (λ l. Contains (of_kind l res.kind) (owner, res)) (sym (first_left so_far))
      (put_there (lists_with (pairs_of owner (drop (i + 1) held) ++ rest)) res.kind (owner, res)))

-- a put takes one place of what is spare of its kind
pub spare_put : (a b : Arbiters) (p : Pair) (k : Kind) → b ≡ arbiters_with a p → (of_kind a k).spare ≤ (of_kind b k).spare + one_of k p.1
spare_put a b p k put =
    subst (λ (x : Arbiters). (of_kind a k).spare ≤ (of_kind x k).spare + one_of k p.1) (sym put)
    (at_one (λ (n : ℕ) (x y : Arbiter). x.spare ≤ y.spare + n) a p.1.kind k (arbiter_with (of_kind a p.1.kind) p) (omega arith) (λ y. omega arith))

-- what is taken away leaves what is spare
pub spare_taken : (a b : Arbiters) (p : Pair) (k : Kind) → a ≡ arbiters_with b p → (of_kind a k).spare ≤ (of_kind b k).spare
spare_taken a b p k is =
    subst (λ (x : Arbiters). (of_kind x k).spare ≤ (of_kind b k).spare) (sym is)
    (at_each (λ (x y : Arbiter). y.spare ≤ x.spare) b p.1.kind (arbiter_with (of_kind b p.1.kind) p) (omega arith) (λ y. omega arith) k)

-- Room -------------------------------------------------------------------------------

abbrev pub with_spare : Arbiters → Kind → ℕ → Arbiters
with_spare a j s = with_kind a j (record (of_kind a j) { spare = s })

-- room for a kind leaves the lists, and what is spare of the others
pub room_same : (a b : Arbiters) (j : Kind) (s : ℕ) → b ≡ with_spare a j s → lists_of b ≡ lists_of a
room_same a b j s is = ap lists_of is ∙ by_kind j
  where
    by_kind : (j : Kind) → lists_of (with_spare a j s) ≡ lists_of a
    by_kind Port = refl
    by_kind Irq = refl
    by_kind Mem = refl
    by_kind Dma = refl
    by_kind Bus = refl

pub room_grows : (a b : Arbiters) (j k : Kind) (s : ℕ) → b ≡ with_spare a j s → (of_kind a j).spare ≤ s → (of_kind a k).spare ≤ (of_kind b k).spare
room_grows a b j k s is more =
    subst (λ (x : Arbiters). (of_kind a k).spare ≤ (of_kind x k).spare) (sym is)
    (at_each (λ (x y : Arbiter). x.spare ≤ y.spare) a j (record (of_kind a j) { spare = s }) more (λ y. omega arith) k)
