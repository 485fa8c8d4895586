-- Each line under `tree` stands below that of its parent, and those of the children of a device in order of serial.
use Rattle.std.proofs.Common.{ℕ, zero, suc, ◌+◌, ◌<◌, ◌≤◌, ◌≡◌, ◌==◌, ◌&&◌, ◌⊎◌, inl, inr, not, Bool, true, false, cond, List, [], ◌∷◌, ◌++◌, length, Option, Some, None, refl, sym, ap, ◌∙◌, subst, arith, append_assoc, append-nil}
use Rattle.std.proofs.lemmas.Bool.Decides.{nat_tests}
use Rattle.pnp_model.specs.Cores.{node_at}
use Rattle.pnp_model.specs.Endings.{Placed, placed, root_of}
use Rattle.pnp_model.specs.Keyed.{those}
use Rattle.pnp_model.specs.Records.{Node}
use Rattle.pnp_model.specs.Trees.{children, is_child}
use Rattle.pnp_laws.specs.Kept.{Ascending}
use Rattle.pnp_laws.proofs.RunsStand.{reaches_kept}
use Rattle.pnp_promises.specs.TreeOrder.{AllFrom, BelowParent, TreeStands, TreeStandsLaw}

-- Where a member of two lists stands ---------------------------------------------------------------

record InFirst {A : Type 0} (xs ys before : List A) (p : A) (after : List A) : Type 0 where
  left : List A
  is : xs ≡ before ++ p ∷ left
  rest : after ≡ left ++ ys

record InSecond {A : Type 0} (xs ys before : List A) (p : A) (after : List A) : Type 0 where
  more : List A
  passed : before ≡ xs ++ more
  is : ys ≡ more ++ p ∷ after

either : {A : Type 0} (xs ys before : List A) (p : A) (after : List A) → xs ++ ys ≡ before ++ p ∷ after → InFirst xs ys before p after ⊎ InSecond xs ys before p after
either [] ys before p after e = inr (record { more = before; passed = refl; is = e })
either (x ∷ xs) ys [] p after e =
    let head : x ≡ p = cc in
    let tail : xs ++ ys ≡ after = cc in
    inl (record { left = xs; is = ap (λ y. y ∷ xs) head; rest = sym tail })
either (x ∷ xs) ys (b ∷ before) p after e =
    let head : x ≡ b = cc in
    let tail : xs ++ ys ≡ before ++ p ∷ after = cc in
    elim (either xs ys before p after tail) [
      | inl first ↦ inl (record { left = first.left; is = ap (λ y. y ∷ xs) head ∙ ap (λ ys. b ∷ ys) first.is; rest = first.rest })
      | inr second ↦ inr (record { more = second.more; passed = ap (λ y. y ∷ before) (sym head) ∙ ap (λ ys. x ∷ ys) second.passed; is = second.is })
    ]

-- Depths --------------------------------------------------------------------------------------------

from_both : (d : ℕ) (xs ys : List Placed) → AllFrom d xs → AllFrom d ys → AllFrom d (xs ++ ys)
from_both d [] ys h g = g
from_both d (x ∷ xs) ys h g = (h.0, from_both d xs ys h.1 g)

from_front : (d : ℕ) (xs ys : List Placed) → AllFrom d (xs ++ ys) → AllFrom d xs
from_front d [] ys h = tt
from_front d (x ∷ xs) ys h = (h.0, from_front d xs ys h.1)

from_back : (d : ℕ) (xs ys : List Placed) → AllFrom d (xs ++ ys) → AllFrom d ys
from_back d [] ys h = h
from_back d (x ∷ xs) ys h = from_back d xs ys h.1

from_less : (d e : ℕ) (xs : List Placed) → d ≤ e → AllFrom e xs → AllFrom d xs
from_less d e [] l h = tt
from_less d e (x ∷ xs) l h = (let m = h.0 in omega arith, from_less d e xs l h.1)

module _ (nodes : List Node) where
  abbrev row : ℕ → Node → Placed
  row d m = record { depth = d; node = m }

  all_from : (n d : ℕ) (here : List Node) → AllFrom d (placed n d nodes here)
  all_from zero d here = tt
  all_from (suc n) d [] = tt
  all_from (suc n) d (m ∷ more) =
      (omega arith, from_both d (placed n (d + 1) nodes (children m.serial nodes)) (placed (suc n) d nodes more) (from_less d (d + 1) _ (omega arith) (all_from n (d + 1) (children m.serial nodes))) (all_from (suc n) d more))

  -- Each below its parent ----------------------------------------------------------------------------

  abbrev AllBelow : ℕ → List Node → Type 0
  AllBelow k [] = Unit {0}
  AllBelow k (m ∷ ms) = (m.parent ≡ k) × AllBelow k ms

  children_below : (k : ℕ) (ns : List Node) → AllBelow k (children k ns)
  children_below k [] = tt
  children_below k (x ∷ xs) = by_test (is_child k x) refl (children_below k xs)
    where
      first : (a b : Bool) → (a && b) ≡ true → a ≡ true
      first true b h = refl
      first false b h = absurd (cc)

      by_test : (b : Bool) → is_child k x ≡ b → AllBelow k (children k xs) → AllBelow k (cond b (x ∷ children k xs) (children k xs))
      by_test true e more = let h = first (x.parent == k) (not (x.serial == 0)) e in (grind (arith, nat_tests), more)
      by_test false e more = more

  -- more lines before it
  further : (xs before : List Placed) (p : Placed) → BelowParent before p → BelowParent (xs ++ before) p
  further xs before p b =
      record { earlier = xs ++ b.earlier; parent = b.parent; between = b.between; split = ap (λ ys. xs ++ ys) b.split ∙ sym (append_assoc xs b.earlier (b.parent ∷ b.between)); own = b.own; deeper = b.deeper; inside = b.inside }

  -- of those at the top, or below its parent
  abbrev Placing : ℕ → ℕ → List Placed → Placed → Type 0
  Placing k d before p = ((p.depth ≡ d) × (p.node.parent ≡ k)) ⊎ BelowParent before p

  below_tree : (n d : ℕ) (m : Node) → ((before : List Placed) (p : Placed) (after : List Placed) → placed n (d + 1) nodes (children m.serial nodes) ≡ before ++ p ∷ after → Placing m.serial (d + 1) before p)
      → (before : List Placed) (p : Placed) (after : List Placed) → row d m ∷ placed n (d + 1) nodes (children m.serial nodes) ≡ before ++ p ∷ after → ((before ≡ []) × (p ≡ row d m)) ⊎ BelowParent before p
  below_tree n d m more [] p after e = inl (refl, let head : row d m ≡ p = cc in sym head)
  below_tree n d m more (b ∷ before) p after e =
      let head : row d m ≡ b = cc in
      let tail : placed n (d + 1) nodes (children m.serial nodes) ≡ before ++ p ∷ after = cc in
      inr (subst (λ (x : Placed). BelowParent (x ∷ before) p) head (by_rest tail (more before p after tail)))
    where
      by_rest : placed n (d + 1) nodes (children m.serial nodes) ≡ before ++ p ∷ after → Placing m.serial (d + 1) before p → BelowParent (row d m ∷ before) p
      by_rest tail (inl (depth, own)) =
          record {
            earlier = [];
            parent = row d m;
            between = before;
            split = refl;
            own = sym own;
            deeper = depth;
            inside = subst (λ (x : ℕ). AllFrom x before) (sym depth) (from_front (d + 1) before (p ∷ after) (subst (λ (xs : List Placed). AllFrom (d + 1) xs) tail (all_from n (d + 1) (children m.serial nodes))));
          }
      by_rest tail (inr below) = further (row d m ∷ []) before p below

  below_all : (n d k : ℕ) (here : List Node) → AllBelow k here → (before : List Placed) (p : Placed) (after : List Placed) → placed n d nodes here ≡ before ++ p ∷ after → Placing k d before p
  below_all zero d k here own [] p after e = absurd (cc)
  below_all zero d k here own (b ∷ before) p after e = absurd (cc)
  below_all (suc n) d k [] own [] p after e = absurd (cc)
  below_all (suc n) d k [] own (b ∷ before) p after e = absurd (cc)
  below_all (suc n) d k (m ∷ more) own before p after e =
      elim (either (row d m ∷ placed n (d + 1) nodes (children m.serial nodes)) (placed (suc n) d nodes more) before p after e) [
        | inl first ↦ elim (below_tree n d m (below_all n (d + 1) m.serial (children m.serial nodes) (children_below m.serial nodes)) before p first.left first.is) [
          | inl (none, is) ↦ inl (ap (λ (x : Placed). x.depth) is, ap (λ (x : Placed). x.node.parent) is ∙ own.0)
          | inr below ↦ inr below
        ]
        | inr second ↦ elim (below_all (suc n) d k more own.1 second.more p after second.is) [
          | inl top ↦ inl top
          | inr below ↦ inr (subst (λ (xs : List Placed). BelowParent xs p) (sym second.passed) (further (row d m ∷ placed n (d + 1) nodes (children m.serial nodes)) second.more p below))
        ]
      ]

  -- In order of serial ----------------------------------------------------------------------------------

  weaker : (lo hi : ℕ) (ns : List Node) → lo ≤ hi → Ascending hi ns → Ascending lo ns
  weaker lo hi [] l h = tt
  weaker lo hi (n ∷ ns) l h = (let m = h.0 in omega arith, h.1)

  those_rise : (lo : ℕ) (test : Node → Bool) (ns : List Node) → Ascending lo ns → Ascending lo (those test ns)
  those_rise lo test [] h = tt
  those_rise lo test (n ∷ ns) h = by_test (test n) (those_rise (suc n.serial) test ns h.1)
    where
      by_test : (b : Bool) → Ascending (suc n.serial) (those test ns) → Ascending lo (cond b (n ∷ those test ns) (those test ns))
      by_test true more = (h.0, more)
      by_test false more = weaker lo (suc n.serial) (those test ns) (let m = h.0 in omega arith) more

  -- the first line of a list of trees stands highest
  abbrev FirstAt : ℕ → List Placed → Type 0
  FirstAt d [] = Unit {0}
  FirstAt d (p ∷ ps) = p.depth ≡ d

  first_at : (n d : ℕ) (here : List Node) → FirstAt d (placed n d nodes here)
  first_at zero d here = tt
  first_at (suc n) d [] = tt
  first_at (suc n) d (m ∷ more) = refl

  -- what is not so high cannot stand before it alone
  no_between : (d e : ℕ) (ys between : List Placed) (q : Placed) (after : List Placed) → FirstAt d ys → ys ≡ between ++ q ∷ after → d < e → AllFrom e between → (between ≡ []) × (q.depth ≡ d)
  no_between d e ys [] q after first is l deep = (refl, subst (λ (xs : List Placed). FirstAt d xs) is first)
  no_between d e ys (b ∷ between) q after first is l deep = absurd (let at : b.depth ≡ d = subst (λ (xs : List Placed). FirstAt d xs) is first in let more = deep.0 in omega arith)

  abbrev Rises : List Placed → Type 0
  Rises rows = (before : List Placed) (p : Placed) (between : List Placed) (q : Placed) (after : List Placed) → rows ≡ before ++ p ∷ (between ++ q ∷ after) → p.depth ≡ q.depth → AllFrom (p.depth + 1) between → p.node.serial < q.node.serial

  module _ (order : Ascending 0 nodes) where
    -- the line of the next tree
    next_one : (n d lo : ℕ) (more : List Node) (between : List Placed) (q : Placed) (after : List Placed) → Ascending lo more → placed (suc n) d nodes more ≡ between ++ q ∷ after → AllFrom (d + 1) between → lo ≤ q.node.serial
    next_one n d lo [] [] q after rise e deep = absurd (cc)
    next_one n d lo [] (b ∷ between) q after rise e deep = absurd (cc)
    next_one n d lo (m ∷ more) between q after rise e deep = by_between between e (no_between d (d + 1) (placed (suc n) d nodes (m ∷ more)) between q after refl e (omega arith) deep).0
      where
        by_between : (between : List Placed) → placed (suc n) d nodes (m ∷ more) ≡ between ++ q ∷ after → between ≡ [] → lo ≤ q.node.serial
        by_between [] e none = let head : row d m ≡ q = cc in subst (λ (x : Placed). lo ≤ x.node.serial) head rise.0
        by_between (b ∷ bs) e none = absurd (cc)

    in_depth : (e : ℕ) (rows before : List Placed) (p : Placed) (after : List Placed) → AllFrom e rows → rows ≡ before ++ p ∷ after → e ≤ p.depth
    in_depth e rows before p after h is = (from_back e before (p ∷ after) (subst (λ (xs : List Placed). AllFrom e xs) is h)).0

    rises_all : (n d lo : ℕ) (here : List Node) → Ascending lo here → Rises (placed n d nodes here)
    rises_all zero d lo here rise [] p between q after e same deep = absurd (cc)
    rises_all zero d lo here rise (b ∷ before) p between q after e same deep = absurd (cc)
    rises_all (suc n) d lo [] rise [] p between q after e same deep = absurd (cc)
    rises_all (suc n) d lo [] rise (b ∷ before) p between q after e same deep = absurd (cc)
    rises_all (suc n) d lo (m ∷ more) rise [] p between q after e same deep =
        let inner = placed n (d + 1) nodes (children m.serial nodes) in
        let outer = placed (suc n) d nodes more in
        let head : row d m ≡ p = cc in
        let tail : inner ++ outer ≡ between ++ q ∷ after = cc in
        let depth : d ≡ p.depth = ap (λ (x : Placed). x.depth) head in
        elim (either inner outer between q after tail) [
          | inl first ↦ absurd (let l = in_depth (d + 1) inner between q first.left (all_from n (d + 1) (children m.serial nodes)) first.is in omega arith)
          | inr second ↦
              let deeper : AllFrom (d + 1) between = subst (λ (x : ℕ). AllFrom (x + 1) between) (sym depth) deep in
              let l = next_one n d (suc m.serial) more second.more q after rise.1 second.is (from_back (d + 1) inner second.more (subst (λ (xs : List Placed). AllFrom (d + 1) xs) second.passed deeper)) in
              subst (λ (x : Placed). x.node.serial < q.node.serial) head (omega arith)
        ]
    rises_all (suc n) d lo (m ∷ more) rise (b ∷ before) p between q after e same deep =
        let inner = placed n (d + 1) nodes (children m.serial nodes) in
        let outer = placed (suc n) d nodes more in
        let tail : inner ++ outer ≡ before ++ p ∷ (between ++ q ∷ after) = cc in
        elim (either inner outer before p (between ++ q ∷ after) tail) [
          | inl first ↦
              let low = in_depth (d + 1) inner before p first.left (all_from n (d + 1) (children m.serial nodes)) first.is in
              elim (either first.left outer between q after (sym first.rest)) [
                | inl two ↦ rises_all n (d + 1) 0 (children m.serial nodes) (those_rise 0 (is_child m.serial) nodes order) before p between q two.left (first.is ∙ ap (λ (xs : List Placed). before ++ p ∷ xs) two.is) same deep
                | inr two ↦
                    absurd (let z = (no_between d (p.depth + 1) outer two.more q after (first_at (suc n) d more) two.is (omega arith) (from_back (p.depth + 1) first.left two.more (subst (λ (xs : List Placed). AllFrom (p.depth + 1) xs) two.passed deep))).1 in omega arith)
              ]
          | inr second ↦ rises_all (suc n) d (suc m.serial) more rise.1 second.more p between q after second.is same deep
        ]

-- All of it ---------------------------------------------------------------------------------------------

module _ (nodes : List Node) (order : Ascending 0 nodes) where
  by_root : (n : ℕ) (root : Option Node) → TreeStands (placed n 0 nodes (root_of root))
  by_root zero root = record { below = λ before p after e. absurd (nothing before p after e); rises = λ before p between q after e same deep. absurd (nothing before p (between ++ q ∷ after) e) }
    where
      nothing : (before : List Placed) (p : Placed) (after : List Placed) → [] ≡ before ++ p ∷ after → ⊥
      nothing [] p after e = cc
      nothing (b ∷ before) p after e = cc
  by_root (suc n) None = record { below = λ before p after e. absurd (nothing before p after e); rises = λ before p between q after e same deep. absurd (nothing before p (between ++ q ∷ after) e) }
    where
      nothing : (before : List Placed) (p : Placed) (after : List Placed) → [] ≡ before ++ p ∷ after → ⊥
      nothing [] p after e = cc
      nothing (b ∷ before) p after e = cc
  by_root (suc n) (Some m) =
      record {
        below = λ before p after e.
            elim (below_tree nodes n 0 m (below_all nodes n 1 m.serial (children m.serial nodes) (children_below nodes m.serial nodes)) before p after (sym (append-nil (row nodes 0 m ∷ placed n 1 nodes (children m.serial nodes))) ∙ e)) [
              | inl (none, is) ↦ inl (none, ap (λ (x : Placed). x.depth) is)
              | inr below ↦ inr below
            ];
        rises = rises_all nodes order (suc n) 0 0 (m ∷ []) (omega arith, tt);
      }

pub tree_stands : TreeStandsLaw
tree_stands settings rack entries s run = by_root s.core.nodes (reaches_kept settings rack entries s run).good.serials (length s.core.nodes) (node_at 0 s.core.nodes)
