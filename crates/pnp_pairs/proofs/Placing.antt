-- A core in which one device stands as given, and is owner or member of no relation; all else is as it was.
use Rattle.std.proofs.Common.{ℕ, ◌≡◌, ◌||◌, Bool, true, false, List, [], ◌∷◌, Some, refl, sym, ap, ◌∙◌, arith, cond}
use Rattle.std.specs.List.{find, list_any}
use Rattle.std.proofs.lemmas.Bool.Decides.{nat_tests}
use Rattle.pnp_model.specs.Cores.{change_node, is_node, node_at}
use Rattle.pnp_model.specs.Keyed.{changed_first, those}
use Rattle.pnp_model.specs.Records.{Core, Node, Relation}
use Rattle.pnp_laws.proofs.Lookups.{find_passes}

-- the node of its serial is this one
abbrev pub put : Node → List Relation → Core → Core
put m relations c = record c { nodes = changed_first (is_node m.serial) (λ (x : Node). m) c.nodes; relations = relations }

own_test : (m : Node) → is_node m.serial m ≡ true
own_test m = grind (arith, nat_tests)

put_nodes : (m n : Node) (f : Node → Node) (ns : List Node) → n.serial ≡ m.serial → changed_first (is_node m.serial) f (changed_first (is_node m.serial) (λ (x : Node). n) ns) ≡ changed_first (is_node m.serial) (λ (x : Node). f n) ns
put_nodes m n f [] e = refl
put_nodes m n f (x ∷ xs) e = by_test (is_node m.serial x) refl (put_nodes m n f xs e)
  where
    mine : is_node m.serial n ≡ true
    mine = grind (arith, nat_tests)

    by_test : (b : Bool) → is_node m.serial x ≡ b → changed_first (is_node m.serial) f (changed_first (is_node m.serial) (λ (z : Node). n) xs) ≡ changed_first (is_node m.serial) (λ (z : Node). f n) xs
        → changed_first (is_node m.serial) f (cond b (n ∷ xs) (x ∷ changed_first (is_node m.serial) (λ (z : Node). n) xs)) ≡ cond b (f n ∷ xs) (x ∷ changed_first (is_node m.serial) (λ (z : Node). f n) xs)
    by_test true q more = ap (λ (b : Bool). cond b (f n ∷ xs) (n ∷ changed_first (is_node m.serial) f xs)) mine
    by_test false q more = ap (λ (b : Bool). cond b (f x ∷ changed_first (is_node m.serial) (λ (z : Node). n) xs) (x ∷ changed_first (is_node m.serial) f (changed_first (is_node m.serial) (λ (z : Node). n) xs))) q ∙ ap (λ (ys : List Node). x ∷ ys) more

-- where it is changed, it stands changed
pub put_changed : (n : Node) (f : Node → Node) (relations : List Relation) (c : Core) → (f n).serial ≡ n.serial → change_node n.serial f (put n relations c) ≡ put (f n) relations c
put_changed n f relations c e =
    ap (λ (ns : List Node). record c { nodes = ns; relations = relations })
    (put_nodes n n f c.nodes refl ∙ ap (λ (k : ℕ). changed_first (is_node k) (λ (x : Node). f n) c.nodes) (sym e))

-- as it stood, it stands
put_same : (n : Node) (ns : List Node) → node_at n.serial ns ≡ Some n → changed_first (is_node n.serial) (λ (x : Node). n) ns ≡ ns
put_same n [] at = refl
put_same n (x ∷ xs) at = by_test (is_node n.serial x) at (put_same n xs)
  where
    by_test : (b : Bool) → cond b (Some x) (node_at n.serial xs) ≡ Some n → (node_at n.serial xs ≡ Some n → changed_first (is_node n.serial) (λ (z : Node). n) xs ≡ xs)
        → cond b (n ∷ xs) (x ∷ changed_first (is_node n.serial) (λ (z : Node). n) xs) ≡ x ∷ xs
    by_test true h more = let e : n ≡ x = cc in ap (λ (z : Node). z ∷ xs) e
    by_test false h more = ap (λ (ys : List Node). x ∷ ys) (more h)

pub put_self : (n : Node) (c : Core) → node_at n.serial c.nodes ≡ Some n → put n c.relations c ≡ c
put_self n c at = ap (λ (ns : List Node). record c { nodes = ns }) (put_same n c.nodes at)

-- who passes a test is the same, where the device passes it neither then nor now
pub those_put : (p : Node → Bool) (m n : Node) (ns : List Node) → node_at m.serial ns ≡ Some n → p m ≡ false → p n ≡ false → those p (changed_first (is_node m.serial) (λ (x : Node). m) ns) ≡ those p ns
those_put p m n [] at a b = refl
those_put p m n (x ∷ xs) at a b = by_test (is_node m.serial x) at (λ h. those_put p m n xs h a b)
  where
    by_test : (t : Bool) → cond t (Some x) (node_at m.serial xs) ≡ Some n → (node_at m.serial xs ≡ Some n → those p (changed_first (is_node m.serial) (λ (z : Node). m) xs) ≡ those p xs)
        → those p (cond t (m ∷ xs) (x ∷ changed_first (is_node m.serial) (λ (z : Node). m) xs)) ≡ cond (p x) (x ∷ those p xs) (those p xs)
    by_test true h more =
        let e : n ≡ x = cc in
        ap (λ (z : Bool). cond z (m ∷ those p xs) (those p xs)) a ∙ ap (λ (z : Bool). cond z (x ∷ those p xs) (those p xs)) (sym b ∙ ap p e)
    by_test false h more = ap (λ (ys : List Node). cond (p x) (x ∷ ys) ys) (more h)

-- whether one passes is the same, where the device passes as before
pub any_put : (p : Node → Bool) (m n : Node) (ns : List Node) → node_at m.serial ns ≡ Some n → p m ≡ p n → list_any p (changed_first (is_node m.serial) (λ (x : Node). m) ns) ≡ list_any p ns
any_put p m n [] at a = refl
any_put p m n (x ∷ xs) at a = by_test (is_node m.serial x) at (λ h. any_put p m n xs h a)
  where
    by_test : (t : Bool) → cond t (Some x) (node_at m.serial xs) ≡ Some n → (node_at m.serial xs ≡ Some n → list_any p (changed_first (is_node m.serial) (λ (z : Node). m) xs) ≡ list_any p xs)
        → list_any p (cond t (m ∷ xs) (x ∷ changed_first (is_node m.serial) (λ (z : Node). m) xs)) ≡ (p x || list_any p xs)
    by_test true h more = let e : n ≡ x = cc in ap (λ (z : Bool). z || list_any p xs) (a ∙ ap p e)
    by_test false h more = ap (λ (z : Bool). p x || z) (more h)

-- the first that passes is the device, as it stands, where it was before
pub find_put : (p : Node → Bool) (m n : Node) (ns : List Node) → node_at m.serial ns ≡ Some n → p m ≡ p n → find p ns ≡ Some n → find p (changed_first (is_node m.serial) (λ (x : Node). m) ns) ≡ Some m
find_put p m n [] at a found = absurd (cc)
find_put p m n (x ∷ xs) at a found = by_test (is_node m.serial x) refl at (find_put p m n xs)
  where
    own : (p x ≡ true) → is_node m.serial x ≡ false → cond (is_node m.serial x) (Some x) (node_at m.serial xs) ≡ Some n → ⊥
    own passes q h =
        let e : x ≡ n = first passes (p x) refl found in
        let mine : is_node m.serial n ≡ true = find_passes (is_node m.serial) (x ∷ xs) n at in
        (let z = sym q ∙ ap (is_node m.serial) e in cc)
      where
        first : p x ≡ true → (b : Bool) → p x ≡ b → cond b (Some x) (find p xs) ≡ Some n → x ≡ n
        first h true r g = cc
        first h false r g = absurd (cc)

    by_test : (t : Bool) → is_node m.serial x ≡ t → cond t (Some x) (node_at m.serial xs) ≡ Some n
        → (node_at m.serial xs ≡ Some n → p m ≡ p n → find p xs ≡ Some n → find p (changed_first (is_node m.serial) (λ (z : Node). m) xs) ≡ Some m)
        → find p (cond t (m ∷ xs) (x ∷ changed_first (is_node m.serial) (λ (z : Node). m) xs)) ≡ Some m
    by_test true q h more =
        let passes : p m ≡ true = a ∙ find_passes p (x ∷ xs) n found in
        ap (λ (b : Bool). cond b (Some m) (find p xs)) passes
    by_test false q h more = by_own (p x) refl found
      where
        by_own : (b : Bool) → p x ≡ b → cond b (Some x) (find p xs) ≡ Some n → cond b (Some x) (find p (changed_first (is_node m.serial) (λ (z : Node). m) xs)) ≡ Some m
        by_own true r g = absurd (own r q at)
        by_own false r g = more h a g

-- the device is found by its serial
pub at_put : (m n : Node) (ns : List Node) → node_at m.serial ns ≡ Some n → node_at m.serial (changed_first (is_node m.serial) (λ (x : Node). m) ns) ≡ Some m
at_put m n ns at = find_put (is_node m.serial) m n ns at (own_test m ∙ sym (find_passes (is_node m.serial) ns n at)) at
