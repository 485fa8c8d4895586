-- What devices weigh, by their states: with drivers more, and less where they cannot be found gone.
use Rattle.std.proofs.Common.{ℕ, suc, ◌+◌, ◌≤◌, ◌≡◌, ◌≢◌, inl, inr, Bool, true, false, cond, List, [], ◌∷◌, Option, Some, None, refl, sym, subst, arith}
use Rattle.std.specs.Option.{option_map}
use Rattle.std.proofs.lemmas.Bool.{cases_eq}
use Rattle.std.proofs.lemmas.Bool.Decides.{nat_tests}
use Rattle.pnp_model.specs.Keyed.{without_first}
use Rattle.pnp_model.specs.Tests.{has}
use Rattle.pnp_model.specs.Records.{Node}
use Rattle.pnp_model.specs.Cores.{bare, is_node, node_at, serials_of}
use Rattle.pnp_model.specs.Diagram.{Change, FollowsDiagram, Row}
use Rattle.pnp_labels.specs.declared.states.DevState.{DevState}
use Rattle.pnp_labels.specs.declared.states.DevState.TheVariants.{NoStack, SurpriseRemoved}
use Rattle.pnp_labels.specs.declared.words.Minor.{Minor}
use Rattle.pnp_labels.specs.declared.label.Label.{Label}
use Rattle.pnp_laws.specs.Kept.{Ascending}
use Rattle.pnp_laws.proofs.Lookups.{none_below}
use Rattle.pnp_laws.proofs.Standing.{FromThose}

-- 3, if it may still be found gone
abbrev pub found_weight : Bool → ℕ
found_weight findable = cond findable 3 0

-- with drivers 4 more; one that was told that it has gone is not found gone while it has drivers, and is lighter without them
abbrev pub state_weight : Bool → DevState → ℕ
state_weight findable NoStack = found_weight findable
state_weight findable SurpriseRemoved = 4
state_weight findable _ = 4 + found_weight findable

abbrev pub node_weight : Bool → Option Node → ℕ
node_weight findable None = 0
node_weight findable (Some n) = state_weight findable n.state

abbrev pub weigh : (ℕ → ℕ) → List ℕ → ℕ
weigh weight [] = 0
weigh weight (k ∷ ks) = weight k + weigh weight ks

-- By what may still be found gone ------------------------------------------------------------------------

found_less : (a b : Bool) → (a ≡ true → b ≡ true) → found_weight a ≤ found_weight b
found_less true b h = subst (λ (x : Bool). 3 ≤ cond x 3 0) (sym (h refl)) (omega arith)
found_less false b h = omega arith

state_less : (a b : Bool) (x : DevState) → (a ≡ true → b ≡ true) → state_weight a x ≤ state_weight b x
state_less a b NoStack h = found_less a b h
state_less a b SurpriseRemoved h = omega arith
state_less a b _ h = let l = found_less a b h in omega arith

pub node_less : (a b : Bool) (o : Option Node) → (a ≡ true → b ≡ true) → node_weight a o ≤ node_weight b o
node_less a b None h = omega arith
node_less a b (Some n) h = state_less a b n.state h

pub node_more : (a b : Bool) (o : Option Node) → node_weight a o ≤ node_weight b o + 3
node_more a b o = let l = node_less a true o (λ e. refl) in let m = by_node o in let n = node_less false b o (λ e. absurd (cc)) in omega arith
  where
    by_state : (x : DevState) → state_weight true x ≤ state_weight false x + 3
    by_state NoStack = omega arith
    by_state SurpriseRemoved = omega arith
    by_state _ = omega arith

    by_node : (o : Option Node) → node_weight true o ≤ node_weight false o + 3
    by_node None = omega arith
    by_node (Some n) = by_state n.state

-- a device that was told weighs the same, whether a surprise removal of it waits or not
pub told_weight : (a b : Bool) (o : Option Node) (n : Node) → o ≡ Some n → n.state ≡ SurpriseRemoved → node_weight a o ≤ node_weight b o
told_weight a b o n at told =
    subst (λ (x : Option Node). node_weight a x ≤ node_weight b x) (sym at) (subst (λ (x : DevState). state_weight a x ≤ state_weight b x) (sym told) (omega arith))

-- and less without its drivers
pub told_drop : (a b : Bool) (new old : Option Node) (n : Node) → new ≡ Some (bare n) → old ≡ Some n → n.state ≡ SurpriseRemoved → node_weight a new + 1 ≤ node_weight b old
told_drop a b new old n now at told =
    subst (λ (x : Option Node). node_weight a x + 1 ≤ node_weight b old) (sym now) (subst (λ (x : Option Node). state_weight a NoStack + 1 ≤ node_weight b x) (sym at) (subst (λ (x : DevState). state_weight a NoStack + 1 ≤ state_weight b x) (sym told) (by_found a)))
  where
    by_found : (a : Bool) → cond a 3 0 + 1 ≤ 4
    by_found true = omega arith
    by_found false = omega arith

-- one that was not told weighs less once it is found gone
pub found_drop : (x : DevState) → x ≢ SurpriseRemoved → state_weight false x + 3 ≤ state_weight true x
found_drop SurpriseRemoved d = absurd (d refl)
found_drop NoStack d = omega arith
found_drop _ d = omega arith

-- whatever becomes of a device, it weighs 4 more at most
pub changed_weight : (findable : Bool) (f : Node → Node) (o : Option Node) → node_weight findable (option_map f o) ≤ node_weight findable o + 4
changed_weight findable f None = omega arith
changed_weight findable f (Some n) = let l = least n.state in let m = most (f n).state in omega arith
  where
    least : (x : DevState) → found_weight findable ≤ state_weight findable x
    least SurpriseRemoved = by_found findable
      where
        by_found : (b : Bool) → found_weight b ≤ 4
        by_found true = omega arith
        by_found false = omega arith
    least _ = omega arith

    most : (x : DevState) → state_weight findable x ≤ 4 + found_weight findable
    most NoStack = omega arith
    most SurpriseRemoved = omega arith
    most _ = omega arith

-- All of them --------------------------------------------------------------------------------------------

pub weigh_less : (f g : ℕ → ℕ) (ks : List ℕ) → ((k : ℕ) → f k ≤ g k) → weigh f ks ≤ weigh g ks
weigh_less f g [] h = omega arith
weigh_less f g (k ∷ ks) h = let here = h k in let more = weigh_less f g ks h in omega arith

-- one weighs less
pub weigh_drop : (f g : ℕ → ℕ) (j d : ℕ) (ks : List ℕ) → ((k : ℕ) → f k ≤ g k) → has ks j ≡ true → f j + d ≤ g j → weigh f ks + d ≤ weigh g ks
weigh_drop f g j d [] h there less = absurd (cc)
weigh_drop f g j d (k ∷ ks) h there less =
    elim (cases_eq k j) [
      | inl e ↦ let more = weigh_less f g ks h in let here : f k + d ≤ g k = subst (λ (i : ℕ). f i + d ≤ g i) (sym e) less in omega arith
      | inr q ↦ let more = weigh_drop f g j d ks h (grind (arith, nat_tests)) less in let here = h k in omega arith
    ]

pub serial_in : (nodes : List Node) (k : ℕ) (n : Node) → node_at k nodes ≡ Some n → has (serials_of nodes) k ≡ true
serial_in [] k n at = absurd (cc)
serial_in (x ∷ xs) k n at =
    elim (cases_eq x.serial k) [
      | inl e ↦ grind (arith, nat_tests)
      | inr d ↦ let more = serial_in xs k n (grind (arith, nat_tests)) in grind (arith, nat_tests)
    ]

-- none of them is this one
weigh_none : (f g : ℕ → ℕ) (j : ℕ) (nodes : List Node) → ((k : ℕ) → k ≢ j → f k ≤ g k) → node_at j nodes ≡ None → weigh f (serials_of nodes) ≤ weigh g (serials_of nodes)
weigh_none f g j [] h gone = omega arith
weigh_none f g j (n ∷ ns) h gone =
    let other : n.serial ≢ j = λ e. absurd (let here : node_at j (n ∷ ns) ≡ Some n = grind (arith, nat_tests) in cc) in
    let here = h n.serial other in
    let more = weigh_none f g j ns h (grind (arith, nat_tests)) in
    omega arith

-- one weighs more
pub weigh_more : (f g : ℕ → ℕ) (j d lo : ℕ) (nodes : List Node) → Ascending lo nodes → ((k : ℕ) → k ≢ j → f k ≤ g k) → f j ≤ g j + d → weigh f (serials_of nodes) ≤ weigh g (serials_of nodes) + d
weigh_more f g j d lo [] order h own = omega arith
weigh_more f g j d lo (n ∷ ns) order h own =
    elim (cases_eq n.serial j) [
      | inl e ↦
          let here : f n.serial ≤ g n.serial + d = subst (λ (i : ℕ). f i ≤ g i + d) (sym e) own in
          let more = weigh_none f g j ns h (none_below (suc n.serial) j ns (omega arith) order.1) in
          omega arith
      | inr q ↦ let here = h n.serial q in let more = weigh_more f g j d (suc n.serial) ns order.1 h own in omega arith
    ]

-- one left
pub weigh_left : (f : ℕ → ℕ) (j : ℕ) (nodes : List Node) → weigh f (serials_of (without_first (is_node j) nodes)) ≤ weigh f (serials_of nodes)
weigh_left f j [] = omega arith
weigh_left f j (x ∷ xs) = by_test (is_node j x) (weigh_left f j xs)
  where
    by_test : (b : Bool) → weigh f (serials_of (without_first (is_node j) xs)) ≤ weigh f (serials_of xs) → weigh f (serials_of (cond b xs (x ∷ without_first (is_node j) xs))) ≤ f x.serial + weigh f (serials_of xs)
    by_test true h = omega arith
    by_test false h = omega arith

-- Devices that weigh no more -----------------------------------------------------------------------------

pub record Lighter (old new : List Node) : Type 0 where
  pub each : (k : ℕ) (findable : Bool) → node_weight findable (node_at k new) ≤ node_weight findable (node_at k old)

pub lighter_same : (old new : List Node) → new ≡ old → Lighter old new
lighter_same old new e = record { each = λ k findable. subst (λ (x : List Node). node_weight findable (node_at k x) ≤ node_weight findable (node_at k old)) (sym e) (omega arith) }

-- no driver is added
abbrev pub IsNoAdd : Label → Type 0
IsNoAdd (Label.Add path driver true) = ⊥
IsNoAdd _ = Unit {0}

-- by a request no device becomes heavier
row_less : (findable : Bool) (x : DevState) (minor : Minor) (bad : Bool) (y : DevState) → Row x minor bad y → state_weight findable y ≤ state_weight findable x
row_less findable _ _ _ _ Row.remove = omega arith
row_less findable _ _ _ _ Row.remove_pending = omega arith
row_less true _ _ _ _ Row.remove_surprised = omega arith
row_less false _ _ _ _ Row.remove_surprised = omega arith
row_less findable _ _ _ _ Row.surprise = omega arith
row_less findable _ _ _ _ Row.surprise_stopped = omega arith
row_less findable _ _ _ _ _ = omega arith

same_less : (findable : Bool) (x y : DevState) → y ≡ x → state_weight findable y ≤ state_weight findable x
same_less findable x y e = subst (λ (z : DevState). state_weight findable z ≤ state_weight findable x) (sym e) (omega arith)

change_less : (label : Label) (findable : Bool) (x y : DevState) → IsNoAdd label → Change label x y → state_weight findable y ≤ state_weight findable x
change_less (Label.Add path driver true) findable x y none change = absurd none
change_less (Label.State path state) findable x y none (inl e) = same_less findable x y e
change_less (Label.State path state) findable x y none (inr (own, (minor, bad, row))) = row_less findable x minor bad y row
change_less _ findable x y none e = same_less findable x y e

-- where each was there before, and changed by the diagram
pub lighter_follows : (label : Label) (old new : List Node) → IsNoAdd label → FromThose old new → FollowsDiagram label old new → Lighter old new
lighter_follows label old new none from diagram = record { each = λ k findable. by_node k findable (node_at k new) refl }
  where
    by_node : (k : ℕ) (findable : Bool) (o : Option Node) → node_at k new ≡ o → node_weight findable o ≤ node_weight findable (node_at k old)
    by_node k findable None e = omega arith
    by_node k findable (Some m) e =
        let was = from k m e in
        subst (λ (x : Option Node). state_weight findable m.state ≤ node_weight findable x) (sym was.1) (change_less label findable was.0.state m.state none (diagram.stays k was.0 m was.1 e))
