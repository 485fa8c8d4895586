-- What hangs on a device is what is listed below it.
use Rattle.std.proofs.Common.{◌≡◌, ℕ, suc, ◌==◌, ◌⊎◌, inl, inr, Bool, true, false, not, ◌&&◌, ◌||◌, cond, List, [], ◌∷◌, ◌++◌, Option, Some, None, is_some, refl, sym, ap, ◌∙◌, subst, arith, add-one}
use Rattle.std.specs.List.{list_any}
use Rattle.std.proofs.lemmas.Bool.{cases_eq}
use Rattle.std.proofs.lemmas.Bool.Decides.{nat_tests}
use Rattle.pnp_model.specs.Keyed.{those}
use Rattle.pnp_model.specs.Tests.{has}
use Rattle.pnp_model.specs.Cores.{node_at, serials_of}
use Rattle.pnp_model.specs.Records.{Node, Relation}
use Rattle.pnp_model.specs.Trees.{hangs_on, is_child}
use Rattle.pnp_laws.specs.Kept.{Ascending}
use Rattle.pnp_laws.proofs.Lookups.{own_serial}
use Rattle.pnp_laws.proofs.Lists.{has-append, those_has, those_keeps, those_found}
use Rattle.pnp_laws.proofs.Closures.{those_serial}
use Rattle.devnode_tree.specs.Trees.{Ascends}
use Rattle.devnode_tree.specs.Entries.{child_serials}
use Rattle.relations.specs.Leaving.{base, below, members_of, is_there}

-- the order of serials, as the laws say it
pub ascending : (low : ℕ) (nodes : List Node) → Ascends low (serials_of nodes) → Ascending low nodes
ascending low [] h = tt
ascending low (n ∷ nodes) h = (h.0, ascending (suc n.serial) nodes (subst (λ (k : ℕ). Ascends k (serials_of nodes)) (add-one n.serial) h.1))

pub or_cases : (a b : Bool) → (a || b) ≡ true → (a ≡ true) ⊎ (b ≡ true)
or_cases true b h = inl refl
or_cases false b h = inr h

or_left : (a b : Bool) → a ≡ true → (a || b) ≡ true
or_left true b h = refl
or_left false b h = absurd (cc)

or_right : (a b : Bool) → b ≡ true → (a || b) ≡ true
or_right true b h = refl
or_right false b h = h

related_listed : (rs : List Relation) (k j : ℕ) → list_any (λ r. r.member == j && has (k ∷ []) r.owner) rs ≡ has (members_of rs k) j
related_listed [] k j = refl
related_listed (r ∷ rs) k j =
    let more = related_listed rs k j in
    elim (cases_eq r.owner k) [
      | inl e ↦ grind (arith, nat_tests)
      | inr d ↦ grind (arith, nat_tests)
    ]

child_is : (k : ℕ) (m : Node) → (has (k ∷ []) m.parent && not (m.serial == 0)) ≡ is_child k m
child_is k m = grind (arith, nat_tests)

there_is : (nodes : List Node) (j : ℕ) (m : Node) → node_at j nodes ≡ Some m → is_there nodes j ≡ true
there_is nodes j m at = ap is_some at

pub there_found : (nodes : List Node) (j : ℕ) → is_there nodes j ≡ true → (m : Node) × (node_at j nodes ≡ Some m)
there_found nodes j h = by (node_at j nodes) refl h
  where
    by : (o : Option Node) → node_at j nodes ≡ o → is_some o ≡ true → (m : Node) × (node_at j nodes ≡ Some m)
    by None e s = absurd (cc)
    by (Some m) e s = (m, e)

pub has_either : (xs ys : List ℕ) (j : ℕ) → (has xs j ≡ true) ⊎ (has ys j ≡ true) → has (xs ++ ys) j ≡ true
has_either xs ys j h = has-append xs ys j ∙ elim h [ inl a ↦ ap (λ b. cond b true (has ys j)) a | inr b ↦ by (has xs j) b ]
  where
    by : (x : Bool) → has ys j ≡ true → cond x true (has ys j) ≡ true
    by true b = refl
    by false b = b

pub one_of : (xs ys : List ℕ) (j : ℕ) → has (xs ++ ys) j ≡ true → (has xs j ≡ true) ⊎ (has ys j ≡ true)
one_of xs ys j h = by (has xs j) refl (sym (has-append xs ys j) ∙ h)
  where
    by : (x : Bool) → has xs j ≡ x → cond x true (has ys j) ≡ true → (has xs j ≡ true) ⊎ (has ys j ≡ true)
    by true e g = inl e
    by false e g = inr g

module _ (nodes : List Node) (rs : List Relation) (g : Ascending 0 nodes) where
  pub hangs_listed : (k j : ℕ) (m : Node) → node_at j nodes ≡ Some m → hangs_on (base nodes rs) (k ∷ []) m ≡ true → has (below nodes rs k) j ≡ true
  hangs_listed k j m at h =
      let own = own_serial j m nodes at in
      has_either (child_serials nodes k) (those (is_there nodes) (members_of rs k)) j
      (elim (or_cases (has (k ∷ []) m.parent && not (m.serial == 0)) (list_any (λ r. r.member == m.serial && has (k ∷ []) r.owner) rs) h) [
        | inl a ↦ inl (those_serial 0 (is_child k) nodes j m g at (sym (child_is k m) ∙ a))
        | inr b ↦ inr (those_keeps (is_there nodes) (members_of rs k) j (subst (λ (i : ℕ). has (members_of rs k) i ≡ true) own (sym (related_listed rs k m.serial) ∙ b)) (there_is nodes j m at))
      ])

  pub listed_hangs : (k j : ℕ) → has (below nodes rs k) j ≡ true → (m : Node) × (node_at j nodes ≡ Some m) × (hangs_on (base nodes rs) (k ∷ []) m ≡ true)
  listed_hangs k j h =
      elim (one_of (child_serials nodes k) (those (is_there nodes) (members_of rs k)) j h) [
        | inl a ↦
            let f = those_found 0 (is_child k) nodes j g a in
            (f.0, f.1, or_left (has (k ∷ []) f.0.parent && not (f.0.serial == 0)) (list_any (λ r. r.member == f.0.serial && has (k ∷ []) r.owner) rs) (child_is k f.0 ∙ f.2))
        | inr b ↦
            let two = those_has (is_there nodes) (members_of rs k) j b in
            let m = there_found nodes j two.1 in
            let own = own_serial j m.0 nodes m.1 in (
              m.0,
              m.1,
              or_right (has (k ∷ []) m.0.parent && not (m.0.serial == 0)) (list_any (λ r. r.member == m.0.serial && has (k ∷ []) r.owner) rs)
                  (related_listed rs k m.0.serial ∙ subst (λ (i : ℕ). has (members_of rs k) i ≡ true) (sym own) two.0),
            )
      ]
