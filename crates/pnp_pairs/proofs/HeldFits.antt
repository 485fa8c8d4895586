-- What a device holds is an assignment for it alone, beside all that others hold: so a search that stays within the budget finds one.
use Rattle.std.proofs.Common.{ℕ, suc, ◌≡◌, ◌≢◌, inl, inr, Bool, true, false, List, [], ◌∷◌, ◌++◌, Some, Contains, refl, sym, subst, arith, cond}
use Rattle.std.specs.List.{AllByRecursion}
use Rattle.std.proofs.lemmas.Bool.Decides.{nat_tests}
use Rattle.std.proofs.lemmas.List.Elements.{Contains-append_cases}
use Rattle.resource_reqs.specs.Resources.{Free, IsAssignment, NoClash, Res, Whole}
use Rattle.resource_reqs.specs.Spelling.{Answer, IsAnswer, assignment, no_fit, spent}
use Rattle.resource_reqs.proofs.Answering.{no_fit_means}
use Rattle.pnp_model.specs.Cores.{node_at}
use Rattle.pnp_model.specs.Frames.{fixed_beside, held_by, is_beside}
use Rattle.pnp_model.specs.Keyed.{those}
use Rattle.pnp_model.specs.Records.{Core, Node}
use Rattle.pnp_model.specs.Sharing.{Clear}
use Rattle.pnp_laws.specs.Kept.{Ascending}
use Rattle.pnp_laws.proofs.AnswerThere.{answer_some}
use Rattle.pnp_laws.proofs.Closures.{head_at, tail_at}
use Rattle.pnp_laws.proofs.Sharing.{free_from, here, there}
use Rattle.pnp_pairs.proofs.Enabling.{nil_end}

-- what is held beside a device is held by another
record HeldBy (k : ℕ) (nodes : List Node) (r : Res) : Type 0 where
  holder : ℕ
  node : Node
  at : node_at holder nodes ≡ Some node
  other : holder ≢ k
  has_it : Contains node.holds r

held_beside : (k lo : ℕ) (nodes : List Node) (r : Res) → Ascending lo nodes → Contains (held_by (those (is_beside (k ∷ [])) nodes)) r → HeldBy k nodes r
held_beside k lo [] r order c = absurd (let q = c.1 in omega arith)
held_beside k lo (n ∷ ns) r order c = by_test (is_beside (k ∷ []) n) refl (held_beside k (suc n.serial) ns r order.1) c
  where
    on : HeldBy k ns r → HeldBy k (n ∷ ns) r
    on more = record { holder = more.holder; node = more.node; at = tail_at lo n ns more.holder more.node order more.at; other = more.other; has_it = more.has_it }

    by_test : (b : Bool) → is_beside (k ∷ []) n ≡ b → (Contains (held_by (those (is_beside (k ∷ [])) ns)) r → HeldBy k ns r) → Contains (held_by (cond b (n ∷ those (is_beside (k ∷ [])) ns) (those (is_beside (k ∷ [])) ns))) r → HeldBy k (n ∷ ns) r
    by_test false e more h = on (more h)
    by_test true e more h =
        elim (Contains-append_cases n.holds (held_by (those (is_beside (k ∷ [])) ns)) r h) [
          | inl q ↦ record { holder = n.serial; node = n; at = head_at n ns; other = λ same. (let z : n.serial ≡ k = same in grind (arith, nat_tests)); has_it = q }
          | inr q ↦ on (more q)
        ]

each_of : (P : Res → Type 0) (xs : List Res) → ((r : Res) → Contains xs r → P r) → AllByRecursion P xs
each_of P [] all = tt
each_of P (x ∷ xs) all = (all x (here x xs), each_of P xs (λ r c. all r (there x xs r c)))

module _ (c : Core) (n : Node) (order : Ascending 0 c.nodes) (clear : Clear c.reserved c.nodes) (at : node_at n.serial c.nodes ≡ Some n) (whole : Whole n.reqs n.holds) where
  free : (r : Res) → Contains n.holds r → Free (fixed_beside c (n.serial ∷ [])) r
  free r own =
      free_from (fixed_beside c (n.serial ∷ [])) r (λ a fixed clash.
      elim (Contains-append_cases c.reserved (held_by (those (is_beside (n.serial ∷ [])) c.nodes)) a fixed) [
        | inl q ↦ clear.beside n.serial n at a r q own clash
        | inr q ↦ let by = held_beside n.serial 0 c.nodes a order q in clear.two by.holder n.serial by.node n by.other by.at at a r by.has_it own clash
      ])

  held_fits : IsAssignment (fixed_beside c (n.serial ∷ [])) (n.reqs ∷ []) (n.holds ∷ [])
  held_fits =
      let own : n.holds ≡ n.holds ++ [] = sym (nil_end n.holds) in
      record {
        whole = (whole, tt);
        apart = subst NoClash own (clear.own n.serial n at);
        beside = subst (λ (xs : List Res). AllByRecursion (Free (fixed_beside c (n.serial ∷ []))) xs) own (each_of (Free (fixed_beside c (n.serial ∷ []))) n.holds free);
      }

  pub finds_some : (budget : ℕ) → (IsAnswer (fixed_beside c (n.serial ∷ [])) (n.reqs ∷ []) budget spent → ⊥) → (plan : List (List Res)) × IsAnswer (fixed_beside c (n.serial ∷ [])) (n.reqs ∷ []) budget (assignment plan)
  finds_some budget within = by_answer (answer_some (fixed_beside c (n.serial ∷ [])) (n.reqs ∷ []) budget).0 (answer_some (fixed_beside c (n.serial ∷ [])) (n.reqs ∷ []) budget).1
    where
      by_answer : (found : Answer) → IsAnswer (fixed_beside c (n.serial ∷ [])) (n.reqs ∷ []) budget found → (plan : List (List Res)) × IsAnswer (fixed_beside c (n.serial ∷ [])) (n.reqs ∷ []) budget (assignment plan)
      by_answer (assignment plan) is = (plan, is)
      by_answer no_fit is = absurd (((no_fit_means (fixed_beside c (n.serial ∷ [])) (n.reqs ∷ []) budget).0 is).0 (n.holds ∷ [], held_fits))
      by_answer spent is = absurd (within is)
