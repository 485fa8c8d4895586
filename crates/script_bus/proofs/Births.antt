-- Birth numbers that ascend: those below a number stand in front.
use Rattle.std.proofs.Common.{◌≡◌, ℕ, zero, suc, Bool, true, false, ◌+◌, ◌<◌, ◌≤◌, ◌&&◌, cond, List, [], ◌∷◌, drop, length, get_or, find, map, Some, inl, inr, nat_le, refl, sym, ◌∙◌, ap, subst, arith}
use Rattle.std.specs.Prelude.{nat_lt}
use Rattle.std.specs.List.Sorted.{IsPartitionedBy}
use Rattle.std.proofs.lemmas.Bool.{ltb-true, lt-ltb, cases_order}
use Rattle.std.proofs.lemmas.Bool.Decides.{nat_tests}
use Rattle.pnp_model.specs.Keyed.{those}
use Rattle.pnp_model.specs.Records.{Device}
use Rattle.devnode_tree.specs.Trees.{Ascends}
use Rattle.devnode_tree.proofs.Ascending.{rise, ascends_lower}
use Rattle.script_bus.specs.Worlds.{births_of}
use Rattle.script_bus.proofs.Unplugs.{by_cond}

-- of devices in the order of their births, some
pub births_ascend : (r : Device → Bool) (low : ℕ) (ds : List Device) → Ascends low (births_of ds) → Ascends low (births_of (those r ds))
births_ascend r low [] h = tt
births_ascend r low (d ∷ ds) h =
    by_cond (λ l. Ascends low (births_of l)) (r d) (d ∷ those r ds) (those r ds) (λ e. (h.0, births_ascend r (d.born + 1) ds h.1))
    (λ e. ascends_lower low (d.born + 1) (births_of (those r ds)) (let first = h.0 in omega arith) (births_ascend r (d.born + 1) ds h.1))

same_list : (ks : List ℕ) → map (λ k. k) ks ≡ ks
same_list [] = refl
same_list (k ∷ ks) = ap (λ l. k ∷ l) (same_list ks)

pub below_parts : (ks : List ℕ) (from : ℕ) → Ascends 0 ks → IsPartitionedBy (λ k. nat_lt k from) ks
below_parts ks from h i j d le within passes = elim (cases_order i j) [
  | inl e ↦ subst (λ n. nat_lt (get_or ks n d) from ≡ true) (sym e) passes
  | inr (inl less) ↦
      let rises = rise (λ k. k) 0 ks (subst (Ascends 0) (sym (same_list ks)) h) i j d less within in
      let below = ltb-true (get_or ks j d) from passes in
      lt-ltb (get_or ks i d) from (omega arith)
  | inr (inr more) ↦ absurd (omega arith)
]

-- those in front that do not pass are passed over
find_on : (p : ℕ → Bool) (ks : List ℕ) (first : ℕ) → first ≤ length ks → ((k d : ℕ) → k < first → p (get_or ks k d) ≡ false) → find p (drop first ks) ≡ find p ks
find_on p [] zero within fails = refl
find_on p [] (suc first) within fails = absurd (omega arith)
find_on p (k ∷ ks) zero within fails = refl
find_on p (k ∷ ks) (suc first) within fails =
    find_on p ks first (omega arith) (λ j d less. fails (suc j) d (omega arith))
    ∙ sym (ap (λ b. cond b (Some k) (find p ks)) (fails zero k (omega arith)))

pub find_from : (new : ℕ → Bool) (from : ℕ) (ks : List ℕ) (first : ℕ) → first ≤ length ks → ((k d : ℕ) → k < first → get_or ks k d < from)
    → find (λ k. nat_le from k && new k) (drop first ks) ≡ find (λ k. nat_le from k && new k) ks
find_from new from ks first within below = find_on (λ k. nat_le from k && new k) ks first within (λ k d less. fails (get_or ks k d) (below k d less))
  where
    fails : (k : ℕ) → k < from → (nat_le from k && new k) ≡ false
    fails k less = let test : nat_le from k ≡ false = grind (arith, nat_tests) in ap (λ b. b && new k) test
