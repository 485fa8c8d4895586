-- Devices that are found are noted once.
use Rattle.std.proofs.Common.{◌≡◌, ◌≢◌, ℕ, ◌+◌, ◌<◌, inl, inr, Bool, true, false, cond, List, [], ◌∷◌, ◌++◌, length, take, get_or, Option, Some, None, is_some, nat_eq, refl, sym, ap, ◌∙◌, subst, arith, append_assoc, append-nil}
use Rattle.std.specs.Borrow.{Bor}
use Rattle.std.specs.Option.{option_copied}
use Rattle.std.specs.HashMap.{HashMap, get}
use Rattle.std.proofs.lemmas.Bool.{cases_eq}
use Rattle.std.proofs.lemmas.Bool.Decides.{nat_tests}
use Rattle.std.proofs.lemmas.List.{take_more}
use Rattle.pnp_model.specs.Tests.{has}
use Rattle.pnp_laws.specs.Kept.{Distinct}
use Rattle.pnp_laws.proofs.Lists.{has-append}
use Rattle.relations.specs.Searches.{IsKept, Notes, IsCounted}
use Rattle.relations.proofs.Directs.{has_either, one_of}

distinct_push : (xs : List ℕ) (k : ℕ) → Distinct xs → has xs k ≡ false → Distinct (xs ++ k ∷ [])
distinct_push [] k d h = (refl, tt)
distinct_push (x ∷ xs) k d h =
    let apart : has (xs ++ k ∷ []) x ≡ false = has-append xs (k ∷ []) x ∙ ap (λ b. cond b true (has (k ∷ []) x)) d.0 ∙ grind (arith, nat_tests) in
    (apart, distinct_push xs k d.1 (grind (arith, nat_tests)))

none_both : (xs ys : List ℕ) (j : ℕ) → has (xs ++ ys) j ≡ false → (has xs j ≡ false) × (has ys j ≡ false)
none_both xs ys j h = by (has xs j) refl (sym (has-append xs ys j) ∙ h)
  where
    by : (b : Bool) → has xs j ≡ b → cond b true (has ys j) ≡ false → (has xs j ≡ false) × (has ys j ≡ false)
    by true e g = absurd (cc)
    by false e g = (e, g)

module _ {S : Type 0} where
  -- a map without entries has nothing
  pub kept_none : (m : HashMap ℕ ℕ S) → ((q : ℕ) → get nat_eq m q ≡ None) → IsKept [] m
  kept_none m h = record { distinct = tt; keys = λ k. ap is_some (h k) }

  pub noted_new : (order : List ℕ) (m n : HashMap ℕ ℕ S) (k : ℕ) → IsKept order m → is_some (get nat_eq m k) ≡ false
      → ((q : ℕ) → get nat_eq n q ≡ cond (nat_eq k q) (Some 0) (get nat_eq m q)) → Notes order (order ++ k ∷ []) m n (k ∷ [])
  noted_new order m n k kept none set =
      let at = set k in
      let here : get nat_eq n k ≡ Some 0 = grind (arith, nat_tests, at) in
      let other : (q : ℕ) → k ≢ q → get nat_eq n q ≡ get nat_eq m q = λ q d. let s = set q in grind (arith, nat_tests, s) in
      record {
        kept = record {
          distinct = distinct_push order k kept.distinct (sym (kept.keys k) ∙ none);
          keys = λ q. elim (cases_eq k q) [
            | inl e ↦
                subst (λ (i : ℕ). is_some (get nat_eq n i) ≡ has (order ++ k ∷ []) i) e
                (ap is_some here ∙ sym (has_either order (k ∷ []) k (inr (grind (arith, nat_tests)))))
            | inr d ↦
                let out : has (k ∷ []) q ≡ false = grind (arith, nat_tests) in
                ap is_some (other q d) ∙ (kept.keys q ∙ sym (has-append order (k ∷ []) q ∙ ap (λ b. cond (has order q) true b) out ∙ plain (has order q)))
          ];
        };
        more = k ∷ [];
        appended = refl;
        all = λ q h. elim (cases_eq k q) [
          | inl e ↦ subst (λ (i : ℕ). is_some (get nat_eq n i) ≡ true) e (ap is_some here)
          | inr d ↦ absurd (let out : has (k ∷ []) q ≡ false = grind (arith, nat_tests) in cc)
        ];
        same = λ q h. elim (cases_eq k q) [
          | inl e ↦ absurd (let no = subst (λ (i : ℕ). is_some (get nat_eq m i) ≡ false) e none in cc)
          | inr d ↦ other q d
        ];
        only = λ q h out. elim (cases_eq k q) [
          | inl e ↦ absurd (let in_it : has (k ∷ []) q ≡ true = grind (arith, nat_tests) in cc)
          | inr d ↦ ap is_some (sym (other q d)) ∙ h
        ];
      }
    where
      plain : (b : Bool) → cond b true false ≡ b
      plain true = refl
      plain false = refl

  pub noted_none : (order : List ℕ) (m : HashMap ℕ ℕ S) → IsKept order m → Notes order order m m []
  noted_none order m kept =
      record {
        kept = kept;
        more = [];
        appended = sym (append-nil order);
        all = λ q h. absurd (cc);
        same = λ q h. refl;
        only = λ q h out. h;
      }

  -- one after another
  pub noted_next : (o p q : List ℕ) (l m n : HashMap ℕ ℕ S) (ks : List ℕ) (i x : ℕ) → i < length ks → x ≡ get_or ks i x
      → Notes o p l m (take i ks) → Notes p q m n (x ∷ []) → Notes o q l n (take (i + 1) ks)
  noted_next o p q l m n ks i x lt is a b =
      let next : take (i + 1) ks ≡ take i ks ++ x ∷ [] = take_more ks i x lt ∙ ap (λ y. take i ks ++ y ∷ []) (sym is) in
      subst (λ (js : List ℕ). Notes o q l n js) (sym next)
      (record {
        kept = b.kept;
        more = a.more ++ b.more;
        appended = b.appended ∙ (ap (λ l. l ++ b.more) a.appended ∙ append_assoc o a.more b.more);
        all = λ k h. elim (one_of (take i ks) (x ∷ []) k h) [
          | inl u ↦ let old = a.all k u in ap is_some (b.same k old) ∙ old
          | inr u ↦ b.all k u
        ];
        same = λ k h. let first = a.same k h in b.same k (ap is_some first ∙ h) ∙ first;
        only = λ k h out. let two = none_both (take i ks) (x ∷ []) k out in a.only k (b.only k h two.1) two.0;
      })

  -- a count of one that is there
  pub kept_counted : (order : List ℕ) (m n : HashMap ℕ ℕ S) (k x : ℕ) → IsKept order m → has order k ≡ true → IsCounted m n k x → IsKept order n
  kept_counted order m n k x kept there set =
      record {
        distinct = kept.distinct;
        keys = λ q. let s = set q in let key = kept.keys q in elim (cases_eq k q) [
          | inl e ↦ let at = subst (λ (i : ℕ). has order i ≡ true) e there in grind (arith, nat_tests, s, at)
          | inr d ↦ grind (arith, nat_tests, s, key)
        ];
      }

  -- what a look-up did not find is not there
  pub not_found : (r : Option (Bor ℕ)) (m : HashMap ℕ ℕ S) (k : ℕ) → option_copied r ≡ get nat_eq m k → is_some r ≡ false → is_some (get nat_eq m k) ≡ false
  not_found None m k e h = ap is_some (sym e)
  not_found (Some x) m k e h = absurd (cc)

  pub empty_none : (m : HashMap ℕ ℕ S) → m.entries ≡ [] → (q : ℕ) → get nat_eq m q ≡ None
  empty_none m h q = rw h refl
