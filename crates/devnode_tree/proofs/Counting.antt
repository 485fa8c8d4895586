-- Open handles as the entries of a map in order of serial.
use Rattle.std.proofs.lemmas.Bool.Decides.{nat_tests}
use Rattle.std.proofs.Common.{◌≡◌, ℕ, ◌==◌, ◌+◌, ◌-◌, ◌≤◌, ◌<◌, true, List, [], ◌∷◌, Option, Some, None, option_map, unwrap_or, is_some, find, nat_lt, IfSome, IsTrue, refl, sym, ap, subst, ◌∙◌, arith}
use Rattle.std.proofs.lemmas.Cmp.{nat_cmp_total}
use Rattle.std.proofs.lemmas.Option.{none-some}
use Rattle.std.proofs.lemmas.Map.{lookup-none}
use Rattle.std.proofs.lemmas.Map.Entries.{none_below_head, lookup_tail}
use Rattle.std.proofs.lemmas.Map.Keys.{sorted_tail}
use Rattle.std.proofs.lemmas.Map.Views.{IfSome-lookup_from_All}
use Rattle.std.specs.Map.{lookup, remove_entry, set_value, keys_of}
use Rattle.std.specs.BTreeMap.{is_at, insert_entry}
use Rattle.std.specs.Ordering.{is_eq, nat_cmp}
use Rattle.std.proofs.Common.{Ordering, Less, Equal, Greater}
use Rattle.std.specs.List.Sorted.{IsStrictlySortedBy}
use Rattle.pnp_model.specs.Keyed.{changed_first, without_first, put_before}
use Rattle.pnp_model.specs.Records.{Handle}
use Rattle.pnp_model.specs.Handles.{is_handle_of, is_open, comes_after, one_more, one_less, opened, closed_with}
use Rattle.devnode_tree.specs.Counts.{handles_of, AreOpen, handle_with, count_of}

-- the test of a key, and that of a handle
tested : (k j : ℕ) → is_at (nat_cmp k) j ≡ (j == k)
tested k j = grind (arith, nat_tests)

module _ (k : ℕ) where
  pub found : (es : List (ℕ × ℕ)) → find (is_handle_of k) (handles_of es) ≡ option_map (λ n. record { serial = k; count = n }) (lookup (is_at (nat_cmp k)) es)
  found [] = refl
  found (e ∷ es) = grind (arith, nat_tests, tested k e.0, found es)

  pub open_there : (es : List (ℕ × ℕ)) → is_open (handles_of es) k ≡ is_some (lookup (is_at (nat_cmp k)) es)
  open_there [] = refl
  open_there (e ∷ es) = grind (arith, tested k e.0, open_there es)

  pub removed : (es : List (ℕ × ℕ)) → handles_of (remove_entry (is_at (nat_cmp k)) es) ≡ without_first (is_handle_of k) (handles_of es)
  removed [] = refl
  removed (e ∷ es) = grind (arith, tested k e.0, removed es)

  -- the first count that is found, put where a change of the handle puts it
  pub changed : (f : Handle → Handle) (n w : ℕ) → f (record { serial = k; count = n }) ≡ record { serial = k; count = w } → (es : List (ℕ × ℕ)) → lookup (is_at (nat_cmp k)) es ≡ Some n
      → handles_of (set_value (is_at (nat_cmp k)) es w) ≡ changed_first (is_handle_of k) f (handles_of es)
  changed f n w is [] there = grind arith
  changed f n w is (e ∷ es) there = grind (arith, nat_tests, tested k e.0, is, changed f n w is es)

  pub put_new : (es : List (ℕ × ℕ)) (n : ℕ) → lookup (is_at (nat_cmp k)) es ≡ None
      → handles_of (insert_entry nat_cmp es k n) ≡ put_before (comes_after k) (record { serial = k; count = n }) (handles_of es)
  put_new [] n none = refl
  put_new (e ∷ es) n none = grind (arith, nat_tests, put_new es n)

  pub put_again : (es : List (ℕ × ℕ)) (n w : ℕ) → IsStrictlySortedBy nat_cmp (keys_of es) → lookup (is_at (nat_cmp k)) es ≡ Some n → insert_entry nat_cmp es k w ≡ set_value (is_at (nat_cmp k)) es w
  put_again [] n w sorted there = grind arith
  put_again (e ∷ es) n w sorted there = by_order (nat_cmp k e.0) refl (put_again es n w (sorted_tail nat_cmp e.0 (keys_of es) sorted))
    where
      by_order : (o : Ordering) → nat_cmp k e.0 ≡ o → (lookup (is_at (nat_cmp k)) es ≡ Some n → insert_entry nat_cmp es k w ≡ set_value (is_at (nat_cmp k)) es w)
          → insert_entry nat_cmp (e ∷ es) k w ≡ set_value (is_at (nat_cmp k)) (e ∷ es) w
      by_order Less below further = absurd (none-some n (sym (lookup-none (is_at (nat_cmp k)) (e ∷ es) (none_below_head nat_cmp_total k e es sorted below)) ∙ there))
      by_order Equal at further = rw at refl
      by_order Greater above further = rw above (ap (λ rest. e ∷ rest) (further (sym (lookup_tail (is_at (nat_cmp k)) e es (ap is_eq above)) ∙ there)))

  -- how many are open, by what the map has
  pub count_is : (es : List (ℕ × ℕ)) (o : Option ℕ) → o ≡ lookup (is_at (nat_cmp k)) es → unwrap_or o 0 ≡ count_of (handles_of es) k
  count_is es None is = rw (found es, ← is) refl
  count_is es (Some n) is = rw (found es, ← is) refl

  some_is : (es : List (ℕ × ℕ)) (n : ℕ) → Some n ≡ lookup (is_at (nat_cmp k)) es → AreOpen es → 1 ≤ n
  some_is es n is all = subst (λ (o : Option ℕ). IfSome o (λ m. 1 ≤ m)) (sym is) (IfSome-lookup_from_All (λ m. 1 ≤ m) (is_at (nat_cmp k)) es all)

  pub handle_is : (es : List (ℕ × ℕ)) → AreOpen es → (o : Option ℕ) → o ≡ lookup (is_at (nat_cmp k)) es → find (is_handle_of k) (handles_of es) ≡ handle_with k (unwrap_or o 0)
  handle_is es all None is = rw (found es, ← is) refl
  handle_is es all (Some n) is = rw (found es, ← is) (at_least n (some_is es n is all))
    where
      at_least : (m : ℕ) → 1 ≤ m → Some (record { serial = k; count = m }) ≡ handle_with k m
      at_least m some = grind (arith, nat_tests)

  pub open_is : (es : List (ℕ × ℕ)) → AreOpen es → (o : Option ℕ) → o ≡ lookup (is_at (nat_cmp k)) es → is_open (handles_of es) k ≡ nat_lt 0 (unwrap_or o 0)
  open_is es all None is = rw (open_there es, ← is) refl
  open_is es all (Some n) is = rw (open_there es, ← is) (at_least n (some_is es n is all))
    where
      at_least : (m : ℕ) → 1 ≤ m → true ≡ nat_lt 0 m
      at_least m some = grind (arith, nat_tests)

  pub is_there : (es : List (ℕ × ℕ)) → IsTrue (is_open (handles_of es) k) → None ≡ lookup (is_at (nat_cmp k)) es → ⊥
  is_there es some none = grind (arith, open_there es)

  -- one more
  pub one_opened : (es : List (ℕ × ℕ)) → IsStrictlySortedBy nat_cmp (keys_of es) → handles_of (insert_entry nat_cmp es k (count_of (handles_of es) k + 1)) ≡ opened k (handles_of es)
  one_opened es sorted = by_lookup (lookup (is_at (nat_cmp k)) es) refl
    where
      by_lookup : (o : Option ℕ) → lookup (is_at (nat_cmp k)) es ≡ o → handles_of (insert_entry nat_cmp es k (count_of (handles_of es) k + 1)) ≡ opened k (handles_of es)
      by_lookup None none = rw (found es, open_there es, none) (put_new es 1 none)
      by_lookup (Some n) there =
          rw (found es, open_there es, there) (ap handles_of (put_again es n (n + 1) sorted there) ∙ changed one_more n (n + 1) refl es there)

  -- the last one
  pub last_closed : (es : List (ℕ × ℕ)) → count_of (handles_of es) k ≡ 1
      → handles_of (remove_entry (is_at (nat_cmp k)) es) ≡ closed_with k (handles_of es) (nat_lt 1 (count_of (handles_of es) k))
  last_closed es last = rw last (removed es)

  -- and one of several
  pub one_closed : (es : List (ℕ × ℕ)) (n : ℕ) → lookup (is_at (nat_cmp k)) es ≡ Some n → 1 < n
      → handles_of (set_value (is_at (nat_cmp k)) es (n - 1)) ≡ closed_with k (handles_of es) (nat_lt 1 n)
  one_closed es n there more = rw (more_than n more) (changed one_less n (n - 1) refl es there)
    where
      more_than : (m : ℕ) → 1 < m → nat_lt 1 m ≡ true
      more_than m some = grind (arith, nat_tests)
