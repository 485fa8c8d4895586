-- What an arrival does to the world, and what is kept of devices and nodes.
use Rattle.std.proofs.Common.{◌≡◌, ℕ, ◌+◌, ◌<◌, ◌↔◌, ◌==◌, ◌||◌, Bool, true, false, cond, List, [], ◌∷◌, ◌++◌, length, Option, Some, None, Result, Ok, Err, IfSome, OnOk, OnErr, IsErrOf, IsSome, nat_le, refl, sym, ◌∙◌, ap, subst, arith}
use Rattle.std.specs.List.{AllByRecursion, list_any}
use Rattle.std.proofs.lemmas.Bool.Decides.{nat_tests}
use Rattle.resource_reqs.specs.Resources.{Res, Reqs}
use Rattle.pnp_labels.specs.Texts.{Text}
use Rattle.pnp_model.specs.Records.{Device, Node}
use Rattle.pnp_model.specs.Keyed.{changed_first}
use Rattle.pnp_model.specs.Tests.{is_surprise_removed}
use Rattle.pnp_model.specs.States.{device_of, is_in_world, requires}
use Rattle.script_bus.proofs.Unplugs.{by_bool}
use Rattle.devnode_tree.specs.Trees.{Tree}
use Rattle.script_bus.specs.Worlds.{World, changed, plugged}
use Rattle.script_bus.specs.declared.error.PlugError.{PlugError}
use Rattle.script_bus.specs.declared.error.PlugError.TheVariants.{NoParent, SameId, WorldFull, WantOfMemory}
use Rattle.trial_journal.specs.ByKind.{Arbiters}
use Rattle.device_holdings.specs.Mirrors.{Mirrors}
use Rattle.pnp_machine.specs.Devices.{Arrives, NotJoining, IsHere, IsKept}

none_or_some : {A : Type 0} (o : Option A) → (o ≡ None → ⊥) → (x : A) × (o ≡ Some x)
none_or_some None never = absurd (never refl)
none_or_some (Some x) never = (x, refl)

module _ (w w' : World) (parent path : Text) (hw compat : List Text) (reqs : Reqs) where
  pub arrives : (r : Result ℕ PlugError)
      → IfSome (device_of parent w.devices) (λ over. OnOk r (w' ≡ plugged over.born path hw compat reqs w))
      → (IsErrOf r NoParent ↔ (device_of parent w.devices ≡ None))
      → (IsErrOf r SameId ↔ (IsSome (device_of parent w.devices) × IsSome (device_of path w.devices)))
      → (IsErrOf r WorldFull ↔ (IsSome (device_of parent w.devices) × (device_of path w.devices ≡ None) × (4096 < length w.devices)))
      → OnErr r (w' ≡ w) → Arrives w parent path hw compat reqs r w'
  arrives r took no_parent same full err = by_result r took no_parent same full err
    where
      some_is : {A : Type 0} (o : Option A) → IsSome o → (x : A) × (o ≡ Some x)
      some_is None h = absurd (cc)
      some_is (Some x) h = (x, refl)

      is_some_of : {A : Type 0} (o : Option A) (x : A) → o ≡ Some x → IsSome o
      is_some_of None x e = absurd (cc)
      is_some_of (Some y) x e = refl

      by_result : (r : Result ℕ PlugError)
          → IfSome (device_of parent w.devices) (λ over. OnOk r (w' ≡ plugged over.born path hw compat reqs w))
          → (IsErrOf r NoParent ↔ (device_of parent w.devices ≡ None))
          → (IsErrOf r SameId ↔ (IsSome (device_of parent w.devices) × IsSome (device_of path w.devices)))
          → (IsErrOf r WorldFull ↔ (IsSome (device_of parent w.devices) × (device_of path w.devices ≡ None) × (4096 < length w.devices)))
          → OnErr r (w' ≡ w) → Arrives w parent path hw compat reqs r w'
      by_result (Ok born) took no_parent same full err =
          let over = none_or_some (device_of parent w.devices) (λ none. let e = no_parent.1 none in cc) in
          let here = is_some_of (device_of parent w.devices) over.0 over.1 in
          let free : device_of path w.devices ≡ None = none_of (device_of path w.devices) (λ there. let e = same.1 (here, there) in cc) in
          let room : nat_le (length w.devices) 4096 ≡ true =
          le_or (length w.devices) (λ more. let e = full.1 (here, free, more) in cc) in
          (over.0, over.1, free, room, subst (λ o. IfSome o (λ d. w' ≡ plugged d.born path hw compat reqs w)) over.1 took)
        where
          none_of : {A : Type 0} (o : Option A) → (IsSome o → ⊥) → o ≡ None
          none_of None never = refl
          none_of (Some x) never = absurd (never refl)

          le_or : (n : ℕ) → (4096 < n → ⊥) → nat_le n 4096 ≡ true
          le_or n never = grind (arith, nat_tests, never)
      by_result (Err NoParent) took no_parent same full err = (no_parent.0 refl, err)
      by_result (Err SameId) took no_parent same full err =
          let both = same.0 refl in
          let over = some_is (device_of parent w.devices) both.0 in
          (over.0, over.1, some_is (device_of path w.devices) both.1, err)
      by_result (Err WorldFull) took no_parent same full err =
          let all = full.0 refl in
          let over = some_is (device_of parent w.devices) all.0 in
          let more : 4096 < length w.devices = all.2 in
          (over.0, over.1, all.1, grind (arith, nat_tests), err)
      by_result (Err WantOfMemory) took no_parent same full err = err

-- What is kept ---------------------------------------------------------------------

pub all_appended : {A : Type 0} (P : A → Type 0) (xs : List A) (y : A) → AllByRecursion P xs → P y → AllByRecursion P (xs ++ y ∷ [])
all_appended P [] y all here = (here, tt)
all_appended P (x ∷ xs) y all here = (all.0, all_appended P xs y all.1 here)

pub all_of : {A : Type 0} (P Q : A → Type 0) → ((x : A) → P x → Q x) → (xs : List A) → AllByRecursion P xs → AllByRecursion Q xs
all_of P Q f [] all = tt
all_of P Q f (x ∷ xs) all = (f x all.0, all_of P Q f xs all.1)

-- below no device one joins that was born before the first
pub none_before : (over : ℕ) (nodes : List Node) (ds : List Device) → AllByRecursion (NotJoining over 0 nodes) ds
none_before over nodes [] = tt
none_before over nodes (d ∷ ds) = (λ less. absurd (omega arith), none_before over nodes ds)

-- all children are looked at anew
pub kept_anew : (w w' : World) (t t' : Tree) (reserved reserved' : List Res) (arbiters arbiters' : Arbiters) (over from : ℕ) (whole : Option ℕ) (other : ℕ) → IsKept w t reserved arbiters over from whole
    → Mirrors reserved' t'.nodes arbiters' → IsKept w' t' reserved' arbiters' other 0 None
kept_anew w w' t t' reserved reserved' arbiters arbiters' over from whole other kept mirrors =
    record { listed = none_before other t'.nodes w'.devices; within = omega arith; here = λ k e. absurd (cc); mirrors = mirrors }

-- one of two holds where the second holds whenever another did
pub or_more : (a b c : Bool) → (b ≡ true → c ≡ true) → (a || b) ≡ true → (a || c) ≡ true
or_more true b c f h = refl
or_more false b c f h = f h

-- the world with one device more
any_more : {A : Type 0} (p : A → Bool) (xs : List A) (y : A) → list_any p xs ≡ true → list_any p (xs ++ y ∷ []) ≡ true
any_more p [] y h = absurd (cc)
any_more p (x ∷ xs) y h = by_bool (λ b. (b || list_any p xs) ≡ true → (b || list_any p (xs ++ y ∷ [])) ≡ true) (p x) (λ e h. refl) (λ e h. any_more p xs y h) h

module _ (w : World) (t : Tree) (reserved : List Res) (arbiters : Arbiters) (over from : ℕ) (whole : Option ℕ) (kept : IsKept w t reserved arbiters over from whole) where
  kept_arrived : (d : Device) → d.born ≡ w.next → (w' : World) → w'.devices ≡ w.devices ++ d ∷ [] → w'.next ≡ w.next + 1 → IsKept w' t reserved arbiters over from whole
  kept_arrived d born w' devices next =
      record {
        listed =
            subst (AllByRecursion (NotJoining over from t.nodes)) (sym devices)
            (all_appended (NotJoining over from t.nodes) w.devices d kept.listed (λ less. absurd (let le = kept.within in omega arith)));
        within = let le = kept.within in omega arith;
        here = λ k e.
            all_of (IsHere k w.devices) (IsHere k w'.devices)
            (λ n h child.
            or_more (is_surprise_removed n.state) (is_in_world w.devices n.born) (is_in_world w'.devices n.born)
            (λ there. subst (λ ds. is_in_world ds n.born ≡ true) (sym devices) (any_more (λ x. x.born == n.born) w.devices d there)) (h child))
            t.nodes (kept.here k e);
        mirrors = kept.mirrors;
      }

  same : (w' : World) → w' ≡ w → IsKept w' t reserved arbiters over from whole
  same w' is = subst (λ (x : World). IsKept x t reserved arbiters over from whole) (sym is) kept

  pub kept_arrival : (w' : World) (parent path : Text) (hw compat : List Text) (reqs : Reqs) (r : Result ℕ PlugError) → Arrives w parent path hw compat reqs r w' → IsKept w' t reserved arbiters over from whole
  kept_arrival w' parent path hw compat reqs (Ok born) (d, at, free, room, is) =
      kept_arrived (record { born = w.next; parent = d.born; path = path; hw = hw; compat = compat; reqs = reqs }) refl w'
      (ap (λ (x : World). x.devices) is) (ap (λ (x : World). x.next) is)
  kept_arrival w' parent path hw compat reqs (Err NoParent) (at, is) = same w' is
  kept_arrival w' parent path hw compat reqs (Err SameId) (d, at, there, is) = same w' is
  kept_arrival w' parent path hw compat reqs (Err WorldFull) (d, at, free, full, is) = same w' is
  kept_arrival w' parent path hw compat reqs (Err WantOfMemory) is = same w' is

-- A device requires something else ---------------------------------------------------

pub still_in_world : (k born : ℕ) (reqs : Reqs) (ds : List Device) → is_in_world (changed_first (λ d. d.born == k) (requires reqs) ds) born ≡ is_in_world ds born
still_in_world k born reqs [] = refl
still_in_world k born reqs (d ∷ ds) =
    by_bool (λ b. list_any (λ x. x.born == born) (cond b (requires reqs d ∷ ds) (d ∷ changed_first (λ x. x.born == k) (requires reqs) ds)) ≡ list_any (λ x. x.born == born) (d ∷ ds)) (d.born == k)
    (λ e. refl)
    (λ e. ap (λ (b : Bool). (d.born == born) || b) (still_in_world k born reqs ds))

still_not_joining : (over from : ℕ) (nodes : List Node) (k : ℕ) (reqs : Reqs) (ds : List Device) → AllByRecursion (NotJoining over from nodes) ds
    → AllByRecursion (NotJoining over from nodes) (changed_first (λ d. d.born == k) (requires reqs) ds)
still_not_joining over from nodes k reqs [] all = tt
still_not_joining over from nodes k reqs (d ∷ ds) all =
    by_bool (λ b. AllByRecursion (NotJoining over from nodes) (cond b (requires reqs d ∷ ds) (d ∷ changed_first (λ x. x.born == k) (requires reqs) ds))) (d.born == k)
    (λ e. (all.0, all.1))
    (λ e. (all.0, still_not_joining over from nodes k reqs ds all.1))

pub kept_changed : (w : World) (tree : Tree) (reserved : List Res) (arbiters : Arbiters) (over from : ℕ) (whole : Option ℕ) (k : ℕ) (reqs : Reqs)
    → IsKept w tree reserved arbiters over from whole → IsKept (changed k reqs w) tree reserved arbiters over from whole
kept_changed w tree reserved arbiters over from whole k reqs h =
    record {
      listed = still_not_joining over from tree.nodes k reqs w.devices h.listed;
      within = h.within;
      here = λ j e. all_of (IsHere j w.devices) (IsHere j (changed k reqs w).devices) (λ n here child. ap (λ (b : Bool). is_surprise_removed n.state || b) (still_in_world k n.born reqs w.devices) ∙ here child) tree.nodes (h.here j e);
      mirrors = h.mirrors;
    }
