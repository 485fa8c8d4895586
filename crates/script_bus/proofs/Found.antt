-- A device that was found by its path.
use Rattle.std.proofs.Common.{◌≡◌, ◌≢◌, ℕ, ◌+◌, ◌==◌, Bool, true, false, ◌||◌, cond, List, [], ◌∷◌, Option, Some, None, IsSome, IfSome, refl, sym, ap, ◌∙◌, arith, option_map}
use Rattle.std.specs.List.{find}
use Rattle.std.proofs.lemmas.Bool.Decides.{nat_tests}
use Rattle.pnp_labels.specs.Texts.{Text}
use Rattle.pnp_model.specs.Records.{Device}
use Rattle.pnp_model.specs.States.{device_born, device_of, is_in_world}
use Rattle.devnode_tree.specs.Trees.{Ascends}
use Rattle.script_bus.specs.Worlds.{World, IsWorld, births_of, parent_in, without_device}
use Rattle.script_bus.proofs.Places.{found_any, all_found}
use Rattle.script_bus.proofs.Unplugs.{by_bool, apart_from}

found_in : (p : Device → Bool) (ds : List Device) (born : ℕ) → option_map (λ (d : Device). d.born) (find p ds) ≡ Some born → is_in_world ds born ≡ true
found_in p [] born = λ e. absurd (cc)
found_in p (d ∷ ds) born =
    by_bool (λ b. option_map (λ (d : Device). d.born) (cond b (Some d) (find p ds)) ≡ Some born → is_in_world (d ∷ ds) born ≡ true) (p d)
    (λ t e. let same : d.born ≡ born = cc in let test : (d.born == born) ≡ true = grind (arith, nat_tests) in ap (λ b. b || is_in_world ds born) test)
    (λ t e. ap (λ b. (d.born == born) || b) (found_in p ds born e) ∙ or_last (d.born == born))
  where
    or_last : (b : Bool) → (b || true) ≡ true
    or_last true = refl
    or_last false = refl

-- it has a birth number of the world
pub born_there : (path : Text) (ds : List Device) (born : ℕ) → Some born ≡ option_map (λ (d : Device). d.born) (device_of path ds) → IsSome (device_born born ds)
born_there path ds born e = found_any (λ d. d.born == born) ds ∙ found_in _ ds born (sym e)

-- birth numbers differ, so a device is found again by its own
pub found_again : (p : Device → Bool) (low : ℕ) (ds : List Device) → Ascends low (births_of ds) → (d : Device) → find p ds ≡ Some d → device_born d.born ds ≡ Some d
found_again p low [] asc d = λ e. absurd (cc)
found_again p low (e ∷ ds) asc d =
    by_bool (λ b. cond b (Some e) (find p ds) ≡ Some d → device_born d.born (e ∷ ds) ≡ Some d) (p e)
    (λ t at. let same : e ≡ d = cc in let born = ap (λ (x : Device). x.born) same in let test : (e.born == d.born) ≡ true = grind (arith, nat_tests) in ap (λ b. cond b (Some e) (device_born d.born ds)) test ∙ at)
    (λ t at.
    let other : d.born ≢ e.born = all_found (λ (x : Device). x.born ≢ e.born) p ds (apart_from e.born (e.born + 1) ds (omega arith) asc.1) d at in
    let test : (e.born == d.born) ≡ false = differs d other in
    ap (λ b. cond b (Some e) (device_born d.born ds)) test ∙ found_again p (e.born + 1) ds asc.1 d at)
  where
    differs : (d : Device) → d.born ≢ e.born → (e.born == d.born) ≡ false
    differs d other = grind (arith, nat_tests)

module _ (w : World) (h : IsWorld w) (path : Text) where
  parent_by : (b : Bool) (born parent : ℕ) (d : Device) → device_born born w.devices ≡ Some d → Some parent ≡ cond b None (option_map (λ (d : Device). d.parent) (device_born born w.devices)) → parent ≡ d.parent
  parent_by true born parent d at e = absurd (cc)
  parent_by false born parent d at e = let is = e ∙ ap (option_map (λ (d : Device). d.parent)) at in cc

  pulled_one : (o : Option Device) (born parent : ℕ) (new : World) → device_of path w.devices ≡ o → Some born ≡ option_map (λ (d : Device). d.born) o → Some parent ≡ parent_in w.devices born → new ≡ without_device born w
      → IfSome o (λ d. (parent ≡ d.parent) × (new ≡ without_device d.born w))
  pulled_one None born parent new at is over out = tt
  pulled_one (Some d) born parent new at is over out =
      let same : born ≡ d.born = cc in
      let again = found_again _ 0 w.devices h.ascends d at in
      (parent_by (born == 0) born parent d (ap (λ k. device_born k w.devices) same ∙ again) over, out ∙ ap (λ k. without_device k w) same)

  -- it goes, and its parent is told
  pub pulled_is : (born parent : ℕ) (new : World) → Some born ≡ option_map (λ (d : Device). d.born) (device_of path w.devices) → Some parent ≡ parent_in w.devices born → new ≡ without_device born w
      → IfSome (device_of path w.devices) (λ d. (parent ≡ d.parent) × (new ≡ without_device d.born w))
  pulled_is born parent new = pulled_one (device_of path w.devices) born parent new refl

  none_by : (b : Bool) (born : ℕ) → (born == 0) ≡ b → IsSome (device_born born w.devices) → None ≡ cond b None (option_map (λ (d : Device). d.parent) (device_born born w.devices)) → born ≡ 0
  none_by true born test there e = grind (arith, nat_tests)
  none_by false born test there e = absurd (is_none (device_born born w.devices) there e)
    where
      is_none : (o : Option Device) → IsSome o → None ≡ option_map (λ (d : Device). d.parent) o → ⊥
      is_none None there e = let no : false ≡ true = there in cc
      is_none (Some d) there e = cc

  -- only the root has no parent
  pub root_is : (born : ℕ) → Some born ≡ option_map (λ (d : Device). d.born) (device_of path w.devices) → None ≡ parent_in w.devices born → option_map (λ (d : Device). d.born) (device_of path w.devices) ≡ Some 0
  root_is born is none = sym is ∙ ap Some (none_by (born == 0) born refl (born_there path w.devices born is) none)
