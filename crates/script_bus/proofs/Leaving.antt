-- One turn of taking a device and all below it out: a device without children goes.
use Rattle.std.proofs.Common.{◌≡◌, ◌≢◌, ℕ, ◌+◌, ◌<◌, ◌==◌, Bool, true, false, ◌||◌, cond, List, [], ◌∷◌, length, Some, None, unwrap_or, refl, sym, ap, ◌∙◌, arith, option_map, inl, inr}
use Rattle.std.specs.List.{list_any, AllByRecursion}
use Rattle.std.proofs.lemmas.Bool.Decides.{nat_tests}
use Rattle.pnp_model.specs.Keyed.{without_first}
use Rattle.pnp_model.specs.Records.{Device}
use Rattle.pnp_model.specs.States.{device_born, is_in_world, without_those}
use Rattle.pnp_model.specs.Tests.{has}
use Rattle.devnode_tree.specs.Trees.{Ascends}
use Rattle.script_bus.specs.Worlds.{World, IsWorld, births_of, child_births, parent_in, HasParent, without_device}
use Rattle.script_bus.proofs.Places.{all_found, found_passes}
use Rattle.script_bus.proofs.Unplugs.{by_bool, final, Rules, gone_out, leaf_first, no_root_goes, goes_up, in_births}

pub shorter : (test : Device → Bool) (ds : List Device) → list_any test ds ≡ true → length (without_first test ds) < length ds
shorter test [] = λ e. absurd (cc)
shorter test (d ∷ ds) =
    by_bool (λ b. (b || list_any test ds) ≡ true → length (cond b ds (d ∷ without_first test ds)) < length (d ∷ ds)) (test d)
    (λ t e. omega arith)
    (λ t e. let l = shorter test ds e in omega arith)

none_above : (k low : ℕ) (ds : List Device) → k < low → Ascends low (births_of ds) → is_in_world ds k ≡ false
none_above k low [] l h = refl
none_above k low (d ∷ ds) l h = let a = h.0 in let rest = none_above k (d.born + 1) ds (omega arith) h.1 in grind (arith, nat_tests)

-- birth numbers differ, so who goes is not there any more
left_out : (k low : ℕ) (ds : List Device) → Ascends low (births_of ds) → is_in_world (without_first (λ d. d.born == k) ds) k ≡ false
left_out k low [] h = refl
left_out k low (d ∷ ds) h =
    by_bool (λ b. (d.born == k) ≡ b → is_in_world (cond b ds (d ∷ without_first (λ d. d.born == k) ds)) k ≡ false) (d.born == k)
    (λ t same. none_above k (d.born + 1) ds (grind (arith, nat_tests)) h.1)
    (λ t apart. ap (λ b. b || is_in_world (without_first (λ d. d.born == k) ds) k) apart ∙ left_out k (d.born + 1) ds h.1)
    refl

still_there : (k y : ℕ) (ds : List Device) → y ≢ k → is_in_world (without_first (λ d. d.born == k) ds) y ≡ is_in_world ds y
still_there k y [] other = refl
still_there k y (d ∷ ds) other =
    by_bool (λ b. (d.born == k) ≡ b → is_in_world (cond b ds (d ∷ without_first (λ d. d.born == k) ds)) y ≡ is_in_world (d ∷ ds) y) (d.born == k)
    (λ t same. let apart : (d.born == y) ≡ false = grind (arith, nat_tests) in sym (ap (λ b. b || is_in_world ds y) apart))
    (λ t apart. ap (λ b. (d.born == y) || b) (still_there k y ds other))
    refl

some_born : (k : ℕ) (ds : List Device) → is_in_world ds k ≡ true → (d : Device) × (device_born k ds ≡ Some d)
some_born k [] = λ e. absurd (cc)
some_born k (d ∷ ds) =
    by_bool (λ b. (b || is_in_world ds k) ≡ true → (e : Device) × (cond b (Some d) (device_born k ds) ≡ Some e)) (d.born == k)
    (λ t e. (d, refl))
    (λ t e. some_born k ds e)

module _ (w0 w : World) (born leaf : ℕ) (h0 : IsWorld w0) (h : IsWorld w) (other : born ≢ 0)
    (rules : AllByRecursion (Rules born (final (born ∷ []) w0.devices)) w.devices)
    (there : is_in_world w.devices leaf ≡ true) (bare : child_births w.devices leaf ≡ []) (goes : has (final (born ∷ []) w0.devices) leaf ≡ true) where
  pub not_root : leaf ≢ 0
  not_root e = let stays = no_root_goes w0 born h0 other in let zero_goes = ap (has (final (born ∷ []) w0.devices)) (sym e) ∙ goes in absurd (cc)

  pub outcome_kept : without_those (born ∷ []) w.devices ≡ without_those (born ∷ []) w0.devices → without_those (born ∷ []) (without_first (λ d. d.born == leaf) w.devices) ≡ without_those (born ∷ []) w0.devices
  outcome_kept outcome =
      leaf_first leaf w.devices (born ∷ []) 0 h.ascends bare (ap (λ l. is_in_world l leaf) outcome ∙ gone_out leaf w0.devices (born ∷ []) 0 h0.ascends goes) ∙ outcome

  its : (d : Device) × (device_born leaf w.devices ≡ Some d)
  its = some_born leaf w.devices there

  parent_is : parent_in w.devices leaf ≡ Some its.0.parent
  parent_is =
      let test : (leaf == 0) ≡ false = not_zero not_root in
      ap (λ b. cond b None (option_map (λ (d : Device). d.parent) (device_born leaf w.devices))) test ∙ ap (option_map (λ (d : Device). d.parent)) its.1
    where
      not_zero : leaf ≢ 0 → (leaf == 0) ≡ false
      not_zero other = grind (arith, nat_tests)

  born_is : its.0.born ≡ leaf
  born_is = let passes = found_passes (λ d. d.born == leaf) w.devices its.0 its.1 in grind (arith, nat_tests)

  parent_there : HasParent (births_of w.devices) its.0 → (its.0.parent < leaf) × (is_in_world w.devices its.0.parent ≡ true)
  parent_there (inl root) = absurd (not_root (sym born_is ∙ root.0))
  parent_there (inr low) = (let l = low.0 in let b = born_is in omega arith, sym (in_births w.devices its.0.parent) ∙ low.1)

  up : (its.0.parent < leaf) × (is_in_world w.devices its.0.parent ≡ true)
  up = parent_there (all_found (HasParent (births_of w.devices)) (λ d. d.born == leaf) w.devices h.parents its.0 its.1)

  apart : is_in_world (without_first (λ d. d.born == leaf) w.devices) born ≡ true → leaf ≢ born
  apart still same = let gone = left_out leaf 0 w.devices h.ascends in let here = ap (is_in_world (without_first (λ d. d.born == leaf) w.devices)) same in absurd (cc)

  -- the next turn begins at the parent of who went
  module _ (at : ℕ) (next : at ≡ unwrap_or (parent_in w.devices leaf) born) where
    at_is : at ≡ its.0.parent
    at_is = next ∙ ap (λ o. unwrap_or o born) parent_is

    pub at_there : is_in_world (without_first (λ d. d.born == leaf) w.devices) born ≡ true → is_in_world (without_first (λ d. d.born == leaf) w.devices) at ≡ true
    at_there still =
        let lower = up.0 in
        ap (is_in_world (without_first (λ d. d.born == leaf) w.devices)) at_is ∙ (still_there leaf its.0.parent w.devices (λ e. omega arith) ∙ up.1)

    pub at_goes : is_in_world (without_first (λ d. d.born == leaf) w.devices) born ≡ true → has (final (born ∷ []) w0.devices) at ≡ true
    at_goes still = ap (has (final (born ∷ []) w0.devices)) at_is ∙ goes_up born (final (born ∷ []) w0.devices) w.devices rules leaf its.0 its.1 goes (apart still)

pub nobody : (w : World) (born : ℕ) → without_those (born ∷ []) w.devices ≡ w.devices → w ≡ without_device born w
nobody w born e = ap (λ ds. let v : World = record { devices = ds; next = w.next } in v) (sym e)

pub all_out : (w0 w : World) (born : ℕ) → without_those (born ∷ []) w.devices ≡ w.devices → without_those (born ∷ []) w.devices ≡ without_those (born ∷ []) w0.devices → w.next ≡ w0.next → w ≡ without_device born w0
all_out w0 w born none outcome next = λ i. let v : World = record { devices = (sym none ∙ outcome) i; next = next i } in v
