-- Each device of the world stands behind its parent.
use Rattle.std.proofs.Common.{ℕ, ◌≡◌, ◌⊎◌, ◌==◌, ◌||◌, inl, inr, Bool, true, false, cond, List, [], ◌∷◌, ◌++◌, Some, Contains, refl, sym, ap, subst, ◌∙◌, append_assoc}
use Rattle.std.proofs.lemmas.List.{append-nil}
use Rattle.std.proofs.lemmas.List.Elements.{Contains-append_left, Contains-append_right}
use Rattle.std.specs.List.{find}
use Rattle.pnp_model.specs.Keyed.{changed_first}
use Rattle.pnp_model.specs.Records.{Device, Driver, Settings, State}
use Rattle.pnp_model.specs.Runs.{Entry}
use Rattle.pnp_model.specs.States.{requires, without_those}
use Rattle.pnp_model.specs.Tests.{has}
use Rattle.device_ids.specs.Folding.{same}
use Rattle.resource_reqs.specs.Resources.{Reqs}
use Rattle.pnp_laws.specs.Effects.{WorldEffect}
use Rattle.pnp_laws.specs.Reached.{IsReached}
use Rattle.pnp_laws.proofs.Decides.{contains_here}
use Rattle.pnp_laws.proofs.EffectsOf.{effect_goes}
use Rattle.pnp_laws.proofs.Lists.{cons_here, cons_there, has_cases}
use Rattle.pnp_laws.proofs.Reaching.{kept}
use Rattle.pnp_laws.proofs.Truths.{or_neither}
use Rattle.pnp_promises.specs.World.{WorldStandsLaw}

-- each stands behind its parent, or behind one of these
abbrev Stand : List ℕ → List Device → Type 0
Stand seen [] = Unit {0}
Stand seen (d ∷ ds) = ((d.born ≡ 0) ⊎ (has seen d.parent ≡ true)) × Stand (d.born ∷ seen) ds

-- Where devices go ---------------------------------------------------------------------------------------

-- who was seen has gone, or is seen still
abbrev Covers : List ℕ → List ℕ → List ℕ → Type 0
Covers gone seen left = (k : ℕ) → has seen k ≡ true → (has gone k ≡ true) ⊎ (has left k ≡ true)

covers_gone : (gone seen left : List ℕ) (j : ℕ) → Covers gone seen left → Covers (j ∷ gone) (j ∷ seen) left
covers_gone gone seen left j h k in_seen =
    elim (has_cases j k seen in_seen) [
      | inl e ↦ inl (subst (λ (i : ℕ). has (j ∷ gone) i ≡ true) e (cons_here j gone))
      | inr q ↦ elim (h k q) [ inl a ↦ inl (cons_there j gone k a) | inr b ↦ inr b ]
    ]

covers_left : (gone seen left : List ℕ) (j : ℕ) → Covers gone seen left → Covers gone (j ∷ seen) (j ∷ left)
covers_left gone seen left j h k in_seen =
    elim (has_cases j k seen in_seen) [
      | inl e ↦ inr (subst (λ (i : ℕ). has (j ∷ left) i ≡ true) e (cons_here j left))
      | inr q ↦ elim (h k q) [ inl a ↦ inl a | inr b ↦ inr (cons_there j left k b) ]
    ]

stand_gone : (gone seen left : List ℕ) (world : List Device) → Covers gone seen left → Stand seen world → Stand left (without_those gone world)
stand_gone gone seen left [] h stands = tt
stand_gone gone seen left (d ∷ ds) h stands =
    by_b (has gone d.born || has gone d.parent) refl (stand_gone (d.born ∷ gone) (d.born ∷ seen) left ds (covers_gone gone seen left d.born h) stands.1)
    (stand_gone gone (d.born ∷ seen) (d.born ∷ left) ds (covers_left gone seen left d.born h) stands.1)
  where
    parent_left : (has gone d.born || has gone d.parent) ≡ false → (d.born ≡ 0) ⊎ (has left d.parent ≡ true)
    parent_left stays =
        elim stands.0 [
          | inl root ↦ inl root
          | inr over ↦ elim (h d.parent over) [
            | inl gone_too ↦ absurd (let two = or_neither (has gone d.born) (has gone d.parent) stays in let n = two.1 in cc)
            | inr there ↦ inr there
          ]
        ]

    by_b : (b : Bool) → (has gone d.born || has gone d.parent) ≡ b → Stand left (without_those (d.born ∷ gone) ds) → Stand (d.born ∷ left) (without_those gone ds)
        → Stand left (cond b (without_those (d.born ∷ gone) ds) (d ∷ without_those gone ds))
    by_b true e goes stays = goes
    by_b false e goes stays = (parent_left e, stays)

none_covered : (gone : List ℕ) → Covers gone [] []
none_covered gone k h = absurd (cc)

-- Where one comes, or needs something else ------------------------------------------------------------------

abbrev births : List Device → List ℕ → List ℕ
births [] seen = seen
births (d ∷ ds) seen = births ds (d.born ∷ seen)

births_keep : (world : List Device) (seen : List ℕ) (k : ℕ) → has seen k ≡ true → has (births world seen) k ≡ true
births_keep [] seen k h = h
births_keep (d ∷ ds) seen k h = births_keep ds (d.born ∷ seen) k (cons_there d.born seen k h)

births_have : (test : Device → Bool) (world : List Device) (seen : List ℕ) (d : Device) → find test world ≡ Some d → has (births world seen) d.born ≡ true
births_have test [] seen d h = absurd (cc)
births_have test (x ∷ xs) seen d h = by_b (test x) h (births_have test xs (x.born ∷ seen) d)
  where
    by_b : (b : Bool) → cond b (Some x) (find test xs) ≡ Some d → (find test xs ≡ Some d → has (births xs (x.born ∷ seen)) d.born ≡ true) → has (births xs (x.born ∷ seen)) d.born ≡ true
    by_b true e more = let is : x ≡ d = cc in subst (λ (y : Device). has (births xs (x.born ∷ seen)) y.born ≡ true) is (births_keep xs (x.born ∷ seen) x.born (cons_here x.born seen))
    by_b false e more = more e

stand_plugged : (seen : List ℕ) (world : List Device) (d : Device) → has (births world seen) d.parent ≡ true → Stand seen world → Stand seen (world ++ d ∷ [])
stand_plugged seen [] d h stands = (inr h, tt)
stand_plugged seen (x ∷ xs) d h stands = (stands.0, stand_plugged (x.born ∷ seen) xs d h stands.1)

stand_changed : (test : Device → Bool) (reqs : Reqs) (seen : List ℕ) (world : List Device) → Stand seen world → Stand seen (changed_first test (requires reqs) world)
stand_changed test reqs seen [] stands = tt
stand_changed test reqs seen (x ∷ xs) stands = by_b (test x) (stand_changed test reqs (x.born ∷ seen) xs stands.1)
  where
    by_b : (b : Bool) → Stand (x.born ∷ seen) (changed_first test (requires reqs) xs) → Stand seen (cond b (requires reqs x ∷ xs) (x ∷ changed_first test (requires reqs) xs))
    by_b true more = (stands.0, stands.1)
    by_b false more = (stands.0, more)

-- The law ------------------------------------------------------------------------------------------------

stand_goes : (s : State) (entry : Entry) (t : State) → Stand [] s.world → WorldEffect s entry t → Stand [] t.world
stand_goes s entry t stands (WorldEffect.same e born) = subst (λ (x : List Device). Stand [] x) (sym e) stands
stand_goes s entry t stands (WorldEffect.plugged d plugged e born) =
    subst (λ (x : List Device). Stand [] x) (sym e)
    (stand_plugged [] s.world d (subst (λ (k : ℕ). has (births s.world []) k ≡ true) (sym plugged.under) (births_have (λ (x : Device). same x.path plugged.parent) s.world [] plugged.over plugged.there)) stands)
stand_goes s entry t stands (WorldEffect.changed node path reqs label at other up there event e born) =
    subst (λ (x : List Device). Stand [] x) (sym e) (stand_changed (λ (x : Device). x.born == node.born) reqs [] s.world stands)
stand_goes s entry t stands (WorldEffect.unplugged born unplugs e next) =
    subst (λ (x : List Device). Stand [] x) (sym e) (stand_gone (born ∷ []) [] [] s.world (none_covered (born ∷ [])) stands)

always_stands : (settings : Settings) (rack : List Driver) (s : State) → IsReached settings rack s → Stand [] s.world
always_stands settings rack s reached =
    kept (λ (x : State). Stand [] x.world) settings rack (λ old entry new there stands goes. stand_goes old entry new stands (effect_goes settings old entry new goes).world) (inl refl, tt) s reached

-- who is seen stands before
stand_first : (front : List Device) (seen : List ℕ) (world : List Device) → ((k : ℕ) → has seen k ≡ true → (p : Device) × Contains front p × (p.born ≡ k)) → Stand seen world
    → (before : List Device) (d : Device) (after : List Device) → world ≡ before ++ d ∷ after → (d.born ≡ 0) ⊎ ((p : Device) × Contains (front ++ before) p × (p.born ≡ d.parent))
stand_first front seen [] known stands [] d after e = absurd (let e2 : [] ≡ d ∷ after = e in cc)
stand_first front seen [] known stands (b ∷ bs) d after e = absurd (let e2 : [] ≡ b ∷ (bs ++ d ∷ after) = e in cc)
stand_first front seen (x ∷ xs) known stands [] d after e =
    let e2 : x ∷ xs ≡ d ∷ after = e in
    let is : x ≡ d = cc in
    elim stands.0 [
      | inl root ↦ inl (ap (λ (y : Device). y.born) (sym is) ∙ root)
      | inr over ↦ let p = known x.parent over in inr (p.0, subst (λ (l : List Device). Contains l p.0) (sym (append-nil front)) p.1, p.2 ∙ ap (λ (y : Device). y.parent) is)
    ]
stand_first front seen (x ∷ xs) known stands (b ∷ bs) d after e =
    let e2 : x ∷ xs ≡ b ∷ (bs ++ d ∷ after) = e in
    let is : x ≡ b = cc in
    let rest : xs ≡ bs ++ d ∷ after = cc in
    elim (stand_first (front ++ x ∷ []) (x.born ∷ seen) xs (more_known x) stands.1 bs d after rest) [
      | inl root ↦ inl root
      | inr p ↦ inr (p.0, subst (λ (l : List Device). Contains l p.0) (append_assoc front (x ∷ []) bs ∙ ap (λ (y : Device). front ++ y ∷ bs) is) p.1, p.2)
    ]
  where
    more_known : (x : Device) → (k : ℕ) → has (x.born ∷ seen) k ≡ true → (p : Device) × Contains (front ++ x ∷ []) p × (p.born ≡ k)
    more_known x k h =
        elim (has_cases x.born k seen h) [
          | inl e ↦ (x, Contains-append_right front (x ∷ []) x (contains_here x []), e)
          | inr q ↦ let p = known k q in (p.0, Contains-append_left front (x ∷ []) p.0 p.1, p.2)
        ]

pub world_stands : WorldStandsLaw
world_stands settings rack entries s run before d after e =
    stand_first [] [] s.world (λ k h. absurd (cc)) (always_stands settings rack s (entries, run)) before d after e
