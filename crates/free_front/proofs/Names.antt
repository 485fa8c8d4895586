-- Names that are given in a rack one after another, some of them late.
use Rattle.std.proofs.Common.{◌≡◌, ◌<◌, ◌+◌, ◌-◌, ℕ, Bool, true, false, List, [], ◌∷◌, ◌++◌, drop, length, Option, Some, None, cond, refl, sym, ap, ◌∙◌, slice_get, get_or, arith}
use Rattle.std.specs.Prelude.{find}
use Rattle.std.proofs.lemmas.Slice.Eq.{bytes_eq-Decides}
use Rattle.device_ids.specs.Folding.{folded, same}
use Rattle.pnp_labels.specs.Texts.{Text}
use Rattle.pnp_labels.specs.declared.words.DriverKind.{DriverKind}
use Rattle.pnp_model.specs.Books.{is_named, is_unnamed, with_name}
use Rattle.pnp_model.specs.Keyed.{changed_first}
use Rattle.pnp_model.specs.Records.{Driver}
use Rattle.free_front.specs.declared.racks.Naming.{Naming}
use Rattle.free_front.specs.declared.told.ToldRacks.{ToldRacks}
use Rattle.free_front.specs.Racks.{named_by, named, named_all, list_of}
use Rattle.free_front.specs.ToldRacks.{AreAlike, AreTold, AreUp}

-- A name that is given twice ----------------------------------------------------------------

same_self : (name : Text) → same name name ≡ true
same_self name = (bytes_eq-Decides (folded name) (folded name)).1 refl

module _ (name : Text) (kind : DriverKind) where
  abbrev given : List Driver → List Driver
  given rack = changed_first (is_unnamed kind) (with_name name) rack

  -- where no driver has the name after it was given, there was none to get it
  none_got_or : (d : Driver) (rack : List Driver) (b : Bool) → (find (is_named name) (given rack) ≡ None → given rack ≡ rack) → find (is_named name) (cond b (with_name name d ∷ rack) (d ∷ given rack)) ≡ None
      → cond b (with_name name d ∷ rack) (d ∷ given rack) ≡ d ∷ rack
  none_got_or d rack true more e =
      let bad : Some (with_name name d) ≡ None = sym (ap (λ (b : Bool). cond b (Some (with_name name d)) (find (is_named name) rack)) (same_self name)) ∙ e in
      absurd (cc)
  none_got_or d rack false more e = ap (λ (ds : List Driver). d ∷ ds) (more (passed (is_named name d) e))
    where
      passed : (b : Bool) → cond b (Some d) (find (is_named name) (given rack)) ≡ None → find (is_named name) (given rack) ≡ None
      passed true e = absurd (cc)
      passed false e = e

  none_got : (rack : List Driver) → find (is_named name) (given rack) ≡ None → given rack ≡ rack
  none_got [] e = refl
  none_got (d ∷ rack) e = none_got_or d rack (is_unnamed kind d) (none_got rack) e

  given_again : (rack : List Driver) (o : Option Driver) → find (is_named name) (given rack) ≡ o → named_by name kind (given rack) o ≡ given rack
  given_again rack (Some d) e = refl
  given_again rack None e = ap given (none_got rack e)

  named_again : (rack : List Driver) (o : Option Driver) → find (is_named name) rack ≡ o → named name kind (named_by name kind rack o) ≡ named_by name kind rack o
  named_again rack (Some d) e = ap (named_by name kind rack) e
  named_again rack None e = given_again rack (find (is_named name) (given rack)) refl

  -- the second time changes nothing
  named_twice : (rack : List Driver) → named name kind (named name kind rack) ≡ named name kind rack
  named_twice rack = named_again rack (find (is_named name) rack) refl

-- Names that are late -----------------------------------------------------------------------

pub first_of : (late : List Naming) (first : Naming) → 0 < length late → first ≡ get_or late 0 first → slice_get late 0 ≡ Some first
first_of [] first some is = absurd (omega arith)
first_of (naming ∷ late) first some is = ap Some (sym is)

-- the first that is late was given, and is still late
pub first_given : (late : List Naming) (first : Naming) (rack new : List Driver) → slice_get late 0 ≡ Some first → new ≡ named first.name first.kind rack → named_all late new ≡ named_all late rack
first_given [] first rack new at is = absurd (cc)
first_given (naming ∷ late) first rack new at is =
    let one : naming ≡ first = cc in
    ap (λ (r : List Driver). named_all late (named naming.name naming.kind r)) (is ∙ ap (λ (n : Naming). named n.name n.kind rack) (sym one))
    ∙ ap (named_all late) (named_twice naming.name naming.kind rack)

-- and is late no more
pub first_gone : (late : List Naming) (first : Naming) (rack new : List Driver) → slice_get late 0 ≡ Some first → new ≡ named first.name first.kind rack → named_all (drop 1 late) new ≡ named_all late rack
first_gone [] first rack new at is = absurd (cc)
first_gone (naming ∷ late) first rack new at is =
    let one : naming ≡ first = cc in
    ap (named_all late) (is ∙ ap (λ (n : Naming). named n.name n.kind rack) (sym one))

-- those behind are given after those before
pub named_append : (late more : List Naming) (rack : List Driver) → named_all (late ++ more) rack ≡ named_all more (named_all late rack)
named_append [] more rack = refl
named_append (naming ∷ late) more rack = named_append late more (named naming.name naming.kind rack)

pub alike_self : (racks : ToldRacks) → AreAlike racks racks
alike_self racks = record { ok = refl; fail = refl; pend = refl }

pub alike_on : (old mid new : ToldRacks) → AreAlike old mid → AreAlike mid new → AreAlike old new
alike_on old mid new a b = record { ok = b.ok ∙ a.ok; fail = b.fail ∙ a.fail; pend = b.pend ∙ a.pend }

pub told_alike : (own : List Driver) (old new : ToldRacks) → AreTold own old → AreAlike old new → AreTold own new
told_alike own old new so a = record { ok = a.ok ∙ so.ok; fail = a.fail ∙ so.fail; pend = a.pend ∙ so.pend }

-- where no name is late any more, the drivers have them all
pub up_from : (own : List Driver) (old new : ToldRacks) → AreTold own old → AreAlike old new → new.late.items ≡ [] → AreUp own new
up_from own old new so a none =
    record {
      ok = sym (ap (λ (late : List Naming). named_all late new.ok) none) ∙ a.ok ∙ so.ok;
      fail = sym (ap (λ (late : List Naming). named_all late new.fail) none) ∙ a.fail ∙ so.fail;
      pend = sym (ap (λ (late : List Naming). named_all late new.pend) none) ∙ a.pend ∙ so.pend;
      none = none;
    }

pub told_from : (own : List Driver) (racks : ToldRacks) → AreUp own racks → AreTold own racks
told_from own racks up =
    record {
      ok = ap (λ (late : List Naming). named_all late racks.ok) up.none ∙ up.ok;
      fail = ap (λ (late : List Naming). named_all late racks.fail) up.none ∙ up.fail;
      pend = ap (λ (late : List Naming). named_all late racks.pend) up.none ∙ up.pend;
    }

-- a name more is late, and then some are given
pub heard_one : (late : List Naming) (naming : Naming) (all : List Naming) (rack : List Driver) (after : List Driver) → all ≡ late ++ naming ∷ [] → after ≡ named_all all rack → after ≡ named_all (naming ∷ []) (named_all late rack)
heard_one late naming all rack after is so = so ∙ ap (λ (names : List Naming). named_all names rack) is ∙ named_append late (naming ∷ []) rack
