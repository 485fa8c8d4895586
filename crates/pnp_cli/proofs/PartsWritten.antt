-- A text that is written a part at a time.
use Rattle.std.proofs.Common.{◌≡◌, ℕ, List, [], ◌++◌, Option, refl, sym, ◌∙◌, ap, subst, append_assoc, append-nil}
use Rattle.pnp_io.specs.Outside.{Appends, AppendsFront}
use Rattle.pnp_labels.specs.Texts.{Text}
use Rattle.pnp_cli.specs.Turns.{Passes}
use Rattle.pnp_cli.proofs.Fronts.{none_appends, none_is_front, appends_both, front_in, front_after}

pub passes_none : (t : Option Text) (waits : Text) → Passes t waits t waits
passes_none t waits = record { wrote = []; took = none_appends t; all = refl }

-- a part came in front of what is left, and was written
pub part_passes : (old mid new : Option Text) (whole text part text' rest rest' : Text) → Passes old whole mid (text ++ rest) → part ++ rest' ≡ text ++ rest
    → Appends mid new part → text' ≡ [] → Passes old whole new (text' ++ rest')
part_passes old mid new whole text part text' rest rest' h same took none =
    record {
      wrote = h.wrote ++ part;
      took = appends_both old mid new h.wrote part h.took took;
      all =
          h.all ∙ ap (λ (x : List ℕ). h.wrote ++ x) (sym same) ∙ sym (append_assoc h.wrote part rest')
          ∙ ap (λ (x : List ℕ). (h.wrote ++ part) ++ (x ++ rest')) (sym none);
    }

-- only a front of it was written
pub part_front : (old mid new : Option Text) (whole text part rest rest' : Text) → Passes old whole mid (text ++ rest) → part ++ rest' ≡ text ++ rest
    → AppendsFront mid new part → AppendsFront old new whole
part_front old mid new whole text part rest rest' h same front =
    let all : (h.wrote ++ part) ++ rest' ≡ whole = append_assoc h.wrote part rest' ∙ ap (λ (x : List ℕ). h.wrote ++ x) same ∙ sym h.all in
    subst (λ (x : List ℕ). AppendsFront old new x) all (front_in old new (h.wrote ++ part) rest' (front_after old mid new h.wrote part h.took front))

-- and nothing of it
pub passed_front : (old mid : Option Text) (whole text rest : Text) → Passes old whole mid (text ++ rest) → AppendsFront old mid whole
passed_front old mid whole text rest h = part_front old mid mid whole text [] rest (text ++ rest) h refl (none_is_front mid [])

-- the last part was written
pub last_written : (old mid new : Option Text) (whole text part rest : Text) → Passes old whole mid (text ++ rest) → part ++ [] ≡ text ++ rest
    → Appends mid new part → Appends old new whole
last_written old mid new whole text part rest h same took =
    let all : h.wrote ++ part ≡ whole = ap (λ (x : List ℕ). h.wrote ++ x) (sym (append-nil part) ∙ same) ∙ sym h.all in
    subst (λ (x : List ℕ). Appends old new x) all (appends_both old mid new h.wrote part h.took took)
