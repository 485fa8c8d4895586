-- Labels that are told, one after another.
use Rattle.std.proofs.Common.{◌≡◌, ℕ, List, [], ◌∷◌, ◌++◌, Option, refl, sym, ◌∙◌, ap, subst, append_assoc, append-nil}
use Rattle.pnp_io.specs.Outside.{Appends, AppendsFront}
use Rattle.pnp_labels.specs.Texts.{Text, label_line}
use Rattle.pnp_labels.specs.declared.label.Label.{Label}
use Rattle.pnp_cli.specs.Outputs.{text_of}
use Rattle.pnp_cli.specs.Tallies.{with_one, with_all}
use Rattle.pnp_cli.specs.Turns.{Told, Held, Passes}
use Rattle.pnp_cli.specs.declared.tally.Tally.{Tally}
use Rattle.pnp_cli.proofs.Fronts.{none_appends, none_is_front, appends_both, front_in, front_after, all_is_front}

pub text_append : (xs ys : List Label) → text_of (xs ++ ys) ≡ text_of xs ++ text_of ys
text_append [] ys = refl
text_append (x ∷ xs) ys = ap (λ t. label_line x ++ 10 ∷ t) (text_append xs ys) ∙ sym (append_assoc (label_line x) (10 ∷ text_of xs) (text_of ys))

with_append : (tally : Tally) (xs ys : List Label) → with_all tally (xs ++ ys) ≡ with_all (with_all tally xs) ys
with_append tally [] ys = refl
with_append tally (x ∷ xs) ys = with_append (with_one tally x) xs ys

pub told_none : (taken : Option Text) (tally : Tally) → Told taken tally [] taken tally
told_none taken tally = record { took = none_appends taken; counted = refl }

pub told_both : (t t' t'' : Option Text) (c c' c'' : Tally) (xs ys : List Label) → Told t c xs t' c' → Told t' c' ys t'' c'' → Told t c (xs ++ ys) t'' c''
told_both t t' t'' c c' c'' xs ys h g =
    record {
      took = subst (λ (x : List ℕ). Appends t t'' x) (sym (text_append xs ys)) (appends_both t t' t'' (text_of xs) (text_of ys) h.took g.took);
      counted = g.counted ∙ ap (λ (x : Tally). with_all x ys) h.counted ∙ sym (with_append c xs ys);
    }

-- only lines that were written whole
pub labels_told : (t t' : Option Text) (all xs ys : List Label) → all ≡ xs ++ ys → Appends t t' (text_of xs) → AppendsFront t t' (text_of all)
labels_told t t' all xs ys is h =
    subst (λ (x : List ℕ). AppendsFront t t' x) (sym (ap text_of is ∙ text_append xs ys))
    (front_in t t' (text_of xs) (text_of ys) (all_is_front t t' (text_of xs) h))

-- Lines that wait -------------------------------------------------------------------------

pub held_none : (t : Option Text) (p : Text) (c : Tally) → Held t p c [] t p c
held_none t p c = record { wrote = []; took = none_appends t; all = append-nil p; counted = refl }

-- what was written, what waits, and further lines
pub held_text : (t t' : Option Text) (p p' : Text) (c c' : Tally) (xs ys : List Label) → (h : Held t p c xs t' p' c') → h.wrote ++ (p' ++ text_of ys) ≡ p ++ text_of (xs ++ ys)
held_text t t' p p' c c' xs ys h =
    sym (append_assoc h.wrote p' (text_of ys)) ∙ ap (λ (x : List ℕ). x ++ text_of ys) (sym h.all) ∙ append_assoc p (text_of xs) (text_of ys)
    ∙ ap (λ (x : List ℕ). p ++ x) (sym (text_append xs ys))

pub held_both : (t t' t'' : Option Text) (p p' p'' : Text) (c c' c'' : Tally) (xs ys : List Label) → Held t p c xs t' p' c' → Held t' p' c' ys t'' p'' c'' → Held t p c (xs ++ ys) t'' p'' c''
held_both t t' t'' p p' p'' c c' c'' xs ys h g =
    record {
      wrote = h.wrote ++ g.wrote;
      took = appends_both t t' t'' h.wrote g.wrote h.took g.took;
      all = sym (held_text t t' p p' c c' xs ys h) ∙ ap (λ (x : List ℕ). h.wrote ++ x) g.all ∙ sym (append_assoc h.wrote g.wrote p'');
      counted = g.counted ∙ ap (λ (x : Tally). with_all x ys) h.counted ∙ sym (with_append c xs ys);
    }

-- one label more, and then a part of what waits is written
pub held_one : (t t' : Option Text) (p p' p'' : Text) (c c' : Tally) (label : Label) → p' ≡ p ++ text_of (label ∷ []) → c' ≡ with_one c label → Passes t p' t' p'' → Held t p c (label ∷ []) t' p'' c'
held_one t t' p p' p'' c c' label put counted passes = record { wrote = passes.wrote; took = passes.took; all = sym put ∙ passes.all; counted = counted }

-- where what was told is followed by a front of what waits and of further lines
pub lines_front : (t t' t'' : Option Text) (p p' : Text) (c c' : Tally) (all xs ys zs : List Label) → all ≡ xs ++ (ys ++ zs) → Held t p c xs t' p' c' → AppendsFront t' t'' (p' ++ text_of ys) → AppendsFront t t'' (p ++ text_of all)
lines_front t t' t'' p p' c c' all xs ys zs is h front =
    let more : AppendsFront t t'' (p ++ text_of (xs ++ ys)) = subst (λ (x : List ℕ). AppendsFront t t'' x) (held_text t t' p p' c c' xs ys h) (front_after t t' t'' h.wrote (p' ++ text_of ys) h.took front) in
    subst (λ (x : List ℕ). AppendsFront t t'' x)
    (append_assoc p (text_of (xs ++ ys)) (text_of zs) ∙ ap (λ (x : List ℕ). p ++ x) (sym (text_append (xs ++ ys) zs) ∙ ap text_of (append_assoc xs ys zs ∙ sym is)))
    (front_in t t'' (p ++ text_of (xs ++ ys)) (text_of zs) more)

pub lines_held : (t t' : Option Text) (p p' : Text) (c c' : Tally) (all xs ys : List Label) → all ≡ xs ++ ys → Held t p c xs t' p' c' → AppendsFront t t' (p ++ text_of all)
lines_held t t' p p' c c' all xs ys is h = lines_front t t' t' p p' c c' all xs [] ys is h (none_is_front t' (p' ++ text_of []))

-- and where what waits is written
pub lines_last : (t t' t'' : Option Text) (p p' : Text) (c c' : Tally) (all xs ys : List Label) → all ≡ xs ++ ys → Held t p c xs t' p' c' → AppendsFront t' t'' p' → AppendsFront t t'' (p ++ text_of all)
lines_last t t' t'' p p' c c' all xs ys is h front =
    lines_front t t' t'' p p' c c' all xs [] ys is h (subst (λ (x : List ℕ). AppendsFront t' t'' x) (sym (append-nil p')) front)

-- where what waits is written, nothing waits
pub held_written : (t t' t'' : Option Text) (p p' : Text) (c c' : Tally) (xs : List Label) → Held t p c xs t' p' c' → Appends t' t'' p' → Held t p c xs t'' [] c'
held_written t t' t'' p p' c c' xs h took =
    record { wrote = h.wrote ++ p'; took = appends_both t t' t'' h.wrote p' h.took took; all = h.all ∙ sym (append-nil (h.wrote ++ p')); counted = h.counted }

-- lines that came behind none, and of which none waits, were written
pub all_told : (t t' : Option Text) (c c' : Tally) (xs : List Label) → Held t [] c xs t' [] c' → Told t c xs t' c'
all_told t t' c c' xs h = record { took = subst (λ (x : List ℕ). Appends t t' x) (sym (h.all ∙ append-nil h.wrote)) h.took; counted = h.counted }

pub held_front : (t t' : Option Text) (p p' : Text) (c c' : Tally) (xs : List Label) → Held t p c xs t' p' c' → AppendsFront t t' (p ++ text_of xs)
held_front t t' p p' c c' xs h = lines_held t t' p p' c c' xs xs [] (sym (labels_nil xs)) h
  where
    labels_nil : (ls : List Label) → ls ++ [] ≡ ls
    labels_nil [] = refl
    labels_nil (x ∷ rest) = ap (λ (r : List Label). x ∷ r) (labels_nil rest)
