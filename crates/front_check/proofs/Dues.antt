-- The end of an output against what stands in a trace.
use Rattle.std.proofs.Common.{ℕ, ◌+◌, ◌≡◌, Bool, true, false, List, [], ◌∷◌, ◌++◌, length, refl, sym, ap, ◌∙◌, subst, arith, if◌then◌else◌, append_assoc, drop, ◌≤◌}
use Rattle.std.proofs.lemmas.Bool.{eqb-true, eqb-false}
use Rattle.std.proofs.lemmas.List.{drop_all}
use Rattle.std.specs.Prelude.{◌==◌, ◌||◌}
use Rattle.pnp_labels.specs.Texts.{Text}
use Rattle.pnp_model.specs.Records.{Settings}
use Rattle.pnp_model.specs.Endings.{joined}
use Rattle.free_model.specs.Checks.{has_feed}
use Rattle.free_model.proofs.Lines.{or_false}
use Rattle.trace_check.specs.Letters.{lines_alike}
use Rattle.front_check.specs.FrontChecks.{Ends, Follow, IsStuck, IsNo}
use Rattle.front_check.specs.Turns.{Tells}
use Rattle.front_check.proofs.Endings.{follow_due}
use Rattle.trace_check.specs.declared.check.Checked.{Checked}
use Rattle.front_check.proofs.Telling.{feed_append, no_feed_both}
use Rattle.front_check.proofs.Verdicts.{no_on}

or_true : (b : Bool) → (b || true) ≡ true
or_true true = refl
or_true false = refl

-- where no LF is there is no line with its LF
no_line : (text line more : Text) → has_feed text ≡ false → text ≡ line ++ 10 ∷ more → ⊥
no_line text line more clear is =
    let bad : false ≡ true = sym clear ∙ ap has_feed is ∙ feed_append line (10 ∷ more) ∙ or_true (has_feed line) in absurd (cc)

nil_behind : (front rest : Text) → front ++ rest ≡ [] → rest ≡ []
nil_behind [] rest e = e
nil_behind (x ∷ front) rest e = absurd (cc)

not_feed : (x : ℕ) (xs : Text) → x ≡ 10 → has_feed (x ∷ xs) ≡ false → ⊥
not_feed x xs e h = let bad : has_feed (10 ∷ xs) ≡ false = subst (λ (y : ℕ). has_feed (y ∷ xs) ≡ false) e h in absurd (cc)

head_of : (x y : ℕ) (xs ys : Text) → x ∷ xs ≡ y ∷ ys → x ≡ y
head_of x y xs ys e = cc

tail_of : (x y : ℕ) (xs ys : Text) → x ∷ xs ≡ y ∷ ys → xs ≡ ys
tail_of x y xs ys e = cc

-- texts that differ behind a front without LF do not begin with one line
differ : (front : Text) (a b : ℕ) (xs ys line m n : Text) → has_feed front ≡ false → (a ≡ b → ⊥) → has_feed line ≡ false → front ++ a ∷ xs ≡ line ++ 10 ∷ m → front ++ b ∷ ys ≡ line ++ 10 ∷ n → ⊥
differ [] a b xs ys [] m n clear not none e f = not (head_of a 10 xs m e ∙ sym (head_of b 10 ys n f))
differ [] a b xs ys (c ∷ line) m n clear not none e f = not (head_of a c xs (line ++ 10 ∷ m) e ∙ sym (head_of b c ys (line ++ 10 ∷ n) f))
differ (c ∷ front) a b xs ys [] m n clear not none e f = not_feed c front (head_of c 10 (front ++ a ∷ xs) m e) clear
differ (c ∷ front) a b xs ys (d ∷ line) m n clear not none e f =
    differ front a b xs ys line m n (or_false (c == 10) (has_feed front) clear).1 not (or_false (d == 10) (has_feed line) none).1
    (tail_of c d (front ++ a ∷ xs) (line ++ 10 ∷ m) e) (tail_of c d (front ++ b ∷ ys) (line ++ 10 ∷ n) f)

stuck_here : (told : Settings) (due rest : Text) → IsStuck told (Ends due) rest → IsNo told (Ends due) rest (0 + 1)
stuck_here told due rest stuck = ([], Ends due, rest, refl, refl, stuck, refl)

clear_nil : (front : Text) → has_feed front ≡ false → has_feed (front ++ []) ≡ false
clear_nil front clear = no_feed_both front [] clear refl

ends_of : (xs ys : Text) → Ends xs ≡ Ends ys → xs ≡ ys
ends_of xs ys e = cc

-- a byte that both have
moved : (told : Settings) (front : Text) (byte : ℕ) (due rest : Text) (number : ℕ) → IsNo told (Ends ((front ++ byte ∷ []) ++ due)) ((front ++ byte ∷ []) ++ rest) number
    → IsNo told (Ends (front ++ byte ∷ due)) (front ++ byte ∷ rest) number
moved told front byte due rest number h =
    subst (λ (t : Text). IsNo told (Ends t) (front ++ byte ∷ rest) number) (append_assoc front (byte ∷ []) due)
    (subst (λ (t : Text). IsNo told (Ends ((front ++ byte ∷ []) ++ due)) t number) (append_assoc front (byte ∷ []) rest) h)

-- behind a front without LF that both have
pub some_alike : (told : Settings) (front due rest : Text) → has_feed front ≡ false → (due ≡ rest → ⊥) → IsNo told (Ends (front ++ due)) (front ++ rest) (lines_alike due rest + 1)
some_alike told front [] rest clear not =
    stuck_here told (front ++ []) (front ++ rest)
    (record {
      unallowed = λ line more next is (after, due_is, none, _). no_line (front ++ []) line after (clear_nil front clear) due_is;
      undone = λ none here. not (sym (nil_behind front rest none));
    })
some_alike told front (a ∷ due) [] clear not =
    stuck_here told (front ++ a ∷ due) (front ++ [])
    (record {
      unallowed = λ line more next is allows. no_line (front ++ []) line more (clear_nil front clear) is;
      undone = λ none here. let bad : a ∷ due ≡ [] = nil_behind front (a ∷ due) (ends_of (front ++ a ∷ due) [] here) in absurd (cc);
    })
some_alike told front (a ∷ due) (b ∷ rest) clear not = by_tests (a == b) (a == 10) refl refl (λ before clean other. some_alike told before due rest clean other)
  where
    by_tests : (same feed : Bool) → (a == b) ≡ same → (a == 10) ≡ feed
        → ((before : Text) → has_feed before ≡ false → (due ≡ rest → ⊥) → IsNo told (Ends (before ++ due)) (before ++ rest) (lines_alike due rest + 1))
        → IsNo told (Ends (front ++ a ∷ due)) (front ++ b ∷ rest) ((if same then (if feed then lines_alike due rest + 1 else lines_alike due rest) else 0) + 1)
    by_tests false feed e f on =
        stuck_here told (front ++ a ∷ due) (front ++ b ∷ rest)
        (record {
          unallowed = λ line more next is (after, due_is, none, _). differ front a b due rest line after more clear (eqb-false a b e) none due_is is;
          undone = λ none here. let bad : b ∷ rest ≡ [] = nil_behind front (b ∷ rest) none in absurd (cc);
        })
    by_tests true true e f on =
        let is : a ≡ b = eqb-true a b e in
        let line_feed : a ≡ 10 = eqb-true a 10 f in
        let other : due ≡ rest → ⊥ = λ same. not (ap (λ (t : Text). a ∷ t) same ∙ ap (λ (x : ℕ). x ∷ rest) is) in
        subst (λ (x : ℕ). IsNo told (Ends (front ++ a ∷ due)) (front ++ x ∷ rest) (lines_alike due rest + 1 + 1)) (sym line_feed ∙ is)
        (no_on told (Ends (front ++ a ∷ due)) (Ends due) front rest (lines_alike due rest + 1)
        (due, ap (λ (x : ℕ). front ++ x ∷ due) line_feed, clear, refl) (on [] refl other))
    by_tests true false e f on =
        let is : a ≡ b = eqb-true a b e in
        let other : due ≡ rest → ⊥ = λ same. not (ap (λ (t : Text). a ∷ t) same ∙ ap (λ (x : ℕ). x ∷ rest) is) in
        let clean : has_feed (a ∷ []) ≡ false = ap (λ (t : Bool). t || false) f in
        subst (λ (x : ℕ). IsNo told (Ends (front ++ a ∷ due)) (front ++ x ∷ rest) (lines_alike due rest + 1)) is
        (moved told front a due rest (lines_alike due rest + 1) (on (front ++ a ∷ []) (no_feed_both front (a ∷ []) clear clean) other))

pub all_alike : (told : Settings) (texts : List Text) (due rest : Text) (lines : ℕ) → due ≡ rest → due ≡ joined texts → Tells Checked.Yes told (Ends due) rest lines
all_alike told texts due rest lines same is =
    let all = follow_due told texts in
    (all.lines, subst (λ (t : Text). Follow told (Ends t) all.lines (Ends [])) (sym is) all.follow, sym same ∙ is ∙ all.is)

sum : (lines number : ℕ) → lines + number + 1 ≡ lines + (number + 1)
sum lines number = omega arith

pub not_alike : (told : Settings) (due rest : Text) (lines : ℕ) → (due ≡ rest → ⊥) → Tells (Checked.No (lines + lines_alike due rest + 1)) told (Ends due) rest lines
not_alike told due rest lines not = (lines_alike due rest + 1, sum lines (lines_alike due rest), some_alike told [] due rest refl not)

-- How far they go alike -------------------------------------------------------------------

none_alike : (due : Text) → lines_alike due [] ≡ 0
none_alike [] = refl
none_alike (byte ∷ due) = refl

-- what is left has no more
pub rest_over : (due rest : Text) (at lines : ℕ) → length rest ≤ at → lines_alike due rest ≡ lines + lines_alike (drop at due) (drop at rest) → lines ≡ lines_alike due rest
rest_over due rest at lines over same =
    let none : lines_alike (drop at due) (drop at rest) ≡ 0 = ap (lines_alike (drop at due)) (drop_all at rest over) ∙ none_alike (drop at due) in omega arith
