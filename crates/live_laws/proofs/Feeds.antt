-- Where the first LF of a text stands, and whether a line is heard.
use Rattle.std.proofs.Common.{ℕ, suc, ◌+◌, ◌<◌, ◌≤◌, ◌≡◌, ◌==◌, Bool, true, false, not, List, [], ◌∷◌, ◌++◌, Option, length, take, drop, refl, sym, ap, ◌∙◌, subst, arith, cond, if◌then◌else◌}
use Rattle.std.specs.Prelude.{nat_le, nat_lt}
use Rattle.std.proofs.lemmas.List.{append_assoc}
use Rattle.std.proofs.lemmas.List.Recursion.{is_position_or_len}
use Rattle.std.proofs.lemmas.List.Sums.{prefix_len-le-length}
use Rattle.live_io.specs.Turns.{HearsOf, feed_at}
use Rattle.live_io.specs.declared.peer.Heard.TheVariants.{Line, LongLine, Over}
use Rattle.pnp_labels.specs.Texts.{Text}

-- where the first LF stands, or how long the text is
pub feed : Text → ℕ
feed [] = 0
feed (x ∷ xs) = cond (x == 10) 0 (1 + feed xs)

pub feed_is : (text : Text) → feed_at text ≡ feed text
unfolding feed
feed_is text =
    let e = is_position_or_len feed (λ byte. byte == 10) refl (λ x xs. refl) text in
    let le = prefix_len-le-length (λ (byte : ℕ). not (byte == 10)) text in
    grind (arith, e, le)

-- with more bytes it stands no earlier, and where there is one, there too

pub feed_grows : (text more : Text) → feed text ≤ feed (text ++ more)
unfolding feed
feed_grows [] more = grind arith
feed_grows (x ∷ xs) more = let h = feed_grows xs more in grind (arith, h)

pub feed_stays : (text more : Text) → feed text < length text → feed (text ++ more) ≡ feed text
unfolding feed
feed_stays [] more inside = absurd (omega arith)
feed_stays (x ∷ xs) more inside = by_test (x == 10) refl (λ in_rest. feed_stays xs more in_rest)
  where
    by_test : (b : Bool) → (x == 10) ≡ b → (feed xs < length xs → feed (xs ++ more) ≡ feed xs) → cond (x == 10) 0 (1 + feed (xs ++ more)) ≡ cond (x == 10) 0 (1 + feed xs)
    by_test true e in_rest = rw e refl
    by_test false e in_rest =
        let here : feed xs < length xs = let le : cond (x == 10) 0 (1 + feed xs) < length (x ∷ xs) = inside in grind (arith, e, le) in
        ap (λ (n : ℕ). cond (x == 10) 0 (1 + n)) (in_rest here)

pub is_line : (a b : Bool) → Line ≡ (if a then (if b then Line else Over) else LongLine) → (a ≡ true) × (b ≡ true)
is_line true true e = (refl, refl)
is_line true false e = absurd (cc)
is_line false b e = absurd (cc)

pub is_long : (a b : Bool) → LongLine ≡ (if a then (if b then Line else Over) else LongLine) → a ≡ false
is_long true true e = absurd (cc)
is_long true false e = absurd (cc)
is_long false b e = refl

pub below : (a b : ℕ) → nat_lt a b ≡ true → a < b
below a b e = grind (arith, e)

pub above : (a b : ℕ) → nat_le a b ≡ false → b < a
above a b e = grind (arith, e)

pub below_too : (a b c : ℕ) → a < b → nat_lt a (b + c) ≡ true
below_too a b c lt = grind (arith, lt)

pub above_too : (a b c : ℕ) → c < a → a ≤ b → nat_le b c ≡ false
above_too a b c lt le = grind (arith, lt, le)

-- what stands before the LF at a place, and behind it
abbrev around : ℕ → List ℕ → List ℕ
around n text = take n text ++ 10 ∷ drop (n + 1) text

one_suc : (k : ℕ) → 1 + k ≡ suc k
one_suc k = omega arith

suc_one : (k : ℕ) → suc k + 1 ≡ suc (k + 1)
suc_one k = omega arith

around_next : (x n : ℕ) (xs : List ℕ) → around (1 + n) (x ∷ xs) ≡ x ∷ around n xs
around_next x n xs = ap (λ (k : ℕ). around k (x ∷ xs)) (one_suc n) ∙ ap (λ (k : ℕ). x ∷ (take n xs ++ 10 ∷ drop k (x ∷ xs))) (suc_one n)

feed_apart : (text : Text) → feed text < length text → text ≡ around (feed text) text
unfolding feed
feed_apart [] inside = absurd (omega arith)
feed_apart (x ∷ xs) inside = by_test (x == 10) refl (λ in_rest. feed_apart xs in_rest)
  where
    by_test : (b : Bool) → (x == 10) ≡ b → (feed xs < length xs → xs ≡ around (feed xs) xs) → x ∷ xs ≡ around (cond (x == 10) 0 (1 + feed xs)) (x ∷ xs)
    by_test true e in_rest =
        let ten : x ≡ 10 = grind (arith, e) in
        ap (λ (y : ℕ). y ∷ xs) ten ∙ sym (ap (λ (b : Bool). around (cond b 0 (1 + feed xs)) (x ∷ xs)) e)
    by_test false e in_rest =
        let here : feed xs < length xs = let le : cond (x == 10) 0 (1 + feed xs) < length (x ∷ xs) = inside in grind (arith, e, le) in
        ap (λ (t : List ℕ). x ∷ t) (in_rest here) ∙ sym (around_next x (feed xs) xs) ∙ sym (ap (λ (b : Bool). around (cond b 0 (1 + feed xs)) (x ∷ xs)) e)

-- a line that is heard, its LF, and what stands behind it, are the text
pub line_apart : (text line : Text) (new : Option Text) → HearsOf text Line line new → text ≡ (line ++ 10 ∷ []) ++ drop (feed_at text + 1) text
line_apart text line new h =
    let (short, whole) = is_line (nat_le (feed_at text) 4096) (nat_lt (feed_at text) (length text)) h.heard_is in
    let inside : feed text < length text = subst (λ (n : ℕ). n < length text) (feed_is text) (below (feed_at text) (length text) whole) in
    feed_apart text inside ∙ ap (λ (n : ℕ). around n text) (sym (feed_is text))
    ∙ ap (λ (t : Text). t ++ 10 ∷ drop (feed_at text + 1) text) (sym h.line_is.0) ∙ sym (append_assoc line (10 ∷ []) (drop (feed_at text + 1) text))
