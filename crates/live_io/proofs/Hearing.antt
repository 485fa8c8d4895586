-- What is heard of the front of a text is heard of the whole.
use Rattle.std.proofs.Common.{◌≡◌, ◌⊎◌, ◌≤◌, ◌<◌, ◌+◌, ◌==◌, ℕ, Bool, true, false, cond, not, List, [], ◌∷◌, ◌++◌, length, take, drop, Option, Some, None, Result, Ok, Err, IfOk, option_map, unwrap_or, refl, sym, subst, ◌∙◌, ap, arith, inl, inr, length-append, nat_le, nat_lt, if◌then◌else◌}
use Rattle.std.specs.List.{position_or_len}
use Rattle.std.proofs.lemmas.List.{take-append-le, drop-append-le}
use Rattle.std.proofs.lemmas.List.Sums.{prefix_len-le-length}
use Rattle.std.proofs.lemmas.Bool.Decides.{nat_tests}
use Rattle.std.proofs.lemmas.Grind.{common_steps}
use Rattle.live_io.specs.Turns.{Text, feed_at, heard_by, heard_of, LineOf, HearsOf, Hears}
use Rattle.live_io.specs.Files.{IsAll, come}
use Rattle.live_io.specs.declared.peer.PeerError.{PeerError}
use Rattle.live_io.specs.declared.peer.Heard.{Heard}
use Rattle.live_io.specs.declared.peer.Heard.TheVariants.{Line, LongLine, Over}

abbrev IsFeed : ℕ → Bool
IsFeed byte = byte == 10

-- the same as a recursion
abbrev before : Text → ℕ
before text = position_or_len IsFeed text

before_within : (text : Text) → before text ≤ length text
before_within text = prefix_len-le-length (λ byte. not (IsFeed byte)) text

feed_is : (text : Text) → feed_at text ≡ before text
feed_is text = by (nat_lt (before text) (length text)) refl
  where
    by : (b : Bool) → nat_lt (before text) (length text) ≡ b → unwrap_or (cond b (Some (before text)) None) (length text) ≡ before text
    by true is = refl
    by false is = grind (arith, nat_tests, is, before_within text)

pub feed_within : (text : Text) → feed_at text ≤ length text
feed_within text = rw (feed_is text) (before_within text)

-- there is an LF in the front, or none
before_sides : (front tail : Text) → (before front < length front) × (before (front ++ tail) ≡ before front) ⊎ (before front ≡ length front) × (length front ≤ before (front ++ tail))
before_sides [] tail = inr (refl, omega arith)
before_sides (byte ∷ front) tail =
    elim (byte == 10) as (λ b.
    (cond (not b) (1 + before front) 0 < length (byte ∷ front)) × (cond (not b) (1 + before (front ++ tail)) 0 ≡ cond (not b) (1 + before front) 0)
    ⊎ (cond (not b) (1 + before front) 0 ≡ length (byte ∷ front)) × (length (byte ∷ front) ≤ cond (not b) (1 + before (front ++ tail)) 0)) [
      | true ↦ inl (omega arith, refl)
      | false ↦ elim (before_sides front tail) [ inl h ↦ inl (grind (arith, h.0), ap (λ n. 1 + n) h.1) | inr h ↦ inr (grind (arith, h.0), grind (arith, h.1)) ]
    ]

feed_sides : (front tail : Text) → (feed_at front < length front) × (feed_at (front ++ tail) ≡ feed_at front) ⊎ (feed_at front ≡ length front) × (length front ≤ feed_at (front ++ tail))
feed_sides front tail = rw (feed_is front, feed_is (front ++ tail)) (before_sides front tail)

-- a line is heard of the front, and so of the whole
line_longer : (front tail : Text) (heard : Heard) (line rest : Text) → feed_at front < length front → feed_at (front ++ tail) ≡ feed_at front
    → LineOf front heard line (Some rest) → LineOf (front ++ tail) heard line (Some (rest ++ tail))
line_longer front tail Line line rest some same h = (
  h.0 ∙ sym (take-append-le (feed_at front) front tail (omega arith)) ∙ ap (λ n. take n (front ++ tail)) (sym same),
  let is : rest ≡ drop (feed_at front + 1) front = (let g = h.1 in cc) in
      ap (λ r. Some (r ++ tail)) is ∙ ap Some (sym (drop-append-le (feed_at front + 1) front tail (omega arith)))
      ∙ ap (λ n. Some (drop (n + 1) (front ++ tail))) (sym same),
)
line_longer front tail LongLine line rest some same h = tt
line_longer front tail Over line rest some same h = tt

long : (text : Text) → 4096 < feed_at text → heard_of text ≡ LongLine
long text many =
    let no : nat_le (feed_at text) 4096 ≡ false = grind (arith, nat_tests, many) in
    ap (λ b. cond b (cond (nat_lt (feed_at text) (length text)) Line Over) LongLine) no

line_of_long : (text line : Text) (new : Option Text) (heard : Heard) → heard ≡ LongLine → LineOf text heard line new
line_of_long text line new heard is = let P : Heard → Type 0 = λ h. LineOf text h line new in subst P (sym is) tt

same_heard : (front tail : Text) → feed_at front < length front → feed_at (front ++ tail) ≡ feed_at front → heard_of (front ++ tail) ≡ heard_of front
same_heard front tail some same =
    let all : nat_lt (feed_at (front ++ tail)) (length (front ++ tail)) ≡ true = grind (arith, nat_tests, some, same, length-append front tail) in
    let own : nat_lt (feed_at front) (length front) ≡ true = grind (arith, nat_tests, some) in
    ap (λ b. cond (nat_le (feed_at (front ++ tail)) 4096) (cond b Line Over) LongLine) all ∙ ap (λ n. cond (nat_le n 4096) Line LongLine) same
    ∙ sym (ap (λ b. cond (nat_le (feed_at front) 4096) (cond b Line Over) LongLine) own)

-- what is heard where the front has an LF, or too many bytes
pub hears_longer : (front tail : Text) (heard : Heard) (line rest : Text) → (feed_at front ≡ length front → 4096 < length front)
    → HearsOf front heard line (Some rest) → HearsOf (front ++ tail) heard line (Some (rest ++ tail))
hears_longer front tail heard line rest enough h =
    elim (feed_sides front tail) [
      | inl side ↦ record {
        heard_is = h.heard_is ∙ sym (same_heard front tail side.0 side.1);
        line_is = line_longer front tail heard line rest side.0 side.1 h.line_is;
      }
      | inr side ↦ let many : 4096 < length front = enough side.0 in
          let is : heard ≡ LongLine = h.heard_is ∙ long front (rw side.0 many) in
          record { heard_is = is ∙ sym (long (front ++ tail) (omega (arith, many, side.1))); line_is = line_of_long (front ++ tail) line (Some (rest ++ tail)) heard is }
    ]

-- the same of the answers that are to come
come_longer : (told : Option Text) (at : ℕ) (front : Text) (heard : Heard) (line rest : Text) → (feed_at front ≡ length front → 4096 < length front)
    → HearsOf front heard line (Some rest)
    → Hears (option_map (λ bytes. front ++ drop at bytes) told) heard line (option_map (λ bytes. rest ++ drop at bytes) told)
come_longer None at front heard line rest enough h = tt
come_longer (Some bytes) at front heard line rest enough h = hears_longer front (drop at bytes) heard line rest enough h

come_hears : (contents : Option (Text → Option Text)) (name : Text) (at : ℕ) (front : Text) (heard : Heard) (line rest : Text) → (feed_at front ≡ length front → 4096 < length front)
    → HearsOf front heard line (Some rest) → Hears (come contents name front at) heard line (come contents name rest at)
come_hears None name at front heard line rest enough h = tt
come_hears (Some told) name at front heard line rest enough h = come_longer (told name) at front heard line rest enough h

pub result_hears : (contents : Option (Text → Option Text)) (name : Text) (at : ℕ) (front line rest : Text) → (result : Result Heard PeerError)
    → (feed_at front ≡ length front → 4096 < length front) → IfOk result (λ heard. HearsOf front heard line (Some rest))
    → IfOk result (λ heard. Hears (come contents name front at) heard line (come contents name rest at))
result_hears contents name at front line rest (Ok heard) enough h = come_hears contents name at front heard line rest enough h
result_hears contents name at front line rest (Err error) enough h = tt

-- nothing more comes, and there is no LF
pub hears_over : (all : Option Text) (front line : Text) (new : Option Text) → IsAll all front → feed_at front ≡ length front → length front ≤ 4096 → Hears all Over line new
hears_over None front line new is none few = tt
hears_over (Some text) front line new is none few =
    let P : Text → Type 0 = λ t. HearsOf t Over line new in
    let short : nat_le (feed_at front) 4096 ≡ true = grind (arith, nat_tests, none, few) in
    let no : nat_lt (feed_at front) (length front) ≡ false = grind (arith, nat_tests, none) in
    subst P (sym is) (record {
      heard_is = sym (ap (λ b. cond b (cond (nat_lt (feed_at front) (length front)) Line Over) LongLine) short ∙ ap (λ b. cond b Line Over) no);
      line_is = tt;
    })
