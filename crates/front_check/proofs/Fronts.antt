-- What a comparison of a line with what is left says.
use Rattle.std.proofs.Common.{ℕ, ◌-◌, ◌≡◌, Bool, true, false, Some, None, [], ◌∷◌, ◌++◌, take, drop, length, refl, sym, ap, ◌∙◌, arith, append_assoc, length-append}
use Rattle.std.specs.Prelude.{nat_eq}
use Rattle.std.specs.Cmp.Lexicographic.{pointwise}
use Rattle.std.proofs.lemmas.Bool.Decides.{Decides-eqb}
use Rattle.std.proofs.lemmas.Slice.Eq.{starts_is}
use Rattle.std.proofs.lemmas.List.{take_at}
use Rattle.pnp_labels.specs.Texts.{Text}
use Rattle.free_model.specs.Checks.{has_feed}
use Rattle.trace_check.specs.Turns.{IfFront, IfStands}

pub front_by : (b : Bool) (rest line : Text) → b ≡ pointwise nat_eq line (take (length line) rest) → IfFront b rest line
front_by true rest line e = (starts_is Decides-eqb rest line true e).0 refl
front_by false rest line e = λ more is. let bad : false ≡ true = (starts_is Decides-eqb rest line false e).1 more is in absurd (cc)

-- a line with its LF
before_feed : (line : Text) → take (length (line ++ 10 ∷ []) - 1) (line ++ 10 ∷ []) ≡ line
before_feed line = take_at line (10 ∷ []) (length (line ++ 10 ∷ []) - 1) (omega (arith, length-append line (10 ∷ [])))

pub feed_inside : (line text : Text) (inside : Bool) → line ≡ text ++ 10 ∷ [] → inside ≡ has_feed (take (length line - 1) line) → inside ≡ has_feed text
feed_inside line text inside is e = e ∙ ap has_feed (ap (λ (t : Text). take (length t - 1) t) is ∙ before_feed text)

pub not_standing : (rest line text : Text) → line ≡ text ++ 10 ∷ [] → IfFront false rest line → IfStands None rest text
not_standing rest line text is front = λ more here. front more (here ∙ sym (append_assoc text (10 ∷ []) more) ∙ ap (λ (t : Text). t ++ more) (sym is))

pub behind : (rest line text : Text) (size : ℕ) → IfFront true rest line → line ≡ text ++ 10 ∷ [] → size ≡ length line → rest ≡ text ++ 10 ∷ drop size rest
behind rest line text size front is same =
    front ∙ ap (λ (n : ℕ). line ++ drop n rest) (sym same) ∙ ap (λ (t : Text). t ++ drop size rest) is ∙ append_assoc text (10 ∷ []) (drop size rest)

pub is_standing : (rest line text : Text) (size : ℕ) → IfFront true rest line → line ≡ text ++ 10 ∷ [] → size ≡ length line → IfStands (Some size) rest text
is_standing rest line text size front is same = (behind rest line text size front is same, same ∙ ap length is ∙ length-append text (10 ∷ []))

-- nor does the line stand there with anything behind
pub not_in_front : (rest line text more : Text) → IfFront false rest line → line ≡ text ++ 10 ∷ [] → rest ≡ text ++ 10 ∷ more → ⊥
not_in_front rest line text more front is here = front more (here ∙ sym (append_assoc text (10 ∷ []) more) ∙ ap (λ (t : Text). t ++ more) (sym is))
