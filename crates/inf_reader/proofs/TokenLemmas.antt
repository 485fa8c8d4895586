-- A text with its tokens replaced, from its first token on.
use Rattle.std.proofs.Common.{◌≡◌, ℕ, ◌≤◌, List, [], ◌∷◌, ◌++◌, length, arith, ap, sym, refl, ◌∙◌, append-nil, append_assoc}
use Rattle.std.specs.Bool.{◌==◌}
use Rattle.std.proofs.lemmas.List.Splits.{length-slice_split}
use Rattle.device_ids.specs.Cuts.{parts}
use Rattle.inf_reader.specs.Tokens.{Strings, token, from_name, from_plain, replaced}

after_name : (strings : Strings) (name : List ℕ) (more : List (List ℕ)) → 1 ≤ length more → from_name strings (name ∷ more) ≡ token strings name ++ from_plain strings more
after_name strings name [] h = absurd (omega arith)
after_name strings name (plain ∷ more) h = refl

replaced-token : (strings : Strings) (text plain on name after : List ℕ) → parts 0x25 text ≡ plain ∷ parts 0x25 on → parts 0x25 on ≡ name ∷ parts 0x25 after
    → replaced strings text ≡ plain ++ (token strings name ++ replaced strings after)
unfolding replaced
replaced-token strings text plain on name after first second =
    let some : 1 ≤ length (parts 0x25 after) = omega (arith, length-slice_split (λ b. b == 0x25) after) in
    ap (from_plain strings) first
    ∙ (ap (λ more. plain ++ from_name strings more) second
    ∙ ap (λ l. plain ++ l) (after_name strings name (parts 0x25 after) some))

replaced-single : (strings : Strings) (text plain on : List ℕ) → parts 0x25 text ≡ plain ∷ parts 0x25 on → parts 0x25 on ≡ on ∷ [] → replaced strings text ≡ plain ++ (0x25 ∷ on)
unfolding replaced
replaced-single strings text plain on first none = ap (from_plain strings) first ∙ ap (λ more. plain ++ from_name strings more) none

replaced-plain : (strings : Strings) (text : List ℕ) → parts 0x25 text ≡ text ∷ [] → replaced strings text ≡ text
unfolding replaced
replaced-plain strings text none = ap (from_plain strings) none ∙ append-nil text

-- the loop's steps
pub token_more : (strings : Strings) (out text plain on name after all : List ℕ) → out ++ replaced strings text ≡ all → parts 0x25 text ≡ plain ∷ parts 0x25 on → parts 0x25 on ≡ name ∷ parts 0x25 after
    → ((out ++ plain) ++ token strings name) ++ replaced strings after ≡ all
token_more strings out text plain on name after all so_far first second =
    append_assoc (out ++ plain) (token strings name) (replaced strings after)
    ∙ (append_assoc out plain (token strings name ++ replaced strings after)
    ∙ (ap (λ l. out ++ l) (sym (replaced-token strings text plain on name after first second)) ∙ so_far))

pub single_more : (strings : Strings) (out text plain on all : List ℕ) → out ++ replaced strings text ≡ all → parts 0x25 text ≡ plain ∷ parts 0x25 on → parts 0x25 on ≡ on ∷ []
    → ((out ++ plain) ++ 0x25 ∷ []) ++ on ≡ all
single_more strings out text plain on all so_far first none =
    append_assoc (out ++ plain) (0x25 ∷ []) on
    ∙ (append_assoc out plain (0x25 ∷ on)
    ∙ (ap (λ l. out ++ l) (sym (replaced-single strings text plain on first none)) ∙ so_far))

pub plain_more : (strings : Strings) (out text all : List ℕ) → out ++ replaced strings text ≡ all → parts 0x25 text ≡ text ∷ [] → out ++ text ≡ all
plain_more strings out text all so_far none = ap (λ l. out ++ l) (sym (replaced-plain strings text none)) ∙ so_far
