-- Fronts of texts, and texts one after another.
use Rattle.std.proofs.Common.{◌≡◌, ℕ, ◌+◌, ◌≤◌, zero, suc, List, [], ◌∷◌, ◌++◌, Option, Some, None, IfSome, option_map, length, take, arith, refl, ap, sym, ◌∙◌, subst, append-nil, append_assoc, length-append}
use Rattle.std.proofs.lemmas.List.{take_all}
use Rattle.pnp_io.specs.Outside.{Appends, AppendsFront}
use Rattle.pnp_labels.specs.Texts.{Text}
use Rattle.pnp_model.specs.Records.{Driver}
use Rattle.pnp_cli.specs.declared.parts.Settings.{Settings}
use Rattle.pnp_cli.specs.Runs.{IsOutput, WroteFront, told_to}

-- nothing was appended
pub none_appends : (taken : Option (List ℕ)) → Appends taken taken []
none_appends None = refl
none_appends (Some taken) = ap Some (sym (append-nil taken))

-- one text, and then another
pub appends_both : (old mid new : Option (List ℕ)) (xs ys : List ℕ) → Appends old mid xs → Appends mid new ys → Appends old new (xs ++ ys)
appends_both None mid new xs ys h g = g ∙ ap (option_map _) h
appends_both (Some t) mid new xs ys h g = g ∙ ap (option_map (λ (u : List ℕ). u ++ ys)) h ∙ ap Some (append_assoc t xs ys)

-- all of a text is a front of it, and so is nothing of it
pub all_is_front : (old new : Option (List ℕ)) (bytes : List ℕ) → Appends old new bytes → AppendsFront old new bytes
all_is_front old new bytes h = (length bytes, omega arith, rw (take_all (length bytes) bytes (omega arith)) h)

pub none_is_front : (taken : Option (List ℕ)) (bytes : List ℕ) → AppendsFront taken taken bytes
none_is_front taken bytes = (0, omega arith, none_appends taken)

suc-add : (n k : ℕ) → suc n + k ≡ suc (n + k)
suc-add n k = omega arith

take_front : (n : ℕ) (xs ys : List ℕ) → n ≤ length xs → take n (xs ++ ys) ≡ take n xs
take_front zero xs ys low = refl
take_front (suc n) [] ys low = absurd (omega arith)
take_front (suc n) (x ∷ xs) ys low = ap (λ t. x ∷ t) (take_front n xs ys (omega arith))

take_after : (xs ys : List ℕ) (n : ℕ) → take (length xs + n) (xs ++ ys) ≡ xs ++ take n ys
take_after [] ys n = ap (λ m. take m ys) (omega arith)
take_after (x ∷ xs) ys n = ap (λ m. take m (x ∷ (xs ++ ys))) (suc-add (length xs) n) ∙ ap (λ t. x ∷ t) (take_after xs ys n)

-- a front of a text is one of the text with more behind it
pub front_in : (old new : Option (List ℕ)) (xs ys : List ℕ) → AppendsFront old new xs → AppendsFront old new (xs ++ ys)
front_in old new xs ys h =
    (h.0, omega (arith, h.1, length-append xs ys), subst (λ (t : List ℕ). Appends old new t) (sym (take_front h.0 xs ys h.1)) h.2)

-- behind a whole text a front of another
pub front_after : (old mid new : Option (List ℕ)) (xs ys : List ℕ) → Appends old mid xs → AppendsFront mid new ys → AppendsFront old new (xs ++ ys)
front_after old mid new xs ys h g = (
  length xs + g.0,
  omega (arith, g.1, length-append xs ys),
  subst (λ (t : List ℕ). Appends old new t) (sym (take_after xs ys g.0)) (appends_both old mid new xs (take g.0 ys) h g.2),
)

-- without a condition on the contents
pub for_all : (contents : Option (Text → Option (List ℕ))) (P : (Text → Option (List ℕ)) → Type 0) → ((told : Text → Option (List ℕ)) → P told) → IfSome contents P
for_all None P h = tt
for_all (Some told) P h = h told

-- a front of whatever the output is, where nothing was written
pub none_of_output : (s : Option Settings) (contents : Option (Text → Option (List ℕ))) (rack : List Driver) (taken : Option Text)
    → IfSome s (λ s. IfSome (told_to s.script contents) (λ told. WroteFront (IsOutput rack told s) taken taken))
none_of_output None contents rack taken = tt
none_of_output (Some s) contents rack taken = for_all (told_to s.script contents) (λ told. WroteFront (IsOutput rack told s) taken taken) (λ told text is. none_is_front taken text)
