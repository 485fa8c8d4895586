-- Loops over lists, place by place.
use Rattle.std.proofs.Common.{◌≡◌, ℕ, suc, ◌+◌, ◌<◌, Bool, true, false, List, [], ◌∷◌, ◌++◌, length, drop, map, Option, Some, refl, sym, ◌∙◌, ap, append_assoc, get_or, add-one, drop-cons, if◌then◌else◌, cond, ◌||◌}
use Rattle.std.specs.List.{flat_map, find, filter, list_any}
use Rattle.lint_cli.specs.Warnings.{Naming, is_told, text_by, passed_by, missing, missing_texts}
use Rattle.pnp_labels.specs.Texts.{Text}

-- what is left at a place
pub drop_at : {X : Type 0} (xs : List X) (at : ℕ) (x : X) → at < length xs → ((d : X) → get_or xs at d ≡ x) → drop at xs ≡ x ∷ drop (at + 1) xs
drop_at xs at x within item = drop-cons xs at x within ∙ ap (λ y. y ∷ drop (suc at) xs) (item x) ∙ ap (λ n. x ∷ drop n xs) (sym (add-one at))

-- one more, in a list of what is made of each
pub mapped_more : {X Y : Type 0} (f : X → Y) (out all new : List Y) (xs : List X) (at : ℕ) (x : X) → out ++ map f (drop at xs) ≡ all → at < length xs
    → ((d : X) → get_or xs at d ≡ x) → new ≡ out ++ f x ∷ [] → new ++ map f (drop (at + 1) xs) ≡ all
mapped_more f out all new xs at x e within item put =
    ap (λ l. l ++ map f (drop (at + 1) xs)) put ∙ append_assoc out (f x ∷ []) (map f (drop (at + 1) xs)) ∙ ap (λ l. out ++ map f l) (sym (drop_at xs at x within item)) ∙ e

-- the same of texts put together
pub flat_more : {X Y : Type 0} (f : X → List Y) (out all new : List Y) (xs : List X) (at : ℕ) (x : X) → out ++ flat_map f (drop at xs) ≡ all → at < length xs
    → ((d : X) → get_or xs at d ≡ x) → new ≡ out ++ f x → new ++ flat_map f (drop (at + 1) xs) ≡ all
flat_more f out all new xs at x e within item put =
    ap (λ l. l ++ flat_map f (drop (at + 1) xs)) put ∙ append_assoc out (f x) (flat_map f (drop (at + 1) xs)) ∙ ap (λ l. out ++ flat_map f l) (sym (drop_at xs at x within item)) ∙ e

-- the first that passes
pub found_here : {X : Type 0} (p : X → Bool) (all : Option X) (xs : List X) (at : ℕ) (x : X) → find p (drop at xs) ≡ all → at < length xs → ((d : X) → get_or xs at d ≡ x)
    → p x ≡ true → Some x ≡ all
found_here p all xs at x e within item passes =
    sym (ap (λ b. if b then Some x else find p (drop (at + 1) xs)) passes) ∙ ap (λ l. find p l) (sym (drop_at xs at x within item)) ∙ e

pub found_later : {X : Type 0} (p : X → Bool) (all : Option X) (xs : List X) (at : ℕ) (x : X) → find p (drop at xs) ≡ all → at < length xs → ((d : X) → get_or xs at d ≡ x)
    → p x ≡ false → find p (drop (at + 1) xs) ≡ all
found_later p all xs at x e within item passes =
    sym (ap (λ b. if b then Some x else find p (drop (at + 1) xs)) passes) ∙ ap (λ l. find p l) (sym (drop_at xs at x within item)) ∙ e

-- whether one passes
pub any_here : {X : Type 0} (p : X → Bool) (all : Bool) (xs : List X) (at : ℕ) (x : X) → list_any p (drop at xs) ≡ all → at < length xs → ((d : X) → get_or xs at d ≡ x)
    → p x ≡ true → true ≡ all
any_here p all xs at x e within item passes =
    sym (ap (λ b. b || list_any p (drop (at + 1) xs)) passes) ∙ ap (λ l. list_any p l) (sym (drop_at xs at x within item)) ∙ e

pub any_later : {X : Type 0} (p : X → Bool) (all : Bool) (xs : List X) (at : ℕ) (x : X) → list_any p (drop at xs) ≡ all → at < length xs → ((d : X) → get_or xs at d ≡ x)
    → p x ≡ false → list_any p (drop (at + 1) xs) ≡ all
any_later p all xs at x e within item passes =
    sym (ap (λ b. b || list_any p (drop (at + 1) xs)) passes) ∙ ap (λ l. list_any p l) (sym (drop_at xs at x within item)) ∙ e

-- those that pass
filter_one : {X : Type 0} (x : X) (xs : List X) (b : Bool) → cond b (x ∷ xs) xs ≡ cond b (x ∷ []) [] ++ xs
filter_one x xs true = refl
filter_one x xs false = refl

pub filter_more : {X : Type 0} (p : X → Bool) (out all new : List X) (xs : List X) (at : ℕ) (x : X) → out ++ filter p (drop at xs) ≡ all → at < length xs
    → ((d : X) → get_or xs at d ≡ x) → new ≡ out ++ filter p (x ∷ []) → new ++ filter p (drop (at + 1) xs) ≡ all
filter_more p out all new xs at x e within item put =
    ap (λ l. l ++ filter p (drop (at + 1) xs)) put
    ∙ append_assoc out (filter p (x ∷ [])) (filter p (drop (at + 1) xs))
    ∙ ap (λ l. out ++ l) (sym (filter_one x (filter p (drop (at + 1) xs)) (p x)))
    ∙ ap (λ l. out ++ filter p l) (sym (drop_at xs at x within item))
    ∙ e

-- three texts more
pub three_more : (a h q t x y z : Text) → x ≡ a ++ h → y ≡ x ++ q → z ≡ y ++ t → z ≡ a ++ (h ++ (q ++ t))
three_more a h q t x y z one two three = three ∙ ap (λ l. l ++ t) (two ∙ ap (λ l. l ++ q) one) ∙ append_assoc (a ++ h) q t ∙ append_assoc a h (q ++ t)

-- the warning of one driver, and then those of the others
one_then : (file : Text) (drivers passed : List Text) (named : Naming) (more : List Naming) (told : Bool)
    → missing_texts file (if told then missing drivers passed more else named ∷ missing drivers (passed ++ named.1 ∷ []) more)
    ≡ text_by file named told ++ missing_texts file (missing drivers (passed_by passed named.1 told) more)
one_then file drivers passed named more true = refl
one_then file drivers passed named more false = refl

pub missing_more : {X : Type 0} (f : X → Naming) (file : Text) (drivers passed passed' : List Text) (out all new : Text) (xs : List X) (at : ℕ) (d : X)
    → out ++ missing_texts file (missing drivers passed (map f (drop at xs))) ≡ all → at < length xs
    → new ≡ out ++ text_by file (f (get_or xs at d)) (is_told drivers passed (f (get_or xs at d)).1)
    → passed' ≡ passed_by passed (f (get_or xs at d)).1 (is_told drivers passed (f (get_or xs at d)).1)
    → new ++ missing_texts file (missing drivers passed' (map f (drop (at + 1) xs))) ≡ all
missing_more f file drivers passed passed' out all new xs at d e within put is =
    let x = get_or xs at d in
    let rest = map f (drop (at + 1) xs) in
    let told = is_told drivers passed (f x).1 in
    let one = text_by file (f x) told in
    ap (λ l. l ++ missing_texts file (missing drivers passed' rest)) put
    ∙ ap (λ p. (out ++ one) ++ missing_texts file (missing drivers p rest)) is
    ∙ append_assoc out one (missing_texts file (missing drivers (passed_by passed (f x).1 told) rest))
    ∙ ap (λ t. out ++ t) (sym (one_then file drivers passed (f x) rest told))
    ∙ ap (λ l. out ++ missing_texts file (missing drivers passed (map f l))) (ap (λ n. x ∷ drop n xs) (add-one at) ∙ sym (drop-cons xs at d within))
    ∙ e
