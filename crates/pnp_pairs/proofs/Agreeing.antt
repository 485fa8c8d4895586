-- Drivers that have no rule for what they are asked: they answer ok, and the rack stays.
use Rattle.std.proofs.Common.{ℕ, zero, suc, ◌-◌, ◌<◌, ◌≡◌, Bool, true, false, List, [], ◌∷◌, length, Option, Some, None, refl, ap, ◌∙◌, arith, cond}
use Rattle.std.specs.List.{AllByRecursion, find, slice_get, slice_set}
use Rattle.std.specs.Prelude.{slice_index}
use Rattle.pnp_labels.specs.Texts.{Text}
use Rattle.pnp_labels.specs.declared.event.Rule.{Rule}
use Rattle.pnp_labels.specs.declared.label.Label.{Label}
use Rattle.pnp_labels.specs.declared.label.Shown.{Shown}
use Rattle.pnp_labels.specs.declared.words.Answer.{Answer}
use Rattle.pnp_labels.specs.declared.words.AskWhat.{AskWhat}
use Rattle.pnp_labels.specs.declared.words.Minor.{Minor}
use Rattle.pnp_model.specs.Books.{answer_in, book_of, fits, name_of, rack_after, rack_reply, used, with_later}
use Rattle.pnp_model.specs.Frames.{Ask, ask_driver, asked, core_after, next_driver}
use Rattle.pnp_model.specs.Keyed.{changed_first}
use Rattle.pnp_model.specs.Records.{Core, Driver, Node, Walk}
use Rattle.pnp_model.specs.Walks.{after, is_from_bottom, place_of}
use Rattle.pnp_pairs.specs.DisabledAndEnabled.{HasNoRule}

none_changed : {A : Type 0} (p : A → Bool) (f : A → A) (xs : List A) → find p xs ≡ None → changed_first p f xs ≡ xs
none_changed p f [] none = refl
none_changed {A = A} p f (x ∷ xs) none = by_test (p x) none (none_changed p f xs)
  where
    by_test : (b : Bool) → cond b (Some x) (find p xs) ≡ None → (find p xs ≡ None → changed_first p f xs ≡ xs) → cond b (f x ∷ xs) (x ∷ changed_first p f xs) ≡ x ∷ xs
    by_test true e more = absurd (cc)
    by_test false e more = ap (λ (ys : List A). x ∷ ys) (more e)

set_same : {A : Type 0} (xs : List A) (k : ℕ) (x : A) → slice_get xs k ≡ Some x → slice_set xs k x ≡ xs
set_same [] k x at = refl
set_same {A = A} (y ∷ ys) zero x at = let e : x ≡ y = cc in ap (λ (z : A). z ∷ ys) e
set_same {A = A} (y ∷ ys) (suc k) x at = ap (λ (zs : List A). y ∷ zs) (set_same ys k x at)

-- the rack stays, and the driver answers ok
pub rack_stays : (rack : List Driver) (path : Text) (d : ℕ) (what : AskWhat) → HasNoRule rack path d → rack_after what path rack d ≡ rack
rack_stays rack path d what free = by_driver (slice_get rack d) refl (free what)
  where
    by_driver : (o : Option Driver) → slice_get rack d ≡ o → find (fits what path) (book_of o) ≡ None → with_later what path rack d o ≡ rack
    by_driver None e none = refl
    by_driver (Some driver) e none =
        ap (λ (book : List Rule). slice_set rack d (record driver { book = book })) (none_changed (fits what path) used driver.book none) ∙ set_same rack d driver e

pub says_ok : (rack : List Driver) (path : Text) (d : ℕ) (what : AskWhat) → HasNoRule rack path d → rack_reply what path rack d ≡ Answer.Ok
says_ok rack path d what free = ap answer_in (free what)

-- so the core stays too
pub core_stays : (c : Core) (path : Text) (d : ℕ) (what : AskWhat) → HasNoRule c.rack path d → core_after c what path d ≡ c
core_stays c path d what free = ap (λ (rack : List Driver). record c { rack = rack }) (rack_stays c.rack path d what free)

-- the ask of a driver that agrees
abbrev pub agreed : Core → Node → Walk → Ask
agreed c node w =
    record { label = Label.Asked w.minor node.path (name_of c.rack (next_driver node w)) Shown.Ok; core = c; walk = after w Answer.Ok }

pub asked_agrees : (c : Core) (node : Node) (w : Walk) → HasNoRule c.rack node.path (next_driver node w) → asked c node w ≡ agreed c node w
asked_agrees c node w free =
    let what = AskWhat.Irp w.minor in
    let d = next_driver node w in
    ap (λ (answer : Answer). ask_driver c node w d answer) (says_ok c.rack node.path d what free)
    ∙ ap (λ (core : Core). let x : Ask = record { label = Label.Asked w.minor node.path (name_of c.rack d) Shown.Ok; core = core; walk = after w Answer.Ok } in x) (core_stays c node.path d what free)

-- each driver of a stack, by its place
pub all_at : (P : ℕ → Type 0) (ds : List ℕ) (i : ℕ) → AllByRecursion P ds → i < length ds → P (slice_index ds i)
all_at P [] i all below = absurd (omega arith)
all_at P (d ∷ ds) zero all below = all.0
all_at P (d ∷ ds) (suc i) all below = all_at P ds i all.1 (omega arith)

place_below : (minor : Minor) (n i : ℕ) → i < n → place_of minor n i < n
place_below minor n i below = by_test (is_from_bottom minor)
  where
    by_test : (b : Bool) → cond b i (n - 1 - i) < n
    by_test true = below
    by_test false = omega arith

-- the driver that is asked next agrees
pub next_agrees : (rack : List Driver) (node : Node) (w : Walk) → AllByRecursion (HasNoRule rack node.path) node.stack → w.asked < length node.stack → HasNoRule rack node.path (next_driver node w)
next_agrees rack node w all below = all_at (HasNoRule rack node.path) node.stack (place_of w.minor (length node.stack) w.asked) all (place_below w.minor (length node.stack) w.asked below)
