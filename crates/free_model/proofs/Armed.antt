-- Books that answer as a run told: a rule for each answer, used up one after another.
use Rattle.std.proofs.Common.{ℕ, zero, suc, ◌≡◌, inl, inr, Bool, true, false, List, [], ◌∷◌, ◌++◌, Option, Some, None, slice_get, slice_set, refl, sym, ap, ◌∙◌, subst, arith, cond}
use Rattle.std.specs.Prelude.{◌==◌, ◌&&◌, find}
use Rattle.std.proofs.lemmas.Bool.{cases_eq}
use Rattle.std.proofs.lemmas.List.{append_assoc}
use Rattle.pnp_labels.specs.Texts.{Text}
use Rattle.pnp_labels.specs.declared.words.Answer.{Answer}
use Rattle.pnp_labels.specs.declared.words.AskWhat.{AskWhat}
use Rattle.pnp_labels.specs.declared.words.AskWhat.TheVariants.{Add, Irp}
use Rattle.pnp_labels.specs.declared.words.Minor.TheVariants.{Start, QueryRemove, Remove, CancelRemove, Stop, QueryStop, CancelStop, SurpriseRemoval}
use Rattle.pnp_labels.specs.declared.event.Rule.{Rule}
use Rattle.pnp_model.specs.Keyed.{changed_first}
use Rattle.pnp_model.specs.Tests.{same_what}
use Rattle.pnp_model.specs.Books.{path_fits, has_uses, fits, used, reply, later, book_of, rack_reply, with_later, rack_after, is_named, is_unnamed, with_name, name_is}
use Rattle.pnp_model.specs.Records.{Driver}
use Rattle.free_model.proofs.Racks.{faces_of, shapes_after}
use Rattle.free_model.specs.Shapes.{faces}

-- Rules -----------------------------------------------------------------------------------

abbrev pub AllDead : List Rule → Type 0
AllDead [] = Unit {0}
AllDead (rule ∷ rules) = (has_uses rule.uses ≡ false) × AllDead rules

abbrev pub once : AskWhat → Answer → Rule
once what answer = record { what = what; path = None; answer = answer; uses = Some 1 }

same_whats : (what : AskWhat) → same_what what what ≡ true
same_whats Add = refl
same_whats (Irp Start) = refl
same_whats (Irp QueryRemove) = refl
same_whats (Irp Remove) = refl
same_whats (Irp CancelRemove) = refl
same_whats (Irp Stop) = refl
same_whats (Irp QueryStop) = refl
same_whats (Irp CancelStop) = refl
same_whats (Irp SurpriseRemoval) = refl

once_fits : (what : AskWhat) (path : Text) (answer : Answer) → fits what path (once what answer) ≡ true
once_fits what path answer = ap (λ (b : Bool). b && true && true) (same_whats what)

never : (a b : Bool) → (a && b && false) ≡ false
never true true = refl
never true false = refl
never false true = refl
never false false = refl

dead_fits : (what : AskWhat) (path : Text) (rule : Rule) → has_uses rule.uses ≡ false → fits what path rule ≡ false
dead_fits what path rule dead = ap (λ (b : Bool). same_what rule.what what && path_fits rule.path path && b) dead ∙ never (same_what rule.what what) (path_fits rule.path path)

find_past : (what : AskWhat) (path : Text) (dead rest : List Rule) → AllDead dead → find (fits what path) (dead ++ rest) ≡ find (fits what path) rest
find_past what path [] rest h = refl
find_past what path (rule ∷ dead) rest (one, more) =
    ap (λ (b : Bool). cond b (Some rule) (find (fits what path) (dead ++ rest))) (dead_fits what path rule one) ∙ find_past what path dead rest more

change_past : (what : AskWhat) (path : Text) (dead rest : List Rule) → AllDead dead → changed_first (fits what path) used (dead ++ rest) ≡ dead ++ changed_first (fits what path) used rest
change_past what path [] rest h = refl
change_past what path (rule ∷ dead) rest (one, more) =
    ap (λ (b : Bool). cond b (used rule ∷ (dead ++ rest)) (rule ∷ changed_first (fits what path) used (dead ++ rest))) (dead_fits what path rule one)
    ∙ ap (λ (t : List Rule). rule ∷ t) (change_past what path dead rest more)

replies : (what : AskWhat) (path : Text) (answer : Answer) (dead rest : List Rule) → AllDead dead → reply what path (dead ++ once what answer ∷ rest) ≡ answer
replies what path answer dead rest h =
    ap Rattle.pnp_model.specs.Books.answer_in
    (find_past what path dead (once what answer ∷ rest) h ∙ ap (λ (b : Bool). cond b (Some (once what answer)) (find (fits what path) rest)) (once_fits what path answer))

is_later : (what : AskWhat) (path : Text) (answer : Answer) (dead rest : List Rule) → AllDead dead → later what path (dead ++ once what answer ∷ rest) ≡ (dead ++ used (once what answer) ∷ []) ++ rest
is_later what path answer dead rest h =
    change_past what path dead (once what answer ∷ rest) h
    ∙ ap (λ (t : List Rule). dead ++ t) (ap (λ (b : Bool). cond b (used (once what answer) ∷ rest) (once what answer ∷ changed_first (fits what path) used rest)) (once_fits what path answer))
    ∙ sym (append_assoc dead (used (once what answer) ∷ []) rest)

all_dead : (dead : List Rule) (what : AskWhat) (answer : Answer) → AllDead dead → AllDead (dead ++ used (once what answer) ∷ [])
all_dead [] what answer h = (refl, tt)
all_dead (rule ∷ dead) what answer (one, more) = (one, all_dead dead what answer more)

-- Racks -----------------------------------------------------------------------------------

-- the rules that a driver, by its number, still has; before them used ones may stand
abbrev pub Books : Type 0
Books = ℕ → List Rule

abbrev pub HasBook : List Rule → Driver → Type 0
HasBook rules d = (dead : List Rule) × AllDead dead × (d.book ≡ dead ++ rules)

pub record Armed (books : Books) (rack own : List Driver) : Type 0 where
  pub shown : faces rack ≡ faces own
  pub has : (k : ℕ) (d : Driver) → slice_get rack k ≡ Some d → HasBook (books k) d

abbrev pub put : Books → ℕ → Rule → Books
put books k rule j = cond (j == k) (rule ∷ books j) (books j)

get_same : (xs : List Driver) (k : ℕ) (x y : Driver) → slice_get xs k ≡ Some y → slice_get (slice_set xs k x) k ≡ Some x
get_same [] k x y e = absurd (cc)
get_same (z ∷ xs) zero x y e = refl
get_same (z ∷ xs) (suc k) x y e = get_same xs k x y e

get_other : (xs : List Driver) (k j : ℕ) (x : Driver) → (j ≡ k → ⊥) → slice_get (slice_set xs k x) j ≡ slice_get xs j
get_other [] k j x n = refl
get_other (z ∷ xs) zero zero x n = absurd (n refl)
get_other (z ∷ xs) zero (suc j) x n = refl
get_other (z ∷ xs) (suc k) zero x n = refl
get_other (z ∷ xs) (suc k) (suc j) x n = get_other xs k j x (λ e. n (ap suc e))

put_at : (books : Books) (k : ℕ) (rule : Rule) → put books k rule k ≡ rule ∷ books k
put_at books k rule = grind (arith)

put_off : (books : Books) (k j : ℕ) (rule : Rule) → (j ≡ k → ⊥) → put books k rule j ≡ books j
put_off books k j rule n = grind (arith, n)

pub some_one : {A : Type 0} (x y : A) → Some x ≡ Some y → x ≡ y
some_one x y e = cc

-- the driver that is asked answers so, and its rule is used up
pub asked_one : (books : Books) (what : AskWhat) (path : Text) (k : ℕ) (answer : Answer) (rack own : List Driver) (d : Driver) → slice_get rack k ≡ Some d → Armed (put books k (once what answer)) rack own
    → (rack_reply what path rack k ≡ answer) × Armed books (rack_after what path rack k) own
asked_one books what path k answer rack own d there h =
    let (dead, all, is) = h.has k d there in
    let book : d.book ≡ dead ++ once what answer ∷ books k = is ∙ ap (λ (t : List Rule). dead ++ t) (put_at books k (once what answer)) in (
      ap (λ (o : Option Driver). reply what path (book_of o)) there ∙ ap (reply what path) book ∙ replies what path answer dead (books k) all,
      record {
        shown = faces_of (rack_after what path rack k) rack (shapes_after what path rack k) ∙ h.shown;
        has = λ j z at. elim (cases_eq j k) [
          | inl same ↦
              let after : slice_get (rack_after what path rack k) k ≡ Some (record d { book = later what path d.book }) =
              ap (λ (o : Option Driver). slice_get (with_later what path rack k o) k) there ∙ get_same rack k (record d { book = later what path d.book }) d there
              in
              let z_is : z ≡ record d { book = later what path d.book } =
              some_one z (record d { book = later what path d.book }) (sym at ∙ ap (slice_get (rack_after what path rack k)) same ∙ after)
              in (
                dead ++ used (once what answer) ∷ [],
                all_dead dead what answer all,
                ap (λ (x : Driver). x.book) z_is ∙ ap (later what path) book ∙ is_later what path answer dead (books k) all
                    ∙ ap (λ (i : ℕ). (dead ++ used (once what answer) ∷ []) ++ books i) (sym same),
              )
          | inr other ↦
              let before : slice_get rack j ≡ Some z =
              sym (get_other rack k j (record d { book = later what path d.book }) other) ∙ ap (λ (o : Option Driver). slice_get (with_later what path rack k o) j) (sym there) ∙ at
              in
              subst (λ (rules : List Rule). HasBook rules z) (put_off books k j (once what answer) other) (h.has j z before)
        ];
      },
    )

-- where no such driver is there, nothing is used up
pub asked_none : (books : Books) (what : AskWhat) (path : Text) (k : ℕ) (rule : Rule) (rack own : List Driver) → slice_get rack k ≡ None → Armed (put books k rule) rack own
    → Armed books (rack_after what path rack k) own
asked_none books what path k rule rack own none h =
    subst (λ (r : List Driver). Armed books r own) (sym (ap (with_later what path rack k) none))
    (record {
      shown = h.shown;
      has = λ j d at. subst (λ (rules : List Rule). HasBook rules d) (put_off books k j rule (λ e. absurd (let bad : slice_get rack k ≡ Some d = ap (slice_get rack) (sym e) ∙ at in cc))) (h.has j d at);
    })
