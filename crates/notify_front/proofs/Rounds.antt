-- What one notice makes of a round, as the code keeps it.
use Rattle.std.proofs.Common.{ℕ, zero, suc, ◌≡◌, ◌+◌, ◌-◌, ◌<◌, ◌≤◌, Bool, true, false, List, [], ◌∷◌, ◌++◌, Option, Some, None, IsSome, length, get_or, reverse, take, drop, refl, sym, ap, ◌∙◌, arith, option_map, slice_get, unwrap_or, is_some, option_copied, Bor}
use Rattle.std.proofs.lemmas.List.{take_more, get_or-reverse, length-reverse, reverse-append, reverse-reverse, drop-drop}
use Rattle.std.proofs.lemmas.Option.{slice_get-get_or, slice_get_within, get_or_from_slice_get}
use Rattle.pnp_labels.proofs.Reading.{drop_next}
use Rattle.pnp_labels.specs.declared.label.OpKind.{OpKind}
use Rattle.notify_front.specs.Fronts.{Hand, Registration, over, running, vetoed}
use Rattle.pnp_model.specs.Records.{Beginning}
use Rattle.notify_front.specs.Hands.{AllAgreed, AllCancelled, answered, begins, begun, client_at, hand_of, moved_on, next_told}
use Rattle.notify_front.specs.declared.round.Stage.{Stage}

-- Lists -------------------------------------------------------------------------------

reversed_first : {A : Type 0} (xs : List A) → slice_get (reverse xs) 0 ≡ slice_get xs (length xs - 1)
reversed_first [] = refl
reversed_first (x ∷ xs) =
    let whole = x ∷ xs in
    let count = length-reverse whole in
    slice_get-get_or (reverse whole) 0 x (omega arith)
    ∙ ap Some (get_or-reverse whole 0 x (omega arith))
    ∙ sym (slice_get-get_or whole (length whole - 1 - 0) x (omega arith))
    ∙ ap (slice_get whole) (let e : length whole - 1 - 0 ≡ length whole - 1 = omega arith in e)

pub last_told : (told : List Registration) (n : ℕ) → slice_get (take n told) (length (take n told) - 1) ≡ slice_get (reverse (take n told)) 0
last_told told n = sym (reversed_first (take n told))

reversed_next : (told : List Registration) (at : ℕ) (r : Registration) → slice_get told at ≡ Some r → reverse (take (at + 1) told) ≡ r ∷ reverse (take at told)
reversed_next told at r is =
    ap (λ (l : List Registration). reverse l) (take_more told at r (slice_get_within told at r is) ∙ ap (λ (x : Registration). take at told ++ x ∷ []) (get_or_from_slice_get told at r r is))
    ∙ reverse-append (take at told) (r ∷ [])

reversed_less : (told : List Registration) (n : ℕ) → n ≤ length told → drop 1 (reverse (take n told)) ≡ reverse (take (n - 1) told)
reversed_less told zero le = refl
reversed_less [] (suc n) le = absurd (omega arith)
reversed_less (x ∷ told) (suc n) le =
    let whole = x ∷ told in
    let one : suc n ≡ n + 1 = omega arith in
    let back : suc n - 1 ≡ n = omega arith in
    ap (λ (i : ℕ). drop 1 (reverse (take i whole))) one
    ∙ ap (λ (l : List Registration). drop 1 l) (reversed_next whole n (get_or whole n x) (slice_get-get_or whole n x (omega arith)))
    ∙ ap (λ (i : ℕ). reverse (take i whole)) (sym back)

-- Who is next ------------------------------------------------------------------------------

pub next_vetoed : (left : List Registration) → next_told (vetoed left) ≡ slice_get left 0
next_vetoed [] = refl
next_vetoed (r ∷ left) = refl

pub next_over : (left : List Registration) → next_told (over left) ≡ slice_get left 0
next_over [] = refl
next_over (r ∷ left) = refl

pub next_running : (told : List Registration) → next_told (running told) ≡ None
next_running [] = refl
next_running (r ∷ told) = refl

pub next_at : (told : List Registration) (at : ℕ) → slice_get told at ≡ slice_get (drop at told) 0
next_at [] zero = refl
next_at [] (suc at) = refl
next_at (r ∷ told) zero = refl
next_at (r ∷ told) (suc at) = next_at told at

-- One notice -------------------------------------------------------------------------------

module _ (kind : OpKind) (serial : ℕ) (told : List Registration) (at : ℕ) (r : Registration) (next : slice_get told at ≡ Some r) where
  asked_one : (b : Bool) → r.agrees ≡ b → moved_on (hand_of (Stage.Asking kind serial) told at) ≡ answered (begins kind serial) (reverse (take at told)) r (drop (at + 1) told) b
  asked_one b agrees =
      ap (λ (l : List Registration). moved_on (Hand.Asking (begins kind serial) (reverse (take at told)) l)) (drop_next told at r next)
      ∙ ap (answered (begins kind serial) (reverse (take at told)) r (drop (at + 1) told)) agrees

  pub agreed_on : r.agrees ≡ true → hand_of (Stage.Asking kind serial) told (at + 1) ≡ moved_on (hand_of (Stage.Asking kind serial) told at)
  agreed_on agrees = ap (λ (l : List Registration). Hand.Asking (begins kind serial) l (drop (at + 1) told)) (reversed_next told at r next) ∙ sym (asked_one true agrees)

  pub refused_on : r.agrees ≡ false → hand_of (Stage.Cancelling kind serial at) told at ≡ moved_on (hand_of (Stage.Asking kind serial) told at)
  refused_on agrees =
      ap (λ (o : Option Registration). Hand.Cancelling (begins kind serial) (unwrap_or (option_map (λ (x : Registration). x.client) o) []) (reverse (take at told))) next
      ∙ sym (asked_one false agrees)

pub cancelled_on : (kind : OpKind) (serial : ℕ) (told : List Registration) (at left : ℕ) → left ≤ length told → hand_of (Stage.Cancelling kind serial (left - 1)) told at ≡ moved_on (hand_of (Stage.Cancelling kind serial left) told at)
cancelled_on kind serial told at left le = ap (λ (l : List Registration). Hand.Cancelling (begins kind serial) (client_at told at) l) (sym (reversed_less told left le))

moved_vetoed : (left : List Registration) → moved_on (vetoed left) ≡ vetoed (drop 1 left)
moved_vetoed [] = refl
moved_vetoed (r ∷ left) = refl

moved_over : (left : List Registration) → moved_on (over left) ≡ over (drop 1 left)
moved_over [] = refl
moved_over (r ∷ left) = refl

pub vetoed_on : (told : List Registration) (at : ℕ) → at ≤ length told → hand_of Stage.Vetoed told (at - 1) ≡ moved_on (hand_of Stage.Vetoed told at)
vetoed_on told at le = ap (λ (l : List Registration). vetoed l) (sym (reversed_less told at le)) ∙ sym (moved_vetoed (reverse (take at told)))

pub ended_on : (told : List Registration) (at : ℕ) → hand_of Stage.Ended told (at + 1) ≡ moved_on (hand_of Stage.Ended told at)
ended_on told at = ap (λ (l : List Registration). over l) (sym (drop-drop 1 at told)) ∙ sym (moved_over (drop at told))

-- somebody is left
pub some_left : (told : List Registration) (n : ℕ) → IsSome (slice_get (reverse (take n told)) 0) → 0 < n
some_left told zero h = absurd (cc)
some_left told (suc n) h = omega arith

-- Turns ------------------------------------------------------------------------------------

-- a round in which clients are asked stands at that stage
running_no : (told : List Registration) (first : Beginning) (agreed left : List Registration) → running told ≡ Hand.Asking first agreed left → ⊥
running_no [] first agreed left h = absurd (cc)
running_no (r ∷ told) first agreed left h = absurd (cc)

vetoed_no : (l : List Registration) (first : Beginning) (agreed left : List Registration) → vetoed l ≡ Hand.Asking first agreed left → ⊥
vetoed_no [] first agreed left h = absurd (cc)
vetoed_no (r ∷ l) first agreed left h = absurd (cc)

over_no : (l : List Registration) (first : Beginning) (agreed left : List Registration) → over l ≡ Hand.Asking first agreed left → ⊥
over_no [] first agreed left h = absurd (cc)
over_no (r ∷ l) first agreed left h = absurd (cc)

whole : (told : List Registration) (at : ℕ) → drop at told ≡ [] → take at told ≡ told
whole [] zero h = refl
whole [] (suc at) h = refl
whole (r ∷ told) zero h = absurd (cc)
whole (r ∷ told) (suc at) h = ap (λ l. r ∷ l) (whole told at h)

all_begun : (kind : OpKind) (serial : ℕ) (told : List Registration) (at : ℕ) → drop at told ≡ [] → running told ≡ begun (hand_of (Stage.Asking kind serial) told at)
all_begun kind serial told at none = sym (ap (λ (l : List Registration). running l) (reverse-reverse (take at told) ∙ whole told at none))

-- all agreed, and so all are told
pub begins_all : (stage : Stage) (told : List Registration) (at : ℕ) (hand : Hand) → hand_of stage told at ≡ hand → AllAgreed hand → running told ≡ begun hand
begins_all Stage.Nothing told at hand is all = let e = is ∙ all.is in absurd (cc)
begins_all (Stage.Asking kind serial) told at hand is all =
    let e : Hand.Asking (begins kind serial) (reverse (take at told)) (drop at told) ≡ Hand.Asking all.first all.agreed [] = is ∙ all.is in
    let none : drop at told ≡ [] = cc in
    all_begun kind serial told at none ∙ ap begun is
begins_all (Stage.Cancelling kind serial left) told at hand is all = let e = is ∙ all.is in absurd (cc)
begins_all Stage.Running told at hand is all = absurd (running_no told all.first all.agreed [] (is ∙ all.is))
begins_all Stage.Vetoed told at hand is all = absurd (vetoed_no (reverse (take at told)) all.first all.agreed [] (is ∙ all.is))
begins_all Stage.Ended told at hand is all = absurd (over_no (drop at told) all.first all.agreed [] (is ∙ all.is))

none_left : (l : List Registration) → slice_get l 0 ≡ None → l ≡ []
none_left [] h = refl
none_left (x ∷ l) h = absurd (cc)

-- where nobody is left to be asked, all agreed
pub agreed_all : (kind : OpKind) (serial : ℕ) (told : List Registration) (at : ℕ) (hand : Hand) → hand_of (Stage.Asking kind serial) told at ≡ hand → next_told hand ≡ None → AllAgreed hand
agreed_all kind serial told at hand is none =
    let left : drop at told ≡ [] = none_left (drop at told) (ap next_told is ∙ none) in
    record { first = begins kind serial; agreed = reverse (take at told); is = sym is ∙ ap (λ (l : List Registration). Hand.Asking (begins kind serial) (reverse (take at told)) l) left }

-- or those that agreed heard of the refusal
pub cancelled_all : (kind : OpKind) (serial : ℕ) (told : List Registration) (at left : ℕ) (hand : Hand) → hand_of (Stage.Cancelling kind serial left) told at ≡ hand → next_told hand ≡ None → AllCancelled kind serial hand
cancelled_all kind serial told at left hand is none =
    let rest : reverse (take left told) ≡ [] = none_left (reverse (take left told)) (ap next_told is ∙ none) in
    record { client = client_at told at; is = sym is ∙ ap (λ (l : List Registration). Hand.Cancelling (begins kind serial) (client_at told at) l) rest }

pub none_copied : (o : Option (Bor Registration)) → is_some o ≡ false → option_copied o ≡ None
none_copied None h = refl
none_copied (Some r) h = absurd (cc)
