-- Marks and endings of two lists of runs, put together.
use Rattle.std.proofs.Common.{◌≡◌, ℕ, zero, suc, ◌+◌, ◌-◌, ◌^◌, ◌<◌, ◌≤◌, min, ⊎_elim, true, false, cond, ◌==◌, nat_lt, List, [], ◌∷◌, ◌++◌, length, map, refl, sym, ap, subst, ◌∙◌, arith, Option, Some, None, set, replicate}
use Rattle.std.specs.List.{filter, Any, Contains}
use Rattle.std.proofs.lemmas.Bool.{cases_lt, cond-true, cond-false}
use Rattle.std.proofs.lemmas.Bool.Decides.{nat_tests}
use Rattle.std.proofs.lemmas.List.{append-nil, map-append, length-append, length-set}
use Rattle.std.proofs.lemmas.List.Elements.{All-append, All-weaker, Contains-append_left, Contains-append_right, filter-append}
use Rattle.std.specs.FinMap.{get}
use Rattle.ending_tally.specs.declared.tally.Mark.{Mark}
use Rattle.ending_tally.specs.Tallies.{Run, Ended, Told, IsLeast, IsMark, IsEnded, IsTally, capped, breaks, came_to, mark_at, no_mark}
use Rattle.ending_tally.specs.Steps.{both, with_ended}

-- the same count, told up to the end
cap_add : (a b m : ℕ) → min (min a m + min b m) m ≡ min (a + b) m
cap_add a b m = omega arith

capped-add : (m n : ℕ) → capped (capped m + capped n) ≡ capped (m + n)
capped-add m n = cap_add m n (2 ^ 64 - 1)

not_zero : (n : ℕ) → 0 < n → (n == 0) ≡ false
not_zero n h = grind (arith, nat_tests, h)

pub min_left : (a b : ℕ) → a ≤ b → min a b ≡ a
min_left a b h = omega (arith, h)

pub min_right : (a b : ℕ) → b ≤ a → min a b ≡ b
min_right a b h = omega (arith, h)

pub nat_lt_is : (a b : ℕ) → a < b → nat_lt a b ≡ true
nat_lt_is a b h = grind (arith, nat_tests, h)

pub nat_lt_not : (a b : ℕ) → b ≤ a → nat_lt a b ≡ false
nat_lt_not a b h = grind (arith, nat_tests, h)

-- the least of two lists that are not empty
least_both : (x y : ℕ) (xs ys : List ℕ) (a b : ℕ) → IsLeast (x ∷ xs) a → IsLeast (y ∷ ys) b → IsLeast ((x ∷ xs) ++ y ∷ ys) (min a b)
least_both x y xs ys a b h k = (
  ⊎_elim
      (λ (l : a < b). subst (Contains ((x ∷ xs) ++ y ∷ ys)) (sym (min_left a b (omega (arith, l)))) (Contains-append_left (x ∷ xs) (y ∷ ys) a h.0))
      (λ (l : b ≤ a). subst (Contains ((x ∷ xs) ++ y ∷ ys)) (sym (min_right a b l)) (Contains-append_right (x ∷ xs) (y ∷ ys) b k.0))
      (cases_lt a b),
  All-append (λ m. min a b ≤ m) (x ∷ xs) (y ∷ ys)
      (All-weaker (λ m. a ≤ m) (λ m. min a b ≤ m) (λ m l. omega (arith, l)) (x ∷ xs) h.1)
      (All-weaker (λ m. b ≤ m) (λ m. min a b ≤ m) (λ m l. omega (arith, l)) (y ∷ ys) k.1),
)

-- ---- marks

none_other : (one other : Mark) → other.scripts ≡ 0 → both one other ≡ one
none_other one other e = ap (λ n. cond (n == 0) one (cond (one.scripts == 0) other (record { scripts = capped (one.scripts + other.scripts); first = min one.first other.first }))) e

none_one : (one other : Mark) → 0 < other.scripts → one.scripts ≡ 0 → both one other ≡ other
none_one one other h e =
    ap (λ b. cond b one (cond (one.scripts == 0) other (record { scripts = capped (one.scripts + other.scripts); first = min one.first other.first }))) (not_zero other.scripts h)
    ∙ ap (λ n. cond (n == 0) other (record { scripts = capped (one.scripts + other.scripts); first = min one.first other.first })) e

pub both_some : (one other : Mark) → 0 < one.scripts → 0 < other.scripts → both one other ≡ record { scripts = capped (one.scripts + other.scripts); first = min one.first other.first }
both_some one other h k =
    ap (λ b. cond b one (cond (one.scripts == 0) other (record { scripts = capped (one.scripts + other.scripts); first = min one.first other.first }))) (not_zero other.scripts k)
    ∙ ap (λ b. cond b other (record { scripts = capped (one.scripts + other.scripts); first = min one.first other.first })) (not_zero one.scripts h)

numbers : List Run → List ℕ
numbers runs = map (λ run. run.number) runs

some_runs : (run : Run) (runs : List Run) (mark : Mark) → IsMark (run ∷ runs) mark → 0 < mark.scripts
some_runs run runs mark h = omega (arith, h.scripts)

-- the mark of two lists of runs
pub IsMark-append : (xs ys : List Run) (one other : Mark) → IsMark xs one → IsMark ys other → IsMark (xs ++ ys) (both one other)
IsMark-append xs [] one other h k = subst (λ l. IsMark l (both one other)) (sym (append-nil xs)) (subst (IsMark xs) (sym (none_other one other (omega (arith, k.scripts)))) h)
IsMark-append [] (y ∷ ys) one other h k = subst (IsMark (y ∷ ys)) (sym (none_one one other (some_runs y ys other k) (omega (arith, h.scripts)))) k
IsMark-append (x ∷ xs) (y ∷ ys) one other h k =
    subst (IsMark ((x ∷ xs) ++ y ∷ ys)) (sym (both_some one other (some_runs x xs one h) (some_runs y ys other k))) (record {
      scripts = ap capped (λ i. h.scripts i + k.scripts i) ∙ capped-add (length (x ∷ xs)) (length (y ∷ ys)) ∙ ap capped (sym (length-append (x ∷ xs) (y ∷ ys)));
      first = subst (λ l. IsLeast l (min one.first other.first)) (sym (map-append (λ (run : Run). run.number) (x ∷ xs) (y ∷ ys)))
          (least_both x.number y.number (map (λ run. run.number) xs) (map (λ run. run.number) ys) one.first other.first h.first k.first);
    })

-- ---- endings

-- what is told of two lists of runs that came to one kind
abbrev pub joined : Option Ended → Option Ended → Option Ended
joined told None = told
joined told (Some more) = Some (with_ended told more)

Any-left : {X : Type 0} (P : X → Type 0) (xs ys : List X) → Any P xs → Any P (xs ++ ys)
Any-left P xs ys h =
    let there = Contains-append_left xs ys h.1 (h.0, h.2, h.3) in
    (there.0, h.1, there.1, there.2, h.4)

Any-right : {X : Type 0} (P : X → Type 0) (xs ys : List X) → Any P ys → Any P (xs ++ ys)
Any-right P xs ys h =
    let there = Contains-append_right xs ys h.1 (h.0, h.2, h.3) in
    (there.0, h.1, there.1, there.2, h.4)

Any-weaker : {X : Type 0} (P Q : X → Type 0) (weaker : (x : X) → P x → Q x) (xs : List X) → Any P xs → Any Q xs
Any-weaker P Q weaker xs h = (h.0, h.1, h.2, h.3, weaker h.1 h.4)

any_runs : (P : Run → Type 0) (runs : List Run) (mark : Mark) → Any P runs → IsMark runs mark → 0 < mark.scripts
any_runs P runs mark h k = omega (arith, h.2, k.scripts)

-- an ending of which both lists have runs
ended_both : (xs ys : List Run) (told more : Ended) → IsEnded xs (Some told) → IsEnded ys (Some more) → IsEnded (xs ++ ys) (Some (with_ended (Some told) more))
ended_both xs ys told more h k =
    let whole = both_some told.mark more.mark (any_runs _ xs told.mark h.1 h.0) (any_runs _ ys more.mark k.1 k.0) in
    let least : (both told.mark more.mark).first ≡ min told.mark.first more.mark.first = ap (λ (m : Mark). m.first) whole in
    let text : List ℕ = cond (nat_lt more.mark.first told.mark.first) more.text told.text in
    let P : Run → Type 0 = λ run. (run.number ≡ (both told.mark more.mark).first) × (run.text ≡ text) in (
      IsMark-append xs ys told.mark more.mark h.0 k.0,
      ⊎_elim
          (λ (l : more.mark.first < told.mark.first). Any-right P xs ys (Any-weaker _ P
          (λ run e. (e.0 ∙ sym (min_right told.mark.first more.mark.first (omega (arith, l))) ∙ sym least, e.1 ∙ sym (cond-true _ more.text told.text (nat_lt_is more.mark.first told.mark.first l)))) ys k.1))
          (λ (l : told.mark.first ≤ more.mark.first). Any-left P xs ys (Any-weaker _ P
          (λ run e. (e.0 ∙ sym (min_left told.mark.first more.mark.first l) ∙ sym least, e.1 ∙ sym (cond-false _ more.text told.text (nat_lt_not more.mark.first told.mark.first l)))) xs h.1))
          (cases_lt more.mark.first told.mark.first),
    )

pub IsEnded-append : (xs ys : List Run) (told more : Option Ended) → IsEnded xs told → IsEnded ys more → IsEnded (xs ++ ys) (joined told more)
IsEnded-append xs ys told None h k = subst (λ l. IsEnded (xs ++ l) told) (sym k) (subst (λ l. IsEnded l told) (sym (append-nil xs)) h)
IsEnded-append xs ys None (Some more) h k = subst (λ l. IsEnded (l ++ ys) (Some more)) (sym h) k
IsEnded-append xs ys (Some told) (Some more) h k = ended_both xs ys told more h k

-- ---- tallies

-- A tally of two lists of runs: what a tally told of the first, with what there is to tell of the second.
pub IsTally-append : (few : ℕ) (xs ys : List Run) (old new : Told) (scripts : ℕ) (broken : ℕ → Mark) (endings : List ℕ → Option Ended) → IsTally few xs old
    → scripts ≡ capped (length ys)
    → ((place : ℕ) → place < few → IsMark (filter (breaks place) ys) (broken place))
    → ((kind : List ℕ) → IsEnded (filter (came_to kind) ys) (endings kind))
    → new.scripts ≡ capped (old.scripts + scripts)
    → length new.broken ≡ length old.broken
    → ((place : ℕ) → place < length old.broken → mark_at new.broken place ≡ both (mark_at old.broken place) (broken place))
    → ((kind : List ℕ) → get new.endings kind ≡ joined (get old.endings kind) (endings kind))
    → IsTally few (xs ++ ys) new
IsTally-append few xs ys old new scripts broken endings h count marks ends told_count told_few told_marks told_ends = record {
  scripts = told_count ∙ ap capped (λ i. h.scripts i + count i) ∙ capped-add (length xs) (length ys) ∙ ap capped (sym (length-append xs ys));
  expectations = told_few ∙ h.expectations;
  broken = λ place l. subst (λ runs. IsMark runs (mark_at new.broken place)) (sym (filter-append (breaks place) xs ys))
      (subst (IsMark (filter (breaks place) xs ++ filter (breaks place) ys)) (sym (told_marks place (omega (arith, l, h.expectations))))
      (IsMark-append _ _ _ _ (h.broken place l) (marks place l)));
  endings = λ kind. subst (λ runs. IsEnded runs (get new.endings kind)) (sym (filter-append (came_to kind) xs ys))
      (subst (IsEnded (filter (came_to kind) xs ++ filter (came_to kind) ys)) (sym (told_ends kind))
      (IsEnded-append _ _ _ _ (h.endings kind) (ends kind)));
}

-- ---- no runs

pub no_marks : (few place : ℕ) → mark_at (replicate few no_mark) place ≡ no_mark
no_marks zero place = refl
no_marks (suc few) zero = refl
no_marks (suc few) (suc place) = no_marks few place

pub mark_of_none : IsMark [] no_mark
mark_of_none = record { scripts = omega arith; first = refl }

-- ---- marks that are raised one after another

pub mark_at-same : (marks : List Mark) (at : ℕ) (mark : Mark) → at < length marks → mark_at (set marks at mark) at ≡ mark
mark_at-same [] at mark l = absurd (omega (arith, l))
mark_at-same (m ∷ marks) zero mark l = refl
mark_at-same (m ∷ marks) (suc at) mark l = mark_at-same marks at mark (omega (arith, l))

pub mark_at-other : (marks : List Mark) (at place : ℕ) (mark : Mark) → (place ≡ at → ⊥) → mark_at (set marks at mark) place ≡ mark_at marks place
mark_at-other [] at place mark apart = refl
mark_at-other (m ∷ marks) zero zero mark apart = absurd (apart refl)
mark_at-other (m ∷ marks) zero (suc place) mark apart = refl
mark_at-other (m ∷ marks) (suc at) zero mark apart = refl
mark_at-other (m ∷ marks) (suc at) (suc place) mark apart = mark_at-other marks at place mark (λ e. apart (ap suc e))

-- the marks below a place are raised by these
pub record Marked (first now : List Mark) (at : ℕ) (more : ℕ → Mark) : Type 0 where
  pub few : length now ≡ length first
  pub done : (place : ℕ) → place < at → mark_at now place ≡ both (mark_at first place) (more place)
  pub rest : (place : ℕ) → at ≤ place → mark_at now place ≡ mark_at first place

pub marked_more : (first now : List Mark) (at : ℕ) (more : ℕ → Mark) (mark : Mark) → at < length now → Marked first now at more → mark ≡ both (mark_at now at) (more at) → Marked first (set now at mark) (at + 1) more
marked_more first now at more mark l h e = record {
  few = length-set now at mark ∙ h.few;
  done = λ place k. ⊎_elim
      (λ (lt : place < at). mark_at-other now at place mark (λ same. omega (arith, same, lt)) ∙ h.done place lt)
      (λ (ge : at ≤ place).
      let same : at ≡ place = omega (arith, k, ge) in
      subst (λ p. mark_at (set now at mark) p ≡ both (mark_at first p) (more p)) same
      (mark_at-same now at mark l ∙ e ∙ ap (λ m. both m (more at)) (h.rest at (omega arith))))
      (cases_lt place at);
  rest = λ place k. mark_at-other now at place mark (λ same. omega (arith, same, k)) ∙ h.rest place (omega (arith, k));
}
