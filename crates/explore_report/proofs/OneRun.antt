-- Parts that are put together tell what one run tells.
use Rattle.std.proofs.Common.{◌≡◌, ℕ, Bool, List, [], ◌∷◌, length, refl, sym, ap, subst, ◌∙◌, arith}
use Rattle.std.specs.List.{All}
use Rattle.std.proofs.lemmas.List.Elements.{All-contains, All-cons}
use Rattle.script_family.specs.Laws.{below}
use Rattle.script_family.specs.Reads as family
use Rattle.ending_tally.specs.Tallies.{Run, Told, IsTally, AreOfScripts}
use Rattle.ending_tally.proofs.Turns.{one_tally}
use Rattle.explore_report.specs.declared.expected.Expected.{Expected}
use Rattle.explore_report.specs.Expectations.{broken_by, few_of}
use Rattle.explore_report.specs.Scripts.{kind_of, script_text, IsRun, AreRuns, IsTallyOf}
use Rattle.explore_report.specs.Reports.{report_text}
use Rattle.explore_report.specs.Answers.{is_broken, is_all, found_by, count_of}
use Rattle.explore_report.specs.Laws.{HasOneRun, PartsTellTheWhole}

same_run : (a b : Run) → a.number ≡ b.number → a.broken ≡ b.broken → a.kind ≡ b.kind → a.text ≡ b.text → a ≡ b
same_run a b n w k t = λ i. record { number = n i; broken = w i; kind = k i; text = t i }

-- the script of a number comes to one thing
run_once : (shows : List ℕ → List (List ℕ) → List ℕ → Type 0) (told : family.Told) (expected : Expected) (exact : Bool) → HasOneRun shows
    → (number : ℕ) (a b : Run) → IsRun shows told expected exact number a → IsRun shows told expected exact number b → a ≡ b
run_once shows told expected exact one number a b h k =
    let both = one (script_text told number) h.lines k.lines a.text b.text h.shown k.shown in
    same_run a b (h.numbered ∙ sym k.numbered) (h.broken ∙ ap (broken_by expected) both.0 ∙ sym k.broken) (h.kind ∙ ap (kind_of exact) both.1 ∙ sym k.kind) both.1

same_both : (x y : Run) (xs ys : List Run) → x ≡ y → xs ≡ ys → x ∷ xs ≡ y ∷ ys
same_both x y xs ys h k = λ i. h i ∷ k i

runs_once : (Is : ℕ → Run → Type 0) (numbers : List ℕ) (runs others : List Run) → ((number : ℕ) (a b : Run) → Is number a → Is number b → a ≡ b)
    → AreRuns Is numbers runs → AreRuns Is numbers others → runs ≡ others
runs_once Is [] [] [] once h k = refl
runs_once Is [] [] (o ∷ others) once h k = absurd k
runs_once Is [] (r ∷ runs) others once h k = absurd h
runs_once Is (n ∷ numbers) [] others once h k = absurd h
runs_once Is (n ∷ numbers) (r ∷ runs) [] once h k = absurd k
runs_once Is (n ∷ numbers) (r ∷ runs) (o ∷ others) once h k = same_both r o runs others (once n r o h.0 k.0) (runs_once Is numbers runs others once h.1 k.1)

-- each of these runs is what the script of its own number comes to
each_is : (shows : List ℕ → List (List ℕ) → List ℕ → Type 0) (told : family.Told) (expected : Expected) (exact : Bool) (numbers : List ℕ) (runs : List Run)
    → AreRuns (IsRun shows told expected exact) numbers runs → All (λ (run : Run). IsRun shows told expected exact run.number run) runs
each_is shows told expected exact [] [] h = λ k d l. absurd (omega (arith, l))
each_is shows told expected exact [] (r ∷ runs) h = absurd h
each_is shows told expected exact (n ∷ numbers) [] h = absurd h
each_is shows told expected exact (n ∷ numbers) (r ∷ runs) h =
    All-cons (λ (run : Run). IsRun shows told expected exact run.number run) r runs
    (subst (λ m. IsRun shows told expected exact m r) (sym h.0.numbered) h.0)
    (each_is shows told expected exact numbers runs h.1)

of_scripts : (shows : List ℕ → List (List ℕ) → List ℕ → Type 0) (told : family.Told) (expected : Expected) (exact : Bool) (numbers : List ℕ) (runs : List Run) → HasOneRun shows
    → AreRuns (IsRun shows told expected exact) numbers runs → AreOfScripts runs
of_scripts shows told expected exact numbers runs one h a b in_a in_b same =
    let each = each_is shows told expected exact numbers runs h in
    let is_a = All-contains (λ (run : Run). IsRun shows told expected exact run.number run) runs a each in_a in
    let is_b = All-contains (λ (run : Run). IsRun shows told expected exact run.number run) runs b each in_b in
    run_once shows told expected exact one a.number a b is_a (subst (λ m. IsRun shows told expected exact m b) (sym same) is_b)

-- the runs of the scripts of these numbers have one tally
tally_once : (shows : List ℕ → List (List ℕ) → List ℕ → Type 0) (told : family.Told) (expected : Expected) (exact : Bool) (numbers : List ℕ) (x y : Told) → HasOneRun shows
    → IsTallyOf shows told expected exact numbers x → IsTallyOf shows told expected exact numbers y → x ≡ y
tally_once shows told expected exact numbers x y one h k =
    let same = runs_once (IsRun shows told expected exact) numbers h.runs k.runs (run_once shows told expected exact one) h.are k.are in
    one_tally (few_of expected) h.runs x y (of_scripts shows told expected exact numbers h.runs one h.are) h.tally
    (subst (λ rs. IsTally (few_of expected) rs y) (sym same) k.tally)

pub parts_tell_the_whole : (shows : List ℕ → List (List ℕ) → List ℕ → Type 0) → HasOneRun shows → PartsTellTheWhole shows
parts_tell_the_whole shows one contents family e n mark names merged whole h parts k =
    let same = tally_once shows family e.expected e.exact (below n) h.told k.told one (h.tally parts) k.tally in (
      h.report.text ∙ ap (report_text family (count_of family) (length e.expected.never.items)) same ∙ sym k.report.text,
      h.report.found ∙ ap (λ t. found_by (is_broken e.endings t) (is_all n (count_of family))) same ∙ sym k.report.found,
    )
