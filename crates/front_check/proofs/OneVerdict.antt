-- A line leads to one place, and a trace has one verdict.
use Rattle.std.proofs.Common.{ℕ, suc, ◌+◌, ◌≡◌, inl, inr, List, [], ◌∷◌, ◌++◌, length, refl, sym, ap, ◌∙◌, subst, arith}
use Rattle.std.proofs.lemmas.List.{append_assoc, append_cancel_left, append-nil}
use Rattle.pnp_labels.specs.Texts.{Text, label_line}
use Rattle.pnp_model.specs.Endings.{joined}
use Rattle.pnp_model.specs.Records.{Settings}
use Rattle.script_reader.specs.Script.{Trace, gives, waits, ends, stops}
use Rattle.free_model.specs.Checks as machine
use Rattle.free_model.specs.Checks.{Verdict, Yes, No, end_bytes}
use Rattle.free_model.proofs.OneVerdict as earlier
use Rattle.notify_front.specs.Fronts.{Front, FrontEntry, front_printed}
use Rattle.free_front.proofs.Nexts.{kin_front, no_free_step}
use Rattle.front_check.specs.FrontChecks.{Place, Runs, Ends, AllowsFirst, AllowsAtRest, Allows, Follow, IsStuck, IsChecked}
use Rattle.front_check.specs.Laws.{OnePlaceLaw, OneVerdictLaw}

abbrev due_of : machine.Place → Text
due_of (machine.Runs s script) = []
due_of (machine.Ends due) = due

first_one : (settings : Settings) (due k l m n : Text) (x y : Place) → AllowsFirst due k x → AllowsFirst due l y → k ++ 10 ∷ m ≡ l ++ 10 ∷ n → (k ≡ l) × (x ≡ y)
first_one settings due k l m n x y (p, is, none, there) (q, too, free, here) e =
    let (same, rest) = earlier.one_place settings (machine.Ends due) k l m n (machine.Ends p) (machine.Ends q) (p, is, none, refl) (q, too, free, refl) e in
    (same, there ∙ ap Ends (ap due_of rest) ∙ sym here)

rest_one : (settings : Settings) (f : Front) (script : Trace) (k l m n : Text) (x y : Place) → AllowsAtRest f script k x → AllowsAtRest f script l y → k ++ 10 ∷ m ≡ l ++ 10 ∷ n → (k ≡ l) × (x ≡ y)
rest_one settings f (gives number event rest) k l m n x y h g e = (h.0 ∙ sym g.0, h.1 ∙ sym g.1)
rest_one settings f (stops number) k l m n x y h g e = (h.0 ∙ sym g.0, h.1 ∙ sym g.1)
rest_one settings f ends k l m n x y h g e = first_one settings (end_bytes f.state) k l m n x y h g e
rest_one settings f waits k l m n x y h g e = absurd h

pub one_place : OnePlaceLaw
one_place settings (Ends due) k l m n x y h g e = first_one settings due k l m n x y h g e
one_place settings (Runs f script) k l m n x y (inl (a, u, (p, hu), la, xa)) (inl (b, v, (q, hv), lb, xb)) e =
    let (entry, front) = (kin_front settings f p q a b u v hu hv).line m n (ap (λ (t : Text). t ++ 10 ∷ m) (sym la) ∙ e ∙ ap (λ (t : Text). t ++ 10 ∷ n) lb) in
    (la ∙ ap (λ (x : FrontEntry). label_line (front_printed x)) entry ∙ sym lb, xa ∙ ap (λ (g : Front). Runs g script) front ∙ sym xb)
one_place settings (Runs f script) k l m n x y (inl (a, u, hu, la, xa)) (inr (quiet, g)) e = absurd (no_free_step settings f a u quiet hu)
one_place settings (Runs f script) k l m n x y (inr (quiet, h)) (inl (b, v, hv, lb, xb)) e = absurd (no_free_step settings f b v quiet hv)
one_place settings (Runs f script) k l m n x y (inr (quiet, h)) (inr (still, g)) e = rest_one settings f script k l m n x y h g e

-- Verdicts -------------------------------------------------------------------------------------------

-- the trace ends well here, or is stuck
data Final (settings : Settings) : Place → Text → Verdict → ℕ → Type 0 where
  good : (count : ℕ) → Final settings (Ends []) [] Yes count
  stuck : (here : Place) (rest : Text) (count : ℕ) → IsStuck settings here rest → Final settings here rest (No (count + 1)) count

not_empty : (line more : Text) → [] ≡ line ++ 10 ∷ more → ⊥
not_empty [] more e = cc
not_empty (x ∷ line) more e = cc

-- nothing is allowed at its end
shut : (settings : Settings) {here : Place} {rest : Text} {v : Verdict} {count : ℕ} → Final settings here rest v count → (line more : Text) (next : Place) → rest ≡ line ++ 10 ∷ more → Allows settings here line next → ⊥
shut settings (good count) line more next e h = absurd (not_empty line more e)
shut settings (stuck here rest count is) line more next e h = is.unallowed line more next e h

both : (settings : Settings) (here : Place) (rest : Text) (count : ℕ) (v w : Verdict) → Final settings here rest v count → Final settings here rest w count → v ≡ w
both settings here rest count v w (good _) (good _) = refl
both settings here rest count v w (good _) (stuck _ _ _ is) = absurd (is.undone refl refl)
both settings here rest count v w (stuck _ _ _ is) (good _) = absurd (is.undone refl refl)
both settings here rest count v w (stuck _ _ _ is) (stuck _ _ _ too) = refl

same_from : (settings : Settings) (here a b : Place) (xs ys : List Text) (p q : Text) (count : ℕ) (v w : Verdict) → Follow settings here xs a → Follow settings here ys b
    → joined xs ++ p ≡ joined ys ++ q → Final settings a p v (count + length xs) → Final settings b q w (count + length ys) → v ≡ w
same_from settings here a b [] [] p q count v w h g e f k =
    both settings here p (count + 0) v w (subst (λ (x : Place). Final settings x p v (count + 0)) h f)
    (subst (λ (x : Place). Final settings x p w (count + 0)) g (subst (λ (t : Text). Final settings b t w (count + 0)) (sym e) k))
same_from settings here a b [] (l ∷ ys) p q count v w h (next, allows, g) e f k =
    absurd (shut settings f l (joined ys ++ q) next (e ∙ append_assoc l (10 ∷ joined ys) q) (subst (λ (x : Place). Allows settings x l next) (sym h) allows))
same_from settings here a b (l ∷ xs) [] p q count v w (next, allows, h) g e f k =
    absurd (shut settings k l (joined xs ++ p) next (sym e ∙ append_assoc l (10 ∷ joined xs) p) (subst (λ (x : Place). Allows settings x l next) (sym g) allows))
same_from settings here a b (l ∷ xs) (j ∷ ys) p q count v w (x, allows, h) (y, allowed, g) e f k =
    let whole : l ++ 10 ∷ (joined xs ++ p) ≡ j ++ 10 ∷ (joined ys ++ q) = sym (append_assoc l (10 ∷ joined xs) p) ∙ e ∙ append_assoc j (10 ∷ joined ys) q in
    let (line, place) = one_place settings here l j (joined xs ++ p) (joined ys ++ q) x y allows allowed whole in
    let rest : joined xs ++ p ≡ joined ys ++ q = cut j (ap (λ (t : Text). t ++ 10 ∷ (joined xs ++ p)) (sym line) ∙ whole) in
    same_from settings x a b xs ys p q (count + 1) v w h (subst (λ (z : Place). Follow settings z ys b) (sym place) g) rest
    (subst (Final settings a p v) (shift count (length xs)) f) (subst (Final settings b q w) (shift count (length ys)) k)
  where
    cut : (t : Text) {m n : Text} → t ++ 10 ∷ m ≡ t ++ 10 ∷ n → m ≡ n
    cut t {m} {n} same = let d = append_cancel_left t (10 ∷ m) (10 ∷ n) same in cc

    shift : (c n : ℕ) → c + suc n ≡ c + 1 + n
    shift c n = omega arith

final_of : (settings : Settings) (here : Place) (trace : Text) (v : Verdict) → IsChecked settings here trace v
    → (lines : List Text) × (there : Place) × (rest : Text) × Follow settings here lines there × (trace ≡ joined lines ++ rest) × Final settings there rest v (length lines)
final_of settings here trace Yes (lines, follow, is) = (lines, Ends [], [], follow, is ∙ sym (append-nil (joined lines)), good _)
final_of settings here trace (No number) (lines, there, rest, follow, is, held, count) =
    (lines, there, rest, follow, is, subst (λ (n : ℕ). Final settings there rest (No n) (length lines)) (sym count) (stuck there rest (length lines) held))

from_zero : (n : ℕ) → n ≡ 0 + n
from_zero n = omega arith

-- a trace has one verdict
pub one_verdict : OneVerdictLaw
one_verdict settings here trace v w h g =
    let (xs, a, p, follow, is, final) = final_of settings here trace v h in
    let (ys, b, q, also, too, other) = final_of settings here trace w g in
    same_from settings here a b xs ys p q 0 v w follow also (sym is ∙ too) (subst (Final settings a p v) (from_zero (length xs)) final) (subst (Final settings b q w) (from_zero (length ys)) other)
