-- A line leads to one place, and a trace has one verdict.
use Rattle.std.proofs.Common.{ℕ, suc, ◌+◌, ◌≡◌, ◌⊎◌, inl, inr, List, [], ◌∷◌, ◌++◌, Option, Some, None, slice_get, option_map, length, refl, sym, ap, ◌∙◌, subst, arith, false, ◌==◌}
use Rattle.std.proofs.lemmas.List.{append_assoc, append_cancel_left, append-nil}
use Rattle.std.proofs.lemmas.Option.{slice_get-map}
use Rattle.resource_reqs.proofs.Answering.{answer_one}
use Rattle.pnp_labels.specs.Texts.{Text, label_line}
use Rattle.pnp_labels.specs.declared.label.Label.{Label}
use Rattle.pnp_labels.specs.declared.words.Answer.{Answer}
use Rattle.pnp_model.specs.Books.{reply, book_of, rack_reply}
use Rattle.pnp_model.specs.Records.{Driver, State, Step, Settings, Doing}
use Rattle.pnp_model.specs.Machine.{next, IsStep, IsQuiet}
use Rattle.pnp_model.specs.Endings.{joined}
use Rattle.script_reader.specs.Script.{Trace, gives, waits, ends, stops}
use Rattle.free_model.specs.Frees.{told, telling, with_rack, StepsBy, FreeSteps}
use Rattle.free_model.specs.Checks.{Place, Runs, Ends, AllowsFirst, AllowsAtRest, Allows, Follow, IsStuck, Verdict, Yes, No, IsChecked, has_feed, end_bytes}
use Rattle.free_model.proofs.Racks.{faces_told, tells}
use Rattle.free_model.proofs.Alikes.{Alike, rests, does, searches}
use Rattle.free_model.specs.Asks.{Query, next_query}
use Rattle.free_model.proofs.Ways.{Way, KinLabel, one, reply_to, Agree, one_label}
use Rattle.free_model.proofs.WaySteps.{way_next}
use Rattle.free_model.proofs.Quiets.{quiet_same}
use Rattle.free_model.proofs.Lines.{or_false}

-- two steps of one state with two racks
way_steps : (settings : Settings) (q : Option Query) (a r : List Driver) {x y : Option (Doing Step)} (u v : Step) → Alike (Way q a r) x y → IsStep settings x u → IsStep settings y v → Way q a r u v
way_steps settings q a r u v rests h g = absurd h
way_steps settings q a r u v (does x0 y0 way) h g = subst (λ (s : Step). Way q a r s v) (sym h) (subst (λ (t : Step). Way q a r x0 t) (sym g) way)
way_steps settings q a r u v (searches p f k way) h g =
    let found : h.0 ≡ g.0 = answer_one p.fixed p.movers settings.budget h.0 g.0 h.1 g.1 in
    subst (λ (s : Step). Way q a r s v) (sym h.2) (subst (λ (t : Step). Way q a r (f h.0) t) (sym (g.2 ∙ ap k (sym found))) (way h.0))

-- the answer to the ask of a step where all drivers answer so is that one, if there is such a driver
replies : (q : Option Query) (rack : List Driver) (a b : Answer) → Agree q (told a rack) (told b rack) ⊎ ((reply_to q (told a rack) ≡ a) × (reply_to q (told b rack) ≡ b))
replies None rack a b = inl tt
replies (Some q) rack a b = by_get (slice_get rack q.driver) refl
  where
    at : (answer : Answer) (o : Option Driver) → slice_get rack q.driver ≡ o → rack_reply q.what q.path (told answer rack) q.driver ≡ reply q.what q.path (book_of (option_map (telling answer) o))
    at answer o is = ap (λ (x : Option Driver). reply q.what q.path (book_of x)) (slice_get-map (telling answer) rack q.driver ∙ ap (option_map (telling answer)) is)

    by_get : (o : Option Driver) → slice_get rack q.driver ≡ o → Agree (Some q) (told a rack) (told b rack) ⊎ ((reply_to (Some q) (told a rack) ≡ a) × (reply_to (Some q) (told b rack) ≡ b))
    by_get None is = inl (at b None is ∙ sym (at a None is))
    by_get (Some d) is = inr (at a (Some d) is ∙ tells a q.what q.path, at b (Some d) is ∙ tells b q.what q.path)

-- two free steps of one state have one label, or labels that tell their answers to one ask
pub kin_steps : (settings : Settings) (f : State) (p q : Answer) (a b : Label) (x y : State) → StepsBy p settings f a x → StepsBy q settings f b y → KinLabel p q a b
kin_steps settings f p q a b x y (u, hu, eu) (v, hv, ev) =
    let rack : List Driver = f.core.rack in
    let ask : Option Query = next_query (with_rack (told p rack) f) in
    let way = way_steps settings ask (told p rack) (told q rack) (record { label = a; state = u }) (record { label = b; state = v })
    (way_next settings (with_rack (told p rack) f) (told q rack) (faces_told q rack ∙ sym (faces_told p rack))) hu hv
    in
    by_replies way (replies ask rack p q)
  where
    by_replies : {ask : Option Query} {s t : List Driver} {v w : State} → Way ask s t (record { label = a; state = v }) (record { label = b; state = w })
        → Agree ask s t ⊎ ((reply_to ask s ≡ p) × (reply_to ask t ≡ q)) → KinLabel p q a b
    by_replies way (inl agree) = subst (λ (l : Label). KinLabel p q a l) (sym (ap (λ (s : Step). s.label) (way.agrees agree))) (one a)
    by_replies {ask} {s} way (inr (is, too)) = subst (λ (r : Answer). KinLabel r q a b) is (subst (λ (r : Answer). KinLabel (reply_to ask s) r a b) too way.kin)

-- whatever is answered, one line leads to one state
pub one_state : (settings : Settings) (f : State) (a b : Label) (x y : State) (m n : Text) → FreeSteps settings f a x → FreeSteps settings f b y
    → label_line a ++ 10 ∷ m ≡ label_line b ++ 10 ∷ n → (a ≡ b) × (x ≡ y)
one_state settings f a b x y m n (p, (u, hu, eu)) (q, (v, hv, ev)) line =
    let rack : List Driver = f.core.rack in
    let way = way_steps settings (next_query (with_rack (told p rack) f)) (told p rack) (told q rack) (record { label = a; state = u }) (record { label = b; state = v })
    (way_next settings (with_rack (told p rack) f) (told q rack) (faces_told q rack ∙ sym (faces_told p rack))) hu hv
    in
    let label : a ≡ b = one_label m n way.kin line in
    (label, eu ∙ ap (with_rack rack) (sym (way.same label)) ∙ sym ev)

pub no_step : (settings : Settings) (f : State) (label : Label) (new : State) → IsQuiet settings f → FreeSteps settings f label new → ⊥
no_step settings f label new quiet (answer, (next_state, h, e)) =
    subst (λ (o : Option (Doing Step)). IsStep settings o (record { label = label; state = next_state })) (quiet_same settings f (told answer f.core.rack) quiet) h

abbrev head : Text → ℕ
head [] = 0
head (x ∷ xs) = x

abbrev tail : Text → Text
tail [] = []
tail (x ∷ xs) = xs

numbers_of : (n m : ℕ) → n ≡ m → n ≡ m
numbers_of n m e = e

feed_not : (x : ℕ) (xs : Text) → 10 ≡ x → has_feed (x ∷ xs) ≡ false → ⊥
feed_not x xs e h = let bad : has_feed (10 ∷ xs) ≡ false = subst (λ (y : ℕ). has_feed (y ∷ xs) ≡ false) (sym e) h in absurd (cc)

-- a text begins with one line
feed_one : (k l m n : Text) → has_feed k ≡ false → has_feed l ≡ false → k ++ 10 ∷ m ≡ l ++ 10 ∷ n → (k ≡ l) × (m ≡ n)
feed_one [] [] m n a b e = (refl, ap tail e)
feed_one [] (y ∷ l) m n a b e = absurd (feed_not y l (numbers_of 10 y (ap head e)) b)
feed_one (x ∷ k) [] m n a b e = absurd (feed_not x k (sym (numbers_of x 10 (ap head e))) a)
feed_one (x ∷ k) (y ∷ l) m n a b e =
    let (same, rest) = feed_one k l m n (or_false (x == 10) (has_feed k) a).1 (or_false (y == 10) (has_feed l) b).1 (ap tail e) in
    (ap (λ (z : ℕ). z ∷ k) (numbers_of x y (ap head e)) ∙ ap (λ (t : Text). y ∷ t) same, rest)

first_one : (due : Text) (k l : Text) (x y : Place) → AllowsFirst due k x → AllowsFirst due l y → (k ≡ l) × (x ≡ y)
first_one due k l x y (m, is, none, there) (n, too, free, here) =
    let (same, rest) = feed_one k l m n none free (sym is ∙ too) in
    (same, there ∙ ap Ends rest ∙ sym here)

rest_one : (s : State) (script : Trace) (k l : Text) (x y : Place) → AllowsAtRest s script k x → AllowsAtRest s script l y → (k ≡ l) × (x ≡ y)
rest_one s (gives number event rest) k l x y (own, line, place) (also, too, there) = (line ∙ sym too, place ∙ sym there)
rest_one s (stops number) k l x y h g = (h.0 ∙ sym g.0, h.1 ∙ sym g.1)
rest_one s ends k l x y h g = first_one (end_bytes s) k l x y h g
rest_one s waits k l x y h g = absurd h

-- of the lines that are allowed at a place at most one begins a text, and it leads to one place
pub one_place : (settings : Settings) (here : Place) (k l m n : Text) (x y : Place) → Allows settings here k x → Allows settings here l y → k ++ 10 ∷ m ≡ l ++ 10 ∷ n → (k ≡ l) × (x ≡ y)
one_place settings (Ends due) k l m n x y h g e = first_one due k l x y h g
one_place settings (Runs s script) k l m n x y (inl (a, u, hu, la, xa)) (inl (b, v, hv, lb, xb)) e =
    let (label, state) = one_state settings s a b u v m n hu hv (ap (λ (t : Text). t ++ 10 ∷ m) (sym la) ∙ e ∙ ap (λ (t : Text). t ++ 10 ∷ n) lb) in
    (la ∙ ap label_line label ∙ sym lb, xa ∙ ap (λ (t : State). Runs t script) state ∙ sym xb)
one_place settings (Runs s script) k l m n x y (inl (a, u, hu, la, xa)) (inr (quiet, g)) e = absurd (no_step settings s a u quiet hu)
one_place settings (Runs s script) k l m n x y (inr (quiet, h)) (inl (b, v, hv, lb, xb)) e = absurd (no_step settings s b v quiet hv)
one_place settings (Runs s script) k l m n x y (inr (quiet, h)) (inr (still, g)) e = rest_one s script k l x y h g

-- Verdicts -------------------------------------------------------------------------------------------

-- the trace ends well here, or is stuck
data Final (settings : Settings) : Place → Text → Verdict → ℕ → Type 0 where
  good : (count : ℕ) → Final settings (Ends []) [] Yes count
  stuck : (here : Place) (rest : Text) (count : ℕ) → IsStuck settings here rest → Final settings here rest (No (count + 1)) count

not_empty : (line more : Text) → [] ≡ line ++ 10 ∷ more → ⊥
not_empty [] more e = cc
not_empty (x ∷ line) more e = cc

-- nothing is allowed at its end
shut : (settings : Settings) {here : Place} {rest : Text} {v : Verdict} {count : ℕ} → Final settings here rest v count → (line more : Text) (next : Place) → rest ≡ line ++ 10 ∷ more → Allows settings here line next → ⊥
shut settings (good count) line more next e h = absurd (not_empty line more e)
shut settings (stuck here rest count is) line more next e h = is.unallowed line more next e h

both : (settings : Settings) (here : Place) (rest : Text) (count : ℕ) (v w : Verdict) → Final settings here rest v count → Final settings here rest w count → v ≡ w
both settings here rest count v w (good _) (good _) = refl
both settings here rest count v w (good _) (stuck _ _ _ is) = absurd (is.undone refl refl)
both settings here rest count v w (stuck _ _ _ is) (good _) = absurd (is.undone refl refl)
both settings here rest count v w (stuck _ _ _ is) (stuck _ _ _ too) = refl

same_from : (settings : Settings) (here a b : Place) (xs ys : List Text) (p q : Text) (count : ℕ) (v w : Verdict) → Follow settings here xs a → Follow settings here ys b
    → joined xs ++ p ≡ joined ys ++ q → Final settings a p v (count + length xs) → Final settings b q w (count + length ys) → v ≡ w
same_from settings here a b [] [] p q count v w h g e f k =
    both settings here p (count + 0) v w (subst (λ (x : Place). Final settings x p v (count + 0)) h f)
    (subst (λ (x : Place). Final settings x p w (count + 0)) g (subst (λ (t : Text). Final settings b t w (count + 0)) (sym e) k))
same_from settings here a b [] (l ∷ ys) p q count v w h (next, allows, g) e f k =
    absurd (shut settings f l (joined ys ++ q) next (e ∙ append_assoc l (10 ∷ joined ys) q) (subst (λ (x : Place). Allows settings x l next) (sym h) allows))
same_from settings here a b (l ∷ xs) [] p q count v w (next, allows, h) g e f k =
    absurd (shut settings k l (joined xs ++ p) next (sym e ∙ append_assoc l (10 ∷ joined xs) p) (subst (λ (x : Place). Allows settings x l next) (sym g) allows))
same_from settings here a b (l ∷ xs) (j ∷ ys) p q count v w (x, allows, h) (y, allowed, g) e f k =
    let whole : l ++ 10 ∷ (joined xs ++ p) ≡ j ++ 10 ∷ (joined ys ++ q) = sym (append_assoc l (10 ∷ joined xs) p) ∙ e ∙ append_assoc j (10 ∷ joined ys) q in
    let (line, place) = one_place settings here l j (joined xs ++ p) (joined ys ++ q) x y allows allowed whole in
    let rest : joined xs ++ p ≡ joined ys ++ q = cut j (ap (λ (t : Text). t ++ 10 ∷ (joined xs ++ p)) (sym line) ∙ whole) in
    same_from settings x a b xs ys p q (count + 1) v w h (subst (λ (z : Place). Follow settings z ys b) (sym place) g) rest
    (subst (Final settings a p v) (shift count (length xs)) f) (subst (Final settings b q w) (shift count (length ys)) k)
  where
    cut : (t : Text) {m n : Text} → t ++ 10 ∷ m ≡ t ++ 10 ∷ n → m ≡ n
    cut t {m} {n} same = let d = append_cancel_left t (10 ∷ m) (10 ∷ n) same in cc

    shift : (c n : ℕ) → c + suc n ≡ c + 1 + n
    shift c n = omega arith

final_of : (settings : Settings) (here : Place) (trace : Text) (v : Verdict) → IsChecked settings here trace v
    → (lines : List Text) × (there : Place) × (rest : Text) × Follow settings here lines there × (trace ≡ joined lines ++ rest) × Final settings there rest v (length lines)
final_of settings here trace Yes (lines, follow, is) = (lines, Ends [], [], follow, is ∙ sym (append-nil (joined lines)), good _)
final_of settings here trace (No number) (lines, there, rest, follow, is, held, count) =
    (lines, there, rest, follow, is, subst (λ (n : ℕ). Final settings there rest (No n) (length lines)) (sym count) (stuck there rest (length lines) held))

from_zero : (n : ℕ) → n ≡ 0 + n
from_zero n = omega arith

-- a trace has one verdict
pub one_verdict : (settings : Settings) (here : Place) (trace : Text) (v w : Verdict) → IsChecked settings here trace v → IsChecked settings here trace w → v ≡ w
one_verdict settings here trace v w h g =
    let (xs, a, p, follow, is, final) = final_of settings here trace v h in
    let (ys, b, q, also, too, other) = final_of settings here trace w g in
    same_from settings here a b xs ys p q 0 v w follow also (sym is ∙ too) (subst (Final settings a p v) (from_zero (length xs)) final) (subst (Final settings b q w) (from_zero (length ys)) other)
