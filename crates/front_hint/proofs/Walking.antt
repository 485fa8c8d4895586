-- Where the lines of a trace lead, and what is allowed there.
use Rattle.std.proofs.Common.{ℕ, ◌+◌, ◌-◌, ◌<◌, ◌≡◌, ◌⊎◌, true, inl, inr, Option, Some, None, Result, Ok, Err, IfOk, List, [], ◌∷◌, ◌++◌, drop, take, length, map, refl, sym, ap, ◌∙◌, subst, arith, append_assoc, length-append, Vec, Global}
use Rattle.std.proofs.lemmas.List.{append_cancel_left, take_at}
use Rattle.std.proofs.lemmas.List.Elements.{Contains-push, Contains-push_cases, Contains-append_left, Contains-append_right, Contains-append_cases}
use Rattle.std.specs.Prelude.{Contains}
use Rattle.std.specs.Option.{option_map}
use Rattle.start_sequence.specs.Begins.{settings_of}
use Rattle.inf_reader.specs.declared.parts.Inf.{Inf}
use Rattle.inf_reader.specs.declared.parts.InfError.{InfError}
use Rattle.pnp_labels.specs.Texts.{Text, label_line}
use Rattle.pnp_labels.specs.declared.label.Label.{Label}
use Rattle.pnp_labels.specs.declared.words.Answer.{Answer}
use Rattle.pnp_labels.specs.declared.words.Answer.TheVariants as answers
use Rattle.pnp_model.specs.Endings.{joined}
use Rattle.pnp_model.specs.Records.{Settings}
use Rattle.script_reader.specs.Script.{Trace, gives, waits, ends, stops}
use Rattle.free_model.specs.Checks.{end_bytes}
use Rattle.free_model.proofs.Ways.{KinLabel, one, asks, adds}
use Rattle.trace_check.specs.Turns.{IfFront}
use Rattle.notify_front.specs.Desks.{told_of}
use Rattle.notify_front.specs.Fronts.{Front}
use Rattle.free_front.proofs.Nexts.{kin_front, no_free_step}
use Rattle.front_check.specs.FrontChecks.{Place, Runs, Ends, Allows, AllowsAtRest, Follow, IsYes, IsNo}
use Rattle.front_check.specs.Turns.{IsTaken}
use Rattle.front_check.proofs.OneVerdict.{one_place}
use Rattle.trace_hint.specs.Hints.{AreRead, list_of}
use Rattle.front_hint.specs.declared.spot.Spot.{Spot}
use Rattle.front_hint.specs.Spots.{place, IsOf, AllowsBy, Leads}
use Rattle.front_hint.specs.Hints.{IsReached, Arrives, NextBy, LineBy, AreAllowed, AllowedAt, Stops}

-- A line ----------------------------------------------------------------------------------

pub allows_of : (answer : Answer) (told : Settings) (here : Place) (line : Text) (next : Place) → AllowsBy answer told here line next → Allows told here line next
allows_of answer told (Ends due) line next h = h
allows_of answer told (Runs f script) line next (inl (entry, new, steps, is, there)) = inl (entry, new, (answer, steps), is, there)
allows_of answer told (Runs f script) line next (inr h) = inr h

pub by_some : (told : Settings) (here : Place) (line : Text) (next : Place) → Allows told here line next → (answer : Answer) × AllowsBy answer told here line next
by_some told (Ends due) line next h = (answers.Ok, h)
by_some told (Runs f script) line next (inl (entry, new, (answer, steps), is, there)) = (answer, inl (entry, new, steps, is, there))
by_some told (Runs f script) line next (inr h) = (answers.Ok, inr h)

pub is_taken : (answer : Answer) (told : Settings) (here : Place) (line rest : Text) (size : ℕ) (spot : Spot) → Leads answer told here line spot → IfFront true rest line → size ≡ length line
    → IsTaken told here rest size (place spot)
is_taken answer told here line rest size spot leads front same =
    record {
      line = leads.text;
      allows = allows_of answer told here leads.text (place spot) leads.allows;
      front =
          front ∙ ap (λ (n : ℕ). line ++ drop n rest) (sym same) ∙ ap (λ (t : Text). t ++ drop size rest) leads.is ∙ append_assoc leads.text (10 ∷ []) (drop size rest);
      size = same ∙ ap length leads.is ∙ length-append leads.text (10 ∷ []);
    }

cut : (t : Text) {m n : Text} → t ++ 10 ∷ m ≡ t ++ 10 ∷ n → m ≡ n
cut t {m} {n} same = let d = append_cancel_left t (10 ∷ m) (10 ∷ n) same in cc

-- the lines that are allowed behind one that is taken
pub leads_on : (told : Settings) (here mid there : Place) (rest : Text) (size count : ℕ) → IsTaken told here rest size mid → Arrives told mid (drop size rest) count there
    → Arrives told here rest (count + 1) there
leads_on told here mid there rest size count taken on other reached = by_lines reached.lines reached.follow reached.is reached.size
  where
    by_lines : (lines : List Text) → Follow told here lines other → rest ≡ joined lines ++ reached.rest → length lines ≡ count + 1 → other ≡ there
    by_lines [] follow is same = absurd (omega (arith, same))
    by_lines (line ∷ lines) (next, allows, follow) is same =
        let whole : taken.line ++ 10 ∷ drop size rest ≡ line ++ 10 ∷ (joined lines ++ reached.rest) = sym taken.front ∙ is ∙ append_assoc line (10 ∷ joined lines) reached.rest in
        let (alike, leads) = one_place told here taken.line line (drop size rest) (joined lines ++ reached.rest) mid next taken.allows allows whole in
        let left : drop size rest ≡ joined lines ++ reached.rest = cut line (ap (λ (t : Text). t ++ 10 ∷ drop size rest) (sym alike) ∙ whole) in
        on other
        (record {
          lines = lines;
          rest = reached.rest;
          follow = subst (λ (p : Place). Follow told p lines other) (sym leads) follow;
          is = left;
          size = omega (arith, same);
        })

pub arrived : (told : Settings) (here : Place) (rest : Text) → Arrives told here rest 0 here
arrived told here rest other reached = by_lines reached.lines reached.follow reached.size
  where
    by_lines : (lines : List Text) → Follow told here lines other → length lines ≡ 0 → other ≡ here
    by_lines [] follow same = follow
    by_lines (line ∷ lines) follow same = absurd (omega (arith, same))

-- What is allowed -------------------------------------------------------------------------

one_answer : (p : Answer) (a b : Label) → KinLabel p p a b → a ≡ b
one_answer p a b (one l) = refl
one_answer p a b (asks minor path name) = refl
one_answer p a b (adds path name) = refl

one_rest : (told : Settings) (f : Front) (script : Trace) (k l : Text) (x y : Place) → AllowsAtRest f script k x → AllowsAtRest f script l y → k ≡ l
one_rest told f (gives number event rest) k l x y h g = h.0 ∙ sym g.0
one_rest told f (stops number) k l x y h g = h.0 ∙ sym g.0
one_rest told f ends k l x y (m, is, none, there) (n, too, free, here) = (one_place told (Ends (end_bytes f.state)) k l m n x y (m, is, none, there) (n, too, free, here) (sym is ∙ too)).0
one_rest told f waits k l x y h g = absurd h

-- where drivers answer so one line is allowed
one_line : (answer : Answer) (told : Settings) (here : Place) (k l : Text) (x y : Place) → AllowsBy answer told here k x → AllowsBy answer told here l y → k ≡ l
one_line answer told (Ends due) k l x y (m, is, none, there) (n, too, free, here) = (one_place told (Ends due) k l m n x y (m, is, none, there) (n, too, free, here) (sym is ∙ too)).0
one_line answer told (Runs f script) k l x y (inl (a, u, hu, la, xa)) (inl (b, v, hv, lb, xb)) = la ∙ ap label_line (one_answer answer _ _ (kin_front told f answer answer a b u v hu hv).kin) ∙ sym lb
one_line answer told (Runs f script) k l x y (inl (a, u, hu, la, xa)) (inr (quiet, g)) = absurd (no_free_step told f a u quiet (answer, hu))
one_line answer told (Runs f script) k l x y (inr (quiet, h)) (inl (b, v, hv, lb, xb)) = absurd (no_free_step told f b v quiet (answer, hv))
one_line answer told (Runs f script) k l x y (inr (quiet, h)) (inr (still, g)) = one_rest told f script k l x y h g

-- settings that a spot has
pub some_told : (spot : Spot) → (told : Settings) × IsOf told spot
some_told (Spot.Runs run reader) = (told_of run, refl)
some_told (Spot.Ends due at) = (settings_of [] 0, tt)

-- a line without its LF
pub without_feed : (line text : Text) → line ≡ text ++ 10 ∷ [] → take (length line - 1) line ≡ text
without_feed line text is = ap (λ (t : Text). take (length t - 1) t) is ∙ take_at text (10 ∷ []) (length (text ++ 10 ∷ []) - 1) (omega (arith, length-append text (10 ∷ [])))

from_one : (answer : Answer) (told : Settings) (here : Place) (line : Option Text) (x : Text) → NextBy answer told here line → Contains (list_of line) x → (next : Place) × Allows told here x next
from_one answer told here None x h within = let less : within.0 < 0 = within.1 in absurd (omega arith)
from_one answer told here (Some line) x (next, allows) within = by_case (Contains-push_cases [] line x within)
  where
    by_case : Contains ([]) x ⊎ (line ≡ x) → (next : Place) × Allows told here x next
    by_case (inl bad) = let less : bad.0 < 0 = bad.1 in absurd (omega arith)
    by_case (inr same) = (next, subst (λ (t : Text). Allows told here t next) same (allows_of answer told here line next allows))

to_one : (answer : Answer) (told : Settings) (here : Place) (line : Option Text) (x : Text) (next : Place) → NextBy answer told here line → AllowsBy answer told here x next → Contains (list_of line) x
to_one answer told here None x next none allows = absurd (none x next (allows_of answer told here x next allows))
to_one answer told here (Some line) x next (there, own) allows = subst (Contains (line ∷ [])) (one_line answer told here line x there next own allows) (Contains-push [] line)

-- each line that is allowed is so by one of the three answers
pub all_allowed : (told : Settings) (here : Place) (ok fail pend : Option Text) → NextBy answers.Ok told here ok → NextBy answers.Fail told here fail → NextBy answers.Pend told here pend
    → AreAllowed told here ((list_of ok ++ list_of fail) ++ list_of pend)
all_allowed told here ok fail pend by_ok by_fail by_pend x = (from, λ (next, allows). let (answer, by) = by_some told here x next allows in to answer next by)
  where
    from : Contains ((list_of ok ++ list_of fail) ++ list_of pend) x → (next : Place) × Allows told here x next
    from within = by_case (Contains-append_cases (list_of ok ++ list_of fail) (list_of pend) x within)
      where
        by_case : Contains (list_of ok ++ list_of fail) x ⊎ Contains (list_of pend) x → (next : Place) × Allows told here x next
        by_case (inr last) = from_one answers.Pend told here pend x by_pend last
        by_case (inl before) = by_both (Contains-append_cases (list_of ok) (list_of fail) x before)
          where
            by_both : Contains (list_of ok) x ⊎ Contains (list_of fail) x → (next : Place) × Allows told here x next
            by_both (inl first) = from_one answers.Ok told here ok x by_ok first
            by_both (inr second) = from_one answers.Fail told here fail x by_fail second

    to : (answer : Answer) (next : Place) → AllowsBy answer told here x next → Contains ((list_of ok ++ list_of fail) ++ list_of pend) x
    to answers.Ok next allows = Contains-append_left (list_of ok ++ list_of fail) (list_of pend) x (Contains-append_left (list_of ok) (list_of fail) x (to_one answers.Ok told here ok x next by_ok allows))
    to answers.Fail next allows = Contains-append_left (list_of ok ++ list_of fail) (list_of pend) x (Contains-append_right (list_of ok) (list_of fail) x (to_one answers.Fail told here fail x next by_fail allows))
    to answers.Pend next allows = Contains-append_right (list_of ok ++ list_of fail) (list_of pend) x (to_one answers.Pend told here pend x next by_pend allows)

-- INFs ------------------------------------------------------------------------------------

abbrev read_ok : Inf → Result Inf InfError
read_ok read = Ok read

pub one_read : (a b : List Inf) → map (λ (i : Inf). read_ok i) a ≡ map (λ (i : Inf). read_ok i) b → a ≡ b
one_read [] [] e = refl
one_read [] (y ∷ b) e = absurd (cc)
one_read (x ∷ a) [] e = absurd (cc)
one_read (x ∷ a) (y ∷ b) e = let rest : a ≡ b = one_read a b (cc) in cc

-- The whole -------------------------------------------------------------------------------

abbrev text_of : Vec ℕ Global → Text
text_of line = line.items

-- after the lines that a walk took
pub line_is : {E : Type 0} (r : Result (Option (Vec ℕ Global)) E) (answer : Answer) (files : List (Vec ℕ Global)) (budget : ℕ) (here : Place) (trace : Text) (count : ℕ) (begun there : Spot)
    → ((read : List Inf) → AreRead files read → (place begun ≡ here) × IsOf (settings_of read budget) begun)
    → ((told : Settings) → IsOf told begun → Arrives told (place begun) trace count (place there) × IsOf told there)
    → IfOk r (λ line. (told : Settings) → IsOf told there → NextBy answer told (place there) (option_map (λ l. text_of l) line))
    → IfOk r (λ line. (read : List Inf) → AreRead files read → LineBy answer (settings_of read budget) here trace count (option_map (λ l. text_of l) line))
line_is (Err e) answer files budget here trace count begun there begins leads next = tt
line_is (Ok line) answer files budget here trace count begun there begins leads next = λ read is other reached.
    let told : Settings = settings_of read budget in
    let (same, of) = begins read is in
    let (arrives, on) = leads told of in
    subst (λ (p : Place). NextBy answer told p (option_map (λ l. text_of l) line))
    (sym (arrives other (subst (λ (p : Place). IsReached told p trace count other) (sym same) reached))) (next told on)

-- the lines by the three answers
pub allowed_is : (files : List (Vec ℕ Global)) (budget : ℕ) (here : Place) (trace : Text) (count : ℕ) (ok fail pend : Option Text) (allowed : List Text)
    → ((read : List Inf) → AreRead files read → LineBy answers.Ok (settings_of read budget) here trace count ok)
    → ((read : List Inf) → AreRead files read → LineBy answers.Fail (settings_of read budget) here trace count fail)
    → ((read : List Inf) → AreRead files read → LineBy answers.Pend (settings_of read budget) here trace count pend)
    → allowed ≡ (list_of ok ++ list_of fail) ++ list_of pend
    → (read : List Inf) → AreRead files read → AllowedAt (settings_of read budget) here trace count allowed
allowed_is files budget here trace count ok fail pend allowed by_ok by_fail by_pend same read is there reached =
    subst (AreAllowed (settings_of read budget) there) (sym same)
    (all_allowed (settings_of read budget) there ok fail pend (by_ok read is there reached) (by_fail read is there reached) (by_pend read is there reached))

pub seen_yes : (files : List (Vec ℕ Global)) (budget : ℕ) (here : Place) (trace : Text) (own : List Inf) → AreRead files own → IsYes (settings_of own budget) here trace
    → (read : List Inf) → AreRead files read → IsYes (settings_of read budget) here trace
seen_yes files budget here trace own is all read too = subst (λ (i : List Inf). IsYes (settings_of i budget) here trace) (one_read own read (sym is ∙ too)) all

pub seen_no : (files : List (Vec ℕ Global)) (budget : ℕ) (here : Place) (trace : Text) (own : List Inf) (line before : ℕ) (allowed : List Text) → AreRead files own
    → IsNo (settings_of own budget) here trace line → before ≡ line - 1 → ((read : List Inf) → AreRead files read → AllowedAt (settings_of read budget) here trace before allowed)
    → (read : List Inf) → AreRead files read → Stops (settings_of read budget) here trace line allowed
seen_no files budget here trace own line before allowed is found count each read too =
    let (lines, there, rest, follow, whole, stuck, number) = subst (λ (i : List Inf). IsNo (settings_of i budget) here trace line) (one_read own read (sym is ∙ too)) found in
    record {
      lines = lines;
      there = there;
      rest = rest;
      follow = follow;
      is = whole;
      stuck = stuck;
      number = number;
      exact = each read too there (record { lines = lines; rest = rest; follow = follow; is = whole; size = omega (arith, number, count) });
    }
