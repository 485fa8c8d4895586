-- Where the check computes to Yes, and the answers that it was given are those of its searches, the lines are a run.
use Rattle.std.proofs.Common.{ℕ, ◌+◌, ◌≡◌, inl, inr, Bool, true, false, not, List, [], ◌∷◌, ◌++◌, take, drop, length, Option, Some, None, Decides, refl, sym, ap, ◌∙◌, subst, if◌then◌else◌}
use Rattle.std.specs.Prelude.{◌&&◌}
use Rattle.std.specs.Str.{bytes_eq}
use Rattle.std.proofs.lemmas.Slice.Eq.{bytes_eq-Decides}
use Rattle.std.proofs.lemmas.List.{take-append-drop, append_assoc}
use Rattle.pnp_labels.specs.Texts.{Text, label_line}
use Rattle.pnp_labels.specs.declared.event.Event.{Event}
use Rattle.pnp_labels.specs.declared.words.Answer.{Answer}
use Rattle.pnp_labels.specs.declared.words.Answer.TheVariants.{Ok, Fail, Pend}
use Rattle.pnp_model.specs.Records.{State, Settings, Found, Step, Doing}
use Rattle.pnp_model.specs.Records.Doing.{Does, Searches}
use Rattle.pnp_model.specs.Machine.{next, IsStep}
use Rattle.pnp_model.specs.Events.{happens}
use Rattle.script_reader.specs.Script.{Trace, gives, waits, ends, stops}
use Rattle.free_model.specs.Frees.{told, with_rack}
use Rattle.free_model.specs.Checks.{IsOfMachine, Place, Runs, Ends, bad_line, has_feed, end_bytes, AllowsFirst, AllowsAtRest, AllowsStep, Allows, Follow, Verdict, Yes, No}
use Rattle.free_model.specs.Follows.{RightDoing, RightAt, AllRight, is_of_machine, Reached, reached, by_step, by_doing, by_reply, or_else, first_due, at_rest, while_running, follow, at_end, checked}

place_is : (p : Place) (left : List Found) (r : Reached) → reached p left ≡ Some r → r.place ≡ p
place_is p left r e = cc

by_test : (b : Bool) (line l : Text) (p : Place) (left : List Found) (r : Reached) → Decides b (line ≡ l) → (if b then reached p left else None) ≡ Some r → (line ≡ l) × (r.place ≡ p)
by_test true line l p left r d e = (d.0 refl, place_is p left r e)
by_test false line l p left r d e = absurd (cc)

step_told : (s : State) (script : Trace) (left : List Found) (line : Text) (step : Step) (r : Reached) → by_step s script left line step ≡ Some r → (line ≡ label_line step.label) × (r.place ≡ Runs (with_rack s.core.rack step.state) script)
step_told s script left line step r e = by_test (bytes_eq line (label_line step.label)) line (label_line step.label) _ left r (bytes_eq-Decides line (label_line step.label)) e

doing_told : (settings : Settings) (s : State) (script : Trace) (left : List Found) (line : Text) (answer : Answer) (r : Reached) (o : Option (Doing Step)) → next settings (with_rack (told answer s.core.rack) s) ≡ o
    → RightDoing settings left o → by_doing s script left line o ≡ Some r → AllowsStep settings s script line r.place
doing_told settings s script left line answer r None is right e = absurd (cc)
doing_told settings s script left line answer r (Some (Does step)) is right e =
    let (l, place) = step_told s script left line step r e in
    (step.label, with_rack s.core.rack step.state, (answer, (step.state, subst (λ (o : Option (Doing Step)). IsStep settings o step) (sym is) refl, refl)), l, place)
doing_told settings s script [] line answer r (Some (Searches p f)) is right e = absurd (cc)
doing_told settings s script (found ∷ left) line answer r (Some (Searches p f)) is right e =
    let (l, place) = step_told s script left line (f found) r e in
    ((f found).label, with_rack s.core.rack (f found).state, (answer, ((f found).state, subst (λ (o : Option (Doing Step)). IsStep settings o (f found)) (sym is) (found, right, refl), refl)), l, place)

reply_told : (settings : Settings) (s : State) (script : Trace) (left : List Found) (line : Text) (answer : Answer) (r : Reached) → RightAt settings (Runs s script) left → by_reply settings s script left line answer ≡ Some r → AllowsStep settings s script line r.place
reply_told settings s script left line answer r right e = doing_told settings s script left line answer r (next settings (with_rack (told answer s.core.rack) s)) refl (right answer) e

one_of : (a b : Option Reached) (r : Reached) {P : Type 0} → (a ≡ Some r → P) → (b ≡ Some r → P) → or_else a b ≡ Some r → P
one_of None b r f g e = g e
one_of (Some x) b r f g e = f e

first_told : (due : Text) (left : List Found) (line : Text) (r : Reached) → first_due due left line ≡ Some r → AllowsFirst due line r.place
first_told due left line r e = by_feed (has_feed line) refl (bytes_eq (take (length line + 1) due) (line ++ 10 ∷ [])) (bytes_eq-Decides (take (length line + 1) due) (line ++ 10 ∷ [])) e
  where
    by_feed : (a : Bool) → has_feed line ≡ a → (b : Bool) → Decides b (take (length line + 1) due ≡ line ++ 10 ∷ []) → (if not a && b then reached (Ends (drop (length line + 1) due)) left else None) ≡ Some r → AllowsFirst due line r.place
    by_feed false none true d h =
        let rest : Text = drop (length line + 1) due in
        (rest, sym (take-append-drop (length line + 1) due) ∙ ap (λ (t : Text). t ++ rest) (d.0 refl) ∙ append_assoc line (10 ∷ []) rest, none, place_is (Ends rest) left r h)
    by_feed false none false d h = absurd (cc)
    by_feed true none true d h = absurd (cc)
    by_feed true none false d h = absurd (cc)

-- an event that is none of a client
of_machine : (event : Event) → is_of_machine event ≡ true → IsOfMachine event
of_machine (Event.Plug parent path hw compat reqs) is = tt
of_machine (Event.Pull path) is = tt
of_machine (Event.Name name kind) is = tt
of_machine (Event.Teach name rule) is = tt
of_machine (Event.Disable path) is = tt
of_machine (Event.Enable path) is = tt
of_machine (Event.Eject path) is = tt
of_machine (Event.Relate kind owner member) is = tt
of_machine (Event.Reserve res) is = tt
of_machine (Event.Complete path minor ok) is = tt
of_machine (Event.OpenHandle path) is = tt
of_machine (Event.CloseHandle path) is = tt
of_machine (Event.Change path reqs) is = tt
of_machine (Event.Window path res) is = tt
of_machine (Event.Watch client path agrees) is = absurd (cc)
of_machine (Event.Unwatch client path) is = absurd (cc)

rest_told : (s : State) (script : Trace) (left : List Found) (line : Text) (r : Reached) → at_rest s script left line ≡ Some r → AllowsAtRest s script line r.place
rest_told s (gives number event rest) left line r e = by_sort (is_of_machine event) refl e
  where
    by_sort : (b : Bool) → is_of_machine event ≡ b → (if b && bytes_eq line (label_line (happens s event).label) then reached (Runs (happens s event).state rest) left else None) ≡ Some r
        → AllowsAtRest s (gives number event rest) line r.place
    by_sort true is h =
        let (same, place) = by_test (bytes_eq line (label_line (happens s event).label)) line _ _ left r (bytes_eq-Decides line (label_line (happens s event).label)) h in
        (of_machine event is, same, place)
    by_sort false is h = absurd (cc)
rest_told s (stops number) left line r e = by_test (bytes_eq line (bad_line number)) line _ _ left r (bytes_eq-Decides line (bad_line number)) e
rest_told s ends left line r e = first_told (end_bytes s) left line r e
rest_told s waits left line r e = absurd (cc)

running_told : (settings : Settings) (s : State) (script : Trace) (left : List Found) (line : Text) (r : Reached) (o : Option (Doing Step)) → next settings s ≡ o → RightAt settings (Runs s script) left → while_running settings s script left line o ≡ Some r → Allows settings (Runs s script) line r.place
running_told settings s script left line r None quiet right e = inr (quiet, rest_told s script left line r e)
running_told settings s script left line r (Some doing) is right e =
    inl (one_of (by_reply settings s script left line Ok) _ r (reply_told settings s script left line Ok r right)
    (one_of (by_reply settings s script left line Fail) _ r (reply_told settings s script left line Fail r right) (reply_told settings s script left line Pend r right)) e)

pub follow_told : (settings : Settings) (place : Place) (left : List Found) (line : Text) (r : Reached) → RightAt settings place left → follow settings place left line ≡ Some r → Allows settings place line r.place
follow_told settings (Ends due) left line r right e = first_told due left line r e
follow_told settings (Runs s script) left line r right e = running_told settings s script left line r (next settings s) refl right e

done_at : (place : Place) (number : ℕ) → at_end place number ≡ Yes → Ends [] ≡ place
done_at (Ends []) number e = refl
done_at (Ends (byte ∷ more)) number e = absurd (cc)
done_at (Runs s script) number e = absurd (cc)

pub computed : (settings : Settings) (place : Place) (left : List Found) (number : ℕ) (lines : List Text) → AllRight settings place left lines → checked settings place left number lines ≡ Yes → Follow settings place lines (Ends [])
computed settings place left number [] right e = done_at place number e
computed settings place left number (line ∷ lines) right e = by_line (follow settings place left line) refl right.1 e (λ r. computed settings r.place r.left (number + 1) lines)
  where
    by_line : (o : Option Reached) → follow settings place left line ≡ o → (elim o as (λ _. Type 0) [ None ↦ Unit {0} | Some r ↦ AllRight settings r.place r.left lines ])
        → (elim o as (λ _. Verdict) [ None ↦ No number | Some r ↦ checked settings r.place r.left (number + 1) lines ]) ≡ Yes
        → ((r : Reached) → AllRight settings r.place r.left lines → checked settings r.place r.left (number + 1) lines ≡ Yes → Follow settings r.place lines (Ends [])) → Follow settings place (line ∷ lines) (Ends [])
    by_line None is more h more_of = absurd (cc)
    by_line (Some r) is more h more_of = (r.place, follow_told settings place left line r right.0 is, more_of r more h)
