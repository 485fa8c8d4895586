-- Where the check computes to No, and the answers that it was given are those of its searches, the line of this number is not allowed.
use Rattle.std.proofs.Common.{ℕ, suc, ◌+◌, ◌≡◌, inl, inr, Bool, true, false, not, List, [], ◌∷◌, ◌++◌, take, drop, length, Option, Some, None, refl, sym, ap, ◌∙◌, arith, if◌then◌else◌}
use Rattle.std.specs.Prelude.{◌&&◌}
use Rattle.std.specs.Str.{bytes_eq}
use Rattle.std.proofs.lemmas.Slice.Eq.{bytes_eq-Decides}
use Rattle.std.proofs.Math.Seq.{take-append-add}
use Rattle.resource_reqs.proofs.Answering.{answer_one}
use Rattle.pnp_labels.specs.Texts.{Text, label_line}
use Rattle.pnp_labels.specs.declared.event.Event.{Event}
use Rattle.pnp_labels.specs.declared.words.Answer.{Answer}
use Rattle.pnp_labels.specs.declared.words.Answer.TheVariants.{Ok, Fail, Pend}
use Rattle.pnp_labels.specs.declared.label.Label.{Label}
use Rattle.pnp_model.specs.Records.{State, Settings, Found, Step, Doing}
use Rattle.pnp_model.specs.Records.Doing.{Does, Searches}
use Rattle.pnp_model.specs.Machine.{next, IsStep}
use Rattle.pnp_model.specs.Events.{happens}
use Rattle.script_reader.specs.Script.{Trace, gives, waits, ends, stops}
use Rattle.free_model.specs.Frees.{told, with_rack}
use Rattle.free_model.specs.Checks.{IsOfMachine, Place, Runs, Ends, bad_line, has_feed, end_bytes, AllowsFirst, AllowsAtRest, Allows, Follow, Verdict, Yes, No}
use Rattle.free_model.specs.Follows.{RightDoing, RightAt, AllRight, is_of_machine, Reached, reached, by_step, by_doing, by_reply, by_any, or_else, first_due, at_rest, while_running, follow, at_end, checked}
use Rattle.free_model.specs.Laws.{IsRefused, ComputesVerdictsLaw}
use Rattle.free_model.proofs.OneVerdict.{no_step}
use Rattle.free_model.proofs.Computed.{follow_told, computed}

-- a line that is allowed is followed ------------------------------------------------------------

passes : (b : Bool) (p : Place) (left : List Found) → b ≡ true → (if b then reached p left else None) ≡ None → ⊥
passes true p left is e = cc
passes false p left is e = cc

same_bytes : (line l : Text) → line ≡ l → bytes_eq line l ≡ true
same_bytes line l same = (bytes_eq-Decides line l).1 same

by_step_passes : (s : State) (script : Trace) (left : List Found) (line : Text) (step : Step) → line ≡ label_line step.label → by_step s script left line step ≡ None → ⊥
by_step_passes s script left line step same e = passes (bytes_eq line (label_line step.label)) _ left (same_bytes line (label_line step.label) same) e

doing_passes : (settings : Settings) (s : State) (script : Trace) (left : List Found) (line : Text) (o : Option (Doing Step)) (label : Label) (new : State) → RightDoing settings left o
    → IsStep settings o (record { label = label; state = new }) → line ≡ label_line label → by_doing s script left line o ≡ None → ⊥
doing_passes settings s script left line None label new right h same e = h
doing_passes settings s script left line (Some (Does step)) label new right h same e =
    by_step_passes s script left line step (same ∙ ap (λ (x : Step). label_line x.label) h) e
doing_passes settings s script [] line (Some (Searches p f)) label new right h same e = right
doing_passes settings s script (found ∷ left) line (Some (Searches p f)) label new right (other, answer, h) same e =
    let one : other ≡ found = answer_one p.fixed p.movers settings.budget other found answer right in
    by_step_passes s script left line (f found) (same ∙ ap (λ (x : Step). label_line x.label) h ∙ ap (λ (x : Found). label_line (f x).label) one) e

neither : (a b : Option Reached) → or_else a b ≡ None → (a ≡ None) × (b ≡ None)
neither None b e = (refl, e)
neither (Some r) b e = absurd (cc)

-- each answer is tried
tried : (settings : Settings) (s : State) (script : Trace) (left : List Found) (line : Text) → by_any settings s script left line ≡ None → (answer : Answer) → by_reply settings s script left line answer ≡ None
tried settings s script left line e Ok = (neither (by_reply settings s script left line Ok) (or_else (by_reply settings s script left line Fail) (by_reply settings s script left line Pend)) e).0
tried settings s script left line e Fail =
    let more = (neither (by_reply settings s script left line Ok) (or_else (by_reply settings s script left line Fail) (by_reply settings s script left line Pend)) e).1 in
    (neither (by_reply settings s script left line Fail) (by_reply settings s script left line Pend) more).0
tried settings s script left line e Pend =
    let more = (neither (by_reply settings s script left line Ok) (or_else (by_reply settings s script left line Fail) (by_reply settings s script left line Pend)) e).1 in
    (neither (by_reply settings s script left line Fail) (by_reply settings s script left line Pend) more).1

first_passes : (due : Text) (left : List Found) (line : Text) (there : Place) → AllowsFirst due line there → first_due due left line ≡ None → ⊥
first_passes due left line there (more, is, none, _) e =
    passes (not (has_feed line) && bytes_eq (take (length line + 1) due) (line ++ 10 ∷ [])) (Ends (drop (length line + 1) due)) left
    (ap (λ (b : Bool). not b && bytes_eq (take (length line + 1) due) (line ++ 10 ∷ [])) none
    ∙ same_bytes (take (length line + 1) due) (line ++ 10 ∷ []) (ap (take (length line + 1)) is ∙ take-append-add line (10 ∷ more) 1)) e

-- an event that is none of a client
machines : (event : Event) → IsOfMachine event → is_of_machine event ≡ true
machines (Event.Plug parent path hw compat reqs) own = refl
machines (Event.Pull path) own = refl
machines (Event.Name name kind) own = refl
machines (Event.Teach name rule) own = refl
machines (Event.Disable path) own = refl
machines (Event.Enable path) own = refl
machines (Event.Eject path) own = refl
machines (Event.Relate kind owner member) own = refl
machines (Event.Reserve res) own = refl
machines (Event.Complete path minor ok) own = refl
machines (Event.OpenHandle path) own = refl
machines (Event.CloseHandle path) own = refl
machines (Event.Change path reqs) own = refl
machines (Event.Window path res) own = refl
machines (Event.Watch client path agrees) own = absurd own
machines (Event.Unwatch client path) own = absurd own

rest_passes : (s : State) (script : Trace) (left : List Found) (line : Text) (there : Place) → AllowsAtRest s script line there → at_rest s script left line ≡ None → ⊥
rest_passes s (gives number event rest) left line there (own, same, _) e =
    passes (is_of_machine event && bytes_eq line (label_line (happens s event).label)) _ left
    (ap (λ (b : Bool). b && bytes_eq line (label_line (happens s event).label)) (machines event own) ∙ same_bytes line (label_line (happens s event).label) same) e
rest_passes s (stops number) left line there (same, _) e = passes (bytes_eq line (bad_line number)) _ left (same_bytes line (bad_line number) same) e
rest_passes s ends left line there allows e = first_passes (end_bytes s) left line there allows e
rest_passes s waits left line there allows e = allows

running_passes : (settings : Settings) (s : State) (script : Trace) (left : List Found) (line : Text) (there : Place) (o : Option (Doing Step)) → next settings s ≡ o → RightAt settings (Runs s script) left
    → Allows settings (Runs s script) line there → while_running settings s script left line o ≡ None → ⊥
running_passes settings s script left line there None quiet right (inl (label, new, free, same, _)) e = no_step settings s label new quiet free
running_passes settings s script left line there None quiet right (inr (still, allows)) e = rest_passes s script left line there allows e
running_passes settings s script left line there (Some doing) is right (inl (label, new, (answer, (mid, step, _)), same, _)) e =
    doing_passes settings s script left line (next settings (with_rack (told answer s.core.rack) s)) label mid (right answer) step same (tried settings s script left line e answer)
running_passes settings s script left line there (Some doing) is right (inr (quiet, allows)) e = absurd (let bad : None ≡ Some doing = sym quiet ∙ is in cc)

allowed_passes : (settings : Settings) (place : Place) (left : List Found) (line : Text) (there : Place) → RightAt settings place left → Allows settings place line there → follow settings place left line ≡ None → ⊥
allowed_passes settings (Ends due) left line there right allows e = first_passes due left line there allows e
allowed_passes settings (Runs s script) left line there right allows e = running_passes settings s script left line there (next settings s) refl right allows e

-- all lines -----------------------------------------------------------------------------------------

-- so many lines are allowed, counted from a number on, and then not the next
record Stopped (settings : Settings) (here : Place) (lines : List Text) (number count : ℕ) : Type 0 where
  before : List Text
  there : Place
  rest : List Text
  follows : Follow settings here before there
  is : lines ≡ before ++ rest
  refused : IsRefused settings there rest
  counted : count ≡ length before + number

number_of : Verdict → ℕ
number_of Yes = 0
number_of (No number) = number

same_number : (m n : ℕ) → No m ≡ No n → m ≡ n
unfolding number_of
same_number m n e = ap number_of e

from_zero : (n m : ℕ) → m ≡ n → n ≡ 0 + m
from_zero n m e = omega arith

at_the_end : (settings : Settings) (place : Place) (number count : ℕ) → at_end place number ≡ No count → Stopped settings place [] number count
at_the_end settings (Ends []) number count e = absurd (cc)
at_the_end settings (Ends (byte ∷ more)) number count e =
    record { before = []; there = Ends (byte ∷ more); rest = []; follows = refl; is = refl; refused = λ same. cc; counted = from_zero count number (same_number number count e) }
at_the_end settings (Runs s script) number count e =
    record { before = []; there = Runs s script; rest = []; follows = refl; is = refl; refused = λ same. cc; counted = from_zero count number (same_number number count e) }

one_later : (n m : ℕ) → n + (m + 1) ≡ suc n + m
one_later n m = omega arith

stopped : (settings : Settings) (place : Place) (left : List Found) (number count : ℕ) (lines : List Text) → AllRight settings place left lines → checked settings place left number lines ≡ No count → Stopped settings place lines number count
stopped settings place left number count [] right e = at_the_end settings place number count e
stopped settings place left number count (line ∷ lines) right e = by_line (follow settings place left line) refl right.1 e (λ r. stopped settings r.place r.left (number + 1) count lines)
  where
    by_line : (o : Option Reached) → follow settings place left line ≡ o → (elim o as (λ _. Type 0) [ None ↦ Unit {0} | Some r ↦ AllRight settings r.place r.left lines ])
        → (elim o as (λ _. Verdict) [ None ↦ No number | Some r ↦ checked settings r.place r.left (number + 1) lines ]) ≡ No count
        → ((r : Reached) → AllRight settings r.place r.left lines → checked settings r.place r.left (number + 1) lines ≡ No count → Stopped settings r.place lines (number + 1) count)
        → Stopped settings place (line ∷ lines) number count
    by_line None is more h later =
        record { before = []; there = place; rest = line ∷ lines; follows = refl; is = refl; refused = λ there allows. allowed_passes settings place left line there right.0 allows is; counted = from_zero count number (same_number number count h) }
    by_line (Some r) is more h later =
        let on = later r more h in
        record {
          before = line ∷ on.before;
          there = on.there;
          rest = on.rest;
          follows = (r.place, follow_told settings place left line r right.0 is, on.follows);
          is = ap (λ (t : List Text). line ∷ t) on.is;
          refused = on.refused;
          counted = on.counted ∙ one_later (length on.before) number;
        }

pub computed_verdict : ComputesVerdictsLaw
computed_verdict settings here found lines Yes right e = computed settings here found 1 lines right e
computed_verdict settings here found lines (No number) right e =
    let h = stopped settings here found 1 number lines right e in
    (h.before, h.there, h.rest, h.follows, h.is, h.refused, h.counted)
