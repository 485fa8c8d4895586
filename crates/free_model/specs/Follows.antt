-- A check that computes, where the answers of its searches are given in their order.
use Rattle.std.specs.Prelude.{Bool, true, false, not, ◌&&◌, ◌++◌, take, drop, length, ℕ, ◌+◌, List, [], ◌∷◌, Option, Some, None, if◌then◌else◌}
use Rattle.std.specs.Str.{bytes_eq}
use Rattle.resource_reqs.specs.Spelling.{IsAnswer}
use Rattle.pnp_labels.specs.Texts.{Text, label_line}
use Rattle.pnp_labels.specs.declared.words.Answer.{Answer}
use Rattle.pnp_labels.specs.declared.words.Answer.TheVariants.{Ok, Fail, Pend}
use Rattle.pnp_model.specs.Records.{State, Settings, Found, Step, Doing, SearchProblem}
use Rattle.pnp_model.specs.Records.Doing.{Does, Searches}
use Rattle.pnp_model.specs.Machine.{next}
use Rattle.pnp_model.specs.Events.{happens}
use Rattle.pnp_labels.specs.declared.event.Event.{Event}
use Rattle.script_reader.specs.Script.{Trace, gives, waits, ends, stops}
use Rattle.free_model.specs.Frees.{told, with_rack}
use Rattle.free_model.specs.Checks.{Place, Runs, Ends, bad_line, has_feed, end_bytes, Verdict, Yes, No}

-- a place, and the answers of searches that are left
pub record Reached : Type 0 where
  pub place : Place
  pub left : List Found

abbrev pub reached : Place → List Found → Option Reached
reached place left = Some (record { place = place; left = left })

-- where the line is that of the step
abbrev pub by_step : State → Trace → List Found → Text → Step → Option Reached
by_step s script left line step =
    if bytes_eq line (label_line step.label) then reached (Runs (with_rack s.core.rack step.state) script) left else None

abbrev pub by_search : State → Trace → List Found → Text → (Found → Step) → Option Reached
by_search s script [] line by_answer = None
by_search s script (found ∷ left) line by_answer = by_step s script left line (by_answer found)

abbrev pub by_doing : State → Trace → List Found → Text → Option (Doing Step) → Option Reached
by_doing s script left line None = None
by_doing s script left line (Some (Does step)) = by_step s script left line step
by_doing s script left line (Some (Searches problem by_answer)) = by_search s script left line by_answer

abbrev pub by_reply : Settings → State → Trace → List Found → Text → Answer → Option Reached
by_reply settings s script left line answer = by_doing s script left line (next settings (with_rack (told answer s.core.rack) s))

abbrev pub or_else : Option Reached → Option Reached → Option Reached
or_else None other = other
or_else (Some r) other = Some r

abbrev pub by_any : Settings → State → Trace → List Found → Text → Option Reached
by_any settings s script left line =
    or_else (by_reply settings s script left line Ok)
    (or_else (by_reply settings s script left line Fail) (by_reply settings s script left line Pend))

-- what is due after the line, which it is to begin with
abbrev pub first_due : Text → List Found → Text → Option Reached
first_due due left line =
    if not (has_feed line) && bytes_eq (take (length line + 1) due) (line ++ 10 ∷ []) then reached (Ends (drop (length line + 1) due)) left else None

abbrev pub is_of_machine : Event → Bool
is_of_machine (Event.Watch client path agrees) = false
is_of_machine (Event.Unwatch client path) = false
is_of_machine _ = true

abbrev pub at_rest : State → Trace → List Found → Text → Option Reached
at_rest s (gives number event rest) left line =
    if is_of_machine event && bytes_eq line (label_line (happens s event).label) then reached (Runs (happens s event).state rest) left else None
at_rest s (stops number) left line = if bytes_eq line (bad_line number) then reached (Ends (end_bytes s)) left else None
at_rest s ends left line = first_due (end_bytes s) left line
at_rest s waits left line = None

abbrev pub while_running : Settings → State → Trace → List Found → Text → Option (Doing Step) → Option Reached
while_running settings s script left line None = at_rest s script left line
while_running settings s script left line (Some doing) = by_any settings s script left line

abbrev pub follow : Settings → Place → List Found → Text → Option Reached
follow settings (Runs s script) left line = while_running settings s script left line (next settings s)
follow settings (Ends due) left line = first_due due left line

abbrev pub at_end : Place → ℕ → Verdict
at_end (Ends []) number = Yes
at_end (Ends (byte ∷ more)) number = No number
at_end (Runs s script) number = No number

-- the verdict on these lines, of which the first has this number
abbrev pub checked : Settings → Place → List Found → ℕ → List Text → Verdict
checked settings place left number [] = at_end place number
checked settings place left number (line ∷ lines) =
    elim (follow settings place left line) as (λ _. Verdict) [
      | None ↦ No number
      | Some r ↦ checked settings r.place r.left (number + 1) lines
    ]

-- That these answers are those of the searches, one after another, as far as the lines are followed ------------------

-- an answer is given next, and it is that of the search
abbrev pub RightHead : Settings → SearchProblem → List Found → Type 0
RightHead settings p [] = ⊥
RightHead settings p (found ∷ left) = IsAnswer p.fixed p.movers settings.budget found

abbrev pub RightDoing : Settings → List Found → Option (Doing Step) → Type 0
RightDoing settings left None = Unit {0}
RightDoing settings left (Some (Does step)) = Unit {0}
RightDoing settings left (Some (Searches p by_answer)) = RightHead settings p left

abbrev pub RightAt : Settings → Place → List Found → Type 0
RightAt settings (Ends due) left = Unit {0}
RightAt settings (Runs s script) left = (answer : Answer) → RightDoing settings left (next settings (with_rack (told answer s.core.rack) s))

abbrev pub AllRight : Settings → Place → List Found → List Text → Type 0
AllRight settings place left [] = Unit {0}
AllRight settings place left (line ∷ lines) =
    RightAt settings place left
    × (elim (follow settings place left line) as (λ _. Type 0) [ None ↦ Unit {0} | Some r ↦ AllRight settings r.place r.left lines ])
