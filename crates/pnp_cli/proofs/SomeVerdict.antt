-- Each trace has a verdict: where it does not go on is decided line by line.
use Rattle.std.proofs.Common.{ℕ, zero, suc, ◌+◌, ◌≡◌, ◌≤◌, ◌⊎◌, ◌==◌, ◌||◌, inl, inr, Bool, true, false, [], ◌∷◌, ◌++◌, Option, Some, None, length, refl, sym, ap, ◌∙◌, subst, arith, append_assoc, length-append}
use Rattle.std.proofs.lemmas.Bool.Decides.{nat_tests}
use Rattle.pnp_labels.specs.Texts.{Text, label_line}
use Rattle.pnp_labels.specs.declared.event.Event.{Event}
use Rattle.pnp_labels.specs.declared.label.Label.{Label}
use Rattle.pnp_labels.specs.declared.words.Answer.{Answer}
use Rattle.pnp_model.specs.Records.{State, Step, Settings, Doing}
use Rattle.pnp_model.specs.Records.Doing.{Does, Searches}
use Rattle.pnp_model.specs.Machine.{next, IsStep, IsQuiet}
use Rattle.pnp_model.specs.Events.{happens}
use Rattle.pnp_model.specs.Endings.{joined}
use Rattle.pnp_model.proofs.Determined.{one_label}
use Rattle.pnp_laws.proofs.AnswerThere.{answer_some}
use Rattle.script_reader.specs.Script.{Trace, gives, waits, ends, stops}
use Rattle.free_model.specs.Frees.{told, with_rack, StepsBy}
use Rattle.free_model.specs.Checks.{Place, Runs, Ends, IsOfMachine, AllowsFirst, AllowsAtRest, Allows, Verdict, Yes, No, IsChecked, bad_line, has_feed, end_bytes}
use Rattle.free_model.proofs.OneVerdict.{one_place}

-- Texts ------------------------------------------------------------------------------------------------

abbrev tail : Text → Text
tail [] = []
tail (x ∷ xs) = xs

abbrev head : Text → ℕ
head [] = 0
head (x ∷ xs) = x

-- the text begins so
abbrev Begins : Text → Text → Type 0
Begins front text = (more : Text) × (text ≡ front ++ more)

begins : (front text : Text) → Begins front text ⊎ (Begins front text → ⊥)
begins [] text = inl (text, refl)
begins (x ∷ front) [] = inr (λ h. absurd (none h.0 h.1))
  where
    none : (more : Text) → [] ≡ x ∷ (front ++ more) → ⊥
    none more e = cc
begins (x ∷ front) (y ∷ text) = by_test (x == y) refl (begins front text)
  where
    same : (x == y) ≡ true → y ≡ x
    same e = grind (arith, nat_tests)

    other : (x == y) ≡ false → y ≡ x → ⊥
    other e is = grind (arith, nat_tests)

    by_test : (b : Bool) → (x == y) ≡ b → Begins front text ⊎ (Begins front text → ⊥) → Begins (x ∷ front) (y ∷ text) ⊎ (Begins (x ∷ front) (y ∷ text) → ⊥)
    by_test true e (inl (more, is)) = inl (more, ap (λ (z : ℕ). z ∷ text) (same e) ∙ ap (λ (t : Text). x ∷ t) is)
    by_test true e (inr none) = inr (λ h. none (h.0, ap tail h.1))
    by_test false e any = inr (λ h. other e (ap head h.1))

-- a line stands at the front, with its LF
abbrev Stands : Text → Text → Type 0
Stands line rest = (more : Text) × (rest ≡ line ++ 10 ∷ more)

stands : (line rest : Text) → Stands line rest ⊎ (Stands line rest → ⊥)
stands line rest = by_front (begins (line ++ 10 ∷ []) rest)
  where
    by_front : Begins (line ++ 10 ∷ []) rest ⊎ (Begins (line ++ 10 ∷ []) rest → ⊥) → Stands line rest ⊎ (Stands line rest → ⊥)
    by_front (inl (more, is)) = inl (more, is ∙ append_assoc line (10 ∷ []) more)
    by_front (inr none) = inr (λ h. none (h.0, h.1 ∙ sym (append_assoc line (10 ∷ []) h.0)))

-- its first line
record First (due : Text) : Type 0 where
  line : Text
  left : Text
  is : due ≡ line ++ 10 ∷ left
  free : has_feed line ≡ false

first_line : (due : Text) → First due ⊎ ((line left : Text) → due ≡ line ++ 10 ∷ left → ⊥)
first_line [] = inr none
  where
    none : (line left : Text) → [] ≡ line ++ 10 ∷ left → ⊥
    none [] left e = cc
    none (y ∷ line) left e = cc
first_line (x ∷ due) = by_test (x == 10) refl (first_line due)
  where
    feed : (x == 10) ≡ true → x ≡ 10
    feed e = grind (arith, nat_tests)

    none : (x == 10) ≡ false → ((line left : Text) → due ≡ line ++ 10 ∷ left → ⊥) → (line left : Text) → x ∷ due ≡ line ++ 10 ∷ left → ⊥
    none e never [] left is = let same : x ≡ 10 = ap head is in grind (arith, nat_tests)
    none e never (y ∷ line) left is = never line left (ap tail is)

    by_test : (b : Bool) → (x == 10) ≡ b → First due ⊎ ((line left : Text) → due ≡ line ++ 10 ∷ left → ⊥) → First (x ∷ due) ⊎ ((line left : Text) → x ∷ due ≡ line ++ 10 ∷ left → ⊥)
    by_test true e any = inl (record { line = []; left = due; is = ap (λ (z : ℕ). z ∷ due) (feed e); free = refl })
    by_test false e (inl f) = inl (record { line = x ∷ f.line; left = f.left; is = ap (λ (t : Text). x ∷ t) f.is; free = ap (λ (b : Bool). b || has_feed f.line) e ∙ f.free })
    by_test false e (inr never) = inr (none e never)

-- Whether a trace goes on --------------------------------------------------------------------------------

-- an allowed line stands at the front
record Goes (settings : Settings) (here : Place) (rest : Text) : Type 0 where
  line : Text
  more : Text
  there : Place
  is : rest ≡ line ++ 10 ∷ more
  allows : Allows settings here line there

-- the step that is done; a search has an answer
step_of : Settings → Doing Step → Step
step_of settings (Does step) = step
step_of settings (Searches problem by_answer) = by_answer (answer_some problem.fixed problem.movers settings.budget).0

done_is : (settings : Settings) (doing : Doing Step) → IsStep settings (Some doing) (step_of settings doing)
unfolding step_of
done_is settings (Does step) = refl
done_is settings (Searches problem by_answer) = let found = answer_some problem.fixed problem.movers settings.budget in (found.0, found.1, refl)

-- no line of a step where all drivers answer so does
abbrev Never : Settings → State → Text → Answer → Type 0
Never settings s rest answer = (label : Label) (new : State) → StepsBy answer settings s label new → Stands (label_line label) rest → ⊥

-- where all drivers answer so: the line of the step stands at the front, or no line of such a step does
on_answer : (settings : Settings) (s : State) (script : Trace) (rest : Text) (answer : Answer)
    → Goes settings (Runs s script) rest ⊎ Never settings s rest answer
on_answer settings s script rest answer = by_next (next settings asked) refl
  where
    asked : State
    asked = with_rack (told answer s.core.rack) s

    by_line : (step : Step) → IsStep settings (next settings asked) step → Stands (label_line step.label) rest ⊎ (Stands (label_line step.label) rest → ⊥)
        → Goes settings (Runs s script) rest ⊎ Never settings s rest answer
    by_line step steps (inl (more, is)) =
        inl (record {
          line = label_line step.label;
          more = more;
          there = Runs (with_rack s.core.rack step.state) script;
          is = is;
          allows = inl (step.label, with_rack s.core.rack step.state, (answer, (step.state, steps, refl)), refl, refl);
        })
    by_line step steps (inr none) =
        inr (λ label new way front. none (subst (λ (l : Label). Stands (label_line l) rest) (one_label settings asked label step.label way.0 step.state way.1 steps) front))

    by_next : (o : Option (Doing Step)) → next settings asked ≡ o
        → Goes settings (Runs s script) rest ⊎ Never settings s rest answer
    by_next None e = inr (λ label new way front. subst (λ (o : Option (Doing Step)). IsStep settings o (record { label = label; state = way.0 })) e way.1)
    by_next (Some doing) e =
        by_line (step_of settings doing) (subst (λ (o : Option (Doing Step)). IsStep settings o (step_of settings doing)) (sym e) (done_is settings doing))
        (stands (label_line (step_of settings doing).label) rest)

-- no allowed line stands at the front
abbrev Shut : Settings → Place → Text → Type 0
Shut settings here rest = (line more : Text) (there : Place) → rest ≡ line ++ 10 ∷ more → Allows settings here line there → ⊥

-- none of the end of the output, or of a quiet state
abbrev ShutFirst : Text → Text → Type 0
ShutFirst due rest = (line more : Text) (there : Place) → rest ≡ line ++ 10 ∷ more → AllowsFirst due line there → ⊥

abbrev ShutAtRest : State → Trace → Text → Type 0
ShutAtRest s script rest = (line more : Text) (there : Place) → rest ≡ line ++ 10 ∷ more → AllowsAtRest s script line there → ⊥

-- the first line of what is due stands at the front
record Due (due rest : Text) : Type 0 where
  first : First due
  more : Text
  is : rest ≡ first.line ++ 10 ∷ more

on_due : (settings : Settings) (due rest : Text) → Due due rest ⊎ ShutFirst due rest
on_due settings due rest = by_first (first_line due)
  where
    by_line : (f : First due) → Stands f.line rest ⊎ (Stands f.line rest → ⊥) → Due due rest ⊎ ShutFirst due rest
    by_line f (inl (more, is)) = inl (record { first = f; more = more; is = is })
    by_line f (inr none) =
        inr (λ line more there front first.
        let one : f.line ≡ line = (one_place settings (Ends due) f.line line f.left first.0 (Ends f.left) there (f.left, f.is, f.free, refl) first (sym f.is ∙ first.1)).0 in
        none (more, front ∙ ap (λ (l : Text). l ++ 10 ∷ more) (sym one)))

    by_first : First due ⊎ ((line left : Text) → due ≡ line ++ 10 ∷ left → ⊥) → Due due rest ⊎ ShutFirst due rest
    by_first (inl f) = by_line f (stands f.line rest)
    by_first (inr none) = inr (λ line more there front first. none line first.0 first.1)

own_or_not : (event : Event) → IsOfMachine event ⊎ (IsOfMachine event → ⊥)
own_or_not (Event.Watch client path agrees) = inr (λ h. h)
own_or_not (Event.Unwatch client path) = inr (λ h. h)
own_or_not _ = inl tt

-- at a quiet state
on_rest : (settings : Settings) (s : State) (script : Trace) (rest : Text) → IsQuiet settings s → Goes settings (Runs s script) rest ⊎ ShutAtRest s script rest
on_rest settings s (gives number event later) rest quiet = by_own (own_or_not event) (stands (label_line (happens s event).label) rest)
  where
    by_own : IsOfMachine event ⊎ (IsOfMachine event → ⊥) → Stands (label_line (happens s event).label) rest ⊎ (Stands (label_line (happens s event).label) rest → ⊥)
        → Goes settings (Runs s (gives number event later)) rest ⊎ ShutAtRest s (gives number event later) rest
    by_own (inl own) (inl (more, is)) =
        inl (record {
          line = label_line (happens s event).label;
          more = more;
          there = Runs (happens s event).state later;
          is = is;
          allows = inr (quiet, (own, refl, refl));
        })
    by_own (inl own) (inr none) = inr (λ line more there front h. none (more, front ∙ ap (λ (l : Text). l ++ 10 ∷ more) h.1))
    by_own (inr not) any = inr (λ line more there front h. not h.0)
on_rest settings s (stops number) rest quiet = by_line (stands (bad_line number) rest)
  where
    by_line : Stands (bad_line number) rest ⊎ (Stands (bad_line number) rest → ⊥) → Goes settings (Runs s (stops number)) rest ⊎ ShutAtRest s (stops number) rest
    by_line (inl (more, is)) = inl (record { line = bad_line number; more = more; there = Ends (end_bytes s); is = is; allows = inr (quiet, (refl, refl)) })
    by_line (inr none) = inr (λ line more there front h. none (more, front ∙ ap (λ (l : Text). l ++ 10 ∷ more) h.0))
on_rest settings s ends rest quiet = by_due (on_due settings (end_bytes s) rest)
  where
    by_due : Due (end_bytes s) rest ⊎ ShutFirst (end_bytes s) rest → Goes settings (Runs s ends) rest ⊎ ShutAtRest s ends rest
    by_due (inl d) =
        inl (record {
          line = d.first.line;
          more = d.more;
          there = Ends d.first.left;
          is = d.is;
          allows = inr (quiet, (d.first.left, d.first.is, d.first.free, refl));
        })
    by_due (inr none) = inr none
on_rest settings s waits rest quiet = inr (λ line more there front h. h)

-- what stands at the front of a trace
goes_on : (settings : Settings) (here : Place) (rest : Text) → Goes settings here rest ⊎ Shut settings here rest
goes_on settings (Ends due) rest = by_due (on_due settings due rest)
  where
    by_due : Due due rest ⊎ ShutFirst due rest → Goes settings (Ends due) rest ⊎ Shut settings (Ends due) rest
    by_due (inl d) = inl (record { line = d.first.line; more = d.more; there = Ends d.first.left; is = d.is; allows = (d.first.left, d.first.is, d.first.free, refl) })
    by_due (inr none) = inr none
goes_on settings (Runs s script) rest =
    elim (on_answer settings s script rest Answer.Ok) [
      | inl goes ↦ inl goes
      | inr ok ↦
          elim (on_answer settings s script rest Answer.Fail) [
            | inl goes ↦ inl goes
            | inr fail ↦
                elim (on_answer settings s script rest Answer.Pend) [
                  | inl goes ↦ inl goes
                  | inr pend ↦ by_quiet (next settings s) refl ok fail pend
                ]
          ]
    ]
  where
    no_step : Never settings s rest Answer.Ok → Never settings s rest Answer.Fail → Never settings s rest Answer.Pend → (answer : Answer) → Never settings s rest answer
    no_step ok fail pend Answer.Ok = ok
    no_step ok fail pend Answer.Fail = fail
    no_step ok fail pend Answer.Pend = pend

    shut : ((answer : Answer) → Never settings s rest answer) → (IsQuiet settings s → ShutAtRest s script rest) → Shut settings (Runs s script) rest
    shut none still line more there front (inl (label, new, (answer, way), is, place)) =
        none answer label new way (more, front ∙ ap (λ (l : Text). l ++ 10 ∷ more) is)
    shut none still line more there front (inr (quiet, h)) = still quiet line more there front h

    by_rest : ((answer : Answer) → Never settings s rest answer) → Goes settings (Runs s script) rest ⊎ ShutAtRest s script rest → Goes settings (Runs s script) rest ⊎ Shut settings (Runs s script) rest
    by_rest none (inl goes) = inl goes
    by_rest none (inr still) = inr (shut none (λ quiet. still))

    by_quiet : (o : Option (Doing Step)) → next settings s ≡ o → Never settings s rest Answer.Ok → Never settings s rest Answer.Fail → Never settings s rest Answer.Pend → Goes settings (Runs s script) rest ⊎ Shut settings (Runs s script) rest
    by_quiet None e ok fail pend = by_rest (no_step ok fail pend) (on_rest settings s script rest e)
    by_quiet (Some doing) e ok fail pend = inr (shut (no_step ok fail pend) (λ quiet. absurd (busy doing (sym e ∙ quiet))))
      where
        busy : (x : Doing Step) → Some x ≡ None → ⊥
        busy x is = cc

-- Verdicts -----------------------------------------------------------------------------------------------

abbrev Judged : Settings → Place → Text → Type 0
Judged settings here trace = (v : Verdict) × IsChecked settings here trace v

-- a line more before a trace with a verdict
line_more : (settings : Settings) (here there : Place) (line more : Text) (v : Verdict) → Allows settings here line there → IsChecked settings there more v → Judged settings here (line ++ 10 ∷ more)
line_more settings here there line more Yes allows (lines, follow, is) = (Yes, (line ∷ lines, (there, allows, follow), ap (λ (t : Text). line ++ 10 ∷ t) is))
line_more settings here there line more (No number) allows (lines, last, rest, follow, is, stuck, count) = (
  No (number + 1),
  (
    line ∷ lines,
    last,
    rest,
    (there, allows, follow),
    ap (λ (t : Text). line ++ 10 ∷ t) is ∙ sym (append_assoc line (10 ∷ joined lines) rest),
    stuck,
    omega (arith, count),
  ),
)

no_more : (settings : Settings) (here : Place) (rest : Text) → (rest ≡ [] → here ≡ Ends [] → ⊥) → Shut settings here rest → Judged settings here rest
no_more settings here rest undone shut = (No 1, ([], here, rest, refl, refl, record { unallowed = shut; undone = undone }, refl))

-- the end of a trace that does not go on
at_end : (settings : Settings) (here : Place) (rest : Text) → Shut settings here rest → Judged settings here rest
at_end settings (Ends []) [] shut = (Yes, ([], refl, refl))
at_end settings (Ends (x ∷ due)) [] shut = no_more settings (Ends (x ∷ due)) [] (λ e is. due_still is) shut
  where
    due_still : Ends (x ∷ due) ≡ Ends [] → ⊥
    due_still is = cc
at_end settings (Runs s script) [] shut = no_more settings (Runs s script) [] (λ e is. runs_still is) shut
  where
    runs_still : Runs s script ≡ Ends [] → ⊥
    runs_still is = cc
at_end settings here (y ∷ rest) shut = no_more settings here (y ∷ rest) (λ e is. not_empty e) shut
  where
    not_empty : y ∷ rest ≡ [] → ⊥
    not_empty e = cc

judged : (n : ℕ) (settings : Settings) (here : Place) (rest : Text) → length rest ≤ n → Judged settings here rest
judged zero settings here rest few =
    elim (goes_on settings here rest) [
      | inl g ↦ absurd (omega (arith, few, ap length g.is, length-append g.line (10 ∷ g.more)))
      | inr shut ↦ at_end settings here rest shut
    ]
judged (suc n) settings here rest few =
    elim (goes_on settings here rest) [
      | inl g ↦
          let later : Judged settings g.there g.more = judged n settings g.there g.more (omega (arith, few, ap length g.is, length-append g.line (10 ∷ g.more))) in
          subst (λ (t : Text). Judged settings here t) (sym g.is) (line_more settings here g.there g.line g.more later.0 g.allows later.1)
      | inr shut ↦ at_end settings here rest shut
    ]

-- each trace has a verdict
pub some_verdict : (settings : Settings) (here : Place) (trace : Text) → (v : Verdict) × IsChecked settings here trace v
some_verdict settings here trace = judged (length trace) settings here trace (omega arith)
