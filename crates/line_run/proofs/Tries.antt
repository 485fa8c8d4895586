-- What the line of a step tells.
use Rattle.std.proofs.Common.{Result, Ok as Good, Err, IfOk, IfSome, ◌≡◌, inl, inr, Bool, true, false, List, [], ◌∷◌, ◌++◌, Option, Some, None, refl, sym, ap, ◌∙◌, subst, slice_get, option_map}
use Rattle.std.proofs.lemmas.Option.{slice_get-map}
use Rattle.std.specs.Prelude.{OnErr}
use Rattle.std.specs.declared.alloc.AllocError.{AllocError}
use Rattle.pnp_labels.specs.Texts.{Text, label_line}
use Rattle.pnp_labels.specs.declared.event.Event as events
use Rattle.pnp_labels.specs.declared.label.Label.{Label}
use Rattle.pnp_labels.specs.declared.words.Answer.{Answer}
use Rattle.pnp_labels.specs.declared.words.Answer.TheVariants.{Ok, Fail, Pend}
use Rattle.pnp_model.specs.Books.{book_of, name_of, name_or_none, rack_reply, reply}
use Rattle.pnp_model.specs.Machine.{IsQuiet}
use Rattle.pnp_model.specs.Records.{Driver, State}
use Rattle.pnp_laws.specs.Stacks.{IsNamed}
use Rattle.free_model.specs.Asking.{AsksSo, answered, is_ask}
use Rattle.free_model.specs.Asks.{Query, next_query}
use Rattle.free_model.specs.Frees.{StepsBy, told, telling, with_rack}
use Rattle.free_model.proofs.AskSteps.{each_step_asks, quiet_asks_nobody}
use Rattle.free_model.proofs.OneVerdict.{kin_steps, no_step}
use Rattle.free_model.proofs.Racks.{faces_told, same_names, tells}
use Rattle.free_model.proofs.SameQueries.{query_same}
use Rattle.free_model.proofs.Ways.{KinLabel, one, asks, adds}
use Rattle.free_run.specs.FreeRuns.{Free, MovesBy, settings}
use Rattle.line_run.specs.declared.ahead.Ahead.{Ahead}
use Rattle.line_run.specs.declared.ahead.Ahead.TheVariants.{Nothing, Step, Event}
use Rattle.line_run.specs.Lines.{GoesAhead, IfDue, IfLine, IsAhead, IsLine, IsMade, IsTaken, Takes, ToldBy, Tries, after_due, answer_label, offered_by, seen}

-- a test of equal bytes tells whether it is the line of a label
pub line_so : (b : Bool) (line own : Text) → (b ≡ true → line ≡ own) → (line ≡ own → b ≡ true) → (label : Label) → own ≡ label_line label ++ 10 ∷ [] → IfLine b line label
line_so true line own there back label is = there refl ∙ is
line_so false line own there back label is = λ h. let bad : false ≡ true = back (h ∙ sym is) in cc

-- no answer is told
pub none_told : (f : Free) (q : Query) (line : Text) → IfLine false line (answer_label f q Ok) → IfLine false line (answer_label f q Fail) → IfLine false line (answer_label f q Pend) → ToldBy f q line None
none_told f q line ok fail pend Ok = ok
none_told f q line ok fail pend Fail = fail
none_told f q line ok fail pend Pend = pend

-- a driver with a name, when all answer so, answers so
said_so : (q : Query) (rack : List Driver) (answer : Answer) → IsNamed rack q.driver → rack_reply q.what q.path (told answer rack) q.driver ≡ answer
said_so q rack answer (name, named) = by_get (slice_get rack q.driver) refl
  where
    by_get : (o : Option Driver) → slice_get rack q.driver ≡ o → rack_reply q.what q.path (told answer rack) q.driver ≡ answer
    by_get None is = absurd (let none = ap name_or_none is in cc)
    by_get (Some d) is =
        ap (λ (x : Option Driver). reply q.what q.path (book_of x)) (slice_get-map (telling answer) rack q.driver ∙ ap (option_map (telling answer)) is) ∙ tells answer q.what q.path

module _ (f : Free) where
  -- the label of a step in which this driver is asked
  pub asked_label : (q : Query) → next_query f.state ≡ Some q → IsNamed f.state.core.rack q.driver → (answer : Answer) (label : Label) (new : State) → StepsBy answer (settings f) f.state label new
      → label ≡ answer_label f q answer
  asked_label q is named answer label new (next, step, e) =
      let own : List Driver = f.state.core.rack in
      let rack : List Driver = told answer own in
      let asked = subst (λ (x : Option Query). AsksSo x rack label next.core.rack) (query_same rack f.state ∙ is) (each_step_asks (settings f) (with_rack rack f.state) label next step) in
      asked.0 ∙ ap (λ (name : Text). answered q.what q.path name (rack_reply q.what q.path rack q.driver)) (same_names rack own q.driver (faces_told answer own))
      ∙ ap (answered q.what q.path (name_of own q.driver)) (said_so q own answer named)

  -- of a step in which nobody is asked there is one label
  pub silent_label : next_query f.state ≡ None → (p q : Answer) (a b : Label) (x y : State) → StepsBy p (settings f) f.state a x → StepsBy q (settings f) f.state b y → b ≡ a
  silent_label none p q a b x y (next, step, e) other =
      let rack : List Driver = told p f.state.core.rack in
      let asked = subst (λ (x : Option Query). AsksSo x rack a next.core.rack) (query_same rack f.state ∙ none) (each_step_asks (settings f) (with_rack rack f.state) a next step) in
      of_kin asked.0 (kin_steps (settings f) f.state p q a b x y (next, step, e) other)
    where
      of_kin : {a b : Label} → is_ask a ≡ false → KinLabel p q a b → b ≡ a
      of_kin plain (one l) = refl
      of_kin plain (asks minor path name) = absurd (cc)
      of_kin plain (adds path name) = absurd (cc)

  -- somebody is asked, so the state is not quiet
  pub asks_goes : (q : Query) → next_query f.state ≡ Some q → IsQuiet (settings f) f.state → ⊥
  asks_goes q is quiet = let none = quiet_asks_nobody (settings f) f.state quiet in cc

  -- Where somebody is asked ------------------------------------------------------------------

  module _ (q : Query) (is : next_query f.state ≡ Some q) (named : IsNamed f.state.core.rack q.driver) (line : Text) where
    -- the line tells no answer
    pub told_none : ToldBy f q line None → (event : Option events.Event) → Tries false f event line f
    told_none not event = (refl, λ next h. of_takes next event h)
      where
        of_takes : (next : Free) (event : Option events.Event) → Takes f event line next → ⊥
        of_takes next event (inl (label, (answer, step), is_line, same)) = not answer (subst (λ (l : Label). IsLine line l) (asked_label q is named answer label next.state step) is_line)
        of_takes next (Some event) (inr (quiet, told, same)) = asks_goes q is quiet
        of_takes next None (inr h) = h

    -- it tells this one
    pub told_one : (answer : Answer) → ToldBy f q line (Some answer) → (label : Option Label) (new : Free) → MovesBy answer (settings f) f.state label new.state → new ≡ record f { state = new.state }
        → (event : Option events.Event) → Tries true f event line new
    told_one answer tells (Some label) new moves same event =
        inl (label, (answer, moves), subst (λ (l : Label). IsLine line l) (sym (asked_label q is named answer label new.state moves)) tells, same)
    told_one answer tells None new moves same event = absurd (asks_goes q is moves.0)

  -- What was done ahead ----------------------------------------------------------------------

  module _ (line : Text) where
    -- the line is that of the step
    pub step_due : (label : Label) (run : Free) → IsMade f label run → IsLine line label → (event : Option events.Event) → Tries true f event line run
    step_due label run made is event = inl (label, (Ok, made.steps), is, made.same)

    pub step_not_due : (label : Label) (run : Free) → IsMade f label run → (IsLine line label → ⊥) → (event : Option events.Event) → Tries false f event line f
    step_not_due label run made not event = (refl, λ next h. of_takes next event h)
      where
        of_takes : (next : Free) (event : Option events.Event) → Takes f event line next → ⊥
        of_takes next event (inl (own, (answer, step), is_line, same)) =
            not (subst (λ (l : Label). IsLine line l) (silent_label made.silent Ok answer label own run.state next.state made.steps step) is_line)
        of_takes next (Some event) (inr (quiet, told, same)) = no_step (settings f) f.state label run.state quiet (Ok, made.steps)
        of_takes next None (inr h) = h

    -- it is that of the event
    pub event_due : (event : events.Event) (label : Label) (run : Free) → IsTaken f event label run → IsLine line label → Tries true f (Some event) line run
    event_due event label run taken is = inr (taken.quiet, subst (λ (l : Label). IsLine line l) taken.happened.0 is, taken.happened.1)

    pub event_not_due : (event : events.Event) (label : Label) (run : Free) → IsTaken f event label run → (IsLine line label → ⊥) → Tries false f (Some event) line f
    event_not_due event label run taken not = (refl, of_takes)
      where
        of_takes : (next : Free) → Takes f (Some event) line next → ⊥
        of_takes next (inl (own, step, is_line, same)) = no_step (settings f) f.state own next.state taken.quiet step
        of_takes next (inr (quiet, is_line, same)) = not (subst (λ (l : Label). IsLine line l) (sym taken.happened.0) is_line)

    -- nothing can be done
    pub nothing_due : IsQuiet (settings f) f.state → Tries false f None line f
    nothing_due quiet = (refl, of_takes)
      where
        of_takes : (next : Free) → Takes f None line next → ⊥
        of_takes next (inl (own, step, is_line, same)) = no_step (settings f) f.state own next.state quiet step
        of_takes next (inr h) = h

-- The run itself -------------------------------------------------------------------------------

abbrev pub is_step : Ahead → Bool
is_step Nothing = false
is_step (Step label before) = true
is_step (Event label event before) = false

-- before a step that was made ahead the state was not quiet
pub busy : (run : Free) (ahead : Ahead) → is_step ahead ≡ true → IsAhead run ahead → IsQuiet (settings (seen run ahead)) (seen run ahead).state → ⊥
busy run Nothing e h quiet = cc
busy run (Step label before) e h quiet = no_step (settings before.value) before.value.state label run.state quiet (Ok, h.steps)
busy run (Event label event before) e h quiet = cc

-- at a quiet state at which no event was looked at nothing is ahead
pub none_ahead : (run : Free) (ahead : Ahead) → IsAhead run ahead → IsQuiet (settings (seen run ahead)) (seen run ahead).state → offered_by ahead ≡ None → seen run ahead ≡ run
none_ahead run Nothing h quiet none = refl
none_ahead run (Step label before) h quiet none = absurd (no_step (settings before.value) before.value.state label run.state quiet (Ok, h.steps))
none_ahead run (Event label event before) h quiet none = absurd (cc)

-- A try of a run -------------------------------------------------------------------------------

-- nothing is ahead at a quiet state without an event alone, and an event that is ahead is given again
abbrev pub Ready : Free → Ahead → Option events.Event → Type 0
Ready run Nothing event = IsQuiet (settings run) run.state × (event ≡ None)
Ready run (Step label before) event = Unit {0}
Ready run (Event label own before) event = event ≡ Some own.value

tried : (run : Free) (ahead : Ahead) (event : Option events.Event) (line : Text) (due : Bool) → IsAhead run ahead → Ready run ahead event → IfDue due line ahead → Tries due (seen run ahead) event line (seen run (after_due due ahead))
tried run Nothing event line true h ready is = absurd (cc)
tried run Nothing event line false h (quiet, none) is = subst (λ (e : Option events.Event). Tries false run e line run) (sym none) (nothing_due run line quiet)
tried run (Step label before) event line true h ready is = step_due before.value line label run h is event
tried run (Step label before) event line false h ready is = step_not_due before.value line label run h is event
tried run (Event label own before) event line true h ready is = subst (λ (e : Option events.Event). Tries true before.value e line run) (sym ready) (event_due before.value line own.value label run h is)
tried run (Event label own before) event line false h ready is = subst (λ (e : Option events.Event). Tries false before.value e line before.value) (sym ready) (event_not_due before.value line own.value label run h is)

pub all_tried : (old run : Free) (ahead after : Ahead) (event : Option events.Event) (line : Text) (result : Result Bool AllocError) → IsAhead run ahead → Ready run ahead event → seen run ahead ≡ old
    → IfOk result (λ due. IfDue due line ahead) → IfOk result (λ due. after ≡ after_due due ahead) → IfOk result (λ taken. Tries taken old event line (seen run after))
all_tried old run ahead after event line (Good due) h ready was is then =
    subst (λ (f : Free). Tries due f event line (seen run after)) was
    (subst (λ (a : Ahead). Tries due (seen run ahead) event line (seen run a)) (sym then) (tried run ahead event line due h ready is))
all_tried old run ahead after event line (Err refused) h ready was is then = tt

-- what was done just now
pub just_ahead : (old : Free) (event : Option events.Event) (run : Free) (ahead : Ahead) → GoesAhead old event run ahead → IsAhead run ahead
just_ahead old event run Nothing h = tt
just_ahead old event run (Step label before) (was, made) = subst (λ (f : Free). IsMade f label run) (sym was) made
just_ahead old event run (Event label own before) (was, same, taken) = subst (λ (f : Free). IsTaken f own.value label run) (sym was) taken

pub just_ready : (old : Free) (event : Option events.Event) (run : Free) (ahead : Ahead) → GoesAhead old event run ahead → Ready run ahead event
just_ready old event run Nothing (quiet, none, same) = (subst (λ (f : Free). IsQuiet (settings f) f.state) (sym same) quiet, none)
just_ready old event run (Step label before) h = tt
just_ready old event run (Event label own before) (was, same, taken) = same

pub just_seen : (old : Free) (event : Option events.Event) (run : Free) (ahead : Ahead) → GoesAhead old event run ahead → seen run ahead ≡ old
just_seen old event run Nothing (quiet, none, same) = same
just_seen old event run (Step label before) (was, made) = was
just_seen old event run (Event label own before) (was, same, taken) = was

-- what was done before
pub still_ready : (run : Free) (ahead : Ahead) (event : Option events.Event) → (ahead ≡ Nothing → ⊥) → IfSome (offered_by ahead) (λ own. event ≡ Some own) → Ready run ahead event
still_ready run Nothing event some again = absurd (some refl)
still_ready run (Step label before) event some again = tt
still_ready run (Event label own before) event some again = again

pub still_ahead : (run : Free) (ahead after : Ahead) (result : Result Bool AllocError) → IsAhead run ahead → IfOk result (λ due. after ≡ after_due due ahead) → OnErr result (after ≡ ahead) → IsAhead run after
still_ahead run ahead after (Good true) h then err = subst (IsAhead run) (sym then) tt
still_ahead run ahead after (Good false) h then err = subst (IsAhead run) (sym then) h
still_ahead run ahead after (Err refused) h then err = subst (IsAhead run) (sym err) h
