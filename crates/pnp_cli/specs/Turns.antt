-- How the reading of a script and the running of its events go on together.
use Rattle.std.specs.Prelude.{ℕ, ◌≡◌, ◌⊎◌, ◌≤◌, ◌+◌, Bool, true, false, List, [], ◌∷◌, ◌++◌, Option, Some, None, Result, Ok, Err, length}
use Rattle.std.specs.declared.alloc.AllocError.{AllocError}
use Rattle.pnp_io.specs.Outside.{Appends, AppendsFront}
use Rattle.pnp_labels.specs.Texts.{Text}
use Rattle.pnp_labels.specs.declared.event.Event.{Event}
use Rattle.pnp_labels.specs.declared.label.Label.{Label}
use Rattle.pnp_model.specs.Records.{Settings}
use Rattle.pnp_machine.specs.declared.manager.Moved.{Moved}
use Rattle.notify_front.specs.Fronts.{Front, IsFrontQuiet, front_happens}
use Rattle.notify_front.specs.Desks.{Desk, IsFrontDone, IsOfFrontRun, front_of, told_of}
use Rattle.script_reader.specs.Reading.{Reading}
use Rattle.script_reader.specs.Script.{Trace, trace, MayFollow, IsStuck, Waits, Ends}
use Rattle.pnp_cli.specs.Outputs.{Makes, Settles, Follows, Plays, bad_text, text_of}
use Rattle.pnp_cli.specs.Tallies.{with_all}
use Rattle.pnp_cli.specs.Contents.{answer_of}
use Rattle.pnp_cli.specs.declared.tally.Tally.{Tally}
use Rattle.pnp_cli.specs.declared.turn.Ending.{Ending}
use Rattle.pnp_cli.specs.declared.turn.Ending.TheVariants.{NeedsMore, Over, Bad}

-- a front of a run in which nothing is next
pub record Awaits (d : Desk) : Type 0 where
  pub run : IsOfFrontRun (told_of d) d.manager.events (front_of d)
  pub quiet : IsFrontQuiet (told_of d) (front_of d)

-- the lines of these labels were written, and the labels counted
pub record Told (old : Option Text) (tally : Tally) (labels : List Label) (new : Option Text) (tally' : Tally) : Type 0 where
  pub took : Appends old new (text_of labels)
  pub counted : tally' ≡ with_all tally labels

-- some front of what waits was written, and the rest waits
pub record Passes (old : Option Text) (waits : Text) (new : Option Text) (waits' : Text) : Type 0 where
  pub wrote : Text
  pub took : Appends old new wrote
  pub all : waits ≡ wrote ++ waits'

-- The lines of these labels came behind those that waited; some front of all of them was written, and the others wait.
pub record Held (old : Option Text) (waits : Text) (tally : Tally) (labels : List Label) (new : Option Text) (waits' : Text) (tally' : Tally) : Type 0 where
  pub wrote : Text
  pub took : Appends old new wrote
  pub all : waits ++ text_of labels ≡ wrote ++ waits'
  pub counted : tally' ≡ with_all tally labels

-- the line of the label that a call answered came behind those that waited; some front of all of them was written
abbrev pub AnswerHeld : Result Label AllocError → Option Text → Text → Tally → Option Text → Text → Tally → Type 0
AnswerHeld (Ok label) old waits tally new waits' tally' = Held old waits tally (label ∷ []) new waits' tally'
AnswerHeld (Err error) old waits tally new waits' tally' = ⊥

-- a front was written of what waits and of that line
abbrev pub AnswerFront : Result Label AllocError → Option Text → Text → Option Text → Type 0
AnswerFront (Ok label) old waits new = AppendsFront old new (waits ++ text_of (label ∷ []))
AnswerFront (Err error) old waits new = new ≡ old

-- the same of what a step came to, and whether one was next: else all is as before
abbrev pub MovedHeld : Result Moved AllocError → Bool → Option Text → Text → Tally → Option Text → Text → Tally → Type 0
MovedHeld (Ok (Moved.Label label)) was_next old waits tally new waits' tally' = (was_next ≡ true) × Held old waits tally (label ∷ []) new waits' tally'
MovedHeld (Ok Moved.Quiet) was_next old waits tally new waits' tally' = (was_next ≡ false) × (new ≡ old) × (waits' ≡ waits) × (tally' ≡ tally)
MovedHeld (Err error) was_next old waits tally new waits' tally' = ⊥

abbrev pub MovedFront : Result Moved AllocError → Option Text → Text → Option Text → Type 0
MovedFront (Ok (Moved.Label label)) old waits new = AppendsFront old new (waits ++ text_of (label ∷ []))
MovedFront (Ok Moved.Quiet) old waits new = new ≡ old
MovedFront (Err error) old waits new = new ≡ old

-- the front stepped until it was quiet, and the lines of its labels came behind those that waited
pub record Settled (old : Desk) (taken : Option Text) (waits : Text) (tally : Tally) (new : Desk) (taken' : Option Text) (waits' : Text) (tally' : Tally) : Type 0 where
  pub labels : List Label
  pub settles : Settles (told_of old) (front_of old) labels (front_of new)
  pub held : Held taken waits tally labels taken' waits' tally'
  pub same : told_of new ≡ told_of old
  pub events : new.manager.events ≡ old.manager.events
  pub run : IsOfFrontRun (told_of new) new.manager.events (front_of new)

-- the front did what follows from the event, and the lines of its labels came behind those that waited
pub record Answered (old : Desk) (event : Event) (taken : Option Text) (waits : Text) (tally : Tally) (new : Desk) (taken' : Option Text) (waits' : Text) (tally' : Tally) : Type 0 where
  pub labels : List Label
  pub follows : Follows (told_of old) (front_of old) event labels (front_of new)
  pub held : Held taken waits tally labels taken' waits' tally'
  pub same : told_of new ≡ told_of old
  pub events : new.manager.events ≤ old.manager.events + 1
  pub run : IsOfFrontRun (told_of new) new.manager.events (front_of new)

-- nothing was written, and the same waits
abbrev pub Keeps : Option Text → Text → Option Text → Text → Type 0
Keeps old waits new waits' = (new ≡ old) × (waits' ≡ waits)

-- the front makes steps that print these labels
abbrev pub StepsOn : Settings → Front → List Label → Front → Type 0
StepsOn told f [] new = new ≡ f
StepsOn told f (label ∷ labels) new = (mid : Front) × Makes told f label mid × StepsOn told mid labels new

-- the step that failed was not made, or was made and not told
abbrev pub StaysOrSteps : Settings → Front → Front → Type 0
StaysOrSteps told f new = (new ≡ f) ⊎ ((label : Label) × Makes told f label new)

-- Memory ran out at a step. The steps before it printed these labels, and their lines came behind those that waited; some front of all of
-- them was written, and the others wait.
pub record SettledSoFar (told : Settings) (f : Front) (taken : Option Text) (waits : Text) (f' : Front) (taken' : Option Text) (waits' : Text) : Type 0 where
  pub labels : List Label
  pub there : Front
  pub steps : StepsOn told f labels there
  pub failed : StaysOrSteps told there f'
  pub wrote : Text
  pub took : Appends taken taken' wrote
  pub all : waits ++ text_of labels ≡ wrote ++ waits'

-- of what follows from an event, these labels come first: none, where the event did not happen or was not told; else its own, and those of steps
abbrev pub FollowsSoFar : Settings → Front → Event → List Label → Front → Type 0
FollowsSoFar told f event [] f' = (f' ≡ f) ⊎ ((label : Label) × IsFrontDone (front_happens f event) label f')
FollowsSoFar told f event (label ∷ labels) f' =
    (begun : Front) × (there : Front) × IsFrontDone (front_happens f event) label begun × StepsOn told begun labels there × StaysOrSteps told there f'

-- the same of an event and what follows from it
pub record AnsweredSoFar (told : Settings) (f : Front) (event : Event) (taken : Option Text) (waits : Text) (f' : Front) (taken' : Option Text) (waits' : Text) : Type 0 where
  pub labels : List Label
  pub follows : FollowsSoFar told f event labels f'
  pub wrote : Text
  pub took : Appends taken taken' wrote
  pub all : waits ++ text_of labels ≡ wrote ++ waits'

-- the lines of all labels before the step that failed were written
pub record WroteSoFar (told : Settings) (f : Front) (event : Event) (taken : Option Text) (f' : Front) (taken' : Option Text) : Type 0 where
  pub labels : List Label
  pub follows : FollowsSoFar told f event labels f'
  pub took : Appends taken taken' (text_of labels)

-- a front was written of what waits and of the lines of whatever labels follow
abbrev pub SettlesFront : Desk → Text → Option Text → Option Text → Type 0
SettlesFront d behind old new = (labels : List Label) (last : Front) → Settles (told_of d) (front_of d) labels last → AppendsFront old new (behind ++ text_of labels)

abbrev pub FollowsFront : Desk → Event → Text → Option Text → Option Text → Type 0
FollowsFront d event behind old new = (labels : List Label) (last : Front) → Follows (told_of d) (front_of d) event labels last → AppendsFront old new (behind ++ text_of labels)

-- The run of t from f begins with these labels and goes on as that of t' from f', and both ends are alike.
pub record Leads (told : Settings) (f : Front) (t : Trace) (labels : List Label) (f' : Front) (t' : Trace) : Type 0 where
  pub on : (more : List Label) (last : Front) → Plays told f' t' more last → Plays told f t (labels ++ more) last
  pub back : (all : List Label) (last : Front) → Plays told f t all last → (more : List Label) × (all ≡ labels ++ more) × Plays told f' t' more last
  pub bad : bad_text t ≡ bad_text t'
  pub answer : answer_of t ≡ answer_of t'

-- However the script goes on behind these bytes, its run begins with these labels and goes on from the bytes that are left.
pub record Goes (finished : Bool) (d : Desk) (passed : ℕ) (bytes : List ℕ) (labels : List Label) (d' : Desk) (passed' : ℕ) (rest : List ℕ) : Type 0 where
  pub leads : (later : Bool) (more : List ℕ) → MayFollow finished [] later more
      → Leads (told_of d) (front_of d) (trace later passed (bytes ++ more)) labels (front_of d') (trace later passed' (rest ++ more))
  pub same : told_of d' ≡ told_of d
  pub awaits : Awaits d'

-- how a reader stands that has given all its events
abbrev pub Stands : Ending → Reading → Type 0
Stands NeedsMore r = Waits r.finished r.rest
Stands Over r = Ends r.finished r.rest
Stands (Bad line) r = IsStuck r.finished r.rest × (line ≡ r.passed + 1)

-- all events of what was fed happened, and the lines of their labels came behind those that waited
pub record Taken (d : Desk) (r : Reading) (taken : Option Text) (waits : Text) (tally : Tally) (ending : Ending) (d' : Desk) (r' : Reading) (taken' : Option Text) (waits' : Text) (tally' : Tally) : Type 0 where
  pub labels : List Label
  pub goes : Goes r.finished d r.passed r.rest labels d' r'.passed r'.rest
  pub held : Held taken waits tally labels taken' waits' tally'
  pub finished : r'.finished ≡ r.finished
  pub fed : r'.fed ≡ r.fed
  pub room : d'.manager.events + length r'.rest ≤ d.manager.events + length r.rest
  pub stands : Stands ending r'

-- a front was written of what waits and of the lines of whatever the bytes that are left, and those that follow, come to
abbrev pub TakenFront : Desk → Reading → Text → Option Text → Option Text → Type 0
TakenFront d r behind old new =
    (later : Bool) (more : List ℕ) (labels : List Label) (last : Front) → MayFollow r.finished [] later more
    → Plays (told_of d) (front_of d) (trace later r.passed (r.rest ++ more)) labels last → AppendsFront old new (behind ++ text_of labels)

-- the number of the bad line, if there is one
abbrev pub bad_of : Ending → Option ℕ
bad_of NeedsMore = None
bad_of Over = None
bad_of (Bad line) = Some line

-- all events of what was fed happened, the lines of their labels were written, and this is the number of the bad line, if there is one
pub record TakenBad (bad : Option ℕ) (d : Desk) (r : Reading) (taken : Option Text) (tally : Tally) (d' : Desk) (r' : Reading) (taken' : Option Text) (tally' : Tally) : Type 0 where
  pub ending : Ending
  pub events : Taken d r taken [] tally ending d' r' taken' [] tally'
  pub number : bad ≡ bad_of ending

-- the reader to which this piece is fed, and the one that is finished
abbrev pub fed_with : List ℕ → Reading → Reading
fed_with piece r = record r { rest = r.rest ++ piece; fed = r.fed + length piece; stored = r.stored + length piece }

abbrev pub shut : Reading → Reading
shut r = record r { finished = true }
