-- Steps one after another until nothing is next, and their labels.
use Rattle.std.proofs.Common.{◌≡◌, ℕ, ◌+◌, ◌<◌, ◌≤◌, Bool, true, false, List, [], ◌∷◌, ◌++◌, Option, Result, Ok, Err, IfOk, OnOk, refl, sym, ◌∙◌, ap, subst, append_assoc, arith}
use Rattle.std.specs.declared.alloc.AllocError.{AllocError}
use Rattle.std.proofs.lemmas.Bool.{false≢true, true≢false}
use Rattle.pnp_io.specs.Outside.{AppendsFront}
use Rattle.pnp_labels.specs.Texts.{Text}
use Rattle.pnp_labels.specs.declared.event.Event.{Event}
use Rattle.pnp_labels.specs.declared.label.Label.{Label}
use Rattle.pnp_model.specs.Records.{Settings}
use Rattle.notify_front.specs.Fronts.{Front, IsFrontQuiet, front_happens}
use Rattle.notify_front.specs.Desks.{Desk, FrontMoves, IsFrontDone, IsOfFrontRun, front_of, machine_events, told_of}
use Rattle.notify_front.proofs.FrontLeft.{front_steps_left, front_left_falls}
use Rattle.pnp_machine.specs.declared.manager.Moved.{Moved}
use Rattle.pnp_cli.specs.declared.tally.Tally.{Tally}
use Rattle.pnp_cli.specs.Outputs.{Makes, Settles, Follows, text_of}
use Rattle.pnp_cli.specs.Turns.{AnswerFront, AnswerHeld, Held, MovedFront, MovedHeld, Settled, Answered, Awaits, SettlesFront, FollowsFront, StepsOn}
use Rattle.pnp_cli.proofs.Telling.{held_none, held_both, lines_front, lines_held}
use Rattle.pnp_cli.proofs.FrontEntries.{settles_quiet}
use Rattle.pnp_cli.proofs.Fronts.{none_is_front}
use Rattle.pnp_cli.proofs.Sameness.{peel}

-- the next step was done
pub record Stepped (d : Desk) (label : Label) (d' : Desk) : Type 0 where
  pub steps : Makes (told_of d) (front_of d) label (front_of d')
  pub same : told_of d' ≡ told_of d
  pub events : d'.manager.events ≡ d.manager.events
  pub run : IsOfFrontRun (told_of d') d'.manager.events (front_of d')

-- with each step fewer are left
pub less_left : (d d' : Desk) (label : Label) → IsOfFrontRun (told_of d) d.manager.events (front_of d) → Stepped d label d' → front_steps_left (told_of d') (front_of d') < front_steps_left (told_of d) (front_of d)
less_left d d' label run h =
    subst (λ (x : Settings). front_steps_left x (front_of d') < front_steps_left (told_of d) (front_of d)) (sym h.same)
    (front_left_falls (told_of d) run.rack run.entries (front_of d) (front_of d') h.steps.0 run.reaches h.steps.2)

-- one step more
steps_more : (told : Settings) (f g new : Front) (xs : List Label) (label : Label) → StepsOn told f xs g → Makes told g label new → StepsOn told f (xs ++ label ∷ []) new
steps_more told f g new [] label is step = (new, subst (λ (x : Front). Makes told x label new) is step, refl)
steps_more told f g new (x ∷ xs) label (mid, first, more) step = (mid, first, steps_more told mid g new xs label more step)

-- these steps were done, and their labels told
pub record Stepping (d : Desk) (t : Option Text) (p : Text) (c : Tally) (d' : Desk) (t' : Option Text) (p' : Text) (c' : Tally) : Type 0 where
  pub done : List Label
  pub steps : StepsOn (told_of d) (front_of d) done (front_of d')
  pub leads : (labels : List Label) (new : Front) → Settles (told_of d) (front_of d') labels new → Settles (told_of d) (front_of d) (done ++ labels) new
  pub back : (labels : List Label) (new : Front) → Settles (told_of d) (front_of d) labels new → (more : List Label) × (labels ≡ done ++ more) × Settles (told_of d) (front_of d') more new
  pub held : Held t p c done t' p' c'
  pub same : told_of d' ≡ told_of d
  pub events : d'.manager.events ≡ d.manager.events
  pub run : IsOfFrontRun (told_of d') d'.manager.events (front_of d')

pub labels_nil : (xs : List Label) → xs ++ [] ≡ xs
labels_nil [] = refl
labels_nil (x ∷ xs) = ap (λ rest. x ∷ rest) (labels_nil xs)

pub stepping_none : (d : Desk) (t : Option Text) (p : Text) (c : Tally) → IsOfFrontRun (told_of d) d.manager.events (front_of d) → Stepping d t p c d t p c
stepping_none d t p c run = record { run = run; done = []; steps = refl; leads = λ labels new h. h; back = λ labels new h. (labels, refl, h); held = held_none t p c; same = refl; events = refl }

stepped_back : (told : Settings) (f f' f'' new : Front) (label : Label) (done labels : List Label) → Makes told f' label f''
    → (more : List Label) × (labels ≡ done ++ more) × Settles told f' more new
    → (more : List Label) × (labels ≡ (done ++ label ∷ []) ++ more) × Settles told f'' more new
stepped_back told f f' f'' new label done labels steps h =
    let p = peel told f' f'' new label h.0 steps h.2 in
    (p.0, h.1 ∙ ap (λ (x : List Label). done ++ x) p.1 ∙ sym (append_assoc done (label ∷ []) p.0), p.2)

pub stepping_more : (d d' d'' : Desk) (t t' t'' : Option Text) (p p' p'' : Text) (c c' c'' : Tally) (label : Label) → Stepping d t p c d' t' p' c' → Stepped d' label d'' → Held t' p' c' (label ∷ []) t'' p'' c''
    → Stepping d t p c d'' t'' p'' c''
stepping_more d d' d'' t t' t'' p p' p'' c c' c'' label h stepped held =
    let steps : Makes (told_of d) (front_of d') label (front_of d'') = subst (λ (x : Settings). Makes x (front_of d') label (front_of d'')) h.same stepped.steps in
    record {
      done = h.done ++ label ∷ [];
      steps = steps_more (told_of d) (front_of d) (front_of d') (front_of d'') h.done label h.steps steps;
      leads = λ labels new settles.
          let goes : Settles (told_of d) (front_of d') (label ∷ labels) new = (front_of d'', steps, settles) in
          let P : List Label → Type 0 = λ ls. Settles (told_of d) (front_of d) ls new in
          subst P (sym (append_assoc h.done (label ∷ []) labels)) (h.leads (label ∷ labels) new goes);
      back = λ labels new settles. stepped_back (told_of d) (front_of d) (front_of d') (front_of d'') new label h.done labels steps (h.back labels new settles);
      held = held_both t t' t'' p p' p'' c c' c'' h.done (label ∷ []) h.held held;
      same = stepped.same ∙ h.same;
      events = stepped.events ∙ h.events;
      run = stepped.run;
    }

pub stepping_quiet : (d d' d'' : Desk) (t t' : Option Text) (p p' : Text) (c c' : Tally) → Stepping d t p c d' t' p' c' → (moved : Moved) → moved ≡ Moved.Quiet → FrontMoves (told_of d') (front_of d') moved (front_of d'')
    → told_of d'' ≡ told_of d' → d''.manager.events ≡ d'.manager.events → IsOfFrontRun (told_of d'') d''.manager.events (front_of d'') → Settled d t p c d'' t' p' c'
stepping_quiet d d' d'' t t' p p' c c' h moved ends moves same events run =
    let (quiet, front) = subst (λ (x : Moved). FrontMoves (told_of d') (front_of d') x (front_of d'')) ends moves in
    let settles : Settles (told_of d) (front_of d) h.done (front_of d') =
    let Q : List Label → Type 0 = λ ls. Settles (told_of d) (front_of d) ls (front_of d') in
    subst Q (labels_nil h.done) (h.leads [] (front_of d') (refl, subst (λ (x : Settings). IsFrontQuiet x (front_of d')) h.same quiet)) in
    record {
      labels = h.done;
      settles = subst (λ (x : Front). Settles (told_of d) (front_of d) h.done x) (sym front) settles;
      held = h.held;
      same = same ∙ h.same;
      events = events ∙ h.events;
      run = run;
    }

-- a front of the lines, where no further line was begun
pub stepping_front : (d d' : Desk) (t t' : Option Text) (p p' : Text) (c c' : Tally) → Stepping d t p c d' t' p' c' → SettlesFront d p t t'
stepping_front d d' t t' p p' c c' h = λ labels last settles.
    let b = h.back labels last settles in
    lines_held t t' p p' c c' labels h.done b.0 b.1 h.held

-- where one was
pub stepping_front_more : (d d' d'' : Desk) (t t' t'' : Option Text) (p p' : Text) (c c' : Tally) (label : Label) → Stepping d t p c d' t' p' c' → Stepped d' label d'' → AppendsFront t' t'' (p' ++ text_of (label ∷ []))
    → SettlesFront d p t t''
stepping_front_more d d' d'' t t' t'' p p' c c' label h stepped front = λ labels last settles.
    let steps : Makes (told_of d) (front_of d') label (front_of d'') = subst (λ (x : Settings). Makes x (front_of d') label (front_of d'')) h.same stepped.steps in
    let b = h.back labels last settles in
    let q = peel (told_of d) (front_of d') (front_of d'') last label b.0 steps b.2 in
    lines_front t t' t'' p p' c c' labels h.done (label ∷ []) q.0 (b.1 ∙ ap (λ (x : List Label). h.done ++ x) q.1) h.held front

-- What a step came to, and was told ---------------------------------------------------------

-- a step, as its call answers it
pub record Made (d : Desk) (moved : Result Moved AllocError) (d' : Desk) : Type 0 where
  pub moves : IfOk moved (λ m. FrontMoves (told_of d) (front_of d) m (front_of d'))
  pub same : told_of d' ≡ told_of d
  pub events : d'.manager.events ≡ d.manager.events
  pub run : IsOfFrontRun (told_of d') d'.manager.events (front_of d')

pub stepped_of : (d d' : Desk) (label : Label) → Made d (Ok (Moved.Label label)) d' → Stepped d label d'
stepped_of d d' label h = record { steps = h.moves; same = h.same; events = h.events; run = h.run }

-- one was next: its label was told, and fewer are left
pub told_less : (d d' : Desk) (moved : Result Moved AllocError) (t t' : Option Text) (p p' : Text) (c c' : Tally) (was_next : Bool) → was_next ≡ true → IsOfFrontRun (told_of d) d.manager.events (front_of d) → Made d moved d'
    → MovedHeld moved was_next t p c t' p' c' → front_steps_left (told_of d') (front_of d') < front_steps_left (told_of d) (front_of d)
told_less d d' (Ok (Moved.Label label)) t t' p p' c c' was_next is run made held = less_left d d' label run (stepped_of d d' label made)
told_less d d' (Ok Moved.Quiet) t t' p p' c c' was_next is run made held = absurd (true≢false (sym is ∙ held.0))
told_less d d' (Err error) t t' p p' c c' was_next is run made held = absurd held

pub told_more : (d d' d'' : Desk) (moved : Result Moved AllocError) (t t' t'' : Option Text) (p p' p'' : Text) (c c' c'' : Tally) (was_next : Bool) → was_next ≡ true → Stepping d t p c d' t' p' c' → Made d' moved d''
    → MovedHeld moved was_next t' p' c' t'' p'' c'' → Stepping d t p c d'' t'' p'' c''
told_more d d' d'' (Ok (Moved.Label label)) t t' t'' p p' p'' c c' c'' was_next is h made held = stepping_more d d' d'' t t' t'' p p' p'' c c' c'' label h (stepped_of d' d'' label made) held.1
told_more d d' d'' (Ok Moved.Quiet) t t' t'' p p' p'' c c' c'' was_next is h made held = absurd (true≢false (sym is ∙ held.0))
told_more d d' d'' (Err error) t t' t'' p p' p'' c c' c'' was_next is h made held = absurd held

-- none was
pub told_quiet : (d d' d'' : Desk) (moved : Result Moved AllocError) (t t' t'' : Option Text) (p p' p'' : Text) (c c' c'' : Tally) (was_next : Bool) → was_next ≡ false → Stepping d t p c d' t' p' c' → Made d' moved d''
    → MovedHeld moved was_next t' p' c' t'' p'' c'' → Settled d t p c d'' t'' p'' c''
told_quiet d d' d'' (Ok (Moved.Label label)) t t' t'' p p' p'' c c' c'' was_next is h made held = absurd (false≢true (sym is ∙ held.0))
told_quiet d d' d'' (Ok Moved.Quiet) t t' t'' p p' p'' c c' c'' was_next is h made held =
    subst (λ (x : Option Text). Settled d t p c d'' x p'' c'') (sym held.1)
    (subst (λ (x : Text). Settled d t p c d'' t' x c'') (sym held.2)
    (subst (λ (x : Tally). Settled d t p c d'' t' p' x) (sym held.3)
    (stepping_quiet d d' d'' t t' p p' c c' h Moved.Quiet refl made.moves made.same made.events made.run)))
told_quiet d d' d'' (Err error) t t' t'' p p' p'' c c' c'' was_next is h made held = absurd held

-- whatever a step came to, a front was written
pub told_front : (d d' d'' : Desk) (moved : Result Moved AllocError) (t t' t'' : Option Text) (p p' : Text) (c c' : Tally) → Stepping d t p c d' t' p' c' → Made d' moved d'' → MovedFront moved t' p' t'' → SettlesFront d p t t''
told_front d d' d'' (Ok (Moved.Label label)) t t' t'' p p' c c' h made front = stepping_front_more d d' d'' t t' t'' p p' c c' label h (stepped_of d' d'' label made) front
told_front d d' d'' (Ok Moved.Quiet) t t' t'' p p' c c' h made front = subst (λ (x : Option Text). SettlesFront d p t x) (sym front) (stepping_front d d' t t' p p' c c' h)
told_front d d' d'' (Err error) t t' t'' p p' c c' h made front = subst (λ (x : Option Text). SettlesFront d p t x) (sym front) (stepping_front d d' t t' p p' c c' h)

-- an event of a client is none of the machine's
few_events : (event : Event) (n : ℕ) → machine_events event n ≤ n + 1
few_events (Event.Watch client path agrees) n = omega arith
few_events (Event.Unwatch client path) n = omega arith
few_events _ n = omega arith

-- the event, and then the steps
pub answered_by : (d d' d'' : Desk) (event : Event) (label : Label) (t t' t'' : Option Text) (p p' p'' : Text) (c c' c'' : Tally) → IsFrontDone (front_happens (front_of d) event) label (front_of d') → told_of d' ≡ told_of d
    → d'.manager.events ≡ machine_events event d.manager.events → Held t p c (label ∷ []) t' p' c' → Settled d' t' p' c' d'' t'' p'' c'' → Answered d event t p c d'' t'' p'' c''
answered_by d d' d'' event label t t' t'' p p' p'' c c' c'' happened same events held settled =
    record {
      labels = label ∷ settled.labels;
      follows = record {
        first = label;
        begun = front_of d';
        more = settled.labels;
        happened = happened;
        printed = refl;
        settled = subst (λ (x : Settings). Settles x (front_of d') settled.labels (front_of d'')) same settled.settles;
      };
      held = held_both t t' t'' p p' p'' c c' c'' (label ∷ []) settled.labels held settled.held;
      same = settled.same ∙ same;
      events = omega (arith, settled.events, events, few_events event d.manager.events);
      run = settled.run;
    }

-- nothing was written yet
pub follows_front_none : (d : Desk) (event : Event) (p : Text) (t : Option Text) → FollowsFront d event p t t
follows_front_none d event p t = λ labels last h. none_is_front t (p ++ text_of labels)

first_is : (d d' : Desk) (event : Event) (label : Label) (labels : List Label) (last : Front) → IsFrontDone (front_happens (front_of d) event) label (front_of d') → (h : Follows (told_of d) (front_of d) event labels last)
    → (labels ≡ label ∷ h.more) × (h.begun ≡ front_of d')
first_is d d' event label labels last done h =
    (h.printed ∙ ap (λ (x : Label). x ∷ h.more) (h.happened.0 ∙ sym done.0), h.happened.1 ∙ sym done.1)

-- a front of the first line
pub follows_front_first : (d d' : Desk) (event : Event) (label : Label) (t t' : Option Text) (p : Text) → IsFrontDone (front_happens (front_of d) event) label (front_of d') → AppendsFront t t' (p ++ text_of (label ∷ [])) → FollowsFront d event p t t'
follows_front_first d d' event label t t' p done front = λ labels last h.
    let nobody : Tally = record { steps = 0; moved = 0 } in
    lines_front t t t' p p nobody nobody labels [] (label ∷ []) h.more (first_is d d' event label labels last done h).0 (held_none t p nobody) front

-- the first line, and a front of those that follow
pub follows_front_more : (d d' : Desk) (event : Event) (label : Label) (t t' t'' : Option Text) (p p' : Text) (c c' : Tally) → IsFrontDone (front_happens (front_of d) event) label (front_of d') → told_of d' ≡ told_of d
    → Held t p c (label ∷ []) t' p' c' → SettlesFront d' p' t' t'' → FollowsFront d event p t t''
follows_front_more d d' event label t t' t'' p p' c c' done same held front = λ labels last h.
    let f = first_is d d' event label labels last done h in
    let settled : Settles (told_of d') (front_of d') h.more last = subst (λ (x : Settings). Settles x (front_of d') h.more last) (sym same) (subst (λ (x : Front). Settles (told_of d) x h.more last) f.1 h.settled) in
    lines_front t t' t'' p p' c c' labels (label ∷ []) h.more [] (f.0 ∙ ap (λ (x : List Label). label ∷ x) (sym (labels_nil h.more))) held (front h.more last settled)

-- The same of what the call answered -----------------------------------------------------

pub answer_told : (d d' d'' : Desk) (event : Event) (answer : Result Label AllocError) (t t' t'' : Option Text) (p p' p'' : Text) (c c' c'' : Tally) → IfOk answer (λ label. IsFrontDone (front_happens (front_of d) event) label (front_of d'))
    → told_of d' ≡ told_of d → OnOk answer (d'.manager.events ≡ machine_events event d.manager.events) → AnswerHeld answer t p c t' p' c' → Settled d' t' p' c' d'' t'' p'' c'' → Answered d event t p c d'' t'' p'' c''
answer_told d d' d'' event (Ok label) t t' t'' p p' p'' c c' c'' happened same events held settled = answered_by d d' d'' event label t t' t'' p p' p'' c c' c'' happened same events held settled
answer_told d d' d'' event (Err error) t t' t'' p p' p'' c c' c'' happened same events held settled = absurd held

pub answer_front : (d d' : Desk) (event : Event) (answer : Result Label AllocError) (t t' : Option Text) (p : Text) → IfOk answer (λ label. IsFrontDone (front_happens (front_of d) event) label (front_of d')) → AnswerFront answer t p t'
    → FollowsFront d event p t t'
answer_front d d' event (Ok label) t t' p done front = follows_front_first d d' event label t t' p done front
answer_front d d' event (Err error) t t' p done front = subst (λ (x : Option Text). FollowsFront d event p t x) (sym front) (follows_front_none d event p t)

pub answer_front_more : (d d' : Desk) (event : Event) (answer : Result Label AllocError) (t t' t'' : Option Text) (p p' : Text) (c c' : Tally) → IfOk answer (λ label. IsFrontDone (front_happens (front_of d) event) label (front_of d'))
    → told_of d' ≡ told_of d → AnswerHeld answer t p c t' p' c' → SettlesFront d' p' t' t'' → FollowsFront d event p t t''
answer_front_more d d' event (Ok label) t t' t'' p p' c c' done same held front = follows_front_more d d' event label t t' t'' p p' c c' done same held front
answer_front_more d d' event (Err error) t t' t'' p p' c c' done same held front = absurd held

-- Where the steps end, the front awaits what comes -----------------------------------

pub awaits_next : (d d' : Desk) (event : Event) (t t' : Option Text) (p p' : Text) (c c' : Tally) → Answered d event t p c d' t' p' c' → Awaits d'
awaits_next d d' event t t' p p' c c' h =
    record { run = h.run; quiet = subst (λ (x : Settings). IsFrontQuiet x (front_of d')) (sym h.same) (settles_quiet (told_of d) h.follows.begun (front_of d') h.follows.more h.follows.settled) }
