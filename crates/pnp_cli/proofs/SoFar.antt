-- Where memory runs out, what was done before is written.
use Rattle.std.proofs.Common.{◌≡◌, inl, inr, List, [], ◌∷◌, ◌++◌, Option, Result, Ok, Err, IfOk, OnErr, IsErr, IsErrOf, refl, sym, ◌∙◌, ap, subst, append_assoc, append-nil}
use Rattle.std.specs.declared.alloc.AllocError.{AllocError}
use Rattle.std.specs.Result.{IsErrAnd}
use Rattle.pnp_cli.specs.declared.turn.WriteError.{WriteError}
use Rattle.pnp_io.specs.Outside.{Appends, AppendsFront}
use Rattle.pnp_labels.specs.Texts.{Text}
use Rattle.pnp_labels.specs.declared.event.Event.{Event}
use Rattle.pnp_labels.specs.declared.label.Label.{Label}
use Rattle.pnp_model.specs.Records.{Settings}
use Rattle.notify_front.specs.Fronts.{Front, front_happens}
use Rattle.notify_front.specs.Desks.{Desk, IsFrontDone, front_of, told_of}
use Rattle.pnp_machine.specs.declared.manager.Moved.{Moved}
use Rattle.pnp_cli.specs.declared.tally.Tally.{Tally}
use Rattle.pnp_cli.specs.Outputs.{Makes, Settles, Follows, text_of}
use Rattle.pnp_cli.specs.Turns.{AnswerHeld, Answered, AnsweredSoFar, FollowsFront, FollowsSoFar, Held, Keeps, SettledSoFar, StaysOrSteps, StepsOn, WroteSoFar}
use Rattle.pnp_cli.proofs.Fronts.{none_appends, appends_both, all_is_front, front_in, front_after}
use Rattle.pnp_cli.proofs.Sameness.{SameEnd, follows_one, peel}
use Rattle.pnp_cli.proofs.Settling.{Made, Stepping, labels_nil}
use Rattle.pnp_cli.proofs.Telling.{held_text, held_written, lines_last, text_append}

-- an error that is handed on as it is
err_of : {A : Type 0} (a b : WriteError) → IsErrOf {T = A} (Err a) b → a ≡ b
err_of a b same = cc

pub back_error : {A B : Type 0} (r : Result A WriteError) (e w : WriteError) → IsErr r × IsErrAnd r (λ f. f ≡ e) → IsErrOf r w → IsErrOf {T = B} (Err e) w
back_error (Ok x) e w h is = absurd h.1
back_error (Err f) e w h is = ap Err (sym h.1 ∙ err_of f w is)

-- Up to the step that failed ---------------------------------------------------------------

failed_step : (told : Settings) (d d' : Desk) (moved : Result Moved AllocError) → told_of d ≡ told → Made d moved d' → OnErr moved (d' ≡ d) → StaysOrSteps told (front_of d) (front_of d')
failed_step told d d' (Ok (Moved.Label label)) same made none = inr (label, subst (λ (x : Settings). Makes x (front_of d) label (front_of d')) same made.moves)
failed_step told d d' (Ok Moved.Quiet) same made none = inl made.moves.1
failed_step told d d' (Err error) same made none = inl (ap front_of none)

pub settled_so_far : (d d' d'' : Desk) (moved : Result Moved AllocError) (t t' t'' : Option Text) (p p' p'' : Text) (c c' : Tally) → Stepping d t p c d' t' p' c' → Made d' moved d'' → OnErr moved (d'' ≡ d') → Keeps t' p' t'' p''
    → SettledSoFar (told_of d) (front_of d) t p (front_of d'') t'' p''
settled_so_far d d' d'' moved t t' t'' p p' p'' c c' h made none keeps =
    record {
      labels = h.done;
      there = front_of d';
      steps = h.steps;
      failed = failed_step (told_of d) d' d'' moved h.same made none;
      wrote = h.held.wrote;
      took = subst (λ (x : Option Text). Appends t x h.held.wrote) (sym keeps.0) h.held.took;
      all = h.held.all ∙ ap (λ (x : Text). h.held.wrote ++ x) (sym keeps.1);
    }

failed_event : (d d' : Desk) (event : Event) (answer : Result Label AllocError) → IfOk answer (λ label. IsFrontDone (front_happens (front_of d) event) label (front_of d')) → OnErr answer (d' ≡ d)
    → FollowsSoFar (told_of d) (front_of d) event [] (front_of d')
failed_event d d' event (Ok label) done none = inr (label, done)
failed_event d d' event (Err error) done none = inl (ap front_of none)

-- the event failed
pub answer_so_far : (d d' : Desk) (event : Event) (answer : Result Label AllocError) (t t' : Option Text) (p p' : Text) → IfOk answer (λ label. IsFrontDone (front_happens (front_of d) event) label (front_of d')) → OnErr answer (d' ≡ d)
    → Keeps t p t' p' → AnsweredSoFar (told_of d) (front_of d) event t p (front_of d') t' p'
answer_so_far d d' event answer t t' p p' done none keeps =
    record {
      labels = [];
      follows = failed_event d d' event answer done none;
      wrote = [];
      took = subst (λ (x : Option Text). Appends t x []) (sym keeps.0) (none_appends t);
      all = append-nil p ∙ sym keeps.1;
    }

-- a step after it failed
pub answer_so_far_more : (d d' d'' : Desk) (event : Event) (answer : Result Label AllocError) (t t' t'' : Option Text) (p p' p'' : Text) (c c' : Tally) → IfOk answer (λ label. IsFrontDone (front_happens (front_of d) event) label (front_of d'))
    → told_of d' ≡ told_of d → AnswerHeld answer t p c t' p' c' → SettledSoFar (told_of d') (front_of d') t' p' (front_of d'') t'' p'' → AnsweredSoFar (told_of d) (front_of d) event t p (front_of d'') t'' p''
answer_so_far_more d d' d'' event (Ok label) t t' t'' p p' p'' c c' done same held h =
    record {
      labels = label ∷ h.labels;
      follows = (
        front_of d',
        h.there,
        done,
        subst (λ (x : Settings). StepsOn x (front_of d') h.labels h.there) same h.steps,
        subst (λ (x : Settings). StaysOrSteps x h.there (front_of d'')) same h.failed,
      );
      wrote = held.wrote ++ h.wrote;
      took = appends_both t t' t'' held.wrote h.wrote held.took h.took;
      all = sym (held_text t t' p p' c c' (label ∷ []) h.labels held) ∙ ap (λ (x : Text). held.wrote ++ x) h.all ∙ sym (append_assoc held.wrote h.wrote p'');
    }
answer_so_far_more d d' d'' event (Err error) t t' t'' p p' p'' c c' done same held h = absurd held

-- These labels are the first of all -----------------------------------------------------------

peel_all : (told : Settings) (f g last : Front) (xs all : List Label) → StepsOn told f xs g → Settles told f all last → (more : List Label) × (all ≡ xs ++ more)
peel_all told f g last [] all steps settles = (all, refl)
peel_all told f g last (x ∷ xs) all (mid, step, steps) settles =
    let p = peel told f mid last x all step settles in
    let rest = peel_all told mid g last xs p.0 steps p.2 in
    (rest.0, p.1 ∙ ap (λ (ls : List Label). x ∷ ls) rest.1)

first_labels : (told : Settings) (f f' : Front) (event : Event) (labels all : List Label) (last : Front) → FollowsSoFar told f event labels f' → Follows told f event all last → (more : List Label) × (all ≡ labels ++ more)
first_labels told f f' event [] all last so_far h = (all, refl)
first_labels told f f' event (label ∷ labels) all last (begun, there, done, steps, failed) h =
    let rest = peel_all told begun there last labels h.more steps (subst (λ (x : Front). Settles told x h.more last) (h.happened.1 ∙ sym done.1) h.settled) in
    (rest.0, h.printed ∙ ap (λ (l : Label). l ∷ h.more) (h.happened.0 ∙ sym done.0) ∙ ap (λ (ls : List Label). label ∷ ls) rest.1)

-- What waits is written --------------------------------------------------------------------------

-- after all that followed
pub answered_written : (d d' : Desk) (event : Event) (t t' t'' : Option Text) (p p' : Text) (c c' : Tally) → p ≡ [] → Answered d event t p c d' t' p' c' → Appends t' t'' p' → Answered d event t [] c d' t'' [] c'
answered_written d d' event t t' t'' p p' c c' none h took =
    record {
      labels = h.labels;
      follows = h.follows;
      held = subst (λ (x : Text). Held t x c h.labels t'' [] c') none (held_written t t' t'' p p' c c' h.labels h.held took);
      same = h.same;
      events = h.events;
      run = h.run;
    }

pub answered_front : (d d' : Desk) (event : Event) (t t' t'' : Option Text) (p p' : Text) (c c' : Tally) → p ≡ [] → Answered d event t p c d' t' p' c' → AppendsFront t' t'' p' → FollowsFront d event [] t t''
answered_front d d' event t t' t'' p p' c c' none h front = λ labels last follows.
    let same : SameEnd labels h.labels last (front_of d') = follows_one (told_of d) (front_of d) last (front_of d') event labels h.labels follows h.follows in
    subst (λ (x : Text). AppendsFront t t'' (x ++ text_of labels)) none
    (lines_last t t' t'' p p' c c' labels h.labels [] (same.labels ∙ sym (labels_nil h.labels)) h.held front)

pub answered_all_front : (d d' : Desk) (event : Event) (t t' t'' : Option Text) (p p' : Text) (c c' : Tally) → p ≡ [] → Answered d event t p c d' t' p' c' → Appends t' t'' p' → FollowsFront d event [] t t''
answered_all_front d d' event t t' t'' p p' c c' none h took = answered_front d d' event t t' t'' p p' c c' none h (all_is_front t' t'' p' took)

-- where memory ran out
so_far_text : (told : Settings) (f f' : Front) (event : Event) (t t' : Option Text) (p p' : Text) → p ≡ [] → (h : AnsweredSoFar told f event t p f' t' p') → text_of h.labels ≡ h.wrote ++ p'
so_far_text told f f' event t t' p p' none h = ap (λ (x : Text). x ++ text_of h.labels) (sym none) ∙ h.all

pub so_far_written : (told : Settings) (f f' : Front) (event : Event) (t t' t'' : Option Text) (p p' : Text) → p ≡ [] → AnsweredSoFar told f event t p f' t' p' → Appends t' t'' p' → WroteSoFar told f event t f' t''
so_far_written told f f' event t t' t'' p p' none h took =
    record {
      labels = h.labels;
      follows = h.follows;
      took = subst (λ (x : Text). Appends t t'' x) (sym (so_far_text told f f' event t t' p p' none h)) (appends_both t t' t'' h.wrote p' h.took took);
    }

pub so_far_front : (d : Desk) (f' : Front) (event : Event) (t t' t'' : Option Text) (p p' : Text) → p ≡ [] → AnsweredSoFar (told_of d) (front_of d) event t p f' t' p' → AppendsFront t' t'' p' → FollowsFront d event [] t t''
so_far_front d f' event t t' t'' p p' none h front = λ labels last follows.
    let rest = first_labels (told_of d) (front_of d) f' event h.labels labels last h.follows follows in
    let here : AppendsFront t t'' (text_of h.labels) =
    subst (λ (x : Text). AppendsFront t t'' x) (sym (so_far_text (told_of d) (front_of d) f' event t t' p p' none h)) (front_after t t' t'' h.wrote p' h.took front)
    in
    subst (λ (x : Text). AppendsFront t t'' x) (sym (ap text_of rest.1 ∙ text_append h.labels rest.0)) (front_in t t'' (text_of h.labels) (text_of rest.0) here)

pub so_far_all_front : (d : Desk) (f' : Front) (event : Event) (t t' t'' : Option Text) (p p' : Text) → p ≡ [] → AnsweredSoFar (told_of d) (front_of d) event t p f' t' p' → Appends t' t'' p' → FollowsFront d event [] t t''
so_far_all_front d f' event t t' t'' p p' none h took = so_far_front d f' event t t' t'' p p' none h (all_is_front t' t'' p' took)
