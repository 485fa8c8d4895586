-- A run of a script, one label at a time.
use Rattle.std.proofs.Common.{◌≡◌, Result, Ok, IfOk, ℕ, ◌+◌, ◌<◌, ◌≤◌, Bool, true, false, List, [], ◌∷◌, ◌++◌, Option, Some, None, length, refl, sym, ◌∙◌, ap, ap₂, subst, append_assoc, append-nil, arith, ◌^◌}
use Rattle.pnp_labels.specs.declared.event.Event.{Event}
use Rattle.pnp_labels.specs.declared.label.Label.{Label}
use Rattle.pnp_model.specs.Records.{Settings, Doing, Driver}
use Rattle.pnp_model.specs.Runs.{opening}
use Rattle.notify_front.specs.Fronts.{Front, FrontEntry, FrontStep, IsFrontStep, IsFrontQuiet, front_happens, front_next}
use Rattle.notify_front.specs.Desks.{Desk, FrontMoves, IsFrontDone, IsOfFrontRun, front_of, opening_desk, told_of}
use Rattle.notify_front.proofs.FrontLeft.{front_steps_left, front_left_falls}
use Rattle.pnp_machine.specs.Managers.{Manager}
use Rattle.pnp_machine.specs.declared.manager.Moved.{Moved}
use Rattle.script_reader.specs.Reading.{Reading, Moves}
use Rattle.script_reader.specs.Answers.{Answers}
use Rattle.script_reader.specs.declared.next.Next.{Next}
use Rattle.pnp_machine.specs.Machines.{HasFewIds}
use Rattle.pnp_cli.proofs.FewIds.{few_ids}
use Rattle.script_reader.specs.Script.{Trace, gives, ends, stops, trace, Ends, IsStuck}
use Rattle.pnp_cli.specs.Outputs.{Makes, Settles, Follows, Plays, bad_text}
use Rattle.pnp_cli.specs.Contents.{answer_of}
use Rattle.pnp_cli.specs.Pieces.{line_of_bad, answer_by}
use Rattle.pnp_cli.specs.Turns.{Awaits}
use Rattle.pnp_cli.proofs.Ended.{awaits_first}
use Rattle.pnp_cli.proofs.Going.{event_here}
use Rattle.script_play.specs.Playing.{Playing, PlaysOn, Played, Ended, IsPlaying, IsStepped, Stepped, StepTold, left_of}

-- at a quiet front no step is next
no_step : (settings : Settings) (f mid : Front) (label : Label) → IsFrontQuiet settings f → Makes settings f label mid → ⊥
no_step settings f mid label quiet (entry, is, steps) =
    subst (λ (o : Option (Doing FrontStep)). IsFrontStep settings o (record { entry = entry; front = mid })) quiet steps

-- so nothing follows there by itself
still : (settings : Settings) (f quiet : Front) (t : Trace) (here more labels : List Label) (last : Front) → IsFrontQuiet settings f → Settles settings f here quiet
    → Plays settings quiet t more last → labels ≡ here ++ more → Plays settings f t labels last
still settings f quiet t [] more labels last rests settles plays is =
    subst (λ (ls : List Label). Plays settings f t ls last) (sym is) (subst (λ (x : Front). Plays settings x t more last) settles.0 plays)
still settings f quiet t (label ∷ here) more labels last rests (mid, makes, settles) plays is = absurd (no_step settings f mid label rests makes)

pub plays_from : (settings : Settings) (f : Front) (t : Trace) (labels : List Label) (last : Front) → IsFrontQuiet settings f → PlaysOn settings f t labels last → Plays settings f t labels last
plays_from settings f t labels last rests on = still settings f on.quiet t on.here on.more labels last rests on.settles on.plays on.is

pub plays_on : (settings : Settings) (f : Front) (t : Trace) (labels : List Label) (last : Front) → IsFrontQuiet settings f → Plays settings f t labels last → PlaysOn settings f t labels last
plays_on settings f t labels last rests plays = record { here = []; quiet = f; more = labels; settles = (refl, rests); plays = plays; is = refl }

-- one label before others
pub label_before : (labels more : List Label) (label : Label) → labels ++ label ∷ more ≡ (labels ++ label ∷ []) ++ more
label_before labels more label = sym (append_assoc labels (label ∷ []) more)

-- Nothing was told yet --------------------------------------------------------------------

pub played_none : (p : Playing) → IsFrontQuiet (told_of p.desk) (front_of p.desk) → Played p [] p
played_none p rests =
    record {
      leads = λ more last on. plays_from (told_of p.desk) (front_of p.desk) (left_of p) more last rests on;
      bad = refl;
      answer = refl;
    }

-- a front that restarted awaits the first event
pub awaits_again : (m : Manager) (rack : List Driver) (d : Desk) → d ≡ opening_desk (record m { events = 0; state = opening rack }) → Awaits d
awaits_again m rack d opens = subst (λ (x : Desk). Awaits x) (sym opens) (awaits_first (record m { events = 0; state = opening rack }) (record { rack = rack; opens = refl; events = refl }))

-- A step ------------------------------------------------------------------------------------

pub step_on : (settings : Settings) (f mid : Front) (t : Trace) (label : Label) (more : List Label) (last : Front) → Makes settings f label mid
    → PlaysOn settings mid t more last → PlaysOn settings f t (label ∷ more) last
step_on settings f mid t label more last makes on =
    record { here = label ∷ on.here; quiet = on.quiet; more = on.more; settles = (mid, makes, on.settles); plays = on.plays; is = ap (λ (ls : List Label). label ∷ ls) on.is }

pub played_step : (start old new : Playing) (labels : List Label) (label : Label) → Played start labels old → IsStepped label old new → Played start (labels ++ label ∷ []) new
played_step start old new labels label played step =
    record {
      leads = λ more last on.
          let on_ : PlaysOn (told_of old.desk) (front_of new.desk) (left_of new) more last = subst (λ (x : Settings). PlaysOn x (front_of new.desk) (left_of new) more last) step.same on in
          let on__ : PlaysOn (told_of old.desk) (front_of new.desk) (left_of old) more last = subst (λ (x : Trace). PlaysOn (told_of old.desk) (front_of new.desk) x more last) left on_ in
          subst (λ (ls : List Label). Plays (told_of start.desk) (front_of start.desk) (left_of start) ls last) (label_before labels more label)
          (played.leads (label ∷ more) last (step_on (told_of old.desk) (front_of old.desk) (front_of new.desk) (left_of old) label more last step.makes on__));
      bad = played.bad ∙ ap bad_text (sym left);
      answer = played.answer ∙ ap answer_of (sym left);
    }
  where
    left : left_of new ≡ left_of old
    left = ap (λ (r : Reading). trace r.finished r.passed r.rest) step.reading

-- a play whose front was stepped
pub stepped_by : (d d' : Desk) (r : Reading) (bad : Option ℕ) (now : Playing) → record { desk = d; reading = r; bad = bad } ≡ now → (moved : Moved) (label : Label) → moved ≡ Moved.Label label
    → FrontMoves (told_of d) (front_of d) moved (front_of d') → IsPlaying (record { desk = d; reading = r; bad = bad }) → told_of d' ≡ told_of d → IsStepped label now (record { desk = d'; reading = r; bad = bad })
stepped_by d d' r bad now view moved label is moves stands same =
    subst (λ (x : Playing). IsStepped label x (record { desk = d'; reading = r; bad = bad })) view
    (record { makes = subst (λ (x : Moved). FrontMoves (told_of d) (front_of d) x (front_of d')) is moves; run = stands.run; same = same; reading = refl })

quiet_desk : (d d' : Desk) → told_of d' ≡ told_of d → IsFrontQuiet (told_of d) (front_of d) → front_of d' ≡ front_of d → IsFrontQuiet (told_of d') (front_of d')
quiet_desk d d' same quiet front =
    subst (λ (x : Settings). IsFrontQuiet x (front_of d')) (sym same) (subst (λ (x : Front). IsFrontQuiet (told_of d) x) (sym front) quiet)

pub quiet_by : (d d' : Desk) (r : Reading) (bad : Option ℕ) (now : Playing) → record { desk = d; reading = r; bad = bad } ≡ now → (moved : Moved) → moved ≡ Moved.Quiet
    → FrontMoves (told_of d) (front_of d) moved (front_of d') → told_of d' ≡ told_of d
    → IsFrontQuiet (told_of d') (front_of d') × ((start : Playing) (labels : List Label) → Played start labels now → Played start labels (record { desk = d'; reading = r; bad = bad }))
quiet_by d d' r bad now view moved is moves same =
    let still_ : IsFrontQuiet (told_of d) (front_of d) × (front_of d' ≡ front_of d) = subst (λ (x : Moved). FrontMoves (told_of d) (front_of d) x (front_of d')) is moves in
    (quiet_desk d d' same still_.0 still_.1, λ start labels played. on start labels (subst (λ (x : Playing). Played start labels x) (sym view) played) still_.1)
  where
    on : (start : Playing) (labels : List Label) → Played start labels (record { desk = d; reading = r; bad = bad }) → front_of d' ≡ front_of d → Played start labels (record { desk = d'; reading = r; bad = bad })
    on start labels played front =
        record {
          leads = λ more last h.
              played.leads more last
              (subst (λ (x : Front). PlaysOn (told_of d) x (trace r.finished r.passed r.rest) more last) front
              (subst (λ (x : Settings). PlaysOn x (front_of d') (trace r.finished r.passed r.rest) more last) same h));
          bad = played.bad;
          answer = played.answer;
        }

-- with each step fewer are left
pub fewer_left : (label : Label) (old new : Playing) → IsStepped label old new
    → front_steps_left (told_of new.desk) (front_of new.desk) < front_steps_left (told_of old.desk) (front_of old.desk)
fewer_left label old new step =
    subst (λ (x : Settings). front_steps_left x (front_of new.desk) < front_steps_left (told_of old.desk) (front_of old.desk)) (sym step.same)
    (front_left_falls (told_of old.desk) step.run.rack step.run.entries (front_of old.desk) (front_of new.desk) step.makes.0 step.run.reaches step.makes.2)

-- An event ----------------------------------------------------------------------------------

-- it happens, and then all that follows
pub event_on : (settings : Settings) (f new : Front) (number : ℕ) (event : Event) (t rest : Trace) (label : Label) (more : List Label) (last : Front) → IsFrontQuiet settings f → t ≡ gives number event rest
    → IsFrontDone (front_happens f event) label new → PlaysOn settings new rest more last → Plays settings f t (label ∷ more) last
event_on settings f new number event t rest label more last rests is done on =
    subst (λ (x : Trace). Plays settings f x (label ∷ more) last) (sym is)
    (label ∷ on.here, on.quiet, on.more, record { first = label; begun = new; more = on.here; happened = done; printed = refl; settled = on.settles }, on.plays, ap (λ (ls : List Label). label ∷ ls) on.is)

pub played_event : (start old new : Playing) (labels : List Label) (label : Label) (number : ℕ) (event : Event) → Played start labels old → IsFrontQuiet (told_of old.desk) (front_of old.desk)
    → left_of old ≡ gives number event (left_of new) → IsFrontDone (front_happens (front_of old.desk) event) label (front_of new.desk) → told_of new.desk ≡ told_of old.desk
    → Played start (labels ++ label ∷ []) new
played_event start old new labels label number event played rests is done same =
    record {
      leads = λ more last on.
          let on_ : PlaysOn (told_of old.desk) (front_of new.desk) (left_of new) more last = subst (λ (x : Settings). PlaysOn x (front_of new.desk) (left_of new) more last) same on in
          let plays : Plays (told_of old.desk) (front_of old.desk) (left_of old) (label ∷ more) last =
          event_on (told_of old.desk) (front_of old.desk) (front_of new.desk) number event (left_of old) (left_of new) label more last rests is done on_ in
          subst (λ (ls : List Label). Plays (told_of start.desk) (front_of start.desk) (left_of start) ls last) (label_before labels more label)
          (played.leads (label ∷ more) last (plays_on (told_of old.desk) (front_of old.desk) (left_of old) (label ∷ more) last rests plays));
      bad = played.bad ∙ ap bad_text is;
      answer = played.answer ∙ ap answer_of is;
    }

-- The end -----------------------------------------------------------------------------------

ended_by : (start old new : Playing) (labels : List Label) → Played start labels old → IsFrontQuiet (told_of old.desk) (front_of old.desk)
    → Plays (told_of old.desk) (front_of old.desk) (left_of old) [] (front_of old.desk) → front_of new.desk ≡ front_of old.desk
    → bad_text (left_of old) ≡ line_of_bad new.bad → answer_of (left_of old) ≡ answer_by new.bad → Ended start labels new
ended_by start old new labels played rests plays same bad answer =
    record {
      plays = subst (λ (x : Front). Plays (told_of start.desk) (front_of start.desk) (left_of start) labels x) (sym same)
          (subst (λ (ls : List Label). Plays (told_of start.desk) (front_of start.desk) (left_of start) ls (front_of old.desk)) (append-nil labels)
          (played.leads [] (front_of old.desk) (plays_on (told_of old.desk) (front_of old.desk) (left_of old) [] (front_of old.desk) rests plays)));
      bad = played.bad ∙ bad;
      answer = played.answer ∙ answer;
    }

pub ended_over : (start old new : Playing) (labels : List Label) → Played start labels old → IsFrontQuiet (told_of old.desk) (front_of old.desk) → left_of old ≡ ends → front_of new.desk ≡ front_of old.desk
    → new.bad ≡ None → Ended start labels new
ended_over start old new labels played rests is same none =
    ended_by start old new labels played rests (subst (λ (x : Trace). Plays (told_of old.desk) (front_of old.desk) x [] (front_of old.desk)) (sym is) (refl, refl)) same
    (ap bad_text is ∙ ap line_of_bad (sym none)) (ap answer_of is ∙ ap answer_by (sym none))

pub ended_bad : (start old new : Playing) (labels : List Label) (line : ℕ) → Played start labels old → IsFrontQuiet (told_of old.desk) (front_of old.desk) → left_of old ≡ stops line → front_of new.desk ≡ front_of old.desk
    → new.bad ≡ Some line → Ended start labels new
ended_bad start old new labels line played rests is same some =
    ended_by start old new labels played rests (subst (λ (x : Trace). Plays (told_of old.desk) (front_of old.desk) x [] (front_of old.desk)) (sym is) (refl, refl)) same
    (ap bad_text is ∙ ap line_of_bad (sym some)) (ap answer_of is ∙ ap answer_by (sym some))

-- What the reader answers -------------------------------------------------------------------

-- the reader's answer, with its event
answers_at : (r r' : Reading) (next next' : Next) → next ≡ next' → Answers next r r' → Answers next' r r'
answers_at r r' next next' is h = subst (λ (n : Next). Answers n r r') is h

-- what is left once nothing more is passed
nothing_left : (r r' : Reading) → Moves r r' [] → trace r.finished r.passed r.rest ≡ trace r'.finished r'.passed r'.rest
nothing_left r r' moves =
    ap (λ (x : List ℕ). trace r.finished r.passed x) moves.whole ∙ moves.same r.finished r'.rest (λ shut. (shut, refl))
    ∙ ap (λ (b : Bool). trace b r'.passed r'.rest) (sym moves.finished)

event_left : (r r' : Reading) (event : Event) → Moves r r' (record { line = r'.line; event = event } ∷ []) → trace r.finished r.passed r.rest ≡ gives r'.line event (trace r'.finished r'.passed r'.rest)
event_left r r' event moves = event_here r r' r'.line event moves ∙ ap (λ (b : Bool). gives r'.line event (trace b r'.passed r'.rest)) (sym moves.finished)

stuck_left : (r : Reading) → IsStuck r.finished r.rest → trace r.finished r.passed r.rest ≡ stops (r.passed + 1)
stuck_left r stuck = ap (λ (x : List ℕ). trace r.finished r.passed x) (sym (append-nil r.rest)) ∙ stuck.same r.finished [] r.passed (λ shut. (shut, refl))

over_left : (r : Reading) → Ends r.finished r.rest → trace r.finished r.passed r.rest ≡ ends
over_left r over = ap (λ (b : Bool). trace b r.passed r.rest) over.shut ∙ ap (trace true r.passed) over.empty

pub few_by : (r r' : Reading) (next : Next) (event : Event) → next ≡ Next.Event event → Answers next r r' → HasFewIds event
few_by r r' next event is h =
    let answers : Answers (Next.Event event) r r' = answers_at r r' next (Next.Event event) is h in
    few_ids r.finished r.passed r.rest r'.line event (trace r.finished r'.passed r'.rest) (event_here r r' r'.line event answers.0)

-- there is room for an event
pub room_by : (d : Desk) (r r' : Reading) (bad : Option ℕ) (next : Next) (event : Event) → next ≡ Next.Event event → Answers next r r' → IsPlaying (record { desk = d; reading = r; bad = bad }) → d.manager.events < 2 ^ 24
room_by d r r' bad next event is h stands =
    let answers : Answers (Next.Event event) r r' = answers_at r r' next (Next.Event event) is h in
    omega (arith, stands.room, answers.1)

-- an event came
pub came_event : (d d' : Desk) (r r' : Reading) (bad : Option ℕ) (now : Playing) → record { desk = d; reading = r; bad = bad } ≡ now → (next : Next) (event : Event) → next ≡ Next.Event event → Answers next r r' → (label : Label)
    → IsFrontQuiet (told_of now.desk) (front_of now.desk) → IsFrontDone (front_happens (front_of d) event) label (front_of d') → told_of d' ≡ told_of d
    → (length r'.rest < length now.reading.rest) × ((start : Playing) (labels : List Label) → Played start labels now → Played start (labels ++ label ∷ []) (record { desk = d'; reading = r'; bad = bad }))
came_event d d' r r' bad now view next event is h label quiet done same =
    let answers : Answers (Next.Event event) r r' = answers_at r r' next (Next.Event event) is h in
    let new : Playing = record { desk = d'; reading = r'; bad = bad } in
    let Came_ : Playing → Type 0 = λ x. (length r'.rest < length x.reading.rest) × ((start : Playing) (labels : List Label) → Played start labels x → Played start (labels ++ label ∷ []) new) in
    let quiet_ : IsFrontQuiet (told_of d) (front_of d) = subst (λ (x : Playing). IsFrontQuiet (told_of x.desk) (front_of x.desk)) (sym view) quiet in
    subst Came_ view
    (answers.1, λ start labels played. played_event start (record { desk = d; reading = r; bad = bad }) new labels label r'.line event played quiet_ (event_left r r' event answers.0) done same)

-- the script is at its end
pub came_over : (d : Desk) (r r' : Reading) (bad : Option ℕ) (now : Playing) → record { desk = d; reading = r; bad = bad } ≡ now → (next : Next) → next ≡ Next.End → Answers next r r' → IsFrontQuiet (told_of now.desk) (front_of now.desk)
    → (start : Playing) (labels : List Label) → Played start labels now → Ended start labels (record { desk = d; reading = r'; bad = None })
came_over d r r' bad now view next is h quiet start labels played =
    let answers : Answers Next.End r r' = answers_at r r' next Next.End is h in
    let old : Playing = record { desk = d; reading = r; bad = bad } in
    ended_over start old (record { desk = d; reading = r'; bad = None }) labels (subst (λ (x : Playing). Played start labels x) (sym view) played)
    (subst (λ (x : Playing). IsFrontQuiet (told_of x.desk) (front_of x.desk)) (sym view) quiet) (nothing_left r r' answers.0 ∙ over_left r' answers.2) refl refl

-- a line is bad
pub came_bad : (d : Desk) (r r' : Reading) (bad : Option ℕ) (now : Playing) → record { desk = d; reading = r; bad = bad } ≡ now → (next : Next) (line : ℕ) → next ≡ Next.Bad line → Answers next r r' → IsFrontQuiet (told_of now.desk) (front_of now.desk)
    → (start : Playing) (labels : List Label) → Played start labels now → Ended start labels (record { desk = d; reading = r'; bad = Some line })
came_bad d r r' bad now view next line is h quiet start labels played =
    let answers : Answers (Next.Bad line) r r' = answers_at r r' next (Next.Bad line) is h in
    let old : Playing = record { desk = d; reading = r; bad = bad } in
    ended_bad start old (record { desk = d; reading = r'; bad = Some line }) labels line (subst (λ (x : Playing). Played start labels x) (sym view) played)
    (subst (λ (x : Playing). IsFrontQuiet (told_of x.desk) (front_of x.desk)) (sym view) quiet) (nothing_left r r' answers.0 ∙ stuck_left r' answers.4 ∙ ap stops (sym answers.3)) refl refl

-- What the calls promise --------------------------------------------------------------------

pub ok_at : {A E : Type 0} (P : A → Type 0) (r : Result A E) (x : A) → r ≡ Ok x → P x → IfOk r P
ok_at P r x is h = subst (λ z. IfOk z P) (sym is) h
