-- Reading and running, one event after another.
use Rattle.std.proofs.Common.{◌≡◌, ℕ, ◌+◌, ◌≤◌, ◌<◌, Bool, List, [], ◌∷◌, ◌++◌, Option, length, refl, sym, ◌∙◌, ap, subst, append_assoc, append-nil, arith, length-append}
use Rattle.pnp_io.specs.Outside.{Appends, AppendsFront}
use Rattle.pnp_labels.specs.Texts.{Text}
use Rattle.pnp_labels.specs.declared.event.Event.{Event}
use Rattle.pnp_labels.specs.declared.label.Label.{Label}
use Rattle.pnp_model.specs.Records.{Settings}
use Rattle.script_reader.specs.Reading.{Reading, Moves}
use Rattle.script_reader.specs.Script.{Trace, gives, trace, MayFollow}
use Rattle.notify_front.specs.Desks.{Desk, front_of, told_of}
use Rattle.notify_front.specs.Fronts.{Front}
use Rattle.pnp_cli.specs.Outputs.{Follows, Plays, text_of}
use Rattle.pnp_cli.specs.Turns.{Held, Answered, Awaits, FollowsFront, Leads, Goes, Stands, Taken, TakenFront}
use Rattle.pnp_cli.specs.declared.tally.Tally.{Tally}
use Rattle.pnp_cli.specs.declared.turn.Ending.{Ending}
use Rattle.pnp_cli.proofs.Sameness.{SameEnd, follows_one}
use Rattle.pnp_cli.proofs.Settling.{awaits_next, labels_nil}
use Rattle.pnp_cli.proofs.Telling.{held_none, held_both, held_written, lines_front, lines_held, lines_last}

-- How a run leads on ---------------------------------------------------------------------

pub leads_none : (told : Settings) (f : Front) (t : Trace) → Leads told f t [] f t
leads_none told f t = record { on = λ more last h. h; back = λ all last h. (all, refl, h); bad = refl; answer = refl }

pub leads_both : (told : Settings) (f f' f'' : Front) (t t' t'' : Trace) (xs ys : List Label) → Leads told f t xs f' t' → Leads told f' t' ys f'' t'' → Leads told f t (xs ++ ys) f'' t''
leads_both told f f' f'' t t' t'' xs ys h g =
    record {
      on = λ more last plays. subst (λ (ls : List Label). Plays told f t ls last) (sym (append_assoc xs ys more)) (h.on (ys ++ more) last (g.on more last plays));
      back = λ all last plays.
          let a = h.back all last plays in
          let b = g.back a.0 last a.2 in
          (b.0, a.1 ∙ ap (λ (z : List Label). xs ++ z) b.1 ∙ sym (append_assoc xs ys b.0), b.2);
      bad = h.bad ∙ g.bad;
      answer = h.answer ∙ g.answer;
    }

event_back : (told : Settings) (f new : Front) (number : ℕ) (event : Event) (rest : Trace) (labels : List Label) → Follows told f event labels new
    → (all : List Label) (last : Front) → Plays told f (gives number event rest) all last → (more : List Label) × (all ≡ labels ++ more) × Plays told new rest more last
event_back told f new number event rest labels follows all last (here, mid, more, follows', plays, is) =
    let same : SameEnd here labels mid new = follows_one told f mid new event here labels follows' follows in
    (more, is ∙ ap (λ (ls : List Label). ls ++ more) same.labels, subst (λ (x : Front). Plays told x rest more last) same.front plays)

pub leads_event : (told : Settings) (f new : Front) (number : ℕ) (event : Event) (rest : Trace) (labels : List Label) → Follows told f event labels new → Leads told f (gives number event rest) labels new rest
leads_event told f new number event rest labels follows =
    record {
      on = λ more last plays. (labels, new, more, follows, plays, refl);
      back = event_back told f new number event rest labels follows;
      bad = refl;
      answer = refl;
    }

-- How reading and running go on ------------------------------------------------------------

pub goes_none : (finished : Bool) (d : Desk) (passed : ℕ) (bytes : List ℕ) → Awaits d → Goes finished d passed bytes [] d passed bytes
goes_none finished d passed bytes awaits = record { leads = λ later more may. leads_none (told_of d) (front_of d) (trace later passed (bytes ++ more)); same = refl; awaits = awaits }

pub goes_both : (finished : Bool) (d d' d'' : Desk) (p p' p'' : ℕ) (b b' b'' : List ℕ) (xs ys : List Label)
    → Goes finished d p b xs d' p' b' → Goes finished d' p' b' ys d'' p'' b'' → Goes finished d p b (xs ++ ys) d'' p'' b''
goes_both finished d d' d'' p p' p'' b b' b'' xs ys h g =
    record {
      leads = λ later more may.
          leads_both (told_of d) (front_of d) (front_of d') (front_of d'') (trace later p (b ++ more)) (trace later p' (b' ++ more)) (trace later p'' (b'' ++ more)) xs ys
          (h.leads later more may)
          (subst (λ (x : Settings). Leads x (front_of d') (trace later p' (b' ++ more)) ys (front_of d'') (trace later p'' (b'' ++ more))) h.same (g.leads later more may));
      same = g.same ∙ h.same;
      awaits = g.awaits;
    }

-- what a reader passes over
event_next : (old new : Reading) (number : ℕ) (event : Event) (later : Bool) (more : List ℕ) → Moves old new (record { line = number; event = event } ∷ []) → MayFollow old.finished [] later more
    → trace later old.passed (old.rest ++ more) ≡ gives number event (trace later new.passed (new.rest ++ more))
event_next old new number event later more moves may =
    ap (λ (r : List ℕ). trace later old.passed (r ++ more)) moves.whole ∙ ap (trace later old.passed) (append_assoc moves.front new.rest more)
    ∙ moves.same later (new.rest ++ more) (λ shut. ((may shut).0, ap (λ (x : List ℕ). new.rest ++ x) (may shut).1 ∙ append-nil new.rest))

nothing_next : (old new : Reading) (later : Bool) (more : List ℕ) → Moves old new [] → MayFollow old.finished [] later more
    → trace later old.passed (old.rest ++ more) ≡ trace later new.passed (new.rest ++ more)
nothing_next old new later more moves may =
    ap (λ (r : List ℕ). trace later old.passed (r ++ more)) moves.whole ∙ ap (trace later old.passed) (append_assoc moves.front new.rest more)
    ∙ moves.same later (new.rest ++ more) (λ shut. ((may shut).0, ap (λ (x : List ℕ). new.rest ++ x) (may shut).1 ∙ append-nil new.rest))

-- the event of the next line, as it stands
pub event_here : (old new : Reading) (number : ℕ) (event : Event) → Moves old new (record { line = number; event = event } ∷ [])
    → trace old.finished old.passed old.rest ≡ gives number event (trace old.finished new.passed new.rest)
event_here old new number event moves =
    ap (λ (r : List ℕ). trace old.finished old.passed r) moves.whole ∙ moves.same old.finished new.rest (λ shut. (shut, refl))

pub goes_event : (d d' : Desk) (old new : Reading) (number : ℕ) (event : Event) (t t' : Option Text) (p p' : Text) (c c' : Tally) → Moves old new (record { line = number; event = event } ∷ [])
    → (a : Answered d event t p c d' t' p' c') → Goes old.finished d old.passed old.rest a.labels d' new.passed new.rest
goes_event d d' old new number event t t' p p' c c' moves a =
    record {
      leads = λ later more may.
          subst (λ (x : Trace). Leads (told_of d) (front_of d) x a.labels (front_of d') (trace later new.passed (new.rest ++ more))) (sym (event_next old new number event later more moves may))
          (leads_event (told_of d) (front_of d) (front_of d') number event (trace later new.passed (new.rest ++ more)) a.labels a.follows);
      same = a.same;
      awaits = awaits_next d d' event t t' p p' c c' a;
    }

goes_nothing : (d : Desk) (old new : Reading) → Moves old new [] → Awaits d → Goes old.finished d old.passed old.rest [] d new.passed new.rest
goes_nothing d old new moves awaits =
    record {
      leads = λ later more may.
          subst (λ (x : Trace). Leads (told_of d) (front_of d) x [] (front_of d) (trace later new.passed (new.rest ++ more))) (sym (nothing_next old new later more moves may))
          (leads_none (told_of d) (front_of d) (trace later new.passed (new.rest ++ more)));
      same = refl;
      awaits = awaits;
    }

-- Event after event ------------------------------------------------------------------------

-- some of the events of what was fed happened
pub record Taking (d : Desk) (r : Reading) (t : Option Text) (p : Text) (c : Tally) (d' : Desk) (r' : Reading) (t' : Option Text) (p' : Text) (c' : Tally) : Type 0 where
  pub labels : List Label
  pub goes : Goes r.finished d r.passed r.rest labels d' r'.passed r'.rest
  pub held : Held t p c labels t' p' c'
  pub finished : r'.finished ≡ r.finished
  pub fed : r'.fed ≡ r.fed
  pub room : d'.manager.events + length r'.rest ≤ d.manager.events + length r.rest

pub taking_none : (d : Desk) (r : Reading) (t : Option Text) (p : Text) (c : Tally) → Awaits d → Taking d r t p c d r t p c
taking_none d r t p c awaits = record { labels = []; goes = goes_none r.finished d r.passed r.rest awaits; held = held_none t p c; finished = refl; fed = refl; room = omega arith }

pub taking_more : (d d' d'' : Desk) (r r' r'' : Reading) (t t' t'' : Option Text) (p p' p'' : Text) (c c' c'' : Tally) (number : ℕ) (event : Event)
    → Taking d r t p c d' r' t' p' c' → Moves r' r'' (record { line = number; event = event } ∷ []) → length r''.rest < length r'.rest → Answered d' event t' p' c' d'' t'' p'' c'' → Taking d r t p c d'' r'' t'' p'' c''
taking_more d d' d'' r r' r'' t t' t'' p p' p'' c c' c'' number event h moves shorter a =
    let step : Goes r.finished d' r'.passed r'.rest a.labels d'' r''.passed r''.rest =
    subst (λ (f : Bool). Goes f d' r'.passed r'.rest a.labels d'' r''.passed r''.rest) h.finished (goes_event d' d'' r' r'' number event t' t'' p' p'' c' c'' moves a) in
    record {
      labels = h.labels ++ a.labels;
      goes = goes_both r.finished d d' d'' r.passed r'.passed r''.passed r.rest r'.rest r''.rest h.labels a.labels h.goes step;
      held = held_both t t' t'' p p' p'' c c' c'' h.labels a.labels h.held a.held;
      finished = moves.finished ∙ h.finished;
      fed = moves.fed ∙ h.fed;
      room = omega (arith, h.room, shorter, a.events);
    }

pub taken_by : (d d' : Desk) (r r' r'' : Reading) (t t' : Option Text) (p p' : Text) (c c' : Tally) (ending : Ending) → Taking d r t p c d' r' t' p' c' → Moves r' r'' [] → Stands ending r'' → Taken d r t p c ending d' r'' t' p' c'
taken_by d d' r r' r'' t t' p p' c c' ending h moves stands =
    let step : Goes r.finished d' r'.passed r'.rest [] d' r''.passed r''.rest =
    subst (λ (f : Bool). Goes f d' r'.passed r'.rest [] d' r''.passed r''.rest) h.finished (goes_nothing d' r' r'' moves h.goes.awaits) in
    record {
      labels = h.labels;
      goes = subst (λ (ls : List Label). Goes r.finished d r.passed r.rest ls d' r''.passed r''.rest) (labels_nil h.labels)
          (goes_both r.finished d d' d' r.passed r'.passed r''.passed r.rest r'.rest r''.rest h.labels [] h.goes step);
      held = h.held;
      finished = moves.finished ∙ h.finished;
      fed = moves.fed ∙ h.fed;
      room = omega (arith, h.room, ap length moves.whole, length-append moves.front r''.rest);
      stands = stands;
    }

-- and what waits was written
pub taken_written : (d d' : Desk) (r r' : Reading) (t t' t'' : Option Text) (p p' : Text) (c c' : Tally) (ending : Ending) → Taken d r t p c ending d' r' t' p' c' → Appends t' t'' p' → Taken d r t p c ending d' r' t'' [] c'
taken_written d d' r r' t t' t'' p p' c c' ending h took =
    record {
      labels = h.labels;
      goes = h.goes;
      held = held_written t t' t'' p p' c c' h.labels h.held took;
      finished = h.finished;
      fed = h.fed;
      room = h.room;
      stands = h.stands;
    }

-- a front, where no event was begun
pub taking_front : (d d' : Desk) (r r' : Reading) (t t' : Option Text) (p p' : Text) (c c' : Tally) → Taking d r t p c d' r' t' p' c' → TakenFront d r p t t'
taking_front d d' r r' t t' p p' c c' h = λ later more labels last may plays.
    let b = (h.goes.leads later more may).back labels last plays in
    lines_held t t' p p' c c' labels h.labels b.0 b.1 h.held

-- and where what waits is written
pub taken_front : (d d' : Desk) (r r' : Reading) (t t' t'' : Option Text) (p p' : Text) (c c' : Tally) (ending : Ending) → Taken d r t p c ending d' r' t' p' c' → AppendsFront t' t'' p' → TakenFront d r p t t''
taken_front d d' r r' t t' t'' p p' c c' ending h front = λ later more labels last may plays.
    let b = (h.goes.leads later more may).back labels last plays in
    lines_last t t' t'' p p' c c' labels h.labels b.0 b.1 h.held front

front_by : (told : Settings) (f : Front) (number : ℕ) (event : Event) (t : Trace) (rest : Trace) (all done : List Label) (last : Front) (t0 t1 t2 : Option Text) (p p' : Text) (c c' : Tally)
    → t ≡ gives number event rest → Held t0 p c done t1 p' c'
    → ((labels : List Label) (new : Front) → Follows told f event labels new → AppendsFront t1 t2 (p' ++ text_of labels))
    → (more : List Label) × (all ≡ done ++ more) × Plays told f t more last → AppendsFront t0 t2 (p ++ text_of all)
front_by told f number event t rest all done last t0 t1 t2 p p' c c' is held front (labels, whole, plays) =
    here (subst (λ (x : Trace). Plays told f x labels last) is plays)
  where
    here : Plays told f (gives number event rest) labels last → AppendsFront t0 t2 (p ++ text_of all)
    here (first, new, more, follows, later, parts) = lines_front t0 t1 t2 p p' c c' all done first more (whole ∙ ap (λ (x : List Label). done ++ x) parts) held (front first new follows)

-- and where one was
pub taking_front_more : (d d' : Desk) (r r' r'' : Reading) (t t' t'' : Option Text) (p p' : Text) (c c' : Tally) (number : ℕ) (event : Event)
    → Taking d r t p c d' r' t' p' c' → Moves r' r'' (record { line = number; event = event } ∷ []) → FollowsFront d' event p' t' t'' → TakenFront d r p t t''
taking_front_more d d' r r' r'' t t' t'' p p' c c' number event h moves front = λ later more labels last may plays.
    let on : MayFollow r'.finished [] later more = λ shut. may (sym h.finished ∙ shut) in
    let front_ : (ls : List Label) (new : Front) → Follows (told_of d) (front_of d') event ls new → AppendsFront t' t'' (p' ++ text_of ls) =
    λ ls new follows. front ls new (subst (λ (x : Settings). Follows x (front_of d') event ls new) (sym h.goes.same) follows) in
    front_by (told_of d) (front_of d') number event (trace later r'.passed (r'.rest ++ more)) (trace later r''.passed (r''.rest ++ more)) labels h.labels last t t' t'' p p' c c'
    (event_next r' r'' number event later more moves on) h.held front_ ((h.goes.leads later more may).back labels last plays)
