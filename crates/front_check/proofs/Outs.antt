-- The output of the front for every script is a run whatever its drivers answer.
use Rattle.std.proofs.Common.{ℕ, ◌≡◌, Bool, true, false, inl, inr, List, [], ◌∷◌, ◌++◌, map, Option, Some, None, refl, sym, ap, ◌∙◌, subst}
use Rattle.std.specs.List.{list_any}
use Rattle.std.specs.Prelude.{find}
use Rattle.pnp_labels.specs.Texts.{Text, label_line}
use Rattle.pnp_labels.specs.declared.event.Event.{Event}
use Rattle.pnp_labels.specs.declared.event.Rule.{Rule}
use Rattle.pnp_labels.specs.declared.label.Label.{Label}
use Rattle.pnp_labels.specs.declared.words.DriverKind.{DriverKind}
use Rattle.pnp_labels.specs.declared.words.DriverKind.TheVariants.{Scripted, Steady, Stubborn}
use Rattle.pnp_model.specs.Endings.{ending, joined}
use Rattle.pnp_model.specs.Events.{happens}
use Rattle.pnp_model.specs.Records.{Driver, Job, Node, Settings, State, Step}
use Rattle.pnp_model.specs.Runs.{opening}
use Rattle.pnp_model.specs.States.{node_of}
use Rattle.pnp_model.specs.Tests.{is_started}
use Rattle.script_reader.specs.Script.{Trace, gives, waits, ends, stops}
use Rattle.free_model.specs.Checks.{bad_line, end_bytes}
use Rattle.free_model.specs.Frees.{new_driver, with_rack}
use Rattle.free_model.specs.Outputs.{end_text, text_of}
use Rattle.free_model.specs.Shapes.{AreOf, Shape, faces, shape, shapes}
use Rattle.free_model.proofs.Outs.{ending_same, error_too, joined_on}
use Rattle.free_model.proofs.Racks.{faces_of}
use Rattle.free_model.proofs.TwinEvents.{TwinEvent, twin_happens}
use Rattle.notify_front.specs.Fronts as fr
use Rattle.notify_front.specs.Fronts.{Answered, Front, FrontStep, IsFrontQuiet, Registration, front_happens, front_printed, opening_front}
use Rattle.notify_front.proofs.Runs as runs
use Rattle.free_front.specs.FreeFronts.{FreeFrontSteps, with_drivers}
use Rattle.free_front.proofs.Freeing.{step_frees}
use Rattle.free_front.proofs.Nexts.{front_quiet_same}
use Rattle.front_check.specs.FrontChecks.{Place, Runs, Ends, Follow, IsYes, AllowsFirst}
use Rattle.front_check.specs.Laws.{EachOutputIsARunLaw}
use Rattle.front_check.specs.Outputs.{FrontPrints, Settles}
use Rattle.front_check.proofs.Endings.{Due, follow_due}

-- one front with racks of the same shapes
record Related (f g : Front) : Type 0 where
  rack : List Driver
  is : f ≡ with_drivers rack g
  shape : shapes rack ≡ shapes g.state.core.rack

-- Events ---------------------------------------------------------------------------------------

record TwinFront (x y : FrontStep) : Type 0 where
  label : front_printed y.entry ≡ front_printed x.entry
  front : Related y.front x.front

-- what a client's event does, over other drivers
abbrev over : List Driver → Answered → Answered
over r a = record { label = a.label; front = with_drivers r a.front }

module _ (f : Front) (r : List Driver) where
  watch_new : (client : Text) (node : Node) (agrees b : Bool) → fr.watch_new (with_drivers r f) client node agrees b ≡ over r (fr.watch_new f client node agrees b)
  watch_new client node agrees true = refl
  watch_new client node agrees false = refl

  watch_up : (client : Text) (node : Node) (agrees b : Bool) → fr.watch_up (with_drivers r f) client node agrees b ≡ over r (fr.watch_up f client node agrees b)
  watch_up client node agrees false = refl
  watch_up client node agrees true = watch_new client node agrees (list_any (fr.is_of client node.serial) f.registrations)

  watch_idle : (client : Text) (node : Node) (agrees : Bool) (o : Option Job) → fr.watch_idle (with_drivers r f) client node agrees o ≡ over r (fr.watch_idle f client node agrees o)
  watch_idle client node agrees (Some o) = refl
  watch_idle client node agrees None = watch_up client node agrees (is_started node.state)

  watch_at : (client : Text) (agrees : Bool) (o : Option Node) → fr.watch_at (with_drivers r f) client agrees o ≡ over r (fr.watch_at f client agrees o)
  watch_at client agrees None = refl
  watch_at client agrees (Some node) = watch_idle client node agrees f.state.operation

  unwatch_old : (client : Text) (node : Node) (o : Option Registration) → fr.unwatch_old (with_drivers r f) client node o ≡ over r (fr.unwatch_old f client node o)
  unwatch_old client node None = refl
  unwatch_old client node (Some c) = refl

  unwatch_idle : (client : Text) (node : Node) (o : Option Job) → fr.unwatch_idle (with_drivers r f) client node o ≡ over r (fr.unwatch_idle f client node o)
  unwatch_idle client node (Some o) = refl
  unwatch_idle client node None = unwatch_old client node (find (fr.is_of client node.serial) f.registrations)

  unwatch_at : (client : Text) (o : Option Node) → fr.unwatch_at (with_drivers r f) client o ≡ over r (fr.unwatch_at f client o)
  unwatch_at client None = refl
  unwatch_at client (Some node) = unwatch_idle client node f.state.operation

-- a client's event leaves the drivers
by_client : (f : Front) (r : List Driver) (event : Event) (a b : Answered) → b ≡ over r a → a.front.state ≡ f.state → shapes r ≡ shapes f.state.core.rack → TwinFront (fr.watched event a) (fr.watched event b)
by_client f r event a b is beside h =
    record {
      label = ap (λ (x : Answered). x.label) is;
      front = record { rack = r; is = ap (λ (x : Answered). x.front) is; shape = h ∙ ap (λ (s : State). shapes s.core.rack) (sym beside) };
    }

by_passed : (f : Front) (r : List Driver) (event : Event) → shapes r ≡ shapes f.state.core.rack → TwinFront (fr.passed f event (happens f.state event)) (fr.passed (with_drivers r f) event (happens (with_rack r f.state) event))
by_passed f r event h =
    let twin : TwinEvent (happens f.state event) (happens (with_rack r f.state) event) = twin_happens f.state r event h in
    record {
      label = twin.label;
      front = record { rack = twin.state.rack; is = ap (λ (s : State). record f { state = s }) twin.state.is; shape = twin.state.shape };
    }

twin_event : (f : Front) (r : List Driver) (event : Event) → shapes r ≡ shapes f.state.core.rack → TwinFront (front_happens f event) (front_happens (with_drivers r f) event)
twin_event f r (Event.Watch client path agrees) h =
    let o = node_of path f.state.core.nodes in
    by_client f r (Event.Watch client path agrees) (fr.watch_at f client agrees o) _ (watch_at f r client agrees o) (runs.watch_at f client agrees o).state h
twin_event f r (Event.Unwatch client path) h =
    let o = node_of path f.state.core.nodes in
    by_client f r (Event.Unwatch client path) (fr.unwatch_at f client o) _ (unwatch_at f r client o) (runs.unwatch_at f client o).state h
twin_event f r event h = by_passed f r event h

-- Steps ----------------------------------------------------------------------------------------

quiet_too : (settings : Settings) (f g : Front) → Related f g → IsFrontQuiet settings g → IsFrontQuiet settings f
quiet_too settings f g related h = subst (IsFrontQuiet settings) (sym related.is) (front_quiet_same settings g related.rack h)

ending_too : (f g : Front) → Related f g → ending f.state ≡ ending g.state
ending_too f g related = ap (λ (x : Front). ending x.state) related.is ∙ ending_same g.state related.rack (faces_of related.rack g.state.core.rack related.shape)

follow_on : (settings : Settings) (here mid there : Place) (a b : List Text) → Follow settings here a mid → Follow settings mid b there → Follow settings here (a ++ b) there
follow_on settings here mid there [] b h g = subst (λ (x : Place). Follow settings x b there) h g
follow_on settings here mid there (line ∷ a) b (next, allows, h) g = (next, allows, follow_on settings next mid there a b h g)

record Settled (settings : Settings) (f : Front) (script : Trace) (labels : List Label) (new : Front) : Type 0 where
  free : Front
  follow : Follow settings (Runs f script) (map label_line labels) (Runs free script)
  related : Related free new
  quiet : IsFrontQuiet settings new

settle_too : (settings : Settings) (script : Trace) (f g : Front) (labels : List Label) (new : Front) → Related f g → Settles settings g labels new → Settled settings f script labels new
settle_too settings script f g [] new related (e, quiet) =
    record { free = f; follow = refl; related = subst (Related f) (sym e) related; quiet = subst (IsFrontQuiet settings) (sym e) quiet }
settle_too settings script f g (label ∷ labels) new related (mid, (entry, says, step), more) =
    let frees = step_frees settings g related.rack related.shape entry mid step in
    let next : Front = with_drivers related.rack mid in
    let rest = settle_too settings script next mid labels new (record { rack = related.rack; is = refl; shape = frees.shape }) more in
    record {
      free = rest.free;
      follow = (Runs next script, inl (entry, next, subst (λ (x : Front). FreeFrontSteps settings x entry next) (sym related.is) frees.free, ap label_line says, refl), rest.follow);
      related = rest.related;
      quiet = rest.quiet;
    }

-- Outputs ----------------------------------------------------------------------------------------

-- at the end of a script: what is due begins with an allowed line
record Starts (settings : Settings) (due : Text) : Type 0 where
  line : Text
  mid : Place
  allows : AllowsFirst due line mid
  lines : List Text
  follow : Follow settings mid lines (Ends [])
  is : due ≡ joined (line ∷ lines)

starts_by : (settings : Settings) (byte : ℕ) (due : Text) → Due settings (byte ∷ due) → Starts settings (byte ∷ due)
starts_by settings byte due h = by_lines h.lines h.follow h.is
  where
    by_lines : (lines : List Text) → Follow settings (Ends (byte ∷ due)) lines (Ends []) → byte ∷ due ≡ joined lines → Starts settings (byte ∷ due)
    by_lines [] follow is = absurd (cc)
    by_lines (line ∷ lines) (mid, allows, follow) is = record { line = line; mid = mid; allows = allows; lines = lines; follow = follow; is = is }

-- from a quiet front on
output_is_a_run : (settings : Settings) (script : Trace) (f g : Front) (out : Text) → Related f g → IsFrontQuiet settings g → FrontPrints settings g script out → IsYes settings (Runs f script) out
output_is_a_run settings (gives number event rest) f g out related quiet (labels, new, more, follows, prints, e) =
    let twin : TwinFront (front_happens g event) (front_happens (with_drivers related.rack g) event) = twin_event g related.rack event related.shape in
    let line : label_line (front_printed (front_happens f event).entry) ≡ label_line follows.first =
    ap label_line (ap (λ (x : Front). front_printed (front_happens x event).entry) related.is ∙ twin.label ∙ sym follows.happened.0)
    in
    let begun : Related (front_happens f event).front follows.begun =
    subst (λ (x : Front). Related x follows.begun) (sym (ap (λ (x : Front). (front_happens x event).front) related.is))
    (subst (Related (front_happens (with_drivers related.rack g) event).front) (sym follows.happened.1) twin.front)
    in
    let settled = settle_too settings rest (front_happens f event).front follows.begun follows.more new begun follows.settled in
    let (lines, on, is) = output_is_a_run settings rest settled.free new more settled.related settled.quiet prints in
    let first : List Text = label_line follows.first ∷ map label_line follows.more in (
      first ++ lines,
      (
        Runs (front_happens f event).front rest,
        inr (quiet_too settings f g related quiet, (sym line, refl)),
        follow_on settings (Runs (front_happens f event).front rest) (Runs settled.free rest) (Ends []) (map label_line follows.more) lines settled.follow on,
      ),
      e ∙ ap (λ (t : List Label). text_of t ++ more) follows.printed ∙ ap (λ (t : Text). joined first ++ t) is ∙ sym (joined_on first lines),
    )
output_is_a_run settings ends f g out related quiet e =
    let same = ending_too f g related in
    let begins = starts_by settings _ _ (follow_due settings (ending f.state)) in
    (begins.line ∷ begins.lines, (begins.mid, inr (quiet_too settings f g related quiet, begins.allows), begins.follow), e ∙ ap joined (sym same) ∙ begins.is)
output_is_a_run settings (stops number) f g out related quiet e =
    let same = ending_too f g related in
    let due = follow_due settings (ending f.state) in (
      bad_line number ∷ due.lines,
      (Ends (end_bytes f.state), inr (quiet_too settings f g related quiet, (refl, refl)), due.follow),
      e ∙ error_too number (end_text g.state) ∙ ap (λ (t : List Text). bad_line number ++ 10 ∷ joined t) (sym same) ∙ ap (λ (t : Text). bad_line number ++ 10 ∷ t) due.is,
    )
output_is_a_run settings waits f g out related quiet h = absurd h

-- The beginning ----------------------------------------------------------------------------------

taught_nothing : (kind : DriverKind) (d : Driver) → d.kind ≡ kind → d.name ≡ None → (kind ≡ Scripted → d.book ≡ []) → shape (new_driver kind) ≡ shape d
taught_nothing Scripted d kind name book = ap (λ (b : List Rule). shape (record { kind = Scripted; name = None; book = b })) (sym (book refl)) ∙ cc
taught_nothing Steady d kind name book = cc
taught_nothing Stubborn d kind name book = cc

begin_shapes : (kinds : List DriverKind) (rack : List Driver) → AreOf kinds rack → shapes (map new_driver kinds) ≡ shapes rack
begin_shapes [] [] h = refl
begin_shapes (kind ∷ kinds) (d ∷ rack) (is, name, book, more) =
    ap (λ (t : List Shape). shape (new_driver kind) ∷ t) (begin_shapes kinds rack more)
    ∙ ap (λ (t : Shape). t ∷ shapes rack) (taught_nothing kind d is name book)
begin_shapes [] (d ∷ rack) h = absurd h
begin_shapes (kind ∷ kinds) [] h = absurd h

pub each_output : EachOutputIsARunLaw
each_output settings kinds rack script out are prints =
    output_is_a_run settings script (opening_front (opening (map new_driver kinds))) (opening_front (opening rack)) out
    (record { rack = map new_driver kinds; is = refl; shape = begin_shapes kinds rack are }) refl prints
