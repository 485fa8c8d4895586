-- Live steps one after another, until none is next; and so behind an event.
use Rattle.std.proofs.Common.{ℕ, ◌≡◌, Bool, true, false, [], ◌∷◌, ◌++◌, Option, ap, ◌∙◌, subst}
use Rattle.std.specs.Prelude.{Result, Ok, Err}
use Rattle.live_io.specs.Turns.{Past}
use Rattle.pnp_labels.specs.Texts.{Text, label_line}
use Rattle.pnp_labels.specs.declared.event.Event.{Event}
use Rattle.pnp_labels.specs.declared.label.Label.{Label}
use Rattle.pnp_model.specs.Events.{happens}
use Rattle.pnp_model.specs.Records.{Settings, State}
use Rattle.script_reader.specs.Script.{Trace}
use Rattle.script_reader.specs.declared.line.Line.{Line}
use Rattle.live_model.specs.Fronts.{IsFront}
use Rattle.live_model.specs.Lives.{Lives}
use Rattle.live_model.specs.Moves.{HasHappened}
use Rattle.live_model.specs.Outputs.{Acts, Leads, Place, Stand, Told, says}
use Rattle.live_model.specs.Trails.{Trail, follow}
use Rattle.live_run.specs.Runs.{HasFollowed, HasSettled, HasStepped, Scene, StopsAt, behind_event, in_scene, scene}
use Rattle.live_run.specs.Talks.{told_by}
use Rattle.live_run.specs.declared.stop.DriveError.{DriveError}
use Rattle.live_run.specs.declared.stop.Stop.{Stop}
use Rattle.live_run.proofs.Leading.{leads_on, stops_on}
use Rattle.live_run.proofs.Talking.{unsaid, unsaid_more}

-- Until no step is next ------------------------------------------------------------------------

-- live steps lead from one scene to another, wherever the script is
abbrev pub Steps : Lives → Settings → Scene → Scene → Type 0
Steps lives settings old new = (s : Stand) → Leads lives settings (Acts (in_scene old s)) (Acts (in_scene new s))

pub no_steps : (lives : Lives) (settings : Settings) (here : Scene) → Steps lives settings here here
no_steps lives settings here = λ s. Leads.here (Acts (in_scene here s))

pub one_more : (b : Bool) (lives : Lives) (settings : Settings) (first old new : Scene) (past : Option Past) (taken : Option Text)
    → b ≡ true → Steps lives settings first old → HasStepped (Ok b) lives settings old new past taken → Steps lives settings first new
one_more true lives settings first old new past taken is steps has = λ s. leads_on lives settings (Acts (in_scene first s)) (Acts (in_scene old s)) (Acts (in_scene new s)) (steps s) (has.1 s)
one_more false lives settings first old new past taken is steps has = absurd (cc)

pub steps_stop : (stop : Stop) (lives : Lives) (settings : Settings) (first old new : Scene) (past : Option Past) (taken : Option Text)
    → Steps lives settings first old → HasStepped (Err stop) lives settings old new past taken → HasSettled (Err stop) lives settings first new past taken
steps_stop stop lives settings first old new past taken steps has =
    λ s. stops_on stop lives settings (Acts (in_scene first s)) (Acts (in_scene old s)) new.told past taken (steps s) (has s)

-- so many steps were made that the run is given up
pub too_many : (e : DriveError) (lives : Lives) (settings : Settings) (first : Scene) (state : State) (trail : Trail) (asks : ℕ) (said : Text) (past : Option Past) (taken answers : Option Text)
    → Steps lives settings first (scene state trail (told_by asks said past taken answers))
    → HasSettled (Err (Stop.Fault e)) lives settings first (scene state trail (told_by asks said past taken answers)) past taken
too_many e lives settings first state trail asks said past taken answers steps =
    λ s. record { there = Acts (in_scene (scene state trail (told_by asks said past taken answers)) s); leads = steps s; front = unsaid asks said past taken answers }

-- An event happens -----------------------------------------------------------------------------

-- what was said of it is a front
pub event_front : (e : DriveError) (lives : Lives) (settings : Settings) (old new : Scene) (event : Event) (past : Option Past) (taken : Option Text)
    → IsFront (says (label_line (happens old.state event).label ++ 10 ∷ []) old.told) past taken → HasFollowed (Err (Stop.Fault e)) lives settings old event new past taken
event_front e lives settings old new event past taken part =
    λ s line rest. record { there = behind_event lives old event line rest s; leads = Leads.here (behind_event lives old event line rest s); front = part }

-- nothing was said of it
pub event_unsaid : (e : DriveError) (lives : Lives) (settings : Settings) (state : State) (trail : Trail) (new : Scene) (event : Event) (asks : ℕ) (said : Text) (past : Option Past) (taken answers : Option Text)
    → HasFollowed (Err (Stop.Fault e)) lives settings (scene state trail (told_by asks said past taken answers)) event new past taken
event_unsaid e lives settings state trail new event asks said past taken answers =
    event_front e lives settings (scene state trail (told_by asks said past taken answers)) new event past taken
    (unsaid_more (label_line (happens state event).label ++ 10 ∷ []) asks said past taken answers)

-- a front of its line was said
pub event_part : (e : DriveError) (lives : Lives) (settings : Settings) (old new : Scene) (event : Event) (label : Label) (state : State) (past : Option Past) (taken : Option Text)
    → HasHappened (happens old.state event) label state → IsFront (says (label_line label ++ 10 ∷ []) old.told) past taken → HasFollowed (Err (Stop.Fault e)) lives settings old event new past taken
event_part e lives settings old new event label state past taken has part =
    event_front e lives settings old new event past taken (subst (λ (l : Label). IsFront (says (label_line l ++ 10 ∷ []) old.told) past taken) has.0 part)

-- all of it counts as said
pub event_said : (e : DriveError) (lives : Lives) (settings : Settings) (old new : Scene) (event : Event) (label : Label) (state : State) (asks : ℕ) (said : Text) (past : Option Past) (taken answers : Option Text)
    → HasHappened (happens old.state event) label state → told_by asks said past taken answers ≡ says (label_line label ++ 10 ∷ []) old.told → HasFollowed (Err (Stop.Fault e)) lives settings old event new past taken
event_said e lives settings old new event label state asks said past taken answers has told =
    event_part e lives settings old new event label state past taken has (subst (λ (t : Told). IsFront t past taken) told (unsaid asks said past taken answers))

behind_is : (lives : Lives) (old : Scene) (event : Event) (label : Label) (state : State) (trail : Trail) (t : Told) (line : Line) (rest : Trace) (s : Stand)
    → HasHappened (happens old.state event) label state → trail ≡ follow lives label old.trail → t ≡ says (label_line label ++ 10 ∷ []) old.told
    → Acts (in_scene (scene state trail t) (record s { happened = s.happened ++ line ∷ []; script = rest })) ≡ behind_event lives old event line rest s
behind_is lives old event label state trail t line rest s has trail_is told_is =
    let place : Scene → Place = λ here. Acts (in_scene here (record s { happened = s.happened ++ line ∷ []; script = rest })) in
    let step = happens old.state event in
    ap (λ (n : State). place (scene n trail t)) has.1
    ∙ ap (λ (r : Trail). place (scene step.state r t)) (trail_is ∙ ap (λ (l : Label). follow lives l old.trail) has.0)
    ∙ ap (λ (t : Told). place (scene step.state (follow lives step.label old.trail) t)) (told_is ∙ ap (λ (l : Label). says (label_line l ++ 10 ∷ []) old.told) has.0)

-- and then live steps were made
pub event_settled : (r : Result (Unit {0}) Stop) (lives : Lives) (settings : Settings) (old new : Scene) (event : Event) (label : Label) (state : State) (trail : Trail) (t : Told) (past : Option Past) (taken : Option Text)
    → HasHappened (happens old.state event) label state → trail ≡ follow lives label old.trail → t ≡ says (label_line label ++ 10 ∷ []) old.told
    → HasSettled r lives settings (scene state trail t) new past taken → HasFollowed r lives settings old event new past taken
event_settled (Ok done) lives settings old new event label state trail t past taken has trail_is told_is settled = (
  settled.0,
  λ s line rest.
      subst (λ (p : Place). Leads lives settings p (Acts (in_scene new (record s { happened = s.happened ++ line ∷ []; script = rest }))))
      (behind_is lives old event label state trail t line rest s has trail_is told_is)
      (settled.1 (record s { happened = s.happened ++ line ∷ []; script = rest })),
)
event_settled (Err stop) lives settings old new event label state trail t past taken has trail_is told_is settled =
    λ s line rest.
    subst (λ (p : Place). StopsAt stop lives settings p new.told past taken)
    (behind_is lives old event label state trail t line rest s has trail_is told_is)
    (settled (record s { happened = s.happened ++ line ∷ []; script = rest }))
