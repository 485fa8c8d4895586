-- In each state of a run the walk of a start is of the request of its phase.
use Rattle.std.proofs.Common.{ℕ, List, [], ◌∷◌, Some, refl, ap, ◌∙◌}
use Rattle.pnp_labels.specs.declared.words.Answer.{Answer}
use Rattle.pnp_model.specs.Events.{answer_of, completed_phase}
use Rattle.pnp_model.specs.Laws.{Reaches}
use Rattle.pnp_model.specs.Records.{Driver, Phase, Settings, State}
use Rattle.pnp_model.specs.Records.Phase.{Starting, Removing}
use Rattle.pnp_model.specs.Runs.{Entry, Goes}
use Rattle.pnp_model.specs.Starts.{adding}
use Rattle.pnp_laws.specs.Effects.{Enters, PhaseOwn, PhaseStep}
use Rattle.pnp_laws.specs.Words.{EachPhase}
use Rattle.pnp_laws.proofs.EffectsOf.{effect_goes}
use Rattle.pnp_laws.proofs.FitsBy.{after_minor}
use Rattle.pnp_laws.proofs.Phases.{phases_after}
use Rattle.pnp_laws.proofs.Reaching.{kept}

abbrev pub HasOwn : State → Type 0
HasOwn s = EachPhase PhaseOwn s.activities

adding_own : (drivers : List ℕ) → PhaseOwn (adding drivers)
adding_own [] = refl
adding_own (d ∷ ds) = refl

entered_own : (s : State) (k : ℕ) (t : State) (phase : Phase) → Enters s k t phase → PhaseOwn phase
entered_own s k t phase (Enters.installs drivers chosen drops clears) = adding_own drivers
entered_own s k t phase (Enters.restarts r plan runs course plain is target found nodes) = refl
entered_own s k t phase (Enters.undoes r runs course plain target) = refl

completed_own : (answer : Answer) (phase : Phase) → PhaseOwn phase → PhaseOwn (completed_phase answer phase)
completed_own answer (Starting w) own = ap Some (after_minor w answer) ∙ own
completed_own answer (Removing w) own = ap Some (after_minor w answer) ∙ own
completed_own answer _ own = refl

stepped_own : (s : State) (k : ℕ) (t : State) (old new : Phase) → PhaseOwn old → PhaseStep s k t old new → PhaseOwn new
stepped_own s k t old new own (PhaseStep.added d ds acts) = adding_own ds
stepped_own s k t old new own (PhaseStep.fits phase node plan acts search found own_node nodes) = refl
stepped_own s k t old new own (PhaseStep.asked w v acts same nodes) = ap Some same ∙ own
stepped_own s k t old new own (PhaseStep.fails phase problem acts other) = refl
stepped_own s k t old new own (PhaseStep.undoes phase w acts keeps) = keeps own
stepped_own s k t old new own (PhaseStep.answered a ok at nodes) = completed_own (answer_of ok) a.phase own

own_goes : (settings : Settings) (old : State) (entry : Entry) (new : State) → HasOwn old → Goes settings old entry new → HasOwn new
own_goes settings old entry new own goes =
    phases_after PhaseOwn old new (λ k phase why. entered_own old k new phase why) (λ k before after own step. stepped_own old k new before after own step) (effect_goes settings old entry new goes).activities own

pub reaches_own : (settings : Settings) (rack : List Driver) (entries : List Entry) (s : State) → Reaches settings rack entries s → HasOwn s
reaches_own settings rack entries s run = kept HasOwn settings rack (λ old entry new before own goes. own_goes settings old entry new own goes) tt s (entries, run)
