-- Where a step prints the begin of an operation, that operation began.
use Rattle.std.proofs.Common.{◌≡◌, inl, inr, List, Option, Some, None, ap, sym, ◌∙◌, subst}
use Rattle.pnp_model.specs.Records.{Node, Driver, State, Step, Settings, Course, Job, Stage, course_of}
use Rattle.pnp_model.specs.Cores.{node_at}
use Rattle.pnp_model.specs.Machine.{Steps}
use Rattle.pnp_model.specs.Tasks.{begin}
use Rattle.pnp_model.specs.Runs.{Entry, Goes, printed}
use Rattle.pnp_model.specs.Runs.Entry.{Happens, Did, Declines}
use Rattle.pnp_labels.specs.Texts.{Text}
use Rattle.pnp_labels.specs.declared.label.Label.{Label}
use Rattle.pnp_labels.specs.declared.label.OpKind.{OpKind}
use Rattle.pnp_laws.specs.Words.{IsBeside, IsWord, DuesFine}
use Rattle.pnp_laws.specs.Effects.{begun}
use Rattle.pnp_laws.specs.Kept.{IsGood, OperationFits, RebalanceAsks, kind_by}
use Rattle.pnp_laws.proofs.FitsBy.{fits_by}
use Rattle.pnp_laws.specs.Reached.{IsReached}
use Rattle.pnp_laws.proofs.EffectsOf.{effect_goes}
use Rattle.pnp_laws.proofs.Reaching.{kept}
use Rattle.pnp_laws.proofs.EventChanges.{beside_word, happens_outside}
use Rattle.pnp_laws.proofs.Reached.{reached_is_good}
use Rattle.pnp_laws.proofs.Courses.{Fine, Way, dues_effect, way_goes}
use Rattle.pnp_model.specs.Walks.{after}

-- in no reached state an activity owes problem 12
reached_dues : (settings : Settings) (rack : List Driver) (s : State) → IsReached settings rack s → DuesFine s.activities
reached_dues settings rack s reached =
    kept (λ (x : State). DuesFine x.activities) settings rack (λ old entry new before dues goes. dues_effect old new (effect_goes settings old entry new goes).activities dues) tt s reached

stuck_plain : (s : State) → IsGood s → (r : Job) → s.operation ≡ Some r → course_of r.kind ≡ Course.Rebalancing → r.stage ≡ Stage.Stuck → r.kind ≡ OpKind.Rebalance
stuck_plain s good r runs course is =
    let keeps = fits_by Course.Rebalancing r s.core.nodes course (subst (λ (x : Option Job). OperationFits x s.core.nodes) runs good.fits) in
    keeps.kind ∙ ap kind_by (subst (λ (x : Stage). RebalanceAsks r x) is keeps.asks)

-- nor does a change
pub reached_fine : (settings : Settings) (rack : List Driver) (s : State) → IsReached settings rack s → Fine s
reached_fine settings rack s reached = (reached_dues settings rack s reached, stuck_plain s (reached_is_good settings rack s reached))

pub record Begun (s : State) (kind : OpKind) (path : Text) (t : State) : Type 0 where
  pub node : Node
  pub at : node_at node.serial s.core.nodes ≡ Some node
  pub named : node.path ≡ path
  pub idle : s.operation ≡ None
  pub is : t ≡ (begin s kind node (begun s kind node)).state

begun_way : (s t : State) (kind : OpKind) (path : Text) → Way s (record { label = Label.Begin kind path; state = t }) → Begun s kind path t
begun_way s t kind path (Way.idles none after beside) = absurd beside
begun_way s t kind path (Way.begins own node none at is) =
    let label : Label.Begin kind path ≡ Label.Begin own node.path = ap (λ (x : Step). x.label) is in
    let kinds : own ≡ kind = cc in
    let state : t ≡ (begin s own node (begun s own node)).state = ap (λ (x : Step). x.state) is in
    record { node = node; at = at; named = cc; idle = none; is = subst (λ (x : OpKind). t ≡ (begin s x node (begun s x node)).state) kinds state }
begun_way s t kind path (Way.goes o p runs after work (inl beside)) = absurd beside
begun_way s t kind path (Way.goes o p runs after work (inr (kinds, label))) = absurd (cc)
begun_way s t kind path (Way.ends o result runs after label by) = absurd (cc)

pub begins_right : (settings : Settings) (s t : State) (kind : OpKind) (path : Text) → Fine s → Steps settings s (Label.Begin kind path) t → Begun s kind path t
begins_right settings s t kind path fine h = begun_way s t kind path (way_goes settings s (Did (Label.Begin kind path)) t fine h)

-- what is no word of an event was printed by a step
pub step_did : (settings : Settings) (s : State) (entry : Entry) (t : State) → Goes settings s entry t → (IsBeside (printed entry) → ⊥) → Goes settings s (Did (printed entry)) t
step_did settings s (Happens event label) t goes other = absurd (other (beside_word label (subst (λ (x : Step). IsWord x.label) goes.1 (happens_outside s event).word)))
step_did settings s (Did label) t goes other = goes
step_did settings s (Declines label) t goes other = absurd (other (subst (λ (x : Label). IsBeside x) (sym goes.says) tt))
