-- In every run the tree stands, each operation begins well, and each step follows the diagram.
use Rattle.std.proofs.Common.{ℕ, ◌≡◌, inl, inr, true, List, [], ◌∷◌, Some, None, sym, ap, ◌∙◌, subst}
use Rattle.pnp_model.specs.Records.{Node, Driver, State, Step, Settings}
use Rattle.pnp_model.specs.Cores.{node_at}
use Rattle.pnp_model.specs.Trees.{hangs_on}
use Rattle.pnp_model.specs.Diagram.{Walked}
use Rattle.pnp_model.specs.Laws.{Reaches, DependentsFirst, FollowsDiagramLaw, DependentsFirstLaw}
use Rattle.pnp_model.specs.Runs.{Entry, Goes, Run, printed, opening, root_node}
use Rattle.pnp_model.specs.Runs.Entry.{Happens, Did, Declines}
use Rattle.pnp_labels.specs.declared.event.Event.{Event}
use Rattle.pnp_labels.specs.declared.label.Label.{Label}
use Rattle.pnp_laws.specs.Words.{IsWord}
use Rattle.pnp_laws.specs.RunsWell.{MayBegin}
use Rattle.pnp_laws.proofs.DiagramSteps.{follows_effect}
use Rattle.pnp_laws.proofs.EffectsOf.{effect_goes}
use Rattle.pnp_laws.proofs.Runs.{lawful_goes, opening_is_good, root_is}
use Rattle.pnp_laws.proofs.TreeMoves.{edge_cases}
use Rattle.pnp_laws.proofs.Standing.{Stands, Waits}
pub use Rattle.pnp_laws.proofs.Standing.{Kept}
use Rattle.pnp_laws.proofs.Sounds.{IsPlain, walked_plain, first_stays}
use Rattle.pnp_laws.proofs.EventChanges.{Outside, happens_outside}
use Rattle.pnp_laws.proofs.SoundMachine.{sound_declined, sound_step, stands_happens, begins_well}
use Rattle.pnp_laws.proofs.WaitsSteps.{waits_goes}

pub may_begin : (s : State) → Kept s → MayBegin s
may_begin s kept none = begins_well s none kept.good kept.stands

-- a state of a run goes on to such a state
stands_goes : (settings : Settings) (old : State) (entry : Entry) (new : State) → Kept old → Goes settings old entry new → Stands new
stands_goes settings old (Happens event label) new kept goes = subst (λ (t : Step). Stands t.state) goes.1 (stands_happens old event kept.good kept.stands)
stands_goes settings old (Did label) new kept goes = (sound_step settings old (record { label = label; state = new }) kept.good kept.waits.told kept.stands goes).stands
stands_goes settings old (Declines label) new kept goes = (sound_declined old label new goes kept.stands).stands

pub kept_goes : (settings : Settings) (old : State) (entry : Entry) (new : State) → Kept old → Goes settings old entry new → Kept new
kept_goes settings old entry new kept goes =
    record { good = (lawful_goes settings old entry new (may_begin old kept) kept.good goes).good; stands = stands_goes settings old entry new kept goes; waits = waits_goes settings old entry new kept goes }

pub kept_run : (settings : Settings) (old : State) (entries : List Entry) (new : State) → Run settings old entries new → Kept old → Kept new
kept_run settings old [] new run kept = subst (λ (s : State). Kept s) (sym run) kept
kept_run settings old (entry ∷ rest) new (mid, goes, run) kept = kept_run settings mid rest new run (kept_goes settings old entry mid kept goes)

-- The opening state ---------------------------------------------------------------------------------

-- in the opening state nothing hangs on anything
no_edge : (rack : List Driver) (k j : ℕ) (m : Node) → node_at j (root_node ∷ []) ≡ Some m → hangs_on (opening rack).core (k ∷ []) m ≡ true → ⊥
no_edge rack k j m at h =
    let is = (root_is j m at).0 in
    elim (edge_cases (opening rack).core k m h) [
      | inl (e, up) ↦ up (ap (λ (x : Node). x.serial) (sym is))
      | inr q ↦ cc
    ]

opening_stands : (rack : List Driver) → Stands (opening rack)
opening_stands rack =
    record {
      tree = record {
        rooted = λ j m at up. absurd (up (root_is j m at).1);
        root = λ m at. ap (λ (x : Node). x.parent) (sym (root_is 0 m at).0);
        related = tt;
        rank = λ k. 0;
        ranked = λ k j m at h. absurd (no_edge rack k j m at h);
        free = λ k m at h. no_edge rack k 0 m at h;
        idle = λ k n at idle j m there h. no_edge rack k j m there h;
        only = λ k j m at bare h. absurd (no_edge rack k j m at h);
        paths = λ j k n m at there e. (root_is j n at).1 ∙ sym (root_is k m there).1;
      };
      up = tt;
      stage = tt;
      due = λ k n at e. absurd (let s = ap (λ (x : Node). x.state) (root_is k n at).0 in cc);
    }

opening_waits : (rack : List Driver) → Waits (opening rack)
opening_waits rack = record { told = λ k n at state j m there h. absurd (no_edge rack k j m there h); held = λ k h. absurd (cc); shut = tt }

pub opening_kept : (rack : List Driver) → Kept (opening rack)
opening_kept rack = record { good = opening_is_good rack; stands = opening_stands rack; waits = opening_waits rack }

pub reaches_kept : (settings : Settings) (rack : List Driver) (entries : List Entry) (s : State) → Reaches settings rack entries s → Kept s
reaches_kept settings rack entries s run = kept_run settings (opening rack) entries s run (opening_kept rack)

-- The laws ------------------------------------------------------------------------------------------

-- an event changes no node, and prints no state
plain_word : (label : Label) → IsWord label → IsPlain label
plain_word (Label.Did deed) h = tt
plain_word (Label.Refused word reason) h = tt
plain_word _ h = absurd h

event_plain : (settings : Settings) (old : State) (event : Event) (label : Label) (new : State) → Goes settings old (Happens event label) new → IsPlain label × (new.core.nodes ≡ old.core.nodes)
event_plain settings old event label new goes =
    let out = subst (λ (t : Step). Outside old t) goes.1 (happens_outside old event) in
    (plain_word label out.word, out.nodes)

walked_goes : (settings : Settings) (old : State) (entry : Entry) (new : State) → Kept old → Goes settings old entry new → Walked (printed entry) old.core.nodes new.core.nodes
walked_goes settings old (Happens event label) new kept goes = walked_plain label old.core.nodes new.core.nodes (event_plain settings old event label new goes).0
walked_goes settings old (Did label) new kept goes = (sound_step settings old (record { label = label; state = new }) kept.good kept.waits.told kept.stands goes).walked
walked_goes settings old (Declines label) new kept goes = (sound_declined old label new goes kept.stands).walked

first_goes : (settings : Settings) (old : State) (entry : Entry) (new : State) → Kept old → Goes settings old entry new → DependentsFirst (printed entry) old.core new.core
first_goes settings old (Happens event label) new kept goes =
    let plain = event_plain settings old event label new goes in
    first_stays label old.core new.core plain.0 (λ k n at gone. absurd (let gone2 = subst (λ (x : List Node). node_at k x ≡ None) plain.1 gone in cc))
first_goes settings old (Did label) new kept goes = (sound_step settings old (record { label = label; state = new }) kept.good kept.waits.told kept.stands goes).first
first_goes settings old (Declines label) new kept goes = (sound_declined old label new goes kept.stands).first

pub every_run_follows : FollowsDiagramLaw
every_run_follows settings rack entries old entry new run goes =
    let kept = reaches_kept settings rack entries old run in
    (follows_effect old (printed entry) new kept.good (effect_goes settings old entry new goes).nodes, walked_goes settings old entry new kept goes)

pub dependents_go_first : DependentsFirstLaw
dependents_go_first settings rack entries old entry new run goes = first_goes settings old entry new (reaches_kept settings rack entries old run) goes
