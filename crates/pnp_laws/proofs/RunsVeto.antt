-- A veto restores, in each run.
use Rattle.std.proofs.Common.{ℕ, ◌≡◌, inl, inr, Bool, false, List, [], ◌∷◌, Some, refl, sym, ap, ◌∙◌, subst}
use Rattle.pnp_model.specs.Records.{Node, Core, Driver, State, Step, Settings, Job, course_of, Course}
use Rattle.pnp_model.specs.Trees.{leaving}
use Rattle.pnp_model.specs.Removals.{begun_removal, end_of}
use Rattle.pnp_model.specs.Tasks.{begin}
use Rattle.pnp_model.specs.Runs.{Entry, Goes, Run, printed}
use Rattle.pnp_model.specs.Runs.Entry.{Happens, Did, Declines}
use Rattle.pnp_model.specs.Laws.{IsWithin, AllWithin, Restores, VetoRestoresLaw}
use Rattle.pnp_labels.specs.Texts.{Text}
use Rattle.pnp_labels.specs.declared.label.Label.{Label}
use Rattle.pnp_labels.specs.declared.label.OpKind.{OpKind}
use Rattle.pnp_labels.specs.declared.label.OpEnd.{OpEnd}
use Rattle.pnp_laws.specs.Words.{is_removal, NoVeto, EndsBy}
use Rattle.pnp_laws.specs.Kept.{IsGood}
use Rattle.pnp_laws.specs.Reached.{IsReached}
use Rattle.pnp_laws.proofs.Reached.{reached_is_good}
use Rattle.pnp_laws.proofs.Reaching.{kept_within, reached_after, reached_on}
use Rattle.pnp_laws.proofs.Declined.{idle_before}
use Rattle.pnp_laws.proofs.Courses.{Way, way_goes}
use Rattle.pnp_laws.proofs.BeginSteps.{Begun, begins_right, reached_fine}
use Rattle.pnp_laws.proofs.Vetoes.{since_begun, veto_restores}
use Rattle.pnp_laws.proofs.VetoSteps.{VetoSince, Closed, veto_step, veto_happens}
use Rattle.pnp_laws.proofs.EffectsOfOperations.{begun_work}
use Rattle.pnp_laws.specs.Effects as ef

-- within the operation

not_closed : (before : Core) (s : State) (step : Step) → IsWithin step.label → Closed before s step → ⊥
not_closed before s step w c = subst (λ (x : Label). IsWithin x) c.label w

veto_goes : (before : Core) (settings : Settings) (s : State) (entry : Entry) (t : State) → IsGood s → IsWithin (printed entry) → Goes settings s entry t → VetoSince before s → VetoSince before t
veto_goes before settings s (Happens event label) t good w g h = subst (λ (x : Step). VetoSince before x.state) g.1 (veto_happens before s event h)
veto_goes before settings s (Did label) t good w g h =
    elim (veto_step before settings s (record { label = label; state = t }) good h g) [
      | inl next ↦ next.1
      | inr closed ↦ absurd (not_closed before s (record { label = label; state = t }) w closed)
    ]
veto_goes before settings s (Declines label) t good w g h = let idle = idle_before s label t g in let runs = h.runs in absurd (cc)

-- the end

veto_of : (c : Core) (refused : List ℕ) (q : Text) → end_of c refused ≡ OpEnd.Veto q → (k : ℕ) × (ks : List ℕ) × (refused ≡ k ∷ ks)
veto_of c [] q e = absurd (cc)
veto_of c (k ∷ ks) q e = (k, ks, refl)

pub veto_end : (before : Core) (settings : Settings) (s t : State) (kind : OpKind) (path q : Text) → IsGood s → VetoSince before s → Goes settings s (Did (Label.End kind path (OpEnd.Veto q))) t →
    (t.core.nodes ≡ before.nodes) × (t.core.relations ≡ before.relations) × (t.core.reserved ≡ before.reserved)
veto_end before settings s t kind path q good h g =
    elim (veto_step before settings s (record { label = Label.End kind path (OpEnd.Veto q); state = t }) good h g) [
      | inl next ↦ absurd next.0
      | inr closed ↦
          let label = closed.label in
          let e : end_of s.core closed.op.refused ≡ OpEnd.Veto q = cc in
          let refuser = veto_of s.core closed.op.refused q e in
          let same = veto_restores before s.core closed.op refuser.0 refuser.1 refuser.2 closed.since in
          let core = closed.core in
          (ap (λ (c : Core). c.nodes) core ∙ same.0, ap (λ (c : Core). c.relations) core ∙ same.1, ap (λ (c : Core). c.reserved) core ∙ same.2)
    ]

-- an operation that no driver can veto goes on until it ends -----------------------------

-- an operation runs that is no removal
record Unvetoed (s : State) : Type 0 where
  op : Job
  runs : s.operation ≡ Some op
  sort : is_removal (course_of op.kind) ≡ false

unvetoed_way : (s t : State) (label : Label) → Way s (record { label = label; state = t }) → IsWithin label → Unvetoed s → Unvetoed t
unvetoed_way s t label (Way.idles none after beside) w h = let runs = h.runs in absurd (cc)
unvetoed_way s t label (Way.begins kind node none at is) w h = let runs = h.runs in absurd (cc)
unvetoed_way s t label (Way.goes o p runs after work prints) w h =
    let own = h.runs in
    let same : h.op ≡ o = cc in
    record { op = p; runs = after; sort = ap (λ (x : OpKind). is_removal (course_of x)) (work.kind ∙ ap (λ (x : Job). x.kind) (sym same)) ∙ h.sort }
unvetoed_way s t label (Way.ends o result runs after is by) w h = absurd (subst (λ (x : Label). IsWithin x) is w)

no_veto : (s t : State) (kind : OpKind) (path q : Text) → Way s (record { label = Label.End kind path (OpEnd.Veto q); state = t }) → Unvetoed s → ⊥
no_veto s t kind path q (Way.idles none after beside) h = beside
no_veto s t kind path q (Way.begins own node none at is) h = let label = ap (λ (x : Step). x.label) is in absurd (cc)
no_veto s t kind path q (Way.goes o p runs after work (inl beside)) h = beside
no_veto s t kind path q (Way.goes o p runs after work (inr (kinds, label))) h = absurd (cc)
no_veto s t kind path q (Way.ends o result runs after label by) h =
    let own = h.runs in
    let same : h.op ≡ o = cc in
    let sort : is_removal (course_of o.kind) ≡ false = ap (λ (x : Job). is_removal (course_of x.kind)) (sym same) ∙ h.sort in
    let veto : result ≡ OpEnd.Veto q = cc in
    subst (λ (x : OpEnd). NoVeto x) veto (subst (λ (b : Bool). EndsBy b result) sort by)

-- The law -------------------------------------------------------------------------------------

-- a removal that began keeps what it is to restore, and another operation is never vetoed
veto_since : (before : Core) (settings : Settings) (rack : List Driver) (begun last after : State) (entries : List Entry) (end_kind : OpKind) (end_path q : Text) → IsReached settings rack begun → VetoSince before begun →
    Run settings begun entries last → AllWithin entries → Goes settings last (Did (Label.End end_kind end_path (OpEnd.Veto q))) after → Restores before after.core
veto_since before settings rack begun last after entries end_kind end_path q reached since run within ends =
    let since_then = kept_within (VetoSince before) settings rack (λ old entry new there w h goes. veto_goes before settings old entry new (reached_is_good settings rack old there) w goes h) begun entries last reached within since run in
    let same = veto_end before settings last after end_kind end_path q (reached_is_good settings rack last (reached_after settings rack begun entries last reached run)) since_then ends in
    record { nodes = same.0; relations = same.1; reserved = same.2 }

unvetoed : (settings : Settings) (rack : List Driver) (begun last after : State) (entries : List Entry) (end_kind : OpKind) (end_path q : Text) → IsReached settings rack begun → Unvetoed begun → Run settings begun entries last → AllWithin entries →
    Goes settings last (Did (Label.End end_kind end_path (OpEnd.Veto q))) after → ⊥
unvetoed settings rack begun last after entries end_kind end_path q reached h run within ends =
    let still = kept_within Unvetoed settings rack (λ old entry new there w h goes. unvetoed_way old new (printed entry) (way_goes settings old entry new (reached_fine settings rack old there) goes) w h) begun entries last reached within h run in
    no_veto last after end_kind end_path q (way_goes settings last (Did (Label.End end_kind end_path (OpEnd.Veto q))) after (reached_fine settings rack last (reached_after settings rack begun entries last reached run)) ends) still

-- a removal of the kind began
removal_since : (s : State) (kind : OpKind) (node : Node) (t : State) → course_of (begun_removal s.core kind node).kind ≡ Course.Removing → t ≡ (begin s kind node (begun_removal s.core kind node)).state → VetoSince s.core t
removal_since s kind node t course is =
    let o = begun_removal s.core kind node in
    let first : VetoSince s.core (begin s kind node o).state =
    record { op = o; runs = refl; course = course; since = since_begun s.core kind node (leaving s.core node.serial) } in
    subst (λ (x : State). VetoSince s.core x) (sym is) first

other_runs : (s : State) (kind : OpKind) (node : Node) (t : State) (o : Job) → is_removal (course_of o.kind) ≡ false → t ≡ (begin s kind node o).state → Unvetoed t
other_runs s kind node t o sort is = record { op = o; runs = ap (λ (x : State). x.operation) is; sort = sort }

by_begin : (settings : Settings) (rack : List Driver) (before begun last after : State) (entries : List Entry) (kind end_kind : OpKind) (path end_path q : Text) → Begun before kind path begun → IsReached settings rack begun →
    Run settings begun entries last → AllWithin entries → Goes settings last (Did (Label.End end_kind end_path (OpEnd.Veto q))) after → Restores before.core after.core
by_begin settings rack before begun last after entries OpKind.Disable end_kind path end_path q b reached run within ends =
    veto_since before.core settings rack begun last after entries end_kind end_path q reached (removal_since before OpKind.Disable b.node begun (ap course_of (begun_work before OpKind.Disable b.node).0) b.is) run within ends
by_begin settings rack before begun last after entries OpKind.Eject end_kind path end_path q b reached run within ends =
    veto_since before.core settings rack begun last after entries end_kind end_path q reached (removal_since before OpKind.Eject b.node begun (ap course_of (begun_work before OpKind.Eject b.node).0) b.is) run within ends
by_begin settings rack before begun last after entries kind end_kind path end_path q b reached run within ends =
    absurd (unvetoed settings rack begun last after entries end_kind end_path q reached (other_runs before kind b.node begun (ef.begun before kind b.node) (ap (λ (x : OpKind). is_removal (course_of x)) (begun_work before kind b.node).0) b.is) run within ends)

pub a_veto_restores : VetoRestoresLaw
a_veto_restores settings rack earlier entries before begun last after kind end_kind path end_path refuser reaches goes run within ends =
    let at_before : IsReached settings rack before = (earlier, reaches) in
    by_begin settings rack before begun last after entries kind end_kind path end_path refuser
    (begins_right settings before begun kind path (reached_fine settings rack before at_before) goes)
    (reached_on settings rack before (Did (Label.Begin kind path)) begun at_before goes) run within ends
