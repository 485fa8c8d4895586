-- In each run a rebalance that found nothing restores everything but the problem of its device.
use Rattle.std.proofs.Common.{◌≡◌, ◌⊎◌, inl, inr, false, List, [], Option, Some, None, refl, sym, ap, ◌∙◌, subst}
use Rattle.resource_reqs.specs.Resources.{Reqs}
use Rattle.resource_reqs.specs.Spelling.Answer.{assignment, no_fit, spent}
use Rattle.pnp_model.specs.Records.{Core, Course, Driver, Found, Job, Node, Settings, Stage, State, Step, course_of}
use Rattle.pnp_model.specs.Rebalances.{begun_with, end_of, has_refused, has_refused_in, trouble_of, over}
use Rattle.pnp_model.specs.Tests.{has}
use Rattle.pnp_model.specs.Runs.{Entry, Goes, Run}
use Rattle.pnp_model.specs.Runs.Entry.{Did}
use Rattle.pnp_model.specs.Laws.{Reaches, IsWithin, AllWithin, RestoresBut, FutileRestoresLaw}
use Rattle.pnp_labels.specs.Texts.{Text}
use Rattle.pnp_labels.specs.declared.label.Label.{Label}
use Rattle.pnp_labels.specs.declared.label.OpKind.{OpKind}
use Rattle.pnp_labels.specs.declared.label.OpEnd.{OpEnd}
use Rattle.pnp_laws.specs.Kept.{kind_by}
use Rattle.pnp_laws.specs.Reached.{IsReached}
use Rattle.pnp_laws.specs.Holdings.{has_plan}
use Rattle.pnp_laws.specs.Rebalanced.{EndsUndone, Undone, Underway}
use Rattle.pnp_laws.proofs.Reaching.{reached_after, reached_on}
use Rattle.pnp_laws.proofs.Reached.{reached_is_good, reached_tree}
use Rattle.pnp_laws.proofs.BeginSteps.{begins_right, reached_fine}
use Rattle.pnp_laws.proofs.RebalanceRuns.{IsOver, rebalance_stepped, after_core, Lasts, lasts, underway_begun}
use Rattle.pnp_model.specs.Rebalances as re
use Rattle.pnp_laws.specs.Effects as ef

-- from the begin of a rebalance or a change up to a state that is reached within it
pub record Since (kind : OpKind) (settings : Settings) (rack : List Driver) (path : Text) (before begun : State) (entries : List Entry) (last : State) : Type 0 where
  pub first : Underway path before.core begun
  pub fresh : first.frame.refused ≡ []
  pub kinds : kind_by first.frame.wanted ≡ kind
  pub reached : IsReached settings rack begun
  pub lasts : Lasts settings path before.core begun first.frame entries last

pub since_begin : (kind : OpKind) (wanted : Node → Option Reqs) (settings : Settings) (rack : List Driver) (earlier entries : List Entry) (before begun last : State) (path : Text) →
    ((node : Node) → ef.begun before kind node ≡ begun_with before.core kind node (wanted node)) → ((node : Node) → kind_by (wanted node) ≡ kind) → course_of kind ≡ Course.Rebalancing →
    Reaches settings rack earlier before → Goes settings before (Did (Label.Begin kind path)) begun → Run settings begun entries last → AllWithin entries →
    Since kind settings rack path before begun entries last
since_begin kind wanted settings rack earlier entries before begun last path form kinds course reaches goes run within =
    let at_before : IsReached settings rack before = (earlier, reaches) in
    let good = reached_is_good settings rack before at_before in
    let tree = reached_tree settings rack before at_before in
    let at_begun = reached_on settings rack before (Did (Label.Begin kind path)) begun at_before goes in
    let right = begins_right settings before begun kind path (reached_fine settings rack before at_before) goes in
    let first = underway_begun path kind (wanted right.node) before begun right (form right.node) course good.serials in
    record {
      first = first.0;
      fresh = first.1;
      kinds = ap kind_by first.2 ∙ kinds right.node;
      reached = at_begun;
      lasts = lasts settings rack path before.next_serial before.core tree begun entries last at_begun first.0 within run;
    }

-- a rebalance
pub since_rebalance : (settings : Settings) (rack : List Driver) (earlier entries : List Entry) (before begun last : State) (path : Text) →
    Reaches settings rack earlier before → Goes settings before (Did (Label.Begin OpKind.Rebalance path)) begun → Run settings begun entries last → AllWithin entries →
    Since OpKind.Rebalance settings rack path before begun entries last
since_rebalance settings rack earlier entries before begun last path = since_begin OpKind.Rebalance (λ node. None) settings rack earlier entries before begun last path (λ node. refl) (λ node. refl) refl

-- what runs still is a rebalance, or a change
pub kind_since : (kind : OpKind) (settings : Settings) (rack : List Driver) (path : Text) (before begun : State) (entries : List Entry) (last : State) (since : Since kind settings rack path before begun entries last) → kind_by since.lasts.under.frame.wanted ≡ kind
kind_since kind settings rack path before begun entries last since = ap kind_by since.lasts.wanted ∙ since.kinds

no_change : (wanted : Option Reqs) → kind_by wanted ≡ OpKind.Rebalance → wanted ≡ None
no_change None e = refl
no_change (Some wanted) e = cc

pub plain_since : (settings : Settings) (rack : List Driver) (path : Text) (before begun : State) (entries : List Entry) (last : State) (since : Since OpKind.Rebalance settings rack path before begun entries last) → since.lasts.under.frame.wanted ≡ None
plain_since settings rack path before begun entries last since = no_change since.lasts.under.frame.wanted (kind_since OpKind.Rebalance settings rack path before begun entries last since)

-- its end ----------------------------------------------------------------------------------

pub end_is_over : (op : OpKind) (settings : Settings) (rack : List Driver) (path : Text) (before begun : State) (entries : List Entry) (last after : State) (kind : OpKind) (end_path : Text) (result : OpEnd) →
    IsReached settings rack before → Since op settings rack path before begun entries last → Run settings begun entries last → (u : Underway path before.core last) → Goes settings last (Did (Label.End kind end_path result)) after →
    IsOver last u.frame (record { label = Label.End kind end_path result; state = after })
end_is_over op settings rack path before begun entries last after kind end_path result at_before since run u goes =
    let tree = reached_tree settings rack before at_before in
    let good = reached_is_good settings rack last (reached_after settings rack begun entries last since.reached run) in
    elim (rebalance_stepped path before.next_serial before.core settings last (record { label = Label.End kind end_path result; state = after }) u tree good goes) [
      | inl h ↦ absurd (subst (λ (x : Step). IsWithin x.label) (sym h.is) h.moves.within)
      | inr over ↦ over
    ]

-- it ends with what it found, or since the target of a change refused
pub end_found : (s : State) (r : Job) (kind : OpKind) (path : Text) (end_result : OpEnd) (t : State) → IsOver s r (record { label = Label.End kind path end_result; state = t }) → end_result ≡ re.result r.found (has_refused r)
end_found s r kind path end_result t h =
    let label : Label.End kind path end_result ≡ Label.End r.kind r.path (re.result r.found (has_refused r)) = ap (λ (x : Step). x.label) h.is in
    cc

found_nothing : (found : Found) → ((OpEnd.NoFit ≡ end_of found) ⊎ (OpEnd.Spent ≡ end_of found)) → has_plan found ≡ false
found_nothing (assignment plan) (inl e) = absurd (cc)
found_nothing (assignment plan) (inr e) = absurd (cc)
found_nothing no_fit e = refl
found_nothing spent e = refl

restored : (path : Text) (before : Core) (last after : State) (u : Underway path before last) (label : Label) → IsOver last u.frame (record { label = label; state = after }) → u.frame.wanted ≡ None → has_plan u.frame.found ≡ false → RestoresBut path before after.core
restored path before last after u label h plain none =
    let r = u.frame in
    let core : after.core ≡ last.core = ap (λ (x : Step). x.state.core) h.is ∙ after_core r (over last.core r r.found r.wanted) last.core last in
    elim (subst (λ (x : Option Reqs). EndsUndone before last.core r x) plain (subst (λ (x : Stage). Undone before last.core r x) h.ending u.undone)) [
      | inl plan ↦ absurd (cc)
      | inr same ↦
          record {
            device = r.target;
            node = u.target.0;
            problem = Some (trouble_of r.found);
            there = u.target.1;
            named = u.target.2;
            nodes = ap (λ (c : Core). c.nodes) core ∙ same.nodes;
            relations = ap (λ (c : Core). c.relations) core ∙ same.relations;
            reserved = ap (λ (c : Core). c.reserved) core ∙ same.reserved;
          }
    ]

-- a rebalance that found nothing restores everything but the problem of its device
pub futile_restores : FutileRestoresLaw
futile_restores settings rack earlier entries before begun last after path end_path reaches goes run within ends =
    let since = since_rebalance settings rack earlier entries before begun last path reaches goes run within in
    let plain = plain_since settings rack path before begun entries last since in
    let u = since.lasts.under in
    let by_result : (result : OpEnd) → ((OpEnd.NoFit ≡ result) ⊎ (OpEnd.Spent ≡ result)) → Goes settings last (Did (Label.End OpKind.Rebalance end_path result)) after → RestoresBut path before.core after.core =
    λ result which end.
    let is_over = end_is_over OpKind.Rebalance settings rack path before begun entries last after OpKind.Rebalance end_path result (earlier, reaches) since run u end in
    let agrees = ap (λ (x : Option Reqs). has_refused_in x (has u.frame.agreed u.frame.target)) plain in
    let found = end_found last u.frame OpKind.Rebalance end_path result after is_over ∙ ap (re.result u.frame.found) agrees in
    let nothing = found_nothing u.frame.found (subst (λ (x : OpEnd). (OpEnd.NoFit ≡ x) ⊎ (OpEnd.Spent ≡ x)) found which) in
    restored path before.core last after u (Label.End OpKind.Rebalance end_path result) is_over plain nothing in
    elim ends [
      | inl end ↦ by_result OpEnd.NoFit (inl refl) end
      | inr end ↦ by_result OpEnd.Spent (inr refl) end
    ]
