-- In each run each veto restores, and so does each rebalance that found nothing, and each change that was not made.
use Rattle.std.proofs.Common.{◌≡◌, ◌≢◌, inl, inr, List, refl, subst}
use Rattle.pnp_model.specs.Records.{Driver, State, Settings}
use Rattle.pnp_model.specs.Runs.{Entry, Goes, printed}
use Rattle.pnp_model.specs.Runs.Entry.{Did}
use Rattle.pnp_model.specs.Laws.{Reaches, Restores}
use Rattle.pnp_labels.specs.Texts.{Text}
use Rattle.pnp_labels.specs.declared.label.Label.{Label}
use Rattle.pnp_labels.specs.declared.label.OpKind.{OpKind}
use Rattle.pnp_labels.specs.declared.label.OpEnd.{OpEnd}
use Rattle.pnp_laws.specs.Words.{IsBeside}
use Rattle.pnp_laws.specs.Begun.{HasBegun, Belongs, Restoring, EachEndRestoresLaw}
use Rattle.pnp_laws.proofs.BeginSteps.{step_did}
use Rattle.pnp_laws.proofs.RunsBegun.{operations_begin}
use Rattle.pnp_laws.proofs.RunsFutile.{futile_restores}
use Rattle.pnp_laws.proofs.RunsUnchanged.{unchanged_restores}
use Rattle.pnp_laws.proofs.RunsVeto.{a_veto_restores}

-- the operation that ends here, and the step that ends it
record Ends (settings : Settings) (rack : List Driver) (entries : List Entry) (s t : State) (kind : OpKind) (path : Text) (result : OpEnd) : Type 0 where
  began : HasBegun settings rack entries s kind path
  goes : Goes settings s (Did (Label.End kind path result)) t

end_of_entry : (settings : Settings) (rack : List Driver) (entries : List Entry) (s : State) (entry : Entry) (t : State) (kind : OpKind) (path : Text) (result : OpEnd) →
    Reaches settings rack entries s → Goes settings s entry t → printed entry ≡ Label.End kind path result → Ends settings rack entries s t kind path result
end_of_entry settings rack entries s entry t kind path result reaches goes e =
    record {
      began = subst (λ (x : Label). Belongs settings rack entries s x) e (operations_begin settings rack entries s entry t reaches goes);
      goes = subst (λ (x : Label). Goes settings s (Did x) t) e (step_did settings s entry t goes (λ beside. subst (λ (x : Label). IsBeside x) e beside));
    }

-- a change that was not made
changed_end : (settings : Settings) (rack : List Driver) (entries : List Entry) (s t : State) (path : Text) (result : OpEnd) → Ends settings rack entries s t OpKind.Change path result → result ≢ OpEnd.Moved
    → (b : HasBegun settings rack entries s OpKind.Change path) × Restores b.before.core t.core
changed_end settings rack entries s t path result h other =
    let b = h.began in
    (b, unchanged_restores settings rack b.earlier b.later b.before b.begun s t path path result b.reaches b.begins b.run b.within h.goes other)

by_end : (settings : Settings) (rack : List Driver) (entries : List Entry) (s t : State) (kind : OpKind) (path : Text) (result : OpEnd) → Ends settings rack entries s t kind path result → Restoring settings rack entries s t (Label.End kind path result)
by_end settings rack entries s t kind path (OpEnd.Veto refuser) h =
    let b = h.began in
    (b, a_veto_restores settings rack b.earlier b.later b.before b.begun s t kind kind path path refuser b.reaches b.begins b.run b.within h.goes)
by_end settings rack entries s t OpKind.Rebalance path OpEnd.NoFit h =
    let b = h.began in
    (b, futile_restores settings rack b.earlier b.later b.before b.begun s t path path b.reaches b.begins b.run b.within (inl h.goes))
by_end settings rack entries s t OpKind.Rebalance path OpEnd.Spent h =
    let b = h.began in
    (b, futile_restores settings rack b.earlier b.later b.before b.begun s t path path b.reaches b.begins b.run b.within (inr h.goes))
by_end settings rack entries s t OpKind.Change path OpEnd.NoFit h = changed_end settings rack entries s t path OpEnd.NoFit h (λ e. cc)
by_end settings rack entries s t OpKind.Change path OpEnd.Spent h = changed_end settings rack entries s t path OpEnd.Spent h (λ e. cc)
by_end settings rack entries s t OpKind.Change path OpEnd.Refused h = changed_end settings rack entries s t path OpEnd.Refused h (λ e. cc)
by_end settings rack entries s t _ path _ h = tt

by_label : (settings : Settings) (rack : List Driver) (entries : List Entry) (s : State) (entry : Entry) (t : State) (label : Label) → printed entry ≡ label → Reaches settings rack entries s → Goes settings s entry t → Restoring settings rack entries s t label
by_label settings rack entries s entry t (Label.End kind path result) e reaches goes = by_end settings rack entries s t kind path result (end_of_entry settings rack entries s entry t kind path result reaches goes e)
by_label settings rack entries s entry t _ e reaches goes = tt

-- each end with a veto restores all, and so does each end of a change that was not made; each end of a rebalance that found nothing
-- all but the problem of its device
pub each_end_restores : EachEndRestoresLaw
each_end_restores settings rack entries s entry t reaches goes = by_label settings rack entries s entry t (printed entry) refl reaches goes
