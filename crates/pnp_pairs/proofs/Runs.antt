-- A run under other words is a run.
use Rattle.std.proofs.Common.{◌≡◌, List, [], ◌∷◌, map, sym, ap, ◌∙◌, subst, refl}
use Rattle.pnp_labels.specs.Texts.{Text}
use Rattle.pnp_labels.specs.declared.event.Event.{Event}
use Rattle.pnp_labels.specs.declared.label.Label.{Label}
use Rattle.pnp_model.specs.Cores.{node_at, path_of}
use Rattle.pnp_model.specs.Machine.{IsDeclined}
use Rattle.pnp_model.specs.Records.{Driver, Settings, State}
use Rattle.pnp_model.specs.Runs.{Entry, Goes, Run, opening, root_path}
use Rattle.pnp_model.specs.Runs.Entry.{Happens, Did, Declines}
use Rattle.pnp_pairs.specs.Renamed as renamed
use Rattle.pnp_pairs.specs.Renamed.{Renaming}
use Rattle.pnp_promises.specs.Later.{NoneDeclined, happened}
use Rattle.pnp_pairs.specs.Renaming.{ChooseAlike, RenamingOnlyRenamesLaw, RenamingRenamesLaw}
use Rattle.pnp_pairs.proofs.Events.{happens_same}
use Rattle.pnp_pairs.proofs.Jobs.{path_same}
use Rattle.pnp_pairs.proofs.Machine.{due_same, quiet_same, steps_same}
use Rattle.pnp_pairs.proofs.OneRun.{one_run}
use Rattle.pnp_pairs.proofs.Trees.{at}

-- the same at a root of this path
abbrev opening_at : Text → List Driver → State
opening_at path rack =
    record (opening rack) {
      world = record { born = 0; parent = 0; path = path; hw = []; compat = []; reqs = [] } ∷ [];
      core = record (opening rack).core { nodes = record Rattle.pnp_model.specs.Runs.root_node { path = path } ∷ [] };
    }

module _ (r : Renaming) where
  opening_same : (rack : List Driver) → renamed.state r (opening rack) ≡ opening (renamed.rack r rack)
  opening_same rack = ap (λ (path : Text). opening_at path (renamed.rack r rack)) r.root

  declined_same : (old new : State) (label : Label) → IsDeclined old label new → IsDeclined (renamed.state r old) (renamed.label r label) (renamed.state r new)
  declined_same old new label h =
      record {
        first = h.first;
        client = h.client;
        is_due = due_same r old ∙ h.is_due;
        in_order = h.in_order;
        says =
            ap (renamed.label r) h.says
            ∙ ap (λ (path : Text). Label.Declined h.first.kind path h.client)
            (sym (ap path_of (at r h.first.serial old.core.nodes) ∙ path_same r (node_at h.first.serial old.core.nodes)));
        dropped = ap (renamed.state r) h.dropped;
      }

  module _ (settings other : Settings) (alike : ChooseAlike r settings other) where
    goes_same : (old new : State) (entry : Entry) → Goes settings old entry new → Goes other (renamed.state r old) (renamed.entry r entry) (renamed.state r new)
    goes_same old new (Happens event label) (quiet, h) = (quiet_same r settings other alike old quiet, happens_same r old event ∙ ap (renamed.step r) h)
    goes_same old new (Did label) h = steps_same r settings other alike old label new h
    goes_same old new (Declines label) h = declined_same old new label h

    run_same : (old new : State) (entries : List Entry) → Run settings old entries new → Run other (renamed.state r old) (map (renamed.entry r) entries) (renamed.state r new)
    run_same old new [] h = ap (renamed.state r) h
    run_same old new (entry ∷ rest) (mid, goes, run) = (renamed.state r mid, goes_same old mid entry goes, run_same mid new rest run)

pub renaming_renames : RenamingRenamesLaw
renaming_renames r settings other rack entries s alike run = (
  subst (λ (x : State). Run other x (map (renamed.entry r) entries) (renamed.state r s)) (opening_same r rack) (run_same r settings other alike (opening rack) s entries run),
  quiet_same r settings other alike s,
)

-- the events of renamed entries
happened_same : (r : Renaming) (entries : List Entry) → happened (map (renamed.entry r) entries) ≡ map (renamed.event r) (happened entries)
happened_same r [] = refl
happened_same r (Happens event label ∷ rest) = ap (λ (t : List Event). renamed.event r event ∷ t) (happened_same r rest)
happened_same r (Did label ∷ rest) = happened_same r rest
happened_same r (Declines label ∷ rest) = happened_same r rest

none_declined : (r : Renaming) (entries : List Entry) → NoneDeclined entries → NoneDeclined (map (renamed.entry r) entries)
none_declined r [] none = tt
none_declined r (Happens event label ∷ rest) none = none_declined r rest none
none_declined r (Did label ∷ rest) none = none_declined r rest none
none_declined r (Declines label ∷ rest) none = absurd none

pub only_renaming : RenamingOnlyRenamesLaw
only_renaming r settings other rack one two s t alike run other_run none free quiet rests e =
    let (renamed_run, renamed_quiet) = renaming_renames r settings other rack one s alike run in
    one_run other (opening (renamed.rack r rack)) (map (renamed.entry r) one) two (renamed.state r s) t renamed_run other_run (none_declined r one none) free (renamed_quiet quiet) rests
    (e ∙ sym (happened_same r one))
