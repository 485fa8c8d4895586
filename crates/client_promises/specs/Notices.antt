-- A notice has a cause, which stands directly before it.
use Rattle.std.specs.Prelude.{◌≡◌, true, false, List, [], ◌∷◌, ◌++◌, Some, None, map}
use Rattle.pnp_labels.specs.declared.label.Label.{Label}
use Rattle.pnp_labels.specs.declared.label.NoticeKind.{NoticeKind}
use Rattle.pnp_labels.specs.declared.label.OpEnd.{OpEnd}
use Rattle.pnp_model.specs.Machine.{due, is_in_order}
use Rattle.pnp_model.specs.Records.{Beginning, Driver, Settings}
use Rattle.pnp_model.specs.Runs.{Entry, opening}
use Rattle.notify_front.specs.Fronts.{Front, FrontEntry, Registration, notice, on_set, opening_front}
use Rattle.notify_front.specs.Laws.{asked}
use Rattle.notify_front.specs.Notices.{FrontGoes, FrontRun}

-- What stands last ----------------------------------------------------------------------------------------

pub record EndsIn (P : FrontEntry → Type 0) (entries : List FrontEntry) : Type 0 where
  pub earlier : List FrontEntry
  pub last : FrontEntry
  pub is : entries ≡ earlier ++ last ∷ []
  pub so : P last

-- a client was asked
abbrev pub IsQuery : FrontEntry → Type 0
IsQuery (FrontEntry.Tells (Label.Notice NoticeKind.QueryRemove client path agrees)) = Unit {0}
IsQuery _ = ⊥

-- a client refused, an operation ended with a veto, or another client heard that its device stays
abbrev pub IsStay : FrontEntry → Type 0
IsStay (FrontEntry.Tells (Label.Notice NoticeKind.QueryRemove client path (Some false))) = Unit {0}
IsStay (FrontEntry.Tells (Label.Notice NoticeKind.RemoveCancelled client path agrees)) = Unit {0}
IsStay (FrontEntry.Passes (Entry.Did (Label.End kind path (OpEnd.Veto refuser)))) = Unit {0}
IsStay _ = ⊥

-- an operation ended otherwise
abbrev pub IsDone : OpEnd → Type 0
IsDone (OpEnd.Veto refuser) = ⊥
IsDone _ = Unit {0}

-- so it did, or another client heard of it
abbrev pub IsGone : FrontEntry → Type 0
IsGone (FrontEntry.Tells (Label.Notice NoticeKind.RemoveComplete client path agrees)) = Unit {0}
IsGone (FrontEntry.Passes (Entry.Did (Label.End kind path result))) = IsDone result
IsGone _ = ⊥

-- The law ---------------------------------------------------------------------------------------------------

pub data HasCause (entries : List FrontEntry) (f : Front) : Label → Type 0 where
  -- a disable or an eject is due; those before it on its set were asked directly before, in order, and each agreed; and nobody before these
  asks : (first : Beginning) (before : List Registration) (r : Registration) (left : List Registration) (earlier : List FrontEntry) → due f.state ≡ Some first → is_in_order first.kind ≡ true
      → on_set f first.serial ≡ before ++ r ∷ left → entries ≡ earlier ++ map asked before → (EndsIn IsQuery earlier → ⊥) → HasCause entries f (notice NoticeKind.QueryRemove r (Some r.agrees))
  stays : (r : Registration) → EndsIn IsStay entries → HasCause entries f (notice NoticeKind.RemoveCancelled r None)
  gone : (r : Registration) → EndsIn IsGone entries → HasCause entries f (notice NoticeKind.RemoveComplete r None)

abbrev pub NoticesHaveCausesLaw : Type 0
NoticesHaveCausesLaw =
    (settings : Settings) (rack : List Driver) (entries : List FrontEntry) (f : Front) (label : Label) (g : Front)
    → FrontRun settings (opening_front (opening rack)) entries f → FrontGoes settings f (FrontEntry.Tells label) g → HasCause entries f label
