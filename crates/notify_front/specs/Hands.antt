-- What is at hand as the code keeps it: a list of clients, a place in it, and a stage; and what one notice makes of it.
use Rattle.std.specs.Prelude.{◌≡◌, ℕ, ◌<◌, ◌≤◌, Bool, true, false, List, [], ◌∷◌, Option, Some, None, IsSome, drop, length, option_map, reverse, slice_get, take, unwrap_or}
use Rattle.pnp_labels.specs.Texts.{Text}
use Rattle.pnp_labels.specs.declared.label.Label.{Label}
use Rattle.pnp_labels.specs.declared.label.NoticeKind.{NoticeKind}
use Rattle.pnp_labels.specs.declared.label.OpKind.{OpKind}
use Rattle.pnp_model.specs.Keyed.{without_first}
use Rattle.pnp_model.specs.Machine.{due, is_in_order}
use Rattle.pnp_model.specs.Records.{Beginning, State}
use Rattle.pnp_machine.specs.declared.manager.Moved.{Moved}
use Rattle.pnp_machine.specs.declared.manager.Moved.TheVariants.{Label as Printed, Quiet}
use Rattle.notify_front.specs.Fronts.{Hand, Registration, heard, is_of, notice, over, running, vetoed}
use Rattle.notify_front.specs.declared.round.Stage.{Stage}
use Rattle.notify_front.specs.declared.round.Turn.{Turn}

abbrev pub begins : OpKind → ℕ → Beginning
begins kind serial = record { kind = kind; serial = serial }

-- the client at a place
abbrev pub client_at : List Registration → ℕ → Text
client_at told at = unwrap_or (option_map (λ r. r.client) (slice_get told at)) []

-- before the place stand those that agreed, or are to hear it the last one first; from it on those that are left in order.
-- Once a client refused it stands at the place, and so many of those before it are left
abbrev pub hand_of : Stage → List Registration → ℕ → Hand
hand_of Stage.Nothing told at = Hand.Nothing
hand_of (Stage.Asking kind serial) told at = Hand.Asking (begins kind serial) (reverse (take at told)) (drop at told)
hand_of (Stage.Cancelling kind serial left) told at = Hand.Cancelling (begins kind serial) (client_at told at) (reverse (take left told))
hand_of Stage.Running told at = running told
hand_of Stage.Vetoed told at = vetoed (reverse (take at told))
hand_of Stage.Ended told at = over (drop at told)

-- the place is in the list, or at its end where nobody refused
abbrev pub IsInside : Stage → List Registration → ℕ → Type 0
IsInside (Stage.Cancelling kind serial left) told at = (at < length told) × (left ≤ at)
IsInside stage told at = at ≤ length told

-- What is due ---------------------------------------------------------------------------

-- a removal in order is due
pub record IsReady (s : State) (first : Beginning) : Type 0 where
  pub is_due : due s ≡ Some first
  pub in_order : is_in_order first.kind ≡ true

-- while clients are asked, and told that one refused, the removal is due
abbrev pub Fits : State → Hand → Type 0
Fits s (Hand.Asking first agreed left) = IsReady s first
Fits s (Hand.Cancelling first client left) = IsReady s first
Fits s _ = Unit {0}

-- One notice ----------------------------------------------------------------------------

-- who is told next
abbrev pub next_told : Hand → Option Registration
next_told (Hand.Asking first agreed left) = slice_get left 0
next_told (Hand.Cancelling first client left) = slice_get left 0
next_told (Hand.Vetoed left) = slice_get left 0
next_told (Hand.Ended left) = slice_get left 0
next_told _ = None

-- and what
abbrev pub notice_of : Hand → Registration → Label
notice_of (Hand.Asking first agreed left) r = notice NoticeKind.QueryRemove r (Some r.agrees)
notice_of (Hand.Ended left) r = notice NoticeKind.RemoveComplete r None
notice_of _ r = notice NoticeKind.RemoveCancelled r None

-- it agreed, or refused
abbrev pub answered : Beginning → List Registration → Registration → List Registration → Bool → Hand
answered first agreed r left true = Hand.Asking first (r ∷ agreed) left
answered first agreed r left false = Hand.Cancelling first r.client agreed

-- what is at hand after the notice
abbrev pub moved_on : Hand → Hand
moved_on (Hand.Asking first agreed (r ∷ left)) = answered first agreed r left r.agrees
moved_on (Hand.Cancelling first client left) = Hand.Cancelling first client (drop 1 left)
moved_on (Hand.Vetoed left) = vetoed (drop 1 left)
moved_on (Hand.Ended left) = over (drop 1 left)
moved_on hand = hand

-- whether the notice is the last that the client hears
abbrev pub is_ended : Hand → Bool
is_ended (Hand.Ended left) = true
is_ended _ = false

abbrev pub after_last : Bool → Registration → List Registration → List Registration
after_last true r rs = without_first (is_of r.client r.device) rs
after_last false r rs = rs

-- Turns ------------------------------------------------------------------------------------

-- the client that refused
abbrev pub refuser_of : Hand → Option Text
refuser_of (Hand.Cancelling first client left) = Some client
refuser_of _ = None

-- all agreed to what is to begin
pub record AllAgreed (hand : Hand) : Type 0 where
  pub first : Beginning
  pub agreed : List Registration
  pub is : hand ≡ Hand.Asking first agreed []

-- one refused what is to begin, and all that agreed heard it
pub record AllCancelled (kind : OpKind) (serial : ℕ) (hand : Hand) : Type 0 where
  pub client : Text
  pub is : hand ≡ Hand.Cancelling (begins kind serial) client []

pub record IsRunning (hand : Hand) : Type 0 where
  pub told : List Registration
  pub is : hand ≡ Hand.Running told

-- what is to be done by what is at hand
abbrev pub IsTurn : Turn → Hand → Type 0
IsTurn Turn.Tell hand = IsSome (next_told hand)
IsTurn Turn.Idle hand = hand ≡ Hand.Nothing
IsTurn Turn.Begin hand = AllAgreed hand
IsTurn (Turn.Decline kind serial) hand = AllCancelled kind serial hand
IsTurn Turn.Run hand = IsRunning hand

-- The machine's steps ------------------------------------------------------------------------

-- what is at hand after the machine moved
abbrev pub hand_after : Moved → Hand → Hand
hand_after (Printed label) hand = heard label hand
hand_after Quiet hand = hand

-- all agreed, and are to hear of the end
abbrev pub begun : Hand → Hand
begun (Hand.Asking first agreed left) = running (reverse agreed)
begun hand = hand

-- all agreed to what is due
pub record IsBegun (s : State) (hand : Hand) : Type 0 where
  pub all : AllAgreed hand
  pub is_due : due s ≡ Some all.first
