-- Racks whose drivers give one answer, whatever they are asked.
use Rattle.std.specs.Prelude.{◌≡◌, List, [], Option}
use Rattle.pnp_labels.specs.declared.label.Label.{Label}
use Rattle.pnp_labels.specs.declared.words.Answer.{Answer}
use Rattle.pnp_model.specs.Records.{Driver, Settings}
use Rattle.free_model.specs.Frees.{told}
use Rattle.free_front.specs.declared.told.ToldRacks.{ToldRacks}
use Rattle.notify_front.specs.Fronts.{Front}
use Rattle.free_front.specs.FreeFronts.{FrontMovesBy}
use Rattle.free_front.specs.Racks.{named_all}

-- the drivers of one rack give this answer or that, and are else those of another
abbrev pub IsTold : List Driver → List Driver → Type 0
IsTold rack own = (answer : Answer) × (rack ≡ told answer own)

-- a step, or that none is next, where all drivers answer as those of a rack do
abbrev pub MovesTold : List Driver → Settings → Front → Option Label → Front → Type 0
MovesTold rack settings old label new = (answer : Answer) → rack ≡ told answer old.state.core.rack → FrontMovesBy answer settings old label new

-- a rack for each answer, whose drivers are else those of this one, once they have the names that are late
pub record AreTold (own : List Driver) (racks : ToldRacks) : Type 0 where
  pub ok : named_all racks.late.items racks.ok ≡ told Answer.Ok own
  pub fail : named_all racks.late.items racks.fail ≡ told Answer.Fail own
  pub pend : named_all racks.late.items racks.pend ≡ told Answer.Pend own

-- the same where no name is late
pub record AreUp (own : List Driver) (racks : ToldRacks) : Type 0 where
  pub ok : racks.ok ≡ told Answer.Ok own
  pub fail : racks.fail ≡ told Answer.Fail own
  pub pend : racks.pend ≡ told Answer.Pend own
  pub none : racks.late.items ≡ []

-- once they have the names that are late, the drivers of each rack are the same
pub record AreAlike (old new : ToldRacks) : Type 0 where
  pub ok : named_all new.late.items new.ok ≡ named_all old.late.items old.ok
  pub fail : named_all new.late.items new.fail ≡ named_all old.late.items old.fail
  pub pend : named_all new.late.items new.pend ≡ named_all old.late.items old.pend
