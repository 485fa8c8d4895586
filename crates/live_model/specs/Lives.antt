-- Which drivers are live, and what a step is in which one of them may be asked.
use Rattle.std.specs.Prelude.{Bool, List, Option, Some, None, if◌then◌else◌}
use Rattle.std.specs.List.{list_any}
use Rattle.device_ids.specs.Folding.{same}
use Rattle.pnp_labels.specs.Texts.{Text}
use Rattle.pnp_labels.specs.declared.label.Label.{Label}
use Rattle.pnp_labels.specs.declared.words.Answer.{Answer}
use Rattle.pnp_model.specs.Books.{name_of}
use Rattle.pnp_model.specs.Machine.{Steps}
use Rattle.pnp_model.specs.Records.{Driver, Settings, State}
use Rattle.free_model.specs.Asks.{Query, next_query}
use Rattle.free_model.specs.Frees.{StepsBy}

-- the names of the drivers that are live, and whether they are probed
pub record Lives : Type 0 where
  pub names : List Text
  pub probed : Bool

-- case does not matter
abbrev pub is_live : Lives → Text → Bool
is_live lives driver = list_any (λ own. same own driver) lives.names

abbrev pub live_if : Lives → List Driver → Option Query → Option Query
live_if lives rack None = None
live_if lives rack (Some q) = if is_live lives (name_of rack q.driver) then Some q else None

-- what the next step asks, where it asks a live driver
abbrev pub live_query : Lives → State → Option Query
live_query lives s = live_if lives s.core.rack (next_query s)

abbrev pub StepsFor : Option Query → Settings → State → Option Answer → Label → State → Type 0
StepsFor (Some q) settings s (Some answer) label new = StepsBy answer settings s label new
StepsFor None settings s None label new = Steps settings s label new
StepsFor _ settings s _ label new = ⊥

-- A step of a live run: where it asks a live driver, this one answers what was heard, and no book changes; else nothing is heard, and it is
-- one of the machine by the books, of which one loses a use.
abbrev pub LiveSteps : Lives → Settings → State → Option Answer → Label → State → Type 0
LiveSteps lives settings s heard label new = StepsFor (live_query lives s) settings s heard label new
