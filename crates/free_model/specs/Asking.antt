-- What a step asks: the driver that is to be asked next, and no other; and where none is to be asked it asks nobody.
use Rattle.std.specs.Prelude.{◌≡◌, Bool, true, false, List, Option, Some, None}
use Rattle.pnp_labels.specs.Texts.{Text}
use Rattle.pnp_labels.specs.declared.label.Label.{Label}
use Rattle.pnp_labels.specs.declared.words.Answer.{Answer}
use Rattle.pnp_labels.specs.declared.words.Answer.TheVariants.{Ok, Fail, Pend}
use Rattle.pnp_labels.specs.declared.words.AskWhat.{AskWhat}
use Rattle.pnp_labels.specs.declared.words.AskWhat.TheVariants.{Add, Irp}
use Rattle.pnp_model.specs.Books.{name_of, rack_reply, rack_after}
use Rattle.pnp_model.specs.Machine.{Steps, IsQuiet}
use Rattle.pnp_model.specs.Records.{Driver, Settings, State}
use Rattle.pnp_model.specs.Walks.{shown_of}
use Rattle.free_model.specs.Asks.{Query, next_query}

-- the label tells that a driver was asked
abbrev pub is_ask : Label → Bool
is_ask (Label.Asked minor path driver shown) = true
is_ask (Label.Add path driver ok) = true
is_ask label = false

-- AddDevice is answered well or not
abbrev pub said : Answer → Bool
said Ok = true
said Fail = false
said Pend = false

-- the label that tells how the driver of this name answered
abbrev pub answered : AskWhat → Text → Text → Answer → Label
answered Add path name answer = Label.Add path name (said answer)
answered (Irp minor) path name answer = Label.Asked minor path name (shown_of minor answer)

-- nobody is asked: the label tells no ask, and each book is as it was; or this driver is, once: the label tells what it answers, and
-- its book alone loses a use
abbrev pub AsksSo : Option Query → List Driver → Label → List Driver → Type 0
AsksSo None rack label rack' = (is_ask label ≡ false) × (rack' ≡ rack)
AsksSo (Some q) rack label rack' =
    (label ≡ answered q.what q.path (name_of rack q.driver) (rack_reply q.what q.path rack q.driver))
    × (rack' ≡ rack_after q.what q.path rack q.driver)

-- The law: each step asks whom it is to ask.
abbrev pub EachStepAsksLaw : Type 0
EachStepAsksLaw =
    (settings : Settings) (old : State) (label : Label) (new : State) → Steps settings old label new
    → AsksSo (next_query old) old.core.rack label new.core.rack

-- The law: where no step is next nobody is to be asked.
abbrev pub QuietAsksNobodyLaw : Type 0
QuietAsksNobodyLaw = (settings : Settings) (s : State) → IsQuiet settings s → next_query s ≡ None
