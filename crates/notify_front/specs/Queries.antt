-- What the next step of a front asks: nobody where a client is told or refused what is due, else what the machine's step asks.
use Rattle.std.specs.Prelude.{[], ◌∷◌, Option, None}
use Rattle.free_model.specs.Asking.{AsksSo}
use Rattle.free_model.specs.Asks.{Query, next_query}
use Rattle.pnp_model.specs.Records.{Settings, State}
use Rattle.notify_front.specs.Fronts.{Front, FrontEntry, FrontSteps, Hand, front_printed}

abbrev pub hand_query : State → Hand → Option Query
hand_query s Hand.Nothing = next_query s
hand_query s (Hand.Asking first agreed []) = next_query s
hand_query s (Hand.Asking first agreed (r ∷ left)) = None
hand_query s (Hand.Cancelling first client left) = None
hand_query s (Hand.Running told) = next_query s
hand_query s (Hand.Vetoed []) = next_query s
hand_query s (Hand.Vetoed (r ∷ left)) = None
hand_query s (Hand.Ended []) = next_query s
hand_query s (Hand.Ended (r ∷ left)) = None

abbrev pub front_query : Front → Option Query
front_query f = hand_query f.state f.hand

-- The law: each step asks whom it is to ask.
abbrev pub EachFrontStepAsksLaw : Type 0
EachFrontStepAsksLaw =
    (settings : Settings) (old : Front) (entry : FrontEntry) (new : Front) → FrontSteps settings old entry new
    → AsksSo (front_query old) old.state.core.rack (front_printed entry) new.state.core.rack
