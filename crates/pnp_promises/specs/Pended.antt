-- What is pended waits until it is completed.
use Rattle.std.specs.Prelude.{ℕ, ◌≡◌, ◌⊎◌, List}
use Rattle.pnp_labels.specs.declared.event.Event.{Event}
use Rattle.pnp_labels.specs.declared.words.Minor.{Minor}
use Rattle.pnp_model.specs.Laws.{Reaches}
use Rattle.pnp_model.specs.Records.{Driver, Settings, State}
use Rattle.pnp_model.specs.Runs.{Entry, Goes}
use Rattle.pnp_model.specs.Runs.Entry.{Happens}
use Rattle.pnp_promises.specs.Refusals.{AwaitsAnswer, TheNode}

-- the request to the device is completed
abbrev pub IsCompletion : State → Entry → ℕ → Minor → Type 0
IsCompletion s (Happens (Event.Complete path own ok) label) k minor = TheNode s path (λ n. (n.serial ≡ k) × (own ≡ minor))
IsCompletion s entry k minor = ⊥

-- a request whose answer is waited for is waited for still, but where it is completed
abbrev pub WhatIsPendedWaitsLaw : Type 0
WhatIsPendedWaitsLaw =
    (settings : Settings) (rack : List Driver) (entries : List Entry) (s : State) (entry : Entry) (t : State) (k : ℕ) (minor : Minor)
    → Reaches settings rack entries s → Goes settings s entry t → AwaitsAnswer s k minor → AwaitsAnswer t k minor ⊎ IsCompletion s entry k minor
