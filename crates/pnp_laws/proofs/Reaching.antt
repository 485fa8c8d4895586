-- What each step keeps holds of each state of each run.
use Rattle.std.proofs.Common.{List, [], ◌∷◌, ◌++◌, refl, sym, subst}
use Rattle.pnp_model.specs.Records.{Driver, State, Settings}
use Rattle.pnp_model.specs.Runs.{Entry, Goes, Run, opening, printed}
use Rattle.pnp_model.specs.Laws.{AllWithin, IsWithin}
use Rattle.pnp_laws.specs.Reached.{IsReached}

-- one run after another
pub run_on : (settings : Settings) (a b c : State) (xs ys : List Entry) → Run settings a xs b → Run settings b ys c → Run settings a (xs ++ ys) c
run_on settings a b c [] ys h g = subst (λ (x : State). Run settings x ys c) h g
run_on settings a b c (x ∷ xs) ys (mid, goes, run) g = (mid, goes, run_on settings mid b c xs ys run g)

pub reached_on : (settings : Settings) (rack : List Driver) (old : State) (entry : Entry) (new : State) → IsReached settings rack old → Goes settings old entry new → IsReached settings rack new
reached_on settings rack old entry new (entries, run) goes = (entries ++ entry ∷ [], run_on settings (opening rack) old new entries (entry ∷ []) run (new, goes, refl))

pub reached_after : (settings : Settings) (rack : List Driver) (old : State) (entries : List Entry) (new : State) → IsReached settings rack old → Run settings old entries new → IsReached settings rack new
reached_after settings rack old entries new reached run = (reached.0 ++ entries, run_on settings (opening rack) old new reached.0 entries reached.1 run)

-- what each step within an operation keeps is kept until it ends
pub kept_within : (P : State → Type 0) (settings : Settings) (rack : List Driver) →
    ((old : State) (entry : Entry) (new : State) → IsReached settings rack old → IsWithin (printed entry) → P old → Goes settings old entry new → P new) →
    (old : State) (entries : List Entry) (new : State) → IsReached settings rack old → AllWithin entries → P old → Run settings old entries new → P new
kept_within P settings rack step old [] new reached within h run = subst P (sym run) h
kept_within P settings rack step old (entry ∷ rest) new reached within h (mid, goes, run) =
    kept_within P settings rack step mid rest new (reached_on settings rack old entry mid reached goes) within.1 (step old entry mid reached within.0 h goes) run

-- what each step from a reached state keeps is kept along a run
pub kept_along : (P : State → Type 0) (settings : Settings) (rack : List Driver) →
    ((old : State) (entry : Entry) (new : State) → IsReached settings rack old → P old → Goes settings old entry new → P new) →
    (old : State) (entries : List Entry) (new : State) → IsReached settings rack old → P old → Run settings old entries new → P new
kept_along P settings rack step old [] new reached h run = subst (λ (x : State). P x) (sym run) h
kept_along P settings rack step old (entry ∷ rest) new reached h (mid, goes, run) =
    kept_along P settings rack step mid rest new (reached_on settings rack old entry mid reached goes) (step old entry mid reached h goes) run

pub kept : (P : State → Type 0) (settings : Settings) (rack : List Driver) →
    ((old : State) (entry : Entry) (new : State) → IsReached settings rack old → P old → Goes settings old entry new → P new) →
    P (opening rack) → (s : State) → IsReached settings rack s → P s
kept P settings rack step begin s (entries, run) = kept_along P settings rack step (opening rack) entries s ([], refl) begin run
