-- In a run each join takes one serial, and each event at most one birth number.
use Rattle.std.proofs.Common.{◌+◌, ◌≤◌, ◌≡◌, List, [], ◌∷◌, sym, subst, arith}
use Rattle.pnp_model.specs.Records.{State, Settings}
use Rattle.pnp_model.specs.Runs.{Entry, Goes, Run, printed, opening}
use Rattle.pnp_model.specs.Runs.Entry.{Happens, Did, Declines}
use Rattle.pnp_laws.specs.Words.{joined}
use Rattle.pnp_laws.specs.Ends.{events, joins}
use Rattle.pnp_laws.specs.Serials.{SerialsAreJoinsLaw, FewSerialsLaw, FewBirthsLaw}
use Rattle.pnp_laws.specs.Effects.{WorldEffect}
use Rattle.pnp_laws.proofs.EffectsOf.{effect_goes}
use Rattle.pnp_laws.proofs.JoinLimits.{joins_are_limited}

record Counted (old : State) (entry : Entry) (new : State) : Type 0 where
  serials : new.next_serial ≡ old.next_serial + joined (printed entry)
  births : new.next_born ≤ old.next_born + events (entry ∷ [])

births : (s : State) (entry : Entry) (t : State) → WorldEffect s entry t → t.next_born ≤ s.next_born + events (entry ∷ [])
births s entry t (WorldEffect.same world born) = omega arith
births s entry t (WorldEffect.plugged d plug world born) = subst (λ (x : Entry). t.next_born ≤ s.next_born + events (x ∷ [])) (sym plug.event) (omega arith)
births s entry t (WorldEffect.changed n path reqs prints at up is there e world born) = omega arith
births s entry t (WorldEffect.unplugged gone why world born) = omega arith

counted : (settings : Settings) (old : State) (entry : Entry) (new : State) → Goes settings old entry new → Counted old entry new
counted settings old entry new goes = let effect = effect_goes settings old entry new goes in record { serials = effect.serial; births = births old entry new effect.world }

abbrev AllCounted : State → List Entry → State → Type 0
AllCounted old entries new = (new.next_serial ≡ old.next_serial + joins entries) × (new.next_born ≤ old.next_born + events entries)

counted_first : (old mid new : State) (entry : Entry) (rest : List Entry) → Counted old entry mid → AllCounted mid rest new → AllCounted old (entry ∷ rest) new
counted_first old mid new (Happens event label) rest h more = let a = h.serials in let b = h.births in let c = more.0 in let d = more.1 in (omega arith, omega arith)
counted_first old mid new (Declines label) rest h more = let a = h.serials in let b = h.births in let c = more.0 in let d = more.1 in (omega arith, omega arith)
counted_first old mid new (Did label) rest h more = let a = h.serials in let b = h.births in let c = more.0 in let d = more.1 in (omega arith, omega arith)

counted_run : (settings : Settings) (old : State) (entries : List Entry) (new : State) → Run settings old entries new → AllCounted old entries new
counted_run settings old [] new run = subst (λ (s : State). AllCounted old [] s) (sym run) (omega arith, omega arith)
counted_run settings old (entry ∷ rest) new (mid, goes, run) =
    counted_first old mid new entry rest (counted settings old entry mid goes) (counted_run settings mid rest new run)

pub serials_are_joins : SerialsAreJoinsLaw
serials_are_joins settings rack entries s run = let h = (counted_run settings (opening rack) entries s run).0 in omega arith

pub few_serials : FewSerialsLaw
few_serials settings rack entries s run =
    let h = serials_are_joins settings rack entries s run in
    let few = joins_are_limited settings rack entries s run in
    omega arith

pub few_births : FewBirthsLaw
few_births settings rack entries s run = let h = (counted_run settings (opening rack) entries s run).1 in omega arith
