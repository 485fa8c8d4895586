-- What a reader gives of a script that was fed whole, and that none of it is of a client.
use Rattle.std.proofs.Common.{ℕ, ◌+◌, ◌≡◌, ◌<◌, Bool, true, false, List, [], ◌∷◌, ◌++◌, length, Option, Some, None, refl, sym, ap, ◌∙◌, subst}
use Rattle.std.specs.Prelude.{IfSome}
use Rattle.std.proofs.lemmas.List.{append-nil}
use Rattle.pnp_labels.specs.declared.event.Event.{Event}
use Rattle.script_reader.specs.Answers.{Answers, given}
use Rattle.script_reader.specs.Reading.{Moves, Reading, give_all}
use Rattle.script_reader.specs.Script as scripts
use Rattle.script_reader.specs.Script.{Trace, gives, ends, stops, trace}
use Rattle.script_reader.specs.declared.line.Line.{Line}
use Rattle.script_reader.specs.declared.next.Next.{Next}
use Rattle.script_reader.specs.declared.next.Next.TheVariants as nexts
use Rattle.free_model.specs.Checks.{IsOfMachine}
use Rattle.live_laws.specs.Scripts.{HasNoClients}
use Rattle.drive_cli.specs.Runs.{GivesNext, event_in}

-- what was to come, over what is still to come
moved : (old new : Reading) (events : List Line) → old.finished ≡ true → Moves old new events
    → trace true old.passed old.rest ≡ give_all events (trace true new.passed new.rest)
moved old new events finished h = ap (trace true old.passed) h.whole ∙ h.same true new.rest (λ e. (refl, refl))

none_at : (script : Trace) → script ≡ ends → HasNoClients script
none_at script is = subst HasNoClients (sym is) tt

none_behind : (script : Trace) (number : ℕ) → script ≡ stops number → HasNoClients script
none_behind script number is = subst HasNoClients (sym is) tt

pub next_gives : (next : Next) (old new : Reading) → old.finished ≡ true → Answers next old new → GivesNext (event_in next) (trace true old.passed old.rest) (trace true new.passed new.rest)
next_gives (nexts.Event event) old new finished (moves, less) = (_, moved old new (given (nexts.Event event) new) finished moves)
next_gives nexts.NeedMore old new finished (moves, line, waits, stored) = absurd (let still = moves.finished ∙ finished in let other = waits.open_ in cc)
next_gives nexts.End old new finished (moves, line, over) =
    none_at (trace true old.passed old.rest) (moved old new [] finished moves ∙ ap (trace true new.passed) over.empty)
next_gives (nexts.Bad line) old new finished (moves, bad, at, number, stuck) =
    none_behind (trace true old.passed old.rest) (new.passed + 1)
    (moved old new [] finished moves ∙ ap (trace true new.passed) (sym (append-nil new.rest)) ∙ stuck.same true [] new.passed (λ e. (refl, refl)))

pub next_smaller : (next : Next) (old new : Reading) → Answers next old new → IfSome (event_in next) (λ e. length new.rest < length old.rest)
next_smaller (nexts.Event event) old new (moves, less) = less
next_smaller nexts.NeedMore old new h = tt
next_smaller nexts.End old new h = tt
next_smaller (nexts.Bad line) old new h = tt

-- before an event that is none of a client, and behind it
pub none_before : (event : Event) (whole old new : Trace) → GivesNext (Some event) old new → IsOfMachine event → (HasNoClients old → HasNoClients whole) → HasNoClients new → HasNoClients whole
none_before event whole old new (number, is) own before none = before (subst HasNoClients (sym is) (own, none))

pub none_after : (event : Event) (whole old new : Trace) → GivesNext (Some event) old new → (HasNoClients whole → HasNoClients old) → HasNoClients whole → HasNoClients new
none_after event whole old new (number, is) before none = (subst HasNoClients is (before none)).1

-- an event of a client is one of the script
pub client_there : (event : Event) (whole old new : Trace) → GivesNext (Some event) old new → (IsOfMachine event → ⊥) → (HasNoClients whole → HasNoClients old) → HasNoClients whole → ⊥
client_there event whole old new (number, is) client before none = client (subst HasNoClients is (before none)).0
