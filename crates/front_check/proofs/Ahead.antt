-- What a reader gives next, and whether there are lines of clients behind it.
use Rattle.std.proofs.Common.{ℕ, ◌≡◌, Bool, true, false, Result, IfOk, sym, subst, ◌∙◌}
use Rattle.pnp_labels.specs.Texts.{Text}
use Rattle.pnp_labels.specs.declared.event.Event.{Event}
use Rattle.script_reader.specs.Answers.{Answers}
use Rattle.script_reader.specs.Reading.{Reading}
use Rattle.script_reader.specs.Script.{gives, trace}
use Rattle.script_reader.specs.declared.next.Next.{Next}
use Rattle.free_model.specs.Checks.{IsOfMachine}
use Rattle.front_check.specs.Clients.{IfClients, IsAhead, IsAheadOf, to_come}
use Rattle.front_check.specs.Laws.{HasNoClients}
use Rattle.front_check.specs.declared.clients.Ahead.{Ahead}
use Rattle.front_check.proofs.Turning.{bad_read, end_read, event_read}

pub event_ahead : (ahead : Ahead) (old new : Reading) (event : Event) → old.finished ≡ true → Answers (Next.Event event) old new → IsAheadOf ahead event → IsAhead ahead old new
event_ahead Ahead.Other old new event finished answers own =
    let is : to_come old ≡ gives new.line event (to_come new) = event_read old new event finished answers in (
      λ none. subst HasNoClients (sym is) (own, none),
      λ none. (subst HasNoClients is none).1,
      answers.1,
      answers.0.finished,
    )
event_ahead Ahead.Client old new event finished answers not = λ none. not (subst HasNoClients (event_read old new event finished answers) none).0
event_ahead Ahead.Over old new event finished answers bad = absurd bad

pub end_ahead : (old new : Reading) → old.finished ≡ true → Answers Next.End old new → IsAhead Ahead.Over old new
end_ahead old new finished answers = subst HasNoClients (sym (end_read old new finished answers)) tt

pub bad_ahead : (old new : Reading) (number : ℕ) → old.finished ≡ true → Answers (Next.Bad number) old new → IsAhead Ahead.Over old new
bad_ahead old new number finished answers = subst HasNoClients (sym (bad_read old new number finished answers)) tt

-- a reader that was finished needs no more
pub never_more : (old new : Reading) → old.finished ≡ true → Answers Next.NeedMore old new → ⊥
never_more old new finished (moves, _, waits, _) = let bad : true ≡ false = sym (moves.finished ∙ finished) ∙ waits.open_ in absurd (cc)

-- what is known behind an event is known before it
pub clients_on : (found : Bool) (old new : Reading) → IsAhead Ahead.Other old new → IfClients found (to_come new) → IfClients found (to_come old)
clients_on true old new ahead some = λ none. some (ahead.1 none)
clients_on false old new ahead none = ahead.0 none

-- where the reader begins
pub clients_whole : {E : Type 0} (r : Result Bool E) (reader : Reading) (script : Text) → reader.passed ≡ 0 → reader.rest ≡ script → IfOk r (λ found. IfClients found (to_come reader))
    → IfOk r (λ found. IfClients found (trace true 0 script))
clients_whole r reader script none all h =
    subst (λ (s : Text). IfOk r (λ found. IfClients found (trace true 0 s))) all (subst (λ (n : ℕ). IfOk r (λ found. IfClients found (trace true n reader.rest))) none h)
