-- A step and an event of a live run, over drivers of the same kinds and names with other books.
use Rattle.std.proofs.Common.{◌≡◌, List, Option, Some, None, refl, sym, ap, ◌∙◌, subst}
use Rattle.pnp_labels.specs.Texts.{label_line}
use Rattle.pnp_labels.specs.declared.event.Event.{Event}
use Rattle.pnp_labels.specs.declared.label.Label.{Label}
use Rattle.pnp_labels.specs.declared.words.Answer.{Answer}
use Rattle.pnp_model.specs.Events.{happens}
use Rattle.pnp_model.specs.Machine.{IsQuiet, Steps}
use Rattle.pnp_model.specs.Records.{Driver, Settings, State}
use Rattle.free_model.specs.Asks.{Query}
use Rattle.free_model.specs.Frees.{FreeSteps, StepsBy, told, with_rack}
use Rattle.free_model.specs.Shapes.{shapes}
use Rattle.free_model.proofs.Outs.{step_is_free}
use Rattle.free_model.proofs.Quiets.{quiet_same}
use Rattle.free_model.proofs.Racks.{faces_of, same_told}
use Rattle.free_model.proofs.TwinEvents.{Related, TwinEvent, twin_happens}
use Rattle.live_model.specs.Lives.{StepsFor}

-- a step by an answer is one over other books
answer_free : (settings : Settings) (f s : State) (answer : Answer) (label : Label) (new : State) → Related f s → StepsBy answer settings s label new
    → (next : State) × FreeSteps settings f label next × Related next new
answer_free settings f s answer label new related (mid, steps, is) =
    let rack : List Driver = related.rack in
    let same : told answer rack ≡ told answer s.core.rack = same_told answer rack s.core.rack (faces_of rack s.core.rack related.shape) in
    let free : FreeSteps settings (with_rack rack s) label (with_rack rack mid) =
    (answer, (mid, subst (λ (u : List Driver). Steps settings (with_rack u s) label mid) (sym same) steps, refl))
    in (
      with_rack rack mid,
      subst (λ (u : State). FreeSteps settings u label (with_rack rack mid)) (sym related.is) free,
      record {
        rack = rack;
        is = ap (with_rack rack) (sym is);
        shape = related.shape ∙ ap (λ (t : State). shapes t.core.rack) (sym is);
      },
    )

-- a step of a live run is one over other books
pub live_free : (settings : Settings) (o : Option Query) (f s : State) (heard : Option Answer) (label : Label) (new : State) → Related f s → StepsFor o settings s heard label new
    → (next : State) × FreeSteps settings f label next × Related next new
live_free settings None f s None label new related h = step_is_free settings f s label new related h
live_free settings None f s (Some answer) label new related h = absurd h
live_free settings (Some q) f s None label new related h = absurd h
live_free settings (Some q) f s (Some answer) label new related h = answer_free settings f s answer label new related h

-- quiet with some books, quiet with others
pub quiet_too : (settings : Settings) (f s : State) → Related f s → IsQuiet settings s → IsQuiet settings f
quiet_too settings f s related h = subst (IsQuiet settings) (sym related.is) (quiet_same settings s related.rack h)

-- an event over other books
pub record Happened (f s : State) (event : Event) : Type 0 where
  pub line : label_line (happens f event).label ≡ label_line (happens s event).label
  pub related : Related (happens f event).state (happens s event).state

pub happened_too : (f s : State) (event : Event) → Related f s → Happened f s event
happened_too f s event related =
    let twin : TwinEvent (happens s event) (happens (with_rack related.rack s) event) = twin_happens s related.rack event related.shape in
    record {
      line = ap label_line (ap (λ (x : State). (happens x event).label) related.is ∙ twin.label);
      related = subst (λ (x : State). Related x (happens s event).state) (sym (ap (λ (x : State). (happens x event).state) related.is)) twin.state;
    }
