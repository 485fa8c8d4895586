-- What is written at the end of a script, behind the lines of its labels.
use Rattle.std.proofs.Common.{◌≡◌, ℕ, List, [], ◌++◌, Option, Some, None, IfSome, refl, sym, ◌∙◌, ap, ap₂, subst}
use Rattle.pnp_io.specs.Outside.{Appends, AppendsFront}
use Rattle.pnp_labels.specs.Texts.{Text}
use Rattle.pnp_labels.specs.declared.label.Label.{Label}
use Rattle.inf_reader.specs.declared.parts.Inf.{Inf}
use Rattle.pnp_model.specs.Records.{State, Settings, Driver}
use Rattle.pnp_model.specs.Runs.{opening}
use Rattle.script_reader.specs.Script.{Trace, gives, waits, ends, stops}
use Rattle.pnp_machine.specs.Managers.{Manager, settings}
use Rattle.notify_front.specs.Desks.{Desk, IsAtStart, front_of, opening_desk, told_of}
use Rattle.notify_front.specs.Fronts.{Front, IsFrontQuiet, opening_front}
use Rattle.pnp_cli.specs.Outputs.{Plays, text_of, bad_text, end_text, written}
use Rattle.pnp_cli.specs.Contents.{events_of, script_status, TookFront}
use Rattle.pnp_cli.specs.Pieces.{Ran, line_of_bad, answer_by}
use Rattle.pnp_cli.specs.Runs.{IsPrintedFor, Wrote, WroteFront}
use Rattle.pnp_cli.specs.Turns.{Awaits}
use Rattle.pnp_cli.specs.declared.tally.Tally.{Tally}
use Rattle.pnp_cli.proofs.Fronts.{none_is_front, appends_both, front_in, front_after}
use Rattle.pnp_cli.proofs.Sameness.{SameEnd, follows_one}

-- the events of a script lead to one list of labels and one state at most
pub plays_one : (told : Settings) (f : Front) (t : Trace) (labels labels' : List Label) (last last' : Front) → Plays told f t labels last → Plays told f t labels' last' → SameEnd labels labels' last last'
plays_one told f (gives number event rest) labels labels' last last' (here, new, more, follows, plays, is) (here', new', more', follows', plays', is') =
    let first : SameEnd here here' new new' = follows_one told f new new' event here here' follows follows' in
    let later : SameEnd more more' last last' = plays_one told new' rest more more' last last' (subst (λ (x : Front). Plays told x rest more last) first.front plays) plays' in
    record { labels = is ∙ ap₂ (λ (xs ys : List Label). xs ++ ys) first.labels later.labels ∙ sym is'; front = later.front }
plays_one told f ends labels labels' last last' h g = record { labels = h.0 ∙ sym g.0; front = h.1 ∙ sym g.1 }
plays_one told f (stops number) labels labels' last last' h g = record { labels = h.0 ∙ sym g.0; front = h.1 ∙ sym g.1 }
plays_one told f waits labels labels' last last' h g = absurd h

-- the answer
decided_file : (bad : Option ℕ) (d d' : Desk) (file : Option (List ℕ)) (t t' : Option Text) (c c' : Tally) → Ran bad d file t c d' t' c' → script_status file ≡ Some (answer_by bad)
decided_file bad d d' file t t' c c' h = ap script_status h.there ∙ ap Some h.answer

pub decided_told : (contents : Option (Text → Option (List ℕ))) (name : Text) (bad : Option ℕ) (d d' : Desk) (t t' : Option Text) (c c' : Tally)
    → IfSome contents (λ told. Ran bad d (told name) t c d' t' c') → IfSome contents (λ told. script_status (told name) ≡ Some (answer_by bad))
decided_told None name bad d d' t t' c c' h = tt
decided_told (Some told) name bad d d' t t' c c' h = decided_file bad d d' (told name) t t' c c' h

-- the output, where all of it was written
wrote_file : (bad : Option ℕ) (d d' : Desk) (file : Option (List ℕ)) (t t' t'' : Option Text) (c c' : Tally) → Ran bad d file t c d' t' c' → Appends t' t'' (line_of_bad bad ++ end_text d'.manager.state)
    → Wrote (IsPrintedFor (told_of d) (front_of d) file) t t''
wrote_file bad d d' file t t' t'' c c' h took =
    subst (λ (x : Option (List ℕ)). Wrote (IsPrintedFor (told_of d) (front_of d) x) t t'') (sym h.there) (
      written (events_of h.script) h.labels d'.manager.state,
      (h.labels, front_of d', h.plays, refl),
      subst (λ (x : Text). Appends t t'' (text_of h.labels ++ (x ++ end_text d'.manager.state))) (sym h.line)
          (appends_both t t' t'' (text_of h.labels) (line_of_bad bad ++ end_text d'.manager.state) h.told.took took),
    )

pub wrote_told : (contents : Option (Text → Option (List ℕ))) (name : Text) (bad : Option ℕ) (d d' : Desk) (t t' t'' : Option Text) (c c' : Tally)
    → IfSome contents (λ told. Ran bad d (told name) t c d' t' c') → Appends t' t'' (line_of_bad bad ++ end_text d'.manager.state)
    → IfSome contents (λ told. Wrote (IsPrintedFor (told_of d) (front_of d) (told name)) t t'')
wrote_told None name bad d d' t t' t'' c c' h took = tt
wrote_told (Some told) name bad d d' t t' t'' c c' h took = wrote_file bad d d' (told name) t t' t'' c c' h took

-- a front of it, where a front of the end was written
front_by_end : (bad : Option ℕ) (d d' : Desk) (script : List ℕ) (t t' t'' : Option Text) (labels : List Label) → Plays (told_of d) (front_of d) (events_of script) labels (front_of d') → Appends t t' (text_of labels)
    → bad_text (events_of script) ≡ line_of_bad bad → AppendsFront t' t'' (line_of_bad bad ++ end_text d'.manager.state) → WroteFront (IsPrintedFor (told_of d) (front_of d) (Some script)) t t''
front_by_end bad d d' script t t' t'' labels plays took line front = λ text output. here text output
  where
    here : (text : Text) → IsPrintedFor (told_of d) (front_of d) (Some script) text → AppendsFront t t'' text
    here text (labels', last', plays', is) =
        let same : SameEnd labels labels' (front_of d') last' = plays_one (told_of d) (front_of d) (events_of script) labels labels' (front_of d') last' plays plays' in
        subst (λ (x : Text). AppendsFront t t'' x)
        (ap (λ (x : Text). text_of labels ++ (x ++ end_text d'.manager.state)) (sym line) ∙ ap₂ (λ (ls : List Label) (f : Front). written (events_of script) ls f.state) same.labels same.front ∙ sym is)
        (front_after t t' t'' (text_of labels) (line_of_bad bad ++ end_text d'.manager.state) took front)

pub front_told : (contents : Option (Text → Option (List ℕ))) (name : Text) (bad : Option ℕ) (d d' : Desk) (t t' t'' : Option Text) (c c' : Tally)
    → IfSome contents (λ told. Ran bad d (told name) t c d' t' c') → AppendsFront t' t'' (line_of_bad bad ++ end_text d'.manager.state)
    → IfSome contents (λ told. WroteFront (IsPrintedFor (told_of d) (front_of d) (told name)) t t'')
front_told None name bad d d' t t' t'' c c' h front = tt
front_told (Some told) name bad d d' t t' t'' c c' h front =
    subst (λ (x : Option (List ℕ)). WroteFront (IsPrintedFor (told_of d) (front_of d) x) t t'') (sym h.there)
    (front_by_end bad d d' h.script t t' t'' h.labels h.plays h.told.took h.line front)

-- and where a front of the lines was
took_file : (told : Settings) (f : Front) (file : Option (List ℕ)) (t t' : Option Text) → TookFront told f file t t' → WroteFront (IsPrintedFor told f file) t t'
took_file told f None t t' h = λ text is. subst (λ (x : Option Text). AppendsFront t x text) (sym h) (none_is_front t text)
took_file told f (Some script) t t' h = λ text output. here text output
  where
    here : (text : Text) → IsPrintedFor told f (Some script) text → AppendsFront t t' text
    here text (labels, last, plays, is) =
        subst (λ (x : Text). AppendsFront t t' x) (sym is) (front_in t t' (text_of labels) (bad_text (events_of script) ++ end_text last.state) (h labels last plays))

pub took_told : (contents : Option (Text → Option (List ℕ))) (name : Text) (told_machine : Settings) (f : Front) (t t' : Option Text)
    → IfSome contents (λ told. TookFront told_machine f (told name) t t') → IfSome contents (λ told. WroteFront (IsPrintedFor told_machine f (told name)) t t')
took_told None name told_machine f t t' h = tt
took_told (Some told) name told_machine f t t' h = took_file told_machine f (told name) t t' h

-- a manager that was just made has done nothing
pub starts_here : (infs : List Inf) (budget : ℕ) (rack : List Driver) (m : Manager) → m ≡ record { infs = infs; budget = budget; events = 0; state = opening rack } → IsAtStart m
starts_here infs budget rack m is = record { rack = rack; opens = ap (λ (x : Manager). x.state) is; events = ap (λ (x : Manager). x.events) is }

-- and the front over it awaits the first event
pub awaits_first : (m : Manager) → IsAtStart m → Awaits (opening_desk m)
awaits_first m start =
    record {
      run = record { rack = start.rack; entries = []; reaches = ap opening_front start.opens; count = sym start.events; within = tt };
      quiet = subst (λ (s : State). IsFrontQuiet (settings m) (opening_front s)) (sym start.opens) refl;
    }
