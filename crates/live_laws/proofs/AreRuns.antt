-- What a live run writes is, but for its notes, a run of the script as it was lived.
use Rattle.std.proofs.Common.{ℕ, ◌+◌, ◌≡◌, ◌⊎◌, inl, inr, Bool, true, false, not, List, [], ◌∷◌, ◌++◌, Option, Some, None, option_map, refl, sym, ap, ◌∙◌, subst, if◌then◌else◌}
use Rattle.std.proofs.lemmas.List.{append_assoc}
use Rattle.std.proofs.lemmas.List.Elements.{filter-append}
use Rattle.pnp_labels.specs.Texts.{Text, label_line}
use Rattle.pnp_labels.specs.declared.event.Event.{Event}
use Rattle.pnp_labels.specs.declared.label.Label.{Label}
use Rattle.pnp_labels.specs.declared.words.Answer.{Answer}
use Rattle.pnp_model.specs.Books.{name_of}
use Rattle.pnp_model.specs.Endings.{ending, joined}
use Rattle.pnp_model.specs.Events.{happens}
use Rattle.pnp_model.specs.Machine.{IsQuiet}
use Rattle.pnp_model.specs.Records.{Settings, State}
use Rattle.script_reader.specs.Reading.{give_all}
use Rattle.script_reader.specs.Script.{Trace, gives, ends, stops}
use Rattle.script_reader.specs.declared.line.Line as lines
use Rattle.free_model.specs.Checks.{AllowsFirst, Ends, Follow, IsOfMachine, IsYes, Runs, bad_line, end_bytes}
use Rattle.free_model.specs.Frees.{FreeSteps, free_opening}
use Rattle.free_model.specs.Outputs.{end_text, error_line}
use Rattle.free_model.proofs.Outs.{ending_same, error_too, follow_due, joined_on}
use Rattle.free_model.proofs.Racks.{faces_of}
use Rattle.free_model.proofs.TwinEvents.{Related}
use Rattle.live_model.specs.Lives.{Lives, StepsFor, live_query}
use Rattle.live_model.specs.Notes.{ask_line, broke_lines, done_line, poll_words, probe_lines, probe_words, query_words}
use Rattle.live_model.specs.Outputs.{Acts, Ask, Asks, AsksPoll, AsksProbe, AsksStep, BadLine, Done, Ended, Goes, IsOver, Leads, Place, Probes, Rests, Stand, behind_line, completion, happening, labelled, lived, with_more}
use Rattle.live_model.specs.Outputs as live
use Rattle.live_model.specs.Trails.{drivers_of}
use Rattle.live_laws.specs.Laws.{EachLiveOutputIsARunLaw}
use Rattle.live_laws.specs.Notes.{is_note, without_notes}
use Rattle.live_laws.specs.Scripts.{HasNoClients}
use Rattle.live_laws.proofs.Books.{happened_too, live_free, quiet_too}
use Rattle.live_laws.proofs.Nobody.{give_more}
use Rattle.live_laws.proofs.Pieces.{Notes, ask_text, broke_notes, done_notes, label_is, probe_notes}
use Rattle.live_laws.proofs.Saying.{more_more, no_more}

-- Traces -----------------------------------------------------------------------------------------

yes_more : (settings : Settings) (f next : State) (script : Trace) (label : Label) (trace : Text) → FreeSteps settings f label next → IsYes settings (Runs next script) trace
    → IsYes settings (Runs f script) (label_line label ++ 10 ∷ trace)
yes_more settings f next script label trace free (lines, follow, is) =
    (label_line label ∷ lines, (Runs next script, inl (label, next, free, refl, refl), follow), ap (λ (t : Text). label_line label ++ 10 ∷ t) is)

yes_event : (settings : Settings) (f s : State) (number : ℕ) (event : Event) (rest : Trace) (trace : Text) → Related f s → IsQuiet settings s → IsOfMachine event
    → IsYes settings (Runs (happens f event).state rest) trace → IsYes settings (Runs f (gives number event rest)) (label_line (happens s event).label ++ 10 ∷ trace)
yes_event settings f s number event rest trace related quiet own (lines, follow, is) =
    let h = happened_too f s event related in (
      label_line (happens s event).label ∷ lines,
      (Runs (happens f event).state rest, inr (quiet_too settings f s related quiet, (own, sym h.line, refl)), follow),
      ap (λ (t : Text). label_line (happens s event).label ++ 10 ∷ t) is,
    )

-- The end of the output --------------------------------------------------------------------------

end_same : (f s : State) → Related f s → end_text f ≡ end_text s
end_same f s related = ap joined (ap ending related.is ∙ ending_same s related.rack (faces_of related.rack s.core.rack related.shape))

-- what is due begins with a line
due_starts : (settings : Settings) (f : State) (byte : ℕ) (due : Text) (lines : List Text) → IsQuiet settings f → byte ∷ due ≡ end_bytes f → Follow settings (Ends (byte ∷ due)) lines (Ends [])
    → byte ∷ due ≡ joined lines → IsYes settings (Runs f ends) (byte ∷ due)
due_starts settings f byte due [] quiet whole follow is = absurd (cc)
due_starts settings f byte due (line ∷ lines) quiet whole (mid, allows, follow) is =
    (line ∷ lines, (mid, inr (quiet, subst (λ (t : Text). AllowsFirst t line mid) whole allows), follow), is)

yes_end : (settings : Settings) (f s : State) → Related f s → IsQuiet settings s → IsYes settings (Runs f ends) (end_text s)
yes_end settings f s related quiet =
    let due = follow_due settings (ending f) in
    subst (IsYes settings (Runs f ends)) (end_same f s related) (due_starts settings f _ _ due.lines (quiet_too settings f s related quiet) refl due.follow due.is)

yes_bad : (settings : Settings) (f s : State) (number : ℕ) → Related f s → IsQuiet settings s → IsYes settings (Runs f (stops number)) (bad_line number ++ 10 ∷ end_text s)
yes_bad settings f s number related quiet =
    let due = follow_due settings (ending f) in (
      bad_line number ∷ due.lines,
      (Ends (end_bytes f), inr (quiet_too settings f s related quiet, (refl, refl)), due.follow),
      ap (λ (t : Text). bad_line number ++ 10 ∷ t) (sym (end_same f s related) ∙ due.is),
    )

-- What is written ----------------------------------------------------------------------------------

-- from here on these lines were written and the end, which without their notes are a run of the script from this state on
record Wrote (settings : Settings) (end : Text) (script : Trace) (f : State) (all so_far : Option Text) : Type 0 where
  lines : List Text
  is : all ≡ option_map (with_more (joined lines ++ end)) so_far
  yes : IsYes settings (Runs f script) (joined (without_notes lines) ++ end)

wrote_notes : (settings : Settings) (end : Text) (script : Trace) (f : State) (all o : Option Text) (text : Text) (lines : List Text) → text ≡ joined lines → without_notes lines ≡ []
    → Wrote settings end script f all (option_map (with_more text) o) → Wrote settings end script f all o
wrote_notes settings end script f all o text lines is notes h =
    let texts : text ++ (joined h.lines ++ end) ≡ joined (lines ++ h.lines) ++ end =
    ap (λ (t : Text). t ++ (joined h.lines ++ end)) is ∙ sym (append_assoc (joined lines) (joined h.lines) end) ∙ ap (λ (t : Text). t ++ end) (sym (joined_on lines h.lines))
    in
    let plain : without_notes (lines ++ h.lines) ≡ without_notes h.lines =
    filter-append (λ (line : Text). not (is_note line)) lines h.lines ∙ ap (λ (t : List Text). t ++ without_notes h.lines) notes
    in
    record {
      lines = lines ++ h.lines;
      is = h.is ∙ more_more o text (joined h.lines ++ end) ∙ ap (λ (t : Text). option_map (with_more t) o) texts;
      yes = subst (λ (t : List Text). IsYes settings (Runs f script) (joined t ++ end)) (sym plain) h.yes;
    }

-- a line that is no note
wrote_line : (settings : Settings) (end : Text) (script rest : Trace) (f next : State) (all o : Option Text) (line : Text) → is_note line ≡ false
    → ((trace : Text) → IsYes settings (Runs next rest) trace → IsYes settings (Runs f script) (line ++ 10 ∷ trace))
    → Wrote settings end rest next all (option_map (with_more (line ++ 10 ∷ [])) o) → Wrote settings end script f all o
wrote_line settings end script rest f next all o line no_note more h =
    let texts : (line ++ 10 ∷ []) ++ (joined h.lines ++ end) ≡ (line ++ 10 ∷ joined h.lines) ++ end =
    append_assoc line (10 ∷ []) (joined h.lines ++ end) ∙ sym (append_assoc line (10 ∷ joined h.lines) end)
    in
    let plain : without_notes (line ∷ h.lines) ≡ line ∷ without_notes h.lines = ap (λ (b : Bool). if not b then line ∷ without_notes h.lines else without_notes h.lines) no_note in
    let trace : line ++ 10 ∷ (joined (without_notes h.lines) ++ end) ≡ joined (without_notes (line ∷ h.lines)) ++ end =
    sym (append_assoc line (10 ∷ joined (without_notes h.lines)) end) ∙ ap (λ (t : List Text). joined t ++ end) (sym plain)
    in
    record {
      lines = line ∷ h.lines;
      is = h.is ∙ more_more o (line ++ 10 ∷ []) (joined h.lines ++ end) ∙ ap (λ (t : Text). option_map (with_more t) o) texts;
      yes = subst (IsYes settings (Runs f script)) trace (more (joined (without_notes h.lines) ++ end) h.yes);
    }

-- Places -----------------------------------------------------------------------------------------

-- the script as it was lived from here on, and what was written
record Lived (settings : Settings) (last s : Stand) (f : State) : Type 0 where
  script : Trace
  script_is : lived last ≡ give_all s.happened script
  wrote : Wrote settings (end_text last.state) script f last.told.taken s.told.taken

abbrev IsLived : Settings → Stand → Stand → Type 0
IsLived settings last s = (f : State) → Related f s.state → HasNoClients s.script → Lived settings last s f

abbrev AskLived : Settings → Stand → Ask → Stand → Type 0
AskLived settings last (AsksStep q) s = IsLived settings last s
AskLived settings last (AsksProbe path state driver more) s = IsLived settings last s
AskLived settings last AsksPoll s = IsQuiet settings s.state → IsLived settings last s

abbrev LivedAt : Settings → Ended → Stand → Place → Type 0
LivedAt settings ended last (Acts s) = IsLived settings last s
LivedAt settings ended last (Asks ask s) = AskLived settings last ask s
LivedAt settings ended last (Probes path state drivers s) = IsLived settings last s
LivedAt settings ended last (Rests s) = IsQuiet settings s.state → IsLived settings last s
LivedAt settings ended last (IsOver e s) = (e ≡ ended) × (s ≡ last)

of_behind : (settings : Settings) (ended : Ended) (last : Stand) (lives : Lives) (label : Label) (s : Stand) → LivedAt settings ended last (behind_line lives label s) → IsLived settings last s
of_behind settings ended last lives (Label.State path state) s h = by_probed lives.probed h
  where
    by_probed : (probed : Bool) → LivedAt settings ended last (if probed then Probes path state (drivers_of path s.trail) s else Acts s) → IsLived settings last s
    by_probed true g = g
    by_probed false g = g
of_behind settings ended last lives _ s h = h

-- notes are written, and nothing else changes
notes_lived : (settings : Settings) (last s t : Stand) (text : Text) (told_lines : List Text) → text ≡ joined told_lines → without_notes told_lines ≡ [] → t.state ≡ s.state → t.script ≡ s.script
    → t.happened ≡ s.happened → t.told.taken ≡ option_map (with_more text) s.told.taken → IsLived settings last t → IsLived settings last s
notes_lived settings last s t text told_lines is notes state script happened taken h f related free =
    let g = h f (subst (Related f) (sym state) related) (subst HasNoClients (sym script) free) in
    record {
      script = g.script;
      script_is = g.script_is ∙ ap (λ (x : List lines.Line). give_all x g.script) happened;
      wrote = wrote_notes settings (end_text last.state) g.script f last.told.taken s.told.taken text told_lines is notes (subst (Wrote settings (end_text last.state) g.script f last.told.taken) taken g.wrote);
    }

ask_lived : (settings : Settings) (last s : Stand) (words : Text) → IsLived settings last (live.asking words s) → IsLived settings last s
ask_lived settings last s words h =
    notes_lived settings last s (live.asking words s) (ask_line (s.told.asks + 1) words) (ask_text (s.told.asks + 1) words ∷ []) refl refl refl refl refl refl h

heard_lived : (settings : Settings) (last s : Stand) (line text : Text) (rest : Option Text) → Notes text → IsLived settings last (live.saying text (live.hearing line rest s))
    → IsLived settings last s
heard_lived settings last s line text rest notes h =
    notes_lived settings last s (live.saying text (live.hearing line rest s)) text notes.lines notes.is notes.notes refl refl refl refl h

step_lived : (lives : Lives) (settings : Settings) (last s : Stand) (heard : Option Answer) (label : Label) (new : State) → StepsFor (live_query lives s.state) settings s.state heard label new
    → IsLived settings last (labelled lives label new s) → IsLived settings last s
step_lived lives settings last s heard label new steps h f related free =
    let (next, goes, kept) = live_free settings (live_query lives s.state) f s.state heard label new related steps in
    let g = h next kept free in
    record {
      script = g.script;
      script_is = g.script_is;
      wrote = wrote_line settings (end_text last.state) g.script g.script f next last.told.taken s.told.taken (label_line label) (label_is label)
          (λ trace yes. yes_more settings f next g.script label trace goes yes) g.wrote;
    }

event_lived : (lives : Lives) (settings : Settings) (last s : Stand) (line : lines.Line) (rest : Trace) → IsQuiet settings s.state → IsOfMachine line.event
    → (HasNoClients s.script → HasNoClients rest) → IsLived settings last (happening lives (happens s.state line.event) line rest s) → IsLived settings last s
event_lived lives settings last s line rest quiet own none h f related free =
    let g = h (happens f line.event).state (happened_too f s.state line.event related).related (none free) in
    record {
      script = gives line.line line.event g.script;
      script_is = g.script_is ∙ give_more s.happened line g.script;
      wrote = wrote_line settings (end_text last.state) (gives line.line line.event g.script) g.script f (happens f line.event).state last.told.taken s.told.taken
          (label_line (happens s.state line.event).label) (label_is (happens s.state line.event).label)
          (λ trace yes. yes_event settings f s.state line.line line.event g.script trace related quiet own yes) g.wrote;
    }

event_of_script : (lives : Lives) (settings : Settings) (last s : Stand) (line : lines.Line) (rest : Trace) → IsQuiet settings s.state → s.script ≡ gives line.line line.event rest
    → IsLived settings last (happening lives (happens s.state line.event) line rest s) → IsLived settings last s
event_of_script lives settings last s line rest quiet is h f related free =
    let (own, none) = subst HasNoClients is free in
    event_lived lives settings last s line rest quiet own (λ all. none) h f related free

done_lived : (settings : Settings) (last s : Stand) → IsQuiet settings s.state → s.script ≡ ends → live.saying (end_text s.state) s ≡ last → IsLived settings last s
done_lived settings last s quiet is ends_so f related free = subst (λ (t : Stand). Lived settings t s f) ends_so (record {
  script = ends;
  script_is = ap (give_all s.happened) is;
  wrote = record { lines = []; is = refl; yes = yes_end settings f s.state related quiet };
})

bad_lived : (settings : Settings) (last s : Stand) (number : ℕ) → IsQuiet settings s.state → s.script ≡ stops number → live.saying (error_line number ++ end_text s.state) s ≡ last
    → IsLived settings last s
bad_lived settings last s number quiet is ends_so f related free =
    let end : Text = end_text s.state in
    let one : (bad_line number ++ 10 ∷ []) ++ end ≡ bad_line number ++ 10 ∷ end = append_assoc (bad_line number) (10 ∷ []) end in
    subst (λ (t : Stand). Lived settings t s f) ends_so (record {
      script = stops number;
      script_is = ap (give_all s.happened) is;
      wrote = record {
        lines = bad_line number ∷ [];
        is = ap (λ (t : Text). option_map (with_more t) s.told.taken) (error_too number end ∙ sym one);
        yes = subst (IsYes settings (Runs f (stops number))) (sym one) (yes_bad settings f s.state number related quiet);
      };
    })

-- the run came to the end of its script
abbrev IsWhole : Ended → Type 0
IsWhole ended = (ended ≡ Done) ⊎ (ended ≡ BadLine)

not_lost : {A : Type 0} (ended : Ended) → IsWhole ended → live.AnswersEnd ≡ ended → A
not_lost ended (inl done) e = absurd (cc)
not_lost ended (inr bad) e = absurd (cc)

not_wrong : {A : Type 0} (ended : Ended) → IsWhole ended → live.AnswersBad ≡ ended → A
not_wrong ended (inl done) e = absurd (cc)
not_wrong ended (inr bad) e = absurd (cc)

lost_at : (settings : Settings) (ended : Ended) (last : Stand) (ask : Ask) (s : Stand) → IsWhole ended → live.AnswersEnd ≡ ended → AskLived settings last ask s
lost_at settings ended last (AsksStep q) s whole e = not_lost ended whole e
lost_at settings ended last (AsksProbe path state driver more) s whole e = not_lost ended whole e
lost_at settings ended last AsksPoll s whole e = not_lost ended whole e

wrong_at : (settings : Settings) (ended : Ended) (last : Stand) (ask : Ask) (s : Stand) → IsWhole ended → live.AnswersBad ≡ ended → AskLived settings last ask s
wrong_at settings ended last (AsksStep q) s whole e = not_wrong ended whole e
wrong_at settings ended last (AsksProbe path state driver more) s whole e = not_wrong ended whole e
wrong_at settings ended last AsksPoll s whole e = not_wrong ended whole e

goes_lived : (lives : Lives) (settings : Settings) (ended : Ended) (last : Stand) (p q : Place) → IsWhole ended → Goes lives settings p q → LivedAt settings ended last q
    → LivedAt settings ended last p
goes_lived lives settings ended last _ _ whole (live.steps s label new h) next =
    step_lived lives settings last s None label new h (of_behind settings ended last lives label (labelled lives label new s) next)
goes_lived lives settings ended last _ _ whole (live.asks s q is) next = ask_lived settings last s (query_words s.state q) next
goes_lived lives settings ended last _ _ whole (live.answered s q line rest reply label new heard is h) next =
    let notes : Notes (broke_lines s.told.asks (name_of s.state.core.rack q.driver) reply.tags) = broke_notes s.told.asks (name_of s.state.core.rack q.driver) reply.tags in
    heard_lived settings last s line (broke_lines s.told.asks (name_of s.state.core.rack q.driver) reply.tags) rest notes
    (step_lived lives settings last (live.saying (broke_lines s.told.asks (name_of s.state.core.rack q.driver) reply.tags) (live.hearing line rest s)) (Some reply.answer) label new h
    (of_behind settings ended last lives label _ next))
goes_lived lives settings ended last _ _ whole (live.probes s path state driver more) next = ask_lived settings last s (probe_words path driver) next
goes_lived lives settings ended last _ _ whole (live.probed s path state driver more line rest reply heard is) next =
    heard_lived settings last s line (probe_lines s.told.asks driver state reply.answer reply.tags) rest (probe_notes s.told.asks driver state reply.answer reply.tags) next
goes_lived lives settings ended last _ _ whole (live.probed_all s path state) next = next
goes_lived lives settings ended last _ _ whole (live.rests s quiet none) next = next quiet
goes_lived lives settings ended last _ _ whole (live.polls s w more quiet some) next = ask_lived settings last s poll_words (next quiet)
goes_lived lives settings ended last _ _ whole (live.waits s line rest heard is) next = λ quiet.
    notes_lived settings last s (live.hearing line rest s) [] [] refl refl refl refl refl (no_more s.told.taken) (next quiet)
goes_lived lives settings ended last _ _ whole (live.complete s line rest c w heard is there) next = λ quiet.
    heard_lived settings last s line (done_line s.told.asks w.driver ++ broke_lines s.told.asks w.driver c.tags) rest (done_notes s.told.asks w.driver c.tags)
    (event_lived lives settings last (live.saying (done_line s.told.asks w.driver ++ broke_lines s.told.asks w.driver c.tags) (live.hearing line rest s)) (completion c) s.script quiet tt
    (λ free. free) next)
goes_lived lives settings ended last _ _ whole (live.event s number event rest is) next = λ quiet.
    event_of_script lives settings last s (record { line = number; event = event }) rest quiet is next
goes_lived lives settings ended last _ _ whole (live.done s is) (e, ends_so) = λ quiet. done_lived settings last s quiet is ends_so
goes_lived lives settings ended last _ _ whole (live.bad s number is) (e, ends_so) = λ quiet. bad_lived settings last s number quiet is ends_so
goes_lived lives settings ended last _ _ whole (live.no_line ask s line rest heard) (e, ends_so) = lost_at settings ended last ask s whole e
goes_lived lives settings ended last _ _ whole (live.long_line ask s line rest heard) (e, ends_so) = wrong_at settings ended last ask s whole e
goes_lived lives settings ended last _ _ whole (live.no_answer ask s line rest heard missed) (e, ends_so) = wrong_at settings ended last ask s whole e

leads_lived : (lives : Lives) (settings : Settings) (ended : Ended) (last : Stand) (p q : Place) → IsWhole ended → q ≡ IsOver ended last → Leads lives settings p q
    → LivedAt settings ended last p
leads_lived lives settings ended last p _ whole is (live.here _) = subst (LivedAt settings ended last) (sym is) (refl, refl)
leads_lived lives settings ended last p q whole is (live.goes _ m _ goes more) =
    goes_lived lives settings ended last p m whole goes (leads_lived lives settings ended last m q whole is more)

pub each_live_output_is_a_run : EachLiveOutputIsARunLaw
each_live_output_is_a_run lives settings kinds script answers out ended then_lived free whole h =
    let s : State = free_opening kinds in
    let first = leads_lived lives settings ended h.run.last _ _ whole refl h.run.leads s (record { rack = s.core.rack; is = refl; shape = refl }) free in
    let text : Some out ≡ Some (joined first.wrote.lines ++ end_text h.run.last.state) = sym h.is ∙ first.wrote.is in
    record {
      lines = first.wrote.lines;
      is = cc;
      yes = subst (λ (t : Trace). IsYes settings (Runs s t) (joined (without_notes first.wrote.lines) ++ end_text h.run.last.state)) (sym (h.script_is ∙ first.script_is)) first.wrote.yes;
    }
