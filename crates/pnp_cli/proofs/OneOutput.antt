-- Each script has one output, and no other.
use Rattle.std.proofs.Common.{◌≡◌, ℕ, ◌+◌, true, List, [], ◌∷◌, ◌++◌, map, Option, Some, None, IfSome, Result, Ok, Err, refl, sym, ◌∙◌, ap, ap₂}
use Rattle.device_ids.specs.Cuts.{parts}
use Rattle.pnp_labels.specs.Texts.{Text}
use Rattle.pnp_labels.specs.declared.event.Event.{Event}
use Rattle.pnp_labels.specs.declared.label.Label.{Label}
use Rattle.pnp_labels.specs.declared.words.DriverKind.{DriverKind}
use Rattle.inf_reader.specs.declared.parts.Inf.{Inf}
use Rattle.inf_reader.specs.declared.parts.InfError.{InfError}
use Rattle.inf_reader.specs.Meaning.{inf}
use Rattle.pnp_model.specs.Records as machines
use Rattle.pnp_model.specs.Records.{Driver}
use Rattle.pnp_model.specs.Runs.{opening}
use Rattle.notify_front.specs.Fronts.{Front, FrontEntry, FrontStep, IsFrontQuiet, front_happens, front_printed, opening_front}
use Rattle.notify_front.specs.Laws.{ComesToRest}
use Rattle.notify_front.specs.Notices.{FrontGoes, FrontRun}
use Rattle.notify_front.proofs.FrontEnd.{each_rests}
use Rattle.script_reader.specs.Script.{Meaning, nothing, means, bad, whole_line, last_line, Trace, gives, waits, ends, stops, onward, at_end, of_lines}
use Rattle.pnp_cli.specs.Contents.{events_of}
use Rattle.pnp_cli.specs.Checks.{Outcome, ShowsOutcome, file_in, outcome_text}
use Rattle.pnp_cli.specs.Infs.{infs_in, refusal_line}
use Rattle.pnp_cli.specs.Outputs.{Settles, Follows, Plays, Report, Shows, written}
use Rattle.pnp_cli.specs.Generated.{gen_script, gen_inf}
use Rattle.pnp_cli.specs.Summaries.{summary}
use Rattle.pnp_cli.specs.Runs.{IsOnly, IsOutput, IsOutputBy, IsOutputFor, IsOutputWith, IsScriptOutput, IsSummaryBy, IsVerdict, ExactlyOneOutputLaw, WroteFront, WroteOneFront, machine, told_to}
use Rattle.pnp_cli.specs.declared.infs.InfsError.{InfsError}
use Rattle.pnp_cli.specs.declared.infs.InfsError.TheVariants as faults
use Rattle.pnp_cli.specs.declared.parts.Settings.{Settings}
use Rattle.pnp_cli.proofs.Checking.{one_outcome, some_outcome}
use Rattle.pnp_cli.proofs.Ended.{plays_one}
use Rattle.pnp_cli.proofs.FrontEntries.{event_goes, run_on, settles_by}
use Rattle.pnp_cli.proofs.Sameness.{SameEnd}

-- A script that is read to its end waits for nothing ------------------------------------

abbrev NeverWaits : Trace → Type 0
NeverWaits (gives number event rest) = NeverWaits rest
NeverWaits waits = ⊥
NeverWaits ends = Unit {0}
NeverWaits (stops number) = Unit {0}

onward_waits : (number : ℕ) (m : Meaning) (rest : Trace) → NeverWaits rest → NeverWaits (onward number m rest)
onward_waits number nothing rest h = h
onward_waits number (means event) rest h = h
onward_waits number bad rest h = tt

end_waits : (passed : ℕ) (rest : List ℕ) → NeverWaits (at_end true passed rest)
end_waits passed [] = tt
end_waits passed (byte ∷ rest) = onward_waits (passed + 1) (last_line (byte ∷ rest)) ends tt

lines_wait : (passed : ℕ) (lines : List (List ℕ)) → NeverWaits (of_lines true passed lines)
lines_wait passed [] = tt
lines_wait passed (rest ∷ []) = end_waits passed rest
lines_wait passed (line ∷ next ∷ lines) = onward_waits (passed + 1) (whole_line line) (of_lines true (passed + 1) (next ∷ lines)) (lines_wait (passed + 1) (next ∷ lines))

finished_never_waits : (script : List ℕ) → NeverWaits (events_of script)
finished_never_waits script = lines_wait 0 (parts 0x0A script)

-- There is an output ----------------------------------------------------------------------

-- a quiet front of a run
record Resting (settings : machines.Settings) (rack : List Driver) (f : Front) : Type 0 where
  entries : List FrontEntry
  run : FrontRun settings (opening_front (opening rack)) entries f
  quiet : IsFrontQuiet settings f

settles_some : (settings : machines.Settings) (rack : List Driver) (entries : List FrontEntry) (f : Front) → FrontRun settings (opening_front (opening rack)) entries f
    → (labels : List Label) × (new : Front) × Settles settings f labels new × Resting settings rack new
settles_some settings rack entries f run =
    let h : ComesToRest settings f = each_rests settings rack entries f run in (
      map front_printed h.steps,
      h.last,
      settles_by settings f h.last h.steps h.alone h.run h.quiet,
      record { entries = entries ++ h.steps; run = run_on settings (opening_front (opening rack)) f h.last entries h.steps run h.run; quiet = h.quiet },
    )

follows_some : (settings : machines.Settings) (rack : List Driver) (f : Front) (event : Event) → Resting settings rack f
    → (labels : List Label) × (new : Front) × Follows settings f event labels new × Resting settings rack new
follows_some settings rack f event h =
    let step : FrontStep = front_happens f event in
    let goes : FrontGoes settings f step.entry step.front = event_goes settings f event h.quiet in
    let more = settles_some settings rack (h.entries ++ step.entry ∷ []) step.front
    (run_on settings (opening_front (opening rack)) f step.front h.entries (step.entry ∷ []) h.run (step.front, goes, refl)) in (
      front_printed step.entry ∷ more.0,
      more.1,
      record { first = front_printed step.entry; begun = step.front; more = more.0; happened = (refl, refl); printed = refl; settled = more.2 },
      more.3,
    )

plays_some : (settings : machines.Settings) (rack : List Driver) (f : Front) (t : Trace) → NeverWaits t → Resting settings rack f → (labels : List Label) × (last : Front) × Plays settings f t labels last
plays_some settings rack f (gives number event rest) on h =
    let here = follows_some settings rack f event h in
    let more = plays_some settings rack here.1 rest on here.3 in
    (here.0 ++ more.0, more.1, (here.0, here.1, more.0, here.2, more.2, refl))
plays_some settings rack f ends on h = ([], f, (refl, refl))
plays_some settings rack f (stops number) on h = ([], f, (refl, refl))
plays_some settings rack f waits on h = absurd on

-- There is no other -----------------------------------------------------------------------

pub shows_one : (settings : machines.Settings) (f : Front) (t : Trace) (report : Report) (text other : Text) → Shows settings f t report text → Shows settings f t report other → other ≡ text
shows_one settings f t report text other (labels, last, plays, is) (labels', last', plays', is') =
    let same : SameEnd labels' labels last' last = plays_one settings f t labels' labels last' last plays' plays in
    is' ∙ ap₂ (λ (ls : List Label) (x : Front). report ls x.state) same.labels same.front ∙ sym is

abbrev One : (Text → Type 0) → Type 0
One output = (text : Text) × IsOnly output text

one_shown : (settings : machines.Settings) (rack : List Driver) (script : List ℕ) (report : Report) → One (Shows settings (opening_front (opening rack)) (events_of script) report)
one_shown settings rack script report =
    let some = plays_some settings rack (opening_front (opening rack)) (events_of script) (finished_never_waits script) (record { entries = []; run = refl; quiet = refl }) in
    let text : Text = report some.0 some.1.state in
    let shows : Shows settings (opening_front (opening rack)) (events_of script) report text = (some.0, some.1, some.2, refl) in
    (text, (shows, λ other h. shows_one settings (opening_front (opening rack)) (events_of script) report text other shows h))

pub exactly_one_output : ExactlyOneOutputLaw
exactly_one_output settings rack script = one_shown settings rack script (written (events_of script))

-- The output of a command -----------------------------------------------------------------

this_alone : (line : Text) → One (λ text. text ≡ line)
this_alone line = (line, (refl, λ other is. is))

one_script : (settings : machines.Settings) (rack : List Driver) (script : Option (List ℕ)) → One (IsScriptOutput settings rack script)
one_script settings rack None = this_alone []
one_script settings rack (Some script) = exactly_one_output settings rack script

one_by : (rack : List Driver) (budget : ℕ) (infs : Result (List Inf) InfsError) (script : Option (List ℕ)) → One (IsOutputBy rack budget infs script)
one_by rack budget (Ok infs) script = one_script (machine infs budget) rack script
one_by rack budget (Err (faults.Refused number error)) script = this_alone (refusal_line number error)
one_by rack budget (Err faults.ReadFault) script = this_alone []
one_by rack budget (Err faults.TooLarge) script = this_alone []
one_by rack budget (Err faults.WantOfMemory) script = this_alone []

one_summary : (rack : List Driver) (budget n : ℕ) (read : Result Inf InfError) → One (IsSummaryBy rack budget n read)
one_summary rack budget n (Ok read) = one_shown (machine (read ∷ []) budget) rack (gen_script n) (summary n)
one_summary rack budget n (Err error) = this_alone []

one_for : (rack : List Driver) (budget : ℕ) (told : Text → Option (List ℕ)) (infs : List Text) (script : Option Text) (made : Option ℕ) → One (IsOutputFor rack budget told infs script made)
one_for rack budget told infs (Some name) made = one_by rack budget (infs_in told infs) (told name)
one_for rack budget told infs None (Some n) = one_summary rack budget n (inf gen_inf)
one_for rack budget told infs None None = this_alone []

-- of a check: what it comes to there is once
one_shown_outcome : (Is : Outcome → Type 0) → (outcome : Outcome) → Is outcome → ((other : Outcome) → Is other → other ≡ outcome) → One (ShowsOutcome Is)
one_shown_outcome Is outcome is alone =
    (outcome_text outcome, ((outcome, is, refl), λ other h. h.2 ∙ ap outcome_text (alone h.0 h.1)))

one_checked : (rack : List Driver) (told : Text → Option (List ℕ)) (s : Settings) (trace : Text) (script : Option Text) → One (ShowsOutcome (IsVerdict rack told s trace script))
one_checked rack told s trace None = one_shown_outcome (IsVerdict rack told s trace None) (Err faults.ReadFault) refl (λ other is. is)
one_checked rack told s trace (Some script) =
    let kinds : List DriverKind = map (λ d. d.kind) rack in
    let some = some_outcome kinds s.budget (infs_in told s.infs) (file_in (told trace)) (file_in (told script)) in
    one_shown_outcome (IsVerdict rack told s trace (Some script)) some.0 some.1
    (λ other is. one_outcome kinds s.budget (infs_in told s.infs) (file_in (told trace)) (file_in (told script)) other some.0 is some.1)

one_with : (rack : List Driver) (told : Text → Option (List ℕ)) (s : Settings) (check : Option Text) → One (IsOutputWith rack told s check)
one_with rack told s None = one_for rack s.budget told s.infs s.script s.made
one_with rack told s (Some trace) = one_checked rack told s trace s.script

-- a front of whatever the output is, is a front of the one that there is
one_front_of : (s : Settings) (contents : Option (Text → Option (List ℕ))) (rack : List Driver) (old new : Option Text)
    → IfSome contents (λ told. WroteFront (IsOutput rack told s) old new) → IfSome contents (λ told. WroteOneFront (IsOutput rack told s) old new)
one_front_of s None rack old new front = tt
one_front_of s (Some told) rack old new front =
    let one = one_with rack told s s.check in
    (one.0, one.1, front one.0 one.1.0)

pub one_front : (s : Option Settings) (contents : Option (Text → Option (List ℕ))) (rack : List Driver) (old new : Option Text)
    → IfSome s (λ s. IfSome (told_to s.script contents) (λ told. WroteFront (IsOutput rack told s) old new))
    → IfSome s (λ s. IfSome (told_to s.script contents) (λ told. WroteOneFront (IsOutput rack told s) old new))
one_front None contents rack old new front = tt
one_front (Some s) contents rack old new front = one_front_of s (told_to s.script contents) rack old new front
