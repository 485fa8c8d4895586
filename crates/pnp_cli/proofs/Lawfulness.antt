-- What is printed for a script tells a run, and that run keeps the laws.
use Rattle.std.proofs.Common.{◌≡◌, ◌≢◌, ℕ, zero, suc, inl, inr, List, [], ◌∷◌, ◌++◌, Option, Some, None, IfSome, Result, Ok, Err, map, refl, sym, ◌∙◌, ap, ap₂, subst, append_assoc}
use Rattle.std.specs.List.{AllByRecursion}
use Rattle.std.specs.Prelude.{Contains}
use Rattle.std.proofs.lemmas.List.Elements.{All-contains, All-from_recursion, Contains-append_left}
use Rattle.driver_rack.specs.Rows.{unnamed}
use Rattle.pnp_labels.specs.Texts.{Text}
use Rattle.pnp_labels.specs.declared.event.Event.{Event}
use Rattle.pnp_labels.specs.declared.event.Rule.{Rule}
use Rattle.pnp_labels.specs.declared.words.DriverKind.{DriverKind}
use Rattle.pnp_labels.specs.declared.label.Label.{Label}
use Rattle.pnp_model.specs.Records as machines
use Rattle.pnp_model.specs.Records.{Driver, State}
use Rattle.pnp_model.specs.Runs.{Entry, Goes, printed, opening}
use Rattle.pnp_model.specs.Runs.Entry.{Happens, Did, Declines}
use Rattle.pnp_laws.specs.Stacks.{HasName, NamesDriver}
use Rattle.pnp_laws.proofs.NamesGiven.{names_are_given}
use Rattle.pnp_laws.proofs.Reaching.{run_on as machine_on}
use Rattle.pnp_laws.proofs.RunsShare.{nothing_clashes}
use Rattle.pnp_laws.proofs.RunsHeld.{each_holds_a_part, few_held}
use Rattle.pnp_laws.proofs.RunsKeys.{no_cycle, nothing_printed_clashes}
use Rattle.pnp_laws.proofs.RunsStacks.{keyed, names_are_known, stacks_fit}
use Rattle.pnp_laws.proofs.RunsTold.{states_are_told}
use Rattle.pnp_laws.proofs.RunsWhole.{all_hold_whole}
use Rattle.pnp_laws.proofs.RunsWindows.{held_inside_windows}
use Rattle.pnp_laws.proofs.OpenHandles.{open_handles_fit}
use Rattle.pnp_laws.proofs.DependentsTold.{dependents_are_told}
use Rattle.pnp_laws.proofs.RunsReady.{ready_ones_are_due}
use Rattle.pnp_laws.proofs.RunsStand.{every_run_follows, dependents_go_first}
use Rattle.pnp_laws.proofs.RunsStrays.{nobody_is_forgotten}
use Rattle.pnp_laws.proofs.RunsBegun.{operations_begin}
use Rattle.pnp_laws.proofs.RunsEnds.{each_end_restores}
use Rattle.pnp_laws.proofs.RunsConflict.{each_conflict_is_real}
use Rattle.pnp_laws.proofs.JoinLimits.{joins_are_limited}
use Rattle.pnp_laws.specs.Needs.{IsEntryWithin, IsEventWithin}
use Rattle.pnp_laws.proofs.NodesPlugged.{needs_are_within}
use Rattle.pnp_laws.proofs.TreePrints.{each_node_is_printed_once}
use Rattle.pnp_model.specs.Laws.{Reaches}
use Rattle.pnp_promises.proofs.Alone.{operations_are_alone}
use Rattle.pnp_promises.proofs.Asks.{asks_are_in_order}
use Rattle.pnp_promises.proofs.Endings.{end_tells_what_is}
use Rattle.pnp_promises.proofs.Events.{accepted_is_done, causes_are_exact, refused_changes_nothing}
use Rattle.pnp_promises.proofs.Keeps.{running_keeps, tasks_are_in_turn}
use Rattle.pnp_promises.proofs.Lines.{lines_mean_what_they_say}
use Rattle.pnp_promises.proofs.Named.{only_the_named_device_changes}
use Rattle.pnp_promises.proofs.Pended.{what_is_pended_waits}
use Rattle.pnp_promises.proofs.Relations.{relations_go_with_drivers}
use Rattle.pnp_promises.proofs.Searches.{searches_keep_the_budget}
use Rattle.pnp_promises.proofs.Settled.{nothing_left_settled}
use Rattle.pnp_promises.proofs.TreeOrder.{tree_stands}
use Rattle.client_promises.proofs.Notices.{notices_have_causes}
use Rattle.client_promises.proofs.Registering.{client_causes_are_exact, clients_are_registered, registrations_are_the_clients}
use Rattle.notify_front.specs.Fronts.{Front, FrontEntry, FrontStep, IsFrontQuiet, front_happens, front_printed, opening_front}
use Rattle.notify_front.specs.Fronts.FrontEntry.{Passes, Tells, Watches}
use Rattle.notify_front.specs.Notices.{FrontGoes, FrontRun, machine_part}
use Rattle.notify_front.specs.Desks.{Desk, front_of, told_of}
use Rattle.notify_front.proofs.Alone.{machine_alone}
use Rattle.notify_front.proofs.Declined.{declined_after}
use Rattle.notify_front.proofs.Runs.{keeps_core, machine_run}
use Rattle.notify_front.proofs.Hearing.{each_hears}
use Rattle.notify_front.proofs.Told.{all_asked}
use Rattle.script_reader.specs.Script.{Trace, gives, waits, ends, stops}
use Rattle.inf_reader.specs.declared.parts.Inf.{Inf}
use Rattle.inf_reader.specs.declared.parts.InfError.{InfError}
use Rattle.inf_reader.specs.Meaning.{inf}
use Rattle.pnp_cli.specs.Outputs.{Settles, Follows, Plays, Report, Shows, written}
use Rattle.pnp_cli.specs.Generated.{gen_script, gen_inf}
use Rattle.pnp_cli.specs.Summaries.{summary}
use Rattle.pnp_cli.specs.Infs.{infs_in}
use Rattle.pnp_cli.specs.Runs.{IsOutput, IsOutputBy, IsOutputFor, IsOutputWith, IsScriptOutput, IsSummaryBy, machine, told_to}
use Rattle.pnp_cli.specs.Contents.{events_of}
use Rattle.pnp_cli.specs.Words.{settings_of}
use Rattle.pnp_cli.specs.Lawful.{happened, events_in, IsStep, IsTold, Said, SomeRun, OfRun, EachPassed, EachState, EachStep, OfScript, OfInfs, OfMade, OfSource, OfOutput, ByDiagram, NothingClashes, AllHoldWhole, OperationsBegan, EndsRestore, DependentsGoFirst, ConflictsAreReal, FewJoin, AllStatesTold, NodesAreKeyed, NothingOnItself, MapIsClear, AllStacksFit, NamesAreKnown, NobodyIsForgotten, EachHoldsPart, HeldInsideWindows, HandlesAreKept, FewAreHeld, NamesAreShown, ShowsName, TreeIsWhole, PromisesKept, KeptRunning, EndIsSo, ClientsPromised, OfFrontRun, EachFrontStep, MachineRuns, ClientsWereAsked, ClientsDecline, NoticesKeepAll, ClientsHear, MachineAlone}
use Rattle.pnp_cli.specs.declared.infs.InfsError.{InfsError}
use Rattle.pnp_cli.proofs.FewIds.{NamesByWord, names_by_words, script_within}
use Rattle.pnp_cli.specs.declared.parts.Settings.{Settings}
use Rattle.pnp_machine.specs.Managers.{IsOfRun}
use Rattle.pnp_machine.proofs.ButBooks.{no_swaps}
use Rattle.pnp_cli.proofs.FrontEntries.{Made, event_goes, event_happened, made_by, own_happened, run_on, settles_quiet}
use Rattle.pnp_cli.specs.Turns.{Awaits}

-- What is printed is told by a run ---------------------------------------------------

map_printed : (xs ys : List FrontEntry) → map front_printed (xs ++ ys) ≡ map front_printed xs ++ map front_printed ys
map_printed [] ys = refl
map_printed (x ∷ xs) ys = ap (λ (ls : List Label). front_printed x ∷ ls) (map_printed xs ys)

-- the same from any front on
record Telling (settings : machines.Settings) (f : Front) (t : Trace) (labels : List Label) (last : Front) : Type 0 where
  entries : List FrontEntry
  run : FrontRun settings f entries last
  rests : IsFrontQuiet settings last
  events : happened entries ≡ events_in t
  shows : map front_printed entries ≡ labels

telling_event : (settings : machines.Settings) (f new last : Front) (number : ℕ) (event : Event) (rest : Trace) (labels more : List Label) → IsFrontQuiet settings f → Follows settings f event labels new → Telling settings new rest more last
    → Telling settings f (gives number event rest) (labels ++ more) last
telling_event settings f new last number event rest labels more quiet h told =
    let step : FrontStep = front_happens f event in
    let begun : h.begun ≡ step.front = h.happened.1 in
    let made : Made settings step.front h.more new = made_by settings step.front new h.more (subst (λ (x : Front). Settles settings x h.more new) begun h.settled) in
    let first : List FrontEntry = step.entry ∷ made.entries in
    let own : map front_printed first ≡ labels = ap₂ (λ (l : Label) (ls : List Label). l ∷ ls) (sym h.happened.0) made.shows ∙ sym h.printed in
    record {
      entries = first ++ told.entries;
      run = run_on settings f new last first told.entries (step.front, event_goes settings f event quiet, made.run) told.run;
      rests = told.rests;
      events = event_happened f event (made.entries ++ told.entries) ∙ ap (λ (es : List Event). event ∷ es) (own_happened made.entries told.entries made.alone ∙ told.events);
      shows = map_printed first told.entries ∙ ap (λ (ls : List Label). ls ++ map front_printed told.entries) own ∙ ap (λ (ls : List Label). labels ++ ls) told.shows;
    }

telling_plays : (settings : machines.Settings) (f : Front) (t : Trace) (labels : List Label) (last : Front) → IsFrontQuiet settings f → Plays settings f t labels last → Telling settings f t labels last
telling_plays settings f (gives number event rest) labels last quiet (here, new, more, follows, plays, is) =
    let now_quiet = settles_quiet settings follows.begun new follows.more follows.settled in
    subst (λ (x : List Label). Telling settings f (gives number event rest) x last) (sym is) (telling_event settings f new last number event rest here more quiet follows (telling_plays settings new rest more last now_quiet plays))
telling_plays settings f ends labels last quiet is =
    subst (λ (x : List Label). Telling settings f ends x last) (sym is.0) (record { entries = []; run = is.1; rests = subst (λ (x : Front). IsFrontQuiet settings x) (sym is.1) quiet; events = refl; shows = refl })
telling_plays settings f (stops number) labels last quiet is =
    subst (λ (x : List Label). Telling settings f (stops number) x last) (sym is.0) (record { entries = []; run = is.1; rests = subst (λ (x : Front). IsFrontQuiet settings x) (sym is.1) quiet; events = refl; shows = refl })
telling_plays settings f waits labels last quiet is = absurd is

-- so the events of a script lead to a state of a run
pub plays_reach : (d : Desk) (t : Trace) (labels : List Label) (last : Front) → Awaits d → Plays (told_of d) (front_of d) t labels last → IsOfRun last.state
plays_reach d t labels last h plays =
    let told = telling_plays (told_of d) (front_of d) t labels last h.quiet plays in
    let entries : List FrontEntry = h.run.entries ++ told.entries in
    record {
      told = told_of d;
      rack = h.run.rack;
      entries = machine_part entries;
      reaches =
          no_swaps (told_of d) (opening h.run.rack) (machine_part entries) last.state
          (machine_run (told_of d) h.run.rack entries last (run_on (told_of d) (opening_front (opening h.run.rack)) (front_of d) last h.run.entries told.entries h.run.reaches told.run));
    }

some_run : (settings : machines.Settings) (rack : List Driver) (t : Trace) (report : Report) (text : Text) → Shows settings (opening_front (opening rack)) t report text → SomeRun settings rack t report text
some_run settings rack t report text (labels, last, plays, is) =
    let told = telling_plays settings (opening_front (opening rack)) t labels last refl plays in
    (told.entries, last, record { run = told.run; rests = told.rests; events = told.events; is = is ∙ ap (λ (ls : List Label). report ls last.state) (sym told.shows) })

-- What is said of outputs ----------------------------------------------------------------

-- what holds of each report of a script's run, over this rack
unfoldable pub Holds : Said → List Driver → Type 0
Holds Says rack =
    (settings : machines.Settings) (script : List ℕ) (report : Report) (text : Text) → Shows settings (opening_front (opening rack)) (events_of script) report text
    → Says settings rack (events_of script) report text

of_script : (Says : Said) (rack : List Driver) → Holds Says rack
    → (settings : machines.Settings) (script : Option (List ℕ)) (text : Text) → IsScriptOutput settings rack script text → OfScript Says settings rack script text
unfolding Holds
of_script Says rack holds settings None text is = tt
of_script Says rack holds settings (Some script) text is = holds settings script (written (events_of script)) text is

of_infs : (Says : Said) (rack : List Driver) → Holds Says rack
    → (budget : ℕ) (infs : Result (List Inf) InfsError) (script : Option (List ℕ)) (text : Text) → IsOutputBy rack budget infs script text → OfInfs Says rack budget infs script text
of_infs Says rack holds budget (Ok infs) script text is = of_script Says rack holds (machine infs budget) script text is
of_infs Says rack holds budget (Err error) script text is = tt

of_made : (Says : Said) (rack : List Driver) → Holds Says rack
    → (budget n : ℕ) (read : Result Inf InfError) (text : Text) → IsSummaryBy rack budget n read text → OfMade Says rack budget n read text
unfolding Holds
of_made Says rack holds budget n (Ok read) text is = holds (machine (read ∷ []) budget) (gen_script n) (summary n) text is
of_made Says rack holds budget n (Err error) text is = tt

of_source : (Says : Said) (rack : List Driver) → Holds Says rack → (budget : ℕ) (told : Text → Option (List ℕ)) (infs : List Text) (script : Option Text) (made : Option ℕ) (text : Text)
    → IsOutputFor rack budget told infs script made text → OfSource Says rack budget told infs script made text
of_source Says rack holds budget told infs (Some name) made text is = of_infs Says rack holds budget (infs_in told infs) (told name) text is
of_source Says rack holds budget told infs None (Some n) text is = of_made Says rack holds budget n (inf gen_inf) text is
of_source Says rack holds budget told infs None None text is = tt

of_contents : (Says : Said) (rack : List Driver) → Holds Says rack → (s : Settings) (contents : Option (Text → Option (List ℕ)))
    → IfSome contents (λ told. s.check ≡ None → (text : Text) → IsOutput rack told s text → OfSource Says rack s.budget told s.infs s.script s.made text)
of_contents Says rack holds s None = tt
of_contents Says rack holds s (Some told) = λ none text is.
    of_source Says rack holds s.budget told s.infs s.script s.made text (subst (λ (check : Option Text). IsOutputWith rack told s check text) none is)

of_settings : (Says : Said) (rack : List Driver) → Holds Says rack
    → (s : Option Settings) (contents : Option (Text → Option (List ℕ)))
    → IfSome s (λ s. IfSome (told_to s.script contents) (λ told. s.check ≡ None → (text : Text) → IsOutput rack told s text → OfSource Says rack s.budget told s.infs s.script s.made text))
of_settings Says rack holds None contents = tt
of_settings Says rack holds (Some s) contents = of_contents Says rack holds s (told_to s.script contents)

pub of_output : (Says : Said) (rack : List Driver) → Holds Says rack
    → (words : List Text) (contents : Option (Text → Option (List ℕ))) → OfOutput Says words contents rack
of_output Says rack holds words contents = of_settings Says rack holds (settings_of words) contents

-- The output of a command ------------------------------------------------------------------

pub output_tells : (words : List Text) (contents : Option (Text → Option (List ℕ))) (rack : List Driver) → OfOutput SomeRun words contents rack
unfolding Holds
output_tells words contents rack = of_output SomeRun rack (λ settings script report text shows. some_run settings rack (events_of script) report text shows) words contents

pub output_by_diagram : (words : List Text) (contents : Option (Text → Option (List ℕ))) (rack : List Driver) → OfOutput (EachStep ByDiagram) words contents rack
unfolding Holds
output_by_diagram words contents rack =
    of_output (EachStep ByDiagram) rack (λ settings script report text shows entries last told earlier old entry new step. every_run_follows settings rack earlier old entry new step.before step.goes) words contents

pub output_shares : (words : List Text) (contents : Option (Text → Option (List ℕ))) (rack : List Driver) → OfOutput (EachState NothingClashes) words contents rack
unfolding Holds
output_shares words contents rack =
    of_output (EachState NothingClashes) rack (λ settings script report text shows entries last told s state. nothing_clashes settings rack state.earlier s state.before) words contents

pub output_holds_whole : (words : List Text) (contents : Option (Text → Option (List ℕ))) (rack : List Driver) → OfOutput (EachState AllHoldWhole) words contents rack
unfolding Holds
output_holds_whole words contents rack =
    of_output (EachState AllHoldWhole) rack (λ settings script report text shows entries last told s state. all_hold_whole settings rack state.earlier s state.before) words contents

pub output_begins : (words : List Text) (contents : Option (Text → Option (List ℕ))) (rack : List Driver) → OfOutput (EachStep OperationsBegan) words contents rack
unfolding Holds
output_begins words contents rack =
    of_output (EachStep OperationsBegan) rack (λ settings script report text shows entries last told earlier old entry new step. operations_begin settings rack earlier old entry new step.before step.goes) words contents

pub output_restores : (words : List Text) (contents : Option (Text → Option (List ℕ))) (rack : List Driver) → OfOutput (EachStep EndsRestore) words contents rack
unfolding Holds
output_restores words contents rack =
    of_output (EachStep EndsRestore) rack (λ settings script report text shows entries last told earlier old entry new step. each_end_restores settings rack earlier old entry new step.before step.goes) words contents

pub output_dependents : (words : List Text) (contents : Option (Text → Option (List ℕ))) (rack : List Driver) → OfOutput (EachStep DependentsGoFirst) words contents rack
unfolding Holds
output_dependents words contents rack =
    of_output (EachStep DependentsGoFirst) rack (λ settings script report text shows entries last told earlier old entry new step. dependents_go_first settings rack earlier old entry new step.before step.goes) words contents

pub output_conflicts : (words : List Text) (contents : Option (Text → Option (List ℕ))) (rack : List Driver) → OfOutput (EachStep ConflictsAreReal) words contents rack
unfolding Holds
output_conflicts words contents rack =
    of_output (EachStep ConflictsAreReal) rack (λ settings script report text shows entries last told earlier old entry new step path is. each_conflict_is_real settings rack earlier old entry new path step.before step.goes is) words contents

pub output_joins : (words : List Text) (contents : Option (Text → Option (List ℕ))) (rack : List Driver) → OfOutput (OfRun FewJoin) words contents rack
unfolding Holds
output_joins words contents rack =
    of_output (OfRun FewJoin) rack (λ settings script report text shows entries last told. joins_are_limited settings rack (machine_part entries) last.state (machine_run settings rack entries last told.run)) words contents

pub output_told : (words : List Text) (contents : Option (Text → Option (List ℕ))) (rack : List Driver) → OfOutput (EachStep AllStatesTold) words contents rack
unfolding Holds
output_told words contents rack =
    of_output (EachStep AllStatesTold) rack (λ settings script report text shows entries last told earlier old entry new step. states_are_told settings rack earlier old entry new step.before step.goes) words contents

pub output_keyed : (words : List Text) (contents : Option (Text → Option (List ℕ))) (rack : List Driver) → OfOutput (EachState NodesAreKeyed) words contents rack
unfolding Holds
output_keyed words contents rack =
    of_output (EachState NodesAreKeyed) rack (λ settings script report text shows entries last told s state. keyed settings rack state.earlier s state.before) words contents

pub output_acyclic : (words : List Text) (contents : Option (Text → Option (List ℕ))) (rack : List Driver) → OfOutput (EachState NothingOnItself) words contents rack
unfolding Holds
output_acyclic words contents rack =
    of_output (EachState NothingOnItself) rack (λ settings script report text shows entries last told s state. no_cycle settings rack state.earlier s state.before) words contents

pub output_map_clear : (words : List Text) (contents : Option (Text → Option (List ℕ))) (rack : List Driver) → OfOutput (EachState MapIsClear) words contents rack
unfolding Holds
output_map_clear words contents rack =
    of_output (EachState MapIsClear) rack (λ settings script report text shows entries last told s state. nothing_printed_clashes settings rack state.earlier s state.before) words contents

pub output_stacks : (words : List Text) (contents : Option (Text → Option (List ℕ))) (rack : List Driver) → OfOutput (EachState AllStacksFit) words contents rack
unfolding Holds
output_stacks words contents rack =
    of_output (EachState AllStacksFit) rack (λ settings script report text shows entries last told s state. stacks_fit settings rack state.earlier s state.before) words contents

pub output_names : (words : List Text) (contents : Option (Text → Option (List ℕ))) (rack : List Driver) → OfOutput (EachStep NamesAreKnown) words contents rack
unfolding Holds
output_names words contents rack =
    of_output (EachStep NamesAreKnown) rack (λ settings script report text shows entries last told earlier old entry new step. names_are_known settings rack earlier old entry new step.before step.goes) words contents

pub output_remembers : (words : List Text) (contents : Option (Text → Option (List ℕ))) (rack : List Driver) → OfOutput (EachState NobodyIsForgotten) words contents rack
unfolding Holds
output_remembers words contents rack =
    of_output (EachState NobodyIsForgotten) rack (λ settings script report text shows entries last told s state. nobody_is_forgotten settings rack state.earlier s state.before) words contents

pub output_holds_parts : (words : List Text) (contents : Option (Text → Option (List ℕ))) (rack : List Driver) → OfOutput (EachState EachHoldsPart) words contents rack
unfolding Holds
output_holds_parts words contents rack =
    of_output (EachState EachHoldsPart) rack (λ settings script report text shows entries last told s state. each_holds_a_part settings rack state.earlier s state.before) words contents

pub output_inside_windows : (words : List Text) (contents : Option (Text → Option (List ℕ))) (rack : List Driver) → OfOutput (EachState HeldInsideWindows) words contents rack
unfolding Holds
output_inside_windows words contents rack =
    of_output (EachState HeldInsideWindows) rack (λ settings script report text shows entries last told s state. held_inside_windows settings rack state.earlier s state.before) words contents

pub output_handles : (words : List Text) (contents : Option (Text → Option (List ℕ))) (rack : List Driver) → OfOutput (EachState HandlesAreKept) words contents rack
unfolding Holds
output_handles words contents rack =
    of_output (EachState HandlesAreKept) rack
    (λ settings script report text shows entries last told s state. (
      open_handles_fit settings rack state.earlier s state.before,
      λ neither. (dependents_are_told settings rack state.earlier s state.before neither, ready_ones_are_due settings rack state.earlier s state.before neither),
    )) words contents

promises_kept : (settings : machines.Settings) (rack : List Driver) (earlier : List Entry) (old : State) (entry : Entry) (new : State) → Reaches settings rack earlier old → Goes settings old entry new → PromisesKept settings rack earlier old entry new
promises_kept settings rack earlier old (Happens event label) new before goes =
    (refused_changes_nothing settings rack earlier old event label new before goes, causes_are_exact settings rack earlier old event label new before goes, accepted_is_done settings rack earlier old event label new before goes)
promises_kept settings rack earlier old (Did label) new before goes = (
  lines_mean_what_they_say settings rack earlier old label new before goes,
  λ minor path driver shown is. asks_are_in_order settings rack earlier old (Did label) new minor path driver shown before goes is,
  searches_keep_the_budget settings rack earlier old label new before goes,
  λ k n m was is. only_the_named_device_changes settings rack earlier old label new k n m before goes was is,
  relations_go_with_drivers settings rack earlier old label new before goes,
  λ o runs. operations_are_alone settings rack earlier old label new o before runs goes,
)
promises_kept settings rack earlier old (Declines label) new before goes = tt

pub output_promises : (words : List Text) (contents : Option (Text → Option (List ℕ))) (rack : List Driver) → OfOutput (EachStep PromisesKept) words contents rack
unfolding Holds
output_promises words contents rack =
    of_output (EachStep PromisesKept) rack (λ settings script report text shows entries last told earlier old entry new step. promises_kept settings rack earlier old entry new step.before step.goes) words contents

pub output_keeps : (words : List Text) (contents : Option (Text → Option (List ℕ))) (rack : List Driver) → OfOutput (EachStep KeptRunning) words contents rack
unfolding Holds
output_keeps words contents rack =
    of_output (EachStep KeptRunning) rack
    (λ settings script report text shows entries last told earlier old entry new step. (
      tasks_are_in_turn settings rack earlier old entry new step.before step.goes,
      running_keeps settings rack earlier old entry new step.before step.goes,
      λ k minor. what_is_pended_waits settings rack earlier old entry new k minor step.before step.goes,
    )) words contents

pub output_ends_told : (words : List Text) (contents : Option (Text → Option (List ℕ))) (rack : List Driver) → OfOutput (EachState EndIsSo) words contents rack
unfolding Holds
output_ends_told words contents rack =
    of_output (EachState EndIsSo) rack
    (λ settings script report text shows entries last told s state. (end_tells_what_is settings rack state.earlier s state.before, tree_stands settings rack state.earlier s state.before, nothing_left_settled settings rack state.earlier s state.before)) words contents

-- what the events of a run plug is within the limits of the script
entries_within : (entries : List FrontEntry) → AllByRecursion (IsEventWithin 16) (happened entries) → AllByRecursion (IsEntryWithin 16) (machine_part entries)
entries_within [] h = tt
entries_within (Passes (Happens event label) ∷ rest) h = (h.0, entries_within rest h.1)
entries_within (Passes (Did label) ∷ rest) h = (tt, entries_within rest h)
entries_within (Passes (Declines label) ∷ rest) h = (tt, entries_within rest h)
entries_within (Watches event label ∷ rest) h = entries_within rest h.1
entries_within (Tells label ∷ rest) h = entries_within rest h

front_within : (xs ys : List Entry) → AllByRecursion (IsEntryWithin 16) (xs ++ ys) → AllByRecursion (IsEntryWithin 16) xs
front_within [] ys h = tt
front_within (x ∷ xs) ys h = (h.0, front_within xs ys h.1)

pub output_holds_few : (words : List Text) (contents : Option (Text → Option (List ℕ))) (rack : List Driver) → OfOutput (EachPassed FewAreHeld) words contents rack
unfolding Holds
output_holds_few words contents rack =
    of_output (EachPassed FewAreHeld) rack
    (λ settings script report text shows entries last told s state. (
      needs_are_within settings rack state.earlier s state.before 16
          (front_within state.earlier state.later (subst (λ (xs : List Entry). AllByRecursion (IsEntryWithin 16) xs) state.all
          (entries_within entries (subst (λ (es : List Event). AllByRecursion (IsEventWithin 16) es) (sym told.events) (script_within script))))),
      few_held settings rack state.earlier s state.before,
    )) words contents

pub output_tree : (words : List Text) (contents : Option (Text → Option (List ℕ))) (rack : List Driver) → OfOutput (EachState TreeIsWhole) words contents rack
unfolding Holds
output_tree words contents rack =
    of_output (EachState TreeIsWhole) rack (λ settings script report text shows entries last told s state. each_node_is_printed_once settings rack state.earlier s state.before) words contents

-- Clients ------------------------------------------------------------------------------------

pub output_of_machine : (words : List Text) (contents : Option (Text → Option (List ℕ))) (rack : List Driver) → OfOutput (OfFrontRun MachineRuns) words contents rack
unfolding Holds
output_of_machine words contents rack =
    of_output (OfFrontRun MachineRuns) rack (λ settings script report text shows entries last told. machine_run settings rack entries last told.run) words contents

pub output_asks : (words : List Text) (contents : Option (Text → Option (List ℕ))) (rack : List Driver) → OfOutput (EachFrontStep ClientsWereAsked) words contents rack
unfolding Holds
output_asks words contents rack =
    of_output (EachFrontStep ClientsWereAsked) rack
    (λ settings script report text shows entries last told earlier old entry new step label first is due_first in_order.
    all_asked settings rack earlier old label new first step.before (subst (λ (x : FrontEntry). FrontGoes settings old x new) is step.goes) due_first in_order) words contents

pub output_declines : (words : List Text) (contents : Option (Text → Option (List ℕ))) (rack : List Driver) → OfOutput (EachFrontStep ClientsDecline) words contents rack
unfolding Holds
output_declines words contents rack =
    of_output (EachFrontStep ClientsDecline) rack
    (λ settings script report text shows entries last told earlier old entry new step label is.
    declined_after settings rack earlier old label new step.before (subst (λ (x : FrontEntry). FrontGoes settings old x new) is step.goes)) words contents

pub output_notices : (words : List Text) (contents : Option (Text → Option (List ℕ))) (rack : List Driver) → OfOutput (EachFrontStep NoticesKeepAll) words contents rack
unfolding Holds
output_notices words contents rack =
    of_output (EachFrontStep NoticesKeepAll) rack
    (λ settings script report text shows entries last told earlier old entry new step is_told. keeps_core settings rack earlier old entry new step.before step.goes is_told) words contents

clients_promised : (settings : machines.Settings) (rack : List Driver) (earlier : List FrontEntry) (old : Front) (entry : FrontEntry) (new : Front)
    → FrontRun settings (opening_front (opening rack)) earlier old → FrontGoes settings old entry new → ClientsPromised earlier old entry new
clients_promised settings rack earlier old (Watches event label) new before goes = (
  client_causes_are_exact settings rack earlier old event label new before goes,
  λ deed is. clients_are_registered settings rack earlier old event deed new before (subst (λ (x : Label). FrontGoes settings old (Watches event x) new) is goes),
)
clients_promised settings rack earlier old (Tells label) new before goes =
    (notices_have_causes settings rack earlier old label new before goes, registrations_are_the_clients settings rack earlier old (Tells label) new before goes)
clients_promised settings rack earlier old (Passes entry) new before goes = registrations_are_the_clients settings rack earlier old (Passes entry) new before goes

pub output_clients : (words : List Text) (contents : Option (Text → Option (List ℕ))) (rack : List Driver) → OfOutput (EachFrontStep ClientsPromised) words contents rack
unfolding Holds
output_clients words contents rack =
    of_output (EachFrontStep ClientsPromised) rack (λ settings script report text shows entries last told earlier old entry new step. clients_promised settings rack earlier old entry new step.before step.goes) words contents

pub output_hears : (words : List Text) (contents : Option (Text → Option (List ℕ))) (rack : List Driver) → OfOutput (OfFrontRun ClientsHear) words contents rack
unfolding Holds
output_hears words contents rack =
    of_output (OfFrontRun ClientsHear) rack
    (λ settings script report text shows entries last told earlier during more f g h i label first kind path result is before begins due_first is_told within_ alone ends_ after.
    each_hears settings rack earlier during more f g h i last label first kind path result before begins due_first is_told within_ alone ends_ after told.rests) words contents

pub output_alone : (words : List Text) (contents : Option (Text → Option (List ℕ))) (rack : List Driver) → OfOutput (OfFrontRun MachineAlone) words contents rack
unfolding Holds
output_alone words contents rack =
    of_output (OfFrontRun MachineAlone) rack (λ settings script report text shows entries last told none. machine_alone settings rack entries last told.run none) words contents

-- Names that are not empty -----------------------------------------------------------------

-- no driver has a name yet
abbrev Nameless : List Driver → Type 0
Nameless rack = (d : ℕ) (name : Text) → HasName rack d name → ⊥

nameless : {A : Type 0} (kind : A → DriverKind) (book : A → List Rule) (items : List A) → Nameless (map (λ x. unnamed (kind x) (book x)) items)
nameless kind book [] d name h = cc
nameless kind book (x ∷ xs) zero name h = cc
nameless kind book (x ∷ xs) (suc d) name h = nameless kind book xs d name h

abbrev EntryByWord : Entry → Type 0
EntryByWord (Happens event label) = NamesByWord event
EntryByWord (Did label) = Unit {0}
EntryByWord (Declines label) = Unit {0}

entries_by_words : (entries : List FrontEntry) → AllByRecursion NamesByWord (happened entries) → AllByRecursion EntryByWord (machine_part entries)
entries_by_words [] h = tt
entries_by_words (Passes (Happens event label) ∷ rest) h = (h.0, entries_by_words rest h.1)
entries_by_words (Passes (Did label) ∷ rest) h = (tt, entries_by_words rest h)
entries_by_words (Passes (Declines label) ∷ rest) h = (tt, entries_by_words rest h)
entries_by_words (Watches event label ∷ rest) h = entries_by_words rest h.1
entries_by_words (Tells label ∷ rest) h = entries_by_words rest h

-- a name of the rack in a run of a script
name_shown : (settings : machines.Settings) (rack : List Driver) (script : List ℕ) (report : Report) (text : Text) (entries : List FrontEntry) (last : Front) (earlier : List Entry) (old : State) (entry : Entry) (new : State)
    → Nameless rack → IsTold settings rack (events_of script) report text entries last → IsStep settings rack (machine_part entries) last.state earlier old entry new
    → (d : ℕ) (name : Text) → HasName new.core.rack d name → name ≢ []
name_shown settings rack script report text entries last earlier old entry new none told step d name h =
    let run = machine_on settings (opening rack) old new earlier (entry ∷ []) step.before (new, step.goes, refl) in
    elim (names_are_given settings rack (earlier ++ entry ∷ []) new run d name h) [
      | inl own ↦ absurd (none d name own)
      | inr (kind, label, there) ↦
          let all : AllByRecursion EntryByWord (machine_part entries) =
          entries_by_words entries (subst (λ (es : List Event). AllByRecursion NamesByWord es) (sym told.events) (names_by_words script)) in
          let same : machine_part entries ≡ (earlier ++ entry ∷ []) ++ step.later = step.all ∙ sym (append_assoc earlier (entry ∷ []) step.later) in
          All-contains EntryByWord (machine_part entries) (Happens (Event.Name name kind) label) (All-from_recursion EntryByWord (machine_part entries) all)
          (subst (λ (es : List Entry). Contains es (Happens (Event.Name name kind) label)) (sym same)
          (Contains-append_left (earlier ++ entry ∷ []) step.later (Happens (Event.Name name kind) label) there))
    ]

label_shown : (label : Label) (rack : List Driver) → ((d : ℕ) (name : Text) → HasName rack d name → name ≢ []) → NamesDriver label rack → ShowsName label
label_shown (Label.Asked minor path name shown) rack some h = some h.0 name h.1
label_shown (Label.Add path name ok) rack some h = some h.0 name h.1
label_shown _ rack some h = tt

pub output_shown : {A : Type 0} (kind : A → DriverKind) (book : A → List Rule) (items : List A) (words : List Text) (contents : Option (Text → Option (List ℕ)))
    → OfOutput (EachStep NamesAreShown) words contents (map (λ x. unnamed (kind x) (book x)) items)
unfolding Holds
output_shown kind book items words contents =
    let rack = map (λ x. unnamed (kind x) (book x)) items in
    of_output (EachStep NamesAreShown) rack
    (λ settings script report text shows entries last told earlier old entry new step.
    label_shown (printed entry) new.core.rack
    (name_shown settings rack script report text entries last earlier old entry new (nameless kind book items) told step)
    (names_are_known settings rack earlier old entry new step.before step.goes)) words contents
