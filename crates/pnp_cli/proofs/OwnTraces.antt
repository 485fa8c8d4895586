-- What is written for a script is a trace to which the check answers `yes`.
use Rattle.std.proofs.Common.{◌≡◌, ◌≤◌, inl, inr, ℕ, Bool, cond, List, [], ◌∷◌, Option, Some, None, Result, Ok, Err, length, map, refl, sym, ◌∙◌, ap, subst}
use Rattle.std.proofs.lemmas.Bool.{le-leb}
use Rattle.pnp_labels.specs.Texts.{Text}
use Rattle.pnp_labels.specs.declared.words.DriverKind.{DriverKind}
use Rattle.pnp_model.specs.Records as machines
use Rattle.pnp_model.specs.Records.{Driver, State}
use Rattle.pnp_model.specs.Events.{happens}
use Rattle.pnp_model.specs.Runs.{opening}
use Rattle.inf_reader.specs.declared.parts.Inf.{Inf}
use Rattle.script_reader.specs.Script.{Trace, gives, waits, ends, stops}
use Rattle.notify_front.specs.Fronts.{opening_front}
use Rattle.free_model.specs.Checks.{Follow, IsChecked, Place, Runs, Ends, Yes, beginning}
use Rattle.free_model.specs.Frees.{free_opening}
use Rattle.free_model.proofs.Outs.{each_output}
use Rattle.pnp_cli.specs.Contents.{events_of}
use Rattle.pnp_cli.specs.Checks.{ComesTo, file_in, verdict_line}
use Rattle.pnp_cli.specs.Infs.{infs_in, limit}
use Rattle.pnp_cli.specs.Lawful.{OfOutput}
use Rattle.pnp_cli.specs.Outputs.{HasNoClients, Prints, Report, Shows}
use Rattle.pnp_cli.specs.OwnTraces.{ChecksYes, IsUntaught, NoTraceHasClientsLaw, EachOutputIsCheckedLaw, EachOutputIsATraceLaw}
use Rattle.pnp_cli.specs.Runs.{IsOutput, IsOutputBy, IsOutputFor, IsOutputWith, IsScriptOutput, IsVerdict, machine}
use Rattle.pnp_cli.specs.declared.infs.InfsError.{InfsError}
use Rattle.pnp_cli.specs.declared.parts.Settings.{Settings}
use Rattle.pnp_cli.proofs.Lawfulness.{Holds, of_output}
use Rattle.pnp_cli.proofs.MachineAlone.{machine_prints}

own_trace_of : (settings : machines.Settings) (rack : List Driver) (t : Trace) (text : Text) → HasNoClients t → IsUntaught rack
    → Prints settings (opening_front (opening rack)) t text → IsChecked settings (beginning (map (λ d. d.kind) rack) t) text Yes
own_trace_of settings rack t text none untaught prints =
    each_output settings (map (λ d. d.kind) rack) rack t text untaught (machine_prints settings (opening rack) t text none prints)

pub own_trace : EachOutputIsATraceLaw
own_trace settings rack script text none untaught prints = own_trace_of settings rack (events_of script) text none untaught prints

pub output_checks : (words : List Text) (contents : Option (Text → Option (List ℕ))) (rack : List Driver) → OfOutput ChecksYes words contents rack
unfolding Holds
output_checks words contents rack =
    of_output ChecksYes rack
    (λ settings script report text shows whole none untaught.
    own_trace_of settings rack (events_of script) text none untaught (subst (λ (r : Report). Shows settings (opening_front (opening rack)) (events_of script) r text) whole shows)) words contents

-- With a line of a client ----------------------------------------------------------------------

-- where lines lead to the end, no event that comes is one of a client
no_clients : (settings : machines.Settings) (lines : List Text) (s : State) (t : Trace) → Follow settings (Runs s t) lines (Ends []) → HasNoClients t
no_clients settings [] s t is = absurd (cc)
no_clients settings (line ∷ lines) s t (mid, inl (label, new, step, told, next), follow) =
    no_clients settings lines new t (subst (λ (x : Place). Follow settings x lines (Ends [])) next follow)
no_clients settings (line ∷ lines) s (gives number event rest) (mid, inr (quiet, (own, told, next)), follow) =
    (own, no_clients settings lines (happens s event).state rest (subst (λ (x : Place). Follow settings x lines (Ends [])) next follow))
no_clients settings (line ∷ lines) s (stops number) (mid, inr (quiet, rest), follow) = tt
no_clients settings (line ∷ lines) s ends (mid, inr (quiet, rest), follow) = tt
no_clients settings (line ∷ lines) s waits (mid, inr (quiet, rest), follow) = absurd rest

pub without_clients : NoTraceHasClientsLaw
without_clients settings kinds script trace run = no_clients settings run.0 (free_opening kinds) (events_of script) run.1

-- A later command ------------------------------------------------------------------------------

file_taken : (file : Option (List ℕ)) (bytes : List ℕ) → file ≡ Some bytes → length bytes ≤ limit → file_in file ≡ Ok bytes
file_taken file bytes is small =
    let pick : Bool → Result Text InfsError = λ b. cond b (Ok bytes) (Err InfsError.TooLarge) in
    ap file_in is ∙ ap pick (le-leb (length bytes) limit small)

-- what was written, by the parts of the command that wrote it
written_by : (rack : List Driver) (told : Text → Option (List ℕ)) (s : Settings) (infs : List Inf) (name : Text) (script : List ℕ) (text : Text)
    → s.check ≡ None → s.script ≡ Some name → infs_in told s.infs ≡ Ok infs → told name ≡ Some script → IsOutput rack told s text → IsScriptOutput (machine infs s.budget) rack (Some script) text
written_by rack told s infs name script text none named taken there is =
    let run : IsOutputFor rack s.budget told s.infs s.script s.made text = subst (λ (c : Option Text). IsOutputWith rack told s c text) none is in
    let by : IsOutputBy rack s.budget (infs_in told s.infs) (told name) text = subst (λ (n : Option Text). IsOutputFor rack s.budget told s.infs n s.made text) named run in
    let of_infs : IsOutputBy rack s.budget (Ok infs) (told name) text = subst (λ (r : Result (List Inf) InfsError). IsOutputBy rack s.budget r (told name) text) taken by in
    subst (λ (f : Option (List ℕ)). IsOutputBy rack s.budget (Ok infs) f text) there of_infs

shown_by : (other : List Driver) (later : Text → Option (List ℕ)) (t : Settings) (infs : List Inf) (trace again : Text) (text : Text) (script : List ℕ)
    → t.check ≡ Some trace → t.script ≡ Some again → infs_in later t.infs ≡ Ok infs → file_in (later trace) ≡ Ok text → file_in (later again) ≡ Ok script
    → IsChecked (machine infs t.budget) (beginning (map (λ d. d.kind) other) (events_of script)) text Yes → IsOutput other later t (verdict_line Yes)
shown_by other later t infs trace again text script checks named taken bytes there run =
    let kinds : List DriverKind = map (λ d. d.kind) other in
    let own : ComesTo kinds t.budget (Ok infs) (Ok text) (Ok script) (Ok Yes) = (Yes, run, refl) in
    let of_script : ComesTo kinds t.budget (Ok infs) (Ok text) (file_in (later again)) (Ok Yes) = subst (λ (f : Result Text InfsError). ComesTo kinds t.budget (Ok infs) (Ok text) f (Ok Yes)) (sym there) own in
    let of_trace : ComesTo kinds t.budget (Ok infs) (file_in (later trace)) (file_in (later again)) (Ok Yes) =
    subst (λ (f : Result Text InfsError). ComesTo kinds t.budget (Ok infs) f (file_in (later again)) (Ok Yes)) (sym bytes) of_script
    in
    let of_infs : ComesTo kinds t.budget (infs_in later t.infs) (file_in (later trace)) (file_in (later again)) (Ok Yes) =
    subst (λ (r : Result (List Inf) InfsError). ComesTo kinds t.budget r (file_in (later trace)) (file_in (later again)) (Ok Yes)) (sym taken) of_trace
    in
    let verdict : IsVerdict other later t trace t.script (Ok Yes) = subst (λ (n : Option Text). IsVerdict other later t trace n (Ok Yes)) (sym named) of_infs in
    subst (λ (c : Option Text). IsOutputWith other later t c (verdict_line Yes)) (sym checks) (Ok Yes, verdict, refl)

pub own_check : EachOutputIsCheckedLaw
own_check rack told s other later t text command none untaught is =
    let prints = written_by rack told s command.infs command.name command.script text command.runs command.named command.taken command.there is in
    let run : IsChecked (machine command.infs s.budget) (beginning (map (λ d. d.kind) rack) (events_of command.script)) text Yes =
    own_trace (machine command.infs s.budget) rack command.script text none untaught prints
    in
    let kinds : IsChecked (machine command.infs s.budget) (beginning (map (λ d. d.kind) other) (events_of command.script)) text Yes =
    subst (λ (k : List DriverKind). IsChecked (machine command.infs s.budget) (beginning k (events_of command.script)) text Yes) (sym command.same_kinds) run
    in
    let budget : IsChecked (machine command.infs t.budget) (beginning (map (λ d. d.kind) other) (events_of command.script)) text Yes =
    subst (λ (b : ℕ). IsChecked (machine command.infs b) (beginning (map (λ d. d.kind) other) (events_of command.script)) text Yes) (sym command.same_budget) kinds
    in
    shown_by other later t command.infs command.trace command.again text command.script command.checks command.named_again command.same_infs
    (file_taken (later command.trace) text command.bytes command.fits) (file_taken (later command.again) command.script command.same_script command.small) budget
