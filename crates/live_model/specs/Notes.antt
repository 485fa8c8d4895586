-- The notes between the lines of a run, each with its LF.
use Rattle.std.specs.Prelude.{ℕ, Bool, true, false, List, [], ◌∷◌, ◌++◌, Option, Some, None, map, codes, if◌then◌else◌}
use Rattle.std.specs.Fmt.{decimal}
use Rattle.resource_reqs.specs.Resources.{Res}
use Rattle.pnp_labels.specs.Texts.{Text, minor_text, res_text, spaced, state_text}
use Rattle.pnp_labels.specs.declared.states.DevState.{DevState}
use Rattle.pnp_labels.specs.declared.words.Answer.{Answer}
use Rattle.pnp_labels.specs.declared.words.AskWhat.{AskWhat}
use Rattle.pnp_labels.specs.declared.words.Minor.{Minor}
use Rattle.pnp_model.specs.Books.{name_of}
use Rattle.pnp_model.specs.Records.{Node, State}
use Rattle.pnp_model.specs.States.{node_of}
use Rattle.free_model.specs.Asks.{Query}

-- the ask of this number, with its words
abbrev pub ask_line : ℕ → Text → Text
ask_line number words = codes "# ask " ++ decimal number ++ 32 ∷ words ++ 10 ∷ []

-- the poll was answered by a completion of this driver
abbrev pub done_line : ℕ → Text → Text
done_line number driver = codes "# done " ++ decimal number ++ 32 ∷ driver ++ 10 ∷ []

-- this driver broke the rule of a tag
abbrev pub broke_line : ℕ → Text → Text → Text
broke_line number driver tag = codes "# broke " ++ decimal number ++ 32 ∷ driver ++ 32 ∷ tag ++ 10 ∷ []

-- the same for each tag, in their order
abbrev pub broke_lines : ℕ → Text → List Text → Text
broke_lines number driver [] = []
broke_lines number driver (tag ∷ tags) = broke_line number driver tag ++ broke_lines number driver tags

-- what is asked, for which device, and whom
abbrev pub ask_words : Text → Text → Text → List Text → Text
ask_words what path driver more = spaced (what ∷ path ∷ driver ∷ more)

abbrev pub what_text : AskWhat → Text
what_text AskWhat.Add = codes "add"
what_text (AskWhat.Irp minor) = minor_text minor

-- a start tells what the device holds
abbrev pub held_by : AskWhat → Option Node → List Res
held_by (AskWhat.Irp Minor.Start) (Some node) = node.holds
held_by _ _ = []

abbrev pub query_words : State → Query → Text
query_words s q = ask_words (what_text q.what) q.path (name_of s.core.rack q.driver) (map res_text (held_by q.what (node_of q.path s.core.nodes)))

-- AddDevice is not pended
abbrev pub may_pend : AskWhat → Bool
may_pend AskWhat.Add = false
may_pend (AskWhat.Irp minor) = true

abbrev pub poll_words : Text
poll_words = codes "poll"

abbrev pub probe_words : Text → Text → Text
probe_words path driver = ask_words (codes "probe") path driver []

abbrev pub answer_text : Answer → Text
answer_text Answer.Ok = codes "ok"
answer_text Answer.Fail = codes "fail"
answer_text Answer.Pend = codes "pend"

-- In which states may a driver take a create request, refuse it, or keep it for later? Where a driver above failed the start of a device,
-- those below it had started, so of one that is NotStarted nothing is said.
abbrev pub fits : DevState → Answer → Bool
fits DevState.Started Answer.Fail = false
fits DevState.Started _ = true
fits DevState.Stopped Answer.Ok = false
fits DevState.Stopped _ = true
fits DevState.SurpriseRemoved Answer.Fail = true
fits DevState.SurpriseRemoved _ = false
fits DevState.NoStack Answer.Fail = true
fits DevState.NoStack _ = false
fits _ _ = true

-- the tag of an answer that does not fit
abbrev pub misfit_tag : DevState → Answer → Text
misfit_tag state answer = codes "probe-" ++ state_text state ++ 45 ∷ answer_text answer

-- the rules that the answer to a probe shows to be broken, and those that the other side tells
abbrev pub probe_lines : ℕ → Text → DevState → Answer → List Text → Text
probe_lines number driver state answer tags =
    if fits state answer then broke_lines number driver tags else broke_lines number driver (misfit_tag state answer ∷ tags)
