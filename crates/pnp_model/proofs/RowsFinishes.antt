-- The end of devices that stayed behind: whole outputs, as the definition computes them.
use Rattle.std.proofs.Common.{List, [], ◌∷◌, Some, ◌≡◌, refl, true}
use Rattle.std.specs.Prelude.{codes}
use Rattle.std.specs.Fmt.{digits}
use Rattle.resource_reqs.specs.Spelling.Answer.{assignment}
use Rattle.pnp_model.specs.Records.{Found, SearchProblem}
use Rattle.pnp_labels.specs.Texts.{Text}
use Rattle.pnp_labels.specs.declared.event.Event.{Event}
use Rattle.pnp_labels.specs.declared.words.DriverKind.{DriverKind}
use Rattle.pnp_labels.specs.declared.words.Minor.{Minor}
use Rattle.pnp_labels.specs.declared.words.AskWhat.{AskWhat}
use Rattle.pnp_labels.specs.declared.words.Answer.{Answer}
use Rattle.pnp_model.specs.Runs.{traced, opening}
use Rattle.pnp_model.specs.Endings.{lines}
use Rattle.pnp_model.proofs.RowBase.{settings_of, small_rack, Known}

-- the greatest is finished first
abbrev pub row_the_greatest_is_finished_first_known : List Known
row_the_greatest_is_finished_first_known = record { id = codes "OWN\\DEV"; choice = record { rank = 16711680; lower = []; service = Some (codes "dev"); upper = [] } } ∷ []

abbrev pub row_the_greatest_is_finished_first_found : List Found
row_the_greatest_is_finished_first_found = assignment (([]) ∷ []) ∷ assignment (([]) ∷ []) ∷ assignment (([]) ∷ []) ∷ assignment (([]) ∷ []) ∷ []

abbrev pub row_the_greatest_is_finished_first_events : List Event
row_the_greatest_is_finished_first_events =
    Event.Name (codes "dev") DriverKind.Scripted
    ∷ Event.Teach (codes "dev") (record { what = AskWhat.Irp Minor.Remove; path = Some (codes "OWN\\DEV\\4"); answer = Answer.Pend; uses = Some 1 })
    ∷ Event.Plug (codes "HTREE\\ROOT\\0") (codes "OWN\\DEV\\1") (codes "OWN\\DEV" ∷ []) ([]) ([])
    ∷ Event.Plug (codes "OWN\\DEV\\1") (codes "OWN\\DEV\\2") (codes "OWN\\DEV" ∷ []) ([]) ([])
    ∷ Event.Plug (codes "OWN\\DEV\\1") (codes "OWN\\DEV\\3") (codes "OWN\\DEV" ∷ []) ([]) ([])
    ∷ Event.Plug (codes "HTREE\\ROOT\\0") (codes "OWN\\DEV\\4") (codes "OWN\\DEV" ∷ []) ([]) ([])
    ∷ Event.OpenHandle (codes "OWN\\DEV\\2")
    ∷ Event.OpenHandle (codes "OWN\\DEV\\3")
    ∷ Event.OpenHandle (codes "OWN\\DEV\\4")
    ∷ Event.Pull (codes "OWN\\DEV\\1")
    ∷ Event.Pull (codes "OWN\\DEV\\4")
    ∷ Event.CloseHandle (codes "OWN\\DEV\\4")
    ∷ Event.CloseHandle (codes "OWN\\DEV\\2")
    ∷ Event.CloseHandle (codes "OWN\\DEV\\3")
    ∷ Event.Complete (codes "OWN\\DEV\\4") Minor.Remove true
    ∷ []

abbrev pub row_the_greatest_is_finished_first_lines : List Text
row_the_greatest_is_finished_first_lines =
    codes "event driver dev"
    ∷ codes "event teach dev"
    ∷ codes "event plug OWN\\DEV\\1"
    ∷ codes "join 1 OWN\\DEV\\1"
    ∷ codes "listed HTREE\\ROOT\\0"
    ∷ codes "install OWN\\DEV\\1 00ff0000 dev"
    ∷ codes "add OWN\\DEV\\1 dev ok"
    ∷ codes "assign OWN\\DEV\\1"
    ∷ codes "START_DEVICE OWN\\DEV\\1 dev ok"
    ∷ codes "state OWN\\DEV\\1 Started"
    ∷ codes "listed OWN\\DEV\\1"
    ∷ codes "event plug OWN\\DEV\\2"
    ∷ codes "join 2 OWN\\DEV\\2"
    ∷ codes "listed OWN\\DEV\\1"
    ∷ codes "install OWN\\DEV\\2 00ff0000 dev"
    ∷ codes "add OWN\\DEV\\2 dev ok"
    ∷ codes "assign OWN\\DEV\\2"
    ∷ codes "START_DEVICE OWN\\DEV\\2 dev ok"
    ∷ codes "state OWN\\DEV\\2 Started"
    ∷ codes "listed OWN\\DEV\\2"
    ∷ codes "event plug OWN\\DEV\\3"
    ∷ codes "join 3 OWN\\DEV\\3"
    ∷ codes "listed OWN\\DEV\\1"
    ∷ codes "install OWN\\DEV\\3 00ff0000 dev"
    ∷ codes "add OWN\\DEV\\3 dev ok"
    ∷ codes "assign OWN\\DEV\\3"
    ∷ codes "START_DEVICE OWN\\DEV\\3 dev ok"
    ∷ codes "state OWN\\DEV\\3 Started"
    ∷ codes "listed OWN\\DEV\\3"
    ∷ codes "event plug OWN\\DEV\\4"
    ∷ codes "join 4 OWN\\DEV\\4"
    ∷ codes "listed HTREE\\ROOT\\0"
    ∷ codes "install OWN\\DEV\\4 00ff0000 dev"
    ∷ codes "add OWN\\DEV\\4 dev ok"
    ∷ codes "assign OWN\\DEV\\4"
    ∷ codes "START_DEVICE OWN\\DEV\\4 dev ok"
    ∷ codes "state OWN\\DEV\\4 Started"
    ∷ codes "listed OWN\\DEV\\4"
    ∷ codes "event open OWN\\DEV\\2"
    ∷ codes "event open OWN\\DEV\\3"
    ∷ codes "event open OWN\\DEV\\4"
    ∷ codes "event pull OWN\\DEV\\1"
    ∷ codes "gone OWN\\DEV\\1"
    ∷ codes "listed HTREE\\ROOT\\0"
    ∷ codes "begin surprise OWN\\DEV\\1"
    ∷ codes "SURPRISE_REMOVAL OWN\\DEV\\3 dev ok"
    ∷ codes "state OWN\\DEV\\3 SurpriseRemoved"
    ∷ codes "SURPRISE_REMOVAL OWN\\DEV\\2 dev ok"
    ∷ codes "state OWN\\DEV\\2 SurpriseRemoved"
    ∷ codes "SURPRISE_REMOVAL OWN\\DEV\\1 dev ok"
    ∷ codes "state OWN\\DEV\\1 SurpriseRemoved"
    ∷ codes "waits OWN\\DEV\\3"
    ∷ codes "waits OWN\\DEV\\2"
    ∷ codes "waits OWN\\DEV\\1"
    ∷ codes "end surprise OWN\\DEV\\1 waiting"
    ∷ codes "event pull OWN\\DEV\\4"
    ∷ codes "gone OWN\\DEV\\4"
    ∷ codes "listed HTREE\\ROOT\\0"
    ∷ codes "begin surprise OWN\\DEV\\4"
    ∷ codes "SURPRISE_REMOVAL OWN\\DEV\\4 dev ok"
    ∷ codes "state OWN\\DEV\\4 SurpriseRemoved"
    ∷ codes "waits OWN\\DEV\\4"
    ∷ codes "end surprise OWN\\DEV\\4 waiting"
    ∷ codes "event close OWN\\DEV\\4"
    ∷ codes "begin finish OWN\\DEV\\4"
    ∷ codes "REMOVE_DEVICE OWN\\DEV\\4 dev pend"
    ∷ codes "event close OWN\\DEV\\2"
    ∷ codes "event close OWN\\DEV\\3"
    ∷ codes "event complete OWN\\DEV\\4 REMOVE_DEVICE ok"
    ∷ codes "state OWN\\DEV\\4 NoStack"
    ∷ codes "leave OWN\\DEV\\4"
    ∷ codes "REMOVE_DEVICE OWN\\DEV\\3 dev ok"
    ∷ codes "state OWN\\DEV\\3 NoStack"
    ∷ codes "leave OWN\\DEV\\3"
    ∷ codes "REMOVE_DEVICE OWN\\DEV\\2 dev ok"
    ∷ codes "state OWN\\DEV\\2 NoStack"
    ∷ codes "leave OWN\\DEV\\2"
    ∷ codes "REMOVE_DEVICE OWN\\DEV\\1 dev ok"
    ∷ codes "state OWN\\DEV\\1 NoStack"
    ∷ codes "leave OWN\\DEV\\1"
    ∷ codes "end finish OWN\\DEV\\4 done"
    ∷ codes "skip finish 2"
    ∷ codes "skip finish 3"
    ∷ codes "tree"
    ∷ codes "0 HTREE\\ROOT\\0 Started"
    ∷ codes "map"
    ∷ codes "outstanding"
    ∷ []

abbrev row_the_greatest_is_finished_first_problems : List SearchProblem
row_the_greatest_is_finished_first_problems =
    record { fixed = []; movers = ([]) ∷ [] }
    ∷ record { fixed = []; movers = ([]) ∷ [] }
    ∷ record { fixed = []; movers = ([]) ∷ [] }
    ∷ record { fixed = []; movers = ([]) ∷ [] }
    ∷ []

pub row_the_greatest_is_finished_first : lines (traced (settings_of row_the_greatest_is_finished_first_known) 200 (opening small_rack) row_the_greatest_is_finished_first_found row_the_greatest_is_finished_first_events) ≡ row_the_greatest_is_finished_first_lines
unfolding digits
row_the_greatest_is_finished_first = refl

pub row_the_greatest_is_finished_first_asks : (traced (settings_of row_the_greatest_is_finished_first_known) 200 (opening small_rack) row_the_greatest_is_finished_first_found row_the_greatest_is_finished_first_events).problems ≡ row_the_greatest_is_finished_first_problems
row_the_greatest_is_finished_first_asks = refl

-- closed while another is finished
abbrev row_closed_while_another_is_finished_known : List Known
row_closed_while_another_is_finished_known = record { id = codes "OWN\\DEV"; choice = record { rank = 16711680; lower = []; service = Some (codes "dev"); upper = [] } } ∷ []

abbrev row_closed_while_another_is_finished_found : List Found
row_closed_while_another_is_finished_found = assignment (([]) ∷ []) ∷ assignment (([]) ∷ []) ∷ assignment (([]) ∷ []) ∷ []

abbrev row_closed_while_another_is_finished_events : List Event
row_closed_while_another_is_finished_events =
    Event.Name (codes "dev") DriverKind.Scripted
    ∷ Event.Teach (codes "dev") (record { what = AskWhat.Irp Minor.Remove; path = Some (codes "OWN\\DEV\\2"); answer = Answer.Pend; uses = Some 1 })
    ∷ Event.Plug (codes "HTREE\\ROOT\\0") (codes "OWN\\DEV\\1") (codes "OWN\\DEV" ∷ []) ([]) ([])
    ∷ Event.Plug (codes "HTREE\\ROOT\\0") (codes "OWN\\DEV\\2") (codes "OWN\\DEV" ∷ []) ([]) ([])
    ∷ Event.Plug (codes "OWN\\DEV\\1") (codes "OWN\\DEV\\3") (codes "OWN\\DEV" ∷ []) ([]) ([])
    ∷ Event.OpenHandle (codes "OWN\\DEV\\2")
    ∷ Event.OpenHandle (codes "OWN\\DEV\\3")
    ∷ Event.Pull (codes "OWN\\DEV\\1")
    ∷ Event.Pull (codes "OWN\\DEV\\2")
    ∷ Event.CloseHandle (codes "OWN\\DEV\\2")
    ∷ Event.CloseHandle (codes "OWN\\DEV\\3")
    ∷ Event.Complete (codes "OWN\\DEV\\2") Minor.Remove true
    ∷ []

abbrev row_closed_while_another_is_finished_lines : List Text
row_closed_while_another_is_finished_lines =
    codes "event driver dev"
    ∷ codes "event teach dev"
    ∷ codes "event plug OWN\\DEV\\1"
    ∷ codes "join 1 OWN\\DEV\\1"
    ∷ codes "listed HTREE\\ROOT\\0"
    ∷ codes "install OWN\\DEV\\1 00ff0000 dev"
    ∷ codes "add OWN\\DEV\\1 dev ok"
    ∷ codes "assign OWN\\DEV\\1"
    ∷ codes "START_DEVICE OWN\\DEV\\1 dev ok"
    ∷ codes "state OWN\\DEV\\1 Started"
    ∷ codes "listed OWN\\DEV\\1"
    ∷ codes "event plug OWN\\DEV\\2"
    ∷ codes "join 2 OWN\\DEV\\2"
    ∷ codes "listed HTREE\\ROOT\\0"
    ∷ codes "install OWN\\DEV\\2 00ff0000 dev"
    ∷ codes "add OWN\\DEV\\2 dev ok"
    ∷ codes "assign OWN\\DEV\\2"
    ∷ codes "START_DEVICE OWN\\DEV\\2 dev ok"
    ∷ codes "state OWN\\DEV\\2 Started"
    ∷ codes "listed OWN\\DEV\\2"
    ∷ codes "event plug OWN\\DEV\\3"
    ∷ codes "join 3 OWN\\DEV\\3"
    ∷ codes "listed OWN\\DEV\\1"
    ∷ codes "install OWN\\DEV\\3 00ff0000 dev"
    ∷ codes "add OWN\\DEV\\3 dev ok"
    ∷ codes "assign OWN\\DEV\\3"
    ∷ codes "START_DEVICE OWN\\DEV\\3 dev ok"
    ∷ codes "state OWN\\DEV\\3 Started"
    ∷ codes "listed OWN\\DEV\\3"
    ∷ codes "event open OWN\\DEV\\2"
    ∷ codes "event open OWN\\DEV\\3"
    ∷ codes "event pull OWN\\DEV\\1"
    ∷ codes "gone OWN\\DEV\\1"
    ∷ codes "listed HTREE\\ROOT\\0"
    ∷ codes "begin surprise OWN\\DEV\\1"
    ∷ codes "SURPRISE_REMOVAL OWN\\DEV\\3 dev ok"
    ∷ codes "state OWN\\DEV\\3 SurpriseRemoved"
    ∷ codes "SURPRISE_REMOVAL OWN\\DEV\\1 dev ok"
    ∷ codes "state OWN\\DEV\\1 SurpriseRemoved"
    ∷ codes "waits OWN\\DEV\\3"
    ∷ codes "waits OWN\\DEV\\1"
    ∷ codes "end surprise OWN\\DEV\\1 waiting"
    ∷ codes "event pull OWN\\DEV\\2"
    ∷ codes "gone OWN\\DEV\\2"
    ∷ codes "listed HTREE\\ROOT\\0"
    ∷ codes "begin surprise OWN\\DEV\\2"
    ∷ codes "SURPRISE_REMOVAL OWN\\DEV\\2 dev ok"
    ∷ codes "state OWN\\DEV\\2 SurpriseRemoved"
    ∷ codes "waits OWN\\DEV\\2"
    ∷ codes "end surprise OWN\\DEV\\2 waiting"
    ∷ codes "event close OWN\\DEV\\2"
    ∷ codes "begin finish OWN\\DEV\\2"
    ∷ codes "REMOVE_DEVICE OWN\\DEV\\2 dev pend"
    ∷ codes "event close OWN\\DEV\\3"
    ∷ codes "event complete OWN\\DEV\\2 REMOVE_DEVICE ok"
    ∷ codes "state OWN\\DEV\\2 NoStack"
    ∷ codes "leave OWN\\DEV\\2"
    ∷ codes "REMOVE_DEVICE OWN\\DEV\\3 dev ok"
    ∷ codes "state OWN\\DEV\\3 NoStack"
    ∷ codes "leave OWN\\DEV\\3"
    ∷ codes "REMOVE_DEVICE OWN\\DEV\\1 dev ok"
    ∷ codes "state OWN\\DEV\\1 NoStack"
    ∷ codes "leave OWN\\DEV\\1"
    ∷ codes "end finish OWN\\DEV\\2 done"
    ∷ codes "skip finish 3"
    ∷ codes "tree"
    ∷ codes "0 HTREE\\ROOT\\0 Started"
    ∷ codes "map"
    ∷ codes "outstanding"
    ∷ []

abbrev row_closed_while_another_is_finished_problems : List SearchProblem
row_closed_while_another_is_finished_problems =
    record { fixed = []; movers = ([]) ∷ [] }
    ∷ record { fixed = []; movers = ([]) ∷ [] }
    ∷ record { fixed = []; movers = ([]) ∷ [] }
    ∷ []

pub row_closed_while_another_is_finished : lines (traced (settings_of row_closed_while_another_is_finished_known) 200 (opening small_rack) row_closed_while_another_is_finished_found row_closed_while_another_is_finished_events) ≡ row_closed_while_another_is_finished_lines
unfolding digits
row_closed_while_another_is_finished = refl

pub row_closed_while_another_is_finished_asks : (traced (settings_of row_closed_while_another_is_finished_known) 200 (opening small_rack) row_closed_while_another_is_finished_found row_closed_while_another_is_finished_events).problems ≡ row_closed_while_another_is_finished_problems
row_closed_while_another_is_finished_asks = refl

-- told and not told again
abbrev row_told_and_not_told_again_known : List Known
row_told_and_not_told_again_known = record { id = codes "OWN\\DEV"; choice = record { rank = 16711680; lower = []; service = Some (codes "dev"); upper = [] } } ∷ []

abbrev row_told_and_not_told_again_found : List Found
row_told_and_not_told_again_found = assignment (([]) ∷ []) ∷ assignment (([]) ∷ []) ∷ assignment (([]) ∷ []) ∷ assignment (([]) ∷ []) ∷ []

abbrev row_told_and_not_told_again_events : List Event
row_told_and_not_told_again_events =
    Event.Name (codes "dev") DriverKind.Scripted
    ∷ Event.Teach (codes "dev") (record { what = AskWhat.Irp Minor.QueryRemove; path = Some (codes "OWN\\DEV\\Z"); answer = Answer.Pend; uses = Some 1 })
    ∷ Event.Plug (codes "HTREE\\ROOT\\0") (codes "OWN\\DEV\\H") (codes "OWN\\DEV" ∷ []) ([]) ([])
    ∷ Event.Plug (codes "OWN\\DEV\\H") (codes "OWN\\DEV\\C") (codes "OWN\\DEV" ∷ []) ([]) ([])
    ∷ Event.Plug (codes "HTREE\\ROOT\\0") (codes "OWN\\DEV\\X") (codes "OWN\\DEV" ∷ []) ([]) ([])
    ∷ Event.Plug (codes "HTREE\\ROOT\\0") (codes "OWN\\DEV\\Z") (codes "OWN\\DEV" ∷ []) ([]) ([])
    ∷ Event.OpenHandle (codes "OWN\\DEV\\C")
    ∷ Event.Disable (codes "OWN\\DEV\\Z")
    ∷ Event.Pull (codes "OWN\\DEV\\X")
    ∷ Event.Pull (codes "OWN\\DEV\\C")
    ∷ Event.Pull (codes "OWN\\DEV\\H")
    ∷ Event.Complete (codes "OWN\\DEV\\Z") Minor.QueryRemove true
    ∷ Event.CloseHandle (codes "OWN\\DEV\\C")
    ∷ []

abbrev row_told_and_not_told_again_lines : List Text
row_told_and_not_told_again_lines =
    codes "event driver dev"
    ∷ codes "event teach dev"
    ∷ codes "event plug OWN\\DEV\\H"
    ∷ codes "join 1 OWN\\DEV\\H"
    ∷ codes "listed HTREE\\ROOT\\0"
    ∷ codes "install OWN\\DEV\\H 00ff0000 dev"
    ∷ codes "add OWN\\DEV\\H dev ok"
    ∷ codes "assign OWN\\DEV\\H"
    ∷ codes "START_DEVICE OWN\\DEV\\H dev ok"
    ∷ codes "state OWN\\DEV\\H Started"
    ∷ codes "listed OWN\\DEV\\H"
    ∷ codes "event plug OWN\\DEV\\C"
    ∷ codes "join 2 OWN\\DEV\\C"
    ∷ codes "listed OWN\\DEV\\H"
    ∷ codes "install OWN\\DEV\\C 00ff0000 dev"
    ∷ codes "add OWN\\DEV\\C dev ok"
    ∷ codes "assign OWN\\DEV\\C"
    ∷ codes "START_DEVICE OWN\\DEV\\C dev ok"
    ∷ codes "state OWN\\DEV\\C Started"
    ∷ codes "listed OWN\\DEV\\C"
    ∷ codes "event plug OWN\\DEV\\X"
    ∷ codes "join 3 OWN\\DEV\\X"
    ∷ codes "listed HTREE\\ROOT\\0"
    ∷ codes "install OWN\\DEV\\X 00ff0000 dev"
    ∷ codes "add OWN\\DEV\\X dev ok"
    ∷ codes "assign OWN\\DEV\\X"
    ∷ codes "START_DEVICE OWN\\DEV\\X dev ok"
    ∷ codes "state OWN\\DEV\\X Started"
    ∷ codes "listed OWN\\DEV\\X"
    ∷ codes "event plug OWN\\DEV\\Z"
    ∷ codes "join 4 OWN\\DEV\\Z"
    ∷ codes "listed HTREE\\ROOT\\0"
    ∷ codes "install OWN\\DEV\\Z 00ff0000 dev"
    ∷ codes "add OWN\\DEV\\Z dev ok"
    ∷ codes "assign OWN\\DEV\\Z"
    ∷ codes "START_DEVICE OWN\\DEV\\Z dev ok"
    ∷ codes "state OWN\\DEV\\Z Started"
    ∷ codes "listed OWN\\DEV\\Z"
    ∷ codes "event open OWN\\DEV\\C"
    ∷ codes "event disable OWN\\DEV\\Z"
    ∷ codes "begin disable OWN\\DEV\\Z"
    ∷ codes "QUERY_REMOVE_DEVICE OWN\\DEV\\Z dev pend"
    ∷ codes "event pull OWN\\DEV\\X"
    ∷ codes "event pull OWN\\DEV\\C"
    ∷ codes "event pull OWN\\DEV\\H"
    ∷ codes "event complete OWN\\DEV\\Z QUERY_REMOVE_DEVICE ok"
    ∷ codes "state OWN\\DEV\\Z RemovePending"
    ∷ codes "REMOVE_DEVICE OWN\\DEV\\Z dev ok"
    ∷ codes "state OWN\\DEV\\Z NoStack"
    ∷ codes "problem OWN\\DEV\\Z 22"
    ∷ codes "end disable OWN\\DEV\\Z done"
    ∷ codes "gone OWN\\DEV\\H"
    ∷ codes "gone OWN\\DEV\\X"
    ∷ codes "listed HTREE\\ROOT\\0"
    ∷ codes "gone OWN\\DEV\\C"
    ∷ codes "listed OWN\\DEV\\H"
    ∷ codes "listed HTREE\\ROOT\\0"
    ∷ codes "begin surprise OWN\\DEV\\H"
    ∷ codes "SURPRISE_REMOVAL OWN\\DEV\\C dev ok"
    ∷ codes "state OWN\\DEV\\C SurpriseRemoved"
    ∷ codes "SURPRISE_REMOVAL OWN\\DEV\\H dev ok"
    ∷ codes "state OWN\\DEV\\H SurpriseRemoved"
    ∷ codes "waits OWN\\DEV\\C"
    ∷ codes "waits OWN\\DEV\\H"
    ∷ codes "end surprise OWN\\DEV\\H waiting"
    ∷ codes "begin surprise OWN\\DEV\\X"
    ∷ codes "SURPRISE_REMOVAL OWN\\DEV\\X dev ok"
    ∷ codes "state OWN\\DEV\\X SurpriseRemoved"
    ∷ codes "REMOVE_DEVICE OWN\\DEV\\X dev ok"
    ∷ codes "state OWN\\DEV\\X NoStack"
    ∷ codes "leave OWN\\DEV\\X"
    ∷ codes "end surprise OWN\\DEV\\X done"
    ∷ codes "skip surprise 2"
    ∷ codes "event close OWN\\DEV\\C"
    ∷ codes "begin finish OWN\\DEV\\C"
    ∷ codes "REMOVE_DEVICE OWN\\DEV\\C dev ok"
    ∷ codes "state OWN\\DEV\\C NoStack"
    ∷ codes "leave OWN\\DEV\\C"
    ∷ codes "REMOVE_DEVICE OWN\\DEV\\H dev ok"
    ∷ codes "state OWN\\DEV\\H NoStack"
    ∷ codes "leave OWN\\DEV\\H"
    ∷ codes "end finish OWN\\DEV\\C done"
    ∷ codes "tree"
    ∷ codes "0 HTREE\\ROOT\\0 Started"
    ∷ codes " 4 OWN\\DEV\\Z NoStack problem 22"
    ∷ codes "map"
    ∷ codes "outstanding"
    ∷ []

abbrev row_told_and_not_told_again_problems : List SearchProblem
row_told_and_not_told_again_problems =
    record { fixed = []; movers = ([]) ∷ [] }
    ∷ record { fixed = []; movers = ([]) ∷ [] }
    ∷ record { fixed = []; movers = ([]) ∷ [] }
    ∷ record { fixed = []; movers = ([]) ∷ [] }
    ∷ []

pub row_told_and_not_told_again : lines (traced (settings_of row_told_and_not_told_again_known) 200 (opening small_rack) row_told_and_not_told_again_found row_told_and_not_told_again_events) ≡ row_told_and_not_told_again_lines
unfolding digits
row_told_and_not_told_again = refl

pub row_told_and_not_told_again_asks : (traced (settings_of row_told_and_not_told_again_known) 200 (opening small_rack) row_told_and_not_told_again_found row_told_and_not_told_again_events).problems ≡ row_told_and_not_told_again_problems
row_told_and_not_told_again_asks = refl

-- told and refusing
abbrev pub row_told_and_refusing_known : List Known
row_told_and_refusing_known = record { id = codes "OWN\\DEV"; choice = record { rank = 16711680; lower = []; service = Some (codes "dev"); upper = [] } } ∷ []

abbrev pub row_told_and_refusing_found : List Found
row_told_and_refusing_found = assignment (([]) ∷ []) ∷ assignment (([]) ∷ []) ∷ assignment (([]) ∷ []) ∷ []

abbrev pub row_told_and_refusing_events : List Event
row_told_and_refusing_events =
    Event.Name (codes "dev") DriverKind.Scripted
    ∷ Event.Teach (codes "dev") (record { what = AskWhat.Irp Minor.QueryRemove; path = Some (codes "OWN\\DEV\\Z"); answer = Answer.Pend; uses = Some 1 })
    ∷ Event.Plug (codes "HTREE\\ROOT\\0") (codes "OWN\\DEV\\H") (codes "OWN\\DEV" ∷ []) ([]) ([])
    ∷ Event.Plug (codes "OWN\\DEV\\H") (codes "OWN\\DEV\\C") (codes "OWN\\DEV" ∷ []) ([]) ([])
    ∷ Event.Plug (codes "HTREE\\ROOT\\0") (codes "OWN\\DEV\\Z") (codes "OWN\\DEV" ∷ []) ([]) ([])
    ∷ Event.OpenHandle (codes "OWN\\DEV\\C")
    ∷ Event.Pull (codes "OWN\\DEV\\C")
    ∷ Event.Disable (codes "OWN\\DEV\\Z")
    ∷ Event.Disable (codes "OWN\\DEV\\H")
    ∷ Event.CloseHandle (codes "OWN\\DEV\\C")
    ∷ Event.Complete (codes "OWN\\DEV\\Z") Minor.QueryRemove true
    ∷ []

abbrev pub row_told_and_refusing_lines : List Text
row_told_and_refusing_lines =
    codes "event driver dev"
    ∷ codes "event teach dev"
    ∷ codes "event plug OWN\\DEV\\H"
    ∷ codes "join 1 OWN\\DEV\\H"
    ∷ codes "listed HTREE\\ROOT\\0"
    ∷ codes "install OWN\\DEV\\H 00ff0000 dev"
    ∷ codes "add OWN\\DEV\\H dev ok"
    ∷ codes "assign OWN\\DEV\\H"
    ∷ codes "START_DEVICE OWN\\DEV\\H dev ok"
    ∷ codes "state OWN\\DEV\\H Started"
    ∷ codes "listed OWN\\DEV\\H"
    ∷ codes "event plug OWN\\DEV\\C"
    ∷ codes "join 2 OWN\\DEV\\C"
    ∷ codes "listed OWN\\DEV\\H"
    ∷ codes "install OWN\\DEV\\C 00ff0000 dev"
    ∷ codes "add OWN\\DEV\\C dev ok"
    ∷ codes "assign OWN\\DEV\\C"
    ∷ codes "START_DEVICE OWN\\DEV\\C dev ok"
    ∷ codes "state OWN\\DEV\\C Started"
    ∷ codes "listed OWN\\DEV\\C"
    ∷ codes "event plug OWN\\DEV\\Z"
    ∷ codes "join 3 OWN\\DEV\\Z"
    ∷ codes "listed HTREE\\ROOT\\0"
    ∷ codes "install OWN\\DEV\\Z 00ff0000 dev"
    ∷ codes "add OWN\\DEV\\Z dev ok"
    ∷ codes "assign OWN\\DEV\\Z"
    ∷ codes "START_DEVICE OWN\\DEV\\Z dev ok"
    ∷ codes "state OWN\\DEV\\Z Started"
    ∷ codes "listed OWN\\DEV\\Z"
    ∷ codes "event open OWN\\DEV\\C"
    ∷ codes "event pull OWN\\DEV\\C"
    ∷ codes "gone OWN\\DEV\\C"
    ∷ codes "listed OWN\\DEV\\H"
    ∷ codes "begin surprise OWN\\DEV\\C"
    ∷ codes "SURPRISE_REMOVAL OWN\\DEV\\C dev ok"
    ∷ codes "state OWN\\DEV\\C SurpriseRemoved"
    ∷ codes "waits OWN\\DEV\\C"
    ∷ codes "end surprise OWN\\DEV\\C waiting"
    ∷ codes "event disable OWN\\DEV\\Z"
    ∷ codes "begin disable OWN\\DEV\\Z"
    ∷ codes "QUERY_REMOVE_DEVICE OWN\\DEV\\Z dev pend"
    ∷ codes "event disable OWN\\DEV\\H"
    ∷ codes "event close OWN\\DEV\\C"
    ∷ codes "event complete OWN\\DEV\\Z QUERY_REMOVE_DEVICE ok"
    ∷ codes "state OWN\\DEV\\Z RemovePending"
    ∷ codes "REMOVE_DEVICE OWN\\DEV\\Z dev ok"
    ∷ codes "state OWN\\DEV\\Z NoStack"
    ∷ codes "problem OWN\\DEV\\Z 22"
    ∷ codes "end disable OWN\\DEV\\Z done"
    ∷ codes "begin disable OWN\\DEV\\H"
    ∷ codes "handles OWN\\DEV\\C"
    ∷ codes "end disable OWN\\DEV\\H veto OWN\\DEV\\C"
    ∷ codes "begin finish OWN\\DEV\\C"
    ∷ codes "REMOVE_DEVICE OWN\\DEV\\C dev ok"
    ∷ codes "state OWN\\DEV\\C NoStack"
    ∷ codes "leave OWN\\DEV\\C"
    ∷ codes "end finish OWN\\DEV\\C done"
    ∷ codes "tree"
    ∷ codes "0 HTREE\\ROOT\\0 Started"
    ∷ codes " 1 OWN\\DEV\\H Started"
    ∷ codes " 3 OWN\\DEV\\Z NoStack problem 22"
    ∷ codes "map"
    ∷ codes "outstanding"
    ∷ []

abbrev row_told_and_refusing_problems : List SearchProblem
row_told_and_refusing_problems =
    record { fixed = []; movers = ([]) ∷ [] }
    ∷ record { fixed = []; movers = ([]) ∷ [] }
    ∷ record { fixed = []; movers = ([]) ∷ [] }
    ∷ []

pub row_told_and_refusing : lines (traced (settings_of row_told_and_refusing_known) 200 (opening small_rack) row_told_and_refusing_found row_told_and_refusing_events) ≡ row_told_and_refusing_lines
unfolding digits
row_told_and_refusing = refl

pub row_told_and_refusing_asks : (traced (settings_of row_told_and_refusing_known) 200 (opening small_rack) row_told_and_refusing_found row_told_and_refusing_events).problems ≡ row_told_and_refusing_problems
row_told_and_refusing_asks = refl
