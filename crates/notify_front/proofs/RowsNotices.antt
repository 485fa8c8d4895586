-- Clients are asked and told: whole outputs, as the definition computes them.
use Rattle.std.proofs.Common.{List, [], ◌∷◌, ◌++◌, Some, None, ◌≡◌, refl, true, false}
use Rattle.std.specs.Prelude.{codes, map}
use Rattle.std.specs.Fmt.{digits}
use Rattle.resource_reqs.specs.Spelling.Answer.{assignment}
use Rattle.pnp_labels.specs.Texts.{Text, label_line}
use Rattle.pnp_labels.specs.declared.event.Event.{Event}
use Rattle.pnp_labels.specs.declared.words.DriverKind.{DriverKind}
use Rattle.pnp_labels.specs.declared.words.Minor.{Minor}
use Rattle.pnp_labels.specs.declared.words.AskWhat.{AskWhat}
use Rattle.pnp_labels.specs.declared.words.RelKind.{RelKind}
use Rattle.pnp_labels.specs.declared.words.Answer.{Answer}
use Rattle.pnp_model.specs.Runs.{opening}
use Rattle.pnp_model.specs.Endings.{ending}
use Rattle.notify_front.specs.Fronts.{opening_front}
use Rattle.notify_front.specs.Notices.{FrontTrace, traced}
use Rattle.pnp_model.proofs.RowBase.{settings_of, small_rack, Known}

abbrev lines : FrontTrace → List Text
lines t = map label_line t.labels ++ ending t.front.state

abbrev known : List Known
known =
    record { id = codes "OWN\\DEV"; choice = record { rank = 16711680; lower = []; service = Some (codes "dev"); upper = [] } }
    ∷ record { id = codes "OWN\\HARD"; choice = record { rank = 16711680; lower = []; service = Some (codes "hard"); upper = [] } }
    ∷ []

-- a client refuses, and is registered already
abbrev refused_by_a_client_events : List Event
refused_by_a_client_events =
    Event.Name (codes "dev") DriverKind.Steady
    ∷ Event.Plug (codes "HTREE\\ROOT\\0") (codes "OWN\\DEV\\1") (codes "OWN\\DEV" ∷ []) ([]) ([])
    ∷ Event.Watch (codes "ed") (codes "OWN\\DEV\\1") false
    ∷ Event.Disable (codes "OWN\\DEV\\1")
    ∷ Event.Watch (codes "ed") (codes "OWN\\DEV\\1") true
    ∷ []

abbrev refused_by_a_client_lines : List Text
refused_by_a_client_lines =
    codes "event driver dev"
    ∷ codes "event plug OWN\\DEV\\1"
    ∷ codes "join 1 OWN\\DEV\\1"
    ∷ codes "listed HTREE\\ROOT\\0"
    ∷ codes "install OWN\\DEV\\1 00ff0000 dev"
    ∷ codes "add OWN\\DEV\\1 dev ok"
    ∷ codes "assign OWN\\DEV\\1"
    ∷ codes "START_DEVICE OWN\\DEV\\1 dev ok"
    ∷ codes "state OWN\\DEV\\1 Started"
    ∷ codes "listed OWN\\DEV\\1"
    ∷ codes "event watch ed OWN\\DEV\\1"
    ∷ codes "event disable OWN\\DEV\\1"
    ∷ codes "notice QUERY_REMOVE ed OWN\\DEV\\1 refuse"
    ∷ codes "declined disable OWN\\DEV\\1 ed"
    ∷ codes "refused watch SameWatch"
    ∷ codes "tree"
    ∷ codes "0 HTREE\\ROOT\\0 Started"
    ∷ codes " 1 OWN\\DEV\\1 Started"
    ∷ codes "map"
    ∷ codes "outstanding"
    ∷ []

pub refused_by_a_client : lines (traced (settings_of known) 200 (opening_front (opening small_rack)) (assignment (([]) ∷ []) ∷ []) refused_by_a_client_events) ≡ refused_by_a_client_lines
unfolding digits
refused_by_a_client = refl

-- a driver vetoes after two clients agreed, and later does not
abbrev vetoed_and_done_events : List Event
vetoed_and_done_events =
    Event.Name (codes "dev") DriverKind.Scripted
    ∷ Event.Teach (codes "dev") (record { what = AskWhat.Irp Minor.QueryRemove; path = None; answer = Answer.Fail; uses = Some 1 })
    ∷ Event.Plug (codes "HTREE\\ROOT\\0") (codes "OWN\\DEV\\1") (codes "OWN\\DEV" ∷ []) ([]) ([])
    ∷ Event.Watch (codes "a") (codes "OWN\\DEV\\1") true
    ∷ Event.Watch (codes "b") (codes "OWN\\DEV\\1") true
    ∷ Event.Disable (codes "OWN\\DEV\\1")
    ∷ Event.Disable (codes "OWN\\DEV\\1")
    ∷ []

abbrev vetoed_and_done_lines : List Text
vetoed_and_done_lines =
    codes "event driver dev"
    ∷ codes "event teach dev"
    ∷ codes "event plug OWN\\DEV\\1"
    ∷ codes "join 1 OWN\\DEV\\1"
    ∷ codes "listed HTREE\\ROOT\\0"
    ∷ codes "install OWN\\DEV\\1 00ff0000 dev"
    ∷ codes "add OWN\\DEV\\1 dev ok"
    ∷ codes "assign OWN\\DEV\\1"
    ∷ codes "START_DEVICE OWN\\DEV\\1 dev ok"
    ∷ codes "state OWN\\DEV\\1 Started"
    ∷ codes "listed OWN\\DEV\\1"
    ∷ codes "event watch a OWN\\DEV\\1"
    ∷ codes "event watch b OWN\\DEV\\1"
    ∷ codes "event disable OWN\\DEV\\1"
    ∷ codes "notice QUERY_REMOVE a OWN\\DEV\\1 ok"
    ∷ codes "notice QUERY_REMOVE b OWN\\DEV\\1 ok"
    ∷ codes "begin disable OWN\\DEV\\1"
    ∷ codes "QUERY_REMOVE_DEVICE OWN\\DEV\\1 dev fail"
    ∷ codes "state OWN\\DEV\\1 Started"
    ∷ codes "CANCEL_REMOVE_DEVICE OWN\\DEV\\1 dev ok"
    ∷ codes "state OWN\\DEV\\1 Started"
    ∷ codes "end disable OWN\\DEV\\1 veto OWN\\DEV\\1"
    ∷ codes "notice REMOVE_CANCELLED b OWN\\DEV\\1"
    ∷ codes "notice REMOVE_CANCELLED a OWN\\DEV\\1"
    ∷ codes "event disable OWN\\DEV\\1"
    ∷ codes "notice QUERY_REMOVE a OWN\\DEV\\1 ok"
    ∷ codes "notice QUERY_REMOVE b OWN\\DEV\\1 ok"
    ∷ codes "begin disable OWN\\DEV\\1"
    ∷ codes "QUERY_REMOVE_DEVICE OWN\\DEV\\1 dev ok"
    ∷ codes "state OWN\\DEV\\1 RemovePending"
    ∷ codes "REMOVE_DEVICE OWN\\DEV\\1 dev ok"
    ∷ codes "state OWN\\DEV\\1 NoStack"
    ∷ codes "problem OWN\\DEV\\1 22"
    ∷ codes "end disable OWN\\DEV\\1 done"
    ∷ codes "notice REMOVE_COMPLETE a OWN\\DEV\\1"
    ∷ codes "notice REMOVE_COMPLETE b OWN\\DEV\\1"
    ∷ codes "tree"
    ∷ codes "0 HTREE\\ROOT\\0 Started"
    ∷ codes " 1 OWN\\DEV\\1 NoStack problem 22"
    ∷ codes "map"
    ∷ codes "outstanding"
    ∷ []

pub vetoed_and_done : lines (traced (settings_of known) 200 (opening_front (opening small_rack)) (assignment (([]) ∷ []) ∷ []) vetoed_and_done_events) ≡ vetoed_and_done_lines
unfolding digits
vetoed_and_done = refl

-- clients on a tree with a relation are asked in leaving order, and one refuses in the midst
abbrev leaving_order_events : List Event
leaving_order_events =
    Event.Name (codes "dev") DriverKind.Steady
    ∷ Event.Plug (codes "HTREE\\ROOT\\0") (codes "OWN\\DEV\\H") (codes "OWN\\DEV" ∷ []) ([]) ([])
    ∷ Event.Plug (codes "OWN\\DEV\\H") (codes "OWN\\DEV\\1") (codes "OWN\\DEV" ∷ []) ([]) ([])
    ∷ Event.Plug (codes "OWN\\DEV\\H") (codes "OWN\\DEV\\2") (codes "OWN\\DEV" ∷ []) ([]) ([])
    ∷ Event.Plug (codes "HTREE\\ROOT\\0") (codes "OWN\\DEV\\M") (codes "OWN\\DEV" ∷ []) ([]) ([])
    ∷ Event.Relate RelKind.Removal (codes "OWN\\DEV\\1") (codes "OWN\\DEV\\M")
    ∷ Event.Watch (codes "a") (codes "OWN\\DEV\\H") true
    ∷ Event.Watch (codes "b") (codes "OWN\\DEV\\1") false
    ∷ Event.Watch (codes "c") (codes "OWN\\DEV\\M") true
    ∷ Event.Watch (codes "d") (codes "OWN\\DEV\\2") true
    ∷ Event.Watch (codes "e") (codes "OWN\\DEV\\2") true
    ∷ Event.Disable (codes "OWN\\DEV\\H")
    ∷ Event.Unwatch (codes "b") (codes "OWN\\DEV\\1")
    ∷ Event.Disable (codes "OWN\\DEV\\H")
    ∷ []

abbrev leaving_order_lines : List Text
leaving_order_lines =
    codes "event driver dev"
    ∷ codes "event plug OWN\\DEV\\H"
    ∷ codes "join 1 OWN\\DEV\\H"
    ∷ codes "listed HTREE\\ROOT\\0"
    ∷ codes "install OWN\\DEV\\H 00ff0000 dev"
    ∷ codes "add OWN\\DEV\\H dev ok"
    ∷ codes "assign OWN\\DEV\\H"
    ∷ codes "START_DEVICE OWN\\DEV\\H dev ok"
    ∷ codes "state OWN\\DEV\\H Started"
    ∷ codes "listed OWN\\DEV\\H"
    ∷ codes "event plug OWN\\DEV\\1"
    ∷ codes "join 2 OWN\\DEV\\1"
    ∷ codes "listed OWN\\DEV\\H"
    ∷ codes "install OWN\\DEV\\1 00ff0000 dev"
    ∷ codes "add OWN\\DEV\\1 dev ok"
    ∷ codes "assign OWN\\DEV\\1"
    ∷ codes "START_DEVICE OWN\\DEV\\1 dev ok"
    ∷ codes "state OWN\\DEV\\1 Started"
    ∷ codes "listed OWN\\DEV\\1"
    ∷ codes "event plug OWN\\DEV\\2"
    ∷ codes "join 3 OWN\\DEV\\2"
    ∷ codes "listed OWN\\DEV\\H"
    ∷ codes "install OWN\\DEV\\2 00ff0000 dev"
    ∷ codes "add OWN\\DEV\\2 dev ok"
    ∷ codes "assign OWN\\DEV\\2"
    ∷ codes "START_DEVICE OWN\\DEV\\2 dev ok"
    ∷ codes "state OWN\\DEV\\2 Started"
    ∷ codes "listed OWN\\DEV\\2"
    ∷ codes "event plug OWN\\DEV\\M"
    ∷ codes "join 4 OWN\\DEV\\M"
    ∷ codes "listed HTREE\\ROOT\\0"
    ∷ codes "install OWN\\DEV\\M 00ff0000 dev"
    ∷ codes "add OWN\\DEV\\M dev ok"
    ∷ codes "assign OWN\\DEV\\M"
    ∷ codes "START_DEVICE OWN\\DEV\\M dev ok"
    ∷ codes "state OWN\\DEV\\M Started"
    ∷ codes "listed OWN\\DEV\\M"
    ∷ codes "event relate OWN\\DEV\\1 OWN\\DEV\\M"
    ∷ codes "event watch a OWN\\DEV\\H"
    ∷ codes "event watch b OWN\\DEV\\1"
    ∷ codes "event watch c OWN\\DEV\\M"
    ∷ codes "event watch d OWN\\DEV\\2"
    ∷ codes "event watch e OWN\\DEV\\2"
    ∷ codes "event disable OWN\\DEV\\H"
    ∷ codes "notice QUERY_REMOVE c OWN\\DEV\\M ok"
    ∷ codes "notice QUERY_REMOVE d OWN\\DEV\\2 ok"
    ∷ codes "notice QUERY_REMOVE e OWN\\DEV\\2 ok"
    ∷ codes "notice QUERY_REMOVE b OWN\\DEV\\1 refuse"
    ∷ codes "notice REMOVE_CANCELLED e OWN\\DEV\\2"
    ∷ codes "notice REMOVE_CANCELLED d OWN\\DEV\\2"
    ∷ codes "notice REMOVE_CANCELLED c OWN\\DEV\\M"
    ∷ codes "declined disable OWN\\DEV\\H b"
    ∷ codes "event unwatch b OWN\\DEV\\1"
    ∷ codes "event disable OWN\\DEV\\H"
    ∷ codes "notice QUERY_REMOVE c OWN\\DEV\\M ok"
    ∷ codes "notice QUERY_REMOVE d OWN\\DEV\\2 ok"
    ∷ codes "notice QUERY_REMOVE e OWN\\DEV\\2 ok"
    ∷ codes "notice QUERY_REMOVE a OWN\\DEV\\H ok"
    ∷ codes "begin disable OWN\\DEV\\H"
    ∷ codes "QUERY_REMOVE_DEVICE OWN\\DEV\\M dev ok"
    ∷ codes "state OWN\\DEV\\M RemovePending"
    ∷ codes "QUERY_REMOVE_DEVICE OWN\\DEV\\2 dev ok"
    ∷ codes "state OWN\\DEV\\2 RemovePending"
    ∷ codes "QUERY_REMOVE_DEVICE OWN\\DEV\\1 dev ok"
    ∷ codes "state OWN\\DEV\\1 RemovePending"
    ∷ codes "QUERY_REMOVE_DEVICE OWN\\DEV\\H dev ok"
    ∷ codes "state OWN\\DEV\\H RemovePending"
    ∷ codes "REMOVE_DEVICE OWN\\DEV\\M dev ok"
    ∷ codes "state OWN\\DEV\\M NoStack"
    ∷ codes "problem OWN\\DEV\\M held"
    ∷ codes "REMOVE_DEVICE OWN\\DEV\\2 dev ok"
    ∷ codes "state OWN\\DEV\\2 NoStack"
    ∷ codes "leave OWN\\DEV\\2"
    ∷ codes "REMOVE_DEVICE OWN\\DEV\\1 dev ok"
    ∷ codes "state OWN\\DEV\\1 NoStack"
    ∷ codes "leave OWN\\DEV\\1"
    ∷ codes "REMOVE_DEVICE OWN\\DEV\\H dev ok"
    ∷ codes "state OWN\\DEV\\H NoStack"
    ∷ codes "problem OWN\\DEV\\H 22"
    ∷ codes "end disable OWN\\DEV\\H done"
    ∷ codes "notice REMOVE_COMPLETE c OWN\\DEV\\M"
    ∷ codes "notice REMOVE_COMPLETE d OWN\\DEV\\2"
    ∷ codes "notice REMOVE_COMPLETE e OWN\\DEV\\2"
    ∷ codes "notice REMOVE_COMPLETE a OWN\\DEV\\H"
    ∷ codes "tree"
    ∷ codes "0 HTREE\\ROOT\\0 Started"
    ∷ codes " 1 OWN\\DEV\\H NoStack problem 22"
    ∷ codes " 4 OWN\\DEV\\M NoStack problem held"
    ∷ codes "map"
    ∷ codes "outstanding"
    ∷ []

pub leaving_order : lines (traced (settings_of known) 200 (opening_front (opening small_rack)) (assignment (([]) ∷ []) ∷ assignment (([]) ∷ []) ∷ assignment (([]) ∷ []) ∷ assignment (([]) ∷ []) ∷ []) leaving_order_events) ≡ leaving_order_lines
unfolding digits
leaving_order = refl

-- a surprise asks nobody and tells all on its set, also who would refuse
abbrev told_of_a_surprise_events : List Event
told_of_a_surprise_events =
    Event.Name (codes "dev") DriverKind.Steady
    ∷ Event.Plug (codes "HTREE\\ROOT\\0") (codes "OWN\\DEV\\H") (codes "OWN\\DEV" ∷ []) ([]) ([])
    ∷ Event.Plug (codes "OWN\\DEV\\H") (codes "OWN\\DEV\\C") (codes "OWN\\DEV" ∷ []) ([]) ([])
    ∷ Event.Watch (codes "a") (codes "OWN\\DEV\\H") false
    ∷ Event.Watch (codes "b") (codes "OWN\\DEV\\C") true
    ∷ Event.Pull (codes "OWN\\DEV\\H")
    ∷ Event.Plug (codes "HTREE\\ROOT\\0") (codes "OWN\\DEV\\H") (codes "OWN\\DEV" ∷ []) ([]) ([])
    ∷ Event.Unwatch (codes "a") (codes "OWN\\DEV\\H")
    ∷ []

abbrev told_of_a_surprise_lines : List Text
told_of_a_surprise_lines =
    codes "event driver dev"
    ∷ codes "event plug OWN\\DEV\\H"
    ∷ codes "join 1 OWN\\DEV\\H"
    ∷ codes "listed HTREE\\ROOT\\0"
    ∷ codes "install OWN\\DEV\\H 00ff0000 dev"
    ∷ codes "add OWN\\DEV\\H dev ok"
    ∷ codes "assign OWN\\DEV\\H"
    ∷ codes "START_DEVICE OWN\\DEV\\H dev ok"
    ∷ codes "state OWN\\DEV\\H Started"
    ∷ codes "listed OWN\\DEV\\H"
    ∷ codes "event plug OWN\\DEV\\C"
    ∷ codes "join 2 OWN\\DEV\\C"
    ∷ codes "listed OWN\\DEV\\H"
    ∷ codes "install OWN\\DEV\\C 00ff0000 dev"
    ∷ codes "add OWN\\DEV\\C dev ok"
    ∷ codes "assign OWN\\DEV\\C"
    ∷ codes "START_DEVICE OWN\\DEV\\C dev ok"
    ∷ codes "state OWN\\DEV\\C Started"
    ∷ codes "listed OWN\\DEV\\C"
    ∷ codes "event watch a OWN\\DEV\\H"
    ∷ codes "event watch b OWN\\DEV\\C"
    ∷ codes "event pull OWN\\DEV\\H"
    ∷ codes "gone OWN\\DEV\\H"
    ∷ codes "listed HTREE\\ROOT\\0"
    ∷ codes "begin surprise OWN\\DEV\\H"
    ∷ codes "SURPRISE_REMOVAL OWN\\DEV\\C dev ok"
    ∷ codes "state OWN\\DEV\\C SurpriseRemoved"
    ∷ codes "SURPRISE_REMOVAL OWN\\DEV\\H dev ok"
    ∷ codes "state OWN\\DEV\\H SurpriseRemoved"
    ∷ codes "REMOVE_DEVICE OWN\\DEV\\C dev ok"
    ∷ codes "state OWN\\DEV\\C NoStack"
    ∷ codes "leave OWN\\DEV\\C"
    ∷ codes "REMOVE_DEVICE OWN\\DEV\\H dev ok"
    ∷ codes "state OWN\\DEV\\H NoStack"
    ∷ codes "leave OWN\\DEV\\H"
    ∷ codes "end surprise OWN\\DEV\\H done"
    ∷ codes "notice REMOVE_COMPLETE b OWN\\DEV\\C"
    ∷ codes "notice REMOVE_COMPLETE a OWN\\DEV\\H"
    ∷ codes "event plug OWN\\DEV\\H"
    ∷ codes "join 3 OWN\\DEV\\H"
    ∷ codes "listed HTREE\\ROOT\\0"
    ∷ codes "install OWN\\DEV\\H 00ff0000 dev"
    ∷ codes "add OWN\\DEV\\H dev ok"
    ∷ codes "assign OWN\\DEV\\H"
    ∷ codes "START_DEVICE OWN\\DEV\\H dev ok"
    ∷ codes "state OWN\\DEV\\H Started"
    ∷ codes "listed OWN\\DEV\\H"
    ∷ codes "refused unwatch NoWatch"
    ∷ codes "tree"
    ∷ codes "0 HTREE\\ROOT\\0 Started"
    ∷ codes " 3 OWN\\DEV\\H Started"
    ∷ codes "map"
    ∷ codes "outstanding"
    ∷ []

pub told_of_a_surprise : lines (traced (settings_of known) 200 (opening_front (opening small_rack)) (assignment (([]) ∷ []) ∷ assignment (([]) ∷ []) ∷ assignment (([]) ∷ []) ∷ []) told_of_a_surprise_events) ≡ told_of_a_surprise_lines
unfolding digits
told_of_a_surprise = refl

-- each refusal of the two lines
abbrev refusals_of_clients_events : List Event
refusals_of_clients_events =
    Event.Name (codes "dev") DriverKind.Scripted
    ∷ Event.Teach (codes "dev") (record { what = AskWhat.Irp Minor.QueryRemove; path = None; answer = Answer.Pend; uses = Some 1 })
    ∷ Event.Plug (codes "HTREE\\ROOT\\0") (codes "OWN\\DEV\\1") (codes "OWN\\DEV" ∷ []) ([]) ([])
    ∷ Event.Plug (codes "HTREE\\ROOT\\0") (codes "OWN\\HARD\\2") (codes "OWN\\HARD" ∷ []) ([]) ([])
    ∷ Event.Watch (codes "a") (codes "OWN\\DEV\\7") true
    ∷ Event.Unwatch (codes "a") (codes "OWN\\DEV\\7")
    ∷ Event.Watch (codes "a") (codes "OWN\\HARD\\2") true
    ∷ Event.Unwatch (codes "a") (codes "OWN\\DEV\\1")
    ∷ Event.Watch (codes "a") (codes "OWN\\DEV\\1") true
    ∷ Event.Watch (codes "A") (codes "OWN\\DEV\\1") false
    ∷ Event.Unwatch (codes "A") (codes "own\\dev\\1")
    ∷ Event.Disable (codes "OWN\\DEV\\1")
    ∷ Event.Watch (codes "b") (codes "OWN\\DEV\\1") true
    ∷ Event.Unwatch (codes "a") (codes "OWN\\DEV\\1")
    ∷ Event.Complete (codes "OWN\\DEV\\1") Minor.QueryRemove true
    ∷ Event.Watch (codes "a") (codes "OWN\\DEV\\1") true
    ∷ []

abbrev refusals_of_clients_lines : List Text
refusals_of_clients_lines =
    codes "event driver dev"
    ∷ codes "event teach dev"
    ∷ codes "event plug OWN\\DEV\\1"
    ∷ codes "join 1 OWN\\DEV\\1"
    ∷ codes "listed HTREE\\ROOT\\0"
    ∷ codes "install OWN\\DEV\\1 00ff0000 dev"
    ∷ codes "add OWN\\DEV\\1 dev ok"
    ∷ codes "assign OWN\\DEV\\1"
    ∷ codes "START_DEVICE OWN\\DEV\\1 dev ok"
    ∷ codes "state OWN\\DEV\\1 Started"
    ∷ codes "listed OWN\\DEV\\1"
    ∷ codes "event plug OWN\\HARD\\2"
    ∷ codes "join 2 OWN\\HARD\\2"
    ∷ codes "listed HTREE\\ROOT\\0"
    ∷ codes "problem OWN\\HARD\\2 39"
    ∷ codes "refused watch NoDevice"
    ∷ codes "refused unwatch NoDevice"
    ∷ codes "refused watch NotStarted"
    ∷ codes "refused unwatch NoWatch"
    ∷ codes "event watch a OWN\\DEV\\1"
    ∷ codes "event watch A OWN\\DEV\\1"
    ∷ codes "event unwatch A OWN\\DEV\\1"
    ∷ codes "event disable OWN\\DEV\\1"
    ∷ codes "notice QUERY_REMOVE a OWN\\DEV\\1 ok"
    ∷ codes "begin disable OWN\\DEV\\1"
    ∷ codes "QUERY_REMOVE_DEVICE OWN\\DEV\\1 dev pend"
    ∷ codes "refused watch Busy"
    ∷ codes "refused unwatch Busy"
    ∷ codes "event complete OWN\\DEV\\1 QUERY_REMOVE_DEVICE ok"
    ∷ codes "state OWN\\DEV\\1 RemovePending"
    ∷ codes "REMOVE_DEVICE OWN\\DEV\\1 dev ok"
    ∷ codes "state OWN\\DEV\\1 NoStack"
    ∷ codes "problem OWN\\DEV\\1 22"
    ∷ codes "end disable OWN\\DEV\\1 done"
    ∷ codes "notice REMOVE_COMPLETE a OWN\\DEV\\1"
    ∷ codes "refused watch NotStarted"
    ∷ codes "tree"
    ∷ codes "0 HTREE\\ROOT\\0 Started"
    ∷ codes " 1 OWN\\DEV\\1 NoStack problem 22"
    ∷ codes " 2 OWN\\HARD\\2 NoStack problem 39"
    ∷ codes "map"
    ∷ codes "outstanding"
    ∷ []

pub refusals_of_clients : lines (traced (settings_of known) 200 (opening_front (opening small_rack)) (assignment (([]) ∷ []) ∷ []) refusals_of_clients_events) ≡ refusals_of_clients_lines
unfolding digits
refusals_of_clients = refl

-- two ejects in a row, the first of which is declined
abbrev eject_two_events : List Event
eject_two_events =
    Event.Name (codes "dev") DriverKind.Steady
    ∷ Event.Plug (codes "HTREE\\ROOT\\0") (codes "OWN\\DEV\\1") (codes "OWN\\DEV" ∷ []) ([]) ([])
    ∷ Event.Plug (codes "OWN\\DEV\\1") (codes "OWN\\DEV\\2") (codes "OWN\\DEV" ∷ []) ([]) ([])
    ∷ Event.Watch (codes "a") (codes "OWN\\DEV\\2") false
    ∷ Event.Eject (codes "OWN\\DEV\\1")
    ∷ Event.Unwatch (codes "a") (codes "OWN\\DEV\\2")
    ∷ Event.Watch (codes "a") (codes "OWN\\DEV\\2") true
    ∷ Event.Eject (codes "OWN\\DEV\\1")
    ∷ []

abbrev eject_two_lines : List Text
eject_two_lines =
    codes "event driver dev"
    ∷ codes "event plug OWN\\DEV\\1"
    ∷ codes "join 1 OWN\\DEV\\1"
    ∷ codes "listed HTREE\\ROOT\\0"
    ∷ codes "install OWN\\DEV\\1 00ff0000 dev"
    ∷ codes "add OWN\\DEV\\1 dev ok"
    ∷ codes "assign OWN\\DEV\\1"
    ∷ codes "START_DEVICE OWN\\DEV\\1 dev ok"
    ∷ codes "state OWN\\DEV\\1 Started"
    ∷ codes "listed OWN\\DEV\\1"
    ∷ codes "event plug OWN\\DEV\\2"
    ∷ codes "join 2 OWN\\DEV\\2"
    ∷ codes "listed OWN\\DEV\\1"
    ∷ codes "install OWN\\DEV\\2 00ff0000 dev"
    ∷ codes "add OWN\\DEV\\2 dev ok"
    ∷ codes "assign OWN\\DEV\\2"
    ∷ codes "START_DEVICE OWN\\DEV\\2 dev ok"
    ∷ codes "state OWN\\DEV\\2 Started"
    ∷ codes "listed OWN\\DEV\\2"
    ∷ codes "event watch a OWN\\DEV\\2"
    ∷ codes "event eject OWN\\DEV\\1"
    ∷ codes "notice QUERY_REMOVE a OWN\\DEV\\2 refuse"
    ∷ codes "declined eject OWN\\DEV\\1 a"
    ∷ codes "event unwatch a OWN\\DEV\\2"
    ∷ codes "event watch a OWN\\DEV\\2"
    ∷ codes "event eject OWN\\DEV\\1"
    ∷ codes "notice QUERY_REMOVE a OWN\\DEV\\2 ok"
    ∷ codes "begin eject OWN\\DEV\\1"
    ∷ codes "QUERY_REMOVE_DEVICE OWN\\DEV\\2 dev ok"
    ∷ codes "state OWN\\DEV\\2 RemovePending"
    ∷ codes "QUERY_REMOVE_DEVICE OWN\\DEV\\1 dev ok"
    ∷ codes "state OWN\\DEV\\1 RemovePending"
    ∷ codes "REMOVE_DEVICE OWN\\DEV\\2 dev ok"
    ∷ codes "state OWN\\DEV\\2 NoStack"
    ∷ codes "leave OWN\\DEV\\2"
    ∷ codes "REMOVE_DEVICE OWN\\DEV\\1 dev ok"
    ∷ codes "state OWN\\DEV\\1 NoStack"
    ∷ codes "ejected OWN\\DEV\\1"
    ∷ codes "end eject OWN\\DEV\\1 done"
    ∷ codes "notice REMOVE_COMPLETE a OWN\\DEV\\2"
    ∷ codes "tree"
    ∷ codes "0 HTREE\\ROOT\\0 Started"
    ∷ codes "map"
    ∷ codes "outstanding"
    ∷ []

pub eject_two : lines (traced (settings_of known) 200 (opening_front (opening small_rack)) (assignment (([]) ∷ []) ∷ assignment (([]) ∷ []) ∷ []) eject_two_events) ≡ eject_two_lines
unfolding digits
eject_two = refl

-- clients beside a handle: a removal is vetoed, a change tells nobody, a surprise that waits tells all, and its finish nobody
abbrev clients_and_handles_events : List Event
clients_and_handles_events =
    Event.Name (codes "dev") DriverKind.Steady
    ∷ Event.Plug (codes "HTREE\\ROOT\\0") (codes "OWN\\DEV\\H") (codes "OWN\\DEV" ∷ []) ([]) ([])
    ∷ Event.Plug (codes "OWN\\DEV\\H") (codes "OWN\\DEV\\C") (codes "OWN\\DEV" ∷ []) ([]) ([])
    ∷ Event.Watch (codes "a") (codes "OWN\\DEV\\H") true
    ∷ Event.Watch (codes "b") (codes "OWN\\DEV\\C") false
    ∷ Event.OpenHandle (codes "OWN\\DEV\\C")
    ∷ Event.Unwatch (codes "b") (codes "OWN\\DEV\\C")
    ∷ Event.Watch (codes "b") (codes "OWN\\DEV\\C") true
    ∷ Event.Disable (codes "OWN\\DEV\\H")
    ∷ Event.Change (codes "OWN\\DEV\\H") ([])
    ∷ Event.Pull (codes "OWN\\DEV\\H")
    ∷ Event.Watch (codes "b") (codes "OWN\\DEV\\C") true
    ∷ Event.Unwatch (codes "b") (codes "OWN\\DEV\\C")
    ∷ Event.CloseHandle (codes "OWN\\DEV\\C")
    ∷ []

abbrev clients_and_handles_lines : List Text
clients_and_handles_lines =
    codes "event driver dev"
    ∷ codes "event plug OWN\\DEV\\H"
    ∷ codes "join 1 OWN\\DEV\\H"
    ∷ codes "listed HTREE\\ROOT\\0"
    ∷ codes "install OWN\\DEV\\H 00ff0000 dev"
    ∷ codes "add OWN\\DEV\\H dev ok"
    ∷ codes "assign OWN\\DEV\\H"
    ∷ codes "START_DEVICE OWN\\DEV\\H dev ok"
    ∷ codes "state OWN\\DEV\\H Started"
    ∷ codes "listed OWN\\DEV\\H"
    ∷ codes "event plug OWN\\DEV\\C"
    ∷ codes "join 2 OWN\\DEV\\C"
    ∷ codes "listed OWN\\DEV\\H"
    ∷ codes "install OWN\\DEV\\C 00ff0000 dev"
    ∷ codes "add OWN\\DEV\\C dev ok"
    ∷ codes "assign OWN\\DEV\\C"
    ∷ codes "START_DEVICE OWN\\DEV\\C dev ok"
    ∷ codes "state OWN\\DEV\\C Started"
    ∷ codes "listed OWN\\DEV\\C"
    ∷ codes "event watch a OWN\\DEV\\H"
    ∷ codes "event watch b OWN\\DEV\\C"
    ∷ codes "event open OWN\\DEV\\C"
    ∷ codes "event unwatch b OWN\\DEV\\C"
    ∷ codes "event watch b OWN\\DEV\\C"
    ∷ codes "event disable OWN\\DEV\\H"
    ∷ codes "notice QUERY_REMOVE b OWN\\DEV\\C ok"
    ∷ codes "notice QUERY_REMOVE a OWN\\DEV\\H ok"
    ∷ codes "begin disable OWN\\DEV\\H"
    ∷ codes "handles OWN\\DEV\\C"
    ∷ codes "end disable OWN\\DEV\\H veto OWN\\DEV\\C"
    ∷ codes "notice REMOVE_CANCELLED a OWN\\DEV\\H"
    ∷ codes "notice REMOVE_CANCELLED b OWN\\DEV\\C"
    ∷ codes "event change OWN\\DEV\\H"
    ∷ codes "begin change OWN\\DEV\\H"
    ∷ codes "QUERY_STOP_DEVICE OWN\\DEV\\C dev ok"
    ∷ codes "state OWN\\DEV\\C StopPending"
    ∷ codes "QUERY_STOP_DEVICE OWN\\DEV\\H dev ok"
    ∷ codes "state OWN\\DEV\\H StopPending"
    ∷ codes "fits OWN\\DEV\\H"
    ∷ codes "STOP_DEVICE OWN\\DEV\\C dev ok"
    ∷ codes "state OWN\\DEV\\C Stopped"
    ∷ codes "STOP_DEVICE OWN\\DEV\\H dev ok"
    ∷ codes "state OWN\\DEV\\H Stopped"
    ∷ codes "commit 2"
    ∷ codes "START_DEVICE OWN\\DEV\\H dev ok"
    ∷ codes "state OWN\\DEV\\H Started"
    ∷ codes "START_DEVICE OWN\\DEV\\C dev ok"
    ∷ codes "state OWN\\DEV\\C Started"
    ∷ codes "end change OWN\\DEV\\H moved"
    ∷ codes "event pull OWN\\DEV\\H"
    ∷ codes "gone OWN\\DEV\\H"
    ∷ codes "listed HTREE\\ROOT\\0"
    ∷ codes "begin surprise OWN\\DEV\\H"
    ∷ codes "SURPRISE_REMOVAL OWN\\DEV\\C dev ok"
    ∷ codes "state OWN\\DEV\\C SurpriseRemoved"
    ∷ codes "SURPRISE_REMOVAL OWN\\DEV\\H dev ok"
    ∷ codes "state OWN\\DEV\\H SurpriseRemoved"
    ∷ codes "waits OWN\\DEV\\C"
    ∷ codes "waits OWN\\DEV\\H"
    ∷ codes "end surprise OWN\\DEV\\H waiting"
    ∷ codes "notice REMOVE_COMPLETE b OWN\\DEV\\C"
    ∷ codes "notice REMOVE_COMPLETE a OWN\\DEV\\H"
    ∷ codes "refused watch NotStarted"
    ∷ codes "refused unwatch NoWatch"
    ∷ codes "event close OWN\\DEV\\C"
    ∷ codes "begin finish OWN\\DEV\\C"
    ∷ codes "REMOVE_DEVICE OWN\\DEV\\C dev ok"
    ∷ codes "state OWN\\DEV\\C NoStack"
    ∷ codes "leave OWN\\DEV\\C"
    ∷ codes "REMOVE_DEVICE OWN\\DEV\\H dev ok"
    ∷ codes "state OWN\\DEV\\H NoStack"
    ∷ codes "leave OWN\\DEV\\H"
    ∷ codes "end finish OWN\\DEV\\C done"
    ∷ codes "tree"
    ∷ codes "0 HTREE\\ROOT\\0 Started"
    ∷ codes "map"
    ∷ codes "outstanding"
    ∷ []

pub clients_and_handles : lines (traced (settings_of known) 200 (opening_front (opening small_rack)) (assignment (([]) ∷ []) ∷ assignment (([]) ∷ []) ∷ assignment (([]) ∷ ([]) ∷ []) ∷ []) clients_and_handles_events) ≡ clients_and_handles_lines
unfolding digits
clients_and_handles = refl
