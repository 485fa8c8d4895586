-- Removals with veto, departures and ejects: whole outputs, as the definition computes them.
use Rattle.std.proofs.Common.{List, [], ◌∷◌, Some, None, ◌≡◌, refl, true, false}
use Rattle.std.specs.Prelude.{codes}
use Rattle.std.specs.Fmt.{digits}
use Rattle.resource_reqs.specs.Spelling.Answer.{assignment}
use Rattle.pnp_model.specs.Records.{Found, SearchProblem}
use Rattle.pnp_labels.specs.Texts.{Text}
use Rattle.pnp_labels.specs.declared.event.Event.{Event}
use Rattle.pnp_labels.specs.declared.words.DriverKind.{DriverKind}
use Rattle.pnp_labels.specs.declared.words.Minor.{Minor}
use Rattle.pnp_labels.specs.declared.words.AskWhat.{AskWhat}
use Rattle.pnp_labels.specs.declared.words.Answer.{Answer}
use Rattle.pnp_model.specs.Runs.{traced, opening}
use Rattle.pnp_model.specs.Endings.{lines}
use Rattle.pnp_model.proofs.RowBase.{settings_of, small_rack, Known}
use Rattle.pnp_labels.specs.declared.words.RelKind.{RelKind}
use Rattle.resource_reqs.specs.declared.kind.Kind.TheVariants as kinds

-- veto
abbrev pub row_veto_known : List Known
row_veto_known = record { id = codes "OWN\\DEV"; choice = record { rank = 16711680; lower = []; service = Some (codes "dev"); upper = [] } } ∷ record { id = codes "OWN\\FIL"; choice = record { rank = 16711680; lower = codes "low" ∷ []; service = Some (codes "dev"); upper = [] } } ∷ []

abbrev pub row_veto_found : List Found
row_veto_found = assignment (([]) ∷ []) ∷ assignment (([]) ∷ []) ∷ assignment (([]) ∷ []) ∷ assignment (([]) ∷ []) ∷ []

abbrev pub row_veto_events : List Event
row_veto_events =
    Event.Name (codes "dev") DriverKind.Steady
    ∷ Event.Name (codes "low") DriverKind.Scripted
    ∷ Event.Teach (codes "low") (record { what = AskWhat.Irp Minor.QueryRemove; path = Some (codes "OWN\\FIL\\2"); answer = Answer.Fail; uses = None })
    ∷ Event.Plug (codes "HTREE\\ROOT\\0") (codes "OWN\\DEV\\H") (codes "OWN\\DEV" ∷ []) ([]) ([])
    ∷ Event.Plug (codes "OWN\\DEV\\H") (codes "OWN\\DEV\\1") (codes "OWN\\DEV" ∷ []) ([]) ([])
    ∷ Event.Plug (codes "OWN\\DEV\\H") (codes "OWN\\FIL\\2") (codes "OWN\\FIL" ∷ []) ([]) ([])
    ∷ Event.Plug (codes "OWN\\DEV\\H") (codes "OWN\\DEV\\3") (codes "OWN\\DEV" ∷ []) ([]) ([])
    ∷ Event.Disable (codes "OWN\\DEV\\H")
    ∷ []

abbrev pub row_veto_lines : List Text
row_veto_lines =
    codes "event driver dev"
    ∷ codes "event driver low"
    ∷ codes "event teach low"
    ∷ codes "event plug OWN\\DEV\\H"
    ∷ codes "join 1 OWN\\DEV\\H"
    ∷ codes "listed HTREE\\ROOT\\0"
    ∷ codes "install OWN\\DEV\\H 00ff0000 dev"
    ∷ codes "add OWN\\DEV\\H dev ok"
    ∷ codes "assign OWN\\DEV\\H"
    ∷ codes "START_DEVICE OWN\\DEV\\H dev ok"
    ∷ codes "state OWN\\DEV\\H Started"
    ∷ codes "listed OWN\\DEV\\H"
    ∷ codes "event plug OWN\\DEV\\1"
    ∷ codes "join 2 OWN\\DEV\\1"
    ∷ codes "listed OWN\\DEV\\H"
    ∷ codes "install OWN\\DEV\\1 00ff0000 dev"
    ∷ codes "add OWN\\DEV\\1 dev ok"
    ∷ codes "assign OWN\\DEV\\1"
    ∷ codes "START_DEVICE OWN\\DEV\\1 dev ok"
    ∷ codes "state OWN\\DEV\\1 Started"
    ∷ codes "listed OWN\\DEV\\1"
    ∷ codes "event plug OWN\\FIL\\2"
    ∷ codes "join 3 OWN\\FIL\\2"
    ∷ codes "listed OWN\\DEV\\H"
    ∷ codes "install OWN\\FIL\\2 00ff0000 dev"
    ∷ codes "add OWN\\FIL\\2 low ok"
    ∷ codes "add OWN\\FIL\\2 dev ok"
    ∷ codes "assign OWN\\FIL\\2"
    ∷ codes "START_DEVICE OWN\\FIL\\2 low ok"
    ∷ codes "START_DEVICE OWN\\FIL\\2 dev ok"
    ∷ codes "state OWN\\FIL\\2 Started"
    ∷ codes "listed OWN\\FIL\\2"
    ∷ codes "event plug OWN\\DEV\\3"
    ∷ codes "join 4 OWN\\DEV\\3"
    ∷ codes "listed OWN\\DEV\\H"
    ∷ codes "install OWN\\DEV\\3 00ff0000 dev"
    ∷ codes "add OWN\\DEV\\3 dev ok"
    ∷ codes "assign OWN\\DEV\\3"
    ∷ codes "START_DEVICE OWN\\DEV\\3 dev ok"
    ∷ codes "state OWN\\DEV\\3 Started"
    ∷ codes "listed OWN\\DEV\\3"
    ∷ codes "event disable OWN\\DEV\\H"
    ∷ codes "begin disable OWN\\DEV\\H"
    ∷ codes "QUERY_REMOVE_DEVICE OWN\\DEV\\3 dev ok"
    ∷ codes "state OWN\\DEV\\3 RemovePending"
    ∷ codes "QUERY_REMOVE_DEVICE OWN\\FIL\\2 dev ok"
    ∷ codes "QUERY_REMOVE_DEVICE OWN\\FIL\\2 low fail"
    ∷ codes "state OWN\\FIL\\2 Started"
    ∷ codes "CANCEL_REMOVE_DEVICE OWN\\FIL\\2 low ok"
    ∷ codes "CANCEL_REMOVE_DEVICE OWN\\FIL\\2 dev ok"
    ∷ codes "state OWN\\FIL\\2 Started"
    ∷ codes "CANCEL_REMOVE_DEVICE OWN\\DEV\\3 dev ok"
    ∷ codes "state OWN\\DEV\\3 Started"
    ∷ codes "end disable OWN\\DEV\\H veto OWN\\FIL\\2"
    ∷ codes "tree"
    ∷ codes "0 HTREE\\ROOT\\0 Started"
    ∷ codes " 1 OWN\\DEV\\H Started"
    ∷ codes "  2 OWN\\DEV\\1 Started"
    ∷ codes "  3 OWN\\FIL\\2 Started"
    ∷ codes "  4 OWN\\DEV\\3 Started"
    ∷ codes "map"
    ∷ codes "outstanding"
    ∷ []

abbrev row_veto_problems : List SearchProblem
row_veto_problems =
    record { fixed = []; movers = ([]) ∷ [] }
    ∷ record { fixed = []; movers = ([]) ∷ [] }
    ∷ record { fixed = []; movers = ([]) ∷ [] }
    ∷ record { fixed = []; movers = ([]) ∷ [] }
    ∷ []

pub row_veto : lines (traced (settings_of row_veto_known) 200 (opening small_rack) row_veto_found row_veto_events) ≡ row_veto_lines
unfolding digits
row_veto = refl

pub row_veto_asks : (traced (settings_of row_veto_known) 200 (opening small_rack) row_veto_found row_veto_events).problems ≡ row_veto_problems
row_veto_asks = refl

-- relations
abbrev row_relations_known : List Known
row_relations_known = record { id = codes "OWN\\DEV"; choice = record { rank = 16711680; lower = []; service = Some (codes "dev"); upper = [] } } ∷ []

abbrev row_relations_found : List Found
row_relations_found = assignment (([]) ∷ []) ∷ assignment (([]) ∷ []) ∷ []

abbrev row_relations_events : List Event
row_relations_events =
    Event.Name (codes "dev") DriverKind.Steady
    ∷ Event.Plug (codes "HTREE\\ROOT\\0") (codes "OWN\\DEV\\A") (codes "OWN\\DEV" ∷ []) ([]) ([])
    ∷ Event.Plug (codes "HTREE\\ROOT\\0") (codes "OWN\\DEV\\B") (codes "OWN\\DEV" ∷ []) ([]) ([])
    ∷ Event.Relate RelKind.Removal (codes "OWN\\DEV\\B") (codes "OWN\\DEV\\A")
    ∷ Event.Relate RelKind.Removal (codes "OWN\\DEV\\A") (codes "OWN\\DEV\\B")
    ∷ Event.Disable (codes "OWN\\DEV\\B")
    ∷ []

abbrev row_relations_lines : List Text
row_relations_lines =
    codes "event driver dev"
    ∷ codes "event plug OWN\\DEV\\A"
    ∷ codes "join 1 OWN\\DEV\\A"
    ∷ codes "listed HTREE\\ROOT\\0"
    ∷ codes "install OWN\\DEV\\A 00ff0000 dev"
    ∷ codes "add OWN\\DEV\\A dev ok"
    ∷ codes "assign OWN\\DEV\\A"
    ∷ codes "START_DEVICE OWN\\DEV\\A dev ok"
    ∷ codes "state OWN\\DEV\\A Started"
    ∷ codes "listed OWN\\DEV\\A"
    ∷ codes "event plug OWN\\DEV\\B"
    ∷ codes "join 2 OWN\\DEV\\B"
    ∷ codes "listed HTREE\\ROOT\\0"
    ∷ codes "install OWN\\DEV\\B 00ff0000 dev"
    ∷ codes "add OWN\\DEV\\B dev ok"
    ∷ codes "assign OWN\\DEV\\B"
    ∷ codes "START_DEVICE OWN\\DEV\\B dev ok"
    ∷ codes "state OWN\\DEV\\B Started"
    ∷ codes "listed OWN\\DEV\\B"
    ∷ codes "event relate OWN\\DEV\\B OWN\\DEV\\A"
    ∷ codes "refused relate RelationCycle"
    ∷ codes "event disable OWN\\DEV\\B"
    ∷ codes "begin disable OWN\\DEV\\B"
    ∷ codes "QUERY_REMOVE_DEVICE OWN\\DEV\\A dev ok"
    ∷ codes "state OWN\\DEV\\A RemovePending"
    ∷ codes "QUERY_REMOVE_DEVICE OWN\\DEV\\B dev ok"
    ∷ codes "state OWN\\DEV\\B RemovePending"
    ∷ codes "REMOVE_DEVICE OWN\\DEV\\A dev ok"
    ∷ codes "state OWN\\DEV\\A NoStack"
    ∷ codes "problem OWN\\DEV\\A held"
    ∷ codes "REMOVE_DEVICE OWN\\DEV\\B dev ok"
    ∷ codes "state OWN\\DEV\\B NoStack"
    ∷ codes "problem OWN\\DEV\\B 22"
    ∷ codes "end disable OWN\\DEV\\B done"
    ∷ codes "tree"
    ∷ codes "0 HTREE\\ROOT\\0 Started"
    ∷ codes " 1 OWN\\DEV\\A NoStack problem held"
    ∷ codes " 2 OWN\\DEV\\B NoStack problem 22"
    ∷ codes "map"
    ∷ codes "outstanding"
    ∷ []

abbrev row_relations_problems : List SearchProblem
row_relations_problems =
    record { fixed = []; movers = ([]) ∷ [] }
    ∷ record { fixed = []; movers = ([]) ∷ [] }
    ∷ []

pub row_relations : lines (traced (settings_of row_relations_known) 200 (opening small_rack) row_relations_found row_relations_events) ≡ row_relations_lines
unfolding digits
row_relations = refl

pub row_relations_asks : (traced (settings_of row_relations_known) 200 (opening small_rack) row_relations_found row_relations_events).problems ≡ row_relations_problems
row_relations_asks = refl

-- departure during a start
abbrev row_departure_during_a_start_known : List Known
row_departure_during_a_start_known = record { id = codes "OWN\\DEV"; choice = record { rank = 16711680; lower = []; service = Some (codes "dev"); upper = [] } } ∷ []

abbrev row_departure_during_a_start_found : List Found
row_departure_during_a_start_found = assignment (([]) ∷ []) ∷ []

abbrev row_departure_during_a_start_events : List Event
row_departure_during_a_start_events =
    Event.Name (codes "dev") DriverKind.Scripted
    ∷ Event.Teach (codes "dev") (record { what = AskWhat.Irp Minor.Start; path = None; answer = Answer.Pend; uses = None })
    ∷ Event.Plug (codes "HTREE\\ROOT\\0") (codes "OWN\\DEV\\1") (codes "OWN\\DEV" ∷ []) ([]) ([])
    ∷ Event.Pull (codes "OWN\\DEV\\1")
    ∷ Event.Complete (codes "OWN\\DEV\\1") Minor.Start true
    ∷ []

abbrev row_departure_during_a_start_lines : List Text
row_departure_during_a_start_lines =
    codes "event driver dev"
    ∷ codes "event teach dev"
    ∷ codes "event plug OWN\\DEV\\1"
    ∷ codes "join 1 OWN\\DEV\\1"
    ∷ codes "listed HTREE\\ROOT\\0"
    ∷ codes "install OWN\\DEV\\1 00ff0000 dev"
    ∷ codes "add OWN\\DEV\\1 dev ok"
    ∷ codes "assign OWN\\DEV\\1"
    ∷ codes "START_DEVICE OWN\\DEV\\1 dev pend"
    ∷ codes "event pull OWN\\DEV\\1"
    ∷ codes "gone OWN\\DEV\\1"
    ∷ codes "listed HTREE\\ROOT\\0"
    ∷ codes "event complete OWN\\DEV\\1 START_DEVICE ok"
    ∷ codes "state OWN\\DEV\\1 Started"
    ∷ codes "begin surprise OWN\\DEV\\1"
    ∷ codes "SURPRISE_REMOVAL OWN\\DEV\\1 dev ok"
    ∷ codes "state OWN\\DEV\\1 SurpriseRemoved"
    ∷ codes "REMOVE_DEVICE OWN\\DEV\\1 dev ok"
    ∷ codes "state OWN\\DEV\\1 NoStack"
    ∷ codes "leave OWN\\DEV\\1"
    ∷ codes "end surprise OWN\\DEV\\1 done"
    ∷ codes "skip list 1"
    ∷ codes "tree"
    ∷ codes "0 HTREE\\ROOT\\0 Started"
    ∷ codes "map"
    ∷ codes "outstanding"
    ∷ []

abbrev row_departure_during_a_start_problems : List SearchProblem
row_departure_during_a_start_problems =
    record { fixed = []; movers = ([]) ∷ [] }
    ∷ []

pub row_departure_during_a_start : lines (traced (settings_of row_departure_during_a_start_known) 200 (opening small_rack) row_departure_during_a_start_found row_departure_during_a_start_events) ≡ row_departure_during_a_start_lines
unfolding digits
row_departure_during_a_start = refl

pub row_departure_during_a_start_asks : (traced (settings_of row_departure_during_a_start_known) 200 (opening small_rack) row_departure_during_a_start_found row_departure_during_a_start_events).problems ≡ row_departure_during_a_start_problems
row_departure_during_a_start_asks = refl

-- eject
abbrev pub row_eject_known : List Known
row_eject_known = record { id = codes "OWN\\DEV"; choice = record { rank = 16711680; lower = []; service = Some (codes "dev"); upper = [] } } ∷ []

abbrev pub row_eject_found : List Found
row_eject_found = assignment (([]) ∷ []) ∷ assignment (([]) ∷ []) ∷ []

abbrev pub row_eject_events : List Event
row_eject_events =
    Event.Name (codes "dev") DriverKind.Steady
    ∷ Event.Plug (codes "HTREE\\ROOT\\0") (codes "OWN\\DEV\\A") (codes "OWN\\DEV" ∷ []) ([]) ([])
    ∷ Event.Plug (codes "HTREE\\ROOT\\0") (codes "OWN\\DEV\\B") (codes "OWN\\DEV" ∷ []) ([]) ([])
    ∷ Event.Relate RelKind.Ejection (codes "OWN\\DEV\\B") (codes "OWN\\DEV\\A")
    ∷ Event.Eject (codes "OWN\\DEV\\B")
    ∷ []

abbrev pub row_eject_lines : List Text
row_eject_lines =
    codes "event driver dev"
    ∷ codes "event plug OWN\\DEV\\A"
    ∷ codes "join 1 OWN\\DEV\\A"
    ∷ codes "listed HTREE\\ROOT\\0"
    ∷ codes "install OWN\\DEV\\A 00ff0000 dev"
    ∷ codes "add OWN\\DEV\\A dev ok"
    ∷ codes "assign OWN\\DEV\\A"
    ∷ codes "START_DEVICE OWN\\DEV\\A dev ok"
    ∷ codes "state OWN\\DEV\\A Started"
    ∷ codes "listed OWN\\DEV\\A"
    ∷ codes "event plug OWN\\DEV\\B"
    ∷ codes "join 2 OWN\\DEV\\B"
    ∷ codes "listed HTREE\\ROOT\\0"
    ∷ codes "install OWN\\DEV\\B 00ff0000 dev"
    ∷ codes "add OWN\\DEV\\B dev ok"
    ∷ codes "assign OWN\\DEV\\B"
    ∷ codes "START_DEVICE OWN\\DEV\\B dev ok"
    ∷ codes "state OWN\\DEV\\B Started"
    ∷ codes "listed OWN\\DEV\\B"
    ∷ codes "event relate OWN\\DEV\\B OWN\\DEV\\A"
    ∷ codes "event eject OWN\\DEV\\B"
    ∷ codes "begin eject OWN\\DEV\\B"
    ∷ codes "QUERY_REMOVE_DEVICE OWN\\DEV\\A dev ok"
    ∷ codes "state OWN\\DEV\\A RemovePending"
    ∷ codes "QUERY_REMOVE_DEVICE OWN\\DEV\\B dev ok"
    ∷ codes "state OWN\\DEV\\B RemovePending"
    ∷ codes "REMOVE_DEVICE OWN\\DEV\\A dev ok"
    ∷ codes "state OWN\\DEV\\A NoStack"
    ∷ codes "problem OWN\\DEV\\A 47"
    ∷ codes "REMOVE_DEVICE OWN\\DEV\\B dev ok"
    ∷ codes "state OWN\\DEV\\B NoStack"
    ∷ codes "ejected OWN\\DEV\\B"
    ∷ codes "end eject OWN\\DEV\\B done"
    ∷ codes "tree"
    ∷ codes "0 HTREE\\ROOT\\0 Started"
    ∷ codes " 1 OWN\\DEV\\A NoStack problem 47"
    ∷ codes "map"
    ∷ codes "outstanding"
    ∷ []

abbrev row_eject_problems : List SearchProblem
row_eject_problems =
    record { fixed = []; movers = ([]) ∷ [] }
    ∷ record { fixed = []; movers = ([]) ∷ [] }
    ∷ []

pub row_eject : lines (traced (settings_of row_eject_known) 200 (opening small_rack) row_eject_found row_eject_events) ≡ row_eject_lines
unfolding digits
row_eject = refl

pub row_eject_asks : (traced (settings_of row_eject_known) 200 (opening small_rack) row_eject_found row_eject_events).problems ≡ row_eject_problems
row_eject_asks = refl

-- in use and busy
abbrev row_in_use_and_busy_known : List Known
row_in_use_and_busy_known = record { id = codes "OWN\\DEV"; choice = record { rank = 16711680; lower = []; service = Some (codes "dev"); upper = [] } } ∷ []

abbrev row_in_use_and_busy_found : List Found
row_in_use_and_busy_found = assignment ((record { kind = kinds.Irq; lo = 5; hi = 5; shared = false } ∷ []) ∷ []) ∷ []

abbrev row_in_use_and_busy_events : List Event
row_in_use_and_busy_events =
    Event.Name (codes "dev") DriverKind.Scripted
    ∷ Event.Teach (codes "dev") (record { what = AskWhat.Irp Minor.QueryRemove; path = None; answer = Answer.Pend; uses = None })
    ∷ Event.Plug (codes "HTREE\\ROOT\\0") (codes "OWN\\DEV\\A") (codes "OWN\\DEV" ∷ []) ([]) (((record { kind = kinds.Irq; min = 5; max = 5; len = 1; align = 1; shared = false } ∷ []) ∷ []) ∷ [])
    ∷ Event.Reserve (record { kind = kinds.Irq; lo = 5; hi = 5; shared = false })
    ∷ Event.Disable (codes "OWN\\DEV\\A")
    ∷ Event.Reserve (record { kind = kinds.Irq; lo = 9; hi = 9; shared = false })
    ∷ []

abbrev row_in_use_and_busy_lines : List Text
row_in_use_and_busy_lines =
    codes "event driver dev"
    ∷ codes "event teach dev"
    ∷ codes "event plug OWN\\DEV\\A"
    ∷ codes "join 1 OWN\\DEV\\A"
    ∷ codes "listed HTREE\\ROOT\\0"
    ∷ codes "install OWN\\DEV\\A 00ff0000 dev"
    ∷ codes "add OWN\\DEV\\A dev ok"
    ∷ codes "assign OWN\\DEV\\A irq:5-5"
    ∷ codes "START_DEVICE OWN\\DEV\\A dev ok"
    ∷ codes "state OWN\\DEV\\A Started"
    ∷ codes "listed OWN\\DEV\\A"
    ∷ codes "refused reserve InUse"
    ∷ codes "event disable OWN\\DEV\\A"
    ∷ codes "begin disable OWN\\DEV\\A"
    ∷ codes "QUERY_REMOVE_DEVICE OWN\\DEV\\A dev pend"
    ∷ codes "refused reserve Busy"
    ∷ codes "tree"
    ∷ codes "0 HTREE\\ROOT\\0 Started"
    ∷ codes " 1 OWN\\DEV\\A Started"
    ∷ codes "map"
    ∷ codes "irq:5-5 OWN\\DEV\\A"
    ∷ codes "outstanding"
    ∷ codes "OWN\\DEV\\A QUERY_REMOVE_DEVICE dev"
    ∷ []

abbrev row_in_use_and_busy_problems : List SearchProblem
row_in_use_and_busy_problems =
    record { fixed = []; movers = (((record { kind = kinds.Irq; min = 5; max = 5; len = 1; align = 1; shared = false } ∷ []) ∷ []) ∷ []) ∷ [] }
    ∷ []

pub row_in_use_and_busy : lines (traced (settings_of row_in_use_and_busy_known) 200 (opening small_rack) row_in_use_and_busy_found row_in_use_and_busy_events) ≡ row_in_use_and_busy_lines
unfolding digits
row_in_use_and_busy = refl

pub row_in_use_and_busy_asks : (traced (settings_of row_in_use_and_busy_known) 200 (opening small_rack) row_in_use_and_busy_found row_in_use_and_busy_events).problems ≡ row_in_use_and_busy_problems
row_in_use_and_busy_asks = refl

-- enable
abbrev row_enable_known : List Known
row_enable_known = record { id = codes "OWN\\DEV"; choice = record { rank = 16711680; lower = []; service = Some (codes "dev"); upper = [] } } ∷ []

abbrev row_enable_found : List Found
row_enable_found = assignment (([]) ∷ []) ∷ assignment (([]) ∷ []) ∷ []

abbrev row_enable_events : List Event
row_enable_events =
    Event.Name (codes "dev") DriverKind.Steady
    ∷ Event.Plug (codes "HTREE\\ROOT\\0") (codes "OWN\\DEV\\1") (codes "OWN\\DEV" ∷ []) ([]) ([])
    ∷ Event.Disable (codes "OWN\\DEV\\1")
    ∷ Event.Enable (codes "OWN\\DEV\\1")
    ∷ []

abbrev row_enable_lines : List Text
row_enable_lines =
    codes "event driver dev"
    ∷ codes "event plug OWN\\DEV\\1"
    ∷ codes "join 1 OWN\\DEV\\1"
    ∷ codes "listed HTREE\\ROOT\\0"
    ∷ codes "install OWN\\DEV\\1 00ff0000 dev"
    ∷ codes "add OWN\\DEV\\1 dev ok"
    ∷ codes "assign OWN\\DEV\\1"
    ∷ codes "START_DEVICE OWN\\DEV\\1 dev ok"
    ∷ codes "state OWN\\DEV\\1 Started"
    ∷ codes "listed OWN\\DEV\\1"
    ∷ codes "event disable OWN\\DEV\\1"
    ∷ codes "begin disable OWN\\DEV\\1"
    ∷ codes "QUERY_REMOVE_DEVICE OWN\\DEV\\1 dev ok"
    ∷ codes "state OWN\\DEV\\1 RemovePending"
    ∷ codes "REMOVE_DEVICE OWN\\DEV\\1 dev ok"
    ∷ codes "state OWN\\DEV\\1 NoStack"
    ∷ codes "problem OWN\\DEV\\1 22"
    ∷ codes "end disable OWN\\DEV\\1 done"
    ∷ codes "event enable OWN\\DEV\\1"
    ∷ codes "install OWN\\DEV\\1 00ff0000 dev"
    ∷ codes "add OWN\\DEV\\1 dev ok"
    ∷ codes "assign OWN\\DEV\\1"
    ∷ codes "START_DEVICE OWN\\DEV\\1 dev ok"
    ∷ codes "state OWN\\DEV\\1 Started"
    ∷ codes "listed OWN\\DEV\\1"
    ∷ codes "tree"
    ∷ codes "0 HTREE\\ROOT\\0 Started"
    ∷ codes " 1 OWN\\DEV\\1 Started"
    ∷ codes "map"
    ∷ codes "outstanding"
    ∷ []

abbrev row_enable_problems : List SearchProblem
row_enable_problems =
    record { fixed = []; movers = ([]) ∷ [] }
    ∷ record { fixed = []; movers = ([]) ∷ [] }
    ∷ []

pub row_enable : lines (traced (settings_of row_enable_known) 200 (opening small_rack) row_enable_found row_enable_events) ≡ row_enable_lines
unfolding digits
row_enable = refl

pub row_enable_asks : (traced (settings_of row_enable_known) 200 (opening small_rack) row_enable_found row_enable_events).problems ≡ row_enable_problems
row_enable_asks = refl

-- surprise
abbrev pub row_surprise_known : List Known
row_surprise_known = record { id = codes "OWN\\DEV"; choice = record { rank = 16711680; lower = []; service = Some (codes "dev"); upper = [] } } ∷ []

abbrev pub row_surprise_found : List Found
row_surprise_found = assignment (([]) ∷ []) ∷ assignment (([]) ∷ []) ∷ []

abbrev pub row_surprise_events : List Event
row_surprise_events =
    Event.Name (codes "dev") DriverKind.Steady
    ∷ Event.Plug (codes "HTREE\\ROOT\\0") (codes "OWN\\DEV\\H") (codes "OWN\\DEV" ∷ []) ([]) ([])
    ∷ Event.Plug (codes "OWN\\DEV\\H") (codes "OWN\\DEV\\C") (codes "OWN\\DEV" ∷ []) ([]) ([])
    ∷ Event.Pull (codes "OWN\\DEV\\H")
    ∷ []

abbrev pub row_surprise_lines : List Text
row_surprise_lines =
    codes "event driver dev"
    ∷ codes "event plug OWN\\DEV\\H"
    ∷ codes "join 1 OWN\\DEV\\H"
    ∷ codes "listed HTREE\\ROOT\\0"
    ∷ codes "install OWN\\DEV\\H 00ff0000 dev"
    ∷ codes "add OWN\\DEV\\H dev ok"
    ∷ codes "assign OWN\\DEV\\H"
    ∷ codes "START_DEVICE OWN\\DEV\\H dev ok"
    ∷ codes "state OWN\\DEV\\H Started"
    ∷ codes "listed OWN\\DEV\\H"
    ∷ codes "event plug OWN\\DEV\\C"
    ∷ codes "join 2 OWN\\DEV\\C"
    ∷ codes "listed OWN\\DEV\\H"
    ∷ codes "install OWN\\DEV\\C 00ff0000 dev"
    ∷ codes "add OWN\\DEV\\C dev ok"
    ∷ codes "assign OWN\\DEV\\C"
    ∷ codes "START_DEVICE OWN\\DEV\\C dev ok"
    ∷ codes "state OWN\\DEV\\C Started"
    ∷ codes "listed OWN\\DEV\\C"
    ∷ codes "event pull OWN\\DEV\\H"
    ∷ codes "gone OWN\\DEV\\H"
    ∷ codes "listed HTREE\\ROOT\\0"
    ∷ codes "begin surprise OWN\\DEV\\H"
    ∷ codes "SURPRISE_REMOVAL OWN\\DEV\\C dev ok"
    ∷ codes "state OWN\\DEV\\C SurpriseRemoved"
    ∷ codes "SURPRISE_REMOVAL OWN\\DEV\\H dev ok"
    ∷ codes "state OWN\\DEV\\H SurpriseRemoved"
    ∷ codes "REMOVE_DEVICE OWN\\DEV\\C dev ok"
    ∷ codes "state OWN\\DEV\\C NoStack"
    ∷ codes "leave OWN\\DEV\\C"
    ∷ codes "REMOVE_DEVICE OWN\\DEV\\H dev ok"
    ∷ codes "state OWN\\DEV\\H NoStack"
    ∷ codes "leave OWN\\DEV\\H"
    ∷ codes "end surprise OWN\\DEV\\H done"
    ∷ codes "tree"
    ∷ codes "0 HTREE\\ROOT\\0 Started"
    ∷ codes "map"
    ∷ codes "outstanding"
    ∷ []

abbrev row_surprise_problems : List SearchProblem
row_surprise_problems =
    record { fixed = []; movers = ([]) ∷ [] }
    ∷ record { fixed = []; movers = ([]) ∷ [] }
    ∷ []

pub row_surprise : lines (traced (settings_of row_surprise_known) 200 (opening small_rack) row_surprise_found row_surprise_events) ≡ row_surprise_lines
unfolding digits
row_surprise = refl

pub row_surprise_asks : (traced (settings_of row_surprise_known) 200 (opening small_rack) row_surprise_found row_surprise_events).problems ≡ row_surprise_problems
row_surprise_asks = refl
