-- Restarts, violations and refusers: whole outputs, as the definition computes them.
use Rattle.std.proofs.Common.{List, [], ◌∷◌, Some, None, ◌≡◌, refl, false}
use Rattle.std.specs.Prelude.{codes}
use Rattle.std.specs.Fmt.{digits}
use Rattle.resource_reqs.specs.Spelling.Answer.{assignment, no_fit}
use Rattle.pnp_model.specs.Records.{Found, SearchProblem}
use Rattle.pnp_labels.specs.Texts.{Text}
use Rattle.pnp_labels.specs.declared.event.Event.{Event}
use Rattle.pnp_labels.specs.declared.words.DriverKind.{DriverKind}
use Rattle.pnp_labels.specs.declared.words.Minor.{Minor}
use Rattle.pnp_labels.specs.declared.words.AskWhat.{AskWhat}
use Rattle.pnp_labels.specs.declared.words.Answer.{Answer}
use Rattle.pnp_model.specs.Runs.{traced, opening}
use Rattle.pnp_model.specs.Endings.{lines}
use Rattle.pnp_model.proofs.RowBase.{settings_of, small_rack, Known}
use Rattle.resource_reqs.specs.declared.kind.Kind.TheVariants as kinds

-- failed restart
abbrev row_failed_restart_known : List Known
row_failed_restart_known = record { id = codes "OWN\\DEV"; choice = record { rank = 16711680; lower = []; service = Some (codes "dev"); upper = [] } } ∷ []

abbrev row_failed_restart_found : List Found
row_failed_restart_found = assignment ((record { kind = kinds.Irq; lo = 5; hi = 5; shared = false } ∷ []) ∷ []) ∷ assignment (([]) ∷ []) ∷ no_fit ∷ assignment ((record { kind = kinds.Irq; lo = 5; hi = 5; shared = false } ∷ []) ∷ (record { kind = kinds.Irq; lo = 6; hi = 6; shared = false } ∷ []) ∷ ([]) ∷ []) ∷ []

abbrev row_failed_restart_events : List Event
row_failed_restart_events =
    Event.Name (codes "dev") DriverKind.Scripted
    ∷ Event.Teach (codes "dev") (record { what = AskWhat.Irp Minor.Start; path = Some (codes "OWN\\DEV\\H"); answer = Answer.Ok; uses = Some 1 })
    ∷ Event.Teach (codes "dev") (record { what = AskWhat.Irp Minor.Start; path = Some (codes "OWN\\DEV\\H"); answer = Answer.Fail; uses = None })
    ∷ Event.Plug (codes "HTREE\\ROOT\\0") (codes "OWN\\DEV\\H") (codes "OWN\\DEV" ∷ []) ([]) (((record { kind = kinds.Irq; min = 5; max = 6; len = 1; align = 1; shared = false } ∷ []) ∷ []) ∷ [])
    ∷ Event.Plug (codes "OWN\\DEV\\H") (codes "OWN\\DEV\\C") (codes "OWN\\DEV" ∷ []) ([]) ([])
    ∷ Event.Plug (codes "HTREE\\ROOT\\0") (codes "OWN\\DEV\\D") (codes "OWN\\DEV" ∷ []) ([]) (((record { kind = kinds.Irq; min = 5; max = 5; len = 1; align = 1; shared = false } ∷ []) ∷ []) ∷ [])
    ∷ []

abbrev row_failed_restart_lines : List Text
row_failed_restart_lines =
    codes "event driver dev"
    ∷ codes "event teach dev"
    ∷ codes "event teach dev"
    ∷ codes "event plug OWN\\DEV\\H"
    ∷ codes "join 1 OWN\\DEV\\H"
    ∷ codes "listed HTREE\\ROOT\\0"
    ∷ codes "install OWN\\DEV\\H 00ff0000 dev"
    ∷ codes "add OWN\\DEV\\H dev ok"
    ∷ codes "assign OWN\\DEV\\H irq:5-5"
    ∷ codes "START_DEVICE OWN\\DEV\\H dev ok"
    ∷ codes "state OWN\\DEV\\H Started"
    ∷ codes "listed OWN\\DEV\\H"
    ∷ codes "event plug OWN\\DEV\\C"
    ∷ codes "join 2 OWN\\DEV\\C"
    ∷ codes "listed OWN\\DEV\\H"
    ∷ codes "install OWN\\DEV\\C 00ff0000 dev"
    ∷ codes "add OWN\\DEV\\C dev ok"
    ∷ codes "assign OWN\\DEV\\C"
    ∷ codes "START_DEVICE OWN\\DEV\\C dev ok"
    ∷ codes "state OWN\\DEV\\C Started"
    ∷ codes "listed OWN\\DEV\\C"
    ∷ codes "event plug OWN\\DEV\\D"
    ∷ codes "join 3 OWN\\DEV\\D"
    ∷ codes "listed HTREE\\ROOT\\0"
    ∷ codes "install OWN\\DEV\\D 00ff0000 dev"
    ∷ codes "add OWN\\DEV\\D dev ok"
    ∷ codes "nofit OWN\\DEV\\D"
    ∷ codes "begin rebalance OWN\\DEV\\D"
    ∷ codes "QUERY_STOP_DEVICE OWN\\DEV\\C dev ok"
    ∷ codes "state OWN\\DEV\\C StopPending"
    ∷ codes "QUERY_STOP_DEVICE OWN\\DEV\\H dev ok"
    ∷ codes "state OWN\\DEV\\H StopPending"
    ∷ codes "fits OWN\\DEV\\D"
    ∷ codes "STOP_DEVICE OWN\\DEV\\C dev ok"
    ∷ codes "state OWN\\DEV\\C Stopped"
    ∷ codes "STOP_DEVICE OWN\\DEV\\H dev ok"
    ∷ codes "state OWN\\DEV\\H Stopped"
    ∷ codes "commit 3"
    ∷ codes "START_DEVICE OWN\\DEV\\H dev fail"
    ∷ codes "state OWN\\DEV\\H Stopped"
    ∷ codes "problem OWN\\DEV\\H 10"
    ∷ codes "end rebalance OWN\\DEV\\D moved"
    ∷ codes "START_DEVICE OWN\\DEV\\D dev ok"
    ∷ codes "state OWN\\DEV\\D Started"
    ∷ codes "begin surprise OWN\\DEV\\H"
    ∷ codes "SURPRISE_REMOVAL OWN\\DEV\\C dev ok"
    ∷ codes "state OWN\\DEV\\C SurpriseRemoved"
    ∷ codes "SURPRISE_REMOVAL OWN\\DEV\\H dev ok"
    ∷ codes "state OWN\\DEV\\H SurpriseRemoved"
    ∷ codes "REMOVE_DEVICE OWN\\DEV\\C dev ok"
    ∷ codes "state OWN\\DEV\\C NoStack"
    ∷ codes "leave OWN\\DEV\\C"
    ∷ codes "REMOVE_DEVICE OWN\\DEV\\H dev ok"
    ∷ codes "state OWN\\DEV\\H NoStack"
    ∷ codes "end surprise OWN\\DEV\\H done"
    ∷ codes "listed OWN\\DEV\\D"
    ∷ codes "tree"
    ∷ codes "0 HTREE\\ROOT\\0 Started"
    ∷ codes " 1 OWN\\DEV\\H NoStack problem 10"
    ∷ codes " 3 OWN\\DEV\\D Started"
    ∷ codes "map"
    ∷ codes "irq:5-5 OWN\\DEV\\D"
    ∷ codes "outstanding"
    ∷ []

abbrev row_failed_restart_problems : List SearchProblem
row_failed_restart_problems =
    record { fixed = []; movers = (((record { kind = kinds.Irq; min = 5; max = 6; len = 1; align = 1; shared = false } ∷ []) ∷ []) ∷ []) ∷ [] }
    ∷ record { fixed = record { kind = kinds.Irq; lo = 5; hi = 5; shared = false } ∷ []; movers = ([]) ∷ [] }
    ∷ record { fixed = record { kind = kinds.Irq; lo = 5; hi = 5; shared = false } ∷ []; movers = (((record { kind = kinds.Irq; min = 5; max = 5; len = 1; align = 1; shared = false } ∷ []) ∷ []) ∷ []) ∷ [] }
    ∷ record { fixed = []; movers = (((record { kind = kinds.Irq; min = 5; max = 5; len = 1; align = 1; shared = false } ∷ []) ∷ []) ∷ []) ∷ (((record { kind = kinds.Irq; min = 5; max = 6; len = 1; align = 1; shared = false } ∷ []) ∷ []) ∷ []) ∷ ([]) ∷ [] }
    ∷ []

pub row_failed_restart : lines (traced (settings_of row_failed_restart_known) 200 (opening small_rack) row_failed_restart_found row_failed_restart_events) ≡ row_failed_restart_lines
unfolding digits
row_failed_restart = refl

pub row_failed_restart_asks : (traced (settings_of row_failed_restart_known) 200 (opening small_rack) row_failed_restart_found row_failed_restart_events).problems ≡ row_failed_restart_problems
row_failed_restart_asks = refl

-- stays by a new plug
abbrev row_stays_by_a_new_plug_known : List Known
row_stays_by_a_new_plug_known = record { id = codes "OWN\\DEV"; choice = record { rank = 16711680; lower = []; service = Some (codes "dev"); upper = [] } } ∷ []

abbrev row_stays_by_a_new_plug_found : List Found
row_stays_by_a_new_plug_found = assignment ((record { kind = kinds.Irq; lo = 5; hi = 5; shared = false } ∷ []) ∷ []) ∷ no_fit ∷ assignment ((record { kind = kinds.Irq; lo = 5; hi = 5; shared = false } ∷ []) ∷ (record { kind = kinds.Irq; lo = 6; hi = 6; shared = false } ∷ []) ∷ []) ∷ []

abbrev row_stays_by_a_new_plug_events : List Event
row_stays_by_a_new_plug_events =
    Event.Name (codes "dev") DriverKind.Scripted
    ∷ Event.Teach (codes "dev") (record { what = AskWhat.Irp Minor.Start; path = Some (codes "OWN\\DEV\\H"); answer = Answer.Ok; uses = Some 1 })
    ∷ Event.Teach (codes "dev") (record { what = AskWhat.Irp Minor.Start; path = Some (codes "OWN\\DEV\\H"); answer = Answer.Fail; uses = None })
    ∷ Event.Plug (codes "HTREE\\ROOT\\0") (codes "OWN\\DEV\\H") (codes "OWN\\DEV" ∷ []) ([]) (((record { kind = kinds.Irq; min = 5; max = 6; len = 1; align = 1; shared = false } ∷ []) ∷ []) ∷ [])
    ∷ Event.Plug (codes "HTREE\\ROOT\\0") (codes "OWN\\DEV\\D") (codes "OWN\\DEV" ∷ []) ([]) (((record { kind = kinds.Irq; min = 5; max = 5; len = 1; align = 1; shared = false } ∷ []) ∷ []) ∷ [])
    ∷ []

abbrev row_stays_by_a_new_plug_lines : List Text
row_stays_by_a_new_plug_lines =
    codes "event driver dev"
    ∷ codes "event teach dev"
    ∷ codes "event teach dev"
    ∷ codes "event plug OWN\\DEV\\H"
    ∷ codes "join 1 OWN\\DEV\\H"
    ∷ codes "listed HTREE\\ROOT\\0"
    ∷ codes "install OWN\\DEV\\H 00ff0000 dev"
    ∷ codes "add OWN\\DEV\\H dev ok"
    ∷ codes "assign OWN\\DEV\\H irq:5-5"
    ∷ codes "START_DEVICE OWN\\DEV\\H dev ok"
    ∷ codes "state OWN\\DEV\\H Started"
    ∷ codes "listed OWN\\DEV\\H"
    ∷ codes "event plug OWN\\DEV\\D"
    ∷ codes "join 2 OWN\\DEV\\D"
    ∷ codes "listed HTREE\\ROOT\\0"
    ∷ codes "install OWN\\DEV\\D 00ff0000 dev"
    ∷ codes "add OWN\\DEV\\D dev ok"
    ∷ codes "nofit OWN\\DEV\\D"
    ∷ codes "begin rebalance OWN\\DEV\\D"
    ∷ codes "QUERY_STOP_DEVICE OWN\\DEV\\H dev ok"
    ∷ codes "state OWN\\DEV\\H StopPending"
    ∷ codes "fits OWN\\DEV\\D"
    ∷ codes "STOP_DEVICE OWN\\DEV\\H dev ok"
    ∷ codes "state OWN\\DEV\\H Stopped"
    ∷ codes "commit 2"
    ∷ codes "START_DEVICE OWN\\DEV\\H dev fail"
    ∷ codes "state OWN\\DEV\\H Stopped"
    ∷ codes "problem OWN\\DEV\\H 10"
    ∷ codes "end rebalance OWN\\DEV\\D moved"
    ∷ codes "START_DEVICE OWN\\DEV\\D dev ok"
    ∷ codes "state OWN\\DEV\\D Started"
    ∷ codes "begin surprise OWN\\DEV\\H"
    ∷ codes "SURPRISE_REMOVAL OWN\\DEV\\H dev ok"
    ∷ codes "state OWN\\DEV\\H SurpriseRemoved"
    ∷ codes "REMOVE_DEVICE OWN\\DEV\\H dev ok"
    ∷ codes "state OWN\\DEV\\H NoStack"
    ∷ codes "end surprise OWN\\DEV\\H done"
    ∷ codes "listed OWN\\DEV\\D"
    ∷ codes "tree"
    ∷ codes "0 HTREE\\ROOT\\0 Started"
    ∷ codes " 1 OWN\\DEV\\H NoStack problem 10"
    ∷ codes " 2 OWN\\DEV\\D Started"
    ∷ codes "map"
    ∷ codes "irq:5-5 OWN\\DEV\\D"
    ∷ codes "outstanding"
    ∷ []

abbrev row_stays_by_a_new_plug_problems : List SearchProblem
row_stays_by_a_new_plug_problems =
    record { fixed = []; movers = (((record { kind = kinds.Irq; min = 5; max = 6; len = 1; align = 1; shared = false } ∷ []) ∷ []) ∷ []) ∷ [] }
    ∷ record { fixed = record { kind = kinds.Irq; lo = 5; hi = 5; shared = false } ∷ []; movers = (((record { kind = kinds.Irq; min = 5; max = 5; len = 1; align = 1; shared = false } ∷ []) ∷ []) ∷ []) ∷ [] }
    ∷ record { fixed = []; movers = (((record { kind = kinds.Irq; min = 5; max = 5; len = 1; align = 1; shared = false } ∷ []) ∷ []) ∷ []) ∷ (((record { kind = kinds.Irq; min = 5; max = 6; len = 1; align = 1; shared = false } ∷ []) ∷ []) ∷ []) ∷ [] }
    ∷ []

pub row_stays_by_a_new_plug : lines (traced (settings_of row_stays_by_a_new_plug_known) 200 (opening small_rack) row_stays_by_a_new_plug_found row_stays_by_a_new_plug_events) ≡ row_stays_by_a_new_plug_lines
unfolding digits
row_stays_by_a_new_plug = refl

pub row_stays_by_a_new_plug_asks : (traced (settings_of row_stays_by_a_new_plug_known) 200 (opening small_rack) row_stays_by_a_new_plug_found row_stays_by_a_new_plug_events).problems ≡ row_stays_by_a_new_plug_problems
row_stays_by_a_new_plug_asks = refl

-- violation
abbrev pub row_violation_known : List Known
row_violation_known = record { id = codes "OWN\\DEV"; choice = record { rank = 16711680; lower = []; service = Some (codes "dev"); upper = [] } } ∷ []

abbrev pub row_violation_found : List Found
row_violation_found = assignment ((record { kind = kinds.Irq; lo = 5; hi = 5; shared = false } ∷ []) ∷ []) ∷ no_fit ∷ assignment ((record { kind = kinds.Irq; lo = 5; hi = 5; shared = false } ∷ []) ∷ (record { kind = kinds.Irq; lo = 6; hi = 6; shared = false } ∷ []) ∷ []) ∷ []

abbrev pub row_violation_events : List Event
row_violation_events =
    Event.Name (codes "dev") DriverKind.Scripted
    ∷ Event.Teach (codes "dev") (record { what = AskWhat.Irp Minor.Stop; path = None; answer = Answer.Fail; uses = None })
    ∷ Event.Plug (codes "HTREE\\ROOT\\0") (codes "OWN\\DEV\\A") (codes "OWN\\DEV" ∷ []) ([]) (((record { kind = kinds.Irq; min = 5; max = 6; len = 1; align = 1; shared = false } ∷ []) ∷ []) ∷ [])
    ∷ Event.Plug (codes "HTREE\\ROOT\\0") (codes "OWN\\DEV\\D") (codes "OWN\\DEV" ∷ []) ([]) (((record { kind = kinds.Irq; min = 5; max = 5; len = 1; align = 1; shared = false } ∷ []) ∷ []) ∷ [])
    ∷ []

abbrev pub row_violation_lines : List Text
row_violation_lines =
    codes "event driver dev"
    ∷ codes "event teach dev"
    ∷ codes "event plug OWN\\DEV\\A"
    ∷ codes "join 1 OWN\\DEV\\A"
    ∷ codes "listed HTREE\\ROOT\\0"
    ∷ codes "install OWN\\DEV\\A 00ff0000 dev"
    ∷ codes "add OWN\\DEV\\A dev ok"
    ∷ codes "assign OWN\\DEV\\A irq:5-5"
    ∷ codes "START_DEVICE OWN\\DEV\\A dev ok"
    ∷ codes "state OWN\\DEV\\A Started"
    ∷ codes "listed OWN\\DEV\\A"
    ∷ codes "event plug OWN\\DEV\\D"
    ∷ codes "join 2 OWN\\DEV\\D"
    ∷ codes "listed HTREE\\ROOT\\0"
    ∷ codes "install OWN\\DEV\\D 00ff0000 dev"
    ∷ codes "add OWN\\DEV\\D dev ok"
    ∷ codes "nofit OWN\\DEV\\D"
    ∷ codes "begin rebalance OWN\\DEV\\D"
    ∷ codes "QUERY_STOP_DEVICE OWN\\DEV\\A dev ok"
    ∷ codes "state OWN\\DEV\\A StopPending"
    ∷ codes "fits OWN\\DEV\\D"
    ∷ codes "STOP_DEVICE OWN\\DEV\\A dev violation"
    ∷ codes "state OWN\\DEV\\A Stopped"
    ∷ codes "commit 2"
    ∷ codes "START_DEVICE OWN\\DEV\\A dev ok"
    ∷ codes "state OWN\\DEV\\A Started"
    ∷ codes "end rebalance OWN\\DEV\\D moved"
    ∷ codes "START_DEVICE OWN\\DEV\\D dev ok"
    ∷ codes "state OWN\\DEV\\D Started"
    ∷ codes "listed OWN\\DEV\\D"
    ∷ codes "tree"
    ∷ codes "0 HTREE\\ROOT\\0 Started"
    ∷ codes " 1 OWN\\DEV\\A Started"
    ∷ codes " 2 OWN\\DEV\\D Started"
    ∷ codes "map"
    ∷ codes "irq:5-5 OWN\\DEV\\D"
    ∷ codes "irq:6-6 OWN\\DEV\\A"
    ∷ codes "outstanding"
    ∷ []

abbrev row_violation_problems : List SearchProblem
row_violation_problems =
    record { fixed = []; movers = (((record { kind = kinds.Irq; min = 5; max = 6; len = 1; align = 1; shared = false } ∷ []) ∷ []) ∷ []) ∷ [] }
    ∷ record { fixed = record { kind = kinds.Irq; lo = 5; hi = 5; shared = false } ∷ []; movers = (((record { kind = kinds.Irq; min = 5; max = 5; len = 1; align = 1; shared = false } ∷ []) ∷ []) ∷ []) ∷ [] }
    ∷ record { fixed = []; movers = (((record { kind = kinds.Irq; min = 5; max = 5; len = 1; align = 1; shared = false } ∷ []) ∷ []) ∷ []) ∷ (((record { kind = kinds.Irq; min = 5; max = 6; len = 1; align = 1; shared = false } ∷ []) ∷ []) ∷ []) ∷ [] }
    ∷ []

pub row_violation : lines (traced (settings_of row_violation_known) 200 (opening small_rack) row_violation_found row_violation_events) ≡ row_violation_lines
unfolding digits
row_violation = refl

pub row_violation_asks : (traced (settings_of row_violation_known) 200 (opening small_rack) row_violation_found row_violation_events).problems ≡ row_violation_problems
row_violation_asks = refl

-- lasting disable
abbrev row_lasting_disable_known : List Known
row_lasting_disable_known = record { id = codes "OWN\\DEV"; choice = record { rank = 16711680; lower = []; service = Some (codes "dev"); upper = [] } } ∷ []

abbrev row_lasting_disable_found : List Found
row_lasting_disable_found = assignment (([]) ∷ []) ∷ []

abbrev row_lasting_disable_events : List Event
row_lasting_disable_events =
    Event.Name (codes "dev") DriverKind.Steady
    ∷ Event.Plug (codes "HTREE\\ROOT\\0") (codes "OWN\\DEV\\1") (codes "OWN\\DEV" ∷ []) ([]) ([])
    ∷ Event.Disable (codes "OWN\\DEV\\1")
    ∷ Event.Pull (codes "OWN\\DEV\\1")
    ∷ Event.Plug (codes "HTREE\\ROOT\\0") (codes "OWN\\DEV\\1") (codes "OWN\\DEV" ∷ []) ([]) ([])
    ∷ []

abbrev row_lasting_disable_lines : List Text
row_lasting_disable_lines =
    codes "event driver dev"
    ∷ codes "event plug OWN\\DEV\\1"
    ∷ codes "join 1 OWN\\DEV\\1"
    ∷ codes "listed HTREE\\ROOT\\0"
    ∷ codes "install OWN\\DEV\\1 00ff0000 dev"
    ∷ codes "add OWN\\DEV\\1 dev ok"
    ∷ codes "assign OWN\\DEV\\1"
    ∷ codes "START_DEVICE OWN\\DEV\\1 dev ok"
    ∷ codes "state OWN\\DEV\\1 Started"
    ∷ codes "listed OWN\\DEV\\1"
    ∷ codes "event disable OWN\\DEV\\1"
    ∷ codes "begin disable OWN\\DEV\\1"
    ∷ codes "QUERY_REMOVE_DEVICE OWN\\DEV\\1 dev ok"
    ∷ codes "state OWN\\DEV\\1 RemovePending"
    ∷ codes "REMOVE_DEVICE OWN\\DEV\\1 dev ok"
    ∷ codes "state OWN\\DEV\\1 NoStack"
    ∷ codes "problem OWN\\DEV\\1 22"
    ∷ codes "end disable OWN\\DEV\\1 done"
    ∷ codes "event pull OWN\\DEV\\1"
    ∷ codes "gone OWN\\DEV\\1"
    ∷ codes "listed HTREE\\ROOT\\0"
    ∷ codes "begin surprise OWN\\DEV\\1"
    ∷ codes "leave OWN\\DEV\\1"
    ∷ codes "end surprise OWN\\DEV\\1 done"
    ∷ codes "event plug OWN\\DEV\\1"
    ∷ codes "join 2 OWN\\DEV\\1"
    ∷ codes "listed HTREE\\ROOT\\0"
    ∷ codes "problem OWN\\DEV\\1 22"
    ∷ codes "tree"
    ∷ codes "0 HTREE\\ROOT\\0 Started"
    ∷ codes " 2 OWN\\DEV\\1 NoStack problem 22"
    ∷ codes "map"
    ∷ codes "outstanding"
    ∷ []

abbrev row_lasting_disable_problems : List SearchProblem
row_lasting_disable_problems =
    record { fixed = []; movers = ([]) ∷ [] }
    ∷ []

pub row_lasting_disable : lines (traced (settings_of row_lasting_disable_known) 200 (opening small_rack) row_lasting_disable_found row_lasting_disable_events) ≡ row_lasting_disable_lines
unfolding digits
row_lasting_disable = refl

pub row_lasting_disable_asks : (traced (settings_of row_lasting_disable_known) 200 (opening small_rack) row_lasting_disable_found row_lasting_disable_events).problems ≡ row_lasting_disable_problems
row_lasting_disable_asks = refl

-- chain of refusers
abbrev row_chain_of_refusers_known : List Known
row_chain_of_refusers_known = record { id = codes "OWN\\DEV"; choice = record { rank = 16711680; lower = []; service = Some (codes "dev"); upper = [] } } ∷ record { id = codes "OWN\\HARD"; choice = record { rank = 16711680; lower = []; service = Some (codes "hard"); upper = [] } } ∷ []

abbrev row_chain_of_refusers_found : List Found
row_chain_of_refusers_found = assignment (([]) ∷ []) ∷ assignment (([]) ∷ []) ∷ assignment (([]) ∷ []) ∷ assignment ((record { kind = kinds.Irq; lo = 7; hi = 7; shared = false } ∷ []) ∷ []) ∷ no_fit ∷ assignment ((record { kind = kinds.Irq; lo = 7; hi = 7; shared = false } ∷ []) ∷ ([]) ∷ (record { kind = kinds.Irq; lo = 8; hi = 8; shared = false } ∷ []) ∷ []) ∷ []

abbrev row_chain_of_refusers_events : List Event
row_chain_of_refusers_events =
    Event.Name (codes "hard") DriverKind.Stubborn
    ∷ Event.Name (codes "dev") DriverKind.Steady
    ∷ Event.Plug (codes "HTREE\\ROOT\\0") (codes "OWN\\DEV\\H") (codes "OWN\\DEV" ∷ []) ([]) ([])
    ∷ Event.Plug (codes "OWN\\DEV\\H") (codes "OWN\\HARD\\1") (codes "OWN\\HARD" ∷ []) ([]) ([])
    ∷ Event.Plug (codes "OWN\\DEV\\H") (codes "OWN\\DEV\\2") (codes "OWN\\DEV" ∷ []) ([]) ([])
    ∷ Event.Plug (codes "HTREE\\ROOT\\0") (codes "OWN\\DEV\\X") (codes "OWN\\DEV" ∷ []) ([]) (((record { kind = kinds.Irq; min = 7; max = 8; len = 1; align = 1; shared = false } ∷ []) ∷ []) ∷ [])
    ∷ Event.Plug (codes "HTREE\\ROOT\\0") (codes "OWN\\DEV\\Y") (codes "OWN\\DEV" ∷ []) ([]) (((record { kind = kinds.Irq; min = 7; max = 7; len = 1; align = 1; shared = false } ∷ []) ∷ []) ∷ [])
    ∷ []

abbrev row_chain_of_refusers_lines : List Text
row_chain_of_refusers_lines =
    codes "event driver hard"
    ∷ codes "event driver dev"
    ∷ codes "event plug OWN\\DEV\\H"
    ∷ codes "join 1 OWN\\DEV\\H"
    ∷ codes "listed HTREE\\ROOT\\0"
    ∷ codes "install OWN\\DEV\\H 00ff0000 dev"
    ∷ codes "add OWN\\DEV\\H dev ok"
    ∷ codes "assign OWN\\DEV\\H"
    ∷ codes "START_DEVICE OWN\\DEV\\H dev ok"
    ∷ codes "state OWN\\DEV\\H Started"
    ∷ codes "listed OWN\\DEV\\H"
    ∷ codes "event plug OWN\\HARD\\1"
    ∷ codes "join 2 OWN\\HARD\\1"
    ∷ codes "listed OWN\\DEV\\H"
    ∷ codes "install OWN\\HARD\\1 00ff0000 hard"
    ∷ codes "add OWN\\HARD\\1 hard ok"
    ∷ codes "assign OWN\\HARD\\1"
    ∷ codes "START_DEVICE OWN\\HARD\\1 hard ok"
    ∷ codes "state OWN\\HARD\\1 Started"
    ∷ codes "listed OWN\\HARD\\1"
    ∷ codes "event plug OWN\\DEV\\2"
    ∷ codes "join 3 OWN\\DEV\\2"
    ∷ codes "listed OWN\\DEV\\H"
    ∷ codes "install OWN\\DEV\\2 00ff0000 dev"
    ∷ codes "add OWN\\DEV\\2 dev ok"
    ∷ codes "assign OWN\\DEV\\2"
    ∷ codes "START_DEVICE OWN\\DEV\\2 dev ok"
    ∷ codes "state OWN\\DEV\\2 Started"
    ∷ codes "listed OWN\\DEV\\2"
    ∷ codes "event plug OWN\\DEV\\X"
    ∷ codes "join 4 OWN\\DEV\\X"
    ∷ codes "listed HTREE\\ROOT\\0"
    ∷ codes "install OWN\\DEV\\X 00ff0000 dev"
    ∷ codes "add OWN\\DEV\\X dev ok"
    ∷ codes "assign OWN\\DEV\\X irq:7-7"
    ∷ codes "START_DEVICE OWN\\DEV\\X dev ok"
    ∷ codes "state OWN\\DEV\\X Started"
    ∷ codes "listed OWN\\DEV\\X"
    ∷ codes "event plug OWN\\DEV\\Y"
    ∷ codes "join 5 OWN\\DEV\\Y"
    ∷ codes "listed HTREE\\ROOT\\0"
    ∷ codes "install OWN\\DEV\\Y 00ff0000 dev"
    ∷ codes "add OWN\\DEV\\Y dev ok"
    ∷ codes "nofit OWN\\DEV\\Y"
    ∷ codes "begin rebalance OWN\\DEV\\Y"
    ∷ codes "QUERY_STOP_DEVICE OWN\\DEV\\X dev ok"
    ∷ codes "state OWN\\DEV\\X StopPending"
    ∷ codes "QUERY_STOP_DEVICE OWN\\DEV\\2 dev ok"
    ∷ codes "state OWN\\DEV\\2 StopPending"
    ∷ codes "QUERY_STOP_DEVICE OWN\\HARD\\1 hard fail"
    ∷ codes "state OWN\\HARD\\1 Started"
    ∷ codes "CANCEL_STOP_DEVICE OWN\\HARD\\1 hard ok"
    ∷ codes "state OWN\\HARD\\1 Started"
    ∷ codes "fits OWN\\DEV\\Y"
    ∷ codes "STOP_DEVICE OWN\\DEV\\X dev ok"
    ∷ codes "state OWN\\DEV\\X Stopped"
    ∷ codes "STOP_DEVICE OWN\\DEV\\2 dev ok"
    ∷ codes "state OWN\\DEV\\2 Stopped"
    ∷ codes "commit 3"
    ∷ codes "START_DEVICE OWN\\DEV\\2 dev ok"
    ∷ codes "state OWN\\DEV\\2 Started"
    ∷ codes "START_DEVICE OWN\\DEV\\X dev ok"
    ∷ codes "state OWN\\DEV\\X Started"
    ∷ codes "end rebalance OWN\\DEV\\Y moved"
    ∷ codes "START_DEVICE OWN\\DEV\\Y dev ok"
    ∷ codes "state OWN\\DEV\\Y Started"
    ∷ codes "listed OWN\\DEV\\Y"
    ∷ codes "tree"
    ∷ codes "0 HTREE\\ROOT\\0 Started"
    ∷ codes " 1 OWN\\DEV\\H Started"
    ∷ codes "  2 OWN\\HARD\\1 Started"
    ∷ codes "  3 OWN\\DEV\\2 Started"
    ∷ codes " 4 OWN\\DEV\\X Started"
    ∷ codes " 5 OWN\\DEV\\Y Started"
    ∷ codes "map"
    ∷ codes "irq:7-7 OWN\\DEV\\Y"
    ∷ codes "irq:8-8 OWN\\DEV\\X"
    ∷ codes "outstanding"
    ∷ []

abbrev row_chain_of_refusers_problems : List SearchProblem
row_chain_of_refusers_problems =
    record { fixed = []; movers = ([]) ∷ [] }
    ∷ record { fixed = []; movers = ([]) ∷ [] }
    ∷ record { fixed = []; movers = ([]) ∷ [] }
    ∷ record { fixed = []; movers = (((record { kind = kinds.Irq; min = 7; max = 8; len = 1; align = 1; shared = false } ∷ []) ∷ []) ∷ []) ∷ [] }
    ∷ record { fixed = record { kind = kinds.Irq; lo = 7; hi = 7; shared = false } ∷ []; movers = (((record { kind = kinds.Irq; min = 7; max = 7; len = 1; align = 1; shared = false } ∷ []) ∷ []) ∷ []) ∷ [] }
    ∷ record { fixed = []; movers = (((record { kind = kinds.Irq; min = 7; max = 7; len = 1; align = 1; shared = false } ∷ []) ∷ []) ∷ []) ∷ ([]) ∷ (((record { kind = kinds.Irq; min = 7; max = 8; len = 1; align = 1; shared = false } ∷ []) ∷ []) ∷ []) ∷ [] }
    ∷ []

pub row_chain_of_refusers : lines (traced (settings_of row_chain_of_refusers_known) 200 (opening small_rack) row_chain_of_refusers_found row_chain_of_refusers_events) ≡ row_chain_of_refusers_lines
unfolding digits
row_chain_of_refusers = refl

pub row_chain_of_refusers_asks : (traced (settings_of row_chain_of_refusers_known) 200 (opening small_rack) row_chain_of_refusers_found row_chain_of_refusers_events).problems ≡ row_chain_of_refusers_problems
row_chain_of_refusers_asks = refl
