-- More scripts made at random: whole outputs, as the definition computes them.
use Rattle.std.proofs.Common.{List, [], ◌∷◌, Some, None, ◌≡◌, refl, true, false}
use Rattle.std.specs.Prelude.{codes}
use Rattle.std.specs.Fmt.{digits}
use Rattle.resource_reqs.specs.Spelling.Answer.{assignment, no_fit}
use Rattle.pnp_model.specs.Records.{Found, SearchProblem}
use Rattle.pnp_labels.specs.Texts.{Text}
use Rattle.pnp_labels.specs.declared.event.Event.{Event}
use Rattle.pnp_labels.specs.declared.words.DriverKind.{DriverKind}
use Rattle.pnp_labels.specs.declared.words.Minor.{Minor}
use Rattle.pnp_labels.specs.declared.words.AskWhat.{AskWhat}
use Rattle.pnp_labels.specs.declared.words.Answer.{Answer}
use Rattle.pnp_model.specs.Runs.{traced, opening}
use Rattle.pnp_model.specs.Endings.{lines}
use Rattle.pnp_model.proofs.RowBase.{settings_of, small_rack, Known}
use Rattle.pnp_labels.specs.declared.words.RelKind.{RelKind}
use Rattle.resource_reqs.specs.declared.kind.Kind.TheVariants as kinds

-- mixed 5
abbrev row_mixed_5_known : List Known
row_mixed_5_known = record { id = codes "OWN\\DEV"; choice = record { rank = 16711680; lower = []; service = Some (codes "dev"); upper = [] } } ∷ record { id = codes "OWN\\HARD"; choice = record { rank = 16711680; lower = []; service = Some (codes "hard"); upper = [] } } ∷ []

abbrev row_mixed_5_found : List Found
row_mixed_5_found = assignment ((record { kind = kinds.Irq; lo = 5; hi = 5; shared = false } ∷ []) ∷ []) ∷ assignment ((record { kind = kinds.Irq; lo = 6; hi = 6; shared = true } ∷ []) ∷ []) ∷ assignment ((record { kind = kinds.Irq; lo = 5; hi = 5; shared = true } ∷ []) ∷ []) ∷ []

abbrev row_mixed_5_events : List Event
row_mixed_5_events =
    Event.Name (codes "dev") DriverKind.Scripted
    ∷ Event.Name (codes "hard") DriverKind.Stubborn
    ∷ Event.Name (codes "low") DriverKind.Scripted
    ∷ Event.Teach (codes "dev") (record { what = AskWhat.Irp Minor.Remove; path = Some (codes "OWN\\HARD\\1"); answer = Answer.Ok; uses = Some 2 })
    ∷ Event.Teach (codes "dev") (record { what = AskWhat.Irp Minor.QueryStop; path = None; answer = Answer.Fail; uses = Some 1 })
    ∷ Event.Plug (codes "HTREE\\ROOT\\0") (codes "OWN\\DEV\\2") (codes "OWN\\DEV" ∷ []) ([]) (((record { kind = kinds.Irq; min = 5; max = 6; len = 1; align = 1; shared = false } ∷ []) ∷ []) ∷ [])
    ∷ Event.Plug (codes "HTREE\\ROOT\\0") (codes "OWN\\HARD\\5") (codes "OWN\\HARD" ∷ []) ([]) (((record { kind = kinds.Irq; min = 5; max = 6; len = 1; align = 1; shared = true } ∷ []) ∷ []) ∷ [])
    ∷ Event.Relate RelKind.Ejection (codes "OWN\\DEV\\2") (codes "OWN\\DEV\\2")
    ∷ Event.Disable (codes "OWN\\DEV\\2")
    ∷ Event.Plug (codes "OWN\\HARD\\5") (codes "OWN\\HARD\\1") (codes "OWN\\HARD" ∷ []) ([]) (((record { kind = kinds.Irq; min = 5; max = 6; len = 1; align = 1; shared = true } ∷ []) ∷ []) ∷ [])
    ∷ Event.Pull (codes "OWN\\HARD\\5")
    ∷ Event.Plug (codes "OWN\\DEV\\2") (codes "OWN\\DEV\\2") (codes "OWN\\DEV" ∷ []) ([]) (((record { kind = kinds.Irq; min = 5; max = 6; len = 1; align = 1; shared = false } ∷ []) ∷ []) ∷ [])
    ∷ Event.Eject (codes "OWN\\HARD\\5")
    ∷ Event.Plug (codes "HTREE\\ROOT\\0") (codes "OWN\\DEV\\2") (codes "OWN\\DEV" ∷ []) ([]) ([])
    ∷ Event.Complete (codes "OWN\\DEV\\2") Minor.QueryRemove true
    ∷ []

abbrev row_mixed_5_lines : List Text
row_mixed_5_lines =
    codes "event driver dev"
    ∷ codes "event driver hard"
    ∷ codes "event driver low"
    ∷ codes "event teach dev"
    ∷ codes "event teach dev"
    ∷ codes "event plug OWN\\DEV\\2"
    ∷ codes "join 1 OWN\\DEV\\2"
    ∷ codes "listed HTREE\\ROOT\\0"
    ∷ codes "install OWN\\DEV\\2 00ff0000 dev"
    ∷ codes "add OWN\\DEV\\2 dev ok"
    ∷ codes "assign OWN\\DEV\\2 irq:5-5"
    ∷ codes "START_DEVICE OWN\\DEV\\2 dev ok"
    ∷ codes "state OWN\\DEV\\2 Started"
    ∷ codes "listed OWN\\DEV\\2"
    ∷ codes "event plug OWN\\HARD\\5"
    ∷ codes "join 2 OWN\\HARD\\5"
    ∷ codes "listed HTREE\\ROOT\\0"
    ∷ codes "install OWN\\HARD\\5 00ff0000 hard"
    ∷ codes "add OWN\\HARD\\5 hard ok"
    ∷ codes "assign OWN\\HARD\\5 irq:6-6:shared"
    ∷ codes "START_DEVICE OWN\\HARD\\5 hard ok"
    ∷ codes "state OWN\\HARD\\5 Started"
    ∷ codes "listed OWN\\HARD\\5"
    ∷ codes "refused relate SelfRelation"
    ∷ codes "event disable OWN\\DEV\\2"
    ∷ codes "begin disable OWN\\DEV\\2"
    ∷ codes "QUERY_REMOVE_DEVICE OWN\\DEV\\2 dev ok"
    ∷ codes "state OWN\\DEV\\2 RemovePending"
    ∷ codes "REMOVE_DEVICE OWN\\DEV\\2 dev ok"
    ∷ codes "state OWN\\DEV\\2 NoStack"
    ∷ codes "problem OWN\\DEV\\2 22"
    ∷ codes "end disable OWN\\DEV\\2 done"
    ∷ codes "event plug OWN\\HARD\\1"
    ∷ codes "join 3 OWN\\HARD\\1"
    ∷ codes "listed OWN\\HARD\\5"
    ∷ codes "install OWN\\HARD\\1 00ff0000 hard"
    ∷ codes "add OWN\\HARD\\1 hard ok"
    ∷ codes "assign OWN\\HARD\\1 irq:5-5:shared"
    ∷ codes "START_DEVICE OWN\\HARD\\1 hard ok"
    ∷ codes "state OWN\\HARD\\1 Started"
    ∷ codes "listed OWN\\HARD\\1"
    ∷ codes "event pull OWN\\HARD\\5"
    ∷ codes "gone OWN\\HARD\\5"
    ∷ codes "listed HTREE\\ROOT\\0"
    ∷ codes "begin surprise OWN\\HARD\\5"
    ∷ codes "SURPRISE_REMOVAL OWN\\HARD\\1 hard ok"
    ∷ codes "state OWN\\HARD\\1 SurpriseRemoved"
    ∷ codes "SURPRISE_REMOVAL OWN\\HARD\\5 hard ok"
    ∷ codes "state OWN\\HARD\\5 SurpriseRemoved"
    ∷ codes "REMOVE_DEVICE OWN\\HARD\\1 hard ok"
    ∷ codes "state OWN\\HARD\\1 NoStack"
    ∷ codes "leave OWN\\HARD\\1"
    ∷ codes "REMOVE_DEVICE OWN\\HARD\\5 hard ok"
    ∷ codes "state OWN\\HARD\\5 NoStack"
    ∷ codes "leave OWN\\HARD\\5"
    ∷ codes "end surprise OWN\\HARD\\5 done"
    ∷ codes "refused plug SameId"
    ∷ codes "refused eject NoDevice"
    ∷ codes "refused plug SameId"
    ∷ codes "refused complete NoSuchRequest"
    ∷ codes "tree"
    ∷ codes "0 HTREE\\ROOT\\0 Started"
    ∷ codes " 1 OWN\\DEV\\2 NoStack problem 22"
    ∷ codes "map"
    ∷ codes "outstanding"
    ∷ []

abbrev row_mixed_5_problems : List SearchProblem
row_mixed_5_problems =
    record { fixed = []; movers = (((record { kind = kinds.Irq; min = 5; max = 6; len = 1; align = 1; shared = false } ∷ []) ∷ []) ∷ []) ∷ [] }
    ∷ record { fixed = record { kind = kinds.Irq; lo = 5; hi = 5; shared = false } ∷ []; movers = (((record { kind = kinds.Irq; min = 5; max = 6; len = 1; align = 1; shared = true } ∷ []) ∷ []) ∷ []) ∷ [] }
    ∷ record { fixed = record { kind = kinds.Irq; lo = 6; hi = 6; shared = true } ∷ []; movers = (((record { kind = kinds.Irq; min = 5; max = 6; len = 1; align = 1; shared = true } ∷ []) ∷ []) ∷ []) ∷ [] }
    ∷ []

pub row_mixed_5 : lines (traced (settings_of row_mixed_5_known) 200 (opening small_rack) row_mixed_5_found row_mixed_5_events) ≡ row_mixed_5_lines
unfolding digits
row_mixed_5 = refl

pub row_mixed_5_asks : (traced (settings_of row_mixed_5_known) 200 (opening small_rack) row_mixed_5_found row_mixed_5_events).problems ≡ row_mixed_5_problems
row_mixed_5_asks = refl

-- mixed 6
abbrev row_mixed_6_known : List Known
row_mixed_6_known = record { id = codes "OWN\\HARD"; choice = record { rank = 16711680; lower = []; service = Some (codes "hard"); upper = [] } } ∷ record { id = codes "OWN\\DEV"; choice = record { rank = 16711680; lower = []; service = Some (codes "dev"); upper = [] } } ∷ record { id = codes "OWN\\FIL"; choice = record { rank = 16711680; lower = codes "low" ∷ []; service = Some (codes "dev"); upper = [] } } ∷ []

abbrev row_mixed_6_found : List Found
row_mixed_6_found = assignment ((record { kind = kinds.Irq; lo = 5; hi = 5; shared = false } ∷ []) ∷ []) ∷ assignment ((record { kind = kinds.Irq; lo = 6; hi = 6; shared = false } ∷ []) ∷ []) ∷ no_fit ∷ no_fit ∷ []

abbrev row_mixed_6_events : List Event
row_mixed_6_events =
    Event.Name (codes "dev") DriverKind.Scripted
    ∷ Event.Name (codes "hard") DriverKind.Stubborn
    ∷ Event.Name (codes "low") DriverKind.Scripted
    ∷ Event.Teach (codes "low") (record { what = AskWhat.Irp Minor.CancelRemove; path = None; answer = Answer.Fail; uses = Some 1 })
    ∷ Event.Teach (codes "low") (record { what = AskWhat.Irp Minor.CancelStop; path = Some (codes "OWN\\HARD\\3"); answer = Answer.Ok; uses = Some 1 })
    ∷ Event.Teach (codes "low") (record { what = AskWhat.Irp Minor.CancelRemove; path = None; answer = Answer.Fail; uses = Some 2 })
    ∷ Event.Teach (codes "dev") (record { what = AskWhat.Irp Minor.CancelRemove; path = None; answer = Answer.Fail; uses = Some 2 })
    ∷ Event.Teach (codes "dev") (record { what = AskWhat.Irp Minor.QueryRemove; path = Some (codes "OWN\\FIL\\1"); answer = Answer.Pend; uses = Some 2 })
    ∷ Event.Enable (codes "HTREE\\ROOT\\0")
    ∷ Event.Disable (codes "HTREE\\ROOT\\0")
    ∷ Event.Eject (codes "HTREE\\ROOT\\0")
    ∷ Event.Eject (codes "HTREE\\ROOT\\0")
    ∷ Event.Eject (codes "HTREE\\ROOT\\0")
    ∷ Event.Reserve (record { kind = kinds.Irq; lo = 7; hi = 7; shared = false })
    ∷ Event.Eject (codes "HTREE\\ROOT\\0")
    ∷ Event.Relate RelKind.Removal (codes "HTREE\\ROOT\\0") (codes "HTREE\\ROOT\\0")
    ∷ Event.Plug (codes "HTREE\\ROOT\\0") (codes "OWN\\HARD\\1") (codes "OWN\\HARD" ∷ []) ([]) (((record { kind = kinds.Irq; min = 5; max = 5; len = 1; align = 1; shared = false } ∷ []) ∷ []) ∷ [])
    ∷ Event.Enable (codes "OWN\\HARD\\1")
    ∷ Event.Plug (codes "HTREE\\ROOT\\0") (codes "OWN\\DEV\\5") (codes "OWN\\DEV" ∷ []) ([]) (((record { kind = kinds.Irq; min = 5; max = 7; len = 1; align = 1; shared = false } ∷ []) ∷ []) ∷ [])
    ∷ Event.Plug (codes "HTREE\\ROOT\\0") (codes "OWN\\FIL\\4") (codes "OWN\\FIL" ∷ []) ([]) (((record { kind = kinds.Irq; min = 5; max = 6; len = 1; align = 1; shared = false } ∷ []) ∷ []) ∷ [])
    ∷ []

abbrev row_mixed_6_lines : List Text
row_mixed_6_lines =
    codes "event driver dev"
    ∷ codes "event driver hard"
    ∷ codes "event driver low"
    ∷ codes "event teach low"
    ∷ codes "event teach low"
    ∷ codes "event teach low"
    ∷ codes "event teach dev"
    ∷ codes "event teach dev"
    ∷ codes "refused enable NotDisabled"
    ∷ codes "refused disable RootStays"
    ∷ codes "refused eject RootStays"
    ∷ codes "refused eject RootStays"
    ∷ codes "refused eject RootStays"
    ∷ codes "event reserve irq:7-7"
    ∷ codes "refused eject RootStays"
    ∷ codes "refused relate SelfRelation"
    ∷ codes "event plug OWN\\HARD\\1"
    ∷ codes "join 1 OWN\\HARD\\1"
    ∷ codes "listed HTREE\\ROOT\\0"
    ∷ codes "install OWN\\HARD\\1 00ff0000 hard"
    ∷ codes "add OWN\\HARD\\1 hard ok"
    ∷ codes "assign OWN\\HARD\\1 irq:5-5"
    ∷ codes "START_DEVICE OWN\\HARD\\1 hard ok"
    ∷ codes "state OWN\\HARD\\1 Started"
    ∷ codes "listed OWN\\HARD\\1"
    ∷ codes "refused enable NotDisabled"
    ∷ codes "event plug OWN\\DEV\\5"
    ∷ codes "join 2 OWN\\DEV\\5"
    ∷ codes "listed HTREE\\ROOT\\0"
    ∷ codes "install OWN\\DEV\\5 00ff0000 dev"
    ∷ codes "add OWN\\DEV\\5 dev ok"
    ∷ codes "assign OWN\\DEV\\5 irq:6-6"
    ∷ codes "START_DEVICE OWN\\DEV\\5 dev ok"
    ∷ codes "state OWN\\DEV\\5 Started"
    ∷ codes "listed OWN\\DEV\\5"
    ∷ codes "event plug OWN\\FIL\\4"
    ∷ codes "join 3 OWN\\FIL\\4"
    ∷ codes "listed HTREE\\ROOT\\0"
    ∷ codes "install OWN\\FIL\\4 00ff0000 dev"
    ∷ codes "add OWN\\FIL\\4 low ok"
    ∷ codes "add OWN\\FIL\\4 dev ok"
    ∷ codes "nofit OWN\\FIL\\4"
    ∷ codes "begin rebalance OWN\\FIL\\4"
    ∷ codes "QUERY_STOP_DEVICE OWN\\DEV\\5 dev ok"
    ∷ codes "state OWN\\DEV\\5 StopPending"
    ∷ codes "QUERY_STOP_DEVICE OWN\\HARD\\1 hard fail"
    ∷ codes "state OWN\\HARD\\1 Started"
    ∷ codes "CANCEL_STOP_DEVICE OWN\\HARD\\1 hard ok"
    ∷ codes "state OWN\\HARD\\1 Started"
    ∷ codes "nofit OWN\\FIL\\4"
    ∷ codes "CANCEL_STOP_DEVICE OWN\\DEV\\5 dev ok"
    ∷ codes "state OWN\\DEV\\5 Started"
    ∷ codes "problem OWN\\FIL\\4 12"
    ∷ codes "end rebalance OWN\\FIL\\4 nofit"
    ∷ codes "REMOVE_DEVICE OWN\\FIL\\4 dev ok"
    ∷ codes "REMOVE_DEVICE OWN\\FIL\\4 low ok"
    ∷ codes "state OWN\\FIL\\4 NoStack"
    ∷ codes "tree"
    ∷ codes "0 HTREE\\ROOT\\0 Started"
    ∷ codes " 1 OWN\\HARD\\1 Started"
    ∷ codes " 2 OWN\\DEV\\5 Started"
    ∷ codes " 3 OWN\\FIL\\4 NoStack problem 12"
    ∷ codes "map"
    ∷ codes "irq:5-5 OWN\\HARD\\1"
    ∷ codes "irq:6-6 OWN\\DEV\\5"
    ∷ codes "irq:7-7 reserved"
    ∷ codes "outstanding"
    ∷ []

abbrev row_mixed_6_problems : List SearchProblem
row_mixed_6_problems =
    record { fixed = record { kind = kinds.Irq; lo = 7; hi = 7; shared = false } ∷ []; movers = (((record { kind = kinds.Irq; min = 5; max = 5; len = 1; align = 1; shared = false } ∷ []) ∷ []) ∷ []) ∷ [] }
    ∷ record { fixed = record { kind = kinds.Irq; lo = 7; hi = 7; shared = false } ∷ record { kind = kinds.Irq; lo = 5; hi = 5; shared = false } ∷ []; movers = (((record { kind = kinds.Irq; min = 5; max = 7; len = 1; align = 1; shared = false } ∷ []) ∷ []) ∷ []) ∷ [] }
    ∷ record { fixed = record { kind = kinds.Irq; lo = 7; hi = 7; shared = false } ∷ record { kind = kinds.Irq; lo = 5; hi = 5; shared = false } ∷ record { kind = kinds.Irq; lo = 6; hi = 6; shared = false } ∷ []; movers = (((record { kind = kinds.Irq; min = 5; max = 6; len = 1; align = 1; shared = false } ∷ []) ∷ []) ∷ []) ∷ [] }
    ∷ record { fixed = record { kind = kinds.Irq; lo = 7; hi = 7; shared = false } ∷ record { kind = kinds.Irq; lo = 5; hi = 5; shared = false } ∷ []; movers = (((record { kind = kinds.Irq; min = 5; max = 6; len = 1; align = 1; shared = false } ∷ []) ∷ []) ∷ []) ∷ (((record { kind = kinds.Irq; min = 5; max = 7; len = 1; align = 1; shared = false } ∷ []) ∷ []) ∷ []) ∷ [] }
    ∷ []

pub row_mixed_6 : lines (traced (settings_of row_mixed_6_known) 200 (opening small_rack) row_mixed_6_found row_mixed_6_events) ≡ row_mixed_6_lines
unfolding digits
row_mixed_6 = refl

pub row_mixed_6_asks : (traced (settings_of row_mixed_6_known) 200 (opening small_rack) row_mixed_6_found row_mixed_6_events).problems ≡ row_mixed_6_problems
row_mixed_6_asks = refl

-- mixed 7
abbrev row_mixed_7_known : List Known
row_mixed_7_known = record { id = codes "OWN\\HARD"; choice = record { rank = 16711680; lower = []; service = Some (codes "hard"); upper = [] } } ∷ record { id = codes "OWN\\DEV"; choice = record { rank = 16711680; lower = []; service = Some (codes "dev"); upper = [] } } ∷ []

abbrev row_mixed_7_found : List Found
row_mixed_7_found = assignment ((record { kind = kinds.Irq; lo = 6; hi = 6; shared = false } ∷ record { kind = kinds.Port; lo = 0; hi = 7; shared = false } ∷ []) ∷ []) ∷ assignment ((record { kind = kinds.Irq; lo = 5; hi = 5; shared = false } ∷ []) ∷ []) ∷ assignment ((record { kind = kinds.Irq; lo = 5; hi = 5; shared = false } ∷ []) ∷ []) ∷ []

abbrev row_mixed_7_events : List Event
row_mixed_7_events =
    Event.Name (codes "dev") DriverKind.Scripted
    ∷ Event.Name (codes "hard") DriverKind.Stubborn
    ∷ Event.Name (codes "low") DriverKind.Scripted
    ∷ Event.Teach (codes "low") (record { what = AskWhat.Irp Minor.Remove; path = Some (codes "OWN\\FIL\\4"); answer = Answer.Fail; uses = Some 1 })
    ∷ Event.Teach (codes "dev") (record { what = AskWhat.Irp Minor.CancelRemove; path = None; answer = Answer.Ok; uses = Some 2 })
    ∷ Event.Teach (codes "low") (record { what = AskWhat.Irp Minor.CancelRemove; path = None; answer = Answer.Fail; uses = Some 2 })
    ∷ Event.Eject (codes "HTREE\\ROOT\\0")
    ∷ Event.Disable (codes "HTREE\\ROOT\\0")
    ∷ Event.Relate RelKind.Removal (codes "HTREE\\ROOT\\0") (codes "HTREE\\ROOT\\0")
    ∷ Event.Plug (codes "HTREE\\ROOT\\0") (codes "OWN\\HARD\\1") (codes "OWN\\HARD" ∷ []) ([]) (((record { kind = kinds.Irq; min = 6; max = 6; len = 1; align = 1; shared = false } ∷ []) ∷ (record { kind = kinds.Port; min = 0; max = 31; len = 8; align = 8; shared = false } ∷ []) ∷ []) ∷ ((record { kind = kinds.Irq; min = 7; max = 7; len = 1; align = 1; shared = false } ∷ []) ∷ []) ∷ [])
    ∷ Event.Plug (codes "HTREE\\ROOT\\0") (codes "OWN\\DEV\\1") (codes "OWN\\DEV" ∷ []) ([]) (((record { kind = kinds.Irq; min = 5; max = 7; len = 1; align = 1; shared = false } ∷ []) ∷ []) ∷ [])
    ∷ Event.Disable (codes "OWN\\DEV\\1")
    ∷ Event.Reserve (record { kind = kinds.Irq; lo = 7; hi = 7; shared = false })
    ∷ Event.Plug (codes "OWN\\HARD\\1") (codes "OWN\\HARD\\2") (codes "OWN\\HARD" ∷ []) ([]) (((record { kind = kinds.Irq; min = 5; max = 5; len = 1; align = 1; shared = false } ∷ []) ∷ []) ∷ [])
    ∷ Event.Plug (codes "OWN\\DEV\\1") (codes "OWN\\HARD\\4") (codes "OWN\\HARD" ∷ []) ([]) (((record { kind = kinds.Irq; min = 5; max = 5; len = 1; align = 1; shared = false } ∷ []) ∷ []) ∷ [])
    ∷ []

abbrev row_mixed_7_lines : List Text
row_mixed_7_lines =
    codes "event driver dev"
    ∷ codes "event driver hard"
    ∷ codes "event driver low"
    ∷ codes "event teach low"
    ∷ codes "event teach dev"
    ∷ codes "event teach low"
    ∷ codes "refused eject RootStays"
    ∷ codes "refused disable RootStays"
    ∷ codes "refused relate SelfRelation"
    ∷ codes "event plug OWN\\HARD\\1"
    ∷ codes "join 1 OWN\\HARD\\1"
    ∷ codes "listed HTREE\\ROOT\\0"
    ∷ codes "install OWN\\HARD\\1 00ff0000 hard"
    ∷ codes "add OWN\\HARD\\1 hard ok"
    ∷ codes "assign OWN\\HARD\\1 irq:6-6 port:0x0-0x7"
    ∷ codes "START_DEVICE OWN\\HARD\\1 hard ok"
    ∷ codes "state OWN\\HARD\\1 Started"
    ∷ codes "listed OWN\\HARD\\1"
    ∷ codes "event plug OWN\\DEV\\1"
    ∷ codes "join 2 OWN\\DEV\\1"
    ∷ codes "listed HTREE\\ROOT\\0"
    ∷ codes "install OWN\\DEV\\1 00ff0000 dev"
    ∷ codes "add OWN\\DEV\\1 dev ok"
    ∷ codes "assign OWN\\DEV\\1 irq:5-5"
    ∷ codes "START_DEVICE OWN\\DEV\\1 dev ok"
    ∷ codes "state OWN\\DEV\\1 Started"
    ∷ codes "listed OWN\\DEV\\1"
    ∷ codes "event disable OWN\\DEV\\1"
    ∷ codes "begin disable OWN\\DEV\\1"
    ∷ codes "QUERY_REMOVE_DEVICE OWN\\DEV\\1 dev ok"
    ∷ codes "state OWN\\DEV\\1 RemovePending"
    ∷ codes "REMOVE_DEVICE OWN\\DEV\\1 dev ok"
    ∷ codes "state OWN\\DEV\\1 NoStack"
    ∷ codes "problem OWN\\DEV\\1 22"
    ∷ codes "end disable OWN\\DEV\\1 done"
    ∷ codes "event reserve irq:7-7"
    ∷ codes "event plug OWN\\HARD\\2"
    ∷ codes "join 3 OWN\\HARD\\2"
    ∷ codes "listed OWN\\HARD\\1"
    ∷ codes "install OWN\\HARD\\2 00ff0000 hard"
    ∷ codes "add OWN\\HARD\\2 hard ok"
    ∷ codes "assign OWN\\HARD\\2 irq:5-5"
    ∷ codes "START_DEVICE OWN\\HARD\\2 hard ok"
    ∷ codes "state OWN\\HARD\\2 Started"
    ∷ codes "listed OWN\\HARD\\2"
    ∷ codes "event plug OWN\\HARD\\4"
    ∷ codes "skip list 2"
    ∷ codes "tree"
    ∷ codes "0 HTREE\\ROOT\\0 Started"
    ∷ codes " 1 OWN\\HARD\\1 Started"
    ∷ codes "  3 OWN\\HARD\\2 Started"
    ∷ codes " 2 OWN\\DEV\\1 NoStack problem 22"
    ∷ codes "map"
    ∷ codes "port:0x0-0x7 OWN\\HARD\\1"
    ∷ codes "irq:5-5 OWN\\HARD\\2"
    ∷ codes "irq:6-6 OWN\\HARD\\1"
    ∷ codes "irq:7-7 reserved"
    ∷ codes "outstanding"
    ∷ []

abbrev row_mixed_7_problems : List SearchProblem
row_mixed_7_problems =
    record { fixed = []; movers = (((record { kind = kinds.Irq; min = 6; max = 6; len = 1; align = 1; shared = false } ∷ []) ∷ (record { kind = kinds.Port; min = 0; max = 31; len = 8; align = 8; shared = false } ∷ []) ∷ []) ∷ ((record { kind = kinds.Irq; min = 7; max = 7; len = 1; align = 1; shared = false } ∷ []) ∷ []) ∷ []) ∷ [] }
    ∷ record { fixed = record { kind = kinds.Irq; lo = 6; hi = 6; shared = false } ∷ record { kind = kinds.Port; lo = 0; hi = 7; shared = false } ∷ []; movers = (((record { kind = kinds.Irq; min = 5; max = 7; len = 1; align = 1; shared = false } ∷ []) ∷ []) ∷ []) ∷ [] }
    ∷ record { fixed = record { kind = kinds.Irq; lo = 7; hi = 7; shared = false } ∷ record { kind = kinds.Irq; lo = 6; hi = 6; shared = false } ∷ record { kind = kinds.Port; lo = 0; hi = 7; shared = false } ∷ []; movers = (((record { kind = kinds.Irq; min = 5; max = 5; len = 1; align = 1; shared = false } ∷ []) ∷ []) ∷ []) ∷ [] }
    ∷ []

pub row_mixed_7 : lines (traced (settings_of row_mixed_7_known) 200 (opening small_rack) row_mixed_7_found row_mixed_7_events) ≡ row_mixed_7_lines
unfolding digits
row_mixed_7 = refl

pub row_mixed_7_asks : (traced (settings_of row_mixed_7_known) 200 (opening small_rack) row_mixed_7_found row_mixed_7_events).problems ≡ row_mixed_7_problems
row_mixed_7_asks = refl

-- mixed 8
abbrev row_mixed_8_known : List Known
row_mixed_8_known = record { id = codes "OWN\\DEV"; choice = record { rank = 16711680; lower = []; service = Some (codes "dev"); upper = [] } } ∷ record { id = codes "OWN\\HARD"; choice = record { rank = 16711680; lower = []; service = Some (codes "hard"); upper = [] } } ∷ record { id = codes "OWN\\FIL"; choice = record { rank = 16711680; lower = codes "low" ∷ []; service = Some (codes "dev"); upper = [] } } ∷ []

abbrev row_mixed_8_found : List Found
row_mixed_8_found = assignment (([]) ∷ []) ∷ assignment ((record { kind = kinds.Irq; lo = 5; hi = 5; shared = true } ∷ []) ∷ []) ∷ assignment ((record { kind = kinds.Irq; lo = 5; hi = 5; shared = true } ∷ []) ∷ []) ∷ assignment ((record { kind = kinds.Irq; lo = 6; hi = 6; shared = false } ∷ []) ∷ []) ∷ assignment (([]) ∷ []) ∷ assignment (([]) ∷ []) ∷ []

abbrev row_mixed_8_events : List Event
row_mixed_8_events =
    Event.Name (codes "dev") DriverKind.Scripted
    ∷ Event.Name (codes "hard") DriverKind.Stubborn
    ∷ Event.Name (codes "low") DriverKind.Scripted
    ∷ Event.Teach (codes "low") (record { what = AskWhat.Irp Minor.Stop; path = Some (codes "OWN\\HARD\\1"); answer = Answer.Ok; uses = Some 2 })
    ∷ Event.Teach (codes "low") (record { what = AskWhat.Irp Minor.Remove; path = Some (codes "OWN\\FIL\\3"); answer = Answer.Ok; uses = Some 1 })
    ∷ Event.Teach (codes "low") (record { what = AskWhat.Irp Minor.Start; path = None; answer = Answer.Fail; uses = Some 1 })
    ∷ Event.Teach (codes "low") (record { what = AskWhat.Irp Minor.CancelRemove; path = Some (codes "OWN\\DEV\\3"); answer = Answer.Fail; uses = Some 1 })
    ∷ Event.Teach (codes "dev") (record { what = AskWhat.Irp Minor.QueryStop; path = None; answer = Answer.Ok; uses = Some 1 })
    ∷ Event.Pull (codes "HTREE\\ROOT\\0")
    ∷ Event.Plug (codes "HTREE\\ROOT\\0") (codes "OWN\\DEV\\5") (codes "OWN\\DEV" ∷ []) ([]) ([])
    ∷ Event.Plug (codes "OWN\\DEV\\5") (codes "OWN\\HARD\\3") (codes "OWN\\HARD" ∷ []) ([]) (((record { kind = kinds.Irq; min = 5; max = 6; len = 1; align = 1; shared = true } ∷ []) ∷ []) ∷ [])
    ∷ Event.Plug (codes "OWN\\DEV\\5") (codes "OWN\\HARD\\5") (codes "OWN\\HARD" ∷ []) ([]) (((record { kind = kinds.Irq; min = 5; max = 6; len = 1; align = 1; shared = true } ∷ []) ∷ []) ∷ [])
    ∷ Event.Enable (codes "OWN\\DEV\\5")
    ∷ Event.Complete (codes "OWN\\HARD\\3") Minor.QueryRemove false
    ∷ Event.Complete (codes "OWN\\HARD\\3") Minor.Start true
    ∷ Event.Plug (codes "HTREE\\ROOT\\0") (codes "OWN\\DEV\\3") (codes "OWN\\DEV" ∷ []) ([]) (((record { kind = kinds.Irq; min = 5; max = 7; len = 1; align = 1; shared = false } ∷ []) ∷ []) ∷ [])
    ∷ Event.Plug (codes "OWN\\HARD\\5") (codes "OWN\\FIL\\2") (codes "OWN\\FIL" ∷ []) ([]) ([])
    ∷ Event.Relate RelKind.Removal (codes "OWN\\DEV\\3") (codes "OWN\\HARD\\5")
    ∷ Event.Plug (codes "OWN\\DEV\\5") (codes "OWN\\HARD\\5") (codes "OWN\\HARD" ∷ []) ([]) (((record { kind = kinds.Irq; min = 5; max = 6; len = 1; align = 1; shared = false } ∷ []) ∷ []) ∷ [])
    ∷ Event.Disable (codes "OWN\\HARD\\3")
    ∷ Event.Complete (codes "OWN\\DEV\\3") Minor.Start false
    ∷ Event.Plug (codes "OWN\\HARD\\5") (codes "OWN\\DEV\\2") (codes "OWN\\DEV" ∷ []) ([]) ([])
    ∷ []

abbrev row_mixed_8_lines : List Text
row_mixed_8_lines =
    codes "event driver dev"
    ∷ codes "event driver hard"
    ∷ codes "event driver low"
    ∷ codes "event teach low"
    ∷ codes "event teach low"
    ∷ codes "event teach low"
    ∷ codes "event teach low"
    ∷ codes "event teach dev"
    ∷ codes "refused pull RootStays"
    ∷ codes "event plug OWN\\DEV\\5"
    ∷ codes "join 1 OWN\\DEV\\5"
    ∷ codes "listed HTREE\\ROOT\\0"
    ∷ codes "install OWN\\DEV\\5 00ff0000 dev"
    ∷ codes "add OWN\\DEV\\5 dev ok"
    ∷ codes "assign OWN\\DEV\\5"
    ∷ codes "START_DEVICE OWN\\DEV\\5 dev ok"
    ∷ codes "state OWN\\DEV\\5 Started"
    ∷ codes "listed OWN\\DEV\\5"
    ∷ codes "event plug OWN\\HARD\\3"
    ∷ codes "join 2 OWN\\HARD\\3"
    ∷ codes "listed OWN\\DEV\\5"
    ∷ codes "install OWN\\HARD\\3 00ff0000 hard"
    ∷ codes "add OWN\\HARD\\3 hard ok"
    ∷ codes "assign OWN\\HARD\\3 irq:5-5:shared"
    ∷ codes "START_DEVICE OWN\\HARD\\3 hard ok"
    ∷ codes "state OWN\\HARD\\3 Started"
    ∷ codes "listed OWN\\HARD\\3"
    ∷ codes "event plug OWN\\HARD\\5"
    ∷ codes "join 3 OWN\\HARD\\5"
    ∷ codes "listed OWN\\DEV\\5"
    ∷ codes "install OWN\\HARD\\5 00ff0000 hard"
    ∷ codes "add OWN\\HARD\\5 hard ok"
    ∷ codes "assign OWN\\HARD\\5 irq:5-5:shared"
    ∷ codes "START_DEVICE OWN\\HARD\\5 hard ok"
    ∷ codes "state OWN\\HARD\\5 Started"
    ∷ codes "listed OWN\\HARD\\5"
    ∷ codes "refused enable NotDisabled"
    ∷ codes "refused complete NoSuchRequest"
    ∷ codes "refused complete NoSuchRequest"
    ∷ codes "event plug OWN\\DEV\\3"
    ∷ codes "join 4 OWN\\DEV\\3"
    ∷ codes "listed HTREE\\ROOT\\0"
    ∷ codes "install OWN\\DEV\\3 00ff0000 dev"
    ∷ codes "add OWN\\DEV\\3 dev ok"
    ∷ codes "assign OWN\\DEV\\3 irq:6-6"
    ∷ codes "START_DEVICE OWN\\DEV\\3 dev ok"
    ∷ codes "state OWN\\DEV\\3 Started"
    ∷ codes "listed OWN\\DEV\\3"
    ∷ codes "event plug OWN\\FIL\\2"
    ∷ codes "join 5 OWN\\FIL\\2"
    ∷ codes "listed OWN\\HARD\\5"
    ∷ codes "install OWN\\FIL\\2 00ff0000 dev"
    ∷ codes "add OWN\\FIL\\2 low ok"
    ∷ codes "add OWN\\FIL\\2 dev ok"
    ∷ codes "assign OWN\\FIL\\2"
    ∷ codes "START_DEVICE OWN\\FIL\\2 low fail"
    ∷ codes "state OWN\\FIL\\2 NotStarted"
    ∷ codes "problem OWN\\FIL\\2 10"
    ∷ codes "REMOVE_DEVICE OWN\\FIL\\2 dev ok"
    ∷ codes "REMOVE_DEVICE OWN\\FIL\\2 low ok"
    ∷ codes "state OWN\\FIL\\2 NoStack"
    ∷ codes "event relate OWN\\DEV\\3 OWN\\HARD\\5"
    ∷ codes "refused plug SameId"
    ∷ codes "event disable OWN\\HARD\\3"
    ∷ codes "begin disable OWN\\HARD\\3"
    ∷ codes "QUERY_REMOVE_DEVICE OWN\\HARD\\3 hard fail"
    ∷ codes "state OWN\\HARD\\3 Started"
    ∷ codes "CANCEL_REMOVE_DEVICE OWN\\HARD\\3 hard ok"
    ∷ codes "state OWN\\HARD\\3 Started"
    ∷ codes "end disable OWN\\HARD\\3 veto OWN\\HARD\\3"
    ∷ codes "refused complete NoSuchRequest"
    ∷ codes "event plug OWN\\DEV\\2"
    ∷ codes "join 6 OWN\\DEV\\2"
    ∷ codes "listed OWN\\HARD\\5"
    ∷ codes "install OWN\\DEV\\2 00ff0000 dev"
    ∷ codes "add OWN\\DEV\\2 dev ok"
    ∷ codes "assign OWN\\DEV\\2"
    ∷ codes "START_DEVICE OWN\\DEV\\2 dev ok"
    ∷ codes "state OWN\\DEV\\2 Started"
    ∷ codes "listed OWN\\DEV\\2"
    ∷ codes "tree"
    ∷ codes "0 HTREE\\ROOT\\0 Started"
    ∷ codes " 1 OWN\\DEV\\5 Started"
    ∷ codes "  2 OWN\\HARD\\3 Started"
    ∷ codes "  3 OWN\\HARD\\5 Started"
    ∷ codes "   5 OWN\\FIL\\2 NoStack problem 10"
    ∷ codes "   6 OWN\\DEV\\2 Started"
    ∷ codes " 4 OWN\\DEV\\3 Started"
    ∷ codes "map"
    ∷ codes "irq:5-5:shared OWN\\HARD\\3"
    ∷ codes "irq:5-5:shared OWN\\HARD\\5"
    ∷ codes "irq:6-6 OWN\\DEV\\3"
    ∷ codes "outstanding"
    ∷ []

abbrev row_mixed_8_problems : List SearchProblem
row_mixed_8_problems =
    record { fixed = []; movers = ([]) ∷ [] }
    ∷ record { fixed = []; movers = (((record { kind = kinds.Irq; min = 5; max = 6; len = 1; align = 1; shared = true } ∷ []) ∷ []) ∷ []) ∷ [] }
    ∷ record { fixed = record { kind = kinds.Irq; lo = 5; hi = 5; shared = true } ∷ []; movers = (((record { kind = kinds.Irq; min = 5; max = 6; len = 1; align = 1; shared = true } ∷ []) ∷ []) ∷ []) ∷ [] }
    ∷ record { fixed = record { kind = kinds.Irq; lo = 5; hi = 5; shared = true } ∷ record { kind = kinds.Irq; lo = 5; hi = 5; shared = true } ∷ []; movers = (((record { kind = kinds.Irq; min = 5; max = 7; len = 1; align = 1; shared = false } ∷ []) ∷ []) ∷ []) ∷ [] }
    ∷ record { fixed = record { kind = kinds.Irq; lo = 5; hi = 5; shared = true } ∷ record { kind = kinds.Irq; lo = 5; hi = 5; shared = true } ∷ record { kind = kinds.Irq; lo = 6; hi = 6; shared = false } ∷ []; movers = ([]) ∷ [] }
    ∷ record { fixed = record { kind = kinds.Irq; lo = 5; hi = 5; shared = true } ∷ record { kind = kinds.Irq; lo = 5; hi = 5; shared = true } ∷ record { kind = kinds.Irq; lo = 6; hi = 6; shared = false } ∷ []; movers = ([]) ∷ [] }
    ∷ []

pub row_mixed_8 : lines (traced (settings_of row_mixed_8_known) 200 (opening small_rack) row_mixed_8_found row_mixed_8_events) ≡ row_mixed_8_lines
unfolding digits
row_mixed_8 = refl

pub row_mixed_8_asks : (traced (settings_of row_mixed_8_known) 200 (opening small_rack) row_mixed_8_found row_mixed_8_events).problems ≡ row_mixed_8_problems
row_mixed_8_asks = refl
