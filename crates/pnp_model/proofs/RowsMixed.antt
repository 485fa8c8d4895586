-- Scripts made at random: whole outputs, as the definition computes them.
use Rattle.std.proofs.Common.{List, [], ◌∷◌, Some, None, ◌≡◌, refl, true, false}
use Rattle.std.specs.Prelude.{codes}
use Rattle.std.specs.Fmt.{digits}
use Rattle.resource_reqs.specs.Spelling.Answer.{assignment, no_fit}
use Rattle.pnp_model.specs.Records.{Found, SearchProblem}
use Rattle.pnp_labels.specs.Texts.{Text}
use Rattle.pnp_labels.specs.declared.event.Event.{Event}
use Rattle.pnp_labels.specs.declared.words.DriverKind.{DriverKind}
use Rattle.pnp_labels.specs.declared.words.Minor.{Minor}
use Rattle.pnp_labels.specs.declared.words.AskWhat.{AskWhat}
use Rattle.pnp_labels.specs.declared.words.Answer.{Answer}
use Rattle.pnp_model.specs.Runs.{traced, opening}
use Rattle.pnp_model.specs.Endings.{lines}
use Rattle.pnp_model.proofs.RowBase.{settings_of, small_rack, Known}
use Rattle.resource_reqs.specs.declared.kind.Kind.TheVariants as kinds

-- mixed 1
abbrev row_mixed_1_known : List Known
row_mixed_1_known = record { id = codes "OWN\\HARD"; choice = record { rank = 16711680; lower = []; service = Some (codes "hard"); upper = [] } } ∷ []

abbrev row_mixed_1_found : List Found
row_mixed_1_found = assignment ((record { kind = kinds.Irq; lo = 6; hi = 6; shared = false } ∷ record { kind = kinds.Port; lo = 0; hi = 7; shared = false } ∷ []) ∷ []) ∷ assignment ((record { kind = kinds.Irq; lo = 5; hi = 5; shared = true } ∷ []) ∷ []) ∷ []

abbrev row_mixed_1_events : List Event
row_mixed_1_events =
    Event.Name (codes "dev") DriverKind.Scripted
    ∷ Event.Name (codes "hard") DriverKind.Stubborn
    ∷ Event.Name (codes "low") DriverKind.Scripted
    ∷ Event.Teach (codes "low") (record { what = AskWhat.Irp Minor.QueryStop; path = None; answer = Answer.Ok; uses = Some 1 })
    ∷ Event.Teach (codes "dev") (record { what = AskWhat.Irp Minor.Remove; path = Some (codes "OWN\\DEV\\4"); answer = Answer.Ok; uses = Some 1 })
    ∷ Event.Teach (codes "dev") (record { what = AskWhat.Irp Minor.QueryStop; path = None; answer = Answer.Ok; uses = Some 2 })
    ∷ Event.Teach (codes "low") (record { what = AskWhat.Irp Minor.Remove; path = Some (codes "OWN\\FIL\\2"); answer = Answer.Ok; uses = Some 1 })
    ∷ Event.Plug (codes "HTREE\\ROOT\\0") (codes "OWN\\HARD\\5") (codes "OWN\\HARD" ∷ []) ([]) (((record { kind = kinds.Irq; min = 6; max = 6; len = 1; align = 1; shared = false } ∷ []) ∷ (record { kind = kinds.Port; min = 0; max = 31; len = 8; align = 8; shared = false } ∷ []) ∷ []) ∷ ((record { kind = kinds.Irq; min = 7; max = 7; len = 1; align = 1; shared = false } ∷ []) ∷ []) ∷ [])
    ∷ Event.Disable (codes "OWN\\HARD\\5")
    ∷ Event.Disable (codes "OWN\\HARD\\5")
    ∷ Event.Enable (codes "OWN\\HARD\\5")
    ∷ Event.Pull (codes "OWN\\HARD\\5")
    ∷ Event.Complete (codes "OWN\\HARD\\5") Minor.Remove true
    ∷ Event.Eject (codes "OWN\\HARD\\5")
    ∷ Event.Plug (codes "OWN\\HARD\\5") (codes "OWN\\HARD\\3") (codes "OWN\\HARD" ∷ []) ([]) (((record { kind = kinds.Irq; min = 5; max = 6; len = 1; align = 1; shared = true } ∷ []) ∷ []) ∷ [])
    ∷ Event.Complete (codes "OWN\\HARD\\5") Minor.Start true
    ∷ Event.Plug (codes "OWN\\HARD\\3") (codes "OWN\\HARD\\4") (codes "OWN\\HARD" ∷ []) ([]) ([])
    ∷ Event.Disable (codes "OWN\\HARD\\3")
    ∷ Event.Plug (codes "OWN\\HARD\\4") (codes "OWN\\HARD\\5") (codes "OWN\\HARD" ∷ []) ([]) (((record { kind = kinds.Irq; min = 6; max = 6; len = 1; align = 1; shared = false } ∷ []) ∷ (record { kind = kinds.Port; min = 0; max = 31; len = 8; align = 8; shared = false } ∷ []) ∷ []) ∷ ((record { kind = kinds.Irq; min = 7; max = 7; len = 1; align = 1; shared = false } ∷ []) ∷ []) ∷ [])
    ∷ Event.Plug (codes "HTREE\\ROOT\\0") (codes "OWN\\HARD\\4") (codes "OWN\\HARD" ∷ []) ([]) (((record { kind = kinds.Irq; min = 5; max = 6; len = 1; align = 1; shared = true } ∷ []) ∷ []) ∷ [])
    ∷ Event.Eject (codes "OWN\\HARD\\4")
    ∷ Event.Reserve (record { kind = kinds.Irq; lo = 6; hi = 6; shared = false })
    ∷ Event.Complete (codes "OWN\\HARD\\4") Minor.Start false
    ∷ []

abbrev row_mixed_1_lines : List Text
row_mixed_1_lines =
    codes "event driver dev"
    ∷ codes "event driver hard"
    ∷ codes "event driver low"
    ∷ codes "event teach low"
    ∷ codes "event teach dev"
    ∷ codes "event teach dev"
    ∷ codes "event teach low"
    ∷ codes "event plug OWN\\HARD\\5"
    ∷ codes "join 1 OWN\\HARD\\5"
    ∷ codes "listed HTREE\\ROOT\\0"
    ∷ codes "install OWN\\HARD\\5 00ff0000 hard"
    ∷ codes "add OWN\\HARD\\5 hard ok"
    ∷ codes "assign OWN\\HARD\\5 irq:6-6 port:0x0-0x7"
    ∷ codes "START_DEVICE OWN\\HARD\\5 hard ok"
    ∷ codes "state OWN\\HARD\\5 Started"
    ∷ codes "listed OWN\\HARD\\5"
    ∷ codes "event disable OWN\\HARD\\5"
    ∷ codes "begin disable OWN\\HARD\\5"
    ∷ codes "QUERY_REMOVE_DEVICE OWN\\HARD\\5 hard fail"
    ∷ codes "state OWN\\HARD\\5 Started"
    ∷ codes "CANCEL_REMOVE_DEVICE OWN\\HARD\\5 hard ok"
    ∷ codes "state OWN\\HARD\\5 Started"
    ∷ codes "end disable OWN\\HARD\\5 veto OWN\\HARD\\5"
    ∷ codes "event disable OWN\\HARD\\5"
    ∷ codes "begin disable OWN\\HARD\\5"
    ∷ codes "QUERY_REMOVE_DEVICE OWN\\HARD\\5 hard fail"
    ∷ codes "state OWN\\HARD\\5 Started"
    ∷ codes "CANCEL_REMOVE_DEVICE OWN\\HARD\\5 hard ok"
    ∷ codes "state OWN\\HARD\\5 Started"
    ∷ codes "end disable OWN\\HARD\\5 veto OWN\\HARD\\5"
    ∷ codes "refused enable NotDisabled"
    ∷ codes "event pull OWN\\HARD\\5"
    ∷ codes "gone OWN\\HARD\\5"
    ∷ codes "listed HTREE\\ROOT\\0"
    ∷ codes "begin surprise OWN\\HARD\\5"
    ∷ codes "SURPRISE_REMOVAL OWN\\HARD\\5 hard ok"
    ∷ codes "state OWN\\HARD\\5 SurpriseRemoved"
    ∷ codes "REMOVE_DEVICE OWN\\HARD\\5 hard ok"
    ∷ codes "state OWN\\HARD\\5 NoStack"
    ∷ codes "leave OWN\\HARD\\5"
    ∷ codes "end surprise OWN\\HARD\\5 done"
    ∷ codes "refused complete NoSuchRequest"
    ∷ codes "refused eject NoDevice"
    ∷ codes "refused plug NoParent"
    ∷ codes "refused complete NoSuchRequest"
    ∷ codes "refused plug NoParent"
    ∷ codes "refused disable NoDevice"
    ∷ codes "refused plug NoParent"
    ∷ codes "event plug OWN\\HARD\\4"
    ∷ codes "join 2 OWN\\HARD\\4"
    ∷ codes "listed HTREE\\ROOT\\0"
    ∷ codes "install OWN\\HARD\\4 00ff0000 hard"
    ∷ codes "add OWN\\HARD\\4 hard ok"
    ∷ codes "assign OWN\\HARD\\4 irq:5-5:shared"
    ∷ codes "START_DEVICE OWN\\HARD\\4 hard ok"
    ∷ codes "state OWN\\HARD\\4 Started"
    ∷ codes "listed OWN\\HARD\\4"
    ∷ codes "event eject OWN\\HARD\\4"
    ∷ codes "begin eject OWN\\HARD\\4"
    ∷ codes "QUERY_REMOVE_DEVICE OWN\\HARD\\4 hard fail"
    ∷ codes "state OWN\\HARD\\4 Started"
    ∷ codes "CANCEL_REMOVE_DEVICE OWN\\HARD\\4 hard ok"
    ∷ codes "state OWN\\HARD\\4 Started"
    ∷ codes "end eject OWN\\HARD\\4 veto OWN\\HARD\\4"
    ∷ codes "event reserve irq:6-6"
    ∷ codes "refused complete NoSuchRequest"
    ∷ codes "tree"
    ∷ codes "0 HTREE\\ROOT\\0 Started"
    ∷ codes " 2 OWN\\HARD\\4 Started"
    ∷ codes "map"
    ∷ codes "irq:5-5:shared OWN\\HARD\\4"
    ∷ codes "irq:6-6 reserved"
    ∷ codes "outstanding"
    ∷ []

abbrev row_mixed_1_problems : List SearchProblem
row_mixed_1_problems =
    record { fixed = []; movers = (((record { kind = kinds.Irq; min = 6; max = 6; len = 1; align = 1; shared = false } ∷ []) ∷ (record { kind = kinds.Port; min = 0; max = 31; len = 8; align = 8; shared = false } ∷ []) ∷ []) ∷ ((record { kind = kinds.Irq; min = 7; max = 7; len = 1; align = 1; shared = false } ∷ []) ∷ []) ∷ []) ∷ [] }
    ∷ record { fixed = []; movers = (((record { kind = kinds.Irq; min = 5; max = 6; len = 1; align = 1; shared = true } ∷ []) ∷ []) ∷ []) ∷ [] }
    ∷ []

pub row_mixed_1 : lines (traced (settings_of row_mixed_1_known) 200 (opening small_rack) row_mixed_1_found row_mixed_1_events) ≡ row_mixed_1_lines
unfolding digits
row_mixed_1 = refl

pub row_mixed_1_asks : (traced (settings_of row_mixed_1_known) 200 (opening small_rack) row_mixed_1_found row_mixed_1_events).problems ≡ row_mixed_1_problems
row_mixed_1_asks = refl

-- mixed 2
abbrev row_mixed_2_known : List Known
row_mixed_2_known = record { id = codes "OWN\\FIL"; choice = record { rank = 16711680; lower = codes "low" ∷ []; service = Some (codes "dev"); upper = [] } } ∷ record { id = codes "OWN\\HARD"; choice = record { rank = 16711680; lower = []; service = Some (codes "hard"); upper = [] } } ∷ record { id = codes "OWN\\DEV"; choice = record { rank = 16711680; lower = []; service = Some (codes "dev"); upper = [] } } ∷ []

abbrev row_mixed_2_found : List Found
row_mixed_2_found = assignment (([]) ∷ []) ∷ assignment (([]) ∷ []) ∷ assignment (([]) ∷ []) ∷ assignment (([]) ∷ []) ∷ []

abbrev row_mixed_2_events : List Event
row_mixed_2_events =
    Event.Name (codes "dev") DriverKind.Scripted
    ∷ Event.Name (codes "hard") DriverKind.Stubborn
    ∷ Event.Name (codes "low") DriverKind.Scripted
    ∷ Event.Teach (codes "low") (record { what = AskWhat.Irp Minor.Remove; path = Some (codes "OWN\\DEV\\2"); answer = Answer.Fail; uses = Some 2 })
    ∷ Event.Teach (codes "low") (record { what = AskWhat.Irp Minor.CancelStop; path = None; answer = Answer.Pend; uses = Some 2 })
    ∷ Event.Complete (codes "HTREE\\ROOT\\0") Minor.QueryRemove true
    ∷ Event.Plug (codes "HTREE\\ROOT\\0") (codes "OWN\\FIL\\2") (codes "OWN\\FIL" ∷ []) ([]) ([])
    ∷ Event.Plug (codes "OWN\\FIL\\2") (codes "OWN\\HARD\\1") (codes "OWN\\HARD" ∷ []) ([]) ([])
    ∷ Event.Enable (codes "OWN\\HARD\\1")
    ∷ Event.Eject (codes "OWN\\FIL\\2")
    ∷ Event.Complete (codes "OWN\\HARD\\1") Minor.Start false
    ∷ Event.Pull (codes "OWN\\HARD\\1")
    ∷ Event.Plug (codes "HTREE\\ROOT\\0") (codes "OWN\\DEV\\4") (codes "OWN\\DEV" ∷ []) ([]) ([])
    ∷ Event.Plug (codes "HTREE\\ROOT\\0") (codes "OWN\\DEV\\5") (codes "OWN\\DEV" ∷ []) ([]) ([])
    ∷ Event.Enable (codes "OWN\\FIL\\2")
    ∷ Event.Enable (codes "OWN\\HARD\\1")
    ∷ Event.Complete (codes "OWN\\DEV\\4") Minor.Start true
    ∷ Event.Pull (codes "OWN\\DEV\\5")
    ∷ Event.Plug (codes "OWN\\HARD\\1") (codes "OWN\\DEV\\1") (codes "OWN\\DEV" ∷ []) ([]) (((record { kind = kinds.Irq; min = 5; max = 6; len = 1; align = 1; shared = true } ∷ []) ∷ []) ∷ [])
    ∷ []

abbrev row_mixed_2_lines : List Text
row_mixed_2_lines =
    codes "event driver dev"
    ∷ codes "event driver hard"
    ∷ codes "event driver low"
    ∷ codes "event teach low"
    ∷ codes "event teach low"
    ∷ codes "refused complete NoSuchRequest"
    ∷ codes "event plug OWN\\FIL\\2"
    ∷ codes "join 1 OWN\\FIL\\2"
    ∷ codes "listed HTREE\\ROOT\\0"
    ∷ codes "install OWN\\FIL\\2 00ff0000 dev"
    ∷ codes "add OWN\\FIL\\2 low ok"
    ∷ codes "add OWN\\FIL\\2 dev ok"
    ∷ codes "assign OWN\\FIL\\2"
    ∷ codes "START_DEVICE OWN\\FIL\\2 low ok"
    ∷ codes "START_DEVICE OWN\\FIL\\2 dev ok"
    ∷ codes "state OWN\\FIL\\2 Started"
    ∷ codes "listed OWN\\FIL\\2"
    ∷ codes "event plug OWN\\HARD\\1"
    ∷ codes "join 2 OWN\\HARD\\1"
    ∷ codes "listed OWN\\FIL\\2"
    ∷ codes "install OWN\\HARD\\1 00ff0000 hard"
    ∷ codes "add OWN\\HARD\\1 hard ok"
    ∷ codes "assign OWN\\HARD\\1"
    ∷ codes "START_DEVICE OWN\\HARD\\1 hard ok"
    ∷ codes "state OWN\\HARD\\1 Started"
    ∷ codes "listed OWN\\HARD\\1"
    ∷ codes "refused enable NotDisabled"
    ∷ codes "event eject OWN\\FIL\\2"
    ∷ codes "begin eject OWN\\FIL\\2"
    ∷ codes "QUERY_REMOVE_DEVICE OWN\\HARD\\1 hard fail"
    ∷ codes "state OWN\\HARD\\1 Started"
    ∷ codes "CANCEL_REMOVE_DEVICE OWN\\HARD\\1 hard ok"
    ∷ codes "state OWN\\HARD\\1 Started"
    ∷ codes "end eject OWN\\FIL\\2 veto OWN\\HARD\\1"
    ∷ codes "refused complete NoSuchRequest"
    ∷ codes "event pull OWN\\HARD\\1"
    ∷ codes "gone OWN\\HARD\\1"
    ∷ codes "listed OWN\\FIL\\2"
    ∷ codes "begin surprise OWN\\HARD\\1"
    ∷ codes "SURPRISE_REMOVAL OWN\\HARD\\1 hard ok"
    ∷ codes "state OWN\\HARD\\1 SurpriseRemoved"
    ∷ codes "REMOVE_DEVICE OWN\\HARD\\1 hard ok"
    ∷ codes "state OWN\\HARD\\1 NoStack"
    ∷ codes "leave OWN\\HARD\\1"
    ∷ codes "end surprise OWN\\HARD\\1 done"
    ∷ codes "event plug OWN\\DEV\\4"
    ∷ codes "join 3 OWN\\DEV\\4"
    ∷ codes "listed HTREE\\ROOT\\0"
    ∷ codes "install OWN\\DEV\\4 00ff0000 dev"
    ∷ codes "add OWN\\DEV\\4 dev ok"
    ∷ codes "assign OWN\\DEV\\4"
    ∷ codes "START_DEVICE OWN\\DEV\\4 dev ok"
    ∷ codes "state OWN\\DEV\\4 Started"
    ∷ codes "listed OWN\\DEV\\4"
    ∷ codes "event plug OWN\\DEV\\5"
    ∷ codes "join 4 OWN\\DEV\\5"
    ∷ codes "listed HTREE\\ROOT\\0"
    ∷ codes "install OWN\\DEV\\5 00ff0000 dev"
    ∷ codes "add OWN\\DEV\\5 dev ok"
    ∷ codes "assign OWN\\DEV\\5"
    ∷ codes "START_DEVICE OWN\\DEV\\5 dev ok"
    ∷ codes "state OWN\\DEV\\5 Started"
    ∷ codes "listed OWN\\DEV\\5"
    ∷ codes "refused enable NotDisabled"
    ∷ codes "refused enable NotDisabled"
    ∷ codes "refused complete NoSuchRequest"
    ∷ codes "event pull OWN\\DEV\\5"
    ∷ codes "gone OWN\\DEV\\5"
    ∷ codes "listed HTREE\\ROOT\\0"
    ∷ codes "begin surprise OWN\\DEV\\5"
    ∷ codes "SURPRISE_REMOVAL OWN\\DEV\\5 dev ok"
    ∷ codes "state OWN\\DEV\\5 SurpriseRemoved"
    ∷ codes "REMOVE_DEVICE OWN\\DEV\\5 dev ok"
    ∷ codes "state OWN\\DEV\\5 NoStack"
    ∷ codes "leave OWN\\DEV\\5"
    ∷ codes "end surprise OWN\\DEV\\5 done"
    ∷ codes "refused plug NoParent"
    ∷ codes "tree"
    ∷ codes "0 HTREE\\ROOT\\0 Started"
    ∷ codes " 1 OWN\\FIL\\2 Started"
    ∷ codes " 3 OWN\\DEV\\4 Started"
    ∷ codes "map"
    ∷ codes "outstanding"
    ∷ []

abbrev row_mixed_2_problems : List SearchProblem
row_mixed_2_problems =
    record { fixed = []; movers = ([]) ∷ [] }
    ∷ record { fixed = []; movers = ([]) ∷ [] }
    ∷ record { fixed = []; movers = ([]) ∷ [] }
    ∷ record { fixed = []; movers = ([]) ∷ [] }
    ∷ []

pub row_mixed_2 : lines (traced (settings_of row_mixed_2_known) 200 (opening small_rack) row_mixed_2_found row_mixed_2_events) ≡ row_mixed_2_lines
unfolding digits
row_mixed_2 = refl

pub row_mixed_2_asks : (traced (settings_of row_mixed_2_known) 200 (opening small_rack) row_mixed_2_found row_mixed_2_events).problems ≡ row_mixed_2_problems
row_mixed_2_asks = refl

-- mixed 3
abbrev row_mixed_3_known : List Known
row_mixed_3_known = record { id = codes "OWN\\DEV"; choice = record { rank = 16711680; lower = []; service = Some (codes "dev"); upper = [] } } ∷ record { id = codes "OWN\\HARD"; choice = record { rank = 16711680; lower = []; service = Some (codes "hard"); upper = [] } } ∷ record { id = codes "OWN\\FIL"; choice = record { rank = 16711680; lower = codes "low" ∷ []; service = Some (codes "dev"); upper = [] } } ∷ []

abbrev row_mixed_3_found : List Found
row_mixed_3_found = assignment ((record { kind = kinds.Irq; lo = 5; hi = 5; shared = false } ∷ []) ∷ []) ∷ assignment ((record { kind = kinds.Irq; lo = 5; hi = 5; shared = false } ∷ []) ∷ []) ∷ assignment (([]) ∷ []) ∷ assignment (([]) ∷ []) ∷ assignment ((record { kind = kinds.Irq; lo = 6; hi = 6; shared = false } ∷ []) ∷ []) ∷ no_fit ∷ no_fit ∷ []

abbrev row_mixed_3_events : List Event
row_mixed_3_events =
    Event.Name (codes "dev") DriverKind.Scripted
    ∷ Event.Name (codes "hard") DriverKind.Stubborn
    ∷ Event.Name (codes "low") DriverKind.Scripted
    ∷ Event.Teach (codes "dev") (record { what = AskWhat.Irp Minor.QueryRemove; path = Some (codes "OWN\\DEV\\5"); answer = Answer.Ok; uses = Some 1 })
    ∷ Event.Teach (codes "dev") (record { what = AskWhat.Irp Minor.CancelRemove; path = Some (codes "OWN\\FIL\\3"); answer = Answer.Ok; uses = Some 2 })
    ∷ Event.Teach (codes "dev") (record { what = AskWhat.Irp Minor.SurpriseRemoval; path = None; answer = Answer.Fail; uses = Some 2 })
    ∷ Event.Teach (codes "dev") (record { what = AskWhat.Irp Minor.Remove; path = Some (codes "OWN\\FIL\\4"); answer = Answer.Fail; uses = Some 1 })
    ∷ Event.Teach (codes "low") (record { what = AskWhat.Irp Minor.CancelStop; path = Some (codes "OWN\\DEV\\5"); answer = Answer.Fail; uses = Some 2 })
    ∷ Event.Plug (codes "HTREE\\ROOT\\0") (codes "OWN\\DEV\\2") (codes "OWN\\DEV" ∷ []) ([]) (((record { kind = kinds.Irq; min = 5; max = 5; len = 1; align = 1; shared = false } ∷ []) ∷ []) ∷ [])
    ∷ Event.Pull (codes "OWN\\DEV\\2")
    ∷ Event.Enable (codes "OWN\\DEV\\2")
    ∷ Event.Plug (codes "HTREE\\ROOT\\0") (codes "OWN\\HARD\\2") (codes "OWN\\HARD" ∷ []) ([]) (((record { kind = kinds.Irq; min = 5; max = 5; len = 1; align = 1; shared = false } ∷ []) ∷ []) ∷ [])
    ∷ Event.Enable (codes "OWN\\DEV\\2")
    ∷ Event.Complete (codes "OWN\\HARD\\2") Minor.Start false
    ∷ Event.Plug (codes "HTREE\\ROOT\\0") (codes "OWN\\DEV\\2") (codes "OWN\\DEV" ∷ []) ([]) ([])
    ∷ Event.Complete (codes "OWN\\DEV\\2") Minor.QueryRemove false
    ∷ Event.Plug (codes "HTREE\\ROOT\\0") (codes "OWN\\FIL\\5") (codes "OWN\\FIL" ∷ []) ([]) ([])
    ∷ Event.Complete (codes "OWN\\DEV\\2") Minor.QueryRemove false
    ∷ Event.Plug (codes "OWN\\DEV\\2") (codes "OWN\\DEV\\1") (codes "OWN\\DEV" ∷ []) ([]) (((record { kind = kinds.Irq; min = 5; max = 6; len = 1; align = 1; shared = false } ∷ []) ∷ []) ∷ [])
    ∷ Event.Plug (codes "OWN\\FIL\\5") (codes "OWN\\FIL\\3") (codes "OWN\\FIL" ∷ []) ([]) (((record { kind = kinds.Irq; min = 5; max = 6; len = 1; align = 1; shared = false } ∷ []) ∷ []) ∷ [])
    ∷ Event.Plug (codes "OWN\\DEV\\1") (codes "OWN\\FIL\\3") (codes "OWN\\FIL" ∷ []) ([]) (((record { kind = kinds.Irq; min = 5; max = 5; len = 1; align = 1; shared = false } ∷ []) ∷ []) ∷ [])
    ∷ []

abbrev row_mixed_3_lines : List Text
row_mixed_3_lines =
    codes "event driver dev"
    ∷ codes "event driver hard"
    ∷ codes "event driver low"
    ∷ codes "event teach dev"
    ∷ codes "event teach dev"
    ∷ codes "event teach dev"
    ∷ codes "event teach dev"
    ∷ codes "event teach low"
    ∷ codes "event plug OWN\\DEV\\2"
    ∷ codes "join 1 OWN\\DEV\\2"
    ∷ codes "listed HTREE\\ROOT\\0"
    ∷ codes "install OWN\\DEV\\2 00ff0000 dev"
    ∷ codes "add OWN\\DEV\\2 dev ok"
    ∷ codes "assign OWN\\DEV\\2 irq:5-5"
    ∷ codes "START_DEVICE OWN\\DEV\\2 dev ok"
    ∷ codes "state OWN\\DEV\\2 Started"
    ∷ codes "listed OWN\\DEV\\2"
    ∷ codes "event pull OWN\\DEV\\2"
    ∷ codes "gone OWN\\DEV\\2"
    ∷ codes "listed HTREE\\ROOT\\0"
    ∷ codes "begin surprise OWN\\DEV\\2"
    ∷ codes "SURPRISE_REMOVAL OWN\\DEV\\2 dev violation"
    ∷ codes "state OWN\\DEV\\2 SurpriseRemoved"
    ∷ codes "REMOVE_DEVICE OWN\\DEV\\2 dev ok"
    ∷ codes "state OWN\\DEV\\2 NoStack"
    ∷ codes "leave OWN\\DEV\\2"
    ∷ codes "end surprise OWN\\DEV\\2 done"
    ∷ codes "refused enable NotDisabled"
    ∷ codes "event plug OWN\\HARD\\2"
    ∷ codes "join 2 OWN\\HARD\\2"
    ∷ codes "listed HTREE\\ROOT\\0"
    ∷ codes "install OWN\\HARD\\2 00ff0000 hard"
    ∷ codes "add OWN\\HARD\\2 hard ok"
    ∷ codes "assign OWN\\HARD\\2 irq:5-5"
    ∷ codes "START_DEVICE OWN\\HARD\\2 hard ok"
    ∷ codes "state OWN\\HARD\\2 Started"
    ∷ codes "listed OWN\\HARD\\2"
    ∷ codes "refused enable NotDisabled"
    ∷ codes "refused complete NoSuchRequest"
    ∷ codes "event plug OWN\\DEV\\2"
    ∷ codes "join 3 OWN\\DEV\\2"
    ∷ codes "listed HTREE\\ROOT\\0"
    ∷ codes "install OWN\\DEV\\2 00ff0000 dev"
    ∷ codes "add OWN\\DEV\\2 dev ok"
    ∷ codes "assign OWN\\DEV\\2"
    ∷ codes "START_DEVICE OWN\\DEV\\2 dev ok"
    ∷ codes "state OWN\\DEV\\2 Started"
    ∷ codes "listed OWN\\DEV\\2"
    ∷ codes "refused complete NoSuchRequest"
    ∷ codes "event plug OWN\\FIL\\5"
    ∷ codes "join 4 OWN\\FIL\\5"
    ∷ codes "listed HTREE\\ROOT\\0"
    ∷ codes "install OWN\\FIL\\5 00ff0000 dev"
    ∷ codes "add OWN\\FIL\\5 low ok"
    ∷ codes "add OWN\\FIL\\5 dev ok"
    ∷ codes "assign OWN\\FIL\\5"
    ∷ codes "START_DEVICE OWN\\FIL\\5 low ok"
    ∷ codes "START_DEVICE OWN\\FIL\\5 dev ok"
    ∷ codes "state OWN\\FIL\\5 Started"
    ∷ codes "listed OWN\\FIL\\5"
    ∷ codes "refused complete NoSuchRequest"
    ∷ codes "event plug OWN\\DEV\\1"
    ∷ codes "join 5 OWN\\DEV\\1"
    ∷ codes "listed OWN\\DEV\\2"
    ∷ codes "install OWN\\DEV\\1 00ff0000 dev"
    ∷ codes "add OWN\\DEV\\1 dev ok"
    ∷ codes "assign OWN\\DEV\\1 irq:6-6"
    ∷ codes "START_DEVICE OWN\\DEV\\1 dev ok"
    ∷ codes "state OWN\\DEV\\1 Started"
    ∷ codes "listed OWN\\DEV\\1"
    ∷ codes "event plug OWN\\FIL\\3"
    ∷ codes "join 6 OWN\\FIL\\3"
    ∷ codes "listed OWN\\FIL\\5"
    ∷ codes "install OWN\\FIL\\3 00ff0000 dev"
    ∷ codes "add OWN\\FIL\\3 low ok"
    ∷ codes "add OWN\\FIL\\3 dev ok"
    ∷ codes "nofit OWN\\FIL\\3"
    ∷ codes "begin rebalance OWN\\FIL\\3"
    ∷ codes "QUERY_STOP_DEVICE OWN\\DEV\\1 dev ok"
    ∷ codes "state OWN\\DEV\\1 StopPending"
    ∷ codes "QUERY_STOP_DEVICE OWN\\FIL\\5 dev ok"
    ∷ codes "QUERY_STOP_DEVICE OWN\\FIL\\5 low ok"
    ∷ codes "state OWN\\FIL\\5 StopPending"
    ∷ codes "QUERY_STOP_DEVICE OWN\\DEV\\2 dev ok"
    ∷ codes "state OWN\\DEV\\2 StopPending"
    ∷ codes "QUERY_STOP_DEVICE OWN\\HARD\\2 hard fail"
    ∷ codes "state OWN\\HARD\\2 Started"
    ∷ codes "CANCEL_STOP_DEVICE OWN\\HARD\\2 hard ok"
    ∷ codes "state OWN\\HARD\\2 Started"
    ∷ codes "nofit OWN\\FIL\\3"
    ∷ codes "CANCEL_STOP_DEVICE OWN\\DEV\\2 dev ok"
    ∷ codes "state OWN\\DEV\\2 Started"
    ∷ codes "CANCEL_STOP_DEVICE OWN\\FIL\\5 low ok"
    ∷ codes "CANCEL_STOP_DEVICE OWN\\FIL\\5 dev ok"
    ∷ codes "state OWN\\FIL\\5 Started"
    ∷ codes "CANCEL_STOP_DEVICE OWN\\DEV\\1 dev ok"
    ∷ codes "state OWN\\DEV\\1 Started"
    ∷ codes "problem OWN\\FIL\\3 12"
    ∷ codes "end rebalance OWN\\FIL\\3 nofit"
    ∷ codes "REMOVE_DEVICE OWN\\FIL\\3 dev ok"
    ∷ codes "REMOVE_DEVICE OWN\\FIL\\3 low ok"
    ∷ codes "state OWN\\FIL\\3 NoStack"
    ∷ codes "refused plug SameId"
    ∷ codes "tree"
    ∷ codes "0 HTREE\\ROOT\\0 Started"
    ∷ codes " 2 OWN\\HARD\\2 Started"
    ∷ codes " 3 OWN\\DEV\\2 Started"
    ∷ codes "  5 OWN\\DEV\\1 Started"
    ∷ codes " 4 OWN\\FIL\\5 Started"
    ∷ codes "  6 OWN\\FIL\\3 NoStack problem 12"
    ∷ codes "map"
    ∷ codes "irq:5-5 OWN\\HARD\\2"
    ∷ codes "irq:6-6 OWN\\DEV\\1"
    ∷ codes "outstanding"
    ∷ []

abbrev row_mixed_3_problems : List SearchProblem
row_mixed_3_problems =
    record { fixed = []; movers = (((record { kind = kinds.Irq; min = 5; max = 5; len = 1; align = 1; shared = false } ∷ []) ∷ []) ∷ []) ∷ [] }
    ∷ record { fixed = []; movers = (((record { kind = kinds.Irq; min = 5; max = 5; len = 1; align = 1; shared = false } ∷ []) ∷ []) ∷ []) ∷ [] }
    ∷ record { fixed = record { kind = kinds.Irq; lo = 5; hi = 5; shared = false } ∷ []; movers = ([]) ∷ [] }
    ∷ record { fixed = record { kind = kinds.Irq; lo = 5; hi = 5; shared = false } ∷ []; movers = ([]) ∷ [] }
    ∷ record { fixed = record { kind = kinds.Irq; lo = 5; hi = 5; shared = false } ∷ []; movers = (((record { kind = kinds.Irq; min = 5; max = 6; len = 1; align = 1; shared = false } ∷ []) ∷ []) ∷ []) ∷ [] }
    ∷ record { fixed = record { kind = kinds.Irq; lo = 5; hi = 5; shared = false } ∷ record { kind = kinds.Irq; lo = 6; hi = 6; shared = false } ∷ []; movers = (((record { kind = kinds.Irq; min = 5; max = 6; len = 1; align = 1; shared = false } ∷ []) ∷ []) ∷ []) ∷ [] }
    ∷ record { fixed = record { kind = kinds.Irq; lo = 5; hi = 5; shared = false } ∷ []; movers = (((record { kind = kinds.Irq; min = 5; max = 6; len = 1; align = 1; shared = false } ∷ []) ∷ []) ∷ []) ∷ ([]) ∷ ([]) ∷ (((record { kind = kinds.Irq; min = 5; max = 6; len = 1; align = 1; shared = false } ∷ []) ∷ []) ∷ []) ∷ [] }
    ∷ []

pub row_mixed_3 : lines (traced (settings_of row_mixed_3_known) 200 (opening small_rack) row_mixed_3_found row_mixed_3_events) ≡ row_mixed_3_lines
unfolding digits
row_mixed_3 = refl

pub row_mixed_3_asks : (traced (settings_of row_mixed_3_known) 200 (opening small_rack) row_mixed_3_found row_mixed_3_events).problems ≡ row_mixed_3_problems
row_mixed_3_asks = refl
