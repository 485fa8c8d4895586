-- Books and stacks of several drivers: whole outputs, as the definition computes them.
use Rattle.std.proofs.Common.{List, [], ◌∷◌, Some, None, ◌≡◌, refl, true, false}
use Rattle.std.specs.Prelude.{codes}
use Rattle.std.specs.Fmt.{digits}
use Rattle.resource_reqs.specs.Spelling.Answer.{assignment}
use Rattle.pnp_model.specs.Records.{Found, SearchProblem}
use Rattle.pnp_labels.specs.Texts.{Text}
use Rattle.pnp_labels.specs.declared.event.Event.{Event}
use Rattle.pnp_labels.specs.declared.words.DriverKind.{DriverKind}
use Rattle.pnp_labels.specs.declared.words.Minor.{Minor}
use Rattle.pnp_labels.specs.declared.words.AskWhat.{AskWhat}
use Rattle.pnp_labels.specs.declared.words.Answer.{Answer}
use Rattle.pnp_model.specs.Runs.{traced, opening}
use Rattle.pnp_model.specs.Endings.{lines}
use Rattle.pnp_model.proofs.RowBase.{settings_of, small_rack, Known}

-- full book
abbrev pub row_full_book_known : List Known
row_full_book_known = []

abbrev pub row_full_book_found : List Found
row_full_book_found = []

abbrev pub row_full_book_events : List Event
row_full_book_events =
    Event.Name (codes "dev") DriverKind.Scripted
    ∷ Event.Teach (codes "dev") (record { what = AskWhat.Add; path = None; answer = Answer.Ok; uses = None })
    ∷ Event.Teach (codes "dev") (record { what = AskWhat.Add; path = None; answer = Answer.Ok; uses = None })
    ∷ Event.Teach (codes "dev") (record { what = AskWhat.Add; path = None; answer = Answer.Ok; uses = None })
    ∷ Event.Teach (codes "dev") (record { what = AskWhat.Add; path = None; answer = Answer.Ok; uses = None })
    ∷ Event.Teach (codes "dev") (record { what = AskWhat.Add; path = None; answer = Answer.Ok; uses = None })
    ∷ Event.Teach (codes "dev") (record { what = AskWhat.Add; path = None; answer = Answer.Ok; uses = None })
    ∷ Event.Teach (codes "dev") (record { what = AskWhat.Add; path = None; answer = Answer.Ok; uses = None })
    ∷ Event.Teach (codes "dev") (record { what = AskWhat.Add; path = None; answer = Answer.Ok; uses = None })
    ∷ Event.Teach (codes "dev") (record { what = AskWhat.Add; path = None; answer = Answer.Ok; uses = None })
    ∷ Event.Teach (codes "dev") (record { what = AskWhat.Add; path = None; answer = Answer.Ok; uses = None })
    ∷ Event.Teach (codes "dev") (record { what = AskWhat.Add; path = None; answer = Answer.Ok; uses = None })
    ∷ Event.Teach (codes "dev") (record { what = AskWhat.Add; path = None; answer = Answer.Ok; uses = None })
    ∷ Event.Teach (codes "dev") (record { what = AskWhat.Add; path = None; answer = Answer.Ok; uses = None })
    ∷ Event.Teach (codes "dev") (record { what = AskWhat.Add; path = None; answer = Answer.Ok; uses = None })
    ∷ Event.Teach (codes "dev") (record { what = AskWhat.Add; path = None; answer = Answer.Ok; uses = None })
    ∷ Event.Teach (codes "dev") (record { what = AskWhat.Add; path = None; answer = Answer.Ok; uses = None })
    ∷ Event.Teach (codes "dev") (record { what = AskWhat.Add; path = None; answer = Answer.Ok; uses = None })
    ∷ Event.Teach (codes "dev") (record { what = AskWhat.Add; path = None; answer = Answer.Ok; uses = None })
    ∷ Event.Teach (codes "dev") (record { what = AskWhat.Add; path = None; answer = Answer.Ok; uses = None })
    ∷ Event.Teach (codes "dev") (record { what = AskWhat.Add; path = None; answer = Answer.Ok; uses = None })
    ∷ Event.Teach (codes "dev") (record { what = AskWhat.Add; path = None; answer = Answer.Ok; uses = None })
    ∷ Event.Teach (codes "dev") (record { what = AskWhat.Add; path = None; answer = Answer.Ok; uses = None })
    ∷ Event.Teach (codes "dev") (record { what = AskWhat.Add; path = None; answer = Answer.Ok; uses = None })
    ∷ Event.Teach (codes "dev") (record { what = AskWhat.Add; path = None; answer = Answer.Ok; uses = None })
    ∷ Event.Teach (codes "dev") (record { what = AskWhat.Add; path = None; answer = Answer.Ok; uses = None })
    ∷ Event.Teach (codes "dev") (record { what = AskWhat.Add; path = None; answer = Answer.Ok; uses = None })
    ∷ Event.Teach (codes "dev") (record { what = AskWhat.Add; path = None; answer = Answer.Ok; uses = None })
    ∷ Event.Teach (codes "dev") (record { what = AskWhat.Add; path = None; answer = Answer.Ok; uses = None })
    ∷ Event.Teach (codes "dev") (record { what = AskWhat.Add; path = None; answer = Answer.Ok; uses = None })
    ∷ Event.Teach (codes "dev") (record { what = AskWhat.Add; path = None; answer = Answer.Ok; uses = None })
    ∷ Event.Teach (codes "dev") (record { what = AskWhat.Add; path = None; answer = Answer.Ok; uses = None })
    ∷ Event.Teach (codes "dev") (record { what = AskWhat.Add; path = None; answer = Answer.Ok; uses = None })
    ∷ Event.Teach (codes "dev") (record { what = AskWhat.Add; path = None; answer = Answer.Ok; uses = None })
    ∷ Event.Teach (codes "dev") (record { what = AskWhat.Add; path = None; answer = Answer.Ok; uses = None })
    ∷ Event.Teach (codes "dev") (record { what = AskWhat.Add; path = None; answer = Answer.Ok; uses = None })
    ∷ Event.Teach (codes "dev") (record { what = AskWhat.Add; path = None; answer = Answer.Ok; uses = None })
    ∷ Event.Teach (codes "dev") (record { what = AskWhat.Add; path = None; answer = Answer.Ok; uses = None })
    ∷ Event.Teach (codes "dev") (record { what = AskWhat.Add; path = None; answer = Answer.Ok; uses = None })
    ∷ Event.Teach (codes "dev") (record { what = AskWhat.Add; path = None; answer = Answer.Ok; uses = None })
    ∷ Event.Teach (codes "dev") (record { what = AskWhat.Add; path = None; answer = Answer.Ok; uses = None })
    ∷ Event.Teach (codes "dev") (record { what = AskWhat.Add; path = None; answer = Answer.Ok; uses = None })
    ∷ Event.Teach (codes "dev") (record { what = AskWhat.Add; path = None; answer = Answer.Ok; uses = None })
    ∷ Event.Teach (codes "dev") (record { what = AskWhat.Add; path = None; answer = Answer.Ok; uses = None })
    ∷ Event.Teach (codes "dev") (record { what = AskWhat.Add; path = None; answer = Answer.Ok; uses = None })
    ∷ Event.Teach (codes "dev") (record { what = AskWhat.Add; path = None; answer = Answer.Ok; uses = None })
    ∷ Event.Teach (codes "dev") (record { what = AskWhat.Add; path = None; answer = Answer.Ok; uses = None })
    ∷ Event.Teach (codes "dev") (record { what = AskWhat.Add; path = None; answer = Answer.Ok; uses = None })
    ∷ Event.Teach (codes "dev") (record { what = AskWhat.Add; path = None; answer = Answer.Ok; uses = None })
    ∷ Event.Teach (codes "dev") (record { what = AskWhat.Add; path = None; answer = Answer.Ok; uses = None })
    ∷ Event.Teach (codes "dev") (record { what = AskWhat.Add; path = None; answer = Answer.Ok; uses = None })
    ∷ Event.Teach (codes "dev") (record { what = AskWhat.Add; path = None; answer = Answer.Ok; uses = None })
    ∷ Event.Teach (codes "dev") (record { what = AskWhat.Add; path = None; answer = Answer.Ok; uses = None })
    ∷ Event.Teach (codes "dev") (record { what = AskWhat.Add; path = None; answer = Answer.Ok; uses = None })
    ∷ Event.Teach (codes "dev") (record { what = AskWhat.Add; path = None; answer = Answer.Ok; uses = None })
    ∷ Event.Teach (codes "dev") (record { what = AskWhat.Add; path = None; answer = Answer.Ok; uses = None })
    ∷ Event.Teach (codes "dev") (record { what = AskWhat.Add; path = None; answer = Answer.Ok; uses = None })
    ∷ Event.Teach (codes "dev") (record { what = AskWhat.Add; path = None; answer = Answer.Ok; uses = None })
    ∷ Event.Teach (codes "dev") (record { what = AskWhat.Add; path = None; answer = Answer.Ok; uses = None })
    ∷ Event.Teach (codes "dev") (record { what = AskWhat.Add; path = None; answer = Answer.Ok; uses = None })
    ∷ Event.Teach (codes "dev") (record { what = AskWhat.Add; path = None; answer = Answer.Ok; uses = None })
    ∷ Event.Teach (codes "dev") (record { what = AskWhat.Add; path = None; answer = Answer.Ok; uses = None })
    ∷ Event.Teach (codes "dev") (record { what = AskWhat.Add; path = None; answer = Answer.Ok; uses = None })
    ∷ Event.Teach (codes "dev") (record { what = AskWhat.Add; path = None; answer = Answer.Ok; uses = None })
    ∷ Event.Teach (codes "dev") (record { what = AskWhat.Add; path = None; answer = Answer.Ok; uses = None })
    ∷ Event.Teach (codes "dev") (record { what = AskWhat.Add; path = None; answer = Answer.Ok; uses = None })
    ∷ []

abbrev pub row_full_book_lines : List Text
row_full_book_lines =
    codes "event driver dev"
    ∷ codes "event teach dev"
    ∷ codes "event teach dev"
    ∷ codes "event teach dev"
    ∷ codes "event teach dev"
    ∷ codes "event teach dev"
    ∷ codes "event teach dev"
    ∷ codes "event teach dev"
    ∷ codes "event teach dev"
    ∷ codes "event teach dev"
    ∷ codes "event teach dev"
    ∷ codes "event teach dev"
    ∷ codes "event teach dev"
    ∷ codes "event teach dev"
    ∷ codes "event teach dev"
    ∷ codes "event teach dev"
    ∷ codes "event teach dev"
    ∷ codes "event teach dev"
    ∷ codes "event teach dev"
    ∷ codes "event teach dev"
    ∷ codes "event teach dev"
    ∷ codes "event teach dev"
    ∷ codes "event teach dev"
    ∷ codes "event teach dev"
    ∷ codes "event teach dev"
    ∷ codes "event teach dev"
    ∷ codes "event teach dev"
    ∷ codes "event teach dev"
    ∷ codes "event teach dev"
    ∷ codes "event teach dev"
    ∷ codes "event teach dev"
    ∷ codes "event teach dev"
    ∷ codes "event teach dev"
    ∷ codes "event teach dev"
    ∷ codes "event teach dev"
    ∷ codes "event teach dev"
    ∷ codes "event teach dev"
    ∷ codes "event teach dev"
    ∷ codes "event teach dev"
    ∷ codes "event teach dev"
    ∷ codes "event teach dev"
    ∷ codes "event teach dev"
    ∷ codes "event teach dev"
    ∷ codes "event teach dev"
    ∷ codes "event teach dev"
    ∷ codes "event teach dev"
    ∷ codes "event teach dev"
    ∷ codes "event teach dev"
    ∷ codes "event teach dev"
    ∷ codes "event teach dev"
    ∷ codes "event teach dev"
    ∷ codes "event teach dev"
    ∷ codes "event teach dev"
    ∷ codes "event teach dev"
    ∷ codes "event teach dev"
    ∷ codes "event teach dev"
    ∷ codes "event teach dev"
    ∷ codes "event teach dev"
    ∷ codes "event teach dev"
    ∷ codes "event teach dev"
    ∷ codes "event teach dev"
    ∷ codes "event teach dev"
    ∷ codes "event teach dev"
    ∷ codes "event teach dev"
    ∷ codes "event teach dev"
    ∷ codes "refused teach BookFull"
    ∷ codes "tree"
    ∷ codes "0 HTREE\\ROOT\\0 Started"
    ∷ codes "map"
    ∷ codes "outstanding"
    ∷ []

abbrev row_full_book_problems : List SearchProblem
row_full_book_problems =
    []

pub row_full_book : lines (traced (settings_of row_full_book_known) 200 (opening small_rack) row_full_book_found row_full_book_events) ≡ row_full_book_lines
unfolding digits
row_full_book = refl

pub row_full_book_asks : (traced (settings_of row_full_book_known) 200 (opening small_rack) row_full_book_found row_full_book_events).problems ≡ row_full_book_problems
row_full_book_asks = refl

-- filter stack
abbrev pub row_filter_stack_known : List Known
row_filter_stack_known = record { id = codes "OWN\\FIL"; choice = record { rank = 16711680; lower = codes "low" ∷ []; service = Some (codes "dev"); upper = [] } } ∷ []

abbrev pub row_filter_stack_found : List Found
row_filter_stack_found = assignment (([]) ∷ []) ∷ assignment (([]) ∷ []) ∷ []

abbrev pub row_filter_stack_events : List Event
row_filter_stack_events =
    Event.Name (codes "dev") DriverKind.Steady
    ∷ Event.Name (codes "low") DriverKind.Scripted
    ∷ Event.Teach (codes "low") (record { what = AskWhat.Irp Minor.QueryRemove; path = None; answer = Answer.Pend; uses = Some 1 })
    ∷ Event.Plug (codes "HTREE\\ROOT\\0") (codes "OWN\\FIL\\1") (codes "OWN\\FIL" ∷ []) ([]) ([])
    ∷ Event.Plug (codes "HTREE\\ROOT\\0") (codes "OWN\\FIL\\2") (codes "OWN\\FIL" ∷ []) ([]) ([])
    ∷ Event.Disable (codes "OWN\\FIL\\1")
    ∷ Event.Complete (codes "OWN\\FIL\\1") Minor.QueryRemove false
    ∷ Event.Complete (codes "OWN\\FIL\\1") Minor.QueryRemove true
    ∷ []

abbrev pub row_filter_stack_lines : List Text
row_filter_stack_lines =
    codes "event driver dev"
    ∷ codes "event driver low"
    ∷ codes "event teach low"
    ∷ codes "event plug OWN\\FIL\\1"
    ∷ codes "join 1 OWN\\FIL\\1"
    ∷ codes "listed HTREE\\ROOT\\0"
    ∷ codes "install OWN\\FIL\\1 00ff0000 dev"
    ∷ codes "add OWN\\FIL\\1 low ok"
    ∷ codes "add OWN\\FIL\\1 dev ok"
    ∷ codes "assign OWN\\FIL\\1"
    ∷ codes "START_DEVICE OWN\\FIL\\1 low ok"
    ∷ codes "START_DEVICE OWN\\FIL\\1 dev ok"
    ∷ codes "state OWN\\FIL\\1 Started"
    ∷ codes "listed OWN\\FIL\\1"
    ∷ codes "event plug OWN\\FIL\\2"
    ∷ codes "join 2 OWN\\FIL\\2"
    ∷ codes "listed HTREE\\ROOT\\0"
    ∷ codes "install OWN\\FIL\\2 00ff0000 dev"
    ∷ codes "add OWN\\FIL\\2 low ok"
    ∷ codes "add OWN\\FIL\\2 dev ok"
    ∷ codes "assign OWN\\FIL\\2"
    ∷ codes "START_DEVICE OWN\\FIL\\2 low ok"
    ∷ codes "START_DEVICE OWN\\FIL\\2 dev ok"
    ∷ codes "state OWN\\FIL\\2 Started"
    ∷ codes "listed OWN\\FIL\\2"
    ∷ codes "event disable OWN\\FIL\\1"
    ∷ codes "begin disable OWN\\FIL\\1"
    ∷ codes "QUERY_REMOVE_DEVICE OWN\\FIL\\1 dev ok"
    ∷ codes "QUERY_REMOVE_DEVICE OWN\\FIL\\1 low pend"
    ∷ codes "event complete OWN\\FIL\\1 QUERY_REMOVE_DEVICE fail"
    ∷ codes "state OWN\\FIL\\1 Started"
    ∷ codes "CANCEL_REMOVE_DEVICE OWN\\FIL\\1 low ok"
    ∷ codes "CANCEL_REMOVE_DEVICE OWN\\FIL\\1 dev ok"
    ∷ codes "state OWN\\FIL\\1 Started"
    ∷ codes "end disable OWN\\FIL\\1 veto OWN\\FIL\\1"
    ∷ codes "refused complete NoSuchRequest"
    ∷ codes "tree"
    ∷ codes "0 HTREE\\ROOT\\0 Started"
    ∷ codes " 1 OWN\\FIL\\1 Started"
    ∷ codes " 2 OWN\\FIL\\2 Started"
    ∷ codes "map"
    ∷ codes "outstanding"
    ∷ []

abbrev row_filter_stack_problems : List SearchProblem
row_filter_stack_problems =
    record { fixed = []; movers = ([]) ∷ [] }
    ∷ record { fixed = []; movers = ([]) ∷ [] }
    ∷ []

pub row_filter_stack : lines (traced (settings_of row_filter_stack_known) 200 (opening small_rack) row_filter_stack_found row_filter_stack_events) ≡ row_filter_stack_lines
unfolding digits
row_filter_stack = refl

pub row_filter_stack_asks : (traced (settings_of row_filter_stack_known) 200 (opening small_rack) row_filter_stack_found row_filter_stack_events).problems ≡ row_filter_stack_problems
row_filter_stack_asks = refl
