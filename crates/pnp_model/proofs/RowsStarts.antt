-- Starts: whole outputs, as the definition computes them.
use Rattle.std.proofs.Common.{List, [], ◌∷◌, Some, None, ◌≡◌, refl, true, false}
use Rattle.std.specs.Prelude.{codes}
use Rattle.std.specs.Fmt.{digits}
use Rattle.resource_reqs.specs.Spelling.Answer.{assignment, no_fit, spent}
use Rattle.pnp_model.specs.Records.{Found, SearchProblem}
use Rattle.pnp_labels.specs.Texts.{Text}
use Rattle.pnp_labels.specs.declared.event.Event.{Event}
use Rattle.pnp_labels.specs.declared.words.DriverKind.{DriverKind}
use Rattle.pnp_labels.specs.declared.words.Minor.{Minor}
use Rattle.pnp_labels.specs.declared.words.AskWhat.{AskWhat}
use Rattle.pnp_labels.specs.declared.words.Answer.{Answer}
use Rattle.pnp_model.specs.Runs.{traced, opening}
use Rattle.pnp_model.specs.Endings.{lines}
use Rattle.pnp_model.proofs.RowBase.{settings_of, small_rack, Known}
use Rattle.resource_reqs.specs.declared.kind.Kind.TheVariants as kinds

-- empty script
abbrev pub row_empty_script_known : List Known
row_empty_script_known = []

abbrev pub row_empty_script_found : List Found
row_empty_script_found = []

abbrev pub row_empty_script_events : List Event
row_empty_script_events =
    []

abbrev pub row_empty_script_lines : List Text
row_empty_script_lines =
    codes "tree"
    ∷ codes "0 HTREE\\ROOT\\0 Started"
    ∷ codes "map"
    ∷ codes "outstanding"
    ∷ []

abbrev row_empty_script_problems : List SearchProblem
row_empty_script_problems =
    []

pub row_empty_script : lines (traced (settings_of row_empty_script_known) 200 (opening small_rack) row_empty_script_found row_empty_script_events) ≡ row_empty_script_lines
unfolding digits
row_empty_script = refl

pub row_empty_script_asks : (traced (settings_of row_empty_script_known) 200 (opening small_rack) row_empty_script_found row_empty_script_events).problems ≡ row_empty_script_problems
row_empty_script_asks = refl

-- one device
abbrev pub row_one_device_known : List Known
row_one_device_known = record { id = codes "OWN\\DEV"; choice = record { rank = 16711680; lower = []; service = Some (codes "dev"); upper = [] } } ∷ []

abbrev pub row_one_device_found : List Found
row_one_device_found = assignment (([]) ∷ []) ∷ []

abbrev pub row_one_device_events : List Event
row_one_device_events =
    Event.Name (codes "dev") DriverKind.Steady
    ∷ Event.Plug (codes "HTREE\\ROOT\\0") (codes "OWN\\DEV\\1") (codes "OWN\\DEV" ∷ []) ([]) ([])
    ∷ []

abbrev pub row_one_device_lines : List Text
row_one_device_lines =
    codes "event driver dev"
    ∷ codes "event plug OWN\\DEV\\1"
    ∷ codes "join 1 OWN\\DEV\\1"
    ∷ codes "listed HTREE\\ROOT\\0"
    ∷ codes "install OWN\\DEV\\1 00ff0000 dev"
    ∷ codes "add OWN\\DEV\\1 dev ok"
    ∷ codes "assign OWN\\DEV\\1"
    ∷ codes "START_DEVICE OWN\\DEV\\1 dev ok"
    ∷ codes "state OWN\\DEV\\1 Started"
    ∷ codes "listed OWN\\DEV\\1"
    ∷ codes "tree"
    ∷ codes "0 HTREE\\ROOT\\0 Started"
    ∷ codes " 1 OWN\\DEV\\1 Started"
    ∷ codes "map"
    ∷ codes "outstanding"
    ∷ []

abbrev row_one_device_problems : List SearchProblem
row_one_device_problems =
    record { fixed = []; movers = ([]) ∷ [] }
    ∷ []

pub row_one_device : lines (traced (settings_of row_one_device_known) 200 (opening small_rack) row_one_device_found row_one_device_events) ≡ row_one_device_lines
unfolding digits
row_one_device = refl

pub row_one_device_asks : (traced (settings_of row_one_device_known) 200 (opening small_rack) row_one_device_found row_one_device_events).problems ≡ row_one_device_problems
row_one_device_asks = refl

-- two starts at once
abbrev pub row_two_starts_at_once_known : List Known
row_two_starts_at_once_known = record { id = codes "OWN\\DEV"; choice = record { rank = 16711680; lower = []; service = Some (codes "dev"); upper = [] } } ∷ []

abbrev pub row_two_starts_at_once_found : List Found
row_two_starts_at_once_found = assignment (([]) ∷ []) ∷ assignment (([]) ∷ []) ∷ []

abbrev pub row_two_starts_at_once_events : List Event
row_two_starts_at_once_events =
    Event.Name (codes "dev") DriverKind.Scripted
    ∷ Event.Teach (codes "dev") (record { what = AskWhat.Irp Minor.Start; path = None; answer = Answer.Pend; uses = None })
    ∷ Event.Plug (codes "HTREE\\ROOT\\0") (codes "OWN\\DEV\\1") (codes "OWN\\DEV" ∷ []) ([]) ([])
    ∷ Event.Plug (codes "HTREE\\ROOT\\0") (codes "OWN\\DEV\\2") (codes "OWN\\DEV" ∷ []) ([]) ([])
    ∷ Event.Complete (codes "OWN\\DEV\\2") Minor.Start true
    ∷ Event.Complete (codes "OWN\\DEV\\1") Minor.Start true
    ∷ []

abbrev pub row_two_starts_at_once_lines : List Text
row_two_starts_at_once_lines =
    codes "event driver dev"
    ∷ codes "event teach dev"
    ∷ codes "event plug OWN\\DEV\\1"
    ∷ codes "join 1 OWN\\DEV\\1"
    ∷ codes "listed HTREE\\ROOT\\0"
    ∷ codes "install OWN\\DEV\\1 00ff0000 dev"
    ∷ codes "add OWN\\DEV\\1 dev ok"
    ∷ codes "assign OWN\\DEV\\1"
    ∷ codes "START_DEVICE OWN\\DEV\\1 dev pend"
    ∷ codes "event plug OWN\\DEV\\2"
    ∷ codes "join 2 OWN\\DEV\\2"
    ∷ codes "listed HTREE\\ROOT\\0"
    ∷ codes "install OWN\\DEV\\2 00ff0000 dev"
    ∷ codes "add OWN\\DEV\\2 dev ok"
    ∷ codes "assign OWN\\DEV\\2"
    ∷ codes "START_DEVICE OWN\\DEV\\2 dev pend"
    ∷ codes "event complete OWN\\DEV\\2 START_DEVICE ok"
    ∷ codes "state OWN\\DEV\\2 Started"
    ∷ codes "listed OWN\\DEV\\2"
    ∷ codes "event complete OWN\\DEV\\1 START_DEVICE ok"
    ∷ codes "state OWN\\DEV\\1 Started"
    ∷ codes "listed OWN\\DEV\\1"
    ∷ codes "tree"
    ∷ codes "0 HTREE\\ROOT\\0 Started"
    ∷ codes " 1 OWN\\DEV\\1 Started"
    ∷ codes " 2 OWN\\DEV\\2 Started"
    ∷ codes "map"
    ∷ codes "outstanding"
    ∷ []

abbrev row_two_starts_at_once_problems : List SearchProblem
row_two_starts_at_once_problems =
    record { fixed = []; movers = ([]) ∷ [] }
    ∷ record { fixed = []; movers = ([]) ∷ [] }
    ∷ []

pub row_two_starts_at_once : lines (traced (settings_of row_two_starts_at_once_known) 200 (opening small_rack) row_two_starts_at_once_found row_two_starts_at_once_events) ≡ row_two_starts_at_once_lines
unfolding digits
row_two_starts_at_once = refl

pub row_two_starts_at_once_asks : (traced (settings_of row_two_starts_at_once_known) 200 (opening small_rack) row_two_starts_at_once_found row_two_starts_at_once_events).problems ≡ row_two_starts_at_once_problems
row_two_starts_at_once_asks = refl

-- no such request
abbrev row_no_such_request_known : List Known
row_no_such_request_known = record { id = codes "OWN\\DEV"; choice = record { rank = 16711680; lower = []; service = Some (codes "dev"); upper = [] } } ∷ []

abbrev row_no_such_request_found : List Found
row_no_such_request_found = assignment (([]) ∷ []) ∷ []

abbrev row_no_such_request_events : List Event
row_no_such_request_events =
    Event.Name (codes "dev") DriverKind.Steady
    ∷ Event.Plug (codes "HTREE\\ROOT\\0") (codes "OWN\\DEV\\1") (codes "OWN\\DEV" ∷ []) ([]) ([])
    ∷ Event.Complete (codes "OWN\\DEV\\1") Minor.Start true
    ∷ []

abbrev row_no_such_request_lines : List Text
row_no_such_request_lines =
    codes "event driver dev"
    ∷ codes "event plug OWN\\DEV\\1"
    ∷ codes "join 1 OWN\\DEV\\1"
    ∷ codes "listed HTREE\\ROOT\\0"
    ∷ codes "install OWN\\DEV\\1 00ff0000 dev"
    ∷ codes "add OWN\\DEV\\1 dev ok"
    ∷ codes "assign OWN\\DEV\\1"
    ∷ codes "START_DEVICE OWN\\DEV\\1 dev ok"
    ∷ codes "state OWN\\DEV\\1 Started"
    ∷ codes "listed OWN\\DEV\\1"
    ∷ codes "refused complete NoSuchRequest"
    ∷ codes "tree"
    ∷ codes "0 HTREE\\ROOT\\0 Started"
    ∷ codes " 1 OWN\\DEV\\1 Started"
    ∷ codes "map"
    ∷ codes "outstanding"
    ∷ []

abbrev row_no_such_request_problems : List SearchProblem
row_no_such_request_problems =
    record { fixed = []; movers = ([]) ∷ [] }
    ∷ []

pub row_no_such_request : lines (traced (settings_of row_no_such_request_known) 200 (opening small_rack) row_no_such_request_found row_no_such_request_events) ≡ row_no_such_request_lines
unfolding digits
row_no_such_request = refl

pub row_no_such_request_asks : (traced (settings_of row_no_such_request_known) 200 (opening small_rack) row_no_such_request_found row_no_such_request_events).problems ≡ row_no_such_request_problems
row_no_such_request_asks = refl

-- budget of one
abbrev row_budget_of_one_known : List Known
row_budget_of_one_known = record { id = codes "OWN\\DEV"; choice = record { rank = 16711680; lower = []; service = Some (codes "dev"); upper = [] } } ∷ []

abbrev row_budget_of_one_found : List Found
row_budget_of_one_found = spent ∷ []

abbrev row_budget_of_one_events : List Event
row_budget_of_one_events =
    Event.Name (codes "dev") DriverKind.Steady
    ∷ Event.Plug (codes "HTREE\\ROOT\\0") (codes "OWN\\DEV\\D") (codes "OWN\\DEV" ∷ []) ([]) (((record { kind = kinds.Irq; min = 5; max = 5; len = 1; align = 1; shared = false } ∷ []) ∷ []) ∷ [])
    ∷ []

abbrev row_budget_of_one_lines : List Text
row_budget_of_one_lines =
    codes "event driver dev"
    ∷ codes "event plug OWN\\DEV\\D"
    ∷ codes "join 1 OWN\\DEV\\D"
    ∷ codes "listed HTREE\\ROOT\\0"
    ∷ codes "install OWN\\DEV\\D 00ff0000 dev"
    ∷ codes "add OWN\\DEV\\D dev ok"
    ∷ codes "spent OWN\\DEV\\D"
    ∷ codes "problem OWN\\DEV\\D budget"
    ∷ codes "REMOVE_DEVICE OWN\\DEV\\D dev ok"
    ∷ codes "state OWN\\DEV\\D NoStack"
    ∷ codes "tree"
    ∷ codes "0 HTREE\\ROOT\\0 Started"
    ∷ codes " 1 OWN\\DEV\\D NoStack problem budget"
    ∷ codes "map"
    ∷ codes "outstanding"
    ∷ []

abbrev row_budget_of_one_problems : List SearchProblem
row_budget_of_one_problems =
    record { fixed = []; movers = (((record { kind = kinds.Irq; min = 5; max = 5; len = 1; align = 1; shared = false } ∷ []) ∷ []) ∷ []) ∷ [] }
    ∷ []

pub row_budget_of_one : lines (traced (settings_of row_budget_of_one_known) 200 (opening small_rack) row_budget_of_one_found row_budget_of_one_events) ≡ row_budget_of_one_lines
unfolding digits
row_budget_of_one = refl

pub row_budget_of_one_asks : (traced (settings_of row_budget_of_one_known) 200 (opening small_rack) row_budget_of_one_found row_budget_of_one_events).problems ≡ row_budget_of_one_problems
row_budget_of_one_asks = refl

-- budget of two
abbrev row_budget_of_two_known : List Known
row_budget_of_two_known = record { id = codes "OWN\\DEV"; choice = record { rank = 16711680; lower = []; service = Some (codes "dev"); upper = [] } } ∷ []

abbrev row_budget_of_two_found : List Found
row_budget_of_two_found = assignment ((record { kind = kinds.Irq; lo = 5; hi = 5; shared = false } ∷ []) ∷ []) ∷ []

abbrev row_budget_of_two_events : List Event
row_budget_of_two_events =
    Event.Name (codes "dev") DriverKind.Steady
    ∷ Event.Plug (codes "HTREE\\ROOT\\0") (codes "OWN\\DEV\\D") (codes "OWN\\DEV" ∷ []) ([]) (((record { kind = kinds.Irq; min = 5; max = 5; len = 1; align = 1; shared = false } ∷ []) ∷ []) ∷ [])
    ∷ []

abbrev row_budget_of_two_lines : List Text
row_budget_of_two_lines =
    codes "event driver dev"
    ∷ codes "event plug OWN\\DEV\\D"
    ∷ codes "join 1 OWN\\DEV\\D"
    ∷ codes "listed HTREE\\ROOT\\0"
    ∷ codes "install OWN\\DEV\\D 00ff0000 dev"
    ∷ codes "add OWN\\DEV\\D dev ok"
    ∷ codes "assign OWN\\DEV\\D irq:5-5"
    ∷ codes "START_DEVICE OWN\\DEV\\D dev ok"
    ∷ codes "state OWN\\DEV\\D Started"
    ∷ codes "listed OWN\\DEV\\D"
    ∷ codes "tree"
    ∷ codes "0 HTREE\\ROOT\\0 Started"
    ∷ codes " 1 OWN\\DEV\\D Started"
    ∷ codes "map"
    ∷ codes "irq:5-5 OWN\\DEV\\D"
    ∷ codes "outstanding"
    ∷ []

abbrev row_budget_of_two_problems : List SearchProblem
row_budget_of_two_problems =
    record { fixed = []; movers = (((record { kind = kinds.Irq; min = 5; max = 5; len = 1; align = 1; shared = false } ∷ []) ∷ []) ∷ []) ∷ [] }
    ∷ []

pub row_budget_of_two : lines (traced (settings_of row_budget_of_two_known) 200 (opening small_rack) row_budget_of_two_found row_budget_of_two_events) ≡ row_budget_of_two_lines
unfolding digits
row_budget_of_two = refl

pub row_budget_of_two_asks : (traced (settings_of row_budget_of_two_known) 200 (opening small_rack) row_budget_of_two_found row_budget_of_two_events).problems ≡ row_budget_of_two_problems
row_budget_of_two_asks = refl

-- end of numbers
abbrev row_end_of_numbers_known : List Known
row_end_of_numbers_known = record { id = codes "OWN\\DEV"; choice = record { rank = 16711680; lower = []; service = Some (codes "dev"); upper = [] } } ∷ []

abbrev row_end_of_numbers_found : List Found
row_end_of_numbers_found = assignment ((record { kind = kinds.Mem; lo = 18446744073709547520; hi = 18446744073709551615; shared = false } ∷ []) ∷ []) ∷ []

abbrev row_end_of_numbers_events : List Event
row_end_of_numbers_events =
    Event.Name (codes "dev") DriverKind.Steady
    ∷ Event.Plug (codes "HTREE\\ROOT\\0") (codes "OWN\\DEV\\1") (codes "OWN\\DEV" ∷ []) ([]) (((record { kind = kinds.Mem; min = 18446744073709547520; max = 18446744073709551615; len = 4096; align = 4096; shared = false } ∷ []) ∷ []) ∷ [])
    ∷ []

abbrev row_end_of_numbers_lines : List Text
row_end_of_numbers_lines =
    codes "event driver dev"
    ∷ codes "event plug OWN\\DEV\\1"
    ∷ codes "join 1 OWN\\DEV\\1"
    ∷ codes "listed HTREE\\ROOT\\0"
    ∷ codes "install OWN\\DEV\\1 00ff0000 dev"
    ∷ codes "add OWN\\DEV\\1 dev ok"
    ∷ codes "assign OWN\\DEV\\1 mem:0xfffffffffffff000-0xffffffffffffffff"
    ∷ codes "START_DEVICE OWN\\DEV\\1 dev ok"
    ∷ codes "state OWN\\DEV\\1 Started"
    ∷ codes "listed OWN\\DEV\\1"
    ∷ codes "tree"
    ∷ codes "0 HTREE\\ROOT\\0 Started"
    ∷ codes " 1 OWN\\DEV\\1 Started"
    ∷ codes "map"
    ∷ codes "mem:0xfffffffffffff000-0xffffffffffffffff OWN\\DEV\\1"
    ∷ codes "outstanding"
    ∷ []

abbrev row_end_of_numbers_problems : List SearchProblem
row_end_of_numbers_problems =
    record { fixed = []; movers = (((record { kind = kinds.Mem; min = 18446744073709547520; max = 18446744073709551615; len = 4096; align = 4096; shared = false } ∷ []) ∷ []) ∷ []) ∷ [] }
    ∷ []

pub row_end_of_numbers : lines (traced (settings_of row_end_of_numbers_known) 200 (opening small_rack) row_end_of_numbers_found row_end_of_numbers_events) ≡ row_end_of_numbers_lines
unfolding digits
row_end_of_numbers = refl

pub row_end_of_numbers_asks : (traced (settings_of row_end_of_numbers_known) 200 (opening small_rack) row_end_of_numbers_found row_end_of_numbers_events).problems ≡ row_end_of_numbers_problems
row_end_of_numbers_asks = refl

-- all numbers reserved
abbrev row_all_numbers_reserved_known : List Known
row_all_numbers_reserved_known = record { id = codes "OWN\\DEV"; choice = record { rank = 16711680; lower = []; service = Some (codes "dev"); upper = [] } } ∷ []

abbrev row_all_numbers_reserved_found : List Found
row_all_numbers_reserved_found = no_fit ∷ no_fit ∷ []

abbrev row_all_numbers_reserved_events : List Event
row_all_numbers_reserved_events =
    Event.Name (codes "dev") DriverKind.Steady
    ∷ Event.Reserve (record { kind = kinds.Mem; lo = 18446744073709547520; hi = 18446744073709551615; shared = false })
    ∷ Event.Plug (codes "HTREE\\ROOT\\0") (codes "OWN\\DEV\\1") (codes "OWN\\DEV" ∷ []) ([]) (((record { kind = kinds.Mem; min = 18446744073709543424; max = 18446744073709551615; len = 8192; align = 4096; shared = false } ∷ []) ∷ []) ∷ [])
    ∷ []

abbrev row_all_numbers_reserved_lines : List Text
row_all_numbers_reserved_lines =
    codes "event driver dev"
    ∷ codes "event reserve mem:0xfffffffffffff000-0xffffffffffffffff"
    ∷ codes "event plug OWN\\DEV\\1"
    ∷ codes "join 1 OWN\\DEV\\1"
    ∷ codes "listed HTREE\\ROOT\\0"
    ∷ codes "install OWN\\DEV\\1 00ff0000 dev"
    ∷ codes "add OWN\\DEV\\1 dev ok"
    ∷ codes "nofit OWN\\DEV\\1"
    ∷ codes "begin rebalance OWN\\DEV\\1"
    ∷ codes "nofit OWN\\DEV\\1"
    ∷ codes "problem OWN\\DEV\\1 12"
    ∷ codes "end rebalance OWN\\DEV\\1 nofit"
    ∷ codes "REMOVE_DEVICE OWN\\DEV\\1 dev ok"
    ∷ codes "state OWN\\DEV\\1 NoStack"
    ∷ codes "tree"
    ∷ codes "0 HTREE\\ROOT\\0 Started"
    ∷ codes " 1 OWN\\DEV\\1 NoStack problem 12"
    ∷ codes "map"
    ∷ codes "mem:0xfffffffffffff000-0xffffffffffffffff reserved"
    ∷ codes "outstanding"
    ∷ []

abbrev row_all_numbers_reserved_problems : List SearchProblem
row_all_numbers_reserved_problems =
    record { fixed = record { kind = kinds.Mem; lo = 18446744073709547520; hi = 18446744073709551615; shared = false } ∷ []; movers = (((record { kind = kinds.Mem; min = 18446744073709543424; max = 18446744073709551615; len = 8192; align = 4096; shared = false } ∷ []) ∷ []) ∷ []) ∷ [] }
    ∷ record { fixed = record { kind = kinds.Mem; lo = 18446744073709547520; hi = 18446744073709551615; shared = false } ∷ []; movers = (((record { kind = kinds.Mem; min = 18446744073709543424; max = 18446744073709551615; len = 8192; align = 4096; shared = false } ∷ []) ∷ []) ∷ []) ∷ [] }
    ∷ []

pub row_all_numbers_reserved : lines (traced (settings_of row_all_numbers_reserved_known) 200 (opening small_rack) row_all_numbers_reserved_found row_all_numbers_reserved_events) ≡ row_all_numbers_reserved_lines
unfolding digits
row_all_numbers_reserved = refl

pub row_all_numbers_reserved_asks : (traced (settings_of row_all_numbers_reserved_known) 200 (opening small_rack) row_all_numbers_reserved_found row_all_numbers_reserved_events).problems ≡ row_all_numbers_reserved_problems
row_all_numbers_reserved_asks = refl
