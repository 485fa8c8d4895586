-- Rebalances: whole outputs, as the definition computes them.
use Rattle.std.proofs.Common.{List, [], ◌∷◌, Some, ◌≡◌, refl, true, false}
use Rattle.std.specs.Prelude.{codes}
use Rattle.std.specs.Fmt.{digits}
use Rattle.resource_reqs.specs.Spelling.Answer.{assignment, no_fit, spent}
use Rattle.pnp_model.specs.Records.{Found, SearchProblem}
use Rattle.pnp_labels.specs.Texts.{Text}
use Rattle.pnp_labels.specs.declared.event.Event.{Event}
use Rattle.pnp_labels.specs.declared.words.DriverKind.{DriverKind}
use Rattle.pnp_model.specs.Runs.{traced, opening}
use Rattle.pnp_model.specs.Endings.{lines}
use Rattle.pnp_model.proofs.RowBase.{settings_of, small_rack, Known}
use Rattle.resource_reqs.specs.declared.kind.Kind.TheVariants as kinds

-- rebalance
abbrev pub row_rebalance_known : List Known
row_rebalance_known = record { id = codes "OWN\\DEV"; choice = record { rank = 16711680; lower = []; service = Some (codes "dev"); upper = [] } } ∷ []

abbrev pub row_rebalance_found : List Found
row_rebalance_found = assignment ((record { kind = kinds.Irq; lo = 5; hi = 5; shared = false } ∷ []) ∷ []) ∷ no_fit ∷ assignment ((record { kind = kinds.Irq; lo = 5; hi = 5; shared = false } ∷ []) ∷ (record { kind = kinds.Irq; lo = 6; hi = 6; shared = false } ∷ []) ∷ []) ∷ []

abbrev pub row_rebalance_events : List Event
row_rebalance_events =
    Event.Name (codes "dev") DriverKind.Steady
    ∷ Event.Plug (codes "HTREE\\ROOT\\0") (codes "OWN\\DEV\\A") (codes "OWN\\DEV" ∷ []) ([]) (((record { kind = kinds.Irq; min = 5; max = 6; len = 1; align = 1; shared = false } ∷ []) ∷ []) ∷ [])
    ∷ Event.Plug (codes "HTREE\\ROOT\\0") (codes "OWN\\DEV\\D") (codes "OWN\\DEV" ∷ []) ([]) (((record { kind = kinds.Irq; min = 5; max = 5; len = 1; align = 1; shared = false } ∷ []) ∷ []) ∷ [])
    ∷ []

abbrev pub row_rebalance_lines : List Text
row_rebalance_lines =
    codes "event driver dev"
    ∷ codes "event plug OWN\\DEV\\A"
    ∷ codes "join 1 OWN\\DEV\\A"
    ∷ codes "listed HTREE\\ROOT\\0"
    ∷ codes "install OWN\\DEV\\A 00ff0000 dev"
    ∷ codes "add OWN\\DEV\\A dev ok"
    ∷ codes "assign OWN\\DEV\\A irq:5-5"
    ∷ codes "START_DEVICE OWN\\DEV\\A dev ok"
    ∷ codes "state OWN\\DEV\\A Started"
    ∷ codes "listed OWN\\DEV\\A"
    ∷ codes "event plug OWN\\DEV\\D"
    ∷ codes "join 2 OWN\\DEV\\D"
    ∷ codes "listed HTREE\\ROOT\\0"
    ∷ codes "install OWN\\DEV\\D 00ff0000 dev"
    ∷ codes "add OWN\\DEV\\D dev ok"
    ∷ codes "nofit OWN\\DEV\\D"
    ∷ codes "begin rebalance OWN\\DEV\\D"
    ∷ codes "QUERY_STOP_DEVICE OWN\\DEV\\A dev ok"
    ∷ codes "state OWN\\DEV\\A StopPending"
    ∷ codes "fits OWN\\DEV\\D"
    ∷ codes "STOP_DEVICE OWN\\DEV\\A dev ok"
    ∷ codes "state OWN\\DEV\\A Stopped"
    ∷ codes "commit 2"
    ∷ codes "START_DEVICE OWN\\DEV\\A dev ok"
    ∷ codes "state OWN\\DEV\\A Started"
    ∷ codes "end rebalance OWN\\DEV\\D moved"
    ∷ codes "START_DEVICE OWN\\DEV\\D dev ok"
    ∷ codes "state OWN\\DEV\\D Started"
    ∷ codes "listed OWN\\DEV\\D"
    ∷ codes "tree"
    ∷ codes "0 HTREE\\ROOT\\0 Started"
    ∷ codes " 1 OWN\\DEV\\A Started"
    ∷ codes " 2 OWN\\DEV\\D Started"
    ∷ codes "map"
    ∷ codes "irq:5-5 OWN\\DEV\\D"
    ∷ codes "irq:6-6 OWN\\DEV\\A"
    ∷ codes "outstanding"
    ∷ []

abbrev row_rebalance_problems : List SearchProblem
row_rebalance_problems =
    record { fixed = []; movers = (((record { kind = kinds.Irq; min = 5; max = 6; len = 1; align = 1; shared = false } ∷ []) ∷ []) ∷ []) ∷ [] }
    ∷ record { fixed = record { kind = kinds.Irq; lo = 5; hi = 5; shared = false } ∷ []; movers = (((record { kind = kinds.Irq; min = 5; max = 5; len = 1; align = 1; shared = false } ∷ []) ∷ []) ∷ []) ∷ [] }
    ∷ record { fixed = []; movers = (((record { kind = kinds.Irq; min = 5; max = 5; len = 1; align = 1; shared = false } ∷ []) ∷ []) ∷ []) ∷ (((record { kind = kinds.Irq; min = 5; max = 6; len = 1; align = 1; shared = false } ∷ []) ∷ []) ∷ []) ∷ [] }
    ∷ []

pub row_rebalance : lines (traced (settings_of row_rebalance_known) 200 (opening small_rack) row_rebalance_found row_rebalance_events) ≡ row_rebalance_lines
unfolding digits
row_rebalance = refl

pub row_rebalance_asks : (traced (settings_of row_rebalance_known) 200 (opening small_rack) row_rebalance_found row_rebalance_events).problems ≡ row_rebalance_problems
row_rebalance_asks = refl

-- refusal
abbrev row_refusal_known : List Known
row_refusal_known = record { id = codes "OWN\\HARD"; choice = record { rank = 16711680; lower = []; service = Some (codes "hard"); upper = [] } } ∷ record { id = codes "OWN\\DEV"; choice = record { rank = 16711680; lower = []; service = Some (codes "dev"); upper = [] } } ∷ []

abbrev row_refusal_found : List Found
row_refusal_found = assignment ((record { kind = kinds.Irq; lo = 5; hi = 5; shared = false } ∷ []) ∷ []) ∷ no_fit ∷ no_fit ∷ []

abbrev row_refusal_events : List Event
row_refusal_events =
    Event.Name (codes "hard") DriverKind.Stubborn
    ∷ Event.Name (codes "dev") DriverKind.Steady
    ∷ Event.Plug (codes "HTREE\\ROOT\\0") (codes "OWN\\HARD\\A") (codes "OWN\\HARD" ∷ []) ([]) (((record { kind = kinds.Irq; min = 5; max = 6; len = 1; align = 1; shared = false } ∷ []) ∷ []) ∷ [])
    ∷ Event.Plug (codes "HTREE\\ROOT\\0") (codes "OWN\\DEV\\D") (codes "OWN\\DEV" ∷ []) ([]) (((record { kind = kinds.Irq; min = 5; max = 5; len = 1; align = 1; shared = false } ∷ []) ∷ []) ∷ [])
    ∷ []

abbrev row_refusal_lines : List Text
row_refusal_lines =
    codes "event driver hard"
    ∷ codes "event driver dev"
    ∷ codes "event plug OWN\\HARD\\A"
    ∷ codes "join 1 OWN\\HARD\\A"
    ∷ codes "listed HTREE\\ROOT\\0"
    ∷ codes "install OWN\\HARD\\A 00ff0000 hard"
    ∷ codes "add OWN\\HARD\\A hard ok"
    ∷ codes "assign OWN\\HARD\\A irq:5-5"
    ∷ codes "START_DEVICE OWN\\HARD\\A hard ok"
    ∷ codes "state OWN\\HARD\\A Started"
    ∷ codes "listed OWN\\HARD\\A"
    ∷ codes "event plug OWN\\DEV\\D"
    ∷ codes "join 2 OWN\\DEV\\D"
    ∷ codes "listed HTREE\\ROOT\\0"
    ∷ codes "install OWN\\DEV\\D 00ff0000 dev"
    ∷ codes "add OWN\\DEV\\D dev ok"
    ∷ codes "nofit OWN\\DEV\\D"
    ∷ codes "begin rebalance OWN\\DEV\\D"
    ∷ codes "QUERY_STOP_DEVICE OWN\\HARD\\A hard fail"
    ∷ codes "state OWN\\HARD\\A Started"
    ∷ codes "CANCEL_STOP_DEVICE OWN\\HARD\\A hard ok"
    ∷ codes "state OWN\\HARD\\A Started"
    ∷ codes "nofit OWN\\DEV\\D"
    ∷ codes "problem OWN\\DEV\\D 12"
    ∷ codes "end rebalance OWN\\DEV\\D nofit"
    ∷ codes "REMOVE_DEVICE OWN\\DEV\\D dev ok"
    ∷ codes "state OWN\\DEV\\D NoStack"
    ∷ codes "tree"
    ∷ codes "0 HTREE\\ROOT\\0 Started"
    ∷ codes " 1 OWN\\HARD\\A Started"
    ∷ codes " 2 OWN\\DEV\\D NoStack problem 12"
    ∷ codes "map"
    ∷ codes "irq:5-5 OWN\\HARD\\A"
    ∷ codes "outstanding"
    ∷ []

abbrev row_refusal_problems : List SearchProblem
row_refusal_problems =
    record { fixed = []; movers = (((record { kind = kinds.Irq; min = 5; max = 6; len = 1; align = 1; shared = false } ∷ []) ∷ []) ∷ []) ∷ [] }
    ∷ record { fixed = record { kind = kinds.Irq; lo = 5; hi = 5; shared = false } ∷ []; movers = (((record { kind = kinds.Irq; min = 5; max = 5; len = 1; align = 1; shared = false } ∷ []) ∷ []) ∷ []) ∷ [] }
    ∷ record { fixed = record { kind = kinds.Irq; lo = 5; hi = 5; shared = false } ∷ []; movers = (((record { kind = kinds.Irq; min = 5; max = 5; len = 1; align = 1; shared = false } ∷ []) ∷ []) ∷ []) ∷ [] }
    ∷ []

pub row_refusal : lines (traced (settings_of row_refusal_known) 200 (opening small_rack) row_refusal_found row_refusal_events) ≡ row_refusal_lines
unfolding digits
row_refusal = refl

pub row_refusal_asks : (traced (settings_of row_refusal_known) 200 (opening small_rack) row_refusal_found row_refusal_events).problems ≡ row_refusal_problems
row_refusal_asks = refl

-- chain
abbrev row_chain_known : List Known
row_chain_known = record { id = codes "OWN\\DEV"; choice = record { rank = 16711680; lower = []; service = Some (codes "dev"); upper = [] } } ∷ []

abbrev row_chain_found : List Found
row_chain_found = assignment ((record { kind = kinds.Irq; lo = 3; hi = 3; shared = false } ∷ []) ∷ []) ∷ assignment ((record { kind = kinds.Irq; lo = 4; hi = 4; shared = false } ∷ []) ∷ []) ∷ no_fit ∷ assignment ((record { kind = kinds.Irq; lo = 3; hi = 3; shared = false } ∷ []) ∷ (record { kind = kinds.Irq; lo = 4; hi = 4; shared = false } ∷ []) ∷ (record { kind = kinds.Irq; lo = 5; hi = 5; shared = false } ∷ []) ∷ []) ∷ []

abbrev row_chain_events : List Event
row_chain_events =
    Event.Name (codes "dev") DriverKind.Steady
    ∷ Event.Plug (codes "HTREE\\ROOT\\0") (codes "OWN\\DEV\\A") (codes "OWN\\DEV" ∷ []) ([]) (((record { kind = kinds.Irq; min = 3; max = 4; len = 1; align = 1; shared = false } ∷ []) ∷ []) ∷ [])
    ∷ Event.Plug (codes "HTREE\\ROOT\\0") (codes "OWN\\DEV\\B") (codes "OWN\\DEV" ∷ []) ([]) (((record { kind = kinds.Irq; min = 4; max = 5; len = 1; align = 1; shared = false } ∷ []) ∷ []) ∷ [])
    ∷ Event.Plug (codes "HTREE\\ROOT\\0") (codes "OWN\\DEV\\D") (codes "OWN\\DEV" ∷ []) ([]) (((record { kind = kinds.Irq; min = 3; max = 3; len = 1; align = 1; shared = false } ∷ []) ∷ []) ∷ [])
    ∷ []

abbrev row_chain_lines : List Text
row_chain_lines =
    codes "event driver dev"
    ∷ codes "event plug OWN\\DEV\\A"
    ∷ codes "join 1 OWN\\DEV\\A"
    ∷ codes "listed HTREE\\ROOT\\0"
    ∷ codes "install OWN\\DEV\\A 00ff0000 dev"
    ∷ codes "add OWN\\DEV\\A dev ok"
    ∷ codes "assign OWN\\DEV\\A irq:3-3"
    ∷ codes "START_DEVICE OWN\\DEV\\A dev ok"
    ∷ codes "state OWN\\DEV\\A Started"
    ∷ codes "listed OWN\\DEV\\A"
    ∷ codes "event plug OWN\\DEV\\B"
    ∷ codes "join 2 OWN\\DEV\\B"
    ∷ codes "listed HTREE\\ROOT\\0"
    ∷ codes "install OWN\\DEV\\B 00ff0000 dev"
    ∷ codes "add OWN\\DEV\\B dev ok"
    ∷ codes "assign OWN\\DEV\\B irq:4-4"
    ∷ codes "START_DEVICE OWN\\DEV\\B dev ok"
    ∷ codes "state OWN\\DEV\\B Started"
    ∷ codes "listed OWN\\DEV\\B"
    ∷ codes "event plug OWN\\DEV\\D"
    ∷ codes "join 3 OWN\\DEV\\D"
    ∷ codes "listed HTREE\\ROOT\\0"
    ∷ codes "install OWN\\DEV\\D 00ff0000 dev"
    ∷ codes "add OWN\\DEV\\D dev ok"
    ∷ codes "nofit OWN\\DEV\\D"
    ∷ codes "begin rebalance OWN\\DEV\\D"
    ∷ codes "QUERY_STOP_DEVICE OWN\\DEV\\B dev ok"
    ∷ codes "state OWN\\DEV\\B StopPending"
    ∷ codes "QUERY_STOP_DEVICE OWN\\DEV\\A dev ok"
    ∷ codes "state OWN\\DEV\\A StopPending"
    ∷ codes "fits OWN\\DEV\\D"
    ∷ codes "STOP_DEVICE OWN\\DEV\\B dev ok"
    ∷ codes "state OWN\\DEV\\B Stopped"
    ∷ codes "STOP_DEVICE OWN\\DEV\\A dev ok"
    ∷ codes "state OWN\\DEV\\A Stopped"
    ∷ codes "commit 3"
    ∷ codes "START_DEVICE OWN\\DEV\\A dev ok"
    ∷ codes "state OWN\\DEV\\A Started"
    ∷ codes "START_DEVICE OWN\\DEV\\B dev ok"
    ∷ codes "state OWN\\DEV\\B Started"
    ∷ codes "end rebalance OWN\\DEV\\D moved"
    ∷ codes "START_DEVICE OWN\\DEV\\D dev ok"
    ∷ codes "state OWN\\DEV\\D Started"
    ∷ codes "listed OWN\\DEV\\D"
    ∷ codes "tree"
    ∷ codes "0 HTREE\\ROOT\\0 Started"
    ∷ codes " 1 OWN\\DEV\\A Started"
    ∷ codes " 2 OWN\\DEV\\B Started"
    ∷ codes " 3 OWN\\DEV\\D Started"
    ∷ codes "map"
    ∷ codes "irq:3-3 OWN\\DEV\\D"
    ∷ codes "irq:4-4 OWN\\DEV\\A"
    ∷ codes "irq:5-5 OWN\\DEV\\B"
    ∷ codes "outstanding"
    ∷ []

abbrev row_chain_problems : List SearchProblem
row_chain_problems =
    record { fixed = []; movers = (((record { kind = kinds.Irq; min = 3; max = 4; len = 1; align = 1; shared = false } ∷ []) ∷ []) ∷ []) ∷ [] }
    ∷ record { fixed = record { kind = kinds.Irq; lo = 3; hi = 3; shared = false } ∷ []; movers = (((record { kind = kinds.Irq; min = 4; max = 5; len = 1; align = 1; shared = false } ∷ []) ∷ []) ∷ []) ∷ [] }
    ∷ record { fixed = record { kind = kinds.Irq; lo = 3; hi = 3; shared = false } ∷ record { kind = kinds.Irq; lo = 4; hi = 4; shared = false } ∷ []; movers = (((record { kind = kinds.Irq; min = 3; max = 3; len = 1; align = 1; shared = false } ∷ []) ∷ []) ∷ []) ∷ [] }
    ∷ record { fixed = []; movers = (((record { kind = kinds.Irq; min = 3; max = 3; len = 1; align = 1; shared = false } ∷ []) ∷ []) ∷ []) ∷ (((record { kind = kinds.Irq; min = 3; max = 4; len = 1; align = 1; shared = false } ∷ []) ∷ []) ∷ []) ∷ (((record { kind = kinds.Irq; min = 4; max = 5; len = 1; align = 1; shared = false } ∷ []) ∷ []) ∷ []) ∷ [] }
    ∷ []

pub row_chain : lines (traced (settings_of row_chain_known) 200 (opening small_rack) row_chain_found row_chain_events) ≡ row_chain_lines
unfolding digits
row_chain = refl

pub row_chain_asks : (traced (settings_of row_chain_known) 200 (opening small_rack) row_chain_found row_chain_events).problems ≡ row_chain_problems
row_chain_asks = refl

-- chain within a budget of six
abbrev row_chain_within_a_budget_of_six_known : List Known
row_chain_within_a_budget_of_six_known = record { id = codes "OWN\\DEV"; choice = record { rank = 16711680; lower = []; service = Some (codes "dev"); upper = [] } } ∷ []

abbrev row_chain_within_a_budget_of_six_found : List Found
row_chain_within_a_budget_of_six_found = assignment ((record { kind = kinds.Irq; lo = 3; hi = 3; shared = false } ∷ []) ∷ []) ∷ assignment ((record { kind = kinds.Irq; lo = 4; hi = 4; shared = false } ∷ []) ∷ []) ∷ no_fit ∷ assignment ((record { kind = kinds.Irq; lo = 3; hi = 3; shared = false } ∷ []) ∷ (record { kind = kinds.Irq; lo = 4; hi = 4; shared = false } ∷ []) ∷ (record { kind = kinds.Irq; lo = 5; hi = 5; shared = false } ∷ []) ∷ []) ∷ []

abbrev row_chain_within_a_budget_of_six_events : List Event
row_chain_within_a_budget_of_six_events =
    Event.Name (codes "dev") DriverKind.Steady
    ∷ Event.Plug (codes "HTREE\\ROOT\\0") (codes "OWN\\DEV\\A") (codes "OWN\\DEV" ∷ []) ([]) (((record { kind = kinds.Irq; min = 3; max = 4; len = 1; align = 1; shared = false } ∷ []) ∷ []) ∷ [])
    ∷ Event.Plug (codes "HTREE\\ROOT\\0") (codes "OWN\\DEV\\B") (codes "OWN\\DEV" ∷ []) ([]) (((record { kind = kinds.Irq; min = 4; max = 5; len = 1; align = 1; shared = false } ∷ []) ∷ []) ∷ [])
    ∷ Event.Plug (codes "HTREE\\ROOT\\0") (codes "OWN\\DEV\\D") (codes "OWN\\DEV" ∷ []) ([]) (((record { kind = kinds.Irq; min = 3; max = 3; len = 1; align = 1; shared = false } ∷ []) ∷ []) ∷ [])
    ∷ []

abbrev row_chain_within_a_budget_of_six_lines : List Text
row_chain_within_a_budget_of_six_lines =
    codes "event driver dev"
    ∷ codes "event plug OWN\\DEV\\A"
    ∷ codes "join 1 OWN\\DEV\\A"
    ∷ codes "listed HTREE\\ROOT\\0"
    ∷ codes "install OWN\\DEV\\A 00ff0000 dev"
    ∷ codes "add OWN\\DEV\\A dev ok"
    ∷ codes "assign OWN\\DEV\\A irq:3-3"
    ∷ codes "START_DEVICE OWN\\DEV\\A dev ok"
    ∷ codes "state OWN\\DEV\\A Started"
    ∷ codes "listed OWN\\DEV\\A"
    ∷ codes "event plug OWN\\DEV\\B"
    ∷ codes "join 2 OWN\\DEV\\B"
    ∷ codes "listed HTREE\\ROOT\\0"
    ∷ codes "install OWN\\DEV\\B 00ff0000 dev"
    ∷ codes "add OWN\\DEV\\B dev ok"
    ∷ codes "assign OWN\\DEV\\B irq:4-4"
    ∷ codes "START_DEVICE OWN\\DEV\\B dev ok"
    ∷ codes "state OWN\\DEV\\B Started"
    ∷ codes "listed OWN\\DEV\\B"
    ∷ codes "event plug OWN\\DEV\\D"
    ∷ codes "join 3 OWN\\DEV\\D"
    ∷ codes "listed HTREE\\ROOT\\0"
    ∷ codes "install OWN\\DEV\\D 00ff0000 dev"
    ∷ codes "add OWN\\DEV\\D dev ok"
    ∷ codes "nofit OWN\\DEV\\D"
    ∷ codes "begin rebalance OWN\\DEV\\D"
    ∷ codes "QUERY_STOP_DEVICE OWN\\DEV\\B dev ok"
    ∷ codes "state OWN\\DEV\\B StopPending"
    ∷ codes "QUERY_STOP_DEVICE OWN\\DEV\\A dev ok"
    ∷ codes "state OWN\\DEV\\A StopPending"
    ∷ codes "fits OWN\\DEV\\D"
    ∷ codes "STOP_DEVICE OWN\\DEV\\B dev ok"
    ∷ codes "state OWN\\DEV\\B Stopped"
    ∷ codes "STOP_DEVICE OWN\\DEV\\A dev ok"
    ∷ codes "state OWN\\DEV\\A Stopped"
    ∷ codes "commit 3"
    ∷ codes "START_DEVICE OWN\\DEV\\A dev ok"
    ∷ codes "state OWN\\DEV\\A Started"
    ∷ codes "START_DEVICE OWN\\DEV\\B dev ok"
    ∷ codes "state OWN\\DEV\\B Started"
    ∷ codes "end rebalance OWN\\DEV\\D moved"
    ∷ codes "START_DEVICE OWN\\DEV\\D dev ok"
    ∷ codes "state OWN\\DEV\\D Started"
    ∷ codes "listed OWN\\DEV\\D"
    ∷ codes "tree"
    ∷ codes "0 HTREE\\ROOT\\0 Started"
    ∷ codes " 1 OWN\\DEV\\A Started"
    ∷ codes " 2 OWN\\DEV\\B Started"
    ∷ codes " 3 OWN\\DEV\\D Started"
    ∷ codes "map"
    ∷ codes "irq:3-3 OWN\\DEV\\D"
    ∷ codes "irq:4-4 OWN\\DEV\\A"
    ∷ codes "irq:5-5 OWN\\DEV\\B"
    ∷ codes "outstanding"
    ∷ []

abbrev row_chain_within_a_budget_of_six_problems : List SearchProblem
row_chain_within_a_budget_of_six_problems =
    record { fixed = []; movers = (((record { kind = kinds.Irq; min = 3; max = 4; len = 1; align = 1; shared = false } ∷ []) ∷ []) ∷ []) ∷ [] }
    ∷ record { fixed = record { kind = kinds.Irq; lo = 3; hi = 3; shared = false } ∷ []; movers = (((record { kind = kinds.Irq; min = 4; max = 5; len = 1; align = 1; shared = false } ∷ []) ∷ []) ∷ []) ∷ [] }
    ∷ record { fixed = record { kind = kinds.Irq; lo = 3; hi = 3; shared = false } ∷ record { kind = kinds.Irq; lo = 4; hi = 4; shared = false } ∷ []; movers = (((record { kind = kinds.Irq; min = 3; max = 3; len = 1; align = 1; shared = false } ∷ []) ∷ []) ∷ []) ∷ [] }
    ∷ record { fixed = []; movers = (((record { kind = kinds.Irq; min = 3; max = 3; len = 1; align = 1; shared = false } ∷ []) ∷ []) ∷ []) ∷ (((record { kind = kinds.Irq; min = 3; max = 4; len = 1; align = 1; shared = false } ∷ []) ∷ []) ∷ []) ∷ (((record { kind = kinds.Irq; min = 4; max = 5; len = 1; align = 1; shared = false } ∷ []) ∷ []) ∷ []) ∷ [] }
    ∷ []

pub row_chain_within_a_budget_of_six : lines (traced (settings_of row_chain_within_a_budget_of_six_known) 200 (opening small_rack) row_chain_within_a_budget_of_six_found row_chain_within_a_budget_of_six_events) ≡ row_chain_within_a_budget_of_six_lines
unfolding digits
row_chain_within_a_budget_of_six = refl

pub row_chain_within_a_budget_of_six_asks : (traced (settings_of row_chain_within_a_budget_of_six_known) 200 (opening small_rack) row_chain_within_a_budget_of_six_found row_chain_within_a_budget_of_six_events).problems ≡ row_chain_within_a_budget_of_six_problems
row_chain_within_a_budget_of_six_asks = refl

-- chain over a budget of five
abbrev pub row_chain_over_a_budget_of_five_known : List Known
row_chain_over_a_budget_of_five_known = record { id = codes "OWN\\DEV"; choice = record { rank = 16711680; lower = []; service = Some (codes "dev"); upper = [] } } ∷ []

abbrev pub row_chain_over_a_budget_of_five_found : List Found
row_chain_over_a_budget_of_five_found = assignment ((record { kind = kinds.Irq; lo = 3; hi = 3; shared = false } ∷ []) ∷ []) ∷ assignment ((record { kind = kinds.Irq; lo = 4; hi = 4; shared = false } ∷ []) ∷ []) ∷ no_fit ∷ spent ∷ []

abbrev pub row_chain_over_a_budget_of_five_events : List Event
row_chain_over_a_budget_of_five_events =
    Event.Name (codes "dev") DriverKind.Steady
    ∷ Event.Plug (codes "HTREE\\ROOT\\0") (codes "OWN\\DEV\\A") (codes "OWN\\DEV" ∷ []) ([]) (((record { kind = kinds.Irq; min = 3; max = 4; len = 1; align = 1; shared = false } ∷ []) ∷ []) ∷ [])
    ∷ Event.Plug (codes "HTREE\\ROOT\\0") (codes "OWN\\DEV\\B") (codes "OWN\\DEV" ∷ []) ([]) (((record { kind = kinds.Irq; min = 4; max = 5; len = 1; align = 1; shared = false } ∷ []) ∷ []) ∷ [])
    ∷ Event.Plug (codes "HTREE\\ROOT\\0") (codes "OWN\\DEV\\D") (codes "OWN\\DEV" ∷ []) ([]) (((record { kind = kinds.Irq; min = 3; max = 3; len = 1; align = 1; shared = false } ∷ []) ∷ []) ∷ [])
    ∷ []

abbrev pub row_chain_over_a_budget_of_five_lines : List Text
row_chain_over_a_budget_of_five_lines =
    codes "event driver dev"
    ∷ codes "event plug OWN\\DEV\\A"
    ∷ codes "join 1 OWN\\DEV\\A"
    ∷ codes "listed HTREE\\ROOT\\0"
    ∷ codes "install OWN\\DEV\\A 00ff0000 dev"
    ∷ codes "add OWN\\DEV\\A dev ok"
    ∷ codes "assign OWN\\DEV\\A irq:3-3"
    ∷ codes "START_DEVICE OWN\\DEV\\A dev ok"
    ∷ codes "state OWN\\DEV\\A Started"
    ∷ codes "listed OWN\\DEV\\A"
    ∷ codes "event plug OWN\\DEV\\B"
    ∷ codes "join 2 OWN\\DEV\\B"
    ∷ codes "listed HTREE\\ROOT\\0"
    ∷ codes "install OWN\\DEV\\B 00ff0000 dev"
    ∷ codes "add OWN\\DEV\\B dev ok"
    ∷ codes "assign OWN\\DEV\\B irq:4-4"
    ∷ codes "START_DEVICE OWN\\DEV\\B dev ok"
    ∷ codes "state OWN\\DEV\\B Started"
    ∷ codes "listed OWN\\DEV\\B"
    ∷ codes "event plug OWN\\DEV\\D"
    ∷ codes "join 3 OWN\\DEV\\D"
    ∷ codes "listed HTREE\\ROOT\\0"
    ∷ codes "install OWN\\DEV\\D 00ff0000 dev"
    ∷ codes "add OWN\\DEV\\D dev ok"
    ∷ codes "nofit OWN\\DEV\\D"
    ∷ codes "begin rebalance OWN\\DEV\\D"
    ∷ codes "QUERY_STOP_DEVICE OWN\\DEV\\B dev ok"
    ∷ codes "state OWN\\DEV\\B StopPending"
    ∷ codes "QUERY_STOP_DEVICE OWN\\DEV\\A dev ok"
    ∷ codes "state OWN\\DEV\\A StopPending"
    ∷ codes "spent OWN\\DEV\\D"
    ∷ codes "CANCEL_STOP_DEVICE OWN\\DEV\\A dev ok"
    ∷ codes "state OWN\\DEV\\A Started"
    ∷ codes "CANCEL_STOP_DEVICE OWN\\DEV\\B dev ok"
    ∷ codes "state OWN\\DEV\\B Started"
    ∷ codes "problem OWN\\DEV\\D budget"
    ∷ codes "end rebalance OWN\\DEV\\D spent"
    ∷ codes "REMOVE_DEVICE OWN\\DEV\\D dev ok"
    ∷ codes "state OWN\\DEV\\D NoStack"
    ∷ codes "tree"
    ∷ codes "0 HTREE\\ROOT\\0 Started"
    ∷ codes " 1 OWN\\DEV\\A Started"
    ∷ codes " 2 OWN\\DEV\\B Started"
    ∷ codes " 3 OWN\\DEV\\D NoStack problem budget"
    ∷ codes "map"
    ∷ codes "irq:3-3 OWN\\DEV\\A"
    ∷ codes "irq:4-4 OWN\\DEV\\B"
    ∷ codes "outstanding"
    ∷ []

abbrev row_chain_over_a_budget_of_five_problems : List SearchProblem
row_chain_over_a_budget_of_five_problems =
    record { fixed = []; movers = (((record { kind = kinds.Irq; min = 3; max = 4; len = 1; align = 1; shared = false } ∷ []) ∷ []) ∷ []) ∷ [] }
    ∷ record { fixed = record { kind = kinds.Irq; lo = 3; hi = 3; shared = false } ∷ []; movers = (((record { kind = kinds.Irq; min = 4; max = 5; len = 1; align = 1; shared = false } ∷ []) ∷ []) ∷ []) ∷ [] }
    ∷ record { fixed = record { kind = kinds.Irq; lo = 3; hi = 3; shared = false } ∷ record { kind = kinds.Irq; lo = 4; hi = 4; shared = false } ∷ []; movers = (((record { kind = kinds.Irq; min = 3; max = 3; len = 1; align = 1; shared = false } ∷ []) ∷ []) ∷ []) ∷ [] }
    ∷ record { fixed = []; movers = (((record { kind = kinds.Irq; min = 3; max = 3; len = 1; align = 1; shared = false } ∷ []) ∷ []) ∷ []) ∷ (((record { kind = kinds.Irq; min = 3; max = 4; len = 1; align = 1; shared = false } ∷ []) ∷ []) ∷ []) ∷ (((record { kind = kinds.Irq; min = 4; max = 5; len = 1; align = 1; shared = false } ∷ []) ∷ []) ∷ []) ∷ [] }
    ∷ []

pub row_chain_over_a_budget_of_five : lines (traced (settings_of row_chain_over_a_budget_of_five_known) 200 (opening small_rack) row_chain_over_a_budget_of_five_found row_chain_over_a_budget_of_five_events) ≡ row_chain_over_a_budget_of_five_lines
unfolding digits
row_chain_over_a_budget_of_five = refl

pub row_chain_over_a_budget_of_five_asks : (traced (settings_of row_chain_over_a_budget_of_five_known) 200 (opening small_rack) row_chain_over_a_budget_of_five_found row_chain_over_a_budget_of_five_events).problems ≡ row_chain_over_a_budget_of_five_problems
row_chain_over_a_budget_of_five_asks = refl

-- sharing
abbrev row_sharing_known : List Known
row_sharing_known = record { id = codes "OWN\\HARD"; choice = record { rank = 16711680; lower = []; service = Some (codes "hard"); upper = [] } } ∷ record { id = codes "OWN\\DEV"; choice = record { rank = 16711680; lower = []; service = Some (codes "dev"); upper = [] } } ∷ []

abbrev row_sharing_found : List Found
row_sharing_found = assignment ((record { kind = kinds.Irq; lo = 9; hi = 9; shared = true } ∷ []) ∷ []) ∷ assignment ((record { kind = kinds.Irq; lo = 9; hi = 9; shared = true } ∷ []) ∷ []) ∷ no_fit ∷ no_fit ∷ []

abbrev row_sharing_events : List Event
row_sharing_events =
    Event.Name (codes "hard") DriverKind.Stubborn
    ∷ Event.Name (codes "dev") DriverKind.Steady
    ∷ Event.Plug (codes "HTREE\\ROOT\\0") (codes "OWN\\HARD\\1") (codes "OWN\\HARD" ∷ []) ([]) (((record { kind = kinds.Irq; min = 9; max = 9; len = 1; align = 1; shared = true } ∷ []) ∷ []) ∷ [])
    ∷ Event.Plug (codes "HTREE\\ROOT\\0") (codes "OWN\\HARD\\2") (codes "OWN\\HARD" ∷ []) ([]) (((record { kind = kinds.Irq; min = 9; max = 9; len = 1; align = 1; shared = true } ∷ []) ∷ []) ∷ [])
    ∷ Event.Plug (codes "HTREE\\ROOT\\0") (codes "OWN\\DEV\\3") (codes "OWN\\DEV" ∷ []) ([]) (((record { kind = kinds.Irq; min = 9; max = 9; len = 1; align = 1; shared = false } ∷ []) ∷ []) ∷ [])
    ∷ []

abbrev row_sharing_lines : List Text
row_sharing_lines =
    codes "event driver hard"
    ∷ codes "event driver dev"
    ∷ codes "event plug OWN\\HARD\\1"
    ∷ codes "join 1 OWN\\HARD\\1"
    ∷ codes "listed HTREE\\ROOT\\0"
    ∷ codes "install OWN\\HARD\\1 00ff0000 hard"
    ∷ codes "add OWN\\HARD\\1 hard ok"
    ∷ codes "assign OWN\\HARD\\1 irq:9-9:shared"
    ∷ codes "START_DEVICE OWN\\HARD\\1 hard ok"
    ∷ codes "state OWN\\HARD\\1 Started"
    ∷ codes "listed OWN\\HARD\\1"
    ∷ codes "event plug OWN\\HARD\\2"
    ∷ codes "join 2 OWN\\HARD\\2"
    ∷ codes "listed HTREE\\ROOT\\0"
    ∷ codes "install OWN\\HARD\\2 00ff0000 hard"
    ∷ codes "add OWN\\HARD\\2 hard ok"
    ∷ codes "assign OWN\\HARD\\2 irq:9-9:shared"
    ∷ codes "START_DEVICE OWN\\HARD\\2 hard ok"
    ∷ codes "state OWN\\HARD\\2 Started"
    ∷ codes "listed OWN\\HARD\\2"
    ∷ codes "event plug OWN\\DEV\\3"
    ∷ codes "join 3 OWN\\DEV\\3"
    ∷ codes "listed HTREE\\ROOT\\0"
    ∷ codes "install OWN\\DEV\\3 00ff0000 dev"
    ∷ codes "add OWN\\DEV\\3 dev ok"
    ∷ codes "nofit OWN\\DEV\\3"
    ∷ codes "begin rebalance OWN\\DEV\\3"
    ∷ codes "QUERY_STOP_DEVICE OWN\\HARD\\2 hard fail"
    ∷ codes "state OWN\\HARD\\2 Started"
    ∷ codes "CANCEL_STOP_DEVICE OWN\\HARD\\2 hard ok"
    ∷ codes "state OWN\\HARD\\2 Started"
    ∷ codes "QUERY_STOP_DEVICE OWN\\HARD\\1 hard fail"
    ∷ codes "state OWN\\HARD\\1 Started"
    ∷ codes "CANCEL_STOP_DEVICE OWN\\HARD\\1 hard ok"
    ∷ codes "state OWN\\HARD\\1 Started"
    ∷ codes "nofit OWN\\DEV\\3"
    ∷ codes "problem OWN\\DEV\\3 12"
    ∷ codes "end rebalance OWN\\DEV\\3 nofit"
    ∷ codes "REMOVE_DEVICE OWN\\DEV\\3 dev ok"
    ∷ codes "state OWN\\DEV\\3 NoStack"
    ∷ codes "tree"
    ∷ codes "0 HTREE\\ROOT\\0 Started"
    ∷ codes " 1 OWN\\HARD\\1 Started"
    ∷ codes " 2 OWN\\HARD\\2 Started"
    ∷ codes " 3 OWN\\DEV\\3 NoStack problem 12"
    ∷ codes "map"
    ∷ codes "irq:9-9:shared OWN\\HARD\\1"
    ∷ codes "irq:9-9:shared OWN\\HARD\\2"
    ∷ codes "outstanding"
    ∷ []

abbrev row_sharing_problems : List SearchProblem
row_sharing_problems =
    record { fixed = []; movers = (((record { kind = kinds.Irq; min = 9; max = 9; len = 1; align = 1; shared = true } ∷ []) ∷ []) ∷ []) ∷ [] }
    ∷ record { fixed = record { kind = kinds.Irq; lo = 9; hi = 9; shared = true } ∷ []; movers = (((record { kind = kinds.Irq; min = 9; max = 9; len = 1; align = 1; shared = true } ∷ []) ∷ []) ∷ []) ∷ [] }
    ∷ record { fixed = record { kind = kinds.Irq; lo = 9; hi = 9; shared = true } ∷ record { kind = kinds.Irq; lo = 9; hi = 9; shared = true } ∷ []; movers = (((record { kind = kinds.Irq; min = 9; max = 9; len = 1; align = 1; shared = false } ∷ []) ∷ []) ∷ []) ∷ [] }
    ∷ record { fixed = record { kind = kinds.Irq; lo = 9; hi = 9; shared = true } ∷ record { kind = kinds.Irq; lo = 9; hi = 9; shared = true } ∷ []; movers = (((record { kind = kinds.Irq; min = 9; max = 9; len = 1; align = 1; shared = false } ∷ []) ∷ []) ∷ []) ∷ [] }
    ∷ []

pub row_sharing : lines (traced (settings_of row_sharing_known) 200 (opening small_rack) row_sharing_found row_sharing_events) ≡ row_sharing_lines
unfolding digits
row_sharing = refl

pub row_sharing_asks : (traced (settings_of row_sharing_known) 200 (opening small_rack) row_sharing_found row_sharing_events).problems ≡ row_sharing_problems
row_sharing_asks = refl
