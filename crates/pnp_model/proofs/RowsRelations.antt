-- Relations: whole outputs, as the definition computes them.
use Rattle.std.proofs.Common.{List, [], ◌∷◌, Some, ◌≡◌, refl}
use Rattle.std.specs.Prelude.{codes}
use Rattle.std.specs.Fmt.{digits}
use Rattle.resource_reqs.specs.Spelling.Answer.{assignment}
use Rattle.pnp_model.specs.Records.{Found, SearchProblem}
use Rattle.pnp_labels.specs.Texts.{Text}
use Rattle.pnp_labels.specs.declared.event.Event.{Event}
use Rattle.pnp_labels.specs.declared.words.DriverKind.{DriverKind}
use Rattle.pnp_model.specs.Runs.{traced, opening}
use Rattle.pnp_model.specs.Endings.{lines}
use Rattle.pnp_model.proofs.RowBase.{settings_of, small_rack, Known}
use Rattle.pnp_labels.specs.declared.words.RelKind.{RelKind}

-- held by a disable
abbrev row_held_by_a_disable_known : List Known
row_held_by_a_disable_known = record { id = codes "OWN\\DEV"; choice = record { rank = 16711680; lower = []; service = Some (codes "dev"); upper = [] } } ∷ []

abbrev row_held_by_a_disable_found : List Found
row_held_by_a_disable_found = assignment (([]) ∷ []) ∷ assignment (([]) ∷ []) ∷ []

abbrev row_held_by_a_disable_events : List Event
row_held_by_a_disable_events =
    Event.Name (codes "dev") DriverKind.Steady
    ∷ Event.Plug (codes "HTREE\\ROOT\\0") (codes "OWN\\DEV\\A") (codes "OWN\\DEV" ∷ []) ([]) ([])
    ∷ Event.Plug (codes "HTREE\\ROOT\\0") (codes "OWN\\DEV\\B") (codes "OWN\\DEV" ∷ []) ([]) ([])
    ∷ Event.Relate RelKind.Ejection (codes "OWN\\DEV\\B") (codes "OWN\\DEV\\A")
    ∷ Event.Disable (codes "OWN\\DEV\\B")
    ∷ []

abbrev row_held_by_a_disable_lines : List Text
row_held_by_a_disable_lines =
    codes "event driver dev"
    ∷ codes "event plug OWN\\DEV\\A"
    ∷ codes "join 1 OWN\\DEV\\A"
    ∷ codes "listed HTREE\\ROOT\\0"
    ∷ codes "install OWN\\DEV\\A 00ff0000 dev"
    ∷ codes "add OWN\\DEV\\A dev ok"
    ∷ codes "assign OWN\\DEV\\A"
    ∷ codes "START_DEVICE OWN\\DEV\\A dev ok"
    ∷ codes "state OWN\\DEV\\A Started"
    ∷ codes "listed OWN\\DEV\\A"
    ∷ codes "event plug OWN\\DEV\\B"
    ∷ codes "join 2 OWN\\DEV\\B"
    ∷ codes "listed HTREE\\ROOT\\0"
    ∷ codes "install OWN\\DEV\\B 00ff0000 dev"
    ∷ codes "add OWN\\DEV\\B dev ok"
    ∷ codes "assign OWN\\DEV\\B"
    ∷ codes "START_DEVICE OWN\\DEV\\B dev ok"
    ∷ codes "state OWN\\DEV\\B Started"
    ∷ codes "listed OWN\\DEV\\B"
    ∷ codes "event relate OWN\\DEV\\B OWN\\DEV\\A"
    ∷ codes "event disable OWN\\DEV\\B"
    ∷ codes "begin disable OWN\\DEV\\B"
    ∷ codes "QUERY_REMOVE_DEVICE OWN\\DEV\\A dev ok"
    ∷ codes "state OWN\\DEV\\A RemovePending"
    ∷ codes "QUERY_REMOVE_DEVICE OWN\\DEV\\B dev ok"
    ∷ codes "state OWN\\DEV\\B RemovePending"
    ∷ codes "REMOVE_DEVICE OWN\\DEV\\A dev ok"
    ∷ codes "state OWN\\DEV\\A NoStack"
    ∷ codes "problem OWN\\DEV\\A held"
    ∷ codes "REMOVE_DEVICE OWN\\DEV\\B dev ok"
    ∷ codes "state OWN\\DEV\\B NoStack"
    ∷ codes "problem OWN\\DEV\\B 22"
    ∷ codes "end disable OWN\\DEV\\B done"
    ∷ codes "tree"
    ∷ codes "0 HTREE\\ROOT\\0 Started"
    ∷ codes " 1 OWN\\DEV\\A NoStack problem held"
    ∷ codes " 2 OWN\\DEV\\B NoStack problem 22"
    ∷ codes "map"
    ∷ codes "outstanding"
    ∷ []

abbrev row_held_by_a_disable_problems : List SearchProblem
row_held_by_a_disable_problems =
    record { fixed = []; movers = ([]) ∷ [] }
    ∷ record { fixed = []; movers = ([]) ∷ [] }
    ∷ []

pub row_held_by_a_disable : lines (traced (settings_of row_held_by_a_disable_known) 200 (opening small_rack) row_held_by_a_disable_found row_held_by_a_disable_events) ≡ row_held_by_a_disable_lines
unfolding digits
row_held_by_a_disable = refl

pub row_held_by_a_disable_asks : (traced (settings_of row_held_by_a_disable_known) 200 (opening small_rack) row_held_by_a_disable_found row_held_by_a_disable_events).problems ≡ row_held_by_a_disable_problems
row_held_by_a_disable_asks = refl

-- relations end
abbrev row_relations_end_known : List Known
row_relations_end_known = record { id = codes "OWN\\DEV"; choice = record { rank = 16711680; lower = []; service = Some (codes "dev"); upper = [] } } ∷ []

abbrev row_relations_end_found : List Found
row_relations_end_found = assignment (([]) ∷ []) ∷ assignment (([]) ∷ []) ∷ assignment (([]) ∷ []) ∷ []

abbrev row_relations_end_events : List Event
row_relations_end_events =
    Event.Name (codes "dev") DriverKind.Steady
    ∷ Event.Plug (codes "HTREE\\ROOT\\0") (codes "OWN\\DEV\\A") (codes "OWN\\DEV" ∷ []) ([]) ([])
    ∷ Event.Plug (codes "HTREE\\ROOT\\0") (codes "OWN\\DEV\\B") (codes "OWN\\DEV" ∷ []) ([]) ([])
    ∷ Event.Relate RelKind.Removal (codes "OWN\\DEV\\B") (codes "OWN\\DEV\\A")
    ∷ Event.Disable (codes "OWN\\DEV\\A")
    ∷ Event.Enable (codes "OWN\\DEV\\A")
    ∷ Event.Disable (codes "OWN\\DEV\\B")
    ∷ []

abbrev row_relations_end_lines : List Text
row_relations_end_lines =
    codes "event driver dev"
    ∷ codes "event plug OWN\\DEV\\A"
    ∷ codes "join 1 OWN\\DEV\\A"
    ∷ codes "listed HTREE\\ROOT\\0"
    ∷ codes "install OWN\\DEV\\A 00ff0000 dev"
    ∷ codes "add OWN\\DEV\\A dev ok"
    ∷ codes "assign OWN\\DEV\\A"
    ∷ codes "START_DEVICE OWN\\DEV\\A dev ok"
    ∷ codes "state OWN\\DEV\\A Started"
    ∷ codes "listed OWN\\DEV\\A"
    ∷ codes "event plug OWN\\DEV\\B"
    ∷ codes "join 2 OWN\\DEV\\B"
    ∷ codes "listed HTREE\\ROOT\\0"
    ∷ codes "install OWN\\DEV\\B 00ff0000 dev"
    ∷ codes "add OWN\\DEV\\B dev ok"
    ∷ codes "assign OWN\\DEV\\B"
    ∷ codes "START_DEVICE OWN\\DEV\\B dev ok"
    ∷ codes "state OWN\\DEV\\B Started"
    ∷ codes "listed OWN\\DEV\\B"
    ∷ codes "event relate OWN\\DEV\\B OWN\\DEV\\A"
    ∷ codes "event disable OWN\\DEV\\A"
    ∷ codes "begin disable OWN\\DEV\\A"
    ∷ codes "QUERY_REMOVE_DEVICE OWN\\DEV\\A dev ok"
    ∷ codes "state OWN\\DEV\\A RemovePending"
    ∷ codes "REMOVE_DEVICE OWN\\DEV\\A dev ok"
    ∷ codes "state OWN\\DEV\\A NoStack"
    ∷ codes "problem OWN\\DEV\\A 22"
    ∷ codes "end disable OWN\\DEV\\A done"
    ∷ codes "event enable OWN\\DEV\\A"
    ∷ codes "install OWN\\DEV\\A 00ff0000 dev"
    ∷ codes "add OWN\\DEV\\A dev ok"
    ∷ codes "assign OWN\\DEV\\A"
    ∷ codes "START_DEVICE OWN\\DEV\\A dev ok"
    ∷ codes "state OWN\\DEV\\A Started"
    ∷ codes "listed OWN\\DEV\\A"
    ∷ codes "event disable OWN\\DEV\\B"
    ∷ codes "begin disable OWN\\DEV\\B"
    ∷ codes "QUERY_REMOVE_DEVICE OWN\\DEV\\B dev ok"
    ∷ codes "state OWN\\DEV\\B RemovePending"
    ∷ codes "REMOVE_DEVICE OWN\\DEV\\B dev ok"
    ∷ codes "state OWN\\DEV\\B NoStack"
    ∷ codes "problem OWN\\DEV\\B 22"
    ∷ codes "end disable OWN\\DEV\\B done"
    ∷ codes "tree"
    ∷ codes "0 HTREE\\ROOT\\0 Started"
    ∷ codes " 1 OWN\\DEV\\A Started"
    ∷ codes " 2 OWN\\DEV\\B NoStack problem 22"
    ∷ codes "map"
    ∷ codes "outstanding"
    ∷ []

abbrev row_relations_end_problems : List SearchProblem
row_relations_end_problems =
    record { fixed = []; movers = ([]) ∷ [] }
    ∷ record { fixed = []; movers = ([]) ∷ [] }
    ∷ record { fixed = []; movers = ([]) ∷ [] }
    ∷ []

pub row_relations_end : lines (traced (settings_of row_relations_end_known) 200 (opening small_rack) row_relations_end_found row_relations_end_events) ≡ row_relations_end_lines
unfolding digits
row_relations_end = refl

pub row_relations_end_asks : (traced (settings_of row_relations_end_known) 200 (opening small_rack) row_relations_end_found row_relations_end_events).problems ≡ row_relations_end_problems
row_relations_end_asks = refl

-- relations end with the owner
abbrev row_relations_end_with_the_owner_known : List Known
row_relations_end_with_the_owner_known = record { id = codes "OWN\\DEV"; choice = record { rank = 16711680; lower = []; service = Some (codes "dev"); upper = [] } } ∷ []

abbrev row_relations_end_with_the_owner_found : List Found
row_relations_end_with_the_owner_found = assignment (([]) ∷ []) ∷ assignment (([]) ∷ []) ∷ assignment (([]) ∷ []) ∷ assignment (([]) ∷ []) ∷ []

abbrev row_relations_end_with_the_owner_events : List Event
row_relations_end_with_the_owner_events =
    Event.Name (codes "dev") DriverKind.Steady
    ∷ Event.Plug (codes "HTREE\\ROOT\\0") (codes "OWN\\DEV\\A") (codes "OWN\\DEV" ∷ []) ([]) ([])
    ∷ Event.Plug (codes "HTREE\\ROOT\\0") (codes "OWN\\DEV\\B") (codes "OWN\\DEV" ∷ []) ([]) ([])
    ∷ Event.Relate RelKind.Removal (codes "OWN\\DEV\\B") (codes "OWN\\DEV\\A")
    ∷ Event.Disable (codes "OWN\\DEV\\B")
    ∷ Event.Enable (codes "OWN\\DEV\\B")
    ∷ Event.Disable (codes "OWN\\DEV\\A")
    ∷ Event.Enable (codes "OWN\\DEV\\A")
    ∷ Event.Disable (codes "OWN\\DEV\\B")
    ∷ []

abbrev row_relations_end_with_the_owner_lines : List Text
row_relations_end_with_the_owner_lines =
    codes "event driver dev"
    ∷ codes "event plug OWN\\DEV\\A"
    ∷ codes "join 1 OWN\\DEV\\A"
    ∷ codes "listed HTREE\\ROOT\\0"
    ∷ codes "install OWN\\DEV\\A 00ff0000 dev"
    ∷ codes "add OWN\\DEV\\A dev ok"
    ∷ codes "assign OWN\\DEV\\A"
    ∷ codes "START_DEVICE OWN\\DEV\\A dev ok"
    ∷ codes "state OWN\\DEV\\A Started"
    ∷ codes "listed OWN\\DEV\\A"
    ∷ codes "event plug OWN\\DEV\\B"
    ∷ codes "join 2 OWN\\DEV\\B"
    ∷ codes "listed HTREE\\ROOT\\0"
    ∷ codes "install OWN\\DEV\\B 00ff0000 dev"
    ∷ codes "add OWN\\DEV\\B dev ok"
    ∷ codes "assign OWN\\DEV\\B"
    ∷ codes "START_DEVICE OWN\\DEV\\B dev ok"
    ∷ codes "state OWN\\DEV\\B Started"
    ∷ codes "listed OWN\\DEV\\B"
    ∷ codes "event relate OWN\\DEV\\B OWN\\DEV\\A"
    ∷ codes "event disable OWN\\DEV\\B"
    ∷ codes "begin disable OWN\\DEV\\B"
    ∷ codes "QUERY_REMOVE_DEVICE OWN\\DEV\\A dev ok"
    ∷ codes "state OWN\\DEV\\A RemovePending"
    ∷ codes "QUERY_REMOVE_DEVICE OWN\\DEV\\B dev ok"
    ∷ codes "state OWN\\DEV\\B RemovePending"
    ∷ codes "REMOVE_DEVICE OWN\\DEV\\A dev ok"
    ∷ codes "state OWN\\DEV\\A NoStack"
    ∷ codes "problem OWN\\DEV\\A held"
    ∷ codes "REMOVE_DEVICE OWN\\DEV\\B dev ok"
    ∷ codes "state OWN\\DEV\\B NoStack"
    ∷ codes "problem OWN\\DEV\\B 22"
    ∷ codes "end disable OWN\\DEV\\B done"
    ∷ codes "event enable OWN\\DEV\\B"
    ∷ codes "install OWN\\DEV\\B 00ff0000 dev"
    ∷ codes "add OWN\\DEV\\B dev ok"
    ∷ codes "assign OWN\\DEV\\B"
    ∷ codes "START_DEVICE OWN\\DEV\\B dev ok"
    ∷ codes "state OWN\\DEV\\B Started"
    ∷ codes "listed OWN\\DEV\\B"
    ∷ codes "event disable OWN\\DEV\\A"
    ∷ codes "begin disable OWN\\DEV\\A"
    ∷ codes "problem OWN\\DEV\\A 22"
    ∷ codes "end disable OWN\\DEV\\A done"
    ∷ codes "event enable OWN\\DEV\\A"
    ∷ codes "install OWN\\DEV\\A 00ff0000 dev"
    ∷ codes "add OWN\\DEV\\A dev ok"
    ∷ codes "assign OWN\\DEV\\A"
    ∷ codes "START_DEVICE OWN\\DEV\\A dev ok"
    ∷ codes "state OWN\\DEV\\A Started"
    ∷ codes "listed OWN\\DEV\\A"
    ∷ codes "event disable OWN\\DEV\\B"
    ∷ codes "begin disable OWN\\DEV\\B"
    ∷ codes "QUERY_REMOVE_DEVICE OWN\\DEV\\B dev ok"
    ∷ codes "state OWN\\DEV\\B RemovePending"
    ∷ codes "REMOVE_DEVICE OWN\\DEV\\B dev ok"
    ∷ codes "state OWN\\DEV\\B NoStack"
    ∷ codes "problem OWN\\DEV\\B 22"
    ∷ codes "end disable OWN\\DEV\\B done"
    ∷ codes "tree"
    ∷ codes "0 HTREE\\ROOT\\0 Started"
    ∷ codes " 1 OWN\\DEV\\A Started"
    ∷ codes " 2 OWN\\DEV\\B NoStack problem 22"
    ∷ codes "map"
    ∷ codes "outstanding"
    ∷ []

abbrev row_relations_end_with_the_owner_problems : List SearchProblem
row_relations_end_with_the_owner_problems =
    record { fixed = []; movers = ([]) ∷ [] }
    ∷ record { fixed = []; movers = ([]) ∷ [] }
    ∷ record { fixed = []; movers = ([]) ∷ [] }
    ∷ record { fixed = []; movers = ([]) ∷ [] }
    ∷ []

pub row_relations_end_with_the_owner : lines (traced (settings_of row_relations_end_with_the_owner_known) 200 (opening small_rack) row_relations_end_with_the_owner_found row_relations_end_with_the_owner_events) ≡ row_relations_end_with_the_owner_lines
unfolding digits
row_relations_end_with_the_owner = refl

pub row_relations_end_with_the_owner_asks : (traced (settings_of row_relations_end_with_the_owner_known) 200 (opening small_rack) row_relations_end_with_the_owner_found row_relations_end_with_the_owner_events).problems ≡ row_relations_end_with_the_owner_problems
row_relations_end_with_the_owner_asks = refl

-- same relation
abbrev row_same_relation_known : List Known
row_same_relation_known = record { id = codes "OWN\\DEV"; choice = record { rank = 16711680; lower = []; service = Some (codes "dev"); upper = [] } } ∷ []

abbrev row_same_relation_found : List Found
row_same_relation_found = assignment (([]) ∷ []) ∷ assignment (([]) ∷ []) ∷ []

abbrev row_same_relation_events : List Event
row_same_relation_events =
    Event.Name (codes "dev") DriverKind.Steady
    ∷ Event.Plug (codes "HTREE\\ROOT\\0") (codes "OWN\\DEV\\A") (codes "OWN\\DEV" ∷ []) ([]) ([])
    ∷ Event.Plug (codes "HTREE\\ROOT\\0") (codes "OWN\\DEV\\B") (codes "OWN\\DEV" ∷ []) ([]) ([])
    ∷ Event.Relate RelKind.Removal (codes "OWN\\DEV\\B") (codes "OWN\\DEV\\A")
    ∷ Event.Relate RelKind.Ejection (codes "OWN\\DEV\\B") (codes "OWN\\DEV\\A")
    ∷ Event.Relate RelKind.Removal (codes "OWN\\DEV\\B") (codes "OWN\\DEV\\A")
    ∷ Event.Eject (codes "OWN\\DEV\\B")
    ∷ []

abbrev row_same_relation_lines : List Text
row_same_relation_lines =
    codes "event driver dev"
    ∷ codes "event plug OWN\\DEV\\A"
    ∷ codes "join 1 OWN\\DEV\\A"
    ∷ codes "listed HTREE\\ROOT\\0"
    ∷ codes "install OWN\\DEV\\A 00ff0000 dev"
    ∷ codes "add OWN\\DEV\\A dev ok"
    ∷ codes "assign OWN\\DEV\\A"
    ∷ codes "START_DEVICE OWN\\DEV\\A dev ok"
    ∷ codes "state OWN\\DEV\\A Started"
    ∷ codes "listed OWN\\DEV\\A"
    ∷ codes "event plug OWN\\DEV\\B"
    ∷ codes "join 2 OWN\\DEV\\B"
    ∷ codes "listed HTREE\\ROOT\\0"
    ∷ codes "install OWN\\DEV\\B 00ff0000 dev"
    ∷ codes "add OWN\\DEV\\B dev ok"
    ∷ codes "assign OWN\\DEV\\B"
    ∷ codes "START_DEVICE OWN\\DEV\\B dev ok"
    ∷ codes "state OWN\\DEV\\B Started"
    ∷ codes "listed OWN\\DEV\\B"
    ∷ codes "event relate OWN\\DEV\\B OWN\\DEV\\A"
    ∷ codes "event relate OWN\\DEV\\B OWN\\DEV\\A"
    ∷ codes "refused relate SameRelation"
    ∷ codes "event eject OWN\\DEV\\B"
    ∷ codes "begin eject OWN\\DEV\\B"
    ∷ codes "QUERY_REMOVE_DEVICE OWN\\DEV\\A dev ok"
    ∷ codes "state OWN\\DEV\\A RemovePending"
    ∷ codes "QUERY_REMOVE_DEVICE OWN\\DEV\\B dev ok"
    ∷ codes "state OWN\\DEV\\B RemovePending"
    ∷ codes "REMOVE_DEVICE OWN\\DEV\\A dev ok"
    ∷ codes "state OWN\\DEV\\A NoStack"
    ∷ codes "problem OWN\\DEV\\A 47"
    ∷ codes "REMOVE_DEVICE OWN\\DEV\\B dev ok"
    ∷ codes "state OWN\\DEV\\B NoStack"
    ∷ codes "ejected OWN\\DEV\\B"
    ∷ codes "end eject OWN\\DEV\\B done"
    ∷ codes "tree"
    ∷ codes "0 HTREE\\ROOT\\0 Started"
    ∷ codes " 1 OWN\\DEV\\A NoStack problem 47"
    ∷ codes "map"
    ∷ codes "outstanding"
    ∷ []

abbrev row_same_relation_problems : List SearchProblem
row_same_relation_problems =
    record { fixed = []; movers = ([]) ∷ [] }
    ∷ record { fixed = []; movers = ([]) ∷ [] }
    ∷ []

pub row_same_relation : lines (traced (settings_of row_same_relation_known) 200 (opening small_rack) row_same_relation_found row_same_relation_events) ≡ row_same_relation_lines
unfolding digits
row_same_relation = refl

pub row_same_relation_asks : (traced (settings_of row_same_relation_known) 200 (opening small_rack) row_same_relation_found row_same_relation_events).problems ≡ row_same_relation_problems
row_same_relation_asks = refl

-- root as owner
abbrev row_root_as_owner_known : List Known
row_root_as_owner_known = record { id = codes "OWN\\DEV"; choice = record { rank = 16711680; lower = []; service = Some (codes "dev"); upper = [] } } ∷ []

abbrev row_root_as_owner_found : List Found
row_root_as_owner_found = assignment (([]) ∷ []) ∷ assignment (([]) ∷ []) ∷ []

abbrev row_root_as_owner_events : List Event
row_root_as_owner_events =
    Event.Name (codes "dev") DriverKind.Steady
    ∷ Event.Plug (codes "HTREE\\ROOT\\0") (codes "OWN\\DEV\\A") (codes "OWN\\DEV" ∷ []) ([]) ([])
    ∷ Event.Plug (codes "HTREE\\ROOT\\0") (codes "OWN\\DEV\\B") (codes "OWN\\DEV" ∷ []) ([]) ([])
    ∷ Event.Relate RelKind.Removal (codes "HTREE\\ROOT\\0") (codes "OWN\\DEV\\A")
    ∷ Event.Relate RelKind.Removal (codes "OWN\\DEV\\A") (codes "HTREE\\ROOT\\0")
    ∷ Event.Disable (codes "HTREE\\ROOT\\0")
    ∷ Event.Eject (codes "HTREE\\ROOT\\0")
    ∷ Event.Pull (codes "HTREE\\ROOT\\0")
    ∷ Event.Disable (codes "OWN\\DEV\\A")
    ∷ []

abbrev row_root_as_owner_lines : List Text
row_root_as_owner_lines =
    codes "event driver dev"
    ∷ codes "event plug OWN\\DEV\\A"
    ∷ codes "join 1 OWN\\DEV\\A"
    ∷ codes "listed HTREE\\ROOT\\0"
    ∷ codes "install OWN\\DEV\\A 00ff0000 dev"
    ∷ codes "add OWN\\DEV\\A dev ok"
    ∷ codes "assign OWN\\DEV\\A"
    ∷ codes "START_DEVICE OWN\\DEV\\A dev ok"
    ∷ codes "state OWN\\DEV\\A Started"
    ∷ codes "listed OWN\\DEV\\A"
    ∷ codes "event plug OWN\\DEV\\B"
    ∷ codes "join 2 OWN\\DEV\\B"
    ∷ codes "listed HTREE\\ROOT\\0"
    ∷ codes "install OWN\\DEV\\B 00ff0000 dev"
    ∷ codes "add OWN\\DEV\\B dev ok"
    ∷ codes "assign OWN\\DEV\\B"
    ∷ codes "START_DEVICE OWN\\DEV\\B dev ok"
    ∷ codes "state OWN\\DEV\\B Started"
    ∷ codes "listed OWN\\DEV\\B"
    ∷ codes "event relate HTREE\\ROOT\\0 OWN\\DEV\\A"
    ∷ codes "refused relate RelationCycle"
    ∷ codes "refused disable RootStays"
    ∷ codes "refused eject RootStays"
    ∷ codes "refused pull RootStays"
    ∷ codes "event disable OWN\\DEV\\A"
    ∷ codes "begin disable OWN\\DEV\\A"
    ∷ codes "QUERY_REMOVE_DEVICE OWN\\DEV\\A dev ok"
    ∷ codes "state OWN\\DEV\\A RemovePending"
    ∷ codes "REMOVE_DEVICE OWN\\DEV\\A dev ok"
    ∷ codes "state OWN\\DEV\\A NoStack"
    ∷ codes "problem OWN\\DEV\\A 22"
    ∷ codes "end disable OWN\\DEV\\A done"
    ∷ codes "tree"
    ∷ codes "0 HTREE\\ROOT\\0 Started"
    ∷ codes " 1 OWN\\DEV\\A NoStack problem 22"
    ∷ codes " 2 OWN\\DEV\\B Started"
    ∷ codes "map"
    ∷ codes "outstanding"
    ∷ []

abbrev row_root_as_owner_problems : List SearchProblem
row_root_as_owner_problems =
    record { fixed = []; movers = ([]) ∷ [] }
    ∷ record { fixed = []; movers = ([]) ∷ [] }
    ∷ []

pub row_root_as_owner : lines (traced (settings_of row_root_as_owner_known) 200 (opening small_rack) row_root_as_owner_found row_root_as_owner_events) ≡ row_root_as_owner_lines
unfolding digits
row_root_as_owner = refl

pub row_root_as_owner_asks : (traced (settings_of row_root_as_owner_known) 200 (opening small_rack) row_root_as_owner_found row_root_as_owner_events).problems ≡ row_root_as_owner_problems
row_root_as_owner_asks = refl
