-- Problems and refusals: whole outputs, as the definition computes them.
use Rattle.std.proofs.Common.{List, [], ◌∷◌, Some, None, ◌≡◌, refl}
use Rattle.std.specs.Prelude.{codes}
use Rattle.std.specs.Fmt.{digits}
use Rattle.resource_reqs.specs.Spelling.Answer.{assignment}
use Rattle.pnp_model.specs.Records.{Found, SearchProblem}
use Rattle.pnp_labels.specs.Texts.{Text}
use Rattle.pnp_labels.specs.declared.event.Event.{Event}
use Rattle.pnp_labels.specs.declared.words.DriverKind.{DriverKind}
use Rattle.pnp_labels.specs.declared.words.Minor.{Minor}
use Rattle.pnp_labels.specs.declared.words.AskWhat.{AskWhat}
use Rattle.pnp_labels.specs.declared.words.Answer.{Answer}
use Rattle.pnp_model.specs.Runs.{traced, opening}
use Rattle.pnp_model.specs.Endings.{lines}
use Rattle.pnp_model.proofs.RowBase.{settings_of, small_rack, Known}
use Rattle.pnp_labels.specs.declared.words.RelKind.{RelKind}

-- same path
abbrev row_same_path_known : List Known
row_same_path_known = record { id = codes "OWN\\DEV"; choice = record { rank = 16711680; lower = []; service = Some (codes "dev"); upper = [] } } ∷ record { id = codes "own\\dev"; choice = record { rank = 16711680; lower = []; service = Some (codes "dev"); upper = [] } } ∷ []

abbrev row_same_path_found : List Found
row_same_path_found = assignment (([]) ∷ []) ∷ []

abbrev row_same_path_events : List Event
row_same_path_events =
    Event.Name (codes "dev") DriverKind.Steady
    ∷ Event.Plug (codes "HTREE\\ROOT\\0") (codes "OWN\\DEV\\1") (codes "OWN\\DEV" ∷ []) ([]) ([])
    ∷ Event.Plug (codes "htree\\root\\0") (codes "own\\dev\\1") (codes "own\\dev" ∷ []) ([]) ([])
    ∷ Event.Plug (codes "OWN\\NO\\1") (codes "OWN\\DEV\\2") (codes "OWN\\DEV" ∷ []) ([]) ([])
    ∷ []

abbrev row_same_path_lines : List Text
row_same_path_lines =
    codes "event driver dev"
    ∷ codes "event plug OWN\\DEV\\1"
    ∷ codes "join 1 OWN\\DEV\\1"
    ∷ codes "listed HTREE\\ROOT\\0"
    ∷ codes "install OWN\\DEV\\1 00ff0000 dev"
    ∷ codes "add OWN\\DEV\\1 dev ok"
    ∷ codes "assign OWN\\DEV\\1"
    ∷ codes "START_DEVICE OWN\\DEV\\1 dev ok"
    ∷ codes "state OWN\\DEV\\1 Started"
    ∷ codes "listed OWN\\DEV\\1"
    ∷ codes "refused plug SameId"
    ∷ codes "refused plug NoParent"
    ∷ codes "tree"
    ∷ codes "0 HTREE\\ROOT\\0 Started"
    ∷ codes " 1 OWN\\DEV\\1 Started"
    ∷ codes "map"
    ∷ codes "outstanding"
    ∷ []

abbrev row_same_path_problems : List SearchProblem
row_same_path_problems =
    record { fixed = []; movers = ([]) ∷ [] }
    ∷ []

pub row_same_path : lines (traced (settings_of row_same_path_known) 200 (opening small_rack) row_same_path_found row_same_path_events) ≡ row_same_path_lines
unfolding digits
row_same_path = refl

pub row_same_path_asks : (traced (settings_of row_same_path_known) 200 (opening small_rack) row_same_path_found row_same_path_events).problems ≡ row_same_path_problems
row_same_path_asks = refl

-- no INF
abbrev row_no_INF_known : List Known
row_no_INF_known = []

abbrev row_no_INF_found : List Found
row_no_INF_found = []

abbrev row_no_INF_events : List Event
row_no_INF_events =
    Event.Name (codes "dev") DriverKind.Steady
    ∷ Event.Plug (codes "HTREE\\ROOT\\0") (codes "OWN\\DEV\\1") (codes "OWN\\DEV" ∷ []) ([]) ([])
    ∷ []

abbrev row_no_INF_lines : List Text
row_no_INF_lines =
    codes "event driver dev"
    ∷ codes "event plug OWN\\DEV\\1"
    ∷ codes "join 1 OWN\\DEV\\1"
    ∷ codes "listed HTREE\\ROOT\\0"
    ∷ codes "problem OWN\\DEV\\1 28"
    ∷ codes "tree"
    ∷ codes "0 HTREE\\ROOT\\0 Started"
    ∷ codes " 1 OWN\\DEV\\1 NoStack problem 28"
    ∷ codes "map"
    ∷ codes "outstanding"
    ∷ []

abbrev row_no_INF_problems : List SearchProblem
row_no_INF_problems =
    []

pub row_no_INF : lines (traced (settings_of row_no_INF_known) 200 (opening small_rack) row_no_INF_found row_no_INF_events) ≡ row_no_INF_lines
unfolding digits
row_no_INF = refl

pub row_no_INF_asks : (traced (settings_of row_no_INF_known) 200 (opening small_rack) row_no_INF_found row_no_INF_events).problems ≡ row_no_INF_problems
row_no_INF_asks = refl

-- no driver of the name
abbrev row_no_driver_of_the_name_known : List Known
row_no_driver_of_the_name_known = record { id = codes "OWN\\DEV"; choice = record { rank = 16711680; lower = []; service = Some (codes "dev"); upper = [] } } ∷ []

abbrev row_no_driver_of_the_name_found : List Found
row_no_driver_of_the_name_found = []

abbrev row_no_driver_of_the_name_events : List Event
row_no_driver_of_the_name_events =
    Event.Plug (codes "HTREE\\ROOT\\0") (codes "OWN\\DEV\\1") (codes "OWN\\DEV" ∷ []) ([]) ([])
    ∷ []

abbrev row_no_driver_of_the_name_lines : List Text
row_no_driver_of_the_name_lines =
    codes "event plug OWN\\DEV\\1"
    ∷ codes "join 1 OWN\\DEV\\1"
    ∷ codes "listed HTREE\\ROOT\\0"
    ∷ codes "problem OWN\\DEV\\1 39"
    ∷ codes "tree"
    ∷ codes "0 HTREE\\ROOT\\0 Started"
    ∷ codes " 1 OWN\\DEV\\1 NoStack problem 39"
    ∷ codes "map"
    ∷ codes "outstanding"
    ∷ []

abbrev row_no_driver_of_the_name_problems : List SearchProblem
row_no_driver_of_the_name_problems =
    []

pub row_no_driver_of_the_name : lines (traced (settings_of row_no_driver_of_the_name_known) 200 (opening small_rack) row_no_driver_of_the_name_found row_no_driver_of_the_name_events) ≡ row_no_driver_of_the_name_lines
unfolding digits
row_no_driver_of_the_name = refl

pub row_no_driver_of_the_name_asks : (traced (settings_of row_no_driver_of_the_name_known) 200 (opening small_rack) row_no_driver_of_the_name_found row_no_driver_of_the_name_events).problems ≡ row_no_driver_of_the_name_problems
row_no_driver_of_the_name_asks = refl

-- refused add
abbrev pub row_refused_add_known : List Known
row_refused_add_known = record { id = codes "OWN\\DEV"; choice = record { rank = 16711680; lower = []; service = Some (codes "dev"); upper = [] } } ∷ []

abbrev pub row_refused_add_found : List Found
row_refused_add_found = []

abbrev pub row_refused_add_events : List Event
row_refused_add_events =
    Event.Name (codes "dev") DriverKind.Scripted
    ∷ Event.Teach (codes "dev") (record { what = AskWhat.Add; path = None; answer = Answer.Fail; uses = None })
    ∷ Event.Plug (codes "HTREE\\ROOT\\0") (codes "OWN\\DEV\\1") (codes "OWN\\DEV" ∷ []) ([]) ([])
    ∷ []

abbrev pub row_refused_add_lines : List Text
row_refused_add_lines =
    codes "event driver dev"
    ∷ codes "event teach dev"
    ∷ codes "event plug OWN\\DEV\\1"
    ∷ codes "join 1 OWN\\DEV\\1"
    ∷ codes "listed HTREE\\ROOT\\0"
    ∷ codes "install OWN\\DEV\\1 00ff0000 dev"
    ∷ codes "add OWN\\DEV\\1 dev fail"
    ∷ codes "problem OWN\\DEV\\1 31"
    ∷ codes "tree"
    ∷ codes "0 HTREE\\ROOT\\0 Started"
    ∷ codes " 1 OWN\\DEV\\1 NoStack problem 31"
    ∷ codes "map"
    ∷ codes "outstanding"
    ∷ []

abbrev row_refused_add_problems : List SearchProblem
row_refused_add_problems =
    []

pub row_refused_add : lines (traced (settings_of row_refused_add_known) 200 (opening small_rack) row_refused_add_found row_refused_add_events) ≡ row_refused_add_lines
unfolding digits
row_refused_add = refl

pub row_refused_add_asks : (traced (settings_of row_refused_add_known) 200 (opening small_rack) row_refused_add_found row_refused_add_events).problems ≡ row_refused_add_problems
row_refused_add_asks = refl

-- refused start
abbrev row_refused_start_known : List Known
row_refused_start_known = record { id = codes "OWN\\DEV"; choice = record { rank = 16711680; lower = []; service = Some (codes "dev"); upper = [] } } ∷ []

abbrev row_refused_start_found : List Found
row_refused_start_found = assignment (([]) ∷ []) ∷ []

abbrev row_refused_start_events : List Event
row_refused_start_events =
    Event.Name (codes "dev") DriverKind.Scripted
    ∷ Event.Teach (codes "dev") (record { what = AskWhat.Irp Minor.Start; path = None; answer = Answer.Fail; uses = None })
    ∷ Event.Plug (codes "HTREE\\ROOT\\0") (codes "OWN\\DEV\\1") (codes "OWN\\DEV" ∷ []) ([]) ([])
    ∷ []

abbrev row_refused_start_lines : List Text
row_refused_start_lines =
    codes "event driver dev"
    ∷ codes "event teach dev"
    ∷ codes "event plug OWN\\DEV\\1"
    ∷ codes "join 1 OWN\\DEV\\1"
    ∷ codes "listed HTREE\\ROOT\\0"
    ∷ codes "install OWN\\DEV\\1 00ff0000 dev"
    ∷ codes "add OWN\\DEV\\1 dev ok"
    ∷ codes "assign OWN\\DEV\\1"
    ∷ codes "START_DEVICE OWN\\DEV\\1 dev fail"
    ∷ codes "state OWN\\DEV\\1 NotStarted"
    ∷ codes "problem OWN\\DEV\\1 10"
    ∷ codes "REMOVE_DEVICE OWN\\DEV\\1 dev ok"
    ∷ codes "state OWN\\DEV\\1 NoStack"
    ∷ codes "tree"
    ∷ codes "0 HTREE\\ROOT\\0 Started"
    ∷ codes " 1 OWN\\DEV\\1 NoStack problem 10"
    ∷ codes "map"
    ∷ codes "outstanding"
    ∷ []

abbrev row_refused_start_problems : List SearchProblem
row_refused_start_problems =
    record { fixed = []; movers = ([]) ∷ [] }
    ∷ []

pub row_refused_start : lines (traced (settings_of row_refused_start_known) 200 (opening small_rack) row_refused_start_found row_refused_start_events) ≡ row_refused_start_lines
unfolding digits
row_refused_start = refl

pub row_refused_start_asks : (traced (settings_of row_refused_start_known) 200 (opening small_rack) row_refused_start_found row_refused_start_events).problems ≡ row_refused_start_problems
row_refused_start_asks = refl

-- refusals
abbrev row_refusals_known : List Known
row_refusals_known = record { id = codes "OWN\\DEV"; choice = record { rank = 16711680; lower = []; service = Some (codes "dev"); upper = [] } } ∷ []

abbrev row_refusals_found : List Found
row_refusals_found = assignment (([]) ∷ []) ∷ assignment (([]) ∷ []) ∷ []

abbrev row_refusals_events : List Event
row_refusals_events =
    Event.Name (codes "dev") DriverKind.Scripted
    ∷ Event.Name (codes "DEV") DriverKind.Steady
    ∷ Event.Name (codes "s1") DriverKind.Stubborn
    ∷ Event.Name (codes "s2") DriverKind.Stubborn
    ∷ Event.Name (codes "s3") DriverKind.Stubborn
    ∷ Event.Teach (codes "no") (record { what = AskWhat.Add; path = None; answer = Answer.Ok; uses = None })
    ∷ Event.Teach (codes "s1") (record { what = AskWhat.Add; path = None; answer = Answer.Ok; uses = None })
    ∷ Event.Plug (codes "HTREE\\ROOT\\0") (codes "OWN\\DEV\\A") (codes "OWN\\DEV" ∷ []) ([]) ([])
    ∷ Event.Disable (codes "OWN\\DEV\\A")
    ∷ Event.Disable (codes "OWN\\DEV\\A")
    ∷ Event.Enable (codes "OWN\\DEV\\A")
    ∷ Event.Enable (codes "OWN\\DEV\\A")
    ∷ Event.Disable (codes "OWN\\DEV\\Z")
    ∷ Event.Eject (codes "OWN\\DEV\\Z")
    ∷ Event.Pull (codes "OWN\\DEV\\Z")
    ∷ Event.Relate RelKind.Removal (codes "OWN\\DEV\\A") (codes "OWN\\DEV\\A")
    ∷ Event.Relate RelKind.Removal (codes "OWN\\DEV\\A") (codes "OWN\\DEV\\Z")
    ∷ []

abbrev row_refusals_lines : List Text
row_refusals_lines =
    codes "event driver dev"
    ∷ codes "refused driver SameName"
    ∷ codes "event driver s1"
    ∷ codes "event driver s2"
    ∷ codes "refused driver RackEmpty"
    ∷ codes "refused teach NoDriver"
    ∷ codes "refused teach NotTeachable"
    ∷ codes "event plug OWN\\DEV\\A"
    ∷ codes "join 1 OWN\\DEV\\A"
    ∷ codes "listed HTREE\\ROOT\\0"
    ∷ codes "install OWN\\DEV\\A 00ff0000 dev"
    ∷ codes "add OWN\\DEV\\A dev ok"
    ∷ codes "assign OWN\\DEV\\A"
    ∷ codes "START_DEVICE OWN\\DEV\\A dev ok"
    ∷ codes "state OWN\\DEV\\A Started"
    ∷ codes "listed OWN\\DEV\\A"
    ∷ codes "event disable OWN\\DEV\\A"
    ∷ codes "begin disable OWN\\DEV\\A"
    ∷ codes "QUERY_REMOVE_DEVICE OWN\\DEV\\A dev ok"
    ∷ codes "state OWN\\DEV\\A RemovePending"
    ∷ codes "REMOVE_DEVICE OWN\\DEV\\A dev ok"
    ∷ codes "state OWN\\DEV\\A NoStack"
    ∷ codes "problem OWN\\DEV\\A 22"
    ∷ codes "end disable OWN\\DEV\\A done"
    ∷ codes "refused disable AlreadyDisabled"
    ∷ codes "event enable OWN\\DEV\\A"
    ∷ codes "install OWN\\DEV\\A 00ff0000 dev"
    ∷ codes "add OWN\\DEV\\A dev ok"
    ∷ codes "assign OWN\\DEV\\A"
    ∷ codes "START_DEVICE OWN\\DEV\\A dev ok"
    ∷ codes "state OWN\\DEV\\A Started"
    ∷ codes "listed OWN\\DEV\\A"
    ∷ codes "refused enable NotDisabled"
    ∷ codes "refused disable NoDevice"
    ∷ codes "refused eject NoDevice"
    ∷ codes "refused pull NoDevice"
    ∷ codes "refused relate SelfRelation"
    ∷ codes "refused relate NoDevice"
    ∷ codes "tree"
    ∷ codes "0 HTREE\\ROOT\\0 Started"
    ∷ codes " 1 OWN\\DEV\\A Started"
    ∷ codes "map"
    ∷ codes "outstanding"
    ∷ []

abbrev row_refusals_problems : List SearchProblem
row_refusals_problems =
    record { fixed = []; movers = ([]) ∷ [] }
    ∷ record { fixed = []; movers = ([]) ∷ [] }
    ∷ []

pub row_refusals : lines (traced (settings_of row_refusals_known) 200 (opening small_rack) row_refusals_found row_refusals_events) ≡ row_refusals_lines
unfolding digits
row_refusals = refl

pub row_refusals_asks : (traced (settings_of row_refusals_known) 200 (opening small_rack) row_refusals_found row_refusals_events).problems ≡ row_refusals_problems
row_refusals_asks = refl
