-- Which drivers are chosen: whole outputs, as the definition computes them.
use Rattle.std.proofs.Common.{List, [], ◌∷◌, Some, None, ◌≡◌, refl}
use Rattle.std.specs.Prelude.{codes}
use Rattle.std.specs.Fmt.{digits}
use Rattle.resource_reqs.specs.Spelling.Answer.{assignment}
use Rattle.pnp_model.specs.Records.{Found, SearchProblem}
use Rattle.pnp_labels.specs.Texts.{Text}
use Rattle.pnp_labels.specs.declared.event.Event.{Event}
use Rattle.pnp_labels.specs.declared.words.DriverKind.{DriverKind}
use Rattle.pnp_labels.specs.declared.words.AskWhat.{AskWhat}
use Rattle.pnp_labels.specs.declared.words.Answer.{Answer}
use Rattle.pnp_model.specs.Runs.{traced, opening}
use Rattle.pnp_model.specs.Endings.{lines}
use Rattle.pnp_model.proofs.RowBase.{settings_of, small_rack, Known}

-- hardware ID before compatible ID
abbrev row_hardware_ID_before_compatible_ID_known : List Known
row_hardware_ID_before_compatible_ID_known = record { id = codes "OWN\\X"; choice = record { rank = 16711680; lower = []; service = Some (codes "old"); upper = [] } } ∷ []

abbrev row_hardware_ID_before_compatible_ID_found : List Found
row_hardware_ID_before_compatible_ID_found = assignment (([]) ∷ []) ∷ []

abbrev row_hardware_ID_before_compatible_ID_events : List Event
row_hardware_ID_before_compatible_ID_events =
    Event.Name (codes "new") DriverKind.Steady
    ∷ Event.Name (codes "old") DriverKind.Steady
    ∷ Event.Name (codes "late") DriverKind.Steady
    ∷ Event.Name (codes "high") DriverKind.Steady
    ∷ Event.Plug (codes "HTREE\\ROOT\\0") (codes "OWN\\X\\1") (codes "OWN\\X" ∷ []) (codes "OWN\\ANY" ∷ []) ([])
    ∷ []

abbrev row_hardware_ID_before_compatible_ID_lines : List Text
row_hardware_ID_before_compatible_ID_lines =
    codes "event driver new"
    ∷ codes "event driver old"
    ∷ codes "event driver late"
    ∷ codes "event driver high"
    ∷ codes "event plug OWN\\X\\1"
    ∷ codes "join 1 OWN\\X\\1"
    ∷ codes "listed HTREE\\ROOT\\0"
    ∷ codes "install OWN\\X\\1 00ff0000 old"
    ∷ codes "add OWN\\X\\1 old ok"
    ∷ codes "assign OWN\\X\\1"
    ∷ codes "START_DEVICE OWN\\X\\1 old ok"
    ∷ codes "state OWN\\X\\1 Started"
    ∷ codes "listed OWN\\X\\1"
    ∷ codes "tree"
    ∷ codes "0 HTREE\\ROOT\\0 Started"
    ∷ codes " 1 OWN\\X\\1 Started"
    ∷ codes "map"
    ∷ codes "outstanding"
    ∷ []

abbrev row_hardware_ID_before_compatible_ID_problems : List SearchProblem
row_hardware_ID_before_compatible_ID_problems =
    record { fixed = []; movers = ([]) ∷ [] }
    ∷ []

pub row_hardware_ID_before_compatible_ID : lines (traced (settings_of row_hardware_ID_before_compatible_ID_known) 200 (opening small_rack) row_hardware_ID_before_compatible_ID_found row_hardware_ID_before_compatible_ID_events) ≡ row_hardware_ID_before_compatible_ID_lines
unfolding digits
row_hardware_ID_before_compatible_ID = refl

pub row_hardware_ID_before_compatible_ID_asks : (traced (settings_of row_hardware_ID_before_compatible_ID_known) 200 (opening small_rack) row_hardware_ID_before_compatible_ID_found row_hardware_ID_before_compatible_ID_events).problems ≡ row_hardware_ID_before_compatible_ID_problems
row_hardware_ID_before_compatible_ID_asks = refl

-- newer date
abbrev row_newer_date_known : List Known
row_newer_date_known = record { id = codes "OWN\\X"; choice = record { rank = 16711680; lower = []; service = Some (codes "late"); upper = [] } } ∷ []

abbrev row_newer_date_found : List Found
row_newer_date_found = assignment (([]) ∷ []) ∷ []

abbrev row_newer_date_events : List Event
row_newer_date_events =
    Event.Name (codes "new") DriverKind.Steady
    ∷ Event.Name (codes "old") DriverKind.Steady
    ∷ Event.Name (codes "late") DriverKind.Steady
    ∷ Event.Name (codes "high") DriverKind.Steady
    ∷ Event.Plug (codes "HTREE\\ROOT\\0") (codes "OWN\\X\\1") (codes "OWN\\X" ∷ []) (codes "OWN\\ANY" ∷ []) ([])
    ∷ []

abbrev row_newer_date_lines : List Text
row_newer_date_lines =
    codes "event driver new"
    ∷ codes "event driver old"
    ∷ codes "event driver late"
    ∷ codes "event driver high"
    ∷ codes "event plug OWN\\X\\1"
    ∷ codes "join 1 OWN\\X\\1"
    ∷ codes "listed HTREE\\ROOT\\0"
    ∷ codes "install OWN\\X\\1 00ff0000 late"
    ∷ codes "add OWN\\X\\1 late ok"
    ∷ codes "assign OWN\\X\\1"
    ∷ codes "START_DEVICE OWN\\X\\1 late ok"
    ∷ codes "state OWN\\X\\1 Started"
    ∷ codes "listed OWN\\X\\1"
    ∷ codes "tree"
    ∷ codes "0 HTREE\\ROOT\\0 Started"
    ∷ codes " 1 OWN\\X\\1 Started"
    ∷ codes "map"
    ∷ codes "outstanding"
    ∷ []

abbrev row_newer_date_problems : List SearchProblem
row_newer_date_problems =
    record { fixed = []; movers = ([]) ∷ [] }
    ∷ []

pub row_newer_date : lines (traced (settings_of row_newer_date_known) 200 (opening small_rack) row_newer_date_found row_newer_date_events) ≡ row_newer_date_lines
unfolding digits
row_newer_date = refl

pub row_newer_date_asks : (traced (settings_of row_newer_date_known) 200 (opening small_rack) row_newer_date_found row_newer_date_events).problems ≡ row_newer_date_problems
row_newer_date_asks = refl

-- higher version
abbrev row_higher_version_known : List Known
row_higher_version_known = record { id = codes "OWN\\X"; choice = record { rank = 16711680; lower = []; service = Some (codes "high"); upper = [] } } ∷ []

abbrev row_higher_version_found : List Found
row_higher_version_found = assignment (([]) ∷ []) ∷ []

abbrev row_higher_version_events : List Event
row_higher_version_events =
    Event.Name (codes "new") DriverKind.Steady
    ∷ Event.Name (codes "old") DriverKind.Steady
    ∷ Event.Name (codes "late") DriverKind.Steady
    ∷ Event.Name (codes "high") DriverKind.Steady
    ∷ Event.Plug (codes "HTREE\\ROOT\\0") (codes "OWN\\X\\1") (codes "OWN\\X" ∷ []) (codes "OWN\\ANY" ∷ []) ([])
    ∷ []

abbrev row_higher_version_lines : List Text
row_higher_version_lines =
    codes "event driver new"
    ∷ codes "event driver old"
    ∷ codes "event driver late"
    ∷ codes "event driver high"
    ∷ codes "event plug OWN\\X\\1"
    ∷ codes "join 1 OWN\\X\\1"
    ∷ codes "listed HTREE\\ROOT\\0"
    ∷ codes "install OWN\\X\\1 00ff0000 high"
    ∷ codes "add OWN\\X\\1 high ok"
    ∷ codes "assign OWN\\X\\1"
    ∷ codes "START_DEVICE OWN\\X\\1 high ok"
    ∷ codes "state OWN\\X\\1 Started"
    ∷ codes "listed OWN\\X\\1"
    ∷ codes "tree"
    ∷ codes "0 HTREE\\ROOT\\0 Started"
    ∷ codes " 1 OWN\\X\\1 Started"
    ∷ codes "map"
    ∷ codes "outstanding"
    ∷ []

abbrev row_higher_version_problems : List SearchProblem
row_higher_version_problems =
    record { fixed = []; movers = ([]) ∷ [] }
    ∷ []

pub row_higher_version : lines (traced (settings_of row_higher_version_known) 200 (opening small_rack) row_higher_version_found row_higher_version_events) ≡ row_higher_version_lines
unfolding digits
row_higher_version = refl

pub row_higher_version_asks : (traced (settings_of row_higher_version_known) 200 (opening small_rack) row_higher_version_found row_higher_version_events).problems ≡ row_higher_version_problems
row_higher_version_asks = refl

-- lower filter
abbrev row_lower_filter_known : List Known
row_lower_filter_known = record { id = codes "OWN\\FIL"; choice = record { rank = 16711680; lower = codes "low" ∷ []; service = Some (codes "dev"); upper = [] } } ∷ []

abbrev row_lower_filter_found : List Found
row_lower_filter_found = []

abbrev row_lower_filter_events : List Event
row_lower_filter_events =
    Event.Name (codes "low") DriverKind.Steady
    ∷ Event.Name (codes "dev") DriverKind.Scripted
    ∷ Event.Teach (codes "dev") (record { what = AskWhat.Add; path = None; answer = Answer.Fail; uses = None })
    ∷ Event.Plug (codes "HTREE\\ROOT\\0") (codes "OWN\\FIL\\1") (codes "OWN\\FIL" ∷ []) ([]) ([])
    ∷ []

abbrev row_lower_filter_lines : List Text
row_lower_filter_lines =
    codes "event driver low"
    ∷ codes "event driver dev"
    ∷ codes "event teach dev"
    ∷ codes "event plug OWN\\FIL\\1"
    ∷ codes "join 1 OWN\\FIL\\1"
    ∷ codes "listed HTREE\\ROOT\\0"
    ∷ codes "install OWN\\FIL\\1 00ff0000 dev"
    ∷ codes "add OWN\\FIL\\1 low ok"
    ∷ codes "add OWN\\FIL\\1 dev fail"
    ∷ codes "problem OWN\\FIL\\1 31"
    ∷ codes "REMOVE_DEVICE OWN\\FIL\\1 low ok"
    ∷ codes "state OWN\\FIL\\1 NoStack"
    ∷ codes "tree"
    ∷ codes "0 HTREE\\ROOT\\0 Started"
    ∷ codes " 1 OWN\\FIL\\1 NoStack problem 31"
    ∷ codes "map"
    ∷ codes "outstanding"
    ∷ []

abbrev row_lower_filter_problems : List SearchProblem
row_lower_filter_problems =
    []

pub row_lower_filter : lines (traced (settings_of row_lower_filter_known) 200 (opening small_rack) row_lower_filter_found row_lower_filter_events) ≡ row_lower_filter_lines
unfolding digits
row_lower_filter = refl

pub row_lower_filter_asks : (traced (settings_of row_lower_filter_known) 200 (opening small_rack) row_lower_filter_found row_lower_filter_events).problems ≡ row_lower_filter_problems
row_lower_filter_asks = refl

-- seventeen drivers
abbrev row_seventeen_drivers_known : List Known
row_seventeen_drivers_known = record { id = codes "OWN\\DEV"; choice = record { rank = 16711680; lower = []; service = Some (codes "dev"); upper = codes "f0" ∷ codes "f1" ∷ codes "f2" ∷ codes "f3" ∷ codes "f4" ∷ codes "f5" ∷ codes "f6" ∷ codes "f7" ∷ codes "f8" ∷ codes "f9" ∷ codes "f10" ∷ codes "f11" ∷ codes "f12" ∷ codes "f13" ∷ codes "f14" ∷ codes "f15" ∷ [] } } ∷ []

abbrev row_seventeen_drivers_found : List Found
row_seventeen_drivers_found = []

abbrev row_seventeen_drivers_events : List Event
row_seventeen_drivers_events =
    Event.Name (codes "dev") DriverKind.Steady
    ∷ Event.Name (codes "f0") DriverKind.Steady
    ∷ Event.Name (codes "f1") DriverKind.Steady
    ∷ Event.Name (codes "f2") DriverKind.Steady
    ∷ Event.Name (codes "f3") DriverKind.Steady
    ∷ Event.Name (codes "f4") DriverKind.Steady
    ∷ Event.Plug (codes "HTREE\\ROOT\\0") (codes "OWN\\DEV\\1") (codes "OWN\\DEV" ∷ []) ([]) ([])
    ∷ []

abbrev row_seventeen_drivers_lines : List Text
row_seventeen_drivers_lines =
    codes "event driver dev"
    ∷ codes "event driver f0"
    ∷ codes "event driver f1"
    ∷ codes "event driver f2"
    ∷ codes "event driver f3"
    ∷ codes "event driver f4"
    ∷ codes "event plug OWN\\DEV\\1"
    ∷ codes "join 1 OWN\\DEV\\1"
    ∷ codes "listed HTREE\\ROOT\\0"
    ∷ codes "problem OWN\\DEV\\1 28"
    ∷ codes "tree"
    ∷ codes "0 HTREE\\ROOT\\0 Started"
    ∷ codes " 1 OWN\\DEV\\1 NoStack problem 28"
    ∷ codes "map"
    ∷ codes "outstanding"
    ∷ []

abbrev row_seventeen_drivers_problems : List SearchProblem
row_seventeen_drivers_problems =
    []

pub row_seventeen_drivers : lines (traced (settings_of row_seventeen_drivers_known) 200 (opening small_rack) row_seventeen_drivers_found row_seventeen_drivers_events) ≡ row_seventeen_drivers_lines
unfolding digits
row_seventeen_drivers = refl

pub row_seventeen_drivers_asks : (traced (settings_of row_seventeen_drivers_known) 200 (opening small_rack) row_seventeen_drivers_found row_seventeen_drivers_events).problems ≡ row_seventeen_drivers_problems
row_seventeen_drivers_asks = refl

-- no namesake of a filter
abbrev row_no_namesake_of_a_filter_known : List Known
row_no_namesake_of_a_filter_known = record { id = codes "OWN\\FIL"; choice = record { rank = 16711680; lower = codes "low" ∷ []; service = Some (codes "dev"); upper = [] } } ∷ []

abbrev row_no_namesake_of_a_filter_found : List Found
row_no_namesake_of_a_filter_found = []

abbrev row_no_namesake_of_a_filter_events : List Event
row_no_namesake_of_a_filter_events =
    Event.Name (codes "dev") DriverKind.Steady
    ∷ Event.Plug (codes "HTREE\\ROOT\\0") (codes "OWN\\FIL\\1") (codes "OWN\\FIL" ∷ []) ([]) ([])
    ∷ []

abbrev row_no_namesake_of_a_filter_lines : List Text
row_no_namesake_of_a_filter_lines =
    codes "event driver dev"
    ∷ codes "event plug OWN\\FIL\\1"
    ∷ codes "join 1 OWN\\FIL\\1"
    ∷ codes "listed HTREE\\ROOT\\0"
    ∷ codes "problem OWN\\FIL\\1 39"
    ∷ codes "tree"
    ∷ codes "0 HTREE\\ROOT\\0 Started"
    ∷ codes " 1 OWN\\FIL\\1 NoStack problem 39"
    ∷ codes "map"
    ∷ codes "outstanding"
    ∷ []

abbrev row_no_namesake_of_a_filter_problems : List SearchProblem
row_no_namesake_of_a_filter_problems =
    []

pub row_no_namesake_of_a_filter : lines (traced (settings_of row_no_namesake_of_a_filter_known) 200 (opening small_rack) row_no_namesake_of_a_filter_found row_no_namesake_of_a_filter_events) ≡ row_no_namesake_of_a_filter_lines
unfolding digits
row_no_namesake_of_a_filter = refl

pub row_no_namesake_of_a_filter_asks : (traced (settings_of row_no_namesake_of_a_filter_known) 200 (opening small_rack) row_no_namesake_of_a_filter_found row_no_namesake_of_a_filter_events).problems ≡ row_no_namesake_of_a_filter_problems
row_no_namesake_of_a_filter_asks = refl
