-- How far serials and birth numbers come in a run.
use Rattle.std.specs.Prelude.{◌+◌, ◌*◌, ◌≤◌, ◌≡◌, List}
use Rattle.pnp_model.specs.Records.{Driver, State, Settings}
use Rattle.pnp_model.specs.Laws.{Reaches}
use Rattle.pnp_model.specs.Runs.{Entry}
use Rattle.pnp_laws.specs.Ends.{events, joins}

-- the root has serial 0, and each node that joins the next one
abbrev pub SerialsAreJoinsLaw : Type 0
SerialsAreJoinsLaw =
    (settings : Settings) (rack : List Driver) (entries : List Entry) (s : State) → Reaches settings rack entries s → s.next_serial ≡ 1 + joins entries

-- at most 4,096 serials are given for each event
abbrev pub FewSerialsLaw : Type 0
FewSerialsLaw =
    (settings : Settings) (rack : List Driver) (entries : List Entry) (s : State) → Reaches settings rack entries s → s.next_serial ≤ 1 + 4096 * events entries

-- and at most one birth number
abbrev pub FewBirthsLaw : Type 0
FewBirthsLaw =
    (settings : Settings) (rack : List Driver) (entries : List Entry) (s : State) → Reaches settings rack entries s → s.next_born ≤ 1 + events entries
