-- Wants, groups and lists, each cut to the room of its kind.
use Rattle.std.specs.Prelude.{map}
use Rattle.resource_reqs.specs.Resources.{Want, Group, AltList}
use Rattle.pnp_model.specs.Windows.{clipped_want}
use Rattle.bridge_windows.specs.Rooms.{room_in}
use Rattle.bridge_windows.specs.declared.rooms.Rooms.{Rooms}

abbrev pub want_in : Rooms → Want → Want
want_in rooms want = clipped_want (room_in rooms want.kind) want

abbrev pub group_in : Rooms → Group → Group
group_in rooms group = map (want_in rooms) group

abbrev pub list_in : Rooms → AltList → AltList
list_in rooms list = map (group_in rooms) list
