-- What an event says beside its label.
use Rattle.pnp_labels.specs.declared.event.Event.{Event}
use Rattle.script_play.specs.declared.said.Said.{Said}

abbrev pub said_of : Event → Said
said_of (Event.Relate kind owner member) = Said.Relate owner member
said_of (Event.Reserve res) = Said.Reserve res
said_of (Event.Complete path minor ok) = Said.Complete path
said_of (Event.Change path reqs) = Said.Change reqs
said_of _ = Said.Other
