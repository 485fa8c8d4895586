use Rattle.live_io.proofs.Hearing.{result_hears}
use Rattle.live_io.proofs.file_peer.FilePeer.hear.Goals as goal

pub returns-clause-hears : goal.returns-clause-hears
returns-clause-hears g c =
    rw (c.take_line.ensures.files, c.take_line.ensures.name, c.take_line.ensures.at, ← c.loop-self.invariant.come)
    (result_hears (g.F.Files.contents c.loop-self.self.files) c.loop-self.self.name.items c.loop-self.self.at c.loop-self.self.rest.items c.take_line.new.line.items
    c.take_line.new.self.rest.items c.take_line.result c.take_line.ensures.enough c.take_line.ensures.hears)
