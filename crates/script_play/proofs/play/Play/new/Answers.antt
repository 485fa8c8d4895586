use Rattle.std.proofs.Common.{None}
use Rattle.script_play.proofs.Plays.{played_none}
use Rattle.script_play.proofs.play.Play.new.Goals as goal

pub returns-clause-none : goal.returns-clause-none
returns-clause-none g c = played_none (record { desk = c.args.front; reading = c.finish.new.self; bad = None }) c.requires.awaits.quiet
