use Rattle.pnp_cli.proofs.Ended.{starts_here}
use Rattle.explore_cli.proofs.player.Player.new.Goals as goal

pub over-requires : goal.over-requires
over-requires c = starts_here c.args.infs.items c.args.budget _ c.in-Ok.manager c.in-Ok.ensures
