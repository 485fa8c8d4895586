use Rattle.front_check.proofs.Fronts.{feed_inside}
use Rattle.front_check.proofs.front.has_feed_inside.Goals as goal

pub returns : goal.returns
returns c = λ text is. feed_inside c.args.line.now text c.has_feed.result is c.has_feed.ensures
