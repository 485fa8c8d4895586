use Rattle.small_rows.proofs.Standing.{next_in}
use Rattle.small_rows.proofs.sizes.right_values.Goals as goal

pub places-preserved : goal.places-preserved
places-preserved c = next_in c.next-at.result c.args.pool.now c.in-Some.place.node c.requires c.next-at.ensures.found
