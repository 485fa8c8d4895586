use Rattle.pnp_model.proofs.Clips.{clip_counts, clip_is_whole, clip_twice}
use Rattle.pnp_model.proofs.laws.clipping_leaves_what_fits.Goals as goal

pub returns-clause-whole : goal.returns-clause-whole
returns-clause-whole c = clip_is_whole

pub returns-clause-twice : goal.returns-clause-twice
returns-clause-twice c = clip_twice

pub returns-clause-counts : goal.returns-clause-counts
returns-clause-counts c = clip_counts
