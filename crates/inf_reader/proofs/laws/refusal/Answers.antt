use Rattle.inf_reader.proofs.Refusals.{refused_first, refused_for}
use Rattle.inf_reader.proofs.laws.refusal.Goals as goal

pub returns-clause-first : goal.returns-clause-first
returns-clause-first c = refused_first

pub returns-clause-real : goal.returns-clause-real
returns-clause-real c = refused_for
