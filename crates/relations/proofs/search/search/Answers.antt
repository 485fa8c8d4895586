use Rattle.relations.proofs.Notings.{empty_none}
use Rattle.relations.proofs.search.search.Goals as goal

pub search_with-requires-clause-counts : goal.search_with-requires-clause-counts
search_with-requires-clause-counts c = empty_none c.new.result c.new.ensures.empty
