-- What a step asks, in the words of the definition.
use Rattle.std.specs.Prelude.{Bool, true, false, Option, None}
use Rattle.pnp_model.specs.Records.{Node, Walk}
use Rattle.free_model.specs.Asks as asks
use Rattle.free_model.specs.Asks.{at_query}
use Rattle.pnp_machine.specs.declared.query.Query.{Query}

abbrev pub query_of : Query → asks.Query
query_of q = record { what = q.what; path = q.node.now.path; driver = q.driver }

-- what a request asks next, where it does not wait
abbrev pub awake_query : Option Node → Walk → Bool → Option asks.Query
awake_query n w true = None
awake_query n w false = at_query n w
