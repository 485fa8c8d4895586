use Rattle.std.proofs.Common.{◌≡◌, ◌∙◌, ℕ, List, Result, Ok, Err, IfOk, ap}
use Rattle.std.specs.declared.alloc.AllocError.{AllocError}
use Rattle.pnp_model.specs.Records.{Core, Node, Relation}
use Rattle.pnp_model.specs.Trees.{leaving}
use Rattle.relations.specs.Leaving.{IsLeaving}
use Rattle.pnp_machine.proofs.manager.Manager.leaving.Goals as goal

-- the order by nodes and relations alone is that of the core that has them
order_of : (c : Core) (nodes : List Node) (relations : List Relation) (k : ℕ) → nodes ≡ c.nodes → relations ≡ c.relations
    → (r : Result (List ℕ) AllocError) → IfOk r (λ order. IsLeaving nodes relations k order) → IfOk r (λ order. order ≡ leaving c k)
order_of c nodes relations k a b (Ok order) h =
    h c ∙ ap (λ ns. leaving (record c { nodes = ns; relations = relations }) k) a ∙ ap (λ rs. leaving (record c { relations = rs }) k) b
order_of c nodes relations k a b (Err refused) h = tt

pub returns : goal.returns
returns g c = order_of c.args.self.now.state.core _ _ c.args.serial c.tree.ensures c.relations.ensures c.leaving.result c.leaving.ensures
