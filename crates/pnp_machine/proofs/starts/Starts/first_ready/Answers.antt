use Rattle.std.proofs.Common.{◌∙◌, ap, slice_get}
use Rattle.pnp_machine.proofs.Ready.{first_of}
use Rattle.pnp_machine.proofs.starts.Starts.first_ready.Goals as goal

pub returns-clause-first : goal.returns-clause-first
returns-clause-first c =
    rw (← c.self.view_is)
    (c.first_of.ensures ∙ ap (λ l. slice_get l 0) (c.deref.ensures.value ∙ c.self.invariant.index) ∙ first_of c.self.inside.works.items)
