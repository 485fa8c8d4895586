use Rattle.std.proofs.Common.{◌++◌, ◌∷◌, [], None, subst, sym}
use Rattle.view_states.specs.States.{Tells, Telling}
use Rattle.view_states.proofs.states.States.pass.Goals as goal

pub returns : goal.returns
returns c = λ rows h.
    subst (λ t. Tells t (rows ++ None ∷ []) c.self.inside.last.items) (sym c.in_ok-extend_from_slice.ensures.items)
    (Tells.passed c.self.inside.written.items rows c.self.inside.last.items (subst (λ (s : Telling). Tells s.written rows s.last) (sym c.self.view_is) h))
