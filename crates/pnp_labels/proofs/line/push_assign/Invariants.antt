use Rattle.std.proofs.Common.{◌≡◌, ◌++◌, ◌∷◌, drop, map}
use Rattle.std.specs.Prelude.{codes}
use Rattle.pnp_labels.specs.Texts.{after_spaces, spaced, res_text}
use Rattle.pnp_labels.proofs.line.push_assign.Given as goal

abbrev pub invariant-loop-at : goal.invariant-loop-at
invariant-loop-at l =
    l.line.items ++ after_spaces (map res_text (drop l.at l.held)) ≡ l.fn.line.items ++ spaced (codes "assign" ∷ l.path ∷ map res_text l.held)
