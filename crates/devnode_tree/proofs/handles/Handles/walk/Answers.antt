use Rattle.std.proofs.Common.{◌∙◌, List, ℕ, ap}
use Rattle.pnp_model.specs.Records.{Handle}
use Rattle.pnp_model.specs.Handles.{is_open}
use Rattle.pnp_model.specs.Tests.{has}
use Rattle.devnode_tree.proofs.Walking.{open_keys}
use Rattle.devnode_tree.proofs.handles.Handles.walk.Goals as goal

pub returns : goal.returns
returns c =
    λ k. ap (λ (ks : List ℕ). has ks k) c.over.ensures ∙ (open_keys k c.self.inside.counts.entries ∙ ap (λ (hs : List Handle). is_open hs k) c.self.view_is)
