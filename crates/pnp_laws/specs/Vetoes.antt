-- A veto restores: what a removal keeps since its begin.
use Rattle.std.specs.Prelude.{ℕ, ◌≡◌, ◌⊎◌, List, [], ◌∷◌}
use Rattle.pnp_model.specs.Keyed.{changed_first}
use Rattle.pnp_model.specs.Cores.{is_node, with_state}
use Rattle.pnp_model.specs.Records.{Node, Core, Job, Stage}
use Rattle.pnp_labels.specs.declared.states.DevState.{DevState}
use Rattle.pnp_labels.specs.declared.states.DevState.TheVariants.{Started, RemovePending}

abbrev pub turned : DevState → ℕ → List Node → List Node
turned state k nodes = changed_first (is_node k) (with_state state) nodes

-- the nodes, with those that agreed in this state
abbrev pub marked : DevState → List ℕ → List Node → List Node
marked state [] nodes = nodes
marked state (k ∷ ks) nodes = turned state k (marked state ks nodes)

-- each that agreed is as before where it is Started again
abbrev pub TakenBack : DevState → List ℕ → List Node → Type 0
TakenBack state [] nodes = Unit {0}
TakenBack state (k ∷ ks) nodes = (turned Started k (marked state ks nodes) ≡ marked state ks nodes) × TakenBack state ks nodes

-- nothing has changed since but for those that agreed, which are in this state
pub record Held (state : DevState) (before now : Core) (agreed : List ℕ) : Type 0 where
  pub nodes : now.nodes ≡ marked state agreed before.nodes
  pub back : TakenBack state agreed before.nodes
  pub relations : now.relations ≡ before.relations
  pub reserved : now.reserved ≡ before.reserved

abbrev pub Since : Core → Core → Job → Stage → Type 0
Since before now o Stage.Next = Held RemovePending before now o.agreed × (o.refused ≡ [])
Since before now o Stage.Asking = Held RemovePending before now o.agreed × (o.refused ≡ [])
Since before now o Stage.TakingBack = Held RemovePending before now o.agreed
Since before now o Stage.Cancelling = Held RemovePending before now o.todo
Since before now o Stage.Removing = o.refused ≡ []
Since before now o Stage.Settling = o.refused ≡ []
Since before now o Stage.Ending = (o.refused ≡ []) ⊎ Held RemovePending before now []
Since before now o _ = ⊥
