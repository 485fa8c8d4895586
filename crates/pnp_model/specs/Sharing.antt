-- Common resources: no two of one state clash.
use Rattle.std.specs.Prelude.{ℕ, ◌≡◌, ◌≢◌, List, Some, Contains}
use Rattle.resource_reqs.specs.Resources.{Res, Clash, NoClash}
use Rattle.pnp_model.specs.Cores.{node_at}
use Rattle.pnp_model.specs.Records.{Node}

-- none of the one list clashes with one of the other
abbrev pub Foreign : List Res → List Res → Type 0
Foreign xs ys = (a b : Res) → Contains xs a → Contains ys b → Clash a b → ⊥

pub record Clear (reserved : List Res) (nodes : List Node) : Type 0 where
  pub own : (k : ℕ) (n : Node) → node_at k nodes ≡ Some n → NoClash n.holds
  pub two : (j k : ℕ) (n m : Node) → j ≢ k → node_at j nodes ≡ Some n → node_at k nodes ≡ Some m → Foreign n.holds m.holds
  pub taken : NoClash reserved
  pub beside : (k : ℕ) (n : Node) → node_at k nodes ≡ Some n → Foreign reserved n.holds
