-- What of a node never changes, whatever is done with its device.
use Rattle.std.specs.Prelude.{ℕ, List, map}
use Rattle.pnp_labels.specs.Texts.{Text}
use Rattle.pnp_model.specs.Records.{Node}

pub record Identity : Type 0 where
  pub serial : ℕ
  pub parent : ℕ
  pub born : ℕ
  pub path : Text
  pub hw : List Text
  pub compat : List Text

abbrev pub identity : Node → Identity
identity n = record { serial = n.serial; parent = n.parent; born = n.born; path = n.path; hw = n.hw; compat = n.compat }

abbrev pub identities : List Node → List Identity
identities nodes = map identity nodes
