-- What the settings of accepted words keep.
use Rattle.std.specs.Prelude.{ℕ, ◌≤◌, Option, Some, None, length}
use Rattle.pnp_labels.specs.Texts.{Text}
use Rattle.pnp_cli.specs.declared.parts.Settings.{Settings}

-- a script is named, and perhaps a trace to check; or from 1 to 400 devices are to be generated
abbrev pub HasSource : Option Text → Option ℕ → Option Text → Type 0
HasSource (Some name) None check = Unit {0}
HasSource None (Some n) None = (1 ≤ n) × (n ≤ 400)
HasSource _ _ _ = ⊥

-- at most 64 INFs, a budget from 1 to 1,000,000, and one source of events
pub record IsWithin (s : Settings) : Type 0 where
  pub infs : length s.infs ≤ 64
  pub some : 1 ≤ s.budget
  pub most : s.budget ≤ 1000000
  pub source : HasSource s.script s.made s.check
