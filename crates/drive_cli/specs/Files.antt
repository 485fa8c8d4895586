-- The files that a run reads, and the drivers that it has.
use Rattle.std.specs.Prelude.{ℕ, ◌≡◌, List, ◌++◌, Option, Some, None, Ok, map, replicate, Vec}
use Rattle.std.specs.Global.{Global}
use Rattle.inf_reader.specs.Meaning.{inf}
use Rattle.inf_reader.specs.declared.parts.Inf.{Inf}
use Rattle.pnp_io.specs.Outside.{Rose}
use Rattle.pnp_labels.specs.Texts.{Text}
use Rattle.pnp_labels.specs.declared.words.DriverKind.{DriverKind}
use Rattle.pnp_labels.specs.declared.words.DriverKind.TheVariants.{Scripted, Steady, Stubborn}

-- as those that pnpmgr has
abbrev pub program_kinds : List DriverKind
program_kinds = (replicate 128 Scripted ++ replicate 32 Steady) ++ replicate 16 Stubborn

-- the count of some file rose
pub record SomeRose (old new : Text → ℕ) : Type 0 where
  pub name : Text
  pub rose : Rose (old name) (new name)

abbrev pub texts : List (Vec ℕ Global) → List Text
texts lines = map (λ line. line.items) lines

-- these files hold this, one for each name
abbrev pub HoldAll : Option (Text → Option Text) → List Text → List Text → Type 0
HoldAll None names all = Unit {0}
HoldAll (Some told) names all = map (λ name. told name) names ≡ map (λ bytes. Some bytes) all

-- the INFs of these names
pub record AreRead (contents : Option (Text → Option Text)) (names : List Text) (infs : List Inf) : Type 0 where
  pub all : List Text
  pub hold : HoldAll contents names all
  pub read : map (λ bytes. inf bytes) all ≡ map (λ i. Ok i) infs
