-- What a rack shows but for its books, and racks with which a run may begin.
use Rattle.std.specs.Prelude.{ℕ, ◌≡◌, List, [], ◌∷◌, Option, None, map, length}
use Rattle.pnp_labels.specs.Texts.{Text}
use Rattle.pnp_labels.specs.declared.words.DriverKind.{DriverKind}
use Rattle.pnp_labels.specs.declared.words.DriverKind.TheVariants.{Scripted, Steady, Stubborn}
use Rattle.pnp_model.specs.Records.{Driver}

-- the rules of a driver that can be taught
abbrev pub counted : DriverKind → ℕ → ℕ
counted Scripted n = n
counted Steady n = 0
counted Stubborn n = 0

pub record Shape : Type 0 where
  pub kind : DriverKind
  pub name : Option Text
  pub rules : ℕ

abbrev pub shape : Driver → Shape
shape driver = record { kind = driver.kind; name = driver.name; rules = counted driver.kind (length driver.book) }

abbrev pub shapes : List Driver → List Shape
shapes rack = map shape rack

-- drivers of these kinds without names, of which those that can be taught were taught nothing
abbrev pub AreOf : List DriverKind → List Driver → Type 0
AreOf [] [] = Unit {0}
AreOf [] (driver ∷ rack) = ⊥
AreOf (kind ∷ kinds) [] = ⊥
AreOf (kind ∷ kinds) (driver ∷ rack) =
    (driver.kind ≡ kind) × (driver.name ≡ None) × (kind ≡ Scripted → driver.book ≡ []) × AreOf kinds rack

-- its kind and its name
pub record Face : Type 0 where
  pub kind : DriverKind
  pub name : Option Text

abbrev pub face : Driver → Face
face driver = record { kind = driver.kind; name = driver.name }

abbrev pub faces : List Driver → List Face
faces rack = map face rack
