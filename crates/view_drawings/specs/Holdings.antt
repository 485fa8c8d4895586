-- Who has a resource, by number.
use Rattle.std.specs.Prelude.{ℕ}
use Rattle.pnp_labels.specs.Texts.{Text}
use Rattle.pnp_model.specs.Endings.{Held}
use Rattle.resource_reqs.specs.Resources.{Res}
use Rattle.resource_reqs.specs.declared.owner.Owner.{Owner}
use Rattle.resource_reqs.specs.declared.owner.Owner.TheVariants.{Reserved, Device}

-- 0 and no device where it is reserved
abbrev pub owner_number : Owner → ℕ
owner_number Reserved = 0
owner_number (Device serial) = serial

-- what the device of a serial and a path holds
abbrev pub held_row : ℕ → Text → Res → Held
held_row serial path res = record { res = res; owner = serial; words = path }
