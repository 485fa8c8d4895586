-- What a driver answers: the first rule that matches and has uses left, else Ok.
use Rattle.std.specs.Prelude.{ℕ, ◌-◌, Bool, true, false, ◌&&◌, List, [], Option, Some, None, nat_lt, find, slice_get, slice_set, position, is_none}
use Rattle.pnp_model.specs.Keyed.{changed_first}
use Rattle.device_ids.specs.Folding.{same}
use Rattle.pnp_model.specs.Tests.{same_what, same_kind}
use Rattle.pnp_model.specs.Records.{Driver}
use Rattle.pnp_labels.specs.Texts.{Text}
use Rattle.pnp_labels.specs.declared.event.Rule.{Rule}
use Rattle.pnp_labels.specs.declared.words.AskWhat.{AskWhat}
use Rattle.pnp_labels.specs.declared.words.Answer.{Answer}
use Rattle.pnp_labels.specs.declared.words.DriverKind.{DriverKind}
use Rattle.pnp_labels.specs.declared.words.Answer.TheVariants.{Ok}

abbrev pub path_fits : Option Text → Text → Bool
path_fits None path = true
path_fits (Some p) path = same p path

abbrev pub has_uses : Option ℕ → Bool
has_uses None = true
has_uses (Some n) = nat_lt 0 n

abbrev pub fits : AskWhat → Text → Rule → Bool
fits what path rule = same_what rule.what what && path_fits rule.path path && has_uses rule.uses

abbrev pub one_less : Option ℕ → Option ℕ
one_less None = None
one_less (Some n) = Some (n - 1)

abbrev pub used : Rule → Rule
used rule = record rule { uses = one_less rule.uses }

abbrev pub answer_in : Option Rule → Answer
answer_in None = Ok
answer_in (Some rule) = rule.answer

abbrev pub reply : AskWhat → Text → List Rule → Answer
reply what path book = answer_in (find (fits what path) book)

abbrev pub later : AskWhat → Text → List Rule → List Rule
later what path book = changed_first (fits what path) used book

-- A driver of the rack, by its number. A number past the end has no name and answers Ok.

abbrev pub book_of : Option Driver → List Rule
book_of None = []
book_of (Some driver) = driver.book

abbrev pub name_or_none : Option Driver → Option Text
name_or_none None = None
name_or_none (Some driver) = driver.name

abbrev pub printed_name : Option Text → Text
printed_name None = []
printed_name (Some name) = name

abbrev pub name_of : List Driver → ℕ → Text
name_of rack k = printed_name (name_or_none (slice_get rack k))

abbrev pub rack_reply : AskWhat → Text → List Driver → ℕ → Answer
rack_reply what path rack k = reply what path (book_of (slice_get rack k))

-- the rack after the driver was asked
abbrev pub with_later : AskWhat → Text → List Driver → ℕ → Option Driver → List Driver
with_later what path rack k None = rack
with_later what path rack k (Some driver) = slice_set rack k (record driver { book = later what path driver.book })

abbrev pub rack_after : AskWhat → Text → List Driver → ℕ → List Driver
rack_after what path rack k = with_later what path rack k (slice_get rack k)

-- names

abbrev pub name_is : Text → Option Text → Bool
name_is name None = false
name_is name (Some own) = same own name

abbrev pub is_named : Text → Driver → Bool
is_named name driver = name_is name driver.name

abbrev pub is_unnamed : DriverKind → Driver → Bool
is_unnamed kind driver = same_kind driver.kind kind && is_none driver.name

abbrev pub driver_named : Text → List Driver → Option ℕ
driver_named name rack = position (is_named name) rack

abbrev pub with_name : Text → Driver → Driver
with_name name driver = record driver { name = Some name }
