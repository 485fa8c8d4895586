-- One step of a request that does not wait, with the line that it prints.
use Rattle.std.specs.Prelude.{◌≡◌, ℕ, Bool, true, false, ◌||◌, List, Option, Some, None, length, slice_index}
use Rattle.pnp_labels.specs.Texts.{Text}
use Rattle.pnp_labels.specs.declared.label.Label.{Label}
use Rattle.pnp_labels.specs.declared.words.AskWhat.TheVariants.{Irp}
use Rattle.pnp_model.specs.Records.{Driver, Walk}
use Rattle.pnp_model.specs.Books.{name_of, rack_reply, rack_after}
use Rattle.pnp_model.specs.Walks.{place_of, is_bad, has_ended, after, shown_of}
use Rattle.device_stack.specs.declared.walk.Passed.{Passed}
use Rattle.device_stack.specs.declared.walk.Passed.TheVariants.{Asked, Ended}

-- the driver that is asked next
abbrev pub front : Walk → List ℕ → ℕ
front w stack = slice_index stack (place_of w.minor (length stack) w.asked)

-- the same where one is asked: the request neither waits nor has ended
abbrev pub front_unless : Walk → List ℕ → Bool → Option ℕ
front_unless w stack true = None
front_unless w stack false = Some (front w stack)

abbrev pub next_front : Walk → List ℕ → Option ℕ
next_front w stack = front_unless w stack (w.waits || has_ended w (length stack))

-- the driver of this number was asked: its line, and what walk and rack are then
abbrev pub AskedOf : Walk → Text → List Driver → ℕ → Label → Walk → List Driver → Type 0
AskedOf w path rack driver label w' rack' =
    (label ≡ Label.Asked w.minor path (name_of rack driver) (shown_of w.minor (rack_reply (Irp w.minor) path rack driver)))
    × (w' ≡ after w (rack_reply (Irp w.minor) path rack driver)) × (rack' ≡ rack_after (Irp w.minor) path rack driver)

-- it has ended, or the next driver was asked
abbrev pub Passes : Walk → List ℕ → Text → List Driver → Passed → Walk → List Driver → Type 0
Passes w stack path rack (Ended refused) w' rack' =
    (has_ended w (length stack) ≡ true) × (refused ≡ is_bad w) × (w' ≡ w) × (rack' ≡ rack)
Passes w stack path rack (Asked label) w' rack' =
    (has_ended w (length stack) ≡ false) × AskedOf w path rack (front w stack) label w' rack'
