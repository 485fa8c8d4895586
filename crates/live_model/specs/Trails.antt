-- What the lines of a run told of its live drivers.
use Rattle.std.specs.Prelude.{Bool, true, ◌&&◌, not, List, [], ◌∷◌, ◌++◌, Option, find, map, if◌then◌else◌}
use Rattle.std.specs.List.{filter}
use Rattle.std.specs.Str.{bytes_eq}
use Rattle.device_ids.specs.Folding.{same}
use Rattle.pnp_labels.specs.Texts.{Text, minor_text}
use Rattle.pnp_labels.specs.declared.deed.Deed.{Deed}
use Rattle.pnp_labels.specs.declared.label.Label.{Label}
use Rattle.pnp_labels.specs.declared.label.Shown.{Shown}
use Rattle.pnp_labels.specs.declared.states.DevState.{DevState}
use Rattle.pnp_labels.specs.declared.words.Minor.{Minor}
use Rattle.pnp_model.specs.Keyed.{without_first}
use Rattle.live_model.specs.Lives.{Lives, is_live}

-- a live driver that is attached to a device
pub record Attached : Type 0 where
  pub path : Text
  pub driver : Text

-- a request that waits at a live driver
pub record Waiting : Type 0 where
  pub path : Text
  pub minor : Minor
  pub driver : Text

pub record Trail : Type 0 where
  pub attached : List Attached
  pub waiting : List Waiting

abbrev pub no_trail : Trail
no_trail = record { attached = []; waiting = [] }

-- this request of the device of this path
abbrev pub is_request : Text → Minor → Waiting → Bool
is_request path minor w = bytes_eq (minor_text w.minor) (minor_text minor) && same w.path path

abbrev pub is_at : Text → Attached → Bool
is_at path a = same a.path path

abbrev pub attach : Lives → Text → Text → Trail → Trail
attach lives path driver t = if is_live lives driver then record t { attached = t.attached ++ record { path = path; driver = driver } ∷ [] } else t

abbrev pub wait : Lives → Text → Minor → Text → Trail → Trail
wait lives path minor driver t =
    if is_live lives driver then record t { waiting = t.waiting ++ record { path = path; minor = minor; driver = driver } ∷ [] } else t

-- A live driver is attached by an AddDevice that succeeds, until its device has no drivers; a request waits at it from where it is pended
-- until it is completed.
abbrev pub follow : Lives → Label → Trail → Trail
follow lives (Label.Add path driver true) t = attach lives path driver t
follow lives (Label.Asked minor path driver Shown.Pend) t = wait lives path minor driver t
follow lives (Label.State path DevState.NoStack) t = record t { attached = filter (λ a. not (is_at path a)) t.attached }
follow lives (Label.Did (Deed.Completed path minor shown)) t = record t { waiting = without_first (is_request path minor) t.waiting }
follow lives _ t = t

-- the live drivers of a device, the lowest first
abbrev pub drivers_of : Text → Trail → List Text
drivers_of path t = map (λ a. a.driver) (filter (is_at path) t.attached)

-- the first request of this kind for the device that waits at a live driver
abbrev pub request_at : Text → Minor → Trail → Option Waiting
request_at path minor t = find (is_request path minor) t.waiting
