-- What contracts see of live drivers, of the trail of a run and of an ask.
use Rattle.std.specs.Prelude.{◌≡◌, Bool, true, false, List, [], ◌∷◌, Option, Some, None, map}
use Rattle.pnp_model.specs.Books.{name_of}
use Rattle.pnp_model.specs.Records.{State}
use Rattle.free_model.specs.Asks.{Query}
use Rattle.live_model.specs.Lives.{Lives}
use Rattle.live_model.specs.Notes.{may_pend, query_words}
use Rattle.live_model.specs.Trails as trails
use Rattle.live_model.specs.Trails.{Trail}
use Rattle.live_run.specs.declared.asks.LiveAsk.{LiveAsk}
use Rattle.live_run.specs.declared.live.LiveDrivers.{LiveDrivers}
use Rattle.live_run.specs.declared.trail.Attached as own_attached
use Rattle.live_run.specs.declared.trail.Trail as own_trail
use Rattle.live_run.specs.declared.trail.Waiting as own_waiting

abbrev pub lives_of : LiveDrivers → Lives
lives_of live = record { names = live.names.items; probed = live.probed }

abbrev pub attached_of : own_attached.Attached → trails.Attached
attached_of a = record { path = a.path; driver = a.driver }

abbrev pub waiting_of : own_waiting.Waiting → trails.Waiting
waiting_of w = record { path = w.path; minor = w.minor; driver = w.driver }

abbrev pub trail_of : own_trail.Trail → Trail
trail_of t = record { attached = map attached_of t.attached.items; waiting = map waiting_of t.waiting.items }

abbrev pub IfWaits : Bool → Trail → Type 0
IfWaits true t = (w : trails.Waiting) × (more : List trails.Waiting) × (t.waiting ≡ w ∷ more)
IfWaits false t = t.waiting ≡ []

-- this is the ask of a query
pub record IsAsk (ask : LiveAsk) (s : State) (q : Query) : Type 0 where
  pub words : ask.words.items ≡ query_words s q
  pub driver : ask.driver ≡ name_of s.core.rack q.driver
  pub may_pend : ask.may_pend ≡ may_pend q.what

-- there is an ask exactly where there is a query, and it is that of it
abbrev pub IfAsks : Option LiveAsk → State → Option Query → Type 0
IfAsks None s None = Unit {0}
IfAsks (Some ask) s (Some q) = IsAsk ask s q
IfAsks _ s _ = ⊥
