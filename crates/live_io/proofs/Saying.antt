-- What was said whole was said as far as some front of it.
use Rattle.std.proofs.Common.{◌≡◌, ◌≤◌, ℕ, List, ◌++◌, length, take, Option, Result, Ok, Err, refl, sym, subst, arith}
use Rattle.std.specs.Prelude.{OnErr}
use Rattle.std.proofs.lemmas.List.{take_all}
use Rattle.pnp_io.specs.Outside.{Appends, AppendsFront}
use Rattle.live_io.specs.Turns.{Text}
use Rattle.live_io.specs.declared.peer.Heard.{Heard}
use Rattle.live_io.specs.declared.peer.PeerError.{PeerError}

pub front_of_all : (old new : Option Text) (said : Text) → Appends old new said → AppendsFront old new said
front_of_all old new said h =
    let P : Text → Type 0 = λ t. Appends old new t in
    (length said, omega arith, subst P (sym (take_all (length said) said (omega arith))) h)

pub front_on_err : (old new : Option Text) (said : Text) → (result : Result Heard PeerError) → Appends old new said → OnErr result (AppendsFront old new said)
front_on_err old new said (Ok heard) h = tt
front_on_err old new said (Err error) h = front_of_all old new said h
