-- In each state of a run the list of open handles stands in order of serial, and of each device in it at least one is open.
use Rattle.std.proofs.Common.{ℕ, suc, ◌≡◌, ◌≤◌, Bool, true, false, nat_lt, List, [], ◌∷◌, Some, refl, sym, subst, arith}
use Rattle.std.specs.List.{find}
use Rattle.std.proofs.lemmas.Bool.Decides.{nat_tests}
use Rattle.pnp_model.specs.Handles.{closed_with, comes_after, is_handle_of, is_open, one_less, one_more, opened, opened_with}
use Rattle.pnp_model.specs.Keyed.{changed_first, put_before, without_first}
use Rattle.pnp_model.specs.Records.{Driver, Handle, Settings, State}
use Rattle.pnp_model.specs.Runs.{Entry}
use Rattle.pnp_laws.specs.Effects.{HandleEffect}
use Rattle.pnp_laws.specs.Reached.{IsReached}
use Rattle.pnp_laws.specs.Waiting.{HandlesInOrder, OpenHandlesFitLaw}
use Rattle.pnp_laws.proofs.EffectsOf.{effect_goes}
use Rattle.pnp_laws.proofs.Reaching.{kept}
use Rattle.pnp_laws.proofs.RunsStand.{reaches_kept}

-- The list ------------------------------------------------------------------------------------------

weaker : (lo hi : ℕ) (hs : List Handle) → lo ≤ hi → HandlesInOrder hi hs → HandlesInOrder lo hs
weaker lo hi [] h g = tt
weaker lo hi (x ∷ xs) h g = (omega arith, g.1, g.2)

one_opened : (lo k : ℕ) (hs : List Handle) → HandlesInOrder lo hs → HandlesInOrder lo (changed_first (is_handle_of k) one_more hs)
one_opened lo k [] g = tt
one_opened lo k (x ∷ xs) g = grind (arith, nat_tests, one_opened (suc x.serial) k xs)

first_opened : (lo k : ℕ) (hs : List Handle) → lo ≤ k → is_open hs k ≡ false → HandlesInOrder lo hs → HandlesInOrder lo (put_before (comes_after k) (record { serial = k; count = 1 }) hs)
first_opened lo k [] h shut g = (h, omega arith, tt)
first_opened lo k (x ∷ xs) h shut g = grind (arith, nat_tests, first_opened (suc x.serial) k xs)

-- more than one is open, and one is closed
one_closed : (lo k : ℕ) (hs : List Handle) (handle : Handle) → find (is_handle_of k) hs ≡ Some handle → nat_lt 1 handle.count ≡ true → HandlesInOrder lo hs → HandlesInOrder lo (changed_first (is_handle_of k) one_less hs)
one_closed lo k [] handle at more g = tt
one_closed lo k (x ∷ xs) handle at more g = grind (arith, nat_tests, one_closed (suc x.serial) k xs handle)

last_closed : (lo k : ℕ) (hs : List Handle) → HandlesInOrder lo hs → HandlesInOrder lo (without_first (is_handle_of k) hs)
last_closed lo k [] g = tt
last_closed lo k (x ∷ xs) g = grind (arith, nat_tests, last_closed (suc x.serial) k xs, weaker lo (suc x.serial) xs)

-- A step or an event ----------------------------------------------------------------------------------

order_opened : (k : ℕ) (hs : List Handle) → HandlesInOrder 0 hs → HandlesInOrder 0 (opened k hs)
order_opened k hs g = by_open (is_open hs k) refl
  where
    by_open : (b : Bool) → is_open hs k ≡ b → HandlesInOrder 0 (opened_with k hs b)
    by_open true e = one_opened 0 k hs g
    by_open false e = first_opened 0 k hs (omega arith) e g

order_closed : (k : ℕ) (hs : List Handle) (handle : Handle) → find (is_handle_of k) hs ≡ Some handle → HandlesInOrder 0 hs → HandlesInOrder 0 (closed_with k hs (nat_lt 1 handle.count))
order_closed k hs handle at g = by_more (nat_lt 1 handle.count) refl
  where
    by_more : (b : Bool) → nat_lt 1 handle.count ≡ b → HandlesInOrder 0 (closed_with k hs b)
    by_more true e = one_closed 0 k hs handle at e g
    by_more false e = last_closed 0 k hs g

order_goes : (s : State) (entry : Entry) (t : State) → HandleEffect s entry t → HandlesInOrder 0 s.handles → HandlesInOrder 0 t.handles
order_goes s entry t (HandleEffect.same e) g = subst (λ (hs : List Handle). HandlesInOrder 0 hs) (sym e) g
order_goes s entry t (HandleEffect.opens node path label none found up started event is) g = subst (λ (x : State). HandlesInOrder 0 x.handles) (sym is) (order_opened node.serial s.handles g)
order_goes s entry t (HandleEffect.closes node path label handle found at event handles is) g = subst (λ (hs : List Handle). HandlesInOrder 0 hs) (sym handles) (order_closed node.serial s.handles handle at g)

in_order_run : (settings : Settings) (rack : List Driver) (s : State) → IsReached settings rack s → HandlesInOrder 0 s.handles
in_order_run settings rack s reached =
    kept (λ (x : State). HandlesInOrder 0 x.handles) settings rack (λ old entry new from h goes. order_goes old entry new (effect_goes settings old entry new goes).handles h) tt s reached

pub open_handles_fit : OpenHandlesFitLaw
open_handles_fit settings rack entries s run = record { held = (reaches_kept settings rack entries s run).waits.held; order = in_order_run settings rack s (entries, run) }
