-- Handles that are open to devices, and which device may lose its drivers after a surprise removal.
use Rattle.std.specs.Prelude.{ℕ, ◌+◌, ◌-◌, ◌==◌, Bool, true, false, not, ◌&&◌, List, [], ◌∷◌, Option, Some, None, nat_lt}
use Rattle.std.specs.List.{list_any}
use Rattle.pnp_model.specs.Keyed.{changed_first, without_first, put_before, those}
use Rattle.pnp_model.specs.Tests.{is_surprise_removed}
use Rattle.pnp_model.specs.Cores.{serials_of}
use Rattle.pnp_model.specs.Trees.{hangs_on, greatest}
use Rattle.pnp_model.specs.Records.{Node, Core, Handle}

-- a device without an open handle is not in the list, which stands in order of serial

abbrev pub is_handle_of : ℕ → Handle → Bool
is_handle_of k h = h.serial == k

abbrev pub is_open : List Handle → ℕ → Bool
is_open handles k = list_any (is_handle_of k) handles

abbrev pub one_more : Handle → Handle
one_more h = record h { count = h.count + 1 }

abbrev pub one_less : Handle → Handle
one_less h = record h { count = h.count - 1 }

abbrev pub comes_after : ℕ → Handle → Bool
comes_after k h = nat_lt k h.serial

-- is one open already?
abbrev pub opened_with : ℕ → List Handle → Bool → List Handle
opened_with k handles true = changed_first (is_handle_of k) one_more handles
opened_with k handles false = put_before (comes_after k) (record { serial = k; count = 1 }) handles

abbrev pub opened : ℕ → List Handle → List Handle
opened k handles = opened_with k handles (is_open handles k)

-- is another one open?
abbrev pub closed_with : ℕ → List Handle → Bool → List Handle
closed_with k handles true = changed_first (is_handle_of k) one_less handles
closed_with k handles false = without_first (is_handle_of k) handles

-- it was told that it has gone, and has its drivers still
abbrev pub was_told : Option Node → Bool
was_told None = false
was_told (Some n) = is_surprise_removed n.state

-- a device is ready to be finished where it was told that it has gone and has its drivers still, no handle to it is open,
-- and nothing that hangs on it has drivers

abbrev pub has_drivers : List ℕ → Bool
has_drivers [] = false
has_drivers (d ∷ ds) = true

abbrev pub holds_back : Core → ℕ → Node → Bool
holds_back c k n = hangs_on c (k ∷ []) n && has_drivers n.stack

abbrev pub is_ready_device : Core → List Handle → Node → Bool
is_ready_device c handles n =
    is_surprise_removed n.state
    && (has_drivers n.stack && (not (is_open handles n.serial) && not (list_any (holds_back c n.serial) c.nodes)))

-- the ready device of the greatest serial
abbrev pub ready_device : Core → List Handle → Option ℕ
ready_device c handles = greatest (serials_of (those (is_ready_device c handles) c.nodes))
