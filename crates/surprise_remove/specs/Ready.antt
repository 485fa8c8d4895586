-- Which devices may lose their drivers after a surprise removal.
use Rattle.std.specs.Prelude.{Bool, false, not, ◌&&◌, List, Option, Some, None}
use Rattle.pnp_model.specs.Records.{Node, Core, Handle}
use Rattle.pnp_model.specs.Handles.{is_open, has_drivers, is_ready_device}
use Rattle.pnp_model.specs.Tests.{is_surprise_removed}

-- the device is there and ready
abbrev pub is_ready_at : Core → List Handle → Option Node → Bool
is_ready_at c handles None = false
is_ready_at c handles (Some n) = is_ready_device c handles n

-- it was told that it has gone and has its drivers still, and no handle to it is open
abbrev pub is_let_go : List Handle → Node → Bool
is_let_go handles n = is_surprise_removed n.state && (has_drivers n.stack && not (is_open handles n.serial))
