-- Counts of faults over several calls.
use Rattle.std.proofs.Common.{ℕ, ◌≤◌, inl, inr, arith}
use Rattle.pnp_io.specs.Outside.{Rose}

-- the count rose, also from before
pub rose_behind : (old middle new : ℕ) → old ≤ middle → Rose middle new → Rose old new
rose_behind old middle new le (inl less) = inl (omega (arith, le, less))
rose_behind old middle new le (inr top) = inr top
