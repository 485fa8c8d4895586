-- The first multiple of an alignment.
use Rattle.std.proofs.Common.{◌≡◌, ◌≢◌, ℕ, ◌+◌, ◌-◌, ◌%◌, ◌<◌, ◌≤◌}
use Rattle.range_arbiter.proofs.Aligned.{unaligned_until, aligned_next}

pub unaligned_before : (start align : ℕ) → 0 < align → 0 < start % align → (t : ℕ) → start ≤ t → t < start + (align - start % align) → t % align ≢ 0
unaligned_before = unaligned_until

pub aligned_there : (start align : ℕ) → 0 < align → 0 < start % align → (start + (align - start % align)) % align ≡ 0
aligned_there = aligned_next
