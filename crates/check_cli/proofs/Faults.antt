-- Counts of faults over several calls.
use Rattle.std.proofs.Common.{ℕ, ◌≤◌, inl, inr, arith}
use Rattle.pnp_io.specs.Outside.{Rose}
use Rattle.pnp_labels.specs.Texts.{Text}
use Rattle.check_cli.specs.Checks.{SomeRose}

-- the count of a name rose, also from before
rose_before : (old middle new : ℕ) → old ≤ middle → Rose middle new → Rose old new
rose_before old middle new le (inl less) = inl (omega (arith, le, less))
rose_before old middle new le (inr top) = inr top

pub rose_here : (name : Text) (old new : Text → ℕ) → Rose (old name) (new name) → SomeRose old new
rose_here name old new rose = record { name = name; rose = rose }

pub rose_behind : (name : Text) (old middle new : Text → ℕ) → ((other : Text) → old other ≤ middle other) → Rose (middle name) (new name) → SomeRose old new
rose_behind name old middle new counts rose = rose_here name old new (rose_before (old name) (middle name) (new name) (counts name) rose)

pub rose_later : (name : Text) (old first second new : Text → ℕ) → ((other : Text) → old other ≤ first other) → ((other : Text) → first other ≤ second other) → Rose (second name) (new name) → SomeRose old new
rose_later name old first second new counts more rose = rose_behind name old second new (λ other. omega (arith, counts other, more other)) rose
