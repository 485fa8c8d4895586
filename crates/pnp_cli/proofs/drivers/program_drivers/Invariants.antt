use Rattle.std.proofs.Common.{◌≡◌, ◌++◌, [], map}
use Rattle.std.specs.Prelude.{replicate}
use Rattle.pnp_labels.specs.declared.words.DriverKind.TheVariants as kinds
use Rattle.driver_rack.specs.Rows.{unnamed}
use Rattle.driver_rack.specs.Teaching.{stubborn_book}
use Rattle.pnp_cli.specs.Racks.{row_of}
use Rattle.pnp_cli.proofs.drivers.program_drivers.Given as goal

abbrev pub invariant-scripted : goal.invariant-scripted
invariant-scripted l = map row_of l.drivers.items ≡ replicate l.counter (unnamed kinds.Scripted [])

abbrev pub invariant-steady : goal.invariant-steady
invariant-steady l = map row_of l.drivers.items ≡ replicate 128 (unnamed kinds.Scripted []) ++ replicate l.counter (unnamed kinds.Steady [])

abbrev pub invariant-stubborn : goal.invariant-stubborn
invariant-stubborn l =
    map row_of l.drivers.items
    ≡ (replicate 128 (unnamed kinds.Scripted []) ++ replicate 32 (unnamed kinds.Steady [])) ++ replicate l.counter (unnamed kinds.Stubborn stubborn_book)
