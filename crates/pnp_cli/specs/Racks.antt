-- The drivers of the program, by kind and book.
use Rattle.std.specs.Prelude.{List, [], ◌++◌, replicate}
use Rattle.pnp_labels.specs.declared.event.Rule.{Rule}
use Rattle.pnp_labels.specs.declared.words.DriverKind.{DriverKind}
use Rattle.pnp_labels.specs.declared.words.DriverKind.TheVariants as kinds
use Rattle.pnp_model.specs.Records.{Driver}
use Rattle.driver_rack.specs.Rows.{unnamed}
use Rattle.driver_rack.specs.Teaching.{stubborn_book}
use Rattle.pnp_cli.specs.declared.drivers.ProgramDriver.{ProgramDriver}
use Rattle.pnp_cli.specs.declared.drivers.ProgramDriver.TheVariants as drivers

abbrev pub kind_in : ProgramDriver → DriverKind
kind_in (drivers.Scripted d) = kinds.Scripted
kind_in (drivers.Steady d) = kinds.Steady
kind_in (drivers.Stubborn d) = kinds.Stubborn

-- what a scripted driver was taught, nothing, or that it refuses to be stopped or removed
abbrev pub book_in : ProgramDriver → List Rule
book_in (drivers.Scripted d) = d
book_in (drivers.Steady d) = []
book_in (drivers.Stubborn d) = stubborn_book

-- the driver of the rack that it is before it has a name
abbrev pub row_of : ProgramDriver → Driver
row_of d = unnamed (kind_in d) (book_in d)

-- 128 scripted drivers that were taught nothing, then 32 steady ones, then 16 stubborn ones, all without names
abbrev pub program_rack : List Driver
program_rack = (replicate 128 (unnamed kinds.Scripted []) ++ replicate 32 (unnamed kinds.Steady [])) ++ replicate 16 (unnamed kinds.Stubborn stubborn_book)
