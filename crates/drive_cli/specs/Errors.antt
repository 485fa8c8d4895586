-- Why a file was not read, as a reason why a check came to no verdict.
use Rattle.pnp_io.specs.declared.whole.ReadError.{ReadError}
use Rattle.pnp_io.specs.declared.whole.ReadError.TheVariants as reads
use Rattle.drive_cli.specs.declared.fault.DriveFault.{DriveFault}

abbrev pub of_read_error : ReadError → DriveFault
of_read_error reads.ReadFault = DriveFault.ReadFault
of_read_error reads.TooLarge = DriveFault.TooLarge
of_read_error reads.WantOfMemory = DriveFault.WantOfMemory
