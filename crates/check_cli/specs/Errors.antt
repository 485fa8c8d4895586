-- Why a file was not read, as a reason why a check came to no verdict.
use Rattle.pnp_io.specs.declared.whole.ReadError.{ReadError}
use Rattle.pnp_io.specs.declared.whole.ReadError.TheVariants as reads
use Rattle.check_cli.specs.declared.error.CheckError.{CheckError}

abbrev pub of_read_error : ReadError → CheckError
of_read_error reads.ReadFault = CheckError.ReadFault
of_read_error reads.TooLarge = CheckError.TooLarge
of_read_error reads.WantOfMemory = CheckError.WantOfMemory
