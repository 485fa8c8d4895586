-- Why a file was not read, as a reason why there is no report.
use Rattle.pnp_io.specs.declared.whole.ReadError.{ReadError}
use Rattle.pnp_io.specs.declared.whole.ReadError.TheVariants as reads
use Rattle.explore_report.specs.declared.error.ReportError.{ReportError}

abbrev pub of_read_error : ReadError → ReportError
of_read_error reads.ReadFault = ReportError.ReadFault
of_read_error reads.TooLarge = ReportError.TooLarge
of_read_error reads.WantOfMemory = ReportError.WantOfMemory
