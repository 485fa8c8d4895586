-- What a script that is read in pieces comes to.
use Rattle.std.specs.Prelude.{ℕ, ◌≡◌, List, [], Option, Some, None}
use Rattle.pnp_labels.specs.Texts.{Text}
use Rattle.pnp_labels.specs.declared.label.Label.{Label}
use Rattle.notify_front.specs.Desks.{Desk, front_of, told_of}
use Rattle.pnp_cli.specs.Outputs.{Plays, bad_text, error_line}
use Rattle.pnp_cli.specs.Contents.{events_of, decided_of, answer_of}
use Rattle.pnp_cli.specs.Turns.{Told}
use Rattle.pnp_cli.specs.declared.tally.Tally.{Tally}
use Rattle.pnp_cli.specs.declared.status.Status.{Status}
use Rattle.pnp_cli.specs.declared.turn.WriteError.{WriteError}
use Rattle.pnp_cli.specs.declared.turn.WriteError.TheVariants as writes
use Rattle.pnp_cli.specs.declared.turn.PieceError.{PieceError}
use Rattle.pnp_cli.specs.declared.turn.PieceError.TheVariants.{WriteFault, WantOfMemory}

abbrev pub of_write_error : WriteError → PieceError
of_write_error writes.WriteFault = WriteFault
of_write_error writes.WantOfMemory = WantOfMemory

-- the line of a bad line, by its number
abbrev pub line_of_bad : Option ℕ → Text
line_of_bad None = []
line_of_bad (Some number) = error_line number

abbrev pub answer_by : Option ℕ → Status
answer_by None = Status.Done
answer_by (Some number) = Status.BadScript

-- the file is there, all its events happened up to its end or its first bad line, and all labels were told
pub record Ran (bad : Option ℕ) (d : Desk) (file : Option (List ℕ)) (taken : Option Text) (tally : Tally) (d' : Desk) (taken' : Option Text) (tally' : Tally) : Type 0 where
  pub script : List ℕ
  pub there : file ≡ Some script
  pub labels : List Label
  pub plays : Plays (told_of d) (front_of d) (events_of script) labels (front_of d')
  pub told : Told taken tally labels taken' tally'
  pub line : bad_text (events_of script) ≡ line_of_bad bad
  pub answer : answer_of (decided_of script) ≡ answer_by bad
  pub same : told_of d' ≡ told_of d
