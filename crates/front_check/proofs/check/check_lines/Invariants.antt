use Rattle.std.proofs.Common.{◌≡◌, ◌+◌, ◌≤◌, ◌^◌, length, true}
use Rattle.notify_front.specs.Desks.{front_of, told_of}
use Rattle.trace_check.specs.declared.check.Checked.{Checked}
use Rattle.front_check.specs.Turns.{Tells, place}
use Rattle.front_check.proofs.check.check_lines.Given as goal

abbrev pub invariant-lines : goal.invariant-lines
invariant-lines l = record {
  finished : l.reader.finished ≡ true;
  room : l.run.manager.events + length l.reader.rest ≤ 2 ^ 24;
  few : l.lines + length l.rest ≤ length l.trace;
  leads : (checked : Checked) → Tells checked (told_of l.run) (place l.run l.reader) l.rest l.lines → Tells checked (told_of l.fn.run) (place l.fn.run l.fn.reader) l.trace 0;
}

abbrev pub decreases-lines : goal.decreases-lines
decreases-lines l = length l.rest
