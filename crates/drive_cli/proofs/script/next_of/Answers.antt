use Rattle.std.proofs.Common.{Option, sym, subst, true}
use Rattle.pnp_labels.specs.declared.event.Event.{Event}
use Rattle.script_reader.specs.Script.{trace}
use Rattle.drive_cli.specs.Runs.{GivesNext}
use Rattle.drive_cli.proofs.Scripts.{next_gives}
use Rattle.drive_cli.proofs.script.next_of.Goals as goal

pub returns-clause-gives : goal.returns-clause-gives
returns-clause-gives c =
    subst (λ (o : Option Event). GivesNext o (trace true c.args.reader.now.passed c.args.reader.now.rest) (trace true c.next_event.new.self.passed c.next_event.new.self.rest)) (sym c.event_in.ensures)
    (next_gives c.in_ok-next.next c.args.reader.now c.next_event.new.self c.requires.finished c.in_ok-next.ensures.answers)
