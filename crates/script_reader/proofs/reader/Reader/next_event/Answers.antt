use Rattle.std.proofs.Common.{ap, drop, refl, sym, subst, ◌∙◌}
use Rattle.script_reader.specs.Openings.{LeadsTo}
use Rattle.script_reader.specs.Lines.{read_line}
use Rattle.script_reader.specs.Script.{Waits, Ends}
use Rattle.script_reader.specs.Words.{words_of}
use Rattle.script_reader.specs.Faults.{Fails}
use Rattle.script_reader.specs.declared.step.Step.TheVariants as steps
use Rattle.script_reader.specs.declared.events.Opening.TheVariants as openings
use Rattle.script_reader.proofs.Moving.{answer_over, answer_dropped, answer_stop, gives_at, gives_event, gives_none, stop_moves, says_here, skips_from, stuck_from, over_here, is_stop}
use Rattle.script_reader.proofs.Feeding.{has_read_moves}
use Rattle.script_reader.proofs.reader.Reader.next_event.Goals as goal

pub returns-in-NeedMore-clause-answers : goal.returns-in-NeedMore-clause-answers
returns-in-NeedMore-clause-answers c = (
  answer_dropped c.args.self.now c.self.inside.bytes.items c.deref.result.now c.drop_front.new.bytes.items c.self.inside.at c.self.inside.passed c.self.inside.line c.self.inside.fed c.self.inside.finished c.self.inside.bad c.self.inside.bad c.skip_lines-count.result.count c.skip_lines-count.result.lines c.self.inside.line c.self.view_is c.deref.ensures.value c.drop_front.ensures c.skip_lines-count.ensures.reach,
  ap (λ r. r.line) c.self.view_is,
  subst (λ r. Waits c.self.inside.finished r) (over_here c.self.inside.bytes.items c.self.inside.at c.skip_lines-count.result.count ∙ sym c.drop_front.ensures)
      (says_here c.self.inside.bytes.items c.deref.result.now c.self.inside.at c.self.inside.finished c.skip_lines-count.result.count c.skip_lines-count.result.step steps.NeedMore c.deref.ensures.value c.in-NeedMore.is c.skip_lines-count.ensures.step),
  refl,
)

pub returns-in-End-clause-answers : goal.returns-in-End-clause-answers
returns-in-End-clause-answers c = (
  answer_over c.args.self.now c.self.inside.bytes.items c.deref.result.now c.self.inside.at c.self.inside.passed c.self.inside.line c.self.inside.fed c.self.inside.finished c.self.inside.bad c.self.inside.bad c.skip_lines-count.result.count c.skip_lines-count.result.lines c.self.inside.line c.self.view_is c.deref.ensures.value c.skip_lines-count.ensures.reach,
  ap (λ r. r.line) c.self.view_is,
  subst (λ r. Ends c.self.inside.finished r) (over_here c.self.inside.bytes.items c.self.inside.at c.skip_lines-count.result.count)
      (says_here c.self.inside.bytes.items c.deref.result.now c.self.inside.at c.self.inside.finished c.skip_lines-count.result.count c.skip_lines-count.result.step steps.End c.deref.ensures.value c.in-End.is c.skip_lines-count.ensures.step),
)

pub returns-in_default-clause-answers : goal.returns-in_default-clause-answers
returns-in_default-clause-answers c =
    answer_stop c.args.self.now c.stop.new.self c.stop.result c.skip_lines-count.result.count c.skip_lines-count.result.lines
    (skips_from c.args.self.now c.self.inside.bytes.items c.deref.result.now c.self.inside.at c.self.inside.passed c.self.inside.line c.self.inside.fed c.self.inside.finished c.self.inside.bad c.skip_lines-count.result.count c.skip_lines-count.result.lines c.self.view_is c.deref.ensures.value c.skip_lines-count.ensures.reach)
    (stuck_from c.args.self.now c.self.inside.bytes.items c.self.inside.at c.self.inside.passed c.self.inside.line c.self.inside.fed c.self.inside.finished c.self.inside.bad c.skip_lines-count.result.count c.self.view_is
    (says_here c.self.inside.bytes.items c.deref.result.now c.self.inside.at c.self.inside.finished c.skip_lines-count.result.count c.skip_lines-count.result.step steps.Bad c.deref.ensures.value (is_stop c.skip_lines-count.result.step c.skip_lines-count.ensures.no_skip c.in_default.not-Read c.in_default.not-NeedMore c.in_default.not-End) c.skip_lines-count.ensures.step))
    (c.stop.ensures.new) c.stop.ensures.result

pub returns-in-NeedMore-clause-reads : goal.returns-in-NeedMore-clause-reads
returns-in-NeedMore-clause-reads c = λ all events h. has_read_moves all events _ _ _ (returns-in-NeedMore-clause-answers c).0 h

pub returns-in-End-clause-reads : goal.returns-in-End-clause-reads
returns-in-End-clause-reads c = λ all events h. has_read_moves all events _ _ _ (returns-in-End-clause-answers c).0 h

pub returns-in_default-clause-reads : goal.returns-in_default-clause-reads
returns-in_default-clause-reads c = λ all events h. has_read_moves all events _ _ _ (stop_moves c.args.self.now c.stop.new.self c.stop.result c.skip_lines-count.result.count c.skip_lines-count.result.lines
    (skips_from c.args.self.now c.self.inside.bytes.items c.deref.result.now c.self.inside.at c.self.inside.passed c.self.inside.line c.self.inside.fed c.self.inside.finished c.self.inside.bad c.skip_lines-count.result.count c.skip_lines-count.result.lines c.self.view_is c.deref.ensures.value c.skip_lines-count.ensures.reach)
    c.stop.ensures.new c.stop.ensures.result) h

pub returns-in-Ok-At-clause-answers : goal.returns-in-Ok-At-clause-answers
returns-in-Ok-At-clause-answers c = rw (← c.self.view_is) (c.pass.ensures.answers c.event_at.result
    (gives_at c.self.inside.finished (drop c.skip_lines-count.result.count (drop c.self.inside.at c.self.inside.bytes.items)) c.in-Read.more c.in-Read.text.now c.in-Ok-At.event c.in-Ok-At.path c.event_at.result
    (says_here c.self.inside.bytes.items c.deref.result.now c.self.inside.at c.self.inside.finished c.skip_lines-count.result.count c.skip_lines-count.result.step (steps.Read c.in-Read.more c.in-Read.text) c.deref.ensures.value c.in-Read.is c.skip_lines-count.ensures.step)
    (subst (λ f. LeadsTo f (read_line (words_of c.in-Read.text.now))) c.in-Ok-At.field-0-is c.in-Ok-At.ensures) c.event_at.ensures))

pub returns-in-Ok-clause-answers : goal.returns-in-Ok-clause-answers
returns-in-Ok-clause-answers c =
    let leads : LeadsTo (openings.By c.in-Ok-By.event c.in-Ok-By.keyword c.in-Ok-By.rest) (read_line (words_of c.in-Read.text.now)) =
    subst (λ f. LeadsTo f (read_line (words_of c.in-Read.text.now))) c.in-Ok-By.field-0-is c.in-Ok-By.ensures in
    rw (← c.self.view_is) (c.pass-in-Ok.ensures.answers c.in-Ok.event
    (gives_event c.self.inside.finished (drop c.skip_lines-count.result.count (drop c.self.inside.at c.self.inside.bytes.items)) c.in-Read.more c.in-Read.text.now c.in-Ok.event (says_here c.self.inside.bytes.items c.deref.result.now c.self.inside.at c.self.inside.finished c.skip_lines-count.result.count c.skip_lines-count.result.step (steps.Read c.in-Read.more c.in-Read.text) c.deref.ensures.value c.in-Read.is c.skip_lines-count.ensures.step) (leads.1 ∙ c.in-Ok.ensures)))

pub refuse-requires-clause-stuck : goal.refuse-requires-clause-stuck
refuse-requires-clause-stuck c = λ bad.
    let leads : LeadsTo (openings.By c.in-Ok-By.event c.in-Ok-By.keyword c.in-Ok-By.rest) (read_line (words_of c.in-Read.text.now)) =
    subst (λ f. LeadsTo f (read_line (words_of c.in-Read.text.now))) c.in-Ok-By.field-0-is c.in-Ok-By.ensures in
    gives_none c.self.inside.finished (drop c.skip_lines-count.result.count (drop c.self.inside.at c.self.inside.bytes.items)) c.in-Read.more c.in-Read.text.now c.in-Err-read_by.error (says_here c.self.inside.bytes.items c.deref.result.now c.self.inside.at c.self.inside.finished c.skip_lines-count.result.count c.skip_lines-count.result.step (steps.Read c.in-Read.more c.in-Read.text) c.deref.ensures.value c.in-Read.is c.skip_lines-count.ensures.step)
    (subst (λ o. Fails c.in-Err-read_by.error o) (sym leads.1) c.in-Err-read_by.ensures) (sym c.is_bad-is_bad.ensures ∙ bad)

pub refuse-requires-in-Err-clause-stuck : goal.refuse-requires-in-Err-clause-stuck
refuse-requires-in-Err-clause-stuck c = λ bad.
    gives_none c.self.inside.finished (drop c.skip_lines-count.result.count (drop c.self.inside.at c.self.inside.bytes.items)) c.in-Read.more c.in-Read.text.now c.in-Err.error (says_here c.self.inside.bytes.items c.deref.result.now c.self.inside.at c.self.inside.finished c.skip_lines-count.result.count c.skip_lines-count.result.step (steps.Read c.in-Read.more c.in-Read.text) c.deref.ensures.value c.in-Read.is c.skip_lines-count.ensures.step)
    c.in-Err.ensures (sym c.is_bad-is_bad-in-Err.ensures ∙ bad)
