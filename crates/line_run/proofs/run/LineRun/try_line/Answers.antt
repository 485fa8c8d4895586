use Rattle.std.proofs.Common.{Some, IfSome, ap, sym, subst, ◌≡◌, ◌∙◌}
use Rattle.line_run.specs.Lines.{Lines, seen}
use Rattle.line_run.proofs.Tries.{all_tried, just_ahead, just_ready, just_seen, still_ahead, still_ready}
use Rattle.line_run.proofs.run.LineRun.try_line.Goals as goal

pub invariant_of-self-in-Nothing : goal.invariant_of-self-in-Nothing
invariant_of-self-in-Nothing c =
    let run = c.go_ahead.new.run in
    let ahead = c.in_ok-self-inside.field-0 in
    still_ahead run ahead c.take_ahead.new.ahead c.take_ahead.result (just_ahead c.self.inside.run c.args.event run ahead c.in_ok-self-inside.ensures.ahead) c.take_ahead.ensures.after c.take_ahead.ensures.err

pub returns-in-Nothing-clause-tried : goal.returns-in-Nothing-clause-tried
returns-in-Nothing-clause-tried c =
    let old = c.self.inside.run in
    let run = c.go_ahead.new.run in
    let ahead = c.in_ok-self-inside.field-0 in
    let did = c.in_ok-self-inside.ensures.ahead in
    let was = sym (ap (seen old) c.in-Nothing.is) ∙ ap (λ (l : Lines). l.run) c.self.view_is in
    all_tried c.args.self.now.run run ahead c.take_ahead.new.ahead c.args.event c.args.line.now c.take_ahead.result (just_ahead old c.args.event run ahead did) (just_ready old c.args.event run ahead did)
    (just_seen old c.args.event run ahead did ∙ was) c.take_ahead.ensures.due c.take_ahead.ensures.after

pub returns-clause-tried : goal.returns-clause-tried
returns-clause-tried c =
    let s = c.self.inside in
    let again = subst (λ (l : Lines). IfSome l.offered (λ own. c.args.event ≡ Some own)) (sym c.self.view_is) c.requires.same in
    all_tried c.args.self.now.run s.run s.ahead c.take_ahead-2.new.ahead c.args.event c.args.line.now c.take_ahead-2.result c.self.invariant
    (still_ready s.run s.ahead c.args.event c.in_default.not-Nothing again) (ap (λ (l : Lines). l.run) c.self.view_is) c.take_ahead-2.ensures.due c.take_ahead-2.ensures.after
