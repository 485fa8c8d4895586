use Rattle.std.proofs.Common.{ap}
use Rattle.script_play.specs.Playing.{Playing}
use Rattle.script_play.proofs.Plays.{ok_at, stepped_by, quiet_by, played_step}
use Rattle.script_play.proofs.play.Play.step.Goals as goal
use Rattle.script_play.proofs.play.Play.step.Goals.{in-Label, in-Quiet}

pub returns-clause-moves : goal.returns-clause-moves
returns-clause-moves g c =
    let i = c.self.inside in
    elim c.match-branch-2.branch [
      | in-Label w ↦
          ok_at _ _ _ w.result-is
          (stepped_by i.front c.step.new.self i.reader i.bad c.args.self.now c.self.view_is c.in_ok-label.field-0 w.in-Label.label w.in-Label.is c.in_ok-label.ensures.moves c.self.invariant c.in_ok-label.ensures.settings)
      | in-Quiet w ↦
          ok_at _ _ _ w.result-is (
            (quiet_by i.front c.step.new.self i.reader i.bad c.args.self.now c.self.view_is c.in_ok-label.field-0 w.in-Quiet.is c.in_ok-label.ensures.moves c.in_ok-label.ensures.settings).0,
            ap (λ (p : Playing). p.reading) c.self.view_is,
          )
    ]

pub returns-clause-played : goal.returns-clause-played
returns-clause-played g c =
    let i = c.self.inside in
    elim c.match-branch-2.branch [
      | in-Label w ↦
          ok_at _ _ _ w.result-is
          (λ start labels played.
          played_step start c.args.self.now _ labels w.in-Label.label played
          (stepped_by i.front c.step.new.self i.reader i.bad c.args.self.now c.self.view_is c.in_ok-label.field-0 w.in-Label.label w.in-Label.is c.in_ok-label.ensures.moves c.self.invariant c.in_ok-label.ensures.settings))
      | in-Quiet w ↦
          ok_at _ _ _ w.result-is
          (quiet_by i.front c.step.new.self i.reader i.bad c.args.self.now c.self.view_is c.in_ok-label.field-0 w.in-Quiet.is c.in_ok-label.ensures.moves c.in_ok-label.ensures.settings).1
    ]
