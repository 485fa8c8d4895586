use Rattle.std.proofs.Common.{ℕ, ◌+◌, ◌≤◌, ◌^◌, ◌++◌, List, ◌∙◌, length, None, ap, arith}
use Rattle.notify_front.specs.Desks.{Desk}
use Rattle.script_reader.specs.Reading.{Reading}
use Rattle.script_play.proofs.Plays.{awaits_again, played_none}
use Rattle.script_play.proofs.play.Play.restart.Goals as goal

pub invariant_of-self-2 : goal.invariant_of-self-2
invariant_of-self-2 g c =
    let opens = c.in_ok-restart.ensures.opens in
    let rest =
    ap (λ (r : Reading). r.rest) c.finish.ensures.shut ∙ ap (λ (r : Reading). r.rest) c.in_ok-feed.ensures.ok
    ∙ ap (λ (r : Reading). r.rest ++ c.args.script.now) c.new-reader.ensures.new
    in
    record {
      run = (awaits_again c.self.inside.front.manager (g.R.Drivers.rows c.args.rack.now) c.restart.new.self opens).run;
      shut = ap (λ (r : Reading). r.finished) c.finish.ensures.shut;
      room =
          let none = ap (λ (d : Desk). d.manager.events) opens in
          let all = ap (λ (bytes : List ℕ). length bytes) rest in
          let small = c.requires in
          omega arith;
    }

pub returns-clause-none : goal.returns-clause-none
returns-clause-none g c =
    played_none (record { desk = c.restart.new.self; reading = c.finish.new.self; bad = None })
    (awaits_again c.self.inside.front.manager (g.R.Drivers.rows c.args.rack.now) c.restart.new.self c.in_ok-restart.ensures.opens).quiet
