use Rattle.std.proofs.Common.{[], ap, subst, ◌∙◌}
use Rattle.notify_front.specs.Desks.{Desk, told_of}
use Rattle.explore_cli.specs.Playing.{Shows}
use Rattle.explore_cli.proofs.Seeing.{run_is, if_ok_weaker, on_ok_any}
use Rattle.explore_cli.proofs.player.PlayerRuns.run.Goals as goal

pub see_all-requires : goal.see_all-requires
see_all-requires c = ([], c.requires.cleared)

pub returns-clause-shown : goal.returns-clause-shown
returns-clause-shown c = if_ok_weaker c.ending.result _ _ (λ text is.
    run_is c.args.self.now.play.desk.manager c.args.script.now c.restart.new.self.play c.see_all.new.play c.args.expected.now c.see_all.new.seen text.items c.in_ok-restart.ensures.begins
    (c.in_ok-see_all.ensures.saw c.restart.new.self.play (record { labels = []; played = c.in_ok-restart.ensures.none; looked = c.requires.cleared })) is)
    c.ending.ensures

pub returns-clause-same : goal.returns-clause-same
returns-clause-same c =
    let same = c.in_ok-see_all.ensures.settings ∙ ap (λ (d : Desk). told_of d) c.in_ok-restart.ensures.begins.is in
    on_ok_any c.ending.result _ (λ other lines text h. subst (λ s. Shows s other lines text) same h)
