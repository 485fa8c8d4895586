use Rattle.std.proofs.Common.{◌≡◌, Some, arith, sym, subst, true}
use Rattle.free_run.specs.FreeRuns.{Free, settings}
use Rattle.live_model.specs.Lives.{is_live, live_query}
use Rattle.live_run.specs.Views.{IfAsks, lives_of}
use Rattle.drive_cli.proofs.Asking.{somebody}
use Rattle.drive_cli.proofs.machine.ProgramMachineMachine.live_ask.Goals as goal

pub returns : goal.returns
returns c =
    let live : is_live (lives_of c.args.live.now) c.in-Some-driver_name.driver.now ≡ true = grind (arith, c.has.ensures, c.if-not-has.false) in
    let here : IfAsks (Some c.in_ok-ask.ask) c.self.inside.run.state (live_query (lives_of c.args.live.now) c.self.inside.run.state) =
    somebody (lives_of c.args.live.now) (settings c.self.inside.run) c.self.inside.run.state c.in-Some.query.what c.in-Some.query.driver c.in-Some-driver_name.driver.now c.in-Some.query.node.now
    c.in_ok-ask.ask c.self.invariant (sym c.in-Some.ensures.query) (sym c.in-Some-driver_name.ensures) live c.in-Some.ensures.node c.in_ok-ask.ensures.words c.in_ok-ask.ensures.driver
    c.in_ok-ask.ensures.may_pend
    in
    let view = c.self.view_is in
    let is : c.self.inside.run ≡ c.args.self.now = cc in
    subst (λ (f : Free). IfAsks (Some c.in_ok-ask.ask) f.state (live_query (lives_of c.args.live.now) f.state)) is here
