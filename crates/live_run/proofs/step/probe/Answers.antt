use Rattle.std.proofs.Common.{arith, ◌+◌, ap, drop, map, refl, subst, ◌∙◌}
use Rattle.pnp_labels.specs.Texts.{Text}
use Rattle.live_model.specs.Notes.{probe_words}
use Rattle.live_model.specs.Outputs.{asked}
use Rattle.live_model.specs.Trails.{drivers_of}
use Rattle.live_run.specs.Probes.{HasProbed, HearsProbed}
use Rattle.std.specs.Prelude.{Err}
use Rattle.live_run.specs.Runs.{HasProbedAll}
use Rattle.live_run.specs.Talks.{told}
use Rattle.live_run.specs.Views.{trail_of}
use Rattle.live_run.specs.declared.stop.DriveError.{DriveError}
use Rattle.live_run.specs.declared.stop.Stop.{Stop}
use Rattle.live_run.proofs.Leading.{passed_on}
use Rattle.live_run.proofs.Probing.{came_so_far, came_through, given_up, next_seen, none_left, nothing_yet, one_more}
use Rattle.live_run.proofs.Talking.{unsaid}
use Rattle.live_run.proofs.step.probe.Goals as goal

pub returns-in_err-drivers-clause-probed : goal.returns-in_err-drivers-clause-probed
returns-in_err-drivers-clause-probed g c = λ lives settings.
    let past = g.P.Peer.past c.args.peer.now in
    let taken = g.P.Peer.taken c.args.peer.now in
    let answers = g.P.Peer.answers c.args.peer.now in
    let t = told c.args.talk.now past taken answers in
    let all = drivers_of c.args.path.now (trail_of c.args.trail.now) in
    passed_on (λ r. HasProbedAll r lives settings c.args.path.now c.args.state all t t past taken) c.from_residual.result (Stop.Fault DriveError.WantOfMemory) c.from_residual.ensures
    (given_up c.args.path.now c.args.state all all t t t past taken DriveError.WantOfMemory (unsaid c.args.talk.now.asks c.args.talk.now.said.items past taken answers)
    (nothing_yet c.args.path.now c.args.state all all t refl) lives settings)

pub loop-driver-init : goal.loop-driver-init
loop-driver-init g c = record {
  come = nothing_yet c.args.path.now c.args.state (drivers_of c.args.path.now (trail_of c.args.trail.now)) (map (λ d. d.now) c.deref-driver-items.result.now)
      (told c.args.talk.now (g.P.Peer.past c.args.peer.now) (g.P.Peer.taken c.args.peer.now) (g.P.Peer.answers c.args.peer.now))
      (ap (map (λ d. d.now)) c.deref-driver-items.ensures.value ∙ c.in_ok-drivers.ensures);
  writes = omega arith;
  reads = omega arith;
}

pub loop-driver-preserved : goal.loop-driver-preserved
loop-driver-preserved g c = record {
  come =
      let t = told c.loop-driver.talk (g.P.Peer.past c.loop-driver.peer) (g.P.Peer.taken c.loop-driver.peer) (g.P.Peer.answers c.loop-driver.peer) in
      let t' = told c.probe_driver.new.self (g.P.Peer.past c.probe_driver.new.peer) (g.P.Peer.taken c.probe_driver.new.peer) (g.P.Peer.answers c.probe_driver.new.peer) in
      let words = c.deref.ensures.value ∙ c.in_ok-words.ensures ∙ ap (λ (p : Text). probe_words p c.driver-item.result.now) c.bytes.ensures in
      one_more c.args.path.now c.args.state (drivers_of c.args.path.now (trail_of c.args.trail.now)) c.driver-item.result.now
      (map (λ d. d.now) (drop c.loop-driver.driver-index c.deref-driver-items.result.now)) (map (λ d. d.now) (drop (c.loop-driver.driver-index + 1) c.deref-driver-items.result.now))
      (told c.args.talk.now (g.P.Peer.past c.args.peer.now) (g.P.Peer.taken c.args.peer.now) (g.P.Peer.answers c.args.peer.now)) t t'
      (next_seen (λ d. d.now) c.deref-driver-items.result.now c.loop-driver.driver-index c.driver-item.result c.loop-driver-test.true c.driver-item.is)
      c.loop-driver.invariant.come
      (subst (λ (w : Text). HearsProbed c.driver-item.result.now c.args.state (asked w t) t') words c.in_ok-probe_driver.ensures.probed);
  writes = omega (arith, c.loop-driver.invariant.writes, c.in_ok-probe_driver.ensures.writes);
  reads = omega (arith, c.loop-driver.invariant.reads, c.in_ok-probe_driver.ensures.reads);
}

pub returns-in_err-words-clause-probed : goal.returns-in_err-words-clause-probed
returns-in_err-words-clause-probed g c = λ lives settings.
    let past = g.P.Peer.past c.loop-driver.peer in
    let taken = g.P.Peer.taken c.loop-driver.peer in
    let answers = g.P.Peer.answers c.loop-driver.peer in
    let t = told c.loop-driver.talk past taken answers in
    let old = told c.args.talk.now (g.P.Peer.past c.args.peer.now) (g.P.Peer.taken c.args.peer.now) (g.P.Peer.answers c.args.peer.now) in
    let all = drivers_of c.args.path.now (trail_of c.args.trail.now) in
    passed_on (λ r. HasProbedAll r lives settings c.args.path.now c.args.state all old t past taken) c.from_residual-in_err-words.result (Stop.Fault DriveError.WantOfMemory) c.from_residual-in_err-words.ensures
    (given_up c.args.path.now c.args.state all (map (λ d. d.now) (drop c.loop-driver.driver-index c.deref-driver-items.result.now)) old t t past taken DriveError.WantOfMemory
    (unsaid c.loop-driver.talk.asks c.loop-driver.talk.said.items past taken answers) c.loop-driver.invariant.come lives settings)

pub returns-in_err-probe_driver-clause-probed : goal.returns-in_err-probe_driver-clause-probed
returns-in_err-probe_driver-clause-probed g c = λ lives settings.
    let t = told c.loop-driver.talk (g.P.Peer.past c.loop-driver.peer) (g.P.Peer.taken c.loop-driver.peer) (g.P.Peer.answers c.loop-driver.peer) in
    let past' = g.P.Peer.past c.probe_driver.new.peer in
    let taken' = g.P.Peer.taken c.probe_driver.new.peer in
    let t' = told c.probe_driver.new.self past' taken' (g.P.Peer.answers c.probe_driver.new.peer) in
    let old = told c.args.talk.now (g.P.Peer.past c.args.peer.now) (g.P.Peer.taken c.args.peer.now) (g.P.Peer.answers c.args.peer.now) in
    let all = drivers_of c.args.path.now (trail_of c.args.trail.now) in
    let words = c.deref.ensures.value ∙ c.in_ok-words.ensures ∙ ap (λ (p : Text). probe_words p c.driver-item.result.now) c.bytes.ensures in
    passed_on (λ r. HasProbedAll r lives settings c.args.path.now c.args.state all old t' past' taken') c.from_residual-in_err-probe_driver.result c.in_err-probe_driver.field-0.0 c.from_residual-in_err-probe_driver.ensures
    (came_so_far c.in_err-probe_driver.field-0.0 c.args.path.now c.args.state all c.driver-item.result.now
    (map (λ d. d.now) (drop c.loop-driver.driver-index c.deref-driver-items.result.now)) (map (λ d. d.now) (drop (c.loop-driver.driver-index + 1) c.deref-driver-items.result.now)) old t t' past' taken'
    (next_seen (λ d. d.now) c.deref-driver-items.result.now c.loop-driver.driver-index c.driver-item.result c.loop-driver-test.true c.driver-item.is)
    c.loop-driver.invariant.come
    (subst (λ (w : Text). HasProbed (Err c.in_err-probe_driver.field-0.0) c.driver-item.result.now c.args.state (asked w t) t' past' taken') words c.in_err-probe_driver.ensures.probed)
    lives settings)

pub returns-clause-probed : goal.returns-clause-probed
returns-clause-probed g c =
    let past = g.P.Peer.past c.loop-driver.peer in
    let taken = g.P.Peer.taken c.loop-driver.peer in
    came_through c.args.path.now c.args.state (drivers_of c.args.path.now (trail_of c.args.trail.now)) (map (λ d. d.now) (drop c.loop-driver.driver-index c.deref-driver-items.result.now))
    (told c.args.talk.now (g.P.Peer.past c.args.peer.now) (g.P.Peer.taken c.args.peer.now) (g.P.Peer.answers c.args.peer.now))
    (told c.loop-driver.talk past taken (g.P.Peer.answers c.loop-driver.peer)) past taken
    (none_left (λ d. d.now) c.deref-driver-items.result.now c.loop-driver.driver-index c.loop-driver-test.false) c.loop-driver.invariant.come
