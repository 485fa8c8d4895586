use Rattle.std.proofs.Common.{rules, ◌∙◌, ap, subst}
use borrow.Author.Tests.{tests}
use Rattle.script_reader.specs.Whole.{Settles}
use Rattle.script_reader.proofs.Pieces.{fed_next, settled, settled_last, all_fed}
use Rattle.script_reader.proofs.whole.read_pieces.Goals as goal

pub returns-in-Some : goal.returns-in-Some
returns-in-Some c =
    settled c.args.script.now c.split_at.result.1.now c.take_events.new.lines.items c.take_events.new.reader c.in-Some.ends
    (fed_next c.args.script.now c.loop-rest.rest.now c.split_at.result.0.now c.split_at.result.1.now _ c.loop-rest.lines.items c.take_events.new.lines.items c.loop-rest.reader c.take_events.new.reader
    c.split_at.ensures.front c.split_at.ensures.back c.loop-rest.invariant
    (λ all h. c.in_ok-ends.ensures.reads _ (c.in_ok-feed.ensures.reads all c.loop-rest.lines.items h))
    (c.in_ok-ends.ensures.finished ∙ ap (λ r. r.finished) c.in_ok-feed.ensures.ok)
    (c.in_ok-ends.ensures.fed ∙ ap (λ r. r.fed) c.in_ok-feed.ensures.ok))
    (subst (λ e. Settles e c.take_events.new.reader) c.in-Some.is c.in_ok-ends.ensures.settles)

pub loop-rest-preserved : goal.loop-rest-preserved
loop-rest-preserved c =
    fed_next c.args.script.now c.loop-rest.rest.now c.split_at.result.0.now c.split_at.result.1.now _ c.loop-rest.lines.items c.take_events.new.lines.items c.loop-rest.reader c.take_events.new.reader
    c.split_at.ensures.front c.split_at.ensures.back c.loop-rest.invariant
    (λ all h. c.in_ok-ends.ensures.reads _ (c.in_ok-feed.ensures.reads all c.loop-rest.lines.items h))
    (c.in_ok-ends.ensures.finished ∙ ap (λ r. r.finished) c.in_ok-feed.ensures.ok)
    (c.in_ok-ends.ensures.fed ∙ ap (λ r. r.fed) c.in_ok-feed.ensures.ok)

pub returns : goal.returns
returns c =
    settled_last c.args.script.now c.take_events-2.new.lines.items c.take_events-2.new.reader c.unwrap-ends.result
    (c.in_ok-take_events.ensures.finished ∙ ap (λ r. r.finished) c.finish.ensures.shut)
    (c.in_ok-take_events.ensures.reads c.args.script.now
    (c.finish.ensures.reads c.args.script.now c.loop-rest.lines.items
    (all_fed c.args.script.now c.loop-rest.rest.now c.loop-rest.lines.items c.loop-rest.reader (search (rules, tests)) c.loop-rest.invariant)))
    (subst (λ e. Settles e c.take_events-2.new.reader) c.unwrap-ends.ensures c.in_ok-take_events.ensures.settles)
