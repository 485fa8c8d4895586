use Rattle.std.proofs.Common.{[], ◌++◌, sym, ◌∙◌, ap, arith}
use Rattle.pnp_machine.specs.Endings.{left}
use Rattle.pnp_cli.proofs.Fronts.{all_is_front}
use Rattle.pnp_cli.proofs.PartsWritten.{part_passes, part_front, passed_front, last_written}
use Rattle.pnp_cli.proofs.ending.write_parts.Goals as goal

pub parts-preserved : goal.parts-preserved
parts-preserved g c =
    let part = c.next_part.new.out.items in
    let rest = c.next_part.new.self in
    record {
      passes =
          part_passes (g.K.Sink.taken c.args.sink.now) (g.K.Sink.taken c.parts.sink) (g.K.Sink.taken c.write_lines.new.sink) (c.args.text.now.items ++ c.args.parts.now)
          c.parts.text.items part c.write_lines.new.lines.items c.parts.parts rest c.parts.invariant.passes
          (ap (λ more. part ++ left more rest) (sym c.if-branch.true) ∙ c.in_ok-next_part.ensures.text)
          c.in_ok-write_lines.ensures.took c.in_ok-write_lines.ensures.none;
      counts = omega (arith, c.parts.invariant.counts, c.write_lines.ensures.counts);
    }

pub returns-in_err-next_part-clause-front : goal.returns-in_err-next_part-clause-front
returns-in_err-next_part-clause-front g c =
    passed_front (g.K.Sink.taken c.args.sink.now) (g.K.Sink.taken c.parts.sink) (c.args.text.now.items ++ c.args.parts.now) c.parts.text.items c.parts.parts c.parts.invariant.passes

pub returns-in_err-write_lines-clause-front : goal.returns-in_err-write_lines-clause-front
returns-in_err-write_lines-clause-front g c =
    let part = c.next_part.new.out.items in
    let rest = c.next_part.new.self in
    part_front (g.K.Sink.taken c.args.sink.now) (g.K.Sink.taken c.parts.sink) (g.K.Sink.taken c.write_lines.new.sink) (c.args.text.now.items ++ c.args.parts.now)
    c.parts.text.items part c.parts.parts rest c.parts.invariant.passes
    (ap (λ more. part ++ left more rest) (sym c.if-branch.true) ∙ c.in_ok-next_part.ensures.text) c.in_err-write_lines.ensures.front

pub returns-in_err-write_lines-2-clause-front : goal.returns-in_err-write_lines-2-clause-front
returns-in_err-write_lines-2-clause-front g c =
    let part = c.next_part.new.out.items in
    part_front (g.K.Sink.taken c.args.sink.now) (g.K.Sink.taken c.parts.sink) (g.K.Sink.taken c.write_lines-2.new.sink) (c.args.text.now.items ++ c.args.parts.now)
    c.parts.text.items part c.parts.parts [] c.parts.invariant.passes
    (ap (λ more. part ++ left more c.next_part.new.self) (sym c.if-branch.false) ∙ c.in_ok-next_part.ensures.text) c.in_err-write_lines-2.ensures.front

pub returns-clause-took : goal.returns-clause-took
returns-clause-took g c =
    let part = c.next_part.new.out.items in
    last_written (g.K.Sink.taken c.args.sink.now) (g.K.Sink.taken c.parts.sink) (g.K.Sink.taken c.write_lines-2.new.sink) (c.args.text.now.items ++ c.args.parts.now)
    c.parts.text.items part c.parts.parts c.parts.invariant.passes
    (ap (λ more. part ++ left more c.next_part.new.self) (sym c.if-branch.false) ∙ c.in_ok-next_part.ensures.text) c.in_ok-write_lines-2.ensures.took

pub returns-clause-front : goal.returns-clause-front
returns-clause-front g c =
    let part = c.next_part.new.out.items in
    all_is_front (g.K.Sink.taken c.args.sink.now) (g.K.Sink.taken c.write_lines-2.new.sink) (c.args.text.now.items ++ c.args.parts.now)
    (last_written (g.K.Sink.taken c.args.sink.now) (g.K.Sink.taken c.parts.sink) (g.K.Sink.taken c.write_lines-2.new.sink) (c.args.text.now.items ++ c.args.parts.now)
    c.parts.text.items part c.parts.parts c.parts.invariant.passes
    (ap (λ more. part ++ left more c.next_part.new.self) (sym c.if-branch.false) ∙ c.in_ok-next_part.ensures.text) c.in_ok-write_lines-2.ensures.took)
