use Rattle.std.proofs.Common.{◌≡◌, ◌∙◌, ℕ, List, Option, IfSome, arith, refl, sym, subst, false, take}
use Rattle.std.proofs.lemmas.Grind.{common_steps}
use Rattle.pnp_io.specs.Outside.{ReadsTold}
use Rattle.script_reader.specs.Reading.{Reading}
use Rattle.script_reader.specs.Script.{trace, waits}
use Rattle.pnp_cli.specs.Turns.{TakenBad, shut, fed_with}
use Rattle.pnp_cli.specs.Pieces.{Ran}
use Rattle.pnp_cli.proofs.Whole.{so_far_none, ran_end, above_told, so_far_front, so_far_front_last, if_ok, Fed, fed_by, turn_on, turn_bad, turn_front, waits_on}
use Rattle.pnp_cli.proofs.pieces.run_through.Goals as goal

pub pieces-init : goal.pieces-init
pieces-init g c =
    record {
      long = c.requires.buffer;
      so = so_far_none (g.F.Files.contents c.args.files.now) c.args.name.now c.args.front.now (g.K.Sink.taken c.args.sink.now) c.args.tally.now c.args.reader.now c.requires.awaits c.requires.events c.requires.reader;
      waiting = λ passed. subst (λ (x : Reading). trace false passed x.rest ≡ waits) (sym c.requires.reader) refl;
      reads = λ other. omega arith;
      writes = omega arith;
      same = refl;
    }

pub returns-in_err-n-clause-front : goal.returns-in_err-n-clause-front
returns-in_err-n-clause-front g c =
    so_far_front (g.F.Files.contents c.args.files.now) c.args.name.now c.args.front.now c.pieces.front (g.K.Sink.taken c.args.sink.now) (g.K.Sink.taken c.pieces.sink) c.args.tally.now c.pieces.tally c.pieces.at c.pieces.reader c.pieces.invariant.so

pub returns-then-n-eq0-clause-ran : goal.returns-then-n-eq0-clause-ran
returns-then-n-eq0-clause-ran g c =
    let reads : ReadsTold (g.F.Files.contents c.args.files.now) c.args.name.now c.pieces.at c.in_ok-n.n c.pieces.buffer c.read.new.into =
    subst (λ (x : Option (List ℕ → Option (List ℕ))). ReadsTold x c.args.name.now c.pieces.at c.in_ok-n.n c.pieces.buffer c.read.new.into) c.pieces.invariant.same c.in_ok-n.ensures.told in
    if_ok c.take_last.result
    (λ (bad : Option ℕ). TakenBad bad c.pieces.front (shut c.pieces.reader) (g.K.Sink.taken c.pieces.sink) c.pieces.tally c.take_last.new.front c.take_last.new.reader (g.K.Sink.taken c.take_last.new.sink) c.take_last.new.tally)
    (λ (bad : Option ℕ). IfSome (g.F.Files.contents c.args.files.now) (λ told. Ran bad c.args.front.now (told c.args.name.now) (g.K.Sink.taken c.args.sink.now) c.args.tally.now c.take_last.new.front (g.K.Sink.taken c.take_last.new.sink) c.take_last.new.tally))
    (λ bad taken.
    ran_end (g.F.Files.contents c.args.files.now) c.args.name.now bad c.args.front.now c.pieces.front c.take_last.new.front
    (g.K.Sink.taken c.args.sink.now) (g.K.Sink.taken c.pieces.sink) (g.K.Sink.taken c.take_last.new.sink) c.args.tally.now c.pieces.tally c.take_last.new.tally
    c.pieces.at c.in_ok-n.n c.pieces.reader c.take_last.new.reader c.pieces.buffer c.read.new.into c.pieces.invariant.so reads c.if-n-eq0.true c.pieces.invariant.long taken)
    c.take_last.ensures.ok

pub returns-then-n-eq0-clause-front : goal.returns-then-n-eq0-clause-front
returns-then-n-eq0-clause-front g c =
    let reads : ReadsTold (g.F.Files.contents c.args.files.now) c.args.name.now c.pieces.at c.in_ok-n.n c.pieces.buffer c.read.new.into =
    subst (λ (x : Option (List ℕ → Option (List ℕ))). ReadsTold x c.args.name.now c.pieces.at c.in_ok-n.n c.pieces.buffer c.read.new.into) c.pieces.invariant.same c.in_ok-n.ensures.told in
    so_far_front_last (g.F.Files.contents c.args.files.now) c.args.name.now c.args.front.now c.pieces.front (g.K.Sink.taken c.args.sink.now) (g.K.Sink.taken c.pieces.sink) (g.K.Sink.taken c.take_last.new.sink)
    c.args.tally.now c.pieces.tally c.pieces.at c.in_ok-n.n c.pieces.reader c.pieces.buffer c.read.new.into c.pieces.invariant.so reads c.if-n-eq0.true c.pieces.invariant.long c.take_last.ensures.front

pub returns-then-at-eq-LIMIT-clause-too_large : goal.returns-then-at-eq-LIMIT-clause-too_large
returns-then-at-eq-LIMIT-clause-too_large g c = λ e.
    let reads : ReadsTold (g.F.Files.contents c.args.files.now) c.args.name.now c.pieces.at c.in_ok-n.n c.pieces.buffer c.read.new.into =
    subst (λ (x : Option (List ℕ → Option (List ℕ))). ReadsTold x c.args.name.now c.pieces.at c.in_ok-n.n c.pieces.buffer c.read.new.into) c.pieces.invariant.same c.in_ok-n.ensures.told in
    above_told (g.F.Files.contents c.args.files.now) c.args.name.now c.args.front.now c.pieces.front (g.K.Sink.taken c.args.sink.now) (g.K.Sink.taken c.pieces.sink) c.args.tally.now c.pieces.tally
    c.pieces.at c.in_ok-n.n c.pieces.reader c.pieces.buffer c.read.new.into c.pieces.invariant.so c.pieces.invariant.waiting reads c.if-at-eq-LIMIT.true (omega (arith, c.if-n-eq0.false))

pub returns-then-at-eq-LIMIT-clause-front : goal.returns-then-at-eq-LIMIT-clause-front
returns-then-at-eq-LIMIT-clause-front g c =
    so_far_front (g.F.Files.contents c.args.files.now) c.args.name.now c.args.front.now c.pieces.front (g.K.Sink.taken c.args.sink.now) (g.K.Sink.taken c.pieces.sink) c.args.tally.now c.pieces.tally c.pieces.at c.pieces.reader c.pieces.invariant.so

pub returns-in_err-line-clause-front : goal.returns-in_err-line-clause-front
returns-in_err-line-clause-front g c =
    let reads : ReadsTold (g.F.Files.contents c.args.files.now) c.args.name.now c.pieces.at c.in_ok-n.n c.pieces.buffer c.read.new.into =
    subst (λ (x : Option (List ℕ → Option (List ℕ))). ReadsTold x c.args.name.now c.pieces.at c.in_ok-n.n c.pieces.buffer c.read.new.into) c.pieces.invariant.same c.in_ok-n.ensures.told in
    let fed : Fed c.pieces.at c.in_ok-n.n c.min-count.result c.read.new.into (take c.min-count.result c.read.new.into) =
    fed_by c.pieces.at c.in_ok-n.n c.min-count.result c.read.new.into c.min-count.ensures (omega (arith, c.in_ok-n.ensures.within, c.read.auto.into)) c.if-n-eq0.false c.if-at-eq-LIMIT.false c.pieces.invariant.so.within in
    turn_front (g.F.Files.contents c.args.files.now) c.args.name.now c.args.front.now c.pieces.front (g.K.Sink.taken c.args.sink.now) (g.K.Sink.taken c.pieces.sink) (g.K.Sink.taken c.take_piece.new.sink) c.args.tally.now c.pieces.tally c.pieces.at c.in_ok-n.n c.min-count.result c.pieces.reader c.pieces.buffer c.read.new.into (take c.min-count.result c.read.new.into) c.pieces.invariant.so reads fed c.in_err-line.ensures.front

pub returns-in-Some-clause-ran : goal.returns-in-Some-clause-ran
returns-in-Some-clause-ran g c =
    let reads : ReadsTold (g.F.Files.contents c.args.files.now) c.args.name.now c.pieces.at c.in_ok-n.n c.pieces.buffer c.read.new.into =
    subst (λ (x : Option (List ℕ → Option (List ℕ))). ReadsTold x c.args.name.now c.pieces.at c.in_ok-n.n c.pieces.buffer c.read.new.into) c.pieces.invariant.same c.in_ok-n.ensures.told in
    let fed : Fed c.pieces.at c.in_ok-n.n c.min-count.result c.read.new.into (take c.min-count.result c.read.new.into) =
    fed_by c.pieces.at c.in_ok-n.n c.min-count.result c.read.new.into c.min-count.ensures (omega (arith, c.in_ok-n.ensures.within, c.read.auto.into)) c.if-n-eq0.false c.if-at-eq-LIMIT.false c.pieces.invariant.so.within in
    let taken : TakenBad c.in_ok-line.field-0 c.pieces.front (fed_with (take c.min-count.result c.read.new.into) c.pieces.reader) (g.K.Sink.taken c.pieces.sink) c.pieces.tally c.take_piece.new.front c.take_piece.new.reader (g.K.Sink.taken c.take_piece.new.sink) c.take_piece.new.tally = c.in_ok-line.ensures.ok in
    turn_bad (g.F.Files.contents c.args.files.now) c.args.name.now c.in_ok-line.field-0 c.in-Some.line c.args.front.now c.pieces.front c.take_piece.new.front (g.K.Sink.taken c.args.sink.now) (g.K.Sink.taken c.pieces.sink) (g.K.Sink.taken c.take_piece.new.sink) c.args.tally.now c.pieces.tally c.take_piece.new.tally c.pieces.at c.in_ok-n.n c.min-count.result c.pieces.reader c.take_piece.new.reader c.pieces.buffer c.read.new.into (take c.min-count.result c.read.new.into) c.pieces.invariant.so reads fed taken c.in-Some.is

pub returns-in-Some-clause-front : goal.returns-in-Some-clause-front
returns-in-Some-clause-front g c =
    let reads : ReadsTold (g.F.Files.contents c.args.files.now) c.args.name.now c.pieces.at c.in_ok-n.n c.pieces.buffer c.read.new.into =
    subst (λ (x : Option (List ℕ → Option (List ℕ))). ReadsTold x c.args.name.now c.pieces.at c.in_ok-n.n c.pieces.buffer c.read.new.into) c.pieces.invariant.same c.in_ok-n.ensures.told in
    let fed : Fed c.pieces.at c.in_ok-n.n c.min-count.result c.read.new.into (take c.min-count.result c.read.new.into) =
    fed_by c.pieces.at c.in_ok-n.n c.min-count.result c.read.new.into c.min-count.ensures (omega (arith, c.in_ok-n.ensures.within, c.read.auto.into)) c.if-n-eq0.false c.if-at-eq-LIMIT.false c.pieces.invariant.so.within in
    turn_front (g.F.Files.contents c.args.files.now) c.args.name.now c.args.front.now c.pieces.front (g.K.Sink.taken c.args.sink.now) (g.K.Sink.taken c.pieces.sink) (g.K.Sink.taken c.take_piece.new.sink) c.args.tally.now c.pieces.tally c.pieces.at c.in_ok-n.n c.min-count.result c.pieces.reader c.pieces.buffer c.read.new.into (take c.min-count.result c.read.new.into) c.pieces.invariant.so reads fed c.in_ok-line.ensures.front

pub pieces-preserved : goal.pieces-preserved
pieces-preserved g c =
    let reads : ReadsTold (g.F.Files.contents c.args.files.now) c.args.name.now c.pieces.at c.in_ok-n.n c.pieces.buffer c.read.new.into =
    subst (λ (x : Option (List ℕ → Option (List ℕ))). ReadsTold x c.args.name.now c.pieces.at c.in_ok-n.n c.pieces.buffer c.read.new.into) c.pieces.invariant.same c.in_ok-n.ensures.told in
    let fed : Fed c.pieces.at c.in_ok-n.n c.min-count.result c.read.new.into (take c.min-count.result c.read.new.into) =
    fed_by c.pieces.at c.in_ok-n.n c.min-count.result c.read.new.into c.min-count.ensures (omega (arith, c.in_ok-n.ensures.within, c.read.auto.into)) c.if-n-eq0.false c.if-at-eq-LIMIT.false c.pieces.invariant.so.within in
    let taken : TakenBad c.in_ok-line.field-0 c.pieces.front (fed_with (take c.min-count.result c.read.new.into) c.pieces.reader) (g.K.Sink.taken c.pieces.sink) c.pieces.tally c.take_piece.new.front c.take_piece.new.reader (g.K.Sink.taken c.take_piece.new.sink) c.take_piece.new.tally = c.in_ok-line.ensures.ok in
    record {
      long = omega (arith, c.read.auto.into, c.pieces.invariant.long);
      so = turn_on (g.F.Files.contents c.args.files.now) c.args.name.now c.in_ok-line.field-0 c.args.front.now c.pieces.front c.take_piece.new.front (g.K.Sink.taken c.args.sink.now) (g.K.Sink.taken c.pieces.sink) (g.K.Sink.taken c.take_piece.new.sink) c.args.tally.now c.pieces.tally c.take_piece.new.tally c.pieces.at c.in_ok-n.n c.min-count.result c.pieces.reader c.take_piece.new.reader c.pieces.buffer c.read.new.into (take c.min-count.result c.read.new.into) c.pieces.invariant.so reads fed taken;
      waiting = waits_on c.in_ok-line.field-0 c.pieces.front c.take_piece.new.front (g.K.Sink.taken c.pieces.sink) (g.K.Sink.taken c.take_piece.new.sink) c.pieces.tally c.take_piece.new.tally (fed_with (take c.min-count.result c.read.new.into) c.pieces.reader) c.take_piece.new.reader taken c.pieces.invariant.so.open_ c.in-None.is;
      reads = λ other. grind (arith, common_steps, c.pieces.invariant.reads other, c.in_ok-n.ensures.counts other);
      writes = omega (arith, c.pieces.invariant.writes, c.in_ok-line.ensures.counts);
      same = c.in_ok-n.ensures.same ∙ c.pieces.invariant.same;
    }
