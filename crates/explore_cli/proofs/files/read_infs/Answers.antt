use Rattle.std.proofs.Common.{◌≡◌, ◌∙◌, ◌+◌, ◌<◌, [], length, get_or, arith, sym, ap}
use Rattle.std.proofs.lemmas.Option.{get_or_from_slice_get}
use Rattle.explore_cli.proofs.Infs.{read_more, read_stop, refused_on}
use Rattle.explore_cli.proofs.files.read_infs.Goals as goal

pub returns-in_err-keep_inf-clause-refused : goal.returns-in_err-keep_inf-clause-refused
returns-in_err-keep_inf-clause-refused g c =
    let names = c.args.names.now in
    let at = c.loop-at.at in
    let within : at < length names = omega (arith, c.len-at-end.ensures, c.loop-at-test.true) in
    let item : get_or names at [] ≡ c.bytes.result.now = get_or_from_slice_get names at c.get.result.now [] c.get.ensures.part ∙ sym c.bytes.ensures in
    refused_on c.from_residual.result c.in_err-keep_inf.field-0.0 (g.F.Files.contents c.args.files.now) names c.from_residual.ensures.1
    (read_stop (g.F.Files.contents c.args.files.now) (g.F.Files.contents c.loop-at.files) names at c.bytes.result.now c.loop-at.infs c.in_err-keep_inf.field-0.0 within item
    c.loop-at.invariant.same c.loop-at.invariant.few c.loop-at.invariant.infs c.in_err-keep_inf.ensures.refused)

pub loop-at-preserved : goal.loop-at-preserved
loop-at-preserved g c =
    let names = c.args.names.now in
    let at = c.loop-at.at in
    let within : at < length names = omega (arith, c.len-at-end.ensures, c.loop-at-test.true) in
    let item : get_or names at [] ≡ c.bytes.result.now = get_or_from_slice_get names at c.get.result.now [] c.get.ensures.part ∙ sym c.bytes.ensures in
    record {
      few = c.in_ok-keep_inf.ensures.few ∙ ap (λ n. n + 1) c.loop-at.invariant.few;
      same = c.in_ok-keep_inf.ensures.same ∙ c.loop-at.invariant.same;
      infs =
          read_more (g.F.Files.contents c.args.files.now) (g.F.Files.contents c.loop-at.files) names at c.bytes.result.now c.loop-at.infs c.keep_inf.new.infs within item
          c.loop-at.invariant.same c.loop-at.invariant.infs c.in_ok-keep_inf.ensures.kept;
    }
