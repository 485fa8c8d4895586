use Rattle.std.proofs.Common.{◌≡◌, ◌∙◌, ◌+◌, ◌||◌, ◌∷◌, ℕ, List, Option, IfSome, false, drop, subst, arith}
use Rattle.lint_cli.specs.Words.{texts}
use Rattle.lint_cli.specs.Warnings.{told as as_known}
use Rattle.lint_cli.specs.Lints.{is_bad_file, is_bad_inf, bad_infs, is_large, some_large, AddsFile, AddsInfs}
use Rattle.lint_cli.proofs.Steps.{told_next, fits_next, adds_next, adds_end, texts_at, texts_end}
use Rattle.lint_cli.proofs.lints.lint_infs.Goals as goal

pub loop-name-preserved : goal.loop-name-preserved
loop-name-preserved g c =
    let contents = g.F.Files.contents c.args.files.now in
    let all = texts c.args.names.now in
    let rest = texts (drop (c.loop-name.name-index + 1) c.args.names.now) in
    let name = c.as_bytes.result.now in
    let known = as_known c.args.known.now in
    let old = c.loop-name.out.items in
    let middle = c.lint_inf.new.out.items in
    let at : texts (drop c.loop-name.name-index c.args.names.now) ≡ name ∷ rest =
    texts_at c.args.names.now c.loop-name.name-index c.name-item.result name c.loop-name-test.true c.name-item.is c.as_bytes.ensures.value in
    let Bad : Option (List ℕ → Option (List ℕ)) → Type 0 = λ o. IfSome o (λ told. c.in_ok-bad.bad ≡ is_bad_file is_bad_inf (told name)) in
    let Fits : Option (List ℕ → Option (List ℕ)) → Type 0 = λ o. IfSome o (λ told. is_large (told name) ≡ false) in
    let Adds : Option (List ℕ → Option (List ℕ)) → Type 0 = λ o. IfSome o (λ told. AddsFile name known (told name) old middle) in
    record {
      bad =
          told_next contents all rest name c.loop-name.found c.in_ok-bad.bad c.either-found.result c.either-found.ensures
          (subst Bad c.loop-name.invariant.same c.in_ok-bad.ensures.bad)
          (subst (λ l. IfSome contents (λ told. (c.loop-name.found || bad_infs told l) ≡ bad_infs told all)) at c.loop-name.invariant.bad);
      fits =
          fits_next contents all rest name (subst Fits c.loop-name.invariant.same c.in_ok-bad.ensures.fits)
          (subst (λ l. IfSome contents (λ told. some_large told l ≡ some_large told all)) at c.loop-name.invariant.fits);
      text =
          adds_next contents all rest known name c.args.out.now.items old middle (subst Adds c.loop-name.invariant.same c.in_ok-bad.ensures.text)
          (λ new. subst (λ l. IfSome contents (λ told. AddsInfs told known l old new → AddsInfs told known all c.args.out.now.items new)) at (c.loop-name.invariant.text new));
      counts = λ other. omega (arith, c.loop-name.invariant.counts other, c.in_ok-bad.ensures.counts other);
      same = c.in_ok-bad.ensures.same ∙ c.loop-name.invariant.same;
    }

pub returns-clause-text : goal.returns-clause-text
returns-clause-text g c =
    let contents = g.F.Files.contents c.args.files.now in
    let known = as_known c.args.known.now in
    let all = texts c.args.names.now in
    let out = c.loop-name.out.items in
    adds_end contents all known c.args.out.now.items out
    (λ new. subst (λ l. IfSome contents (λ told. AddsInfs told known l out new → AddsInfs told known all c.args.out.now.items new))
    (texts_end c.args.names.now c.loop-name.name-index (omega (arith, c.loop-name-test.false, c.loop-name.auto))) (c.loop-name.invariant.text new))
