use Rattle.std.proofs.Common.{◌≡◌, ◌∙◌, ◌+◌, ◌<◌, ℕ, List, Option, Ok, Err, IfSome, length, slice_index_or, arith, sym, subst, ap, length-append, [], ◌∷◌}
use Rattle.pnp_cli.specs.Infs.{inf_in, Gives}
use Rattle.pnp_cli.proofs.InfSteps.{told_more, told_stop, passed_on}
use Rattle.pnp_cli.proofs.infs.read_infs.Goals as goal

pub returns-in_err-inf-clause-gives : goal.returns-in_err-inf-clause-gives
returns-in_err-inf-clause-gives g c =
    let within : c.loop-at.at < length c.args.names.now = omega (arith, c.len-at-end.ensures, c.loop-at-test.true) in
    let item : (d : List ℕ) → slice_index_or c.args.names.now c.loop-at.at d ≡ c.bytes.result.now = λ d. c.get.ensures.item d ∙ sym c.bytes.ensures in
    let P : Option (List ℕ → Option (List ℕ)) → Type 0 = λ o. IfSome o (λ told. Gives (Err c.in_err-inf.field-0.0) (inf_in (c.loop-at.at + 1) (told c.bytes.result.now))) in
    passed_on c.from_residual.result c.in_err-inf.field-0.0 (g.F.Files.contents c.args.files.now) c.args.names.now c.from_residual.ensures.1
    (told_stop (g.F.Files.contents c.args.files.now) c.args.names.now c.loop-at.at c.bytes.result.now c.loop-at.infs.items within item c.loop-at.invariant.far
    c.in_err-inf.field-0.0 (subst P c.loop-at.invariant.same c.in_err-inf.ensures.gives))

pub loop-at-preserved : goal.loop-at-preserved
loop-at-preserved g c =
    let within : c.loop-at.at < length c.args.names.now = omega (arith, c.len-at-end.ensures, c.loop-at-test.true) in
    let item : (d : List ℕ) → slice_index_or c.args.names.now c.loop-at.at d ≡ c.bytes.result.now = λ d. c.get.ensures.item d ∙ sym c.bytes.ensures in
    let P : Option (List ℕ → Option (List ℕ)) → Type 0 = λ o. IfSome o (λ told. Gives (Ok c.in_ok-inf.inf) (inf_in (c.loop-at.at + 1) (told c.bytes.result.now))) in
    record {
      far =
          told_more (g.F.Files.contents c.args.files.now) c.args.names.now c.loop-at.at c.bytes.result.now c.loop-at.infs.items within item c.loop-at.invariant.far
          c.in_ok-inf.inf c.keep.new.infs.items c.in_ok-keep.ensures (subst P c.loop-at.invariant.same c.in_ok-inf.ensures.gives);
      each = omega (arith, c.loop-at.invariant.each, ap length c.in_ok-keep.ensures, length-append c.loop-at.infs.items (c.in_ok-inf.inf ∷ []));
      counts = λ other. omega (arith, c.loop-at.invariant.counts other, c.in_ok-inf.ensures.counts other);
      same = c.in_ok-inf.ensures.same ∙ c.loop-at.invariant.same;
    }
