use Rattle.std.proofs.Common.{ℕ, ◌+◌, ◌≡◌, ◌++◌, ◌∷◌, [], List, Option, sym, ap, ◌∙◌, subst, take, length}
use Rattle.inf_reader.specs.declared.parts.Inf.{Inf}
use Rattle.pnp_io.specs.Outside.{Holds}
use Rattle.pnp_labels.specs.Texts.{Text}
use Rattle.drive_cli.specs.Files.{AreRead, texts}
use Rattle.drive_cli.proofs.Outcomes.{are_more, names_next, no_less, one_more}
use Rattle.drive_cli.proofs.files.read_infs.Goals as goal

pub loop-at-preserved : goal.loop-at-preserved
loop-at-preserved g c =
    let (bytes, holds, meant) = c.in_ok-inf.ensures.read in
    let named : Holds (g.F.Files.contents c.args.files.now) c.index-names-at.result.items bytes =
    subst (λ (o : Option (Text → Option Text)). Holds o c.index-names-at.result.items bytes) c.loop-at.invariant.same
    (subst (λ (t : Text). Holds (g.F.Files.contents c.loop-at.files) t bytes) c.deref.ensures.value holds)
    in
    let more = are_more (g.F.Files.contents c.args.files.now) (texts (take c.loop-at.at c.args.names.now)) c.loop-at.infs.items c.index-names-at.result.items bytes c.in_ok-inf.inf
    c.loop-at.invariant.read named meant
    in
    record {
      as_many = ap length c.in_ok-keep.ensures ∙ one_more c.loop-at.infs.items c.in_ok-inf.inf ∙ ap (λ (n : ℕ). n + 1) c.loop-at.invariant.as_many;
      read =
          subst (λ (t : List Inf). AreRead (g.F.Files.contents c.args.files.now) (texts (take (c.loop-at.at + 1) c.args.names.now)) t) (sym c.in_ok-keep.ensures)
          (subst (λ (t : List Text). AreRead (g.F.Files.contents c.args.files.now) t (c.loop-at.infs.items ++ c.in_ok-inf.inf ∷ []))
          (names_next c.args.names.now c.loop-at.at c.index-names-at.result c.index-names-at.is c.loop-at-test.true) more);
      counts = λ other. no_less (g.F.Files.faults c.args.files.now other) (g.F.Files.faults c.loop-at.files other) (g.F.Files.faults c.read_inf.new.files other) (c.loop-at.invariant.counts other)
          (c.read_inf.ensures.counts other);
      same = c.read_inf.ensures.same ∙ c.loop-at.invariant.same;
    }
