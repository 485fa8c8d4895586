use Rattle.std.proofs.Common.{rules, eqb, Some, ap, ◌∙◌, slice_get}
use Rattle.std.specs.Option.{option_eq}
use Rattle.pnp_machine.specs.Operations.{operation_of}
use Rattle.pnp_labels.specs.contracts.words.MinorPartialEq.TheImpl.{eq-value}
use Rattle.pnp_machine.proofs.Completions.{waits_is}
use Rattle.pnp_machine.proofs.operation.Operation.waits_for.Goals as goal

pub returns-then-eq : goal.returns-then-eq
returns-then-eq c =
    let o = operation_of c.args.self.now in
    waits_is eq-value.it (slice_get o.todo 0) o.walk c.args.serial c.args.minor c.eq.result c.eq-then-eq.result (c.eq.ensures ∙ ap (λ d. option_eq eqb d (Some c.args.serial)) c.device.ensures) c.if-eq.true
    (c.eq-then-eq.ensures ∙ ap (λ m. option_eq eq-value.it m (Some c.args.minor)) c.waits.ensures) (λ m n. search rules)
