use Rattle.std.proofs.Common.{◌≡◌, ◌+◌, ℕ, sym, ◌∙◌, subst, true, false}
use Rattle.std.proofs.lemmas.Bool.Decides.{Decides-eqb}
use Rattle.std.proofs.lemmas.Slice.Eq.{slice_eq-Decides}
use Rattle.trace_check.specs.declared.check.Checked.{Checked}
use Rattle.front_check.specs.FrontChecks.{Ends}
use Rattle.front_check.specs.Turns.{Tells}
use Rattle.front_check.proofs.Dues.{all_alike, not_alike}
use Rattle.front_check.proofs.due.held_against.Goals as goal

pub returns-then-eq : goal.returns-then-eq
returns-then-eq c =
    λ told texts is. all_alike told texts c.args.due.now c.args.rest.now c.args.lines ((slice_eq-Decides Decides-eqb c.args.due.now c.args.rest.now c.eq.result c.eq.ensures).0 c.if-eq.true) is

pub returns : goal.returns
returns c =
    let not : c.args.due.now ≡ c.args.rest.now → ⊥ = λ same. let bad : false ≡ true = sym c.if-eq.false ∙ (slice_eq-Decides Decides-eqb c.args.due.now c.args.rest.now c.eq.result c.eq.ensures).1 same in absurd (cc) in
    λ told texts is.
    subst (λ (n : ℕ). Tells (Checked.No (c.args.lines + n + 1)) told (Ends c.args.due.now) c.args.rest.now c.args.lines) (sym c.lines_alike.ensures.value)
    (not_alike told c.args.due.now c.args.rest.now c.args.lines not)
