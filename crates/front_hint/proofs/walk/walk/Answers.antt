use Rattle.std.proofs.Common.{ℕ, ◌≡◌, ◌+◌, ◌-◌, ◌<◌, subst, arith}
use Rattle.std.proofs.lemmas.List.{take_rest}
use Rattle.pnp_labels.specs.Texts.{Text}
use Rattle.front_hint.specs.Spots.{place}
use Rattle.front_hint.specs.Hints.{Arrives}
use Rattle.front_hint.proofs.Walking.{leads_on, arrived}
use Rattle.front_hint.proofs.walk.walk.Goals as goal

pub lines-preserved : goal.lines-preserved
lines-preserved c =
    let some : 0 < c.lines.left = c.lines-test.true in
    let count : c.lines.left - 1 + 1 ≡ c.lines.left = omega (arith, some) in
    record {
      ready = c.in_ok-next.ensures.ready;
      leads = λ told of.
          let (here, leads) = c.lines.invariant.leads told of in
          let (taken, on) = c.in_ok-next.ensures.taken told here in (
            on,
            λ there arrives. leads there
                (subst (λ (n : ℕ). Arrives told (place c.lines.spot) c.lines.rest.now n there) count
                (leads_on told (place c.lines.spot) (place c.in_ok-next.next) there c.lines.rest.now c.in_ok-next.size (c.lines.left - 1) taken
                (subst (λ (t : Text). Arrives told (place c.in_ok-next.next) t (c.lines.left - 1) there) (take_rest c.lines.rest.now c.in_ok-next.size) arrives))),
          );
    }

pub returns-clause-leads : goal.returns-clause-leads
returns-clause-leads c = λ told of.
    let none : 0 ≡ c.lines.left = omega (arith, c.lines-test.false) in
    let (now, leads) = c.lines.invariant.leads told of in (
      leads (place c.lines.spot) (subst (λ (n : ℕ). Arrives told (place c.lines.spot) c.lines.rest.now n (place c.lines.spot)) none (arrived told (place c.lines.spot) c.lines.rest.now)),
      now,
    )
