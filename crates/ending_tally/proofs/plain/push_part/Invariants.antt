use Rattle.std.proofs.Common.{◌≡◌, ◌++◌, map, drop}
use Rattle.ending_tally.specs.Plain.{joined}
use Rattle.ending_tally.proofs.plain.push_part.Given as goal

abbrev pub invariant-loop-form : goal.invariant-loop-form
invariant-loop-form l = l.out.items ++ joined (map (λ form. form.items) (drop l.form-index l.form-items)) ≡ l.fn.out.items ++ joined (map (λ form. form.items) l.form-items)
