use Rattle.std.proofs.Common.{◌≡◌, ◌∙◌, sym, ap, ap₂, subst, ℕ, ◌-◌, ◌*◌, ◌/◌, ◌%◌, ◌<◌, ◌^◌, min, arith}
use Rattle.script_family.specs.declared.pairs.Place.{Place}
use Rattle.script_family.specs.Counts.{capped}
use Rattle.script_family.specs.Parts.{row_at}
use Rattle.script_family.specs.Pairs.{times, count_of}
use Rattle.script_family.proofs.Placing.{place_is, each_positive}
use Rattle.script_family.proofs.pairs.place_of.Goals as goal
use Rattle.script_family.proofs.pairs.place_of.Goals.{After-saturating_mul-each}

each_is : (c : After-saturating_mul-each) → c.saturating_mul-each.result
    ≡ min (count_of c.args.pair.second.now (c.args.n - c.find_lines-lines.result.0) * capped (times c.args.pair.woven c.args.n c.find_lines-lines.result.0)) (2 ^ 64 - 1)
each_is c =
    c.saturating_mul-each.ensures
    ∙ ap₂ (λ a b. min (a * b) (2 ^ 64 - 1))
    (c.count_at.ensures ∙ ap (λ r. row_at c.args.pair.second.now.least r (c.args.n - c.find_lines-lines.result.0)) c.deref.ensures.value) c.factor-ways.ensures

positive : (c : After-saturating_mul-each) → 0 < c.saturating_mul-each.result
positive c =
    subst (λ v. 0 < v) (sym (each_is c))
    (each_positive (count_of c.args.pair.first.now c.find_lines-lines.result.0) (count_of c.args.pair.second.now (c.args.n - c.find_lines-lines.result.0))
    (times c.args.pair.woven c.args.n c.find_lines-lines.result.0) c.find_lines-lines.result.1 (2 ^ 64 - 1) c.find_lines-lines.ensures.block (omega arith))

pub nonzero_rem-among : goal.nonzero_rem-among
nonzero_rem-among c = positive (goal.at.nonzero_rem-among c).After-saturating_mul-each

pub nonzero_div-result : goal.nonzero_div-result
nonzero_div-result c = positive (goal.at.nonzero_div-result c).After-saturating_mul-each

pub returns : goal.returns
returns c =
    let make : ℕ → ℕ → Place = λ each ways. record {
      lines = c.find_lines-lines.result.0;
      first = c.find_lines-lines.result.1 / each;
      second = c.find_lines-lines.result.1 % each / ways;
      way = c.find_lines-lines.result.1 % each % ways;
    } in
    place_is c.args.pair c.args.n c.args.number c.find_lines-lines.result.0 c.find_lines-lines.result.1
    (make c.saturating_mul-each.result c.factor-ways.result)
    c.find_lines-lines.ensures.inside c.find_lines-lines.ensures.number c.find_lines-lines.ensures.block c.requires.exact
    (ap₂ make (each_is (goal.at.returns c).After-saturating_mul-each) c.factor-ways.ensures)
