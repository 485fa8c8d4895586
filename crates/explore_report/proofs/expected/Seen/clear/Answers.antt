use Rattle.std.proofs.Common.{◌≡◌, ◌∙◌, length, vec_len, arith, rules}
use Rattle.explore_report.proofs.Looking.{fits_cleared}
use Rattle.explore_report.proofs.expected.Seen.clear.Goals as goal

pub returns : goal.returns
returns c = λ expected lines h.
    let never : vec_len c.args.self.now.never ≡ length c.args.self.now.never.items = omega (arith, c.args.self.now.never.ok.0) in
    let always : vec_len c.args.self.now.always ≡ length c.args.self.now.always.items = omega (arith, c.args.self.now.always.ok.0) in
    record {
      never = c.fill.ensures.items (λ y k. search rules) ∙ fits_cleared expected.never.items lines c.args.self.now.never.items _ never h.never;
      always = c.fill-2.ensures.items (λ y k. search rules) ∙ fits_cleared expected.always.items lines c.args.self.now.always.items _ always h.always;
    }
