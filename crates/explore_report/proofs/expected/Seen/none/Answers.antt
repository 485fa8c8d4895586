use Rattle.std.proofs.Common.{◌≡◌, ◌∙◌, false, replicate, length, rules}
use Rattle.explore_report.proofs.Looking.{fits_none}
use Rattle.explore_report.proofs.expected.Seen.none.Goals as goal

pub returns : goal.returns
returns c =
    let never : c.in_ok-vec.field-0.items ≡ replicate (length c.args.expected.now.never.items) false = search rules in
    let always : c.in_ok-vec-2.field-0.items ≡ replicate (length c.args.expected.now.always.items) false = search rules in
    record {
      never = never ∙ fits_none c.args.expected.now.never.items;
      always = always ∙ fits_none c.args.expected.now.always.items;
    }
