use Rattle.std.proofs.Common.{rules, ◌≡◌, ◌∙◌, false, sym, ap}
use borrow.Author.Tests.{tests}
use Rattle.std.specs.Option.{is_some}
use Rattle.script_reader.proofs.Ranges.{with_hyphen}
use Rattle.script_reader.proofs.causes.range_cause.Goals as goal

pub returns-in-Some : goal.returns-in-Some
returns-in-Some c =
    let off : is_some c.range_of.result ≡ false = search (rules, tests) in
    c.ends_cause.ensures ∙ with_hyphen c.args.text.now c.in-Some.lo.now c.in-Some.hi.now (ap is_some (sym c.range_of.ensures.is) ∙ off) c.in-Some.ensures.exact
