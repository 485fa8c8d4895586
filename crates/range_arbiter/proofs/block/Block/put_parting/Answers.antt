use Rattle.std.proofs.Common.{◌++◌, sym, ◌∙◌, ap, insert, arith}
use Rattle.std.proofs.lemmas.List.Edits.{insert-append_right}
use Rattle.range_arbiter.proofs.block.Block.put_parting.Goals as goal

pub returns-else-at-le16-clause-both : goal.returns-else-at-le16-clause-both
returns-else-at-le16-clause-both c =
    let front = c.part-back.new.self in
    let back = c.part-back.result in
    ap (λ l. front ++ l) c.put-else-at-le16.ensures
    ∙ sym (insert-append_right front back 16 c.args.at c.args.pair c.part-back.ensures.front (let beyond = c.if-at-le16.false in omega arith))
    ∙ ap (λ l. insert l c.args.at c.args.pair) (sym c.part-back.ensures.both)
