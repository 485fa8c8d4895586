use Rattle.std.proofs.Common.{◌≡◌, ◌∙◌, ◌++◌, ◌∷◌, [], ap, arith, is_ok, true}
use Rattle.lint_cli.proofs.Indexes.{taken, index_more}
use Rattle.lint_cli.proofs.names.Names.push.Goals as goal

pub invariant_of-self-2 : goal.invariant_of-self-2
invariant_of-self-2 c =
    let more : c.push.new.self.items ≡ c.self.inside.names.items ++ c.args.name ∷ [] =
    taken (is_ok c.push.result) (c.reserve.new.self.items ++ c.args.name ∷ []) c.reserve.new.self.items c.push.new.self.items (c.push.ensures.succeeds (let room = c.in_ok-reserve.ensures.ok in omega arith)) c.push.ensures.items
    ∙ ap (λ l. l ++ c.args.name ∷ []) c.reserve.ensures.items in
    index_more (λ name. name.now) c.self.inside.index c.insert.new.self c.self.inside.names.items c.push.new.self.items c.args.name c.in_ok-key.key.items true c.self.invariant
    c.in_ok-key.ensures c.in_ok-insert.ensures.updates more
