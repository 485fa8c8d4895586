use Rattle.std.proofs.Common.{◌≡◌, ◌++◌, ◌∷◌, [], ◌∙◌, ap, sym, cond, arith, List, Bool}
use Rattle.pnp_model.specs.Records.{Window}
use Rattle.bridge_windows.specs.Ranges.{ranges_of}
use Rattle.bridge_windows.proofs.Finding.{indexed_more}
use Rattle.bridge_windows.proofs.bridges.Bridges.add.Goals as goal

pub invariant_of-self-2 : goal.invariant_of-self-2
invariant_of-self-2 c =
    let s = c.self.inside in
    let w : Window = record { born = c.args.born; res = c.args.res } in
    let put : c.push-2.new.self.items ≡ s.list.items ++ w ∷ [] =
    c.push-2.ensures.items
    ∙ (ap (λ (b : Bool). cond b (c.reserve.new.self.items ++ w ∷ []) c.reserve.new.self.items) (c.push-2.ensures.succeeds (omega (arith, c.in_ok-reserve.ensures.ok)))
    ∙ ap (λ (l : List Window). l ++ w ∷ []) c.in_ok-reserve.ensures.items) in
    let ranges = c.in_ok-push.ensures.items ∙ ap (λ l. l ++ c.args.res ∷ []) (c.in_ok-ranges.ensures.items ∙ (c.ranges-2.ensures ∙ ap (ranges_of c.args.born) (sym c.self.view_is))) in
    rw put (indexed_more s.list.items s.ranges c.insert.new.self c.args.born c.args.res c.push.new.self c.self.invariant ranges c.in_ok-insert.ensures.updates.0)
