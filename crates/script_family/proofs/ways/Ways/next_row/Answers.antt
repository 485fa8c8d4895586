use Rattle.std.proofs.Common.{◌≡◌, ◌+◌, ◌-◌, ◌^◌, ◌∷◌, ◌++◌, [], ◌∙◌, ap, ap₂, subst, min, arith, length}
use Rattle.script_family.specs.Tables.{IsWaysRow}
use Rattle.script_family.proofs.Pascal.{HasWays, first_way, next_way, whole_row, ways_more}
use Rattle.script_family.proofs.ways.Ways.next_row.Goals as goal

pub loop-k-init : goal.loop-k-init
loop-k-init c = first_way c.len-n.result c.push.new.self.items (c.in_ok-push.ensures.items ∙ ap (λ r. r ++ 1 ∷ []) c.new-row.ensures.items)

pub loop-k-preserved : goal.loop-k-preserved
loop-k-preserved c =
    next_way c.len-n.result c.loop-k.k c.loop-k.row.items c.push-in-loop-k.new.self.items c.saturating_add.result c.loop-k.invariant c.in_ok-push-2.ensures.items
    (c.saturating_add.ensures ∙ ap₂ (λ a b. min (a + b) (2 ^ 64 - 1)) c.of.ensures c.of-in-loop-k.ensures ∙ ways_more c.len-n.result c.loop-k.k (omega arith))

pub returns : goal.returns
returns c =
    let view : length c.self.inside.rows.items ≡ c.args.self.now = c.self.view_is in
    let rows : c.len-n.result ≡ c.args.self.now = omega (arith, c.self.inside.rows.ok.0) in
    let at : c.loop-k.k ≡ c.len-n.result = omega arith in
    let has : HasWays c.len-n.result (c.len-n.result + 1) c.loop-k.row.items = subst (λ k. HasWays c.len-n.result (k + 1) c.loop-k.row.items) at c.loop-k.invariant in
    subst (λ n. IsWaysRow n c.loop-k.row.items) rows (whole_row c.len-n.result c.loop-k.row.items has)
