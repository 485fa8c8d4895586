use Rattle.std.proofs.Common.{◌-◌, ◌∙◌, ap, arith, cond, Some}
use Rattle.std.specs.Str.{bytes_eq}
use Rattle.device_ids.specs.Folding.{folded}
use Rattle.driver_rank.specs.Lookups.{base_mapped}
use Rattle.driver_rank.proofs.Keys.{by_key-put}
use Rattle.driver_rank.proofs.Steps.{id_put}
use Rattle.driver_rank.proofs.given.MappedIds.put.Goals as goal

pub loop-at-preserved : goal.loop-at-preserved
loop-at-preserved c =
    let text_is = c.in_ok-key.ensures ∙ ap folded c.bytes.ensures.bytes in
    let put = by_key-put c.in_ok-key.key.items c.loop-at.self.bases c.insert.new.self c.base_at.result c.in_ok-insert.ensures.updates in
    record {
      within = omega arith;
      found = id_put (base_mapped c.args.self.now) c.args.compatible c.loop-at.at (c.loop-at.at - 1) c.args.ids.now c.get.result.now (base_mapped c.loop-at.self) (base_mapped (record { bases = c.insert.new.self }))
          c.loop-at.invariant.found (omega arith) (omega arith) c.get.ensures.item
          (λ q. put q ∙ (ap (λ t. cond (bytes_eq q t) (Some c.base_at.result) (base_mapped c.loop-at.self q)) text_is ∙ ap (λ b. cond (bytes_eq q (folded c.get.result.now)) (Some b) (base_mapped c.loop-at.self q)) c.base_at.ensures));
    }
