use Rattle.std.proofs.Common.{◌≡◌, ◌+◌, ◌<◌, ◌++◌, ◌∷◌, [], Bool, true, false, length, take, replicate, refl, sym, ap, subst, ◌∙◌, arith, rules, tests}
use Rattle.std.specs.List.{list_all}
use Rattle.std.proofs.lemmas.Iterator.{YieldsList-from_slice}
use Rattle.std.proofs.lemmas.Iterator.Search.{all_from_yields_List}
use Rattle.ending_tally.specs.Steps.{told}
use Rattle.explore_report.specs.Expectations.{few_of}
use Rattle.explore_report.specs.Merging.{HasMerged}
use Rattle.explore_report.proofs.Looking.{taken_more}
use Rattle.explore_report.proofs.Tries.{taken_all}
use Rattle.explore_report.proofs.PartsRead.{SoFar, so_far_none, so_far_more, so_far_all, few_at_first, few_kept}
use Rattle.explore_report.proofs.merging.merge_parts.Goals as goal

pub loop-at-init : goal.loop-at-init
loop-at-init g c =
    let contents = g.F.Files.contents c.args.files.now in
    let expected = c.args.of.expected.now in
    let names = c.args.names.now in
    let came : c.in_ok-came.came.items ≡ replicate c.len.result false = search rules in
    let few : c.never.result + c.always.result ≡ few_of expected = omega (arith, c.never.ensures, c.always.ensures) in
    record {
      few = few_at_first c.in_ok-came.came.items c.len.result came ∙ c.len.ensures;
      same = refl;
      merged = subst (λ cs. SoFar contents c.args.of.mark.now c.args.of.count expected (length names) [] cs (told c.in_ok-tally.tally)) (sym came)
          (so_far_none contents c.args.of.mark.now c.args.of.count expected (length names) (c.never.result + c.always.result) c.len.result (told c.in_ok-tally.tally) few c.in_ok-tally.ensures.tally);
    }

pub loop-at-preserved : goal.loop-at-preserved
loop-at-preserved g c =
    let contents = g.F.Files.contents c.args.files.now in
    let expected = c.args.of.expected.now in
    let names = c.args.names.now in
    let at = c.loop-at.at in
    let inv = c.loop-at.invariant in
    let within : at < length names = omega (arith, c.len-at-end.ensures, c.loop-at-test.true) in
    let put : HasMerged contents c.args.of.mark.now c.args.of.count (length expected.never.items) c.bytes.result.now c.loop-at.came.items c.merge_one.new.came.items (told c.loop-at.tally) (told c.merge_one.new.tally) =
    subst (λ o. HasMerged o c.args.of.mark.now c.args.of.count (length expected.never.items) c.bytes.result.now c.loop-at.came.items c.merge_one.new.came.items (told c.loop-at.tally) (told c.merge_one.new.tally)) inv.same c.in_ok-merge_one.ensures.merged in
    let next : take (at + 1) names ≡ take at names ++ c.bytes.result.now ∷ [] = taken_more names at [] within ∙ ap (λ n. take at names ++ n ∷ []) (c.get.ensures.item [] ∙ sym c.bytes.ensures) in
    record {
      few = few_kept c.loop-at.came.items c.merge_one.new.came.items _ _ put.come.noted ∙ inv.few;
      same = c.in_ok-merge_one.ensures.same ∙ inv.same;
      merged =
          so_far_more contents c.args.of.mark.now c.args.of.count expected (length names) (take at names) (take (at + 1) names) c.bytes.result.now c.loop-at.came.items c.merge_one.new.came.items
          (told c.loop-at.tally) (told c.merge_one.new.tally) inv.few next put inv.merged;
    }

pub returns-then-all : goal.returns-then-all
returns-then-all g c =
    let contents = g.F.Files.contents c.args.files.now in
    let expected = c.args.of.expected.now in
    let names = c.args.names.now in
    let inv = c.loop-at.invariant in
    let all : list_all (λ (b : Bool). b) c.loop-at.came.items ≡ true =
    sym (all_from_yields_List (λ (b : Bool). b) _ _ c.all.result c.all.ensures.ran (YieldsList-from_slice _ c.iter.ensures.rest) (λ x b q k. search (rules, tests)) ∙ ap (list_all (λ (b : Bool). b)) c.deref.ensures.value) ∙ c.if-all.true in
    so_far_all contents c.args.of.mark.now c.args.of.count expected names c.loop-at.came.items (told c.loop-at.tally) inv.few all
    (subst (λ ns. SoFar contents c.args.of.mark.now c.args.of.count expected (length names) ns c.loop-at.came.items (told c.loop-at.tally)) (taken_all c.loop-at.at names (omega (arith, c.len-at-end.ensures, c.loop-at-test.false))) inv.merged)
