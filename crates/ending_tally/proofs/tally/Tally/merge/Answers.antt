use Rattle.std.proofs.Common.{◌<◌, ◌∙◌, List, length, sym, ap, subst}
use Rattle.std.specs.FinMap.{get}
use Rattle.std.specs.Map.Iter.{deref_pair}
use Rattle.std.proofs.lemmas.Map.Iter.{rest_more, rest_all}
use Rattle.ending_tally.specs.declared.tally.Mark.{Mark}
use Rattle.ending_tally.specs.Tallies.{Told, mark_at}
use Rattle.ending_tally.specs.Steps.{told, both}
use Rattle.ending_tally.proofs.Maps.{merge_more, merge_done}
use Rattle.ending_tally.proofs.Marks.{joined}
use Rattle.ending_tally.proofs.Adding.{tally_merge}
use Rattle.ending_tally.proofs.tally.Tally.merge.Goals as goal

pub loop-kind-preserved : goal.loop-kind-preserved
loop-kind-preserved c =
    let put = c.in_ok-add_ending.ensures in
    let inv = c.loop-kind.invariant in
    record {
      scripts = ap (λ (t : Told). t.scripts) put ∙ inv.scripts;
      broken = ap (λ (t : Told). t.broken) put ∙ inv.broken;
      endings = merge_more c.loop-kind.self.endings c.add_ending.new.self.endings c.loop-kind.kind-iterator c.next.new.self c.in-Some.kind.now c.in-Some.ending.now _ _ _
          (rest_more deref_pair _ _ _ _ c.in-Some.is c.next.ensures.steps)
          (ap (λ (t : Told). t.endings) put) c.deref-in-loop-kind.ensures.value c.deref-in-loop-kind-2.ensures.value inv.endings;
    }

pub returns : goal.returns
returns c = λ few runs others h k.
    let inv = c.loop-kind.invariant in
    let counted = c.add_scripts.ensures in
    tally_merge few runs others (told c.args.self.now) (told c.args.other.now) (told c.loop-kind.self) h k
    (inv.scripts ∙ ap (λ (t : Told). t.scripts) counted)
    (ap (λ (l : List Mark). length l) inv.broken ∙ c.mark_all.ensures.few ∙ ap (λ (t : Told). length t.broken) counted)
    (λ place l. ap (λ (b : List Mark). mark_at b place) inv.broken
    ∙ c.mark_all.ensures.each place (subst (λ n. place < n) (sym (ap (λ (t : Told). length t.broken) counted)) l)
    ∙ ap (λ (t : Told). both (mark_at t.broken place) (mark_at c.deref.result.now place)) counted
    ∙ ap (λ (b : List Mark). both (mark_at c.args.self.now.broken.items place) (mark_at b place)) c.deref.ensures.value)
    (λ kind. merge_done c.loop-kind.self.endings c.add_scripts.new.self.endings c.args.other.now.endings c.loop-kind.kind-iterator
    (rest_all deref_pair _ _ _ c.in-None.is c.next.ensures.steps) c.iter-kind-items.ensures.ordered inv.endings kind
    ∙ ap (λ (t : Told). joined (get t.endings kind) (get (told c.args.other.now).endings kind)) counted)
