use Rattle.std.proofs.Common.{◌<◌, ◌∙◌, length, sym, ap, subst}
use Rattle.std.proofs.lemmas.Result.{on_ok_weaker}
use Rattle.ending_tally.specs.Tallies.{Run, Told, mark_at, is_broken_at}
use Rattle.ending_tally.specs.Steps.{told, both, mark_if, with_kind}
use Rattle.ending_tally.proofs.Adding.{tally_add, one_ended}
use Rattle.ending_tally.proofs.tally.Tally.add.Goals as goal

pub returns : goal.returns
returns c = on_ok_weaker c.add_ending.result (λ after few runs h.
    let run : Run = record { number = c.args.number; broken = c.args.broken.now; kind = c.args.kind.now; text = c.args.text.now } in
    let counted = c.add_scripts.ensures in
    tally_add few runs (told c.args.self.now) (told c.add_ending.new.self) run h
    (ap (λ (t : Told). t.scripts) after ∙ ap (λ (t : Told). t.scripts) counted)
    (ap (λ (t : Told). length t.broken) after ∙ c.mark_broken.ensures.few ∙ ap (λ (t : Told). length t.broken) counted)
    (λ place l. ap (λ (t : Told). mark_at t.broken place) after
    ∙ c.mark_broken.ensures.each place (subst (λ n. place < n) (sym (ap (λ (t : Told). length t.broken) counted)) l)
    ∙ ap (λ (t : Told). both (mark_at t.broken place) (mark_if (is_broken_at c.args.broken.now place) c.args.number)) counted)
    (ap (λ (t : Told). t.endings) after ∙ ap (λ (t : Told). with_kind t.endings c.args.kind.now (one_ended run)) counted))
    c.add_ending.ensures
