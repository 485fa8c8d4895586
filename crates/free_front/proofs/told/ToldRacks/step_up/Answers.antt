use Rattle.std.proofs.Common.{◌∙◌, sym, ap}
use Rattle.std.proofs.lemmas.Result.{IfOk-weaker}
use Rattle.pnp_labels.specs.declared.words.Answer.{Answer}
use Rattle.pnp_labels.specs.declared.words.Answer.TheVariants.{Ok, Fail, Pend}
use Rattle.free_model.specs.Frees.{told}
use Rattle.free_front.proofs.told.ToldRacks.step_up.Goals as goal

pub step_over-requires : goal.step_over-requires
step_over-requires c = (Ok, c.requires.ok)

pub step_over-requires-in-Fail : goal.step_over-requires-in-Fail
step_over-requires-in-Fail c = (Fail, c.requires.fail)

pub step_over-requires-in-Pend : goal.step_over-requires-in-Pend
step_over-requires-in-Pend c = (Pend, c.requires.pend)

pub returns-in-Ok : goal.returns-in-Ok
returns-in-Ok c =
    let step = c.step_over.ensures in
    let is = c.requires.ok ∙ ap (λ (a : Answer). told a c.args.front.now.manager.state.core.rack) (sym c.in-Ok.is) in
    record {
      moves = IfOk-weaker c.step_over.result _ _ (λ label h. h c.args.answer is) step.moves;
      same = step.same;
      told = record { none = c.requires.none; ok = step.told ∙ c.requires.ok ∙ ap (told Ok) (sym step.own); fail = c.requires.fail ∙ ap (told Fail) (sym step.own); pend = c.requires.pend ∙ ap (told Pend) (sym step.own) };
      err = step.err;
    }

pub returns-in-Fail : goal.returns-in-Fail
returns-in-Fail c =
    let step = c.step_over-in-Fail.ensures in
    let is = c.requires.fail ∙ ap (λ (a : Answer). told a c.args.front.now.manager.state.core.rack) (sym c.in-Fail.is) in
    record {
      moves = IfOk-weaker c.step_over-in-Fail.result _ _ (λ label h. h c.args.answer is) step.moves;
      same = step.same;
      told = record { none = c.requires.none; ok = c.requires.ok ∙ ap (told Ok) (sym step.own); fail = step.told ∙ c.requires.fail ∙ ap (told Fail) (sym step.own); pend = c.requires.pend ∙ ap (told Pend) (sym step.own) };
      err = step.err;
    }

pub returns-in-Pend : goal.returns-in-Pend
returns-in-Pend c =
    let step = c.step_over-in-Pend.ensures in
    let is = c.requires.pend ∙ ap (λ (a : Answer). told a c.args.front.now.manager.state.core.rack) (sym c.in-Pend.is) in
    record {
      moves = IfOk-weaker c.step_over-in-Pend.result _ _ (λ label h. h c.args.answer is) step.moves;
      same = step.same;
      told = record { none = c.requires.none; ok = c.requires.ok ∙ ap (told Ok) (sym step.own); fail = c.requires.fail ∙ ap (told Fail) (sym step.own); pend = step.told ∙ c.requires.pend ∙ ap (told Pend) (sym step.own) };
      err = step.err;
    }
