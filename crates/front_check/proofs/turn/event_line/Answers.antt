use Rattle.std.proofs.Common.{[], ◌∷◌, ◌++◌, ◌∙◌, ap}
use Rattle.std.proofs.lemmas.Result.{IfOk-weaker}
use Rattle.pnp_labels.specs.Texts.{label_line}
use Rattle.pnp_labels.specs.declared.label.Label.{Label}
use Rattle.front_check.proofs.turn.event_line.Goals as goal

pub returns : goal.returns
returns c =
    let done = c.in_ok-label.ensures in
    IfOk-weaker c.line_of.result _ _
    (λ line is. record { says = is ∙ ap (λ (l : Label). label_line l ++ 10 ∷ []) done.done.0; became = done.done.1; told = done.settings; count = done.count })
    c.line_of.ensures
