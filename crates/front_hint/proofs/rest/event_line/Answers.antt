use Rattle.std.proofs.Common.{[], ◌∷◌, ◌++◌, ◌∙◌, ap}
use Rattle.std.proofs.lemmas.Result.{IfOk-weaker}
use Rattle.pnp_labels.specs.Texts.{label_line}
use Rattle.pnp_labels.specs.declared.label.Label.{Label}
use Rattle.front_hint.proofs.rest.event_line.Goals as goal

pub returns : goal.returns
returns c =
    let done = c.in_ok-label.ensures in
    IfOk-weaker c.label_line.result _ _
    (λ line is. record { says = is ∙ ap (λ (l : Label). label_line l ++ 10 ∷ []) done.done.0; became = done.done.1; told = done.settings; count = done.count })
    c.label_line.ensures
