-- A state has at most one step.
use Rattle.std.proofs.Common.{◌≡◌, Option, Some, None, sym, ap, ◌∙◌}
use Rattle.resource_reqs.proofs.Answering.{answer_one}
use Rattle.pnp_model.specs.Records.{State, Step, Settings, Doing}
use Rattle.pnp_model.specs.Records.Doing.{Does, Searches}
use Rattle.pnp_model.specs.Machine.{next, IsStep, Steps}
use Rattle.pnp_labels.specs.declared.label.Label.{Label}

one_step : (settings : Settings) (o : Option (Doing Step)) (x y : Step) → IsStep settings o x → IsStep settings o y → x ≡ y
one_step settings None x y h g = absurd h
one_step settings (Some (Does one)) x y h g = h ∙ sym g
one_step settings (Some (Searches problem by_answer)) x y h g =
    h.2 ∙ ap by_answer (answer_one problem.fixed problem.movers settings.budget h.0 g.0 h.1 g.1) ∙ sym g.2

pub one_label : (settings : Settings) (old : State) (a b : Label) (x y : State) → Steps settings old a x → Steps settings old b y → a ≡ b
one_label settings old a b x y h g =
    ap (λ (t : Step). t.label) (one_step settings (next settings old) (record { label = a; state = x }) (record { label = b; state = y }) h g)

pub one_state : (settings : Settings) (old : State) (a b : Label) (x y : State) → Steps settings old a x → Steps settings old b y → x ≡ y
one_state settings old a b x y h g =
    ap (λ (t : Step). t.state) (one_step settings (next settings old) (record { label = a; state = x }) (record { label = b; state = y }) h g)
