-- A front has at most one next step, and one where something is next.
use Rattle.std.proofs.Common.{◌≡◌, Option, Some, None, refl, sym, ap, ◌∙◌, subst}
use Rattle.resource_reqs.proofs.Answering.{answer_one}
use Rattle.pnp_laws.proofs.AnswerThere.{answer_some}
use Rattle.pnp_model.specs.Records.{Settings, Doing}
use Rattle.pnp_model.specs.Records.Doing.{Does, Searches}
use Rattle.notify_front.specs.Fronts.{Front, FrontEntry, FrontStep, IsFrontStep, FrontSteps, IsFrontQuiet, front_next}

one_of : (settings : Settings) (o : Option (Doing FrontStep)) (x y : FrontStep) → IsFrontStep settings o x → IsFrontStep settings o y → x ≡ y
one_of settings None x y h g = absurd h
one_of settings (Some (Does one)) x y h g = h ∙ sym g
one_of settings (Some (Searches problem by_answer)) x y h g =
    h.2 ∙ ap by_answer (answer_one problem.fixed problem.movers settings.budget h.0 g.0 h.1 g.1) ∙ sym g.2

pub one_front_step : (settings : Settings) (f : Front) (x y : FrontStep) → IsFrontStep settings (front_next settings f) x → IsFrontStep settings (front_next settings f) y → x ≡ y
one_front_step settings f x y h g = one_of settings (front_next settings f) x y h g

pub one_front_entry : (settings : Settings) (f : Front) (a b : FrontEntry) (x y : Front) → FrontSteps settings f a x → FrontSteps settings f b y → a ≡ b
one_front_entry settings f a b x y h g =
    ap (λ (t : FrontStep). t.entry) (one_front_step settings f (record { entry = a; front = x }) (record { entry = b; front = y }) h g)

pub one_front : (settings : Settings) (f : Front) (a b : FrontEntry) (x y : Front) → FrontSteps settings f a x → FrontSteps settings f b y → x ≡ y
one_front settings f a b x y h g =
    ap (λ (t : FrontStep). t.front) (one_front_step settings f (record { entry = a; front = x }) (record { entry = b; front = y }) h g)

-- the step that is done; a search has an answer
pub front_step_of : Settings → Doing FrontStep → FrontStep
front_step_of settings (Does step) = step
front_step_of settings (Searches problem by_answer) = by_answer (answer_some problem.fixed problem.movers settings.budget).0

pub front_step_is : (settings : Settings) (doing : Doing FrontStep) → IsFrontStep settings (Some doing) (front_step_of settings doing)
unfolding front_step_of
front_step_is settings (Does step) = refl
front_step_is settings (Searches problem by_answer) = let found = answer_some problem.fixed problem.movers settings.budget in (found.0, found.1, refl)

pub some_front_step : (settings : Settings) (f : Front) (doing : Doing FrontStep) → front_next settings f ≡ Some doing → IsFrontStep settings (front_next settings f) (front_step_of settings doing)
some_front_step settings f doing e = subst (λ (o : Option (Doing FrontStep)). IsFrontStep settings o (front_step_of settings doing)) (sym e) (front_step_is settings doing)

pub no_front_step : (settings : Settings) (f : Front) (entry : FrontEntry) (g : Front) → IsFrontQuiet settings f → FrontSteps settings f entry g → ⊥
no_front_step settings f entry g quiet steps = subst (λ (o : Option (Doing FrontStep)). IsFrontStep settings o (record { entry = entry; front = g })) quiet steps
