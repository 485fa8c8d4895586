-- From a front there is one way on at most.
use Rattle.std.proofs.Common.{◌≡◌, List, [], ◌∷◌, refl, sym, ◌∙◌, ap, ap₂, subst}
use Rattle.pnp_labels.specs.declared.event.Event.{Event}
use Rattle.pnp_labels.specs.declared.label.Label.{Label}
use Rattle.pnp_model.specs.Records.{Settings}
use Rattle.notify_front.specs.Fronts.{Front, FrontStep, IsFrontQuiet, front_printed}
use Rattle.notify_front.proofs.OneWay.{one_front_step, no_front_step}
use Rattle.pnp_cli.specs.Outputs.{Makes, Settles, Follows}

pub no_step : (settings : Settings) (f new : Front) (label : Label) → IsFrontQuiet settings f → Makes settings f label new → ⊥
no_step settings f new label quiet makes = no_front_step settings f makes.0 new quiet makes.2

one_makes : (settings : Settings) (f a b : Front) (label label' : Label) → Makes settings f label a → Makes settings f label' b → (label ≡ label') × (a ≡ b)
one_makes settings f a b label label' (entry, is, steps) (entry', is', steps') =
    let same : record { entry = entry; front = a } ≡ record { entry = entry'; front = b } = one_front_step settings f (record { entry = entry; front = a }) (record { entry = entry'; front = b }) steps steps' in
    (is ∙ ap (λ (x : FrontStep). front_printed x.entry) same ∙ sym is', ap (λ (x : FrontStep). x.front) same)

-- the same labels, and the same front
pub record SameEnd (ls ls' : List Label) (a b : Front) : Type 0 where
  pub labels : ls ≡ ls'
  pub front : a ≡ b

settles_one : (settings : Settings) (f a b : Front) (labels labels' : List Label)
    → Settles settings f labels a → Settles settings f labels' b → SameEnd labels labels' a b
settles_one settings f a b [] [] h g = record { labels = refl; front = h.0 ∙ sym g.0 }
settles_one settings f a b [] (label ∷ labels) h (mid, step, more) = absurd (no_step settings f mid label h.1 step)
settles_one settings f a b (label ∷ labels) [] (mid, step, more) g = absurd (no_step settings f mid label g.1 step)
settles_one settings f a b (label ∷ labels) (label' ∷ labels') (mid, step, more) (mid', step', more') =
    let one = one_makes settings f mid mid' label label' step step' in
    let rest : SameEnd labels labels' a b = settles_one settings mid' a b labels labels' (subst (λ m. Settles settings m labels a) one.1 more) more' in
    record { labels = ap₂ (λ x xs. x ∷ xs) one.0 rest.labels; front = rest.front }

pub follows_one : (settings : Settings) (f a b : Front) (event : Event) (labels labels' : List Label)
    → Follows settings f event labels a → Follows settings f event labels' b → SameEnd labels labels' a b
follows_one settings f a b event labels labels' h g =
    let begun : h.begun ≡ g.begun = h.happened.1 ∙ sym g.happened.1 in
    let rest : SameEnd h.more g.more a b =
    settles_one settings g.begun a b h.more g.more (subst (λ m. Settles settings m h.more a) begun h.settled) g.settled in
    record {
      labels = h.printed ∙ ap₂ (λ x xs. x ∷ xs) (h.happened.0 ∙ sym g.happened.0) rest.labels ∙ sym g.printed;
      front = rest.front;
    }

-- a step that is made is the first of all
pub peel : (settings : Settings) (f mid new : Front) (label : Label) (labels : List Label) → Makes settings f label mid → Settles settings f labels new
    → (rest : List Label) × (labels ≡ label ∷ rest) × Settles settings mid rest new
peel settings f mid new label [] steps h = absurd (no_step settings f mid label h.1 steps)
peel settings f mid new label (x ∷ xs) steps (mid', step, more) =
    let one = one_makes settings f mid' mid x label step steps in
    (xs, ap (λ l. l ∷ xs) one.0, subst (λ m. Settles settings m xs new) one.1 more)
