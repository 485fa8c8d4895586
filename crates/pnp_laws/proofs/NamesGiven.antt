-- In each state of a run a driver has the name that it had at the opening, or one that an event gave.
use Rattle.std.proofs.Common.{ℕ, ◌≡◌, ◌⊎◌, inl, inr, List, [], ◌∷◌, refl, sym, ◌∙◌, subst, arith}
use Rattle.std.proofs.lemmas.List.Elements.{Contains-append_right}
use Rattle.pnp_labels.specs.Texts.{Text}
use Rattle.pnp_labels.specs.declared.event.Event.{Event}
use Rattle.pnp_labels.specs.declared.label.Label.{Label}
use Rattle.pnp_labels.specs.declared.words.AskWhat.{AskWhat}
use Rattle.pnp_labels.specs.declared.words.DriverKind.{DriverKind}
use Rattle.pnp_model.specs.Books.{is_named, is_unnamed, with_name}
use Rattle.pnp_model.specs.Events.{with_rule}
use Rattle.pnp_model.specs.Frames.{next_driver}
use Rattle.pnp_model.specs.Records.{Driver, Settings, State}
use Rattle.pnp_model.specs.Runs.{Entry, Run, opening}
use Rattle.pnp_model.specs.Runs.Entry.{Happens}
use Rattle.pnp_laws.specs.Effects.{DriverEffect}
use Rattle.pnp_laws.specs.Printed.{NamesAreGivenLaw, IsGiven}
use Rattle.pnp_laws.specs.Reached.{IsReached}
use Rattle.pnp_laws.specs.Stacks.{HasName}
use Rattle.pnp_laws.proofs.DriverNames.{SameNames, changed_given, names_after}
use Rattle.pnp_laws.proofs.EffectsOf.{effect_goes}
use Rattle.pnp_laws.proofs.Reaching.{reached_on}

given_first : (kind : DriverKind) (label : Label) (entry : Entry) (rest : List Entry) (name : Text) → entry ≡ Happens (Event.Name name kind) label → IsGiven (entry ∷ rest) name
given_first kind label entry rest name e = (kind, label, (0, omega arith, e))

given_later : (entry : Entry) (rest : List Entry) (name : Text) → IsGiven rest name → IsGiven (entry ∷ rest) name
given_later entry rest name (kind, label, there) = (kind, label, Contains-append_right (entry ∷ []) rest (Happens (Event.Name name kind) label) there)

-- the rack is one in which each driver has the name that it had
names_stay : (old mid new : List Driver) → new ≡ mid → SameNames old mid → (d : ℕ) (name : Text) → HasName new d name → HasName old d name
names_stay old mid new is same d name h = sym (same d) ∙ subst (λ (r : List Driver). HasName r d name) is h

-- in one step or event
given_goes : (s : State) (entry : Entry) (t : State) (rest : List Entry) → DriverEffect s entry t → (d : ℕ) (name : Text) → HasName t.core.rack d name → HasName s.core.rack d name ⊎ IsGiven (entry ∷ rest) name
given_goes s entry t rest (DriverEffect.same unasked rack) d name h = inl (names_stay s.core.rack s.core.rack t.core.rack rack (λ e. refl) d name h)
given_goes s entry t rest (DriverEffect.ended node minor w bad at request ends verdict prints rack) d name h = inl (names_stay s.core.rack s.core.rack t.core.rack rack (λ e. refl) d name h)
given_goes s entry t rest (DriverEffect.asked node w shown at on prints rack) d name h =
    inl (names_stay s.core.rack _ t.core.rack rack (names_after (AskWhat.Irp w.minor) node.path s.core.rack (next_driver node w)) d name h)
given_goes s entry t rest (DriverEffect.added node k ks acts prints rack activities) d name h = inl (names_stay s.core.rack _ t.core.rack rack (names_after AskWhat.Add node.path s.core.rack k) d name h)
given_goes s entry t rest (DriverEffect.refused node k ks acts prints rack) d name h = inl (names_stay s.core.rack _ t.core.rack rack (names_after AskWhat.Add node.path s.core.rack k) d name h)
given_goes s entry t rest (DriverEffect.named kind own label is unasked rack) d name h =
    elim (changed_given (λ text. own ≡ text) (is_unnamed kind) (with_name own) (λ x text e. inr (let same : own ≡ text = cc in same)) s.core.rack d name (subst (λ (r : List Driver). HasName r d name) rack h)) [
      | inl before ↦ inl before
      | inr same ↦ inr (given_first kind label entry rest name (subst (λ (text : Text). entry ≡ Happens (Event.Name text kind) label) same is))
    ]
given_goes s entry t rest (DriverEffect.taught own rule unasked rack) d name h =
    elim (changed_given (λ text. ⊥) (is_named own) (with_rule rule) (λ x text e. inl e) s.core.rack d name (subst (λ (r : List Driver). HasName r d name) rack h)) [
      | inl before ↦ inl before
      | inr none ↦ absurd none
    ]

given_run : (settings : Settings) (rack : List Driver) (old : State) (entries : List Entry) (new : State) → IsReached settings rack old → Run settings old entries new
    → (d : ℕ) (name : Text) → HasName new.core.rack d name → HasName old.core.rack d name ⊎ IsGiven entries name
given_run settings rack old [] new reached run d name h = inl (subst (λ (s : State). HasName s.core.rack d name) run h)
given_run settings rack old (entry ∷ rest) new reached (mid, goes, run) d name h =
    elim (given_run settings rack mid rest new (reached_on settings rack old entry mid reached goes) run d name h) [
      | inl before ↦ given_goes old entry mid rest (effect_goes settings old entry mid goes).drivers d name before
      | inr gives ↦ inr (given_later entry rest name gives)
    ]

pub names_are_given : NamesAreGivenLaw
names_are_given settings rack entries s run d name h = given_run settings rack (opening rack) entries s ([], refl) run d name h
