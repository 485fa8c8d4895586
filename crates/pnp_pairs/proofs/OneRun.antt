-- Two runs from one state in which the same happens, and which have both come to rest, are one.
use Rattle.std.proofs.Common.{◌≡◌, List, [], ◌∷◌, Option, refl, sym, ap, ap₂, subst, ◌∙◌}
use Rattle.pnp_labels.specs.declared.event.Event.{Event}
use Rattle.pnp_labels.specs.declared.label.Label.{Label}
use Rattle.pnp_model.specs.Events.{happens}
use Rattle.pnp_model.specs.Machine.{IsQuiet, IsStep, Steps}
use Rattle.pnp_model.specs.Records.{Doing, Settings, State, Step}
use Rattle.pnp_model.specs.Runs.{Entry, Run}
use Rattle.pnp_model.specs.Runs.Entry.{Happens, Did, Declines}
use Rattle.pnp_model.proofs.Determined.{one_label, one_state}
use Rattle.pnp_promises.specs.Later.{NoneDeclined, happened}

module _ (settings : Settings) where
  -- where nothing is next, no step is
  still : (s : State) (label : Label) (t : State) → IsQuiet settings s → Steps settings s label t → ⊥
  still s label t quiet steps = subst (λ (o : Option (Doing Step)). IsStep settings o (record { label = label; state = t })) quiet steps

  -- an event happens in one way
  same_event : (s : State) (event other : Event) (a b : Label) (x y : State) → other ≡ event → happens s event ≡ record { label = a; state = x } → happens s other ≡ record { label = b; state = y } → (b ≡ a) × (y ≡ x)
  same_event s event other a b x y e h g =
      let one : record { label = b; state = y } ≡ record { label = a; state = x } = sym g ∙ ap (happens s) e ∙ h in
      (ap (λ (t : Step). t.label) one, ap (λ (t : Step). t.state) one)

  pub one_run : (s : State) (one two : List Entry) (x y : State) → Run settings s one x → Run settings s two y → NoneDeclined one → NoneDeclined two → IsQuiet settings x → IsQuiet settings y → happened two ≡ happened one → (two ≡ one) × (y ≡ x)
  one_run s [] [] x y run other none free quiet rests e = (refl, other ∙ sym run)
  one_run s [] (Did b ∷ ys) x y run (mid2, goes2, run2) none free quiet rests e = absurd (still s b mid2 (subst (IsQuiet settings) run quiet) goes2)
  one_run s [] (Happens event b ∷ ys) x y run other none free quiet rests e = absurd (let f : event ∷ happened ys ≡ [] = e in cc)
  one_run s [] (Declines b ∷ ys) x y run other none free quiet rests e = absurd free
  one_run s (Did a ∷ xs) [] x y (mid, goes, run) other none free quiet rests e = absurd (still s a mid (subst (IsQuiet settings) other rests) goes)
  one_run s (Happens event a ∷ xs) [] x y run other none free quiet rests e = absurd (let f : [] ≡ event ∷ happened xs = e in cc)
  one_run s (Declines a ∷ xs) two x y run other none free quiet rests e = absurd none
  one_run s (Did a ∷ xs) (Did b ∷ ys) x y (mid, goes, run) (mid2, goes2, run2) none free quiet rests e =
      let state : mid2 ≡ mid = one_state settings s b a mid2 mid goes2 goes in
      let rest = one_run mid xs ys x y run (subst (λ (z : State). Run settings z ys y) state run2) none free quiet rests e in
      (ap₂ (λ (l : Label) (zs : List Entry). Did l ∷ zs) (one_label settings s b a mid2 mid goes2 goes) rest.0, rest.1)
  one_run s (Happens event a ∷ xs) (Happens other b ∷ ys) x y (mid, goes, run) (mid2, goes2, run2) none free quiet rests e =
      let f : other ∷ happened ys ≡ event ∷ happened xs = e in
      let own : other ≡ event = cc in
      let left : happened ys ≡ happened xs = cc in
      let same = same_event s event other a b mid mid2 own goes.1 goes2.1 in
      let rest = one_run mid xs ys x y run (subst (λ (z : State). Run settings z ys y) same.1 run2) none free quiet rests left in
      (ap₂ (λ (k : Entry) (zs : List Entry). k ∷ zs) (ap₂ (λ (v : Event) (l : Label). Happens v l) own same.0) rest.0, rest.1)
  one_run s (Did a ∷ xs) (Happens event b ∷ ys) x y (mid, goes, run) (mid2, goes2, run2) none free quiet rests e = absurd (still s a mid goes2.0 goes)
  one_run s (Happens event a ∷ xs) (Did b ∷ ys) x y (mid, goes, run) (mid2, goes2, run2) none free quiet rests e = absurd (still s b mid2 goes.0 goes2)
  one_run s (Did a ∷ xs) (Declines b ∷ ys) x y run other none free quiet rests e = absurd free
  one_run s (Happens event a ∷ xs) (Declines b ∷ ys) x y run other none free quiet rests e = absurd free
