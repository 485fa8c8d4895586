-- Where the events of one run stand at the front of those of another, all that it did does.
use Rattle.std.proofs.Common.{◌≡◌, List, [], ◌∷◌, ◌++◌, Option, refl, sym, ap, ap₂, subst, ◌∙◌}
use Rattle.pnp_labels.specs.declared.event.Event.{Event}
use Rattle.pnp_labels.specs.declared.label.Label.{Label}
use Rattle.pnp_model.specs.Events.{happens}
use Rattle.pnp_model.specs.Machine.{IsQuiet, IsStep, Steps}
use Rattle.pnp_model.specs.Records.{Doing, Settings, State, Step}
use Rattle.pnp_model.specs.Runs.{Entry, Run, opening}
use Rattle.pnp_model.specs.Runs.Entry.{Happens, Did, Declines}
use Rattle.pnp_model.proofs.Determined.{one_label, one_state}
use Rattle.pnp_promises.specs.Later.{LaterIsNoEarlierLaw, NoneDeclined, happened}

-- where nothing is next, no step is
quiet_still : (settings : Settings) (s : State) (label : Label) (t : State) → IsQuiet settings s → Steps settings s label t → ⊥
quiet_still settings s label t quiet steps = subst (λ (o : Option (Doing Step)). IsStep settings o (record { label = label; state = t })) quiet steps

-- an event that happens happens in one way
same_event : (s : State) (event other : Event) (a b : Label) (x y : State) → event ≡ other → happens s event ≡ record { label = a; state = x } → happens s other ≡ record { label = b; state = y } → (a ≡ b) × (x ≡ y)
same_event s event other a b x y e h g =
    let one : record { label = a; state = x } ≡ record { label = b; state = y } = sym h ∙ ap (happens s) e ∙ g in
    (ap (λ (t : Step). t.label) one, ap (λ (t : Step). t.state) one)

front_of : (settings : Settings) (old : State) (one two : List Entry) (s t : State) (more : List Event) → Run settings old one s → Run settings old two t → NoneDeclined one → NoneDeclined two → IsQuiet settings t → happened two ≡ happened one ++ more
    → (rest : List Entry) × (two ≡ one ++ rest)
front_of settings old [] two s t more run other none free quiet e = (two, refl)
front_of settings old (Did label ∷ xs) [] s t more (mid, goes, run) other none free quiet e = absurd (quiet_still settings old label mid (subst (IsQuiet settings) other quiet) goes)
front_of settings old (Happens event label ∷ xs) [] s t more run other none free quiet e = absurd (let e2 : [] ≡ event ∷ (happened xs ++ more) = e in cc)
front_of settings old (Declines label ∷ xs) two s t more run other none free quiet e = absurd none
front_of settings old (Did label ∷ xs) (Did label2 ∷ ys) s t more (mid, goes, run) (mid2, goes2, run2) none free quiet e =
    let same = one_state settings old label label2 mid mid2 goes goes2 in
    let word = one_label settings old label label2 mid mid2 goes goes2 in
    let rest = front_of settings mid xs ys s t more run (subst (λ (x : State). Run settings x ys t) (sym same) run2) none free quiet e in
    (rest.0, ap₂ (λ (l : Label) (zs : List Entry). Did l ∷ zs) (sym word) rest.1)
front_of settings old (Happens event label ∷ xs) (Happens event2 label2 ∷ ys) s t more (mid, goes, run) (mid2, goes2, run2) none free quiet e =
    let e2 : event2 ∷ happened ys ≡ event ∷ (happened xs ++ more) = e in
    let own : event ≡ event2 = cc in
    let both = same_event old event event2 label label2 mid mid2 own goes.1 goes2.1 in
    let left : happened ys ≡ happened xs ++ more = cc in
    let rest = front_of settings mid xs ys s t more run (subst (λ (x : State). Run settings x ys t) (sym both.1) run2) none free quiet left in
    (rest.0, ap₂ (λ (h : Entry) (zs : List Entry). h ∷ zs) (ap₂ (λ (v : Event) (l : Label). Happens v l) (sym own) (sym both.0)) rest.1)
front_of settings old (Did label ∷ xs) (Happens event2 label2 ∷ ys) s t more (mid, goes, run) (mid2, goes2, run2) none free quiet e = absurd (quiet_still settings old label mid goes2.0 goes)
front_of settings old (Happens event label ∷ xs) (Did label2 ∷ ys) s t more (mid, goes, run) (mid2, goes2, run2) none free quiet e = absurd (quiet_still settings old label2 mid2 goes.0 goes2)
front_of settings old (Did label ∷ xs) (Declines label2 ∷ ys) s t more run other none free quiet e = absurd free
front_of settings old (Happens event label ∷ xs) (Declines label2 ∷ ys) s t more run other none free quiet e = absurd free

pub later_is_no_earlier : LaterIsNoEarlierLaw
later_is_no_earlier settings rack one two s t more run other none free quiet e = front_of settings (opening rack) one two s t more run other none free quiet e
