-- Two steps of one state but for books: with the same answer they are one.
use Rattle.std.proofs.Common.{◌≡◌, Bool, true, false, List, ◌∷◌, ◌++◌, Option, refl, sym, ap, ◌∙◌, subst}
use Rattle.std.proofs.lemmas.List.{append_cancel_left}
use Rattle.resource_reqs.proofs.Answering.{answer_one}
use Rattle.pnp_labels.specs.declared.label.Label.{Label}
use Rattle.pnp_labels.specs.declared.label.Shown.{Shown}
use Rattle.pnp_labels.specs.declared.words.Answer.{Answer}
use Rattle.pnp_model.specs.Machine.{IsStep, Steps}
use Rattle.pnp_model.specs.Records.{Doing, Driver, Settings, State, Step}
use Rattle.pnp_model.specs.Walks.{shown_of}
use Rattle.free_model.specs.Asking.{said}
use Rattle.free_model.specs.Asks.{Query, next_query}
use Rattle.free_model.specs.Frees.{with_rack}
use Rattle.free_model.specs.Shapes.{faces}
use Rattle.free_model.proofs.Alikes.{Alike, does, rests, searches}
use Rattle.free_model.proofs.Outs.{shapes_by}
use Rattle.free_model.proofs.Racks.{faces_of}
use Rattle.free_model.proofs.WaySteps.{way_next}
use Rattle.free_model.proofs.Ways.{KinLabel, Way, adds, asks, one, rack_by}
use Rattle.free_pairs.specs.Answers.{added, answer}

-- Labels that tell their answers to one ask ---------------------------------------------

added_one : (a b : Bool) → added a ≡ added b → a ≡ b
added_one true true e = refl
added_one false false e = refl
added_one true false e = absurd (cc)
added_one false true e = absurd (cc)

-- the same answers, told from here on: the same label here, and the same answers after it
pub kin_same : {p q : Answer} {a b : Label} → KinLabel p q a b → (xs ys : List Shown) → answer b ++ ys ≡ answer a ++ xs → (a ≡ b) × (ys ≡ xs)
kin_same (one l) xs ys e = (refl, append_cancel_left (answer l) ys xs e)
kin_same {p} {q} (asks minor path name) xs ys e =
    let f : shown_of minor q ∷ ys ≡ shown_of minor p ∷ xs = e in
    let head : shown_of minor q ≡ shown_of minor p = cc in
    (ap (Label.Asked minor path name) (sym head), cc)
kin_same {p} {q} (adds path name) xs ys e =
    let f : added (said q) ∷ ys ≡ added (said p) ∷ xs = e in
    let head : added (said q) ≡ added (said p) = cc in
    (ap (Label.Add path name) (sym (added_one (said q) (said p) head)), cc)

-- Two steps -------------------------------------------------------------------------------

pub way_steps : (settings : Settings) (q : Option Query) (a r : List Driver) {x y : Option (Doing Step)} (u v : Step) → Alike (Way q a r) x y → IsStep settings x u → IsStep settings y v → Way q a r u v
way_steps settings q a r u v rests h g = absurd h
way_steps settings q a r u v (does x0 y0 way) h g = subst (λ (s : Step). Way q a r s v) (sym h) (subst (λ (t : Step). Way q a r x0 t) (sym g) way)
way_steps settings q a r u v (searches p f k way) h g =
    let found : h.0 ≡ g.0 = answer_one p.fixed p.movers settings.budget h.0 g.0 h.1 g.1 in
    subst (λ (s : Step). Way q a r s v) (sym h.2) (subst (λ (t : Step). Way q a r (f h.0) t) (sym (g.2 ∙ ap k (sym found))) (way h.0))

-- who was asked keeps kind and name
faces_by : (q : Option Query) (rack : List Driver) → faces (rack_by q rack) ≡ faces rack
faces_by q rack = faces_of (rack_by q rack) rack (shapes_by q rack)

-- a state and the same with other books
pub way_of : (settings : Settings) (s : State) (r : List Driver) (a b : Label) (x y : State) → faces r ≡ faces s.core.rack → Steps settings s a x → Steps settings (with_rack r s) b y
    → Way (next_query s) s.core.rack r (record { label = a; state = x }) (record { label = b; state = y })
way_of settings s r a b x y e h g =
    way_steps settings (next_query s) s.core.rack r (record { label = a; state = x }) (record { label = b; state = y })
    (way_next settings s r e) h g

-- one state with other books
pub record Twins (x y : State) : Type 0 where
  pub rack : List Driver
  pub is : y ≡ with_rack rack x
  pub shown : faces rack ≡ faces x.core.rack

pub twins_of : (settings : Settings) (s : State) (r : List Driver) (a b : Label) (x y : State) → faces r ≡ faces s.core.rack → Steps settings s a x → Steps settings (with_rack r s) b y → a ≡ b → Twins x y
twins_of settings s r a b x y e h g same =
    let way = way_of settings s r a b x y e h g in
    let q : Option Query = next_query s in
    record {
      rack = rack_by q r;
      is = way.same same;
      shown = faces_by q r ∙ e ∙ sym (faces_by q s.core.rack) ∙ ap faces (sym way.own);
    }

-- a step keeps kinds and names
pub faces_kept : (settings : Settings) (s : State) (a : Label) (x : State) → Steps settings s a x → faces x.core.rack ≡ faces s.core.rack
faces_kept settings s a x h =
    let way = way_of settings s s.core.rack a a x x refl h h in
    ap faces way.own ∙ faces_by (next_query s) s.core.rack
