-- Each step of the front, over whatever drivers, is one whatever its drivers answer.
use Rattle.std.proofs.Common.{◌≡◌, List, Option, Some, None, refl, sym, ap, ◌∙◌, subst, option_map}
use Rattle.pnp_labels.specs.declared.words.Answer.{Answer}
use Rattle.pnp_labels.specs.declared.words.Answer.TheVariants.{Ok}
use Rattle.pnp_model.specs.Machine as ma
use Rattle.pnp_model.specs.Records.{Doing, Driver, Settings, State, Step, doing_map}
use Rattle.pnp_model.specs.Records.Doing.{Does, Searches}
use Rattle.free_model.specs.Asks.{Query, next_query}
use Rattle.free_model.specs.Frees.{told, with_rack}
use Rattle.free_model.specs.Shapes.{faces, shapes}
use Rattle.free_model.proofs.Outs.{agreeing, own_rack, shapes_by}
use Rattle.free_model.proofs.Racks.{faces_of, faces_told, same_told}
use Rattle.free_model.proofs.Ways.{rack_by, reply_to}
use Rattle.free_model.proofs.WaySteps.{step_by, way_next}
use Rattle.notify_front.specs.Fronts as fr
use Rattle.notify_front.specs.Fronts.{Front, FrontEntry, FrontStep, FrontSteps, Hand, IsFrontStep, front_next, machine_next}
use Rattle.notify_front.proofs.Runs.{lifted_step}
use Rattle.free_front.specs.FreeFronts.{FreeFrontSteps, with_drivers}
use Rattle.free_front.specs.Laws.{EachFrontStepIsFreeLaw}
use Rattle.free_front.proofs.Nexts.{NextOf, machine, own, next_by}

pub lift_up : (settings : Settings) (f : Front) (hand : Hand) (o : Option (Doing Step)) (m : Step) → ma.IsStep settings o m → IsFrontStep settings (option_map (doing_map (fr.lifted f hand)) o) (fr.lifted f hand m)
lift_up settings f hand None m h = absurd h
lift_up settings f hand (Some (Does x)) m h = ap (fr.lifted f hand) h
lift_up settings f hand (Some (Searches problem by_answer)) m (found, answer, is) = (found, answer, ap (fr.lifted f hand) is)

-- over drivers that show the same it is a free step to the same front over these drivers, which still show the same
pub record Frees (settings : Settings) (g : Front) (rack : List Driver) (entry : FrontEntry) (new : Front) : Type 0 where
  pub free : FreeFrontSteps settings (with_drivers rack g) entry (with_drivers rack new)
  pub shape : shapes rack ≡ shapes new.state.core.rack

module _ (settings : Settings) (g : Front) (rack : List Driver) (shape : shapes rack ≡ shapes g.state.core.rack) where
  by_machine : (hand : Hand) → ((r : List Driver) → front_next settings (with_drivers r g) ≡ machine_next settings (with_drivers r g) hand) → (m : Step) → ma.IsStep settings (ma.next settings g.state) m
      → Frees settings g rack (fr.lifted g hand m).entry (fr.lifted g hand m).front
  by_machine hand is m goes =
      let s : State = g.state in
      let own : List Driver = s.core.rack in
      let q : Option Query = next_query s in
      let answer : Answer = reply_to q own in
      let t : List Driver = told answer own in
      let alike = way_next settings s t (faces_told answer own) in
      let there : Step = record { label = m.label; state = with_rack (rack_by q t) m.state } in
      let step : ma.IsStep settings (ma.next settings (with_rack t s)) there = step_by settings q own t m.label m.state alike (agreeing q own) goes in
      let same : t ≡ told answer rack = sym (same_told answer rack own (faces_of rack own shape)) in
      let up : IsFrontStep settings (front_next settings (with_drivers t g)) (fr.lifted (with_drivers t g) hand there) =
      subst (λ (o : Option (Doing FrontStep)). IsFrontStep settings o (fr.lifted (with_drivers t g) hand there)) (sym (is t)) (lift_up settings (with_drivers t g) hand (ma.next settings (with_rack t s)) there step)
      in
      record {
        free = (answer, ((fr.lifted (with_drivers t g) hand there).front, subst (λ (u : List Driver). FrontSteps settings (with_drivers u g) (fr.lifted g hand m).entry (fr.lifted (with_drivers t g) hand there).front) same up, refl));
        shape = shape ∙ sym (ap shapes (own_rack settings q own t m.label m.state alike goes) ∙ shapes_by q own);
      }

  by_own : (entry : FrontEntry) (h : Front) → ((r : List Driver) → front_next settings (with_drivers r g) ≡ Some (Does (record { entry = entry; front = with_drivers r h })))
      → Frees settings g rack entry (with_drivers g.state.core.rack h)
  by_own entry h is =
      let t : List Driver = told Ok rack in
      record {
        free = (Ok, (with_drivers t h, subst (λ (o : Option (Doing FrontStep)). IsFrontStep settings o (record { entry = entry; front = with_drivers t h })) (sym (is t)) refl, refl));
        shape = shape;
      }

  by_step : (x y : FrontStep) → x ≡ y → Frees settings g rack y.entry y.front → Frees settings g rack x.entry x.front
  by_step x y e h = subst (λ (z : FrontStep). Frees settings g rack z.entry z.front) (sym e) h

  pub step_frees : (entry : FrontEntry) (new : Front) → FrontSteps settings g entry new → Frees settings g rack entry new
  step_frees entry new h = by_next (next_by settings g)
    where
      by_next : NextOf settings g (front_next settings) → Frees settings g rack entry new
      by_next (machine hand is) =
          let (m, goes, e) = lifted_step settings g hand (ma.next settings g.state) (record { entry = entry; front = new })
          (subst (λ (o : Option (Doing FrontStep)). IsFrontStep settings o (record { entry = entry; front = new })) (is g.state.core.rack) h)
          in
          by_step (record { entry = entry; front = new }) (fr.lifted g hand m) e (by_machine hand is m goes)
      by_next (own e0 k is) =
          by_step (record { entry = entry; front = new }) (record { entry = e0; front = with_drivers g.state.core.rack k })
          (subst (λ (o : Option (Doing FrontStep)). IsFrontStep settings o (record { entry = entry; front = new })) (is g.state.core.rack) h) (by_own e0 k is)

pub each_step : EachFrontStepIsFreeLaw
each_step settings f entry new h = (step_frees settings f f.state.core.rack refl entry new h).free
