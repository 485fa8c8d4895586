-- What is next at a front, whoever its drivers are: a step of the machine, with this at hand; or what the front does by itself.
use Rattle.std.proofs.Common.{◌≡◌, Bool, true, false, List, [], ◌∷◌, ◌++◌, Option, Some, None, refl, sym, ap, ◌∙◌, subst, option_map, reverse}
use Rattle.pnp_labels.specs.Texts.{Text, label_line}
use Rattle.pnp_labels.specs.declared.label.Label.{Label}
use Rattle.pnp_labels.specs.declared.label.NoticeKind.{NoticeKind}
use Rattle.pnp_labels.specs.declared.label.OpKind.{OpKind}
use Rattle.pnp_labels.specs.declared.words.Answer.{Answer}
use Rattle.pnp_model.specs.Cores.{node_at, path_of}
use Rattle.pnp_model.specs.Machine as ma
use Rattle.pnp_model.specs.Records.{Beginning, Doing, Driver, Settings, State, Step, doing_map}
use Rattle.pnp_model.specs.Records.Doing.{Does}
use Rattle.pnp_model.specs.Runs.{Entry}
use Rattle.pnp_model.specs.States.{drop_task}
use Rattle.free_model.specs.Frees.{told, with_rack}
use Rattle.free_model.proofs.Alikes.{leaving_same}
use Rattle.free_model.proofs.OneVerdict.{kin_steps, one_state}
use Rattle.free_model.proofs.Quiets.{quiet_same}
use Rattle.free_model.proofs.Ways.{KinLabel, one}
use Rattle.notify_front.specs.Fronts as fr
use Rattle.notify_front.specs.Fronts.{Front, FrontEntry, FrontStep, Hand, IsFrontQuiet, IsFrontStep, Registration, front_next, front_printed, machine_next, on_set}
use Rattle.notify_front.proofs.Opening.{due_same}
use Rattle.notify_front.proofs.Runs.{lifted_step}
use Rattle.free_front.specs.FreeFronts.{FrontStepsBy, FreeFrontSteps, with_drivers}

-- what is next, as a function of the front
pub data NextOf (settings : Settings) (f : Front) (next : Front → Option (Doing FrontStep)) : Type 0 where
  machine : (hand : Hand) → ((r : List Driver) → next (with_drivers r f) ≡ machine_next settings (with_drivers r f) hand) → NextOf settings f next
  own : (entry : FrontEntry) (g : Front) → ((r : List Driver) → next (with_drivers r f) ≡ Some (Does (record { entry = entry; front = with_drivers r g }))) → NextOf settings f next

along : {settings : Settings} {f : Front} {next other : Front → Option (Doing FrontStep)} → ((r : List Driver) → other (with_drivers r f) ≡ next (with_drivers r f)) → NextOf settings f next → NextOf settings f other
along same (machine hand is) = machine hand (λ r. same r ∙ is r)
along same (own entry g is) = own entry g (λ r. same r ∙ is r)

module _ (settings : Settings) (f : Front) where
  -- the clients on a set do not depend on the drivers
  set_same : (first : Beginning) (r : List Driver) → on_set (with_drivers r f) first.serial ≡ on_set f first.serial
  set_same first r = ap (λ ks. fr.on_each ks f.registrations) (leaving_same f.state.core r first.serial)

  of_one : (first : Beginning) (agreed : List Registration) (c : Registration) (left : List Registration) (b : Bool) → NextOf settings f (λ x. Some (Does (fr.ask_one x first agreed c left b)))
  of_one first agreed c left true = own (FrontEntry.Tells (fr.notice NoticeKind.QueryRemove c (Some true))) (fr.with_hand (Hand.Asking first (c ∷ agreed) left) f) (λ r. refl)
  of_one first agreed c left false = own (FrontEntry.Tells (fr.notice NoticeKind.QueryRemove c (Some false))) (fr.with_hand (Hand.Cancelling first c.client agreed) f) (λ r. refl)

  of_ask : (first : Beginning) (agreed left : List Registration) → NextOf settings f (λ x. fr.ask_next settings x first agreed left)
  of_ask first agreed [] = machine (fr.running (reverse agreed)) (λ r. refl)
  of_ask first agreed (c ∷ left) = of_one first agreed c left c.agrees

  of_set : (first : Beginning) → NextOf settings f (λ x. fr.ask_next settings x first [] (on_set x first.serial))
  of_set first = along (λ r. ap (fr.ask_next settings (with_drivers r f) first []) (set_same first r)) (of_ask first [] (on_set f first.serial))

  of_begin : (first : Beginning) (kind : OpKind) → NextOf settings f (λ x. fr.begin_next settings x first kind)
  of_begin first OpKind.Disable = of_set first
  of_begin first OpKind.Eject = of_set first
  of_begin first OpKind.Surprise = machine (fr.running (on_set f first.serial)) (λ r. ap (λ l. machine_next settings (with_drivers r f) (fr.running l)) (set_same first r))
  of_begin first OpKind.Rebalance = machine Hand.Nothing (λ r. refl)
  of_begin first OpKind.Finish = machine Hand.Nothing (λ r. refl)
  of_begin first OpKind.Change = machine Hand.Nothing (λ r. refl)

  of_idle : (o : Option Beginning) → NextOf settings f (λ x. fr.idle_next settings x o)
  of_idle None = machine Hand.Nothing (λ r. refl)
  of_idle (Some first) = of_begin first first.kind

  of_hand : (hand : Hand) → NextOf settings f (λ x. fr.hand_next settings x hand)
  of_hand Hand.Nothing = along (λ r. ap (fr.idle_next settings (with_drivers r f)) (due_same f.state r)) (of_idle (ma.due f.state))
  of_hand (Hand.Asking first agreed left) = of_ask first agreed left
  of_hand (Hand.Cancelling first client []) =
      own (FrontEntry.Passes (Entry.Declines (Label.Declined first.kind (path_of (node_at first.serial f.state.core.nodes)) client))) (record f { state = drop_task f.state; hand = Hand.Nothing }) (λ r. refl)
  of_hand (Hand.Cancelling first client (c ∷ left)) = own (FrontEntry.Tells (fr.notice NoticeKind.RemoveCancelled c None)) (fr.with_hand (Hand.Cancelling first client left) f) (λ r. refl)
  of_hand (Hand.Running heard) = machine (Hand.Running heard) (λ r. refl)
  of_hand (Hand.Vetoed []) = machine Hand.Nothing (λ r. refl)
  of_hand (Hand.Vetoed (c ∷ left)) = own (FrontEntry.Tells (fr.notice NoticeKind.RemoveCancelled c None)) (fr.with_hand (fr.vetoed left) f) (λ r. refl)
  of_hand (Hand.Ended []) = machine Hand.Nothing (λ r. refl)
  of_hand (Hand.Ended (c ∷ left)) = own (FrontEntry.Tells (fr.notice NoticeKind.RemoveComplete c None)) (fr.with_hand (fr.over left) (fr.without c f)) (λ r. refl)

  pub next_by : NextOf settings f (front_next settings)
  next_by = along (λ r. refl) (of_hand f.hand)

-- Quiet fronts ---------------------------------------------------------------------------------

nothing_left : (f : Front) (hand : Hand) (o : Option (Doing Step)) → option_map (doing_map (fr.lifted f hand)) o ≡ None → o ≡ None
nothing_left f hand None h = refl
nothing_left f hand (Some doing) h = absurd (cc)

some_next : (doing : Doing FrontStep) → Some doing ≡ None → ⊥
some_next doing e = absurd (cc)

-- quiet with one rack, quiet with another
pub front_quiet_same : (settings : Settings) (f : Front) (r : List Driver) → IsFrontQuiet settings f → IsFrontQuiet settings (with_drivers r f)
front_quiet_same settings f r quiet = by_next (next_by settings f)
  where
    by_next : NextOf settings f (front_next settings) → IsFrontQuiet settings (with_drivers r f)
    by_next (machine hand is) =
        let none : ma.next settings f.state ≡ None = nothing_left f hand (ma.next settings f.state) (sym (is f.state.core.rack) ∙ quiet) in
        is r ∙ ap (option_map (doing_map (fr.lifted (with_drivers r f) hand))) (quiet_same settings f.state r none)
    by_next (own entry g is) = absurd (some_next (Does (record { entry = entry; front = with_drivers f.state.core.rack g })) (sym (is f.state.core.rack) ∙ quiet))

pub no_free_step : (settings : Settings) (f : Front) (entry : FrontEntry) (new : Front) → IsFrontQuiet settings f → FreeFrontSteps settings f entry new → ⊥
no_free_step settings f entry new quiet (answer, (next, h, e)) =
    subst (λ (o : Option (Doing FrontStep)). IsFrontStep settings o (record { entry = entry; front = next })) (front_quiet_same settings f (told answer f.state.core.rack) quiet) h

-- Two free steps of one front --------------------------------------------------------------------

-- they have one label, or labels that tell their answers to one ask; and where their lines begin a text alike they are one
pub record KinSteps (p q : Answer) (a b : FrontEntry) (x y : Front) : Type 0 where
  pub kin : KinLabel p q (front_printed a) (front_printed b)
  pub line : (m n : Text) → label_line (front_printed a) ++ 10 ∷ m ≡ label_line (front_printed b) ++ 10 ∷ n → (a ≡ b) × (x ≡ y)

-- a step of the machine over told drivers, which are then as they were
record Lifted (settings : Settings) (f : Front) (hand : Hand) (p : Answer) (a : FrontEntry) (x : Front) : Type 0 where
  step : Step
  goes : ma.IsStep settings (ma.next settings (with_rack (told p f.state.core.rack) f.state)) step
  entry : a ≡ FrontEntry.Passes (Entry.Did step.label)
  front : x ≡ record f { state = with_rack f.state.core.rack step.state; hand = fr.heard step.label hand }

lifts : (settings : Settings) (f : Front) (hand : Hand) (p : Answer) (a : FrontEntry) (u x : Front) → IsFrontStep settings (machine_next settings (with_drivers (told p f.state.core.rack) f) hand) (record { entry = a; front = u })
    → x ≡ with_drivers f.state.core.rack u → Lifted settings f hand p a x
lifts settings f hand p a u x h e =
    let (m, goes, is) = lifted_step settings (with_drivers (told p f.state.core.rack) f) hand (ma.next settings (with_rack (told p f.state.core.rack) f.state)) (record { entry = a; front = u }) h in
    record {
      step = m;
      goes = goes;
      entry = ap (λ (s : FrontStep). s.entry) is;
      front = e ∙ ap (λ (s : FrontStep). with_drivers f.state.core.rack s.front) is;
    }

machine_kin : (settings : Settings) (f : Front) (hand : Hand) (p q : Answer) (a b : FrontEntry) (x y : Front) → Lifted settings f hand p a x → Lifted settings f hand q b y → KinSteps p q a b x y
machine_kin settings f hand p q a b x y i j =
    let rack : List Driver = f.state.core.rack in
    let label : FrontEntry → Label = front_printed in
    record {
      kin =
          subst (λ (l : Label). KinLabel p q l (front_printed b)) (sym (ap label i.entry))
          (subst (λ (l : Label). KinLabel p q i.step.label l) (sym (ap label j.entry))
          (kin_steps settings f.state p q i.step.label j.step.label (with_rack rack i.step.state) (with_rack rack j.step.state) (i.step.state, i.goes, refl) (j.step.state, j.goes, refl)));
      line =
          λ m n same.
          let (labels, states) = one_state settings f.state i.step.label j.step.label (with_rack rack i.step.state) (with_rack rack j.step.state) m n (p, (i.step.state, i.goes, refl)) (q, (j.step.state, j.goes, refl))
          (ap (λ (l : Label). label_line l ++ 10 ∷ m) (sym (ap label i.entry)) ∙ same ∙ ap (λ (l : Label). label_line l ++ 10 ∷ n) (ap label j.entry))
          in (
            i.entry ∙ ap (λ (l : Label). FrontEntry.Passes (Entry.Did l)) labels ∙ sym j.entry,
            i.front ∙ ap (λ (s : State). record f { state = s; hand = fr.heard i.step.label hand }) states
                ∙ ap (λ (l : Label). record f { state = with_rack rack j.step.state; hand = fr.heard l hand }) labels ∙ sym j.front,
          );
    }

own_kin : (p q : Answer) (a b entry : FrontEntry) (x y g : Front) → a ≡ entry → b ≡ entry → x ≡ g → y ≡ g → KinSteps p q a b x y
own_kin p q a b entry x y g ea eb ex ey =
    record {
      kin = subst (λ (e : FrontEntry). KinLabel p q (front_printed a) (front_printed e)) (ea ∙ sym eb) (one (front_printed a));
      line = λ m n same. (ea ∙ sym eb, ex ∙ sym ey);
    }

pub kin_front : (settings : Settings) (f : Front) (p q : Answer) (a b : FrontEntry) (x y : Front) → FrontStepsBy p settings f a x → FrontStepsBy q settings f b y → KinSteps p q a b x y
kin_front settings f p q a b x y (u, hu, eu) (v, hv, ev) = by_next (next_by settings f)
  where
    rack : List Driver
    rack = f.state.core.rack

    by_next : NextOf settings f (front_next settings) → KinSteps p q a b x y
    by_next (machine hand is) =
        machine_kin settings f hand p q a b x y
        (lifts settings f hand p a u x (subst (λ (o : Option (Doing FrontStep)). IsFrontStep settings o (record { entry = a; front = u })) (is (told p rack)) hu) eu)
        (lifts settings f hand q b v y (subst (λ (o : Option (Doing FrontStep)). IsFrontStep settings o (record { entry = b; front = v })) (is (told q rack)) hv) ev)
    by_next (own entry g is) =
        let one_way : record { entry = a; front = u } ≡ record { entry = entry; front = with_drivers (told p rack) g } =
        subst (λ (o : Option (Doing FrontStep)). IsFrontStep settings o (record { entry = a; front = u })) (is (told p rack)) hu
        in
        let other_way : record { entry = b; front = v } ≡ record { entry = entry; front = with_drivers (told q rack) g } =
        subst (λ (o : Option (Doing FrontStep)). IsFrontStep settings o (record { entry = b; front = v })) (is (told q rack)) hv
        in
        own_kin p q a b entry x y (with_drivers rack g) (ap (λ (s : FrontStep). s.entry) one_way) (ap (λ (s : FrontStep). s.entry) other_way)
        (eu ∙ ap (λ (s : FrontStep). with_drivers rack s.front) one_way) (ev ∙ ap (λ (s : FrontStep). with_drivers rack s.front) other_way)
