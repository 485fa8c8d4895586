-- What the calls of a desk do, as steps of its front.
use Rattle.std.proofs.Common.{ℕ, ◌≡◌, ◌==◌, true, false, List, [], ◌∷◌, Some, None, refl, sym, ap, ◌∙◌, subst, length, reverse, slice_get, arith}
use Rattle.std.proofs.lemmas.Bool.Decides.{nat_tests}
use Rattle.pnp_labels.specs.Texts.{Text}
use Rattle.pnp_labels.specs.declared.label.Label.{Label}
use Rattle.pnp_labels.specs.declared.label.OpKind.{OpKind}
use Rattle.pnp_model.specs.Cores.{node_at, path_of}
use Rattle.pnp_model.specs.Machine as ma
use Rattle.pnp_model.specs.States.{drop_task}
use Rattle.pnp_machine.specs.Machines.{Moves}
use Rattle.pnp_machine.specs.Managers.{Manager, settings}
use Rattle.pnp_machine.specs.declared.manager.Moved.{Moved}
use Rattle.pnp_machine.specs.declared.manager.Moved.TheVariants.{Label as Printed, Quiet}
use Rattle.notify_front.specs.Fronts.{Front, Hand, Registration, front_next, machine_next, on_set, running}
use Rattle.notify_front.specs.Desks.{Desk, FrontMoves, IsAlone, front_of, told_of}
use Rattle.notify_front.specs.Hands.{AllCancelled, after_last, IsBegun, IsRunning, begins, begun, hand_after, is_ended, moved_on, next_told, notice_of, refuser_of}
use Rattle.notify_front.proofs.Moving as mv

abbrev pub desk_of : Manager → List Registration → Hand → Desk
desk_of m rs h = record { manager = m; registrations = rs; hand = h }

-- the desk before, by its parts
module _ (m : Manager) (rs : List Registration) (h : Hand) (d : Desk) (is : desk_of m rs h ≡ d) where
  abbrev f : Front
  f = front_of (desk_of m rs h)

  abbrev Goes : Moved → Manager → List Registration → Hand → Type 0
  Goes moved m' rs' h' = FrontMoves (told_of d) (front_of d) moved (front_of (desk_of m' rs' h'))

  goes_of : (moved : Moved) (g : Front) → FrontMoves (settings m) f moved g → FrontMoves (told_of d) (front_of d) moved g
  goes_of moved g moves = subst (λ (x : Desk). FrontMoves (told_of x) (front_of x) moved g) is moves

  hand_is : h ≡ d.hand
  hand_is = ap (λ (x : Desk). x.hand) is

  state_is : m.state ≡ d.manager.state
  state_is = ap (λ (x : Desk). x.manager.state) is

  set_is : (serial : ℕ) → on_set (front_of d) serial ≡ on_set f serial
  set_is serial = ap (λ (x : Desk). on_set (front_of x) serial) (sym is)

  pub tell_goes : (r : Registration) (label : Label) (rs' : List Registration) (h' : Hand) → next_told h ≡ Some r → label ≡ notice_of h r → rs' ≡ after_last (is_ended h) r rs → h' ≡ moved_on h → Goes (Printed label) m rs' h'
  tell_goes r label rs' h' next says left on =
      goes_of (Printed label) (front_of (desk_of m rs' h'))
      (mv.tell_moves (settings m) f (front_of (desk_of m rs' h')) r label next says
      (ap (λ (l : List Registration). record { state = m.state; registrations = l; hand = h' }) left ∙ ap (λ (x : Hand). record { state = m.state; registrations = after_last (is_ended h) r rs; hand = x }) on))

  -- the machine moves, with this at hand
  module _ (moved : Moved) (m' : Manager) (moves : Moves (settings m) m.state moved m'.state) where
    with_hand : (hand h' : Hand) → front_next (settings m) f ≡ machine_next (settings m) f hand → (ma.next (settings m) m.state ≡ None → hand ≡ h) → h' ≡ hand_after moved hand → Goes moved m' rs h'
    with_hand hand h' next quiet after =
        subst (λ (x : Hand). Goes moved m' rs x) (sym after)
        (goes_of moved (front_of (desk_of m' rs (hand_after moved hand))) (mv.machine_moves (settings m) f hand moved m'.state next quiet moves))

    after_nothing : (x : Moved) → Hand.Nothing ≡ hand_after x Hand.Nothing
    after_nothing (Printed label) = refl
    after_nothing Quiet = refl

    pub pass_goes : d.hand ≡ Hand.Nothing → IsAlone (told_of d) (front_of d) → Goes moved m' rs h
    pass_goes idle alone =
        let nothing : h ≡ Hand.Nothing = hand_is ∙ idle in
        with_hand Hand.Nothing h (subst (λ (x : Desk). IsAlone (told_of x) (front_of x)) (sym is) alone) (λ none. sym nothing) (nothing ∙ after_nothing moved)

    pub run_goes : (h' : Hand) → IsRunning d.hand → h' ≡ hand_after moved h → Goes moved m' rs h'
    run_goes h' runs after = with_hand h h' (mv.run_next (settings m) f runs.told (hand_is ∙ runs.is)) (λ none. refl) after

    pub begin_goes : (h1 h' : Hand) → IsBegun d.manager.state d.hand → h1 ≡ begun h → h' ≡ hand_after moved h1 → Goes moved m' rs h'
    begin_goes h1 h' all began after =
        let asking : h ≡ Hand.Asking all.all.first all.all.agreed [] = hand_is ∙ all.all.is in
        let hand = running (reverse all.all.agreed) in
        let due : ma.due m.state ≡ Some all.all.first = ap ma.due state_is ∙ all.is_due in
        with_hand hand h' (mv.begin_next (settings m) f all.all.first all.all.agreed asking) (λ none. absurd (mv.due_not_quiet (settings m) f all.all.first due none))
        (after ∙ ap (hand_after moved) (began ∙ ap begun asking))

    module _ (idle : d.hand ≡ Hand.Nothing) where
      pub surprise_goes : (serial : ℕ) (told : List Registration) (h1 h' : Hand) → ma.due d.manager.state ≡ Some (begins OpKind.Surprise serial) → told ≡ on_set (front_of d) serial → h1 ≡ running told → h' ≡ hand_after moved h1 → Goes moved m' rs h'
      surprise_goes serial told h1 h' due all began after =
          let is_due : ma.due m.state ≡ Some (begins OpKind.Surprise serial) = ap ma.due state_is ∙ due in
          with_hand (running told) h' (mv.surprise_next (settings m) f (hand_is ∙ idle) serial told is_due (all ∙ set_is serial))
          (λ none. absurd (mv.due_not_quiet (settings m) f (begins OpKind.Surprise serial) is_due none)) (after ∙ ap (hand_after moved) began)

  -- nobody is told
  module _ (idle : d.hand ≡ Hand.Nothing) where
    nothing : h ≡ Hand.Nothing
    nothing = hand_is ∙ idle

    alone_of : front_next (settings m) f ≡ machine_next (settings m) f Hand.Nothing → IsAlone (told_of d) (front_of d)
    alone_of next = subst (λ (x : Desk). IsAlone (told_of x) (front_of x)) is next

    pub nobody_alone : true ≡ (length rs == 0) → IsAlone (told_of d) (front_of d)
    nobody_alone none = alone_of (mv.nobody_next (settings m) f nothing (empty rs none))
      where
        empty : (l : List Registration) → true ≡ (length l == 0) → l ≡ []
        empty [] e = refl
        empty (r ∷ l) e = let no : (length (r ∷ l) == 0) ≡ false = grind (arith, nat_tests) in absurd (cc)

    pub none_alone : None ≡ ma.due m.state → IsAlone (told_of d) (front_of d)
    none_alone none = alone_of (mv.none_next (settings m) f nothing (sym none))

    pub untold_alone : (kind : OpKind) (serial : ℕ) → Some (begins kind serial) ≡ ma.due m.state → mv.is_untold kind ≡ true → IsAlone (told_of d) (front_of d)
    untold_alone kind serial due untold = alone_of (mv.untold_next (settings m) f nothing kind serial (sym due) untold)

    pub unasked_alone : (kind : OpKind) (serial : ℕ) (told : List Registration) → ma.due d.manager.state ≡ Some (begins kind serial) → ma.is_in_order kind ≡ true → told ≡ on_set (front_of d) serial → None ≡ slice_get told 0 → IsAlone (told_of d) (front_of d)
    unasked_alone kind serial told due order all none =
        alone_of (mv.unasked_next (settings m) f nothing kind serial told (ap ma.due state_is ∙ due) order (all ∙ set_is serial) none)

  pub announce_goes : (kind : OpKind) (serial : ℕ) (told : List Registration) (r : Registration) (label : Label) (h1 h' : Hand) → d.hand ≡ Hand.Nothing → ma.due d.manager.state ≡ Some (begins kind serial) → ma.is_in_order kind ≡ true →
      told ≡ on_set (front_of d) serial → h1 ≡ Hand.Asking (begins kind serial) [] told → next_told h1 ≡ Some r → label ≡ notice_of h1 r → h' ≡ moved_on h1 → Goes (Printed label) m rs h'
  announce_goes kind serial told r label h1 h' idle due order all asking first says on =
      goes_of (Printed label) (front_of (desk_of m rs h'))
      (mv.announce_moves (settings m) f (hand_is ∙ idle) kind serial told r label h' (ap ma.due state_is ∙ due) order (all ∙ set_is serial) (ap next_told (sym asking) ∙ first)
      (says ∙ ap (λ (x : Hand). notice_of x r) asking) (on ∙ ap moved_on asking))

  pub decline_goes : (kind : OpKind) (serial : ℕ) (client path : Text) (m' : Manager) (h' : Hand) → AllCancelled kind serial d.hand → path ≡ path_of (node_at serial m.state.core.nodes) → Some client ≡ refuser_of h →
      m' ≡ record m { state = drop_task m.state } → h' ≡ Hand.Nothing → Goes (Printed (Label.Declined kind path client)) m' rs h'
  decline_goes kind serial client path m' h' all named refuses dropped over =
      let hand : h ≡ Hand.Cancelling (begins kind serial) all.client [] = hand_is ∙ all.is in
      let who : Some client ≡ Some all.client = refuses ∙ ap refuser_of hand in
      let same : client ≡ all.client = cc in
      let label = Label.Declined kind path client in
      let says : label ≡ Label.Declined kind (path_of (node_at serial m.state.core.nodes)) all.client = ap (λ (x : Text). Label.Declined kind x client) named ∙ ap (λ (x : Text). Label.Declined kind (path_of (node_at serial m.state.core.nodes)) x) same in
      let after : record { state = drop_task m.state; registrations = rs; hand = Hand.Nothing } ≡ front_of (desk_of m' rs h') =
      ap (λ (x : Manager). front_of (desk_of x rs Hand.Nothing)) (sym dropped) ∙ ap (λ (x : Hand). front_of (desk_of m' rs x)) (sym over) in
      goes_of (Printed label) (front_of (desk_of m' rs h'))
      (subst (λ (x : Front). FrontMoves (settings m) f (Printed label) x) after (mv.decline_moves (settings m) f kind serial all.client label hand says))
