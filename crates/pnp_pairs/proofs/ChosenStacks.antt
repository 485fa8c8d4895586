-- A device has the drivers that the INFs name for it, and while it is started those that it has and those that are still to be added.
use Rattle.std.proofs.Common.{ℕ, suc, ◌+◌, ◌≡◌, ◌≢◌, inl, inr, Bool, true, false, List, [], ◌∷◌, ◌++◌, length, nat_le, drop, Option, Some, None, refl, sym, ap, ◌∙◌, subst, arith}
use Rattle.std.specs.List.{find, slice_get}
use Rattle.std.specs.Option.{option_map}
use Rattle.std.proofs.lemmas.Bool.{cases_eq}
use Rattle.std.proofs.lemmas.Bool.Decides.{nat_tests}
use Rattle.std.proofs.lemmas.List.{length-append}
use Rattle.resource_reqs.specs.Spelling.Answer.{assignment, no_fit, spent}
use Rattle.pnp_labels.specs.Texts.{Text}
use Rattle.pnp_labels.specs.declared.label.Label.{Label}
use Rattle.pnp_labels.specs.declared.label.OpKind.{OpKind}
use Rattle.pnp_labels.specs.declared.states.DevState.{DevState}
use Rattle.pnp_labels.specs.declared.states.DevState.TheVariants.{NoStack, NotStarted, Started, SurpriseRemoved}
use Rattle.pnp_labels.specs.declared.states.Problem.{Problem}
use Rattle.pnp_labels.specs.declared.words.Answer.{Answer}
use Rattle.pnp_labels.specs.declared.words.Answer.TheVariants.{Ok, Fail, Pend}
use Rattle.pnp_labels.specs.declared.words.AskWhat.{AskWhat}
use Rattle.pnp_model.specs.Books.{driver_named, rack_reply}
use Rattle.pnp_model.specs.Cores.{bare, is_node, node_at, set_problem, stacked, with_holds, with_problem, with_stack, with_state}
use Rattle.pnp_model.specs.Events.{answer_of, completed_phase}
use Rattle.pnp_model.specs.Frames.{core_after}
use Rattle.pnp_model.specs.Handles.{is_ready_device}
use Rattle.pnp_model.specs.Keyed.{changed_first, without_first}
use Rattle.pnp_model.specs.Machine as ma
use Rattle.pnp_model.specs.Records.{Activity, Choice, Device, Driver, Duty, Found, Job, Node, Phase, Settings, State, Step, Task, Walk, doing_map}
use Rattle.pnp_model.specs.Records.Phase.{Adding, Searching, Starting, Removing, Due}
use Rattle.pnp_model.specs.Runs.{Entry, Goes}
use Rattle.pnp_model.specs.Runs.Entry.{Happens, Did, Declines}
use Rattle.pnp_model.specs.Starts as st
use Rattle.pnp_model.specs.States.{activity_at, device_born, entered, is_activity, new_child, with_phase}
use Rattle.pnp_model.specs.Tasks as tk
use Rattle.pnp_model.specs.Tests.{has_same}
use Rattle.pnp_model.specs.Walks.{has_ended, is_bad}
use Rattle.pnp_laws.specs.Effects.{Acting, ActivityEffect, AnswerEffect, Effect, Enters, NodeEffect, TaskEffect}
use Rattle.pnp_laws.specs.Kept.{Alone, Fits, IsGood}
use Rattle.pnp_laws.specs.Reached.{IsReached}
use Rattle.pnp_laws.proofs.EffectViews.{Origin, acting_at, acting_fits, origin}
use Rattle.pnp_laws.proofs.EffectsOf.{effect_goes}
use Rattle.pnp_laws.proofs.Lookups.{changed_none, ended_other, ended_same, entered_other, entered_same, first_is, found_self, joined_from, node_from, own_serial, phase_set_other, phase_set_same, some_same}
use Rattle.pnp_laws.proofs.Passing.{AllBy, AllNext, all_step}
use Rattle.pnp_laws.proofs.Reaching.{kept, reached_on}
use Rattle.pnp_laws.proofs.Runs.{root_is}
use Rattle.pnp_laws.proofs.RunsStacks.{stacks_fit}
use Rattle.pnp_laws.proofs.RunsStand.{reaches_kept}
use Rattle.pnp_pairs.proofs.Enabling.{IsChosen, nil_end, one_end}
use Rattle.pnp_pairs.proofs.Places.{Finds, finds_goes, numbered_still}

-- the drivers that the INFs name, but for how many they may be
record HasChoice (settings : Settings) (rack : List Driver) (hw compat : List Text) (drivers : List ℕ) : Type 0 where
  choice : Choice
  best : settings.best hw compat ≡ Some choice
  service : Text
  has_service : choice.service ≡ Some service
  lower : List ℕ
  own : ℕ
  upper : List ℕ
  lower_are : tk.numbered rack choice.lower ≡ Some lower
  own_is : driver_named service rack ≡ Some own
  upper_are : tk.numbered rack choice.upper ≡ Some upper
  all : drivers ≡ lower ++ own ∷ upper

module _ (settings : Settings) where
  -- while it is started
  abbrev InPhase : List Driver → List Text → List Text → List ℕ → Phase → Type 0
  InPhase rack hw compat stack (Adding ds) = HasChoice settings rack hw compat (stack ++ ds)
  InPhase rack hw compat stack Searching = HasChoice settings rack hw compat stack
  InPhase rack hw compat stack (Starting w) = HasChoice settings rack hw compat stack
  InPhase rack hw compat stack (Removing w) = Unit {0}
  InPhase rack hw compat stack (Due problem) = Unit {0}

  abbrev Fine : List Driver → List Text → List Text → List ℕ → Option Activity → Type 0
  Fine rack hw compat stack None = stack ≢ [] → HasChoice settings rack hw compat stack
  Fine rack hw compat stack (Some a) = InPhase rack hw compat stack a.phase

  abbrev OfNode : List Driver → Node → Option Activity → Type 0
  OfNode rack n o = Fine rack n.hw n.compat n.stack o

  abbrev Each : List Driver → List Node → List Activity → Type 0
  Each rack nodes activities = (k : ℕ) (n : Node) → k ≢ 0 → node_at k nodes ≡ Some n → OfNode rack n (activity_at k activities)

  -- Racks change so that names are found as before -----------------------------------------------------------------

  choice_still : (old new : List Driver) → Finds old new → (hw compat : List Text) (ds : List ℕ) → HasChoice settings old hw compat ds → HasChoice settings new hw compat ds
  choice_still old new finds hw compat ds h =
      record {
        choice = h.choice;
        best = h.best;
        service = h.service;
        has_service = h.has_service;
        lower = h.lower;
        own = h.own;
        upper = h.upper;
        lower_are = numbered_still old new finds h.choice.lower h.lower h.lower_are;
        own_is = finds.found h.service h.own h.own_is;
        upper_are = numbered_still old new finds h.choice.upper h.upper h.upper_are;
        all = h.all;
      }

  phase_still : (old new : List Driver) → Finds old new → (hw compat : List Text) (stack : List ℕ) (phase : Phase) → InPhase old hw compat stack phase → InPhase new hw compat stack phase
  phase_still old new finds hw compat stack (Adding ds) h = choice_still old new finds hw compat (stack ++ ds) h
  phase_still old new finds hw compat stack Searching h = choice_still old new finds hw compat stack h
  phase_still old new finds hw compat stack (Starting w) h = choice_still old new finds hw compat stack h
  phase_still old new finds hw compat stack (Removing w) h = tt
  phase_still old new finds hw compat stack (Due problem) h = tt

  fine_still : (old new : List Driver) → Finds old new → (n : Node) (o : Option Activity) → OfNode old n o → OfNode new n o
  fine_still old new finds n None h = λ some. choice_still old new finds n.hw n.compat n.stack (h some)
  fine_still old new finds n (Some a) h = phase_still old new finds n.hw n.compat n.stack a.phase h

  -- those that are still to be added, or the search where there are none
  of_adding : (rack : List Driver) (hw compat : List Text) (stack ds : List ℕ) → HasChoice settings rack hw compat (stack ++ ds) → InPhase rack hw compat stack (st.adding ds)
  of_adding rack hw compat stack [] h = subst (HasChoice settings rack hw compat) (nil_end stack) h
  of_adding rack hw compat stack (d ∷ ds) h = h

  completed : (rack : List Driver) (hw compat : List Text) (stack : List ℕ) (answer : Answer) (phase : Phase) → InPhase rack hw compat stack phase → InPhase rack hw compat stack (completed_phase answer phase)
  completed rack hw compat stack answer (Adding ds) h = h
  completed rack hw compat stack answer Searching h = h
  completed rack hw compat stack answer (Starting w) h = h
  completed rack hw compat stack answer (Removing w) h = tt
  completed rack hw compat stack answer (Due problem) h = tt

  -- One device changes, or its start does ---------------------------------------------------------------------------

  module _ (rack : List Driver) (nodes : List Node) (activities now : List Activity) (each : Each rack nodes activities) (j : ℕ) (others : (k : ℕ) → j ≢ k → activity_at k now ≡ activity_at k activities) where
    moved : (f : Node → Node) → ((x : Node) → (f x).serial ≡ x.serial) → ((x : Node) → j ≢ 0 → node_at j nodes ≡ Some x → OfNode rack (f x) (activity_at j now)) → Each rack (changed_first (is_node j) f nodes) now
    moved f serial own k n up at =
        elim (node_from j k f nodes n serial at) [
          | inl (e, (x, q, r)) ↦
              let up_too : j ≢ 0 = λ z. up (sym e ∙ z) in
              let here = own x up_too (subst (λ (i : ℕ). node_at i nodes ≡ Some x) (sym e) q) in
              subst (λ (i : ℕ). OfNode rack n (activity_at i now)) e (subst (λ (z : Node). OfNode rack z (activity_at j now)) (sym r) here)
          | inr (d, q) ↦ subst (λ (o : Option Activity). OfNode rack n o) (sym (others k d)) (each k n up q)
        ]

    -- the nodes stay
    stayed : ((x : Node) → j ≢ 0 → node_at j nodes ≡ Some x → OfNode rack x (activity_at j now)) → Each rack nodes now
    stayed own = subst (λ (ns : List Node). Each rack ns now) (changed_none (is_node j) nodes) (moved (λ (x : Node). x) (λ x. refl) own)

  -- beside a move the devices stay as it left them
  same_core : (k : ℕ) (phase : Phase) (beside : st.StartBeside) (t : State) → (ma.after_start k phase beside t).core.nodes ≡ t.core.nodes
  same_core k phase st.StartBeside.On t = refl
  same_core k phase st.StartBeside.Needs t = refl
  same_core k phase st.StartBeside.Up t = refl
  same_core k phase st.StartBeside.Over t = refl

  -- Where no operation runs ---------------------------------------------------------------------------------------------

  module _ (s : State) (none : s.operation ≡ None) (good : IsGood s) (each : Each s.core.rack s.core.nodes s.activities) where
    abbrev P : Step → Type 0
    P step = Each s.core.rack step.state.core.nodes step.state.activities

    module _ (n : Node) (at : node_at n.serial s.core.nodes ≡ Some n) where
      abbrev k : ℕ
      k = n.serial

      -- a device in NoStack has no drivers
      troubled : (problem : Problem) → P (tk.begin_trouble s n problem)
      troubled problem = moved s.core.rack s.core.nodes s.activities s.activities each k (λ i d. refl) (with_problem (Some problem)) (λ x. refl) (λ x up here. each k x up here)

      module _ (free : activity_at k s.activities ≡ None) (state : n.state ≡ NoStack) where
        installs : (rank driver : ℕ) (drivers : List ℕ) → HasChoice settings s.core.rack n.hw n.compat drivers → P (tk.install s n rank driver drivers)
        installs rank driver drivers h =
            let new : Activity = record { serial = k; phase = st.adding drivers } in
            moved s.core.rack s.core.nodes s.activities (entered new s.activities) each k (λ i d. entered_other new i s.activities d) (with_problem None) (λ x. refl)
            (λ x up here.
            let is : x ≡ n = some_same (node_at k s.core.nodes) x n here at in
            let empty : n.stack ≡ [] = (good.stacks k n at).none state in
            subst (λ (o : Option Activity). Fine s.core.rack x.hw x.compat x.stack o) (sym (entered_same new s.activities free))
            (subst (λ (z : Node). InPhase s.core.rack z.hw z.compat z.stack (st.adding drivers)) (sym is)
            (subst (λ (ds : List ℕ). InPhase s.core.rack n.hw n.compat ds (st.adding drivers)) (sym empty) (of_adding s.core.rack n.hw n.compat [] drivers h))))

        installs_named : (choice : Choice) (service : Text) → settings.best n.hw n.compat ≡ Some choice → choice.service ≡ Some service → (lower : Option (List ℕ)) (driver : Option ℕ) (upper : Option (List ℕ))
            → tk.numbered s.core.rack choice.lower ≡ lower → driver_named service s.core.rack ≡ driver → tk.numbered s.core.rack choice.upper ≡ upper → P (tk.install_named s n choice.rank lower driver upper)
        installs_named choice service best has (Some lower) (Some driver) (Some upper) a b c =
            installs choice.rank driver (lower ++ driver ∷ upper)
            (record { choice = choice; best = best; service = service; has_service = has; lower = lower; own = driver; upper = upper; lower_are = a; own_is = b; upper_are = c; all = refl })
        installs_named choice service best has (Some lower) (Some driver) None a b c = troubled Problem.LoadFailed
        installs_named choice service best has (Some lower) None upper a b c = troubled Problem.LoadFailed
        installs_named choice service best has None driver upper a b c = troubled Problem.LoadFailed

        installs_few : (choice : Choice) (service : Text) → settings.best n.hw n.compat ≡ Some choice → choice.service ≡ Some service → (few : Bool) → P (tk.install_few s n choice service few)
        installs_few choice service best has true = installs_named choice service best has (tk.numbered s.core.rack choice.lower) (driver_named service s.core.rack) (tk.numbered s.core.rack choice.upper) refl refl refl
        installs_few choice service best has false = troubled Problem.FailedInstall

        installs_service : (choice : Choice) (o : Option Text) → settings.best n.hw n.compat ≡ Some choice → choice.service ≡ o → P (tk.install_service s n choice o)
        installs_service choice None best e = troubled Problem.FailedInstall
        installs_service choice (Some service) best e = installs_few choice service best e (nat_le (length choice.lower + 1 + length choice.upper) 16)

        installs_best : (o : Option Choice) → settings.best n.hw n.compat ≡ o → P (tk.install_best s n o)
        installs_best None e = troubled Problem.FailedInstall
        installs_best (Some choice) e = installs_service choice choice.service e refl

        starts_enabled : (disabled : Bool) → P (tk.start_enabled settings s n disabled)
        starts_enabled true = troubled Problem.Disabled
        starts_enabled false = installs_best (settings.best n.hw n.compat) refl

      starts_idle : (o : Option Activity) → n.state ≡ NoStack → activity_at k s.activities ≡ o → P (tk.start_idle settings s n o)
      starts_idle (Some a) state e = each
      starts_idle None state e = starts_enabled e state (has_same n.path s.disabled)

      starts_bare : (x : DevState) → n.state ≡ x → P (tk.start_bare settings s n x)
      starts_bare NoStack e = starts_idle (activity_at k s.activities) e refl
      starts_bare _ e = each

      -- a start goes on

      abbrev Q : st.StartMove → Type 0
      Q m = P (ma.start_lifted s k m)

      module _ (phase : Phase) (acting : Acting s k phase) where
        had : InPhase s.core.rack n.hw n.compat n.stack phase
        had =
            let here = acting_at s k phase good.order acting in
            let up = (acting_fits s k n phase at acting good).0 in
            subst (λ (x : Phase). InPhase s.core.rack n.hw n.compat n.stack x) here.is (subst (λ (o : Option Activity). OfNode s.core.rack n o) here.at (each k n up at))

        -- on: it is so in the next phase
        goes_on : (f : Node → Node) (m : st.StartMove) → ((x : Node) → (f x).serial ≡ x.serial) → m.core.nodes ≡ changed_first (is_node k) f s.core.nodes → m.beside ≡ st.StartBeside.On → InPhase s.core.rack (f n).hw (f n).compat (f n).stack m.frame → Q m
        goes_on f m serial nodes on h =
            let here = acting_at s k phase good.order acting in
            let now = changed_first (is_activity k) (with_phase m.frame) s.activities in
            let set : activity_at k now ≡ Some (with_phase m.frame here.activity) = phase_set_same k m.frame s.activities ∙ ap (option_map (with_phase m.frame)) here.at in
            let all : Each s.core.rack (changed_first (is_node k) f s.core.nodes) now =
            moved s.core.rack s.core.nodes s.activities now each k (λ i d. phase_set_other k i m.frame s.activities d) f serial
            (λ x up there.
            subst (λ (o : Option Activity). OfNode s.core.rack (f x) o) (sym set)
            (subst (λ (z : Node). InPhase s.core.rack (f z).hw (f z).compat (f z).stack m.frame) (sym (some_same (node_at k s.core.nodes) x n there at)) h)) in
            subst (λ (b : st.StartBeside). Each s.core.rack (ma.after_start k m.frame b (record s { core = m.core })).core.nodes (ma.after_start k m.frame b (record s { core = m.core })).activities) (sym on) (subst (λ (ns : List Node). Each s.core.rack ns now) (sym nodes) all)

        -- over: it is so with nothing under way
        is_over : (f : Node → Node) (m : st.StartMove) → ((x : Node) → (f x).serial ≡ x.serial) → m.core.nodes ≡ changed_first (is_node k) f s.core.nodes → (ma.after_start k m.frame m.beside (record s { core = m.core })).activities ≡ without_first (is_activity k) s.activities
            → ((f n).stack ≢ [] → HasChoice settings s.core.rack (f n).hw (f n).compat (f n).stack) → Q m
        is_over f m serial nodes off h =
            let now = without_first (is_activity k) s.activities in
            let all : Each s.core.rack (changed_first (is_node k) f s.core.nodes) now =
            moved s.core.rack s.core.nodes s.activities now each k (λ i d. ended_other k i s.activities d) f serial
            (λ x up there.
            subst (λ (o : Option Activity). OfNode s.core.rack (f x) o) (sym (ended_same 0 k s.activities good.order))
            (subst (λ (z : Node). (f z).stack ≢ [] → HasChoice settings s.core.rack (f z).hw (f z).compat (f z).stack) (sym (some_same (node_at k s.core.nodes) x n there at)) h)) in
            subst (λ (acts : List Activity). Each s.core.rack (ma.after_start k m.frame m.beside (record s { core = m.core })).core.nodes acts) (sym off)
            (subst (λ (ns : List Node). Each s.core.rack ns now) (sym (same_core k m.frame m.beside (record s { core = m.core }) ∙ nodes)) all)

        same_nodes : s.core.nodes ≡ changed_first (is_node k) (λ (x : Node). x) s.core.nodes
        same_nodes = sym (changed_none (is_node k) s.core.nodes)

        on_same : (m : st.StartMove) → m.core.nodes ≡ s.core.nodes → m.beside ≡ st.StartBeside.On → InPhase s.core.rack n.hw n.compat n.stack m.frame → Q m
        on_same m nodes on h = goes_on (λ (x : Node). x) m (λ x. refl) (nodes ∙ same_nodes) on h

      adds : (d : ℕ) (ds : List ℕ) → Acting s k (Adding (d ∷ ds)) → (answer : Answer) → Q (st.add_driver (core_after s.core AskWhat.Add n.path d) n d ds answer)
      adds d ds acting Ok =
          goes_on (Adding (d ∷ ds)) acting (with_stack (n.stack ++ d ∷ []) (stacked n.state)) (st.add_driver (core_after s.core AskWhat.Add n.path d) n d ds Ok) (λ x. refl) refl refl
          (of_adding s.core.rack n.hw n.compat (n.stack ++ d ∷ []) ds (subst (HasChoice settings s.core.rack n.hw n.compat) (sym (one_end n.stack d ds)) (had (Adding (d ∷ ds)) acting)))
      adds d ds acting Fail = on_same (Adding (d ∷ ds)) acting (st.add_driver (core_after s.core AskWhat.Add n.path d) n d ds Fail) refl refl tt
      adds d ds acting Pend = on_same (Adding (d ∷ ds)) acting (st.add_driver (core_after s.core AskWhat.Add n.path d) n d ds Pend) refl refl tt

      searches : (phase : Phase) → Acting s k phase → HasChoice settings s.core.rack n.hw n.compat n.stack → (found : Found) → Q (st.searched s.core n found)
      searches phase acting h (assignment plan) = goes_on phase acting (with_holds (st.own_part plan)) (st.searched s.core n (assignment plan)) (λ x. refl) refl refl h
      searches phase acting h no_fit = is_over phase acting (λ (x : Node). x) (st.searched s.core n no_fit) (λ x. refl) (same_nodes phase acting) refl (λ some. h)
      searches phase acting h spent = on_same phase acting (st.searched s.core n spent) refl refl tt

      starts_on : (w : Walk) → Acting s k (Starting w) → (over bad : Bool) → is_bad w ≡ bad → Q (st.start_on s.core n w over)
      starts_on w acting true bad e = subst (λ (b : Bool). Q (st.end_start s.core n b)) (sym e) (by_bad bad)
        where
          by_bad : (bad : Bool) → Q (st.end_start s.core n bad)
          by_bad true = goes_on (Starting w) acting (with_state n.state) (st.end_start s.core n true) (λ x. refl) refl refl tt
          by_bad false = is_over (Starting w) acting (with_state Started) (st.end_start s.core n false) (λ x. refl) refl refl (λ some. had (Starting w) acting)
      starts_on w acting false bad e = on_same (Starting w) acting (st.start_on s.core n w false) refl refl (had (Starting w) acting)

      removes_on : (w : Walk) → Acting s k (Removing w) → (over : Bool) → Q (st.remove_on s.core n w over)
      removes_on w acting true = is_over (Removing w) acting bare (st.remove_on s.core n w true) (λ x. refl) refl refl (λ some. absurd (some refl))
      removes_on w acting false = on_same (Removing w) acting (st.remove_on s.core n w false) refl refl tt

      undoes : (problem : Problem) → Acting s k (Due problem) → (stack : List ℕ) → n.stack ≡ stack → Q (st.undo (set_problem k (Some problem) s.core) n problem stack)
      undoes problem acting [] e = is_over (Due problem) acting (with_problem (Some problem)) (st.undo (set_problem k (Some problem) s.core) n problem []) (λ x. refl) refl refl (λ some. absurd (some e))
      undoes problem acting (d ∷ ds) e = goes_on (Due problem) acting (with_problem (Some problem)) (st.undo (set_problem k (Some problem) s.core) n problem (d ∷ ds)) (λ x. refl) refl refl tt

      acts_on : (phase : Phase) → Acting s k phase → AllBy settings.budget P (doing_map (ma.start_lifted s k) (st.act s.core n phase))
      acts_on (Adding []) acting = λ found answer. searches (Adding []) acting (subst (HasChoice settings s.core.rack n.hw n.compat) (nil_end n.stack) (had (Adding []) acting)) found
      acts_on (Adding (d ∷ ds)) acting = adds d ds acting (rack_reply AskWhat.Add n.path s.core.rack d)
      acts_on Searching acting = λ found answer. searches Searching acting (had Searching acting) found
      acts_on (Starting w) acting = starts_on w acting (has_ended w (length n.stack)) (is_bad w) refl
      acts_on (Removing w) acting = removes_on w acting (has_ended w (length n.stack))
      acts_on (Due problem) acting = undoes problem acting n.stack refl

    -- a device that joins has no drivers, and nothing is under way for it
    joins : (n : Node) (d : Device) → P (tk.join_step s n d)
    joins n d j m up at =
        elim (joined_from j s.core.nodes (new_child n.serial d s) m at) [
          | inl old ↦ each j m up old
          | inr (gone, is, own) ↦ subst (λ (x : Node). OfNode s.core.rack x (activity_at j s.activities)) (sym is) (by_start (activity_at j s.activities) refl gone)
        ]
      where
        by_start : (o : Option Activity) → activity_at j s.activities ≡ o → node_at j s.core.nodes ≡ None → OfNode s.core.rack (new_child n.serial d s) o
        by_start None e gone = λ some. absurd (some refl)
        by_start (Some a) e gone = absurd (let there = (good.phases j a e).1 in cc)

    lists_on : (n : Node) (o : Option Device) → P (tk.join_or_on s n o)
    lists_on n (Some d) = joins n d
    lists_on n None = by_child (tk.gone_child s n.serial)
      where
        by_child : (o : Option Node) → P (tk.gone_or_listed s n o)
        by_child None = each
        by_child (Some child) = each

    lists_up : (n : Node) (x : DevState) → P (tk.list_up s n x)
    lists_up n Started = lists_on n (tk.joining n.born s.core.nodes s.world)
    lists_up n _ = each

    lists : (j : ℕ) (o : Option Node) → P (tk.list_step s j o)
    lists j None = each
    lists j (Some n) = lists_up n n.state

    starts : (j : ℕ) (o : Option Node) → node_at j s.core.nodes ≡ o → P (tk.start_step settings s j o)
    starts j None e = each
    starts j (Some n) e = starts_bare n (found_self j s.core.nodes n e) n.state refl

    -- a begin changes neither devices nor starts
    begins : (kind : OpKind) (j : ℕ) (o : Option Node) → P (tk.begin_step s kind j o)
    begins kind j None = each
    begins OpKind.Rebalance j (Some n) = by_state n.state
      where
        by_start : (o : Option Activity) → P (tk.rebalance_idle s n o)
        by_start (Some a) = each
        by_start None = each

        by_state : (x : DevState) → P (tk.rebalance_task s n x)
        by_state NotStarted = by_start (activity_at n.serial s.activities)
        by_state _ = each
    begins OpKind.Disable j (Some n) = by_test (has_same n.path s.disabled)
      where
        by_test : (b : Bool) → P (tk.disable_task s n b)
        by_test true = each
        by_test false = each
    begins OpKind.Eject j (Some n) = each
    begins OpKind.Surprise j (Some n) = by_state n.state
      where
        by_state : (x : DevState) → P (tk.surprise_task s n x)
        by_state SurpriseRemoved = each
        by_state _ = each
    begins OpKind.Finish j (Some n) = by_test (is_ready_device s.core s.handles n)
      where
        by_test : (b : Bool) → P (tk.finish_task s n b)
        by_test true = each
        by_test false = each
    begins OpKind.Change j (Some n) = by_state n.state
      where
        by_device : (o : Option Device) → P (tk.change_born s n o)
        by_device None = each
        by_device (Some d) = each

        by_state : (x : DevState) → P (tk.change_task s n x)
        by_state Started = by_device (device_born n.born s.world)
        by_state _ = each

    begins_alone : (kind : OpKind) (j : ℕ) (activities : List Activity) → AllNext settings.budget P (ma.begin_alone s kind j activities)
    begins_alone kind j [] = begins kind j (node_at j s.core.nodes)
    begins_alone kind j (a ∷ activities) = tt

    does_task : (kind : Duty) (j : ℕ) → AllNext settings.budget P (ma.task_of settings s kind j)
    does_task Duty.Listing j = lists j (node_at j s.core.nodes)
    does_task Duty.Starting j = starts j (node_at j s.core.nodes) refl
    does_task (Duty.Begins kind) j = begins_alone kind j s.activities

    does_first : (o : Option Task) → AllNext settings.budget P (ma.task_next settings s o)
    does_first None = tt
    does_first (Some task) = does_task task.kind task.serial

    activity_next : (a : Activity) (o : Option Node) → find ma.is_ready s.activities ≡ Some a → node_at a.serial s.core.nodes ≡ o → AllNext settings.budget P (ma.activity_next s a o)
    activity_next a None ready e = tt
    activity_next a (Some n) ready e =
        acts_on n (found_self a.serial s.core.nodes n e) a.phase (record { none = none; activity = a; ready = ready; own = sym (own_serial a.serial n s.core.nodes e); is = refl })

    idle_next : (o : Option Activity) → find ma.is_ready s.activities ≡ o → AllNext settings.budget P (ma.idle_next settings s o)
    idle_next (Some a) ready = activity_next a (node_at a.serial s.core.nodes) ready refl
    idle_next None ready = does_first (slice_get s.tasks 0)

    idle_each : (step : Step) → ma.IsStep settings (ma.next settings s) step → P step
    idle_each step is =
        all_step P settings (ma.next_of settings s None) step (idle_next (find ma.is_ready s.activities) refl) (subst (λ (x : Option Job). ma.IsStep settings (ma.next_of settings s x) step) none is)

  -- Where an operation runs ---------------------------------------------------------------------------------------------

  module _ (s : State) (label : Label) (t : State) (o : Job) (runs : s.operation ≡ Some o) (old : IsGood s) (now : IsGood t) (goes : Goes settings s (Did label) t) (each : Each s.core.rack s.core.nodes s.activities) where
    -- nothing is being started
    idle : s.activities ≡ []
    idle = subst (λ (x : Option Job). Alone x s.activities) runs old.alone

    abbrev effect : Effect s (Did label) t
    effect = effect_goes settings s (Did label) t goes

    was : (k : ℕ) (x : Node) → k ≢ 0 → node_at k s.core.nodes ≡ Some x → x.stack ≢ [] → HasChoice settings s.core.rack x.hw x.compat x.stack
    was k x up at = subst (λ (acts : List Activity). OfNode s.core.rack x (activity_at k acts)) idle (each k x up at)

    is_now : (k : ℕ) (n : Node) → k ≢ 0 → Origin s label t k n → n.stack ≢ [] → HasChoice settings s.core.rack n.hw n.compat n.stack
    is_now k n up (Origin.was x at) = was k x up at
    is_now k _ up (Origin.walked x minor w bad at request other ends verdict prints) = was k x up at
    is_now k _ up (Origin.troubled x problem at) = was k x up at
    is_now k _ up (Origin.stacks x d ds name at acts prints) = absurd (let z = sym acts.none ∙ runs in cc)
    is_now k _ up (Origin.assigned x phase plan at acts search part since) = was k x up at
    is_now k _ up (Origin.stripped x w at request prints) = λ some. absurd (some refl)
    is_now k _ up (Origin.commits r x by course at_stage at) = was k x up at
    is_now k _ up (Origin.joins node d below gone own) = λ some. absurd (some refl)

    fine : (k : ℕ) (n : Node) → k ≢ 0 → node_at k t.core.nodes ≡ Some n → n.stack ≢ [] → HasChoice settings s.core.rack n.hw n.compat n.stack
    fine k n up at = is_now k n up (origin s label t old.serials k n effect.nodes at)

    none_now : t.activities ≡ [] → Each s.core.rack t.core.nodes t.activities
    none_now e k n up at = subst (λ (acts : List Activity). OfNode s.core.rack n (activity_at k acts)) (sym e) (fine k n up at)

    -- no task is dropped while an operation runs
    keeps_task : (task : Task) → slice_get s.tasks 0 ≡ Some task → t.tasks ≡ drop 1 s.tasks → TaskEffect s t → ⊥
    keeps_task task first less effect_is = by_effect effect_is
      where
        long : length s.tasks ≡ suc (length (drop 1 s.tasks))
        long = ap length (first_is s.tasks task first)

        short : length t.tasks ≡ length (drop 1 s.tasks)
        short = ap length less

        more : (new : Task) → t.tasks ≡ s.tasks ++ new ∷ [] → ⊥
        more new e = let a = ap length e ∙ length-append s.tasks (new ∷ []) in let b = long in let c = short in omega arith

        by_effect : TaskEffect s t → ⊥
        by_effect (TaskEffect.same e) = let a = ap length e in let b = long in let c = short in omega arith
        by_effect (TaskEffect.appended new why e) = more new e
        by_effect (TaskEffect.joins serial e) = more _ e
        by_effect (TaskEffect.dropped other none at why e) = let z = sym none ∙ runs in cc
        by_effect (TaskEffect.put_first node r by course stage at e) = let a = ap length e in let b = long in let c = short in omega arith

    entered_one : (k : ℕ) (phase : Phase) → Enters s k t phase → (n : Node) → k ≢ 0 → node_at k t.core.nodes ≡ Some n → activity_at k t.activities ≡ Some (let a : Activity = record { serial = k; phase = phase } in a) → InPhase s.core.rack n.hw n.compat n.stack phase
    entered_one k _ (Enters.installs drivers chosen less nodes) n up at here = absurd (keeps_task (record { kind = Duty.Starting; serial = k }) chosen.first less effect.tasks)
    entered_one k _ (Enters.restarts r plan by course wanted stage target found nodes) n up at here =
        fine k n up at (λ empty.
        let there = now.phases k _ here in
        let is : there.0 ≡ n = some_same (node_at k t.core.nodes) there.0 n there.1 at in
        let state : n.state ≡ NotStarted = subst (λ (x : Node). x.state ≡ NotStarted) is there.3 in
        let none : n.state ≡ NoStack = (now.stacks k n at).some up empty in
        (let z = sym state ∙ none in cc))
    entered_one k _ (Enters.undoes r by course wanted target) n up at here = tt

    operates : Each s.core.rack t.core.nodes t.activities
    operates = by_effect effect.activities
      where
        by_enters : (j : ℕ) (phase : Phase) → Enters s j t phase → t.activities ≡ entered (record { serial = j; phase = phase }) s.activities → Each s.core.rack t.core.nodes t.activities
        by_enters j phase enters e k n up at =
            elim (cases_eq j k) [
              | inl same ↦
                  let a : Activity = record { serial = k; phase = phase } in
                  let free : activity_at k s.activities ≡ None = ap (activity_at k) idle in
                  let here : activity_at k t.activities ≡ Some a =
                  ap (activity_at k) e ∙ ap (λ (i : ℕ). activity_at k (entered (record { serial = i; phase = phase }) s.activities)) same ∙ entered_same a s.activities free in
                  subst (λ (o : Option Activity). OfNode s.core.rack n o) (sym here) (entered_one k phase (subst (λ (i : ℕ). Enters s i t phase) same enters) n up at here)
              | inr apart ↦
                  let none : activity_at k t.activities ≡ None = ap (activity_at k) e ∙ entered_other (record { serial = j; phase = phase }) k s.activities apart ∙ ap (activity_at k) idle in
                  subst (λ (o : Option Activity). OfNode s.core.rack n o) (sym none) (fine k n up at)
            ]

        by_effect : ActivityEffect s t → Each s.core.rack t.core.nodes t.activities
        by_effect (ActivityEffect.same e) = none_now (e ∙ idle)
        by_effect (ActivityEffect.enters j phase enters e) = by_enters j phase enters e
        by_effect (ActivityEffect.goes j was_in new step e) = none_now (e ∙ ap (changed_first (is_activity j) (with_phase new)) idle)
        by_effect (ActivityEffect.ends j phase acting over e) = absurd (let z = sym acting.none ∙ runs in cc)

  -- Events --------------------------------------------------------------------------------------------------------------

  after_event : (s : State) (label : Label) (t : State) → AnswerEffect s label t → Each s.core.rack s.core.nodes s.activities → Each s.core.rack t.core.nodes t.activities
  after_event s label t effect each = by_effect effect
    where
      with_both : (nodes : List Node) (acts : List Activity) → t.core.nodes ≡ nodes → t.activities ≡ acts → Each s.core.rack nodes acts → Each s.core.rack t.core.nodes t.activities
      with_both nodes acts e q h = subst (λ (xs : List Activity). Each s.core.rack t.core.nodes xs) (sym q) (subst (λ (ns : List Node). Each s.core.rack ns acts) (sym e) h)

      by_effect : AnswerEffect s label t → Each s.core.rack t.core.nodes t.activities
      by_effect (AnswerEffect.stays word nodes acts operation) = with_both s.core.nodes s.activities nodes acts each
      by_effect (AnswerEffect.answered word nodes acts ok o runs operation) = with_both s.core.nodes s.activities nodes acts each
      by_effect (AnswerEffect.answers word nodes j a ok at acts operation) =
          let phase = completed_phase (answer_of ok) a.phase in
          let now = changed_first (is_activity j) (with_phase phase) s.activities in
          let set : activity_at j now ≡ Some (with_phase phase a) = phase_set_same j phase s.activities ∙ ap (option_map (with_phase phase)) at in
          with_both s.core.nodes now nodes acts
          (stayed s.core.rack s.core.nodes s.activities now each j (λ k d. phase_set_other j k phase s.activities d)
          (λ x up there.
          subst (λ (o : Option Activity). OfNode s.core.rack x o) (sym set)
          (completed s.core.rack x.hw x.compat x.stack (answer_of ok) a.phase (subst (λ (o : Option Activity). OfNode s.core.rack x o) at (each j x up there)))))

  -- The run -------------------------------------------------------------------------------------------------------------

  abbrev AllChosen : State → Type 0
  AllChosen s = Each s.core.rack s.core.nodes s.activities

  module _ (rack : List Driver) where
    with_old : (s : State) (entry : Entry) (t : State) → IsReached settings rack s → AllChosen s → Goes settings s entry t → Each s.core.rack t.core.nodes t.activities
    with_old s (Happens event label) t reached each goes = after_event s label t (effect_goes settings s (Happens event label) t goes).operation each
    with_old s (Declines label) t reached each goes = subst (λ (x : State). Each s.core.rack x.core.nodes x.activities) (sym goes.dropped) each
    with_old s (Did label) t reached each goes = by_operation s.operation refl
      where
        by_operation : (o : Option Job) → s.operation ≡ o → Each s.core.rack t.core.nodes t.activities
        by_operation None none = idle_each s none (reaches_kept settings rack reached.0 s reached.1).good each (record { label = label; state = t }) goes
        by_operation (Some o) runs =
            let next = reached_on settings rack s (Did label) t reached goes in
            operates s label t o runs (reaches_kept settings rack reached.0 s reached.1).good (reaches_kept settings rack next.0 t next.1).good goes each

    chosen_goes : (s : State) (entry : Entry) (t : State) → IsReached settings rack s → AllChosen s → Goes settings s entry t → AllChosen t
    chosen_goes s entry t reached each goes k n up at =
        fine_still s.core.rack t.core.rack (finds_goes settings s entry t goes) n (activity_at k t.activities) (with_old s entry t reached each goes k n up at)

    chosen_at : (s : State) → IsReached settings rack s → AllChosen s
    chosen_at s reached = kept AllChosen settings rack (λ a entry b there each goes. chosen_goes a entry b there each goes) (λ k n up at. absurd (up (root_is k n at).1)) s reached

-- as many drivers as names
numbered_length : (rack : List Driver) (names : List Text) (ks : List ℕ) → tk.numbered rack names ≡ Some ks → length ks ≡ length names
numbered_length rack [] ks e = let is : [] ≡ ks = cc in ap length (sym is)
numbered_length rack (name ∷ names) ks e = by_parts (driver_named name rack) (tk.numbered rack names) refl e (λ ds q. numbered_length rack names ds q)
  where
    by_parts : (a : Option ℕ) (b : Option (List ℕ)) → tk.numbered rack names ≡ b → tk.numbered_more a b ≡ Some ks → ((ds : List ℕ) → tk.numbered rack names ≡ Some ds → length ds ≡ length names) → length ks ≡ suc (length names)
    by_parts None b q h more = absurd (cc)
    by_parts (Some d) None q h more = absurd (cc)
    by_parts (Some d) (Some ds) q h more = let is : d ∷ ds ≡ ks = cc in ap length (sym is) ∙ ap suc (more ds q)

-- where nothing is being started
pub is_chosen : (settings : Settings) (rack : List Driver) (s : State) (n : Node) → IsReached settings rack s → s.activities ≡ [] → n.serial ≢ 0 → node_at n.serial s.core.nodes ≡ Some n → n.stack ≢ [] → IsChosen settings s.core.rack n n.stack
is_chosen settings rack s n reached idle up at some =
    let h = subst (λ (acts : List Activity). Fine settings s.core.rack n.hw n.compat n.stack (activity_at n.serial acts)) idle (chosen_at settings rack s reached n.serial n up at) some in
    let lower = numbered_length s.core.rack h.choice.lower h.lower h.lower_are in
    let upper = numbered_length s.core.rack h.choice.upper h.upper h.upper_are in
    let long = ap length h.all ∙ length-append h.lower (h.own ∷ h.upper) in
    let few = (stacks_fit settings rack reached.0 s reached.1).few n.serial n at in
    record {
      choice = h.choice;
      best = h.best;
      service = h.service;
      has_service = h.has_service;
      few = grind (arith, nat_tests);
      lower = h.lower;
      own = h.own;
      upper = h.upper;
      lower_are = h.lower_are;
      own_is = h.own_is;
      upper_are = h.upper_are;
      all = h.all;
    }
