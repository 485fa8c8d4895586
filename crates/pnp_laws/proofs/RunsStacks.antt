-- In each state of a run stacks are short and of named drivers, and paths are apart up to ASCII case.
use Rattle.std.proofs.Common.{ℕ, ◌+◌, ◌≤◌, ◌≡◌, ◌⊎◌, inl, inr, true, false, List, [], ◌∷◌, ◌++◌, length, Option, Some, None, refl, sym, ap, ◌∙◌, subst, arith, length-append}
use Rattle.std.specs.Option.{option_map}
use Rattle.std.proofs.lemmas.Slice.Eq.{bytes_eq-Decides}
use Rattle.device_ids.specs.Folding.{folded, same}
use Rattle.pnp_labels.specs.Texts.{Text}
use Rattle.pnp_labels.specs.declared.label.Label.{Label}
use Rattle.pnp_labels.specs.declared.words.Answer.{Answer}
use Rattle.pnp_model.specs.Books.{name_of, printed_name}
use Rattle.pnp_model.specs.Cores.{node_at}
use Rattle.pnp_model.specs.Events.{completed_phase}
use Rattle.pnp_model.specs.Frames.{next_driver}
use Rattle.pnp_model.specs.Keyed.{changed_first}
use Rattle.pnp_model.specs.Laws.{Reaches}
use Rattle.pnp_model.specs.Records.{Activity, Driver, Node, Phase, Settings, State}
use Rattle.pnp_model.specs.Records.Phase.{Adding}
use Rattle.pnp_model.specs.Runs.{Entry, Goes, printed, opening}
use Rattle.pnp_model.specs.Starts.{adding}
use Rattle.pnp_model.specs.States.{activity_at, is_activity, with_phase}
use Rattle.pnp_model.specs.Tasks.{has_path, joins}
use Rattle.pnp_model.specs.Walks.{place_of}
use Rattle.pnp_laws.specs.Effects.{ActivityEffect, Acting, Chosen, DriverEffect, Enters, IsUnasked, NodeEffect, PhaseStep}
use Rattle.pnp_laws.specs.Keys.{FoldedApart, NodesAreKeyedLaw}
use Rattle.pnp_laws.specs.Kept.{InOrder, IsGood}
use Rattle.pnp_laws.specs.Reached.{IsReached}
use Rattle.pnp_laws.specs.Stacks.{AllNamed, HasName, IsNamed, NamesDriver, NamesAreKnownLaw, StacksFitLaw}
use Rattle.pnp_laws.proofs.DriverNames.{MoreNames, chosen_named, more_names, named_append, named_at, named_more, place_below}
use Rattle.pnp_laws.proofs.EffectsOf.{effect_goes}
use Rattle.pnp_laws.proofs.EffectViews.{Origin, StartOrigin, acting_at, origin, start_origin}
use Rattle.pnp_laws.proofs.JoinMachine.{reaches_born}
use Rattle.pnp_laws.proofs.IdleSteps.{joins_is}
use Rattle.pnp_laws.proofs.Joins.{any_from}
use Rattle.pnp_laws.proofs.Lookups.{phase_set_same, some_same, find_passes}
use Rattle.pnp_laws.proofs.Reaching.{kept}
use Rattle.pnp_laws.proofs.Runs.{root_is}
use Rattle.pnp_laws.proofs.RunsStand.{reaches_kept}

-- What is kept -----------------------------------------------------------------------------------------

-- the drivers that are still to be added
abbrev phase_drivers : Phase → List ℕ
phase_drivers (Adding drivers) = drivers
phase_drivers _ = []

abbrev to_add : Option Activity → List ℕ
to_add None = []
to_add (Some a) = phase_drivers a.phase

-- the drivers of a device and those that are still to be added are few, and all have names
abbrev Fits : List Driver → List ℕ → List ℕ → Type 0
Fits rack stack ds = (length stack + length ds ≤ 16) × AllNamed rack stack × AllNamed rack ds

record Stacked (s : State) : Type 0 where
  fits : (k : ℕ) (n : Node) → node_at k s.core.nodes ≡ Some n → Fits s.core.rack n.stack (to_add (activity_at k s.activities))
  paths : FoldedApart s.core.nodes

fits_more : (old new : List Driver) (stack ds : List ℕ) → MoreNames old new → Fits old stack ds → Fits new stack ds
fits_more old new stack ds more h = (h.0, named_more old new stack more h.1, named_more old new ds more h.2)

-- What is still to be added ------------------------------------------------------------------------------

-- as before, or nothing; the first was added; or drivers were chosen
data Remains (s : State) (k : ℕ) : List ℕ → Type 0 where
  was : Remains s k (to_add (activity_at k s.activities))
  nothing : Remains s k []
  added : (d : ℕ) (ds : List ℕ) → to_add (activity_at k s.activities) ≡ d ∷ ds → Remains s k ds
  installs : (drivers : List ℕ) → Chosen s k drivers → Remains s k drivers

adding_all : (ds : List ℕ) → phase_drivers (adding ds) ≡ ds
adding_all [] = refl
adding_all (d ∷ ds) = refl

answered_adds : (answer : Answer) (phase : Phase) → phase_drivers (completed_phase answer phase) ≡ phase_drivers phase
answered_adds answer (Adding drivers) = refl
answered_adds answer _ = refl

acting_adds : (s : State) (k : ℕ) (phase : Phase) → InOrder 0 s.activities → Acting s k phase → to_add (activity_at k s.activities) ≡ phase_drivers phase
acting_adds s k phase order acts = let here = acting_at s k phase order acts in ap to_add here.at ∙ ap phase_drivers here.is

module _ (s t : State) (order : InOrder 0 s.activities) where
  remains_is : (k : ℕ) (xs ys : List ℕ) → xs ≡ ys → Remains s k xs → Remains s k ys
  remains_is k xs ys e h = subst (λ (ds : List ℕ). Remains s k ds) e h

  entered_adds : (k : ℕ) (phase : Phase) → Enters s k t phase → Remains s k (phase_drivers phase)
  entered_adds k phase (Enters.installs drivers chosen drops clears) = remains_is k drivers (phase_drivers (adding drivers)) (sym (adding_all drivers)) (Remains.installs drivers chosen)
  entered_adds k phase (Enters.restarts r plan runs course plain is target found nodes) = Remains.nothing
  entered_adds k phase (Enters.undoes r runs course plain target) = Remains.nothing

  gone_adds : (k : ℕ) (old new : Phase) → PhaseStep s k t old new → Remains s k (phase_drivers new)
  gone_adds k _ _ (PhaseStep.added d ds acts) = remains_is k ds (phase_drivers (adding ds)) (sym (adding_all ds)) (Remains.added d ds (acting_adds s k (Adding (d ∷ ds)) order acts))
  gone_adds k _ _ (PhaseStep.answered a ok at nodes) = remains_is k _ _ (ap to_add at ∙ sym (answered_adds _ a.phase)) Remains.was
  gone_adds k _ _ _ = Remains.nothing

  remains : (k : ℕ) (o : Option Activity) → StartOrigin s t k o → Remains s k (to_add o)
  remains k _ StartOrigin.was = Remains.was
  remains k _ (StartOrigin.enters a why free) = entered_adds k a.phase why
  remains k _ (StartOrigin.goes a old new at step) = gone_adds k old new step
  remains k _ (StartOrigin.ends phase acts over) = Remains.nothing

-- Where a node comes from -------------------------------------------------------------------------

data From (s : State) (label : Label) (k : ℕ) (m : Node) : Type 0 where
  was : (n : Node) → node_at k s.core.nodes ≡ Some n → m.path ≡ n.path → (m.stack ≡ n.stack) ⊎ (m.stack ≡ []) → From s label k m
  pushed : (n : Node) (d : ℕ) (ds : List ℕ) (path name : Text) → node_at k s.core.nodes ≡ Some n → m.path ≡ n.path → m.stack ≡ n.stack ++ d ∷ []
      → Acting s k (Adding (d ∷ ds)) → label ≡ Label.Add path name true → From s label k m
  joined : node_at k s.core.nodes ≡ None → s.next_serial ≡ k → has_path m.path s.core.nodes ≡ false → m.stack ≡ [] → From s label k m

by_origin : (s : State) (label : Label) (t : State) (k : ℕ) (m : Node) → Origin s label t k m → From s label k m
by_origin s label t k _ (Origin.stacks n d ds name at acts prints) = From.pushed n d ds n.path name at refl refl acts prints
by_origin s label t k _ (Origin.stripped n w at request prints) = From.was n at refl (inr refl)
by_origin s label t k _ (Origin.joins node d below gone own) = From.joined gone own (joins_is node.born s.core.nodes d (find_passes (joins node.born s.core.nodes) s.world d below)).2 refl
by_origin s label t k _ (Origin.was n at) = From.was n at refl (inl refl)
by_origin s label t k _ (Origin.walked n minor w bad at request other ends verdict prints) = From.was n at refl (inl refl)
by_origin s label t k _ (Origin.troubled n problem at) = From.was n at refl (inl refl)
by_origin s label t k _ (Origin.assigned n phase plan at acts search part now) = From.was n at refl (inl refl)
by_origin s label t k _ (Origin.commits r n runs course is at) = From.was n at refl (inl refl)

-- A step or an event --------------------------------------------------------------------------------

-- the path of a node that was there, or a new one
abbrev PathOf : State → ℕ → Text → Type 0
PathOf s k path = ((x : Node) × (node_at k s.core.nodes ≡ Some x) × (path ≡ x.path)) ⊎ ((s.next_serial ≡ k) × (has_path path s.core.nodes ≡ false))

module _ (s : State) (entry : Entry) (t : State) (good : IsGood s) (old : Stacked s) (drivers : DriverEffect s entry t) where
  more : MoreNames s.core.rack t.core.rack
  more = more_names s entry t drivers

  -- a device that was there, with the stack that it had, or none
  fits_still : (k : ℕ) (n : Node) (stack ds : List ℕ) → node_at k s.core.nodes ≡ Some n → (stack ≡ n.stack) ⊎ (stack ≡ []) → Remains s k ds → Fits s.core.rack stack ds
  fits_still k n stack ds at either rest = lighter either (of_rest ds rest)
    where
      lighter : (stack ≡ n.stack) ⊎ (stack ≡ []) → Fits s.core.rack n.stack ds → Fits s.core.rack stack ds
      lighter (inl e) h = subst (λ (x : List ℕ). Fits s.core.rack x ds) (sym e) h
      lighter (inr e) h = subst (λ (x : List ℕ). Fits s.core.rack x ds) (sym e) (let l = h.0 in omega arith, tt, h.2)

      of_rest : (es : List ℕ) → Remains s k es → Fits s.core.rack n.stack es
      of_rest _ Remains.was = old.fits k n at
      of_rest _ Remains.nothing = let h = old.fits k n at in (let l = h.0 in omega arith, h.1, tt)
      of_rest es (Remains.added d _ is) =
          let h = subst (λ (x : List ℕ). Fits s.core.rack n.stack x) is (old.fits k n at) in
          (let l = h.0 in omega arith, h.1, h.2.1)
      of_rest es (Remains.installs _ chosen) =
          let bare_state = subst (λ (x : Node). x.state ≡ _) (some_same (node_at k s.core.nodes) chosen.node n chosen.at at) chosen.bare in
          let named = chosen_named s k es chosen in
          subst (λ (x : List ℕ). Fits s.core.rack x es) (sym ((good.stacks k n at).none bare_state)) (let l = named.0 in omega arith, tt, named.1)

  -- nothing is to be added for a device that was not there
  none_new : (k : ℕ) (ds : List ℕ) → node_at k s.core.nodes ≡ None → Remains s k ds → ds ≡ []
  none_new k ds gone rest = of_rest ds rest
    where
      to_add_none : (o : Option Activity) → activity_at k s.activities ≡ o → to_add o ≡ []
      to_add_none None e = refl
      to_add_none (Some a) e = absurd (let phase = good.phases k a e in let at = phase.1 in cc)

      of_rest : (es : List ℕ) → Remains s k es → es ≡ []
      of_rest _ Remains.was = to_add_none (activity_at k s.activities) refl
      of_rest _ Remains.nothing = refl
      of_rest es (Remains.added d _ is) = absurd (let none = to_add_none (activity_at k s.activities) refl in cc)
      of_rest es (Remains.installs _ chosen) = absurd (let at = chosen.at in cc)

  -- where a driver is added, the others remain
  others_remain : (k d : ℕ) (ds : List ℕ) (path name : Text) → Acting s k (Adding (d ∷ ds)) → printed entry ≡ Label.Add path name true → to_add (activity_at k t.activities) ≡ ds
  others_remain k d ds path name acts adds = of_effect drivers
    where
      of_effect : DriverEffect s entry t → to_add (activity_at k t.activities) ≡ ds
      of_effect (DriverEffect.same unasked rack) = absurd (subst (λ (l : Label). IsUnasked l) adds unasked)
      of_effect (DriverEffect.ended node minor w bad at request ends verdict prints rack) = absurd (cc)
      of_effect (DriverEffect.asked node w shown at on prints rack) = absurd (cc)
      of_effect (DriverEffect.added node e es now prints rack activities) =
          let ready = acts.ready in
          let one : now.activity ≡ acts.activity = let other = now.ready in cc in
          let own : node.serial ≡ k = sym now.own ∙ ap (λ (a : Activity). a.serial) one ∙ acts.own in
          let phases : Adding (e ∷ es) ≡ Adding (d ∷ ds) = sym now.is ∙ ap (λ (a : Activity). a.phase) one ∙ acts.is in
          let rest : es ≡ ds = cc in
          let here = acting_at s k (Adding (d ∷ ds)) good.order acts in
          let set = subst (λ (i : ℕ). t.activities ≡ changed_first (is_activity i) (with_phase (adding es)) s.activities) own activities in
          ap (λ (x : List Activity). to_add (activity_at k x)) set ∙ ap to_add (phase_set_same k (adding es) s.activities)
          ∙ ap (λ (o : Option Activity). to_add (option_map (with_phase (adding es)) o)) here.at ∙ adding_all es ∙ rest
      of_effect (DriverEffect.refused node e es now prints rack) = absurd (cc)
      of_effect (DriverEffect.named kind own label is unasked rack) = absurd (subst (λ (l : Label). IsUnasked l) adds unasked)
      of_effect (DriverEffect.taught own rule unasked rack) = absurd (subst (λ (l : Label). IsUnasked l) adds unasked)

  module _ (activities : ActivityEffect s t) (k : ℕ) (m : Node) where
    rest : Remains s k (to_add (activity_at k t.activities))
    rest = remains s t good.order k (activity_at k t.activities) (start_origin s t good k activities)

    fits_from : From s (printed entry) k m → Fits s.core.rack m.stack (to_add (activity_at k t.activities))
    fits_from (From.was n at path stack) = fits_still k n m.stack _ at stack rest
    fits_from (From.pushed n d ds path name at own stack acts adds) =
        let h = subst (λ (x : List ℕ). Fits s.core.rack n.stack x) (acting_adds s k (Adding (d ∷ ds)) good.order acts) (old.fits k n at) in
        let l = h.0 in
        subst (λ (x : List ℕ). Fits s.core.rack m.stack x) (sym (others_remain k d ds path name acts adds))
        (subst (λ (x : List ℕ). Fits s.core.rack x ds) (sym stack)
        (omega (arith, length-append n.stack (d ∷ [])), named_append s.core.rack n.stack (d ∷ []) h.1 (h.2.0, tt), h.2.1))
    fits_from (From.joined gone own fresh stack) =
        subst (λ (x : List ℕ). Fits s.core.rack m.stack x) (sym (none_new k _ gone rest)) (subst (λ (x : List ℕ). Fits s.core.rack x []) (sym stack) (omega arith, tt, tt))

    path_from : From s (printed entry) k m → PathOf s k m.path
    path_from (From.was n at path stack) = inl (n, at, path)
    path_from (From.pushed n d ds path name at own stack acts adds) = inl (n, at, own)
    path_from (From.joined gone own fresh stack) = inr (own, fresh)

  -- paths that are the same
  same_turned : (a b : Text) → same a b ≡ true → same b a ≡ true
  same_turned a b h = (bytes_eq-Decides (folded b) (folded a)).1 (sym ((bytes_eq-Decides (folded a) (folded b)).0 h))

  path_there : (path : Text) (j : ℕ) (n : Node) → has_path path s.core.nodes ≡ false → node_at j s.core.nodes ≡ Some n → same n.path path ≡ true → ⊥
  path_there path j n fresh at h = let there = any_from (λ x. same x.path path) s.core.nodes j n at h in cc

  paths_of : (j k : ℕ) (a b : Text) → same a b ≡ true → PathOf s j a → PathOf s k b → j ≡ k
  paths_of j k a b h (inl (x, at, p)) (inl (y, there, q)) = old.paths j k x y at there (subst (λ (z : Text). same z y.path ≡ true) p (subst (λ (z : Text). same a z ≡ true) q h))
  paths_of j k a b h (inl (x, at, p)) (inr (own, fresh)) = absurd (path_there b j x fresh at (subst (λ (z : Text). same z b ≡ true) p h))
  paths_of j k a b h (inr (own, fresh)) (inl (y, there, q)) = absurd (path_there a k y fresh there (subst (λ (z : Text). same z a ≡ true) q (same_turned a b h)))
  paths_of j k a b h (inr (own, fresh)) (inr (own2, fresh2)) = sym own ∙ own2

  stacked_then : NodeEffect s (printed entry) t → ActivityEffect s t → Stacked t
  stacked_then nodes activities =
      let from_at : (k : ℕ) (m : Node) → node_at k t.core.nodes ≡ Some m → From s (printed entry) k m = λ k m at. by_origin s (printed entry) t k m (origin s (printed entry) t good.serials k m nodes at) in
      record {
        fits = λ k m at. fits_more s.core.rack t.core.rack m.stack _ more (fits_from activities k m (from_at k m at));
        paths = λ j k n m at there h. paths_of j k n.path m.path h (path_from activities j n (from_at j n at)) (path_from activities k m (from_at k m there));
      }

  -- Names that are printed ----------------------------------------------------------------------------

  unasked_names : (l : Label) → IsUnasked l → NamesDriver l t.core.rack
  unasked_names (Label.Asked minor path name shown) h = absurd h
  unasked_names (Label.Add path name ok) h = absurd h
  unasked_names _ h = tt

  name_printed : (rack : List Driver) (d : ℕ) → IsNamed rack d → HasName rack d (name_of rack d)
  name_printed rack d h = h.1 ∙ ap Some (sym (ap printed_name h.1))

  added_name : (k d : ℕ) (ds : List ℕ) → Acting s k (Adding (d ∷ ds)) → HasName t.core.rack d (name_of t.core.rack d)
  added_name k d ds acts =
      let here = acting_at s k (Adding (d ∷ ds)) good.order acts in
      let there = good.phases k here.activity here.at in
      let fits = subst (λ (x : List ℕ). Fits s.core.rack there.0.stack x) (acting_adds s k (Adding (d ∷ ds)) good.order acts) (old.fits k there.0 there.1) in
      let named = fits.2.0 in
      name_printed t.core.rack d (named.0, more d named.0 named.1)

  names_printed : DriverEffect s entry t → NamesDriver (printed entry) t.core.rack
  names_printed (DriverEffect.same unasked rack) = unasked_names (printed entry) unasked
  names_printed (DriverEffect.ended node minor w bad at request ends verdict prints rack) = subst (λ (l : Label). NamesDriver l t.core.rack) (sym prints) tt
  names_printed (DriverEffect.asked node w shown at on prints rack) =
      let d = next_driver node w in
      let named = named_at s.core.rack node.stack (place_of w.minor (length node.stack) w.asked) (old.fits node.serial node at).1 (place_below w (length node.stack) (on good.serials)) in
      subst (λ (l : Label). NamesDriver l t.core.rack) (sym prints) (d, more d (name_of s.core.rack d) (name_printed s.core.rack d named))
  names_printed (DriverEffect.added node d ds acts prints rack activities) = subst (λ (l : Label). NamesDriver l t.core.rack) (sym prints) (d, added_name node.serial d ds acts)
  names_printed (DriverEffect.refused node d ds acts prints rack) = subst (λ (l : Label). NamesDriver l t.core.rack) (sym prints) (d, added_name node.serial d ds acts)
  names_printed (DriverEffect.named kind name label is unasked rack) = unasked_names (printed entry) unasked
  names_printed (DriverEffect.taught name rule unasked rack) = unasked_names (printed entry) unasked

-- Runs ------------------------------------------------------------------------------------------------

stacked_goes : (settings : Settings) (rack : List Driver) (old : State) (entry : Entry) (new : State) → IsReached settings rack old → Stacked old → Goes settings old entry new → Stacked new
stacked_goes settings rack old entry new (entries, run) h goes =
    let effect = effect_goes settings old entry new goes in
    stacked_then old entry new (reaches_kept settings rack entries old run).good h effect.drivers effect.nodes effect.activities

opening_stacked : (rack : List Driver) → Stacked (opening rack)
opening_stacked rack =
    record {
      fits = λ k n at. subst (λ (x : Node). Fits rack x.stack []) (root_is k n at).0 (omega arith, tt, tt);
      paths = λ j k n m at there h. (root_is j n at).1 ∙ sym (root_is k m there).1;
    }

stacked_at : (settings : Settings) (rack : List Driver) (entries : List Entry) (s : State) → Reaches settings rack entries s → Stacked s
stacked_at settings rack entries s run = kept Stacked settings rack (stacked_goes settings rack) (opening_stacked rack) s (entries, run)

-- The laws -------------------------------------------------------------------------------------------

pub stacks_fit : StacksFitLaw
stacks_fit settings rack entries s run =
    let h = stacked_at settings rack entries s run in
    let good = (reaches_kept settings rack entries s run).good in
    record {
      few = λ k n at. (let l = (h.fits k n at).0 in omega arith);
      named = λ k n at. (h.fits k n at).1;
      empty = λ k n at up. let own = good.stacks k n at in (own.some up, own.none);
    }

pub keyed : NodesAreKeyedLaw
keyed settings rack entries s run =
    let all = reaches_kept settings rack entries s run in
    record {
      serials = record { begun = all.good.begun; ascending = all.good.serials; below = all.good.below };
      births = (reaches_born settings rack entries s run).apart;
      paths = (stacked_at settings rack entries s run).paths;
      parents = λ k n at up. let over = all.stands.tree.rooted k n at up in (over.1.0, over.1.1, over.0);
    }

pub names_are_known : NamesAreKnownLaw
names_are_known settings rack entries old entry new run goes =
    let effect = effect_goes settings old entry new goes in
    names_printed old entry new (reaches_kept settings rack entries old run).good (stacked_at settings rack entries old run) effect.drivers effect.drivers
