-- The same device gets the same drivers.
use Rattle.std.proofs.Common.{ℕ, ◌<◌, ◌≡◌, ◌==◌, ◌⊎◌, inl, inr, Bool, true, false, List, [], ◌∷◌, ◌++◌, get_or, Option, Some, None, refl, sym, ap, ap₂, ◌∙◌, subst, arith, if◌then◌else◌}
use Rattle.std.proofs.lemmas.Bool.Decides.{nat_tests}
use Rattle.std.proofs.lemmas.List.Quantifiers.{position-Some}
use Rattle.std.proofs.lemmas.Option.{slice_get-get_or}
use Rattle.std.proofs.lemmas.Slice.Eq.{bytes_eq-Decides}
use Rattle.device_ids.specs.Folding.{folded, same}
use Rattle.pnp_labels.specs.Texts.{Text}
use Rattle.pnp_labels.specs.declared.event.Event.{Event}
use Rattle.pnp_labels.specs.declared.label.Label.{Label}
use Rattle.pnp_model.specs.Books.{driver_named, is_named, name_is, name_of, name_or_none, printed_name}
use Rattle.pnp_model.specs.Cores.{node_at}
use Rattle.pnp_model.specs.Laws.{Reaches}
use Rattle.pnp_model.specs.Records.{Choice, Device, Driver, Node, Settings, State}
use Rattle.pnp_model.specs.Runs.{Entry, Goes, Run, opening, printed, root_path}
use Rattle.pnp_model.specs.Runs.Entry.{Happens, Did}
use Rattle.pnp_model.specs.States.{without_those}
use Rattle.pnp_model.specs.Tasks.{joins, numbered}
use Rattle.pnp_laws.specs.Effects.{NodeEffect, Plugged, WorldEffect}
use Rattle.pnp_laws.specs.Kept.{Ascending}
use Rattle.pnp_laws.specs.Reached.{IsReached}
use Rattle.pnp_laws.proofs.DriverNames.{found_named}
use Rattle.pnp_laws.proofs.EffectViews.{Origin, origin}
use Rattle.pnp_laws.proofs.EffectsOf.{effect_goes}
use Rattle.pnp_laws.proofs.JoinMachine.{reaches_born}
use Rattle.pnp_laws.proofs.JoinSteps.{in_find}
use Rattle.pnp_laws.proofs.Joins.{Born, In, in_changed, sub_in, sub_without}
use Rattle.pnp_laws.proofs.Lookups.{some_same}
use Rattle.pnp_laws.proofs.Reaching.{kept, kept_along, run_on}
use Rattle.pnp_laws.proofs.Runs.{root_is}
use Rattle.pnp_laws.proofs.RunsStand.{reaches_kept}
use Rattle.pnp_promises.specs.Lines.{Installed}
use Rattle.pnp_promises.proofs.Lines.{lines_mean_what_they_say}
use Rattle.pnp_pairs.specs.SameDrivers.{Adds, ChoiceHangsOnIdsLaw, IdsStayLaw, Installs, SameDeviceSameDriversLaw, SameIdsSameDriversLaw}
use Rattle.pnp_pairs.proofs.Places.{Finds, finds_run, numbered_still}

-- What is installed ---------------------------------------------------------------------------------------

module _ (settings : Settings) (rack : List Driver) where
  -- the line is of the device whose path it names
  installed : (entries : List Entry) (s : State) (n : Node) (rank : ℕ) (driver : Text) (t : State) → Reaches settings rack entries s → Installs settings s n rank driver t → Installed settings s n rank driver t
  installed entries s n rank driver t run installs =
      let (own, there, path, is) = lines_mean_what_they_say settings rack entries s (Label.Install n.path rank driver) t run installs.goes in
      let serial : own.serial ≡ n.serial = (reaches_kept settings rack entries s run).stands.tree.paths own.serial n.serial own n there installs.there path in
      let same : own ≡ n = some_same (node_at n.serial s.core.nodes) own n (subst (λ (k : ℕ). node_at k s.core.nodes ≡ Some own) serial there) installs.there in
      subst (λ (x : Node). Installed settings s x rank driver t) same is

  -- of the same choice, over racks of which one follows the other
  one_choice : (s t s_after t_after : State) (n m : Node) (rank again : ℕ) (driver name : Text) → Finds s.core.rack t.core.rack → (a : Installed settings s n rank driver s_after) (b : Installed settings t m again name t_after)
      → m.hw ≡ n.hw → m.compat ≡ n.compat → (again ≡ rank) × (name ≡ driver) × ((drivers : List ℕ) × Adds s n drivers s_after × Adds t m drivers t_after)
  one_choice s t s_after t_after n m rank again driver name finds a b hw compat =
      let choice : b.choice ≡ a.choice = some_same (settings.best m.hw m.compat) b.choice a.choice b.best (ap₂ settings.best hw compat ∙ a.best) in
      let service : b.service ≡ a.service = some_same b.choice.service b.service a.service b.has_service (ap (λ (c : Choice). c.service) choice ∙ a.has_service) in
      let lower : b.lower ≡ a.lower =
      some_same (numbered t.core.rack b.choice.lower) b.lower a.lower b.lower_are
      (ap (λ (c : Choice). numbered t.core.rack c.lower) choice ∙ numbered_still s.core.rack t.core.rack finds a.choice.lower a.lower a.lower_are) in
      let upper : b.upper ≡ a.upper =
      some_same (numbered t.core.rack b.choice.upper) b.upper a.upper b.upper_are
      (ap (λ (c : Choice). numbered t.core.rack c.upper) choice ∙ numbered_still s.core.rack t.core.rack finds a.choice.upper a.upper a.upper_are) in
      let own : b.own ≡ a.own =
      some_same (driver_named b.service t.core.rack) b.own a.own b.own_is
      (ap (λ (x : Text). driver_named x t.core.rack) service ∙ finds.found a.service a.own a.own_is) in
      let (text, has) = found_named a.service s.core.rack a.own a.own_is in
      let says : name_of t.core.rack a.own ≡ name_of s.core.rack a.own = ap printed_name (finds.names a.own text has) ∙ ap printed_name (sym has) in
      let drivers : b.lower ++ b.own ∷ b.upper ≡ a.lower ++ a.own ∷ a.upper =
      ap (λ (x : List ℕ). x ++ b.own ∷ b.upper) lower ∙ ap (λ (x : List ℕ). a.lower ++ x) (ap₂ (λ (x : ℕ) (xs : List ℕ). x ∷ xs) own upper) in (
        b.own_rank ∙ ap (λ (c : Choice). c.rank) choice ∙ sym a.own_rank,
        b.says ∙ ap (name_of t.core.rack) own ∙ says ∙ sym a.says,
        (a.lower ++ a.own ∷ a.upper, a.adds, subst (λ (ds : List ℕ). Adds t m ds t_after) drivers b.adds),
      )

pub same_ids_same_drivers : SameIdsSameDriversLaw
same_ids_same_drivers settings rack earlier between s s_after t t_after n m rank again driver name run first on second hw compat =
    let through : Run settings s (Did (Label.Install n.path rank driver) ∷ between) t = (s_after, first.goes, on) in
    one_choice settings rack s t s_after t_after n m rank again driver name (finds_run settings s (Did (Label.Install n.path rank driver) ∷ between) t through) (installed settings rack earlier s n rank driver s_after run first)
    (installed settings rack (earlier ++ Did (Label.Install n.path rank driver) ∷ between) t m again name t_after (run_on settings _ s t earlier (Did (Label.Install n.path rank driver) ∷ between) run through) second)
    hw compat

-- the driver that a name finds has that name, but for its letters
found_letters : (service : Text) (rack : List Driver) (k : ℕ) → driver_named service rack ≡ Some k → same (name_of rack k) service ≡ true
found_letters service [] k at = absurd (cc)
found_letters service (x ∷ xs) k at =
    let found = position-Some (is_named service) (x ∷ xs) k x at in
    subst (λ (o : Option Driver). same (printed_name (name_or_none o)) service ≡ true) (sym (slice_get-get_or (x ∷ xs) k x found.0)) (by_name (get_or (x ∷ xs) k x).name found.1)
  where
    by_name : (o : Option Text) → name_is service o ≡ true → same (printed_name o) service ≡ true
    by_name None e = absurd (cc)
    by_name (Some own) e = e

-- where one text is another but for its letters, so is that one
pub same_back : (a b : Text) → same a b ≡ true → same b a ≡ true
same_back a b e = (bytes_eq-Decides (folded b) (folded a)).1 (sym ((bytes_eq-Decides (folded a) (folded b)).0 e))

-- two names that are a third but for their letters are one but for their letters
same_letters : (a b c : Text) → same a c ≡ true → same b c ≡ true → same a b ≡ true
same_letters a b c h g = (bytes_eq-Decides (folded a) (folded b)).1 ((bytes_eq-Decides (folded a) (folded c)).0 h ∙ sym ((bytes_eq-Decides (folded b) (folded c)).0 g))

pub choice_hangs_on_ids : ChoiceHangsOnIdsLaw
choice_hangs_on_ids settings rack other one two s s_after t t_after n m rank again driver name run first over second hw compat =
    let a = installed settings rack one s n rank driver s_after run first in
    let b = installed settings other two t m again name t_after over second in
    let choice : b.choice ≡ a.choice = some_same (settings.best m.hw m.compat) b.choice a.choice b.best (ap₂ settings.best hw compat ∙ a.best) in
    let service : b.service ≡ a.service = some_same b.choice.service b.service a.service b.has_service (ap (λ (c : Choice). c.service) choice ∙ a.has_service) in
    let his : same driver a.service ≡ true = subst (λ (x : Text). same x a.service ≡ true) (sym a.says) (found_letters a.service s.core.rack a.own a.own_is) in
    let its : same name b.service ≡ true = subst (λ (x : Text). same x b.service ≡ true) (sym b.says) (found_letters b.service t.core.rack b.own b.own_is) in (
      b.own_rank ∙ ap (λ (c : Choice). c.rank) choice ∙ sym a.own_rank,
      same_letters name driver a.service (subst (λ (x : Text). same name x ≡ true) service its) his,
    )

-- The IDs of a device ---------------------------------------------------------------------------------------

-- what holds of a birth number, a path and IDs
abbrev Names : Type 1
Names = ℕ → Text → List Text → List Text → Type 0

-- of all nodes and of all devices of the world
record All (P : Names) (s : State) : Type 0 where
  nodes : (k : ℕ) (m : Node) → node_at k s.core.nodes ≡ Some m → P m.born m.path m.hw m.compat
  world : (d : Device) → In d s.world → P d.born d.path d.hw d.compat

in_more : (ds : List Device) (new d : Device) → In d (ds ++ new ∷ []) → In d ds ⊎ (new ≡ d)
in_more [] new d (inl e) = inr e
in_more [] new d (inr none) = absurd none
in_more (x ∷ xs) new d (inl e) = inl (inl e)
in_more (x ∷ xs) new d (inr h) = elim (in_more xs new d h) [ inl q ↦ inl (inr q) | inr e ↦ inr e ]

-- in a step or an event nothing gets other names, and who is plugged has a new birth number
module _ (P R : Names) (s : State) (entry : Entry) (t : State) (born : Born s) (all : All P s)
    (on : (b : ℕ) (path : Text) (hw compat : List Text) → b < s.next_born → P b path hw compat → R b path hw compat) (new : (d : Device) → Plugged s entry d → R d.born d.path d.hw d.compat) where
  abbrev OfNode : Node → Type 0
  OfNode m = R m.born m.path m.hw m.compat

  abbrev OfDevice : Device → Type 0
  OfDevice d = R d.born d.path d.hw d.compat

  old_node : (k : ℕ) (x : Node) → node_at k s.core.nodes ≡ Some x → OfNode x
  old_node k x at = on x.born x.path x.hw x.compat (born.known k x at) (all.nodes k x at)

  old_device : (d : Device) → In d s.world → OfDevice d
  old_device d there = on d.born d.path d.hw d.compat (born.fresh d there) (all.world d there)

  of_node : (k : ℕ) (m : Node) → Origin s (printed entry) t k m → OfNode m
  of_node k _ (Origin.was x at) = old_node k x at
  of_node k _ (Origin.walked x minor w bad at request other ends verdict prints) = old_node k x at
  of_node k _ (Origin.troubled x problem at) = old_node k x at
  of_node k _ (Origin.stacks x d ds name at acts prints) = old_node k x at
  of_node k _ (Origin.assigned x phase plan at acts search part now) = old_node k x at
  of_node k _ (Origin.stripped x w at request prints) = old_node k x at
  of_node k _ (Origin.commits r x runs course is at) = old_node k x at
  of_node k _ (Origin.joins node d below gone own) = old_device d (in_find (joins node.born s.core.nodes) s.world d below).1

  of_device : WorldEffect s entry t → (d : Device) → In d t.world → OfDevice d
  of_device (WorldEffect.same e next) d there = old_device d (subst (λ (ds : List Device). In d ds) e there)
  of_device (WorldEffect.plugged x plug e next) d there =
      elim (in_more s.world x d (subst (λ (ds : List Device). In d ds) e there)) [
        | inl old ↦ old_device d old
        | inr is ↦ subst (λ (z : Device). OfDevice z) is (new x plug)
      ]
  of_device (WorldEffect.changed node path reqs label at up started inside event e next) d there =
      let (x, old, is) = in_changed node.born reqs s.world d (subst (λ (ds : List Device). In d ds) e there) in
      elim is [
        | inl same ↦ subst (λ (z : Device). OfDevice z) same (old_device x old)
        | inr (same, own) ↦ subst (λ (z : Device). OfDevice z) same (old_device x old)
      ]
  of_device (WorldEffect.unplugged gone why e next) d there =
      old_device d (sub_in (without_those (gone ∷ []) s.world) s.world (sub_without (gone ∷ []) s.world) d (subst (λ (ds : List Device). In d ds) e there))

  all_on : Ascending 0 s.core.nodes → NodeEffect s (printed entry) t → WorldEffect s entry t → All R t
  all_on order nodes world = record { nodes = λ k m at. of_node k m (origin s (printed entry) t order k m nodes at); world = of_device world }

module _ (settings : Settings) (rack : List Driver) where
  all_goes : (P R : Names) (s : State) (entry : Entry) (t : State) → IsReached settings rack s → Goes settings s entry t → All P s
      → ((b : ℕ) (path : Text) (hw compat : List Text) → b < s.next_born → P b path hw compat → R b path hw compat) → ((d : Device) → Plugged s entry d → R d.born d.path d.hw d.compat) → All R t
  all_goes P R s entry t (entries, run) goes all on new =
      let effect = effect_goes settings s entry t goes in
      all_on P R s entry t (reaches_born settings rack entries s run) all on new (reaches_kept settings rack entries s run).good.serials effect.nodes effect.world

  -- Each birth number has its path and its IDs ------------------------------------------------------------

  record Ids : Type 0 where
    path : Text
    hw : List Text
    compat : List Text

  abbrev Has : (ℕ → Ids) → Names
  Has ids b path hw compat = record { path = path; hw = hw; compat = compat } ≡ ids b

  -- and a new one has its own
  abbrev also : ℕ → Ids → (ℕ → Ids) → ℕ → Ids
  also b own ids a = if a == b then own else ids a

  also_same : (b : ℕ) (own : Ids) (ids : ℕ → Ids) (a : ℕ) → a ≡ b → own ≡ also b own ids a
  also_same b own ids a e = let t : (a == b) ≡ true = grind (arith, nat_tests) in ap (λ (x : Bool). if x then own else ids a) (sym t)

  also_other : (b : ℕ) (own : Ids) (ids : ℕ → Ids) (a : ℕ) → a < b → ids a ≡ also b own ids a
  also_other b own ids a l = let t : (a == b) ≡ false = grind (arith, nat_tests) in ap (λ (x : Bool). if x then own else ids a) (sym t)

  -- whom an event plugs, where it does
  abbrev said_by : Entry → Option Ids
  said_by (Happens (Event.Plug parent path hw compat reqs) label) = Some (record { path = path; hw = hw; compat = compat })
  said_by entry = None

  abbrev with_said : ℕ → Option Ids → (ℕ → Ids) → ℕ → Ids
  with_said b None ids = ids
  with_said b (Some own) ids = also b own ids

  said_other : (b : ℕ) (said : Option Ids) (ids : ℕ → Ids) (a : ℕ) → a < b → ids a ≡ with_said b said ids a
  said_other b None ids a l = refl
  said_other b (Some own) ids a l = also_other b own ids a l

  said_same : (b : ℕ) (said : Option Ids) (ids : ℕ → Ids) (a : ℕ) (own : Ids) → a ≡ b → said ≡ Some own → own ≡ with_said b said ids a
  said_same b None ids a own e h = absurd (cc)
  said_same b (Some x) ids a own e h = let is : x ≡ own = cc in sym is ∙ also_same b x ids a e

  abbrev HaveIds : State → Type 0
  HaveIds s = (ids : ℕ → Ids) × All (Has ids) s

  have_ids : (s : State) (entry : Entry) (t : State) → IsReached settings rack s → HaveIds s → Goes settings s entry t → HaveIds t
  have_ids s entry t reached (ids, all) goes = (
    with_said s.next_born (said_by entry) ids,
    all_goes (Has ids) (Has (with_said s.next_born (said_by entry) ids)) s entry t reached goes all
        (λ b path hw compat old is. is ∙ said_other s.next_born (said_by entry) ids b old)
        (λ d plug. said_same s.next_born (said_by entry) ids d.born (record { path = d.path; hw = d.hw; compat = d.compat }) plug.born (ap said_by plug.event)),
  )

  opening_ids : HaveIds (opening rack)
  opening_ids = (
    λ b. record { path = root_path; hw = []; compat = [] },
    record {
      nodes = λ k m at. ap (λ (x : Node). record { path = x.path; hw = x.hw; compat = x.compat }) (sym (root_is k m at).0);
      world = λ d there. by_root d there;
    },
  )
    where
      by_root : (d : Device) → In d (opening rack).world → record { path = d.path; hw = d.hw; compat = d.compat } ≡ (let root : Ids = record { path = root_path; hw = []; compat = [] } in root)
      by_root d (inl e) = ap (λ (x : Device). record { path = x.path; hw = x.hw; compat = x.compat }) (sym e)
      by_root d (inr none) = absurd none

  -- What a device had, it has -------------------------------------------------------------------------------

  module _ (n : Node) where
    abbrev Own : Names
    Own b path hw compat = b ≡ n.born → (path ≡ n.path) × (hw ≡ n.hw) × (compat ≡ n.compat)

    abbrev Keeps : State → Type 0
    Keeps s = (n.born < s.next_born) × All Own s

    keeps_goes : (s : State) (entry : Entry) (t : State) → IsReached settings rack s → Keeps s → Goes settings s entry t → Keeps t
    keeps_goes s entry t reached (known, all) goes = (
      later (effect_goes settings s entry t goes).world,
      all_goes Own Own s entry t reached goes all (λ b path hw compat old is. is) (λ d plug same. absurd (let b = plug.born in omega arith)),
    )
      where
        later : WorldEffect s entry t → n.born < t.next_born
        later (WorldEffect.plugged x plug e next) = omega arith
        later (WorldEffect.same e next) = omega arith
        later (WorldEffect.changed node path reqs label at up started inside event e next) = omega arith
        later (WorldEffect.unplugged gone why e next) = omega arith

    -- of one function of birth numbers all is said
    had : (ids : ℕ → Ids) (k : ℕ) (s : State) → node_at k s.core.nodes ≡ Some n → All (Has ids) s → All Own s
    had ids k s at all =
        record { nodes = λ i m there. one m.born m.path m.hw m.compat (all.nodes i m there); world = λ d there. one d.born d.path d.hw d.compat (all.world d there) }
      where
        one : (b : ℕ) (path : Text) (hw compat : List Text) → Has ids b path hw compat → Own b path hw compat
        one b path hw compat is same =
            let e = is ∙ ap ids same ∙ sym (all.nodes k n at) in
            (ap (λ (x : Ids). x.path) e, ap (λ (x : Ids). x.hw) e, ap (λ (x : Ids). x.compat) e)

pub ids_stay : IdsStayLaw
ids_stay settings rack earlier later s t j k n m run on at now same =
    let (ids, all) = kept (HaveIds settings rack) settings rack (λ a entry b reached have goes. have_ids settings rack a entry b reached have goes) (opening_ids settings rack) s (earlier, run) in
    let keeps : Keeps settings rack n t =
    kept_along (Keeps settings rack n) settings rack (λ a entry b reached have goes. keeps_goes settings rack n a entry b reached have goes) s later t (earlier, run)
    ((reaches_born settings rack earlier s run).known j n at, had settings rack n ids j s at all) on in
    keeps.1.nodes k m now same

pub same_device_same_drivers : SameDeviceSameDriversLaw
same_device_same_drivers settings rack earlier between s s_after t t_after n m rank again driver name run first on second born =
    let ids = ids_stay settings rack earlier (Did (Label.Install n.path rank driver) ∷ between) s t n.serial m.serial n m run (s_after, first.goes, on) first.there second.there born in
    same_ids_same_drivers settings rack earlier between s s_after t t_after n m rank again driver name run first on second ids.1 ids.2
