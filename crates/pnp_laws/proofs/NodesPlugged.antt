-- In each state of a run a node is the root, or one whose device was plugged with the path and the IDs that it has, and with requirements, of then or of a later change, that are cut to what comes through to it.
use Rattle.std.proofs.Common.{ℕ, suc, ◌<◌, ◌≤◌, ◌≡◌, ◌≢◌, ◌==◌, ◌⊎◌, inl, inr, Bool, true, false, cond, List, [], ◌∷◌, ◌++◌, length, map, reverse, Option, Some, None, Contains, refl, sym, subst, ap, ◌∙◌, arith, append_assoc, append-nil}
use Rattle.std.specs.List.{AllByRecursion}
use Rattle.std.specs.Option.{is_some}
use Rattle.std.proofs.lemmas.List.Elements.{All-contains, All-from_recursion, Contains-append_left, Contains-append_right}
use Rattle.std.proofs.lemmas.Bool.{cases_eq}
use Rattle.std.proofs.lemmas.Bool.Decides.{nat_tests}
use Rattle.std.proofs.lemmas.List.{length-map}
use Rattle.device_ids.specs.Folding.{same}
use Rattle.resource_reqs.proofs.Counts.{contains_cons, contains_nil}
use Rattle.resource_reqs.specs.Resources.{AltList, Reqs}
use Rattle.resource_reqs.specs.declared.kind.Kind.{Kind}
use Rattle.pnp_labels.specs.Texts.{Text}
use Rattle.pnp_labels.specs.declared.event.Event.{Event}
use Rattle.pnp_labels.specs.declared.label.Label.{Label}
use Rattle.pnp_labels.specs.declared.label.OpKind.{OpKind}
use Rattle.pnp_model.specs.Cores.{node_at, serials_of}
use Rattle.pnp_model.specs.Laws.{Reaches}
use Rattle.pnp_model.specs.Events.{answer_of, completed}
use Rattle.pnp_model.specs.Keyed.{those}
use Rattle.pnp_model.specs.Rebalances.{begun_change, begun_rebalance, is_asked, reqs_after}
use Rattle.pnp_model.specs.Records.{Device, Driver, Node, Settings, State, Step, Job, Course, course_of}
use Rattle.pnp_model.specs.Runs.{Entry, Run, opening, printed, root_path}
use Rattle.pnp_model.specs.Runs.Entry.{Happens, Did, Declines}
use Rattle.pnp_model.specs.States.{device_born, new_child, without_those}
use Rattle.pnp_model.specs.Tasks.{begin, joins}
use Rattle.pnp_model.specs.Windows.{Room, clip, clip_by, clipped_want, room}
use Rattle.pnp_laws.specs.Words.{spared_in}
use Rattle.pnp_laws.specs.Effects.{AnswerEffect, BeginsFor, NodeEffect, OpEffect, OperationEffect, SameWork, WorldEffect, begun, required}
use Rattle.pnp_laws.specs.Held.{AreWithin}
use Rattle.pnp_laws.specs.Kept.{Ascending, IsGood, TargetFits}
use Rattle.pnp_laws.specs.Needs.{IsChanged, IsEntryWithin, IsPlugged, IsRoot, IsSaid, NeedsAreWithinLaw, NodesArePluggedLaw}
use Rattle.pnp_laws.proofs.EffectViews.{Origin, origin}
use Rattle.pnp_laws.proofs.EffectsOf.{effect_goes}
use Rattle.pnp_laws.proofs.FitsBy.{rebalance_fits}
use Rattle.pnp_laws.proofs.EffectsOfOperations.{begun_work, completed_work, re_ask_on}
use Rattle.pnp_laws.proofs.JoinMachine.{reaches_born}
use Rattle.pnp_laws.proofs.JoinSteps.{in_find}
use Rattle.pnp_laws.proofs.Joins.{Born, Grows, In, in_changed, sub_in, sub_without}
use Rattle.pnp_laws.proofs.Lookups.{find_passes, node_found, own_serial, some_same}
use Rattle.pnp_laws.proofs.Reached.{reached_is_good}
use Rattle.pnp_laws.proofs.Reaching.{run_on}
use Rattle.pnp_laws.proofs.RoomsKept.{rooms_stay}
use Rattle.pnp_laws.proofs.Runs.{root_is}
use Rattle.pnp_model.specs.Jobs.{job_of}

-- what holds of how a device was plugged: of its birth number, its path, its IDs and its requirements
abbrev Says : Type 1
Says = ℕ → Text → List Text → List Text → Reqs → Type 0

-- of these requirements of a node, which are cut to what comes through to it
abbrev OfReqs : Says → State → Node → Reqs → Type 0
OfReqs Q s n reqs = (said : Reqs) × Q n.born n.path n.hw n.compat said × (reqs ≡ clip s.windows s.core.nodes n.parent said)

-- of node k; of the root none were said
abbrev OfNode : Says → State → ℕ → Node → Type 0
OfNode Q s k n = (said : Reqs) × Q n.born n.path n.hw n.compat said × (n.reqs ≡ clip s.windows s.core.nodes n.parent said) × (k ≡ 0 → said ≡ [])

abbrev OfDevice : Says → Device → Type 0
OfDevice Q d = Q d.born d.path d.hw d.compat d.reqs

-- it holds of each node and of each device of the world
abbrev NodesSay : Says → State → Type 0
NodesSay Q s = (k : ℕ) (n : Node) → node_at k s.core.nodes ≡ Some n → OfNode Q s k n

abbrev WorldSays : Says → List Device → Type 0
WorldSays Q world = (d : Device) → In d world → OfDevice Q d

-- of what a change wants for its target
abbrev WantsSay : Says → State → Type 0
WantsSay Q s =
    (r : Job) (wanted : Reqs) → s.operation ≡ Some r → course_of r.kind ≡ Course.Rebalancing → r.wanted ≡ Some wanted → (n : Node) → node_at r.target s.core.nodes ≡ Some n → OfReqs Q s n wanted

-- it holds of more after an entry of a run: of what an event plugs and changes
record SaysOn (Q R : Says) (entry : Entry) : Type 0 where
  stays : (born : ℕ) (path : Text) (hw compat : List Text) (reqs : Reqs) → Q born path hw compat reqs → R born path hw compat reqs
  plugs : (born : ℕ) (parent path : Text) (hw compat : List Text) (reqs : Reqs) (label : Label) → entry ≡ Happens (Event.Plug parent path hw compat reqs) label → R born path hw compat reqs
  changes : (born : ℕ) (path : Text) (hw compat : List Text) (first : Reqs) (by : Text) (reqs : Reqs) (label : Label) → entry ≡ Happens (Event.Change by reqs) label → born ≢ 0 → Q born path hw compat first → same path by ≡ true
      → R born path hw compat reqs

-- a device of the world has the path and the IDs of its node
abbrev Twins : State → Type 0
Twins s = (k : ℕ) (n : Node) (d : Device) → node_at k s.core.nodes ≡ Some n → In d s.world → d.born ≡ n.born → (d.path ≡ n.path) × (d.hw ≡ n.hw) × (d.compat ≡ n.compat)

-- What nodes are named ------------------------------------------------------------------------

-- what a node keeps
record SameName (n m : Node) : Type 0 where
  born : m.born ≡ n.born
  parent : m.parent ≡ n.parent
  path : m.path ≡ n.path
  hw : m.hw ≡ n.hw
  compat : m.compat ≡ n.compat

same_name : (n : Node) → SameName n n
same_name n = record { born = refl; parent = refl; path = refl; hw = refl; compat = refl }

-- it was there, and keeps its name; or it joined
data Named (s : State) (k : ℕ) (m : Node) : Type 0 where
  stays : (n : Node) → node_at k s.core.nodes ≡ Some n → SameName n m → Named s k m
  joined : (node : Node) (d : Device) → In d s.world → node_at k s.core.nodes ≡ None → m ≡ new_child node.serial d s → Named s k m

named : (s : State) (label : Label) (t : State) (k : ℕ) (m : Node) → Origin s label t k m → Named s k m
named s label t k _ (Origin.was n at) = Named.stays n at (same_name n)
named s label t k _ (Origin.walked n minor w bad at request other ends verdict prints) = Named.stays n at (record { born = refl; parent = refl; path = refl; hw = refl; compat = refl })
named s label t k _ (Origin.troubled n problem at) = Named.stays n at (record { born = refl; parent = refl; path = refl; hw = refl; compat = refl })
named s label t k _ (Origin.stacks n d ds name at acts prints) = Named.stays n at (record { born = refl; parent = refl; path = refl; hw = refl; compat = refl })
named s label t k _ (Origin.assigned n phase plan at acts search part now) = Named.stays n at (record { born = refl; parent = refl; path = refl; hw = refl; compat = refl })
named s label t k _ (Origin.stripped n w at request prints) = Named.stays n at (record { born = refl; parent = refl; path = refl; hw = refl; compat = refl })
named s label t k _ (Origin.commits r n runs course is at) = Named.stays n at (record { born = refl; parent = refl; path = refl; hw = refl; compat = refl })
named s label t k _ (Origin.joins node d below gone own) = Named.joined node d (in_find (joins node.born s.core.nodes) s.world d below).1 gone refl

-- two devices of the world have two birth numbers
grows_over : (lo : ℕ) (ds : List Device) (d : Device) → Grows lo ds → In d ds → lo ≤ d.born
grows_over lo [] d h i = absurd i
grows_over lo (x ∷ xs) d h (inl e) = let f = ap (λ (z : Device). z.born) e in let l = h.0 in omega arith
grows_over lo (x ∷ xs) d h (inr i) = let more = grows_over (suc x.born) xs d h.2 i in let l = h.0 in omega arith

grows_apart : (lo : ℕ) (ds : List Device) (d e : Device) → Grows lo ds → In d ds → In e ds → d.born ≡ e.born → d ≡ e
grows_apart lo [] d e h i j same = absurd i
grows_apart lo (x ∷ xs) d e h (inl p) (inl q) same = sym p ∙ q
grows_apart lo (x ∷ xs) d e h (inl p) (inr j) same = absurd (let over = grows_over (suc x.born) xs e h.2 j in let f = ap (λ (z : Device). z.born) p in omega arith)
grows_apart lo (x ∷ xs) d e h (inr i) (inl q) same = absurd (let over = grows_over (suc x.born) xs d h.2 i in let f = ap (λ (z : Device). z.born) q in omega arith)
grows_apart lo (x ∷ xs) d e h (inr i) (inr j) same = grows_apart (suc x.born) xs d e h.2 i j same

-- The world -----------------------------------------------------------------------------------

in_more : (ds : List Device) (new d : Device) → In d (ds ++ new ∷ []) → In d ds ⊎ (new ≡ d)
in_more [] new d (inl e) = inr e
in_more [] new d (inr none) = absurd none
in_more (x ∷ xs) new d (inl e) = inl (inl e)
in_more (x ∷ xs) new d (inr h) = elim (in_more xs new d h) [ inl q ↦ inl (inr q) | inr e ↦ inr e ]

-- a device was there under its name, or has just been plugged
abbrev WasDevice : State → Device → Type 0
WasDevice s d = ((x : Device) × In x s.world × (x.born ≡ d.born) × (x.path ≡ d.path) × (x.hw ≡ d.hw) × (x.compat ≡ d.compat)) ⊎ (d.born ≡ s.next_born)

same_device : (s : State) (x d : Device) → In x s.world → x ≡ d → WasDevice s d
same_device s x d there e = inl (x, there, ap (λ (z : Device). z.born) e, ap (λ (z : Device). z.path) e, ap (λ (z : Device). z.hw) e, ap (λ (z : Device). z.compat) e)

was_device : (s : State) (entry : Entry) (t : State) → WorldEffect s entry t → (d : Device) → In d t.world → WasDevice s d
was_device s entry t (WorldEffect.same e born) d there = same_device s d d (subst (λ (x : List Device). In d x) e there) refl
was_device s entry t (WorldEffect.plugged new plug e born) d there =
    elim (in_more s.world new d (subst (λ (x : List Device). In d x) e there)) [
      | inl q ↦ same_device s d d q refl
      | inr is ↦ inr (ap (λ (z : Device). z.born) (sym is) ∙ plug.born)
    ]
was_device s entry t (WorldEffect.changed n path reqs prints at up started known is e born) d there =
    let old = in_changed n.born reqs s.world d (subst (λ (x : List Device). In d x) e there) in
    elim old.2 [
      | inl q ↦ same_device s old.0 d old.1 q
      | inr (q, own) ↦ inl (old.0, old.1, ap (λ (z : Device). z.born) q, ap (λ (z : Device). z.path) q, ap (λ (z : Device). z.hw) q, ap (λ (z : Device). z.compat) q)
    ]
was_device s entry t (WorldEffect.unplugged born why e next) d there =
    same_device s d d (sub_in (without_those (born ∷ []) s.world) s.world (sub_without (born ∷ []) s.world) d (subst (λ (x : List Device). In d x) e there)) refl

twins_goes : (s : State) (label : Label) (entry : Entry) (t : State) → Ascending 0 s.core.nodes → Born s → Twins s → NodeEffect s label t → WorldEffect s entry t → Twins t
twins_goes s label entry t order b old nodes world k m d at there own =
    by_two (named s label t k m (origin s label t order k m nodes at)) (was_device s entry t world d there)
  where
    by_two : Named s k m → WasDevice s d → (d.path ≡ m.path) × (d.hw ≡ m.hw) × (d.compat ≡ m.compat)
    by_two (Named.stays n was name) (inl (x, in_world, born, path, hw, compat)) =
        let twin = old k n x was in_world (born ∙ own ∙ name.born) in
        (sym path ∙ twin.0 ∙ sym name.path, sym hw ∙ twin.1 ∙ sym name.hw, sym compat ∙ twin.2 ∙ sym name.compat)
    by_two (Named.stays n was name) (inr new) = absurd (let l = b.known k n was in let e = name.born in omega arith)
    by_two (Named.joined node j in_world gone is) (inl (x, x_there, born, path, hw, compat)) =
        let twin : x ≡ j = grows_apart 0 s.world x j b.grows x_there in_world (born ∙ own ∙ ap (λ (z : Node). z.born) is) in (
          sym path ∙ ap (λ (z : Device). z.path) twin ∙ sym (ap (λ (z : Node). z.path) is),
          sym hw ∙ ap (λ (z : Device). z.hw) twin ∙ sym (ap (λ (z : Node). z.hw) is),
          sym compat ∙ ap (λ (z : Device). z.compat) twin ∙ sym (ap (λ (z : Node). z.compat) is),
        )
    by_two (Named.joined node j in_world gone is) (inr new) = absurd (let l = b.fresh j in_world in let e = ap (λ (z : Node). z.born) is in omega arith)

world_says : (Q R : Says) (s : State) (entry : Entry) (t : State) → SaysOn Q R entry → Ascending 0 s.core.nodes → Born s → Twins s → WorldSays Q s.world → WorldEffect s entry t → WorldSays R t.world
world_says Q R s entry t on order b twins old effect = by_effect effect
  where
    still : (x : Device) → In x s.world → OfDevice R x
    still x h = on.stays x.born x.path x.hw x.compat x.reqs (old x h)

    by_effect : WorldEffect s entry t → WorldSays R t.world
    by_effect (WorldEffect.same e born) = subst (λ (x : List Device). WorldSays R x) (sym e) still
    by_effect (WorldEffect.plugged d plug e born) =
        subst (λ (x : List Device). WorldSays R x) (sym e)
        (λ x h. elim (in_more s.world d x h) [
          | inl q ↦ still x q
          | inr is ↦ subst (λ (y : Device). OfDevice R y) is (on.plugs d.born plug.parent d.path d.hw d.compat d.reqs plug.label plug.event)
        ])
    by_effect (WorldEffect.changed n path reqs label at up started known is e born) =
        subst (λ (x : List Device). WorldSays R x) (sym e)
        (λ d h.
        let was = in_changed n.born reqs s.world d h in
        let found = node_found (λ m. same m.path path) 0 s.core.nodes n order at in
        let high : n.born ≢ 0 = λ z. let zero = b.first n.serial n found.1 z in grind (arith, nat_tests) in
        elim was.2 [
          | inl q ↦ subst (λ (y : Device). OfDevice R y) q (still was.0 was.1)
          | inr (q, own) ↦
              let twin = twins n.serial n was.0 found.1 was.1 own in
              let names : same was.0.path path ≡ true = ap (λ (x : Text). same x path) twin.0 ∙ find_passes (λ m. same m.path path) s.core.nodes n at in
              subst (λ (y : Device). OfDevice R y) q
              (on.changes was.0.born was.0.path was.0.hw was.0.compat was.0.reqs path reqs label is (λ z. high (sym own ∙ z)) (old was.0 was.1) names)
        ])
    by_effect (WorldEffect.unplugged born why e next) =
        subst (λ (x : List Device). WorldSays R x) (sym e) (λ x h. still x (sub_in (without_those (born ∷ []) s.world) s.world (sub_without (born ∷ []) s.world) x h))

-- Nodes ---------------------------------------------------------------------------------------

-- what is kept along a run
record AllSay (Q : Says) (s : State) : Type 0 where
  nodes : NodesSay Q s
  world : WorldSays Q s.world
  twins : Twins s
  wants : WantsSay Q s

-- after an entry it holds of all that it held of
all_stay : (Q R : Says) (entry : Entry) (s : State) → SaysOn Q R entry → AllSay Q s → AllSay R s
all_stay Q R entry s on all =
    record {
      nodes = λ k n at. let h = all.nodes k n at in (h.0, on.stays n.born n.path n.hw n.compat h.0 h.1, h.2, h.3);
      world = λ d i. on.stays d.born d.path d.hw d.compat d.reqs (all.world d i);
      twins = all.twins;
      wants = λ r wanted run course is n at. let h = all.wants r wanted run course is n at in (h.0, on.stays n.born n.path n.hw n.compat h.0 h.1, h.2);
    }

module _ (Q : Says) (s : State) (label : Label) (t : State) (old : AllSay Q s) (good : IsGood s) where
  -- at the commit of a change its target requires what was wanted
  commits_say : (r : Job) (k : ℕ) (n : Node) (wanted : Option Reqs) → s.operation ≡ Some r → course_of r.kind ≡ Course.Rebalancing → r.wanted ≡ wanted → node_at k s.core.nodes ≡ Some n → (b : Bool) → (n.serial == r.target) ≡ b
      → (said : Reqs) × Q n.born n.path n.hw n.compat said × (reqs_after wanted r.target n ≡ clip s.windows s.core.nodes n.parent said) × (k ≡ 0 → said ≡ [])
  commits_say r k n None runs course is at b e = old.nodes k n at
  commits_say r k n (Some wanted) runs course is at false e =
      let h = old.nodes k n at in
      (h.0, h.1, ap (λ (b : Bool). cond b wanted n.reqs) e ∙ h.2, h.3)
  commits_say r k n (Some wanted) runs course is at true e =
      let own = own_serial k n s.core.nodes at in
      let target : r.target ≡ k = grind (arith, nat_tests) in
      let fits = rebalance_fits s r good runs course in
      let waits : TargetFits (Some wanted) r.target s.core.nodes = subst (λ (x : Option Reqs). TargetFits x r.target s.core.nodes) is fits.waits in
      let h = old.wants r wanted runs course is n (subst (λ (i : ℕ). node_at i s.core.nodes ≡ Some n) (sym target) at) in
      (h.0, h.1, ap (λ (b : Bool). cond b wanted n.reqs) e ∙ h.2, λ (z : k ≡ 0). absurd (waits.3 (target ∙ z)))

  -- by what came through before
  node_says : (k : ℕ) (m : Node) → Origin s label t k m → OfNode Q s k m
  node_says k _ (Origin.was n at) = old.nodes k n at
  node_says k _ (Origin.walked n minor w bad at request other ends verdict prints) = old.nodes k n at
  node_says k _ (Origin.troubled n problem at) = old.nodes k n at
  node_says k _ (Origin.stacks n d ds name at acts prints) = old.nodes k n at
  node_says k _ (Origin.assigned n phase plan at acts search part now) = old.nodes k n at
  node_says k _ (Origin.stripped n w at request prints) = old.nodes k n at
  node_says k _ (Origin.commits r n runs course is at) = commits_say r k n r.wanted runs course refl at (n.serial == r.target) refl
  node_says k _ (Origin.joins node d below gone own) =
      (d.reqs, old.world d (in_find (joins node.born s.core.nodes) s.world d below).1, refl, λ (z : k ≡ 0). absurd (let begun = good.begun in omega arith))

  module _ (rooms : (k : ℕ) (m : Node) → node_at k t.core.nodes ≡ Some m → k ≢ 0 → room t.windows t.core.nodes m.parent ≡ room s.windows s.core.nodes m.parent) where
    -- which is what comes through after
    now_says : (k : ℕ) (m : Node) → node_at k t.core.nodes ≡ Some m → OfNode Q s k m → OfNode Q t k m
    now_says k m now (said, is, cut, none) =
        elim (cases_eq k 0) [
          | inl z ↦ (said, is, cut ∙ ap (clip s.windows s.core.nodes m.parent) (none z) ∙ sym (ap (clip t.windows t.core.nodes m.parent) (none z)), none)
          | inr up ↦ (said, is, cut ∙ ap (λ (x : Kind → Room). clip_by x said) (sym (rooms k m now up)), none)
        ]

    nodes_say : NodeEffect s label t → NodesSay Q t
    nodes_say effect k m now = now_says k m now (node_says k m (origin s label t good.serials k m effect now))

    -- the target keeps its name, and what comes through to it stays
    reqs_say : (k : ℕ) (n m : Node) (wanted : Reqs) → NodeEffect s label t → k ≢ 0 → node_at k s.core.nodes ≡ Some n → node_at k t.core.nodes ≡ Some m → OfReqs Q s n wanted → OfReqs Q t m wanted
    reqs_say k n m wanted effect up was now h = by_name (named s label t k m (origin s label t good.serials k m effect now))
      where
        by_name : Named s k m → OfReqs Q t m wanted
        by_name (Named.joined node d there gone is) = absurd (cc)
        by_name (Named.stays x at name) =
            let one : x ≡ n = some_same (node_at k s.core.nodes) x n at was in
            let h2 = subst (λ (z : Node). OfReqs Q s z wanted) (sym one) h in
            let e = name.born in
            let a = name.parent in
            let b = name.path in
            let c = name.hw in
            let d = name.compat in (
              h2.0,
              subst (λ (p : Text). Q m.born p m.hw m.compat h2.0) (sym b)
                  (subst (λ (i : ℕ). Q i x.path m.hw m.compat h2.0) (sym e) (subst (λ (xs : List Text). Q x.born x.path xs m.compat h2.0) (sym c) (subst (λ (xs : List Text). Q x.born x.path x.hw xs h2.0) (sym d) h2.1))),
              h2.2 ∙ ap (λ (p : ℕ). clip s.windows s.core.nodes p h2.0) (sym a) ∙ ap (λ (y : Kind → Room). clip_by y h2.0) (sym (rooms k m now up)),
            )

    -- the change goes on
    goes_say : (r p : Job) → s.operation ≡ Some r → course_of r.kind ≡ Course.Rebalancing → p.target ≡ r.target → p.wanted ≡ r.wanted → NodeEffect s label t
        → (wanted : Reqs) → p.wanted ≡ Some wanted → (m : Node) → node_at p.target t.core.nodes ≡ Some m → OfReqs Q t m wanted
    goes_say r p runs course target same_wanted effect wanted is m now =
        let fits = rebalance_fits s r good runs course in
        let own : r.wanted ≡ Some wanted = sym same_wanted ∙ is in
        let waits : TargetFits (Some wanted) r.target s.core.nodes = subst (λ (x : Option Reqs). TargetFits x r.target s.core.nodes) own fits.waits in
        reqs_say r.target waits.0 m wanted effect waits.3 waits.1 (subst (λ (i : ℕ). node_at i t.core.nodes ≡ Some m) target now) (old.wants r wanted runs course own waits.0 waits.1)

-- the device that a birth number names
device_in : (born : ℕ) (world : List Device) (d : Device) → device_born born world ≡ Some d → In d world × (d.born ≡ born)
device_in born world d e =
    ((in_find (λ x. x.born == born) world d e).1, let passes = (in_find (λ x. x.born == born) world d e).0 in grind (arith, nat_tests))

module _ (Q : Says) (s : State) (entry : Entry) (t : State) (old : AllSay Q s) (good : IsGood s) (nodes : NodeEffect s (printed entry) t)
    (rooms : (k : ℕ) (m : Node) → node_at k t.core.nodes ≡ Some m → k ≢ 0 → room t.windows t.core.nodes m.parent ≡ room s.windows s.core.nodes m.parent) where
  on_say : (o p : Job) → s.operation ≡ Some o → t.operation ≡ Some p → SameWork o p → WantsSay Q t
  on_say o p runs now work r wanted run course is n at =
      let same_operation : p ≡ r = cc in
      let same_work = subst (λ (x : Job). SameWork o x) same_operation work in
      let old_course : course_of o.kind ≡ Course.Rebalancing = sym (ap course_of same_work.kind) ∙ course in
      let targets : r.target ∷ [] ≡ o.target ∷ [] = sym (ap (λ (x : Course). spared_in r x) course) ∙ same_work.spared ∙ ap (λ (x : Course). spared_in o x) old_course in
      goes_say Q s (printed entry) t old good rooms o r runs old_course (cc) same_work.wanted nodes wanted is n at

  -- a change begins for what its device requires in the world
  change_begins : (node : Node) (o : Option Device) → device_born node.born s.world ≡ o → is_some o ≡ true → node_at node.serial s.core.nodes ≡ Some node → OfReqs Q s node (required s node o)
  change_begins node None e some at = absurd (cc)
  change_begins node (Some d) e some at =
      let found = device_in node.born s.world d e in
      let twin = old.twins node.serial node d at found.0 found.1 in
      let a = old.world d found.0 in (
        d.reqs,
        subst (λ (i : ℕ). Q i node.path node.hw node.compat d.reqs) found.1
            (subst (λ (p : Text). Q d.born p node.hw node.compat d.reqs) twin.0 (subst (λ (xs : List Text). Q d.born d.path xs node.compat d.reqs) twin.1 (subst (λ (xs : List Text). Q d.born d.path d.hw xs d.reqs) twin.2 a))),
        refl,
      )

  -- no other operation wants anything
  other_begins : {A : Type 0} (kind : OpKind) (node : Node) (r : Job) → (begin s kind node (begun s kind node)).state.operation ≡ Some r → course_of r.kind ≡ Course.Rebalancing → (course_of kind ≡ Course.Rebalancing → ⊥) → A
  other_begins kind node r run course other =
      let own : begun s kind node ≡ r = cc in
      absurd (other (sym (ap course_of (begun_work s kind node).0) ∙ ap (λ (x : Job). course_of x.kind) own ∙ course))

  begins_say : (kind : OpKind) (node : Node) → node_at node.serial s.core.nodes ≡ Some node → BeginsFor s kind node → WantsSay Q (begin s kind node (begun s kind node)).state
  begins_say OpKind.Change node at (up, some) r wanted run course is n there =
      let first = change_begins node (device_born node.born s.world) refl some at in
      let frame = re_ask_on (record (job_of OpKind.Change node) { wanted = Some (required s node (device_born node.born s.world)) }) (reverse (serials_of (those is_asked s.core.nodes))) in
      let own : begun_change s.core node (required s node (device_born node.born s.world)) ≡ r = cc in
      let target : r.target ≡ node.serial = ap (λ (x : Job). x.target) (sym own) ∙ frame.target in
      let wants : Some wanted ≡ Some (required s node (device_born node.born s.world)) = sym is ∙ ap (λ (x : Job). x.wanted) (sym own) ∙ frame.work.wanted in
      let one : node ≡ n = some_same (node_at node.serial s.core.nodes) node n at (subst (λ (i : ℕ). node_at i s.core.nodes ≡ Some n) target there) in
      let same_wanted : required s node (device_born node.born s.world) ≡ wanted = cc in
      subst (λ (x : Node). OfReqs Q s x wanted) one (subst (λ (x : Reqs). OfReqs Q s node x) same_wanted first)
  begins_say OpKind.Rebalance node at h r wanted run course is n there =
      let frame = re_ask_on (record (job_of OpKind.Rebalance node) { wanted = None }) (reverse (serials_of (those is_asked s.core.nodes))) in
      let own : begun_rebalance s.core node ≡ r = cc in
      let none : r.wanted ≡ None = ap (λ (x : Job). x.wanted) (sym own) ∙ frame.work.wanted in
      absurd (cc)
  begins_say OpKind.Disable node at h r wanted run course is n there = other_begins OpKind.Disable node r run course (λ q. cc)
  begins_say OpKind.Eject node at h r wanted run course is n there = other_begins OpKind.Eject node r run course (λ q. cc)
  begins_say OpKind.Surprise node at h r wanted run course is n there = other_begins OpKind.Surprise node r run course (λ q. cc)
  begins_say OpKind.Finish node at h r wanted run course is n there = other_begins OpKind.Finish node r run course (λ q. cc)

  step_wants : (label : Label) → OpEffect s label t → WantsSay Q t
  step_wants label (OpEffect.idles none now prints) r wanted run course is n at = absurd (cc)
  step_wants label (OpEffect.begins kind node none alone at fits is) r wanted run course own n found = (subst (λ (x : Step). WantsSay Q x.state) (sym is) (begins_say kind node at fits)) r wanted run course own n found
  step_wants label (OpEffect.goes o p runs now work prints) r wanted run course own n found = on_say o p runs now work r wanted run course own n found
  step_wants label (OpEffect.ends o result runs now prints by over) r wanted run course is n at = absurd (cc)

  still_wants : t.operation ≡ s.operation → WantsSay Q t
  still_wants now r wanted run course is n at = goes_say Q s (printed entry) t old good rooms r r (sym now ∙ run) course refl refl nodes wanted is n at

  event_wants : (label : Label) → AnswerEffect s label t → WantsSay Q t
  event_wants label (AnswerEffect.stays word same acts now) = still_wants now
  event_wants label (AnswerEffect.answers word same k a ok at acts now) = still_wants now
  event_wants label (AnswerEffect.answered word same acts ok o runs now) = on_say o (completed (answer_of ok) o) runs now (completed_work (answer_of ok) o)

wants_goes : (Q : Says) (s : State) (entry : Entry) (t : State) → AllSay Q s → IsGood s → NodeEffect s (printed entry) t
    → ((k : ℕ) (m : Node) → node_at k t.core.nodes ≡ Some m → k ≢ 0 → room t.windows t.core.nodes m.parent ≡ room s.windows s.core.nodes m.parent) → OperationEffect s entry t → WantsSay Q t
wants_goes Q s (Happens event label) t old good nodes rooms effect = event_wants Q s (Happens event label) t old good nodes rooms label effect
wants_goes Q s (Did label) t old good nodes rooms effect = step_wants Q s (Did label) t old good nodes rooms label effect
wants_goes Q s (Declines label) t old good nodes rooms effect = step_wants Q s (Declines label) t old good nodes rooms label effect

-- Runs ----------------------------------------------------------------------------------------

-- what holds of how a device was plugged, by the entries so far
abbrev SaysBy : Type 1
SaysBy = List Entry → Says

abbrev SaysAlong : SaysBy → Type 0
SaysAlong P = (entries : List Entry) (entry : Entry) → SaysOn (P entries) (P (entries ++ entry ∷ [])) entry

run_says : (P : SaysBy) → SaysAlong P → (settings : Settings) (rack : List Driver) (before : List Entry) (old : State) (entries : List Entry) (new : State) → Reaches settings rack before old → Run settings old entries new → AllSay (P before) old → NodesSay (P (before ++ entries)) new
run_says P along settings rack before old [] new reaches run all =
    subst (λ (es : List Entry). NodesSay (P es) new) (sym (append-nil before)) (subst (λ (s : State). NodesSay (P before) s) (sym run) all.nodes)
run_says P along settings rack before old (entry ∷ rest) new reaches (mid, goes, run) all =
    let effect = effect_goes settings old entry mid goes in
    let good = reached_is_good settings rack old (before, reaches) in
    let births = reaches_born settings rack before old reaches in
    let rooms = rooms_stay settings rack old entry mid (before, reaches) goes in
    let Q = P before in
    let R = P (before ++ entry ∷ []) in
    let on = along before entry in
    let stay = all_stay Q R entry old on all in
    let later = run_on settings (opening rack) old mid before (entry ∷ []) reaches (mid, goes, refl) in
    subst (λ (es : List Entry). NodesSay (P es) new) (append_assoc before (entry ∷ []) rest)
    (run_says P along settings rack (before ++ entry ∷ []) mid rest new later run
    (record {
      nodes = nodes_say R old (printed entry) mid stay good rooms effect.nodes;
      world = world_says Q R old entry mid on good.serials births all.twins all.world effect.world;
      twins = twins_goes old (printed entry) entry mid good.serials births all.twins effect.nodes effect.world;
      wants = wants_goes R old entry mid stay good effect.nodes rooms effect.operation;
    }))

-- what holds of the root, and of all that is plugged or changed, holds of each node
says_all : (P : SaysBy) → SaysAlong P → (settings : Settings) (rack : List Driver) (entries : List Entry) (s : State) → Run settings (opening rack) entries s → P [] 0 root_path [] [] [] → NodesSay (P entries) s
says_all P along settings rack entries s run root =
    run_says P along settings rack [] (opening rack) entries s refl run
    (record {
      nodes = λ k n at. subst (λ (x : Node). OfNode (P []) (opening rack) k x) (root_is k n at).0 ([], root, refl, λ z. refl);
      world = of_root;
      twins = twins_root;
      wants = λ r wanted run course is n at. absurd (cc);
    })
  where
    of_root : WorldSays (P []) (opening rack).world
    of_root d (inl e) = subst (λ (x : Device). OfDevice (P []) x) e root
    of_root d (inr none) = absurd none

    twins_root : Twins (opening rack)
    twins_root k n d at (inl e) own =
        let f = (root_is k n at).0 in
        (ap (λ (z : Device). z.path) (sym e) ∙ ap (λ (z : Node). z.path) f, ap (λ (z : Device). z.hw) (sym e) ∙ ap (λ (z : Node). z.hw) f, ap (λ (z : Device). z.compat) (sym e) ∙ ap (λ (z : Node). z.compat) f)
    twins_root k n d at (inr none) own = absurd none

-- the root has birth number 0
abbrev Said : SaysBy
Said entries born path hw compat reqs = ((born ≡ 0) × IsRoot path hw compat reqs) ⊎ (IsPlugged entries path hw compat reqs ⊎ IsChanged entries path hw compat reqs)

module _ (entries : List Entry) (entry : Entry) where
  plugged_still : (path : Text) (hw compat : List Text) (reqs : Reqs) → IsPlugged entries path hw compat reqs → IsPlugged (entries ++ entry ∷ []) path hw compat reqs
  plugged_still path hw compat reqs (parent, label, there) = (parent, label, Contains-append_left entries (entry ∷ []) (Happens (Event.Plug parent path hw compat reqs) label) there)

  changed_still : (path : Text) (hw compat : List Text) (reqs : Reqs) → IsChanged entries path hw compat reqs → IsChanged (entries ++ entry ∷ []) path hw compat reqs
  changed_still path hw compat reqs c =
      record {
        earlier = c.earlier;
        later = c.later ++ entry ∷ [];
        named = c.named;
        label = c.label;
        all = ap (λ (es : List Entry). es ++ entry ∷ []) c.all ∙ append_assoc c.earlier (Happens (Event.Change c.named reqs) c.label ∷ c.later) (entry ∷ []);
        names = c.names;
        first = c.first;
        plugged = c.plugged;
      }

  said_still : (born : ℕ) (path : Text) (hw compat : List Text) (reqs : Reqs) → Said entries born path hw compat reqs → Said (entries ++ entry ∷ []) born path hw compat reqs
  said_still born path hw compat reqs (inl root) = inl root
  said_still born path hw compat reqs (inr (inl plugged)) = inr (inl (plugged_still path hw compat reqs plugged))
  said_still born path hw compat reqs (inr (inr changed)) = inr (inr (changed_still path hw compat reqs changed))

  said_plugged : (parent path : Text) (hw compat : List Text) (reqs : Reqs) (label : Label) → entry ≡ Happens (Event.Plug parent path hw compat reqs) label → IsPlugged (entries ++ entry ∷ []) path hw compat reqs
  said_plugged parent path hw compat reqs label is =
      (parent, label, Contains-append_right entries (entry ∷ []) (Happens (Event.Plug parent path hw compat reqs) label) (0, omega arith, is))

  said_changed : (path : Text) (hw compat : List Text) (first : Reqs) (by : Text) (reqs : Reqs) (label : Label) → entry ≡ Happens (Event.Change by reqs) label → same path by ≡ true → IsPlugged entries path hw compat first
      → IsChanged (entries ++ entry ∷ []) path hw compat reqs
  said_changed path hw compat first by reqs label is names plugged =
      record { earlier = entries; later = []; named = by; label = label; all = ap (λ (e : Entry). entries ++ e ∷ []) is; names = names; first = first; plugged = plugged }

-- who was changed was plugged before
changed_plugged : (entries : List Entry) (path : Text) (hw compat : List Text) (reqs : Reqs) (c : IsChanged entries path hw compat reqs) → IsPlugged entries path hw compat c.first
changed_plugged entries path hw compat reqs c =
    let (parent, label, there) = c.plugged in (
      parent,
      label,
      subst (λ (es : List Entry). Contains es (Happens (Event.Plug parent path hw compat c.first) label)) (sym c.all)
          (Contains-append_left c.earlier (Happens (Event.Change c.named reqs) c.label ∷ c.later) (Happens (Event.Plug parent path hw compat c.first) label) there),
    )

said_along : SaysAlong Said
said_along entries entry =
    record {
      stays = said_still entries entry;
      plugs = λ born parent path hw compat reqs label is. inr (inl (said_plugged entries entry parent path hw compat reqs label is));
      changes = λ born path hw compat first by reqs label is up was names. inr (inr (changed born path hw compat first by reqs label is names up was));
    }
  where
    changed : (born : ℕ) (path : Text) (hw compat : List Text) (first : Reqs) (by : Text) (reqs : Reqs) (label : Label) → entry ≡ Happens (Event.Change by reqs) label → same path by ≡ true → born ≢ 0 → Said entries born path hw compat first
        → IsChanged (entries ++ entry ∷ []) path hw compat reqs
    changed born path hw compat first by reqs label is names up (inl (zero, root)) = absurd (up zero)
    changed born path hw compat first by reqs label is names up (inr (inl plugged)) = said_changed entries entry path hw compat first by reqs label is names plugged
    changed born path hw compat first by reqs label is names up (inr (inr before)) = said_changed entries entry path hw compat before.first by reqs label is names (changed_plugged entries path hw compat first before)

pub nodes_are_plugged : NodesArePluggedLaw
nodes_are_plugged settings rack entries s run k n at =
    let says = says_all Said said_along settings rack entries s run (inl (refl, record { path_is = refl; hw_is = refl; compat_is = refl; reqs_are = refl })) k n at in
    (says.0, elim says.1 [ inl (zero, root) ↦ inl root | inr said ↦ inr said ], says.2)

said_within : (most : ℕ) (entries : List Entry) → AllByRecursion (IsEntryWithin most) entries → (path : Text) (hw compat : List Text) (reqs : Reqs) → IsSaid entries path hw compat reqs → AreWithin most reqs
said_within most entries within path hw compat reqs (inl root) = subst (λ (x : Reqs). AreWithin most x) (sym root.reqs_are) (λ list there. let less : there.0 < 0 = there.1 in omega arith)
said_within most entries within path hw compat reqs (inr (inl (parent, label, there))) =
    All-contains (IsEntryWithin most) entries (Happens (Event.Plug parent path hw compat reqs) label) (All-from_recursion (IsEntryWithin most) entries within) there
said_within most entries within path hw compat reqs (inr (inr c)) =
    All-contains (IsEntryWithin most) entries (Happens (Event.Change c.named reqs) c.label) (All-from_recursion (IsEntryWithin most) entries within)
    (subst (λ (es : List Entry). Contains es (Happens (Event.Change c.named reqs) c.label)) (sym c.all)
    (Contains-append_right c.earlier (Happens (Event.Change c.named reqs) c.label ∷ c.later) (Happens (Event.Change c.named reqs) c.label) (0, omega arith, refl)))

-- clipping keeps the number of groups
clip_within : (most : ℕ) (rooms : Kind → Room) (reqs : Reqs) → AreWithin most reqs → AreWithin most (clip_by rooms reqs)
clip_within most rooms [] within list there = absurd (contains_nil list there)
clip_within most rooms (x ∷ reqs) within list there =
    let clipped : AltList = map (λ group. map (λ want. clipped_want (rooms want.kind) want) group) x in
    elim (contains_cons clipped (clip_by rooms reqs) list there) [
      | inl is ↦ let same = ap length is ∙ length-map x (λ group. map (λ want. clipped_want (rooms want.kind) want) group) in let few = within x (0, omega arith, refl) in omega arith
      | inr later ↦ clip_within most rooms reqs (λ l h. within l (Contains-append_right (x ∷ []) reqs l h)) list later
    ]

pub needs_are_within : NeedsAreWithinLaw
needs_are_within settings rack entries s run most within k n at =
    let (said, is, clipped) = nodes_are_plugged settings rack entries s run k n at in
    subst (λ (x : Reqs). AreWithin most x) (sym clipped) (clip_within most (room s.windows s.core.nodes n.parent) said (said_within most entries within n.path n.hw n.compat said is))
