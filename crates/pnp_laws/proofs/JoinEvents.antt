-- What is kept of births, by an event.
use Rattle.std.proofs.Common.{ℕ, suc, ◌<◌, ◌≤◌, ◌≡◌, ◌≢◌, ◌==◌, ◌||◌, ◌⊎◌, inl, inr, Bool, true, false, cond, List, [], ◌∷◌, ◌++◌, Some, refl, sym, ap, ◌∙◌, subst, arith, nat_lt}
use Rattle.std.proofs.lemmas.Bool.Decides.{nat_tests}
use Rattle.device_ids.specs.Folding.{same}
use Rattle.pnp_model.specs.Records.{Node, Device, State, Duty}
use Rattle.pnp_model.specs.Cores.{node_at}
use Rattle.pnp_model.specs.Runs.{Entry}
use Rattle.pnp_model.specs.Runs.Entry.{Happens}
use Rattle.resource_reqs.specs.Resources.{Reqs}
use Rattle.pnp_model.specs.Keyed.{changed_first}
use Rattle.pnp_model.specs.States.{change_device, is_in_world, plug, requires}
use Rattle.pnp_labels.specs.declared.event.Event.{Event}
use Rattle.pnp_labels.specs.declared.label.OpKind.{OpKind}
use Rattle.pnp_laws.specs.Effects.{CommandEffect, WorldEffect}
use Rattle.pnp_laws.specs.Kept.{IsGood}
use Rattle.pnp_laws.proofs.EffectsOfEvents.{event_effect}
use Rattle.pnp_laws.proofs.EventChanges.{Answered, happens_outside, still_serial}
use Rattle.pnp_laws.proofs.Lookups.{node_found}
use Rattle.pnp_laws.proofs.Joins.{In, Sub, in_named, sub_same, sub_in, sub_without, Grows, Born, Leaving, HasRoom, grows_changed, room_changed, starts, unborn}
use Rattle.pnp_laws.proofs.JoinBirths.{grows_sub}
use Rattle.pnp_laws.proofs.JoinFinishes.{leaving_answered, leaving_fewer}
use Rattle.pnp_laws.proofs.JoinRooms.{event_room}
use Rattle.pnp_laws.proofs.JoinSteps.{in_find, starts_pushed}
use Rattle.pnp_laws.proofs.Truths.{neither, or_neither}
use Rattle.pnp_model.specs.Events as ev

-- Who is in the world ------------------------------------------------------------------------------------

world_changed : (born k : ℕ) (reqs : Reqs) (ds : List Device) → is_in_world (changed_first (λ d. d.born == born) (requires reqs) ds) k ≡ is_in_world ds k
world_changed born k reqs [] = refl
world_changed born k reqs (d ∷ ds) = by_test (d.born == born) (world_changed born k reqs ds)
  where
    by_test : (b : Bool) → is_in_world (changed_first (λ x. x.born == born) (requires reqs) ds) k ≡ is_in_world ds k → is_in_world (cond b (requires reqs d ∷ ds) (d ∷ changed_first (λ x. x.born == born) (requires reqs) ds)) k ≡ is_in_world (d ∷ ds) k
    by_test true h = refl
    by_test false h = ap (λ (x : Bool). (d.born == k) || x) h

world_sub : (k : ℕ) (xs ys : List Device) → Sub xs ys → is_in_world ys k ≡ false → is_in_world xs k ≡ false
world_sub k _ _ Sub.none out = out
world_sub k _ _ (Sub.keep d xs ys sub) out = let two = or_neither (d.born == k) (is_in_world ys k) out in neither (d.born == k) (is_in_world xs k) two.0 (world_sub k xs ys sub two.1)
world_sub k _ _ (Sub.skip d xs ys sub) out = world_sub k xs ys sub (or_neither (d.born == k) (is_in_world ys k) out).1

world_more : (k : ℕ) (d : Device) (ds : List Device) → d.born ≢ k → is_in_world ds k ≡ false → is_in_world (ds ++ d ∷ []) k ≡ false
world_more k d [] other out = grind (arith, nat_tests)
world_more k d (x ∷ xs) other out = let two = or_neither (x.born == k) (is_in_world xs k) out in neither (x.born == k) (is_in_world (xs ++ d ∷ []) k) two.0 (world_more k d xs other two.1)

-- What is kept ----------------------------------------------------------------------------------------------

-- a device requires something else
born_requires : (s : State) (born : ℕ) (reqs : Reqs) → Born s → Born (change_device born reqs s)
born_requires s born reqs b =
    record {
      room = room_changed born reqs s.world b.room;
      grows = grows_changed 0 born reqs s.world b.grows;
      fresh = λ d there. let x = in_named born reqs s.world d there in subst (λ (i : ℕ). i < s.next_born) x.2 (b.fresh x.0 x.1);
      apart = b.apart;
      first = b.first;
      known = b.known;
      soon = b.soon;
      links = λ k n p d at there in_world e. let x = in_named born reqs s.world d in_world in b.links k n p x.0 at there x.1 (x.2 ∙ e) ∙ x.3;
      leaving = leaving_fewer s.operation s.core.nodes s.world (change_device born reqs s).world (λ k n at out. world_changed born n.born reqs s.world ∙ out) b.leaving;
    }

born_calm : (s t : State) → Sub t.world s.world → t.next_born ≡ s.next_born → t.core.nodes ≡ s.core.nodes → Answered s.operation t.operation → t.next_serial ≡ s.next_serial → starts (unborn s.next_serial) t.tasks ≡ 0 → HasRoom t.world → Born s → Born t
born_calm s t world next nodes answered serial soon room b =
    record {
      room = room;
      grows = grows_sub 0 t.world s.world world b.grows;
      fresh = λ d there. subst (λ (i : ℕ). d.born < i) (sym next) (b.fresh d (sub_in t.world s.world world d there));
      apart = λ j k n m at there e. b.apart j k n m (was j n at) (was k m there) e;
      first = λ k n at e. b.first k n (was k n at) e;
      known = λ k n at. subst (λ (i : ℕ). n.born < i) (sym next) (b.known k n (was k n at));
      soon = subst (λ (i : ℕ). starts (unborn i) t.tasks ≡ 0) (sym serial) soon;
      links = λ k n p d at there in_world e. b.links k n p d (was k n at) (was n.parent p there) (sub_in t.world s.world world d in_world) e;
      leaving = subst (λ (x : List Node). Leaving t.operation x t.world) (sym nodes)
          (leaving_fewer t.operation s.core.nodes s.world t.world (λ k n at out. world_sub n.born t.world s.world world out) (leaving_answered s.operation t.operation s.core.nodes s.world answered b.leaving));
    }
  where
    was : (k : ℕ) (n : Node) → node_at k t.core.nodes ≡ Some n → node_at k s.core.nodes ≡ Some n
    was k n at = subst (λ (x : List Node). node_at k x ≡ Some n) nodes at

-- a device is plugged in
grows_more : (lo hi : ℕ) (ds : List Device) (d : Device) → Grows lo ds → ((x : Device) → In x ds → x.born < d.born) → lo ≤ d.born → d.parent ≤ d.born → Grows lo (ds ++ d ∷ [])
grows_more lo hi [] d h all l under = (l, under, tt)
grows_more lo hi (x ∷ xs) d h all l under = let a = all x (inl refl) in (h.0, h.1, grows_more (suc x.born) hi xs d h.2 (λ y i. all y (inr i)) (omega arith) under)

in_more : (ds : List Device) (d x : Device) → In x (ds ++ d ∷ []) → In x ds ⊎ (x ≡ d)
in_more [] d x (inl e) = inr (sym e)
in_more [] d x (inr h) = absurd h
in_more (y ∷ ys) d x (inl e) = inl (inl e)
in_more (y ∷ ys) d x (inr h) = elim (in_more ys d x h) [ inl g ↦ inl (inr g) | inr g ↦ inr g ]

born_plug : (s : State) (d : Device) → d.born ≡ s.next_born → d.parent ≤ d.born → HasRoom (s.world ++ d ∷ []) → Born s → Born (plug d s)
born_plug s d own under room b =
    record {
      room = room;
      grows = grows_more 0 0 s.world d b.grows (λ x i. subst (λ (n : ℕ). x.born < n) (sym own) (b.fresh x i)) (omega arith) under;
      fresh = λ x i. elim (in_more s.world d x i) [
        | inl h ↦ let l = b.fresh x h in omega arith
        | inr e ↦ let f = ap (λ (z : Device). z.born) e in omega arith
      ];
      apart = b.apart;
      first = b.first;
      known = λ k n at. let l = b.known k n at in omega arith;
      soon = b.soon;
      links = λ k n p x at there i e. elim (in_more s.world d x i) [
        | inl h ↦ b.links k n p x at there h e
        | inr f ↦ absurd (let l = b.known k n at in let g = ap (λ (z : Device). z.born) f in omega arith)
      ];
      leaving = leaving_fewer s.operation s.core.nodes s.world (s.world ++ d ∷ []) (λ k n at out. world_more n.born d s.world (λ e. let l = b.known k n at in absurd (omega arith)) out) b.leaving;
    }

-- an event adds a start only for a node that is there
soon_tasks : (s t : State) → IsGood s → CommandEffect s t → starts (unborn s.next_serial) s.tasks ≡ 0 → starts (unborn s.next_serial) t.tasks ≡ 0
soon_tasks s t good (CommandEffect.same e) soon = ap (starts (unborn s.next_serial)) e ∙ soon
soon_tasks s t good (CommandEffect.lists k e) soon = ap (starts (unborn s.next_serial)) e ∙ (let p = starts_pushed (unborn s.next_serial) s.tasks (record { kind = Duty.Listing; serial = k }) in omega arith)
soon_tasks s t good (CommandEffect.starts path n enabled e) soon =
    let given = good.below n.serial n (node_found (λ m. same m.path path) 0 s.core.nodes n good.serials enabled.at).1 in
    let none : unborn s.next_serial n.serial ≡ 0 = ap (λ (b : Bool). cond b 0 1) (below n.serial s.next_serial given) in
    ap (starts (unborn s.next_serial)) e ∙ (let p = starts_pushed (unborn s.next_serial) s.tasks (record { kind = Duty.Starting; serial = n.serial }) in omega arith)
  where
    below : (k n : ℕ) → k < n → nat_lt k n ≡ true
    below k n l = grind (arith, nat_tests)
soon_tasks s t good (CommandEffect.finishes n path found gone e) soon =
    ap (starts (unborn s.next_serial)) e ∙ (let p = starts_pushed (unborn s.next_serial) s.tasks (record { kind = Duty.Begins OpKind.Finish; serial = n.serial }) in omega arith)
soon_tasks s t good (CommandEffect.begins kind n path found up e) soon =
    ap (starts (unborn s.next_serial)) e ∙ (let p = starts_pushed (unborn s.next_serial) s.tasks (record { kind = Duty.Begins kind; serial = n.serial }) in omega arith)

born_world : (s : State) (entry : Entry) (t : State) → WorldEffect s entry t → t.core.nodes ≡ s.core.nodes → Answered s.operation t.operation → t.next_serial ≡ s.next_serial → starts (unborn s.next_serial) t.tasks ≡ 0 → HasRoom t.world → Born s → Born t
born_world s entry t (WorldEffect.same world next) nodes answered serial soon room born = born_calm s t (subst (λ (w : List Device). Sub w s.world) (sym world) (sub_same s.world)) next nodes answered serial soon room born
born_world s entry t (WorldEffect.plugged d why world next) nodes answered serial soon room born =
    let over = born.fresh why.over (in_find (λ x. same x.path why.parent) s.world why.over why.there).1 in
    let own = why.born in
    let under = why.under in
    born_calm (plug d s) t (subst (λ (w : List Device). Sub w (s.world ++ d ∷ [])) (sym world) (sub_same (s.world ++ d ∷ []))) next nodes answered serial soon room (born_plug s d why.born (omega arith) (subst HasRoom world room) born)
born_world s entry t (WorldEffect.changed n path reqs prints at up is there e world next) nodes answered serial soon room born =
    let mid = change_device n.born reqs s in
    born_calm mid t (subst (λ (w : List Device). Sub w mid.world) (sym world) (sub_same mid.world)) next nodes answered serial soon room (born_requires s n.born reqs born)
born_world s entry t (WorldEffect.unplugged gone why world next) nodes answered serial soon room born =
    born_calm s t (subst (λ (w : List Device). Sub w s.world) (sym world) (sub_without (gone ∷ []) s.world)) next nodes answered serial soon room born

pub born_happens : (s : State) (event : Event) → IsGood s → Born s → Born (ev.happens s event).state
born_happens s event good born =
    let effect = event_effect s event in
    let t = (ev.happens s event).state in
    let out = happens_outside s event in
    let serial = still_serial s.next_serial t.next_serial (ev.happens s event).label out.word effect.serial in
    born_world s (Happens event (ev.happens s event).label) t effect.world out.nodes out.operation serial (soon_tasks s t good effect.tasks born.soon) (event_room s event (ev.happens s event).label t effect.world born) born
