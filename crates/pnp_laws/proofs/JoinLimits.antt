-- In a run at most 4,096 nodes join for each event, and without an event no more than the waiting starts allow.
use Rattle.std.proofs.Common.{ℕ, zero, suc, ◌+◌, ◌*◌, ◌≤◌, ◌≡◌, ◌≢◌, ◌==◌, ◌⊎◌, inl, inr, Bool, true, false, not, ◌&&◌, List, [], ◌∷◌, Option, Some, None, refl, sym, ap, ◌∙◌, subst, arith, nat_lt}
use Rattle.std.specs.List.{list_any}
use Rattle.std.proofs.lemmas.Bool.{cases_eq}
use Rattle.std.proofs.lemmas.Bool.Decides.{nat_tests}
use Rattle.pnp_model.specs.Records.{Device, Node, Driver, Task, State, Step, Settings, Duty, Job}
use Rattle.pnp_model.specs.Cores.{node_at}
use Rattle.pnp_model.specs.States.{activity_at, drop_task}
use Rattle.pnp_model.specs.Runs.{Entry, Goes, Run, printed, opening}
use Rattle.pnp_model.specs.Runs.Entry.{Happens, Did, Declines}
use Rattle.pnp_labels.specs.declared.event.Event.{Event}
use Rattle.pnp_labels.specs.declared.label.Label.{Label}
use Rattle.pnp_labels.specs.declared.label.OpKind.{OpKind}
use Rattle.pnp_laws.specs.Words.{IsWord, joined}
use Rattle.pnp_laws.specs.Ends.{AllSteps, events, joins, starts_one, waiting_starts, JoinsAreLimitedLaw, FewJoinLaw}
use Rattle.pnp_laws.specs.Effects.{CommandEffect}
use Rattle.pnp_laws.specs.Kept.{IsGood}
use Rattle.pnp_laws.proofs.EventChanges.{Answered, Outside, happens_outside, still_serial}
use Rattle.pnp_laws.proofs.EffectsOfEvents.{event_effect}
use Rattle.pnp_laws.proofs.RunsStand.{Kept, kept_goes, opening_kept}
use Rattle.pnp_laws.proofs.Joins.{starts, start_cost, closed, some_there, sub_is, any_from, any_at, Born, HasRoom}
use Rattle.pnp_laws.proofs.JoinSteps.{closed_walked, cheaper_pushed, joined_none, live_is, live_from, some_is, starts_pushed}
use Rattle.pnp_laws.proofs.JoinMachine.{born_goes, flows_dropped, opening_born, step_goes}
use Rattle.pnp_laws.proofs.JoinCounts.{reach_room, reach_less, is_alive, live_at, one_of, start_count, is_to_start, opens_at, is_outside, may_join, spare, total, spare_at, spares, join_price, total_less, spare_most, spare_less, spares_less, one_is, other_is, flows_price}
use Rattle.pnp_laws.proofs.JoinRooms.{event_room}
use Rattle.pnp_laws.proofs.Truths.{and_both, both_true, not_true}
use Rattle.pnp_model.specs.Events as ev
use Rattle.pnp_model.specs.Walks.{after}
use Rattle.std.specs.Option.{option_map}

-- Who is live after an event -----------------------------------------------------------------------------------

answered_closed : (old new : Option Job) (k : ℕ) → Answered old new → closed new k ≡ closed old k
answered_closed old new k (inl e) = ap (λ (o : Option Job). closed o k) e
answered_closed old new k (inr (ok, o, e, g)) = ap (λ (x : Option Job). closed x k) g ∙ closed_walked o (option_map (λ w. after w (ev.answer_of ok)) o.walk) k ∙ sym (ap (λ (x : Option Job). closed x k) e)

live_outside : (s : State) (step : Step) → Outside s step → (k : ℕ) → live_at step.state k ≡ true → live_at s k ≡ true
live_outside s step out k h =
    let t = step.state in
    by_node (node_at k s.core.nodes) refl (subst (λ (ns : List Node). is_alive t (node_at k ns) ≡ true) out.nodes h)
  where
    by_node : (o : Option Node) → node_at k s.core.nodes ≡ o → is_alive step.state o ≡ true → is_alive s o ≡ true
    by_node None e h = absurd (cc)
    by_node (Some n) e h =
        let l = live_from step.state n h in
        live_is s n (sym (answered_closed s.operation step.state.operation n.serial out.operation) ∙ l.0)
        (elim l.1 [
          | inl q ↦ inl q
          | inr q ↦
              let a = some_is (activity_at n.serial step.state.activities) q in
              let b = out.activities n.serial a.0 a.1 in
              inr (ap some_there b.1)
        ])

-- One more `start` task ------------------------------------------------------------------------------------------

total_more : (f g : ℕ → ℕ) (n j : ℕ) → ((k : ℕ) → k ≢ j → f k ≤ g k) → f j ≤ g j + 1 → total f n ≤ total g n + 1
total_more f g zero j h one = omega arith
total_more f g (suc n) j h one =
    elim (cases_eq n j) [
      | inl e ↦
          let a = total_less f g n (λ k l. h k (λ q. let r = q in omega arith)) in
          let b : f n ≤ g n + 1 = subst (λ (i : ℕ). f i ≤ g i + 1) (sym e) one in
          omega arith
      | inr d ↦ let a = total_more f g n j h one in let b = h n d in omega arith
    ]

spare_one : (a b : Bool) (c : ℕ) → (a ≡ true → b ≡ true) → spare a (c + 1) ≤ spare b c + 1
spare_one a true c f = spare_most a (c + 1)
spare_one true false c f = absurd (let e = f refl in cc)
spare_one false false c f = by_count c (c + 1) refl
  where
    by_count : (c d : ℕ) → d ≡ c + 1 → spare false d ≤ spare false c + 1
    by_count c zero e = absurd (omega arith)
    by_count zero (suc d) e = omega arith
    by_count (suc c) (suc d) e = omega arith

-- one more `start` task, and all else as it was
abbrev Starts : State → State → Type 0
Starts s t =
    (j : ℕ) × ((cost : ℕ → ℕ) → starts cost t.tasks ≡ starts cost s.tasks + cost j) × (t.world ≡ s.world) × ((k : ℕ) → live_at t k ≡ live_at s k) × ((d : Device) → is_outside t d ≡ is_outside s d)

-- at most one `start` task more
event_starts : (s t : State) → CommandEffect s t → ((cost : ℕ → ℕ) → starts cost t.tasks ≤ starts cost s.tasks) ⊎ Starts s t
event_starts s t (CommandEffect.same e) = inl (λ cost. let h = ap (starts cost) e in omega arith)
event_starts s t (CommandEffect.lists k e) = inl (λ cost. let h = ap (starts cost) e in let g = cheaper_pushed s.tasks (record { kind = Duty.Listing; serial = k }) (λ cost. refl) cost in omega arith)
event_starts s t (CommandEffect.starts path n enabled e) =
    inr (
      n.serial,
      λ cost. ap (starts cost) e ∙ starts_pushed cost s.tasks (record { kind = Duty.Starting; serial = n.serial }),
      subst (λ (x : State). x.world ≡ s.world) (sym enabled.stays) refl,
      λ k. subst (λ (x : State). live_at x k ≡ live_at s k) (sym enabled.stays) refl,
      λ d. subst (λ (x : State). is_outside x d ≡ is_outside s d) (sym enabled.stays) refl,
    )
event_starts s t (CommandEffect.finishes n path found gone e) =
    inl (λ cost. let h = ap (starts cost) e in let g = cheaper_pushed s.tasks (record { kind = Duty.Begins OpKind.Finish; serial = n.serial }) (λ cost. refl) cost in omega arith)
event_starts s t (CommandEffect.begins kind n path found up e) = inl (λ cost. let h = ap (starts cost) e in let g = cheaper_pushed s.tasks (record { kind = Duty.Begins kind; serial = n.serial }) (λ cost. refl) cost in omega arith)

record More (s t : State) : Type 0 where
  good : IsGood s
  nodes : t.core.nodes ≡ s.core.nodes
  serial : t.next_serial ≡ s.next_serial
  starts : Starts s t

other_count : (s t : State) (m : More s t) (k : ℕ) → k ≢ m.starts.0 → start_count t k ≡ start_count s k
other_count s t m k d = let a = m.starts.1 (one_of k) in let b = other_is k m.starts.0 d in omega arith

own_count : (s t : State) (m : More s t) → start_count t m.starts.0 ≡ start_count s m.starts.0 + 1
own_count s t m = let a = m.starts.1 (one_of m.starts.0) in let b = one_is m.starts.0 m.starts.0 refl in omega arith

other_spare : (s t : State) (m : More s t) (k : ℕ) → k ≢ m.starts.0 → spare_at t k ≤ spare_at s k
other_spare s t m k d = spare_less (live_at t k) (live_at s k) (start_count t k) (start_count s k) (let e = other_count s t m k d in omega arith) (λ h. inl (sym (m.starts.3 k) ∙ h))

own_spare : (s t : State) (m : More s t) → spare_at t m.starts.0 ≤ spare_at s m.starts.0 + 1
own_spare s t m =
    let j = m.starts.0 in
    subst (λ (c : ℕ). spare (live_at t j) c ≤ spare_at s j + 1) (sym (own_count s t m)) (spare_one (live_at t j) (live_at s j) (start_count s j) (λ h. sym (m.starts.3 j) ∙ h))

one_more : (s t : State) → More s t → spares t ≤ spares s + 1
one_more s t m = subst (λ (n : ℕ). total (spare_at t) n ≤ spares s + 1) (sym m.serial) (total_more (spare_at t) (spare_at s) s.next_serial m.starts.0 (other_spare s t m) (own_spare s t m))

-- it is the only one, and the device is not live
no_more : (s t : State) (m : More s t) → live_at s m.starts.0 ≡ false → start_count s m.starts.0 ≡ 0 → spares t ≤ spares s
no_more s t m dead none = subst (λ (n : ℕ). total (spare_at t) n ≤ spares s) (sym m.serial) (total_less (spare_at t) (spare_at s) s.next_serial (λ k l. at k (cases_eq k m.starts.0)))
  where
    at_own : spare_at t m.starts.0 ≡ 0
    at_own =
        let j = m.starts.0 in
        let one : start_count t j ≡ 1 = let e = own_count s t m in omega arith in
        subst (λ (a : Bool). spare a (start_count t j) ≡ 0) (sym (m.starts.3 j ∙ dead)) (subst (λ (c : ℕ). spare false c ≡ 0) (sym one) refl)

    at : (k : ℕ) → (k ≡ m.starts.0) ⊎ (k ≢ m.starts.0) → spare_at t k ≤ spare_at s k
    at k (inl e) = let h = at_own in let g : spare_at t k ≡ 0 = subst (λ (i : ℕ). spare_at t i ≡ 0) (sym e) h in omega arith
    at k (inr d) = other_spare s t m k d

-- else nobody else can start
same_opens : (s t : State) (m : More s t) → (live_at s m.starts.0 ≡ true) ⊎ (nat_lt 0 (start_count s m.starts.0) ≡ true) → (b : ℕ) → opens_at t b ≡ true → opens_at s b ≡ true
same_opens s t m known b h =
    let x = any_at (λ n. n.born == b && is_to_start t n.serial) 0 s.core.nodes m.good.serials (subst (λ (ns : List Node). list_any (λ n. n.born == b && is_to_start t n.serial) ns ≡ true) m.nodes h) in
    let k = x.0.serial in
    let two = and_both (x.0.born == b) (is_to_start t k) x.2 in
    let start = and_both (not (live_at t k)) (nat_lt 0 (start_count t k)) two.1 in
    let dead : not (live_at s k) ≡ true = ap not (sym (m.starts.3 k)) ∙ start.0 in
    any_from (λ n. n.born == b && is_to_start s n.serial) s.core.nodes k x.0 x.1 (both_true (x.0.born == b) (is_to_start s k) two.0 (both_true (not (live_at s k)) (nat_lt 0 (start_count s k)) dead (by_serial k dead start.1 (cases_eq k m.starts.0))))
  where
    by_serial : (k : ℕ) → not (live_at s k) ≡ true → nat_lt 0 (start_count t k) ≡ true → (k ≡ m.starts.0) ⊎ (k ≢ m.starts.0) → nat_lt 0 (start_count s k) ≡ true
    by_serial k dead some (inr d) = ap (nat_lt 0) (sym (other_count s t m k d)) ∙ some
    by_serial k dead some (inl e) =
        elim known [
          | inl live ↦ absurd (let l : live_at s k ≡ true = subst (λ (i : ℕ). live_at s i ≡ true) (sym e) live in let g = not_true (live_at s k) dead in cc)
          | inr more ↦ subst (λ (i : ℕ). nat_lt 0 (start_count s i) ≡ true) (sym e) more
        ]

more_price : (s t : State) → More s t → HasRoom t.world → join_price t ≤ join_price s + 4096
more_price s t m room =
    by_known (live_at s m.starts.0) (nat_lt 0 (start_count s m.starts.0)) refl refl
  where
    few : may_join t ≤ 4096
    few = reach_room (opens_at t) (is_outside t) t.world room

    known_so : (live_at s m.starts.0 ≡ true) ⊎ (nat_lt 0 (start_count s m.starts.0) ≡ true) → join_price t ≤ join_price s + 4096
    known_so known =
        let a = one_more s t m in
        let b = reach_less (opens_at t) (opens_at s) (is_outside t) (is_outside s) t.world s.world (sub_is t.world s.world m.starts.2) (same_opens s t m known) (λ d i h. inl (sym (m.starts.4 d) ∙ h)) in
        omega arith

    by_known : (a b : Bool) → live_at s m.starts.0 ≡ a → nat_lt 0 (start_count s m.starts.0) ≡ b → join_price t ≤ join_price s + 4096
    by_known true b e f = known_so (inl e)
    by_known false true e f = known_so (inr f)
    by_known false false e f = let a = no_more s t m e (grind (arith, nat_tests)) in let b = few in omega arith

-- Events -----------------------------------------------------------------------------------------------------------

event_price : (s : State) (event : Event) → IsGood s → Born s → join_price (ev.happens s event).state ≤ join_price s + 4096
event_price s event good born =
    let step = ev.happens s event in
    let t = step.state in
    let effect = event_effect s event in
    let out = happens_outside s event in
    let serial = still_serial s.next_serial t.next_serial step.label out.word effect.serial in
    let room = event_room s event step.label t effect.world born in
    elim (event_starts s t effect.tasks) [
      | inl cheaper ↦
          let a = spares_less s t serial (λ k. (cheaper (one_of k), λ h. inl (live_outside s step out k h))) in
          let b = reach_room (opens_at t) (is_outside t) t.world room in
          omega arith
      | inr starts ↦ more_price s t (record { good = good; nodes = out.nodes; serial = serial; starts = starts }) room
    ]

-- Runs ---------------------------------------------------------------------------------------------------------------

pub word_no_join : (label : Label) → IsWord label → joined label ≡ 0
word_no_join (Label.Did deed) h = refl
word_no_join (Label.Refused word reason) h = refl
word_no_join _ h = absurd h

joined_one : (label : Label) → joined label ≤ 1
joined_one (Label.Join k path) = omega arith
joined_one _ = omega arith

-- what each state keeps
record Limited (s : State) : Type 0 where
  kept : Kept s
  born : Born s

limited_goes : (settings : Settings) (old : State) (entry : Entry) (new : State) → Limited old → Goes settings old entry new → Limited new
limited_goes settings old entry new l goes = record { kept = kept_goes settings old entry new l.kept goes; born = born_goes settings old entry new l.kept l.born goes }

entry_price : (settings : Settings) (old : State) (entry : Entry) (new : State) → Limited old → Goes settings old entry new → joined (printed entry) + join_price new ≤ 4096 * events (entry ∷ []) + join_price old
entry_price settings old (Happens event label) new l goes =
    let word = subst (λ (t : Step). Outside old t) goes.1 (happens_outside old event) in
    let none = word_no_join label word.word in
    let price = subst (λ (t : Step). join_price t.state ≤ join_price old + 4096) goes.1 (event_price old event l.kept.good l.born) in
    omega arith
entry_price settings old (Did label) new l goes =
    elim (step_goes settings old (record { label = label; state = new }) l.kept l.born goes).1 [
      | inl fewer ↦ let one = joined_one label in omega arith
      | inr (price, no_join) ↦ let none = joined_none label no_join in omega arith
    ]
entry_price settings old (Declines label) new l goes =
    let none : joined label ≡ 0 = ap joined goes.says in
    let price = flows_price old (drop_task old) l.kept.good l.kept.good l.kept.stands.tree l.born (flows_dropped old) l.born.room in
    let now = ap join_price goes.dropped in
    omega arith

events_first : (entry : Entry) (rest : List Entry) → events (entry ∷ rest) ≡ events (entry ∷ []) + events rest
events_first (Happens event label) rest = omega arith
events_first (Did label) rest = omega arith
events_first (Declines label) rest = omega arith

run_price : (settings : Settings) (old : State) (entries : List Entry) (new : State) → Limited old → Run settings old entries new → joins entries + join_price new ≤ 4096 * events entries + join_price old
run_price settings old [] new l run = subst (λ (s : State). 0 + join_price s ≤ 4096 * 0 + join_price old) (sym run) (omega arith)
run_price settings old (entry ∷ rest) new l (mid, goes, run) =
    let first = entry_price settings old entry mid l goes in
    let more = run_price settings mid rest new (limited_goes settings old entry mid l goes) run in
    let e = events_first entry rest in
    omega arith

opening_price : (rack : List Driver) → join_price (opening rack) ≡ 0
opening_price rack = refl

limited_opening : (rack : List Driver) → Limited (opening rack)
limited_opening rack = record { kept = opening_kept rack; born = opening_born rack }

pub joins_are_limited : JoinsAreLimitedLaw
joins_are_limited settings rack entries s run =
    let h = run_price settings (opening rack) entries s (limited_opening rack) run in
    let z = opening_price rack in
    omega arith

-- Until something happens ------------------------------------------------------------------------------------------

total_none : (n : ℕ) → total (λ k. 0) n ≤ 0
total_none zero = omega arith
total_none (suc n) = let h = total_none n in omega arith

-- each task counts at its own serial alone
counts_total : (tasks : List Task) (n : ℕ) → total (λ k. starts (one_of k) tasks) n ≤ waiting_starts tasks
counts_total [] n = total_none n
counts_total (task ∷ tasks) n = by_kind task.kind task.serial (counts_total tasks n)
  where
    by_kind : (kind : Duty) (j : ℕ) → total (λ k. starts (one_of k) tasks) n ≤ waiting_starts tasks → total (λ k. start_cost (one_of k) kind j + starts (one_of k) tasks) n ≤ starts_one kind + waiting_starts tasks
    by_kind Duty.Listing j h = let a = total_less (λ k. 0 + starts (one_of k) tasks) (λ k. starts (one_of k) tasks) n (λ k l. omega arith) in omega arith
    by_kind Duty.Starting j h =
        let a = total_more (λ k. one_of k j + starts (one_of k) tasks) (λ k. starts (one_of k) tasks) n j (λ k d. let e = other_is k j d in omega arith) (let e = one_is j j refl in omega arith) in
        omega arith
    by_kind (Duty.Begins kind) j h = let a = total_less (λ k. 0 + starts (one_of k) tasks) (λ k. starts (one_of k) tasks) n (λ k l. omega arith) in omega arith

spares_waiting : (s : State) → spares s ≤ waiting_starts s.tasks
spares_waiting s =
    let a = total_less (spare_at s) (start_count s) s.next_serial (λ k l. spare_most (live_at s k) (start_count s k)) in
    let b = counts_total s.tasks s.next_serial in
    omega arith

no_events : (more : List Entry) → AllSteps more → events more ≡ 0
no_events [] all = refl
no_events (Happens event label ∷ rest) all = absurd all
no_events (Did label ∷ rest) all = no_events rest all
no_events (Declines label ∷ rest) all = absurd all

limited_run : (settings : Settings) (old : State) (entries : List Entry) (new : State) → Limited old → Run settings old entries new → Limited new
limited_run settings old [] new l run = subst Limited (sym run) l
limited_run settings old (entry ∷ rest) new l (mid, goes, run) = limited_run settings mid rest new (limited_goes settings old entry mid l goes) run

pub few_join : FewJoinLaw
few_join settings rack entries s run more last all steps =
    let l = limited_run settings (opening rack) entries s (limited_opening rack) run in
    let h = run_price settings s more last l steps in
    let none = no_events more all in
    let few = reach_room (opens_at s) (is_outside s) s.world l.born.room in
    let spare = spares_waiting s in
    omega arith
