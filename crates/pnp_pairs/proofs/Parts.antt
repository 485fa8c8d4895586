-- A part of the tree stays by itself.
use Rattle.std.proofs.Common.{ℕ, ◌≡◌, ◌≢◌, ◌⊎◌, ◌==◌, ◌&&◌, ◌↔◌, inl, inr, Bool, true, false, List, [], ◌∷◌, Option, Some, None, Contains, length, refl, sym, ap, ◌∙◌, subst, arith, cond}
use Rattle.std.specs.List.{list_any}
use Rattle.std.proofs.lemmas.Bool.Decides.{nat_tests}
use Rattle.device_ids.specs.Folding.{same}
use Rattle.resource_reqs.proofs.Counts.{contains_cons, contains_nil}
use Rattle.pnp_labels.specs.Texts.{Text}
use Rattle.pnp_labels.specs.declared.event.Event.{Event}
use Rattle.pnp_labels.specs.declared.label.Label.{Label}
use Rattle.pnp_labels.specs.declared.label.OpKind.{OpKind}
use Rattle.pnp_labels.specs.declared.label.OpEnd.{OpEnd}
use Rattle.pnp_model.specs.Cores.{node_at}
use Rattle.pnp_model.specs.Events.{happens}
use Rattle.pnp_model.specs.Keyed.{those}
use Rattle.pnp_model.specs.Laws.{IsWithin}
use Rattle.pnp_model.specs.Machine as ma
use Rattle.pnp_model.specs.Records.{Activity, Core, Device, Driver, Duty, Job, Node, Relation, Settings, State, Step, Task}
use Rattle.pnp_model.specs.Runs.{Entry, Goes}
use Rattle.pnp_model.specs.Runs.Entry.{Happens, Did, Declines}
use Rattle.pnp_model.specs.Tasks.{joins}
use Rattle.pnp_model.specs.Tests.{has}
use Rattle.pnp_model.specs.Trees.{direct, grown, hangs_on}
use Rattle.pnp_laws.specs.Effects.{OpEffect, WorldEffect}
use Rattle.pnp_laws.specs.Kept.{Ascending}
use Rattle.pnp_laws.specs.Reached.{IsReached}
use Rattle.pnp_laws.proofs.Closures.{closed_in_all, grown_from, hangs_some}
use Rattle.pnp_laws.proofs.Decides.{contains_here, contains_later}
use Rattle.pnp_laws.proofs.EventChanges.{happens_outside}
use Rattle.pnp_laws.proofs.EffectViews.{Origin, origin}
use Rattle.pnp_laws.proofs.EffectsOf.{effect_goes}
use Rattle.pnp_laws.proofs.Lists.{has_cases, head_found, head_has, member, those_found}
use Rattle.pnp_laws.proofs.Lookups.{own_serial}
use Rattle.pnp_laws.proofs.Reaching.{reached_on}
use Rattle.pnp_laws.proofs.RunsStand.{Kept, reaches_kept}
use Rattle.pnp_laws.proofs.TreeMoves.{edge_cases}
use Rattle.pnp_laws.proofs.Truths.{and_both, or_cases}
use Rattle.pnp_promises.proofs.LinesIdle.{found_in}
use Rattle.pnp_promises.proofs.Relations.{relations_go_with_drivers}
use Rattle.pnp_pairs.specs.OwnSets.{IsInSet, IsOneOf, NamesOneOf, TakesSet}
use Rattle.pnp_pairs.specs.Parts.{IsApart, IsLocal, IsOfPart, NamesMine, PartsStayApartLaw, RunOfPart, named}
use Rattle.pnp_pairs.proofs.OwnSets.{Stays, happens_stays, has_begun, stepped, taken}
use Rattle.pnp_pairs.proofs.PartEvents.{event_mine}
use Rattle.pnp_pairs.proofs.PartOperations.{in_world_still, op_rest}
use Rattle.pnp_pairs.proofs.PartSteps.{idle_mine, in_dropped, in_more}

-- Who is there after a step ------------------------------------------------------------------------------------

-- it was there before, with the same parent, birth number and path, or it is of the world and has joined
data Was (s : State) (k : ℕ) (m : Node) : Type 0 where
  there : (x : Node) → node_at k s.core.nodes ≡ Some x → m.parent ≡ x.parent → m.born ≡ x.born → m.path ≡ x.path → Was s k m
  new : (d : Device) → Contains s.world d → m.born ≡ d.born → m.path ≡ d.path → s.next_serial ≡ k → Was s k m

was : (s : State) (label : Label) (t : State) (k : ℕ) (m : Node) → Origin s label t k m → Was s k m
was s label t k m (Origin.was x at) = Was.there x at refl refl refl
was s label t k _ (Origin.walked x minor w bad at request other ends verdict prints) = Was.there x at refl refl refl
was s label t k _ (Origin.troubled x problem at) = Was.there x at refl refl refl
was s label t k _ (Origin.stacks x d ds name at acts prints) = Was.there x at refl refl refl
was s label t k _ (Origin.assigned x phase plan at acts search part now) = Was.there x at refl refl refl
was s label t k _ (Origin.stripped x w at request prints) = Was.there x at refl refl refl
was s label t k _ (Origin.commits r x runs course is at) = Was.there x at refl refl refl
was s label t k _ (Origin.joins node d below gone own) = Was.new d (found_in (joins node.born s.core.nodes) s.world d below) refl refl own

in_those : {A : Type 0} (test : A → Bool) (xs : List A) (x : A) → Contains (those test xs) x → Contains xs x
in_those test [] x c = absurd (contains_nil x c)
in_those {A = A} test (y ∷ ys) x c = by_test (test y) c (in_those test ys x)
  where
    by_test : (b : Bool) → Contains (cond b (y ∷ those test ys) (those test ys)) x → (Contains (those test ys) x → Contains ys x) → Contains (y ∷ ys) x
    by_test true h more = elim (contains_cons y (those test ys) x h) [ inl e ↦ subst (λ (z : A). Contains (y ∷ ys) z) (sym e) (contains_here y ys) | inr q ↦ contains_later y ys x (more q) ]
    by_test false h more = contains_later y ys x (more h)

-- a step takes from the world at most
world_of : (s : State) (label : Label) (t : State) → WorldEffect s (Did label) t → (d : Device) → Contains t.world d → Contains s.world d
world_of s label t (WorldEffect.same e next) d c = subst (λ (ds : List Device). Contains ds d) e c
world_of s label t (WorldEffect.plugged x plug e next) d c = absurd (let z = plug.event in cc)
world_of s label t (WorldEffect.changed node path reqs words at up started inside event e next) d c = absurd (cc)
world_of s label t (WorldEffect.unplugged gone why e next) d c = in_world_still (gone ∷ []) s.world d (subst (λ (ds : List Device). Contains ds d) e c)

-- They stand apart still ----------------------------------------------------------------------------------------

module _ (settings : Settings) (rack : List Driver) (mine : ℕ → Bool) where
  apart_goes : (s : State) (label : Label) (t : State) → IsReached settings rack s → Goes settings s (Did label) t → IsApart mine s → IsApart mine t
  apart_goes s label t (entries, run) goes apart =
      let effect = effect_goes settings s (Did label) t goes in
      let order = (reaches_kept settings rack entries s run).good.serials in
      let from = λ (k : ℕ) (m : Node) (at : node_at k t.core.nodes ≡ Some m). was s label t k m (origin s label t order k m effect.nodes at) in
      let world = world_of s label t effect.world in
      record {
        later = λ k above. apart.later k (let e = effect.serial in omega arith);
        below = λ k n at up over. by_below k n (from k n at) up over;
        members = λ r c owner. elim (relations_go_with_drivers settings rack entries s label t run goes) [
          | inl e ↦ apart.members r (subst (λ (rs : List Relation). Contains rs r) e c) owner
          | inr (n, at, says, e) ↦ apart.members r (in_those _ s.core.relations r (subst (λ (rs : List Relation). Contains rs r) e c)) owner
        ];
        one_path = λ d e c g p. apart.one_path d e (world d c) (world e g) p;
        returns = λ k j n over d at own c path other over_at under. by_returns k j n over d (from k n at) own (world d c) path other (from j over over_at) under;
      }
    where
      by_below : (k : ℕ) (n : Node) → Was s k n → k ≢ 0 → mine n.parent ≡ true → mine k ≡ true
      by_below k n (Was.there x at parent born path) up over = apart.below k x at up (ap mine (sym parent) ∙ over)
      by_below k n (Was.new d c born path is) up over = apart.later k (omega arith)

      by_returns : (k j : ℕ) (n over : Node) (d : Device) → Was s k n → mine k ≡ true → Contains s.world d → same d.path n.path ≡ true → d.born ≢ n.born → Was s j over → over.born ≡ d.parent → mine j ≡ true
      by_returns k j n over d (Was.there x at parent born path) own c p other (Was.there y at2 parent2 born2 path2) under =
          apart.returns k j x y d at own c (ap (same d.path) (sym path) ∙ p) (λ e. other (e ∙ sym born)) at2 (sym born2 ∙ under)
      by_returns k j n over d (Was.new e c2 born path is) own c p other (Was.there y at2 parent2 born2 path2) under =
          absurd (other (apart.one_path d e c c2 (ap (same d.path) (sym path) ∙ p) ∙ sym born))
      by_returns k j n over d from own c p other (Was.new e c2 born path is) under = apart.later j (omega arith)

  -- What depends on one of them is one of them ------------------------------------------------------------------

  module _ (s : State) (apart : IsApart mine s) (order : Ascending 0 s.core.nodes) where
    of_relation : (rs : List Relation) (k m : ℕ) → ((r : Relation) → Contains rs r → mine r.owner ≡ true → mine r.member ≡ true) → mine k ≡ true → list_any (λ (r : Relation). r.member == m && has (k ∷ []) r.owner) rs ≡ true → mine m ≡ true
    of_relation [] k m all own h = absurd (cc)
    of_relation (r ∷ rs) k m all own h =
        elim (or_cases (r.member == m && has (k ∷ []) r.owner) (list_any (λ (x : Relation). x.member == m && has (k ∷ []) x.owner) rs) h) [
          | inl a ↦
              let two = and_both (r.member == m) (has (k ∷ []) r.owner) a in
              let e : (r.member == m) ≡ true = two.0 in
              let member_is : r.member ≡ m = grind (arith, nat_tests) in
              let owner_is : k ≡ r.owner = elim (has_cases k r.owner [] two.1) [ inl q ↦ q | inr none ↦ absurd (cc) ] in
              ap mine (sym member_is) ∙ all r (contains_here r rs) (ap mine (sym owner_is) ∙ own)
          | inr b ↦ of_relation rs k m (λ x c. all x (contains_later r rs x c)) own b
        ]

    hangs_mine : (k j : ℕ) (m : Node) → node_at j s.core.nodes ≡ Some m → mine k ≡ true → hangs_on s.core (k ∷ []) m ≡ true → mine j ≡ true
    hangs_mine k j m at own h =
        let is : m.serial ≡ j = own_serial j m s.core.nodes at in
        elim (edge_cases s.core k m h) [
          | inl (parent, up) ↦ apart.below j m at (λ z. up (is ∙ z)) (ap mine parent ∙ own)
          | inr q ↦ ap mine (sym is) ∙ of_relation s.core.relations k m.serial apart.members own q
        ]

    abbrev AllMine : List ℕ → Type 0
    AllMine set = (j : ℕ) → has set j ≡ true → mine j ≡ true

    grown_mine : (set : List ℕ) → AllMine set → AllMine (grown s.core set)
    grown_mine set all j h =
        let from = grown_from s.core set j order h in
        elim from.2 [
          | inl here ↦ all j here
          | inr on ↦ let some = hangs_some s.core set from.0 on in hangs_mine some.0 j from.0 from.1 (all some.0 some.1) some.2
        ]

    -- the device, or one that depends on it
    of_set : (n : Node) → mine n.serial ≡ true → (j : ℕ) → IsInSet s.core n j → mine j ≡ true
    of_set n own j (inl e) = ap mine e ∙ own
    of_set n own j (inr h) =
        closed_in_all AllMine (length s.core.nodes) s.core (direct s.core n.serial) grown_mine
        (λ i q. (let near = those_found 0 (hangs_on s.core (n.serial ∷ [])) s.core.nodes i order q in hangs_mine n.serial i near.0 near.1 own near.2)) j h

  -- What is kept along the run -----------------------------------------------------------------------------------

  -- an operation runs, whose set is of them
  record OpOf (s : State) : Type 0 where
    before : Core
    kind : OpKind
    takes : TakesSet kind
    n : Node
    set : List ℕ
    is_set : (j : ℕ) → (has set j ≡ true) ↔ IsInSet before n j
    stays : Stays before kind takes n set is_set s
    inside : (j : ℕ) → has set j ≡ true → mine j ≡ true

  record Stands (start s : State) : Type 0 where
    reached : IsReached settings rack s
    apart : IsApart mine s
    others : (j : ℕ) → mine j ≡ false → node_at j s.core.nodes ≡ node_at j start.core.nodes
    tasks : (task : Task) → Contains s.tasks task → mine task.serial ≡ true
    starts : (a : Activity) → Contains s.activities a → mine a.serial ≡ true
    running : (s.operation ≡ None) ⊎ OpOf s

  one_of : (before : Core) (n : Node) (s : State) (path : Text) → ((j : ℕ) → IsInSet before n j → mine j ≡ true) → IsOneOf before n s path → (p : Text) → Some path ≡ Some p → (m : Node) × (node_at m.serial s.core.nodes ≡ Some m) × (m.path ≡ p) × (mine m.serial ≡ true)
  one_of before n s path all (m, at, is, inside) p e = let same_path : path ≡ p = cc in (m, at, is ∙ same_path, all m.serial inside)

  names_op : (before : Core) (kind : OpKind) (n : Node) (s : State) (label : Label) → ((j : ℕ) → IsInSet before n j → mine j ≡ true) → NamesOneOf before kind n s label → NamesMine mine s label
  names_op before kind n s (Label.Asked minor path driver shown) all h = one_of before n s path all h
  names_op before kind n s (Label.State path state) all h = one_of before n s path all h
  names_op before kind n s (Label.Trouble path problem) all h = one_of before n s path all h
  names_op before kind n s (Label.Handles path) all h = one_of before n s path all h
  names_op before kind n s (Label.Waits path) all h = one_of before n s path all h
  names_op before kind n s (Label.Leave path) all h = one_of before n s path all h
  names_op before kind n s (Label.Ejected path) all h = one_of before n s path all h
  names_op before kind n s (Label.End own path result) all h = λ p e. absurd (cc)
  names_op before kind n s _ all h = absurd h

  -- a line ends an operation or not
  ends_or_not : (label : Label) → IsWithin label ⊎ ((kind : OpKind) × (path : Text) × (result : OpEnd) × (label ≡ Label.End kind path result))
  ends_or_not (Label.End kind path result) = inr (kind, path, result, refl)
  ends_or_not _ = inl tt

  over : (s t : State) (kind : OpKind) (path : Text) (result : OpEnd) → OpEffect s (Label.End kind path result) t → t.operation ≡ None
  over s t kind path result (OpEffect.idles none now why) = now
  over s t kind path result (OpEffect.begins own node none alone at for is) = absurd (let e = ap (λ (x : Step). x.label) is in cc)
  over s t kind path result (OpEffect.goes o p runs now work (inl beside)) = absurd beside
  over s t kind path result (OpEffect.goes o p runs now work (inr conflicts)) = absurd (let e = conflicts.2 in cc)
  over s t kind path result (OpEffect.ends o by runs now says how closes) = now

  takes_of : (kind : OpKind) (path : Text) → IsLocal (Label.Begin kind path) → TakesSet kind
  takes_of OpKind.Disable path local = tt
  takes_of OpKind.Eject path local = tt
  takes_of OpKind.Surprise path local = tt
  takes_of _ path local = absurd local

  module _ (start s : State) (label : Label) (t : State) (st : Stands start s) (goes : Goes settings s (Did label) t) (local : IsLocal label) where
    abbrev step : Step
    step = record { label = label; state = t }

    kept : Kept s
    kept = reaches_kept settings rack st.reached.0 s st.reached.1

    effect : OpEffect s label t
    effect = (effect_goes settings s (Did label) t goes).operation

    -- where an operation runs
    by_operation : OpOf s → NamesMine mine s label × Stands start t
    by_operation o =
        let h = stepped o.before o.kind o.takes o.n o.set o.is_set settings s step kept o.stays goes in
        let next = taken o.before o.kind o.takes o.n o.set o.is_set settings s step kept o.stays goes in
        let rest = op_rest s next.now kept.good.serials step next.course next.is in
        let outside : (j : ℕ) → mine j ≡ false → has o.set j ≡ false =
        λ j out. elim (member o.set j) [ inl q ↦ absurd (let z = o.inside j q in cc) | inr q ↦ q ] in (
          names_op o.before o.kind o.n s label (λ j q. o.inside j ((o.is_set j).1 q)) h.names,
          record {
            reached = reached_on settings rack s (Did label) t st.reached goes;
            apart = apart_goes s label t st.reached goes st.apart;
            others = λ j out. h.others j (outside j out) ∙ sym (o.stays.others j (outside j out)) ∙ st.others j out;
            tasks = λ task c. elim rest.tasks [
              | inl e ↦ st.tasks task (subst (λ (xs : List Task). Contains xs task) e c)
              | inr r ↦
                  let head = head_found s.core.nodes next.now.todo r.node r.first in
                  let own : mine r.node.serial ≡ true = o.inside r.node.serial (next.within r.node.serial (head_has r.node.serial next.now.todo head.0)) in
                  let listed : mine r.over.serial ≡ true = st.apart.returns r.node.serial r.over.serial r.node r.over r.other head.1 own r.there r.path r.apart r.over_at r.under in
                  elim (in_more s.tasks (record { kind = Duty.Listing; serial = r.over.serial }) task (subst (λ (xs : List Task). Contains xs task) r.is c)) [
                    | inl e ↦ ap (λ (x : Task). mine x.serial) e ∙ listed
                    | inr q ↦ st.tasks task q
                  ]
            ];
            starts = λ a c. st.starts a (subst (λ (xs : List Activity). Contains xs a) rest.activities c);
            running =
                elim (ends_or_not label) [
                  | inl within ↦ inr (record { before = o.before; kind = o.kind; takes = o.takes; n = o.n; set = o.set; is_set = o.is_set; stays = h.on within; inside = o.inside })
                  | inr (kind, path, result, e) ↦ inl (over s t kind path result (subst (λ (x : Label). OpEffect s x t) e effect))
                ];
          },
        )

    -- where none runs
    by_none : s.operation ≡ None → NamesMine mine s label × Stands start t
    by_none none =
        let h = idle_mine mine s st.apart (record { none = none; tasks = st.tasks; starts = st.starts }) kept.good.serials settings step goes local in (
          h.names,
          record {
            reached = reached_on settings rack s (Did label) t st.reached goes;
            apart = apart_goes s label t st.reached goes st.apart;
            others = λ j out. h.others j out ∙ st.others j out;
            tasks = h.tasks;
            starts = h.starts;
            running = by_effect h.names effect;
          },
        )
      where
        by_effect : NamesMine mine s label → OpEffect s label t → (t.operation ≡ None) ⊎ OpOf t
        by_effect names (OpEffect.idles before now why) = inl now
        by_effect names (OpEffect.begins kind node before alone at for is) =
            let says : label ≡ Label.Begin kind node.path = ap (λ (x : Step). x.label) is in
            let takes = takes_of kind node.path (subst IsLocal says local) in
            let begins : Goes settings s (Did (Label.Begin kind node.path)) t = subst (λ (x : Label). Goes settings s (Did x) t) says goes in
            let it = has_begun settings rack st.reached.0 s kind takes node t st.reached.1 at begins in
            let (m, here, path, own) = names node.path (ap named says) in
            let same_one : m.serial ≡ node.serial = kept.stands.tree.paths m.serial node.serial m node here at path in
            inr (record {
              before = s.core;
              kind = kind;
              takes = takes;
              n = node;
              set = it.set;
              is_set = it.is_set;
              stays = it.stays;
              inside = λ j q. of_set s st.apart kept.good.serials node (ap mine (sym same_one) ∙ own) j ((it.is_set j).0 q);
            })
        by_effect names (OpEffect.goes o p runs now work how) = absurd (let z = sym none ∙ runs in cc)
        by_effect names (OpEffect.ends o result runs now says by closes) = absurd (let z = sym none ∙ runs.runs in cc)

    goes_mine : NamesMine mine s label × Stands start t
    goes_mine = elim st.running [ inl none ↦ by_none none | inr o ↦ by_operation o ]

  -- an event of them
  module _ (start s : State) (event : Event) (label : Label) (t : State) (st : Stands start s) (goes : Goes settings s (Happens event label) t) (own : IsOfPart mine s event) where
    is : (happens s event).state ≡ t
    is = ap (λ (x : Step). x.state) goes.1

    by_running : (s.operation ≡ None) ⊎ OpOf s → ((happens s event).state.operation ≡ None) ⊎ OpOf (happens s event).state
    by_running (inl none) =
        elim (happens_outside s event).operation [
          | inl e ↦ inl (e ∙ none)
          | inr (ok, p, e, q) ↦ absurd (let z = sym none ∙ e in cc)
        ]
    by_running (inr o) =
        inr (record {
          before = o.before;
          kind = o.kind;
          takes = o.takes;
          n = o.n;
          set = o.set;
          is_set = o.is_set;
          stays = happens_stays o.before o.kind o.takes o.n o.set o.is_set s event o.stays;
          inside = o.inside;
        })

    happens_mine : Stands start t
    happens_mine =
        let leaves = event_mine mine s st.apart st.tasks st.starts (reaches_kept settings rack st.reached.0 s st.reached.1).good.serials event own in
        record {
          reached = reached_on settings rack s (Happens event label) t st.reached goes;
          apart = subst (IsApart mine) is leaves.apart;
          others = λ j out. ap (λ (x : State). node_at j x.core.nodes) (sym is) ∙ ap (node_at j) (happens_outside s event).nodes ∙ st.others j out;
          tasks = subst (λ (x : State). (task : Task) → Contains x.tasks task → mine task.serial ≡ true) is leaves.tasks;
          starts = subst (λ (x : State). (a : Activity) → Contains x.activities a → mine a.serial ≡ true) is leaves.starts;
          running = subst (λ (x : State). (x.operation ≡ None) ⊎ OpOf x) is (by_running st.running);
        }

  -- a client declines
  declines_mine : (start s : State) (label : Label) (t : State) → Stands start s → Goes settings s (Declines label) t → Stands start t
  declines_mine start s label t st goes =
      record {
        reached = reached_on settings rack s (Declines label) t st.reached goes;
        apart = subst (IsApart mine) (sym goes.dropped) (record { later = st.apart.later; below = st.apart.below; members = st.apart.members; one_path = st.apart.one_path; returns = st.apart.returns });
        others = λ j out. ap (λ (x : State). node_at j x.core.nodes) goes.dropped ∙ st.others j out;
        tasks = λ task c. st.tasks task (in_dropped s.tasks task (subst (λ (x : State). Contains x.tasks task) goes.dropped c));
        starts = λ a c. st.starts a (subst (λ (x : State). Contains x.activities a) goes.dropped c);
        running =
            elim st.running [
              | inl none ↦ inl (ap (λ (x : State). x.operation) goes.dropped ∙ none)
              | inr o ↦ absurd (let due = ap (λ (x : Option Job). ma.due_with s x) (sym o.stays.runs) ∙ goes.is_due in cc)
            ];
      }

  runs_mine : (start s : State) (entries : List Entry) (t : State) → Stands start s → RunOfPart settings mine s entries t → Stands start t
  runs_mine start s [] t st run = subst (λ (x : State). Stands start x) (sym run) st
  runs_mine start s (Happens event label ∷ rest) t st (mid, goes, own, run) = runs_mine start mid rest t (happens_mine start s event label mid st goes own) run
  runs_mine start s (Did label ∷ rest) t st (mid, goes, own, run) = runs_mine start mid rest t (goes_mine start s label mid st goes own).1 run
  runs_mine start s (Declines label ∷ rest) t st (mid, goes, own, run) = runs_mine start mid rest t (declines_mine start s label mid st goes) run

pub parts_stay_apart : PartsStayApartLaw
parts_stay_apart settings rack earlier entries s t u label mine run apart work on goes local =
    let first : Stands settings rack mine s s =
    record { reached = (earlier, run); apart = apart; others = λ j out. refl; tasks = work.tasks; starts = work.starts; running = inl work.none } in
    let last = goes_mine settings rack mine s t label u (runs_mine settings rack mine s s entries t first on) goes local in
    (last.0, last.1.others, last.1.apart, λ none. record { none = none; tasks = last.1.tasks; starts = last.1.starts })
