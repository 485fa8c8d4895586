-- A device that waits to be finished: what hangs on it waits as well, through each step of a surprise and of a finish.
use Rattle.std.proofs.Common.{ℕ, ◌≡◌, ◌≢◌, ◌⊎◌, ◌||◌, inl, inr, Bool, true, false, List, [], ◌∷◌, Option, Some, None, refl, sym, ap, ◌∙◌, subst, arith}
use Rattle.std.specs.List.{list_any}
use Rattle.std.proofs.lemmas.Bool.{cases_eq}
use Rattle.std.proofs.lemmas.Bool.Decides.{nat_tests}
use Rattle.pnp_model.specs.Keyed.{those}
use Rattle.pnp_model.specs.Tests.{has, is_surprise_removed}
use Rattle.pnp_model.specs.Records.{Node, Core, Relation, Handle, Job}
use Rattle.pnp_model.specs.Cores.{add_node, change_node, node_at, strip, drop_node, set_state, with_state, bare}
use Rattle.pnp_model.specs.Events.{add_relation}
use Rattle.pnp_model.specs.Frames.{rest}
use Rattle.pnp_model.specs.Trees.{hangs_on, dependents}
use Rattle.pnp_model.specs.Handles.{is_open, was_told}
use Rattle.pnp_model.specs.Surprises.{stays_behind}
use Rattle.pnp_labels.specs.declared.states.DevState.{DevState}
use Rattle.pnp_labels.specs.declared.states.DevState.TheVariants.{NoStack, NotStarted, SurpriseRemoved}
use Rattle.pnp_laws.specs.Kept.{AllBelow, Ascending, is_idle}
use Rattle.pnp_laws.proofs.OpSteps.{is_SurpriseRemoved}
use Rattle.pnp_laws.proofs.Lookups.{joined_from, node_from, left_from, some_same}
use Rattle.pnp_laws.proofs.Lists.{HeadIs, cons_there, has_cases, those_has, those_keeps}
use Rattle.pnp_laws.proofs.Ranks.{NoNewEdge, edges_changed, edges_left, edges_stripped, new_edge, related_below}
use Rattle.pnp_laws.proofs.Standing.{Tree, IdleFree, IsFree, BareOnly, FinishesBut, Told, ToldBut, AllTold, ToldIn, is_held}
use Rattle.pnp_laws.proofs.TreeMoves.{edge_cases, was_stripped}
use Rattle.pnp_laws.proofs.TreeChanges.{edges_same, same_still}
use Rattle.pnp_laws.proofs.Finishes.{hung_behind}
use Rattle.pnp_laws.proofs.SoundStarts.{no_dependents}
use Rattle.pnp_laws.proofs.Truths.{or_cases}

-- The begin -----------------------------------------------------------------------------------

-- who was told is there
told_there : (o : Option Node) → was_told o ≡ true → (n : Node) × (o ≡ Some n) × (n.state ≡ SurpriseRemoved)
told_there None h = absurd (cc)
told_there (Some n) h = (n, refl, is_SurpriseRemoved n.state h)

pub told_begun : (c : Core) (set : List ℕ) → Told c → ToldIn c set (those (λ k. was_told (node_at k c.nodes)) set) []
told_begun c set told =
    record {
      were = λ k n h at.
          let test = (those_has (λ k. was_told (node_at k c.nodes)) set k h).1 in
          is_SurpriseRemoved n.state (sym (ap was_told at) ∙ test);
      outside = λ k n at state out j m there h.
          let s = told k n at state j m there h in
          (s, λ in_set. those_keeps (λ k. was_told (node_at k c.nodes)) set j in_set (ap was_told there ∙ ap is_surprise_removed s));
      carried = λ k j m h in_set at on.
          let was = told_there (node_at k c.nodes) (those_has (λ k. was_told (node_at k c.nodes)) set k h).1 in
          those_keeps (λ k. was_told (node_at k c.nodes)) set j in_set (ap was_told at ∙ ap is_surprise_removed (told k was.0 was.1 was.2 j m at on));
      stayed = λ k n h at. absurd (cc);
      keeps = λ k j m h there on. absurd (cc);
    }

-- The telling ---------------------------------------------------------------------------------

pub told_tell : (c : Core) (set told : List ℕ) (j : ℕ) (node : Node) → node_at j c.nodes ≡ Some node → has set j ≡ true → ToldIn c set told [] → ToldIn (set_state j SurpriseRemoved c) set told []
told_tell c set told j node at here h =
    record {
      were = λ k n in_told there.
          elim (node_from j k (with_state SurpriseRemoved) c.nodes n (λ x. refl) there) [
            | inl (e, (y, q, r)) ↦ ap (λ (x : Node). x.state) r
            | inr (d, q) ↦ h.were k n in_told q
          ];
      outside = λ k n there state out i m at_i on.
          let other : j ≢ k = (λ e. absurd (let z = subst (λ (x : ℕ). has set x ≡ true) e here in cc)) in
          elim (node_from j k (with_state SurpriseRemoved) c.nodes n (λ x. refl) there) [
            | inl (e, rest) ↦ absurd (other e)
            | inr (d, q) ↦
                let old = edges_changed j (with_state SurpriseRemoved) c (λ x. refl) (λ x. refl) k i m at_i on in
                let before = h.outside k n q state out i old.0 old.1 old.2 in
                elim (node_from j i (with_state SurpriseRemoved) c.nodes m (λ x. refl) at_i) [
                  | inl (e, (y, p, r)) ↦ (ap (λ (x : Node). x.state) r, before.1)
                  | inr (d2, p) ↦
                      let same = some_same (node_at i c.nodes) old.0 m old.1 p in
                      (subst (λ (x : Node). x.state ≡ SurpriseRemoved) same before.0, before.1)
                ]
          ];
      carried = λ k i m in_told in_set at_i on. let old = edges_changed j (with_state SurpriseRemoved) c (λ x. refl) (λ x. refl) k i m at_i on in h.carried k i old.0 in_told in_set old.1 old.2;
      stayed = λ k n in_none there. absurd (cc);
      keeps = λ k i m in_none there on. absurd (cc);
    }

-- Who stays behind ----------------------------------------------------------------------------

pub told_wait : (next : ℕ) (c : Core) (set told behind todo : List ℕ) (j : ℕ) (node : Node) → Ascending 0 c.nodes → Tree next c → HeadIs j todo → has set j ≡ true → node_at j c.nodes ≡ Some node → node.state ≡ SurpriseRemoved →
    FinishesBut c set behind todo → ToldIn c set told behind → ToldIn c set told (j ∷ behind)
told_wait next c set told behind todo j node order tree head here at state f h =
    record {
      were = h.were;
      outside = h.outside;
      carried = h.carried;
      stayed = λ k n b there.
          elim (has_cases j k behind b) [
            | inl e ↦
                let at_k = subst (λ (x : ℕ). node_at x c.nodes ≡ Some node) e at in
                let same = some_same (node_at k c.nodes) node n at_k there in
                subst (λ (x : Node). x.state ≡ SurpriseRemoved) same state
            | inr q ↦ h.stayed k n q there
          ];
      keeps = λ k i m b there on.
          elim (has_cases j k behind b) [
            | inl e ↦ cons_there j behind i (hung_behind next c set behind todo j order tree head here f i m there (subst (λ (x : ℕ). hangs_on c (x ∷ []) m ≡ true) (sym e) on))
            | inr q ↦ cons_there j behind i (h.keeps k i m q there on)
          ];
    }

-- A device is finished ------------------------------------------------------------------------

pub told_strip : (c : Core) (set told behind todo : List ℕ) (j : ℕ) → has set j ≡ true → has todo j ≡ true → has told j ≡ false → FinishesBut c set behind todo → ToldIn c set told behind → ToldIn (strip j c) set told behind
told_strip c set told behind todo j in_set here new f h =
    record {
      were = λ k n b at.
          let was = was_stripped j k c n at in
          let other : j ≢ k = λ e. let z = subst (λ (i : ℕ). has told i ≡ false) e new in cc in
          subst (λ (x : Node). x.state ≡ SurpriseRemoved) (sym (was.other other)) (h.were k was.node b was.at);
      outside = λ k n at state out i m there on.
          let was = was_stripped j k c n at in
          let other : j ≢ k = λ e. let z = subst (λ (i : ℕ). has set i ≡ true) e in_set in cc in
          let old = edges_stripped j c k i m there on in
          let before = h.outside k was.node was.at (subst (λ (x : Node). x.state ≡ SurpriseRemoved) (was.other other) state) out i old.0 old.1 old.2 in
          elim (cases_eq j i) [
            | inl e ↦
                let z = before.1 (subst (λ (x : ℕ). has set x ≡ true) e in_set) in
                let y = subst (λ (x : ℕ). has told x ≡ false) e new in
                absurd (cc)
            | inr d ↦
                let now = was_stripped j i c m there in
                let same : old.0 ≡ now.node = some_same (node_at i c.nodes) old.0 now.node old.1 now.at in
                (subst (λ (x : Node). x.state ≡ SurpriseRemoved) (same ∙ sym (now.other d)) before.0, before.1)
          ];
      carried = λ k i m in_told own there on. let old = edges_stripped j c k i m there on in h.carried k i old.0 in_told own old.1 old.2;
      stayed = λ k n b at.
          let was = was_stripped j k c n at in
          let gone = f.apart k b in
          let other : j ≢ k = λ e. let z = subst (λ (i : ℕ). has todo i ≡ true) e here in cc in
          subst (λ (x : Node). x.state ≡ SurpriseRemoved) (sym (was.other other)) (h.stayed k was.node b was.at);
      keeps = λ k i m b there on. let old = edges_stripped j c k i m there on in h.keeps k i old.0 b old.1 old.2;
    }

-- nodes stay as they are, or leave
abbrev pub FromStates : Core → Core → Type 0
FromStates c d = (k : ℕ) (m : Node) → node_at k d.nodes ≡ Some m → (n : Node) × (node_at k c.nodes ≡ Some n) × (m.state ≡ n.state)

pub told_from : (c d : Core) (set told behind : List ℕ) → NoNewEdge c d → FromStates c d → ToldIn c set told behind → ToldIn d set told behind
told_from c d set told behind less from h =
    record {
      were = λ k n b at. let was = from k n at in was.2 ∙ h.were k was.0 b was.1;
      outside = λ k n at state out i m there on.
          let was = from k n at in
          let now = from i m there in
          let old = less k i m there on in
          let before = h.outside k was.0 was.1 (sym was.2 ∙ state) out i old.0 old.1 old.2 in
          let same = some_same (node_at i c.nodes) old.0 now.0 old.1 now.1 in
          (now.2 ∙ subst (λ (x : Node). x.state ≡ SurpriseRemoved) same before.0, before.1);
      carried = λ k i m in_told own there on. let old = less k i m there on in h.carried k i old.0 in_told own old.1 old.2;
      stayed = λ k n b at. let was = from k n at in was.2 ∙ h.stayed k was.0 b was.1;
      keeps = λ k i m b there on. let old = less k i m there on in h.keeps k i old.0 b old.1 old.2;
    }

-- Other steps ---------------------------------------------------------------------------------

-- who waits after a device has lost its drivers, waited before, and is another one
pub was_waiting : (c : Core) (j k : ℕ) (n : Node) → node_at k (strip j c).nodes ≡ Some n → n.state ≡ SurpriseRemoved → (j ≢ k) × (node_at k c.nodes ≡ Some n)
was_waiting c j k n at state =
    elim (node_from j k bare c.nodes n (λ x. refl) at) [
      | inl (e, (y, q, r)) ↦ absurd (let z : n.state ≡ NoStack = ap (λ (x : Node). x.state) r in cc)
      | inr (d, q) ↦ (d, q)
    ]

-- a device that does not wait loses its drivers
pub told_other_stripped : (c : Core) (j : ℕ) (node : Node) → Told c → node_at j c.nodes ≡ Some node → node.state ≢ SurpriseRemoved → Told (strip j c)
told_other_stripped c j node told at other k n there state i m at_i on =
    let was = was_waiting c j k n there state in
    let old = edges_stripped j c k i m at_i on in
    let before = told k n was.1 state i old.0 old.1 old.2 in
    elim (cases_eq j i) [
      | inl e ↦
          let same = some_same (node_at i c.nodes) old.0 node old.1 (subst (λ (x : ℕ). node_at x c.nodes ≡ Some node) e at) in
          absurd (other (subst (λ (x : Node). x.state ≡ SurpriseRemoved) same before))
      | inr d ↦
          let now = was_stripped j i c m at_i in
          let same : old.0 ≡ now.node = some_same (node_at i c.nodes) old.0 now.node old.1 now.at in
          subst (λ (x : Node). x.state ≡ SurpriseRemoved) (same ∙ sym (now.other d)) before
    ]

-- a device changes, and waits just if it waited
pub told_changed : (c : Core) (j : ℕ) (f : Node → Node) (node : Node) → ((x : Node) → (f x).serial ≡ x.serial) → ((x : Node) → (f x).parent ≡ x.parent) → node_at j c.nodes ≡ Some node → (node.state ≡ SurpriseRemoved → (f node).state ≡ SurpriseRemoved) → ((f node).state ≡ SurpriseRemoved → node.state ≡ SurpriseRemoved) →
    Told c → Told (change_node j f c)
told_changed c j f node serial parent at stays was told k n there state i m at_i on =
    let old = edges_changed j f c serial parent k i m at_i on in
    let before : old.0.state ≡ SurpriseRemoved =
    elim (node_from j k f c.nodes n serial there) [
      | inl (e, (y, q, r)) ↦
          let same = some_same (node_at k c.nodes) y node q (subst (λ (x : ℕ). node_at x c.nodes ≡ Some node) e at) in
          told k node (subst (λ (x : ℕ). node_at x c.nodes ≡ Some node) e at) (was (ap (λ (x : Node). (f x).state) (sym same) ∙ sym (ap (λ (x : Node). x.state) r) ∙ state)) i old.0 old.1 old.2
      | inr (d, q) ↦ told k n q state i old.0 old.1 old.2
    ] in
    elim (node_from j i f c.nodes m serial at_i) [
      | inl (e, (y, q, r)) ↦
          let at_i2 = subst (λ (x : ℕ). node_at x c.nodes ≡ Some node) e at in
          let own = some_same (node_at i c.nodes) y node q at_i2 in
          let same = some_same (node_at i c.nodes) old.0 node old.1 at_i2 in
          ap (λ (x : Node). x.state) r ∙ ap (λ (x : Node). (f x).state) own ∙ stays (subst (λ (x : Node). x.state ≡ SurpriseRemoved) same before)
      | inr (d, q) ↦ subst (λ (x : Node). x.state ≡ SurpriseRemoved) (some_same (node_at i c.nodes) old.0 m old.1 q) before
    ]

-- a device that does not wait gets another state, and does not wait
pub told_walked : (c : Core) (j : ℕ) (y : DevState) (node : Node) → Told c → node_at j c.nodes ≡ Some node → node.state ≢ SurpriseRemoved → y ≢ SurpriseRemoved → Told (set_state j y c)
told_walked c j y node told at other new = told_changed c j (with_state y) node (λ x. refl) (λ x. refl) at (λ e. absurd (other e)) (λ e. absurd (new e)) told

-- nodes stay as they are, or leave, or hang on less
pub told_fades : (c d : Core) → NoNewEdge c d → FromStates c d → Told c → Told d
told_fades c d less from told k n at state i m there on =
    let was = from k n at in
    let now = from i m there in
    let old = less k i m there on in
    let same = some_same (node_at i c.nodes) old.0 now.0 old.1 now.1 in
    now.2 ∙ subst (λ (x : Node). x.state ≡ SurpriseRemoved) same (told k was.0 was.1 (sym was.2 ∙ state) i old.0 old.1 old.2)

-- a device changes, but not its state
pub kept_states : (c : Core) (j : ℕ) (f : Node → Node) → ((x : Node) → (f x).serial ≡ x.serial) → ((x : Node) → (f x).state ≡ x.state) → FromStates c (change_node j f c)
kept_states c j f serial state k m at =
    elim (node_from j k f c.nodes m serial at) [
      | inl (e, (y, q, r)) ↦ (y, q, ap (λ (x : Node). x.state) r ∙ state y)
      | inr (d, q) ↦ (m, q, refl)
    ]

pub still_states : (c d : Core) → d.nodes ≡ c.nodes → FromStates c d
still_states c d e k m at = (m, subst (λ (x : List Node). node_at k x ≡ Some m) e at, refl)

pub told_still : (c d : Core) → d.nodes ≡ c.nodes → d.relations ≡ c.relations → Told c → Told d
told_still c d a b told = told_fades c d (edges_same c d (same_still c d a b)) (still_states c d a) told

pub told_left : (c : Core) (j : ℕ) → Ascending 0 c.nodes → Told c → Told (drop_node j c)
told_left c j order told = told_fades c (drop_node j c) (edges_left j c order) (λ k m at. (m, (left_from j k c.nodes m order at).1, refl)) told

-- a device joins, on which nothing hangs, below one that does not wait
pub told_joined : (next : ℕ) (c : Core) (new p : Node) → Tree next c → AllBelow next c.nodes → new.serial ≡ next → node_at new.parent c.nodes ≡ Some p → p.state ≢ SurpriseRemoved → new.state ≢ SurpriseRemoved → Told c → Told (add_node new c)
told_joined next c new p tree below e over up fresh told k n at state i m there on =
    elim (joined_from i c.nodes new m there) [
      | inl q ↦ elim (joined_from k c.nodes new n at) [
        | inl w ↦ told k n w state i m q on
        | inr (w, r, u) ↦ absurd (fresh (sym (ap (λ (x : Node). x.state) r) ∙ state))
      ]
      | inr (q, r, u) ↦ elim (edge_cases c k m on) [
        | inl (par, d) ↦
            let is : k ≡ new.parent = sym par ∙ ap (λ (x : Node). x.parent) r in
            elim (joined_from k c.nodes new n at) [
              | inl w ↦ absurd (up (subst (λ (x : Node). x.state ≡ SurpriseRemoved) (some_same (node_at new.parent c.nodes) n p (subst (λ (x : ℕ). node_at x c.nodes ≡ Some n) is w) over) state))
              | inr (w, r2, u2) ↦ absurd (fresh (sym (ap (λ (x : Node). x.state) r2) ∙ state))
            ]
        | inr rel ↦ absurd (
            let low = (related_below next k m.serial c.relations tree.related rel).1 in
            let ser : m.serial ≡ next = ap (λ (x : Node). x.serial) r ∙ e in
            omega arith)
      ]
    ]

-- two are related, of which the owner does not wait
pub told_related : (c : Core) (r : Relation) (owner : Node) → node_at r.owner c.nodes ≡ Some owner → owner.state ≢ SurpriseRemoved → Told c → Told (add_relation r c)
told_related c r owner at up told k n there state i m at_i on =
    elim (new_edge c r k m on) [
      | inl old ↦ told k n there state i m at_i old
      | inr (e, own) ↦ absurd (up (subst (λ (x : Node). x.state ≡ SurpriseRemoved) (some_same (node_at r.owner c.nodes) n owner (subst (λ (x : ℕ). node_at x c.nodes ≡ Some n) own there) at) state))
    ]

-- Who stays behind waits --------------------------------------------------------------------------

idle_untold : (x : DevState) → is_idle x ≡ true → x ≡ SurpriseRemoved → ⊥
idle_untold SurpriseRemoved h e = cc
idle_untold _ h e = cc

-- a device that was never up has no handle
pub idle_unheld : (x : DevState) → is_idle x ≡ true → is_held x ≡ true → ⊥
idle_unheld NoStack h e = cc
idle_unheld NotStarted h e = cc
idle_unheld _ h e = cc

pub any_of : (test : ℕ → Bool) (ks : List ℕ) → list_any test ks ≡ true → (k : ℕ) × (has ks k ≡ true)
any_of test [] h = absurd (cc)
any_of test (k ∷ ks) h = (k, grind (arith, nat_tests))

pub waits_told : (c : Core) (o : Job) (handles : List Handle) (k : ℕ) (n : Node) → Ascending 0 c.nodes → IdleFree c → node_at k c.nodes ≡ Some n → (is_idle n.state ≡ true) ⊎ (n.state ≡ SurpriseRemoved) → (is_open handles k ≡ true → is_held n.state ≡ true) → AllTold o.told c.nodes →
    stays_behind c o handles k ≡ true → n.state ≡ SurpriseRemoved
waits_told c o handles k n order free at (inr state) fits told h = state
waits_told c o handles k n order free at (inl idle) fits told h =
    absurd (elim (or_cases (has o.told k) (is_open handles k || list_any (λ j. has o.behind j) (dependents c k)) h) [
      | inl e ↦ idle_untold n.state idle (told k n e at)
      | inr q ↦ elim (or_cases (is_open handles k) (list_any (λ j. has o.behind j) (dependents c k)) q) [
        | inl e ↦ idle_unheld n.state idle (fits e)
        | inr e ↦ (let some = any_of (λ j. has o.behind j) (dependents c k) e in no_dependents c k order (free k n at idle) some.0 some.1)
      ]
    ])

-- A finish ------------------------------------------------------------------------------------------

-- a ready device: what hangs on it has no drivers, so nothing hangs on it
pub ready_free : (c : Core) (j : ℕ) (node : Node) → Told c → node_at j c.nodes ≡ Some node → node.state ≡ SurpriseRemoved → ((i : ℕ) (m : Node) → node_at i c.nodes ≡ Some m → hangs_on c (j ∷ []) m ≡ true → m.state ≡ NoStack) → IsFree c j
ready_free c j node told at state free i m there on = let a = told j node at state i m there on in let b = free i m there on in cc

-- it loses its drivers
pub told_stripped : (c : Core) (j : ℕ) → Told c → ToldBut j (strip j c)
told_stripped c j told k n at state i m there d on =
    let was = was_waiting c j k n at state in
    let old = edges_stripped j c k i m there on in
    let now = was_stripped j i c m there in
    let same : old.0 ≡ now.node = some_same (node_at i c.nodes) old.0 now.node old.1 now.at in
    subst (λ (x : Node). x.state ≡ SurpriseRemoved) (same ∙ sym (now.other d)) (told k n was.1 state i old.0 old.1 old.2)

-- it stays where its parent does not wait
pub told_stays : (c : Core) (j : ℕ) (node : Node) → Told c → BareOnly (strip j c) → node_at j c.nodes ≡ Some node → ((p : Node) → node_at node.parent c.nodes ≡ Some p → p.state ≡ SurpriseRemoved → ⊥) → Told (strip j c)
told_stays c j node told only at over k n there state i m at_i on =
    elim (cases_eq j i) [
      | inl e ↦
          let was = was_waiting c j k n there state in
          let now = was_stripped j i c m at_i in
          let at_now = subst (λ (x : ℕ). node_at x c.nodes ≡ Some node) e at in
          let same : node ≡ now.node = some_same (node_at i c.nodes) node now.node at_now now.at in
          let none : m.state ≡ NoStack = stripped_bare i m at_i e in
          let under = only k i m at_i none on in
          let parent : node.parent ≡ k = ap (λ (x : Node). x.parent) same ∙ sym now.parent ∙ under.0 in
          absurd (over n (subst (λ (x : ℕ). node_at x c.nodes ≡ Some n) (sym parent) was.1) state)
      | inr d ↦ told_stripped c j told k n there state i m at_i d on
    ]
  where
    stripped_bare : (i : ℕ) (m : Node) → node_at i (strip j c).nodes ≡ Some m → j ≡ i → m.state ≡ NoStack
    stripped_bare i m h e =
        elim (node_from j i bare c.nodes m (λ x. refl) h) [
          | inl (q, (y, p, r)) ↦ ap (λ (x : Node). x.state) r
          | inr (d, q) ↦ absurd (d e)
        ]

-- it leaves
pub told_gone : (c : Core) (j : ℕ) → Ascending 0 c.nodes → ToldBut j c → Told (drop_node j c)
told_gone c j order but k n at state i m there on =
    let was = left_from j k c.nodes n order at in
    let now = left_from j i c.nodes m order there in
    but k n was.1 state i m now.1 now.0 on
