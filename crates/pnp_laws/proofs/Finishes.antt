-- Devices are finished in leaving order: nothing hangs on the one that is next but what is done.
use Rattle.std.specs.List.{list_any}
use Rattle.std.proofs.Common.{ℕ, suc, ◌<◌, ◌≡◌, ◌≢◌, ◌||◌, inl, inr, Bool, true, false, cond, List, [], ◌∷◌, length, Some, refl, sym, ap, ◌∙◌, subst, arith}
use Rattle.std.proofs.lemmas.Bool.{cases_eq}
use Rattle.std.proofs.lemmas.Bool.Decides.{nat_tests}
use Rattle.pnp_model.specs.Keyed.{those}
use Rattle.pnp_model.specs.Tests.{has}
use Rattle.pnp_model.specs.Records.{Node, Core, Handle, Job}
use Rattle.pnp_model.specs.Cores.{node_at, strip, drop_node}
use Rattle.pnp_model.specs.Frames.{rest}
use Rattle.pnp_model.specs.Handles.{is_open}
use Rattle.pnp_model.specs.Surprises.{stays_behind}
use Rattle.pnp_model.specs.Trees.{hangs_on, set_of, dependents, direct, leaving}
use Rattle.pnp_labels.specs.declared.states.DevState.TheVariants.{NoStack}
use Rattle.pnp_laws.specs.Kept.{Ascending, Distinct}
use Rattle.pnp_laws.proofs.Lookups.{Ascending-changed, Ascending-without, left_from, some_same}
use Rattle.pnp_laws.proofs.Lists.{HeadIs, cons_here, cons_there, has_cases, not_head, rest_has, rest_not}
use Rattle.pnp_laws.proofs.Closures.{Closed, is_in, closed_keeps, hangs_some, hangs_more, those_serial}
use Rattle.pnp_laws.proofs.Orders.{Ranked, any_some, dependents_rank, order_has, order_all}
use Rattle.pnp_laws.proofs.Ranks.{NoNewEdge, edges_stripped, edges_left}
use Rattle.pnp_laws.proofs.Due.{Sorted, set_closed, order_sorted, dependents_less}
use Rattle.pnp_laws.proofs.Standing.{Tree, Finishes, FinishesBut, HeadAlone, IsFree}
use Rattle.pnp_laws.proofs.TreeChanges.{SameTree, edges_same}
use Rattle.pnp_laws.proofs.TreeMoves.{Childless, was_stripped}
use Rattle.pnp_laws.proofs.SoundStarts.{child_hangs}
use Rattle.pnp_laws.proofs.Truths.{by_test, or_neither, untrue}

-- The begin -------------------------------------------------------------------------------------

count_none : (lo k : ℕ) (nodes : List Node) → k < lo → Ascending lo nodes → length (those (is_in (k ∷ [])) nodes) ≡ 0
count_none lo k [] l g = refl
count_none lo k (n ∷ ns) l g =
    let more = count_none (suc n.serial) k ns (omega arith) g.1 in
    let low = g.0 in
    let out : is_in (k ∷ []) n ≡ false = grind (arith, nat_tests) in
    ap (λ (b : Bool). length (cond b (n ∷ those (is_in (k ∷ [])) ns) (those (is_in (k ∷ [])) ns))) out ∙ more

count_one : (lo k : ℕ) (nodes : List Node) (m : Node) → Ascending lo nodes → node_at k nodes ≡ Some m → length (those (is_in (k ∷ [])) nodes) ≡ 1
count_one lo k [] m g at = absurd (cc)
count_one lo k (n ∷ ns) m g at =
    elim (cases_eq n.serial k) [
      | inl e ↦
          let none = count_none (suc n.serial) k ns (omega arith) g.1 in
          let here : is_in (k ∷ []) n ≡ true = grind (arith, nat_tests) in
          ap (λ (b : Bool). length (cond b (n ∷ those (is_in (k ∷ [])) ns) (those (is_in (k ∷ [])) ns))) here ∙ ap suc none
      | inr d ↦
          let more = count_one (suc n.serial) k ns m g.1 (grind (arith, nat_tests)) in
          let out : is_in (k ∷ []) n ≡ false = grind (arith, nat_tests) in
          ap (λ (b : Bool). length (cond b (n ∷ those (is_in (k ∷ [])) ns) (those (is_in (k ∷ [])) ns))) out ∙ more
    ]

pub set_is_closed : (c : Core) (k : ℕ) (m : Node) → Ascending 0 c.nodes → node_at k c.nodes ≡ Some m → Closed c (set_of c k)
set_is_closed c k m g at = set_closed c k (sym (count_one 0 k c.nodes m g at)) g

pub leaving_all : (rank : ℕ → ℕ) (c : Core) (k j : ℕ) → Ascending 0 c.nodes → Ranked rank c → has (set_of c k) j ≡ true → has (leaving c k) j ≡ true
leaving_all rank c k j g ranked h = order_all rank (length (set_of c k)) c (set_of c k) j g ranked (omega arith) h

pub leaving_has : (rank : ℕ → ℕ) (c : Core) (k j : ℕ) → Ascending 0 c.nodes → Ranked rank c → has (leaving c k) j ≡ true → has (set_of c k) j ≡ true
leaving_has rank c k j g ranked h = order_has rank (length (set_of c k)) c (set_of c k) j g ranked (omega arith) h

leaving_closed : (rank : ℕ → ℕ) (c : Core) (k : ℕ) (m : Node) → Ascending 0 c.nodes → Ranked rank c → node_at k c.nodes ≡ Some m → Closed c (leaving c k)
leaving_closed rank c k m g ranked at j n there h =
    let some = hangs_some c (leaving c k) n h in
    leaving_all rank c k j g ranked (set_is_closed c k m g at j n there (hangs_more c some.0 (set_of c k) n (leaving_has rank c k some.0 g ranked some.1) some.2))

-- what hangs on the set is in the set, so all is still to do
pub finishes_whole : (c : Core) (set : List ℕ) → Closed c set → Sorted c set → Finishes c set set
finishes_whole c set closed sorted =
    record {
      closed = closed;
      bare = λ k n at a b. absurd (cc);
      below = λ j m at up h. closed j m at (hangs_more c m.parent set m h (child_hangs c m.parent j m at up refl));
      sorted = sorted;
    }

pub finishes_begun : (next : ℕ) (c : Core) (k : ℕ) (m : Node) → Ascending 0 c.nodes → Tree next c → node_at k c.nodes ≡ Some m → Finishes c (leaving c k) (leaving c k)
finishes_begun next c k m g tree at =
    finishes_whole c (leaving c k) (leaving_closed tree.rank c k m g tree.ranked at) (order_sorted tree.rank (length (set_of c k)) c (set_of c k) g tree.ranked (omega arith))

-- Edges go away ------------------------------------------------------------------------------------

pub record Fades (c d : Core) : Type 0 where
  pub before : Ascending 0 c.nodes
  pub after : Ascending 0 d.nodes
  pub less : NoNewEdge c d

pub fades_same : (c d : Core) → Ascending 0 c.nodes → Ascending 0 d.nodes → SameTree c d → Fades c d
fades_same c d a b same = record { before = a; after = b; less = edges_same c d same }

pub fades_strip : (j : ℕ) (c : Core) → Ascending 0 c.nodes → Fades c (strip j c)
fades_strip j c a = record { before = a; after = Ascending-changed 0 j _ c.nodes (λ x. refl) a; less = edges_stripped j c }

pub fades_left : (j : ℕ) (c : Core) → Ascending 0 c.nodes → Fades c (drop_node j c)
fades_left j c a = record { before = a; after = Ascending-without 0 j c.nodes a; less = edges_left j c a }

pub closed_less : (c d : Core) (set : List ℕ) → Fades c d → Closed c set → Closed d set
closed_less c d set fades closed j m at h =
    let some = hangs_some d set m h in
    let old = fades.less some.0 j m at some.2 in
    closed j old.0 old.1 (hangs_more c some.0 set old.0 some.1 old.2)

pub sorted_less : (c d : Core) (todo : List ℕ) → Fades c d → Sorted c todo → Sorted d todo
sorted_less c d [] fades h = tt
sorted_less c d (k ∷ ks) fades h =
    ((λ j in_rest dep. h.0 j in_rest (dependents_less c d k fades.before fades.after fades.less j dep)), sorted_less c d ks fades h.1)

-- all of the set is still to do
pub finishes_all : (c d : Core) (set : List ℕ) → Fades c d → Finishes c set set → Finishes d set set
finishes_all c d set fades h = finishes_whole d set (closed_less c d set fades h.closed) (sorted_less c d set fades h.sorted)

-- What is finished --------------------------------------------------------------------------------

sorted_rest : (c : Core) (todo : List ℕ) → Sorted c todo → Sorted c (rest todo)
sorted_rest c [] h = tt
sorted_rest c (k ∷ ks) h = h.1

not_rest : (todo : List ℕ) (j k : ℕ) → HeadIs j todo → j ≢ k → has (rest todo) k ≡ false → has todo k ≡ false
not_rest todo j k head d h = sym (rest_has j k todo head d) ∙ h

rest_out : (todo : List ℕ) (k : ℕ) → has todo k ≡ false → has (rest todo) k ≡ false
rest_out [] k h = h
rest_out (i ∷ is) k h = grind (arith, nat_tests)

out_cons : (j k : ℕ) (ks : List ℕ) → has (j ∷ ks) k ≡ false → has ks k ≡ false
out_cons j k ks h = elim (cases_eq j k) [ inl e ↦ absurd (not_head j k ks h e) | inr d ↦ grind (arith, nat_tests) ]

-- nobody stayed behind, or none that did
pub but_none : (c : Core) (set todo : List ℕ) → Finishes c set todo → FinishesBut c set [] todo
but_none c set todo h = record { closed = h.closed; bare = λ k n at a b d. h.bare k n at a b; below = λ j m at up a. inl (h.below j m at up a); sorted = h.sorted; apart = λ k b. absurd (cc) }

none_but : (c : Core) (set todo : List ℕ) → FinishesBut c set [] todo → Finishes c set todo
none_but c set todo h =
    record {
      closed = h.closed;
      bare = λ k n at a b. h.bare k n at a b refl;
      below = λ j m at up a. elim (h.below j m at up a) [ inl e ↦ e | inr e ↦ absurd (cc) ];
      sorted = h.sorted;
    }

module _ (c : Core) (set behind todo : List ℕ) where
  -- the same nodes, with the same states
  pub but_still : (d : Core) → Fades c d → d.nodes ≡ c.nodes → FinishesBut c set behind todo → FinishesBut d set behind todo
  but_still d fades e h =
      record {
        closed = closed_less c d set fades h.closed;
        bare = λ k n at. h.bare k n (subst (λ (x : List Node). node_at k x ≡ Some n) e at);
        below = λ j m at. h.below j m (subst (λ (x : List Node). node_at j x ≡ Some m) e at);
        sorted = sorted_less c d todo fades h.sorted;
        apart = h.apart;
      }

  -- the head loses its drivers
  pub but_strip : (j : ℕ) → Ascending 0 c.nodes → has todo j ≡ true → FinishesBut c set behind todo → FinishesBut (strip j c) set behind todo
  but_strip j order here h =
      let fades = fades_strip j c order in
      record {
        closed = closed_less c (strip j c) set fades h.closed;
        bare = λ k n at a b d.
            let was = was_stripped j k c n at in
            let other : j ≢ k = λ e. let z = subst (λ (i : ℕ). has todo i ≡ true) e here in cc in
            subst (λ (x : Node). x.state ≡ NoStack) (sym (was.other other)) (h.bare k was.node was.at a b d);
        below = λ i m at up a.
            let was = was_stripped j i c m at in
            h.below i was.node was.at up (subst (λ (p : ℕ). has set p ≡ true) was.parent a);
        sorted = sorted_less c (strip j c) todo fades h.sorted;
        apart = h.apart;
      }

  -- the head is done, and stays
  pub but_stays : (d : Core) (j : ℕ) (node : Node) → Fades c d → HeadIs j todo → node_at j c.nodes ≡ Some node → has set node.parent ≡ false →
      ((k : ℕ) (m : Node) → node_at k d.nodes ≡ Some m → (n : Node) × (node_at k c.nodes ≡ Some n) × (m.parent ≡ n.parent) × (m.state ≡ n.state)) → node.state ≡ NoStack →
      FinishesBut c set behind todo → FinishesBut d set behind (rest todo)
  but_stays d j node fades head at over from bare h =
      record {
        closed = closed_less c d set fades h.closed;
        bare = λ k n there a b e.
            let was = from k n there in
            elim (cases_eq j k) [
              | inl q ↦
                  let one = some_same (node_at k c.nodes) node was.0 (subst (λ (i : ℕ). node_at i c.nodes ≡ Some node) q at) was.1 in
                  was.3 ∙ ap (λ (x : Node). x.state) (sym one) ∙ bare
              | inr d ↦ was.3 ∙ h.bare k was.0 was.1 a (not_rest todo j k head d b) e
            ];
        below = λ i m there up a.
            let was = from i m there in
            let a2 = subst (λ (p : ℕ). has set p ≡ true) was.2 a in
            elim (cases_eq j i) [
              | inl q ↦
                  let one = some_same (node_at i c.nodes) node was.0 (subst (λ (x : ℕ). node_at x c.nodes ≡ Some node) q at) was.1 in
                  absurd (let a3 = subst (λ (x : Node). has set x.parent ≡ true) (sym one) a2 in cc)
              | inr d ↦ elim (h.below i was.0 was.1 up a2) [ inl e ↦ inl (rest_has j i todo head d ∙ e) | inr e ↦ inr e ]
            ];
        sorted = sorted_less c d (rest todo) fades (sorted_rest c todo h.sorted);
        apart = λ k b. rest_out todo k (h.apart k b);
      }

  -- the head is done, and left
  pub but_left : (j : ℕ) → Ascending 0 c.nodes → HeadIs j todo → FinishesBut c set behind todo → FinishesBut (drop_node j c) set behind (rest todo)
  but_left j order head h =
      let fades = fades_left j c order in
      record {
        closed = closed_less c (drop_node j c) set fades h.closed;
        bare = λ k n there a b d. let from = left_from j k c.nodes n order there in h.bare k n from.1 a (not_rest todo j k head from.0 b) d;
        below = λ i m there up a.
            let from = left_from j i c.nodes m order there in
            elim (h.below i m from.1 up a) [ inl e ↦ inl (rest_has j i todo head from.0 ∙ e) | inr e ↦ inr e ];
        sorted = sorted_less c (drop_node j c) (rest todo) fades (sorted_rest c todo h.sorted);
        apart = λ k b. rest_out todo k (h.apart k b);
      }

  -- the head stays behind
  pub but_waits : (j : ℕ) → HeadIs j todo → Distinct todo → FinishesBut c set behind todo → FinishesBut c set (j ∷ behind) (rest todo)
  but_waits j head apart h =
      record {
        closed = h.closed;
        bare = λ k n at a b d. h.bare k n at a (not_rest todo j k head (not_head j k behind d) b) (out_cons j k behind d);
        below = λ i m at up a.
            elim (h.below i m at up a) [
              | inl e ↦ elim (cases_eq j i) [ inl q ↦ inr (subst (λ (x : ℕ). has (j ∷ behind) x ≡ true) q (cons_here j behind)) | inr d ↦ inl (rest_has j i todo head d ∙ e) ]
              | inr e ↦ inr (cons_there j behind i e)
            ];
        sorted = sorted_rest c todo h.sorted;
        apart = λ k b.
            elim (has_cases j k behind b) [
              | inl e ↦ subst (λ (x : ℕ). has (rest todo) x ≡ false) e (rest_not j todo head apart)
              | inr q ↦ rest_out todo k (h.apart k q)
            ];
      }

pub finishes_still : (c d : Core) (set todo : List ℕ) → Fades c d → d.nodes ≡ c.nodes → Finishes c set todo → Finishes d set todo
finishes_still c d set todo fades e h = none_but d set todo (but_still c set [] todo d fades e (but_none c set todo h))

pub finishes_strip : (c : Core) (set todo : List ℕ) (j : ℕ) → Ascending 0 c.nodes → has todo j ≡ true → Finishes c set todo → Finishes (strip j c) set todo
finishes_strip c set todo j order here h = none_but (strip j c) set todo (but_strip c set [] todo j order here (but_none c set todo h))

pub finishes_stays : (c d : Core) (set todo : List ℕ) (j : ℕ) (node : Node) → Fades c d → HeadIs j todo → node_at j c.nodes ≡ Some node → has set node.parent ≡ false →
    ((k : ℕ) (m : Node) → node_at k d.nodes ≡ Some m → (n : Node) × (node_at k c.nodes ≡ Some n) × (m.parent ≡ n.parent) × (m.state ≡ n.state)) → node.state ≡ NoStack →
    Finishes c set todo → Finishes d set (rest todo)
finishes_stays c d set todo j node fades head at over from bare h = none_but d set (rest todo) (but_stays c set [] todo d j node fades head at over from bare (but_none c set todo h))

pub finishes_left : (c : Core) (set todo : List ℕ) (j : ℕ) → Ascending 0 c.nodes → HeadIs j todo → Finishes c set todo → Finishes (drop_node j c) set (rest todo)
finishes_left c set todo j order head h = none_but (drop_node j c) set (rest todo) (but_left c set [] todo j order head (but_none c set todo h))

-- What hangs on the head ---------------------------------------------------------------------------

sorted_head : (c : Core) (todo : List ℕ) (j : ℕ) → HeadIs j todo → Sorted c todo → (i : ℕ) → has (rest todo) i ≡ true → has (dependents c j) i ≡ true → ⊥
sorted_head c [] j head h i a b = absurd head
sorted_head c (k ∷ ks) j head h i a b = h.0 i a (subst (λ (x : ℕ). has (dependents c x) i ≡ true) (sym head) b)

-- the dependents of the head are not among what is to do
dependents_done : (next : ℕ) (c : Core) (todo : List ℕ) (j : ℕ) → Ascending 0 c.nodes → Tree next c → HeadIs j todo → Sorted c todo → (i : ℕ) → has (dependents c j) i ≡ true → has todo i ≡ false
dependents_done next c todo j order tree head sorted i dep =
    untrue (has todo i)
    (λ in_todo. elim (cases_eq j i) [
      | inl e ↦ (let low = dependents_rank tree.rank c j order tree.ranked i dep in let same = ap tree.rank e in absurd (omega arith))
      | inr d ↦ sorted_head c todo j head sorted i (rest_has j i todo head d ∙ in_todo) dep
    ])

pub hung_dependent : (c : Core) (k j : ℕ) (m : Node) → Ascending 0 c.nodes → node_at j c.nodes ≡ Some m → hangs_on c (k ∷ []) m ≡ true → has (dependents c k) j ≡ true
hung_dependent c k j m g at h = closed_keeps c (direct c k) j m g at (those_serial 0 (hangs_on c (k ∷ [])) c.nodes j m g at h)

-- what hangs on the head stayed behind: done, it would have no drivers, and so be a child of the head
pub hung_behind : (next : ℕ) (c : Core) (set behind todo : List ℕ) (j : ℕ) → Ascending 0 c.nodes → Tree next c → HeadIs j todo → has set j ≡ true → FinishesBut c set behind todo → (i : ℕ) (m : Node) → node_at i c.nodes ≡ Some m → hangs_on c (j ∷ []) m ≡ true → has behind i ≡ true
hung_behind next c set behind todo j order tree head own h i m at on =
    by_test (λ b. b ≡ true) (has behind i) (λ e. refl)
    (λ e.
    let done = dependents_done next c todo j order tree head h.sorted i (hung_dependent c j i m order at on) in
    let bare = h.bare i m at (h.closed i m at (hangs_more c j set m own on)) done e in
    let under = tree.only j i m at bare on in
    elim (h.below i m at under.1 (subst (λ (x : ℕ). has set x ≡ true) (sym under.0) own)) [ inl a ↦ absurd (cc) | inr b ↦ absurd (cc) ])

-- where nobody stays behind, nothing hangs on it
pub head_free : (next : ℕ) (c : Core) (set todo : List ℕ) (j : ℕ) → Ascending 0 c.nodes → Tree next c → HeadIs j todo → has set j ≡ true → Finishes c set todo → IsFree c j
head_free next c set todo j order tree head own h i m at on = (let none = hung_behind next c set [] todo j order tree head own (but_none c set todo h) i m at on in cc)

pub head_childless : (next : ℕ) (c : Core) (set todo : List ℕ) (j : ℕ) → Ascending 0 c.nodes → Tree next c → HeadIs j todo → has set j ≡ true → Finishes c set todo → Childless j c.nodes
head_childless next c set todo j order tree head own h i m at up e = head_free next c set todo j order tree head own h i m at (child_hangs c j i m at up e)

-- nor on one that does not stay behind
pub goes_free : (next : ℕ) (c : Core) (o : Job) (handles : List Handle) (todo : List ℕ) (j : ℕ) → Ascending 0 c.nodes → Tree next c → HeadIs j todo → has o.set j ≡ true → FinishesBut c o.set o.behind todo → stays_behind c o handles j ≡ false → IsFree c j
goes_free next c o handles todo j order tree head own f goes i m at on =
    let left = hung_behind next c o.set o.behind todo j order tree head own f i m at on in
    let any = any_some o.behind (dependents c j) i (hung_dependent c j i m order at on) left in
    let none = (or_neither (is_open handles j) (list_any (λ i. has o.behind i) (dependents c j)) (or_neither (has o.told j) (is_open handles j || list_any (λ i. has o.behind i) (dependents c j)) goes).1).1 in
    cc

pub head_alone : (c : Core) (todo : List ℕ) (j : ℕ) → HeadIs j todo → IsFree c j → HeadAlone c todo
head_alone c [] j head free k h = absurd h
head_alone c (i ∷ is) j head free k h = subst (λ (x : ℕ). IsFree c x) (sym head ∙ h) free

pub alone_less : (c d : Core) (todo : List ℕ) → NoNewEdge c d → HeadAlone c todo → HeadAlone d todo
alone_less c d todo less h k head i m at on = let old = less k i m at on in h k head i old.0 old.1 old.2
