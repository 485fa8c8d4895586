-- What each state of a run keeps gives a step of a surprise removal what it needs.
use Rattle.std.proofs.Common.{◌≡◌, ◌||◌, inl, inr, ℕ, Bool, true, false, List, [], ◌∷◌, Option, Some, None, IfSome, refl, sym, ap, ◌∙◌, subst, arith}
use Rattle.std.proofs.lemmas.Bool.{cases_eq}
use Rattle.std.specs.List.{list_any}
use Rattle.std.specs.Cmp.{both_ways}
use Rattle.pnp_labels.specs.declared.states.DevState.TheVariants.{NoStack}
use Rattle.pnp_model.specs.Tests.{has}
use Rattle.pnp_model.specs.Cores.{node_at}
use Rattle.pnp_model.specs.Frames.{first_node, rest}
use Rattle.pnp_model.specs.Laws.{HoldsWhole}
use Rattle.pnp_model.specs.Handles.{is_open}
use Rattle.pnp_model.specs.Trees.{hangs_on, direct, dependents}
use Rattle.pnp_model.specs.Records.{Node, Core, Handle, State, Job, Course, Stage, course_of}
use Rattle.pnp_laws.specs.Kept.{Ascending, Within, HasStackOf, SurpriseKeeps, SurpriseEnds}
use Rattle.pnp_laws.proofs.Standing.{Tree, FinishesBut, HeadAlone, SurpriseOrder, SurpriseThere}
use Rattle.pnp_laws.proofs.Standing.{Kept}
use Rattle.pnp_laws.proofs.Lookups.{some_same}
use Rattle.pnp_laws.proofs.Lists.{HeadIs, head_found, head_has, rest_has, those_found, cons_here, cons_there}
use Rattle.pnp_laws.proofs.Closures.{closed_within, closed_keeps, those_serial, hangs_some, hangs_more}
use Rattle.pnp_laws.proofs.Orders.{dependents_rank, any_some}
use Rattle.pnp_laws.proofs.Due.{Sorted}
use Rattle.pnp_laws.proofs.Truths.{or_cases, or_neither, untrue}
use Rattle.relations.specs.Leaving.{base, below}
use Rattle.relations.proofs.Directs.{hangs_listed, listed_hangs}
use Rattle.relations.proofs.Bases.{dependents_same}
use Rattle.operation_frame.specs.Nodes.{IsStripped}
use Rattle.operation_frame.specs.Steps.{HasNext}
use Rattle.operation_frame.proofs.Given.{runs_as, first_there, head_bare, not_root, alone_may_leave}
use Rattle.surprise_remove.specs.Steps.{DirectSays, SettlesStripped, has_behind, stays}

-- What hangs on the device that is next --------------------------------------------------------

child_dependent : (c : Core) (k j : ℕ) (m : Node) → Ascending 0 c.nodes → node_at j c.nodes ≡ Some m → hangs_on c (k ∷ []) m ≡ true → has (dependents c k) j ≡ true
child_dependent c k j m g at h = closed_keeps c (direct c k) j m g at (those_serial 0 (hangs_on c (k ∷ [])) c.nodes j m g at h)

sorted_head : (c : Core) (todo : List ℕ) (j : ℕ) → HeadIs j todo → Sorted c todo → (i : ℕ) → has (rest todo) i ≡ true → has (dependents c j) i ≡ true → ⊥
sorted_head c [] j head h i a b = absurd head
sorted_head c (k ∷ ks) j head h i a b = h.0 i a (subst (λ (x : ℕ). has (dependents c x) i ≡ true) (sym head) b)

module _ (next : ℕ) (c : Core) (set behind todo : List ℕ) (order : Ascending 0 c.nodes) (tree : Tree next c) (finishes : FinishesBut c set behind todo)
    (k : ℕ) (head : HeadIs k todo) (inside : has set k ≡ true) where
  -- it is not to do any more
  hung_done : (j : ℕ) (m : Node) → node_at j c.nodes ≡ Some m → hangs_on c (k ∷ []) m ≡ true → has todo j ≡ false
  hung_done j m at on = by (has todo j) refl
    where
      dep : has (dependents c k) j ≡ true
      dep = child_dependent c k j m order at on

      by : (b : Bool) → has todo j ≡ b → has todo j ≡ false
      by false e = e
      by true e =
          absurd (elim (cases_eq k j) [
            | inl same ↦ (let low = dependents_rank tree.rank c k order tree.ranked j dep in let rank = ap tree.rank same in omega arith)
            | inr other ↦ sorted_head c todo k head finishes.sorted j (rest_has k j todo head other ∙ e) dep
          ])

  -- so it stayed behind
  hung_behind : (j : ℕ) (m : Node) → node_at j c.nodes ≡ Some m → hangs_on c (k ∷ []) m ≡ true → has behind j ≡ true
  hung_behind j m at on = by (has behind j) refl
    where
      by : (b : Bool) → has behind j ≡ b → has behind j ≡ true
      by true e = e
      by false e =
          let done = hung_done j m at on in
          let bare = finishes.bare j m at (finishes.closed j m at (hangs_more c k set m inside on)) done e in
          let under = tree.only k j m at bare on in
          elim (finishes.below j m at under.1 (subst (λ (i : ℕ). has set i ≡ true) (sym under.0) inside)) [
            | inl todo_still ↦ absurd (cc)
            | inr stayed ↦ stayed
          ]

-- where nothing hangs on a device directly, nothing depends on it
none_dependent : (c : Core) (k : ℕ) → Ascending 0 c.nodes → ((j : ℕ) (m : Node) → node_at j c.nodes ≡ Some m → hangs_on c (k ∷ []) m ≡ true → ⊥) → (j : ℕ) → has (dependents c k) j ≡ true → ⊥
none_dependent c k order none j dep =
    let out : has [] j ≡ true =
    closed_within c (direct c k) [] order
    (λ i m at on. let some = hangs_some c [] m on in let no = some.1 in absurd (cc))
    (λ i near. let found = those_found 0 (hangs_on c (k ∷ [])) c.nodes i order near in absurd (none i found.0 found.1 found.2))
    j dep in
    cc

-- one of these is in the list
abbrev one_of : List ℕ → List ℕ → Bool
one_of behind js = list_any (λ j. has behind j) js

any_serial : (behind js : List ℕ) → one_of behind js ≡ true → (j : ℕ) × (has js j ≡ true) × (has behind j ≡ true)
any_serial behind [] h = absurd (cc)
any_serial behind (k ∷ ks) h =
    elim (or_cases (has behind k) (one_of behind ks) h) [
      | inl a ↦ (k, cons_here k ks, a)
      | inr b ↦ let more = any_serial behind ks b in (more.0, cons_there k ks more.0 more.1, more.2)
    ]

-- one of them stayed behind exactly where a direct one did
module _ (c : Core) (behind : List ℕ) (k : ℕ) (order : Ascending 0 c.nodes)
    (hung : (j : ℕ) (m : Node) → node_at j c.nodes ≡ Some m → hangs_on c (k ∷ []) m ≡ true → has behind j ≡ true) where
  some_direct : one_of behind (dependents c k) ≡ true → one_of behind (below c.nodes c.relations k) ≡ true
  some_direct h = by (one_of behind (below c.nodes c.relations k)) refl
    where
      by : (b : Bool) → one_of behind (below c.nodes c.relations k) ≡ b → one_of behind (below c.nodes c.relations k) ≡ true
      by true e = e
      by false e =
          let dep = any_serial behind (dependents c k) h in
          absurd (none_dependent c k order
          (λ j m at on.
          let more = any_some behind (below c.nodes c.relations k) j (hangs_listed c.nodes c.relations order k j m at on) (hung j m at on) in
          cc)
          dep.0 dep.1)

  some_dependent : one_of behind (below c.nodes c.relations k) ≡ true → one_of behind (dependents c k) ≡ true
  some_dependent h =
      let near = any_serial behind (below c.nodes c.relations k) h in
      let node = listed_hangs c.nodes c.relations order k near.0 near.1 in
      any_some behind (dependents c k) near.0 (child_dependent c k near.0 node.0 order node.1 node.2) near.2

  direct_says : one_of behind (dependents c k) ≡ one_of behind (below c.nodes c.relations k)
  direct_says = both_ways (one_of behind (dependents c k)) (one_of behind (below c.nodes c.relations k)) some_direct some_dependent

-- What a step needs ------------------------------------------------------------------------------

head_same : (j k : ℕ) (todo : List ℕ) → HeadIs j todo → HeadIs k todo → j ≡ k
head_same j k [] a b = absurd a
head_same j k (i ∷ is) a b = sym a ∙ b

-- nothing hangs on a device that does not stay behind
goes_alone : (next : ℕ) (c : Core) (o : Job) (handles : List Handle) (k : ℕ) → Ascending 0 c.nodes → Tree next c → FinishesBut c o.set o.behind o.todo → HeadIs k o.todo → has o.set k ≡ true
    → stays c.nodes c.relations o handles k ≡ false → HeadAlone c o.todo
goes_alone next c o handles k order tree finishes head inside goes i same j m at on =
    let on_k = subst (λ (x : ℕ). hangs_on c (x ∷ []) m ≡ true) (head_same i k o.todo same head) on in
    let stayed = hung_behind next c o.set o.behind o.todo order tree finishes k head inside j m at on_k in
    let some = any_some o.behind (below c.nodes c.relations k) j (hangs_listed c.nodes c.relations order k j m at on_k) stayed in
    let later = or_neither (has o.told k) (is_open handles k || has_behind o (below c.nodes c.relations k)) goes in
    let none = or_neither (is_open handles k) (has_behind o (below c.nodes c.relations k)) later.1 in
    let no = none.1 in
    cc

module _ (next : ℕ) (c : Core) (o : Job) (handles : List Handle) (order : Ascending 0 c.nodes) (tree : Tree next c) (whole : HoldsWhole c.nodes)
    (stacks : (k : ℕ) (n : Node) → node_at k c.nodes ≡ Some n → HasStackOf k n.state n.stack) (rootless : has o.set 0 ≡ false) (inside : Within o.todo o.set) where
  no_root : has o.todo 0 ≡ false
  no_root = untrue (has o.todo 0) (λ h. let own = inside 0 h in cc)

  -- without drivers it is bare
  bare_at : (n : Node) → n.stack ≡ [] → first_node c.nodes o.todo ≡ Some n → (k : ℕ) (m : Node) → HeadIs k o.todo → node_at k c.nodes ≡ Some m → m.state ≡ NoStack
  bare_at n none first k m head at =
      let found = head_found c.nodes o.todo n first in
      let own = head_same n.serial k o.todo found.0 head in
      let same = some_same (node_at k c.nodes) n m (subst (λ (i : ℕ). node_at i c.nodes ≡ Some n) own found.1) at in
      (stacks k m at).some (not_root o.todo k no_root (head_has k o.todo head)) (subst (λ (x : Node). x.stack ≡ []) same none)

  -- where it is decided, it may leave if it goes without drivers
  next_settles : FinishesBut c o.set o.behind o.todo → SettlesStripped c.nodes c.relations o handles Stage.Next
  next_settles finishes = by (first_node c.nodes o.todo) refl
    where
      by : (x : Option Node) → first_node c.nodes o.todo ≡ x → IfSome x (λ n. n.stack ≡ [] → stays c.nodes c.relations o handles n.serial ≡ false → IsStripped c.nodes n)
      by None first = tt
      by (Some n) first = λ none goes.
          let head = (head_found c.nodes o.todo n first).0 in
          let alone = goes_alone next c o handles n.serial order tree finishes head (inside n.serial (head_has n.serial o.todo head)) goes in
          subst (λ (x : Option Node). IfSome x (IsStripped c.nodes)) first (alone_may_leave c o.todo order whole no_root alone (bare_at n none first))

  -- and the direct ones tell whether it stays
  next_direct : FinishesBut c o.set o.behind o.todo → DirectSays c.nodes c.relations o Stage.Next
  next_direct finishes = by (first_node c.nodes o.todo) refl
    where
      by : (x : Option Node) → first_node c.nodes o.todo ≡ x → IfSome x (λ n. has_behind o (dependents (base c.nodes c.relations) n.serial) ≡ has_behind o (below c.nodes c.relations n.serial))
      by None first = tt
      by (Some n) first =
          let head = (head_found c.nodes o.todo n first).0 in
          ap (has_behind o) (sym (dependents_same c.nodes c.relations c n.serial))
          ∙ direct_says c o.behind n.serial order (hung_behind next c o.set o.behind o.todo order tree finishes n.serial head (inside n.serial (head_has n.serial o.todo head)))

  settles : (stage : Stage) → SurpriseKeeps o stage c.nodes → SurpriseOrder c o stage → SettlesStripped c.nodes c.relations o handles stage
  settles Stage.Next keeps h = next_settles h
  settles Stage.Settling keeps h = alone_may_leave c o.todo order whole no_root h.1 (λ k n head at. head_bare o.todo k n.state head (keeps.each k n at))
  settles _ keeps h = tt

  says : (stage : Stage) → SurpriseOrder c o stage → DirectSays c.nodes c.relations o stage
  says Stage.Next h = next_direct h
  says _ h = tt

there : (nodes : List Node) (o : Job) (stage : Stage) → SurpriseEnds o stage → SurpriseThere o stage nodes → HasNext nodes o stage
there nodes o Stage.Ending ends h = tt
there nodes o Stage.Telling ends h = first_there o.todo nodes h.0
there nodes o Stage.Next ends h = first_there o.todo nodes h.0
there nodes o Stage.Removing ends h = first_there o.todo nodes h.0
there nodes o Stage.Settling ends h = first_there o.todo nodes h.0
there nodes o _ ends h = absurd ends

-- a surprise removal under way in a state of a run can take its step, where no request waits
pub surprise_ready : (s : State) (o : Job) (handles : List Handle) → course_of o.kind ≡ Course.Surprising → Kept s → HoldsWhole s.core.nodes → s.operation ≡ Some o
    → HasNext s.core.nodes o o.stage × DirectSays s.core.nodes s.core.relations o o.stage × SettlesStripped s.core.nodes s.core.relations o handles o.stage
surprise_ready s o handles course kept whole is =
    let runs = runs_as Course.Surprising s o course kept is in
    let keeps = runs.1 in (
      there s.core.nodes o o.stage keeps.ends runs.0.1,
      says s.next_serial s.core o handles kept.good.serials kept.stands.tree whole kept.good.stacks keeps.rootless keeps.inside o.stage runs.0.0,
      settles s.next_serial s.core o handles kept.good.serials kept.stands.tree whole kept.good.stacks keeps.rootless keeps.inside o.stage keeps runs.0.0,
    )
