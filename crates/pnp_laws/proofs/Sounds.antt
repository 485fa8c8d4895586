-- A step is sound: by what it changes.
use Rattle.std.proofs.Common.{ℕ, suc, drop, ◌≡◌, ◌≢◌, ◌==◌, ◌⊎◌, inl, inr, Bool, true, false, not, cond, List, [], ◌∷◌, ◌++◌, Some, None, refl, sym, ap, ◌∙◌, subst, arith}
use Rattle.std.specs.List.{slice_get}
use Rattle.std.specs.Option.{option_map}
use Rattle.std.proofs.lemmas.Bool.Decides.{nat_tests}
use Rattle.pnp_model.specs.Keyed.{changed_first}
use Rattle.pnp_model.specs.Tests.{has, is_surprise_task}
use Rattle.pnp_model.specs.Records.{Node, Core, Task, State}
use Rattle.pnp_model.specs.Cores.{is_node, node_at, with_state, strip, bare, drop_node}
use Rattle.pnp_model.specs.Trees.{children, is_child, above, dependents}
use Rattle.pnp_model.specs.Diagram.{Walked, Row}
use Rattle.pnp_model.specs.Laws.{DependentsFirst}
use Rattle.pnp_labels.specs.Texts.{Text}
use Rattle.pnp_labels.specs.declared.states.DevState.{DevState}
use Rattle.pnp_labels.specs.declared.words.Minor.{Minor}
use Rattle.pnp_labels.specs.declared.label.Label.{Label}
use Rattle.pnp_labels.specs.declared.states.DevState.TheVariants.{NoStack, Stopped}
use Rattle.pnp_laws.specs.Kept.{Ascending}
use Rattle.pnp_laws.specs.Due.{leads, is_due}
use Rattle.pnp_laws.proofs.Lists.{has_cases}
use Rattle.pnp_laws.proofs.Orders.{any_some}
use Rattle.pnp_laws.proofs.Lookups.{some_same, node_from, node_changed_same, left_missing, left_from, first_is}
use Rattle.pnp_laws.proofs.Due.{leads_append, none_leads, RootIsOwn}
use Rattle.pnp_laws.proofs.Aboves.{due_more, any_from}
use Rattle.pnp_laws.proofs.Standing.{Tree, TasksUp, DutyUp, DueBut, waiting, StageKept, Stands, Sound, IsNoLeave, FromThose}
use Rattle.pnp_laws.proofs.TreeChanges.{SameTree, SameNodes, same_still, tree_same, above_same}
use Rattle.pnp_laws.proofs.TreeMoves.{Childless, was_stripped, now_stripped, tree_stripped, tree_left, above_left}
use Rattle.pnp_laws.proofs.Closures.{tail_at}
use Rattle.pnp_laws.proofs.Truths.{and_both, by_test}

-- Tasks ---------------------------------------------------------------------------------------

pub up_append : (tasks : List Task) (task : Task) → DutyUp task.kind task.serial → TasksUp tasks → TasksUp (tasks ++ task ∷ [])
up_append [] task h g = (h, tt)
up_append (t ∷ tasks) task h g = (g.0, up_append tasks task h g.1)

pub up_drop : (tasks : List Task) → TasksUp tasks → TasksUp (drop 1 tasks)
up_drop [] g = tt
up_drop (t ∷ tasks) g = g.1

pub up_first : (tasks : List Task) (task : Task) → slice_get tasks 0 ≡ Some task → TasksUp tasks → DutyUp task.kind task.serial
up_first tasks task h g = (subst TasksUp (first_is tasks task h) g).0

-- each lead stays one
abbrev pub LeadsMore : List Task → List Task → Type 0
LeadsMore tasks more = (j : ℕ) → has (leads tasks) j ≡ true → has (leads more) j ≡ true

pub leads_same : (tasks : List Task) → LeadsMore tasks tasks
leads_same tasks j h = h

pub leads_pushed : (tasks : List Task) (task : Task) → LeadsMore tasks (tasks ++ task ∷ [])
leads_pushed tasks task j h = leads_append tasks task j h

-- where another kind of task comes first, nothing leads
pub leads_none : (tasks more : List Task) (task : Task) → slice_get tasks 0 ≡ Some task → is_surprise_task task.kind ≡ false → LeadsMore tasks more
leads_none tasks more task first kind j h = absurd (let none = none_leads tasks task first kind in let h2 = subst (λ (ks : List ℕ). has ks j ≡ true) none h in cc)

pub leads_first : (tasks : List Task) (task : Task) → is_surprise_task task.kind ≡ true → LeadsMore tasks (task ∷ tasks)
leads_first tasks task kind j h = grind (arith, nat_tests)

-- Due ---------------------------------------------------------------------------------------

-- the nodes are the same but for states, and only those that wait become Stopped
pub due_same : (rest next : List ℕ) (tasks more : List Task) (old new : List Node) → SameNodes old new → LeadsMore tasks more →
    ((k : ℕ) (n m : Node) → node_at k old ≡ Some n → node_at k new ≡ Some m → m.state ≡ Stopped → (n.state ≡ Stopped) ⊎ (has next k ≡ true)) →
    ((k : ℕ) (m : Node) → node_at k new ≡ Some m → m.state ≡ Stopped → has rest k ≡ true → (is_due more new k ≡ true) ⊎ (has next k ≡ true)) →
    DueBut rest tasks old → DueBut next more new
due_same rest next tasks more old new same leads states left due k m at stopped =
    let was = same.from k m at in
    elim (states k was.0 m was.1 at stopped) [
      | inl is ↦ elim (due k was.0 was.1 is) [
        | inl h ↦ inl (due_more tasks more old new k leads (above_same old new same k) h)
        | inr h ↦ left k m at stopped h
      ]
      | inr h ↦ inr h
    ]

-- no node changes
pub due_still : (rest next : List ℕ) (tasks more : List Task) (old new : List Node) → new ≡ old → LeadsMore tasks more → ((k : ℕ) → has rest k ≡ true → has next k ≡ true) → DueBut rest tasks old → DueBut next more new
due_still rest next tasks more old new same leads left due k m at stopped =
    let at_old = subst (λ (x : List Node). node_at k x ≡ Some m) same at in
    elim (due k m at_old stopped) [
      | inl h ↦ inl (due_more tasks more old new k leads (ap (λ (x : List Node). above x k) same) h)
      | inr h ↦ inr (left k h)
    ]

-- one node changes
pub due_changed : (rest next : List ℕ) (tasks more : List Task) (old new : List Node) (j : ℕ) (f : Node → Node) (node : Node) → new ≡ changed_first (is_node j) f old → ((x : Node) → (f x).serial ≡ x.serial) → node_at j old ≡ Some node →
    SameNodes old new → LeadsMore tasks more → ((f node).state ≡ Stopped → (node.state ≡ Stopped) ⊎ (has next j ≡ true)) →
    ((k : ℕ) → has rest k ≡ true → (has next k ≡ true) ⊎ ((j ≡ k) × (((f node).state ≡ Stopped) → is_due more new j ≡ true))) →
    DueBut rest tasks old → DueBut next more new
due_changed rest next tasks more old new j f node is keeps at same leads state left due =
    let now : node_at j new ≡ Some (f node) = subst (λ (x : List Node). node_at j x ≡ Some (f node)) (sym is) (node_changed_same j f old keeps ∙ ap (option_map f) at) in
    due_same rest next tasks more old new same leads
    (λ k n m was there stopped.
    elim (node_from j k f old m keeps (subst (λ (x : List Node). node_at k x ≡ Some m) is there)) [
      | inl (e, (y, q, r)) ↦
          let at_k = subst (λ (i : ℕ). node_at i old ≡ Some node) e at in
          let one : node ≡ y = some_same (node_at k old) node y at_k q in
          let two : node ≡ n = some_same (node_at k old) node n at_k was in
          let now2 : (f node).state ≡ Stopped = ap (λ (z : Node). (f z).state) one ∙ sym (ap (λ (z : Node). z.state) r) ∙ stopped in
          elim (state now2) [ inl h ↦ inl (ap (λ (z : Node). z.state) (sym two) ∙ h) | inr h ↦ inr (subst (λ (i : ℕ). has next i ≡ true) e h) ]
      | inr (d, q) ↦ inl (let one : n ≡ m = some_same (node_at k old) n m was q in ap (λ (z : Node). z.state) one ∙ stopped)
    ])
    (λ k m there stopped h.
    elim (left k h) [
      | inl g ↦ inr g
      | inr (e, g) ↦
          let there_j = subst (λ (i : ℕ). node_at i new ≡ Some m) (sym e) there in
          let one : f node ≡ m = some_same (node_at j new) (f node) m now there_j in
          inl (subst (λ (i : ℕ). is_due more new i ≡ true) e (g (ap (λ (z : Node). z.state) one ∙ stopped)))
    ])
    due

-- a task is dropped: who was due by it alone is its device or stands below it
pub due_less : (tasks : List Task) (task : Task) (nodes : List Node) (k : ℕ) → slice_get tasks 0 ≡ Some task → is_due tasks nodes k ≡ true
    → (is_due (drop 1 tasks) nodes k ≡ true) ⊎ ((is_surprise_task task.kind ≡ true) × (has (k ∷ above nodes k) task.serial ≡ true))
due_less tasks task nodes k first h =
    by_test (λ b. (is_due (drop 1 tasks) nodes k ≡ true) ⊎ ((b ≡ true) × (has (k ∷ above nodes k) task.serial ≡ true))) (is_surprise_task task.kind)
    (λ e.
    let found = any_from (leads tasks) (k ∷ above nodes k) h in
    let lead : leads tasks ≡ task.serial ∷ leads (drop 1 tasks) = ap leads (first_is tasks task first) ∙ ap (λ (b : Bool). cond b (task.serial ∷ leads (drop 1 tasks)) []) e in
    elim (has_cases task.serial found.0 (leads (drop 1 tasks)) (subst (λ (ks : List ℕ). has ks found.0 ≡ true) lead found.2)) [
      | inl q ↦ inr (refl, subst (λ (i : ℕ). has (k ∷ above nodes k) i ≡ true) (sym q) found.1)
      | inr q ↦ inl (any_some (leads (drop 1 tasks)) (k ∷ above nodes k) found.0 found.1 q)
    ])
    (λ e. absurd (let found = any_from (leads tasks) (k ∷ above nodes k) h in let none = subst (λ (ks : List ℕ). has ks found.0 ≡ true) (none_leads tasks task first e) found.2 in cc))

-- Labels ------------------------------------------------------------------------------------

-- no state of a device is printed
abbrev pub IsPlain : Label → Type 0
IsPlain (Label.State path state) = ⊥
IsPlain _ = Unit {0}

pub walked_plain : (label : Label) (old new : List Node) → IsPlain label → Walked label old new
walked_plain (Label.State p x) old new h = absurd h
walked_plain _ old new h = tt

not_state : (label : Label) (path : Text) (x : DevState) → IsPlain label → label ≡ Label.State path x → ⊥
not_state label path x plain e = subst (λ (l : Label). IsPlain l) e plain

-- nobody leaves
abbrev pub AllStay : List Node → List Node → Type 0
AllStay old new = (k : ℕ) (n : Node) → node_at k old ≡ Some n → node_at k new ≡ None → ⊥

pub stay_same : (c d : Core) → SameTree c d → AllStay c.nodes d.nodes
stay_same c d same k n at gone = let now = same.to k n at in let there = now.1 in cc

pub first_stays : (label : Label) (c d : Core) → IsPlain label → AllStay c.nodes d.nodes → DependentsFirst label c d
first_stays label c d plain stay =
    record { bare = λ path e. absurd (not_state label path NoStack plain e); childless = λ k n at gone. absurd (stay k n at gone) }

from_same : (c d : Core) → SameTree c d → FromThose c.nodes d.nodes
from_same c d same k m at = let was = same.from k m at in (was.0, was.1, was.2.born, was.2.parent)

-- where no node is a child, there are no children
pub no_children : (lo : ℕ) (j : ℕ) (nodes : List Node) → Ascending lo nodes → Childless j nodes → children j nodes ≡ []
no_children lo j [] order alone = refl
no_children lo j (n ∷ ns) order alone =
    let here = alone n.serial n (grind (arith, nat_tests)) in
    let more = no_children (suc n.serial) j ns order.1 (λ i m at d e. alone i m (tail_at lo n ns i m order at) d e) in
    let by_test : (b : Bool) → is_child j n ≡ b → cond b (n ∷ children j ns) (children j ns) ≡ [] =
    λ b. elim b as (λ b. is_child j n ≡ b → cond b (n ∷ children j ns) (children j ns) ≡ []) [
      | true ↦ λ e. let two = and_both (n.parent == j) (not (n.serial == 0)) e in let t0 = two.0 in let t1 = two.1 in absurd (here (grind (arith, nat_tests)) (grind (arith, nat_tests)))
      | false ↦ λ e. more
    ] in
    by_test (is_child j n) refl

-- Steps by what they change ---------------------------------------------------------------------

-- the tree stays, and no state is printed
pub sound_same : (s t : State) (label : Label) → IsPlain label → SameTree s.core t.core → t.next_serial ≡ s.next_serial → TasksUp t.tasks → StageKept t.operation t.core → DueBut (waiting t.operation) t.tasks t.core.nodes →
    Stands s → Sound s (record { label = label; state = t })
sound_same s t label plain same next up stage due stands =
    record {
      stands = record { tree = subst (λ (i : ℕ). Tree i t.core) (sym next) (tree_same s.next_serial s.core t.core same stands.tree); up = up; stage = stage; due = due };
      walked = walked_plain label s.core.nodes t.core.nodes plain;
      first = first_stays label s.core t.core plain (stay_same s.core t.core same);
      births = λ no_join. from_same s.core t.core same;
      stays = λ no_leave. stay_same s.core t.core same;
    }

-- no node changes
pub sound_still : (s t : State) (label : Label) → IsPlain label → t.core.nodes ≡ s.core.nodes → t.core.relations ≡ s.core.relations → t.next_serial ≡ s.next_serial → TasksUp t.tasks → StageKept t.operation t.core → DueBut (waiting t.operation) t.tasks t.core.nodes →
    Stands s → Sound s (record { label = label; state = t })
sound_still s t label plain a b next up stage due stands = sound_same s t label plain (same_still s.core t.core a b) next up stage due stands

-- a walk of a device ended, and it keeps its drivers
pub sound_walk : (s t : State) (node : Node) (minor : Minor) (bad : Bool) (y : DevState) → t.core.nodes ≡ changed_first (is_node node.serial) (with_state y) s.core.nodes → SameTree s.core t.core → t.next_serial ≡ s.next_serial →
    node_at node.serial s.core.nodes ≡ Some node → y ≢ NoStack → Row node.state minor bad y → TasksUp t.tasks → StageKept t.operation t.core → DueBut (waiting t.operation) t.tasks t.core.nodes →
    Stands s → Sound s (record { label = Label.State node.path y; state = t })
sound_walk s t node minor bad y is same next at up row tasks stage due stands =
    let now : node_at node.serial t.core.nodes ≡ Some (with_state y node) =
    subst (λ (x : List Node). node_at node.serial x ≡ Some (with_state y node)) (sym is) (node_changed_same node.serial (with_state y) s.core.nodes (λ x. refl) ∙ ap (option_map (with_state y)) at) in
    record {
      stands = record { tree = subst (λ (i : ℕ). Tree i t.core) (sym next) (tree_same s.next_serial s.core t.core same stands.tree); up = tasks; stage = stage; due = due };
      walked = (node.serial, node, with_state y node, minor, bad, at, now, refl, refl, row);
      first = record {
        bare = λ path e. absurd (up (let f : y ≡ NoStack = cc in f));
        childless = λ k n there gone. absurd (stay_same s.core t.core same k n there gone);
      };
      births = λ no_join. from_same s.core t.core same;
      stays = λ no_leave. stay_same s.core t.core same;
    }

-- a device lost its drivers
pub sound_strip : (s t : State) (node : Node) → t.core ≡ strip node.serial s.core → t.next_serial ≡ s.next_serial → node_at node.serial s.core.nodes ≡ Some node → Row node.state Minor.Remove false NoStack → Childless node.serial s.core.nodes →
    ((j : ℕ) (m : Node) → has (dependents s.core node.serial) j ≡ true → node_at j t.core.nodes ≡ Some m → m.stack ≡ []) → TasksUp t.tasks → StageKept t.operation t.core → DueBut (waiting t.operation) t.tasks t.core.nodes →
    Stands s → Sound s (record { label = Label.State node.path NoStack; state = t })
sound_strip s t node is next at row alone bare_first tasks stage due stands =
    let now : node_at node.serial t.core.nodes ≡ Some (bare node) =
    subst (λ (c : Core). node_at node.serial c.nodes ≡ Some (bare node)) (sym is) (node_changed_same node.serial bare s.core.nodes (λ x. refl) ∙ ap (option_map bare) at) in
    record {
      stands = record { tree = subst (λ (i : ℕ). Tree i t.core) (sym next) (subst (λ (c : Core). Tree s.next_serial c) (sym is) (tree_stripped s.next_serial node.serial s.core alone stands.tree)); up = tasks; stage = stage; due = due };
      walked = (node.serial, node, bare node, Minor.Remove, false, at, now, refl, refl, row);
      first = record {
        bare = λ path e k n there own j m dep there_j.
            let f : node.path ≡ path = cc in
            let k_is : k ≡ node.serial = stands.tree.paths k node.serial n node there at (own ∙ sym f) in
            bare_first j m (subst (λ (i : ℕ). has (dependents s.core i) j ≡ true) k_is dep) there_j;
        childless = λ k n there gone.
            absurd (let kept = now_stripped node.serial k s.core n there in let kept2 = subst (λ (c : Core). node_at k c.nodes ≡ Some kept.0) (sym is) kept.1 in cc);
      };
      births = λ no_join k m there.
          let was = was_stripped node.serial k s.core m (subst (λ (c : Core). node_at k c.nodes ≡ Some m) is there) in
          (was.node, was.at, was.born, was.parent);
      stays = λ no_leave k n there gone. let kept = now_stripped node.serial k s.core n there in let kept2 = subst (λ (c : Core). node_at k c.nodes ≡ Some kept.0) (sym is) kept.1 in cc;
    }

pub nodes_stripped : (j : ℕ) (c : Core) → SameNodes c.nodes (strip j c).nodes
nodes_stripped j c =
    record {
      from = λ k m at. let was = was_stripped j k c m at in (was.node, was.at, was.parent);
      to = λ k n at. now_stripped j k c n at;
    }

-- nothing becomes Stopped by losing drivers
pub due_stripped : (rest : List ℕ) (tasks more : List Task) (c d : Core) (j : ℕ) (node : Node) → d ≡ strip j c → node_at j c.nodes ≡ Some node → LeadsMore tasks more → DueBut rest tasks c.nodes → DueBut rest more d.nodes
due_stripped rest tasks more c d j node is at leads due =
    due_changed rest rest tasks more c.nodes d.nodes j bare node (ap (λ (x : Core). x.nodes) is) (λ x. refl) at
    (subst (λ (x : Core). SameNodes c.nodes x.nodes) (sym is) (nodes_stripped j c)) leads (λ e. absurd (cc)) (λ k h. inl h) due

-- a device left
pub sound_left : (s t : State) (label : Label) (node : Node) → IsPlain label → (IsNoLeave label → ⊥) → t.core ≡ drop_node node.serial s.core → t.next_serial ≡ s.next_serial → Ascending 0 s.core.nodes → Childless node.serial s.core.nodes →
    TasksUp t.tasks → StageKept t.operation t.core → DueBut (waiting t.operation) t.tasks t.core.nodes → Stands s → Sound s (record { label = label; state = t })
sound_left s t label node plain leaves is next order alone tasks stage due stands =
    record {
      stands = record { tree = subst (λ (i : ℕ). Tree i t.core) (sym next) (subst (λ (c : Core). Tree s.next_serial c) (sym is) (tree_left s.next_serial node.serial s.core order alone stands.tree)); up = tasks; stage = stage; due = due };
      walked = walked_plain label s.core.nodes t.core.nodes plain;
      first = record {
        bare = λ path e. absurd (not_state label path NoStack plain e);
        childless = λ k n there gone.
            let gone2 = subst (λ (c : Core). node_at k c.nodes ≡ None) is gone in
            let k_is : node.serial ≡ k = left_missing node.serial k s.core.nodes n there gone2 in
            subst (λ (i : ℕ). children i s.core.nodes ≡ []) k_is (no_children 0 node.serial s.core.nodes order alone);
      };
      births = λ no_join k m there.
          let from = left_from node.serial k s.core.nodes m order (subst (λ (c : Core). node_at k c.nodes ≡ Some m) is there) in
          (m, from.1, refl, refl);
      stays = λ no_leave. absurd (leaves no_leave);
    }

pub due_left : (rest : List ℕ) (tasks more : List Task) (c d : Core) (j : ℕ) → d ≡ drop_node j c → Ascending 0 c.nodes → Childless j c.nodes → RootIsOwn c.nodes → j ≢ 0 → LeadsMore tasks more → DueBut rest tasks c.nodes → DueBut rest more d.nodes
due_left rest tasks more c d j is order alone root up leads due =
    subst (λ (x : Core). DueBut rest more x.nodes) (sym is)
    (λ k m at stopped.
    let from = left_from j k c.nodes m order at in
    elim (due k m from.1 stopped) [
      | inl h ↦ inl (due_more tasks more c.nodes (drop_node j c).nodes k leads (above_left k j c alone root up k from.0) h)
      | inr h ↦ inr h
    ])
