-- What is known of the device that is next, and of its request, where a step of an operation is put together.
use Rattle.std.proofs.Common.{◌≡◌, ℕ, Bool, true, false, List, [], Option, Some, None, IfSome, IfOk, Result, Ok, Err, OnErr, slice_get, is_some, refl, sym, ap, ◌∙◌, subst}
use Rattle.pnp_labels.specs.Texts.{Text}
use Rattle.pnp_model.specs.Cores.{core_of, node_at, set_rack}
use Rattle.pnp_model.specs.Frames.{first_node}
use Rattle.pnp_model.specs.Walks.{is_bad}
use Rattle.pnp_model.specs.Records.{Node, Core, Driver, Walk}
use Rattle.pnp_laws.proofs.Lookups.{own_serial}
use Rattle.devnode_tree.specs.Trees.{CanLeave}
use Rattle.operation_frame.specs.Nodes.{PathIs, HoldsNothing, IsStripped}
use Rattle.operation_frame.specs.Walks.{WalksFor, walk_if}
use Rattle.operation_frame.specs.declared.walking.Walked.TheVariants.{Ended}
use Rattle.operation_frame.proofs.Queues.{first_is}

pub on_err : {T E : Type 0} (P : Type 0) (r : Result T E) → P → OnErr r P
on_err P (Ok x) h = tt
on_err P (Err e) h = h

-- a request is on its way, at whatever driver
pub walks_with : (b : Bool) (w w' : Walk) → is_some (walk_if b w) ≡ true → walk_if b w' ≡ Some w'
walks_with true w w' h = refl
walks_with false w w' h = absurd (cc)

-- what stays where a request has ended
module _ (x : Option Node) (rack rack' : List Driver) (w w' : Walk) (path : Text) (refused : Bool) (h : (around : Core) → WalksFor x (set_rack rack around) w (Ended path refused) (set_rack rack' around) w') where
  -- with nothing else
  alone : WalksFor x (core_of [] [] rack []) w (Ended path refused) (core_of [] [] rack' []) w'
  alone = h (core_of [] [] [] [])

  pub ended_path : PathIs x path
  ended_path = by x alone
    where
      by : (x : Option Node) → WalksFor x (core_of [] [] rack []) w (Ended path refused) (core_of [] [] rack' []) w' → PathIs x path
      by None h = h
      by (Some node) h = h.2

  pub ended_same : (rack' ≡ rack) × (w' ≡ w)
  ended_same = by x alone
    where
      by : (x : Option Node) → WalksFor x (core_of [] [] rack []) w (Ended path refused) (core_of [] [] rack' []) w' → (rack' ≡ rack) × (w' ≡ w)
      by None h = absurd h
      by (Some node) h = (ap (λ (c : Core). c.rack) h.3, h.4)

  pub ended_refused : refused ≡ is_bad w
  ended_refused = by x alone
    where
      by : (x : Option Node) → WalksFor x (core_of [] [] rack []) w (Ended path refused) (core_of [] [] rack' []) w' → refused ≡ is_bad w
      by None h = absurd h
      by (Some node) h = h.1

-- the device that is next may leave, and holds nothing
pub stripped_at : (nodes : List Node) (todo : List ℕ) (k : ℕ) (node : Node) → Some k ≡ slice_get todo 0 → Some node ≡ node_at k nodes → IfSome (first_node nodes todo) (IsStripped nodes)
    → CanLeave node.serial nodes × HoldsNothing (node_at node.serial nodes)
stripped_at nodes todo k node first at h =
    let is : first_node nodes todo ≡ Some node = first_is nodes todo k (sym first) ∙ sym at in
    let two = subst (λ (o : Option Node). IfSome o (IsStripped nodes)) is h in
    let found : node_at node.serial nodes ≡ Some node = ap (λ i. node_at i nodes) (own_serial k node nodes (sym at)) ∙ sym at in
    (two.0, subst (λ (o : Option Node). HoldsNothing o) (sym found) two.1)

pub ok_then : {T E : Type 0} (P Q : T → Type 0) → ((x : T) → P x → Q x) → (r : Result T E) → IfOk r P → IfOk r Q
ok_then P Q f (Ok x) h = f x h
ok_then P Q f (Err e) h = tt
