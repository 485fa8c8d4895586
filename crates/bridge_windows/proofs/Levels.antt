-- What comes through from above, met one level at a time.
use Rattle.std.proofs.Common.{◌≡◌, ◌≢◌, ℕ, List, ◌∷◌, Some, None, sym, ap, ◌∙◌, subst}
use Rattle.std.proofs.Math.Nat.{le_refl}
use Rattle.resource_reqs.specs.declared.kind.Kind.{Kind}
use Rattle.pnp_model.specs.Cores.{node_at}
use Rattle.pnp_model.specs.Records.{Node, Window}
use Rattle.pnp_model.specs.Keyed.{those}
use Rattle.pnp_model.specs.Trees.{above}
use Rattle.pnp_model.specs.Windows.{Room, birth_of, births, room, all_numbers, is_window_on}
use Rattle.devnode_tree.specs.Trees.{Tree, IsTree}
use Rattle.devnode_tree.proofs.Climbs.{climbs, nothing_above}
use Rattle.bridge_windows.specs.Rooms.{meet, narrowed_by, ranges_at}
use Rattle.bridge_windows.proofs.Meets.{IsNarrow, meet_assoc, meet_comm, meet_all, meet_narrow, meet_twice}
use Rattle.bridge_windows.proofs.Narrowing.{through, through_none, through_both, narrowed_narrow, narrow_node}

-- what comes through to a node
abbrev pub of_above : List Window → List Node → ℕ → Kind → Room
of_above windows nodes k kind = through kind (births nodes (above nodes k)) windows

-- what comes through so far, and what comes through to the node that is next, make up the room below the first one
pub record Climbed (windows : List Window) (nodes : List Node) (parent at : ℕ) (kind : Kind) (r : Room) : Type 0 where
  pub whole : meet r (of_above windows nodes at kind) ≡ room windows nodes parent kind
  pub narrow : IsNarrow r

module _ (nodes : List Node) (windows : List Window) (kind : Kind) where
  -- what the device of a node lets through
  abbrev own : ℕ → Room
  own k = through kind (birth_of (node_at k nodes)) windows

  own_narrow : (k : ℕ) → IsNarrow (own k)
  own_narrow k = narrowed_narrow (those (is_window_on kind (birth_of (node_at k nodes))) windows)

  -- what those of several nodes do
  abbrev of_all : List ℕ → Room
  of_all ks = through kind (births nodes ks) windows

  takes : (k : ℕ) (ks : List ℕ) → of_all (k ∷ ks) ≡ meet (own k) (of_all ks)
  takes k ks = through_both kind (birth_of (node_at k nodes)) (births nodes ks) windows

  -- the first level: the node's own windows
  pub begun : (k : ℕ) (r r' : Room) → r ≡ all_numbers → r' ≡ narrowed_by kind (ranges_at windows (node_at k nodes)) r → Climbed windows nodes k k kind r'
  begun k r r' all is =
      let first : r' ≡ own k = is ∙ (ap (narrowed_by kind (ranges_at windows (node_at k nodes))) all
      ∙ (narrow_node kind (node_at k nodes) windows all_numbers (le_refl _) ∙ (meet_comm all_numbers (own k) ∙ meet_all (own k) (own_narrow k)))) in
      record {
        whole = ap (λ (x : Room). meet x (of_above windows nodes k kind)) first ∙ sym (takes k (above nodes k));
        narrow = subst IsNarrow (sym first) (own_narrow k);
      }

  -- the end of the climb
  ended : (parent k : ℕ) (r : Room) → of_above windows nodes k kind ≡ all_numbers → Climbed windows nodes parent k kind r → r ≡ room windows nodes parent kind
  ended parent k r all so_far = sym (ap (meet r) all ∙ meet_all r so_far.narrow) ∙ so_far.whole

  -- at the root, to which everything comes through
  pub at_root : (parent : ℕ) (r : Room) → Climbed windows nodes parent 0 kind r → r ≡ room windows nodes parent kind
  at_root parent r so_far = ended parent 0 r (through_none kind windows) so_far

  -- and where nothing is there
  pub at_none : (parent k : ℕ) (r : Room) → node_at k nodes ≡ None → Climbed windows nodes parent k kind r → r ≡ room windows nodes parent kind
  at_none parent k r none so_far = ended parent k r (ap of_all (nothing_above nodes k none) ∙ through_none kind windows) so_far

module _ (t : Tree) (tree : IsTree t) (windows : List Window) (kind : Kind) where
  abbrev lets : ℕ → Room
  lets k = own t.nodes windows kind k

  -- what comes through to a node is what comes through to its parent, and what that one lets through
  one_up : (k : ℕ) (n : Node) → node_at k t.nodes ≡ Some n → k ≢ 0 → of_above windows t.nodes k kind ≡ meet (lets n.parent) (of_above windows t.nodes n.parent kind)
  one_up k n at up = climbs t tree Room (λ j r. meet (lets j) r) (of_all t.nodes windows kind) (takes t.nodes windows kind) (λ r. meet_twice (lets 0) r) k n at up

  -- one level more
  pub one_more : (parent k : ℕ) (n : Node) → node_at k t.nodes ≡ Some n → k ≢ 0 → (r r' : Room) → r' ≡ narrowed_by kind (ranges_at windows (node_at n.parent t.nodes)) r
      → Climbed windows t.nodes parent k kind r → Climbed windows t.nodes parent n.parent kind r'
  one_more parent k n at up r r' is so_far =
      let next : r' ≡ meet r (lets n.parent) = is ∙ narrow_node kind (node_at n.parent t.nodes) windows r so_far.narrow in
      record {
        whole =
            ap (λ (x : Room). meet x (of_above windows t.nodes n.parent kind)) next
            ∙ (sym (meet_assoc r (lets n.parent) (of_above windows t.nodes n.parent kind)) ∙ (ap (meet r) (sym (one_up k n at up)) ∙ so_far.whole));
        narrow = subst IsNarrow (sym next) (meet_narrow r (lets n.parent) (own_narrow t.nodes windows kind n.parent));
      }
