-- The tree under other paths: who depends on whom, who stands up, what is held and who leaves first is the same.
use Rattle.std.proofs.Common.{ℕ, zero, suc, ◌≡◌, Bool, not, List, [], ◌∷◌, ◌++◌, length, Option, Some, None, refl, ap, ap₂, ◌∙◌}
use Rattle.std.specs.Prelude.{◌==◌, ◌&&◌, option_map, nat_le, if◌then◌else◌}
use Rattle.std.specs.List.{list_any, list_all}
use mathlib.Core.Path.{fun_ext}
use Rattle.resource_reqs.specs.Resources.{Res, Reqs}
use Rattle.resource_reqs.specs.declared.kind.Kind.{Kind}
use Rattle.pnp_model.specs.Keyed.{those, without_first}
use Rattle.pnp_model.specs.Tests.{has, is_surprise_removed}
use Rattle.pnp_model.specs.Cores.{node_at, is_node, serials_of}
use Rattle.pnp_model.specs.Trees.{above, above_in, children, closed, closed_in, dependents, direct, greatest, grown, hangs_on, is_child, is_free, is_in_or_on, is_up, leaving, leaving_in, set_of, stands_up}
use Rattle.pnp_model.specs.Handles.{has_drivers, holds_back, is_open, is_ready_device, ready_device}
use Rattle.pnp_model.specs.Windows.{birth_of, births, clip, clip_by, is_window_on, narrowed, Room, room}
use Rattle.pnp_model.specs.Frames.{first_node, fixed_beside, held_by, is_beside}
use Rattle.pnp_model.specs.Records.{Core, Handle, Node, Window}
use Rattle.pnp_pairs.specs.Renamed as renamed
use Rattle.pnp_pairs.specs.Renamed.{Renaming}
use Rattle.pnp_pairs.proofs.Maps.{any_map, count_map, find_map, those_map}

module _ (r : Renaming) where
  pub at : (k : ℕ) (ns : List Node) → node_at k (renamed.nodes r ns) ≡ option_map (renamed.node r) (node_at k ns)
  at k ns = find_map (renamed.node r) (is_node k) (is_node k) (λ n. refl) ns

  pub first_at : (ns : List Node) (ks : List ℕ) → first_node (renamed.nodes r ns) ks ≡ option_map (renamed.node r) (first_node ns ks)
  first_at ns [] = refl
  first_at ns (k ∷ ks) = at k ns

  pub serials_same : (ns : List Node) → serials_of (renamed.nodes r ns) ≡ serials_of ns
  serials_same [] = refl
  serials_same (n ∷ ns) = ap (λ t. n.serial ∷ t) (serials_same ns)

  pub children_same : (k : ℕ) (ns : List Node) → children k (renamed.nodes r ns) ≡ renamed.nodes r (children k ns)
  children_same k ns = those_map (renamed.node r) (is_child k) (is_child k) (λ n. refl) ns

  -- Above -------------------------------------------------------------------------

  abbrev up : (ℕ → List ℕ) → Option Node → List ℕ
  up more o = elim o as (λ _. List ℕ) [ None ↦ [] | Some n ↦ n.parent ∷ more n.parent ]

  up_alike : (f g : ℕ → List ℕ) → ((k : ℕ) → f k ≡ g k) → (o : Option Node) → up f (option_map (renamed.node r) o) ≡ up g o
  up_alike f g e None = refl
  up_alike f g e (Some n) = ap (λ t. n.parent ∷ t) (e n.parent)

  above_in_same : (n : ℕ) (ns : List Node) (k : ℕ) → above_in n (renamed.nodes r ns) k ≡ above_in n ns k
  above_in_same zero ns k = refl
  above_in_same (suc n) ns k =
      ap (up (above_in n (renamed.nodes r ns))) (at k ns)
      ∙ up_alike (above_in n (renamed.nodes r ns)) (above_in n ns) (above_in_same n ns) (node_at k ns)

  pub above_same : (ns : List Node) (k : ℕ) → above (renamed.nodes r ns) k ≡ above ns k
  above_same ns k = above_in_same k ns k

  up_same : (ns : List Node) (j : ℕ) → is_up (node_at j (renamed.nodes r ns)) ≡ is_up (node_at j ns)
  up_same ns j = ap is_up (at j ns) ∙ by_node (node_at j ns)
    where
      by_node : (o : Option Node) → is_up (option_map (renamed.node r) o) ≡ is_up o
      by_node None = refl
      by_node (Some n) = refl

  pub stands_same : (ns : List Node) (k : ℕ) → stands_up (renamed.nodes r ns) k ≡ stands_up ns k
  stands_same ns k =
      ap (list_all (λ j. is_up (node_at j (renamed.nodes r ns)))) (above_same ns k)
      ∙ ap (λ (f : ℕ → Bool). list_all f (above ns k)) (fun_ext (λ j. up_same ns j))

  -- Dependents and the leaving order ----------------------------------------------

  grown_same : (c : Core) (set : List ℕ) → grown (renamed.core r c) set ≡ grown c set
  grown_same c set =
      ap serials_of (those_map (renamed.node r) (is_in_or_on c set) (is_in_or_on (renamed.core r c) set) (λ n. refl) c.nodes)
      ∙ serials_same (those (is_in_or_on c set) c.nodes)

  closed_in_same : (n : ℕ) (c : Core) (set : List ℕ) → closed_in n (renamed.core r c) set ≡ closed_in n c set
  closed_in_same zero c set = refl
  closed_in_same (suc n) c set =
      ap (λ (g : List ℕ). if nat_le (length g) (length set) then set else closed_in n (renamed.core r c) g) (grown_same c set)
      ∙ ap (λ (t : List ℕ). if nat_le (length (grown c set)) (length set) then set else t) (closed_in_same n c (grown c set))

  closed_same : (c : Core) (set : List ℕ) → closed (renamed.core r c) set ≡ closed c set
  closed_same c set =
      ap (λ (n : ℕ). closed_in n (renamed.core r c) set) (count_map (renamed.node r) c.nodes) ∙ closed_in_same (length c.nodes) c set

  direct_same : (c : Core) (k : ℕ) → direct (renamed.core r c) k ≡ direct c k
  direct_same c k =
      ap serials_of (those_map (renamed.node r) (hangs_on c (k ∷ [])) (hangs_on (renamed.core r c) (k ∷ [])) (λ n. refl) c.nodes)
      ∙ serials_same (those (hangs_on c (k ∷ [])) c.nodes)

  pub dependents_same : (c : Core) (k : ℕ) → dependents (renamed.core r c) k ≡ dependents c k
  dependents_same c k = ap (closed (renamed.core r c)) (direct_same c k) ∙ closed_same c (direct c k)

  free_same : (c : Core) (left : List ℕ) (k : ℕ) → is_free (renamed.core r c) left k ≡ is_free c left k
  free_same c left k = ap (λ (ks : List ℕ). not (list_any (λ j. has left j) ks)) (dependents_same c k)

  abbrev rest_of : List ℕ → (List ℕ → List ℕ) → Option ℕ → List ℕ
  rest_of left more o = elim o as (λ _. List ℕ) [ None ↦ [] | Some k ↦ k ∷ more (without_first (λ j. j == k) left) ]

  rest_same : (left : List ℕ) (f g : List ℕ → List ℕ) → ((ks : List ℕ) → f ks ≡ g ks) → (o : Option ℕ) → rest_of left f o ≡ rest_of left g o
  rest_same left f g e None = refl
  rest_same left f g e (Some k) = ap (λ (t : List ℕ). k ∷ t) (e (without_first (λ j. j == k) left))

  leaving_in_same : (n : ℕ) (c : Core) (left : List ℕ) → leaving_in n (renamed.core r c) left ≡ leaving_in n c left
  leaving_in_same zero c left = refl
  leaving_in_same (suc n) c left =
      ap (λ (f : ℕ → Bool). rest_of left (leaving_in n (renamed.core r c)) (greatest (those f left))) (fun_ext (λ k. free_same c left k))
      ∙ rest_same left (leaving_in n (renamed.core r c)) (leaving_in n c) (leaving_in_same n c) (greatest (those (is_free c left) left))

  pub leaving_same : (c : Core) (k : ℕ) → leaving (renamed.core r c) k ≡ leaving c k
  leaving_same c k =
      ap (λ (set : List ℕ). leaving_in (length set) (renamed.core r c) set) (closed_same c (k ∷ []))
      ∙ leaving_in_same (length (set_of c k)) c (set_of c k)

  -- Who is ready to be finished ---------------------------------------------------

  pub ready_one : (c : Core) (handles : List Handle) (n : Node) → is_ready_device (renamed.core r c) handles (renamed.node r n) ≡ is_ready_device c handles n
  ready_one c handles n =
      ap (λ (b : Bool). is_surprise_removed n.state && (has_drivers n.stack && (not (is_open handles n.serial) && not b)))
      (any_map (renamed.node r) (holds_back c n.serial) (holds_back (renamed.core r c) n.serial) (λ m. refl) c.nodes)

  pub ready_same : (c : Core) (handles : List Handle) → ready_device (renamed.core r c) handles ≡ ready_device c handles
  ready_same c handles =
      ap (λ (ns : List Node). greatest (serials_of ns)) (those_map (renamed.node r) (is_ready_device c handles) (is_ready_device (renamed.core r c) handles) (ready_one c handles) c.nodes)
      ∙ ap greatest (serials_same (those (is_ready_device c handles) c.nodes))

  -- Windows -----------------------------------------------------------------------

  birth_same : (o : Option Node) → birth_of (option_map (renamed.node r) o) ≡ birth_of o
  birth_same None = refl
  birth_same (Some n) = refl

  births_same : (ns : List Node) (ks : List ℕ) → births (renamed.nodes r ns) ks ≡ births ns ks
  births_same ns [] = refl
  births_same ns (k ∷ ks) = ap₂ (λ (a b : List ℕ). a ++ b) (ap birth_of (at k ns) ∙ birth_same (node_at k ns)) (births_same ns ks)

  room_same : (windows : List Window) (ns : List Node) (parent : ℕ) (kind : Kind) → room windows (renamed.nodes r ns) parent kind ≡ room windows ns parent kind
  room_same windows ns parent kind =
      ap (λ (borns : List ℕ). narrowed (those (is_window_on kind borns) windows))
      (ap (λ (t : List ℕ). births (renamed.nodes r ns) (parent ∷ t)) (above_same ns parent) ∙ births_same ns (parent ∷ above ns parent))

  pub clip_same : (windows : List Window) (ns : List Node) (parent : ℕ) (reqs : Reqs) → clip windows (renamed.nodes r ns) parent reqs ≡ clip windows ns parent reqs
  clip_same windows ns parent reqs = ap (λ (f : Kind → Room). clip_by f reqs) (fun_ext (λ kind. room_same windows ns parent kind))

  -- Holdings ----------------------------------------------------------------------

  pub held_same : (ns : List Node) → held_by (renamed.nodes r ns) ≡ held_by ns
  held_same [] = refl
  held_same (n ∷ ns) = ap (λ (t : List Res). n.holds ++ t) (held_same ns)

  pub fixed_same : (c : Core) (movers : List ℕ) → fixed_beside (renamed.core r c) movers ≡ fixed_beside c movers
  fixed_same c movers =
      ap (λ (ns : List Node). c.reserved ++ held_by ns) (those_map (renamed.node r) (is_beside movers) (is_beside movers) (λ n. refl) c.nodes)
      ∙ ap (λ (t : List Res). c.reserved ++ t) (held_same (those (is_beside movers) c.nodes))
