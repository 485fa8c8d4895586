-- The end of the output under other words: the same rows in the same order.
use Rattle.std.proofs.Common.{ℕ, zero, suc, ◌+◌, ◌≡◌, List, [], ◌∷◌, ◌++◌, length, map, Option, Some, None, refl, sym, ap, ap₂, ◌∙◌}
use Rattle.std.specs.Prelude.{option_map}
use Rattle.std.proofs.lemmas.List.{map-append}
use Rattle.resource_reqs.specs.Resources.{Res}
use Rattle.pnp_model.specs.Cores.{node_at}
use Rattle.pnp_model.specs.Endings.{Held, Outstanding, Placed, activity_rows, map_rows, node_rows, operation_rows, placed, print_order, reserved_rows, root_of, row_before, serial_before}
use Rattle.pnp_model.specs.Keyed.{in_order, put_before}
use Rattle.pnp_model.specs.Records.{Job, Node, State}
use Rattle.pnp_model.specs.Trees.{children}
use Rattle.pnp_pairs.specs.Renamed as renamed
use Rattle.pnp_pairs.specs.Renamed.{Renaming}
use Rattle.pnp_pairs.specs.Renaming.{EndsAlike, RenamedEndsAlikeLaw, unnamed}
use Rattle.pnp_pairs.proofs.Maps.{choose_map, count_map, map_map}
use Rattle.pnp_pairs.proofs.Trees.{at, children_same}

-- rows are put in order by what is not a word
put_unnamed : (h : Held) (xs : List Held) → map unnamed (put_before (row_before h) h xs) ≡ put_before (row_before (unnamed h)) (unnamed h) (map unnamed xs)
put_unnamed h [] = refl
put_unnamed h (x ∷ xs) =
    sym (choose_map (map unnamed) (row_before h x) (h ∷ x ∷ xs) (x ∷ put_before (row_before h) h xs) (unnamed h ∷ unnamed x ∷ map unnamed xs) (unnamed x ∷ put_before (row_before (unnamed h)) (unnamed h) (map unnamed xs)) refl (ap (λ (t : List Held). unnamed x ∷ t) (sym (put_unnamed h xs))))

order_unnamed : (xs : List Held) → map unnamed (in_order row_before xs) ≡ in_order row_before (map unnamed xs)
order_unnamed [] = refl
order_unnamed (x ∷ xs) = put_unnamed x (in_order row_before xs) ∙ ap (put_before (row_before (unnamed x)) (unnamed x)) (order_unnamed xs)

module _ (r : Renaming) where
  abbrev place : Placed → Placed
  place p = record p { node = renamed.node r p.node }

  -- the tree --------------------------------------------------------------------------

  placed_same : (n depth : ℕ) (ns here : List Node) → placed n depth (renamed.nodes r ns) (renamed.nodes r here) ≡ map place (placed n depth ns here)
  placed_same zero depth ns here = refl
  placed_same (suc n) depth ns [] = refl
  placed_same (suc n) depth ns (node ∷ more) =
      ap (λ (t : List Placed). record { depth = depth; node = renamed.node r node } ∷ t)
      (ap₂ (λ (a b : List Placed). a ++ b)
      (ap (placed n (depth + 1) (renamed.nodes r ns)) (children_same r node.serial ns) ∙ placed_same n (depth + 1) ns (children node.serial ns))
      (placed_same (suc n) depth ns more)
      ∙ sym (map-append place (placed n (depth + 1) ns (children node.serial ns)) (placed (suc n) depth ns more)))

  root_same : (o : Option Node) → root_of (option_map (renamed.node r) o) ≡ renamed.nodes r (root_of o)
  root_same None = refl
  root_same (Some n) = refl

  tree_same : (ns : List Node) → print_order (renamed.nodes r ns) ≡ map place (print_order ns)
  tree_same ns =
      ap₂ (λ (n : ℕ) (here : List Node). placed n 0 (renamed.nodes r ns) here) (count_map (renamed.node r) ns) (ap root_of (at r 0 ns) ∙ root_same (node_at 0 ns))
      ∙ placed_same (length ns) 0 ns (root_of (node_at 0 ns))

  -- the map ---------------------------------------------------------------------------

  rows_same : (ns : List Node) → map unnamed (node_rows (renamed.nodes r ns)) ≡ map unnamed (node_rows ns)
  rows_same [] = refl
  rows_same (n ∷ ns) =
      map-append unnamed (map (λ (x : Res). record { res = x; owner = n.serial; words = r.path n.path }) n.holds) (node_rows (renamed.nodes r ns))
      ∙ ap₂ (λ (a b : List Held). a ++ b)
      (map_map (λ (x : Res). record { res = x; owner = n.serial; words = r.path n.path }) unnamed (λ x. record { res = x; owner = n.serial; words = [] }) (λ x. refl) n.holds
      ∙ sym (map_map (λ (x : Res). record { res = x; owner = n.serial; words = n.path }) unnamed (λ x. record { res = x; owner = n.serial; words = [] }) (λ x. refl) n.holds))
      (rows_same ns)
      ∙ sym (map-append unnamed (map (λ (x : Res). record { res = x; owner = n.serial; words = n.path }) n.holds) (node_rows ns))

  map_same : (s : State) → map unnamed (map_rows (renamed.core r s.core)) ≡ map unnamed (map_rows s.core)
  map_same s =
      let first : List Held = reserved_rows s.core.reserved in
      order_unnamed (first ++ node_rows (renamed.nodes r s.core.nodes))
      ∙ ap (in_order row_before) (map-append unnamed first (node_rows (renamed.nodes r s.core.nodes)) ∙ ap (λ (t : List Held). map unnamed first ++ t) (rows_same s.core.nodes) ∙ sym (map-append unnamed first (node_rows s.core.nodes)))
      ∙ sym (order_unnamed (first ++ node_rows s.core.nodes))

  -- what waits ------------------------------------------------------------------------

  operation_same : (o : Option Job) → operation_rows (option_map (renamed.job r) o) ≡ operation_rows o
  operation_same None = refl
  operation_same (Some j) = refl

  ends_same : (s : State) → EndsAlike r s
  ends_same s =
      record {
        tree = tree_same s.core.nodes;
        rows = map_same s;
        waits = ap (λ (rows : List Outstanding). in_order serial_before (rows ++ activity_rows s.activities)) (operation_same s.operation);
      }

pub renamed_end : RenamedEndsAlikeLaw
renamed_end r s = ends_same r s
