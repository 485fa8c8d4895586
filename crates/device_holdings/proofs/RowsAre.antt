-- The pairs of the arbiters, one after another, are the rows of the map.
use Rattle.std.proofs.Common.{◌≡◌, ◌≤◌, List, map, refl, sym, ap, ◌∙◌, subst}
use Rattle.std.specs.List.{AllByRecursion}
use Rattle.std.proofs.lemmas.List.Elements.{All-from_recursion, recursion_from_All}
use Rattle.std.proofs.lemmas.List.Sorted.{All-permutation, IsPermutation-sym}
use Rattle.range_arbiter.specs.Pairs.{Pair}
use Rattle.trial_journal.specs.ByKind.{Arbiters, all_kinds, all_pairs}
use Rattle.pnp_model.specs.Keyed.{in_order}
use Rattle.pnp_model.specs.Endings.{row_before, map_rows}
use Rattle.pnp_model.specs.Records.{Core}
use Rattle.device_holdings.specs.Mirrors.{held_pairs, lists_with, Mirrors}
use Rattle.device_holdings.specs.MapRows.{row_of, IsOrderly}
use Rattle.device_holdings.proofs.Putting.{permuted}
use Rattle.device_holdings.proofs.RowOrder.{pair_before, order_map, order_is}
use Rattle.device_holdings.proofs.TieLemmas.{ties_held, rows_held}

abbrev pub EndInOrder : List Pair → Type 0
EndInOrder ps = AllByRecursion (λ (p : Pair). p.1.lo ≤ p.1.hi) ps

-- in whatever order they stand
ends_held : (ps : List Pair) → EndInOrder (all_kinds (lists_with ps)) → EndInOrder ps
ends_held ps h =
    recursion_from_All (λ (p : Pair). p.1.lo ≤ p.1.hi) ps
    (All-permutation (λ (p : Pair). p.1.lo ≤ p.1.hi) (all_kinds (lists_with ps)) ps (IsPermutation-sym ps (all_kinds (lists_with ps)) (permuted ps))
    (All-from_recursion (λ (p : Pair). p.1.lo ≤ p.1.hi) (all_kinds (lists_with ps)) h))

pub rows_are : (a : Arbiters) (c : Core) → EndInOrder (all_pairs a) → Mirrors c.reserved c.nodes a → IsOrderly c → map (row_of c.nodes) (all_pairs a) ≡ map_rows c
rows_are a c ends m orderly =
    ap (λ l. map (row_of c.nodes) (all_kinds l)) m.lists
    ∙ sym (ap (in_order row_before) (sym (rows_held c.reserved c.nodes orderly.ascends))
    ∙ order_map (row_of c.nodes) row_before pair_before (λ p q. refl) (held_pairs c.reserved c.nodes)
    ∙ ap (map (row_of c.nodes)) (order_is (held_pairs c.reserved c.nodes)
    (ties_held c.reserved c.nodes orderly.ascends orderly.clear.taken orderly.clear.own orderly.root
    (ends_held (held_pairs c.reserved c.nodes) (subst (λ l. EndInOrder (all_kinds l)) m.lists ends)))))
