-- Devices get the parts of a plan one after another, the last first: in the end all have theirs.
use Rattle.std.proofs.Common.{◌≡◌, ℕ, zero, suc, ◌+◌, ◌<◌, ◌≤◌, ◌^◌, ◌==◌, Bool, true, false, cond, List, [], ◌∷◌, ◌++◌, length, map, take, drop, sum_by, slice_get, Option, Some, None, IsSome, is_some, option_copied, Bor, refl, sym, ap, ◌∙◌, subst, arith}
use Rattle.std.proofs.lemmas.Bool.Decides.{nat_tests}
use Rattle.std.proofs.lemmas.List.Sums.{sum_by_push, sum_by-cons}
use Rattle.resource_reqs.specs.declared.kind.Kind.{Kind}
use Rattle.resource_reqs.specs.Resources.{Res}
use Rattle.trial_journal.specs.ByKind.{Arbiters, of_kind, lists_of}
use Rattle.pnp_model.specs.Keyed.{changed_first}
use Rattle.pnp_model.specs.Cores.{is_node, node_at, serials_of, with_holds}
use Rattle.pnp_model.specs.Records.{Node}
use Rattle.pnp_model.specs.Rebalances.{part_for}
use Rattle.devnode_tree.specs.Trees.{Ascends, IsTree, Tree, changed}
use Rattle.device_holdings.specs.Giving.{given, with_part}
use Rattle.device_holdings.specs.Mirrors.{count_of, HasRoom}

-- Room ----------------------------------------------------------------------------------

alone_counts : (h : List Res) (kind : Kind) → sum_by (count_of kind) (h ∷ []) ≡ count_of kind h
alone_counts h kind = let first = sum_by-cons (count_of kind) h [] in let none : sum_by (count_of kind) [] ≡ 0 = refl in omega arith

-- the last part as the first one
pub room_next : (a : Arbiters) (xs : List (List Res)) (h : List Res) → HasRoom a (xs ++ h ∷ []) → HasRoom a (h ∷ xs)
room_next a xs h room = record {
  spare = λ kind. let spare = room.spare kind in let last = sum_by_push (count_of kind) xs h in let first = sum_by-cons (count_of kind) h xs in omega arith;
  few = λ kind. let few = room.few kind in let last = sum_by_push (count_of kind) xs h in let first = sum_by-cons (count_of kind) h xs in omega arith;
}

pub room_left : (a : Arbiters) (h : List Res) (xs : List (List Res)) → HasRoom a (h ∷ xs) → HasRoom a xs
room_left a h xs room = record {
  spare = λ kind. let spare = room.spare kind in let first = sum_by-cons (count_of kind) h xs in omega arith;
  few = λ kind. let few = room.few kind in let first = sum_by-cons (count_of kind) h xs in omega arith;
}

pub room_first : (a : Arbiters) (h : List Res) (xs : List (List Res)) → HasRoom a (h ∷ xs) → HasRoom a (h ∷ [])
room_first a h xs room = record {
  spare = λ kind. let spare = room.spare kind in let first = sum_by-cons (count_of kind) h xs in let alone = alone_counts h kind in omega arith;
  few = λ kind. let few = room.few kind in let first = sum_by-cons (count_of kind) h xs in let alone = alone_counts h kind in omega arith;
}

-- one part alone
pub spare_one : (a : Arbiters) (h : List Res) → HasRoom a (h ∷ []) → (kind : Kind) → count_of kind h ≤ (of_kind a kind).spare
spare_one a h room kind = let spare = room.spare kind in let alone = alone_counts h kind in omega arith

pub few_one : (a : Arbiters) (h : List Res) → HasRoom a (h ∷ []) → (kind : Kind) → length (of_kind (lists_of a) kind) + count_of kind h ≤ 2 ^ 29
few_one a h room kind = let few = room.few kind in let alone = alone_counts h kind in omega arith

-- The last part ---------------------------------------------------------------------------

pub last_part : {X : Type 0} (xs : List X) (h : X) (plan : List X) → xs ++ h ∷ [] ≡ take (length (xs ++ h ∷ [])) plan → (xs ≡ take (length xs) plan) × (drop (length xs) plan ≡ h ∷ drop (suc (length xs)) plan)
last_part [] h [] e = absurd (cc)
last_part [] h (p ∷ ps) e = (refl, grind arith)
last_part (x ∷ xs) h [] e = absurd (cc)
last_part (x ∷ xs) h (p ∷ ps) e = let more = last_part xs h ps (cc) in (let first : x ≡ p = cc in cc, more.1)

pub split_off : {X : Type 0} (xs : List X) (i : ℕ) (x : X) → slice_get xs i ≡ Some x → drop i xs ≡ x ∷ drop (suc i) xs
split_off [] i x h = absurd (cc)
split_off (y ∷ xs) zero x h = grind arith
split_off (y ∷ xs) (suc i) x h = split_off xs i x h

drop_none : {X : Type 0} (i : ℕ) → drop {A = X} i [] ≡ []
drop_none zero = refl
drop_none (suc i) = refl

pub none_from : {X : Type 0} (xs : List X) (i : ℕ) → slice_get xs i ≡ None → (drop i xs ≡ []) × (drop (suc i) xs ≡ [])
none_from [] i h = (drop_none i, refl)
none_from (y ∷ xs) zero h = absurd (cc)
none_from (y ∷ xs) (suc i) h = none_from xs i h

-- The nodes -------------------------------------------------------------------------------

map_none : (serials : List ℕ) (nodes : List Node) → map (with_part serials []) nodes ≡ nodes
map_none serials [] = refl
map_none [] (n ∷ ns) = ap (λ l. n ∷ l) (map_none [] ns)
map_none (k ∷ ks) (n ∷ ns) = ap (λ l. n ∷ l) (map_none (k ∷ ks) ns)

pub none_yet : (serials : List ℕ) (rest : List (List Res)) (nodes : List Node) → rest ≡ [] → nodes ≡ map (with_part serials rest) nodes
none_yet serials rest nodes e = sym (ap (λ l. map (with_part serials l) nodes) e ∙ map_none serials nodes)

pub nobody : (plan : List (List Res)) (nodes : List Node) → map (with_part [] plan) nodes ≡ nodes
nobody plan [] = refl
nobody plan (n ∷ ns) = ap (λ l. n ∷ l) (nobody plan ns)

module _ (k : ℕ) (h : List Res) (js : List ℕ) (ps : List (List Res)) where
  other : (n : Node) → (k == n.serial) ≡ false → with_part (k ∷ js) (h ∷ ps) n ≡ with_part js ps n
  other n e = ap (λ b. record n { holds = cond b h (part_for n.serial js ps n.holds) }) e

  others : (lo : ℕ) (nodes : List Node) → k < lo → Ascends lo (serials_of nodes) → map (with_part js ps) nodes ≡ map (with_part (k ∷ js) (h ∷ ps)) nodes
  others lo [] less up = refl
  others lo (n ∷ ns) less up =
      let low = up.0 in
      let here : (k == n.serial) ≡ false = grind (arith, nat_tests) in
      let rest = others (n.serial + 1) ns (omega arith) up.1 in
      λ t. sym (other n here) t ∷ rest t

  same_serials : (nodes : List Node) → serials_of (map (with_part js ps) nodes) ≡ serials_of nodes
  same_serials [] = refl
  same_serials (n ∷ ns) = ap (λ l. n.serial ∷ l) (same_serials ns)

  one_by : (n : Node) (ns : List Node) (b : Bool) → (n.serial == k) ≡ b → Ascends (n.serial + 1) (serials_of ns)
      → changed_first (is_node k) (with_holds h) (map (with_part js ps) ns) ≡ map (with_part (k ∷ js) (h ∷ ps)) ns
      → cond b (with_holds h (with_part js ps n) ∷ map (with_part js ps) ns) (with_part js ps n ∷ changed_first (is_node k) (with_holds h) (map (with_part js ps) ns)) ≡ map (with_part (k ∷ js) (h ∷ ps)) (n ∷ ns)
  one_by n ns true e up more =
      let turned : (k == n.serial) ≡ true = grind (arith, nat_tests) in
      let here : with_holds h (with_part js ps n) ≡ with_part (k ∷ js) (h ∷ ps) n = sym (ap (λ b. record n { holds = cond b h (part_for n.serial js ps n.holds) }) turned) in
      let rest = others (n.serial + 1) ns (grind (arith, nat_tests)) up in
      λ t. here t ∷ rest t
  one_by n ns false e up more =
      let turned : (k == n.serial) ≡ false = grind (arith, nat_tests) in
      λ t. sym (other n turned) t ∷ more t

  -- the first device with the serial gets its part: there is one at most
  pub one_more : (lo : ℕ) (nodes : List Node) → Ascends lo (serials_of nodes)
      → changed_first (is_node k) (with_holds h) (map (with_part js ps) nodes) ≡ map (with_part (k ∷ js) (h ∷ ps)) nodes
  one_more lo [] up = refl
  one_more lo (n ∷ ns) up = one_by n ns (n.serial == k) refl up.1 (one_more (n.serial + 1) ns up.1)

-- a change of a device that is not there changes nothing
unchanged : (k : ℕ) (f : Node → Node) (nodes : List Node) → node_at k nodes ≡ None → changed_first (is_node k) f nodes ≡ nodes
unchanged k f [] e = refl
unchanged k f (n ∷ ns) e = grind (arith, unchanged k f ns)

module _ (serials : List ℕ) (plan : List (List Res)) (i : ℕ) (h : List Res) (before now : List Node)
    (so_far : now ≡ map (with_part (drop (suc i) serials) (drop (suc i) plan)) before) (part : drop i plan ≡ h ∷ drop (suc i) plan) where
  pub got_part : (k : ℕ) → slice_get serials i ≡ Some k → Ascends 0 (serials_of now) → changed_first (is_node k) (with_holds h) now ≡ map (with_part (drop i serials) (drop i plan)) before
  got_part k at up =
      ap (changed_first (is_node k) (with_holds h)) so_far
      ∙ (one_more k h (drop (suc i) serials) (drop (suc i) plan) 0 before (subst (Ascends 0) (ap serials_of so_far ∙ same_serials k h (drop (suc i) serials) (drop (suc i) plan) before) up)
      ∙ (ap (λ js. map (with_part js (h ∷ drop (suc i) plan)) before) (sym (split_off serials i k at)) ∙ ap (λ ps. map (with_part (drop i serials) ps) before) (sym part)))

  pub no_serial : slice_get serials i ≡ None → now ≡ map (with_part (drop i serials) (drop i plan)) before
  no_serial at =
      let none = none_from serials i at in
      so_far
      ∙ (ap (λ js. map (with_part js (drop (suc i) plan)) before) none.1
      ∙ (nobody (drop (suc i) plan) before
      ∙ (sym (nobody (drop i plan) before) ∙ ap (λ js. map (with_part js (drop i plan)) before) (sym none.0))))

-- the device at place i gets the last part that is left
pub given_part : (serials : List ℕ) (plan : List (List Res)) (i : ℕ) (h : List Res) (before : List Node) (t : Tree) → t.nodes ≡ map (with_part (drop (suc i) serials) (drop (suc i) plan)) before
    → drop i plan ≡ h ∷ drop (suc i) plan → (IsSome (slice_get serials i) → IsTree t) → given (slice_get serials i) h t ≡ record t { nodes = map (with_part (drop i serials) (drop i plan)) before }
given_part serials plan i h before t so_far part up = by_place (slice_get serials i) refl
  where
    by_place : (o : Option ℕ) → slice_get serials i ≡ o → given o h t ≡ record t { nodes = map (with_part (drop i serials) (drop i plan)) before }
    by_place None at = ap (λ (ns : List Node). record t { nodes = ns }) (no_serial serials plan i h before t.nodes so_far part at)
    by_place (Some k) at = ap (λ (ns : List Node). record t { nodes = ns }) (got_part serials plan i h before t.nodes so_far part k at (up (subst (λ (o : Option ℕ). IsSome o) (sym at) refl)).ascends)

-- nothing is found
pub none_copied : (o : Option (Bor Node)) → is_some o ≡ false → option_copied o ≡ None
none_copied None e = refl
none_copied (Some n) e = absurd (cc)

-- where no device has the serial nothing changes
pub not_given : (t : Tree) (k : ℕ) (h : List Res) → node_at k t.nodes ≡ None → t ≡ changed k (with_holds h) t
not_given t k h gone = ap (λ (ns : List Node). record t { nodes = ns }) (sym (unchanged k (with_holds h) t.nodes gone))
