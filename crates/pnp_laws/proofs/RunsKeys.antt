-- In each state of a run nodes are told apart, nothing depends on itself, and no two of the printed resources clash.
use Rattle.std.proofs.Common.{ℕ, suc, ◌≡◌, ◌≢◌, inl, inr, List, [], ◌∷◌, ◌++◌, Some, None, subst, arith}
use Rattle.std.specs.Prelude.{Contains}
use Rattle.std.proofs.lemmas.List.Elements.{Contains-append_cases, Contains-append_right}
use Rattle.resource_reqs.specs.Resources.{Res, NoClash}
use Rattle.pnp_model.specs.Cores.{node_at}
use Rattle.pnp_model.specs.Frames.{held_by}
use Rattle.pnp_model.specs.Records.{Node}
use Rattle.pnp_model.specs.Sharing.{Foreign, Clear}
use Rattle.pnp_model.specs.Tests.{has}
use Rattle.pnp_model.specs.Trees.{dependents}
use Rattle.pnp_laws.specs.Kept.{Ascending}
use Rattle.pnp_laws.specs.Keys.{NothingDependsOnItselfLaw, NothingPrintedClashesLaw}
use Rattle.pnp_laws.proofs.Closures.{head_at, tail_at}
use Rattle.pnp_laws.proofs.Truths.{untrue}
use Rattle.pnp_laws.proofs.Lookups.{none_below}
use Rattle.pnp_laws.proofs.Orders.{dependents_rank}
use Rattle.pnp_laws.proofs.Sharing.{here, free_at, free_from, clash_sym}
use Rattle.pnp_laws.proofs.RunsShare.{nothing_clashes}
use Rattle.pnp_laws.proofs.RunsStand.{reaches_kept}

-- No cycle ------------------------------------------------------------------------------------

-- what depends on a device has a lower rank
pub no_cycle : NothingDependsOnItselfLaw
no_cycle settings rack entries s run k =
    let kept = reaches_kept settings rack entries s run in
    let tree = kept.stands.tree in
    untrue (has (dependents s.core k) k)
    (λ h. let low = dependents_rank tree.rank s.core k kept.good.serials tree.ranked k h in omega arith)

-- The printed list ----------------------------------------------------------------------------

-- two lists without a clash, and none between them
no_clash_both : (xs ys : List Res) → NoClash xs → NoClash ys → Foreign xs ys → NoClash (xs ++ ys)
no_clash_both [] ys a b h = b
no_clash_both (x ∷ xs) ys a b h = (
  free_from (xs ++ ys) x (λ r c clash. elim (Contains-append_cases xs ys r c) [
    | inl q ↦ free_at xs x r a.0 q clash
    | inr q ↦ h x r (here x xs) q (clash_sym r x clash)
  ]),
  no_clash_both xs ys a.1 b (λ p q cp cq. h p q (Contains-append_right (x ∷ []) xs p cp) cq),
)

-- what is held is held by a node
holder_of : (lo : ℕ) (nodes : List Node) (r : Res) → Ascending lo nodes → Contains (held_by nodes) r → (k : ℕ) × (n : Node) × (node_at k nodes ≡ Some n) × Contains n.holds r
holder_of lo [] r order c = absurd (let k = c.1 in omega arith)
holder_of lo (n ∷ ns) r order c =
    elim (Contains-append_cases n.holds (held_by ns) r c) [
      | inl q ↦ (n.serial, n, head_at n ns, q)
      | inr q ↦ let more = holder_of (suc n.serial) ns r order.1 q in (more.0, more.1, tail_at lo n ns more.0 more.1 order more.2, more.3)
    ]

-- a node of the tail has another serial
pub other_serial : (n : Node) (ns : List Node) (k : ℕ) (m : Node) → Ascending (suc n.serial) ns → node_at k ns ≡ Some m → n.serial ≢ k
other_serial n ns k m order at e =
    let none = subst (λ (i : ℕ). node_at i ns ≡ None) e (none_below (suc n.serial) n.serial ns (omega arith) order) in
    cc

-- the holdings of all nodes do not clash
held_apart : (reserved : List Res) (lo : ℕ) (nodes : List Node) → Ascending lo nodes → Clear reserved nodes → NoClash (held_by nodes)
held_apart reserved lo [] order clear = tt
held_apart reserved lo (n ∷ ns) order clear =
    let rest : Clear reserved ns = record {
      own = λ k m at. clear.own k m (tail_at lo n ns k m order at);
      two = λ j k x m d at there. clear.two j k x m d (tail_at lo n ns j x order at) (tail_at lo n ns k m order there);
      taken = clear.taken;
      beside = λ k m at. clear.beside k m (tail_at lo n ns k m order at);
    } in
    no_clash_both n.holds (held_by ns) (clear.own n.serial n (head_at n ns)) (held_apart reserved (suc n.serial) ns order.1 rest)
    (λ a b ca cb clash.
    let of = holder_of (suc n.serial) ns b order.1 cb in
    clear.two n.serial of.0 n of.1 (other_serial n ns of.0 of.1 order.1 of.2) (head_at n ns) (tail_at lo n ns of.0 of.1 order of.2) a b ca of.3 clash)

pub nothing_printed_clashes : NothingPrintedClashesLaw
nothing_printed_clashes settings rack entries s run =
    let clear = nothing_clashes settings rack entries s run in
    let order = (reaches_kept settings rack entries s run).good.serials in
    no_clash_both s.core.reserved (held_by s.core.nodes) clear.taken (held_apart s.core.reserved 0 s.core.nodes order clear)
    (λ a b ca cb clash. let of = holder_of 0 s.core.nodes b order cb in clear.beside of.0 of.1 of.2 a b ca of.3 clash)
