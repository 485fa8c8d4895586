-- The devices that an operation has still to do are there.
use Rattle.std.proofs.Common.{ℕ, ◌≡◌, ◌≢◌, Bool, true, false, List, [], ◌∷◌, Some, refl, sym, ◌∙◌, length, subst, arith, reverse}
use Rattle.std.proofs.lemmas.Bool.Decides.{nat_tests}
use Rattle.pnp_model.specs.Keyed.{without_first, those}
use Rattle.pnp_model.specs.Tests.{has}
use Rattle.pnp_model.specs.Records.{Node, Core}
use Rattle.pnp_model.specs.Cores.{is_node, node_at, strip}
use Rattle.pnp_model.specs.Frames.{rest}
use Rattle.pnp_model.specs.Rebalances.{startable}
use Rattle.pnp_model.specs.Trees.{leaving}
use Rattle.pnp_laws.specs.Kept.{Ascending, Distinct}
use Rattle.pnp_laws.proofs.Lookups.{left_other}
use Rattle.pnp_laws.proofs.Lists.{HeadIs, rest_not, rest_within, those_has}
use Rattle.pnp_laws.proofs.OpSteps.{has-reverse}
use Rattle.pnp_laws.proofs.RebalanceSteps.{startable_has}
use Rattle.pnp_laws.proofs.Closures.{closed_in_all, grown_from}
use Rattle.pnp_laws.proofs.Finishes.{leaving_has}
use Rattle.pnp_laws.proofs.Standing.{AllThere, Goes, Tree}
use Rattle.pnp_laws.proofs.TreeChanges.{SameTree}
use Rattle.pnp_laws.proofs.TreeMoves.{now_stripped}

pub goes_on : (k : ℕ) (ks : List ℕ) (nodes : List Node) → AllThere (k ∷ ks) nodes → Goes (k ∷ ks) nodes
goes_on k ks nodes h = record { some = λ e. cc; there = h }

pub none_there : (nodes : List Node) → AllThere [] nodes
none_there nodes k h = absurd (cc)

pub fewer_there : (ks js : List ℕ) (nodes : List Node) → ((k : ℕ) → has ks k ≡ true → has js k ≡ true) → AllThere js nodes → AllThere ks nodes
fewer_there ks js nodes within h k in_it = h k (within k in_it)

pub rest_there : (ks : List ℕ) (nodes : List Node) → AllThere ks nodes → AllThere (rest ks) nodes
rest_there ks nodes h = fewer_there (rest ks) ks nodes (λ k g. rest_within k ks g) h

pub those_there : (test : ℕ → Bool) (ks : List ℕ) (nodes : List Node) → AllThere ks nodes → AllThere (those test ks) nodes
those_there test ks nodes h = fewer_there (those test ks) ks nodes (λ k g. (those_has test ks k g).0) h

pub reverse_there : (ks : List ℕ) (nodes : List Node) → AllThere ks nodes → AllThere (reverse ks) nodes
reverse_there ks nodes h = fewer_there (reverse ks) ks nodes (λ k g. sym (has-reverse ks k) ∙ g) h

startable_in : (others : List Node) (ks : List ℕ) (k : ℕ) (b : Bool) → has ks k ≡ b → has (startable others ks) k ≡ true → has ks k ≡ true
startable_in others ks k true e h = e
startable_in others ks k false e h = absurd (let out = startable_has others ks k e in cc)

pub startable_there : (others : List Node) (ks : List ℕ) (nodes : List Node) → AllThere ks nodes → AllThere (startable others ks) nodes
startable_there others ks nodes h = fewer_there (startable others ks) ks nodes (λ k g. startable_in others ks k (has ks k) refl g) h

pub more_there : (k : ℕ) (ks : List ℕ) (n : Node) (nodes : List Node) → node_at k nodes ≡ Some n → AllThere ks nodes → AllThere (k ∷ ks) nodes
more_there k ks n nodes at h j in_it = by_test (has ks j) refl
  where
    by_test : (b : Bool) → has ks j ≡ b → (m : Node) × (node_at j nodes ≡ Some m)
    by_test true e = h j e
    by_test false e = let same : k ≡ j = grind (arith, nat_tests) in (n, subst (λ (i : ℕ). node_at i nodes ≡ Some n) same at)

-- nobody leaves

pub same_there : (ks : List ℕ) (c d : Core) → SameTree c d → AllThere ks c.nodes → AllThere ks d.nodes
same_there ks c d same h k in_it = let old = h k in_it in let now = same.to k old.0 old.1 in (now.0, now.1)

pub same_goes : (ks : List ℕ) (c d : Core) → SameTree c d → Goes ks c.nodes → Goes ks d.nodes
same_goes ks c d same g = record { some = g.some; there = same_there ks c d same g.there }

pub strip_goes : (ks : List ℕ) (j : ℕ) (c : Core) → Goes ks c.nodes → Goes ks (strip j c).nodes
strip_goes ks j c g = record { some = g.some; there = λ k in_it. let old = g.there k in_it in now_stripped j k c old.0 old.1 }

-- the head leaves
pub left_there : (ks : List ℕ) (j : ℕ) (nodes : List Node) → HeadIs j ks → Distinct ks → AllThere ks nodes → AllThere (rest ks) (without_first (is_node j) nodes)
left_there ks j nodes head distinct h k in_rest =
    let out = rest_not j ks head distinct in
    let other : j ≢ k = λ e. let z = subst (λ (i : ℕ). has (rest ks) i ≡ false) e out in cc in
    let old = h k (rest_within k ks in_rest) in
    (old.0, left_other j k nodes other ∙ old.1)

-- all of a leaving order is there
pub leaving_there : (next : ℕ) (c : Core) (k : ℕ) (m : Node) → Ascending 0 c.nodes → Tree next c → node_at k c.nodes ≡ Some m → AllThere (leaving c k) c.nodes
leaving_there next c k m order tree at j in_it =
    let in_set = leaving_has tree.rank c k j order tree.ranked in_it in
    closed_in_all (λ s. (i : ℕ) → has s i ≡ true → (n : Node) × (node_at i c.nodes ≡ Some n)) (length c.nodes) c (k ∷ [])
    (λ s h i g. let from = grown_from c s i order g in (from.0, from.1))
    (more_there k [] m c.nodes at (none_there c.nodes)) j in_set
