-- Whose path it is, and who depends on whom.
use Rattle.std.proofs.Common.{ℕ, ◌≡◌, ◌≢◌, ◌==◌, ◌&&◌, ◌||◌, inl, inr, Bool, true, false, not, List, [], ◌∷◌, length, Some, Contains, refl, sym, ap, subst, ◌∙◌, arith}
use Rattle.std.proofs.lemmas.Bool.Decides.{nat_tests}
use Rattle.std.proofs.lemmas.Slice.Eq.{bytes_eq-Decides}
use Rattle.std.specs.List.{list_any}
use Rattle.device_ids.specs.Folding.{folded, same}
use Rattle.resource_reqs.proofs.Counts.{contains_cons, contains_nil}
use Rattle.pnp_labels.specs.Texts.{Text}
use Rattle.pnp_model.specs.Cores.{node_at}
use Rattle.pnp_model.specs.Records.{Core, Device, Node, Relation}
use Rattle.pnp_model.specs.Tests.{has}
use Rattle.pnp_model.specs.Trees.{dependents, direct, grown, hangs_on}
use Rattle.pnp_laws.specs.Kept.{Ascending}
use Rattle.pnp_laws.proofs.Closures.{Closed, closed_in_all, closed_keeps, dependents_closed, grown_from, hangs_more, hangs_some, those_serial}
use Rattle.pnp_laws.proofs.Decides.{contains_here, contains_later}
use Rattle.pnp_laws.proofs.Lists.{those_found}
use Rattle.pnp_laws.proofs.Lookups.{find_passes, found_self, own_serial}
use Rattle.pnp_laws.proofs.Ranks.{one_has}
use Rattle.pnp_laws.proofs.RunsStand.{reaches_kept}
use Rattle.pnp_laws.proofs.TreeMoves.{edge_cases}
use Rattle.pnp_laws.proofs.Truths.{and_both, or_left, or_right}
use Rattle.pnp_promises.specs.Words.{DependentsAreKnownLaw, DependsOn, PathsNameDevicesLaw, SamePath}
use Rattle.pnp_promises.proofs.LinesIdle.{found_in, none_passes}

-- Paths ------------------------------------------------------------------------------------------------

same_is : (a b : Text) → same a b ≡ true → SamePath a b
same_is a b h = (bytes_eq-Decides (folded a) (folded b)).0 h

is_same : (a b : Text) → SamePath a b → same a b ≡ true
is_same a b e = (bytes_eq-Decides (folded a) (folded b)).1 e

no_same : (a b : Text) → same a b ≡ false → SamePath a b → ⊥
no_same a b h e = let z = is_same a b e in cc

pub paths_name_devices : PathsNameDevicesLaw
paths_name_devices settings rack entries s run =
    record {
      node = λ path n at. (found_in (λ (m : Node). same m.path path) s.core.nodes n at, same_is n.path path (find_passes (λ (m : Node). same m.path path) s.core.nodes n at));
      no_node = λ path none n there. no_same n.path path (none_passes (λ (m : Node). same m.path path) s.core.nodes n none there);
      device = λ path d at. (found_in (λ (e : Device). same e.path path) s.world d at, same_is d.path path (find_passes (λ (e : Device). same e.path path) s.world d at));
      no_device = λ path none d there. no_same d.path path (none_passes (λ (e : Device). same e.path path) s.world d none there);
    }

-- Dependents ---------------------------------------------------------------------------------------------

any_in : {A : Type 0} (p : A → Bool) (xs : List A) → list_any p xs ≡ true → (x : A) × Contains xs x × (p x ≡ true)
any_in {A = A} p [] h = absurd (cc)
any_in {A = A} p (x ∷ xs) h = by_b (p x) refl h (any_in p xs)
  where
    by_b : (b : Bool) → p x ≡ b → (b || list_any p xs) ≡ true → (list_any p xs ≡ true → (y : A) × Contains xs y × (p y ≡ true)) → (y : A) × Contains (x ∷ xs) y × (p y ≡ true)
    by_b true e g more = (x, contains_here x xs, e)
    by_b false e g more = let rest = more g in (rest.0, contains_later x xs rest.0 rest.1, rest.2)

in_any : {A : Type 0} (p : A → Bool) (xs : List A) (x : A) → Contains xs x → p x ≡ true → list_any p xs ≡ true
in_any p [] x c e = absurd (contains_nil x c)
in_any p (y ∷ ys) x c e =
    elim (contains_cons y ys x c) [
      | inl is ↦ or_left (p y) (list_any p ys) (ap p (sym is) ∙ e)
      | inr later ↦ or_right (p y) (list_any p ys) (in_any p ys x later e)
    ]

module _ (c : Core) (order : Ascending 0 c.nodes) where
  -- who hangs on a device depends on it
  pub edge_depends : (k j : ℕ) (m : Node) → node_at j c.nodes ≡ Some m → hangs_on c (k ∷ []) m ≡ true → DependsOn c k j
  edge_depends k j m at h =
      let own = own_serial j m c.nodes at in
      subst (λ (i : ℕ). DependsOn c k i) own
      (elim (edge_cases c k m h) [
        | inl (below, up) ↦ DependsOn.child k m (found_self j c.nodes m at) below up
        | inr related ↦
            let some = any_in (λ (r : Relation). r.member == m.serial && has (k ∷ []) r.owner) c.relations related in
            let two = and_both (some.0.member == m.serial) (has (k ∷ []) some.0.owner) some.2 in
            let t0 = two.0 in
            DependsOn.member k some.0 m some.1 (sym (one_has k some.0.owner two.1)) (found_self j c.nodes m at) (grind (arith, nat_tests))
      ])

  -- and the other way round
  child_hangs : (k : ℕ) (m : Node) → m.parent ≡ k → m.serial ≢ 0 → hangs_on c (k ∷ []) m ≡ true
  child_hangs k m e up = or_left (has (k ∷ []) m.parent && not (m.serial == 0)) (list_any (λ r. r.member == m.serial && has (k ∷ []) r.owner) c.relations) (grind (arith, nat_tests))

  member_hangs : (k : ℕ) (m : Node) (r : Relation) → Contains c.relations r → r.owner ≡ k → r.member ≡ m.serial → hangs_on c (k ∷ []) m ≡ true
  member_hangs k m r there e f =
      or_right (has (k ∷ []) m.parent && not (m.serial == 0)) (list_any (λ r. r.member == m.serial && has (k ∷ []) r.owner) c.relations)
      (in_any (λ (x : Relation). x.member == m.serial && has (k ∷ []) x.owner) c.relations r there (grind (arith, nat_tests)))

  direct_has : (k : ℕ) (m : Node) → node_at m.serial c.nodes ≡ Some m → hangs_on c (k ∷ []) m ≡ true → has (dependents c k) m.serial ≡ true
  direct_has k m at h = closed_keeps c (direct c k) m.serial m order at (those_serial 0 (hangs_on c (k ∷ [])) c.nodes m.serial m order at h)

  stays_in : (set : List ℕ) → Closed c set → (i j : ℕ) → has set i ≡ true → DependsOn c i j → has set j ≡ true
  stays_in set done _ _ h (DependsOn.child i m at e up) = done m.serial m at (hangs_more c i set m h (child_hangs i m e up))
  stays_in set done _ _ h (DependsOn.member i r m there e at f) = done m.serial m at (hangs_more c i set m h (member_hangs i m r there e f))
  stays_in set done _ _ h (DependsOn.through i x j a b) = stays_in set done x j (stays_in set done i x h a) b

  depends_has : (k j : ℕ) → DependsOn c k j → has (dependents c k) j ≡ true
  depends_has _ _ (DependsOn.child k m at e up) = direct_has k m at (child_hangs k m e up)
  depends_has _ _ (DependsOn.member k r m there e at f) = direct_has k m at (member_hangs k m r there e f)
  depends_has _ _ (DependsOn.through k i j a b) = stays_in (dependents c k) (dependents_closed c k order) i j (depends_has k i a) b

  abbrev AllDepend : ℕ → List ℕ → Type 0
  AllDepend k set = (j : ℕ) → has set j ≡ true → DependsOn c k j

  grown_depend : (k : ℕ) (set : List ℕ) → AllDepend k set → AllDepend k (grown c set)
  grown_depend k set all j h =
      let from = grown_from c set j order h in
      elim from.2 [
        | inl old ↦ all j old
        | inr on ↦ let some = hangs_some c set from.0 on in DependsOn.through k some.0 j (all some.0 some.1) (edge_depends some.0 j from.0 from.1 some.2)
      ]

  has_depends : (k j : ℕ) → has (dependents c k) j ≡ true → DependsOn c k j
  has_depends k j h =
      closed_all (λ i near. let f = those_found 0 (hangs_on c (k ∷ [])) c.nodes i order near in edge_depends k i f.0 f.1 f.2) j h
    where
      closed_all : AllDepend k (direct c k) → AllDepend k (dependents c k)
      closed_all first = closed_in_all (AllDepend k) (length c.nodes) c (direct c k) (grown_depend k) first

pub dependents_are_known : DependentsAreKnownLaw
dependents_are_known settings rack entries s run k j =
    let order = (reaches_kept settings rack entries s run).good.serials in
    (has_depends s.core order k j, depends_has s.core order k j)
