-- Two devices are related, by what was found.
use Rattle.std.proofs.Common.{◌≡◌, ◌≢◌, ℕ, ◌==◌, Bool, true, false, not, ◌&&◌, List, [], ◌∷◌, ◌++◌, Option, Some, None, is_some, Result, Ok, Err, refl, sym, ap, ◌∙◌, subst, arith}
use Rattle.std.specs.Prelude.{if◌then◌else◌}
use Rattle.std.specs.List.{list_any}
use Rattle.std.proofs.lemmas.Bool.Decides.{nat_tests}
use Rattle.pnp_model.specs.Tests.{has, is_started}
use Rattle.pnp_model.specs.Cores.{node_at}
use Rattle.pnp_model.specs.Records.{Node, Core, Relation, State, Step}
use Rattle.pnp_model.specs.Trees.{dependents, is_up}
use Rattle.pnp_model.specs.States.{with_core}
use Rattle.pnp_labels.specs.declared.deed.Deed.{Deed}
use Rattle.pnp_labels.specs.declared.label.EventWord.{EventWord}
use Rattle.pnp_labels.specs.declared.label.Reason.{Reason}
use Rattle.pnp_model.proofs.Guards.{where_true, where_false}
use Rattle.pnp_model.specs.Events.{did, refused, add_relation, is_relation, relates_two}
use Rattle.pnp_labels.specs.declared.words.RelKind.{RelKind}
use Rattle.pnp_laws.proofs.Lookups.{own_serial}
use Rattle.devnode_tree.specs.Cores.{at_related}
use Rattle.relations.specs.Leaving.{base}
use Rattle.relations.specs.Relating.{Relates, RelatesFor, RelatesFree, are_up}
use Rattle.relations.specs.declared.error.RelateError.{RelateError}
use Rattle.relations.specs.declared.error.RelateError.TheVariants.{SelfRelation, SameRelation, RelationCycle, NotStarted, WantOfMemory}
use Rattle.relations.proofs.Bases.{dependents_same}

-- what holds of the two nodes holds of the devices
pub for_nodes : (nodes : List Node) (owner member : ℕ) (kind : RelKind) (old new : List Relation) (result : Result (Unit {0}) RelateError)
    → is_some (node_at owner nodes) ≡ true → is_some (node_at member nodes) ≡ true
    → ((o m : Node) → node_at owner nodes ≡ Some o → node_at member nodes ≡ Some m → o.serial ≡ owner → m.serial ≡ member →
    (s : State) (around : Core) → s.core ≡ at_related nodes old around → Relates s kind o m old result new)
    → RelatesFor (node_at owner nodes) (node_at member nodes) nodes kind old result new
for_nodes nodes owner member kind old new result there_o there_m h = by (node_at owner nodes) (node_at member nodes) refl refl there_o there_m
  where
    by : (o m : Option Node) → node_at owner nodes ≡ o → node_at member nodes ≡ m → is_some o ≡ true → is_some m ≡ true → RelatesFor o m nodes kind old result new
    by None m e f a b = absurd (cc)
    by (Some o) None e f a b = absurd (cc)
    by (Some o) (Some m) e f a b = h o m e f (own_serial owner o nodes e) (own_serial member m nodes f)

module _ (nodes : List Node) (owner member : ℕ) (kind : RelKind) (old : List Relation) (there_o : is_some (node_at owner nodes) ≡ true) (there_m : is_some (node_at member nodes) ≡ true) where
  pub self_related : owner ≡ member → RelatesFor (node_at owner nodes) (node_at member nodes) nodes kind old (Err SelfRelation) old
  self_related e =
      for_nodes nodes owner member kind old old (Err SelfRelation) there_o there_m
      (λ o m a b p q s around c.
      let one : (o.serial == m.serial) ≡ true = grind (arith, nat_tests) in
      (refl, where_true (o.serial == m.serial) _ _ one))

  module _ (apart : owner ≢ member) where
    not_one : (o m : Node) → o.serial ≡ owner → m.serial ≡ member → (o.serial == m.serial) ≡ false
    not_one o m p q = grind (arith, nat_tests)

    same_at : (o m : Node) (s : State) (around : Core) → o.serial ≡ owner → m.serial ≡ member → s.core ≡ at_related nodes old around
        → list_any (is_relation kind o.serial m.serial) s.core.relations ≡ list_any (is_relation kind owner member) old
    same_at o m s around p q c =
        ap (λ (x : Core). list_any (is_relation kind o.serial m.serial) x.relations) c
        ∙ (ap (λ i. list_any (is_relation kind i m.serial) old) p ∙ ap (λ i. list_any (is_relation kind owner i) old) q)

    pub same_related : list_any (is_relation kind owner member) old ≡ true → RelatesFor (node_at owner nodes) (node_at member nodes) nodes kind old (Err SameRelation) old
    same_related same =
        for_nodes nodes owner member kind old old (Err SameRelation) there_o there_m
        (λ o m a b p q s around c. (
          refl,
          where_false (o.serial == m.serial) _ _ (not_one o m p q)
              ∙ where_true (list_any (is_relation kind o.serial m.serial) s.core.relations) _ _ (same_at o m s around p q c ∙ same),
        ))

    module _ (fresh : list_any (is_relation kind owner member) old ≡ false) where
      depends_at : (o m : Node) (s : State) (around : Core) → o.serial ≡ owner → m.serial ≡ member → s.core ≡ at_related nodes old around
          → has (dependents s.core m.serial) o.serial ≡ has (dependents (base nodes old) member) owner
      depends_at o m s around p q c =
          ap (λ (x : Core). has (dependents x m.serial) o.serial) c
          ∙ (ap (λ i. has (dependents (at_related nodes old around) i) o.serial) q
          ∙ (ap (λ i. has (dependents (at_related nodes old around) member) i) p ∙ ap (λ l. has l owner) (dependents_same nodes old around member)))

      pub cycle_related : has (dependents (base nodes old) member) owner ≡ true → RelatesFor (node_at owner nodes) (node_at member nodes) nodes kind old (Err RelationCycle) old
      cycle_related h =
          for_nodes nodes owner member kind old old (Err RelationCycle) there_o there_m
          (λ o m a b p q s around c. (
            refl,
            where_false (o.serial == m.serial) _ _ (not_one o m p q)
                ∙ where_false (list_any (is_relation kind o.serial m.serial) s.core.relations) _ _ (same_at o m s around p q c ∙ fresh)
                ∙ where_true (has (dependents s.core m.serial) o.serial) _ _ (depends_at o m s around p q c ∙ h),
          ))

      module _ (free : has (dependents (base nodes old) member) owner ≡ false) (new : List Relation) (o m : Node) (s : State) (around : Core) (p : o.serial ≡ owner) (q : m.serial ≡ member) (c : s.core ≡ at_related nodes old around) where
        -- the last guard, and what is done behind it
        abbrev last : Step
        last =
            if not (is_started o.state && is_started m.state) then refused EventWord.Relate Reason.NotStarted s
            else did (Deed.Related kind o.path m.path) (with_core (add_relation (record { kind = kind; owner = o.serial; member = m.serial }) s.core) s)

        past : relates_two s kind o m ≡ last
        past =
            where_false (o.serial == m.serial) _ _ (not_one o m p q)
            ∙ where_false (list_any (is_relation kind o.serial m.serial) s.core.relations) _ _ (same_at o m s around p q c ∙ fresh)
            ∙ where_false (has (dependents s.core m.serial) o.serial) _ _ (depends_at o m s around p q c ∙ free)

        by_up : (up : Bool) → (is_started o.state && is_started m.state) ≡ up → (result : Result (Unit {0}) RelateError)
            → RelatesFree up (record { kind = kind; owner = owner; member = member }) old result new → Relates s kind o m old result new
        by_up true e (Ok done) f =
            let is : s.core.relations ++ record { kind = kind; owner = o.serial; member = m.serial } ∷ [] ≡ new =
            ap (λ (x : Core). x.relations ++ record { kind = kind; owner = o.serial; member = m.serial } ∷ []) c
            ∙ (ap (λ i. old ++ record { kind = kind; owner = i; member = m.serial } ∷ []) p ∙ (ap (λ i. old ++ record { kind = kind; owner = owner; member = i } ∷ []) q ∙ sym f)) in
            past ∙ where_false (not (is_started o.state && is_started m.state)) _ _ (ap not e)
            ∙ ap (λ rs. did (Deed.Related kind o.path m.path) (with_core (record s.core { relations = rs }) s)) is
        by_up false e (Ok done) f = absurd f
        by_up true e (Err NotStarted) f = absurd f
        by_up false e (Err NotStarted) f = (f, past ∙ where_true (not (is_started o.state && is_started m.state)) _ _ (ap not e))
        by_up true e (Err WantOfMemory) f = f
        by_up false e (Err WantOfMemory) f = f
        by_up true e (Err SelfRelation) f = absurd f
        by_up true e (Err SameRelation) f = absurd f
        by_up true e (Err RelationCycle) f = absurd f
        by_up false e (Err SelfRelation) f = absurd f
        by_up false e (Err SameRelation) f = absurd f
        by_up false e (Err RelationCycle) f = absurd f

      pub free_related : has (dependents (base nodes old) member) owner ≡ false → (result : Result (Unit {0}) RelateError) (new : List Relation)
          → RelatesFree (are_up (node_at owner nodes) (node_at member nodes)) (record { kind = kind; owner = owner; member = member }) old result new
          → RelatesFor (node_at owner nodes) (node_at member nodes) nodes kind old result new
      free_related h result new free =
          for_nodes nodes owner member kind old new result there_o there_m
          (λ o m a b p q s around c.
          let ups : are_up (node_at owner nodes) (node_at member nodes) ≡ (is_started o.state && is_started m.state) = ap (λ (x : Option Node). is_up x && is_up (node_at member nodes)) a ∙ ap (λ (x : Option Node). is_started o.state && is_up x) b in
          by_up h new o m s around p q c (is_started o.state && is_started m.state) refl result (subst (λ x. RelatesFree x (record { kind = kind; owner = owner; member = member }) old result new) ups free))
