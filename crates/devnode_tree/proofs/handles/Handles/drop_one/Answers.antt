use Rattle.std.proofs.Common.{◌≡◌, ◌≢◌, ◌-◌, nat_lt, ◌<◌, ◌≤◌, ℕ, List, Some, IsTrue, ◌∙◌, ap, sym, subst, arith}
use Rattle.std.specs.Ordering.{nat_cmp}
use Rattle.std.specs.BTreeMap.{is_at}
use Rattle.std.specs.Map.{lookup}
use Rattle.std.proofs.lemmas.Bool.Decides.{nat_tests}
use Rattle.std.proofs.lemmas.Map.Views.{All-map-remove_entry, All-values-set_value}
use Rattle.pnp_model.specs.Records.{Handle}
use Rattle.pnp_model.specs.Handles.{is_open}
use Rattle.devnode_tree.specs.Counts.{handles_of, count_of}
use Rattle.devnode_tree.proofs.Counting.{count_is, is_there, last_closed, one_closed}
use Rattle.devnode_tree.proofs.handles.Handles.drop_one.Goals as goal

-- more than one, where one is open and not just one
several : (n : ℕ) → IsTrue (nat_lt 0 n) → n ≢ 1 → 1 < n
several n some not_one = grind (arith, nat_tests)

pub invariant_of-self : goal.invariant_of-self
invariant_of-self c =
    rw c.remove.ensures.entries (All-map-remove_entry (is_at (nat_cmp c.args.serial)) (λ e. e.1) (λ n. 1 ≤ n) c.self.inside.counts.entries c.self.invariant)

pub returns-then-count-eq1 : goal.returns-then-count-eq1
returns-then-count-eq1 c =
    rw (← c.self.view_is)
    (ap handles_of c.remove.ensures.entries ∙ last_closed c.args.serial c.self.inside.counts.entries (ap (λ (hs : List Handle). count_of hs c.args.serial) c.self.view_is ∙ (sym c.count-count.ensures.count ∙ c.if-count-eq1.true)))

pub invariant_of-self-in-Some : goal.invariant_of-self-in-Some
invariant_of-self-in-Some c =
    let more = several c.count-count.result (subst IsTrue c.count-count.ensures.there c.requires) c.if-count-eq1.false in
    rw (c.get_mut.follows.holds (c.count-count.result - 1)).0
    (All-values-set_value (is_at (nat_cmp c.args.serial)) (λ n. 1 ≤ n) c.self.inside.counts.entries (c.count-count.result - 1) c.self.invariant (omega (arith, more)))

pub returns-in-Some : goal.returns-in-Some
returns-in-Some c =
    let k = c.args.serial in
    let es = c.self.inside.counts.entries in
    let n = c.count-count.result in
    let more = several n (subst IsTrue c.count-count.ensures.there c.requires) c.if-count-eq1.false in
    let there : lookup (is_at (nat_cmp k)) es ≡ Some n =
    sym c.in-Some.ensures.value
    ∙ ap (λ (m : ℕ). Some m) (count_is k es (Some c.in-Some.place.now) c.in-Some.ensures.value ∙ (ap (λ (hs : List Handle). count_of hs k) c.self.view_is ∙ sym c.count-count.ensures.count)) in
    rw (← c.count-count.ensures.count, ← c.self.view_is) (ap handles_of (c.get_mut.follows.holds (n - 1)).0 ∙ one_closed k es n there more)

pub returns-in_default : goal.returns-in_default
returns-in_default c =
    absurd (is_there c.args.serial c.self.inside.counts.entries (subst (λ (hs : List Handle). IsTrue (is_open hs c.args.serial)) (sym c.self.view_is) c.requires) c.in_default.ensures.value)
