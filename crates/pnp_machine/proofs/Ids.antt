-- In a run whose events have few IDs each node and each device of the world has few.
use Rattle.std.proofs.Common.{ℕ, ◌≡◌, ◌≤◌, ◌==◌, ◌||◌, Bool, true, false, cond, List, [], ◌∷◌, ◌++◌, map, length, Option, Some, None, refl, sym, subst, arith}
use Rattle.std.specs.List.{find, AllByRecursion}
use Rattle.pnp_labels.specs.declared.label.Label.{Label}
use Rattle.pnp_model.specs.Keyed.{changed_first, without_first}
use Rattle.pnp_model.specs.Records.{Device, Node, Core, Driver, State, Step, Settings}
use Rattle.pnp_model.specs.Cores.{is_node, node_at, bare}
use Rattle.pnp_model.specs.Rebalances.{committed, movers, plan_of}
use Rattle.pnp_model.specs.Runs.{Entry, Goes, opening, printed}
use Rattle.pnp_model.specs.States.{new_child, requires, without_those}
use Rattle.pnp_model.specs.Tasks.{joins}
use Rattle.pnp_model.specs.Tests.{has}
use Rattle.pnp_laws.specs.Effects.{NodeEffect, WorldEffect}
use Rattle.pnp_laws.proofs.EffectViews.{KeepsIds, alters_keeps}
use Rattle.pnp_laws.proofs.EffectsOf.{effect_goes}
use Rattle.start_sequence.specs.Begins as begins
use Rattle.pnp_machine.specs.Ids.{IsFewNode, IsFewDevice, AreFewIds, IsFewEntry}

-- What all members of a list have ---------------------------------------------------------

module _ {A : Type 0} (P : A → Type 0) where
  found_has : (test : A → Bool) (xs : List A) (x : A) → AllByRecursion P xs → find test xs ≡ Some x → P x
  found_has test [] x h e = absurd (cc)
  found_has test (y ∷ ys) x h e = by_test (test y) e (found_has test ys x h.1)
    where
      by_test : (b : Bool) → cond b (Some y) (find test ys) ≡ Some x → (find test ys ≡ Some x → P x) → P x
      by_test true e more = let same : y ≡ x = cc in subst P same h.0
      by_test false e more = more e

  changed_have : (test : A → Bool) (f : A → A) → ((x : A) → P x → P (f x)) → (xs : List A) → AllByRecursion P xs → AllByRecursion P (changed_first test f xs)
  changed_have test f keeps [] h = tt
  changed_have test f keeps (x ∷ xs) h = by_test (test x) (changed_have test f keeps xs h.1)
    where
      by_test : (b : Bool) → AllByRecursion P (changed_first test f xs) → AllByRecursion P (cond b (f x ∷ xs) (x ∷ changed_first test f xs))
      by_test true more = (keeps x h.0, h.1)
      by_test false more = (h.0, more)

  left_have : (test : A → Bool) (xs : List A) → AllByRecursion P xs → AllByRecursion P (without_first test xs)
  left_have test [] h = tt
  left_have test (x ∷ xs) h = by_test (test x) (left_have test xs h.1)
    where
      by_test : (b : Bool) → AllByRecursion P (without_first test xs) → AllByRecursion P (cond b xs (x ∷ without_first test xs))
      by_test true more = h.1
      by_test false more = (h.0, more)

  mapped_have : (f : A → A) → ((x : A) → P x → P (f x)) → (xs : List A) → AllByRecursion P xs → AllByRecursion P (map f xs)
  mapped_have f keeps [] h = tt
  mapped_have f keeps (x ∷ xs) h = (keeps x h.0, mapped_have f keeps xs h.1)

  pub one_more_has : (y : A) → P y → (xs : List A) → AllByRecursion P xs → AllByRecursion P (xs ++ y ∷ [])
  one_more_has y own [] h = (own, tt)
  one_more_has y own (x ∷ xs) h = (h.0, one_more_has y own xs h.1)

fewer_have : (P : Device → Type 0) (gone : List ℕ) (ds : List Device) → AllByRecursion P ds → AllByRecursion P (without_those gone ds)
fewer_have P gone [] h = tt
fewer_have P gone (d ∷ ds) h = by_test (has gone d.born || has gone d.parent) (fewer_have P (d.born ∷ gone) ds h.1) (fewer_have P gone ds h.1)
  where
    by_test : (b : Bool) → AllByRecursion P (without_those (d.born ∷ gone) ds) → AllByRecursion P (without_those gone ds)
        → AllByRecursion P (cond b (without_those (d.born ∷ gone) ds) (d ∷ without_those gone ds))
    by_test true without more = without
    by_test false without more = (h.0, more)

-- Steps and events -------------------------------------------------------------------------

few_same : (n m : Node) → m.hw ≡ n.hw → m.compat ≡ n.compat → IsFewNode n → IsFewNode m
few_same n m hw compat h =
    record { hw = subst (λ ids. length ids ≤ 64) (sym hw) h.hw; compat = subst (λ ids. length ids ≤ 64) (sym compat) h.compat }

keeps_few : (f : Node → Node) → KeepsIds f → (n : Node) → IsFewNode n → IsFewNode (f n)
keeps_few f keeps n h = few_same n (f n) (keeps.hw n) (keeps.compat n) h

from_nodes : (c : Core) (nodes : List Node) → c.nodes ≡ nodes → AllByRecursion IsFewNode nodes → AllByRecursion IsFewNode c.nodes
from_nodes c nodes e h = subst (AllByRecursion IsFewNode) (sym e) h

few_nodes : (s : State) (label : Label) (t : State) → NodeEffect s label t → AreFewIds s → AllByRecursion IsFewNode t.core.nodes
few_nodes s label t (NodeEffect.same a b) h = from_nodes t.core s.core.nodes a h.0
few_nodes s label t (NodeEffect.changed j f alters a b) h =
    from_nodes t.core _ a (changed_have IsFewNode (is_node j) f (keeps_few f (alters_keeps s label t j f alters)) s.core.nodes h.0)
few_nodes s label t (NodeEffect.stripped node w at request ends prints a b) h =
    from_nodes t.core _ a (changed_have IsFewNode (is_node node.serial) bare (λ n few. record { hw = few.hw; compat = few.compat }) s.core.nodes h.0)
few_nodes s label t (NodeEffect.commits r runs course is a b) h =
    from_nodes t.core _ a (mapped_have IsFewNode (committed r.wanted r.target (movers r) (plan_of r.found)) (λ n few. record { hw = few.hw; compat = few.compat }) s.core.nodes h.0)
few_nodes s label t (NodeEffect.joins node d none at up there is) h =
    let few = found_has IsFewDevice (joins node.born s.core.nodes) s.world d h.1 there in
    subst (λ (x : Step). AllByRecursion IsFewNode x.state.core.nodes) (sym is)
    (one_more_has IsFewNode (new_child node.serial d s) (record { hw = few.hw; compat = few.compat }) s.core.nodes h.0)
few_nodes s label t (NodeEffect.left node o runs first a b) h = from_nodes t.core _ a (left_have IsFewNode (is_node node.serial) s.core.nodes h.0)
few_nodes s label t (NodeEffect.related r related a b) h = from_nodes t.core s.core.nodes a h.0

few_world : (s : State) (entry : Entry) (t : State) → WorldEffect s entry t → IsFewEntry entry → AllByRecursion IsFewDevice s.world → AllByRecursion IsFewDevice t.world
few_world s entry t (WorldEffect.same e born) few h = subst (AllByRecursion IsFewDevice) (sym e) h
few_world s entry t (WorldEffect.plugged d plug e born) few h =
    let ids = subst (λ (x : Entry). IsFewEntry x) plug.event few in
    subst (AllByRecursion IsFewDevice) (sym e) (one_more_has IsFewDevice d (record { hw = ids.0; compat = ids.1 }) s.world h)
few_world s entry t (WorldEffect.changed node path reqs label at other up there event e next) few h =
    subst (AllByRecursion IsFewDevice) (sym e)
    (changed_have IsFewDevice (λ d. d.born == node.born) (requires reqs) (λ d few. record { hw = few.hw; compat = few.compat }) s.world h)
few_world s entry t (WorldEffect.unplugged born why e next) few h = subst (AllByRecursion IsFewDevice) (sym e) (fewer_have IsFewDevice (born ∷ []) s.world h)

pub few_opening : (rack : List Driver) → AreFewIds (opening rack)
few_opening rack = ((record { hw = omega arith; compat = omega arith }, tt), (record { hw = omega arith; compat = omega arith }, tt))

-- steps keep this, and so do events that have few IDs
pub few_goes : (settings : Settings) (old : State) (entry : Entry) (new : State) → Goes settings old entry new → IsFewEntry entry → AreFewIds old → AreFewIds new
few_goes settings old entry new goes few h =
    let effect = effect_goes settings old entry new goes in
    (few_nodes old (printed entry) new effect.nodes h, few_world old entry new effect.world few h.1)

-- so the device of a start has few
pub few_at : (s : State) (k : ℕ) → AreFewIds s → begins.HasFewIds (node_at k s.core.nodes)
few_at s k h = by_found (node_at k s.core.nodes) (found_has IsFewNode (is_node k) s.core.nodes)
  where
    by_found : (o : Option Node) → ((n : Node) → AllByRecursion IsFewNode s.core.nodes → o ≡ Some n → IsFewNode n) → begins.HasFewIds o
    by_found None own = tt
    by_found (Some n) own = let few = own n h.0 refl in (few.hw, few.compat)
