-- A device that is disabled and enabled once more stands as after the first time.
use Rattle.std.proofs.Common.{ℕ, ◌≡◌, ◌==◌, ◌&&◌, ◌||◌, inl, inr, Bool, true, false, not, List, [], ◌∷◌, ◌++◌, length, Some, refl, sym, ap, ap₂, ◌∙◌, subst, arith, cond}
use Rattle.std.specs.List.{list_any}
use Rattle.std.proofs.lemmas.Bool.Decides.{nat_tests}
use Rattle.device_ids.specs.Folding.{same}
use Rattle.resource_reqs.specs.Resources.{Res}
use Rattle.resource_reqs.specs.Spelling.{IsAnswer}
use Rattle.resource_reqs.specs.Spelling.Answer.{assignment, spent}
use Rattle.resource_reqs.proofs.Answering.{answer_one}
use Rattle.pnp_labels.specs.Texts.{Text}
use Rattle.pnp_labels.specs.declared.states.DevState.TheVariants.{Started}
use Rattle.pnp_model.specs.Cores.{forget, is_apart_from, node_at, serials_of}
use Rattle.pnp_model.specs.Frames.{held_by, is_beside}
use Rattle.pnp_model.specs.Keyed.{those}
use Rattle.pnp_model.specs.Laws.{Reaches}
use Rattle.pnp_model.specs.Records.{Core, Device, Driver, Node, Relation, Settings, State}
use Rattle.pnp_model.specs.Runs.{Entry, Run, opening}
use Rattle.pnp_model.specs.Starts.{own_part, own_problem}
use Rattle.pnp_model.specs.Tasks.{joins}
use Rattle.pnp_model.specs.Tests.{has}
use Rattle.pnp_model.specs.Trees.{closed, dependents, grown, hangs_on, is_in_or_on}
use Rattle.pnp_laws.specs.Kept.{Ascending}
use Rattle.pnp_laws.proofs.Closures.{closed_in_all, those_serial}
use Rattle.pnp_laws.proofs.Reaching.{run_on}
use Rattle.pnp_laws.proofs.Truths.{or_cases, or_left, or_right, untrue}
use Rattle.pnp_pairs.specs.DisabledAndEnabled.{IsStill, StandsAlone, TwiceIsAsOnceLaw}
use Rattle.pnp_pairs.proofs.Alone.{none_hangs, none_of}
use Rattle.pnp_pairs.proofs.DisabledAndEnabled.{at, cycle, cycle_declined, cycle_happened, cycled, end, found, order}
use Rattle.pnp_pairs.proofs.Disabling.{stood}
use Rattle.pnp_pairs.proofs.Enabling.{alike_found, with_all}
use Rattle.pnp_pairs.proofs.OneRun.{one_run}
use Rattle.pnp_pairs.proofs.Placing.{any_put, find_put, put, put_changed, those_put}

-- Nothing depends on it still ------------------------------------------------------------------------------------

-- on nobody nobody hangs
no_relation : (rs : List Relation) (m : ℕ) → list_any (λ (r : Relation). r.member == m && has [] r.owner) rs ≡ false
no_relation [] m = refl
no_relation (r ∷ rs) m = ap₂ (λ (a b : Bool). a || b) (by_test (r.member == m)) (no_relation rs m)
  where
    by_test : (b : Bool) → (b && false) ≡ false
    by_test true = refl
    by_test false = refl

grown_none : (c : Core) (ns : List Node) → those (is_in_or_on c []) ns ≡ []
grown_none c [] = refl
grown_none c (n ∷ ns) = ap₂ (λ (b : Bool) (xs : List Node). cond b (n ∷ xs) xs) (no_relation c.relations n.serial) (grown_none c ns)

closed_none : (c : Core) → closed c [] ≡ []
closed_none c = closed_in_all (λ (xs : List ℕ). xs ≡ []) (length c.nodes) c [] (λ xs e. ap (grown c) e ∙ ap serials_of (grown_none c c.nodes)) refl

-- fewer relations, fewer that hang
fewer : (keep : Relation → Bool) (rs : List Relation) (m : ℕ) (ks : List ℕ) → list_any (λ (r : Relation). r.member == m && has ks r.owner) (those keep rs) ≡ true → list_any (λ (r : Relation). r.member == m && has ks r.owner) rs ≡ true
fewer keep [] m ks h = h
fewer keep (r ∷ rs) m ks h = by_test (keep r) (r.member == m && has ks r.owner) h (fewer keep rs m ks)
  where
    by_test : (a b : Bool) → list_any (λ (x : Relation). x.member == m && has ks x.owner) (cond a (r ∷ those keep rs) (those keep rs)) ≡ true
        → (list_any (λ (x : Relation). x.member == m && has ks x.owner) (those keep rs) ≡ true → list_any (λ (x : Relation). x.member == m && has ks x.owner) rs ≡ true) → ((r.member == m && has ks r.owner) || list_any (λ (x : Relation). x.member == m && has ks x.owner) rs) ≡ true
    by_test false b g more = or_right (r.member == m && has ks r.owner) (list_any (λ (x : Relation). x.member == m && has ks x.owner) rs) (more g)
    by_test true b g more =
        elim (or_cases (r.member == m && has ks r.owner) (list_any (λ (x : Relation). x.member == m && has ks x.owner) (those keep rs)) g) [
          | inl q ↦ or_left (r.member == m && has ks r.owner) (list_any (λ (x : Relation). x.member == m && has ks x.owner) rs) q
          | inr q ↦ or_right (r.member == m && has ks r.owner) (list_any (λ (x : Relation). x.member == m && has ks x.owner) rs) (more q)
        ]

module _ (c : Core) (n last : Node) (serial : last.serial ≡ n.serial) (parent : last.parent ≡ n.parent) (there : node_at n.serial c.nodes ≡ Some n) (rising : Ascending 0 c.nodes) (nobody : dependents c n.serial ≡ []) where
  abbrev after : Core
  after = put last (forget n.serial c.relations) c

  there_too : node_at last.serial c.nodes ≡ Some n
  there_too = ap (λ (i : ℕ). node_at i c.nodes) serial ∙ there

  hung : (x : Node) → hangs_on after (n.serial ∷ []) x ≡ true → hangs_on c (n.serial ∷ []) x ≡ true
  hung x h =
      elim (or_cases (has (n.serial ∷ []) x.parent && not (x.serial == 0)) (list_any (λ (r : Relation). r.member == x.serial && has (n.serial ∷ []) r.owner) (forget n.serial c.relations)) h) [
        | inl q ↦ or_left (has (n.serial ∷ []) x.parent && not (x.serial == 0)) (list_any (λ (r : Relation). r.member == x.serial && has (n.serial ∷ []) r.owner) c.relations) q
        | inr q ↦ or_right (has (n.serial ∷ []) x.parent && not (x.serial == 0)) (list_any (λ (r : Relation). r.member == x.serial && has (n.serial ∷ []) r.owner) c.relations) (fewer (is_apart_from n.serial) c.relations x.serial (n.serial ∷ []) q)
      ]

  none_before : those (hangs_on after (n.serial ∷ [])) c.nodes ≡ []
  none_before = none_of (hangs_on after (n.serial ∷ [])) (hangs_on c (n.serial ∷ [])) hung c.nodes (none_hangs c n rising nobody)

  not_itself : hangs_on after (n.serial ∷ []) n ≡ false
  not_itself =
      untrue (hangs_on after (n.serial ∷ []) n)
      (λ h. let here = those_serial 0 (hangs_on after (n.serial ∷ [])) c.nodes n.serial n rising there h in (let z = subst (λ (xs : List Node). has (serials_of xs) n.serial ≡ true) none_before here in cc))

  not_last : hangs_on after (n.serial ∷ []) last ≡ false
  not_last =
      ap₂ (λ (i j : ℕ). (has (n.serial ∷ []) i && not (j == 0)) || list_any (λ (r : Relation). r.member == j && has (n.serial ∷ []) r.owner) (forget n.serial c.relations)) parent serial ∙ not_itself

  nobody_still : dependents after n.serial ≡ []
  nobody_still =
      ap (λ (xs : List Node). closed after (serials_of xs)) (those_put (hangs_on after (n.serial ∷ [])) last n c.nodes there_too not_last not_itself ∙ none_before) ∙ closed_none after

forgotten : (k : ℕ) (rs : List Relation) → forget k (forget k rs) ≡ forget k rs
forgotten k [] = refl
forgotten k (r ∷ rs) = by_test (is_apart_from k r) refl (forgotten k rs)
  where
    by_test : (b : Bool) → is_apart_from k r ≡ b → forget k (forget k rs) ≡ forget k rs → forget k (cond b (r ∷ forget k rs) (forget k rs)) ≡ cond b (r ∷ forget k rs) (forget k rs)
    by_test true e more = ap (λ (b : Bool). cond b (r ∷ forget k (forget k rs)) (forget k (forget k rs))) e ∙ ap (λ (xs : List Relation). r ∷ xs) more
    by_test false e more = more

module _ (settings : Settings) (rack : List Driver) (earlier : List Entry) (s : State) (path : Text) (n : Node) (run : Reaches settings rack earlier s) (still : IsStill s) (alone : StandsAlone settings s path n) where
  abbrev k : ℕ
  k = n.serial

  abbrev plan : List (List Res)
  plan = (found settings rack earlier s path n run still alone).0

  -- the device and the state after the first time
  abbrev last : Node
  last = with_all n n.stack Started (own_part plan)

  abbrev apart : List Relation
  apart = forget k s.core.relations

  abbrev once : State
  once = stood last apart s

  here : node_at k s.core.nodes ≡ Some n
  here = at settings rack earlier s path n run still alone

  rising : Ascending 0 s.core.nodes
  rising = order settings rack earlier s path n run still alone

  beside_same : those (is_beside (k ∷ [])) once.core.nodes ≡ those (is_beside (k ∷ [])) s.core.nodes
  beside_same = let out : is_beside (k ∷ []) n ≡ false = grind (arith, nat_tests) in those_put (is_beside (k ∷ [])) last n s.core.nodes here out out

  joins_same : (x : Device) → joins n.born once.core.nodes x ≡ joins n.born s.core.nodes x
  joins_same x =
      ap₂ (λ (a b : Bool). x.parent == n.born && not a && not b) (any_put (λ (y : Node). y.born == x.born) last n s.core.nodes here refl) (any_put (λ (y : Node). same y.path x.path) last n s.core.nodes here refl)

  -- it stands alone still
  alone_again : StandsAlone settings once path last
  alone_again =
      record {
        named = find_put (λ (x : Node). same x.path path) last n s.core.nodes here refl alone.named;
        no_root = alone.no_root;
        up = refl;
        enabled = alone.enabled;
        nobody = nobody_still s.core n last refl refl here rising alone.nobody;
        none_joins = alike_found (joins n.born once.core.nodes) (joins n.born s.core.nodes) joins_same s.world ∙ alone.none_joins;
        shut = alone.shut;
        agree = alone.agree;
        in_budget = λ h. alone.in_budget (subst (λ (xs : List Node). IsAnswer (s.core.reserved ++ held_by xs) (n.reqs ∷ []) settings.budget spent) beside_same h);
      }

  still_again : IsStill once
  still_again = record { none = refl; idle = refl; done = refl }

  abbrev more : List Entry
  more = earlier ++ cycle settings rack earlier s path n run still alone

  run_again : Reaches settings rack more once
  run_again = run_on settings (opening rack) s once earlier (cycle settings rack earlier s path n run still alone) run (cycled settings rack earlier s path n run still alone)

  abbrev plan_again : List (List Res)
  plan_again = (found settings rack more once path last run_again still_again alone_again).0

  -- the search is of the same problem
  same_plan : plan_again ≡ plan
  same_plan =
      let old = (found settings rack earlier s path n run still alone).1 in
      let new : IsAnswer (own_problem s.core n).fixed (own_problem s.core n).movers settings.budget (assignment plan_again) =
      subst (λ (xs : List Node). IsAnswer (s.core.reserved ++ held_by xs) (n.reqs ∷ []) settings.budget (assignment plan_again)) beside_same (found settings rack more once path last run_again still_again alone_again).1 in
      let one = answer_one (own_problem s.core n).fixed (own_problem s.core n).movers settings.budget (assignment plan_again) (assignment plan) new old in
      cc

  same_end : end settings rack more once path last run_again still_again alone_again ≡ once
  same_end =
      let c = s.core in
      ap (λ (p : List (List Res)). let x : State = stood (with_all n n.stack Started (own_part p)) (forget k apart) once in x) same_plan
      ∙ ap (λ (rels : List Relation). let x : State = stood last rels once in x) (forgotten k c.relations)
      ∙ ap (λ (x : Core). let z : State = record once { core = x } in z) (put_changed last (λ (x : Node). last) apart c refl)

pub twice_is_as_once : TwiceIsAsOnceLaw
twice_is_as_once settings rack earlier one again s t u path n run still alone first none quiet first_is second free rests second_is =
    let first_end = one_run settings s (cycle settings rack earlier s path n run still alone) one (once settings rack earlier s path n run still alone) t (cycled settings rack earlier s path n run still alone) first
    (cycle_declined settings rack earlier s path n run still alone) none refl quiet (first_is ∙ sym (cycle_happened settings rack earlier s path n run still alone)) in
    let from_once = subst (λ (x : State). Run settings x again u) first_end.1 second in
    let l = last settings rack earlier s path n run still alone in
    let o = once settings rack earlier s path n run still alone in
    let m = more settings rack earlier s path n run still alone in
    let r = run_again settings rack earlier s path n run still alone in
    let q = still_again settings rack earlier s path n run still alone in
    let a = alone_again settings rack earlier s path n run still alone in
    let second_end = one_run settings o (cycle settings rack m o path l r q a) again (end settings rack m o path l r q a) u (cycled settings rack m o path l r q a) from_once
    (cycle_declined settings rack m o path l r q a) free refl rests (second_is ∙ sym (cycle_happened settings rack m o path l r q a)) in
    second_end.1 ∙ same_end settings rack earlier s path n run still alone ∙ sym first_end.1
