-- In each state of a run each device holds a whole alternative or nothing, and not more is held than events can bring.
use Rattle.std.proofs.Common.{ℕ, zero, suc, ◌+◌, ◌*◌, ◌≤◌, ◌<◌, ◌≡◌, ◌≢◌, inl, inr, true, false, List, [], ◌∷◌, length, map, Some, refl, sym, ap, ◌∙◌, subst, arith}
use Rattle.std.specs.List.{AllByRecursion, AllZip, IsDistinct, list_any}
use Rattle.std.specs.Prelude.{eqb}
use Rattle.std.proofs.lemmas.Bool.{cases_eq}
use Rattle.std.proofs.lemmas.Bool.Decides.{nat_tests}
use Rattle.std.proofs.lemmas.List.{length-append, length-map}
use Rattle.std.proofs.lemmas.Map.Keys.{IsDistinct-cons}
use Rattle.std.proofs.lemmas.Map.Steps.{length-le_from_distinct_below}
use Rattle.resource_reqs.specs.Resources.{AltList, MayFrom, Reqs, Res, Whole}
use Rattle.resource_reqs.proofs.Answering.{plan_is}
use Rattle.pnp_labels.specs.declared.label.Label.{Label}
use Rattle.pnp_model.specs.Cores.{node_at}
use Rattle.pnp_model.specs.Frames.{fixed_beside, held_by}
use Rattle.pnp_model.specs.Rebalances.{committed, movers, others, plan_of}
use Rattle.pnp_model.specs.Records.{Driver, Node, Settings, State, Stage}
use Rattle.pnp_model.specs.Runs.{Entry, Goes, Run, opening, printed}
use Rattle.pnp_model.specs.Runs.Entry.{Happens, Did, Declines}
use Rattle.pnp_model.specs.Tests.{has}
use Rattle.pnp_laws.specs.Effects.{NodeEffect, RangeEffect}
use Rattle.pnp_laws.specs.Ends.{events}
use Rattle.pnp_laws.specs.Held.{AllHoldParts, AreWithin, FewHeldLaw, HoldsPart, EachHoldsAPartLaw}
use Rattle.pnp_laws.specs.Kept.{Ascending}
use Rattle.pnp_laws.specs.Keys.{BirthsApart}
use Rattle.pnp_laws.specs.Plans.{IsPlanned, StagePlan}
use Rattle.pnp_laws.specs.Reached.{IsReached}
use Rattle.pnp_laws.proofs.Closures.{head_at, tail_at}
use Rattle.pnp_laws.proofs.EffectViews.{Origin, origin}
use Rattle.pnp_laws.proofs.EffectsOf.{effect_goes}
use Rattle.pnp_laws.proofs.HoldingsKept.{own_whole}
use Rattle.pnp_laws.proofs.JoinMachine.{reaches_born}
use Rattle.pnp_laws.proofs.Joins.{Born}
use Rattle.pnp_laws.proofs.Lists.{member, not_head}
use Rattle.pnp_laws.proofs.Lookups.{own_serial}
use Rattle.pnp_laws.proofs.PlansKept.{mover_whole, other_after, reached_is_planned}
use Rattle.pnp_laws.proofs.Reached.{reached_is_good}
use Rattle.pnp_laws.proofs.Reaching.{kept}
use Rattle.pnp_laws.proofs.Runs.{root_is}
use Rattle.pnp_laws.proofs.RunsKeys.{other_serial}
use Rattle.pnp_laws.proofs.RunsSerials.{few_births}
use Rattle.pnp_laws.proofs.Sharing.{part_not}
use Rattle.pnp_laws.proofs.FitsBy.{plan_by}

-- A whole alternative or nothing ---------------------------------------------------------------------

-- where nothing is changed of what a device needs and holds
part_same : (n m : Node) → m.reqs ≡ n.reqs → m.holds ≡ n.holds → HoldsPart n → HoldsPart m
part_same n m reqs holds (inl none) = inl (holds ∙ none)
part_same n m reqs holds (inr whole) = inr (subst (λ (x : Reqs). Whole x m.holds) (sym reqs) (subst (λ (x : List Res). Whole n.reqs x) (sym holds) whole))

module _ (s : State) (label : Label) (t : State) (order : Ascending 0 s.core.nodes) (planned : IsPlanned s) (old : AllHoldParts s.core.nodes) where
  part_from : (k : ℕ) (m : Node) → Origin s label t k m → HoldsPart m
  part_from k _ (Origin.was n at) = old k n at
  part_from k _ (Origin.walked n minor w bad at request other ends verdict prints) = old k n at
  part_from k _ (Origin.troubled n problem at) = old k n at
  part_from k _ (Origin.stacks n d ds name at acts prints) = old k n at
  part_from k _ (Origin.assigned n phase plan at acts search part now) =
      inr (own_whole n.reqs plan (plan_is (fixed_beside s.core (n.serial ∷ [])) (n.reqs ∷ []) part.budget plan part.answer).whole)
  part_from k _ (Origin.stripped n w at request prints) = inl refl
  part_from k _ (Origin.commits r n runs course is at) =
      let fits = subst (λ (x : Stage). StagePlan r x s.core.reserved s.core.nodes) is (plan_by s r planned runs course) in
      elim (member (movers r) k) [
        | inl h ↦ inr (mover_whole r s.core.reserved s.core.nodes k n fits at h)
        | inr h ↦
            let out = subst (λ (i : ℕ). has (movers r) i ≡ false) (sym (own_serial k n s.core.nodes at)) h in
            part_same n (committed r.wanted r.target (movers r) (plan_of r.found) n) (other_after r.wanted r.target n (not_head r.target n.serial (others r) out)) (part_not n.serial (movers r) (plan_of r.found) n.holds out) (old k n at)
      ]
  part_from k _ (Origin.joins node d below gone own) = inl refl

  parts_after : NodeEffect s label t → AllHoldParts t.core.nodes
  parts_after effect k m at = part_from k m (origin s label t order k m effect at)

parts_goes : (settings : Settings) (rack : List Driver) (s : State) (entry : Entry) (t : State) → IsReached settings rack s → AllHoldParts s.core.nodes → Goes settings s entry t → AllHoldParts t.core.nodes
parts_goes settings rack s entry t reached old goes =
    parts_after s (printed entry) t (reached_is_good settings rack s reached).serials (reached_is_planned settings rack s reached) old (effect_goes settings s entry t goes).nodes

pub each_holds_a_part : EachHoldsAPartLaw
each_holds_a_part settings rack entries s run =
    kept (λ (x : State). AllHoldParts x.core.nodes) settings rack (parts_goes settings rack)
    (λ k n at. subst HoldsPart (root_is k n at).0 (inl refl)) s (entries, run)

-- How much is held -----------------------------------------------------------------------------------

long_zip : (list : AltList) (holds : List Res) → AllZip MayFrom list holds → length holds ≡ length list
long_zip [] [] h = refl
long_zip [] (r ∷ holds) h = absurd h
long_zip (g ∷ list) [] h = absurd h
long_zip (g ∷ list) (r ∷ holds) h = ap suc (long_zip list holds h.1)

part_within : (most : ℕ) (n : Node) → AreWithin most n.reqs → HoldsPart n → length n.holds ≤ most
part_within most n within (inl none) = let l = ap (λ (x : List Res). length x) none in omega arith
part_within most n within (inr (inl (none, empty))) = let l = ap (λ (x : List Res). length x) empty in omega arith
part_within most n within (inr (inr (list, there, all))) = let l = long_zip list n.holds all in let few = within list there in omega arith

held_within : (most lo : ℕ) (nodes : List Node) → Ascending lo nodes → ((k : ℕ) (n : Node) → node_at k nodes ≡ Some n → length n.holds ≤ most) → length (held_by nodes) ≤ most * length nodes
held_within most lo [] order each = omega arith
held_within most lo (n ∷ ns) order each =
    let own = each n.serial n (head_at n ns) in
    let more = held_within most (suc n.serial) ns order.1 (λ k m at. each k m (tail_at lo n ns k m order at)) in
    let l = length-append n.holds (held_by ns) in
    let times = one_more most (length ns) in
    omega arith
  where
    one_more : (a b : ℕ) → a * suc b ≡ a + a * b
    one_more a b = omega arith

-- Birth numbers are not given twice, so there are no more nodes than these -----------------------------

abbrev births_of : List Node → List ℕ
births_of nodes = map (λ n. n.born) nodes

born_there : (lo : ℕ) (nodes : List Node) (q : ℕ) → Ascending lo nodes → list_any (eqb q) (births_of nodes) ≡ true → (k : ℕ) × (n : Node) × (node_at k nodes ≡ Some n) × (n.born ≡ q)
born_there lo [] q order h = absurd (cc)
born_there lo (n ∷ ns) q order h =
    elim (cases_eq n.born q) [
      | inl e ↦ (n.serial, n, head_at n ns, e)
      | inr d ↦ let more = born_there (suc n.serial) ns q order.1 (grind (arith, nat_tests)) in (more.0, more.1, tail_at lo n ns more.0 more.1 order more.2, more.3)
    ]

none_equal : (b lo : ℕ) (nodes : List Node) → Ascending lo nodes → ((k : ℕ) (m : Node) → node_at k nodes ≡ Some m → b ≢ m.born) → AllByRecursion (λ y. eqb b y ≡ false) (births_of nodes)
none_equal b lo [] order other = tt
none_equal b lo (n ∷ ns) order other =
    let own = other n.serial n (head_at n ns) in
    (grind (arith, nat_tests), none_equal b (suc n.serial) ns order.1 (λ k m at. other k m (tail_at lo n ns k m order at)))

births_distinct : (lo : ℕ) (nodes : List Node) → Ascending lo nodes → BirthsApart nodes → IsDistinct eqb (births_of nodes)
unfolding IsDistinct
births_distinct lo [] order apart = tt
births_distinct lo (n ∷ ns) order apart =
    IsDistinct-cons eqb n.born (births_of ns)
    (none_equal n.born (suc n.serial) ns order.1 (λ k m at e. other_serial n ns k m order.1 at (apart n.serial k n m (head_at n ns) (tail_at lo n ns k m order at) e)))
    (births_distinct (suc n.serial) ns order.1 (λ j k x y at there e. apart j k x y (tail_at lo n ns j x order at) (tail_at lo n ns k y order there) e))

few_nodes : (s : State) → Ascending 0 s.core.nodes → Born s → length s.core.nodes ≤ s.next_born
few_nodes s order born =
    let same = length-map s.core.nodes (λ n. n.born) in
    let few = length-le_from_distinct_below (births_of s.core.nodes) s.next_born (births_distinct 0 s.core.nodes order born.apart)
    (λ q h. let from = born_there 0 s.core.nodes q order h in subst (λ (i : ℕ). i < s.next_born) from.3 (born.known from.0 from.1 from.2)) in
    omega arith

-- Ranges: one for each event at most ---------------------------------------------------------------------

ranges_counted : (s : State) (entry : Entry) (t : State) → RangeEffect s entry t → length t.core.reserved ≤ length s.core.reserved + events (entry ∷ [])
ranges_counted s entry t (RangeEffect.same e) = let l = ap (λ (x : List Res). length x) e in omega arith
ranges_counted s entry t (RangeEffect.reserves res none free same e event label is) =
    let l = ap (λ (x : List Res). length x) e ∙ length-append s.core.reserved (res ∷ []) in
    subst (λ (x : Entry). length t.core.reserved ≤ length s.core.reserved + events (x ∷ [])) (sym is) (omega arith)

ranges_first : (n m k : ℕ) (entry : Entry) (rest : List Entry) → m ≤ n + events (entry ∷ []) → k ≤ m + events rest → k ≤ n + events (entry ∷ rest)
ranges_first n m k (Happens event label) rest a b = omega arith
ranges_first n m k (Did label) rest a b = omega arith
ranges_first n m k (Declines label) rest a b = omega arith

ranges_run : (settings : Settings) (s : State) (entries : List Entry) (t : State) → Run settings s entries t → length t.core.reserved ≤ length s.core.reserved + events entries
ranges_run settings s [] t run = let l = ap (λ (x : State). length x.core.reserved) run in omega arith
ranges_run settings s (entry ∷ rest) t (mid, goes, run) =
    ranges_first (length s.core.reserved) (length mid.core.reserved) (length t.core.reserved) entry rest
    (ranges_counted s entry mid (effect_goes settings s entry mid goes).ranges) (ranges_run settings mid rest t run)

times_more : (a b c : ℕ) → b ≤ c → a * b ≤ a * c
times_more zero b c l = omega arith
times_more (suc a) b c l = let more = times_more a b c l in omega arith

all_of : (most n h r : ℕ) → h ≤ most * (n + 1) → r ≤ n → r + h ≤ (most + 1) * (n + 1)
all_of most n h r a b = omega arith

pub few_held : FewHeldLaw
few_held settings rack entries s run most within =
    let order = (reached_is_good settings rack s (entries, run)).serials in
    let parts = each_holds_a_part settings rack entries s run in
    let nodes = few_nodes s order (reaches_born settings rack entries s run) in
    let births = few_births settings rack entries s run in
    let ranges = ranges_run settings (opening rack) entries s run in
    let held = held_within most 0 s.core.nodes order (λ k n at. part_within most n (within k n at) (parts k n at)) in
    let more = times_more most (length s.core.nodes) (events entries + 1) (omega arith) in
    let all = all_of most (events entries) (length (held_by s.core.nodes)) (length s.core.reserved) (omega arith) (omega arith) in
    let both = length-append s.core.reserved (held_by s.core.nodes) in
    omega arith
