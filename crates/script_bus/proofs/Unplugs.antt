-- A device and all below it are taken out, a device without children at a time.
use Rattle.std.proofs.Common.{◌≡◌, ◌≢◌, ℕ, ◌+◌, ◌<◌, ◌≤◌, ◌==◌, Bool, true, false, not, ◌&&◌, ◌||◌, cond, List, [], ◌∷◌, slice_get, zero, suc, Some, refl, sym, ap, ap₂, ◌∙◌, arith, inl, inr}
use Rattle.std.specs.List.{AllByRecursion}
use Rattle.std.proofs.lemmas.Bool.Decides.{nat_tests}
use Rattle.pnp_model.specs.Keyed.{those, without_first}
use Rattle.pnp_model.specs.Records.{Device}
use Rattle.pnp_model.specs.States.{device_born, is_in_world, without_those}
use Rattle.pnp_model.specs.Tests.{has}
use Rattle.devnode_tree.specs.Trees.{Ascends}
use Rattle.script_bus.specs.Worlds.{World, IsWorld, births_of, is_child, child_births, HasParent, PassesDown}

pub by_cond : {X : Type 0} (P : X → Type 0) (b : Bool) (x y : X) → (b ≡ true → P x) → (b ≡ false → P y) → P (cond b x y)
by_cond P true x y f g = f refl
by_cond P false x y f g = g refl

-- the births that are gone in the end
abbrev pub final : List ℕ → List Device → List ℕ
final gone [] = gone
final gone (d ∷ ds) = cond (has gone d.born || has gone d.parent) (final (d.born ∷ gone) ds) (final gone ds)

-- a device goes where it is the one that is pulled, or its parent goes
abbrev pub Rules : ℕ → List ℕ → Device → Type 0
Rules born gone d = has gone d.born ≡ (has (born ∷ []) d.born || has gone d.parent)

pub apart_from : (y low : ℕ) (ds : List Device) → y < low → Ascends low (births_of ds) → AllByRecursion (λ d. d.born ≢ y) ds
apart_from y low [] l h = tt
apart_from y low (d ∷ ds) l h = ((λ e. let a = h.0 in absurd (omega arith)), apart_from y (d.born + 1) ds (let a = h.0 in omega arith) h.1)

final_keeps : (y : ℕ) (ds : List Device) (gone : List ℕ) → AllByRecursion (λ d. d.born ≢ y) ds → has (final gone ds) y ≡ has gone y
final_keeps y [] gone all = refl
final_keeps y (d ∷ ds) gone all =
    by_cond (λ l. has l y ≡ has gone y) (has gone d.born || has gone d.parent) (final (d.born ∷ gone) ds) (final gone ds)
    (λ e. final_keeps y ds (d.born ∷ gone) all.1 ∙ ap (λ b. b || has gone y) (differs all.0))
    (λ e. final_keeps y ds gone all.1)
  where
    differs : d.born ≢ y → (d.born == y) ≡ false
    differs other = grind (arith, nat_tests)

pub all_weaker : {X : Type 0} (P Q : X → Type 0) → ((x : X) → P x → Q x) → (xs : List X) → AllByRecursion P xs → AllByRecursion Q xs
all_weaker P Q e [] h = tt
all_weaker P Q e (x ∷ xs) h = (e x h.0, all_weaker P Q e xs h.1)

pub all_both : {X : Type 0} (P Q R : X → Type 0) → ((x : X) → P x → Q x → R x) → (xs : List X) → AllByRecursion P xs → AllByRecursion Q xs → AllByRecursion R xs
all_both P Q R e [] h k = tt
all_both P Q R e (x ∷ xs) h k = (e x h.0 k.0, all_both P Q R e xs h.1 k.1)

pub all_without : {X : Type 0} (P : X → Type 0) (test : X → Bool) (xs : List X) → AllByRecursion P xs → AllByRecursion P (without_first test xs)
all_without P test [] h = tt
all_without P test (x ∷ xs) h = by_cond (AllByRecursion P) (test x) xs (x ∷ without_first test xs) (λ e. h.1) (λ e. (h.0, all_without P test xs h.1))

rules_head : (gone : List ℕ) (d : Device) (a b : Bool) → a ≡ has gone d.born → b ≡ has gone d.parent → (a || b) ≡ true → true ≡ (a || ((d.born == d.parent) || b))
rules_head gone d true b p q t = refl
rules_head gone d false true p q t = by_bool (d.born == d.parent)
  where
    by_bool : (c : Bool) → true ≡ (false || (c || true))
    by_bool true = refl
    by_bool false = refl
rules_head gone d false false p q t = absurd (cc)

pub same_self : (k : ℕ) → (k == k) ≡ true
same_self k = grind (arith, nat_tests)

or_false_left : (a b : Bool) → (a || b) ≡ false → a ≡ false
or_false_left true b e = e
or_false_left false b e = refl

or_false_right : (a b : Bool) → (a || b) ≡ false → b ≡ false
or_false_right true b e = absurd (cc)
or_false_right false b e = e

rules_from : (ds : List Device) (gone : List ℕ) (low : ℕ) → Ascends low (births_of ds) → AllByRecursion (λ d. d.parent ≤ d.born) ds
    → AllByRecursion (λ d. has (final gone ds) d.born ≡ (has gone d.born || has (final gone ds) d.parent)) ds
rules_from [] gone low asc below = tt
rules_from (d ∷ ds) gone low asc below =
    by_cond (λ l. (has l d.born ≡ (has gone d.born || has l d.parent)) × AllByRecursion (λ e. has l e.born ≡ (has gone e.born || has l e.parent)) ds)
    (has gone d.born || has gone d.parent) (final (d.born ∷ gone) ds) (final gone ds)
    (λ t. (
      final_keeps d.born ds (d.born ∷ gone) later
          ∙ (ap (λ b. b || has gone d.born) (same_self d.born)
          ∙ (rules_head gone d (has gone d.born) (has gone d.parent) refl refl t
          ∙ ap (λ b. has gone d.born || b) (sym (final_keeps d.parent ds (d.born ∷ gone) parents)))),
      all_both (λ e. has (final (d.born ∷ gone) ds) e.born ≡ (has (d.born ∷ gone) e.born || has (final (d.born ∷ gone) ds) e.parent)) (λ e. e.born ≢ d.born) _
          (λ e rule other. rule ∙ ap (λ b. (b || has gone e.born) || has (final (d.born ∷ gone) ds) e.parent) (differs e other)) ds
          (rules_from ds (d.born ∷ gone) (d.born + 1) asc.1 below.1) later,
    ))
    (λ t. (
      final_keeps d.born ds gone later
          ∙ (or_false_left (has gone d.born) (has gone d.parent) t
          ∙ ap₂ ◌||◌ (sym (or_false_left (has gone d.born) (has gone d.parent) t)) (sym (final_keeps d.parent ds gone parents ∙ or_false_right (has gone d.born) (has gone d.parent) t))),
      rules_from ds gone (d.born + 1) asc.1 below.1,
    ))
  where
    later : AllByRecursion (λ e. e.born ≢ d.born) ds
    later = apart_from d.born (d.born + 1) ds (omega arith) asc.1

    parents : AllByRecursion (λ e. e.born ≢ d.parent) ds
    parents = let l = below.0 in apart_from d.parent (d.born + 1) ds (omega arith) asc.1

    differs : (e : Device) → e.born ≢ d.born → (d.born == e.born) ≡ false
    differs e other = grind (arith, nat_tests)

parents_low : (births : List ℕ) (ds : List Device) → AllByRecursion (HasParent births) ds → AllByRecursion (λ d. d.parent ≤ d.born) ds
parents_low births ds = all_weaker (HasParent births) (λ d. d.parent ≤ d.born) low ds
  where
    low : (d : Device) → HasParent births d → d.parent ≤ d.born
    low d (inl root) = let b = root.0 in let p = root.1 in omega arith
    low d (inr l) = let lower = l.0 in omega arith

-- who goes, for all devices of a world
pub rules_of : (w : World) (born : ℕ) → IsWorld w → AllByRecursion (Rules born (final (born ∷ []) w.devices)) w.devices
rules_of w born h = rules_from w.devices (born ∷ []) 0 h.ascends (parents_low (births_of w.devices) w.devices h.parents)

stays_gone : (y : ℕ) (ds : List Device) (gone : List ℕ) → has gone y ≡ true → has (final gone ds) y ≡ true
stays_gone y [] gone h = h
stays_gone y (d ∷ ds) gone h =
    by_cond (λ l. has l y ≡ true) (has gone d.born || has gone d.parent) (final (d.born ∷ gone) ds) (final gone ds)
    (λ t. stays_gone y ds (d.born ∷ gone) (or_right (d.born == y) (has gone y) h))
    (λ t. stays_gone y ds gone h)
  where
    or_right : (a b : Bool) → b ≡ true → (a || b) ≡ true
    or_right true b e = refl
    or_right false b e = e

pub goes_itself : (born : ℕ) (ds : List Device) → has (final (born ∷ []) ds) born ≡ true
goes_itself born ds = stays_gone born ds (born ∷ []) (ap (λ b. b || false) (same_self born))

-- the root stays
pub root_rule : (births : List ℕ) (d : Device) → HasParent births d → d.born ≡ 0 → d.parent ≡ 0
root_rule births d (inl root) e = root.1
root_rule births d (inr low) e = let l = low.0 in absurd (omega arith)

zero_goes : (births gone : List ℕ) (d : Device) → HasParent births d → has gone 0 ≡ false → (has gone d.born || has gone d.parent) ≡ true → d.born ≡ 0 → ⊥
zero_goes births gone d parent h t born =
    let none : (has gone d.born || has gone d.parent) ≡ false = ap₂ (λ b p. has gone b || has gone p) born (root_rule births d parent born) ∙ ap₂ ◌||◌ h h in
    cc

root_stays : (births : List ℕ) (ds : List Device) (gone : List ℕ) → AllByRecursion (HasParent births) ds → has gone 0 ≡ false → has (final gone ds) 0 ≡ false
root_stays births [] gone all h = h
root_stays births (d ∷ ds) gone all h =
    by_cond (λ l. has l 0 ≡ false) (has gone d.born || has gone d.parent) (final (d.born ∷ gone) ds) (final gone ds)
    (λ t. root_stays births ds (d.born ∷ gone) all.1 (ap (λ b. b || has gone 0) (not_zero (zero_goes births gone d all.0 h t)) ∙ h))
    (λ t. root_stays births ds gone all.1 h)
  where
    not_zero : (d.born ≡ 0 → ⊥) → (d.born == 0) ≡ false
    not_zero other = grind (arith, nat_tests)

pub no_root_goes : (w : World) (born : ℕ) → IsWorld w → born ≢ 0 → has (final (born ∷ []) w.devices) 0 ≡ false
no_root_goes w born h other = root_stays (births_of w.devices) w.devices (born ∷ []) h.parents (let test : (born == 0) ≡ false = grind (arith, nat_tests) in ap (λ b. b || false) test)

pub by_bool : (P : Bool → Type 0) (b : Bool) → (b ≡ true → P true) → (b ≡ false → P false) → P b
by_bool P true f g = f refl
by_bool P false f g = g refl

kept_differs : (y : ℕ) (d : Device) (ds : List Device) (gone : List ℕ) → AllByRecursion (λ e. e.born ≢ d.born) ds → has gone d.born ≡ false → has (final gone ds) y ≡ true → (d.born == y) ≡ false
kept_differs y d ds gone apart kept goes = by_bool (λ b. (d.born == y) ≡ b → (d.born == y) ≡ false) (d.born == y)
    (λ t e. let same : d.born ≡ y = grind (arith, nat_tests) in let one = final_keeps d.born ds gone apart in let two = ap (has (final gone ds)) same in absurd (cc))
    (λ t e. e) refl

-- what goes is not among what is left
pub gone_out : (y : ℕ) (ds : List Device) (gone : List ℕ) (low : ℕ) → Ascends low (births_of ds) → has (final gone ds) y ≡ true → is_in_world (without_those gone ds) y ≡ false
gone_out y [] gone low asc = λ h. refl
gone_out y (d ∷ ds) gone low asc =
    by_bool (λ b. has (cond b (final (d.born ∷ gone) ds) (final gone ds)) y ≡ true → is_in_world (cond b (without_those (d.born ∷ gone) ds) (d ∷ without_those gone ds)) y ≡ false) (has gone d.born || has gone d.parent)
    (λ t h. gone_out y ds (d.born ∷ gone) (d.born + 1) asc.1 h)
    (λ t h. ap₂ ◌||◌ (kept_differs y d ds gone (apart_from d.born (d.born + 1) ds (omega arith) asc.1) (or_false_left (has gone d.born) (has gone d.parent) t) h) (gone_out y ds gone (d.born + 1) asc.1 h))

-- a number that no device has and none has as its parent's
abbrev Avoids : ℕ → Device → Type 0
Avoids x d = (d.born ≢ x) × (d.parent ≢ x)

agree_more : (x b : ℕ) (g1 g2 : List ℕ) → ((y : ℕ) → y ≢ x → has g1 y ≡ has g2 y) → (y : ℕ) → y ≢ x → has (b ∷ g1) y ≡ has (b ∷ g2) y
agree_more x b g1 g2 agree y other = ap (λ t. (b == y) || t) (agree y other)

without_agree : (x : ℕ) (ds : List Device) (g1 g2 : List ℕ) → AllByRecursion (Avoids x) ds → ((y : ℕ) → y ≢ x → has g1 y ≡ has g2 y) → without_those g1 ds ≡ without_those g2 ds
without_agree x [] g1 g2 all agree = refl
without_agree x (d ∷ ds) g1 g2 all agree =
    let test : (has g1 d.born || has g1 d.parent) ≡ (has g2 d.born || has g2 d.parent) = ap₂ ◌||◌ (agree d.born all.0.0) (agree d.parent all.0.1) in
    ap₂ (λ b (l : List Device × List Device). cond b l.0 l.1) test
    (λ i. (without_agree x ds (d.born ∷ g1) (d.born ∷ g2) all.1 (agree_more x d.born g1 g2 agree) i, ap (λ l. d ∷ l) (without_agree x ds g1 g2 all.1 agree) i))

head_is_none : (b : Bool) (d : Device) (rest : List Device) → births_of (cond b (d ∷ rest) rest) ≡ [] → b ≡ false
head_is_none true d rest e = absurd (cc)
head_is_none false d rest e = refl

rest_has_none : (b : Bool) (d : Device) (rest : List Device) → births_of (cond b (d ∷ rest) rest) ≡ [] → births_of rest ≡ []
rest_has_none true d rest e = absurd (cc)
rest_has_none false d rest e = e

no_child : (x : ℕ) (d : Device) → 0 < d.born → is_child x d ≡ false → d.parent ≢ x
no_child x d above none same =
    let parent : (d.parent == x) ≡ true = grind (arith, nat_tests) in
    let born : (d.born == 0) ≡ false = grind (arith, nat_tests) in
    let child : is_child x d ≡ true = ap₂ (λ p b. p && not b) parent born in
    cc

avoids : (x low : ℕ) (ds : List Device) → x < low → Ascends low (births_of ds) → child_births ds x ≡ [] → AllByRecursion (Avoids x) ds
avoids x low [] l asc none = tt
avoids x low (d ∷ ds) l asc none =
    let low_is = asc.0 in (
      ((λ e. absurd (omega arith)), no_child x d (omega arith) (head_is_none (is_child x d) d (those (is_child x) ds) none)),
      avoids x (d.born + 1) ds (omega arith) asc.1 (rest_has_none (is_child x d) d (those (is_child x) ds) none),
    )

born_differs : (x y : ℕ) (d : Device) → (d.born == x) ≡ true → y ≢ x → (d.born == y) ≡ false
born_differs x y d same differs = grind (arith, nat_tests)

born_same : (x : ℕ) (d : Device) → (d.born == x) ≡ true → x < d.born + 1
born_same x d same = grind (arith, nat_tests)

-- a device that goes and has no children may go first
pub leaf_first : (x : ℕ) (ds : List Device) (gone : List ℕ) (low : ℕ) → Ascends low (births_of ds) → child_births ds x ≡ []
    → is_in_world (without_those gone ds) x ≡ false → without_those gone (without_first (λ d. d.born == x) ds) ≡ without_those gone ds
leaf_first x [] gone low asc leaf out = refl
leaf_first x (d ∷ ds) gone low asc leaf out =
    by_bool (λ c. (d.born == x) ≡ c → is_in_world (without_those gone (d ∷ ds)) x ≡ false → without_those gone (cond c ds (d ∷ without_first (λ d. d.born == x) ds)) ≡ without_those gone (d ∷ ds)) (d.born == x)
    (λ t same. by_bool (λ b. is_in_world (cond b (without_those (d.born ∷ gone) ds) (d ∷ without_those gone ds)) x ≡ false → without_those gone ds ≡ cond b (without_those (d.born ∷ gone) ds) (d ∷ without_those gone ds)) (has gone d.born || has gone d.parent)
    (λ r out. without_agree x ds gone (d.born ∷ gone) (avoids x (d.born + 1) ds (born_same x d same) asc.1 rest) (λ y differs. sym (ap (λ b. b || has gone y) (born_differs x y d same differs))))
    (λ r out. let in_front : is_in_world (d ∷ without_those gone ds) x ≡ true = ap (λ b. b || is_in_world (without_those gone ds) x) same in absurd (cc)))
    (λ t same. by_bool (λ b. is_in_world (cond b (without_those (d.born ∷ gone) ds) (d ∷ without_those gone ds)) x ≡ false
    → cond b (without_those (d.born ∷ gone) (without_first (λ d. d.born == x) ds)) (d ∷ without_those gone (without_first (λ d. d.born == x) ds)) ≡ cond b (without_those (d.born ∷ gone) ds) (d ∷ without_those gone ds)) (has gone d.born || has gone d.parent)
    (λ r out. leaf_first x ds (d.born ∷ gone) (d.born + 1) asc.1 rest out)
    (λ r out. ap (λ l. d ∷ l) (leaf_first x ds gone (d.born + 1) asc.1 rest (or_false_right (d.born == x) (is_in_world (without_those gone ds) x) out))))
    refl out
  where
    rest : child_births ds x ≡ []
    rest = rest_has_none (is_child x d) d (those (is_child x) ds) leaf

-- where nobody goes
all_stay : (gone : List ℕ) (ds : List Device) → AllByRecursion (λ d. (has gone d.born || has gone d.parent) ≡ false) ds → without_those gone ds ≡ ds
all_stay gone [] all = refl
all_stay gone (d ∷ ds) all = ap (λ b. cond b (without_those (d.born ∷ gone) ds) (d ∷ without_those gone ds)) all.0 ∙ ap (λ l. d ∷ l) (all_stay gone ds all.1)

pub in_births : (ds : List Device) (born : ℕ) → has (births_of ds) born ≡ is_in_world ds born
in_births [] born = refl
in_births (d ∷ ds) born = ap (λ b. (d.born == born) || b) (in_births ds born)

none_has : (born : ℕ) (ds : List Device) → is_in_world ds born ≡ false → AllByRecursion (λ d. (d.born == born) ≡ false) ds
none_has born [] e = tt
none_has born (d ∷ ds) e = (or_false_left (d.born == born) (is_in_world ds born) e, none_has born ds (or_false_right (d.born == born) (is_in_world ds born) e))

stays : (born : ℕ) (births : List ℕ) (d : Device) → born ≢ 0 → has births born ≡ false → (d.born == born) ≡ false → HasParent births d → (has (born ∷ []) d.born || has (born ∷ []) d.parent) ≡ false
stays born births d other absent apart (inl root) =
    let b = root.0 in let p = root.1 in
    let one : (born == d.born) ≡ false = grind (arith, nat_tests) in
    let two : (born == d.parent) ≡ false = grind (arith, nat_tests) in
    ap₂ (λ x y. (x || false) || (y || false)) one two
stays born births d other absent apart (inr low) =
    let one : (born == d.born) ≡ false = grind (arith, nat_tests) in
    let there : has births d.parent ≡ true = low.1 in
    let two : (born == d.parent) ≡ false = by_bool (λ b. (born == d.parent) ≡ b → (born == d.parent) ≡ false) (born == d.parent)
    (λ t e. let same : born ≡ d.parent = grind (arith, nat_tests) in let twice = ap (has births) same in absurd (cc)) (λ t e. e) refl in
    ap₂ (λ x y. (x || false) || (y || false)) one two

-- a device that is not there takes nobody with it
pub none_goes : (w : World) (born : ℕ) → IsWorld w → born ≢ 0 → is_in_world w.devices born ≡ false → without_those (born ∷ []) w.devices ≡ w.devices
none_goes w born h other absent =
    all_stay (born ∷ []) w.devices
    (all_both (λ d. (d.born == born) ≡ false) (HasParent (births_of w.devices)) _ (λ d apart parent. stays born (births_of w.devices) d other (in_births w.devices born ∙ absent) apart parent) w.devices (none_has born w.devices absent) h.parents)

-- who goes takes the children along
down_from : (born : ℕ) (gone : List ℕ) (ds : List Device) → AllByRecursion (Rules born gone) ds → (parent child : ℕ) → has gone parent ≡ true → has (child_births ds parent) child ≡ true → has gone child ≡ true
down_from born gone [] rules parent child goes = λ among. absurd (let e : false ≡ true = among in cc)
down_from born gone (d ∷ ds) rules parent child goes =
    by_bool (λ b. is_child parent d ≡ b → has (births_of (cond b (d ∷ those (is_child parent) ds) (those (is_child parent) ds))) child ≡ true → has gone child ≡ true) (is_child parent d)
    (λ t is among. by_bool (λ c. (d.born == child) ≡ c → (c || has (child_births ds parent) child) ≡ true → has gone child ≡ true) (d.born == child)
    (λ u same more. let one : d.born ≡ child = grind (arith, nat_tests) in
    let over : d.parent ≡ parent = child_parent d is in
    ap (has gone) (sym one) ∙ (rules.0 ∙ (ap (λ b. has (born ∷ []) d.born || b) (ap (has gone) over ∙ goes) ∙ or_true (has (born ∷ []) d.born))))
    (λ u same more. down_from born gone ds rules.1 parent child goes more) refl among)
    (λ t is among. down_from born gone ds rules.1 parent child goes among)
    refl
  where
    or_true : (b : Bool) → (b || true) ≡ true
    or_true true = refl
    or_true false = refl

    child_parent : (d : Device) → is_child parent d ≡ true → d.parent ≡ parent
    child_parent d is = grind (arith, nat_tests)

pub passes_down : (born : ℕ) (gone : List ℕ) (ds : List Device) → AllByRecursion (Rules born gone) ds → PassesDown ds (has gone)
passes_down born gone ds rules = down_from born gone ds rules

-- the parent of who goes, but for the one that is pulled, goes too
up_from : (born : ℕ) (gone : List ℕ) (ds : List Device) → AllByRecursion (Rules born gone) ds → (leaf : ℕ) (d : Device) → device_born leaf ds ≡ Some d → has gone leaf ≡ true → leaf ≢ born → has gone d.parent ≡ true
up_from born gone [] rules leaf d at goes other = absurd (cc)
up_from born gone (e ∷ ds) rules leaf d at goes other =
    by_bool (λ b. (e.born == leaf) ≡ b → cond b (Some e) (device_born leaf ds) ≡ Some d → has gone d.parent ≡ true) (e.born == leaf)
    (λ t same at. let is : e ≡ d = cc in
    let one : e.born ≡ leaf = grind (arith, nat_tests) in
    let apart : (born == e.born) ≡ false = grind (arith, nat_tests) in
    ap (λ (x : Device). has gone x.parent) (sym is) ∙ (sym (rules.0 ∙ ap (λ b. (b || false) || has gone e.parent) apart) ∙ (ap (has gone) one ∙ goes)))
    (λ t same at. up_from born gone ds rules.1 leaf d at goes other)
    refl at

pub goes_up : (born : ℕ) (gone : List ℕ) (ds : List Device) → AllByRecursion (Rules born gone) ds → (leaf : ℕ) (d : Device) → device_born leaf ds ≡ Some d → has gone leaf ≡ true → leaf ≢ born → has gone d.parent ≡ true
goes_up = up_from

-- Children ---------------------------------------------------------------------

pub got_has : (ks : List ℕ) (i k : ℕ) → Some k ≡ slice_get ks i → has ks k ≡ true
got_has [] i k e = absurd (cc)
got_has (j ∷ ks) zero k e = let same : k ≡ j = cc in ap (λ b. b || has ks k) (ap (λ x. j == x) same ∙ same_self j)
got_has (j ∷ ks) (suc i) k e = ap (λ b. (j == k) || b) (got_has ks i k e) ∙ or_last (j == k)
  where
    or_last : (b : Bool) → (b || true) ≡ true
    or_last true = refl
    or_last false = refl

-- a child is born later, and is there
pub record IsLater (ds : List Device) (next at child : ℕ) : Type 0 where
  pub later : at < child
  pub below : child < next
  pub there : is_in_world ds child ≡ true

child_above : (births : List ℕ) (at : ℕ) (d : Device) → HasParent births d → is_child at d ≡ true → at < d.born
child_above births at d (inl root) is = let born = root.0 in absurd (grind (arith, nat_tests))
child_above births at d (inr low) is = let l = low.0 in grind (arith, nat_tests)

pub child_later : (births : List ℕ) (next : ℕ) (ds : List Device) → AllByRecursion (HasParent births) ds → AllByRecursion (λ b. b < next) (births_of ds)
    → (at child : ℕ) → has (child_births ds at) child ≡ true → IsLater ds next at child
child_later births next [] parents below at child = λ among. absurd (let e : false ≡ true = among in cc)
child_later births next (d ∷ ds) parents below at child =
    by_bool (λ b. is_child at d ≡ b → has (births_of (cond b (d ∷ those (is_child at) ds) (those (is_child at) ds))) child ≡ true → IsLater (d ∷ ds) next at child) (is_child at d)
    (λ t is among. by_bool (λ c. (d.born == child) ≡ c → (c || has (child_births ds at) child) ≡ true → IsLater (d ∷ ds) next at child) (d.born == child)
    (λ u same more.
    let one : d.born ≡ child = grind (arith, nat_tests) in
    let up = child_above births at d parents.0 is in
    let low = below.0 in
    record { later = omega arith; below = omega arith; there = ap (λ b. b || is_in_world ds child) same })
    (λ u same more. over (child_later births next ds parents.1 below.1 at child more)) refl among)
    (λ t is among. over (child_later births next ds parents.1 below.1 at child among))
    refl
  where
    or_last : (b : Bool) → (b || true) ≡ true
    or_last true = refl
    or_last false = refl

    over : IsLater ds next at child → IsLater (d ∷ ds) next at child
    over l = record { later = l.later; below = l.below; there = ap (λ b. (d.born == child) || b) l.there ∙ or_last (d.born == child) }

-- the last child of a device
pub last_among : (ds : List Device) (at child : ℕ) (ks : List ℕ) (i : ℕ) → ks ≡ child_births ds at → Some child ≡ slice_get ks i → has (child_births ds at) child ≡ true
last_among ds at child ks i is got = ap (λ l. has l child) (sym is) ∙ got_has ks i child got

pub last_later : (w : World) (at child : ℕ) (ks : List ℕ) (i : ℕ) → IsWorld w → ks ≡ child_births w.devices at → Some child ≡ slice_get ks i → IsLater w.devices w.next at child
last_later w at child ks i h is got = child_later (births_of w.devices) w.next w.devices h.parents h.below at child (last_among w.devices at child ks i is got)
