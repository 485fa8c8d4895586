-- Whether a place of a search is open can be told, and so which coordinates go on from a prefix.
use Rattle.std.proofs.Common.{ℕ, zero, suc, ◌+◌, ◌%◌, ◌<◌, ◌≤◌, ◌≡◌, ◌⊎◌, inl, inr, Bool, true, false, IsTrue, List, [], ◌∷◌, ◌++◌, map, length, slice_get, Contains, Option, Some, None, refl, sym, ap, subst, arith}
use native.Mathlib.Decide.{dec_le, dec_lt, ℕ_discrete}
use Rattle.std.specs.List.{All, AllByRecursion}
use Rattle.std.proofs.lemmas.List.Elements.{All-nil, All-cons, All-head, All-tail, Contains-append_left, Contains-append_right}
use Rattle.std.proofs.lemmas.Option.{slice_get_within}
use Rattle.resource_reqs.specs.declared.kind.Kind.{Kind}
use Rattle.resource_reqs.specs.declared.kind.Kind.TheVariants.{Port, Irq, Mem, Dma, Bus}
use Rattle.resource_reqs.specs.Resources.{Res, Want, Group, AltList, Reqs, ShareNumber, Clash, May, Free, res_at}
use Rattle.resource_reqs.specs.Spelling.{Coord, alt, place, Less, Place, res_of, Point, choose, next_in, next, CleanPlaces, HasPlace, HasList, LiveAt, CompleteAt}
use Rattle.resource_reqs.proofs.Ends.{share_from_ends, ends_from_share}
use Rattle.resource_reqs.proofs.Points.{Step, listing, placing, step_of}
use Rattle.resource_reqs.proofs.Counts.{contains_cons, contains_nil}
use Rattle.resource_reqs.proofs.Fitting.{listed_read}
use Rattle.resource_reqs.proofs.Law.{Rising}

pub contains_here : {X : Type 0} (x : X) (xs : List X) → Contains (x ∷ xs) x
contains_here x xs = (0, omega arith, refl)

pub contains_later : {X : Type 0} (x : X) (xs : List X) (y : X) → Contains xs y → Contains (x ∷ xs) y
contains_later x xs y (k, within, is) = (suc k, omega arith, is)

all_append : {X : Type 0} (P : X → Type 0) (xs ys : List X) → AllByRecursion P xs → AllByRecursion P ys → AllByRecursion P (xs ++ ys)
all_append P [] ys h g = g
all_append P (x ∷ xs) ys h g = (h.0, all_append P xs ys h.1 g)

-- Decisions ------------------------------------------------------------------------------------------

pub dec_map : {A B : Type 0} → (A → B) → (B → A) → Dec A → Dec B
dec_map f g (yes a) = yes (f a)
dec_map f g (no h) = no (λ b. h (g b))

pub dec_both : {A B : Type 0} → Dec A → Dec B → Dec (A × B)
dec_both (yes a) (yes b) = yes (a, b)
dec_both (yes a) (no h) = no (λ z. h z.1)
dec_both (no h) d = no (λ z. h z.0)

pub dec_or : {A B : Type 0} → Dec A → Dec B → Dec (A ⊎ B)
dec_or (yes a) d = yes (inl a)
dec_or (no h) (yes b) = yes (inr b)
dec_or (no h) (no g) = no (λ z. elim z [ inl a ↦ h a | inr b ↦ g b ])

dec_not : {A : Type 0} → Dec A → Dec (A → ⊥)
dec_not (yes a) = no (λ f. f a)
dec_not (no h) = yes h

dec_kind : (a b : Kind) → Dec (a ≡ b)
dec_kind Port Port = yes refl
dec_kind Irq Irq = yes refl
dec_kind Mem Mem = yes refl
dec_kind Dma Dma = yes refl
dec_kind Bus Bus = yes refl
dec_kind Port _ = no (λ e. cc)
dec_kind Irq _ = no (λ e. cc)
dec_kind Mem _ = no (λ e. cc)
dec_kind Dma _ = no (λ e. cc)
dec_kind Bus _ = no (λ e. cc)

dec_bool : (a b : Bool) → Dec (a ≡ b)
dec_bool true true = yes refl
dec_bool true false = no (λ e. cc)
dec_bool false true = no (λ e. cc)
dec_bool false false = yes refl

dec_true : (b : Bool) → Dec (IsTrue b)
dec_true b = dec_bool b true

-- the ends of both intervals are in order and reach each other
abbrev Reach : Res → Res → Type 0
Reach a b = (a.lo ≤ a.hi) × (b.lo ≤ b.hi) × (a.lo ≤ b.hi) × (b.lo ≤ a.hi)

dec_reach : (a b : Res) → Dec (Reach a b)
dec_reach a b =
    dec_map (λ h. (h.0, h.1.0, h.1.1.0, h.1.1.1)) (λ h. (h.0, (h.1, (h.2, h.3))))
    (dec_both (dec_le a.lo a.hi) (dec_both (dec_le b.lo b.hi) (dec_both (dec_le a.lo b.hi) (dec_le b.lo a.hi))))

dec_share : (a b : Res) → Dec (ShareNumber a b)
dec_share a b = dec_map (λ h. share_from_ends a b h.0 h.1 h.2 h.3) (λ h. let ends = ends_from_share a b h in (omega arith, omega arith, ends.0, ends.1)) (dec_reach a b)

dec_clash : (a b : Res) → Dec (Clash a b)
dec_clash a b =
    dec_map (λ h. (h.0, h.1.0, h.1.1)) (λ h. (h.0, (h.1, h.2)))
    (dec_both (dec_kind a.kind b.kind) (dec_both (dec_share a b) (dec_not (dec_both (dec_true a.shared) (dec_true b.shared)))))

dec_all : {X : Type 0} (P : X → Type 0) → ((x : X) → Dec (P x)) → (xs : List X) → Dec (All P xs)
dec_all P dec [] = yes (All-nil P)
dec_all P dec (x ∷ xs) = dec_map (λ h. All-cons P x xs h.0 h.1) (λ h. (All-head P x xs h, All-tail P x xs h)) (dec_both (dec x) (dec_all P dec xs))

dec_each : {X : Type 0} (P : X → Type 0) → ((x : X) → Dec (P x)) → (xs : List X) → Dec (AllByRecursion P xs)
dec_each P dec [] = yes tt
dec_each P dec (x ∷ xs) = dec_both (dec x) (dec_each P dec xs)

dec_any : {X : Type 0} (P : X → Type 0) → ((x : X) → Dec (P x)) → (xs : List X) → Dec ((x : X) × Contains xs x × P x)
dec_any P dec [] = no (λ h. contains_nil h.0 h.1)
dec_any {X = X} P dec (x ∷ xs) = by_first (dec x) (dec_any P dec xs)
  where
    by_first : Dec (P x) → Dec ((y : X) × Contains xs y × P y) → Dec ((y : X) × Contains (x ∷ xs) y × P y)
    by_first (yes h) d = yes (x, contains_here x xs, h)
    by_first (no h) (yes g) = yes (g.0, contains_later x xs g.0 g.1, g.2)
    by_first (no h) (no g) = no (λ z. elim (contains_cons x xs z.0 z.1) [ inl e ↦ h (subst P e z.2) | inr c ↦ g (z.0, c, z.2) ])

dec_below : (P : ℕ → Type 0) → ((k : ℕ) → Dec (P k)) → (n : ℕ) → Dec ((k : ℕ) × (k < n) × P k)
dec_below P dec zero = no (λ h. let l = h.1 in omega arith)
dec_below P dec (suc n) = by_last (dec n) (dec_below P dec n)
  where
    by_last : Dec (P n) → Dec ((k : ℕ) × (k < n) × P k) → Dec ((k : ℕ) × (k < suc n) × P k)
    by_last (yes h) d = yes (n, omega arith, h)
    by_last (no h) (yes g) = yes (g.0, (let l = g.1 in omega arith), g.2)
    by_last (no h) (no g) =
        no (λ z. let l = z.1 in elim (dec_lt z.0 n) [ yes less ↦ g (z.0, less, z.2) | no far ↦ h (subst P (omega arith) z.2) ])

dec_free : (held : List Res) (res : Res) → Dec (Free held res)
dec_free held res = dec_all (λ other. ¬ Clash other res) (λ other. dec_not (dec_clash other res)) held

dec_may : (want : Want) (res : Res) → Dec (May want res)
dec_may want res =
    dec_map (λ h. (h.0, h.1.0, h.1.1.0, h.1.1.1.0, h.1.1.1.1.0, h.1.1.1.1.1)) (λ h. (h.0, (h.1, (h.2, (h.3, (h.4, h.5))))))
    (dec_both (dec_kind res.kind want.kind) (dec_both (dec_bool res.shared want.shared) (dec_both (dec_le want.min res.lo) (dec_both (dec_le res.hi want.max)
    (dec_both (ℕ_discrete (res.hi + 1) (res.lo + want.len)) (ℕ_discrete (res.lo % want.align) 0))))))

pub dec_clean : (fixed : List Res) (placed : List Place) → Dec (CleanPlaces fixed placed)
dec_clean fixed [] = yes tt
dec_clean fixed (p ∷ placed) =
    dec_map (λ h. (h.0, h.1.0, h.1.1.0, h.1.1.1)) (λ h. (h.0, (h.1, (h.2, h.3))))
    (dec_both (dec_may p.want (res_of p)) (dec_both (dec_free fixed (res_of p)) (dec_both (dec_free (map res_of placed) (res_of p)) (dec_clean fixed placed))))

-- a place starts below this
pub start_below : (want : Want) (start : ℕ) → May want (res_at want start) → start < want.max + 2
start_below want start may = let h = may.3 in omega arith

-- the want has a place that clashes with nothing
abbrev OpenAt : List Res → List Place → Want → ℕ → Type 0
OpenAt fixed placed want start = May want (res_at want start) × (Free fixed (res_at want start) × Free (map res_of placed) (res_at want start))

dec_open : (fixed : List Res) (placed : List Place) (want : Want) (start : ℕ) → Dec (OpenAt fixed placed want start)
dec_open fixed placed want start = dec_both (dec_may want (res_at want start)) (dec_both (dec_free fixed (res_at want start)) (dec_free (map res_of placed) (res_at want start)))

dec_place : (fixed : List Res) (placed : List Place) (group : Group) → Dec (HasPlace fixed placed group)
dec_place fixed placed group =
    dec_map (λ h. (h.0, h.2.0, h.1, h.2.2.0, h.2.2.1.0, h.2.2.1.1)) (λ h. (h.0, h.2, (h.1, start_below h.0 h.1 h.3, (h.3, (h.4, h.5)))))
    (dec_any (λ want. (start : ℕ) × (start < want.max + 2) × OpenAt fixed placed want start) (λ want. dec_below (OpenAt fixed placed want) (dec_open fixed placed want) (want.max + 2)) group)

dec_empty : {X : Type 0} (xs : List X) → Dec (xs ≡ [])
dec_empty [] = yes refl
dec_empty (x ∷ xs) = no (λ e. cc)

dec_list : (fixed : List Res) (placed : List Place) (reqs : Reqs) → Dec (HasList fixed placed reqs)
dec_list fixed placed reqs =
    dec_or (dec_empty reqs) (dec_any (λ list. AllByRecursion (HasPlace fixed placed) list) (λ list. dec_each (HasPlace fixed placed) (dec_place fixed placed) list) reqs)

pub dec_live : (fixed : List Res) (at : Point) → CleanPlaces fixed at.placed → Dec (LiveAt fixed at)
dec_live fixed at clean =
    dec_map (λ h. record { clean = clean; left = h.0; later = h.1 }) (λ h. (h.left, h.later))
    (dec_both (dec_each (HasPlace fixed at.placed) (dec_place fixed at.placed) at.groups) (dec_each (HasList fixed at.placed) (dec_list fixed at.placed) at.movers))

pub dec_complete : (fixed : List Res) (at : Point) → CleanPlaces fixed at.placed → Dec (CompleteAt fixed at)
dec_complete fixed at clean =
    dec_map (λ h. record { clean = clean; no_group = h.0; no_list = h.1 }) (λ h. (h.no_group, h.no_list))
    (dec_both (dec_empty at.groups) (dec_each (λ reqs. reqs ≡ []) (λ reqs. dec_empty reqs) at.movers))

-- Coordinates in order ---------------------------------------------------------------------------------

-- the coordinates of n numbers, in order
counted : (ℕ → Coord) → ℕ → ℕ → List Coord
counted f from zero = []
counted f from (suc n) = f from ∷ counted f (suc from) n

counted_all : (f : ℕ → Coord) (P : Coord → Type 0) (from n : ℕ) → ((k : ℕ) → from ≤ k → P (f k)) → AllByRecursion P (counted f from n)
unfolding counted
counted_all f P from zero h = tt
counted_all f P from (suc n) h = (h from (omega arith), counted_all f P (suc from) n (λ k l. h k (omega arith)))

counted_rising : (f : ℕ → Coord) (from n : ℕ) → ((j k : ℕ) → j < k → Less (f j) (f k)) → Rising (counted f from n)
unfolding counted
counted_rising f from zero up = tt
counted_rising f from (suc n) up = (counted_all f (Less (f from)) (suc from) n (λ k l. up from k (omega arith)), counted_rising f (suc from) n up)

counted_has : (f : ℕ → Coord) (from n i : ℕ) → from ≤ i → i < from + n → Contains (counted f from n) (f i)
unfolding counted
counted_has f from zero i a b = absurd (omega arith)
counted_has f from (suc n) i a b =
    elim (ℕ_discrete from i) [
      | yes e ↦ subst (λ (k : ℕ). Contains (f from ∷ counted f (suc from) n) (f k)) e (contains_here (f from) (counted f (suc from) n))
      | no d ↦ contains_later (f from) (counted f (suc from) n) (f i) (counted_has f (suc from) n i (omega arith) (omega arith))
    ]

rows : ℕ → ℕ → ℕ → List Coord
rows w zero top = []
rows w (suc n) top = counted (place w) 0 top ++ rows (suc w) n top

rows_over : (v k w n top : ℕ) → v < w → AllByRecursion (Less (place v k)) (rows w n top)
unfolding rows
rows_over v k w zero top l = tt
rows_over v k w (suc n) top l = all_append (Less (place v k)) (counted (place w) 0 top) (rows (suc w) n top) (counted_all (place w) (Less (place v k)) 0 top (λ i m. inl l)) (rows_over v k (suc w) n top (omega arith))

rising_append : (xs ys : List Coord) → Rising xs → Rising ys → AllByRecursion (λ x. AllByRecursion (Less x) ys) xs → Rising (xs ++ ys)
rising_append [] ys a b over = b
rising_append (x ∷ xs) ys a b over = (all_append (Less x) xs ys a.0 over.0, rising_append xs ys a.1 b over.1)

rows_rising : (w n top : ℕ) → Rising (rows w n top)
unfolding rows
rows_rising w zero top = tt
rows_rising w (suc n) top =
    rising_append (counted (place w) 0 top) (rows (suc w) n top) (counted_rising (place w) 0 top (λ j k l. inr (refl, l))) (rows_rising (suc w) n top)
    (counted_all (place w) (λ x. AllByRecursion (Less x) (rows (suc w) n top)) 0 top (λ k l. rows_over w k (suc w) n top (omega arith)))

rows_has : (w n top v s : ℕ) → w ≤ v → v < w + n → s < top → Contains (rows w n top) (place v s)
unfolding rows
rows_has w zero top v s a b c = absurd (omega arith)
rows_has w (suc n) top v s a b c =
    elim (ℕ_discrete w v) [
      | yes e ↦ subst (λ (k : ℕ). Contains (counted (place w) 0 top ++ rows (suc w) n top) (place k s)) e
          (Contains-append_left (counted (place w) 0 top) (rows (suc w) n top) (place w s) (counted_has (place w) 0 top s (omega arith) (omega arith)))
      | no d ↦ Contains-append_right (counted (place w) 0 top) (rows (suc w) n top) (place v s) (rows_has (suc w) n top v s (omega arith) (omega arith) c)
    ]

-- Those that go on -----------------------------------------------------------------------------------

module _ {X : Type 0} (P : X → Type 0) (dec : (x : X) → Dec (P x)) where
  unfoldable pub kept : List X → List X
  kept [] = []
  kept (x ∷ xs) = elim (dec x) as (λ _. List X) [ yes h ↦ x ∷ kept xs | no h ↦ kept xs ]

  -- what holds of all holds of those, and what joins each to those that follow
  pub kept_all : (Q : X → Type 0) (xs : List X) → AllByRecursion Q xs → AllByRecursion Q (kept xs)
  unfolding kept
  kept_all Q [] h = tt
  kept_all Q (x ∷ xs) h = by_test (dec x) (kept_all Q xs h.1)
    where
      by_test : (d : Dec (P x)) → AllByRecursion Q (kept xs) → AllByRecursion Q (elim d as (λ _. List X) [ yes g ↦ x ∷ kept xs | no g ↦ kept xs ])
      by_test (yes g) more = (h.0, more)
      by_test (no g) more = more

  pub kept_each : (xs : List X) → AllByRecursion P (kept xs)
  unfolding kept
  kept_each [] = tt
  kept_each (x ∷ xs) = by_test (dec x) (kept_each xs)
    where
      by_test : (d : Dec (P x)) → AllByRecursion P (kept xs) → AllByRecursion P (elim d as (λ _. List X) [ yes g ↦ x ∷ kept xs | no g ↦ kept xs ])
      by_test (yes g) more = (g, more)
      by_test (no g) more = more

  pub kept_every : (xs : List X) (y : X) → Contains xs y → P y → Contains (kept xs) y
  unfolding kept
  kept_every [] y inside h = absurd (contains_nil y inside)
  kept_every (x ∷ xs) y inside h = by_test (dec x) (contains_cons x xs y inside) (λ g. kept_every xs y g h)
    where
      by_test : (d : Dec (P x)) → (y ≡ x) ⊎ Contains xs y → (Contains xs y → Contains (kept xs) y) → Contains (elim d as (λ _. List X) [ yes g ↦ x ∷ kept xs | no g ↦ kept xs ]) y
      by_test (yes g) (inl e) more = subst (Contains (x ∷ kept xs)) (sym e) (contains_here x (kept xs))
      by_test (yes g) (inr q) more = contains_later x (kept xs) y (more q)
      by_test (no g) (inl e) more = absurd (g (subst P e h))
      by_test (no g) (inr q) more = more q

pub kept_rising : (P : Coord → Type 0) (dec : (c : Coord) → Dec (P c)) (cs : List Coord) → Rising cs → Rising (kept P dec cs)
unfolding kept
kept_rising P dec [] h = tt
kept_rising P dec (c ∷ cs) h = by_test (dec c) (kept_rising P dec cs h.1)
  where
    by_test : (d : Dec (P c)) → Rising (kept P dec cs) → Rising (elim d as (λ _. List Coord) [ yes g ↦ c ∷ kept P dec cs | no g ↦ kept P dec cs ])
    by_test (yes g) more = (kept_all P dec (Less c) cs h.0, more)
    by_test (no g) more = more

-- a coordinate leads on, cleanly
abbrev pub Child : List Res → Point → Coord → Type 0
Child fixed at c = (to : Point) × (next at c ≡ Some to) × CleanPlaces fixed to.placed

pub dec_child : (fixed : List Res) (at : Point) (c : Coord) → Dec (Child fixed at c)
dec_child fixed at c = by_next (next at c) refl
  where
    by_next : (o : Option Point) → next at c ≡ o → Dec (Child fixed at c)
    by_next None e = no (λ h. let q = h.1 in cc)
    by_next (Some to) e =
        dec_map (λ h. (to, e, h)) (λ h. let same : h.0 ≡ to = let q = h.1 in cc in subst (λ (x : Point). CleanPlaces fixed x.placed) same h.2) (dec_clean fixed to.placed)

-- how many lists the first mover that has lists has, and a bound of the starts of a group's places
lists_of : List Reqs → ℕ
lists_of [] = 0
lists_of ([] ∷ movers) = lists_of movers
lists_of ((list ∷ lists) ∷ movers) = length (list ∷ lists)

tops : Group → ℕ
tops [] = 0
tops (want ∷ group) = want.max + 2 + tops group

tops_over : (group : Group) (w : ℕ) (want : Want) → slice_get group w ≡ Some want → want.max + 2 ≤ tops group
unfolding tops
tops_over [] w want h = absurd (cc)
tops_over (x ∷ group) zero want h = let same : x ≡ want = cc in let e = ap (λ (z : Want). z.max) same in omega arith
tops_over (x ∷ group) (suc w) want h = let more = tops_over group w want h in omega arith

pub coords_of : List Group → List Reqs → List Coord
coords_of [] movers = counted alt 0 (lists_of movers)
coords_of (group ∷ groups) movers = rows 0 (length group) (tops group)

pub coords_rising : (groups : List Group) (movers : List Reqs) → Rising (coords_of groups movers)
unfolding coords_of
coords_rising [] movers = counted_rising alt 0 (lists_of movers) (λ j k l. l)
coords_rising (group ∷ groups) movers = rows_rising 0 (length group) (tops group)

chosen_below : (placed : List Place) (movers : List Reqs) (i : ℕ) (to : Point) → choose placed movers i ≡ Some to → i < lists_of movers
unfolding lists_of
chosen_below placed [] i to h = absurd (cc)
chosen_below placed ([] ∷ movers) i to h = chosen_below placed movers i to h
chosen_below placed ((list ∷ lists) ∷ movers) i to h =
    let read = listed_read placed movers (slice_get (list ∷ lists) i) to h in
    slice_get_within (list ∷ lists) i read.0 read.1

pub coords_every : (fixed : List Res) (at : Point) (c : Coord) → Child fixed at c → Contains (coords_of at.groups at.movers) c
unfolding coords_of
coords_every fixed at c (to, goes, clean) = by_groups at.groups refl c goes (step_of at to c goes)
  where
    by_groups : (groups : List Group) → at.groups ≡ groups → (c : Coord) → next at c ≡ Some to → Step at to c → Contains (coords_of groups at.movers) c
    by_groups [] e (alt i) g step =
        let g2 : choose at.placed at.movers i ≡ Some to = subst (λ (x : List Group). next_in at.placed x at.movers (alt i) ≡ Some to) e g in
        counted_has alt 0 (lists_of at.movers) i (omega arith) (let b = chosen_below at.placed at.movers i to g2 in omega arith)
    by_groups [] e (place w s) g (placing group want e2 m read placed) = absurd (cc)
    by_groups (group ∷ groups) e (alt i) g (listing e2 placed up) = absurd (cc)
    by_groups (group ∷ groups) e (place w s) g (placing other want e2 m read placed) =
        let same : other ≡ group = cc in
        let read2 = subst (λ (x : Group). slice_get x w ≡ Some want) same read in
        let may = (subst (CleanPlaces fixed) placed clean).0 in
        let low = start_below want s may in
        let over = tops_over group w want read2 in
        rows_has 0 (length group) (tops group) w s (omega arith) (let b = slice_get_within group w want read2 in omega arith) (omega arith)

-- Each coordinate leaves less to spell -------------------------------------------------------------------

wide : Reqs → ℕ
wide [] = 0
wide (list ∷ lists) = length list + wide lists

weight : List Reqs → ℕ
weight [] = 0
weight (reqs ∷ movers) = suc (wide reqs + weight movers)

pub size : Point → ℕ
size at = length at.groups + weight at.movers

wide_over : (lists : Reqs) (i : ℕ) (list : AltList) → slice_get lists i ≡ Some list → length list ≤ wide lists
unfolding wide
wide_over [] i list h = absurd (cc)
wide_over (x ∷ lists) zero list h = let same : x ≡ list = cc in let e = ap (λ (z : AltList). length z) same in omega arith
wide_over (x ∷ lists) (suc i) list h = let more = wide_over lists i list h in omega arith

chosen_less : (placed : List Place) (movers : List Reqs) (i : ℕ) (to : Point) → choose placed movers i ≡ Some to → length to.groups + weight to.movers < weight movers
unfolding weight
chosen_less placed [] i to h = absurd (cc)
chosen_less placed ([] ∷ movers) i to h = let more = chosen_less placed movers i to h in omega arith
chosen_less placed ((list ∷ lists) ∷ movers) i to h =
    let read = listed_read placed movers (slice_get (list ∷ lists) i) to h in
    let wide_enough = wide_over (list ∷ lists) i read.0 read.1 in
    let g = ap (λ (z : Point). length z.groups + weight z.movers) read.2 in
    omega arith

pub child_less : (fixed : List Res) (at : Point) (c : Coord) (child : Child fixed at c) → size child.0 < size at
unfolding size
child_less fixed at c (to, goes, clean) = by_step c goes (step_of at to c goes)
  where
    by_step : (c : Coord) → next at c ≡ Some to → Step at to c → length to.groups + weight to.movers < length at.groups + weight at.movers
    by_step (alt i) g (listing e placed up) =
        let g2 : choose at.placed at.movers i ≡ Some to = subst (λ (x : List Group). next_in at.placed x at.movers (alt i) ≡ Some to) e g in
        let less = chosen_less at.placed at.movers i to g2 in
        omega arith
    by_step (place w s) g (placing group want e m read placed) =
        let a = ap (λ (x : List Group). length x) e in
        let b = ap weight m in
        omega arith
