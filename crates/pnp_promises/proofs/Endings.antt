-- The end of the output tells what is.
use Rattle.std.proofs.Common.{ℕ, ◌<◌, ◌≡◌, ◌⊎◌, ◌==◌, ◌&&◌, ◌||◌, inl, inr, Bool, true, false, cond, List, [], ◌∷◌, ◌++◌, length, nat_lt, Option, Some, None, Contains, refl, sym, ap, subst, ◌∙◌, arith, map}
use Rattle.std.proofs.lemmas.Bool.Decides.{nat_tests}
use Rattle.std.proofs.lemmas.List.Elements.{Contains-append_cases, Contains-append_left, Contains-append_right}
use Rattle.std.specs.Prelude.{codes}
use Rattle.std.specs.List.{slice_get}
use Rattle.resource_reqs.specs.Resources.{Res}
use Rattle.resource_reqs.specs.declared.kind.Kind.{Kind}
use Rattle.resource_reqs.specs.declared.kind.Kind.TheVariants.{Port, Irq, Mem, Dma, Bus}
use Rattle.resource_reqs.proofs.Counts.{contains_cons, contains_nil}
use Rattle.pnp_model.specs.Endings.{Held, Outstanding, activity_rows, at_row, comes_before, ending, handle_line, handles_part, map_line, map_rows, node_rows, operation_rows, outstanding, outstanding_line, print_order, reserved_rows, row_before, row_numbers, serial_before, tree_line, unit_number, waiting_row, walk_row}
use Rattle.pnp_model.specs.Keyed.{in_order, put_before}
use Rattle.pnp_model.specs.Machine.{phase_walk}
use Rattle.pnp_model.specs.Records.{Activity, Core, Handle, Job, Node, State, Walk}
use Rattle.pnp_laws.proofs.Decides.{contains_here, contains_later}
use Rattle.pnp_promises.specs.Endings.{AtOrBefore, EndTellsWhatIsLaw, IsOutstanding, IsRow, Rises, place_of_kind, place_of_request, place_of_row}

-- Lists in order ---------------------------------------------------------------------------------------

module _ {A : Type 0} (less : A → A → Bool) where
  put_has : (t : A → Bool) (x : A) (xs : List A) (y : A) → Contains (put_before t x xs) y → (y ≡ x) ⊎ Contains xs y
  put_has t x [] y h = elim (contains_cons x [] y h) [ inl e ↦ inl e | inr none ↦ absurd (contains_nil y none) ]
  put_has t x (z ∷ zs) y h = by_b (t z) h (put_has t x zs y)
    where
      by_b : (b : Bool) → Contains (cond b (x ∷ z ∷ zs) (z ∷ put_before t x zs)) y → (Contains (put_before t x zs) y → (y ≡ x) ⊎ Contains zs y) → (y ≡ x) ⊎ Contains (z ∷ zs) y
      by_b true h more = contains_cons x (z ∷ zs) y h
      by_b false h more =
          elim (contains_cons z (put_before t x zs) y h) [
            | inl e ↦ inr (subst (λ u. Contains (z ∷ zs) u) (sym e) (contains_here z zs))
            | inr q ↦ elim (more q) [ inl e ↦ inl e | inr r ↦ inr (contains_later z zs y r) ]
          ]

  put_new : (t : A → Bool) (x : A) (xs : List A) → Contains (put_before t x xs) x
  put_new t x [] = contains_here x []
  put_new t x (z ∷ zs) = by_b (t z) (put_new t x zs)
    where
      by_b : (b : Bool) → Contains (put_before t x zs) x → Contains (cond b (x ∷ z ∷ zs) (z ∷ put_before t x zs)) x
      by_b true more = contains_here x (z ∷ zs)
      by_b false more = contains_later z (put_before t x zs) x more

  put_old : (t : A → Bool) (x : A) (xs : List A) (y : A) → Contains xs y → Contains (put_before t x xs) y
  put_old t x [] y h = absurd (contains_nil y h)
  put_old t x (z ∷ zs) y h = by_b (t z) (contains_cons z zs y h) (put_old t x zs y)
    where
      by_b : (b : Bool) → (y ≡ z) ⊎ Contains zs y → (Contains zs y → Contains (put_before t x zs) y) → Contains (cond b (x ∷ z ∷ zs) (z ∷ put_before t x zs)) y
      by_b true (inl e) more = contains_later x (z ∷ zs) y (subst (λ u. Contains (z ∷ zs) u) (sym e) (contains_here z zs))
      by_b true (inr q) more = contains_later x (z ∷ zs) y (contains_later z zs y q)
      by_b false (inl e) more = subst (λ u. Contains (z ∷ put_before t x zs) u) (sym e) (contains_here z (put_before t x zs))
      by_b false (inr q) more = contains_later z (put_before t x zs) y (more q)

  order_from : (xs : List A) (y : A) → Contains (in_order less xs) y → Contains xs y
  order_from [] y h = h
  order_from (x ∷ xs) y h =
      elim (put_has (less x) x (in_order less xs) y h) [
        | inl e ↦ subst (λ u. Contains (x ∷ xs) u) (sym e) (contains_here x xs)
        | inr q ↦ contains_later x xs y (order_from xs y q)
      ]

  order_to : (xs : List A) (y : A) → Contains xs y → Contains (in_order less xs) y
  order_to [] y h = h
  order_to (x ∷ xs) y h =
      elim (contains_cons x xs y h) [
        | inl e ↦ subst (λ u. Contains (put_before (less x) x (in_order less xs)) u) (sym e) (put_new (less x) x (in_order less xs))
        | inr q ↦ put_old (less x) x (in_order less xs) y (order_to xs y q)
      ]

  module _ (key : A → List ℕ) (up : (x y : A) → less x y ≡ true → AtOrBefore (key x) (key y)) (down : (x y : A) → less x y ≡ false → AtOrBefore (key y) (key x)) where
    put_rises : (x z : A) (zs : List A) → Rises key (z ∷ zs) → AtOrBefore (key z) (key x) → Rises key (z ∷ put_before (less x) x zs)
    put_rises x z [] rises over = (over, tt)
    put_rises x z (y ∷ ys) rises over = by_b (less x y) refl (λ d. put_rises x y ys rises.1 d)
      where
        by_b : (b : Bool) → less x y ≡ b → (AtOrBefore (key y) (key x) → Rises key (y ∷ put_before (less x) x ys)) → Rises key (z ∷ cond b (x ∷ y ∷ ys) (y ∷ put_before (less x) x ys))
        by_b true e more = (over, (up x y e, rises.1))
        by_b false e more = (rises.0, more (down x y e))

    put_first : (x : A) (xs : List A) → Rises key xs → Rises key (put_before (less x) x xs)
    put_first x [] rises = tt
    put_first x (y ∷ ys) rises = by_b (less x y) refl
      where
        by_b : (b : Bool) → less x y ≡ b → Rises key (cond b (x ∷ y ∷ ys) (y ∷ put_before (less x) x ys))
        by_b true e = (up x y e, rises)
        by_b false e = put_rises x y ys rises (down x y e)

    order_rises : (xs : List A) → Rises key (in_order less xs)
    order_rises [] = tt
    order_rises (x ∷ xs) = put_first x (in_order less xs) (order_rises xs)

-- Numbers ----------------------------------------------------------------------------------------------

before_up : (ms ns : List ℕ) → comes_before ms ns ≡ true → AtOrBefore ms ns
before_up [] ns h = tt
before_up (m ∷ ms) [] h = absurd (cc)
before_up (m ∷ ms) (n ∷ ns) h = by_b (nat_lt m n) refl h (before_up ms ns)
  where
    by_b : (b : Bool) → nat_lt m n ≡ b → (b || (m == n && comes_before ms ns)) ≡ true → (comes_before ms ns ≡ true → AtOrBefore ms ns) → (m < n) ⊎ ((m ≡ n) × AtOrBefore ms ns)
    by_b true e g more = inl (grind (arith, nat_tests))
    by_b false e g more = by_same (m == n) refl g
      where
        by_same : (c : Bool) → (m == n) ≡ c → (c && comes_before ms ns) ≡ true → (m < n) ⊎ ((m ≡ n) × AtOrBefore ms ns)
        by_same true q g = inr (grind (arith, nat_tests), more g)
        by_same false q g = absurd (cc)

before_down : (ms ns : List ℕ) → length ms ≡ length ns → comes_before ms ns ≡ false → AtOrBefore ns ms
before_down [] [] l h = tt
before_down [] (n ∷ ns) l h = absurd (omega arith)
before_down (m ∷ ms) [] l h = absurd (omega arith)
before_down (m ∷ ms) (n ∷ ns) l h = by_b (nat_lt m n) refl h (before_down ms ns (omega arith))
  where
    by_b : (b : Bool) → nat_lt m n ≡ b → (b || (m == n && comes_before ms ns)) ≡ false → (comes_before ms ns ≡ false → AtOrBefore ns ms) → (n < m) ⊎ ((n ≡ m) × AtOrBefore ns ms)
    by_b true e g more = absurd (cc)
    by_b false e g more = by_same (m == n) refl g
      where
        by_same : (c : Bool) → (m == n) ≡ c → (c && comes_before ms ns) ≡ false → (n < m) ⊎ ((n ≡ m) × AtOrBefore ns ms)
        by_same true q g = inr (grind (arith, nat_tests), more g)
        by_same false q g = inl (grind (arith, nat_tests))

kind_place : (kind : Kind) → unit_number kind ≡ place_of_kind kind
kind_place Port = refl
kind_place Irq = refl
kind_place Mem = refl
kind_place Dma = refl
kind_place Bus = refl

row_place : (h : Held) → row_numbers h ≡ place_of_row h
row_place h = ap (λ (k : ℕ). k ∷ h.res.lo ∷ h.res.hi ∷ h.owner ∷ []) (kind_place h.res.kind)

row_up : (x y : Held) → row_before x y ≡ true → AtOrBefore (place_of_row x) (place_of_row y)
row_up x y h = subst (λ (ns : List ℕ). AtOrBefore (place_of_row x) ns) (row_place y) (subst (λ (ms : List ℕ). AtOrBefore ms (row_numbers y)) (row_place x) (before_up (row_numbers x) (row_numbers y) h))

row_down : (x y : Held) → row_before x y ≡ false → AtOrBefore (place_of_row y) (place_of_row x)
row_down x y h = subst (λ (ns : List ℕ). AtOrBefore (place_of_row y) ns) (row_place x) (subst (λ (ms : List ℕ). AtOrBefore ms (row_numbers x)) (row_place y) (before_down (row_numbers x) (row_numbers y) refl h))

serial_up : (x y : Outstanding) → serial_before x y ≡ true → AtOrBefore (place_of_request x) (place_of_request y)
serial_up x y h = inl (grind (arith, nat_tests))

serial_down : (x y : Outstanding) → serial_before x y ≡ false → AtOrBefore (place_of_request y) (place_of_request x)
serial_down x y h = by_same (x.serial == y.serial) refl
  where
    by_same : (b : Bool) → (x.serial == y.serial) ≡ b → AtOrBefore (place_of_request y) (place_of_request x)
    by_same true e = inr (grind (arith, nat_tests), tt)
    by_same false e = inl (grind (arith, nat_tests))

-- Which rows there are -----------------------------------------------------------------------------------

map_from : {A B : Type 0} (f : A → B) (xs : List A) (y : B) → Contains (map f xs) y → (x : A) × Contains xs x × (y ≡ f x)
map_from f [] y h = absurd (contains_nil y h)
map_from f (x ∷ xs) y h =
    elim (contains_cons (f x) (map f xs) y h) [
      | inl e ↦ (x, contains_here x xs, e)
      | inr q ↦ let more = map_from f xs y q in (more.0, contains_later x xs more.0 more.1, more.2)
    ]

map_to : {A B : Type 0} (f : A → B) (xs : List A) (x : A) → Contains xs x → Contains (map f xs) (f x)
map_to f [] x h = absurd (contains_nil x h)
map_to f (y ∷ ys) x h =
    elim (contains_cons y ys x h) [
      | inl e ↦ subst (λ u. Contains (f y ∷ map f ys) (f u)) (sym e) (contains_here (f y) (map f ys))
      | inr q ↦ contains_later (f y) (map f ys) (f x) (map_to f ys x q)
    ]

abbrev held_row : Node → Res → Held
held_row n res = record { res = res; owner = n.serial; words = n.path }

held_from : (ns : List Node) (h : Held) → Contains (node_rows ns) h → (n : Node) × (res : Res) × Contains ns n × Contains n.holds res × (h ≡ held_row n res)
held_from [] h c = absurd (contains_nil h c)
held_from (n ∷ ns) h c =
    elim (Contains-append_cases (map (held_row n) n.holds) (node_rows ns) h c) [
      | inl own ↦ let from = map_from (held_row n) n.holds h own in (n, from.0, contains_here n ns, from.1, from.2)
      | inr later ↦ let more = held_from ns h later in (more.0, more.1, contains_later n ns more.0 more.2, more.3, more.4)
    ]

held_to : (ns : List Node) (n : Node) (res : Res) → Contains ns n → Contains n.holds res → Contains (node_rows ns) (held_row n res)
held_to [] n res c h = absurd (contains_nil n c)
held_to (m ∷ ms) n res c h =
    elim (contains_cons m ms n c) [
      | inl e ↦
          Contains-append_left (map (held_row m) m.holds) (node_rows ms) (held_row n res)
          (subst (λ (x : Node). Contains (map (held_row m) m.holds) (held_row x res)) (sym e) (map_to (held_row m) m.holds res (subst (λ (x : Node). Contains x.holds res) e h)))
      | inr q ↦ Contains-append_right (map (held_row m) m.holds) (node_rows ms) (held_row n res) (held_to ms n res q h)
    ]

abbrev reserved_row : Res → Held
reserved_row res = record { res = res; owner = 0; words = codes "reserved" }

row_from : (c : Core) (h : Held) → Contains (map_rows c) h → IsRow c h
row_from c h there =
    elim (Contains-append_cases (reserved_rows c.reserved) (node_rows c.nodes) h (order_from row_before (reserved_rows c.reserved ++ node_rows c.nodes) h there)) [
      | inl kept ↦ let from = map_from reserved_row c.reserved h kept in subst (λ (x : Held). IsRow c x) (sym from.2) (IsRow.reserved from.0 from.1)
      | inr own ↦ let from = held_from c.nodes h own in subst (λ (x : Held). IsRow c x) (sym from.4) (IsRow.held from.0 from.1 from.2 from.3)
    ]

row_to : (c : Core) (h : Held) → IsRow c h → Contains (map_rows c) h
row_to c _ (IsRow.reserved res there) =
    order_to row_before (reserved_rows c.reserved ++ node_rows c.nodes) (reserved_row res) (Contains-append_left (reserved_rows c.reserved) (node_rows c.nodes) (reserved_row res) (map_to reserved_row c.reserved res there))
row_to c _ (IsRow.held n res there own) =
    order_to row_before (reserved_rows c.reserved ++ node_rows c.nodes) (held_row n res) (Contains-append_right (reserved_rows c.reserved) (node_rows c.nodes) (held_row n res) (held_to c.nodes n res there own))

-- the requests

abbrev request_row : ℕ → Walk → Outstanding
request_row k w = record { serial = k; walk = w }

walk_from : (k : ℕ) (o : Option Walk) (row : Outstanding) → Contains (walk_row k o) row → (w : Walk) × (o ≡ Some w) × (w.waits ≡ true) × (row ≡ record { serial = k; walk = w })
walk_from k None row h = absurd (contains_nil row h)
walk_from k (Some w) row h = by_b w.waits refl h
  where
    by_b : (b : Bool) → w.waits ≡ b → Contains (waiting_row k w b) row → (v : Walk) × (Some w ≡ Some v) × (v.waits ≡ true) × (row ≡ record { serial = k; walk = v })
    by_b true e g = (w, refl, e, elim (contains_cons (record { serial = k; walk = w }) [] row g) [ inl is ↦ is | inr none ↦ absurd (contains_nil row none) ])
    by_b false e g = absurd (contains_nil row g)

walk_to : (k : ℕ) (o : Option Walk) (w : Walk) → o ≡ Some w → w.waits ≡ true → Contains (walk_row k o) (record { serial = k; walk = w })
walk_to k None w e waits = absurd (cc)
walk_to k (Some v) w e waits =
    let same : v ≡ w = cc in
    subst (λ (x : Walk). Contains (walk_row k (Some v)) (record { serial = k; walk = x })) same
    (subst (λ (b : Bool). Contains (waiting_row k v b) (record { serial = k; walk = v })) (sym (ap (λ (x : Walk). x.waits) same ∙ waits)) (contains_here (record { serial = k; walk = v }) []))

activity_from : (acts : List Activity) (row : Outstanding) → Contains (activity_rows acts) row → (a : Activity) × (w : Walk) × Contains acts a × (phase_walk a.phase ≡ Some w) × (w.waits ≡ true) × (row ≡ record { serial = a.serial; walk = w })
activity_from [] row h = absurd (contains_nil row h)
activity_from (a ∷ acts) row h =
    elim (Contains-append_cases (walk_row a.serial (phase_walk a.phase)) (activity_rows acts) row h) [
      | inl own ↦ let from = walk_from a.serial (phase_walk a.phase) row own in (a, from.0, contains_here a acts, from.1, from.2, from.3)
      | inr later ↦ let more = activity_from acts row later in (more.0, more.1, contains_later a acts more.0 more.2, more.3, more.4, more.5)
    ]

activity_to : (acts : List Activity) (a : Activity) (w : Walk) → Contains acts a → phase_walk a.phase ≡ Some w → w.waits ≡ true → Contains (activity_rows acts) (record { serial = a.serial; walk = w })
activity_to [] a w c walk waits = absurd (contains_nil a c)
activity_to (b ∷ bs) a w c walk waits =
    elim (contains_cons b bs a c) [
      | inl e ↦
          subst (λ (x : Activity). Contains (activity_rows (b ∷ bs)) (record { serial = x.serial; walk = w })) (sym e)
          (Contains-append_left (walk_row b.serial (phase_walk b.phase)) (activity_rows bs) (record { serial = b.serial; walk = w })
          (walk_to b.serial (phase_walk b.phase) w (subst (λ (x : Activity). phase_walk x.phase ≡ Some w) e walk) waits))
      | inr q ↦ Contains-append_right (walk_row b.serial (phase_walk b.phase)) (activity_rows bs) (record { serial = a.serial; walk = w }) (activity_to bs a w q walk waits)
    ]

module _ (s : State) where
  operation_from : (o : Option Job) (row : Outstanding) → s.operation ≡ o → Contains (operation_rows o) row → IsOutstanding s row
  operation_from None row runs h = absurd (contains_nil row h)
  operation_from (Some j) row runs h = by_first (slice_get j.todo 0) refl h
    where
      by_first : (k : Option ℕ) → slice_get j.todo 0 ≡ k → Contains (at_row j.walk k) row → IsOutstanding s row
      by_first None e g = absurd (contains_nil row g)
      by_first (Some k) e g = let from = walk_from k j.walk row g in subst (λ (x : Outstanding). IsOutstanding s x) (sym from.3) (IsOutstanding.operates j k from.0 runs e from.1 from.2)

  request_from : (row : Outstanding) → Contains (outstanding s) row → IsOutstanding s row
  request_from row there =
      elim (Contains-append_cases (operation_rows s.operation) (activity_rows s.activities) row (order_from serial_before (operation_rows s.operation ++ activity_rows s.activities) row there)) [
        | inl op ↦ operation_from s.operation row refl op
        | inr act ↦ let from = activity_from s.activities row act in subst (λ (x : Outstanding). IsOutstanding s x) (sym from.5) (IsOutstanding.starts from.0 from.1 from.2 from.3 from.4)
      ]

  operation_to : (o : Option Job) (j : Job) (k : ℕ) (w : Walk) → o ≡ Some j → slice_get j.todo 0 ≡ Some k → j.walk ≡ Some w → w.waits ≡ true → Contains (operation_rows o) (record { serial = k; walk = w })
  operation_to None j k w e first walk waits = absurd (cc)
  operation_to (Some i) j k w e first walk waits =
      let same : i ≡ j = cc in
      subst (λ (x : Option ℕ). Contains (at_row i.walk x) (record { serial = k; walk = w })) (sym (ap (λ (x : Job). slice_get x.todo 0) same ∙ first)) (walk_to k i.walk w (ap (λ (x : Job). x.walk) same ∙ walk) waits)

  request_to : (row : Outstanding) → IsOutstanding s row → Contains (outstanding s) row
  request_to _ (IsOutstanding.operates o k w runs first walk waits) =
      order_to serial_before (operation_rows s.operation ++ activity_rows s.activities) (request_row k w) (Contains-append_left (operation_rows s.operation) (activity_rows s.activities) (request_row k w) (operation_to s.operation o k w runs first walk waits))
  request_to _ (IsOutstanding.starts a w there walk waits) =
      order_to serial_before (operation_rows s.operation ++ activity_rows s.activities) (request_row a.serial w) (Contains-append_right (operation_rows s.operation) (activity_rows s.activities) (request_row a.serial w) (activity_to s.activities a w there walk waits))

  -- What is written

  map_written : (h : Held) → Contains (map_rows s.core) h → Contains (ending s) (map_line h)
  map_written h there =
      contains_later (codes "tree") _ (map_line h)
      (Contains-append_right (map tree_line (print_order s.core.nodes)) _ (map_line h)
      (contains_later (codes "map") _ (map_line h)
      (Contains-append_left (map map_line (map_rows s.core)) _ (map_line h) (map_to map_line (map_rows s.core) h there))))

  part_has : (hs : List Handle) (h : Handle) → Contains hs h → Contains (handles_part s.core hs) (handle_line s.core h)
  part_has [] h there = absurd (contains_nil h there)
  part_has (x ∷ xs) h there = contains_later (codes "handles") (map (handle_line s.core) (x ∷ xs)) (handle_line s.core h) (map_to (handle_line s.core) (x ∷ xs) h there)

  handles_written : (h : Handle) → Contains s.handles h → Contains (ending s) (handle_line s.core h)
  handles_written h there =
      contains_later (codes "tree") _ (handle_line s.core h)
      (Contains-append_right (map tree_line (print_order s.core.nodes)) _ (handle_line s.core h)
      (contains_later (codes "map") _ (handle_line s.core h)
      (Contains-append_right (map map_line (map_rows s.core)) _ (handle_line s.core h)
      (contains_later (codes "outstanding") _ (handle_line s.core h)
      (Contains-append_right (map (outstanding_line s.core) (outstanding s)) (handles_part s.core s.handles) (handle_line s.core h) (part_has s.handles h there))))))

pub end_tells_what_is : EndTellsWhatIsLaw
end_tells_what_is settings rack entries s run =
    record {
      map_rows_are = λ h. (row_from s.core h, row_to s.core h);
      map_rises = order_rises row_before place_of_row row_up row_down (reserved_rows s.core.reserved ++ node_rows s.core.nodes);
      requests_are = λ row. (request_from s row, request_to s row);
      requests_rise = order_rises serial_before place_of_request serial_up serial_down (operation_rows s.operation ++ activity_rows s.activities);
      map_is_written = map_written s;
      handles_are_written = handles_written s;
    }
