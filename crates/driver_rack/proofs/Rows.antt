-- Lemmas on the rows of a rack: what a change of one driver, or of one name, makes of them.
use Rattle.std.proofs.Common.{◌≡◌, ℕ, zero, suc, ◌+◌, ◌<◌, ◌≤◌, Bool, true, false, List, [], ◌∷◌, length, map, replicate, Option, Some, None, Result, Ok, Err, refl, ap, sym, ◌∙◌, arith, get_or, slice_get, slice_set, position, is_none, ◌&&◌}
use Rattle.std.specs.List.{position_or_len}
use Rattle.std.proofs.lemmas.Grind.{common_steps}
use Rattle.std.proofs.lemmas.Bool.Decides.{nat_tests}
use Rattle.std.proofs.lemmas.Option.{slice_get-get_or}
use Rattle.pnp_labels.specs.Texts.{Text}
use Rattle.pnp_labels.specs.declared.event.Rule.{Rule}
use Rattle.pnp_labels.specs.declared.words.AskWhat.{AskWhat}
use Rattle.pnp_labels.specs.declared.words.Answer.{Answer}
use Rattle.pnp_labels.specs.declared.words.DriverKind.{DriverKind}
use Rattle.pnp_model.specs.Records.{Driver}
use Rattle.pnp_model.specs.Books.{is_named, is_unnamed, name_is, with_name, reply, later}
use Rattle.pnp_model.specs.Tests.{same_kind}
use Rattle.pnp_model.specs.Keyed.{changed_first}
use Rattle.pnp_model.proofs.Keyed.{changed_first_at}
use Rattle.driver_rack.specs.Naming.{name_there}
use Rattle.driver_rack.specs.Teaching.{Learns}
use Rattle.driver_rack.specs.Rows.{rows_of, unnamed, Asked, Taught, TaughtOne, name_in, passes}
use Rattle.driver_rack.specs.declared.errors.TeachError.{TeachError}
use Rattle.driver_rack.specs.declared.errors.TeachError.TheVariants.{NotTeachable, BookFull}

-- what a search from the front knows after one more that fails, at one that passes, and at the end
not_yet : {A : Type 0} (test : A → Bool) (xs : List A) (i : ℕ) → i < length xs → passes test (slice_get xs i) ≡ false → i ≤ position_or_len test xs → i + 1 ≤ position_or_len test xs
not_yet test [] i within fails far = absurd (omega arith)
not_yet test (y ∷ ys) zero within fails far = grind (arith, common_steps)
not_yet test (y ∷ ys) (suc i) within fails far = grind (arith, common_steps, not_yet test ys i)

found_now : {A : Type 0} (test : A → Bool) (xs : List A) (i : ℕ) → i < length xs → passes test (slice_get xs i) ≡ true → i ≤ position_or_len test xs → position test xs ≡ Some i
found_now test [] i within holds far = absurd (omega arith)
found_now test (y ∷ ys) zero within holds far = grind (arith, common_steps)
found_now test (y ∷ ys) (suc i) within holds far = grind (arith, common_steps, nat_tests, found_now test ys i)

never_found : {A : Type 0} (test : A → Bool) (xs : List A) → length xs ≤ position_or_len test xs → position test xs ≡ None
never_found test xs far = grind (arith, nat_tests)

none_past : {A : Type 0} (xs : List A) (i : ℕ) → length xs ≡ 0 → slice_get xs i ≡ None
none_past [] i e = refl
none_past (x ∷ xs) i e = absurd (omega arith)

module _ {D : Type 0} (kind_of : D → DriverKind) (book : D → List Rule) where
  pub length-rows : (names : List (Option Text)) (drivers : List D) → length names ≡ length drivers → length (rows_of kind_of book names drivers) ≡ length drivers
  length-rows [] [] e = refl
  length-rows [] (d ∷ ds) e = absurd (omega arith)
  length-rows (n ∷ ns) [] e = absurd (omega arith)
  length-rows (n ∷ ns) (d ∷ ds) e = grind (arith, common_steps, length-rows ns ds)

  free_row : (kind : DriverKind) (names : List (Option Text)) (drivers : List D) (at : ℕ) (d : D) → length names ≡ length drivers → slice_get drivers at ≡ Some d
      → passes (is_unnamed kind) (slice_get (rows_of kind_of book names drivers) at) ≡ (same_kind (kind_of d) kind && is_none (name_there (slice_get names at)))
  free_row kind [] ds at d e was = absurd (let bad : slice_get ds at ≡ None = none_past ds at (omega arith) in cc)
  free_row kind (n ∷ ns) [] at d e was = absurd (omega arith)
  free_row kind (n ∷ ns) (x ∷ ds) zero d e was =
      let same : x ≡ d = cc in
      ap (λ (v : D). same_kind (kind_of v) kind && is_none n) same
  free_row kind (n ∷ ns) (x ∷ ds) (suc at) d e was = free_row kind ns ds at d (omega arith) was

  unnamed_rows : (drivers : List D) → rows_of kind_of book (replicate (length drivers) None) drivers ≡ map (λ d. unnamed (kind_of d) (book d)) drivers
  unnamed_rows [] = refl
  unnamed_rows (d ∷ ds) = ap (λ (rest : List Driver). unnamed (kind_of d) (book d) ∷ rest) (unnamed_rows ds)

  pub rows_unnamed : (names : List (Option Text)) (drivers : List D) (n : ℕ) → names ≡ replicate n None → n ≡ length drivers
      → rows_of kind_of book names drivers ≡ map (λ d. unnamed (kind_of d) (book d)) drivers
  rows_unnamed names drivers n all as_many = rw (all, as_many) (unnamed_rows drivers)

  -- the driver of a name is the one whose name it is
  named_from : (name : Text) (names : List (Option Text)) (drivers : List D) → length names ≡ length drivers → position_or_len (is_named name) (rows_of kind_of book names drivers) ≡ position_or_len (name_is name) names
  named_from name [] [] e = refl
  named_from name [] (d ∷ ds) e = absurd (omega arith)
  named_from name (n ∷ ns) [] e = absurd (omega arith)
  named_from name (n ∷ ns) (d ∷ ds) e = grind (arith, common_steps, named_from name ns ds)

  pub named : (name : Text) (names : List (Option Text)) (drivers : List D) → length names ≡ length drivers → position (is_named name) (rows_of kind_of book names drivers) ≡ position (name_is name) names
  named name names drivers e = rw (named_from name names drivers e, length-rows names drivers e, sym e) refl

  pub name_at : (names : List (Option Text)) (drivers : List D) (at : ℕ) → length names ≡ length drivers → name_in (rows_of kind_of book names drivers) at ≡ name_there (slice_get names at)
  name_at [] [] at e = refl
  name_at [] (d ∷ ds) at e = absurd (omega arith)
  name_at (n ∷ ns) [] at e = absurd (omega arith)
  name_at (n ∷ ns) (d ∷ ds) zero e = refl
  name_at (n ∷ ns) (d ∷ ds) (suc at) e = name_at ns ds at (omega arith)

  -- one driver is changed, and keeps its kind
  pub changed : (names : List (Option Text)) (drivers : List D) (at : ℕ) (x y : D) → length names ≡ length drivers → slice_get drivers at ≡ Some x → kind_of y ≡ kind_of x
      → (row : Driver) × (slice_get (rows_of kind_of book names drivers) at ≡ Some row) × (row.kind ≡ kind_of x) × (row.book ≡ book x)
      × (rows_of kind_of book names (slice_set drivers at y) ≡ slice_set (rows_of kind_of book names drivers) at (record row { book = book y }))
  changed [] [] at x y e was k = absurd (let bad : None ≡ Some x = was in cc)
  changed [] (d ∷ ds) at x y e was k = absurd (omega arith)
  changed (n ∷ ns) [] at x y e was k = absurd (omega arith)
  changed (n ∷ ns) (d ∷ ds) zero x y e was k =
      let same : d ≡ x = cc in
      (record { kind = kind_of x; name = n; book = book x }, ap (λ (v : D). Some (record { kind = kind_of v; name = n; book = book v })) same, refl, refl, cc)
  changed (n ∷ ns) (d ∷ ds) (suc at) x y e was k =
      let below = changed ns ds at x y (omega arith) was k in
      (below.0, below.1, below.2, below.3, ap (λ (rest : List Driver). (record { kind = kind_of d; name = n; book = book d }) ∷ rest) below.4)

  pub asked : (names : List (Option Text)) (drivers : List D) (at : ℕ) (x y : D) (what : AskWhat) (path : Text) (answer : Answer)
      → length names ≡ length drivers → slice_get drivers at ≡ Some x
      → answer ≡ reply what path (book x) → book y ≡ later what path (book x) → kind_of y ≡ kind_of x
      → Asked at what path answer (rows_of kind_of book names drivers) (rows_of kind_of book names (slice_set drivers at y))
  asked names drivers at x y what path answer e was r l k =
      let h = changed names drivers at x y e was k in
      record { driver = h.0; was = h.1; reply = rw h.3 r; later = rw (h.3, ← l) h.4 }

  kept : (rows : List Driver) (at : ℕ) (row : Driver) (books : List Rule) → slice_get rows at ≡ Some row → books ≡ row.book → slice_set rows at (record row { book = books }) ≡ rows
  kept [] at row books was same = refl
  kept (r ∷ rs) zero row books was same =
      let is_row : row ≡ r = cc in
      ap (λ (b : List Rule). (record row { book = b }) ∷ rs) same ∙ ap (λ (one : Driver). one ∷ rs) is_row
  kept (r ∷ rs) (suc at) row books was same = ap (λ (rest : List Driver). r ∷ rest) (kept rs at row books was same)

  taught_one : (rule : Rule) (result : Result (Unit {0}) TeachError) (row : Driver) (at : ℕ) (books : List Rule) (rows new : List Driver)
      → slice_get rows at ≡ Some row → Learns result rule row.kind row.book books → new ≡ slice_set rows at (record row { book = books }) → TaughtOne row at rule result rows new
  taught_one rule (Ok done) row at books rows new was h e = (h.0, h.1, rw (← h.2) e)
  taught_one rule (Err NotTeachable) row at books rows new was h e = (h.0, e ∙ kept rows at row books was h.1)
  taught_one rule (Err BookFull) row at books rows new was h e = (h.0, h.1, e ∙ kept rows at row books was h.2)

  pub taught : (names : List (Option Text)) (drivers : List D) (at : ℕ) (x y : D) (rule : Rule) (result : Result (Unit {0}) TeachError)
      → length names ≡ length drivers → slice_get drivers at ≡ Some x → Learns result rule (kind_of x) (book x) (book y) → kind_of y ≡ kind_of x
      → Taught at rule result (rows_of kind_of book names drivers) (rows_of kind_of book names (slice_set drivers at y))
  taught names drivers at x y rule result e was l k =
      let h = changed names drivers at x y e was k in
      record { driver = h.0; was = h.1; taught = taught_one rule result h.0 at (book y) (rows_of kind_of book names drivers) _ h.1 (rw (h.2, h.3) l) h.4 }

  -- the first driver of a kind without a name has no name, and may get one
  free_at_len : (kind : DriverKind) (names : List (Option Text)) (drivers : List D) → length names ≡ length drivers
      → position_or_len (is_unnamed kind) (rows_of kind_of book names drivers) < length drivers → slice_get names (position_or_len (is_unnamed kind) (rows_of kind_of book names drivers)) ≡ Some None
  free_at_len kind [] [] e within = absurd (omega arith)
  free_at_len kind [] (d ∷ ds) e within = absurd (omega arith)
  free_at_len kind (n ∷ ns) [] e within = absurd (omega arith)
  free_at_len kind (None ∷ ns) (d ∷ ds) e within = grind (arith, common_steps, free_at_len kind ns ds)
  free_at_len kind (Some n ∷ ns) (d ∷ ds) e within = grind (arith, common_steps, free_at_len kind ns ds)

  pub free_at : (kind : DriverKind) (names : List (Option Text)) (drivers : List D) (at : ℕ) → length names ≡ length drivers
      → position (is_unnamed kind) (rows_of kind_of book names drivers) ≡ Some at → slice_get names at ≡ Some None
  free_at kind names drivers at e h = grind (arith, nat_tests, free_at_len kind names drivers, length-rows names drivers e)

  renamed_rows : (name : Text) (names : List (Option Text)) (drivers : List D) (at : ℕ) (row : Driver) → slice_get (rows_of kind_of book names drivers) at ≡ Some row
      → rows_of kind_of book (slice_set names at (Some name)) drivers ≡ slice_set (rows_of kind_of book names drivers) at (with_name name row)
  renamed_rows name [] ds at row was = absurd (let bad : None ≡ Some row = was in cc)
  renamed_rows name (n ∷ ns) [] at row was = absurd (let bad : None ≡ Some row = was in cc)
  renamed_rows name (n ∷ ns) (d ∷ ds) zero row was = cc
  renamed_rows name (n ∷ ns) (d ∷ ds) (suc at) row was = ap (λ (rest : List Driver). (record { kind = kind_of d; name = n; book = book d }) ∷ rest) (renamed_rows name ns ds at row was)

  pub within_rows : (names : List (Option Text)) (drivers : List D) (at : ℕ) → length names ≡ length drivers → at < length (rows_of kind_of book names drivers) → at < length drivers
  within_rows names drivers at e h = rw (length-rows names drivers e) at h

  pub rows_within : (names : List (Option Text)) (drivers : List D) (at : ℕ) → length names ≡ length drivers → at < length drivers → at < length (rows_of kind_of book names drivers)
  rows_within names drivers at e h = rw (length-rows names drivers e) h

  pub as_long : (names : List (Option Text)) (drivers : List D) (n : ℕ) → length names ≡ length drivers → n ≡ length drivers → n ≡ length (rows_of kind_of book names drivers)
  as_long names drivers n e h = h ∙ sym (length-rows names drivers e)

  pub found_in : (kind : DriverKind) (names : List (Option Text)) (drivers lent : List D) (found : Option ℕ) → lent ≡ drivers
      → found ≡ position (is_unnamed kind) (rows_of kind_of book names lent) → position (is_unnamed kind) (rows_of kind_of book names drivers) ≡ found
  found_in kind names drivers lent found same e = rw (← same) (sym e)

  -- what naming a driver makes of the rows
  pub renamed : (kind : DriverKind) (name : Text) (names new : List (Option Text)) (drivers : List D) (at : ℕ)
      → position (is_unnamed kind) (rows_of kind_of book names drivers) ≡ Some at → new ≡ slice_set names at (Some name)
      → rows_of kind_of book new drivers ≡ changed_first (is_unnamed kind) (with_name name) (rows_of kind_of book names drivers)
  renamed kind name names new drivers at found is =
      let rows = rows_of kind_of book names drivers in
      let d = unnamed kind [] in
      let within : at < length rows = grind (arith, nat_tests) in
      ap (λ (n : List (Option Text)). rows_of kind_of book n drivers) is
      ∙ renamed_rows name names drivers at (get_or rows at d) (slice_get-get_or rows at d within) ∙ changed_first_at (is_unnamed kind) (with_name name) rows at _ d found refl

  -- what a search for an unnamed driver of the kind finds at one place, after it has found none before
  module _ (kind : DriverKind) (names : List (Option Text)) (drivers : List D) (at : ℕ) (d : D) (as_many : length names ≡ length drivers) (was : slice_get drivers at ≡ Some d)
      (own : DriverKind) (own_is : own ≡ kind_of d) (name : Option Text) (name_is : name ≡ name_there (slice_get names at)) (result : Bool) (result_is : result ≡ (same_kind own kind && is_none name)) where
    tested : passes (is_unnamed kind) (slice_get (rows_of kind_of book names drivers) at) ≡ result
    tested = free_row kind names drivers at d as_many was ∙ sym (result_is ∙ ap (λ (k : DriverKind). same_kind k kind && is_none name) own_is ∙ ap (λ (n : Option Text). same_kind (kind_of d) kind && is_none n) name_is)

    pub goes_on : at < length drivers → result ≡ false → at ≤ position_or_len (is_unnamed kind) (rows_of kind_of book names drivers)
        → at + 1 ≤ position_or_len (is_unnamed kind) (rows_of kind_of book names drivers)
    goes_on within fails far = not_yet (is_unnamed kind) (rows_of kind_of book names drivers) at (rows_within names drivers at as_many within) (tested ∙ fails) far

    pub stops : at < length drivers → result ≡ true → at ≤ position_or_len (is_unnamed kind) (rows_of kind_of book names drivers)
        → Some at ≡ position (is_unnamed kind) (rows_of kind_of book names drivers)
    stops within holds far = sym (found_now (is_unnamed kind) (rows_of kind_of book names drivers) at (rows_within names drivers at as_many within) (tested ∙ holds) far)

  pub none_found : (kind : DriverKind) (names : List (Option Text)) (drivers : List D) (at : ℕ) → length names ≡ length drivers → length drivers ≤ at
      → at ≤ position_or_len (is_unnamed kind) (rows_of kind_of book names drivers) → None ≡ position (is_unnamed kind) (rows_of kind_of book names drivers)
  none_found kind names drivers at e past far = sym (never_found (is_unnamed kind) (rows_of kind_of book names drivers) (omega (arith, length-rows names drivers e)))
