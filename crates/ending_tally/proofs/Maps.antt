-- The endings that a tally keeps, as the map that it tells.
use Rattle.std.proofs.Common.{◌≡◌, ℕ, Bool, true, false, cond, ◌&&◌, List, [], ◌∷◌, map, refl, sym, ap, subst, ◌∙◌, ⊎_elim, Option, Some, None, T}
use Rattle.std.specs.List.{AllByRecursion}
use Rattle.std.specs.List.Sorted.{IsStrictlySortedBy}
use Rattle.std.specs.Option.{option_map, IfSome}
use Rattle.std.specs.Ordering.{is_eq, is_lt, nat_cmp, eq_by_cmp}
use Rattle.std.specs.declared.cmp.Ordering.{Ordering}
use Rattle.std.specs.declared.cmp.Ordering.TheVariants.{Less, Equal, Greater}
use Rattle.std.specs.Cmp.{eq_by_cmp_equiv}
use Rattle.std.specs.Cmp.Lexicographic.{slice_cmp, bytes_decides, nat_list_cmp_total, nat_list_eq_equiv}
use Rattle.std.specs.Str.{bytes_eq}
use Rattle.std.specs.declared.vec.Vec.{Vec}
use Rattle.std.specs.declared.alloc.Global.{Global}
use Rattle.std.specs.BTreeMap.{BTreeMap, UpdatesBy, get_by, is_at}
use Rattle.std.specs.Map.{lookup, keys_of, IsKeyTest, AreApart, KeepsOthers}
use Rattle.std.specs.FinMap.Entries.{below_all}
use Rattle.std.specs.FinMap.{FinMap, get, find, insert, from_entries, is_sorted, get-insert, get-from_entries, same_map, entries, from_sorted, get-from_sorted, entries-from_sorted, nat_cmp-IsAntisymmetric, slice_cmp-IsAntisymmetric}
use Rattle.std.proofs.lemmas.Bool.{cases_Bool, cond-true, cond-false}
use Rattle.std.proofs.lemmas.Map.Text.{is_eq-slice_cmp}
use Rattle.ending_tally.specs.declared.tally.Mark.{Mark}
use Rattle.ending_tally.specs.declared.tally.Ending.{Ending}
use Rattle.ending_tally.specs.Tallies.{Ended}
use Rattle.ending_tally.specs.Steps.{ended, entry_of, with_ended, with_kind, with_all}
use Rattle.ending_tally.proofs.Marks.{joined}

abbrev pub Kept : Type 0
Kept = BTreeMap (Vec ℕ Global) Ending

-- what the map has under the bytes of a kind
abbrev pub by_kind : Kept → List ℕ → Option Ending
by_kind map kind = get_by (λ k. slice_cmp nat_cmp kind k.items) map

abbrev pub endings_of : Kept → FinMap (slice_cmp nat_cmp) Ended
endings_of m = from_entries (map entry_of m.entries)

-- ---- changes of the map, at any bytes

apart : (bs cs ks : List ℕ) → bytes_eq bs cs ≡ false → bytes_eq bs ks ≡ true → bytes_eq cs ks ≡ false
apart bs cs ks n y = nat_list_eq_equiv.symm cs ks ∙ sym (nat_list_eq_equiv.congr bs ks cs y) ∙ n

apart_in_order : (bs cs ks : List ℕ) → bytes_eq bs cs ≡ false → is_eq (slice_cmp nat_cmp bs ks) ≡ true → is_eq (slice_cmp nat_cmp cs ks) ≡ false
apart_in_order bs cs ks n y = is_eq-slice_cmp cs ks ∙ apart bs cs ks n (sym (is_eq-slice_cmp bs ks) ∙ y)

other_entries : {K X : Type 0} (eq : K → K → Bool) (test : K → Bool) (old new : List (K × X)) → KeepsOthers eq test old new → (other : K → Bool) → IsKeyTest eq other → AreApart test other → lookup other new ≡ lookup other old
unfolding KeepsOthers
other_entries eq test old new h = h

by_bytes : {W : Type 0} (f g : List ℕ → W) (bs : List ℕ) (w : W) → g bs ≡ w → ((cs : List ℕ) → bytes_eq bs cs ≡ false → g cs ≡ f cs) → (cs : List ℕ) → g cs ≡ cond (bytes_eq bs cs) w (f cs)
by_bytes f g bs w here other cs =
    ⊎_elim
    (λ y. subst (λ l. g l ≡ w) ((bytes_decides bs cs).0 y) here ∙ sym (cond-true (bytes_eq bs cs) w (f cs) y))
    (λ n. other cs n ∙ sym (cond-false (bytes_eq bs cs) w (f cs) n))
    (cases_Bool (bytes_eq bs cs))

by_kind-updates : (bs : List ℕ) (m n : Kept) (w : Option Ending) → UpdatesBy (λ x y. slice_cmp nat_cmp x.items y.items) (λ k. slice_cmp nat_cmp bs k.items) m n w
    → (cs : List ℕ) → by_kind n cs ≡ cond (bytes_eq bs cs) w (by_kind m cs)
by_kind-updates bs m n w h = by_bytes (by_kind m) (by_kind n) bs w h.1 (λ cs e. other_entries _ _ _ _ h.3 _ (λ x y. (eq_by_cmp_equiv nat_list_cmp_total).congr cs x.items y.items) (λ k. apart_in_order bs cs k.items e))

hidden : {A : Type 0} (b : Bool) (x y z : A) → cond b x (cond b y z) ≡ cond b x z
hidden true x y z = refl
hidden false x y z = refl

-- an ending is taken out and put back changed
pub put_back : (kind : List ℕ) (m n o : Kept) (v : Ending) → UpdatesBy (λ x y. slice_cmp nat_cmp x.items y.items) (λ k. slice_cmp nat_cmp kind k.items) m n None
    → UpdatesBy (λ x y. slice_cmp nat_cmp x.items y.items) (λ k. slice_cmp nat_cmp kind k.items) n o (Some v)
    → (q : List ℕ) → by_kind o q ≡ cond (bytes_eq kind q) (Some v) (by_kind m q)
put_back kind m n o v taken put q =
    by_kind-updates kind n o (Some v) put q
    ∙ ap (cond (bytes_eq kind q) (Some v)) (by_kind-updates kind m n None taken q)
    ∙ hidden (bytes_eq kind q) (Some v) None (by_kind m q)

-- ---- what is told of it

seen_if : {A B : Type 0} (f : A → B) (b : Bool) (x : A) (o : Option A) → option_map f (cond b (Some x) o) ≡ cond b (Some (f x)) (option_map f o)
seen_if f true x o = refl
seen_if f false x o = refl

find_seen : (es : List (Vec ℕ Global × Ending)) (q : List ℕ) → find (slice_cmp nat_cmp) q (map entry_of es) ≡ option_map ended (lookup (is_at (λ k. slice_cmp nat_cmp q k.items)) es)
find_seen [] q = refl
find_seen (e ∷ es) q =
    ap (cond (is_eq (slice_cmp nat_cmp q e.0.items)) (Some (ended e.1))) (find_seen es q)
    ∙ sym (seen_if ended (is_eq (slice_cmp nat_cmp q e.0.items)) e.1 (lookup (is_at (λ k. slice_cmp nat_cmp q k.items)) es))

pub get_seen : (m : Kept) (q : List ℕ) → get (endings_of m) q ≡ option_map ended (by_kind m q)
get_seen m q = get-from_entries nat_list_cmp_total (map entry_of m.entries) q ∙ find_seen m.entries q

tests_turned : (q kind : List ℕ) → bytes_eq kind q ≡ eq_by_cmp (slice_cmp nat_cmp) q kind
tests_turned q kind = nat_list_eq_equiv.symm kind q ∙ sym (is_eq-slice_cmp q kind)

same_endings : (m n : FinMap (slice_cmp nat_cmp) Ended) → ((q : List ℕ) → get m q ≡ get n q) → m ≡ n
same_endings m n h = same_map nat_list_cmp_total (slice_cmp-IsAntisymmetric nat_cmp-IsAntisymmetric) m n h

pub told_put : (kind : List ℕ) (m n : Kept) (v : Ending) (w : Ended) → ended v ≡ w → ((q : List ℕ) → by_kind n q ≡ cond (bytes_eq kind q) (Some v) (by_kind m q)) → endings_of n ≡ insert (endings_of m) kind w
told_put kind m n v w is h = same_endings _ _ (λ q.
    get_seen n q ∙ ap (option_map ended) (h q) ∙ seen_if ended (bytes_eq kind q) v (by_kind m q)
    ∙ ap (λ x. cond (bytes_eq kind q) (Some x) (option_map ended (by_kind m q))) is
    ∙ ap (λ b. cond b (Some w) (option_map ended (by_kind m q))) (tests_turned q kind)
    ∙ ap (cond (eq_by_cmp (slice_cmp nat_cmp) q kind) (Some w)) (sym (get_seen m q))
    ∙ sym (get-insert nat_list_cmp_total (endings_of m) kind w q))

-- ---- the endings of one more run, and of many

pub get-with_kind : (m : FinMap (slice_cmp nat_cmp) Ended) (kind : List ℕ) (more : Ended) (q : List ℕ) → get (with_kind m kind more) q ≡ joined (get m q) (cond (bytes_eq q kind) (Some more) None)
get-with_kind m kind more q =
    get-insert nat_list_cmp_total m kind (with_ended (get m kind) more) q
    ∙ ap (λ b. cond b (Some (with_ended (get m kind) more)) (get m q)) (is_eq-slice_cmp q kind)
    ∙ by_test (bytes_eq q kind) refl
  where
    by_test : (b : Bool) → bytes_eq q kind ≡ b → cond b (Some (with_ended (get m kind) more)) (get m q) ≡ joined (get m q) (cond b (Some more) None)
    by_test true e = ap (λ k. Some (with_ended (get m k) more)) (sym ((bytes_decides q kind).0 e))
    by_test false e = refl

less_not_equal : (r : Ordering) → is_lt r ≡ true → is_eq r ≡ false
less_not_equal Less h = refl
less_not_equal Equal h = sym h
less_not_equal Greater h = refl

both_true : (a b : Bool) → T (a && b) → (a ≡ true) × T b
both_true true b h = (refl, h)
both_true false b h = absurd h

and_true : (a b : Bool) → a ≡ true → T b → T (a && b)
and_true true b e h = h
and_true false b e h = absurd (subst T (sym e) tt)

two_true : (a b : Bool) → (a && b) ≡ true → (a ≡ true) × (b ≡ true)
two_true true b h = (refl, h)
two_true false b h = (h, absurd (subst T (sym h) tt))

-- of a list in order, a key stands once
find_behind : (x : List ℕ × Ended) (es : List (List ℕ × Ended)) → T (is_sorted (slice_cmp nat_cmp) (x ∷ es)) → find (slice_cmp nat_cmp) x.0 es ≡ None
find_behind x [] h = refl
find_behind x (f ∷ fs) h =
    let whole = both_true (below_all (slice_cmp nat_cmp) x.0 (f ∷ fs)) (is_sorted (slice_cmp nat_cmp) (f ∷ fs)) h in
    let front = two_true (is_lt (slice_cmp nat_cmp x.0 f.0)) (below_all (slice_cmp nat_cmp) x.0 fs) whole.0 in
    let behind = both_true (below_all (slice_cmp nat_cmp) f.0 fs) (is_sorted (slice_cmp nat_cmp) fs) whole.1 in
    ap (λ b. cond b (Some f.1) (find (slice_cmp nat_cmp) x.0 fs)) (less_not_equal (slice_cmp nat_cmp x.0 f.0) front.0)
    ∙ find_behind x fs (and_true (below_all (slice_cmp nat_cmp) x.0 fs) (is_sorted (slice_cmp nat_cmp) fs) front.1 behind.1)

pub get-with_all : (es : List (List ℕ × Ended)) (m : FinMap (slice_cmp nat_cmp) Ended) (q : List ℕ) → T (is_sorted (slice_cmp nat_cmp) es) → get (with_all m es) q ≡ joined (get m q) (find (slice_cmp nat_cmp) q es)
get-with_all [] m q h = refl
get-with_all (e ∷ es) m q h =
    get-with_all es (with_kind m e.0 e.1) q (both_true (below_all (slice_cmp nat_cmp) e.0 es) (is_sorted (slice_cmp nat_cmp) es) h).1
    ∙ ap (λ o. joined o (find (slice_cmp nat_cmp) q es)) (get-with_kind m e.0 e.1 q)
    ∙ by_test (bytes_eq q e.0) refl
    ∙ ap (λ b. joined (get m q) (cond b (Some e.1) (find (slice_cmp nat_cmp) q es))) (sym (is_eq-slice_cmp q e.0))
  where
    by_test : (b : Bool) → bytes_eq q e.0 ≡ b → joined (joined (get m q) (cond b (Some e.1) None)) (find (slice_cmp nat_cmp) q es) ≡ joined (get m q) (cond b (Some e.1) (find (slice_cmp nat_cmp) q es))
    by_test true t = ap (joined (joined (get m q) (Some e.1))) (ap (λ k. find (slice_cmp nat_cmp) k es) ((bytes_decides q e.0).0 t) ∙ find_behind e es h)
    by_test false t = refl

below_seen : (x : List ℕ) (es : List (Vec ℕ Global × Ending)) → AllByRecursion (λ (y : Vec ℕ Global). slice_cmp nat_cmp x y.items ≡ Less) (keys_of es) → below_all (slice_cmp nat_cmp) x (map entry_of es) ≡ true
below_seen x [] h = refl
below_seen x (e ∷ es) h = λ i. is_lt (h.0 i) && below_seen x es h.1 i

sorted_seen : (es : List (Vec ℕ Global × Ending)) → IsStrictlySortedBy (λ (x y : Vec ℕ Global). slice_cmp nat_cmp x.items y.items) (keys_of es) → T (is_sorted (slice_cmp nat_cmp) (map entry_of es))
unfolding IsStrictlySortedBy
sorted_seen [] h = tt
sorted_seen (e ∷ es) h = and_true (below_all (slice_cmp nat_cmp) e.0.items (map entry_of es)) (is_sorted (slice_cmp nat_cmp) (map entry_of es)) (below_seen e.0.items es h.0) (sorted_seen es h.1)

-- what all endings of another map leave
pub get-merged : (m n : Kept) (q : List ℕ) → IsStrictlySortedBy (λ (x y : Vec ℕ Global). slice_cmp nat_cmp x.items y.items) (keys_of n.entries) → get (with_all (endings_of m) (map entry_of n.entries)) q ≡ joined (get (endings_of m) q) (get (endings_of n) q)
get-merged m n q up = get-with_all (map entry_of n.entries) (endings_of m) q (sorted_seen n.entries up) ∙ ap (joined (get (endings_of m) q)) (sym (get-from_entries nat_list_cmp_total (map entry_of n.entries) q))

pub entries_seen : (m : Kept) → IsStrictlySortedBy (λ (x y : Vec ℕ Global). slice_cmp nat_cmp x.items y.items) (keys_of m.entries) → entries (endings_of m) ≡ map entry_of m.entries
entries_seen m up = ap entries (same_endings (endings_of m) (from_sorted (map entry_of m.entries)) (λ q.
    get-from_entries nat_list_cmp_total (map entry_of m.entries) q ∙ sym (get-from_sorted (slice_cmp nat_cmp) (map entry_of m.entries) q (sorted_seen m.entries up))))
    ∙ entries-from_sorted (slice_cmp nat_cmp) (map entry_of m.entries) (sorted_seen m.entries up)

pub no_endings : (m : Kept) (kind : List ℕ) → m.entries ≡ [] → get (endings_of m) kind ≡ None
no_endings m kind e = get_seen m kind ∙ ap (λ es. option_map ended (lookup (is_at (λ (k : Vec ℕ Global). slice_cmp nat_cmp kind k.items)) es)) e

-- ---- all endings of another tally are added, one after another

pub merge_more : (now new : Kept) (left rest : List (Vec ℕ Global × Ending)) (key : Vec ℕ Global) (ending : Ending) (kind text : List ℕ) (whole : FinMap (slice_cmp nat_cmp) Ended) → left ≡ (key, ending) ∷ rest
    → endings_of new ≡ with_kind (endings_of now) kind (record { mark = ending.mark; text = text }) → kind ≡ key.items → text ≡ ending.text.items
    → with_all (endings_of now) (map entry_of left) ≡ whole → with_all (endings_of new) (map entry_of rest) ≡ whole
merge_more now new left rest key ending kind text whole step put is_key is_text h =
    ap (λ m. with_all m (map entry_of rest))
    (put
    ∙ ap (λ k. with_kind (endings_of now) k (record { mark = ending.mark; text = text })) is_key
    ∙ ap (λ t. with_kind (endings_of now) key.items (record { mark = ending.mark; text = t })) is_text)
    ∙ ap (λ l. with_all (endings_of now) (map entry_of l)) (sym step)
    ∙ h

pub merge_done : (done start other : Kept) (left : List (Vec ℕ Global × Ending)) → left ≡ [] → IsStrictlySortedBy (λ (x y : Vec ℕ Global). slice_cmp nat_cmp x.items y.items) (keys_of other.entries)
    → with_all (endings_of done) (map entry_of left) ≡ with_all (endings_of start) (map entry_of other.entries)
    → (kind : List ℕ) → get (endings_of done) kind ≡ joined (get (endings_of start) kind) (get (endings_of other) kind)
merge_done done start other left empty up h kind =
    ap (λ m. get m kind) (ap (λ l. with_all (endings_of done) (map entry_of l)) (sym empty) ∙ h)
    ∙ get-merged start other kind up

-- ---- runs are put to the ending of a kind: what was there is taken out, and put back with them

seen_found : (found : Option (Vec ℕ Global × Ending)) → option_map (λ (e : Vec ℕ Global × Ending). ended e.1) found ≡ option_map ended (option_map (λ (e : Vec ℕ Global × Ending). e.1) found)
seen_found None = refl
seen_found (Some e) = refl

pub put_more : (kind text : List ℕ) (mark : Mark) (m n o : Kept) (key : Vec ℕ Global) (v : Ending) (found : Option (Vec ℕ Global × Ending))
    → UpdatesBy (λ x y. slice_cmp nat_cmp x.items y.items) (λ k. slice_cmp nat_cmp kind k.items) m n None
    → UpdatesBy (λ x y. slice_cmp nat_cmp x.items y.items) (λ k. slice_cmp nat_cmp key.items k.items) n o (Some v)
    → key.items ≡ kind
    → option_map (λ (e : Vec ℕ Global × Ending). e.1) found ≡ by_kind m kind
    → ended v ≡ with_ended (option_map (λ (e : Vec ℕ Global × Ending). ended e.1) found) (record { mark = mark; text = text })
    → endings_of o ≡ with_kind (endings_of m) kind (record { mark = mark; text = text })
put_more kind text mark m n o key v found taken put is_key there more =
    let P : List ℕ → Type 0 = λ bs. UpdatesBy (λ x y. slice_cmp nat_cmp x.items y.items) (λ k. slice_cmp nat_cmp bs k.items) n o (Some v) in
    told_put kind m o v (with_ended (get (endings_of m) kind) (record { mark = mark; text = text }))
    (more ∙ ap (λ e. with_ended e (record { mark = mark; text = text })) (seen_found found ∙ ap (option_map ended) there ∙ sym (get_seen m kind)))
    (put_back kind m n o v taken (subst P is_key put))

-- the key that was there is the kind
pub same_key : (kind : List ℕ) (found : Option (Vec ℕ Global × Ending)) → IfSome found (λ e. slice_cmp nat_cmp kind e.0.items ≡ Equal) → IfSome found (λ e. e.0.items ≡ kind)
same_key kind None h = h
same_key kind (Some e) h = sym (slice_cmp-IsAntisymmetric nat_cmp-IsAntisymmetric kind e.0.items h)
