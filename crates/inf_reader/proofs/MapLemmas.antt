-- Maps under keys of bytes: what a change at one key leaves at any bytes.
use Rattle.std.proofs.Common.{◌≡◌, refl, sym, ap, subst, ◌∙◌, Bool, true, false, cond, List, ℕ, Option, Some, None, ⊎_elim}
use Rattle.std.specs.Option.{is_some}
use Rattle.std.specs.Ordering.{is_eq, nat_cmp}
use Rattle.std.specs.Cmp.{eq_by_cmp_equiv}
use Rattle.std.specs.Cmp.Lexicographic.{slice_cmp, bytes_decides, nat_list_cmp_total, nat_list_eq_equiv}
use Rattle.std.specs.Str.{bytes_eq}
use Rattle.std.specs.declared.vec.Vec.{Vec}
use Rattle.std.specs.declared.alloc.Global.{Global}
use Rattle.std.specs.BTreeMap.{BTreeMap, UpdatesBy}
use Rattle.std.specs.Map.{lookup, IsKeyTest, AreApart, KeepsOthers}
use Rattle.std.proofs.lemmas.Bool.{cases_Bool, cond-true, cond-false}
use Rattle.std.proofs.lemmas.Map.Text.{is_eq-slice_cmp}
use Rattle.std.specs.Option.{unwrap_or}
use Rattle.inf_reader.specs.Maps.{by_key}
use Rattle.inf_reader.specs.Numbers.{or_else}
use Rattle.inf_reader.specs.Sections.{Contents, no_contents}
use Rattle.inf_reader.specs.Reading.{after_header}

apart : (bs cs ks : List ℕ) → bytes_eq bs cs ≡ false → bytes_eq bs ks ≡ true → bytes_eq cs ks ≡ false
apart bs cs ks n y = nat_list_eq_equiv.symm cs ks ∙ sym (nat_list_eq_equiv.congr bs ks cs y) ∙ n

apart_in_order : (bs cs ks : List ℕ) → bytes_eq bs cs ≡ false → is_eq (slice_cmp nat_cmp bs ks) ≡ true → is_eq (slice_cmp nat_cmp cs ks) ≡ false
apart_in_order bs cs ks n y = is_eq-slice_cmp cs ks ∙ apart bs cs ks n (sym (is_eq-slice_cmp bs ks) ∙ y)

other_entries : {K X : Type 0} (eq : K → K → Bool) (test : K → Bool) (old new : List (K × X)) → KeepsOthers eq test old new → (other : K → Bool) → IsKeyTest eq other → AreApart test other → lookup other new ≡ lookup other old
unfolding KeepsOthers
other_entries eq test old new h = h

by_bytes : {W : Type 0} (f g : List ℕ → W) (bs : List ℕ) (w : W) → g bs ≡ w → ((cs : List ℕ) → bytes_eq bs cs ≡ false → g cs ≡ f cs) → (cs : List ℕ) → g cs ≡ cond (bytes_eq bs cs) w (f cs)
by_bytes f g bs w here other cs =
    ⊎_elim
    (λ y. subst (λ l. g l ≡ w) ((bytes_decides bs cs).0 y) here ∙ sym (cond-true (bytes_eq bs cs) w (f cs) y))
    (λ n. other cs n ∙ sym (cond-false (bytes_eq bs cs) w (f cs) n))
    (cases_Bool (bytes_eq bs cs))

pub by_key-updates : {X : Type 0} (bs : List ℕ) (m n : BTreeMap (Vec ℕ Global) X) (w : Option X) → UpdatesBy (λ x y. slice_cmp nat_cmp x.items y.items) (λ k. slice_cmp nat_cmp bs k.items) m n w
    → (cs : List ℕ) → by_key n cs ≡ cond (bytes_eq bs cs) w (by_key m cs)
by_key-updates bs m n w h = by_bytes (by_key m) (by_key n) bs w h.1 (λ cs e. other_entries _ _ _ _ h.3 _ (λ x y. (eq_by_cmp_equiv nat_list_cmp_total).congr cs x.items y.items) (λ k. apart_in_order bs cs k.items e))

-- a value is put under a key
pub by_key-put : {X : Type 0} (bs : List ℕ) (m n : BTreeMap (Vec ℕ Global) X) (v : X) → UpdatesBy (λ x y. slice_cmp nat_cmp x.items y.items) (λ k. slice_cmp nat_cmp bs k.items) m n (Some v)
    → (q : List ℕ) → by_key n q ≡ cond (bytes_eq q bs) (Some v) (by_key m q)
by_key-put bs m n v h q = by_key-updates bs m n (Some v) h q ∙ ap (λ b. cond b (Some v) (by_key m q)) (nat_list_eq_equiv.symm bs q)

by_test : (b : Bool) (x : Contents) (n m : Option Contents) → (b ≡ true → m ≡ Some x) → (b ≡ false → n ≡ m) → cond b (Some x) n ≡ after_header b m
by_test true x n m yes_ no_ = sym (ap (λ o. Some (unwrap_or o no_contents)) (yes_ refl))
by_test false x n m yes_ no_ = no_ refl

-- a section is taken out of the others
pub section-taken : (bs : List ℕ) (m n : BTreeMap (Vec ℕ Global) Contents) (v : Contents) → Some v ≡ by_key m bs → UpdatesBy (λ x y. slice_cmp nat_cmp x.items y.items) (λ k. slice_cmp nat_cmp bs k.items) m n None
    → (q : List ℕ) → cond (bytes_eq q bs) (Some v) (by_key n q) ≡ after_header (bytes_eq q bs) (by_key m q)
section-taken bs m n v found h q =
    by_test (bytes_eq q bs) v (by_key n q) (by_key m q)
    (λ y. ap (by_key m) ((bytes_decides q bs).0 y) ∙ sym found)
    (λ f. by_key-updates bs m n None h q ∙ cond-false (bytes_eq bs q) None (by_key m q) (nat_list_eq_equiv.symm bs q ∙ f))

by_absence : (b : Bool) (n m : Option Contents) → (b ≡ true → m ≡ None) → (b ≡ false → n ≡ m) → cond b (Some no_contents) n ≡ after_header b m
by_absence true n m yes_ no_ = sym (ap (λ o. Some (unwrap_or o no_contents)) (yes_ refl))
by_absence false n m yes_ no_ = no_ refl

-- a section that is not among the others begins empty
pub section-begun : (bs : List ℕ) (m n : BTreeMap (Vec ℕ Global) Contents) → None ≡ by_key m bs → UpdatesBy (λ x y. slice_cmp nat_cmp x.items y.items) (λ k. slice_cmp nat_cmp bs k.items) m n None
    → (q : List ℕ) → cond (bytes_eq q bs) (Some no_contents) (by_key n q) ≡ after_header (bytes_eq q bs) (by_key m q)
section-begun bs m n absent h q =
    by_absence (bytes_eq q bs) (by_key n q) (by_key m q)
    (λ y. ap (by_key m) ((bytes_decides q bs).0 y) ∙ sym absent)
    (λ f. by_key-updates bs m n None h q ∙ cond-false (bytes_eq bs q) None (by_key m q) (nat_list_eq_equiv.symm bs q ∙ f))

or_else-same : {X : Type 0} (o : Option X) → or_else o o ≡ o
or_else-same None = refl
or_else-same (Some x) = refl

-- what is kept of a name is right, also behind a change of one name to what is right
right_if : {X : Type 0} (b : Bool) (m v w : Option X) → (b ≡ true → v ≡ w) → or_else m w ≡ w → or_else (cond b v m) w ≡ w
right_if true None v w same_ old = ap (λ o. or_else o w) (same_ refl) ∙ or_else-same w
right_if true (Some x) v w same_ old = ap (λ o. or_else o w) (same_ refl) ∙ or_else-same w
right_if false m v w same_ old = old

pub kept-put : {X : Type 0} (f : List ℕ → X) (bs : List ℕ) (m n : BTreeMap (Vec ℕ Global) X) → UpdatesBy (λ x y. slice_cmp nat_cmp x.items y.items) (λ k. slice_cmp nat_cmp bs k.items) m n (Some (f bs))
    → ((q : List ℕ) → or_else (by_key m q) (Some (f q)) ≡ Some (f q)) → (q : List ℕ) → or_else (by_key n q) (Some (f q)) ≡ Some (f q)
kept-put f bs m n h kept q =
    ap (λ o. or_else o (Some (f q))) (by_key-put bs m n (f bs) h q)
    ∙ right_if (bytes_eq q bs) (by_key m q) (Some (f bs)) (Some (f q)) (λ y. ap (λ k. Some (f k)) (sym ((bytes_decides q bs).0 y))) (kept q)

-- what is kept under a name is what that name gives
kept_value : {X : Type 0} (m : Option X) (x w : X) → Some x ≡ m → or_else m (Some w) ≡ Some w → x ≡ w
kept_value None x w found kept = cc
kept_value (Some y) x w found kept = cc

pub kept-found : {X : Type 0} (f : List ℕ → X) (bs : List ℕ) (m : BTreeMap (Vec ℕ Global) X) (x : X) → Some x ≡ by_key m bs → ((q : List ℕ) → or_else (by_key m q) (Some (f q)) ≡ Some (f q)) → x ≡ f bs
kept-found f bs m x found kept = kept_value (by_key m bs) x (f bs) found (kept bs)

or_else-None : {X : Type 0} (o : Option X) → or_else o None ≡ o
or_else-None None = refl
or_else-None (Some x) = refl

pub or_else-or_else : {X : Type 0} (a b c : Option X) → or_else (or_else a b) c ≡ or_else a (or_else b c)
or_else-or_else None b c = refl
or_else-or_else (Some x) b c = refl

by_absent : {X : Type 0} (b : Bool) (m : Option X) (w : Option X) → (b ≡ true → m ≡ None) → cond b w m ≡ or_else m (cond b w None)
by_absent true m w absent = sym (ap (λ o. or_else o w) (absent refl))
by_absent false m w absent = sym (or_else-None m)

-- a text is put under a key that was absent
pub texts-put : {X : Type 0} (bs : List ℕ) (m n : BTreeMap (Vec ℕ Global) X) (w : Option X) → by_key m bs ≡ None → UpdatesBy (λ x y. slice_cmp nat_cmp x.items y.items) (λ k. slice_cmp nat_cmp bs k.items) m n w
    → (q : List ℕ) → by_key n q ≡ or_else (by_key m q) (cond (bytes_eq q bs) w None)
texts-put bs m n w absent h q =
    by_key-updates bs m n w h q
    ∙ (ap (λ b. cond b w (by_key m q)) (nat_list_eq_equiv.symm bs q)
    ∙ by_absent (bytes_eq q bs) (by_key m q) w (λ y. ap (by_key m) ((bytes_decides q bs).0 y) ∙ absent))

by_present : {X : Type 0} (b : Bool) (m w : Option X) → (b ≡ true → is_some m ≡ true) → m ≡ or_else m (cond b w None)
by_present true (Some x) w there = refl
by_present true None w there = let h : false ≡ true = there refl in cc
by_present false m w there = sym (or_else-None m)

-- a key that is present keeps its text
pub texts-kept : {X : Type 0} (bs : List ℕ) (m : BTreeMap (Vec ℕ Global) X) (w : Option X) → is_some (by_key m bs) ≡ true → (q : List ℕ) → by_key m q ≡ or_else (by_key m q) (cond (bytes_eq q bs) w None)
texts-kept bs m w there q = by_present (bytes_eq q bs) (by_key m q) w (λ y. ap (λ o. is_some o) (ap (by_key m) ((bytes_decides q bs).0 y)) ∙ there)

pub none_if : {X : Type 0} (o : Option X) → is_some o ≡ false → o ≡ None
none_if None h = refl
none_if (Some x) h = cc
