-- Lists of blocks: one of them changed, parted or gone, and the place of a pair among them.
use Rattle.std.specs.Prelude.{not, slice_get, Some}
use Rattle.std.proofs.Common.{◌≡◌, ℕ, Bool, suc, zero, true, false, ◌+◌, ◌-◌, ◌<◌, ◌≤◌, ◌⊎◌, inl, inr, List, [], ◌∷◌, ◌++◌, refl, sym, ◌∙◌, ap, ap₂, subst, arith, append_assoc, append-nil, take, drop, length, get_or, set, insert, remove, length-append}
use Rattle.std.proofs.lemmas.List.{take-append-drop, set_split, set-get_or, take_more, take_more_set, take-take, length-take-le, set-append_left, drop-set-lt, drop_all, drop_more}
use Rattle.std.proofs.lemmas.List.Edits.{get_or-remove_below, length-remove}
use Rattle.std.proofs.lemmas.Bool.{cases_Bool, both_ways}
use Rattle.range_arbiter.specs.Pairs.{Pair, is_before, pairs_with}
use Rattle.range_arbiter.specs.Orders.{In, IsOrdered, AreOfKind}
use Rattle.range_arbiter.specs.Blocks.{pairs_in, first_of, AreSome, IsPlace}
use Rattle.range_arbiter.proofs.PairOrder.{before_itself, before_once, not_before_trans, same_pair}
use Rattle.range_arbiter.proofs.InOrder.{in_append, in_left, in_right, ordered_left, ordered_right, ordered_across, with_same}

not_is : (b : Bool) → not b ≡ true → b ≡ false
not_is true h = cc
not_is false h = refl

is_not : (b : Bool) → b ≡ false → not b ≡ true
is_not true h = cc
is_not false h = refl

is_so : (b : Bool) → not b ≡ false → b ≡ true
is_so true h = refl
is_so false h = cc

pub split_set : {X : Type 0} (xs : List X) (at : ℕ) (x : X) → at < length xs → set xs at x ≡ take at xs ++ x ∷ drop (at + 1) xs
split_set xs at x within = let next : suc at ≡ at + 1 = omega arith in set_split xs at x within ∙ ap (λ n. take at xs ++ x ∷ drop n xs) next

pub remove_is : {X : Type 0} (xs : List X) (at : ℕ) → remove xs at ≡ take at xs ++ drop (at + 1) xs
remove_is xs at = let next : suc at ≡ at + 1 = omega arith in ap (λ n. take at xs ++ drop n xs) next

pub split_at : {X : Type 0} (xs : List X) (at : ℕ) (d : X) → at < length xs → xs ≡ take at xs ++ get_or xs at d ∷ drop (at + 1) xs
split_at xs at d within = sym (set-get_or xs at d) ∙ split_set xs at (get_or xs at d) within

pub pairs_in_append : (xs ys : List (List Pair)) → pairs_in (xs ++ ys) ≡ pairs_in xs ++ pairs_in ys
pairs_in_append [] ys = refl
pairs_in_append (x ∷ xs) ys = ap (λ l. x ++ l) (pairs_in_append xs ys) ∙ sym (append_assoc x (pairs_in xs) (pairs_in ys))

-- the pairs of the blocks up to one of them, with one block more
pub pairs_in_more : (bs : List (List Pair)) (i : ℕ) (d : List Pair) → i < length bs → pairs_in (take (i + 1) bs) ≡ pairs_in (take i bs) ++ get_or bs i d
pairs_in_more bs i d within =
    ap pairs_in (take_more bs i d within) ∙ pairs_in_append (take i bs) (get_or bs i d ∷ []) ∙ ap (λ l. pairs_in (take i bs) ++ l) (append-nil (get_or bs i d))

pub pairs_in_whole : (bs : List (List Pair)) (i : ℕ) → pairs_in bs ≡ pairs_in (take i bs) ++ pairs_in (drop i bs)
pairs_in_whole bs i = ap pairs_in (sym (take-append-drop i bs)) ∙ pairs_in_append (take i bs) (drop i bs)

pub pairs_in_at : (bs : List (List Pair)) (at : ℕ) (d : List Pair) → at < length bs
    → pairs_in bs ≡ pairs_in (take at bs) ++ (get_or bs at d ++ pairs_in (drop (at + 1) bs))
pairs_in_at bs at d within = ap pairs_in (split_at bs at d within) ∙ pairs_in_append (take at bs) (get_or bs at d ∷ drop (at + 1) bs)

-- a list in order keeps its order with a pair at a place that fits
pub ordered_more : (xs : List Pair) (p : Pair) (ys : List Pair) → IsOrdered (xs ++ ys) → ((q : Pair) → In q xs → is_before p q ≡ false)
    → ((q : Pair) → In q ys → is_before q p ≡ false) → IsOrdered (xs ++ p ∷ ys)
ordered_more [] p ys up front back = (back, up)
ordered_more (x ∷ xs) p ys up front back = (
  (λ q i. elim (in_append q xs (p ∷ ys) i) [
    | inl k ↦ up.0 q (in_left q xs ys k)
    | inr (inl e) ↦ subst (λ z. is_before z x ≡ false) (sym e) (front x (inl refl))
    | inr (inr k) ↦ up.0 q (in_right q xs ys k)
  ]),
  ordered_more xs p ys up.1 (λ q i. front q (inr i)) back,
)

-- so it is where the pair is put
pub with_at : (xs : List Pair) (p : Pair) (ys : List Pair) → IsOrdered (xs ++ ys) → AreOfKind p.1.kind (xs ++ ys) → ((q : Pair) → In q xs → is_before p q ≡ false)
    → ((q : Pair) → In q ys → is_before p q ≡ true) → xs ++ p ∷ ys ≡ pairs_with (xs ++ ys) p
with_at xs p ys up kinds front back =
    sym (with_same xs ys p (ordered_more xs p ys up front (λ q i. before_once p q (back q i))) (λ q i. kinds q (in_left q xs ys i)))

-- the pair itself is the last of those that do not come after it
last_is : (xs : List Pair) (z : Pair) (ys : List Pair) (p : Pair) → IsOrdered (xs ++ z ∷ ys) → AreOfKind p.1.kind (xs ++ z ∷ ys) → is_before p z ≡ false
    → ((q : Pair) → In q ys → is_before p q ≡ true) → In p (xs ++ z ∷ ys) → z ≡ p
last_is xs z ys p up kinds front back i = elim (in_append p xs (z ∷ ys) i) [
  | inl k ↦ same_pair z p (kinds z (in_right z xs (z ∷ ys) (inl refl))) (ordered_across xs (z ∷ ys) up p z k (inl refl)) front
  | inr (inl e) ↦ sym e
  | inr (inr k) ↦ absurd (both_ways (is_before p p) (before_itself p) (back p k))
]

pub without_at : (xs : List Pair) (z : Pair) (ys : List Pair) (p : Pair) → IsOrdered (xs ++ z ∷ ys) → AreOfKind p.1.kind (xs ++ z ∷ ys) → is_before p z ≡ false
    → ((q : Pair) → In q ys → is_before p q ≡ true) → In p (xs ++ z ∷ ys) → xs ++ z ∷ ys ≡ pairs_with (xs ++ ys) p
without_at xs z ys p up kinds front back i =
    let one : z ≡ p = last_is xs z ys p up kinds front back i in
    let here : xs ++ z ∷ ys ≡ xs ++ p ∷ ys = ap (λ w. xs ++ w ∷ ys) one in
    here ∙ sym (with_same xs ys p (subst IsOrdered here up) (λ q k. kinds q (in_left q xs (z ∷ ys) k)))

-- a block among others, with a pair more at a place of it, and with one less
whole_is : (xs b ys : List Pair) (j : ℕ) → xs ++ (b ++ ys) ≡ (xs ++ take j b) ++ (drop j b ++ ys)
whole_is xs b ys j =
    ap (λ l. xs ++ (l ++ ys)) (sym (take-append-drop j b)) ∙ ap (λ l. xs ++ l) (append_assoc (take j b) (drop j b) ys) ∙ sym (append_assoc xs (take j b) (drop j b ++ ys))

either : (p : Pair) (xs ys : List Pair) (P : Pair → Type 0) → ((q : Pair) → In q xs → P q) → ((q : Pair) → In q ys → P q) → (q : Pair) → In q (xs ++ ys) → P q
either p xs ys P one other q i = elim (in_append q xs ys i) [ inl k ↦ one q k | inr k ↦ other q k ]

pub put_among : (xs b ys : List Pair) (j : ℕ) (p : Pair) → IsOrdered (xs ++ (b ++ ys)) → AreOfKind p.1.kind (xs ++ (b ++ ys))
    → ((q : Pair) → In q xs → is_before p q ≡ false) → ((q : Pair) → In q ys → is_before p q ≡ true)
    → ((q : Pair) → In q (take j b) → is_before p q ≡ false) → ((q : Pair) → In q (drop j b) → is_before p q ≡ true)
    → xs ++ (insert b j p ++ ys) ≡ pairs_with (xs ++ (b ++ ys)) p
put_among xs b ys j p up kinds front back before behind =
    let is = whole_is xs b ys j in
    ap (λ l. xs ++ l) (append_assoc (take j b) (p ∷ drop j b) ys) ∙ sym (append_assoc xs (take j b) (p ∷ (drop j b ++ ys)))
    ∙ with_at (xs ++ take j b) p (drop j b ++ ys) (subst IsOrdered is up) (subst (AreOfKind p.1.kind) is kinds)
    (either p xs (take j b) (λ q. is_before p q ≡ false) front before) (either p (drop j b) ys (λ q. is_before p q ≡ true) behind back)
    ∙ ap (λ l. pairs_with l p) (sym is)

last_of : (b : List Pair) (i : ℕ) (d : Pair) → i < length b → In (get_or b i d) (take (i + 1) b)
last_of b i d within =
    subst (In (get_or b i d)) (sym (take_more b i d within)) (in_right (get_or b i d) (take i b) (get_or b i d ∷ []) (inl refl))

pub take_among : (xs b ys : List Pair) (i : ℕ) (p : Pair) → IsOrdered (xs ++ (b ++ ys)) → AreOfKind p.1.kind (xs ++ (b ++ ys)) → i < length b
    → ((q : Pair) → In q ys → is_before p q ≡ true)
    → ((q : Pair) → In q (take (i + 1) b) → is_before p q ≡ false) → ((q : Pair) → In q (drop (i + 1) b) → is_before p q ≡ true)
    → In p (xs ++ (b ++ ys)) → xs ++ (b ++ ys) ≡ pairs_with (xs ++ (remove b i ++ ys)) p
take_among xs b ys i p up kinds within back before behind there =
    let z = get_or b i p in
    let is : xs ++ (b ++ ys) ≡ (xs ++ take i b) ++ z ∷ (drop (i + 1) b ++ ys) =
    ap (λ l. xs ++ (l ++ ys)) (split_at b i p within) ∙ ap (λ l. xs ++ l) (append_assoc (take i b) (z ∷ drop (i + 1) b) ys)
    ∙ sym (append_assoc xs (take i b) (z ∷ (drop (i + 1) b ++ ys))) in
    is
    ∙ without_at (xs ++ take i b) z (drop (i + 1) b ++ ys) p (subst IsOrdered is up) (subst (AreOfKind p.1.kind) is kinds) (before z (last_of b i p within))
    (either p (drop (i + 1) b) ys (λ q. is_before p q ≡ true) behind back) (subst (In p) is there)
    ∙ ap (λ l. pairs_with l p) (append_assoc xs (take i b) (drop (i + 1) b ++ ys) ∙ ap (λ l. xs ++ l) (sym (append_assoc (take i b) (drop (i + 1) b) ys)) ∙ ap (λ l. xs ++ (l ++ ys)) (sym (remove_is b i)))

-- some pair of the block does not come after one that is held
pub some_before : (xs b ys : List Pair) (j : ℕ) (p : Pair) → 0 < length b → (xs ≡ []) ⊎ (is_before p (first_of b) ≡ false)
    → ((q : Pair) → In q ys → is_before p q ≡ true) → ((q : Pair) → In q (drop j b) → is_before p q ≡ true) → In p (xs ++ (b ++ ys)) → 0 < j
some_before xs b ys (suc j) p some first back behind i = omega arith
some_before xs [] ys zero p some first back behind i = absurd (omega arith)
some_before xs (q ∷ qs) ys zero p some first back behind i = absurd (elim (in_append p xs ((q ∷ qs) ++ ys) i) [
  | inl k ↦ elim first [
    | inl e ↦ subst (In p) e k
    | inr h ↦ both_ways (is_before p q) h (behind q (inl refl))
  ]
  | inr k ↦ elim (in_append p (q ∷ qs) ys k) [
    | inl m ↦ both_ways (is_before p p) (before_itself p) (behind p m)
    | inr m ↦ both_ways (is_before p p) (before_itself p) (back p m)
  ]
])

-- blocks of which one is another
pub pairs_in_set : (bs : List (List Pair)) (at : ℕ) (b : List Pair) → at < length bs → pairs_in (set bs at b) ≡ pairs_in (take at bs) ++ (b ++ pairs_in (drop (at + 1) bs))
pairs_in_set bs at b within = ap pairs_in (split_set bs at b within) ∙ pairs_in_append (take at bs) (b ∷ drop (at + 1) bs)

pub pairs_in_remove : (bs : List (List Pair)) (at : ℕ) → pairs_in (remove bs at) ≡ pairs_in (take at bs) ++ pairs_in (drop (at + 1) bs)
pairs_in_remove bs at = ap pairs_in (remove_is bs at) ∙ pairs_in_append (take at bs) (drop (at + 1) bs)

-- or two
pub parted_is : {X : Type 0} (bs : List X) (at : ℕ) (b c : X) → at < length bs → insert (set bs at b) (at + 1) c ≡ take at bs ++ b ∷ c ∷ drop (at + 1) bs
parted_is bs at b c within =
    ap₂ (λ l r. l ++ c ∷ r) (take_more_set bs at b within) (drop-set-lt (at + 1) bs at b (omega arith)) ∙ append_assoc (take at bs) (b ∷ []) (c ∷ drop (at + 1) bs)

pub pairs_in_parted : (bs : List (List Pair)) (at : ℕ) (b c : List Pair) → at < length bs
    → pairs_in (insert (set bs at b) (at + 1) c) ≡ pairs_in (take at bs) ++ ((b ++ c) ++ pairs_in (drop (at + 1) bs))
pairs_in_parted bs at b c within =
    ap pairs_in (parted_is bs at b c within) ∙ pairs_in_append (take at bs) (b ∷ c ∷ drop (at + 1) bs)
    ∙ ap (λ l. pairs_in (take at bs) ++ l) (sym (append_assoc b c (pairs_in (drop (at + 1) bs))))

-- or one of two
pub joined_is : {X : Type 0} (bs : List X) (i : ℕ) (b : X) → i + 1 < length bs → set (remove bs (i + 1)) i b ≡ take i bs ++ b ∷ drop (i + 1 + 1) bs
joined_is bs i b within =
    let front = take (i + 1) bs in
    let back = drop (i + 1 + 1) bs in
    let long : length front ≡ i + 1 = length-take-le (i + 1) bs (omega arith) in
    ap (λ l. set l i b) (remove_is bs (i + 1)) ∙ set-append_left front back i b (omega arith)
    ∙ ap (λ l. l ++ back) (split_set front i b (omega arith) ∙ ap₂ (λ l r. l ++ b ∷ r) (take-take i (i + 1) bs (omega arith)) (drop_all (i + 1) front (omega arith)))
    ∙ append_assoc (take i bs) (b ∷ []) back

-- blocks that have pairs
some_append : (xs ys : List (List Pair)) → AreSome xs → AreSome ys → AreSome (xs ++ ys)
some_append [] ys one other = other
some_append (x ∷ xs) ys one other = (one.0, some_append xs ys one.1 other)

some_take : (n : ℕ) (xs : List (List Pair)) → AreSome xs → AreSome (take n xs)
some_take zero xs some = tt
some_take (suc n) [] some = tt
some_take (suc n) (x ∷ xs) some = (some.0, some_take n xs some.1)

some_drop : (n : ℕ) (xs : List (List Pair)) → AreSome xs → AreSome (drop n xs)
some_drop zero xs some = some
some_drop (suc n) [] some = tt
some_drop (suc n) (x ∷ xs) some = some_drop n xs some.1

pub some_at : (bs : List (List Pair)) (i : ℕ) (d : List Pair) → i < length bs → AreSome bs → 0 < length (get_or bs i d)
some_at [] i d within some = absurd (omega arith)
some_at (b ∷ bs) zero d within some = some.0
some_at (b ∷ bs) (suc i) d within some = some_at bs i d (omega arith) some.1

pub some_set : (bs : List (List Pair)) (at : ℕ) (b : List Pair) → at < length bs → 0 < length b → AreSome bs → AreSome (set bs at b)
some_set bs at b within one some =
    subst AreSome (sym (split_set bs at b within)) (some_append (take at bs) (b ∷ drop (at + 1) bs) (some_take at bs some) (one, some_drop (at + 1) bs some))

pub some_parted : (bs : List (List Pair)) (at : ℕ) (b c : List Pair) → at < length bs → 0 < length b → 0 < length c → AreSome bs → AreSome (insert (set bs at b) (at + 1) c)
some_parted bs at b c within one other some =
    subst AreSome (sym (parted_is bs at b c within)) (some_append (take at bs) (b ∷ c ∷ drop (at + 1) bs) (some_take at bs some) (one, (other, some_drop (at + 1) bs some)))

pub some_remove : (bs : List (List Pair)) (at : ℕ) → AreSome bs → AreSome (remove bs at)
some_remove bs at some = subst AreSome (sym (remove_is bs at)) (some_append (take at bs) (drop (at + 1) bs) (some_take at bs some) (some_drop (at + 1) bs some))

pub some_joined : (bs : List (List Pair)) (i : ℕ) (b : List Pair) → i + 1 < length bs → 0 < length b → AreSome bs → AreSome (set (remove bs (i + 1)) i b)
some_joined bs i b within one some =
    subst AreSome (sym (joined_is bs i b within)) (some_append (take i bs) (b ∷ drop (i + 1 + 1) bs) (some_take i bs some) (one, some_drop (i + 1 + 1) bs some))

pub pairs_in_joined : (bs : List (List Pair)) (i : ℕ) (d : List Pair) → i + 1 < length bs
    → pairs_in (set (remove bs (i + 1)) i (get_or bs i d ++ get_or bs (i + 1) d)) ≡ pairs_in bs
pairs_in_joined bs i d within =
    let b = get_or bs i d in
    let c = get_or bs (i + 1) d in
    ap pairs_in (joined_is bs i (b ++ c) within) ∙ pairs_in_append (take i bs) ((b ++ c) ∷ drop (i + 1 + 1) bs)
    ∙ ap (λ l. pairs_in (take i bs) ++ l) (append_assoc b c (pairs_in (drop (i + 1 + 1) bs)))
    ∙ ap (λ l. pairs_in (take i bs) ++ (b ++ pairs_in l)) (sym (drop_more bs (i + 1) d within))
    ∙ sym (pairs_in_at bs i d (omega arith))

-- members by their positions
pub in_at : (xs : List Pair) (i : ℕ) (d : Pair) → i < length xs → In (get_or xs i d) xs
in_at [] i d within = absurd (omega arith)
in_at (x ∷ xs) zero d within = inl refl
in_at (x ∷ xs) (suc i) d within = inr (in_at xs i d (omega arith))

pub item_in : (xs : List Pair) (i : ℕ) (x : Pair) → i < length xs → x ≡ get_or xs i x → In x xs
item_in xs i x within is = subst (λ z. In z xs) (sym is) (in_at xs i x within)

pub take_item : {X : Type 0} (xs : List X) (i : ℕ) (x : X) → i < length xs → x ≡ get_or xs i x → take (i + 1) xs ≡ take i xs ++ x ∷ []
take_item xs i x within is = take_more xs i x within ∙ ap (λ z. take i xs ++ z ∷ []) (sym is)

pub split_item : {X : Type 0} (xs : List X) (i : ℕ) (x : X) → i < length xs → x ≡ get_or xs i x → xs ≡ take i xs ++ x ∷ drop (i + 1) xs
split_item xs i x within is = split_at xs i x within ∙ ap (λ z. take i xs ++ z ∷ drop (i + 1) xs) (sym is)

position_of : (q : Pair) (xs : List Pair) → In q xs → (k : ℕ) × (k < length xs) × (q ≡ get_or xs k q)
position_of q [] i = absurd i
position_of q (x ∷ xs) (inl e) = (0, omega arith, e)
position_of q (x ∷ xs) (inr i) = let (k, within, is) = position_of q xs i in (suc k, omega arith, is)

pub in_taken : (xs : List Pair) (j : ℕ) (q : Pair) → In q (take j xs) → (k : ℕ) × (k < j) × (k < length xs) × (q ≡ get_or xs k q)
in_taken [] zero q i = absurd i
in_taken [] (suc j) q i = absurd i
in_taken (x ∷ xs) zero q i = absurd i
in_taken (x ∷ xs) (suc j) q (inl e) = (0, omega arith, omega arith, e)
in_taken (x ∷ xs) (suc j) q (inr i) = let (k, before, within, is) = in_taken xs j q i in (suc k, omega arith, omega arith, is)

pub in_dropped : (xs : List Pair) (j : ℕ) (q : Pair) → In q (drop j xs) → (k : ℕ) × (j ≤ k) × (k < length xs) × (q ≡ get_or xs k q)
in_dropped xs zero q i = let (k, within, is) = position_of q xs i in (k, omega arith, within, is)
in_dropped [] (suc j) q i = absurd i
in_dropped (x ∷ xs) (suc j) q i = let (k, after, within, is) = in_dropped xs j q i in (suc k, omega arith, omega arith, is)

-- pairs in order, by their positions
pub ordered_at : (xs : List Pair) → IsOrdered xs → (i j : ℕ) (d : Pair) → i ≤ j → j < length xs → is_before (get_or xs j d) (get_or xs i d) ≡ false
ordered_at [] up i j d low within = absurd (omega arith)
ordered_at (x ∷ xs) up zero zero d low within = before_itself x
ordered_at (x ∷ xs) up zero (suc j) d low within = up.0 (get_or xs j d) (in_at xs j d (omega arith))
ordered_at (x ∷ xs) up (suc i) zero d low within = absurd (omega arith)
ordered_at (x ∷ xs) up (suc i) (suc j) d low within = ordered_at xs up.1 i j d (omega arith) (omega arith)

first_in : (b : List Pair) → 0 < length b → In (first_of b) b
first_in [] some = absurd (omega arith)
first_in (p ∷ ps) some = inl refl

first_in_at : (bs : List (List Pair)) (i : ℕ) (d : List Pair) → AreSome bs → i < length bs → In (first_of (get_or bs i d)) (pairs_in bs)
first_in_at [] i d some within = absurd (omega arith)
first_in_at (b ∷ bs) zero d some within = in_left (first_of b) b (pairs_in bs) (first_in b some.0)
first_in_at (b ∷ bs) (suc i) d some within = in_right (first_of (get_or bs i d)) b (pairs_in bs) (first_in_at bs i d some.1 (omega arith))

pub firsts_ordered : (bs : List (List Pair)) → AreSome bs → IsOrdered (pairs_in bs) → (i j : ℕ) (d : List Pair) → i ≤ j → j < length bs
    → is_before (first_of (get_or bs j d)) (first_of (get_or bs i d)) ≡ false
firsts_ordered [] some up i j d low within = absurd (omega arith)
firsts_ordered (b ∷ bs) some up zero zero d low within = before_itself (first_of b)
firsts_ordered (b ∷ bs) some up zero (suc j) d low within =
    ordered_across b (pairs_in bs) up (first_of b) (first_of (get_or bs j d)) (first_in b some.0) (first_in_at bs j d some.1 (omega arith))
firsts_ordered (b ∷ bs) some up (suc i) zero d low within = absurd (omega arith)
firsts_ordered (b ∷ bs) some up (suc i) (suc j) d low within = firsts_ordered bs some.1 (ordered_right b (pairs_in bs) up) i j d (omega arith) (omega arith)

-- a key that says whether a pair does not come after another
pub parted_pairs : (xs : List Pair) (p : Pair) → IsOrdered xs → (i j : ℕ) (d : Pair) → i ≤ j → j < length xs
    → not (is_before p (get_or xs j d)) ≡ true → not (is_before p (get_or xs i d)) ≡ true
parted_pairs xs p up i j d low within h =
    is_not (is_before p (get_or xs i d)) (not_before_trans (get_or xs i d) (get_or xs j d) p (ordered_at xs up i j d low within) (not_is (is_before p (get_or xs j d)) h))

pub parted_blocks : (bs : List (List Pair)) (p : Pair) → AreSome bs → IsOrdered (pairs_in bs) → (i j : ℕ) (d : List Pair) → i ≤ j → j < length bs
    → not (is_before p (first_of (get_or bs j d))) ≡ true → not (is_before p (first_of (get_or bs i d))) ≡ true
parted_blocks bs p some up i j d low within h =
    let x = first_of (get_or bs i d) in
    let y = first_of (get_or bs j d) in
    is_not (is_before p x) (not_before_trans x y p (firsts_ordered bs some up i j d low within) (not_is (is_before p y) h))

pub front_pairs : (xs : List Pair) (p : Pair) (j : ℕ) → ((k : ℕ) (d : Pair) → k < j → not (is_before p (get_or xs k d)) ≡ true) → (q : Pair) → In q (take j xs) → is_before p q ≡ false
front_pairs xs p j h q i = let (k, before, within, is) = in_taken xs j q i in
    subst (λ z. is_before p z ≡ false) (sym is) (not_is (is_before p (get_or xs k q)) (h k q before))

pub back_pairs : (xs : List Pair) (p : Pair) (j : ℕ) → ((k : ℕ) (d : Pair) → j ≤ k → k < length xs → not (is_before p (get_or xs k d)) ≡ false)
    → (q : Pair) → In q (drop j xs) → is_before p q ≡ true
back_pairs xs p j h q i = let (k, after, within, is) = in_dropped xs j q i in
    subst (λ z. is_before p z ≡ true) (sym is) (is_so (is_before p (get_or xs k q)) (h k q after within))

-- the place of a pair among blocks
before_first : (bs : List (List Pair)) (p : Pair) (r : ℕ) → AreSome bs → IsOrdered (pairs_in bs) → r < length bs → is_before p (first_of (get_or bs r [])) ≡ false
    → (q : Pair) → In q (pairs_in (take r bs)) → is_before p q ≡ false
before_first [] p r some up within h q i = absurd (omega arith)
before_first (b ∷ bs) p zero some up within h q i = absurd i
before_first (b ∷ bs) p (suc r) some up within h q i = elim (in_append q b (pairs_in (take r bs)) i) [
  | inl k ↦ (let f = first_of (get_or bs r []) in
      not_before_trans q f p (ordered_across b (pairs_in bs) up q f k (first_in_at bs r [] some.1 (omega arith))) h)
  | inr k ↦ before_first bs p r some.1 (ordered_right b (pairs_in bs) up) (omega arith) h q k
]

behind_first : (b : List Pair) (ps : List Pair) (p q : Pair) → 0 < length b → IsOrdered (b ++ ps) → is_before p (first_of b) ≡ true → In q (b ++ ps) → is_before p q ≡ true
behind_first [] ps p q some up h i = absurd (omega arith)
behind_first (f ∷ fs) ps p q some up h (inl e) = subst (λ z. is_before p z ≡ true) (sym e) h
behind_first (f ∷ fs) ps p q some up h (inr i) = elim (cases_Bool (is_before p q)) [
  | inl g ↦ g
  | inr g ↦ absurd (both_ways (is_before p f) (not_before_trans f q p (up.0 q i) g) h)
]

behind_all : (bs : List (List Pair)) (p : Pair) (k : ℕ) → AreSome bs → IsOrdered (pairs_in bs)
    → ((i : ℕ) → k ≤ i → i < length bs → is_before p (first_of (get_or bs i [])) ≡ true) → (q : Pair) → In q (pairs_in (drop k bs)) → is_before p q ≡ true
behind_all [] p zero some up h q i = absurd i
behind_all [] p (suc k) some up h q i = absurd i
behind_all (b ∷ bs) p zero some up h q i = behind_first b (pairs_in bs) p q some.0 up (h 0 (omega arith) (omega arith)) i
behind_all (b ∷ bs) p (suc k) some up h q i =
    behind_all bs p k some.1 (ordered_right b (pairs_in bs) up) (λ n low within. h (suc n) (omega arith) (omega arith)) q i

pub place_is : (bs : List (List Pair)) (p : Pair) (k : ℕ) → AreSome bs → IsOrdered (pairs_in bs) → k ≤ length bs → 0 < length bs
    → ((i : ℕ) (d : List Pair) → i < k → not (is_before p (first_of (get_or bs i d))) ≡ true)
    → ((i : ℕ) (d : List Pair) → k ≤ i → i < length bs → not (is_before p (first_of (get_or bs i d))) ≡ false) → IsPlace bs p (k - 1)
place_is bs p zero some up within any before beyond = record {
  front = λ q i. absurd i;
  back = behind_all bs p 1 some up (λ i low less. is_so (is_before p (first_of (get_or bs i []))) (beyond i [] (omega arith) less));
  first = inl refl;
}
place_is bs p (suc k) some up within any before beyond =
    let here : is_before p (first_of (get_or bs k [])) ≡ false = not_is (is_before p (first_of (get_or bs k []))) (before k [] (omega arith)) in
    let less : suc k - 1 ≡ k = omega arith in
    subst (IsPlace bs p) (sym less) (record {
      front = before_first bs p k some up (omega arith) here;
      back = behind_all bs p (k + 1) some up (λ i low less. is_so (is_before p (first_of (get_or bs i []))) (beyond i [] (omega arith) less));
      first = inr here;
    })

-- a block by its position
pub pairs_in_item : (bs : List (List Pair)) (i : ℕ) (b : List Pair) → i < length bs → b ≡ get_or bs i b → pairs_in bs ≡ pairs_in (take i bs) ++ (b ++ pairs_in (drop (i + 1) bs))
pairs_in_item bs i b within is = pairs_in_at bs i b within ∙ ap (λ l. pairs_in (take i bs) ++ (l ++ pairs_in (drop (i + 1) bs))) (sym is)

pub pairs_in_next : (bs : List (List Pair)) (i : ℕ) (b : List Pair) → i < length bs → b ≡ get_or bs i b → pairs_in (take (i + 1) bs) ≡ pairs_in (take i bs) ++ b
pairs_in_next bs i b within is = pairs_in_more bs i b within ∙ ap (λ l. pairs_in (take i bs) ++ l) (sym is)

pub ordered_block : (bs : List (List Pair)) (i : ℕ) (b : List Pair) → i < length bs → b ≡ get_or bs i b → IsOrdered (pairs_in bs) → IsOrdered b
ordered_block bs i b within is up =
    let back = pairs_in (drop (i + 1) bs) in
    ordered_left b back (ordered_right (pairs_in (take i bs)) (b ++ back) (subst IsOrdered (pairs_in_item bs i b within is) up))

pub block_in : (bs : List (List Pair)) (i : ℕ) (b : List Pair) → i < length bs → b ≡ get_or bs i b → (p : Pair) → In p b → In p (pairs_in bs)
block_in bs i b within is p k =
    let back = pairs_in (drop (i + 1) bs) in
    subst (In p) (sym (pairs_in_item bs i b within is)) (in_right p (pairs_in (take i bs)) (b ++ back) (in_left p b back k))

get_front : (xs ys : List Pair) (n : ℕ) (d : Pair) → n < length xs → slice_get (xs ++ ys) n ≡ Some (get_or xs n d)
get_front [] ys n d within = absurd (omega arith)
get_front (x ∷ xs) ys zero d within = refl
get_front (x ∷ xs) ys (suc n) d within = get_front xs ys n d (omega arith)

get_back : (xs ys : List Pair) (n m : ℕ) → n ≡ length xs + m → slice_get (xs ++ ys) n ≡ slice_get ys m
get_back [] ys n m e = let same : n ≡ m = omega arith in ap (slice_get ys) same
get_back (x ∷ xs) ys zero m e = absurd (omega arith)
get_back (x ∷ xs) ys (suc n) m e = get_back xs ys n m (omega arith)

pub nth_here : (bs : List (List Pair)) (i : ℕ) (b : List Pair) (n : ℕ) (d : Pair) → i < length bs → b ≡ get_or bs i b → n < length b
    → slice_get (pairs_in (drop i bs)) n ≡ Some (get_or b n d)
nth_here bs i b n d within is less =
    ap (λ l. slice_get (pairs_in l) n) (drop_more bs i b within ∙ ap (λ l. l ∷ drop (i + 1) bs) (sym is)) ∙ get_front b (pairs_in (drop (i + 1) bs)) n d less

pub nth_next : (bs : List (List Pair)) (i : ℕ) (b : List Pair) (n : ℕ) → i < length bs → b ≡ get_or bs i b → length b ≤ n
    → slice_get (pairs_in (drop i bs)) n ≡ slice_get (pairs_in (drop (i + 1) bs)) (n - length b)
nth_next bs i b n within is more =
    ap (λ l. slice_get (pairs_in l) n) (drop_more bs i b within ∙ ap (λ l. l ∷ drop (i + 1) bs) (sym is))
    ∙ get_back b (pairs_in (drop (i + 1) bs)) n (n - length b) (omega arith)

-- what is read within a list is no matter of what stands for the rest
pub same_default : {X : Type 0} (xs : List X) (i : ℕ) (d e : X) → i < length xs → get_or xs i d ≡ get_or xs i e
same_default [] i d e within = absurd (omega arith)
same_default (x ∷ xs) zero d e within = refl
same_default (x ∷ xs) (suc i) d e within = same_default xs i d e (omega arith)

pub at_default : {X : Type 0} (xs : List X) (i : ℕ) (x d : X) → i < length xs → x ≡ get_or xs i x → x ≡ get_or xs i d
at_default xs i x d within is = is ∙ same_default xs i x d within

-- a pair that goes into a block
pub put_at : (bs : List (List Pair)) (at : ℕ) (b x : List Pair) (j : ℕ) (p : Pair) → at < length bs → b ≡ get_or bs at b → IsOrdered (pairs_in bs) → AreOfKind p.1.kind (pairs_in bs)
    → IsPlace bs p at → ((q : Pair) → In q (take j b) → is_before p q ≡ false) → ((q : Pair) → In q (drop j b) → is_before p q ≡ true)
    → x ≡ insert b j p → pairs_in (set bs at x) ≡ pairs_with (pairs_in bs) p
put_at bs at b x j p within is up kinds place before behind e =
    let front = pairs_in (take at bs) in
    let back = pairs_in (drop (at + 1) bs) in
    let whole = pairs_in_item bs at b within is in
    pairs_in_set bs at x within ∙ ap (λ l. front ++ (l ++ back)) e
    ∙ put_among front b back j p (subst IsOrdered whole up) (subst (AreOfKind p.1.kind) whole kinds) place.front place.back before behind
    ∙ ap (λ l. pairs_with l p) (sym whole)

pub put_parted : (bs : List (List Pair)) (at : ℕ) (b x y : List Pair) (j : ℕ) (p : Pair) → at < length bs → b ≡ get_or bs at b → IsOrdered (pairs_in bs)
    → AreOfKind p.1.kind (pairs_in bs) → IsPlace bs p at → ((q : Pair) → In q (take j b) → is_before p q ≡ false) → ((q : Pair) → In q (drop j b) → is_before p q ≡ true)
    → x ++ y ≡ insert b j p → pairs_in (insert (set bs at x) (at + 1) y) ≡ pairs_with (pairs_in bs) p
put_parted bs at b x y j p within is up kinds place before behind e =
    let front = pairs_in (take at bs) in
    let back = pairs_in (drop (at + 1) bs) in
    let whole = pairs_in_item bs at b within is in
    pairs_in_parted bs at x y within ∙ ap (λ l. front ++ (l ++ back)) e
    ∙ put_among front b back j p (subst IsOrdered whole up) (subst (AreOfKind p.1.kind) whole kinds) place.front place.back before behind
    ∙ ap (λ l. pairs_with l p) (sym whole)

-- a pair that is held stands in front of its place in its block
pub held_before : (bs : List (List Pair)) (at : ℕ) (b : List Pair) (j : ℕ) (p : Pair) → at < length bs → b ≡ get_or bs at b → AreSome bs → IsPlace bs p at
    → ((q : Pair) → In q (drop j b) → is_before p q ≡ true) → In p (pairs_in bs) → 0 < j
held_before bs at b j p within is some place behind there =
    let here : b ≡ get_or bs at [] = at_default bs at b [] within is in
    let first : (pairs_in (take at bs) ≡ []) ⊎ (is_before p (first_of b) ≡ false) = elim place.first [
      | inl e ↦ inl (ap (λ n. pairs_in (take n bs)) e)
      | inr h ↦ inr (ap (λ l. is_before p (first_of l)) here ∙ h)
    ] in
    some_before (pairs_in (take at bs)) b (pairs_in (drop (at + 1) bs)) j p (subst (λ l. 0 < length l) (sym is) (some_at bs at b within some)) first place.back behind
    (subst (In p) (pairs_in_item bs at b within is) there)

-- a pair that goes out of a block
pub take_at : (bs : List (List Pair)) (at : ℕ) (b x : List Pair) (j : ℕ) (p : Pair) → at < length bs → b ≡ get_or bs at b → IsOrdered (pairs_in bs) → AreOfKind p.1.kind (pairs_in bs)
    → IsPlace bs p at → ((q : Pair) → In q (take j b) → is_before p q ≡ false) → ((q : Pair) → In q (drop j b) → is_before p q ≡ true)
    → In p (pairs_in bs) → 0 < j → j ≤ length b → x ≡ remove b (j - 1) → pairs_in bs ≡ pairs_with (pairs_in (set bs at x)) p
take_at bs at b x j p within is up kinds place before behind there positive most e =
    let front = pairs_in (take at bs) in
    let back = pairs_in (drop (at + 1) bs) in
    let whole = pairs_in_item bs at b within is in
    let next : j ≡ j - 1 + 1 = omega arith in
    whole
    ∙ take_among front b back (j - 1) p (subst IsOrdered whole up) (subst (AreOfKind p.1.kind) whole kinds) (omega arith) place.back
    (subst (λ n. (q : Pair) → In q (take n b) → is_before p q ≡ false) next before) (subst (λ n. (q : Pair) → In q (drop n b) → is_before p q ≡ true) next behind) (subst (In p) whole there)
    ∙ ap (λ l. pairs_with l p) (sym (pairs_in_set bs at x within ∙ ap (λ l. front ++ (l ++ back)) e))

none_left : (xs : List Pair) → length xs ≡ 0 → xs ≡ []
none_left [] h = refl
none_left (x ∷ xs) h = absurd (omega arith)

pub take_only : (bs : List (List Pair)) (at : ℕ) (b : List Pair) (j : ℕ) (p : Pair) → at < length bs → b ≡ get_or bs at b → IsOrdered (pairs_in bs) → AreOfKind p.1.kind (pairs_in bs)
    → IsPlace bs p at → ((q : Pair) → In q (take j b) → is_before p q ≡ false) → ((q : Pair) → In q (drop j b) → is_before p q ≡ true)
    → In p (pairs_in bs) → 0 < j → j ≤ length b → length b ≤ 1 → pairs_in bs ≡ pairs_with (pairs_in (remove bs at)) p
take_only bs at b j p within is up kinds place before behind there positive most few =
    let front = pairs_in (take at bs) in
    let back = pairs_in (drop (at + 1) bs) in
    let whole = pairs_in_item bs at b within is in
    let next : j ≡ j - 1 + 1 = omega arith in
    let fewer : length (remove b (j - 1)) + 1 ≡ length b = length-remove b (j - 1) (omega arith) in
    let none : remove b (j - 1) ≡ [] = none_left (remove b (j - 1)) (omega arith) in
    whole
    ∙ take_among front b back (j - 1) p (subst IsOrdered whole up) (subst (AreOfKind p.1.kind) whole kinds) (omega arith) place.back
    (subst (λ n. (q : Pair) → In q (take n b) → is_before p q ≡ false) next before) (subst (λ n. (q : Pair) → In q (drop n b) → is_before p q ≡ true) next behind) (subst (In p) whole there)
    ∙ ap (λ l. pairs_with (front ++ (l ++ back)) p) none
    ∙ ap (λ l. pairs_with l p) (sym (pairs_in_remove bs at))

-- a block that is written back as it was
pub kept_block : {X : Type 0} (xs : List X) (at : ℕ) (x : X) → x ≡ get_or xs at x → set xs at x ≡ xs
kept_block xs at x is = ap (set xs at) is ∙ set-get_or xs at x

-- a block that is joined with the one behind it
joined_parts : (bs rest : List (List Pair)) (at i : ℕ) (b c x : List Pair) → at ≡ i + 1 → at < length bs → rest ≡ remove bs at → b ≡ get_or rest i b → c ≡ get_or bs at c
    → x ≡ b ++ c → set rest i x ≡ set (remove bs (i + 1)) i (get_or bs i [] ++ get_or bs (i + 1) [])
joined_parts bs rest at i b c x next within is at_b at_c e =
    let less : i + 1 < length bs = omega arith in
    let rest_is : rest ≡ remove bs (i + 1) = is ∙ ap (remove bs) next in
    let b_is : b ≡ get_or bs i [] = at_b ∙ ap (λ l. get_or l i b) rest_is ∙ get_or-remove_below bs (i + 1) b i (omega arith) less ∙ same_default bs i b [] (omega arith) in
    let c_is : c ≡ get_or bs (i + 1) [] = at_c ∙ ap (λ n. get_or bs n c) next ∙ same_default bs (i + 1) c [] less in
    ap₂ (λ l y. set l i y) rest_is (e ∙ ap₂ (λ l r. l ++ r) b_is c_is)

pub joined_same : (bs rest : List (List Pair)) (at i : ℕ) (b c x : List Pair) → at ≡ i + 1 → at < length bs → rest ≡ remove bs at → b ≡ get_or rest i b → c ≡ get_or bs at c
    → x ≡ b ++ c → pairs_in (set rest i x) ≡ pairs_in bs
joined_same bs rest at i b c x next within is at_b at_c e =
    ap pairs_in (joined_parts bs rest at i b c x next within is at_b at_c e) ∙ pairs_in_joined bs i [] (omega arith)

pub joined_some : (bs rest : List (List Pair)) (at i : ℕ) (b c x : List Pair) → at ≡ i + 1 → at < length bs → rest ≡ remove bs at → b ≡ get_or rest i b → c ≡ get_or bs at c
    → x ≡ b ++ c → AreSome bs → AreSome (set rest i x)
joined_some bs rest at i b c x next within is at_b at_c e some =
    let first : 0 < length (get_or bs i []) = some_at bs i [] (omega arith) some in
    let both : length (get_or bs i [] ++ get_or bs (i + 1) []) ≡ length (get_or bs i []) + length (get_or bs (i + 1) []) = length-append (get_or bs i []) (get_or bs (i + 1) []) in
    subst AreSome (sym (joined_parts bs rest at i b c x next within is at_b at_c e))
    (some_joined bs i (get_or bs i [] ++ get_or bs (i + 1) []) (omega arith) (omega arith) some)

-- a block is no longer than all
pub long_block : (bs : List (List Pair)) (i : ℕ) (b : List Pair) → i < length bs → b ≡ get_or bs i b → length b ≤ length (pairs_in bs)
long_block bs i b within is =
    let front = pairs_in (take i bs) in
    let back = pairs_in (drop (i + 1) bs) in
    let whole = ap length (pairs_in_item bs i b within is) in
    let one = length-append front (b ++ back) in
    let two = length-append b back in
    omega arith

-- a pair that goes behind all others of its block, or into the last block
pub front_last : (xs : List Pair) (p z : Pair) (n : ℕ) → IsOrdered xs → n + 1 ≡ length xs → z ≡ get_or xs n z → is_before p z ≡ false
    → (q : Pair) → In q (take (n + 1) xs) → is_before p q ≡ false
front_last xs p z n up long is h q i =
    let (k, before, within, at) = in_taken xs (n + 1) q i in
    let rise : is_before (get_or xs n q) (get_or xs k q) ≡ false = ordered_at xs up k n q (omega arith) (omega arith) in
    let top : z ≡ get_or xs n q = at_default xs n z q (omega arith) is in
    not_before_trans q z p (subst (λ x. is_before z x ≡ false) (sym at) (subst (λ x. is_before x (get_or xs k q) ≡ false) (sym top) rise)) h

pub back_last : (xs : List Pair) (n : ℕ) → n + 1 ≡ length xs → (q : Pair) → In q (drop (n + 1) xs) → ⊥
back_last xs n long q i = subst (In q) (drop_all (n + 1) xs (omega arith)) i

pub place_last : (bs : List (List Pair)) (p : Pair) (b : List Pair) (n : ℕ) → AreSome bs → IsOrdered (pairs_in bs) → n + 1 ≡ length bs → b ≡ get_or bs n b
    → is_before p (first_of b) ≡ false → IsPlace bs p n
place_last bs p b n some up long is h =
    let here : is_before p (first_of (get_or bs n [])) ≡ false = ap (λ l. is_before p (first_of l)) (sym (at_default bs n b [] (omega arith) is)) ∙ h in
    record {
      front = before_first bs p n some up (omega arith) here;
      back = λ q i. absurd (subst (λ l. In q (pairs_in l)) (drop_all (n + 1) bs (omega arith)) i);
      first = inr here;
    }
