-- What the texts so far are, and those that are left.
use Rattle.std.proofs.Common.{◌≡◌, ◌≢◌, ℕ, ◌+◌, ◌<◌, ◌≤◌, Bool, true, false, nat_le, List, [], ◌∷◌, ◌++◌, length, get_or, drop, map, Result, Ok, Err, refl, sym, ◌∙◌, ap, arith, suc, add-one, append_assoc, append-nil, length-append, ◌==◌, Bor, cond}
use Rattle.std.proofs.Math.ListN.{get_or-map}
use Rattle.std.proofs.Math.Seq.{drop-cons}
use Rattle.std.proofs.lemmas.Bool.{le-leb, lt-leb}
use Rattle.std.proofs.lemmas.List.{drop_all}
use Rattle.std.proofs.lemmas.List.Splits.{length-slice_split}
use Rattle.device_ids.specs.Cuts.{parts}
use Rattle.script_reader.specs.Faults.{Fault, ◌>>=◌}
use Rattle.script_reader.specs.Wants.{each_of, all_of}

-- these, and then those that are read, if they are
abbrev pub onto : {A : Type 0} → List A → Result (List A) Fault → Result (List A) Fault
onto xs (Err f) = Err f
onto xs (Ok ys) = Ok (xs ++ ys)

pub record Gathered {A : Type 0} (read : List ℕ → Result A Fault) (texts : List (List ℕ)) (i : ℕ) (xs : List A) : Type 0 where
  pub is : each_of read texts ≡ onto xs (each_of read (drop i texts))
  pub count : length xs ≡ i

same : {A : Type 0} (o : Result (List A) Fault) → o ≡ onto [] o
same (Err f) = refl
same (Ok xs) = refl

pub gathered_none : {A : Type 0} (read : List ℕ → Result A Fault) (texts : List (List ℕ)) → Gathered read texts 0 []
gathered_none read texts = record { is = same (each_of read texts); count = refl }

onto_one : {A : Type 0} (xs : List A) (x : A) (o : Result (List A) Fault) → onto xs (o >>= λ ys. Ok (x ∷ ys)) ≡ onto (xs ++ x ∷ []) o
onto_one xs x (Err f) = refl
onto_one xs x (Ok ys) = ap (λ (zs : List _). Ok zs) (sym (append_assoc xs (x ∷ []) ys))

-- the next text is read first
reads_on : {A : Type 0} (read : List ℕ → Result A Fault) (texts : List (List ℕ)) (i : ℕ) (xs : List A) (text : List ℕ) (o : Result A Fault)
    → i < length texts → get_or texts i [] ≡ text → read text ≡ o → Gathered read texts i xs
    → each_of read texts ≡ onto xs (o >>= λ v. each_of read (drop (suc i) texts) >>= λ vs. Ok (v ∷ vs))
reads_on read texts i xs text o less here is so =
    so.is ∙ ap (λ t. onto xs (each_of read t)) (drop-cons texts i [] less)
    ∙ ap (λ p. onto xs (p >>= λ v. each_of read (drop (suc i) texts) >>= λ vs. Ok (v ∷ vs))) (ap read here ∙ is)

-- there is a part always
pub some_parts : (at : ℕ) (text : List ℕ) → 0 < length (parts at text)
some_parts at text = omega (arith, length-slice_split (λ b. b == at) text)

abbrev pub no_item : Bor (List ℕ)
no_item = record { ref_ptr = (0, 0); now = [] }

abbrev pub now_of : List (Bor (List ℕ)) → List (List ℕ)
now_of items = map (λ x. x.now) items

pub length_now : (items : List (Bor (List ℕ))) → length (now_of items) ≡ length items
length_now [] = refl
length_now (x ∷ items) = ap (λ n. suc n) (length_now items)

pub less_now : (items : List (Bor (List ℕ))) (i : ℕ) → i < length items → i < length (now_of items)
less_now items i less = omega (arith, length_now items)

pub item : (items : List (Bor (List ℕ))) (i : ℕ) → get_or (now_of items) i [] ≡ (get_or items i no_item).now
item items i = get_or-map (λ (x : Bor (List ℕ)). x.now) items i no_item

-- More texts than there may be; a loop over the others ---------------------------------------

pub too_many : {A : Type 0} (most : ℕ) (many : Fault) (read : List ℕ → Result A Fault) (texts : List (List ℕ)) → most < length texts → all_of most many read texts ≡ Err many
too_many most many read texts more = ap (λ b. cond b (each_of read texts) (Err many)) (lt-leb (length texts) most more)

few_enough : {A : Type 0} (most : ℕ) (many : Fault) (read : List ℕ → Result A Fault) (texts : List (List ℕ)) → length texts ≤ most → all_of most many read texts ≡ each_of read texts
few_enough most many read texts few = ap (λ b. cond b (each_of read texts) (Err many)) (le-leb (length texts) most few)

pub bad_part : {A : Type 0} (most : ℕ) (many : Fault) (read : List ℕ → Result A Fault) (items : List (Bor (List ℕ))) (texts : List (List ℕ)) (i : ℕ) (xs : List A) (f : Fault)
    → now_of items ≡ texts → length items ≤ most → i < length items → read (get_or items i no_item).now ≡ Err f → Gathered read (now_of items) i xs
    → all_of most many read texts ≡ Err f
bad_part most many read items texts i xs f whole few less is so =
    ap (all_of most many read) (sym whole) ∙ few_enough most many read (now_of items) (omega (arith, length_now items))
    ∙ reads_on read (now_of items) i xs (get_or items i no_item).now (Err f) (less_now items i less) (item items i) is so

pub next_part : {A : Type 0} (read : List ℕ → Result A Fault) (items : List (Bor (List ℕ))) (i : ℕ) (xs ys : List A) (x : A)
    → i < length items → read (get_or items i no_item).now ≡ Ok x → ys ≡ xs ++ x ∷ [] → Gathered read (now_of items) i xs
    → Gathered read (now_of items) (i + 1) ys
next_part read items i xs ys x less is one so = record {
  is = reads_on read (now_of items) i xs (get_or items i no_item).now (Ok x) (less_now items i less) (item items i) is so
      ∙ onto_one xs x (each_of read (drop (suc i) (now_of items)))
      ∙ ap (λ n. onto (xs ++ x ∷ []) (each_of read (drop n (now_of items)))) (sym (add-one i))
      ∙ ap (λ zs. onto zs (each_of read (drop (i + 1) (now_of items)))) (sym one);
  count = ap length one ∙ length-append xs (x ∷ []) ∙ ap (λ n. n + 1) so.count;
}

pub all_parts : {A : Type 0} (most : ℕ) (many : Fault) (read : List ℕ → Result A Fault) (items : List (Bor (List ℕ))) (texts : List (List ℕ)) (i : ℕ) (xs : List A)
    → now_of items ≡ texts → length items ≤ most → length items ≤ i → Gathered read (now_of items) i xs
    → all_of most many read texts ≡ Ok xs
all_parts most many read items texts i xs whole few long so =
    ap (all_of most many read) (sym whole) ∙ few_enough most many read (now_of items) (omega (arith, length_now items))
    ∙ so.is ∙ ap (λ t. onto xs (each_of read t)) (drop_all i (now_of items) (omega (arith, length_now items)))
    ∙ ap (λ ys. Ok ys) (append-nil xs)

-- Room for what is read, which is not empty ----------------------------------------------------

pub has_room : {A : Type 0} (most : ℕ) (read : List ℕ → Result A Fault) (items : List (Bor (List ℕ))) (i : ℕ) (xs : List A)
    → length items ≤ most → i < length items → Gathered read (now_of items) i xs → length xs < most
has_room most read items i xs few less so = omega (arith, so.count)

one_read : {A : Type 0} (o : Result A Fault) (p : Result (List A) Fault) → (o >>= λ x. p >>= λ xs. Ok (x ∷ xs)) ≡ Ok [] → ⊥
one_read (Err f) p h = cc
one_read (Ok x) (Err f) h = cc
one_read (Ok x) (Ok xs) h = cc

none_read : {A : Type 0} (read : List ℕ → Result A Fault) (texts : List (List ℕ)) → each_of read texts ≡ Ok [] → length texts ≡ 0
none_read read [] is = refl
none_read read (text ∷ texts) is = absurd (one_read (read text) (each_of read texts) is)

some_of : {A : Type 0} (most : ℕ) (many : Fault) (read : List ℕ → Result A Fault) (texts : List (List ℕ)) → 0 < length texts
    → all_of most many read texts ≡ Ok [] → ⊥
some_of most many read texts some is = by_test (nat_le (length texts) most) is
  where
    by_test : (b : Bool) → cond b (each_of read texts) (Err many) ≡ Ok [] → ⊥
    by_test true h = let empty = none_read read texts h in omega arith
    by_test false h = cc

pub some_read : {A : Type 0} (most : ℕ) (many : Fault) (read : List ℕ → Result A Fault) (at : ℕ) (text : List ℕ) (xs : List A)
    → all_of most many read (parts at text) ≡ Ok xs → xs ≢ []
some_read most many read at text xs is none = some_of most many read (parts at text) (some_parts at text) (is ∙ ap (λ ys. Ok ys) none)
