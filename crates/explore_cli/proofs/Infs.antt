-- INFs that are read one after another.
use Rattle.std.proofs.Common.{◌≡◌, ℕ, zero, suc, ◌+◌, ◌<◌, ◌≤◌, List, [], ◌∷◌, ◌++◌, length, take, drop, get_or, Option, Some, None, IfSome, Result, Ok, Err, IfErr, IsErrAnd, refl, sym, ap, subst, ◌∙◌, arith}
use Rattle.inf_reader.specs.declared.parts.Inf.{Inf}
use Rattle.pnp_cli.specs.declared.infs.InfsError.{InfsError}
use Rattle.pnp_cli.specs.declared.infs.InfsError.TheVariants as infs
use Rattle.explore_cli.specs.declared.files.Infs.{Infs}
use Rattle.explore_cli.specs.Explored.{IsInf, AreInfs, HasKept, RefusedAs, RefusedIn}

-- one more was read
pub infs_more : (contents : List ℕ → Option (List ℕ)) (names : List (List ℕ)) (reads : List Inf) (digests : List (List ℕ)) (name : List ℕ) (read : Inf) (digest : List ℕ)
    → AreInfs contents names reads digests → IsInf contents name read digest → AreInfs contents (names ++ name ∷ []) (reads ++ read ∷ []) (digests ++ digest ∷ [])
infs_more contents [] [] [] name read digest h k = (k, tt)
infs_more contents [] [] (d ∷ digests) name read digest h k = absurd h
infs_more contents [] (r ∷ reads) digests name read digest h k = absurd h
infs_more contents (n ∷ names) [] digests name read digest h k = absurd h
infs_more contents (n ∷ names) (r ∷ reads) [] name read digest h k = absurd h
infs_more contents (n ∷ names) (r ∷ reads) (d ∷ digests) name read digest h k = (h.0, infs_more contents names reads digests name read digest h.1 k)

plus_one : (n : ℕ) → n + 1 ≡ suc n
plus_one n = omega arith

taken_suc : (xs : List (List ℕ)) (n : ℕ) → n < length xs → take (suc n) xs ≡ take n xs ++ get_or xs n [] ∷ []
taken_suc [] n l = absurd (omega (arith, l))
taken_suc (x ∷ xs) zero l = refl
taken_suc (x ∷ xs) (suc n) l = ap (λ t. x ∷ t) (taken_suc xs n (omega (arith, l)))

taken_apart : (xs : List (List ℕ)) (n : ℕ) → n < length xs → xs ≡ take n xs ++ get_or xs n [] ∷ drop (suc n) xs
taken_apart [] n l = absurd (omega (arith, l))
taken_apart (x ∷ xs) zero l = refl
taken_apart (x ∷ xs) (suc n) l = ap (λ t. x ∷ t) (taken_apart xs n (omega (arith, l)))

taken_many : (xs : List (List ℕ)) (n : ℕ) → n < length xs → length (take n xs) ≡ n
taken_many [] n l = absurd (omega (arith, l))
taken_many (x ∷ xs) zero l = refl
taken_many (x ∷ xs) (suc n) l = ap suc (taken_many xs n (omega (arith, l)))

-- the INF of the next name was read
pub read_more : (o now : Option (List ℕ → Option (List ℕ))) (names : List (List ℕ)) (at : ℕ) (name : List ℕ) (old new : Infs) → at < length names → get_or names at [] ≡ name → now ≡ o
    → IfSome o (λ told. AreInfs told (take at names) old.read.items old.digests.items) → IfSome now (λ told. HasKept told name old new)
    → IfSome o (λ told. AreInfs told (take (at + 1) names) new.read.items new.digests.items)
read_more o now names at name old new l is same h k = by_case o h (subst (λ x. IfSome x (λ told. HasKept told name old new)) same k)
  where
    by_case : (o : Option (List ℕ → Option (List ℕ))) → IfSome o (λ told. AreInfs told (take at names) old.read.items old.digests.items) → IfSome o (λ told. HasKept told name old new)
        → IfSome o (λ told. AreInfs told (take (at + 1) names) new.read.items new.digests.items)
    by_case None h k = tt
    by_case (Some told) h k =
        subst (λ ns. AreInfs told ns new.read.items new.digests.items) (ap (λ x. take at names ++ x ∷ []) (sym is) ∙ sym (taken_suc names at l) ∙ ap (λ m. take m names) (sym (plus_one at)))
        (subst (λ rs. AreInfs told (take at names ++ name ∷ []) rs new.digests.items) (sym k.infs_are)
        (subst (λ ds. AreInfs told (take at names ++ name ∷ []) (old.read.items ++ k.read ∷ []) ds) (sym k.digests_are)
        (infs_more told (take at names) old.read.items old.digests.items name k.read k.digest h k.is)))

-- that of the next name is refused
pub read_stop : (o now : Option (List ℕ → Option (List ℕ))) (names : List (List ℕ)) (at : ℕ) (name : List ℕ) (old : Infs) (error : InfsError) → at < length names → get_or names at [] ≡ name → now ≡ o → length old.read.items ≡ at
    → IfSome o (λ told. AreInfs told (take at names) old.read.items old.digests.items) → IfSome now (λ told. RefusedAs told name (length old.read.items + 1) error)
    → IfSome o (λ told. RefusedIn told names error)
read_stop o now names at name old error l is same few h k = by_case o h (subst (λ x. IfSome x (λ told. RefusedAs told name (length old.read.items + 1) error)) same k)
  where
    by_error : (told : List ℕ → Option (List ℕ)) (error : InfsError) → AreInfs told (take at names) old.read.items old.digests.items → RefusedAs told name (length old.read.items + 1) error → RefusedIn told names error
    by_error told (infs.Refused number error) h k = record {
      before = take at names;
      name = name;
      behind = drop (suc at) names;
      named = taken_apart names at l ∙ ap (λ x. take at names ++ x ∷ drop (suc at) names) is;
      numbered = k.0 ∙ ap (λ n. n + 1) (few ∙ sym (taken_many names at l));
      reads = old.read.items;
      digests = old.digests.items;
      are = h;
      bytes = k.1;
      there = k.2;
      refused = k.3;
    }
    by_error told infs.ReadFault h k = tt
    by_error told infs.TooLarge h k = tt
    by_error told infs.WantOfMemory h k = tt

    by_case : (o : Option (List ℕ → Option (List ℕ))) → IfSome o (λ told. AreInfs told (take at names) old.read.items old.digests.items) → IfSome o (λ told. RefusedAs told name (length old.read.items + 1) error)
        → IfSome o (λ told. RefusedIn told names error)
    by_case None h k = tt
    by_case (Some told) h k = by_error told error h k

taken_all : (xs : List (List ℕ)) (n : ℕ) → length xs ≤ n → take n xs ≡ xs
taken_all [] zero l = refl
taken_all [] (suc n) l = refl
taken_all (x ∷ xs) zero l = absurd (omega (arith, l))
taken_all (x ∷ xs) (suc n) l = ap (λ t. x ∷ t) (taken_all xs n (omega (arith, l)))

-- all were read
pub read_all : (o : Option (List ℕ → Option (List ℕ))) (names : List (List ℕ)) (at : ℕ) (reads : List Inf) (digests : List (List ℕ)) → length names ≤ at
    → IfSome o (λ told. AreInfs told (take at names) reads digests) → IfSome o (λ told. AreInfs told names reads digests)
read_all o names at reads digests l h = subst (λ ns. IfSome o (λ told. AreInfs told ns reads digests)) (taken_all names at l) h

-- why one was not read is handed on
pub refused_on : (r : Result Infs InfsError) (error : InfsError) (o : Option (List ℕ → Option (List ℕ))) (names : List (List ℕ)) → IsErrAnd r (λ e. e ≡ error) → IfSome o (λ told. RefusedIn told names error)
    → IfErr r (λ e. IfSome o (λ told. RefusedIn told names e))
refused_on (Ok x) error o names is h = tt
refused_on (Err e) error o names is h = subst (λ x. IfSome o (λ told. RefusedIn told names x)) (sym is) h
