-- Lemmas on reads and writes of the outside.
use Rattle.std.proofs.Common.{◌≡◌, ℕ, ◌+◌, ◌-◌, ◌≤◌, ◌<◌, List, [], ◌++◌, length, take, drop, Option, Some, None, refl, ap, sym, ◌∙◌, arith, option_map, IfSome, length-append, length-drop, append_assoc}
use Rattle.std.proofs.lemmas.List.{take-append-drop, drop_all, append-nil, length-take-le}
use Rattle.std.proofs.Math.Seq.{drop-append-add, take-add}
use Rattle.std.proofs.lemmas.Grind.{common_steps}
use Rattle.pnp_io.specs.Outside.{Appends, Reads, ReadsTold, Holds, HoldsMore}

-- where the file is there it begins with these bytes, and where there are any it is there
pub record Begins (file : Option (List ℕ)) (bytes : List ℕ) : Type 0 where
  pub front : (whole : List ℕ) → file ≡ Some whole → whole ≡ bytes ++ drop (length bytes) whole
  pub there : 0 < length bytes → (whole : List ℕ) × (file ≡ Some whole)

-- the same, where the contents are told
abbrev pub BeginsTold : Option (List ℕ → Option (List ℕ)) → List ℕ → List ℕ → Type 0
BeginsTold contents name bytes = IfSome contents (λ told. Begins (told name) bytes)

pub begins_nothing : (contents : Option (List ℕ → Option (List ℕ))) (name : List ℕ) → BeginsTold contents name []
begins_nothing None name = tt
begins_nothing (Some told) name = record { front = λ w e. grind (arith, common_steps); there = λ h. absurd (omega arith) }

joins : (bytes rest : List ℕ) (n : ℕ) → n ≤ length rest → bytes ++ rest ≡ (bytes ++ take n rest) ++ drop (length (bytes ++ take n rest)) (bytes ++ rest)
joins bytes rest n low =
    let long : length (bytes ++ take n rest) ≡ length bytes + n = omega (arith, length-append bytes (take n rest), length-take-le n rest low) in
    rw (long, drop-append-add, append_assoc, take-append-drop) refl

-- what a read put at the front of the buffer
front_is : (bytes old : List ℕ) (n : ℕ) → n ≤ length bytes → take n (take n bytes ++ drop n old) ≡ take n bytes
front_is bytes old n low = grind (arith, common_steps)

begins_more : (file : Option (List ℕ)) (bytes : List ℕ) (n : ℕ) (old new : List ℕ) → Begins file bytes → Reads file (length bytes) n old new → Begins file (bytes ++ take n new)
begins_more file bytes n old new begins reads =
    let low : n ≤ length (drop (length bytes) reads.bytes) = omega (arith, length-drop (length bytes) reads.bytes, reads.enough) in
    let put : take n new ≡ take n (drop (length bytes) reads.bytes) = ap (take n) reads.part ∙ front_is (drop (length bytes) reads.bytes) old n low in
    let whole = begins.front reads.bytes reads.there in
    let all : reads.bytes ≡ (bytes ++ take n new) ++ drop (length (bytes ++ take n new)) reads.bytes =
    rw put (let step = joins bytes (drop (length bytes) reads.bytes) n low in rw (← whole) at step) in
    record {
      front = λ w e. let same : w ≡ reads.bytes = (let h = reads.there in cc) in rw same all;
      there = λ h. (reads.bytes, reads.there);
    }

ends : (file : Option (List ℕ)) (bytes : List ℕ) (old new : List ℕ) → Begins file bytes → Reads file (length bytes) 0 old new → 0 < length old → file ≡ Some bytes
ends file bytes old new begins reads some =
    let whole = begins.front reads.bytes reads.there in
    let end : length reads.bytes ≤ length bytes = reads.end refl some in
    let all : reads.bytes ≡ bytes = whole ∙ (ap (λ (r : List ℕ). bytes ++ r) (drop_all (length bytes) reads.bytes end) ∙ append-nil bytes) in
    reads.there ∙ ap Some all

pub begins_more_told : (contents : Option (List ℕ → Option (List ℕ))) (name bytes : List ℕ) (at n : ℕ) (old new : List ℕ) → at ≡ length bytes → BeginsTold contents name bytes → ReadsTold contents name at n old new → BeginsTold contents name (bytes ++ take n new)
begins_more_told None name bytes at n old new e begins reads = tt
begins_more_told (Some told) name bytes at n old new e begins reads = begins_more (told name) bytes n old new begins (rw e at reads)

pub ends_told : (contents : Option (List ℕ → Option (List ℕ))) (name bytes : List ℕ) (at n : ℕ) (old new : List ℕ) → at ≡ length bytes → n ≡ 0 → 0 < length old → BeginsTold contents name bytes → ReadsTold contents name at n old new → Holds contents name bytes
ends_told None name bytes at n old new e none some begins reads = tt
ends_told (Some told) name bytes at n old new e none some begins reads = ends (told name) bytes old new begins (rw (none, e) at reads) some

pub more_told : (contents : Option (List ℕ → Option (List ℕ))) (name bytes : List ℕ) (limit : ℕ) → limit < length bytes → BeginsTold contents name bytes → HoldsMore contents name limit
more_told None name bytes limit above begins = tt
more_told (Some told) name bytes limit above begins =
    let there = begins.there (omega arith) in
    (there.0, there.1, omega (arith, ap length (begins.front there.0 there.1), length-append bytes (drop (length bytes) there.0)))

pub appends_more : (old mid new : Option (List ℕ)) (bytes : List ℕ) (a n : ℕ) → a ≤ length bytes → Appends old mid (take a bytes) → Appends mid new (take n (take (length bytes - a) (drop a bytes))) → Appends old new (take (a + n) bytes)
appends_more None mid new bytes a n low one two = two ∙ ap (option_map _) one
appends_more (Some t) mid new bytes a n low one two =
    let rest : take (length bytes - a) (drop a bytes) ≡ drop a bytes = grind (arith, common_steps) in
    (rw rest at two) ∙ (ap (option_map (λ (u : List ℕ). u ++ take n (drop a bytes))) one ∙ ap Some (append_assoc t (take a bytes) (take n (drop a bytes)) ∙ ap (λ (r : List ℕ). t ++ r) (sym (take-add a n bytes))))
