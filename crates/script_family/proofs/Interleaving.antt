-- Two scripts woven line by line, by the number of the way.
use Rattle.std.proofs.Common.{◌≡◌, refl, sym, ◌∙◌, ap, ap₂, subst, ℕ, zero, suc, ◌+◌, ◌-◌, ◌^◌, ◌<◌, ◌≤◌, min, arith, length, length-append, get_or, take, drop, map, List, [], ◌∷◌, ◌++◌, Bool, true, false, append_assoc, append-nil, length-drop, length-take}
use Rattle.std.proofs.lemmas.List.{get_or_append_left, get_or-append_right, length-map, take_at, drop_at, take_rest}
use Rattle.script_family.specs.Families.{Family, Script, patterns, woven, scripts_of}
use Rattle.script_family.specs.Counts.{ways, firsts_of, count, capped}
use Rattle.script_family.specs.Parts.{script_at}
use Rattle.script_family.specs.Tasks.{rewoven}
use Rattle.script_family.proofs.Counting.{length_patterns, counted}
use Rattle.script_family.proofs.Members.{length_of, elem_get}
use Rattle.script_family.proofs.Pascal.{ways_none}

get_map : (v : Bool) (ps : List (List Bool)) (p : ℕ) → p < length ps → get_or (map (λ q. v ∷ q) ps) p [] ≡ v ∷ get_or ps p []
get_map v [] p lt = absurd (omega arith)
get_map v (q ∷ ps) zero lt = refl
get_map v (q ∷ ps) (suc p) lt = get_map v ps p (omega arith)

pub way_first : (n k p : ℕ) → p < ways n k → get_or (patterns (suc n) (suc k)) p [] ≡ true ∷ get_or (patterns n k) p []
way_first n k p lt =
    let few : p < length (patterns n k) = omega (arith, length_patterns n k) in
    get_or_append_left (map (λ q. true ∷ q) (patterns n k)) (map (λ q. false ∷ q) (patterns n (suc k))) [] p
    (omega (arith, length-map (patterns n k) (λ q. true ∷ q)))
    ∙ get_map true (patterns n k) p few

pub way_second : (n k p : ℕ) → firsts_of n k ≤ p → p < ways (suc n) k → get_or (patterns (suc n) k) p [] ≡ false ∷ get_or (patterns n k) (p - firsts_of n k) []
way_second n zero p le lt =
    get_map false (patterns n zero) p (omega (arith, length_patterns n zero)) ∙ ap (λ m. false ∷ get_or (patterns n zero) m []) (same p)
  where
    same : (p : ℕ) → p ≡ p - 0
    same p = omega arith
way_second n (suc k) p le lt =
    let firsts : length (map (λ q. true ∷ q) (patterns n k)) ≡ ways n k = length-map (patterns n k) (λ q. true ∷ q) ∙ length_patterns n k in
    get_or-append_right (map (λ q. true ∷ q) (patterns n k)) (map (λ q. false ∷ q) (patterns n (suc k))) (ways n k) p [] firsts le
    ∙ get_map false (patterns n (suc k)) (p - ways n k) (omega (arith, length_patterns n (suc k)))

-- what was woven, with what is left of both, makes this script
pub record Weaving (rows : ℕ) (fs ss out : Script) (w : ℕ) (whole : Script) : Type 0 where
  pub room : length fs + length ss < rows
  pub there : w < ways (length fs + length ss) (length fs)
  pub exact : w < 2 ^ 64 - 1
  pub small : length fs + length ss < 2 ^ 64
  pub leads : out ++ woven (get_or (patterns (length fs + length ss) (length fs)) w []) fs ss ≡ whole

suc_left : (a b : ℕ) → suc a + b ≡ suc (a + b)
suc_left a b = omega arith

suc_right : (a b : ℕ) → a + suc b ≡ suc (a + b)
suc_right a b = omega arith

one_less : (a b : ℕ) → suc a + b - 1 ≡ a + b
one_less a b = omega arith

one_less_right : (a b : ℕ) → a + suc b - 1 ≡ a + b
one_less_right a b = omega arith

capped_nothing : (w b c : ℕ) → b ≡ capped c → w < b → w < c
capped_nothing w b c is lt = omega (arith, is)

-- the next line is of the first
pub next_first : (rows : ℕ) (fs ss out new : Script) (w b : ℕ) (whole : Script) → Weaving rows fs ss out w whole
    → b ≡ capped (firsts_of (length fs + length ss - 1) (length fs)) → w < b → new ≡ out ++ get_or fs 0 0 ∷ [] → Weaving rows (drop 1 fs) ss new w whole
next_first rows [] ss out new w b whole is begin lt more = absurd (omega (arith, begin))
next_first rows (x ∷ fs) ss out new w b whole is begin lt more =
    let n : ℕ = length fs + length ss in
    let k : ℕ = length fs in
    let begin' : b ≡ capped (ways n k) = begin ∙ ap (λ m. capped (firsts_of m (suc k))) (one_less (length fs) (length ss)) in
    let lt' : w < ways n k = capped_nothing w b (ways n k) begin' lt in
    record {
      room = omega (arith, is.room);
      there = lt';
      exact = is.exact;
      small = omega (arith, is.small);
      leads =
          ap (λ v. v ++ woven (get_or (patterns n k) w []) fs ss) more
          ∙ append_assoc out (x ∷ []) (woven (get_or (patterns n k) w []) fs ss)
          ∙ ap (λ q. out ++ woven q (x ∷ fs) ss) (sym (ap (λ m. get_or (patterns m (suc k)) w []) (suc_left (length fs) (length ss)) ∙ way_first n k w lt'))
          ∙ is.leads;
    }

-- the next line is of the second
exact_begin : (w b c : ℕ) → b ≡ capped c → b ≤ w → w < 2 ^ 64 - 1 → b ≡ c
exact_begin w b c is le small = omega (arith, is)

no_second : (fs : Script) (w : ℕ) → w < ways (length fs + 0) (length fs) → 0 < length fs → w < firsts_of (length fs + 0 - 1) (length fs)
no_second [] w lt pos = absurd (omega arith)
no_second (x ∷ fs) w lt pos =
    let k : ℕ = length fs in
    let all : ways (suc k + 0) (suc k) ≡ ways k k + ways k (suc k) = ap (λ m. ways m (suc k)) (plain k) in
    let none : ways k (suc k) ≡ 0 = ways_none k (suc k) (omega arith) in
    subst (λ m. w < firsts_of m (suc k)) (sym (less k)) (omega (arith, all, none))
  where
    plain : (k : ℕ) → suc k + 0 ≡ suc k
    plain k = omega arith

    less : (k : ℕ) → suc k + 0 - 1 ≡ k
    less k = omega arith

pub some_second : (rows : ℕ) (fs ss out : Script) (w b : ℕ) (whole : Script) → Weaving rows fs ss out w whole
    → b ≡ capped (firsts_of (length fs + length ss - 1) (length fs)) → b ≤ w → 0 < length fs + length ss → 0 < length ss
some_second rows fs [] out w b whole is begin le some =
    let less : w < firsts_of (length fs + 0 - 1) (length fs) = no_second fs w is.there (omega arith) in
    absurd (omega (arith, exact_begin w b (firsts_of (length fs + 0 - 1) (length fs)) begin le is.exact))
some_second rows fs (y ∷ ss) out w b whole is begin le some = omega arith

ways_less : (n k p : ℕ) → firsts_of n k ≤ p → p < ways (suc n) k → p - firsts_of n k < ways n k
ways_less n zero p le lt = omega arith
ways_less n (suc k) p le lt = omega arith

pub next_second : (rows : ℕ) (fs ss out new : Script) (w b : ℕ) (whole : Script) → Weaving rows fs ss out w whole
    → b ≡ capped (firsts_of (length fs + length ss - 1) (length fs)) → b ≤ w → 0 < length ss → new ≡ out ++ get_or ss 0 0 ∷ [] → Weaving rows fs (drop 1 ss) new (w - b) whole
next_second rows fs [] out new w b whole is begin le some more = absurd (omega arith)
next_second rows fs (y ∷ ss) out new w b whole is begin le some more =
    let n : ℕ = length fs + length ss in
    let k : ℕ = length fs in
    let begin' : b ≡ firsts_of n k =
    exact_begin w b (firsts_of (length fs + suc (length ss) - 1) k) begin le is.exact ∙ ap (λ m. firsts_of m k) (one_less_right (length fs) (length ss)) in
    let there' : w < ways (suc n) k = subst (λ m. w < ways m k) (suc_right (length fs) (length ss)) is.there in
    let le' : firsts_of n k ≤ w = subst (λ m. m ≤ w) begin' le in
    let rest : w - b ≡ w - firsts_of n k = ap (λ m. w - m) begin' in
    record {
      room = omega (arith, is.room);
      there = subst (λ m. m < ways n k) (sym rest) (ways_less n k w le' there');
      exact = omega (arith, is.exact);
      small = omega (arith, is.small);
      leads =
          ap (λ v. v ++ woven (get_or (patterns n k) (w - b) []) fs ss) more
          ∙ append_assoc out (y ∷ []) (woven (get_or (patterns n k) (w - b) []) fs ss)
          ∙ ap (λ m. out ++ y ∷ woven (get_or (patterns n k) m []) fs ss) rest
          ∙ ap (λ q. out ++ q) (sym (by_second (get_or (patterns n k) (w - firsts_of n k) []) fs y ss))
          ∙ ap (λ q. out ++ woven q fs (y ∷ ss)) (sym (ap (λ m. get_or (patterns m k) w []) (suc_right (length fs) (length ss)) ∙ way_second n k w le' there'))
          ∙ is.leads;
    }
  where
    by_second : (q : List Bool) (fs : Script) (y : ℕ) (ss : Script) → woven (false ∷ q) fs (y ∷ ss) ≡ y ∷ woven q fs ss
    by_second q fs y ss = refl

woven_none : (p : List Bool) → woven p [] [] ≡ []
woven_none [] = refl
woven_none (true ∷ p) = refl
woven_none (false ∷ p) = refl

pub all_woven : (rows : ℕ) (fs ss out : Script) (w : ℕ) (whole : Script) → Weaving rows fs ss out w whole → length fs + length ss ≡ 0 → out ≡ whole
all_woven rows [] [] out w whole is none =
    sym (append-nil out) ∙ ap (λ v. out ++ v) (sym (woven_none (get_or (patterns (0 + 0) 0) w []))) ∙ is.leads
all_woven rows (x ∷ fs) ss out w whole is none = absurd (omega arith)
all_woven rows [] (y ∷ ss) out w whole is none = absurd (omega arith)

-- a script has its number of lines
pub length_at : (f : Family) (n r : ℕ) → r < count f n → length (script_at f n r) ≡ n
length_at f n r lt = length_of f n (script_at f n r) (elem_get (scripts_of f n) r [] (omega (arith, counted f n)))

-- two scripts behind what stood there, woven
pub rewoven_is : (n k p : ℕ) (out x y : Script) → k ≤ n → length x ≡ k → length y ≡ n - k → rewoven n k p (out ++ x ++ y) ≡ out ++ woven (get_or (patterns n k) p []) x y
rewoven_is n k p out x y le lx ly =
    let all : length (out ++ x ++ y) - n ≡ length out = omega (arith, length-append (out ++ x) y, length-append out x) in
    let tail : drop (length out) (out ++ x ++ y) ≡ x ++ y = ap (λ v. drop (length out) v) (append_assoc out x y) ∙ drop_at out (x ++ y) (length out) refl in
    let front : take (length out) (out ++ x ++ y) ≡ out = ap (λ v. take (length out) v) (append_assoc out x y) ∙ take_at out (x ++ y) (length out) refl in
    ap (λ base. take base (out ++ x ++ y) ++ woven (get_or (patterns n k) p []) (take k (drop base (out ++ x ++ y))) (drop k (drop base (out ++ x ++ y)))) all
    ∙ ap₂ (λ u v. u ++ woven (get_or (patterns n k) p []) (take k v) (drop k v)) front tail
    ∙ ap₂ (λ u v. out ++ woven (get_or (patterns n k) p []) u v) (take_at x y k lx) (drop_at x y k lx)

-- the lengths of both, as they stand at the end
pub both_lengths : (n k : ℕ) (out : Script) → k ≤ n → n ≤ length out
    → (length (take k (drop (length out - n) out)) ≡ k) × (length (take k (drop (length out - n) out)) + length (drop k (drop (length out - n) out)) ≡ n)
both_lengths n k out le inside =
    let tail : length (drop (length out - n) out) ≡ length out - (length out - n) = length-drop (length out - n) out in
    let front : length (take k (drop (length out - n) out)) ≡ min k (length (drop (length out - n) out)) = length-take k (drop (length out - n) out) in
    let rest : length (drop k (drop (length out - n) out)) ≡ length (drop (length out - n) out) - k = length-drop k (drop (length out - n) out) in
    (omega arith, omega arith)

-- the same, of what is left as the code has it
pub left_first : (rows : ℕ) (fs ss out new : Script) (w b : ℕ) (whole : Script) → Weaving rows fs ss out w whole
    → b ≡ capped (firsts_of (length fs + length ss - 1) (length fs)) → w < b → new ≡ out ++ get_or fs 0 0 ∷ []
    → Weaving rows (take (length fs - 1) (drop 1 fs)) ss new w whole
left_first rows fs ss out new w b whole is begin lt more =
    subst (λ v. Weaving rows v ss new w whole) (sym (take_rest fs 1)) (next_first rows fs ss out new w b whole is begin lt more)

pub left_second : (rows : ℕ) (fs ss out new : Script) (w b : ℕ) (whole : Script) → Weaving rows fs ss out w whole
    → b ≡ capped (firsts_of (length fs + length ss - 1) (length fs)) → b ≤ w → 0 < length ss → new ≡ out ++ get_or ss 0 0 ∷ []
    → Weaving rows fs (take (length ss - 1) (drop 1 ss)) new (w - b) whole
left_second rows fs ss out new w b whole is begin le some more =
    subst (λ v. Weaving rows fs v new (w - b) whole) (sym (take_rest ss 1)) (next_second rows fs ss out new w b whole is begin le some more)
