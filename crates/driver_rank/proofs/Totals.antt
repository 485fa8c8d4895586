-- The pass over the models lines meets the first of all matches.
use Rattle.std.proofs.Common.{◌≡◌, ℕ, ◌+◌, ◌*◌, ◌≤◌, ◌==◌, Bool, true, false, cond, List, [], ◌∷◌, ◌++◌, map, take, length, arith, ap, sym, subst, refl, ◌∙◌, Option, Some, None, option_map}
use Rattle.std.specs.Bool.{nat_lt, ⊤}
use Rattle.std.specs.List.{filter, find, flat_map, enumerate_from}
use Rattle.std.specs.Str.{bytes_eq}
use Rattle.std.proofs.lemmas.Bool.Decides.{nat_tests}
use Rattle.inf_reader.specs.declared.parts.Inf.{Inf}
use Rattle.inf_reader.specs.declared.parts.ModelLine.{ModelLine}
use Rattle.device_ids.specs.Folding.{folded}
use Rattle.driver_rank.specs.Best.{Given, Match, given_from, given_of, agrees, rank_of, ranks_at, ranks_of, match_at, line_matches, inf_matches, matches, is_better}
use Rattle.driver_rank.specs.First.{first_of, least_of}
use Rattle.driver_rank.specs.Lookups.{base_at, base_of, rank_from_base, id_rank}
use Rattle.driver_rank.specs.Passes.{ranks_from, line_rank, best_from, best_of_infs}
use Rattle.driver_rank.proofs.Firsts.{first_more, first_of-None, least_of-map}
use Rattle.driver_rank.proofs.Orders.{less_order, better_order, better_rank}

abbrev base : Given → ℕ
base g = base_at g.compatible g.at

-- the IDs stand in the order of what their ranks begin with, here from low on
abbrev Rises : ℕ → List Given → Type 0
Rises low [] = ⊤
Rises low (g ∷ gs) = (low ≤ base g) × Rises (base g + 1) gs

rises_compat : (low at : ℕ) (ids : List (List ℕ)) → low ≤ 0x2000 + 8 * at → Rises low (given_from true at ids)
rises_compat low at [] h = tt
rises_compat low at (id ∷ ids) h = (h, rises_compat (0x2000 + 8 * at + 1) (at + 1) ids (omega arith))

rises_hw : (low at : ℕ) (hw compat : List (List ℕ)) → low ≤ 8 * at → at + length hw ≤ 64 → Rises low (given_from false at hw ++ given_from true 0 compat)
rises_hw low at [] compat h few = rises_compat low 0 compat (omega arith)
rises_hw low at (id ∷ hw) compat h few = (omega arith, rises_hw (0 + 8 * at + 1) (at + 1) hw compat (omega arith) (omega arith))

found_above : (b : Bool) (g h : Given) (o : Option Given) (low : ℕ) → low ≤ base g → (o ≡ Some h → base g + 1 ≤ base h) → cond b (Some g) o ≡ Some h → low ≤ base h
found_above true g h o low here later e = let same : g ≡ h = cc in let P : Given → Type 0 = λ g. low ≤ base g in subst P same here
found_above false g h o low here later e = let l : base g + 1 ≤ base h = later e in omega arith

above : (p : Given → Bool) (low : ℕ) (gs : List Given) (h : Given) → Rises low gs → find p gs ≡ Some h → low ≤ base h
above p low [] h rises e = absurd (cc)
above p low (g ∷ gs) h rises e = found_above (p g) g h (find p gs) low rises.0 (above p (base g + 1) gs h rises.1) e

rank_parts : (b c : Bool) (score at place : ℕ) → score * 0x10000 + (cond b 2 0 + cond c 0 1) * 0x1000 + place * 8 + at ≡ score * 0x10000 + (cond b 0x2000 0 + 8 * place) + cond c 0 0x1000 + at
rank_parts true true score at place = omega arith
rank_parts true false score at place = omega arith
rank_parts false true score at place = omega arith
rank_parts false false score at place = omega arith

rank_is : (score at : ℕ) (g : Given) → rank_of score g at ≡ rank_from_base score at (base g)
rank_is score at g = rank_parts g.compatible (at == 0) score at g.at

module _ (score at : ℕ) where
  abbrev rank : Given → ℕ
  rank g = rank_of score g at

  rank_above : (g h : Given) → base g + 1 ≤ base h → nat_lt (rank h) (rank g) ≡ false
  rank_above g h l = let p = rank_is score at g in let q = rank_is score at h in grind (arith, nat_tests)

  stays : (g : Given) (o : Option Given) → ((h : Given) → o ≡ Some h → base g + 1 ≤ base h) → first_of nat_lt (Some (rank g)) (option_map rank o) ≡ Some (rank g)
  stays g None l = refl
  stays g (Some h) l = ap (λ b. cond b (Some (rank h)) (Some (rank g))) (rank_above g h (l h refl))

  least_by : (b : Bool) (g : Given) (o : Option Given) (ranked : List ℕ) → least_of nat_lt ranked ≡ option_map rank o → first_of nat_lt (Some (rank g)) (option_map rank o) ≡ Some (rank g)
      → least_of nat_lt (cond b (rank g ∷ ranked) ranked) ≡ option_map rank (cond b (Some g) o)
  least_by true g o ranked later kept = ap (first_of nat_lt (Some (rank g))) later ∙ kept
  least_by false g o ranked later kept = later

  map_by : (b : Bool) (g : Given) (gs : List Given) → map rank (cond b (g ∷ gs) gs) ≡ cond b (rank g ∷ map rank gs) (map rank gs)
  map_by true g gs = refl
  map_by false g gs = refl

  -- the first ID that passes has the least rank
  first_least : (p : Given → Bool) (low : ℕ) (gs : List Given) → Rises low gs → least_of nat_lt (map rank (filter p gs)) ≡ option_map rank (find p gs)
  first_least p low [] rises = refl
  first_least p low (g ∷ gs) rises =
      ap (least_of nat_lt) (map_by (p g) g (filter p gs))
      ∙ least_by (p g) g (find p gs) (map rank (filter p gs)) (first_least p (base g + 1) gs rises.1) (stays g (find p gs) (λ h e. above p (base g + 1) gs h rises.1 e))

  from_base : (o : Option Given) → option_map (rank_from_base score at) (option_map base o) ≡ option_map rank o
  from_base None = refl
  from_base (Some g) = ap Some (sym (rank_is score at g))

base_by : (b : Bool) (g : Given) (n : Option ℕ) (o : Option Given) → n ≡ option_map base o → cond b (Some (base g)) n ≡ option_map base (cond b (Some g) o)
base_by true g n o e = refl
base_by false g n o e = e

base_of-find : (gs : List Given) (q : List ℕ) → base_of gs q ≡ option_map base (find (λ g. bytes_eq q (folded g.text)) gs)
base_of-find [] q = refl
base_of-find (g ∷ gs) q = base_by (bytes_eq q (folded g.text)) g (base_of gs q) (find (λ g. bytes_eq q (folded g.text)) gs) (base_of-find gs q)

none_agrees : (gs : List Given) → filter (agrees []) gs ≡ []
none_agrees [] = refl
none_agrees (g ∷ gs) = none_agrees gs

module _ (hw compat : List (List ℕ)) (few : length hw ≤ 64) (f : List ℕ → Option ℕ) (found_is : (q : List ℕ) → f q ≡ base_of (given_of hw compat) q) where
  abbrev gs : List Given
  gs = given_of hw compat

  rises : Rises 0 gs
  rises = rises_hw 0 0 hw compat (omega arith) (omega arith)

  id_rank_is : (score at : ℕ) (id : List ℕ) → id_rank f score at id ≡ least_of nat_lt (ranks_at score gs (at, id))
  id_rank_is score at [] = sym (ap (λ l. least_of nat_lt (map (λ g. rank_of score g at) l)) (none_agrees gs))
  id_rank_is score at (b ∷ id) =
      ap (option_map (rank_from_base score at)) (found_is (folded (b ∷ id)) ∙ base_of-find gs (folded (b ∷ id)))
      ∙ (from_base score at (find (agrees (b ∷ id)) gs)
      ∙ sym (first_least score at (agrees (b ∷ id)) 0 gs rises))

  ranks_from_is : (score : ℕ) (least : Option ℕ) (at : ℕ) (ids : List (List ℕ)) → ranks_from f score least at ids ≡ first_of nat_lt least (least_of nat_lt (flat_map (ranks_at score gs) (enumerate_from at ids)))
  ranks_from_is score least at [] = sym (first_of-None nat_lt least)
  ranks_from_is score least at (id ∷ ids) =
      ranks_from_is score (first_of nat_lt least (id_rank f score at id)) (at + 1) ids
      ∙ (ap (λ o. first_of nat_lt (first_of nat_lt least o) (least_of nat_lt (flat_map (ranks_at score gs) (enumerate_from (at + 1) ids)))) (id_rank_is score at id)
      ∙ first_more nat_lt less_order least (ranks_at score gs (at, id)) (flat_map (ranks_at score gs) (enumerate_from (at + 1) ids)))

  line_rank_is : (line : ModelLine) → line_rank f line ≡ least_of nat_lt (ranks_of gs line)
  line_rank_is line = ranks_from_is line.score None 0 (take 8 line.ids)

  line_is : (number : ℕ) (inf : Inf) (place : ℕ) (line : ModelLine) → option_map (match_at number inf place line) (line_rank f line) ≡ least_of is_better (line_matches gs number inf (place, line))
  line_is number inf place line =
      ap (option_map (match_at number inf place line)) (line_rank_is line)
      ∙ sym (least_of-map nat_lt is_better (match_at number inf place line) (better_rank number inf place line) (ranks_of gs line))

  best_from_is : (number : ℕ) (inf : Inf) (found : Option Match) (place : ℕ) (lines : List ModelLine)
      → best_from f number inf found place lines ≡ first_of is_better found (least_of is_better (flat_map (line_matches gs number inf) (enumerate_from place lines)))
  best_from_is number inf found place [] = sym (first_of-None is_better found)
  best_from_is number inf found place (line ∷ lines) =
      let more = flat_map (line_matches gs number inf) (enumerate_from (place + 1) lines) in
      best_from_is number inf (first_of is_better found (option_map (match_at number inf place line) (line_rank f line))) (place + 1) lines
      ∙ (ap (λ o. first_of is_better (first_of is_better found o) (least_of is_better more)) (line_is number inf place line)
      ∙ first_more is_better better_order found (line_matches gs number inf (place, line)) more)

  best_of_infs_is : (found : Option Match) (number : ℕ) (infs : List Inf) → best_of_infs f found number infs ≡ first_of is_better found (least_of is_better (flat_map (inf_matches gs) (enumerate_from number infs)))
  best_of_infs_is found number [] = sym (first_of-None is_better found)
  best_of_infs_is found number (inf ∷ infs) =
      let more = flat_map (inf_matches gs) (enumerate_from (number + 1) infs) in
      best_of_infs_is (best_from f number inf found 0 inf.lines) (number + 1) infs
      ∙ (ap (λ o. first_of is_better o (least_of is_better more)) (best_from_is number inf found 0 inf.lines)
      ∙ first_more is_better better_order found (inf_matches gs (number, inf)) more)

  pub best_is : (infs : List Inf) → best_of_infs f None 0 infs ≡ least_of is_better (matches gs infs)
  best_is infs = best_of_infs_is None 0 infs
