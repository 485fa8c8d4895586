-- One more place of a list that is gone through.
use Rattle.std.proofs.Common.{◌≡◌, ℕ, Bool, ◌+◌, ◌<◌, ◌≤◌, List, [], ◌∷◌, ◌++◌, take, drop, get_or, length, min, arith, add-one, suc, ap, sym, refl, ◌∙◌, Option, Some, None, option_map, cond}
use Rattle.std.specs.Bool.{nat_lt}
use Rattle.std.specs.Str.{bytes_eq}
use Rattle.std.proofs.Math.Seq.{drop-cons}
use Rattle.std.proofs.lemmas.List.{get_or-take, length-take, drop_all, take_more}
use Rattle.inf_reader.specs.declared.parts.Inf.{Inf}
use Rattle.inf_reader.specs.declared.parts.ModelLine.{ModelLine}
use Rattle.device_ids.specs.Folding.{folded}
use Rattle.driver_rank.specs.Best.{Given, Match, match_at, is_better, given_from}
use Rattle.driver_rank.specs.First.{first_of}
use Rattle.driver_rank.specs.Lookups.{id_rank, base_with, base_at}
use Rattle.driver_rank.specs.Passes.{ranks_from, best_from, line_rank}
use Rattle.driver_rank.proofs.Firsts.{first_of-None}

pub drop_item : {X : Type 0} (xs : List X) (at : ℕ) (x : X) → at < length xs → ((d : X) → get_or xs at d ≡ x) → drop at xs ≡ x ∷ drop (at + 1) xs
drop_item xs at x within item = rw add-one (drop-cons xs at x within ∙ ap (λ h. h ∷ drop (suc at) xs) (item x))

pub take_item : {X : Type 0} (xs : List X) (at : ℕ) (x : X) → at < length xs → ((d : X) → get_or xs at d ≡ x) → take (at + 1) xs ≡ take at xs ++ x ∷ []
take_item xs at x within item = take_more xs at x within ∙ ap (λ h. take at xs ++ h ∷ []) (item x)

within_eight : {X : Type 0} (xs : List X) (at : ℕ) → at < length xs → at < 8 → at < length (take 8 xs)
within_eight xs at l e = omega (arith, length-take 8 xs)

pub rank_more : (f : List ℕ → Option ℕ) (score : ℕ) (least total : Option ℕ) (at : ℕ) (ids : List (List ℕ)) (id : List ℕ) → ranks_from f score least at (drop at (take 8 ids)) ≡ total
    → at < length ids → at < 8 → ((d : List ℕ) → get_or ids at d ≡ id) → ranks_from f score (first_of nat_lt least (id_rank f score at id)) (at + 1) (drop (at + 1) (take 8 ids)) ≡ total
rank_more f score least total at ids id e within eight item =
    let inside : at < length (take 8 ids) = within_eight ids at within eight in
    sym (ap (ranks_from f score least at) (drop_item (take 8 ids) at id inside (λ d. get_or-take 8 ids at d eight ∙ item d))) ∙ e

pub rank_ends : (f : List ℕ → Option ℕ) (score : ℕ) (least total : Option ℕ) (at : ℕ) (ids : List (List ℕ)) → ranks_from f score least at (drop at (take 8 ids)) ≡ total
    → min (length ids) 8 ≤ at → least ≡ total
rank_ends f score least total at ids e past =
    let short : length (take 8 ids) ≤ at = omega (arith, length-take 8 ids) in
    sym (ap (ranks_from f score least at) (drop_all at (take 8 ids) short)) ∙ e

module _ (f : List ℕ → Option ℕ) (number : ℕ) (inf : Inf) (found total : Option Match) (place : ℕ) (lines : List ModelLine) (line : ModelLine)
    (e : best_from f number inf found place (drop place lines) ≡ total) (within : place < length lines) (item : (d : ModelLine) → get_or lines place d ≡ line) where
  line_more : best_from f number inf (first_of is_better found (option_map (match_at number inf place line) (line_rank f line))) (place + 1) (drop (place + 1) lines) ≡ total
  line_more = sym (ap (best_from f number inf found place) (drop_item lines place line within item)) ∙ e

  pub line_met : (rank : ℕ) (now : Option Match) → Some rank ≡ line_rank f line → now ≡ first_of is_better found (Some (match_at number inf place line rank))
      → best_from f number inf now (place + 1) (drop (place + 1) lines) ≡ total
  line_met rank now at is =
      ap (λ m. best_from f number inf m (place + 1) (drop (place + 1) lines)) (is ∙ ap (λ r. first_of is_better found (option_map (match_at number inf place line) r)) at) ∙ line_more

  pub line_passed : None ≡ line_rank f line → best_from f number inf found (place + 1) (drop (place + 1) lines) ≡ total
  line_passed at =
      ap (λ m. best_from f number inf m (place + 1) (drop (place + 1) lines)) (sym (first_of-None is_better found) ∙ ap (λ r. first_of is_better found (option_map (match_at number inf place line) r)) at) ∙ line_more

pub none_from : {X : Type 0} (o : Option X) → ((x : X) → o ≡ Some x → ⊥) → o ≡ None
none_from None h = refl
none_from (Some x) h = absurd (h x refl)

-- an ID is put before those from the next place on
pub id_put : (f : List ℕ → Option ℕ) (compatible : Bool) (at before : ℕ) (ids : List (List ℕ)) (id : List ℕ) (old new : List ℕ → Option ℕ)
    → ((q : List ℕ) → old q ≡ base_with f (given_from compatible at (drop at ids)) q) → at ≡ before + 1 → before < length ids → ((d : List ℕ) → get_or ids before d ≡ id)
    → ((q : List ℕ) → new q ≡ cond (bytes_eq q (folded id)) (Some (base_at compatible before)) (old q))
    → (q : List ℕ) → new q ≡ base_with f (given_from compatible before (drop before ids)) q
id_put f compatible at before ids id old new kept next within item put q =
    let later : old q ≡ base_with f (given_from compatible (before + 1) (drop (before + 1) ids)) q = kept q ∙ ap (λ n. base_with f (given_from compatible n (drop n ids)) q) next in
    put q ∙ (ap (cond (bytes_eq q (folded id)) (Some (base_at compatible before))) later ∙ sym (ap (λ l. base_with f (given_from compatible before l) q) (drop_item ids before id within item)))

-- what is found behind IDs that are not there yet
pub base_with-append : (f g : List ℕ → Option ℕ) (gs more : List Given) → ((q : List ℕ) → f q ≡ base_with g more q) → (q : List ℕ) → base_with f gs q ≡ base_with g (gs ++ more) q
base_with-append f g [] more e q = e q
base_with-append f g (h ∷ gs) more e q = ap (cond (bytes_eq q (folded h.text)) (Some (base_at h.compatible h.at))) (base_with-append f g gs more e q)

pub base_with-same : (f g : List ℕ → Option ℕ) (gs : List Given) → ((q : List ℕ) → f q ≡ g q) → (q : List ℕ) → base_with f gs q ≡ base_with g gs q
base_with-same f g [] e q = e q
base_with-same f g (h ∷ gs) e q = ap (cond (bytes_eq q (folded h.text)) (Some (base_at h.compatible h.at))) (base_with-same f g gs e q)
