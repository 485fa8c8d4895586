-- The resources that are found are those of the first alternative that fits.
use Rattle.std.proofs.Common.{ℕ, ◌<◌, ◌≡◌, inl, inr, List, [], ◌∷◌, ◌++◌, Option, Some, option_and_then, refl, sym, ap, subst, ◌∙◌, arith, slice_get}
use Rattle.resource_reqs.specs.Resources.{AltList, Fits, Reqs, Res, Whole}
use Rattle.resource_reqs.specs.Spelling.{AtOrBefore, Complete, Coord, IsPlan, Spells, after, alt, listed, next, root}
use Rattle.resource_reqs.proofs.Counts.{contains_cons, contains_nil}
use Rattle.resource_reqs.proofs.Fitting.{assignment_of, complete_from_fits, plan_of}
use Rattle.resource_reqs.proofs.Points.{contains_read}
use Rattle.pnp_model.specs.Starts.{own_part}
use Rattle.pnp_promises.specs.Lines.{IsFirstChoice}

-- where a list is chosen nothing is left of the others
leads_to : (reqs : Reqs) (i : ℕ) (list : AltList) → slice_get reqs i ≡ Some list → next (root (reqs ∷ [])) (alt i) ≡ Some (record { placed = []; groups = list; movers = [] })
leads_to [] i list e = absurd (cc)
leads_to (l ∷ ls) i list e = ap (λ (o : Option AltList). listed [] [] o) e

chosen_as : (fixed : List Res) (reqs others : Reqs) (i j : ℕ) (list : AltList) (p : List Coord) → slice_get reqs i ≡ Some list → slice_get others j ≡ Some list → Complete fixed (reqs ∷ []) (alt i ∷ p) → Complete fixed (others ∷ []) (alt j ∷ p)
chosen_as fixed reqs others i j list p e f (at, leads, whole) =
    (at, ap (option_and_then (after p)) (leads_to others j list f ∙ sym (leads_to reqs i list e)) ∙ leads, whole)

one_list : (list : AltList) (i : ℕ) (chosen : AltList) → slice_get (list ∷ []) i ≡ Some chosen → chosen ≡ list
one_list list i chosen e = elim (contains_cons list [] chosen (contains_read (list ∷ []) i chosen e)) [ inl is ↦ is | inr none ↦ absurd (contains_nil chosen none) ]

-- who fits alone has a spelling by its one list
record SpeltAlone (fixed : List Res) (list : AltList) : Type 0 where
  number : ℕ
  read : slice_get (list ∷ []) number ≡ Some list
  rest : List Coord
  complete : Complete fixed ((list ∷ []) ∷ []) (alt number ∷ rest)

spelt : (fixed : List Res) (list : AltList) (b : List Coord) (plan : List (List Res)) → Complete fixed ((list ∷ []) ∷ []) b → Spells ((list ∷ []) ∷ []) b plan → SpeltAlone fixed list
spelt fixed list b [] whole spells = absurd spells
spelt fixed list b (holds ∷ plan) whole (i, chosen, picks, rest, is, read, picked, more) =
    let same = one_list list i chosen read in
    record {
      number = i;
      read = read ∙ ap Some same;
      rest = picks ++ rest;
      complete = subst (λ (x : List Coord). Complete fixed ((list ∷ []) ∷ []) x) is whole;
    }

alone : (fixed : List Res) (list : AltList) → Fits fixed ((list ∷ []) ∷ []) → SpeltAlone fixed list
alone fixed list fits =
    let some = complete_from_fits fixed ((list ∷ []) ∷ []) fits in
    let plan = plan_of fixed ((list ∷ []) ∷ []) some.0 some.1 in
    spelt fixed list some.0 plan.0 some.1 plan.1

not_before : (i j : ℕ) (p q : List Coord) → j < i → AtOrBefore (alt i ∷ p) (alt j ∷ q) → ⊥
not_before i j p q less (inl (inl before)) = absurd (omega arith)
not_before i j p q less (inl (inr (same, more))) = absurd (let e : i ≡ j = cc in omega arith)
not_before i j p q less (inr same) = absurd (let e : i ≡ j = cc in omega arith)

-- the plan for one device is of its first list that fits
pub first_choice : (fixed : List Res) (reqs : Reqs) (budget : ℕ) (plan : List (List Res)) → IsPlan fixed (reqs ∷ []) budget plan → IsFirstChoice fixed reqs (own_part plan)
first_choice fixed reqs budget [] (a, found, spells) = absurd spells
first_choice fixed [] budget (holds ∷ plan) (a, found, spells) = inl (refl, spells.0)
first_choice fixed (l ∷ ls) budget (holds ∷ plan) (a, found, (i, chosen, picks, rest, is, read, picked, more)) =
    inr (i, chosen, read, own, none)
  where
    complete : Complete fixed ((l ∷ ls) ∷ []) (alt i ∷ (picks ++ rest))
    complete = subst (λ (x : List Coord). Complete fixed ((l ∷ ls) ∷ []) x) is found.least.complete

    own : Whole (chosen ∷ []) holds
    own = by_plan plan more
      where
        by_plan : (plan : List (List Res)) → Spells [] rest plan → Whole (chosen ∷ []) holds
        by_plan [] end =
            (assignment_of fixed ((chosen ∷ []) ∷ []) (alt 0 ∷ (picks ++ rest)) (holds ∷ []) (chosen_as fixed (l ∷ ls) (chosen ∷ []) i 0 chosen (picks ++ rest) read refl complete)
            (0, chosen, picks, rest, refl, refl, picked, end)).whole.0
        by_plan (h ∷ hs) end = absurd end

    none : (j : ℕ) (earlier : AltList) → j < i → slice_get (l ∷ ls) j ≡ Some earlier → Fits fixed ((earlier ∷ []) ∷ []) → ⊥
    none j earlier less at fits =
        let it = alone fixed earlier fits in
        let other = chosen_as fixed (earlier ∷ []) (l ∷ ls) it.number j earlier it.rest it.read at it.complete in
        not_before i j (picks ++ rest) it.rest less (subst (λ (x : List Coord). AtOrBefore x (alt j ∷ it.rest)) is (found.least.least (alt j ∷ it.rest) other))
