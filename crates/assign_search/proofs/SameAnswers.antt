-- The answer to a problem does not depend on the order in which the fixed resources are listed.
use Rattle.std.proofs.Common.{ℕ, inl, inr, List, [], ◌∷◌}
use Rattle.resource_reqs.specs.Resources.{Res, Reqs, Group, res_at}
use Rattle.resource_reqs.specs.Spelling.{Coord, Place, res_of, Point, CleanPlaces, HasPlace, HasList, LiveAt, Clean, Live, Complete, Tried, AtOrBefore, IsFound, IsPlan, IsNoFit, IsAnswer, Answer, assignment, no_fit, spent}
use Rattle.resource_reqs.proofs.Points.{all_weaker}
use Rattle.resource_reqs.proofs.Counts.{numbers_same}
use Rattle.assign_search.proofs.SameHeld.{SameSet, free_same, same_back}

clean_places_same : (a b : List Res) → SameSet a b → (placed : List Place) → CleanPlaces a placed → CleanPlaces b placed
clean_places_same a b same [] h = tt
clean_places_same a b same (p ∷ placed) h = (h.0, free_same a b same (res_of p) h.1, h.2, clean_places_same a b same placed h.3)

has_place_same : (a b : List Res) → SameSet a b → (placed : List Place) (g : Group) → HasPlace a placed g → HasPlace b placed g
has_place_same a b same placed g (want, start, inside, may, free, apart) = (want, start, inside, may, free_same a b same (res_at want start) free, apart)

has_list_same : (a b : List Res) → SameSet a b → (placed : List Place) (reqs : Reqs) → HasList a placed reqs → HasList b placed reqs
has_list_same a b same placed reqs (inl e) = inl e
has_list_same a b same placed reqs (inr (list, inside, each)) =
    inr (list, inside, all_weaker (HasPlace a placed) (HasPlace b placed) (has_place_same a b same placed) list each)

live_at_same : (a b : List Res) → SameSet a b → (at : Point) → LiveAt a at → LiveAt b at
live_at_same a b same at h = record {
  clean = clean_places_same a b same at.placed h.clean;
  left = all_weaker (HasPlace a at.placed) (HasPlace b at.placed) (has_place_same a b same at.placed) at.groups h.left;
  later = all_weaker (HasList a at.placed) (HasList b at.placed) (has_list_same a b same at.placed) at.movers h.later;
}

module _ (a b : List Res) (same : SameSet a b) (movers : List Reqs) where
  clean_same : (p : List Coord) → Clean a movers p → Clean b movers p
  clean_same p (at, leads, clean) = (at, leads, clean_places_same a b same at.placed clean)

  live_same : (p : List Coord) → Live a movers p → Live b movers p
  live_same p (at, leads, live) = (at, leads, live_at_same a b same at live)

  pub complete_same : (p : List Coord) → Complete a movers p → Complete b movers p
  complete_same p (at, leads, whole) = (at, leads, record { clean = clean_places_same a b same at.placed whole.clean; no_group = whole.no_group; no_list = whole.no_list })

  pub tried_same : (q : List Coord) → Tried a movers q → Tried b movers q
  tried_same q (p, c, is, clean, live) = (p, c, is, clean_same q clean, live_same p live)

module _ (a b : List Res) (same : SameSet a b) (movers : List Reqs) (budget : ℕ) where
  back : SameSet b a
  back = same_back a b same

  found_same : (s : List Coord) → IsFound a movers budget s → IsFound b movers budget s
  found_same s found = record {
    least = record {
      complete = complete_same a b same movers s found.least.complete;
      least = λ t whole. found.least.least t (complete_same b a back movers t whole);
    };
    count = found.count;
    counted = numbers_same (λ q. Tried a movers q × AtOrBefore q s) (λ q. Tried b movers q × AtOrBefore q s)
        (λ q h. (tried_same a b same movers q h.0, h.1)) (λ q h. (tried_same b a back movers q h.0, h.1)) found.count found.counted;
    within = found.within;
  }

  plan_same : (plan : List (List Res)) → IsPlan a movers budget plan → IsPlan b movers budget plan
  plan_same plan (s, found, spells) = (s, found_same s found, spells)

  no_fit_same : IsNoFit a movers budget → IsNoFit b movers budget
  no_fit_same (none, (n, counted, within)) = (
    λ s whole. none s (complete_same b a back movers s whole),
    (n, numbers_same (Tried a movers) (Tried b movers) (tried_same a b same movers) (tried_same b a back movers) n counted, within),
  )

-- the same answer
pub answer_same : (a b : List Res) → SameSet a b → (movers : List Reqs) (budget : ℕ) (x : Answer) → IsAnswer a movers budget x → IsAnswer b movers budget x
answer_same a b same movers budget (assignment plan) h = plan_same a b same movers budget plan h
answer_same a b same movers budget no_fit h = no_fit_same a b same movers budget h
answer_same a b same movers budget spent h = (
  λ plan is. h.0 plan (plan_same b a (same_back a b same) movers budget plan is),
  λ is. h.1 (no_fit_same b a (same_back a b same) movers budget is),
)
