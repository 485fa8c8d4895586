-- Every search has an answer: its spellings are finitely many, and each test on them can be told.
use Rattle.std.proofs.Common.{ℕ, zero, suc, ◌<◌, ◌≤◌, ◌≡◌, ◌⊎◌, inl, inr, List, [], ◌∷◌, ◌++◌, length, Contains, Option, Some, option_and_then, refl, sym, ap, ◌∙◌, subst, arith, append_assoc}
use native.Mathlib.Decide.{dec_le}
use Rattle.std.specs.List.{AllByRecursion}
use Rattle.resource_reqs.specs.Resources.{Res, Reqs}
use Rattle.resource_reqs.specs.Spelling.{Coord, Less, Before, AtOrBefore, Point, next, after, root, CleanPlaces, LiveAt, CompleteAt, Clean, Live, Complete, Tried, Ascending, Lists, Numbers, TriedUpTo, Answer, assignment, no_fit, spent, IsAnswer}
use Rattle.resource_reqs.proofs.Order.{less_total, before_irrefl, before_trans, before_front, before_more}
use Rattle.resource_reqs.proofs.Points.{after-append, and_then_some, after_parts, live_complete, live_prefix, clean_prefix, all_weaker}
use Rattle.resource_reqs.proofs.Counts.{contains_cons, contains_nil, all_at, numbers_le}
use Rattle.resource_reqs.proofs.Law.{Extends, Rising, Extensions, family, nothing_grows, grows_in_order}
use Rattle.resource_reqs.proofs.Fitting.{plan_of}
use Rattle.pnp_laws.proofs.Decides.{contains_here, contains_later, dec_live, dec_complete, Child, dec_child, kept, kept_all, kept_rising, kept_each, kept_every, coords_of, coords_rising, coords_every, size, child_less}

-- at p, or below it
abbrev From : List Coord → List Coord → Type 0
From p b = (b ≡ p) ⊎ Extends p b

module _ (fixed : List Res) (movers : List Reqs) where
  -- the first complete spelling at p or below it
  record IsFirst (p a : List Coord) : Type 0 where
    complete : Complete fixed movers a
    from : From p a
    least : (b : List Coord) → Complete fixed movers b → From p b → AtOrBefore a b

  abbrev First : List Coord → Type 0
  First p = ((a : List Coord) × IsFirst p a) ⊎ ((b : List Coord) → Complete fixed movers b → From p b → ⊥)

  -- all that is tried below p, and the first complete spelling there
  record Explored (p : List Coord) : Type 0 where
    below : List (List Coord)
    lists : Lists (λ q. Tried fixed movers q × Extends p q) below
    first : First p

  live_from : (p b : List Coord) → Complete fixed movers b → From p b → Live fixed movers p
  live_from p b (at, leads, whole) (inl e) = (at, subst (λ (x : List Coord). after x (root movers) ≡ Some at) e leads, live_complete fixed at whole)
  live_from p b (at, leads, whole) (inr (c, r, is)) =
      live_prefix fixed movers p (c ∷ r) (subst (λ (x : List Coord). Live fixed movers x) is (at, leads, live_complete fixed at whole))

  child_of_clean : (p : List Coord) (at : Point) (c : Coord) → after p (root movers) ≡ Some at → Clean fixed movers (p ++ c ∷ []) → Child fixed at c
  child_of_clean p at c leads (to, goes, clean) =
      let (mid, first, second) = after_parts p (c ∷ []) (root movers) to goes in
      let same : mid ≡ at = cc in
      let (x, one, two) = and_then_some (after []) (next mid c) to second in
      let is : x ≡ to = cc in
      (to, subst (λ (m : Point). next m c ≡ Some to) same (one ∙ ap (λ (z : Point). Some z) is), clean)

  leads_on : (p : List Coord) (at : Point) (c : Coord) (to : Point) → after p (root movers) ≡ Some at → next at c ≡ Some to → after (p ++ c ∷ []) (root movers) ≡ Some to
  leads_on p at c to leads goes =
      after-append p (c ∷ []) (root movers) ∙ ap (λ (o : Option Point). option_and_then (after (c ∷ [])) o) leads ∙ ap (λ (o : Option Point). option_and_then (after []) o) goes

  clean_of_child : (p : List Coord) (at : Point) (c : Coord) → after p (root movers) ≡ Some at → Child fixed at c → Clean fixed movers (p ++ c ∷ [])
  clean_of_child p at c leads (to, goes, clean) = (to, leads_on p at c to leads goes, clean)

  -- What is below a live prefix

  below_of : (p : List Coord) (at : Point) (c : Coord) → (Child fixed at c → Explored (p ++ c ∷ [])) → Dec (Child fixed at c) → List (List Coord)
  below_of p at c deeper (yes h) = (deeper h).below
  below_of p at c deeper (no h) = []

  lists_below : (p : List Coord) (at : Point) (c : Coord) → after p (root movers) ≡ Some at → (deeper : Child fixed at c → Explored (p ++ c ∷ [])) (d : Dec (Child fixed at c)) → Clean fixed movers (p ++ c ∷ []) →
      Lists (λ q. Tried fixed movers q × Extends (p ++ c ∷ []) q) (below_of p at c deeper d)
  unfolding below_of
  lists_below p at c leads deeper (yes h) clean = (deeper h).lists
  lists_below p at c leads deeper (no h) clean = absurd (h (child_of_clean p at c leads clean))

  -- the first complete spelling below p by one of these coordinates
  record IsFirstBy (p : List Coord) (cs : List Coord) (a : List Coord) : Type 0 where
    complete : Complete fixed movers a
    coord : Coord
    rest : List Coord
    inside : Contains cs coord
    is : a ≡ p ++ coord ∷ rest
    least : (b : List Coord) (d : Coord) (r : List Coord) → Complete fixed movers b → Contains cs d → b ≡ p ++ d ∷ r → AtOrBefore a b

  abbrev FirstBy : List Coord → List Coord → Type 0
  FirstBy p cs = ((a : List Coord) × IsFirstBy p cs a) ⊎ ((b : List Coord) (d : Coord) (r : List Coord) → Complete fixed movers b → Contains cs d → b ≡ p ++ d ∷ r → ⊥)

  from_of : (p : List Coord) (c : Coord) (b r : List Coord) → b ≡ p ++ c ∷ r → From (p ++ c ∷ []) b
  from_of p c b [] e = inl e
  from_of p c b (x ∷ r) e = inr (x, r, e ∙ sym (append_assoc p (c ∷ []) (x ∷ r)))

  rest_of : (p : List Coord) (c : Coord) (b : List Coord) → From (p ++ c ∷ []) b → (r : List Coord) × (b ≡ p ++ c ∷ r)
  rest_of p c b (inl e) = ([], e)
  rest_of p c b (inr (x, r, e)) = (x ∷ r, e ∙ append_assoc p (c ∷ []) (x ∷ r))

  first_by : (p : List Coord) (c : Coord) (cs : List Coord) → AllByRecursion (Less c) cs → First (p ++ c ∷ []) → FirstBy p cs → FirstBy p (c ∷ cs)
  first_by p c cs up (inl (a, f)) more =
      let own = rest_of p c a f.from in
      inl (
        a,
        record {
          complete = f.complete;
          coord = c;
          rest = own.0;
          inside = contains_here c cs;
          is = own.1;
          least = λ b d r whole inside e. elim (contains_cons c cs d inside) [
            | inl q ↦ f.least b whole (from_of p c b r (e ∙ ap (λ (x : Coord). p ++ x ∷ r) q))
            | inr q ↦ inl (subst (λ (x : List Coord). Before x b) (sym own.1) (subst (λ (x : List Coord). Before (p ++ c ∷ own.0) x) (sym e) (before_front p (c ∷ own.0) (d ∷ r) (inl (all_at (Less c) cs d up q)))))
          ];
        },
      )
  first_by p c cs up (inr none) (inl (a, f)) =
      inl (
        a,
        record {
          complete = f.complete;
          coord = f.coord;
          rest = f.rest;
          inside = contains_later c cs f.coord f.inside;
          is = f.is;
          least = λ b d r whole inside e. elim (contains_cons c cs d inside) [
            | inl q ↦ absurd (none b whole (from_of p c b r (e ∙ ap (λ (x : Coord). p ++ x ∷ r) q)))
            | inr q ↦ f.least b d r whole q e
          ];
        },
      )
  first_by p c cs up (inr none) (inr never) =
      inr (λ b d r whole inside e. elim (contains_cons c cs d inside) [
        | inl q ↦ none b whole (from_of p c b r (e ∙ ap (λ (x : Coord). p ++ x ∷ r) q))
        | inr q ↦ never b d r whole q e
      ])

  scan : (p : List Coord) (at : Point) (cs : List Coord) → Rising cs → AllByRecursion (Child fixed at) cs → ((c : Coord) → Child fixed at c → Explored (p ++ c ∷ [])) → FirstBy p cs
  scan p at [] up each deeper = inr (λ b d r whole inside e. contains_nil d inside)
  scan p at (c ∷ cs) up each deeper = first_by p c cs up.0 (deeper c each.0).first (scan p at cs up.1 each.1 deeper)

  not_here : (p : List Coord) (at : Point) → after p (root movers) ≡ Some at → (CompleteAt fixed at → ⊥) → (b : List Coord) → b ≡ p → Complete fixed movers b → ⊥
  not_here p at leads part b e (to, goes, whole) =
      let goes2 = subst (λ (x : List Coord). after x (root movers) ≡ Some to) e goes in
      let same : to ≡ at = cc in
      part (subst (λ (x : Point). CompleteAt fixed x) same whole)

  goes_by : (p b : List Coord) (c : Coord) (r : List Coord) → Complete fixed movers b → b ≡ p ++ c ∷ r → Clean fixed movers (p ++ c ∷ [])
  goes_by p b c r (to, way, whole) is =
      clean_prefix fixed movers (p ++ c ∷ []) r (subst (λ (x : List Coord). Clean fixed movers x) (is ∙ sym (append_assoc p (c ∷ []) r)) (to, way, whole.clean))

  first_at : (p : List Coord) (at : Point) → after p (root movers) ≡ Some at → (cs : List Coord) → Extensions fixed movers p cs → Dec (CompleteAt fixed at) → FirstBy p cs → First p
  first_at p at leads cs made (yes whole) by =
      inl (
        p,
        record {
          complete = (at, leads, whole);
          from = inl refl;
          least = λ b w from. elim from [ inl e ↦ inr (sym e) | inr (c, r, is) ↦ inl (subst (λ (x : List Coord). Before p x) (sym is) (before_more p c r)) ];
        },
      )
  first_at p at leads cs made (no part) (inl (a, f)) =
      inl (
        a,
        record {
          complete = f.complete;
          from = inr (f.coord, f.rest, f.is);
          least = λ b w from. elim from [
            | inl e ↦ absurd (not_here p at leads part b e w)
            | inr (c, r, is) ↦ f.least b c r w (made.every c (goes_by p b c r w is)) is
          ];
        },
      )
  first_at p at leads cs made (no part) (inr never) =
      inr (λ b w from. elim from [
        | inl e ↦ not_here p at leads part b e w
        | inr (c, r, is) ↦ never b c r w (made.every c (goes_by p b c r w is)) is
      ])

  extensions_at : (p : List Coord) (at : Point) → after p (root movers) ≡ Some at → Extensions fixed movers p (kept (Child fixed at) (dec_child fixed at) (coords_of at.groups at.movers))
  extensions_at p at leads =
      record {
        rising = kept_rising (Child fixed at) (dec_child fixed at) (coords_of at.groups at.movers) (coords_rising at.groups at.movers);
        each = all_weaker (Child fixed at) (λ c. Clean fixed movers (p ++ c ∷ [])) (λ c h. clean_of_child p at c leads h) (kept (Child fixed at) (dec_child fixed at) (coords_of at.groups at.movers))
            (kept_each (Child fixed at) (dec_child fixed at) (coords_of at.groups at.movers));
        every = λ c clean. let child = child_of_clean p at c leads clean in kept_every (Child fixed at) (dec_child fixed at) (coords_of at.groups at.movers) c (coords_every fixed at c child) child;
      }

  explored_at : (p : List Coord) (at : Point) → after p (root movers) ≡ Some at → CleanPlaces fixed at.placed → ((c : Coord) → Child fixed at c → Explored (p ++ c ∷ [])) → Dec (LiveAt fixed at) → Explored p
  explored_at p at leads clean deeper (no dead) =
      record { below = []; lists = record { ascending = tt; each = tt; every = λ q h. absurd (nothing_grows fixed movers p not_live q h.0 h.1) }; first = inr (λ b whole from. not_live (live_from p b whole from)) }
    where
      not_live : Live fixed movers p → ⊥
      not_live (to, goes, live) = let same : to ≡ at = cc in dead (subst (λ (x : Point). LiveAt fixed x) same live)
  explored_at p at leads clean deeper (yes live) =
      let cs = kept (Child fixed at) (dec_child fixed at) (coords_of at.groups at.movers) in
      let made = extensions_at p at leads in
      let below : Coord → List (List Coord) = λ c. below_of p at c (deeper c) (dec_child fixed at c) in
      record {
        below = family p below cs;
        lists = grows_in_order fixed movers p (at, leads, live) below (λ c h. lists_below p at c leads (deeper c) (dec_child fixed at c) h) cs made;
        first = first_at p at leads cs made (dec_complete fixed at clean) (scan p at cs made.rising (kept_each (Child fixed at) (dec_child fixed at) (coords_of at.groups at.movers)) deeper);
      }

  explore : (n : ℕ) (p : List Coord) (at : Point) → size at < n → after p (root movers) ≡ Some at → CleanPlaces fixed at.placed → Explored p
  explore zero p at small leads clean = absurd (omega arith)
  explore (suc n) p at small leads clean =
      explored_at p at leads clean (λ c h. let less = child_less fixed at c h in explore n (p ++ c ∷ []) h.0 (omega arith) (leads_on p at c h.0 leads h.1) h.2) (dec_live fixed at clean)

  -- The answer -----------------------------------------------------------------------------------------

  dec_before : (q a : List Coord) → Dec (AtOrBefore q a)
  dec_before [] [] = yes (inr refl)
  dec_before [] (d ∷ a) = yes (inl tt)
  dec_before (c ∷ q) [] = no (λ h. elim h [ inl b ↦ b | inr e ↦ cc ])
  dec_before (c ∷ q) (d ∷ a) = by_heads (less_total c d) (dec_before q a)
    where
      by_heads : Less c d ⊎ ((c ≡ d) ⊎ Less d c) → Dec (AtOrBefore q a) → Dec (AtOrBefore (c ∷ q) (d ∷ a))
      by_heads (inl l) more = yes (inl (inl l))
      by_heads (inr (inl e)) (yes (inl h)) = yes (inl (inr (e, h)))
      by_heads (inr (inl e)) (yes (inr h)) = yes (inr (ap (λ (x : Coord). x ∷ q) e ∙ ap (λ (x : List Coord). d ∷ x) h))
      by_heads (inr (inl e)) (no h) = no (λ z. elim z [
        | inl (inl l) ↦ before_irrefl (d ∷ []) (inl (subst (λ (x : Coord). Less x d) e l))
        | inl (inr two) ↦ h (inl two.1)
        | inr same ↦ h (inr (cc))
      ])
      by_heads (inr (inr g)) more = no (λ z. elim z [
        | inl (inl l) ↦ before_irrefl (c ∷ []) (before_trans (c ∷ []) (d ∷ []) (c ∷ []) (inl l) (inl g))
        | inl (inr two) ↦ before_irrefl (d ∷ []) (inl (subst (λ (x : Coord). Less d x) two.0 g))
        | inr same ↦ (let heads : c ≡ d = cc in before_irrefl (d ∷ []) (inl (subst (λ (x : Coord). Less d x) heads g)))
      ])

  abbrev chosen : List Coord → List (List Coord) → List (List Coord)
  chosen a qs = kept (λ q. AtOrBefore q a) (λ q. dec_before q a) qs

  chosen_ascending : (a : List Coord) (qs : List (List Coord)) → Ascending qs → Ascending (chosen a qs)
  unfolding kept
  chosen_ascending a [] h = tt
  chosen_ascending a (q ∷ qs) h = by_test (dec_before q a) (chosen_ascending a qs h.1)
    where
      by_test : (d : Dec (AtOrBefore q a)) → Ascending (chosen a qs) → Ascending (elim d as (λ _. List (List Coord)) [ yes g ↦ q ∷ chosen a qs | no g ↦ chosen a qs ])
      by_test (yes g) more = (kept_all (λ q. AtOrBefore q a) (λ q. dec_before q a) (Before q) qs h.0, more)
      by_test (no g) more = more

  -- all that is tried
  tried_all : (ps : List (List Coord)) → Lists (λ q. Tried fixed movers q × Extends [] q) ps → Lists (Tried fixed movers) ps
  tried_all ps lists =
      record {
        ascending = lists.ascending;
        each = all_weaker (λ q. Tried fixed movers q × Extends [] q) (Tried fixed movers) (λ q h. h.0) ps lists.each;
        every = λ q tried. lists.every q (tried, begun q tried);
      }
    where
      by_front : (q p : List Coord) (c : Coord) → q ≡ p ++ c ∷ [] → Extends [] q
      by_front q [] c is = (c, [], is)
      by_front q (d ∷ p) c is = (d, p ++ c ∷ [], is)

      begun : (q : List Coord) → Tried fixed movers q → Extends [] q
      begun q tried = by_front q tried.0 tried.1 tried.2

  both_all : (P Q : List Coord → Type 0) (qs : List (List Coord)) → AllByRecursion P qs → AllByRecursion Q qs → AllByRecursion (λ q. P q × Q q) qs
  both_all P Q [] h g = tt
  both_all P Q (q ∷ qs) h g = ((h.0, g.0), both_all P Q qs h.1 g.1)

  counted : (a : List Coord) (ps : List (List Coord)) → Lists (Tried fixed movers) ps → TriedUpTo fixed movers a (length (chosen a ps))
  counted a ps lists = (
    chosen a ps,
    record {
      ascending = chosen_ascending a ps lists.ascending;
      each = both_all (Tried fixed movers) (λ q. AtOrBefore q a) (chosen a ps) (kept_all (λ q. AtOrBefore q a) (λ q. dec_before q a) (Tried fixed movers) ps lists.each) (kept_each (λ q. AtOrBefore q a) (λ q. dec_before q a) ps);
      every = λ q h. kept_every (λ q. AtOrBefore q a) (λ q. dec_before q a) ps q (lists.every q h.0) h.1;
    },
    refl,
  )

  same_least : (a b : List Coord) → AtOrBefore a b → AtOrBefore b a → a ≡ b
  same_least a b (inr e) h = e
  same_least a b (inl g) (inr e) = sym e
  same_least a b (inl g) (inl h) = absurd (before_irrefl a (before_trans a b a g h))

  from_root : (b : List Coord) → From [] b
  from_root [] = inl refl
  from_root (c ∷ b) = inr (c, b, refl)

  same_count : (P : List Coord → Type 0) (n m : ℕ) → Numbers P n → Numbers P m → n ≤ m
  same_count P n m a b = numbers_le P P (λ q h. h) n m a b

  found_answer : (budget : ℕ) (a : List Coord) (ps : List (List Coord)) → IsFirst [] a → Lists (Tried fixed movers) ps → Dec (length (chosen a ps) ≤ budget) → (found : Answer) × IsAnswer fixed movers budget found
  found_answer budget a ps first lists (yes within) =
      let plan = plan_of fixed movers a first.complete in (
        assignment plan.0,
        (a, record { least = record { complete = first.complete; least = λ b whole. first.least b whole (from_root b) }; count = length (chosen a ps); counted = counted a ps lists; within = within }, plan.1),
      )
  found_answer budget a ps first lists (no over) = (
    spent,
    (
      (λ plan h.
          let is = h.1 in
          let same = same_least a h.0 (first.least h.0 is.least.complete (from_root h.0)) (is.least.least a first.complete) in
          let own = subst (λ (x : List Coord). TriedUpTo fixed movers x is.count) (sym same) is.counted in
          let few = same_count (λ q. Tried fixed movers q × AtOrBefore q a) (length (chosen a ps)) is.count (counted a ps lists) own in
          over (let w = is.within in omega arith)),
      (λ h. h.0 a first.complete),
    ),
  )

  none_answer : (budget : ℕ) (ps : List (List Coord)) → ((b : List Coord) → Complete fixed movers b → From [] b → ⊥) → Lists (Tried fixed movers) ps → Dec (length ps ≤ budget) → (found : Answer) × IsAnswer fixed movers budget found
  none_answer budget ps none lists (yes within) = (no_fit, ((λ a whole. none a whole (from_root a)), (length ps, (ps, lists, refl), within)))
  none_answer budget ps none lists (no over) = (
    spent,
    (
      (λ plan h. none h.0 h.1.least.complete (from_root h.0)),
      (λ h. let few = same_count (Tried fixed movers) (length ps) h.1.0 (ps, lists, refl) h.1.1 in over (let w = h.1.2 in omega arith)),
    ),
  )

  by_first : (budget : ℕ) (ps : List (List Coord)) → Lists (Tried fixed movers) ps → First [] → (found : Answer) × IsAnswer fixed movers budget found
  by_first budget ps lists (inl (a, first)) = found_answer budget a ps first lists (dec_le (length (chosen a ps)) budget)
  by_first budget ps lists (inr none) = none_answer budget ps none lists (dec_le (length ps) budget)

  -- every problem and budget has an answer
  pub answer_some : (budget : ℕ) → (found : Answer) × IsAnswer fixed movers budget found
  answer_some budget =
      let all = explore (suc (size (root movers))) [] (root movers) (omega arith) refl tt in
      by_first budget all.below (tried_all all.below all.lists) all.first
