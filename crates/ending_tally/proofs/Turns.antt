-- The order of runs does not matter, and they have one tally.
use Rattle.std.proofs.Common.{◌≡◌, ℕ, zero, suc, ◌<◌, ◌≤◌, List, [], ◌∷◌, length, refl, sym, ap, ◌∙◌, arith, Option, Some, None, get_or}
use Rattle.std.specs.List.{filter, Any, Contains}
use Rattle.std.specs.List.Sorted.{IsPermutation}
use Rattle.std.specs.Cmp.Lexicographic.{nat_list_cmp_total}
use Rattle.std.specs.FinMap.{get, same_map, nat_cmp-IsAntisymmetric, slice_cmp-IsAntisymmetric}
use Rattle.std.proofs.lemmas.List.{nil_from_length, same_lists}
use Rattle.std.proofs.lemmas.List.Elements.{All-contains, All-filter, All-contains_itself}
use Rattle.std.proofs.lemmas.List.Sorted.{IsPermutation-map, length_permutation, All-permutation, Contains-permutation}
use Rattle.ending_tally.specs.declared.tally.Mark.{Mark}
use Rattle.ending_tally.specs.Tallies.{Run, Ended, Told, IsLeast, IsMark, IsEnded, AreOfScripts, OrderDoesNotMatter, OneTally, capped, breaks, came_to, mark_at}
use Rattle.ending_tally.proofs.Orders.{IsPermutation-filter}

-- ---- another order

least_turned : (ns ms : List ℕ) (least : ℕ) → IsPermutation ns ms → IsLeast ns least → IsLeast ms least
least_turned [] [] least turn h = h
least_turned [] (m ∷ ms) least turn h = absurd (omega (arith, length_permutation [] (m ∷ ms) turn))
least_turned (n ∷ ns) [] least turn h = absurd (omega (arith, length_permutation (n ∷ ns) [] turn))
least_turned (n ∷ ns) (m ∷ ms) least turn h = (Contains-permutation (n ∷ ns) (m ∷ ms) least turn h.0, All-permutation (λ k. least ≤ k) (n ∷ ns) (m ∷ ms) turn h.1)

mark_turned : (xs ys : List Run) (mark : Mark) → IsPermutation xs ys → IsMark xs mark → IsMark ys mark
mark_turned xs ys mark turn h = record {
  scripts = h.scripts ∙ ap capped (sym (length_permutation xs ys turn));
  first = least_turned _ _ mark.first (IsPermutation-map (λ run. run.number) xs ys turn) h.first;
}

any_turned : (P : Run → Type 0) (xs ys : List Run) → IsPermutation xs ys → Any P xs → Any P ys
any_turned P xs ys turn h =
    let there = Contains-permutation xs ys h.1 turn (h.0, h.2, h.3) in
    (there.0, h.1, there.1, there.2, h.4)

ended_turned : (xs ys : List Run) (told : Option Ended) → IsPermutation xs ys → IsEnded xs told → IsEnded ys told
ended_turned xs ys None turn h = nil_from_length ys (length_permutation xs ys turn ∙ ap (λ (l : List Run). length l) h)
ended_turned xs ys (Some told) turn h = (mark_turned xs ys told.mark turn h.0, any_turned _ xs ys turn h.1)

pub order_does_not_matter : OrderDoesNotMatter
order_does_not_matter few runs others told turn h = record {
  scripts = h.scripts ∙ ap capped (sym (length_permutation runs others turn));
  expectations = h.expectations;
  broken = λ place l. mark_turned _ _ (mark_at told.broken place) (IsPermutation-filter (breaks place) runs others turn) (h.broken place l);
  endings = λ kind. ended_turned _ _ (get told.endings kind) (IsPermutation-filter (came_to kind) runs others turn) (h.endings kind);
}

-- ---- one tally

least_once : (ns : List ℕ) (a b : ℕ) → IsLeast ns a → IsLeast ns b → a ≡ b
least_once [] a b h k = h ∙ sym k
least_once (n ∷ ns) a b h k =
    let below : a ≤ b = All-contains (λ m. a ≤ m) (n ∷ ns) b h.1 k.0 in
    let above : b ≤ a = All-contains (λ m. b ≤ m) (n ∷ ns) a k.1 h.0 in
    omega (arith, below, above)

same_mark : (a b : Mark) → a.scripts ≡ b.scripts → a.first ≡ b.first → a ≡ b
same_mark a b h k = λ i. record { scripts = h i; first = k i }

mark_once : (runs : List Run) (a b : Mark) → IsMark runs a → IsMark runs b → a ≡ b
mark_once runs a b h k = same_mark a b (h.scripts ∙ sym k.scripts) (least_once _ a.first b.first h.first k.first)

same_ended : (a b : Ended) → a.mark ≡ b.mark → a.text ≡ b.text → a ≡ b
same_ended a b h k = λ i. record { mark = h i; text = k i }

ended_once : (whole runs : List Run) (told other : Option Ended) → AreOfScripts whole → ((run : Run) → Contains runs run → Contains whole run) → IsEnded runs told → IsEnded runs other → told ≡ other
ended_once whole runs None None alike inside h k = refl
ended_once whole runs None (Some other) alike inside h k = absurd (omega (arith, ap (λ (l : List Run). length l) h, k.1.2))
ended_once whole runs (Some told) None alike inside h k = absurd (omega (arith, ap (λ (l : List Run). length l) k, h.1.2))
ended_once whole runs (Some told) (Some other) alike inside h k =
    let marks = mark_once runs told.mark other.mark h.0 k.0 in
    let run = alike h.1.1 k.1.1 (inside h.1.1 (h.1.0, h.1.2, h.1.3)) (inside k.1.1 (k.1.0, k.1.2, k.1.3)) (h.1.4.0 ∙ ap (λ (m : Mark). m.first) marks ∙ sym k.1.4.0) in
    ap (λ e. Some e) (same_ended told other marks (sym h.1.4.1 ∙ ap (λ (r : Run). r.text) run ∙ k.1.4.1))

contains_filter : (p : Run → _) (runs : List Run) (run : Run) → Contains (filter p runs) run → Contains runs run
contains_filter p runs run h = All-contains (Contains runs) (filter p runs) run (All-filter p (Contains runs) runs (All-contains_itself runs)) h

pub mark_at-is : (marks : List Mark) (place : ℕ) (d : Mark) → place < length marks → mark_at marks place ≡ get_or marks place d
mark_at-is [] place d l = absurd (omega (arith, l))
mark_at-is (m ∷ marks) zero d l = refl
mark_at-is (m ∷ marks) (suc place) d l = mark_at-is marks place d (omega (arith, l))

same_told : (a b : Told) → a.scripts ≡ b.scripts → a.broken ≡ b.broken → a.endings ≡ b.endings → a ≡ b
same_told a b h k l = λ i. record { scripts = h i; broken = k i; endings = l i }

pub one_tally : OneTally
one_tally few runs told other alike h k =
    same_told told other
    (h.scripts ∙ sym k.scripts)
    (same_lists told.broken other.broken (h.expectations ∙ sym k.expectations)
    (λ place d l. sym (mark_at-is told.broken place d l)
    ∙ mark_once _ (mark_at told.broken place) (mark_at other.broken place) (h.broken place (omega (arith, l, h.expectations))) (k.broken place (omega (arith, l, h.expectations)))
    ∙ mark_at-is other.broken place d (omega (arith, l, h.expectations, k.expectations))))
    (same_map nat_list_cmp_total (slice_cmp-IsAntisymmetric nat_cmp-IsAntisymmetric) told.endings other.endings
    (λ kind. ended_once runs _ (get told.endings kind) (get other.endings kind) alike (contains_filter (came_to kind) runs) (h.endings kind) (k.endings kind)))
