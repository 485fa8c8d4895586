-- The first open place of a group, want after want.
use Rattle.std.proofs.Common.{◌≡◌, ℕ, ◌+◌, ◌<◌, ◌≤◌, inl, inr, List, length, slice_get, Some, subst, arith}
use native.Mathlib.Decide.{dec_lt}
use Rattle.std.proofs.lemmas.Option.{slice_get_within}
use Rattle.resource_reqs.specs.Resources.{Res}
use Rattle.resource_reqs.specs.Resources.{Want}
use Rattle.resource_reqs.specs.Resources.{May, res_at, IsOpen, Group}
use Rattle.resource_reqs.specs.Spelling.{Coord, place, Less}
use Rattle.assign_search.specs.Walking.{OpenPick, NoPick, NoPickFrom, HasOpen, NextPick}

-- the same want
open_same : (held : List Res) (group : Group) (w start : ℕ) (want : Want) → slice_get group w ≡ Some want → OpenPick held group w start → IsOpen held want start
open_same held group w start want read (other, is, open_) = let same : other ≡ want = cc in subst (λ x. IsOpen held x start) same open_

-- none up to a start of a want, and none of that want up to a later start
pub pick_more : (held : List Res) (group : Group) (from : Coord) (w start found : ℕ) (want : Want) → slice_get group w ≡ Some want
    → NoPick held group from (place w start) → ((t : ℕ) → start ≤ t → t < found → IsOpen held want t → ⊥)
    → NoPick held group from (place w found)
pick_more held group from w start found want read none here v t above (inl h) picked = none v t above (inl h) picked
pick_more held group from w start found want read none here v t above (inr (e, h)) picked =
    elim (dec_lt t start) [
      | yes l ↦ none v t above (inr (e, l)) picked
      | no l ↦ here t (omega arith) h (open_same held group w t want read (subst (λ x. OpenPick held group x t) e picked))
    ]

-- none of that want at all
pub pick_past : (held : List Res) (group : Group) (from : Coord) (w start : ℕ) (want : Want) → slice_get group w ≡ Some want
    → NoPick held group from (place w start) → ((t : ℕ) → start ≤ t → IsOpen held want t → ⊥)
    → NoPick held group from (place (w + 1) 0)
pick_past held group from w start want read none here v t above (inr (e, h)) picked = absurd (omega arith)
pick_past held group from w start want read none here v t above (inl h) picked =
    elim (dec_lt v w) [
      | yes l ↦ none v t above (inl l) picked
      | no l ↦
          let e : v ≡ w = omega arith in
          elim (dec_lt t start) [
            | yes g ↦ none v t above (inr (e, g)) picked
            | no g ↦ here t (omega arith) (open_same held group w t want read (subst (λ x. OpenPick held group x t) e picked))
          ]
    ]

-- past the last want there is none
pub pick_none : (held : List Res) (group : Group) (from : Coord) (w start : ℕ) → ((v : ℕ) (want : Want) → slice_get group v ≡ Some want → v < w)
    → NoPick held group from (place w start) → NoPickFrom held group from
pick_none held group from w start within none v t above (want, read, open_) = none v t above (inl (within v want read)) (want, read, open_)

-- no open place of the first want, and none from the second one on: none at all
pub none_after : (held : List Res) (group : Group) (want : Want) → slice_get group 0 ≡ Some want → ((t : ℕ) → IsOpen held want t → ⊥)
    → NoPickFrom held group (place 1 0) → HasOpen held group → ⊥
none_after held group want read here none (w, start, picked) =
    elim (dec_lt 0 w) [
      | yes l ↦ none w start (behind w start l) picked
      | no l ↦
          let e : w ≡ 0 = omega arith in
          here start (open_same held group 0 start want read (subst (λ x. OpenPick held group x start) e picked))
    ]
  where
    behind : (v t : ℕ) → 0 < v → Less (place v t) (place 1 0) → ⊥
    behind v t above (inl h) = omega arith
    behind v t above (inr (e, h)) = omega arith

-- nothing is open where there is no want
pub none_of_none : (held : List Res) (group : Group) → length group ≡ 0 → HasOpen held group → ⊥
none_of_none held group none (w, start, (want, read, open_)) = let within : w < length group = slice_get_within group w want read in omega arith

-- what comes after a place, where nothing but starts beyond the want's range stands between
pub next_pick : (group : Group) (w start : ℕ) (want : Want) (next : Coord) → slice_get group w ≡ Some want → Less (place w start) next
    → ((v t : ℕ) → Less (place v t) next → Less (place w start) (place v t) → (v ≡ w) × (¬ May want (res_at want t))) → NextPick group w start next
next_pick group w start want next read later far = record {
  later = later;
  at_once = λ held v t before after picked. beyond held v t picked (far v t before after);
}
  where
    beyond : (held : List Res) (v t : ℕ) → OpenPick held group v t → (v ≡ w) × (¬ May want (res_at want t)) → ⊥
    beyond held v t picked (same, over) =
        let open_ = open_same held group w t want read (subst (λ x. OpenPick held group x t) same picked) in
        over open_.0
