-- The world has the root and at most 4,096 devices more.
use Rattle.std.proofs.Common.{ℕ, suc, ◌+◌, ◌≤◌, ◌≡◌, ◌≢◌, ◌==◌, inl, inr, Bool, true, false, ◌||◌, cond, List, [], ◌∷◌, ◌++◌, ◌∙◌, length, sym, subst, arith, nat_le}
use Rattle.std.proofs.lemmas.Bool.Decides.{nat_tests}
use Rattle.pnp_model.specs.Tests.{has}
use Rattle.pnp_model.specs.Records.{Device, State}
use Rattle.pnp_model.specs.Runs.Entry.{Happens}
use Rattle.pnp_model.specs.States.{without_those}
use Rattle.pnp_labels.specs.declared.event.Event.{Event}
use Rattle.pnp_labels.specs.declared.label.Label.{Label}
use Rattle.pnp_laws.specs.Effects.{WorldEffect}
use Rattle.pnp_laws.proofs.Joins.{Grows, Born, Flows, HasRoom, room_changed}
use Rattle.pnp_laws.proofs.Truths.{neither}

-- Worlds -----------------------------------------------------------------------------------------------------

without_less : (gone : List ℕ) (ds : List Device) → length (without_those gone ds) ≤ length ds
without_less gone [] = omega arith
without_less gone (d ∷ ds) = by_test (has gone d.born || has gone d.parent) (without_less (d.born ∷ gone) ds) (without_less gone ds)
  where
    by_test : (b : Bool) → length (without_those (d.born ∷ gone) ds) ≤ length ds → length (without_those gone ds) ≤ length ds → length (cond b (without_those (d.born ∷ gone) ds) (d ∷ without_those gone ds)) ≤ suc (length ds)
    by_test true h g = omega arith
    by_test false h g = omega arith

-- where a device but the root goes, the root stays
room_without : (born : ℕ) (ds : List Device) → Grows 0 ds → born ≢ 0 → HasRoom ds → HasRoom (without_those (born ∷ []) ds)
room_without born [] grows up room = absurd room
room_without born (d ∷ ds) grows up (root, few) =
    by_test (has (born ∷ []) d.born || has (born ∷ []) d.parent) (neither (has (born ∷ []) d.born) (has (born ∷ []) d.parent) (stays d.born root) (stays d.parent (let l = grows.1 in omega arith)))
  where
    stays : (k : ℕ) → k ≡ 0 → has (born ∷ []) k ≡ false
    stays k e = let d : born ≢ k = λ q. up (let r = q in omega arith) in grind (arith, nat_tests)

    by_test : (b : Bool) → b ≡ false → HasRoom (cond b (without_those (d.born ∷ born ∷ []) ds) (d ∷ without_those (born ∷ []) ds))
    by_test true e = absurd (cc)
    by_test false e = (root, let l = without_less (born ∷ []) ds in omega arith)

longer : (ds : List Device) (d : Device) → length (ds ++ d ∷ []) ≡ length ds + 1
longer [] d = omega arith
longer (x ∷ xs) d = let h = longer xs d in omega arith

room_plugged : (ds : List Device) (d : Device) → nat_le (length ds) 4096 ≡ true → HasRoom ds → HasRoom (ds ++ d ∷ [])
room_plugged [] d l room = absurd room
room_plugged (x ∷ xs) d l (root, few) = (root, let e = longer xs d in let g : suc (length xs) ≤ 4096 = at_most (suc (length xs)) l in omega arith)
  where
    at_most : (n : ℕ) → nat_le n 4096 ≡ true → n ≤ 4096
    at_most n h = grind (arith, nat_tests)

pub room_flows : (s t : State) → Born s → Flows s t → HasRoom t.world
room_flows s t born f =
    elim f.stays [
      | inl e ↦ subst HasRoom (sym e) born.room
      | inr (n, at, up, e) ↦ subst HasRoom (sym e) (room_without n.born s.world born.grows (λ q. up (born.first n.serial n at q)) born.room)
    ]

-- the world keeps its room in an event
pub event_room : (s : State) (event : Event) (label : Label) (t : State) → WorldEffect s (Happens event label) t → Born s → HasRoom t.world
event_room s event label t (WorldEffect.same world next) born = subst HasRoom (sym world) born.room
event_room s event label t (WorldEffect.plugged d plug world next) born = subst HasRoom (sym world) (room_plugged s.world d plug.room born.room)
event_room s event label t (WorldEffect.changed n path reqs prints at up is there e world next) born = subst HasRoom (sym world) (room_changed n.born reqs s.world born.room)
event_room s event label t (WorldEffect.unplugged gone (d, path, there, own, up) world next) born =
    subst HasRoom (sym world) (room_without gone s.world born.grows (λ e. not_root d.born up (own ∙ e)) born.room)
  where
    not_root : (k : ℕ) → (k == 0) ≡ false → k ≡ 0 → ⊥
    not_root k up e = grind (arith, nat_tests)
