-- Windows on several devices narrow what comes through as those on each of them do.
use Rattle.std.proofs.Common.{◌≡◌, ℕ, ◌==◌, Bool, true, false, ◌&&◌, ◌||◌, cond, List, [], ◌∷◌, ◌++◌, map, Option, Some, None, refl, sym, ap, ap₂, ◌∙◌}
use Rattle.std.proofs.Math.Nat.{le_refl}
use Rattle.resource_reqs.specs.Resources.{Res, same_kind}
use Rattle.resource_reqs.specs.declared.kind.Kind.{Kind}
use Rattle.pnp_model.specs.Keyed.{those}
use Rattle.pnp_model.specs.Records.{Node, Window}
use Rattle.pnp_model.specs.Tests.{has}
use Rattle.pnp_model.specs.Windows.{Room, all_numbers, narrowed, birth_of, is_window_on}
use Rattle.bridge_windows.specs.Ranges.{is_of, ranges_of}
use Rattle.bridge_windows.specs.Rooms.{meet, range, narrowed_at, narrowed_by, ranges_at}
use Rattle.bridge_windows.proofs.Meets.{IsNarrow, meet_assoc, meet_same, meet_all, meet_narrow, meet_twice, meet_swap}

-- what the windows of a kind on devices let through
abbrev pub through : Kind → List ℕ → List Window → Room
through kind borns windows = narrowed (those (is_window_on kind borns) windows)

pub narrowed_narrow : (windows : List Window) → IsNarrow (narrowed windows)
narrowed_narrow [] = le_refl _
narrowed_narrow (w ∷ ws) = meet_narrow (range w.res) (narrowed ws) (narrowed_narrow ws)

-- a window that is on one of these narrows
abbrev with_window : Bool → Window → Room → Room
with_window on w r = cond on (meet (range w.res) r) r

window_taken : (on : Bool) (w : Window) (ws : List Window) → narrowed (cond on (w ∷ ws) ws) ≡ with_window on w (narrowed ws)
window_taken true w ws = refl
window_taken false w ws = refl

through_step : (kind : Kind) (borns : List ℕ) (w : Window) (ws : List Window) → through kind borns (w ∷ ws) ≡ with_window (is_window_on kind borns w) w (through kind borns ws)
through_step kind borns w ws = window_taken (is_window_on kind borns w) w (those (is_window_on kind borns) ws)

not_taken : (same : Bool) (w : Window) (r : Room) → with_window (same && false) w r ≡ r
not_taken true w r = refl
not_taken false w r = refl

-- on no device there is no window
pub through_none : (kind : Kind) (windows : List Window) → through kind [] windows ≡ all_numbers
through_none kind [] = refl
through_none kind (w ∷ ws) = through_step kind [] w ws ∙ (not_taken (same_kind w.res.kind kind) w (through kind [] ws) ∙ through_none kind ws)

has_both : (xs ys : List ℕ) (k : ℕ) → has (xs ++ ys) k ≡ (has xs k || has ys k)
has_both [] ys k = refl
has_both (x ∷ xs) ys k = by (x == k) (has_both xs ys k)
  where
    by : (b : Bool) → has (xs ++ ys) k ≡ (has xs k || has ys k) → (b || has (xs ++ ys) k) ≡ ((b || has xs k) || has ys k)
    by true e = refl
    by false e = e

both_take : (same here there : Bool) (w : Window) (a b : Room) → with_window (same && (here || there)) w (meet a b) ≡ meet (with_window (same && here) w a) (with_window (same && there) w b)
both_take false here there w a b = refl
both_take true true true w a b =
    let r = range w.res in
    sym (sym (meet_assoc r a (meet r b)) ∙ (ap₂ meet refl (meet_swap a r b) ∙ meet_twice r (meet a b)))
both_take true true false w a b = meet_assoc (range w.res) a b
both_take true false true w a b = meet_swap (range w.res) a b
both_take true false false w a b = refl

-- the windows on two lists of devices
pub through_both : (kind : Kind) (xs ys : List ℕ) (windows : List Window) → through kind (xs ++ ys) windows ≡ meet (through kind xs windows) (through kind ys windows)
through_both kind xs ys [] = sym (meet_same all_numbers)
through_both kind xs ys (w ∷ ws) =
    let same = same_kind w.res.kind kind in
    through_step kind (xs ++ ys) w ws
    ∙ (ap₂ (λ (b : Bool) (r : Room). with_window (same && b) w r) (has_both xs ys w.born) (through_both kind xs ys ws)
    ∙ (both_take same (has xs w.born) (has ys w.born) w (through kind xs ws) (through kind ys ws)
    ∙ sym (ap₂ meet (through_step kind xs w ws) (through_step kind ys w ws))))

-- The ranges of one device -----------------------------------------------------

narrow_one : (kind : Kind) (res : Res) (a r : Room) → narrowed_at kind res (meet a r) ≡ meet a (narrowed_at kind res r)
narrow_one kind res a r = by (same_kind res.kind kind)
  where
    by : (same : Bool) → cond same (meet (range res) (meet a r)) (meet a r) ≡ meet a (cond same (meet (range res) r) r)
    by true = meet_swap (range res) a r
    by false = refl

narrow_beside : (kind : Kind) (ranges : List Res) (a r : Room) → narrowed_by kind ranges (meet a r) ≡ meet a (narrowed_by kind ranges r)
narrow_beside kind [] a r = refl
narrow_beside kind (res ∷ rest) a r =
    ap (narrowed_by kind rest) (narrow_one kind res a r) ∙ narrow_beside kind rest a (narrowed_at kind res r)

-- a window on the device narrows for its kind
own_takes : (kind : Kind) (w : Window) (rest : List Res) (r t : Room) (own same : Bool) → narrowed_by kind rest r ≡ meet r t
    → cond own (narrowed_by kind rest (cond same (meet (range w.res) r) r)) (narrowed_by kind rest r) ≡ meet r (with_window (same && (own || false)) w t)
own_takes kind w rest r t true true e = narrow_beside kind rest (range w.res) r ∙ (ap (meet (range w.res)) e ∙ meet_swap (range w.res) r t)
own_takes kind w rest r t true false e = e
own_takes kind w rest r t false true e = e
own_takes kind w rest r t false false e = e

ranges_taken : (own : Bool) (w : Window) (ws own_ws : List Window) (kind : Kind) (r : Room) → narrowed_by kind (map (λ v. v.res) (cond own (w ∷ own_ws) own_ws)) r
    ≡ cond own (narrowed_by kind (map (λ v. v.res) own_ws) (narrowed_at kind w.res r)) (narrowed_by kind (map (λ v. v.res) own_ws) r)
ranges_taken true w ws own_ws kind r = refl
ranges_taken false w ws own_ws kind r = refl

-- the ranges of one device narrow as the windows on it do
pub narrow_ranges : (kind : Kind) (born : ℕ) (windows : List Window) (r : Room) → IsNarrow r → narrowed_by kind (ranges_of born windows) r ≡ meet r (through kind (born ∷ []) windows)
narrow_ranges kind born [] r h = sym (meet_all r h)
narrow_ranges kind born (w ∷ ws) r h =
    ranges_taken (is_of born w) w ws (those (is_of born) ws) kind r
    ∙ (own_takes kind w (ranges_of born ws) r (through kind (born ∷ []) ws) (is_of born w) (same_kind w.res.kind kind) (narrow_ranges kind born ws r h)
    ∙ sym (ap (meet r) (through_step kind (born ∷ []) w ws)))

-- the same of a device whose node may not be there
pub narrow_node : (kind : Kind) (o : Option Node) (windows : List Window) (r : Room) → IsNarrow r → narrowed_by kind (ranges_at windows o) r ≡ meet r (through kind (birth_of o) windows)
narrow_node kind None windows r h = sym (ap (meet r) (through_none kind windows) ∙ meet_all r h)
narrow_node kind (Some n) windows r h = narrow_ranges kind n.born windows r h
