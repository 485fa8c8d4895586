-- The window of a kind of a device is found among its ranges.
use Rattle.std.proofs.Common.{◌≡◌, ◌↔◌, IsTrue, Ok, Err, nat_eq, inl, inr, arith, ℕ, ◌==◌, Bool, true, false, ◌&&◌, ◌||◌, cond, List, [], ◌∷◌, ◌++◌, map, Option, Some, None, refl, sym, ap, ◌∙◌, is_some}
use Rattle.std.specs.List.{find, list_any}
use Rattle.std.specs.HashMap.{HashMap, get}
use Rattle.std.specs.declared.vec.Vec.{Vec}
use Rattle.std.specs.Option.{option_copied}
use Rattle.std.specs.Result.{IsErrOf}
use Rattle.std.proofs.lemmas.Bool.{cases_eq}
use Rattle.std.proofs.lemmas.Bool.Decides.{nat_tests}
use denote.Ref.{Bor}
use Rattle.std.specs.Option.{option_map}
use Rattle.resource_reqs.specs.Resources.{Res, same_kind}
use Rattle.resource_reqs.specs.declared.kind.Kind.{Kind}
use Rattle.pnp_model.specs.Keyed.{those}
use Rattle.pnp_model.specs.Records.{Window}
use Rattle.pnp_model.specs.Windows.{is_window_on}
use Rattle.bridge_windows.specs.Ranges.{is_of, ranges_of, kept_in, IsIndexed}
use Rattle.bridge_windows.specs.declared.error.WindowError.{WindowError}
use Rattle.bridge_windows.specs.declared.error.WindowError.TheVariants.{SameWindow, WantOfMemory}

abbrev res_of : Window → Res
res_of w = w.res

abbrev is_kind : Kind → Res → Bool
is_kind kind res = same_kind res.kind kind

one_window : (own same : Bool) (w : Window) (rest : List Res) (kind : Kind) (more : Option Window) → find (is_kind kind) rest ≡ option_map res_of more
    → cond own (cond same (Some w.res) (find (is_kind kind) rest)) (find (is_kind kind) rest) ≡ option_map res_of (cond (same && (own || false)) (Some w) more)
one_window true true w rest kind more e = refl
one_window true false w rest kind more e = e
one_window false true w rest kind more e = e
one_window false false w rest kind more e = e

find_taken : (own : Bool) (w : Window) (ws : List Window) (kind : Kind) → find (is_kind kind) (map res_of (cond own (w ∷ ws) ws))
    ≡ cond own (cond (is_kind kind w.res) (Some w.res) (find (is_kind kind) (map res_of ws))) (find (is_kind kind) (map res_of ws))
find_taken true w ws kind = refl
find_taken false w ws kind = refl

pub found_among : (kind : Kind) (born : ℕ) (windows : List Window) → find (is_kind kind) (ranges_of born windows) ≡ option_map res_of (find (is_window_on kind (born ∷ [])) windows)
found_among kind born [] = refl
found_among kind born (w ∷ ws) =
    find_taken (is_of born w) w (those (is_of born) ws) kind
    ∙ one_window (is_of born w) (same_kind w.res.kind kind) w (ranges_of born ws) kind (find (is_window_on kind (born ∷ [])) ws) (found_among kind born ws)

-- it is there exactly where one of the windows is
some_any : (kind : Kind) (born : ℕ) (windows : List Window) → is_some (find (is_window_on kind (born ∷ [])) windows) ≡ list_any (is_window_on kind (born ∷ [])) windows
some_any kind born [] = refl
some_any kind born (w ∷ ws) = by (is_window_on kind (born ∷ []) w) (some_any kind born ws)
  where
    by : (b : Bool) → is_some (find (is_window_on kind (born ∷ [])) ws) ≡ list_any (is_window_on kind (born ∷ [])) ws
        → is_some (cond b (Some w) (find (is_window_on kind (born ∷ [])) ws)) ≡ (b || list_any (is_window_on kind (born ∷ [])) ws)
    by true e = refl
    by false e = e

some_mapped : {X Y : Type 0} (f : X → Y) (o : Option X) → is_some (option_map f o) ≡ is_some o
some_mapped f None = refl
some_mapped f (Some x) = refl

pub any_window : (kind : Kind) (born : ℕ) (windows : List Window) → is_some (option_map res_of (find (is_window_on kind (born ∷ [])) windows)) ≡ list_any (is_window_on kind (born ∷ [])) windows
any_window kind born windows = some_mapped res_of (find (is_window_on kind (born ∷ [])) windows) ∙ some_any kind born windows

-- A window more ----------------------------------------------------------------

ranges_one : (own : Bool) (w : Window) (ws : List Window) (res : List Res) → map res_of (cond own (w ∷ ws) ws) ++ res ≡ cond own (w.res ∷ (map res_of ws ++ res)) (map res_of ws ++ res)
ranges_one true w ws res = refl
ranges_one false w ws res = refl

same_taken : (own : Bool) (w : Window) (ws vs : List Window) (rest : List Res) → map res_of vs ≡ rest → map res_of (cond own (w ∷ vs) vs) ≡ cond own (w.res ∷ rest) rest
same_taken true w ws vs rest e = ap (λ l. w.res ∷ l) e
same_taken false w ws vs rest e = e

-- the ranges of a device with a window more at the end
pub ranges_more : (born : ℕ) (windows : List Window) (b : ℕ) (res : Res) → ranges_of born (windows ++ record { born = b; res = res } ∷ []) ≡ ranges_of born windows ++ cond (born == b) (res ∷ []) []
ranges_more born [] b res = by (born == b)
  where
    by : (own : Bool) → map res_of (cond own (record { born = b; res = res } ∷ []) []) ≡ cond own (res ∷ []) []
    by true = refl
    by false = refl
ranges_more born (w ∷ ws) b res =
    same_taken (is_of born w) w ws (those (is_of born) (ws ++ record { born = b; res = res } ∷ [])) (ranges_of born ws ++ cond (born == b) (res ∷ []) []) (ranges_more born ws b res)
    ∙ sym (ranges_one (is_of born w) w (those (is_of born) ws) (cond (born == b) (res ∷ []) []))

nothing_more : (xs : List Res) → xs ++ [] ≡ xs
nothing_more [] = refl
nothing_more (x ∷ xs) = ap (λ l. x ∷ l) (nothing_more xs)

module _ {A S : Type 0} (windows : List Window) (old new : HashMap ℕ (Vec Res A) S) (b : ℕ) (res : Res) (v : Vec Res A) where
  -- the map with one window more
  pub indexed_more : IsIndexed windows old → v.items ≡ ranges_of b windows ++ res ∷ [] → ((k : ℕ) → get nat_eq new k ≡ cond (nat_eq b k) (Some v) (get nat_eq old k))
      → IsIndexed (windows ++ record { born = b; res = res } ∷ []) new
  indexed_more kept is updates born = elim (cases_eq b born) [
    | inl e ↦
        let same : nat_eq b born ≡ true = grind (arith, nat_tests) in
        let own : (born == b) ≡ true = grind (arith, nat_tests) in
        ap kept_in (updates born ∙ ap (λ t. cond t (Some v) (get nat_eq old born)) same)
        ∙ (is ∙ (ap (λ k. ranges_of k windows ++ res ∷ []) e ∙ sym (ranges_more born windows b res ∙ ap (λ t. ranges_of born windows ++ cond t (res ∷ []) []) own)))
    | inr d ↦
        let other : nat_eq b born ≡ false = grind (arith, nat_tests) in
        let none : (born == b) ≡ false = grind (arith, nat_tests) in
        ap kept_in (updates born ∙ ap (λ t. cond t (Some v) (get nat_eq old born)) other)
        ∙ (kept born ∙ sym (ranges_more born windows b res ∙ (ap (λ t. ranges_of born windows ++ cond t (res ∷ []) []) none ∙ nothing_more (ranges_of born windows))))
  ]

pub copied_now : {X : Type 0} (o : Option (Bor X)) → option_copied o ≡ option_map (λ r. r.now) o
copied_now None = refl
copied_now (Some r) = refl

-- Whether one of the kind is told ------------------------------------------------

module _ (there : Bool) where
  pub told : there ≡ true → IsErrOf {T = Unit {0}} (Err SameWindow) SameWindow ↔ IsTrue there
  told e = (λ h. e, λ h. refl)

  pub untold : there ≡ false → IsErrOf {T = Unit {0}} {E = WindowError} (Ok tt) SameWindow ↔ IsTrue there
  untold e = (λ h. absurd (cc), λ h. absurd (let yes : there ≡ true = h in cc))

  pub short : there ≡ false → IsErrOf {T = Unit {0}} (Err WantOfMemory) SameWindow ↔ IsTrue there
  short e = (λ h. absurd (cc), λ h. absurd (let yes : there ≡ true = h in cc))
