-- What the frames of a path placed: put on the lists frame by frame, and taken off again.
use Rattle.std.proofs.Common.{◌≡◌, List, [], ◌∷◌, ◌++◌, Contains, Some, refl, sym, ◌∙◌, ap}
use Rattle.resource_reqs.specs.Resources.{Res}
use Rattle.trial_journal.specs.ByKind.{Lists, of_kind}
use Rattle.assign_search.specs.declared.spots.Frame.{Frame}
use Rattle.assign_search.specs.Walking.{lists_holding, lists_along, trial}
use Rattle.assign_search.proofs.SameHeld.{holding_once}
use Rattle.assign_search.proofs.Searching.{there}

along_push : (l : Lists) (fs : List Frame) (f : Frame) → lists_along l (fs ++ f ∷ []) ≡ lists_holding (lists_along l fs) f.res
along_push l [] f = refl
along_push l (g ∷ fs) f = along_push (lists_holding l g.res) fs f

-- a frame more
pub along_more : (l m m' : Lists) (fs : List Frame) (f : Frame) → m ≡ lists_along l fs → m' ≡ lists_holding m f.res → m' ≡ lists_along l (fs ++ f ∷ [])
along_more l m m' fs f is put = put ∙ ap (λ x. lists_holding x f.res) is ∙ sym (along_push l fs f)

-- the last frame taken off
pub along_back : (l m m' : Lists) (fs : List Frame) (f : Frame) → m ≡ lists_along l (fs ++ f ∷ []) → lists_holding m' f.res ≡ m → m' ≡ lists_along l fs
along_back l m m' fs f is released = holding_once m' (lists_along l fs) f.res (released ∙ is ∙ along_push l fs f)

-- what the last frame placed is held
pub along_there : (l m : Lists) (fs : List Frame) (f : Frame) → m ≡ lists_along l (fs ++ f ∷ []) → (r : Res) → f.res ≡ Some r → Contains (of_kind m r.kind) (trial, r)
along_there l m fs f is r some = there (lists_along l fs) m f.res (is ∙ along_push l fs f) r some
