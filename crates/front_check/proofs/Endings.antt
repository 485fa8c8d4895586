-- All that is due at the end of an output is followed, line by line.
use Rattle.std.proofs.Common.{ℕ, ◌≡◌, List, [], ◌∷◌, ◌++◌, refl, sym, ap, ◌∙◌, subst}
use Rattle.pnp_labels.specs.Texts.{Text}
use Rattle.pnp_model.specs.Endings.{joined}
use Rattle.pnp_model.specs.Records.{Settings}
use Rattle.free_model.specs.Checks as machine
use Rattle.free_model.proofs.Outs as outs
use Rattle.front_check.specs.FrontChecks.{Place, Runs, Ends, Follow}

ends_of : (xs ys : Text) → machine.Ends xs ≡ machine.Ends ys → xs ≡ ys
ends_of xs ys e = cc

-- what follows the end of an output is the same whatever came before it
pub follows_too : (settings : Settings) (due left : Text) (lines : List Text) → machine.Follow settings (machine.Ends due) lines (machine.Ends left) → Follow settings (Ends due) lines (Ends left)
follows_too settings due left [] same = ap Ends (ends_of left due same)
follows_too settings due left (line ∷ lines) (mid, (more, is, none, there), follow) =
    (Ends more, (more, is, none, refl), follows_too settings more left lines (subst (λ (x : machine.Place). machine.Follow settings x lines (machine.Ends left)) there follow))

-- lines that are allowed, one after another, up to the end, and that are all that is due
pub record Due (settings : Settings) (due : Text) : Type 0 where
  pub lines : List Text
  pub follow : Follow settings (Ends due) lines (Ends [])
  pub is : due ≡ joined lines

pub follow_due : (settings : Settings) (due : List Text) → Due settings (joined due)
follow_due settings due =
    let all = outs.follow_due settings due in
    record { lines = all.lines; follow = follows_too settings (joined due) [] all.lines all.follow; is = all.is }
