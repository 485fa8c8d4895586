-- A text with a hyphen that is no range.
use Rattle.std.proofs.Common.{◌≡◌, List, ℕ, Some, false, sym, ◌∙◌, ap, cond}
use Rattle.std.specs.Option.{is_some}
use Rattle.device_ids.specs.Cuts.{cut_once}
use Rattle.script_reader.specs.Numbers.{range_of}
use Rattle.script_reader.specs.declared.cause.Cause.{Cause}
use Rattle.script_reader.specs.Causes.{ends_cause, cut_cause, range_cause}

pub with_hyphen : (text lo hi : List ℕ) → is_some (range_of text) ≡ false → Some (lo, hi) ≡ cut_once 45 text → ends_cause (lo, hi) ≡ range_cause text
with_hyphen text lo hi off is =
    sym (ap (λ b. cond b Cause.WideBus (cut_cause text (cut_once 45 text))) off ∙ ap (cut_cause text) (sym is))
