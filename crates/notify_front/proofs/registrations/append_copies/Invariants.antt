use Rattle.std.proofs.Common.{◌≡◌, ◌++◌, take}
use Rattle.notify_front.proofs.registrations.append_copies.Given as goal

abbrev pub invariant-loop-registration : goal.invariant-loop-registration
invariant-loop-registration l = l.told.items ≡ l.initial.told.items ++ take l.registration-index l.more
