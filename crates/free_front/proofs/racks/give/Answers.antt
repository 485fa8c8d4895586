use Rattle.free_front.proofs.Tellers.{is_named_so, is_kept_so}
use Rattle.free_front.proofs.racks.give.Goals as goal

pub returns-in-Ok-clause-named : goal.returns-in-Ok-clause-named
returns-in-Ok-clause-named c = is_named_so _ _ _ _ _ (λ e. absurd (cc)) c.name.ensures

pub returns-in-Err-SameName-clause-named : goal.returns-in-Err-SameName-clause-named
returns-in-Err-SameName-clause-named c = is_named_so _ _ _ _ _ (λ e. absurd (cc)) c.name.ensures

pub returns-in-Err-RackEmpty-clause-named : goal.returns-in-Err-RackEmpty-clause-named
returns-in-Err-RackEmpty-clause-named c = is_named_so _ _ _ _ _ (λ e. absurd (cc)) c.name.ensures

pub returns-in-Err-WantOfMemory-clause-err : goal.returns-in-Err-WantOfMemory-clause-err
returns-in-Err-WantOfMemory-clause-err c = is_kept_so _ _ _ _ _ (cc) c.name.ensures
