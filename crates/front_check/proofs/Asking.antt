-- The lines of an ask, one for each answer.
use Rattle.std.proofs.Common.{◌≡◌, Bool, true, false, ◌||◌, subst}
use Rattle.pnp_labels.specs.Texts.{Text}
use Rattle.pnp_labels.specs.declared.words.Answer.{Answer}
use Rattle.pnp_labels.specs.declared.words.Answer.TheVariants.{Ok, Fail, Pend}
use Rattle.trace_check.specs.Turns.{IfFront}

-- where none of the three stands, none does, whatever the answer
pub none_of_three : (rest : Text) (line : Answer → Text) (ok fail pend : Bool) → IfFront ok rest (line Ok) → IfFront fail rest (line Fail) → IfFront pend rest (line Pend) → ok ≡ false → fail ≡ false → pend ≡ false
    → (answer : Answer) → IfFront false rest (line answer)
none_of_three rest line ok fail pend a b c no_ok no_fail no_pend Ok = subst (λ (t : Bool). IfFront t rest (line Ok)) no_ok a
none_of_three rest line ok fail pend a b c no_ok no_fail no_pend Fail = subst (λ (t : Bool). IfFront t rest (line Fail)) no_fail b
none_of_three rest line ok fail pend a b c no_ok no_fail no_pend Pend = subst (λ (t : Bool). IfFront t rest (line Pend)) no_pend c

pub none_of_two : (rest : Text) (line : Bool → Text) (ok fail : Bool) → IfFront ok rest (line true) → IfFront fail rest (line false) → ok ≡ false → fail ≡ false → (said : Bool) → IfFront false rest (line said)
none_of_two rest line ok fail a b no_ok no_fail true = subst (λ (t : Bool). IfFront t rest (line true)) no_ok a
none_of_two rest line ok fail a b no_ok no_fail false = subst (λ (t : Bool). IfFront t rest (line false)) no_fail b
