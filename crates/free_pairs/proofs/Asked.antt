-- What the label of a step tells of the ask that was next.
use Rattle.std.proofs.Common.{◌≡◌, true, false, List, [], ◌∷◌, ◌++◌, Option, Some, refl, sym, ap, ◌∙◌, subst}
use Rattle.pnp_labels.specs.Texts.{Text}
use Rattle.pnp_labels.specs.declared.label.Label.{Label}
use Rattle.pnp_labels.specs.declared.label.Shown.{Shown}
use Rattle.pnp_labels.specs.declared.words.Answer.{Answer}
use Rattle.pnp_labels.specs.declared.words.AskWhat.{AskWhat}
use Rattle.pnp_labels.specs.declared.words.AskWhat.TheVariants.{Add, Irp}
use Rattle.pnp_model.specs.Books.{name_of, rack_reply}
use Rattle.pnp_model.specs.Machine.{Steps}
use Rattle.pnp_model.specs.Records.{Settings, State}
use Rattle.free_model.specs.Asking.{AsksSo, answered, is_ask}
use Rattle.free_model.specs.Asks.{Query, next_query}
use Rattle.free_model.proofs.AskSteps.{each_step_asks}
use Rattle.free_pairs.specs.Alike.{TellsAsk}
use Rattle.free_pairs.specs.Answers.{added, answer}

-- what ends with something is not empty
pub no_more : {A : Type 0} (xs ys : List A) → [] ≡ xs ++ ys → ys ≡ []
no_more [] ys h = sym h
no_more (x ∷ xs) ys h = absurd (let f : [] ≡ x ∷ (xs ++ ys) = h in cc)

-- an ask tells an answer
pub asks_tell : (l : Label) (rest : List Shown) → is_ask l ≡ true → answer l ++ rest ≡ [] → ⊥
asks_tell (Label.Asked minor path name shown) rest e h = let f : shown ∷ rest ≡ [] = h in absurd (cc)
asks_tell (Label.Add path name ok) rest e h = let f : added ok ∷ rest ≡ [] = h in absurd (cc)
asks_tell _ rest e h = absurd (let f : false ≡ true = e in cc)

answered_asks : (what : AskWhat) (path name : Text) (reply : Answer) → is_ask (answered what path name reply) ≡ true
answered_asks Add path name reply = refl
answered_asks (Irp minor) path name reply = refl

pub tells_is_ask : {q : Query} {name : Text} {label : Label} → TellsAsk q name label → is_ask label ≡ true
tells_is_ask {q} {name} tells = ap is_ask tells.is ∙ answered_asks q.what q.path name tells.answer

-- the label of a step tells the ask that was next
pub tells_ask : (settings : Settings) (s : State) (label : Label) (new : State) (q : Query) → Steps settings s label new → next_query s ≡ Some q → TellsAsk q (name_of s.core.rack q.driver) label
tells_ask settings s label new q steps is =
    let so : AsksSo (Some q) s.core.rack label new.core.rack = subst (λ (o : Option Query). AsksSo o s.core.rack label new.core.rack) is (each_step_asks settings s label new steps) in
    record { answer = rack_reply q.what q.path s.core.rack q.driver; is = so.0 }
