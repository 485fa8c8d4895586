-- The laws over two runs with the same answers.
use Rattle.std.proofs.Common.{◌≡◌, inl, inr, List, [], ◌∷◌, ◌++◌, Option, Some, None, sym, ap, ◌∙◌, subst}
use Rattle.std.proofs.lemmas.List.{append-nil}
use Rattle.pnp_labels.specs.Texts.{Text}
use Rattle.pnp_labels.specs.declared.event.Event.{Event}
use Rattle.pnp_labels.specs.declared.label.Shown.{Shown}
use Rattle.pnp_model.specs.Books.{name_of}
use Rattle.pnp_model.specs.Records.{Driver, Settings, State}
use Rattle.pnp_model.specs.Runs.{Entry, opening}
use Rattle.pnp_model.specs.Runs.Entry.{Happens, Did, Declines}
use Rattle.free_model.specs.Asks.{Query, next_query}
use Rattle.free_model.specs.Frees.{free_opening, with_rack}
use Rattle.free_model.specs.Shapes.{faces}
use Rattle.free_model.proofs.AskSteps.{quiet_asks_nobody}
use Rattle.free_model.proofs.Racks.{same_names}
use Rattle.free_model.proofs.SameQueries.{query_same}
use Rattle.free_pairs.specs.Alike.{AreAlike, AsksAreAskedAgainLaw, ComesFirst, FreeAnswersSameRunLaw, FreeAsksAreAskedAgainLaw, FreeLinesSameStateLaw, GoesBeyond, IsAskedAgain, SameAnswersSameRunLaw, SameLinesSameStateLaw, TellsAsk, plain}
use Rattle.free_pairs.proofs.Asked.{tells_ask}
use Rattle.free_pairs.proofs.Fronts.{front_of, same_end}
use Rattle.free_pairs.proofs.Loose.{LooseRun, answers_plain, loosen, of_free, of_run, through}

-- From one state, whatever the books --------------------------------------------------------

module _ (settings : Settings) (s : State) (one two : List Entry) (x y : State) (run : LooseRun settings s (plain one) x) (other : LooseRun settings s (plain two) y) where
  front : (more : List Event) (told : List Shown) → ComesFirst one two more told → GoesBeyond settings y more told → (rest : List Entry) × (plain two ≡ plain one ++ rest)
  front more told first beyond =
      front_of settings s (plain one) (plain two) x y more told run other first.events
      (answers_plain two ∙ first.replies ∙ ap (λ (xs : List Shown). xs ++ told) (sym (answers_plain one))) beyond

  end : plain two ≡ plain one → AreAlike x y
  end same =
      let twins = same_end settings s (plain one) x y run (subst (λ (es : List Entry). LooseRun settings s es y) same other) in
      let own : y.core.rack ≡ twins.rack = ap (λ (z : State). z.core.rack) twins.is in
      record { is = twins.is ∙ ap (λ (r : List Driver). with_rack r x) (sym own); shown = ap faces own ∙ twins.shown }

-- somebody is to be asked, and nobody is
some_none : (o : Option Query) (q : Query) → o ≡ Some q → o ≡ None → ⊥
some_none o q e f = absurd (cc)

-- what comes first in the rest
asks_there : (settings : Settings) (q : Query) (name : Text) (one two rest : List Entry) (u t : State) → name_of u.core.rack q.driver ≡ name → next_query u ≡ Some q
    → plain two ≡ plain one ++ rest → LooseRun settings u rest t → IsAskedAgain q name one two t
asks_there settings q name one two [] u t named is same twins = inr (same ∙ append-nil (plain one), ap next_query twins.is ∙ query_same twins.rack u ∙ is)
asks_there settings q name one two (Did label ∷ rest) u t named is same (r, mid, e, goes, run) =
    inl (
      label,
      rest,
      same,
      subst (λ (word : Text). TellsAsk q word label) (same_names r u.core.rack q.driver e ∙ named) (tells_ask settings (with_rack r u) label mid q goes (query_same r u ∙ is)),
    )
asks_there settings q name one two (Happens event label ∷ rest) u t named is same (r, mid, e, goes, run) =
    absurd (some_none (next_query (with_rack r u)) q (query_same r u ∙ is) (quiet_asks_nobody settings (with_rack r u) goes.0))
asks_there settings q name one two (Declines label ∷ rest) u t named is same (r, mid, e, goes, run) = absurd goes

again : (settings : Settings) (s : State) (one two : List Entry) (x y : State) → LooseRun settings s (plain one) x → LooseRun settings s (plain two) y
    → (more : List Event) (told : List Shown) → ComesFirst one two more told → GoesBeyond settings y more told
    → (q : Query) → next_query x ≡ Some q → IsAskedAgain q (name_of x.core.rack q.driver) one two y
again settings s one two x y run other more told first beyond q is =
    let ahead = front settings s one two x y run other more told first beyond in
    let own = through settings s (plain one) ahead.0 y (subst (λ (es : List Entry). LooseRun settings s es y) ahead.1 other) in
    let twins = same_end settings s (plain one) x own.0 run own.1 in
    asks_there settings q (name_of x.core.rack q.driver) one two ahead.0 own.0 y
    (ap (λ (z : State). name_of z.core.rack q.driver) twins.is ∙ same_names twins.rack x.core.rack q.driver twins.shown)
    (ap next_query twins.is ∙ query_same twins.rack x ∙ is) ahead.1 own.2

-- The laws ---------------------------------------------------------------------------------------

pub same_answers_same_run : SameAnswersSameRunLaw
same_answers_same_run settings rack other one two s t more told e run other_run none free first beyond =
    front settings (opening rack) one two s t (of_run settings (opening rack) one s run none)
    (loosen settings (opening rack) other e (plain two) t (of_run settings (opening other) two t other_run free)) more told first beyond

pub same_lines_same_state : SameLinesSameStateLaw
same_lines_same_state settings rack other one two s t e run other_run none free same =
    end settings (opening rack) one two s t (of_run settings (opening rack) one s run none)
    (loosen settings (opening rack) other e (plain two) t (of_run settings (opening other) two t other_run free)) same

pub asks_are_asked_again : AsksAreAskedAgainLaw
asks_are_asked_again settings rack other one two s t more told q e run other_run none free first beyond is =
    again settings (opening rack) one two s t (of_run settings (opening rack) one s run none)
    (loosen settings (opening rack) other e (plain two) t (of_run settings (opening other) two t other_run free)) more told first beyond q is

pub free_answers_same_run : FreeAnswersSameRunLaw
free_answers_same_run settings kinds one two s t more told run other first beyond =
    let s0 : State = free_opening kinds in front settings s0 one two s t (of_free settings s0 one s run) (of_free settings s0 two t other) more told first beyond

pub free_lines_same_state : FreeLinesSameStateLaw
free_lines_same_state settings kinds one two s t run other same =
    let s0 : State = free_opening kinds in end settings s0 one two s t (of_free settings s0 one s run) (of_free settings s0 two t other) same

pub free_asks_are_asked_again : FreeAsksAreAskedAgainLaw
free_asks_are_asked_again settings kinds one two s t more told q run other first beyond is =
    let s0 : State = free_opening kinds in again settings s0 one two s t (of_free settings s0 one s run) (of_free settings s0 two t other) more told first beyond q is
