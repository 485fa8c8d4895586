use Rattle.std.proofs.Common.{◌≡◌, inl, inr, length, Option, Some, None, IfSome, ap, arith}
use Rattle.std.proofs.lemmas.Option.{slice_get_within}
use Rattle.assign_search.specs.Walking.{held_in}
use Rattle.assign_search.proofs.Watched.{list_watched}
use Rattle.assign_search.proofs.watch.mover_places.Goals as goal

-- what is said of some places
then_some : {X : Type 0} (o : Option X) {P Q : X → Type 0} → ((x : X) → P x → Q x) → IfSome o P → IfSome o Q
then_some (Some x) f p = f x p
then_some None f p = tt

pub returns-then-is_some-clause-watched : goal.returns-then-is_some-clause-watched
returns-then-is_some-clause-watched c =
    then_some c.in_ok-found.found
    (λ places watches. list_watched (held_in c.args.board.now) c.args.reqs.now c.lists.at c.get.result.now places c.get.ensures.part watches) c.in_ok-found.ensures.watched

pub returns-clause-none : goal.returns-clause-none
returns-clause-none c h = elim h [
  | inl none ↦ (let empty : length c.args.reqs.now ≡ 0 = ap length none in absurd (omega arith))
  | inr (k, list, read, each) ↦ (let within = slice_get_within c.args.reqs.now k list read in c.lists.invariant k list (omega arith) read each)
]
