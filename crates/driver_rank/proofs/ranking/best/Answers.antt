use Rattle.std.proofs.Common.{refl, ap, sym, ◌∙◌, option_map, Some}
use Rattle.driver_rank.specs.Best.{given_of, matches, choice_of, is_better}
use Rattle.driver_rank.specs.First.{least_of}
use Rattle.driver_rank.specs.Candidates.{match_of}
use Rattle.driver_rank.proofs.Winners.{least_of-None}
use Rattle.driver_rank.proofs.ranking.best.Goals as goal

pub returns-in_ok-choice_of-in-Some-clause-best : goal.returns-in_ok-choice_of-in-Some-clause-best
returns-in_ok-choice_of-in-Some-clause-best c =
    ap Some c.in_ok-choice_of-in-Some.ensures ∙ ap (option_map choice_of) (sym (ap (option_map match_of) c.in-Some.is) ∙ c.in_ok-found.ensures)

pub returns-in_ok-choice_of-in-Some-clause-none : goal.returns-in_ok-choice_of-in-Some-clause-none
returns-in_ok-choice_of-in-Some-clause-none c =
    let met = sym (ap (option_map match_of) c.in-Some.is) ∙ c.in_ok-found.ensures in
    ((λ e. absurd (cc)), (λ e. let none = met ∙ ap (least_of is_better) e in absurd (cc)))

pub returns-in-None-clause-best : goal.returns-in-None-clause-best
returns-in-None-clause-best c = ap (option_map choice_of) (sym (ap (option_map match_of) c.in-None.is) ∙ c.in_ok-found.ensures)

pub returns-in-None-clause-none : goal.returns-in-None-clause-none
returns-in-None-clause-none c =
    let none = sym (sym (ap (option_map match_of) c.in-None.is) ∙ c.in_ok-found.ensures) in
    ((λ e. least_of-None is_better (matches (given_of c.args.hw.now c.args.compat.now) c.args.infs.now) none), (λ e. refl))
