use Rattle.trial_journal.proofs.KindsApart.{found_all, least_all, none_all}
use Rattle.trial_journal.proofs.arbiters.Arbiters.next_place.Goals as goal

pub returns-clause-found : goal.returns-clause-found
returns-clause-found c = found_all c.args.self.now c.args.want.now c.args.from c.place_of_kind.result c.place_of_kind.ensures.kinds c.place_of_kind.ensures.found

pub returns-clause-least : goal.returns-clause-least
returns-clause-least c = least_all c.args.self.now c.args.want.now c.args.from c.place_of_kind.result c.place_of_kind.ensures.least

pub returns-clause-none : goal.returns-clause-none
returns-clause-none c = none_all c.args.self.now c.args.want.now c.args.from c.place_of_kind.result c.place_of_kind.ensures.none
