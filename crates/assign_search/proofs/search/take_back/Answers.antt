use Rattle.std.proofs.Common.{◌≡◌, List, [], ◌∷◌, ◌++◌, Contains, option_to_list, sym, ◌∙◌, ap, subst}
use Rattle.range_arbiter.specs.Pairs.{Pair}
use Rattle.trial_journal.specs.ByKind.{lists_of}
use Rattle.assign_search.specs.Walking.{lists_along, trial}
use Rattle.assign_search.proofs.Rest.{none_of_length}
use Rattle.trial_journal.proofs.KindsApart.{pairs_at}
use Rattle.assign_search.proofs.Along.{along_back, along_there}
use Rattle.assign_search.proofs.search.take_back.Goals as goal
use Rattle.assign_search.proofs.search.take_back.Goals.{In-Some}

-- the path before the last frame was taken off
popped : (c : In-Some) → c.frames.path.items ≡ c.pop.new.self.items ++ c.in-Some.tried ∷ []
popped c = c.pop.ensures.items ∙ ap (λ o. c.pop.new.self.items ++ option_to_list o) c.in-Some.is

pub release-requires : goal.release-requires
release-requires c r some =
    let (before, is) = c.frames.invariant.held in
    subst (λ (l : List Pair). Contains l (trial, r)) (pairs_at c.frames.board r.kind)
    (along_there before (lists_of c.frames.board) c.pop.new.self.items c.in-Some.tried
    (is ∙ ap (lists_along before) (popped ((goal.at.release-requires c).In-Some))) r some)

pub frames-preserved : goal.frames-preserved
frames-preserved c =
    let path_is = popped ((goal.at.frames-preserved c).In-Some) in
    let (before, is) = c.frames.invariant.held in
    record {
      held = (before, along_back before (lists_of c.frames.board) (lists_of c.release.new.board) c.pop.new.self.items c.in-Some.tried (is ∙ ap (lists_along before) path_is) c.release.ensures);
      back = λ base began. along_back base (lists_of c.frames.board) (lists_of c.release.new.board) c.pop.new.self.items c.in-Some.tried
          (c.frames.invariant.back base began ∙ ap (lists_along base) path_is) c.release.ensures;
    }

pub returns : goal.returns
returns c before began =
    let empty : c.frames.path.items ≡ [] = none_of_length c.frames.path.items (sym c.frames.path.ok.0 ∙ c.in_default.ensures.cases.0) in
    c.frames.invariant.back before began ∙ ap (lists_along before) empty
