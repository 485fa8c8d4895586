use Rattle.std.proofs.Common.{◌≡◌, ◌<◌, [], map, length, Some, ◌∙◌, arith, ap}
use Rattle.std.proofs.lemmas.Option.{slice_get_within}
use Rattle.std.proofs.Math.ListN.{length-map}
use Rattle.assign_search.specs.Fixed.{reqs_of}
use Rattle.assign_search.proofs.Rest.{same_next, none_of_length}
use Rattle.assign_search.proofs.children.first_listed.Goals as goal

pub movers-preserved : goal.movers-preserved
movers-preserved c =
    let none : c.reqs_at.result.now ≡ [] = none_of_length c.reqs_at.result.now (omega arith) in
    same_next (map reqs_of c.args.movers.now) c.args.from c.movers.at (c.reqs_at.ensures ∙ ap Some none) c.movers.invariant

pub returns-clause-listed : goal.returns-clause-listed
returns-clause-listed c reqs read e =
    let within : length c.args.movers.now < length (map reqs_of c.args.movers.now) = slice_get_within (map reqs_of c.args.movers.now) (length c.args.movers.now) reqs read in
    let same : length (map reqs_of c.args.movers.now) ≡ length c.args.movers.now = length-map c.args.movers.now reqs_of in
    omega arith
