use Rattle.std.proofs.Common.{rules, refl, arith, get_or}
use Rattle.script_reader.specs.Faults.{fault}
use Rattle.script_reader.specs.Wants.{group_of, list_of}
use Rattle.script_reader.specs.declared.cause.Cause.{Cause}
use Rattle.script_reader.proofs.Errors.{pass_gives}
use Rattle.script_reader.proofs.Gathering.{no_item, bad_part, has_room, some_read, next_part}
use Rattle.script_reader.proofs.needs.lists_of.Goals as goal

pub returns-in_err-list_of : goal.returns-in_err-list_of
returns-in_err-list_of c =
    pass_gives c.from_residual.result c.in_err-list_of.field-0.0 _ _ c.from_residual.ensures.1 c.in_err-list_of.ensures
    (λ f is. bad_part 8 _ list_of c.args.values.now _ c.loop-value.value-index c.loop-value.reqs f refl (omega arith) c.loop-value-test.true is c.loop-value.invariant)

pub push_list-requires-clause-room : goal.push_list-requires-clause-room
push_list-requires-clause-room c =
    has_room 8 list_of c.args.values.now c.loop-value.value-index c.loop-value.reqs (omega arith) c.loop-value-test.true c.loop-value.invariant

pub push_list-requires-clause-some : goal.push_list-requires-clause-some
push_list-requires-clause-some c =
    let text = (get_or c.args.values.now c.loop-value.value-index no_item).now in
    some_read 16 (fault Cause.ManyGroups text) group_of 0x3B text c.in_ok-list_of.field-0 c.in_ok-list_of.ensures

pub loop-value-preserved : goal.loop-value-preserved
loop-value-preserved c =
    next_part list_of c.args.values.now c.loop-value.value-index c.loop-value.reqs _ c.in_ok-list_of.field-0 c.loop-value-test.true c.in_ok-list_of.ensures (search rules) c.loop-value.invariant
