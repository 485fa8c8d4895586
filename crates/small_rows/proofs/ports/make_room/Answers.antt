use Rattle.std.proofs.Common.{◌≡◌, [], length, ap, ◌∙◌, arith}
use Rattle.resource_reqs.specs.declared.kind.Kind.TheVariants.{Port}
use Rattle.trial_journal.specs.ByKind.{Lists}
use Rattle.small_rows.proofs.ports.make_room.Goals as goal

pub room_of_each-requires : goal.room_of_each-requires
room_of_each-requires c = λ k. let none = ap length (c.requires k) in omega (arith, none)

pub room-requires : goal.room-requires
room-requires c =
    let none = ap length (ap (λ (l : Lists). l.port) c.in_ok-room_of_each.ensures.same ∙ c.requires Port) in
    omega (arith, none)
