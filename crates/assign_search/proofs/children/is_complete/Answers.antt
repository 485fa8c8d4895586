use Rattle.std.proofs.Common.{◌≡◌, [], map, drop, ◌∙◌, subst, arith, ap}
use Rattle.assign_search.specs.Fixed.{reqs_of}
use Rattle.assign_search.specs.Walking.{groups_at}
use Rattle.assign_search.proofs.Rest.{false_true}
use Rattle.assign_search.proofs.Extensions.{groups_left}
use Rattle.assign_search.proofs.children.is_complete.Goals as goal

pub returns-then-group-len : goal.returns-then-group-len
returns-then-group-len c = (
  λ h. false_true h,
  λ h. absurd (groups_left c.groups_of-groups.result.now c.in-Inside.group (omega arith)
      (ap (drop c.in-Inside.group) c.groups_of-groups.ensures ∙ subst (λ s. groups_at (map reqs_of c.args.movers.now) s ≡ []) c.in-Inside.is h.0)),
)
