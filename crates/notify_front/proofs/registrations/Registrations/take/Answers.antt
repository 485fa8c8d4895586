use Rattle.std.proofs.Common.{◌≡◌, ◌∙◌, List, Some, None, ap, subst, sym, position}
use Rattle.std.specs.List.Sorted.{IsNonDecreasingBy}
use Rattle.pnp_model.specs.Keyed.{without_first}
use Rattle.pnp_model.proofs.Keyed.{without_first_at, without_first_none}
use Rattle.notify_front.specs.Fronts.{Registration, is_of}
use Rattle.notify_front.proofs.Registering.{sorted_without, within_position}
use Rattle.notify_front.proofs.registrations.Registrations.take.Goals as goal

pub invariant_of-self : goal.invariant_of-self
invariant_of-self c =
    let xs = c.self.inside.items.items in
    let test = is_of c.args.client.now c.args.device in
    let at : position test xs ≡ Some c.in-Some.place = sym (c.in-Some.ensures ∙ ap (position test) c.deref.ensures.value) in
    subst (λ (l : List Registration). IsNonDecreasingBy (λ (r : Registration). r.device) l) (sym c.remove.ensures.items)
    (sorted_without (λ (r : Registration). r.device) xs c.in-Some.place (within_position test xs c.in-Some.place at) c.self.invariant)

pub returns-in-Some : goal.returns-in-Some
returns-in-Some c =
    let xs = c.self.inside.items.items in
    let test = is_of c.args.client.now c.args.device in
    let at : position test xs ≡ Some c.in-Some.place = sym (c.in-Some.ensures ∙ ap (position test) c.deref.ensures.value) in
    c.remove.ensures.items ∙ without_first_at test xs c.in-Some.place at ∙ ap (without_first test) c.self.view_is

pub returns-in_default : goal.returns-in_default
returns-in_default c =
    let xs = c.self.inside.items.items in
    let test = is_of c.args.client.now c.args.device in
    let none : position test xs ≡ None = ap (position test) (sym c.deref.ensures.value) ∙ sym c.place_of.ensures ∙ c.in_default.is in
    sym (ap (without_first test) (sym c.self.view_is) ∙ without_first_none test xs none ∙ c.self.view_is)
