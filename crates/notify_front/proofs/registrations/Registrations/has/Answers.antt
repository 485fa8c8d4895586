use Rattle.std.proofs.Common.{◌∙◌, ap, rules, tests}
use Rattle.std.specs.List.{list_any}
use Rattle.std.proofs.lemmas.Iterator.{YieldsList-from_slice}
use Rattle.std.proofs.lemmas.Iterator.Search.{any_from_yields_List}
use Rattle.notify_front.specs.Fronts.{is_of}
use Rattle.notify_front.proofs.Registering.{any_on}
use Rattle.notify_front.proofs.registrations.Registrations.has.Goals as goal

pub returns : goal.returns
returns c =
    let test = is_of c.args.client.now c.args.device in
    any_from_yields_List test _ _ _ c.any.ensures.ran (YieldsList-from_slice _ c.iter.ensures.rest) (λ x b q k. search (rules, tests))
    ∙ ap (list_any test) c.those_on.ensures
    ∙ any_on c.args.client.now c.args.device c.deref.result.now
    ∙ ap (list_any test) (c.deref.ensures.value ∙ c.self.view_is)
