use Rattle.std.proofs.Common.{◌≡◌, ◌++◌, ◌∙◌, ap, sym, get_or, take, slice_get, Some}
use Rattle.std.proofs.lemmas.Option.{slice_get_within, get_or_from_slice_get}
use Rattle.pnp_model.specs.Keyed.{those}
use Rattle.notify_front.specs.Fronts.{is_on, on_each}
use Rattle.notify_front.proofs.Registering.{on_next}
use Rattle.notify_front.proofs.registrations.Registrations.on_each.Goals as goal

pub devices-preserved : goal.devices-preserved
devices-preserved c =
    let ks = c.args.devices.now in
    let at = c.devices.at in
    let k = c.get.result.now in
    let is : slice_get ks at ≡ Some k = c.get.ensures in
    let here : get_or ks at k ≡ k = get_or_from_slice_get ks at k k is in
    let whose = c.deref.ensures.value ∙ c.self.view_is in
    c.in_ok-append_copies.ensures
    ∙ ap (λ l. l ++ c.those_on.result.now) c.devices.invariant
    ∙ ap (λ l. on_each (take at ks) c.args.self.now ++ l) (c.those_on.ensures ∙ ap (those (is_on k)) whose ∙ ap (λ i. those (is_on i) c.args.self.now) (sym here))
    ∙ sym (on_next ks at k c.args.self.now (slice_get_within ks at k is))
