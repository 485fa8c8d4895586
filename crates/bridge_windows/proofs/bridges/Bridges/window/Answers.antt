use Rattle.std.proofs.Common.{◌∙◌, ap, find}
use Rattle.resource_reqs.specs.Resources.{Res, same_kind}
use Rattle.bridge_windows.proofs.Finding.{copied_now, found_among}
use Rattle.bridge_windows.proofs.bridges.Bridges.window.Goals as goal

pub returns : goal.returns
returns c =
    c.copied.ensures
    ∙ (copied_now c.range_of.result
    ∙ (c.range_of.ensures
    ∙ (ap (find (λ (res : Res). same_kind res.kind c.args.kind)) c.ranges-2.ensures ∙ found_among c.args.kind c.args.born c.args.self.now)))
