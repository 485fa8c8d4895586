use Rattle.std.proofs.Common.{◌≡◌, sym, ◌∙◌, ap, ap₂}
use Rattle.std.specs.List.{list_any}
use Rattle.resource_reqs.specs.Resources.{Res, clashes}
use Rattle.range_arbiter.specs.Pairs.{Arbiter, res_list}
use Rattle.trial_journal.specs.ByKind.{of_kind}
use Rattle.trial_journal.proofs.arbiters.Arbiters.clashes.Goals as goal

pub returns-in-Port : goal.returns-in-Port
returns-in-Port c =
    let same : c.self.inside.ports ≡ of_kind c.args.self.now c.args.res.now.kind = ap₂ of_kind c.self.view_is (sym c.in-Port.is ∙ ap (λ (r : Res). r.kind) c.res.view_is) in
    c.clashes.ensures ∙ ap (λ (a : Arbiter). list_any (clashes c.args.res.now) (res_list a.pairs)) same

pub returns-in-Irq : goal.returns-in-Irq
returns-in-Irq c =
    let same : c.self.inside.irqs ≡ of_kind c.args.self.now c.args.res.now.kind = ap₂ of_kind c.self.view_is (sym c.in-Irq.is ∙ ap (λ (r : Res). r.kind) c.res.view_is) in
    c.clashes-in-Irq.ensures ∙ ap (λ (a : Arbiter). list_any (clashes c.args.res.now) (res_list a.pairs)) same

pub returns-in-Mem : goal.returns-in-Mem
returns-in-Mem c =
    let same : c.self.inside.memory ≡ of_kind c.args.self.now c.args.res.now.kind = ap₂ of_kind c.self.view_is (sym c.in-Mem.is ∙ ap (λ (r : Res). r.kind) c.res.view_is) in
    c.clashes-in-Mem.ensures ∙ ap (λ (a : Arbiter). list_any (clashes c.args.res.now) (res_list a.pairs)) same

pub returns-in-Dma : goal.returns-in-Dma
returns-in-Dma c =
    let same : c.self.inside.channels ≡ of_kind c.args.self.now c.args.res.now.kind = ap₂ of_kind c.self.view_is (sym c.in-Dma.is ∙ ap (λ (r : Res). r.kind) c.res.view_is) in
    c.clashes-in-Dma.ensures ∙ ap (λ (a : Arbiter). list_any (clashes c.args.res.now) (res_list a.pairs)) same

pub returns-in-Bus : goal.returns-in-Bus
returns-in-Bus c =
    let same : c.self.inside.buses ≡ of_kind c.args.self.now c.args.res.now.kind = ap₂ of_kind c.self.view_is (sym c.in-Bus.is ∙ ap (λ (r : Res). r.kind) c.res.view_is) in
    c.clashes-in-Bus.ensures ∙ ap (λ (a : Arbiter). list_any (clashes c.args.res.now) (res_list a.pairs)) same
