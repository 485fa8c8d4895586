use Rattle.std.proofs.Common.{◌≡◌, ◌≤◌, ◌<◌, ℕ, IfSome, IfNone, sym, ◌∙◌, ap, ap₂, subst}
use Rattle.resource_reqs.specs.Resources.{Want, IsOpen}
use Rattle.range_arbiter.specs.Pairs.{Arbiter, res_list}
use Rattle.trial_journal.specs.ByKind.{of_kind}
use Rattle.trial_journal.proofs.arbiters.Arbiters.place_of_kind.Goals as goal

pub returns-in-Port-clause-least : goal.returns-in-Port-clause-least
returns-in-Port-clause-least c =
    let same : c.self.inside.ports ≡ of_kind c.args.self.now c.args.want.now.kind = ap₂ of_kind c.self.view_is (sym c.in-Port.is ∙ ap (λ (w : Want). w.kind) c.want.view_is) in
    subst (λ (a : Arbiter). IfSome c.next_place.result (λ s. (t : ℕ) → c.args.from ≤ t → t < s → ¬ IsOpen (res_list a.pairs) c.args.want.now t)) same c.next_place.ensures.least

pub returns-in-Port-clause-none : goal.returns-in-Port-clause-none
returns-in-Port-clause-none c =
    let same : c.self.inside.ports ≡ of_kind c.args.self.now c.args.want.now.kind = ap₂ of_kind c.self.view_is (sym c.in-Port.is ∙ ap (λ (w : Want). w.kind) c.want.view_is) in
    subst (λ (a : Arbiter). IfNone c.next_place.result ((t : ℕ) → c.args.from ≤ t → ¬ IsOpen (res_list a.pairs) c.args.want.now t)) same c.next_place.ensures.none

pub returns-in-Irq-clause-least : goal.returns-in-Irq-clause-least
returns-in-Irq-clause-least c =
    let same : c.self.inside.irqs ≡ of_kind c.args.self.now c.args.want.now.kind = ap₂ of_kind c.self.view_is (sym c.in-Irq.is ∙ ap (λ (w : Want). w.kind) c.want.view_is) in
    subst (λ (a : Arbiter). IfSome c.next_place-in-Irq.result (λ s. (t : ℕ) → c.args.from ≤ t → t < s → ¬ IsOpen (res_list a.pairs) c.args.want.now t)) same c.next_place-in-Irq.ensures.least

pub returns-in-Irq-clause-none : goal.returns-in-Irq-clause-none
returns-in-Irq-clause-none c =
    let same : c.self.inside.irqs ≡ of_kind c.args.self.now c.args.want.now.kind = ap₂ of_kind c.self.view_is (sym c.in-Irq.is ∙ ap (λ (w : Want). w.kind) c.want.view_is) in
    subst (λ (a : Arbiter). IfNone c.next_place-in-Irq.result ((t : ℕ) → c.args.from ≤ t → ¬ IsOpen (res_list a.pairs) c.args.want.now t)) same c.next_place-in-Irq.ensures.none

pub returns-in-Mem-clause-least : goal.returns-in-Mem-clause-least
returns-in-Mem-clause-least c =
    let same : c.self.inside.memory ≡ of_kind c.args.self.now c.args.want.now.kind = ap₂ of_kind c.self.view_is (sym c.in-Mem.is ∙ ap (λ (w : Want). w.kind) c.want.view_is) in
    subst (λ (a : Arbiter). IfSome c.next_place-in-Mem.result (λ s. (t : ℕ) → c.args.from ≤ t → t < s → ¬ IsOpen (res_list a.pairs) c.args.want.now t)) same c.next_place-in-Mem.ensures.least

pub returns-in-Mem-clause-none : goal.returns-in-Mem-clause-none
returns-in-Mem-clause-none c =
    let same : c.self.inside.memory ≡ of_kind c.args.self.now c.args.want.now.kind = ap₂ of_kind c.self.view_is (sym c.in-Mem.is ∙ ap (λ (w : Want). w.kind) c.want.view_is) in
    subst (λ (a : Arbiter). IfNone c.next_place-in-Mem.result ((t : ℕ) → c.args.from ≤ t → ¬ IsOpen (res_list a.pairs) c.args.want.now t)) same c.next_place-in-Mem.ensures.none

pub returns-in-Dma-clause-least : goal.returns-in-Dma-clause-least
returns-in-Dma-clause-least c =
    let same : c.self.inside.channels ≡ of_kind c.args.self.now c.args.want.now.kind = ap₂ of_kind c.self.view_is (sym c.in-Dma.is ∙ ap (λ (w : Want). w.kind) c.want.view_is) in
    subst (λ (a : Arbiter). IfSome c.next_place-in-Dma.result (λ s. (t : ℕ) → c.args.from ≤ t → t < s → ¬ IsOpen (res_list a.pairs) c.args.want.now t)) same c.next_place-in-Dma.ensures.least

pub returns-in-Dma-clause-none : goal.returns-in-Dma-clause-none
returns-in-Dma-clause-none c =
    let same : c.self.inside.channels ≡ of_kind c.args.self.now c.args.want.now.kind = ap₂ of_kind c.self.view_is (sym c.in-Dma.is ∙ ap (λ (w : Want). w.kind) c.want.view_is) in
    subst (λ (a : Arbiter). IfNone c.next_place-in-Dma.result ((t : ℕ) → c.args.from ≤ t → ¬ IsOpen (res_list a.pairs) c.args.want.now t)) same c.next_place-in-Dma.ensures.none

pub returns-in-Bus-clause-least : goal.returns-in-Bus-clause-least
returns-in-Bus-clause-least c =
    let same : c.self.inside.buses ≡ of_kind c.args.self.now c.args.want.now.kind = ap₂ of_kind c.self.view_is (sym c.in-Bus.is ∙ ap (λ (w : Want). w.kind) c.want.view_is) in
    subst (λ (a : Arbiter). IfSome c.next_place-in-Bus.result (λ s. (t : ℕ) → c.args.from ≤ t → t < s → ¬ IsOpen (res_list a.pairs) c.args.want.now t)) same c.next_place-in-Bus.ensures.least

pub returns-in-Bus-clause-none : goal.returns-in-Bus-clause-none
returns-in-Bus-clause-none c =
    let same : c.self.inside.buses ≡ of_kind c.args.self.now c.args.want.now.kind = ap₂ of_kind c.self.view_is (sym c.in-Bus.is ∙ ap (λ (w : Want). w.kind) c.want.view_is) in
    subst (λ (a : Arbiter). IfNone c.next_place-in-Bus.result ((t : ℕ) → c.args.from ≤ t → ¬ IsOpen (res_list a.pairs) c.args.want.now t)) same c.next_place-in-Bus.ensures.none
