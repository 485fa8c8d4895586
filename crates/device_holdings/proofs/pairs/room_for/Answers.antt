use Rattle.std.proofs.Common.{◌≡◌, ◌≤◌, ◌+◌, ◌^◌, ◌∙◌, ℕ, length, sum_by, Result, Ok, Err, OnOk, sym, subst, arith}
use Rattle.resource_reqs.specs.declared.kind.Kind.{Kind}
use Rattle.resource_reqs.specs.declared.kind.Kind.TheVariants.{Port, Irq, Mem, Dma, Bus}
use Rattle.trial_journal.specs.ByKind.{Lists, of_kind, lists_of}
use Rattle.device_holdings.specs.Mirrors.{count_of}
use Rattle.device_holdings.proofs.pairs.room_for.Goals as goal

on_ok_both : {T E P Q R : Type 0} (r : Result T E) → (P → Q → R) → OnOk r P → OnOk r Q → OnOk r R
on_ok_both (Ok x) f p q = f p q
on_ok_both (Err e) f p q = tt

-- few where the lists are the same
few_on : (l m : Lists) (kind : Kind) (more : ℕ) → m ≡ l → length (of_kind l kind) + more ≤ 2 ^ 29 → length (of_kind m kind) + more ≤ 2 ^ 29
few_on l m kind more same few = subst (λ (x : Lists). length (of_kind x kind) + more ≤ 2 ^ 29) (sym same) few

pub returns-clause-room : goal.returns-clause-room
returns-clause-room c =
    let parts = c.args.parts.now in
    let end = c.room_in-5.new.arbiters in
    let from_dma = c.room_in-5.ensures.same ∙ c.room_in-4.ensures.same in
    let from_mem = from_dma ∙ c.room_in-3.ensures.same in
    let from_irq = from_mem ∙ c.room_in-2.ensures.same in
    let from_port = from_irq ∙ c.room_in.ensures.same in
    on_ok_both c.room_in-5.result
    (λ bus_spare bus_few. record {
      spare = λ kind. elim kind as (λ k. sum_by (count_of k) parts ≤ (of_kind end k).spare) [
        | Port ↦ let room = c.in_ok-room_in.ensures.room in let grows2 = c.room_in-2.ensures.grows Port in let grows3 = c.room_in-3.ensures.grows Port in let grows4 = c.room_in-4.ensures.grows Port in let grows5 = c.room_in-5.ensures.grows Port in omega arith
        | Irq ↦ let room = c.in_ok-room_in-2.ensures.room in let grows3 = c.room_in-3.ensures.grows Irq in let grows4 = c.room_in-4.ensures.grows Irq in let grows5 = c.room_in-5.ensures.grows Irq in omega arith
        | Mem ↦ let room = c.in_ok-room_in-3.ensures.room in let grows4 = c.room_in-4.ensures.grows Mem in let grows5 = c.room_in-5.ensures.grows Mem in omega arith
        | Dma ↦ let room = c.in_ok-room_in-4.ensures.room in let grows5 = c.room_in-5.ensures.grows Dma in omega arith
        | Bus ↦ bus_spare
      ];
      few = λ kind. elim kind as (λ k. length (of_kind (lists_of end) k) + sum_by (count_of k) parts ≤ 2 ^ 29) [
        | Port ↦ few_on _ _ Port _ from_port c.in_ok-room_in.ensures.few
        | Irq ↦ few_on _ _ Irq _ from_irq c.in_ok-room_in-2.ensures.few
        | Mem ↦ few_on _ _ Mem _ from_mem c.in_ok-room_in-3.ensures.few
        | Dma ↦ few_on _ _ Dma _ from_dma c.in_ok-room_in-4.ensures.few
        | Bus ↦ few_on _ _ Bus _ c.room_in-5.ensures.same bus_few
      ];
    })
    c.room_in-5.ensures.room c.room_in-5.ensures.few
