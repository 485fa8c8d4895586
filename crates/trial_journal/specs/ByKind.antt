-- One of something for each kind of resource; so the arbiters as contracts see them, and their lists.
use Rattle.std.specs.Prelude.{◌≡◌, ◌-◌, List, [], ◌∷◌, All}
use Rattle.std.specs.List.{flat_map}
use Rattle.resource_reqs.specs.declared.kind.Kind.{Kind}
use Rattle.resource_reqs.specs.declared.kind.Kind.TheVariants.{Port, Irq, Mem, Dma, Bus}
use Rattle.range_arbiter.specs.Pairs.{Pair, Arbiter, pairs_with}

-- one for each kind
pub record ByKind (X : Type 0) : Type 0 where
  pub port : X
  pub irq : X
  pub mem : X
  pub dma : X
  pub bus : X

-- the one of a kind
abbrev pub of_kind : {X : Type 0} → ByKind X → Kind → X
of_kind each Port = each.port
of_kind each Irq = each.irq
of_kind each Mem = each.mem
of_kind each Dma = each.dma
of_kind each Bus = each.bus

-- another one in its place
abbrev pub with_kind : {X : Type 0} → ByKind X → Kind → X → ByKind X
with_kind each Port x = record each { port = x }
with_kind each Irq x = record each { irq = x }
with_kind each Mem x = record each { mem = x }
with_kind each Dma x = record each { dma = x }
with_kind each Bus x = record each { bus = x }

-- the kinds in their order
abbrev pub kind_order : List Kind
kind_order = Port ∷ Irq ∷ Mem ∷ Dma ∷ Bus ∷ []

-- what stands in all the lists, kind by kind
abbrev pub all_kinds : {X : Type 0} → ByKind (List X) → List X
all_kinds lists = flat_map (of_kind lists) kind_order

abbrev pub Arbiters : Type 0
Arbiters = ByKind Arbiter

abbrev pub Lists : Type 0
Lists = ByKind (List Pair)

-- what the arbiters hold, for each kind, and in all
abbrev pub lists_of : Arbiters → Lists
lists_of a = record { port = a.port.pairs; irq = a.irq.pairs; mem = a.mem.pairs; dma = a.dma.pairs; bus = a.bus.pairs }

abbrev pub all_pairs : Arbiters → List Pair
all_pairs a = all_kinds (lists_of a)

-- an arbiter with a pair put in, which takes one place of what is spare
abbrev pub arbiter_with : Arbiter → Pair → Arbiter
arbiter_with a p = record { kind = a.kind; pairs = pairs_with a.pairs p; spare = a.spare - 1 }

-- the same of the arbiter of the pair's kind
abbrev pub arbiters_with : Arbiters → Pair → Arbiters
arbiters_with a p = with_kind a p.1.kind (arbiter_with (of_kind a p.1.kind) p)

-- of this kind, and all that it holds too
pub record IsOf (kind : Kind) (a : Arbiter) : Type 0 where
  pub kind_is : a.kind ≡ kind
  pub kinds : All (λ p. p.1.kind ≡ kind) a.pairs

-- each of its kind
pub record AreOfKinds (a : Arbiters) : Type 0 where
  pub ports : IsOf Port a.port
  pub irqs : IsOf Irq a.irq
  pub memory : IsOf Mem a.mem
  pub channels : IsOf Dma a.dma
  pub buses : IsOf Bus a.bus
