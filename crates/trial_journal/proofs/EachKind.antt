-- What stands at each kind, and what stands in all lists, one for each kind.
use Rattle.std.proofs.Common.{◌≡◌, ◌⊎◌, inl, inr, false, List, [], ◌∷◌, ◌++◌, All, refl, sym, ap, ◌∙◌, subst}
use Rattle.std.specs.List.{flat_map, AllByRecursion}
use Rattle.std.proofs.lemmas.List.Concat.{flat_map-append}
use Rattle.std.proofs.lemmas.List.Elements.{All-append, All-nil, All-cons, All-from_recursion, recursion_from_All}
use Rattle.resource_reqs.specs.declared.kind.Kind.{Kind}
use Rattle.resource_reqs.specs.declared.kind.Kind.TheVariants.{Port, Irq, Mem, Dma, Bus}
use Rattle.resource_reqs.specs.Resources.{same_kind}
use Rattle.trial_journal.specs.ByKind.{ByKind, of_kind, with_kind, all_kinds}

-- two kinds are one, or the test says that they are not
pub kinds_either : (j k : Kind) → (j ≡ k) ⊎ ((same_kind k j ≡ false) × (j ≡ k → ⊥))
kinds_either Port Port = inl refl
kinds_either Irq Irq = inl refl
kinds_either Mem Mem = inl refl
kinds_either Dma Dma = inl refl
kinds_either Bus Bus = inl refl
kinds_either _ _ = inr (refl, λ e. cc)

module _ {X : Type 0} where
  -- another one in the place of one is seen at its kind, and at no other
  pub with_at : (each : ByKind X) (j k : Kind) (x : X) → ((j ≡ k) × (of_kind (with_kind each j x) k ≡ x)) ⊎ ((same_kind k j ≡ false) × (of_kind (with_kind each j x) k ≡ of_kind each k))
  with_at each Port Port x = inl (refl, refl)
  with_at each Irq Irq x = inl (refl, refl)
  with_at each Mem Mem x = inl (refl, refl)
  with_at each Dma Dma x = inl (refl, refl)
  with_at each Bus Bus x = inl (refl, refl)
  with_at each _ _ x = inr (refl, refl)

  -- what the change of one does to it, and nothing does to the others, is done to each
  pub at_each : (P : X → X → Type 0) (each : ByKind X) (j : Kind) (x : X) → P (of_kind each j) x → ((y : X) → P y y) → (k : Kind) → P (of_kind each k) (of_kind (with_kind each j x) k)
  at_each P each j x changed same k = elim (with_at each j k x) [
    | inl (at, here) ↦ subst (P (of_kind each k)) (sym here) (subst (λ i. P (of_kind each i) x) at changed)
    | inr (apart, there) ↦ subst (P (of_kind each k)) (sym there) (same (of_kind each k))
  ]

  pub with_other : (each : ByKind X) (j k : Kind) (x : X) → (j ≡ k → ⊥) → of_kind (with_kind each j x) k ≡ of_kind each k
  with_other each j k x other = elim (with_at each j k x) [
    | inl (same, here) ↦ absurd (other same)
    | inr (apart, there) ↦ there
  ]

  pub with_there : (each : ByKind X) (k : Kind) (x : X) → of_kind (with_kind each k x) k ≡ x
  with_there each Port x = refl
  with_there each Irq x = refl
  with_there each Mem x = refl
  with_there each Dma x = refl
  with_there each Bus x = refl

  -- what is the same at each kind is the same
  pub same_each : (e f : ByKind X) → ((k : Kind) → of_kind e k ≡ of_kind f k) → e ≡ f
  same_each e f same = λ t. record { port = same Port t; irq = same Irq t; mem = same Mem t; dma = same Dma t; bus = same Bus t }

  pub with_own : (each : ByKind X) (k : Kind) → with_kind each k (of_kind each k) ≡ each
  with_own each Port = refl
  with_own each Irq = refl
  with_own each Mem = refl
  with_own each Dma = refl
  with_own each Bus = refl

-- the kinds before one and after it
abbrev pub before : Kind → List Kind
before Port = []
before Irq = Port ∷ []
before Mem = Port ∷ Irq ∷ []
before Dma = Port ∷ Irq ∷ Mem ∷ []
before Bus = Port ∷ Irq ∷ Mem ∷ Dma ∷ []

abbrev pub after : Kind → List Kind
after Port = Irq ∷ Mem ∷ Dma ∷ Bus ∷ []
after Irq = Mem ∷ Dma ∷ Bus ∷ []
after Mem = Dma ∷ Bus ∷ []
after Dma = Bus ∷ []
after Bus = []

module _ {X : Type 0} where
  -- what stands in all the lists, parted at one
  pub split_with : (lists : ByKind (List X)) (k : Kind) (xs : List X) → all_kinds (with_kind lists k xs) ≡ flat_map (of_kind lists) (before k) ++ (xs ++ flat_map (of_kind lists) (after k))
  split_with lists Port xs = refl
  split_with lists Irq xs = flat_map-append (of_kind (with_kind lists Irq xs)) (before Irq) (Irq ∷ after Irq)
  split_with lists Mem xs = flat_map-append (of_kind (with_kind lists Mem xs)) (before Mem) (Mem ∷ after Mem)
  split_with lists Dma xs = flat_map-append (of_kind (with_kind lists Dma xs)) (before Dma) (Dma ∷ after Dma)
  split_with lists Bus xs = flat_map-append (of_kind (with_kind lists Bus xs)) (before Bus) (Bus ∷ after Bus)

  -- as it stands
  pub split_own : (lists : ByKind (List X)) (k : Kind) → all_kinds lists ≡ flat_map (of_kind lists) (before k) ++ (of_kind lists k ++ flat_map (of_kind lists) (after k))
  split_own lists k = sym (ap all_kinds (with_own lists k)) ∙ split_with lists k (of_kind lists k)

  -- what is true of each list's elements is true of all
  pub all_each : (P : X → Type 0) (lists : ByKind (List X)) → ((k : Kind) → All P (of_kind lists k)) → (ks : List Kind) → All P (flat_map (of_kind lists) ks)
  all_each P lists h [] = All-nil P
  all_each P lists h (k ∷ ks) = All-append P (of_kind lists k) (flat_map (of_kind lists) ks) (h k) (all_each P lists h ks)

  pub split_all : (P : X → Type 0) (xs ys : List X) → All P (xs ++ ys) → All P xs × All P ys
  split_all P xs ys h = go xs ys (recursion_from_All P (xs ++ ys) h)
    where
      go : (xs ys : List X) → AllByRecursion P (xs ++ ys) → All P xs × All P ys
      go [] ys h = (All-nil P, All-from_recursion P ys h)
      go (x ∷ xs) ys h = let rest = go xs ys h.1 in (All-cons P x xs h.0 rest.0, rest.1)

  pub each_all : (P : X → Type 0) (lists : ByKind (List X)) (k : Kind) → All P (all_kinds lists) → All P (of_kind lists k)
  each_all P lists k h =
      let parts = split_all P (flat_map (of_kind lists) (before k)) (of_kind lists k ++ flat_map (of_kind lists) (after k)) (subst (All P) (split_own lists k) h) in
      (split_all P (of_kind lists k) (flat_map (of_kind lists) (after k)) parts.1).0
