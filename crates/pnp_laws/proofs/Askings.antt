-- Who is asked to stop, in which order, and who stays out: by each answer.
use Rattle.std.proofs.Common.{ℕ, suc, ◌<◌, ◌≤◌, ◌≡◌, ◌≢◌, inl, inr, Bool, true, false, not, cond, List, [], ◌∷◌, ◌++◌, sym, ap, ◌∙◌, subst, arith, reverse}
use Rattle.std.proofs.lemmas.List.{reverse-append}
use Rattle.pnp_model.specs.Keyed.{those}
use Rattle.pnp_model.specs.Records.{Node}
use Rattle.pnp_model.specs.Cores.{serials_of}
use Rattle.pnp_model.specs.Tests.{has}
use Rattle.pnp_model.specs.Trees.{above}
use Rattle.pnp_model.specs.Rebalances.{is_asked, is_not_above}
use Rattle.pnp_laws.specs.Kept.{Ascending}
use Rattle.pnp_laws.specs.Rebalanced.{IsAskedAt, Falling, Rising, StaysOut, Asks}
use Rattle.pnp_laws.proofs.Closures.{those_serial}
use Rattle.pnp_laws.proofs.Lists.{cons_here, cons_there, has-append, has_cases, member, those_has, those_not, those_keeps, those_found, below_serial}
use Rattle.pnp_laws.proofs.OpSteps.{has-reverse}

not_has : (ks : List ℕ) (k : ℕ) → (has ks k ≡ true → ⊥) → has ks k ≡ false
not_has ks k h = elim (member ks k) [ inl e ↦ absurd (h e) | inr e ↦ e ]

cons_not : (j : ℕ) (ks : List ℕ) (k : ℕ) → has (j ∷ ks) k ≡ false → (j ≢ k) × (has ks k ≡ false)
cons_not j ks k h = (λ e. let here = subst (λ (i : ℕ). has (j ∷ ks) i ≡ true) e (cons_here j ks) in cc, not_has ks k (λ e. let there = cons_there j ks k e in cc))

cons_neither : (j : ℕ) (ks : List ℕ) (k : ℕ) → j ≢ k → has ks k ≡ false → has (j ∷ ks) k ≡ false
cons_neither j ks k d h = not_has (j ∷ ks) k (λ e. elim (has_cases j k ks e) [ inl q ↦ d q | inr q ↦ cc ])

-- Orders -----------------------------------------------------------------------------------

pub falling_those : (test : ℕ → Bool) (ks : List ℕ) → Falling ks → Falling (those test ks)
falling_those test [] h = tt
falling_those test (k ∷ ks) h =
    let by_test : (b : Bool) → Falling (cond b (k ∷ those test ks) (those test ks)) =
    λ b. elim b as (λ b. Falling (cond b (k ∷ those test ks) (those test ks))) [
      | true ↦ (λ j e. h.0 j (those_has test ks j e).0, falling_those test ks h.1)
      | false ↦ falling_those test ks h.1
    ] in
    by_test (test k)

falling_push : (ks : List ℕ) (x : ℕ) → Falling ks → ((j : ℕ) → has ks j ≡ true → x < j) → Falling (ks ++ x ∷ [])
falling_push [] x h g = (λ j e. absurd (cc), tt)
falling_push (k ∷ ks) x h g = (
  (λ j e. elim (member ks j) [
    | inl q ↦ h.0 j q
    | inr q ↦
        let both = has-append ks (x ∷ []) j in
        let in_last : has (x ∷ []) j ≡ true = grind (arith) in
        elim (has_cases x j [] in_last) [ inl z ↦ let low = g k (cons_here k ks) in omega arith | inr z ↦ absurd (cc) ]
  ]),
  falling_push ks x h.1 (λ j e. g j (cons_there k ks j e)),
)

pub falling_reverse : (ks : List ℕ) → Rising ks → Falling (reverse ks)
falling_reverse [] h = tt
falling_reverse (x ∷ xs) h =
    let turn : reverse (x ∷ xs) ≡ reverse xs ++ x ∷ [] = reverse-append (x ∷ []) xs in
    subst (λ (ks : List ℕ). Falling ks) (sym turn) (falling_push (reverse xs) x (falling_reverse xs h.1) (λ j e. h.0 j (sym (has-reverse xs j) ∙ e)))

pub rising_serials : (lo : ℕ) (test : Node → Bool) (ns : List Node) → Ascending lo ns → Rising (serials_of (those test ns))
rising_serials lo test [] g = tt
rising_serials lo test (n ∷ ns) g =
    let by_test : (b : Bool) → Rising (serials_of (cond b (n ∷ those test ns) (those test ns))) =
    λ b. elim b as (λ b. Rising (serials_of (cond b (n ∷ those test ns) (those test ns)))) [
      | true ↦ (λ j e. let low = below_serial (suc n.serial) test ns j g.1 e in omega arith, rising_serials (suc n.serial) test ns g.1)
      | false ↦ rising_serials (suc n.serial) test ns g.1
    ] in
    by_test (test n)

-- The begin: all Started devices but the root are to be asked ------------------------------------

pub asks_begun : (nodes : List Node) → Ascending 0 nodes → Asks nodes (reverse (serials_of (those is_asked nodes))) [] []
asks_begun nodes order =
    let ks = serials_of (those is_asked nodes) in
    record {
      falling = falling_reverse ks (rising_serials 0 is_asked nodes order);
      rising = tt;
      over = λ j k e h. absurd (cc);
      asks = λ k e. those_found 0 is_asked nodes k order (sym (has-reverse ks k) ∙ e);
      agrees = λ k e. absurd (cc);
      refuses = λ j e. absurd (cc);
      above = λ j k e h. absurd (cc);
      each = λ k is. inl (has-reverse ks k ∙ those_serial 0 is_asked nodes k is.0 order is.1 is.2);
    }

-- The head agrees -------------------------------------------------------------------------------

pub asks_agreed : (nodes : List Node) (j : ℕ) (ks agreed refused : List ℕ) → Asks nodes (j ∷ ks) agreed refused → Asks nodes ks (j ∷ agreed) refused
asks_agreed nodes j ks agreed refused h =
    record {
      falling = h.falling.1;
      rising = (λ i e. h.over j i (cons_here j ks) e, h.rising);
      over = λ i k e g. elim (has_cases j k agreed g) [ inl q ↦ subst (λ (x : ℕ). i < x) q (h.falling.0 i e) | inr q ↦ h.over i k (cons_there j ks i e) q ];
      asks = λ k e. h.asks k (cons_there j ks k e);
      agrees = λ k e. elim (has_cases j k agreed e) [ inl q ↦ subst (λ (x : ℕ). IsAskedAt x nodes) q (h.asks j (cons_here j ks)) | inr q ↦ h.agrees k q ];
      refuses = λ i e. let out = cons_not j ks i (h.refuses i e).0 in (out.1, cons_neither j agreed i out.0 (h.refuses i e).1);
      above = λ i k e g. let out = cons_not j ks k (h.above i k e g).0 in (out.1, cons_neither j agreed k out.0 (h.above i k e g).1);
      each =
          λ k is. elim (h.each k is) [
            | inl e ↦ elim (has_cases j k ks e) [ inl q ↦ inr (inl (subst (λ (x : ℕ). has (j ∷ agreed) x ≡ true) q (cons_here j agreed))) | inr q ↦ inl q ]
            | inr (inl e) ↦ inr (inl (cons_there j agreed k e))
            | inr (inr out) ↦ inr (inr out)
          ];
    }

-- The head refuses: those above it are not asked ----------------------------------------------------

stays_more : (nodes : List Node) (j : ℕ) (refused : List ℕ) (k : ℕ) → StaysOut nodes refused k → StaysOut nodes (j ∷ refused) k
stays_more nodes j refused k (inl e) = inl (cons_there j refused k e)
stays_more nodes j refused k (inr (i, e, g)) = inr (i, cons_there j refused i e, g)

below_not : (j k : ℕ) (agreed : List ℕ) → ((i : ℕ) → has agreed i ≡ true → j < i) → k ≤ j → has agreed k ≡ false
below_not j k agreed over low = not_has agreed k (λ e. let up = over k e in absurd (omega arith))

pub asks_refused : (nodes : List Node) (j : ℕ) (ks agreed refused : List ℕ) → ((k : ℕ) → has (above nodes j) k ≡ true → k < j) → Asks nodes (j ∷ ks) agreed refused → Asks nodes (those (is_not_above nodes j) ks) agreed (j ∷ refused)
asks_refused nodes j ks agreed refused lower h =
    let test = is_not_above nodes j in
    let within : (k : ℕ) → has (those test ks) k ≡ true → has (j ∷ ks) k ≡ true = λ k e. cons_there j ks k (those_has test ks k e).0 in
    let fewer : (k : ℕ) → has ks k ≡ false → has (those test ks) k ≡ false = λ k e. those_not test ks k e in
    let over : (i : ℕ) → has agreed i ≡ true → j < i = λ i e. h.over j i (cons_here j ks) e in
    let once : has ks j ≡ false = not_has ks j (λ e. let low = h.falling.0 j e in absurd (omega arith)) in
    record {
      falling = falling_those test ks h.falling.1;
      rising = h.rising;
      over = λ i k e g. h.over i k (within i e) g;
      asks = λ k e. h.asks k (within k e);
      agrees = h.agrees;
      refuses =
          λ i e. elim (has_cases j i refused e) [
            | inl q ↦ subst (λ (x : ℕ). (has (those test ks) x ≡ false) × (has agreed x ≡ false)) q (fewer j once, below_not j j agreed over (omega arith))
            | inr q ↦ (fewer i (cons_not j ks i (h.refuses i q).0).1, (h.refuses i q).1)
          ];
      above =
          λ i k e g. elim (has_cases j i refused e) [
            | inl q ↦
                let up = subst (λ (x : ℕ). has (above nodes x) k ≡ true) (sym q) g in
                let low = lower k up in
                (not_has (those test ks) k (λ z. let t = (those_has test ks k z).1 in let f : test k ≡ false = ap not up in cc), below_not j k agreed over (omega arith))
            | inr q ↦ (fewer k (cons_not j ks k (h.above i k q g).0).1, (h.above i k q g).1)
          ];
      each =
          λ k is. elim (h.each k is) [
            | inl e ↦ elim (has_cases j k ks e) [
              | inl q ↦ inr (inr (inl (subst (λ (x : ℕ). has (j ∷ refused) x ≡ true) q (cons_here j refused))))
              | inr q ↦ elim (member (above nodes j) k) [
                | inl up ↦ inr (inr (inr (j, cons_here j refused, up)))
                | inr out ↦ inl (those_keeps test ks k q (ap not out))
              ]
            ]
            | inr (inl e) ↦ inr (inl e)
            | inr (inr out) ↦ inr (inr (stays_more nodes j refused k out))
          ];
    }
