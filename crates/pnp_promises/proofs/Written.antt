-- Each resource is written so.
use Rattle.std.proofs.Common.{ℕ, ◌≡◌, ◌∷◌, ◌++◌, Bool, true, false, refl, ap, ◌∙◌}
use Rattle.resource_reqs.specs.declared.kind.Kind.{Kind}
use Rattle.resource_reqs.specs.declared.kind.Kind.TheVariants.{Port, Irq, Mem, Dma, Bus}
use Rattle.pnp_labels.specs.Texts.{range_text, share_text}
use Rattle.pnp_promises.specs.Written.{ResourcesAreWrittenLaw, mark_of, number_of, word_of}

range_is : (kind : Kind) (lo hi : ℕ) → range_text kind lo hi ≡ word_of kind ++ 58 ∷ (number_of kind lo ++ 45 ∷ number_of kind hi)
range_is Port lo hi = refl
range_is Irq lo hi = refl
range_is Mem lo hi = refl
range_is Dma lo hi = refl
range_is Bus lo hi = refl

share_is : (shared : Bool) → share_text shared ≡ mark_of shared
share_is true = refl
share_is false = refl

pub resources_are_written : ResourcesAreWrittenLaw
resources_are_written res = ap (λ xs. xs ++ share_text res.shared) (range_is res.kind res.lo res.hi) ∙ ap (λ xs. (word_of res.kind ++ 58 ∷ (number_of res.kind res.lo ++ 45 ∷ number_of res.kind res.hi)) ++ xs) (share_is res.shared)
