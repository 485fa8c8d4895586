-- What was written and answered, by the settings that the words give.
use Rattle.std.proofs.Common.{◌≡◌, ◌++◌, ◌∷◌, [], ℕ, Bool, List, Option, Some, None, IfSome, sym, subst}
use Rattle.pnp_labels.specs.Texts.{Text}
use Rattle.pnp_model.specs.Records.{Driver}
use Rattle.pnp_cli.specs.Infs.{infs_in, SomeRose}
use Rattle.pnp_cli.specs.Runs.{Decides, DecidesWith, named, names_by, names_of, status_by, status_for}
use Rattle.pnp_cli.specs.declared.parts.Settings.{Settings}
use Rattle.pnp_cli.specs.declared.status.Status.{Status}
use Rattle.view_cli.specs.Answers.{IsTooLarge, IsTooLargeFor, IsView, IsViewBy, IsViewFor, plain_script}

-- they name this script, and no trace to check
module _ (s : Settings) (name : Text) (script : s.script ≡ Some name) (check : s.check ≡ None) (contents : Option (Text → Option (List ℕ))) where
  pub decided_for : (rack : List Driver) (status : Status) → IfSome contents (λ told. status_by (infs_in told s.infs) (told name) ≡ Some status)
      → IfSome contents (λ told. Decides rack told s status)
  decided_for rack status h =
      subst (λ (o : Option Text). IfSome contents (λ told. DecidesWith rack told s o status)) (sym check)
      (subst (λ (o : Option Text). IfSome contents (λ told. status_for told s.infs o ≡ Some status)) (sym script) h)

  -- whatever is said of their view
  pub view_for : (steps : Bool) (rows rack : List Driver) (Says : (Text → Type 0) → Type 0) → rows ≡ rack → IfSome contents (λ told. Says (IsViewBy steps rows s.budget (infs_in told s.infs) (told name)))
      → IfSome contents (λ told. Says (IsView steps rack told s))
  view_for steps rows rack Says same h =
      subst (λ (o : Option Text). IfSome contents (λ told. Says (IsViewFor steps rack s.budget told s.infs (plain_script s.script o)))) (sym check)
      (subst (λ (o : Option Text). IfSome contents (λ told. Says (IsViewFor steps rack s.budget told s.infs o))) (sym script)
      (subst (λ (x : List Driver). IfSome contents (λ told. Says (IsViewBy steps x s.budget (infs_in told s.infs) (told name)))) same h))

  pub large_for : IfSome contents (λ told. IsTooLarge (infs_in told s.infs) (told name)) → IfSome contents (λ told. IsTooLargeFor told s)
  large_for h = subst (λ (o : Option Text). IfSome contents (λ told. IfSome o (λ name. IsTooLarge (infs_in told s.infs) (told name)))) (sym script) h

  pub rose_for : (old new : Text → ℕ) → SomeRose old new (s.infs ++ name ∷ []) → SomeRose old new (named s)
  rose_for old new h =
      subst (λ (o : Option Text). SomeRose old new (names_by s.infs o s.script)) (sym check)
      (subst (λ (o : Option Text). SomeRose old new (names_of s.infs o)) (sym script) h)

-- whatever is said of words with an option and without
pub as_asked : (words plain : List Text) (steps asked : Bool) (Says : Bool → List Text → Type 0) → words ≡ plain → steps ≡ asked → Says steps words → Says asked plain
as_asked words plain steps asked Says same is h = subst (λ (b : Bool). Says b plain) is (subst (Says steps) same h)
