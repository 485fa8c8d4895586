-- The output and the answer, by whether a script is named or generated.
use Rattle.std.proofs.Common.{◌≡◌, ◌≤◌, ◌⊎◌, inl, inr, ℕ, true, List, [], ◌∷◌, ◌++◌, Option, Some, None, IfSome, refl, sym, ap, subst}
use Rattle.pnp_labels.specs.Texts.{Text}
use Rattle.pnp_model.specs.Records.{Driver}
use Rattle.pnp_cli.specs.Infs.{SomeRose, infs_in}
use Rattle.pnp_cli.specs.Limits.{HasSource}
use Rattle.pnp_cli.specs.Runs.{IsOutputBy, IsOutputFor, IsRunOutput, IsSummary, Wrote, WroteFront, is_decided, is_whole, names_of, status_by, status_for, status_of, told_to}
use Rattle.pnp_cli.specs.declared.parts.Settings.{Settings}
use Rattle.pnp_cli.specs.declared.status.Status.{Status}
use Rattle.pnp_cli.proofs.Fronts.{for_all}

-- Where a script is named ------------------------------------------------------------------

module _ (contents : Option (Text → Option (List ℕ))) (s : Settings) (name : Text) (is : s.script ≡ Some name) where
  pub named_decided : (status : Status) → IfSome contents (λ told. status_by (infs_in told s.infs) (told name) ≡ Some status) → IfSome (told_to s.script contents) (λ told. status_of told s ≡ Some status)
  named_decided status h = subst (λ (o : Option Text). IfSome (told_to o contents) (λ told. status_for told s.infs o ≡ Some status)) (sym is) h

  pub named_whole : (rack : List Driver) (old new : Option Text) → IfSome contents (λ told. Wrote (IsOutputBy rack s.budget (infs_in told s.infs) (told name)) old new)
      → IfSome (told_to s.script contents) (λ told. Wrote (IsRunOutput rack told s) old new)
  named_whole rack old new h = subst (λ (o : Option Text). IfSome (told_to o contents) (λ told. Wrote (λ text. IsOutputFor rack s.budget told s.infs o s.made text) old new)) (sym is) h

  pub named_front : (rack : List Driver) (old new : Option Text) → IfSome contents (λ told. WroteFront (IsOutputBy rack s.budget (infs_in told s.infs) (told name)) old new)
      → IfSome (told_to s.script contents) (λ told. WroteFront (IsRunOutput rack told s) old new)
  named_front rack old new h = subst (λ (o : Option Text). IfSome (told_to o contents) (λ told. WroteFront (λ text. IsOutputFor rack s.budget told s.infs o s.made text) old new)) (sym is) h

  pub named_rose : (old new : Text → ℕ) → SomeRose old new (s.infs ++ name ∷ []) → SomeRose old new (names_of s.infs s.script)
  named_rose old new h = subst (λ (o : Option Text). SomeRose old new (names_of s.infs o)) (sym is) h

-- Where it is generated ---------------------------------------------------------------------

-- what may be answered then
abbrev pub IsMadeAnswer : Status → Type 0
IsMadeAnswer status = (status ≡ Status.Done) ⊎ ((status ≡ Status.WriteFault) ⊎ (status ≡ Status.WantOfMemory))

done_alone : (status : Status) → IsMadeAnswer status → is_decided status ≡ true → status ≡ Status.Done
done_alone status (inl done) h = done
done_alone status (inr (inl fault)) h = absurd (subst (λ (x : Status). is_decided x ≡ true → ⊥) (sym fault) (λ e. cc) h)
done_alone status (inr (inr want)) h = absurd (subst (λ (x : Status). is_decided x ≡ true → ⊥) (sym want) (λ e. cc) h)

pub done_whole : (status : Status) → IsMadeAnswer status → is_whole status ≡ true → status ≡ Status.Done
done_whole status (inl done) h = done
done_whole status (inr (inl fault)) h = absurd (subst (λ (x : Status). is_whole x ≡ true → ⊥) (sym fault) (λ e. cc) h)
done_whole status (inr (inr want)) h = absurd (subst (λ (x : Status). is_whole x ≡ true → ⊥) (sym want) (λ e. cc) h)

module _ (contents : Option (Text → Option (List ℕ))) (s : Settings) (none : s.script ≡ None) where
  pub made_decided : (status : Status) → IsMadeAnswer status → is_decided status ≡ true → IfSome (told_to s.script contents) (λ told. status_of told s ≡ Some status)
  made_decided status may h =
      for_all (told_to s.script contents) (λ told. status_of told s ≡ Some status)
      (λ told. subst (λ (o : Option Text). status_for told s.infs o ≡ Some status) (sym none) (ap Some (sym (done_alone status may h))))

  pub made_whole : (n : ℕ) (rack : List Driver) (old new : Option Text) → s.made ≡ Some n → Wrote (IsSummary rack s.budget n) old new → IfSome (told_to s.script contents) (λ told. Wrote (IsRunOutput rack told s) old new)
  made_whole n rack old new some h =
      for_all (told_to s.script contents) (λ told. Wrote (IsRunOutput rack told s) old new)
      (λ told. subst (λ (o : Option Text). Wrote (λ text. IsOutputFor rack s.budget told s.infs o s.made text) old new) (sym none)
      (subst (λ (m : Option ℕ). Wrote (λ text. IsOutputFor rack s.budget told s.infs None m text) old new) (sym some) h))

  pub made_front : (n : ℕ) (rack : List Driver) (old new : Option Text) → s.made ≡ Some n → WroteFront (IsSummary rack s.budget n) old new
      → IfSome (told_to s.script contents) (λ told. WroteFront (IsRunOutput rack told s) old new)
  made_front n rack old new some h =
      for_all (told_to s.script contents) (λ told. WroteFront (IsRunOutput rack told s) old new)
      (λ told. subst (λ (o : Option Text). WroteFront (λ text. IsOutputFor rack s.budget told s.infs o s.made text) old new) (sym none)
      (subst (λ (m : Option ℕ). WroteFront (λ text. IsOutputFor rack s.budget told s.infs None m text) old new) (sym some) h))

-- one of the two there is
few_of : (n : ℕ) (check : Option Text) → HasSource None (Some n) check → n ≤ 400
few_of n None h = h.1
few_of n (Some trace) h = absurd h

pub few_made : (s : Settings) (n : ℕ) → HasSource s.script s.made s.check → s.script ≡ None → s.made ≡ Some n → n ≤ 400
few_made s n h none some =
    few_of n s.check
    (subst (λ (m : Option ℕ). HasSource None m s.check) some (subst (λ (o : Option Text). HasSource o s.made s.check) none h))

none_of : (check : Option Text) → HasSource None None check → ⊥
none_of None h = h
none_of (Some trace) h = h

pub some_source : (s : Settings) → HasSource s.script s.made s.check → s.script ≡ None → s.made ≡ None → ⊥
some_source s h none no_made =
    none_of s.check
    (subst (λ (m : Option ℕ). HasSource None m s.check) no_made (subst (λ (o : Option Text). HasSource o s.made s.check) none h))

-- a check has a script
check_of : (made : Option ℕ) (trace : Text) → HasSource None made (Some trace) → ⊥
check_of None trace h = h
check_of (Some n) trace h = h

pub check_source : (s : Settings) (trace : Text) → HasSource s.script s.made s.check → s.script ≡ None → s.check ≡ Some trace → ⊥
check_source s trace h none some =
    check_of s.made trace
    (subst (λ (c : Option Text). HasSource None s.made c) some (subst (λ (o : Option Text). HasSource o s.made s.check) none h))

-- so what is said where its files tell their contents is said of what is told to it
pub of_check : (contents : Option (Text → Option (List ℕ))) (s : Settings) (trace : Text) (P : (Text → Option (List ℕ)) → Type 0) → HasSource s.script s.made s.check → s.check ≡ Some trace
    → IfSome contents P → IfSome (told_to s.script contents) P
of_check contents s trace P h some given = by_script s.script refl
  where
    by_script : (o : Option Text) → s.script ≡ o → IfSome (told_to s.script contents) P
    by_script None none = absurd (check_source s trace h none some)
    by_script (Some name) is = subst (λ (o : Option Text). IfSome (told_to o contents) P) (sym is) given
