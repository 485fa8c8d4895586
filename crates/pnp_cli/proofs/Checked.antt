-- What is written and answered for a check.
use Rattle.std.proofs.Common.{◌≡◌, ◌⊎◌, inl, inr, ℕ, true, List, [], ◌∷◌, ◌++◌, map, Option, Some, None, IfSome, Ok, Err, refl, sym, ◌∙◌, ap, subst}
use Rattle.pnp_io.specs.Outside.{Appends, AppendsFront}
use Rattle.pnp_labels.specs.Texts.{Text}
use Rattle.pnp_labels.specs.declared.event.Rule.{Rule}
use Rattle.pnp_labels.specs.declared.words.DriverKind.{DriverKind}
use Rattle.pnp_model.specs.Records.{Driver}
use Rattle.driver_rack.specs.Rows.{unnamed}
use Rattle.inf_reader.specs.declared.parts.InfError.{InfError}
use Rattle.free_model.specs.Checks.{Verdict}
use Rattle.pnp_cli.specs.Checks.{AnswersOutcome, IsOutcome, Outcome, ShowsOutcome, file_in, outcome_status, outcome_text, verdict_status}
use Rattle.pnp_cli.specs.Infs.{SomeRose, infs_in}
use Rattle.pnp_cli.specs.Runs.{Decides, DecidesWith, IsOutput, IsOutputWith, IsRunOutput, IsVerdict, Wrote, WroteFront, is_decided, is_whole, named, names_by, names_of, status_of}
use Rattle.pnp_cli.specs.declared.infs.InfsError.TheVariants as faults
use Rattle.pnp_cli.specs.declared.parts.Settings.{Settings}
use Rattle.pnp_cli.specs.declared.status.Status.{Status}
use Rattle.pnp_cli.proofs.Checking.{one_outcome}
use Rattle.pnp_cli.proofs.Fronts.{none_is_front}

-- By what it comes to ------------------------------------------------------------------------

module _ (contents : Option (Text → Option (List ℕ))) (kinds : List DriverKind) (budget : ℕ) (infs : List Text) (trace script : Text) (outcome : Outcome)
    (is : IfSome contents (λ told. IsOutcome kinds budget told infs trace script outcome)) where
  pub outcome_decided : (status : Status) → outcome_status outcome ≡ Some status → IfSome contents (λ told. AnswersOutcome (IsOutcome kinds budget told infs trace script) status)
  outcome_decided status e =
      elim contents as (λ o. IfSome o (λ told. IsOutcome kinds budget told infs trace script outcome) → IfSome o (λ told. AnswersOutcome (IsOutcome kinds budget told infs trace script) status)) [
        | None ↦ λ h. tt
        | Some told ↦ λ h. (outcome, h, e)
      ] is

  pub outcome_written : (old new : Option Text) → Appends old new (outcome_text outcome) → IfSome contents (λ told. Wrote (ShowsOutcome (IsOutcome kinds budget told infs trace script)) old new)
  outcome_written old new took =
      elim contents as (λ o. IfSome o (λ told. IsOutcome kinds budget told infs trace script outcome) → IfSome o (λ told. Wrote (ShowsOutcome (IsOutcome kinds budget told infs trace script)) old new)) [
        | None ↦ λ h. tt
        | Some told ↦ λ h. (outcome_text outcome, (outcome, h, refl), took)
      ] is

  pub outcome_front : (old new : Option Text) → AppendsFront old new (outcome_text outcome) → IfSome contents (λ told. WroteFront (ShowsOutcome (IsOutcome kinds budget told infs trace script)) old new)
  outcome_front old new front =
      elim contents as (λ o. IfSome o (λ told. IsOutcome kinds budget told infs trace script outcome) → IfSome o (λ told. WroteFront (ShowsOutcome (IsOutcome kinds budget told infs trace script)) old new)) [
        | None ↦ λ h. tt
        | Some told ↦ λ h text shown.
            let same : outcome ≡ shown.0 = one_outcome kinds budget (infs_in told infs) (file_in (told trace)) (file_in (told script)) outcome shown.0 h shown.1 in
            subst (λ (t : Text). AppendsFront old new t) (ap outcome_text same ∙ sym shown.2) front
      ] is

-- nothing was written
pub nothing_written : (contents : Option (Text → Option (List ℕ))) (Output : (Text → Option (List ℕ)) → Text → Type 0) (taken : Option Text)
    → IfSome contents (λ told. WroteFront (Output told) taken taken)
nothing_written None Output taken = tt
nothing_written (Some told) Output taken = λ text is. none_is_front taken text

-- the answer for a verdict
pub verdict_answer : (v : Verdict) (status : Status) → (status ≡ verdict_status v) ⊎ ((status ≡ Status.WriteFault) ⊎ (status ≡ Status.WantOfMemory)) → is_decided status ≡ true
    → outcome_status (Ok v) ≡ Some status
verdict_answer v status (inl e) h = ap Some (sym e)
verdict_answer v status (inr (inl fault)) h = absurd (subst (λ (x : Status). is_decided x ≡ true → ⊥) (sym fault) (λ e. cc) h)
verdict_answer v status (inr (inr want)) h = absurd (subst (λ (x : Status). is_decided x ≡ true → ⊥) (sym want) (λ e. cc) h)

-- and for a refused INF
pub refusal_answer : (number : ℕ) (error : InfError) (status : Status) → (status ≡ Status.BadInf) ⊎ ((status ≡ Status.WriteFault) ⊎ (status ≡ Status.WantOfMemory)) → is_decided status ≡ true
    → outcome_status (Err (faults.Refused number error)) ≡ Some status
refusal_answer number error status (inl e) h = ap Some (sym e)
refusal_answer number error status (inr (inl fault)) h = absurd (subst (λ (x : Status). is_decided x ≡ true → ⊥) (sym fault) (λ e. cc) h)
refusal_answer number error status (inr (inr want)) h = absurd (subst (λ (x : Status). is_decided x ≡ true → ⊥) (sym want) (λ e. cc) h)

pub refusal_whole : (status : Status) → (status ≡ Status.BadInf) ⊎ ((status ≡ Status.WriteFault) ⊎ (status ≡ Status.WantOfMemory)) → is_whole status ≡ true → status ≡ Status.BadInf
refusal_whole status (inl e) h = e
refusal_whole status (inr (inl fault)) h = absurd (subst (λ (x : Status). is_whole x ≡ true → ⊥) (sym fault) (λ e. cc) h)
refusal_whole status (inr (inr want)) h = absurd (subst (λ (x : Status). is_whole x ≡ true → ⊥) (sym want) (λ e. cc) h)

-- For settings without a trace to check --------------------------------------------------------

module _ (contents : Option (Text → Option (List ℕ))) (s : Settings) (rack : List Driver) (none : s.check ≡ None) where
  pub plain_decided : (status : Status) → IfSome contents (λ told. status_of told s ≡ Some status) → IfSome contents (λ told. Decides rack told s status)
  plain_decided status h = subst (λ (check : Option Text). IfSome contents (λ told. DecidesWith rack told s check status)) (sym none) h

  pub plain_whole : (old new : Option Text) → IfSome contents (λ told. Wrote (IsRunOutput rack told s) old new) → IfSome contents (λ told. Wrote (IsOutput rack told s) old new)
  plain_whole old new h = subst (λ (check : Option Text). IfSome contents (λ told. Wrote (IsOutputWith rack told s check) old new)) (sym none) h

  pub plain_front : (old new : Option Text) → IfSome contents (λ told. WroteFront (IsRunOutput rack told s) old new) → IfSome contents (λ told. WroteFront (IsOutput rack told s) old new)
  plain_front old new h = subst (λ (check : Option Text). IfSome contents (λ told. WroteFront (IsOutputWith rack told s check) old new)) (sym none) h

pub plain_rose : (s : Settings) → s.check ≡ None → (old new : Text → ℕ) → SomeRose old new (names_of s.infs s.script) → SomeRose old new (named s)
plain_rose s none old new h = subst (λ (check : Option Text). SomeRose old new (names_by s.infs check s.script)) (sym none) h

-- For settings with one -------------------------------------------------------------------------

-- the kinds of the drivers of a rack
pub rack_kinds : {A : Type 0} (kind : A → DriverKind) (book : A → List Rule) (items : List A) → map (λ d. d.kind) (map (λ x. unnamed (kind x) (book x)) items) ≡ map kind items
rack_kinds kind book [] = refl
rack_kinds kind book (x ∷ items) = ap (λ (ks : List DriverKind). kind x ∷ ks) (rack_kinds kind book items)

module _ (contents : Option (Text → Option (List ℕ))) (s : Settings) (rack : List Driver) (kinds : List DriverKind) (of_rack : map (λ d. d.kind) rack ≡ kinds)
    (trace script : Text) (some : s.check ≡ Some trace) (is : s.script ≡ Some script) where
  abbrev With : (((Text → Option (List ℕ)) → Outcome → Type 0) → Type 0) → Type 0
  With P = P (λ told. IsOutcome kinds s.budget told s.infs trace script) → P (λ told. IsVerdict rack told s trace s.script)

  turned : (P : ((Text → Option (List ℕ)) → Outcome → Type 0) → Type 0) → With P
  turned P h =
      subst (λ (o : Option Text). P (λ told. IsVerdict rack told s trace o)) (sym is)
      (subst (λ (ks : List DriverKind). P (λ told. IsOutcome ks s.budget told s.infs trace script)) (sym of_rack) h)

  pub check_decided : (status : Status) → IfSome contents (λ told. AnswersOutcome (IsOutcome kinds s.budget told s.infs trace script) status) → IfSome contents (λ told. Decides rack told s status)
  check_decided status h =
      subst (λ (check : Option Text). IfSome contents (λ told. DecidesWith rack told s check status)) (sym some)
      (turned (λ Is. IfSome contents (λ told. AnswersOutcome (Is told) status)) h)

  pub check_whole : (old new : Option Text) → IfSome contents (λ told. Wrote (ShowsOutcome (IsOutcome kinds s.budget told s.infs trace script)) old new)
      → IfSome contents (λ told. Wrote (IsOutput rack told s) old new)
  check_whole old new h =
      subst (λ (check : Option Text). IfSome contents (λ told. Wrote (IsOutputWith rack told s check) old new)) (sym some)
      (turned (λ Is. IfSome contents (λ told. Wrote (ShowsOutcome (Is told)) old new)) h)

  pub check_front : (old new : Option Text) → IfSome contents (λ told. WroteFront (ShowsOutcome (IsOutcome kinds s.budget told s.infs trace script)) old new)
      → IfSome contents (λ told. WroteFront (IsOutput rack told s) old new)
  check_front old new h =
      subst (λ (check : Option Text). IfSome contents (λ told. WroteFront (IsOutputWith rack told s check) old new)) (sym some)
      (turned (λ Is. IfSome contents (λ told. WroteFront (ShowsOutcome (Is told)) old new)) h)

pub check_rose : (s : Settings) (trace script : Text) → s.check ≡ Some trace → s.script ≡ Some script → (old new : Text → ℕ)
    → SomeRose old new (s.infs ++ trace ∷ script ∷ []) → SomeRose old new (named s)
check_rose s trace script some is old new h =
    subst (λ (check : Option Text). SomeRose old new (names_by s.infs check s.script)) (sym some)
    (subst (λ (o : Option Text). SomeRose old new (names_by s.infs (Some trace) o)) (sym is) h)
