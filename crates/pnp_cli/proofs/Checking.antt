-- What the check of a trace comes to, file after file.
use Rattle.std.proofs.Common.{◌≡◌, ◌≤◌, inl, inr, ℕ, List, ◌++◌, Option, Some, None, IfSome, Result, Ok, Err, IsErrAnd, arith, refl, sym, ◌∙◌, ap, subst}
use Rattle.std.specs.Prelude.{IsErrOf}
use Rattle.std.proofs.lemmas.List.Elements.{Contains-append_right}
use Rattle.pnp_io.specs.Outside.{Rose}
use Rattle.pnp_labels.specs.Texts.{Text}
use Rattle.pnp_labels.specs.declared.words.DriverKind.{DriverKind}
use Rattle.inf_reader.specs.declared.parts.Inf.{Inf}
use Rattle.start_sequence.specs.Begins.{settings_of}
use Rattle.free_model.specs.Checks.{IsChecked, beginning}
use Rattle.free_model.proofs.OneVerdict.{one_verdict}
use Rattle.trace_check.specs.Verdicts.{verdict}
use Rattle.trace_check.specs.declared.check.Checked.{Checked}
use Rattle.pnp_cli.specs.Checks.{ComesTo, GivesFile, GivesOutcome, Outcome, file_in}
use Rattle.pnp_cli.specs.Contents.{events_of}
use Rattle.pnp_cli.specs.Infs.{SomeRose}
use Rattle.pnp_cli.specs.Runs.{ExactlyOneVerdictLaw}
use Rattle.pnp_cli.specs.declared.infs.InfsError.{InfsError}
use Rattle.pnp_cli.specs.declared.infs.InfsError.TheVariants.{ReadFault, TooLarge, Refused, WantOfMemory}
use Rattle.pnp_cli.proofs.SomeVerdict.{some_verdict}

-- The files --------------------------------------------------------------------------------

-- a file that was not taken decides what the check comes to
file_stopped : (error : InfsError) (Is : Outcome → Type 0) (meaning : Result Text InfsError) → GivesFile (Err error) meaning → (meaning ≡ Err error → Is (Err error)) → GivesOutcome (Err error) Is
file_stopped ReadFault Is meaning h f = tt
file_stopped WantOfMemory Is meaning h f = tt
file_stopped TooLarge Is meaning h f = f h
file_stopped (Refused number why) Is meaning h f = f h

module _ (contents : Option (Text → Option (List ℕ))) (kinds : List DriverKind) (budget : ℕ) (infs : List Inf) (trace script : Text) where
  pub trace_stops : (error : InfsError) → IfSome contents (λ told. GivesFile (Err error) (file_in (told trace)))
      → IfSome contents (λ told. GivesOutcome (Err error) (ComesTo kinds budget (Ok infs) (file_in (told trace)) (file_in (told script))))
  trace_stops error h =
      elim contents as (λ o. IfSome o (λ told. GivesFile (Err error) (file_in (told trace)))
      → IfSome o (λ told. GivesOutcome (Err error) (ComesTo kinds budget (Ok infs) (file_in (told trace)) (file_in (told script))))) [
        | None ↦ λ g. tt
        | Some told ↦ λ g.
            file_stopped error (ComesTo kinds budget (Ok infs) (file_in (told trace)) (file_in (told script))) (file_in (told trace)) g
            (λ is. subst (λ (m : Result Text InfsError). ComesTo kinds budget (Ok infs) m (file_in (told script)) (Err error)) (sym is) refl)
      ] h

  pub script_stops : (read : List ℕ) (error : InfsError) → IfSome contents (λ told. file_in (told trace) ≡ Ok read) → IfSome contents (λ told. GivesFile (Err error) (file_in (told script)))
      → IfSome contents (λ told. GivesOutcome (Err error) (ComesTo kinds budget (Ok infs) (file_in (told trace)) (file_in (told script))))
  script_stops read error first h =
      elim contents as (λ o. IfSome o (λ told. file_in (told trace) ≡ Ok read) → IfSome o (λ told. GivesFile (Err error) (file_in (told script)))
      → IfSome o (λ told. GivesOutcome (Err error) (ComesTo kinds budget (Ok infs) (file_in (told trace)) (file_in (told script))))) [
        | None ↦ λ f g. tt
        | Some told ↦ λ f g.
            file_stopped error (ComesTo kinds budget (Ok infs) (file_in (told trace)) (file_in (told script))) (file_in (told script)) g
            (λ is. subst (λ (m : Result Text InfsError). ComesTo kinds budget (Ok infs) m (file_in (told script)) (Err error)) (sym f)
            (subst (λ (m : Result Text InfsError). ComesTo kinds budget (Ok infs) (Ok read) m (Err error)) (sym is) refl))
      ] first h

  pub all_read : (read bytes : List ℕ) (checked : Checked) → IfSome contents (λ told. file_in (told trace) ≡ Ok read) → IfSome contents (λ told. file_in (told script) ≡ Ok bytes)
      → IsChecked (settings_of infs budget) (beginning kinds (events_of bytes)) read (verdict checked)
      → IfSome contents (λ told. ComesTo kinds budget (Ok infs) (file_in (told trace)) (file_in (told script)) (Ok (verdict checked)))
  all_read read bytes checked first second is =
      elim contents as (λ o. IfSome o (λ told. file_in (told trace) ≡ Ok read) → IfSome o (λ told. file_in (told script) ≡ Ok bytes)
      → IfSome o (λ told. ComesTo kinds budget (Ok infs) (file_in (told trace)) (file_in (told script)) (Ok (verdict checked)))) [
        | None ↦ λ f g. tt
        | Some told ↦ λ f g.
            subst (λ (m : Result Text InfsError). ComesTo kinds budget (Ok infs) m (file_in (told script)) (Ok (verdict checked))) (sym f)
            (subst (λ (m : Result Text InfsError). ComesTo kinds budget (Ok infs) (Ok read) m (Ok (verdict checked))) (sym g) (verdict checked, is, refl))
      ] first second

-- what a `?` returns
pub outcome_passed : (r : Result Checked InfsError) (error : InfsError) (contents : Option (Text → Option (List ℕ))) (Is : (Text → Option (List ℕ)) → Outcome → Type 0)
    → IsErrAnd r (λ e. e ≡ error) → IfSome contents (λ told. GivesOutcome (Err error) (Is told)) → IfSome contents (λ told. GivesOutcome r (Is told))
outcome_passed (Ok checked) error contents Is h given = absurd h
outcome_passed (Err e) error contents Is h given =
    let P : InfsError → Type 0 = λ x. IfSome contents (λ told. GivesOutcome (Err x) (Is told)) in
    subst P (sym h) given

-- There is one verdict ------------------------------------------------------------------------

pub exactly_one_verdict : ExactlyOneVerdictLaw
exactly_one_verdict settings kinds script trace =
    let some = some_verdict settings (beginning kinds (events_of script)) trace in
    (some.0, some.1, λ other is. one_verdict settings (beginning kinds (events_of script)) trace other some.0 is some.1)

pub some_outcome : (kinds : List DriverKind) (budget : ℕ) (infs : Result (List Inf) InfsError) (trace script : Result Text InfsError) → (outcome : Outcome) × ComesTo kinds budget infs trace script outcome
some_outcome kinds budget (Err error) trace script = (Err error, refl)
some_outcome kinds budget (Ok infs) (Err error) script = (Err error, refl)
some_outcome kinds budget (Ok infs) (Ok trace) (Err error) = (Err error, refl)
some_outcome kinds budget (Ok infs) (Ok trace) (Ok script) =
    let some = some_verdict (settings_of infs budget) (beginning kinds (events_of script)) trace in
    (Ok some.0, (some.0, some.1, refl))

pub one_outcome : (kinds : List DriverKind) (budget : ℕ) (infs : Result (List Inf) InfsError) (trace script : Result Text InfsError) (x y : Outcome)
    → ComesTo kinds budget infs trace script x → ComesTo kinds budget infs trace script y → x ≡ y
one_outcome kinds budget (Err error) trace script x y h g = h ∙ sym g
one_outcome kinds budget (Ok infs) (Err error) script x y h g = h ∙ sym g
one_outcome kinds budget (Ok infs) (Ok trace) (Err error) x y h g = h ∙ sym g
one_outcome kinds budget (Ok infs) (Ok trace) (Ok script) x y (v, is, e) (w, too, f) =
    e ∙ ap Ok (one_verdict (settings_of infs budget) (beginning kinds (events_of script)) trace v w is too) ∙ sym f

-- Faults of reads ---------------------------------------------------------------------------------

rose_before : (a b c : ℕ) → a ≤ b → Rose b c → Rose a c
rose_before a b c low (inl up) = inl (omega (arith, low, up))
rose_before a b c low (inr top) = inr top

-- a count that rose after others did not fall
pub rose_later : (old mid new : Text → ℕ) (first names : List Text) → ((other : Text) → old other ≤ mid other) → SomeRose mid new names → SomeRose old new (first ++ names)
rose_later old mid new first names low h =
    record { name = h.name; named = Contains-append_right first names h.name h.named; rose = rose_before (old h.name) (mid h.name) (new h.name) (low h.name) h.rose }

-- what a `?` returns
pub fault_passed : {A B : Type 0} (r : Result A InfsError) (error : InfsError) → IsErrAnd r (λ e. e ≡ error) → IsErrOf r ReadFault → IsErrOf {T = B} {E = InfsError} (Err error) ReadFault
fault_passed (Ok read) error h g = absurd h
fault_passed (Err e) error h g = let same : e ≡ ReadFault = cc in ap Err (sym h ∙ same)
