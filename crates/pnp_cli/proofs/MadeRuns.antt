-- What the summary of a run over a generated script says.
use Rattle.std.proofs.Common.{◌≡◌, inl, inr, ℕ, refl, Option, List, [], ◌∷◌, ◌++◌, ◌≤◌, length, Some, Result, Ok, Err, IfOk, Vec, sym, ◌∙◌, subst, append_assoc, ap, arith}
use Rattle.std.specs.Global.{Global}
use Rattle.pnp_io.specs.Outside.{AppendsFront, Rose}
use Rattle.pnp_labels.specs.Texts.{Text}
use Rattle.pnp_model.specs.Records.{Driver}
use Rattle.pnp_model.specs.Runs.{opening}
use Rattle.inf_reader.specs.declared.parts.Inf.{Inf}
use Rattle.inf_reader.specs.declared.parts.InfError.{InfError}
use Rattle.inf_reader.specs.Meaning.{Gives, inf}
use Rattle.pnp_machine.specs.Managers.{Manager, settings}
use Rattle.notify_front.specs.Fronts.{opening_front}
use Rattle.pnp_cli.specs.Contents.{events_of, script_status}
use Rattle.pnp_cli.specs.Generated.{gen_script, gen_inf}
use Rattle.pnp_cli.specs.Outputs.{Shows}
use Rattle.pnp_cli.specs.Runs.{IsSummary, IsSummaryBy, WroteFront, machine}
use Rattle.pnp_cli.specs.Summaries.{summary}
use Rattle.pnp_cli.specs.declared.status.Status.{Status}
use Rattle.pnp_cli.specs.declared.turn.PieceError.{PieceError}
use Rattle.pnp_cli.proofs.Fronts.{none_is_front}
use Rattle.pnp_cli.proofs.GeneratedInf.{generated_inf}
use Rattle.pnp_cli.proofs.GeneratedLaws.{generated_script}
use Rattle.pnp_cli.proofs.OneOutput.{shows_one}

-- over the machine that is told the generated INF
pub sums_up : (rack : List Driver) (budget n : ℕ) (read : Inf) (infs : List Inf) (m : Manager) (text : Text) → inf gen_inf ≡ Ok read → infs ≡ read ∷ []
    → m ≡ record { infs = infs; budget = budget; events = 0; state = opening rack }
    → Shows (settings m) (opening_front m.state) (events_of (gen_script n)) (summary n) text → IsSummary rack budget n text
sums_up rack budget n read infs m text meaning alone is shows =
    let at_start : Shows (machine infs budget) (opening_front (opening rack)) (events_of (gen_script n)) (summary n) text =
    subst (λ (x : Manager). Shows (settings x) (opening_front x.state) (events_of (gen_script n)) (summary n) text) is shows in
    subst (λ (r : Result Inf InfError). IsSummaryBy rack budget n r text) (sym meaning)
    (subst (λ (x : List Inf). Shows (machine x budget) (opening_front (opening rack)) (events_of (gen_script n)) (summary n) text) alone at_start)

pub sums_up_if : {E : Type 0} (rack : List Driver) (budget n : ℕ) (read : Inf) (infs : List Inf) (m : Manager) (r : Result (Vec ℕ Global) E) → inf gen_inf ≡ Ok read → infs ≡ read ∷ []
    → m ≡ record { infs = infs; budget = budget; events = 0; state = opening rack }
    → IfOk r (λ text. Shows (settings m) (opening_front m.state) (events_of (gen_script n)) (summary n) text.items) → IfOk r (λ text. IsSummary rack budget n text.items)
sums_up_if rack budget n read infs m (Ok text) meaning alone is shows = sums_up rack budget n read infs m text.items meaning alone is shows
sums_up_if rack budget n read infs m (Err error) meaning alone is shows = tt

pub one_inf : (infs : List Inf) (read : Inf) → infs ≡ read ∷ [] → length infs ≤ 64
one_inf infs read alone = subst (λ (x : List Inf). length x ≤ 64) (sym alone) (omega arith)

summary_one : (rack : List Driver) (budget n : ℕ) (read : Result Inf InfError) (text other : Text) → IsSummaryBy rack budget n read text → IsSummaryBy rack budget n read other → other ≡ text
summary_one rack budget n (Ok read) text other h g = shows_one (machine (read ∷ []) budget) (opening_front (opening rack)) (events_of (gen_script n)) (summary n) text other h g
summary_one rack budget n (Err error) text other h g = g ∙ sym h

-- a front of the summary is one of whatever the summary is
pub summary_front : (rack : List Driver) (budget n : ℕ) (text : Text) (old new : Option Text) → IsSummary rack budget n text → AppendsFront old new text
    → WroteFront (IsSummary rack budget n) old new
summary_front rack budget n text old new is front =
    λ other h. subst (λ (x : Text). AppendsFront old new x) (sym (summary_one rack budget n (inf gen_inf) text other is h)) front

pub no_summary : (rack : List Driver) (budget n : ℕ) (taken : Option Text) → WroteFront (IsSummary rack budget n) taken taken
no_summary rack budget n taken = λ text is. none_is_front taken text

-- three parts that were appended one after another
pub three_parts : (o a b c o1 o2 o3 : List ℕ) → o1 ≡ o ++ a → o2 ≡ o1 ++ b → o3 ≡ o2 ++ c → o3 ≡ o ++ ((a ++ b) ++ c)
three_parts o a b c o1 o2 o3 h1 h2 h3 =
    h3 ∙ ap (λ (x : List ℕ). x ++ c) (h2 ∙ ap (λ (x : List ℕ). x ++ b) h1 ∙ append_assoc o a b) ∙ append_assoc o (a ++ b) c

-- five lines that were appended to nothing
pub five_lines : (a b c d e o0 o1 o2 o3 o4 o5 : List ℕ) → o0 ≡ [] → o1 ≡ o0 ++ a → o2 ≡ o1 ++ b → o3 ≡ o2 ++ c → o4 ≡ o3 ++ d → o5 ≡ o4 ++ e
    → o5 ≡ (((a ++ b) ++ c) ++ d) ++ e
five_lines a b c d e o0 o1 o2 o3 o4 o5 h0 h1 h2 h3 h4 h5 =
    h5
    ∙ ap (λ (x : List ℕ). x ++ e)
    (h4 ∙ ap (λ (x : List ℕ). x ++ d) (h3 ∙ ap (λ (x : List ℕ). x ++ c) (h2 ∙ ap (λ (x : List ℕ). x ++ b) (h1 ∙ ap (λ (x : List ℕ). x ++ a) h0))))

-- What is left is want of memory ---------------------------------------------------------------

-- where an INF is accepted
pub inf_wants : (error : InfError) (bytes : List ℕ) → bytes ≡ gen_inf → Gives (Err error) (inf bytes) → error ≡ InfError.WantOfMemory
inf_wants error bytes is gives = refused error (generated_inf.1) (subst (λ (x : List ℕ). Gives (Err error) (inf x)) is gives)
  where
    refused : (e : InfError) → inf gen_inf ≡ Ok generated_inf.0 → Gives (Err e) (inf gen_inf) → e ≡ InfError.WantOfMemory
    refused InfError.WantOfMemory taken h = refl
    refused InfError.NoSignature taken h = absurd (let other = sym taken ∙ h in cc)
    refused (InfError.OpenHeader line) taken h = absurd (let other = sym taken ∙ h in cc)
    refused (InfError.LineTooLong line) taken h = absurd (let other = sym taken ∙ h in cc)
    refused (InfError.BadDate line) taken h = absurd (let other = sym taken ∙ h in cc)
    refused (InfError.BadScore line) taken h = absurd (let other = sym taken ∙ h in cc)

never_rose : Rose 0 0 → ⊥
never_rose (inl rose) = omega (arith, rose)
never_rose (inr full) = omega (arith, full)

-- a run from lent bytes into a sink that keeps nothing ends for want of memory alone
pub run_wants : (n : ℕ) (error : PieceError) → n ≤ 400 → (error ≡ PieceError.TooLarge → script_status (Some (gen_script n)) ≡ Some Status.TooLarge) → (error ≡ PieceError.ReadFault → Rose 0 0)
    → (error ≡ PieceError.WriteFault → Rose 0 0) → error ≡ PieceError.WantOfMemory
run_wants n PieceError.ReadFault few large read write = let rose = read refl in absurd (never_rose rose)
run_wants n PieceError.WriteFault few large read write = let rose = write refl in absurd (never_rose rose)
run_wants n PieceError.TooLarge few large read write = let two = sym (generated_script n few) ∙ large refl in absurd (cc)
run_wants n PieceError.WantOfMemory few large read write = refl
