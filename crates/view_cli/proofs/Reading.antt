-- The INFs and the script that the words name.
use Rattle.std.proofs.Common.{◌≡◌, ℕ, ◌+◌, ◌≤◌, ◌<◌, Bool, true, false, List, [], ◌∷◌, Option, Some, None, IfSome, IfOk, Result, Ok, Err, refl, sym, ◌∙◌, ap, subst, length, take, arith, nat_le, cond}
use Rattle.std.proofs.lemmas.List.{take_all}
use Rattle.std.proofs.lemmas.Bool.Decides.{nat_tests}
use Rattle.pnp_io.specs.Outside.{Holds, HoldsMore}
use Rattle.pnp_labels.specs.Texts.{Text}
use Rattle.pnp_model.specs.Records.{Driver, Settings}
use Rattle.pnp_model.specs.Runs.{opening}
use Rattle.notify_front.specs.Fronts.{Front, opening_front}
use Rattle.inf_reader.specs.declared.parts.Inf.{Inf}
use Rattle.inf_reader.specs.declared.parts.InfError.{InfError}
use Rattle.device_ids.specs.Cuts.{parts}
use Rattle.script_reader.specs.Script.{Trace, trace, ends, onward, at_end, of_lines, Meaning, nothing, means, bad, last_line, whole_line}
use Rattle.pnp_cli.specs.Checks.{file_in}
use Rattle.pnp_cli.specs.Contents.{events_of, decided_of, answer_of}
use Rattle.pnp_cli.specs.Infs.{infs_in, limit, refusal_line}
use Rattle.pnp_cli.specs.Runs.{machine}
use Rattle.pnp_cli.specs.declared.infs.InfsError.{InfsError}
use Rattle.pnp_cli.specs.declared.infs.InfsError.TheVariants.{TooLarge, Refused}
use Rattle.pnp_cli.specs.declared.status.Status.{Status}
use Rattle.view_page.specs.Pages.{IsPage}
use Rattle.view_page.specs.declared.words.Part.{Part}
use Rattle.view_page.specs.declared.words.Tag.{Tag}
use Rattle.view_cli.specs.Viewed.{IsViewing}
use Rattle.view_cli.specs.Answers.{IsViewed, IsTooLarge, is_told}
use Rattle.view_cli.specs.declared.viewed.Viewed.{Viewed}

within_limit : (n : ℕ) → n ≤ 16777216 → nat_le n limit ≡ true
within_limit n h = grind (arith, nat_tests)

-- a script that is read to its end
decided_whole : (script : List ℕ) → length script ≤ 16777216 → decided_of script ≡ events_of script
decided_whole script within =
    ap (λ (b : Bool). trace b 0 (take limit script)) (within_limit (length script) within) ∙ ap (trace true 0) (take_all limit script within)

-- and so the end of the script, or a bad line, is met
told_onward : (number : ℕ) (m : Meaning) (rest : Trace) → is_told (answer_of rest) ≡ true → is_told (answer_of (onward number m rest)) ≡ true
told_onward number nothing rest h = h
told_onward number (means event) rest h = h
told_onward number bad rest h = refl

told_end : (passed : ℕ) (rest : List ℕ) → is_told (answer_of (at_end true passed rest)) ≡ true
told_end passed [] = refl
told_end passed (byte ∷ rest) = told_onward (passed + 1) (last_line (byte ∷ rest)) ends refl

told_lines : (passed : ℕ) (lines : List (List ℕ)) → is_told (answer_of (of_lines true passed lines)) ≡ true
told_lines passed [] = refl
told_lines passed (rest ∷ []) = told_end passed rest
told_lines passed (line ∷ next ∷ lines) = told_onward (passed + 1) (whole_line line) (of_lines true (passed + 1) (next ∷ lines)) (told_lines (passed + 1) (next ∷ lines))

pub viewing_told : {steps : Bool} {settings : Settings} {f : Front} (script : List ℕ) (text : Text) (status : Status) → IsViewing steps settings f (events_of script) text status → is_told status ≡ true
viewing_told script text status h = subst (λ (x : Status). is_told x ≡ true) h.answer (told_lines 0 (parts 0x0A script))

-- What the files come to -------------------------------------------------------------------

-- the script is viewed
pub viewed_script : (steps : Bool) (contents : Option (Text → Option (List ℕ))) (name : Text) (infs : List Inf) (script : List ℕ) (rack : List Driver) (budget : ℕ) (text : Text) (status : Status) → Holds contents name script → length script ≤ 16777216
    → IsViewing steps (machine infs budget) (opening_front (opening rack)) (events_of script) text status
    → IfSome contents (λ told. IsViewed steps rack budget (Ok infs) (told name) text status)
viewed_script steps None name infs script rack budget text status holds few h = tt
viewed_script steps (Some told) name infs script rack budget text status holds few h =
    subst (λ (s : Option (List ℕ)). IsViewed steps rack budget (Ok infs) s text status) (sym holds)
    (record {
      view = h.view;
      answer = ap (λ (t : Trace). Some (answer_of t)) (decided_whole script few) ∙ ap Some h.answer;
    })

-- all INFs were taken before
viewed_taken : (steps : Bool) (contents : Option (Text → Option (List ℕ))) (names : List Text) (name : Text) (infs : List Inf) (rack : List Driver) (budget : ℕ) (text : Text) (status : Status)
    → IfSome contents (λ told. infs_in told names ≡ Ok infs) → IfSome contents (λ told. IsViewed steps rack budget (Ok infs) (told name) text status)
    → IfSome contents (λ told. IsViewed steps rack budget (infs_in told names) (told name) text status)
viewed_taken steps None names name infs rack budget text status taken h = tt
viewed_taken steps (Some told) names name infs rack budget text status taken h =
    subst (λ (r : Result (List Inf) InfsError). IsViewed steps rack budget r (told name) text status) (sym taken) h

pub named_taken : {E : Type 0} (steps : Bool) (r : Result Viewed E) (contents later : Option (Text → Option (List ℕ))) (names : List Text) (name : Text) (infs : List Inf) (rack : List Driver) (budget : ℕ) → later ≡ contents
    → IfSome contents (λ told. infs_in told names ≡ Ok infs) → IfOk r (λ e. IfSome later (λ told. IsViewed steps rack budget (Ok infs) (told name) e.text.items e.status))
    → IfOk r (λ e. IfSome contents (λ told. IsViewed steps rack budget (infs_in told names) (told name) e.text.items e.status))
named_taken steps (Err error) contents later names name infs rack budget same taken h = tt
named_taken steps (Ok e) contents later names name infs rack budget same taken h =
    viewed_taken steps contents names name infs rack budget e.text.items e.status taken
    (subst (λ (o : Option (Text → Option (List ℕ))). IfSome o (λ told. IsViewed steps rack budget (Ok infs) (told name) e.text.items e.status)) same h)

-- an INF is refused
pub viewed_refused : (steps : Bool) (contents : Option (Text → Option (List ℕ))) (names : List Text) (name : Text) (number : ℕ) (error : InfError) (rack : List Driver) (budget : ℕ) (text : Text) (status : Status)
    → IfSome contents (λ told. infs_in told names ≡ Err (Refused number error)) → IsPage ((Part.Words Tag.P, refusal_line number error) ∷ []) text → status ≡ Status.BadInf
    → IfSome contents (λ told. IsViewed steps rack budget (infs_in told names) (told name) text status)
viewed_refused steps None names name number error rack budget text status refused page is = tt
viewed_refused steps (Some told) names name number error rack budget text status refused page is =
    subst (λ (r : Result (List Inf) InfsError). IsViewed steps rack budget r (told name) text status) (sym refused)
    (record { view = page; answer = ap Some (sym is) })

-- a file is too large
beyond_limit : (n : ℕ) → 16777216 < n → nat_le n 16777216 ≡ false
beyond_limit n h = grind (arith, nat_tests)

large_file : (bytes : List ℕ) → 16777216 < length bytes → file_in (Some bytes) ≡ Err TooLarge
large_file bytes more = ap (λ (b : Bool). cond b (Ok bytes) (Err TooLarge)) (beyond_limit (length bytes) more)

pub large_script : (contents : Option (Text → Option (List ℕ))) (names : List Text) (name : Text) (infs : List Inf) → IfSome contents (λ told. infs_in told names ≡ Ok infs) → HoldsMore contents name limit
    → IfSome contents (λ told. IsTooLarge (infs_in told names) (told name))
large_script None names name infs taken more = tt
large_script (Some told) names name infs taken (bytes, is, more) =
    subst (λ (r : Result (List Inf) InfsError). IsTooLarge r (told name)) (sym taken) (ap file_in is ∙ large_file bytes more)

pub large_inf : (contents : Option (Text → Option (List ℕ))) (names : List Text) (name : Text) → IfSome contents (λ told. infs_in told names ≡ Err TooLarge) → IfSome contents (λ told. IsTooLarge (infs_in told names) (told name))
large_inf None names name large = tt
large_inf (Some told) names name large = subst (λ (r : Result (List Inf) InfsError). IsTooLarge r (told name)) (sym large) refl
