-- What is written of what was found.
use Rattle.std.proofs.Common.{◌≡◌, ℕ, true, List, Option, Some, None, IfSome, Result, Ok, Err, IfOk, ◌⊎◌, inl, inr, refl, sym, ap, subst, ◌∙◌}
use Rattle.sha2.specs.Sha256.{sha256}
use Rattle.pnp_io.specs.Outside.{Holds}
use Rattle.inf_reader.specs.declared.parts.Inf.{Inf}
use Rattle.inf_reader.specs.declared.parts.InfError.{InfError}
use Rattle.pnp_cli.specs.Infs.{refusal_line}
use Rattle.pnp_cli.specs.Runs.{Wrote}
use Rattle.pnp_cli.specs.declared.infs.InfsError.TheVariants as infs
use Rattle.script_family.specs.Reads.{Told, IsRead}
use Rattle.explore_report.specs.declared.error.ReportError.{ReportError}
use Rattle.explore_report.specs.declared.told.Found.{Found}
use Rattle.explore_report.specs.declared.told.Found.TheVariants as found
use Rattle.explore_report.specs.declared.parts.Exploration.{Exploration}
use Rattle.explore_report.specs.declared.parts.Task.{Task}
use Rattle.explore_report.specs.declared.parts.Words.{Words}
use Rattle.explore_cli.specs.declared.program.Answer.{Answer}
use Rattle.explore_cli.specs.declared.status.Status.{Status}
use Rattle.explore_cli.specs.declared.status.Status.TheVariants as statuses
use Rattle.explore_cli.specs.Explored.{AreInfs, RefusedIn, IsExploredOver, IsExplored, TellsRefusal, IsAnswered, TellsBadLine, IsBytesOutput, IsOutput, WroteFrontOf, WroteSome, WroteOut, status_of, is_told, is_silent}

abbrev Contents : Type 0
Contents = Option (List ℕ → Option (List ℕ))

pub always : (o : Contents) (P : (List ℕ → Option (List ℕ)) → Type 0) → ((told : List ℕ → Option (List ℕ)) → P told) → IfSome o P
always None P h = tt
always (Some told) P h = h told

-- what was found is told
pub all_told : (f : Found) → is_told (status_of f) ≡ true
all_told found.Holds = refl
all_told found.Broken = refl
all_told found.NotAll = refl

-- over INFs that were read
pub explored_is : (o now : Contents) (digest : List ℕ) (family : Told) (e : Exploration) (read : List Inf) (digests : List (List ℕ)) (text : List ℕ) (status : Status) → now ≡ o
    → IfSome o (λ told. AreInfs told e.infs read digests) → IsExploredOver now digest family e read digests text status
    → IfSome o (λ told. IsExplored told digest family e text status ⊎ TellsRefusal told e text status)
explored_is None now digest family e read digests text status same are over = tt
explored_is (Some told) now digest family e read digests text status same are over =
    inl (record { infs = read; digests = digests; are = are; over = subst (λ (x : Contents). IsExploredOver x digest family e read digests text status) same over })

pub refusal_is : (o : Contents) (digest : List ℕ) (family : Told) (e : Exploration) (number : ℕ) (error : InfError) (text : List ℕ) (status : Status)
    → IfSome o (λ told. RefusedIn told e.infs (infs.Refused number error)) → text ≡ refusal_line number error → status ≡ statuses.BadInf
    → IfSome o (λ told. IsExplored told digest family e text status ⊎ TellsRefusal told e text status)
refusal_is None digest family e number error text status refused is told_by = tt
refusal_is (Some told) digest family e number error text status refused is told_by =
    inr (record { number = number; error = error; refused = refused; text_is = is; status_is = told_by })

pub family_is : (o : Contents) (bytes : List ℕ) (family : Told) (task : Task) (text : List ℕ) (status : Status) → IsRead family bytes → IfSome o (λ told. IsAnswered told (sha256 bytes) family task text status)
    → IfSome o (λ told. IsBytesOutput told bytes task text status)
family_is None bytes family task text status read h = tt
family_is (Some told) bytes family task text status read h = inr (record { family = family; read = read; answered = h })

pub bad_line_is : (o : Contents) (bytes : List ℕ) (task : Task) (text : List ℕ) (status : Status) → TellsBadLine bytes text status → IfSome o (λ told. IsBytesOutput told bytes task text status)
bad_line_is None bytes task text status h = tt
bad_line_is (Some told) bytes task text status h = inl h

pub output_is : (o now : Contents) (words : Words) (bytes text : List ℕ) (status : Status) → now ≡ o → Holds o words.family bytes → IfSome now (λ told. IsBytesOutput told bytes words.task text status)
    → IfSome o (λ told. IsOutput told words text status)
output_is None now words bytes text status same holds h = tt
output_is (Some told) now words bytes text status same holds h =
    record { bytes = bytes; there = holds; is = subst (λ (x : Contents). IfSome x (λ told. IsBytesOutput told bytes words.task text status)) same h }

-- ---- what was written

clash : (s : Status) → is_silent s ≡ true → is_told s ≡ true → ⊥
clash statuses.Done a b = cc
clash statuses.BadFamily a b = cc
clash statuses.BadWords a b = cc
clash statuses.ReadFault a b = cc
clash statuses.WriteFault a b = cc
clash statuses.BadInf a b = cc
clash statuses.WantOfMemory a b = cc
clash statuses.TooLarge a b = cc
clash statuses.Broken a b = cc
clash statuses.NotAll a b = cc
clash statuses.BadParts a b = cc

not_told : is_told statuses.WriteFault ≡ true → ⊥
not_told e = cc

not_silent : is_silent statuses.WriteFault ≡ true → ⊥
not_silent e = cc

pub told_is : (o : Contents) (words : Words) (found : Result Answer ReportError) (s : Status) (old new : Option (List ℕ)) → is_told s ≡ true → WroteOut found s old new
    → IfOk found (λ a. IfSome o (λ told. IsOutput told words a.text.items a.status)) → IfSome o (λ told. Wrote (λ text. IsOutput told words text s) old new)
told_is None words found s old new told_by wrote h = tt
told_is (Some told) words (Err error) s old new told_by wrote h = absurd (clash s wrote.0 told_by)
told_is (Some told) words (Ok a) s old new told_by (inl w) h = (a.text.items, subst (λ (x : Status). IsOutput told words a.text.items x) (sym w.0) h, w.1)
told_is (Some told) words (Ok a) s old new told_by (inr w) h = absurd (not_told (ap is_told (sym w.0) ∙ told_by))

pub front_is : (o : Contents) (words : Words) (found : Result Answer ReportError) (s : Status) (old new : Option (List ℕ)) → s ≡ statuses.WriteFault → WroteOut found s old new
    → IfOk found (λ a. is_told a.status ≡ true)
    → IfOk found (λ a. IfSome o (λ told. IsOutput told words a.text.items a.status)) → IfSome o (λ told. WroteFrontOf told words old new)
front_is None words found s old new is wrote all h = tt
front_is (Some told) words (Err error) s old new is wrote all h = absurd (not_silent (ap is_silent (sym is) ∙ wrote.0))
front_is (Some told) words (Ok a) s old new is (inl w) all h = absurd (not_told (ap is_told (sym is ∙ w.0) ∙ all))
front_is (Some told) words (Ok a) s old new is (inr w) all h = record { text = a.text.items; is = record { status = a.status; is = h }; front = w.1 }

pub nothing_is : (found : Result Answer ReportError) (s : Status) (old new : Option (List ℕ)) → is_silent s ≡ true → WroteOut found s old new → IfOk found (λ a. is_told a.status ≡ true) → new ≡ old
nothing_is (Err error) s old new silent wrote all = wrote.1
nothing_is (Ok a) s old new silent (inl w) all = absurd (clash s silent (ap is_told w.0 ∙ all))
nothing_is (Ok a) s old new silent (inr w) all = absurd (not_silent (ap is_silent (sym w.0) ∙ silent))

-- these words were read
pub some_words : (o : Contents) (words : Words) (s : Status) (old new : Option (List ℕ)) → (is_told s ≡ true → IfSome o (λ told. Wrote (λ text. IsOutput told words text s) old new)) → is_told s ≡ true
    → IfSome o (λ told. WroteSome told s old new)
some_words None words s old new h told_by = tt
some_words (Some told) words s old new h told_by = record { words = words; wrote = h told_by }

-- no words were read
pub no_words : (o : Contents) (error : ReportError) (s : Status) (old new : Option (List ℕ)) → WroteOut (Err error) s old new → is_told s ≡ true → IfSome o (λ told. WroteSome told s old new)
no_words o error s old new wrote told_by = absurd (clash s wrote.0 told_by)
