-- What an exploration writes and answers, by what the words say and by the contents of the files as they are told.
use Rattle.std.specs.Prelude.{ℕ, ◌≡◌, ◌+◌, ◌-◌, ◌<◌, ◌≤◌, ◌⊎◌, Bool, true, false, List, [], ◌∷◌, ◌++◌, length, codes, Option, Some, Result, Ok, Err}
use Rattle.sha2.specs.Sha256.{sha256}
use Rattle.inf_reader.specs.Meaning.{inf}
use Rattle.inf_reader.specs.declared.parts.Inf.{Inf}
use Rattle.inf_reader.specs.declared.parts.InfError.{InfError}
use Rattle.pnp_io.specs.Outside.{Appends, AppendsFront}
use Rattle.pnp_cli.specs.Infs.{refusal_line}
use Rattle.pnp_cli.specs.Runs.{Wrote}
use Rattle.pnp_cli.specs.declared.infs.InfsError.{InfsError}
use Rattle.pnp_cli.specs.declared.infs.InfsError.TheVariants as infs
use Rattle.start_sequence.specs.Begins.{settings_of}
use Rattle.script_family.specs.Reading.{bad_line, outcome_of}
use Rattle.script_family.specs.Reads.{Told, IsRead}
use Rattle.explore_report.specs.declared.error.ReportError.{ReportError}
use Rattle.explore_report.specs.declared.parts.Exploration.{Exploration}
use Rattle.explore_report.specs.declared.parts.Task.{Task}
use Rattle.explore_report.specs.declared.parts.Task.TheVariants.{Explore, Count, Script}
use Rattle.explore_report.specs.declared.parts.Words.{Words}
use Rattle.explore_report.specs.declared.told.Found.{Found}
use Rattle.explore_report.specs.declared.told.Found.TheVariants.{Holds, Broken, NotAll}
use Rattle.explore_report.specs.declared.told.Report.{Report}
use Rattle.explore_report.specs.Scripts.{script_text, below_of}
use Rattle.explore_report.specs.Reports.{count_line, number_line}
use Rattle.explore_report.specs.Marks.{mark_text}
use Rattle.explore_report.specs.Answers.{count_of, IsReport}
use Rattle.explore_cli.specs.declared.status.Status.{Status}
use Rattle.explore_cli.specs.declared.status.Status.TheVariants as statuses
use Rattle.explore_cli.specs.declared.files.Infs.{Infs}
use Rattle.explore_cli.specs.declared.program.Answer.{Answer}
use Rattle.explore_cli.specs.Playing.{Shows}

-- the file of a name is an INF of this meaning, and its bytes have this digest
pub record IsInf (contents : List ℕ → Option (List ℕ)) (name : List ℕ) (read : Inf) (digest : List ℕ) : Type 0 where
  pub bytes : List ℕ
  pub there : contents name ≡ Some bytes
  pub meaning : inf bytes ≡ Ok read
  pub is : digest ≡ sha256 bytes

-- the same of the files of these names, in order
abbrev pub AreInfs : (List ℕ → Option (List ℕ)) → List (List ℕ) → List Inf → List (List ℕ) → Type 0
AreInfs contents [] [] [] = Unit {0}
AreInfs contents (name ∷ names) (read ∷ reads) (digest ∷ digests) = IsInf contents name read digest × AreInfs contents names reads digests
AreInfs contents names reads digests = ⊥

-- why an INF was not kept, where it was refused
abbrev pub RefusedAs : (List ℕ → Option (List ℕ)) → List ℕ → ℕ → InfsError → Type 0
RefusedAs contents name number (infs.Refused n error) = (n ≡ number) × (bytes : List ℕ) × (contents name ≡ Some bytes) × (inf bytes ≡ Err error)
RefusedAs contents name number error = Unit {0}

-- the INF of a name was put to those that were read
pub record HasKept (contents : List ℕ → Option (List ℕ)) (name : List ℕ) (old new : Infs) : Type 0 where
  pub read : Inf
  pub digest : List ℕ
  pub is : IsInf contents name read digest
  pub infs_are : new.read.items ≡ old.read.items ++ read ∷ []
  pub digests_are : new.digests.items ≡ old.digests.items ++ digest ∷ []

-- the INF of this number, counted from 1, is refused, and those before it are not
pub record IsRefused (contents : List ℕ → Option (List ℕ)) (names : List (List ℕ)) (number : ℕ) (error : InfError) : Type 0 where
  pub before : List (List ℕ)
  pub name : List ℕ
  pub behind : List (List ℕ)
  pub named : names ≡ before ++ name ∷ behind
  pub numbered : number ≡ length before + 1
  pub reads : List Inf
  pub digests : List (List ℕ)
  pub are : AreInfs contents before reads digests
  pub bytes : List ℕ
  pub there : contents name ≡ Some bytes
  pub refused : inf bytes ≡ Err error

-- why INFs were not all read, where one was refused
abbrev pub RefusedIn : (List ℕ → Option (List ℕ)) → List (List ℕ) → InfsError → Type 0
RefusedIn contents names (infs.Refused number error) = IsRefused contents names number error
RefusedIn contents names error = Unit {0}

abbrev pub status_of : Found → Status
status_of Holds = statuses.Done
status_of Broken = statuses.Broken
status_of NotAll = statuses.NotAll

-- The report on the runs of the scripts of a family, over INFs that were read.
pub record IsExploredOver (contents : Option (List ℕ → Option (List ℕ))) (digest : List ℕ) (family : Told) (e : Exploration) (infs : List Inf) (digests : List (List ℕ)) (text : List ℕ) (status : Status) : Type 0 where
  pub report : Report
  pub is : IsReport (Shows (settings_of infs e.budget)) contents family e (below_of family e) (sha256 (mark_text digest digests e)) e.share report
  pub text_is : text ≡ report.text.items
  pub status_is : status ≡ status_of report.found

-- the same over the INFs that the words name
pub record IsExplored (contents : List ℕ → Option (List ℕ)) (digest : List ℕ) (family : Told) (e : Exploration) (text : List ℕ) (status : Status) : Type 0 where
  pub infs : List Inf
  pub digests : List (List ℕ)
  pub are : AreInfs contents e.infs infs digests
  pub over : IsExploredOver (Some contents) digest family e infs digests text status

-- the line of the first INF that is refused
pub record TellsRefusal (contents : List ℕ → Option (List ℕ)) (e : Exploration) (text : List ℕ) (status : Status) : Type 0 where
  pub number : ℕ
  pub error : InfError
  pub refused : IsRefused contents e.infs number error
  pub text_is : text ≡ refusal_line number error
  pub status_is : status ≡ statuses.BadInf

-- what is written of a family, by what is asked
abbrev pub IsAnswered : (List ℕ → Option (List ℕ)) → List ℕ → Told → Task → List ℕ → Status → Type 0
IsAnswered contents digest family Count text status = (text ≡ count_line (count_of family)) × (status ≡ statuses.Done)
IsAnswered contents digest family (Script number) text status = (0 < number) × (number ≤ count_of family) × (text ≡ script_text family (number - 1)) × (status ≡ statuses.Done)
IsAnswered contents digest family (Explore e) text status = IsExplored contents digest family e text status ⊎ TellsRefusal contents e text status

-- the line that tells the first bad line of a family
pub record TellsBadLine (bytes text : List ℕ) (status : Status) : Type 0 where
  pub number : ℕ
  pub bad : outcome_of bytes ≡ bad_line number
  pub text_is : text ≡ number_line (codes "family error line ") number
  pub status_is : status ≡ statuses.BadFamily

pub record TellsFamily (contents : List ℕ → Option (List ℕ)) (bytes : List ℕ) (task : Task) (text : List ℕ) (status : Status) : Type 0 where
  pub family : Told
  pub read : IsRead family bytes
  pub answered : IsAnswered contents (sha256 bytes) family task text status

abbrev pub IsBytesOutput : (List ℕ → Option (List ℕ)) → List ℕ → Task → List ℕ → Status → Type 0
IsBytesOutput contents bytes task text status = TellsBadLine bytes text status ⊎ TellsFamily contents bytes task text status

-- What is written, and what is answered.
pub record IsOutput (contents : List ℕ → Option (List ℕ)) (words : Words) (text : List ℕ) (status : Status) : Type 0 where
  pub bytes : List ℕ
  pub there : contents words.family ≡ Some bytes
  pub is : IsBytesOutput contents bytes words.task text status

-- some text that is written
pub record SomeOutput (contents : List ℕ → Option (List ℕ)) (words : Words) (text : List ℕ) : Type 0 where
  pub status : Status
  pub is : IsOutput contents words text status

-- a front of such a text was written
pub record WroteFrontOf (contents : List ℕ → Option (List ℕ)) (words : Words) (old new : Option (List ℕ)) : Type 0 where
  pub text : List ℕ
  pub is : SomeOutput contents words text
  pub front : AppendsFront old new text

-- what some words ask was written
pub record WroteSome (contents : List ℕ → Option (List ℕ)) (status : Status) (old new : Option (List ℕ)) : Type 0 where
  pub words : Words
  pub wrote : Wrote (λ text. IsOutput contents words text status) old new

-- what is written after these statuses is told by them
abbrev pub is_told : Status → Bool
is_told statuses.Done = true
is_told statuses.BadFamily = true
is_told statuses.BadInf = true
is_told statuses.Broken = true
is_told statuses.NotAll = true
is_told status = false

-- after these nothing was written
abbrev pub is_silent : Status → Bool
is_silent statuses.BadWords = true
is_silent statuses.ReadFault = true
is_silent statuses.WantOfMemory = true
is_silent statuses.TooLarge = true
is_silent statuses.BadParts = true
is_silent status = false

-- what was found was written, or a front of it; of a reason nothing is written
abbrev pub WroteOut : Result Answer ReportError → Status → Option (List ℕ) → Option (List ℕ) → Type 0
WroteOut (Ok a) status old new = ((status ≡ a.status) × Appends old new a.text.items) ⊎ ((status ≡ statuses.WriteFault) × AppendsFront old new a.text.items)
WroteOut (Err error) status old new = (is_silent status ≡ true) × (new ≡ old)
