-- What a check answers, by what the files hold.
use Rattle.std.specs.Prelude.{ℕ, ◌≡◌, ◌⊎◌, Bool, true, false, List, ◌∷◌, ◌++◌, Option, Some, None, Ok, replicate, map, Vec}
use Rattle.std.specs.Global.{Global}
use Rattle.inf_reader.specs.declared.parts.Inf.{Inf}
use Rattle.inf_reader.specs.Meaning.{inf}
use Rattle.pnp_io.specs.Outside.{Rose}
use Rattle.pnp_labels.specs.Texts.{Text}
use Rattle.pnp_labels.specs.declared.words.DriverKind.{DriverKind}
use Rattle.pnp_labels.specs.declared.words.DriverKind.TheVariants.{Scripted, Steady, Stubborn}
use Rattle.pnp_model.specs.Records.{Settings}
use Rattle.script_reader.specs.Script.{trace}
use Rattle.start_sequence.specs.Begins.{settings_of}
use Rattle.free_model.specs.Checks as alone
use Rattle.front_check.specs.FrontChecks.{Place, IsYes, IsNo, beginning}
use Rattle.front_check.specs.Laws.{HasNoClients}
use Rattle.front_hint.specs.Hints.{IsSeen}
use Rattle.trace_hint.specs.declared.allowed.Seen.{Seen}
use Rattle.trace_hint.specs.Hints as machine
use Rattle.trace_hint.specs.Hints.{AreRead}
use Rattle.check_cli.specs.declared.status.Status.{Status}

-- as those that pnpmgr has
abbrev pub program_kinds : List DriverKind
program_kinds = (replicate 128 Scripted ++ replicate 32 Steady) ++ replicate 16 Stubborn

abbrev pub texts : List (Vec ℕ Global) → List Text
texts lines = map (λ line. line.items) lines

-- these files hold this, one for each name
abbrev pub HoldAll : Option (List ℕ → Option (List ℕ)) → List Text → List Text → Type 0
HoldAll None names all = Unit {0}
HoldAll (Some told) names all = map (λ name. told name) names ≡ map (λ bytes. Some bytes) all

-- the count of some file rose
pub record SomeRose (old new : Text → ℕ) : Type 0 where
  pub name : Text
  pub rose : Rose (old name) (new name)

-- the answers after which all was written
abbrev pub is_written : Status → Bool
is_written Status.Done = true
is_written Status.BadInf = true
is_written Status.NotARun = true
is_written _ = false

-- the answers after which nothing was written
abbrev pub is_unwritten : Status → Bool
is_unwritten Status.BadWords = true
is_unwritten Status.ReadFault = true
is_unwritten Status.WantOfMemory = true
is_unwritten Status.TooLarge = true
is_unwritten _ = false

abbrev pub status_of : Seen → Status
status_of Seen.Yes = Status.Done
status_of (Seen.No line allowed) = Status.NotARun

-- what was seen of a trace of a script: where it has no clients as the machine's definitions say, or as those of what stands before it
abbrev pub IsLooked : Settings → List DriverKind → Text → Text → Seen → Type 0
IsLooked told kinds script text seen =
    (HasNoClients (trace true 0 script) × machine.IsSeen told (alone.beginning kinds (trace true 0 script)) text seen)
    ⊎ IsSeen told (beginning kinds (trace true 0 script)) text seen

-- the same, by what the three sorts of files hold
abbrev pub IsLookedOf : List (Vec ℕ Global) → Text → Text → ℕ → Seen → Type 0
IsLookedOf infs text script budget seen = (read : List Inf) → AreRead infs read → IsLooked (settings_of read budget) program_kinds script text seen

-- what a status says of a trace: that it is a run of what stands before the machine, or none. Without clients that is one of the machine
abbrev pub Says : Settings → Place → Text → Status → Type 0
Says told here text Status.Done = IsYes told here text
Says told here text Status.NotARun = (line : ℕ) × IsNo told here text line
Says told here text _ = Unit {0}

-- The files of these names hold a trace, a script and INFs, and this status is what the definition says of them.
abbrev pub SaysNamed : Option (List ℕ → Option (List ℕ)) → Text → Text → List Text → ℕ → Status → Type 0
SaysNamed None trace_name script_name infs budget status = Unit {0}
SaysNamed (Some told) trace_name script_name infs budget status =
    (text script : Text) (all : List Text) (read : List Inf) → told trace_name ≡ Some text → told script_name ≡ Some script → map (λ name. told name) infs ≡ map (λ bytes. Some bytes) all
    → map (λ bytes. inf bytes) all ≡ map (λ i. Ok i) read → Says (settings_of read budget) (beginning program_kinds (trace true 0 script)) text status

-- the same of a list of names
abbrev pub SaysOf : Option (List ℕ → Option (List ℕ)) → List Text → ℕ → Status → Type 0
SaysOf contents (trace_name ∷ script_name ∷ infs) budget status = SaysNamed contents trace_name script_name infs budget status
SaysOf contents _ budget status = Unit {0}
