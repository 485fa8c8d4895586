-- Tables of words, and what each word means.
use Rattle.std.specs.Prelude.{ℕ, Bool, true, false, List, [], ◌∷◌, codes, Option, Some, None, if◌then◌else◌}
use Rattle.std.specs.Option.{option_map}
use Rattle.std.specs.Str.{bytes_eq}
use Rattle.pnp_labels.specs.declared.words.Minor.{Minor}
use Rattle.pnp_labels.specs.declared.words.DriverKind.{DriverKind}
use Rattle.pnp_labels.specs.declared.words.RelKind.{RelKind}
use Rattle.pnp_labels.specs.declared.words.Answer.{Answer}
use Rattle.pnp_labels.specs.declared.words.AskWhat.{AskWhat}
use Rattle.pnp_labels.specs.declared.label.EventWord.{EventWord}
use Rattle.resource_reqs.specs.declared.kind.Kind.{Kind}

-- what stands beside the word in the first row that has it
abbrev pub among : {A : Type 0} → List (List ℕ × A) → List ℕ → Option A
among [] word = None
among (row ∷ rows) word = if bytes_eq row.0 word then Some row.1 else among rows word

-- the first word of a line
abbrev pub keyword_of : List ℕ → Option EventWord
keyword_of word = among (
    (codes "plug", EventWord.Plug) ∷
    (codes "pull", EventWord.Pull) ∷
    (codes "driver", EventWord.Name) ∷
    (codes "teach", EventWord.Teach) ∷
    (codes "disable", EventWord.Disable) ∷
    (codes "enable", EventWord.Enable) ∷
    (codes "eject", EventWord.Eject) ∷
    (codes "relate", EventWord.Relate) ∷
    (codes "reserve", EventWord.Reserve) ∷
    (codes "complete", EventWord.Complete) ∷
    (codes "open", EventWord.HandleOpen) ∷
    (codes "close", EventWord.HandleClose) ∷
    (codes "window", EventWord.Window) ∷
    (codes "change", EventWord.Change) ∷
    (codes "watch", EventWord.Watch) ∷
    (codes "unwatch", EventWord.Unwatch) ∷ []) word

abbrev pub driver_kind_of : List ℕ → Option DriverKind
driver_kind_of word = among (
    (codes "scripted", DriverKind.Scripted) ∷
    (codes "steady", DriverKind.Steady) ∷
    (codes "stubborn", DriverKind.Stubborn) ∷ []) word

abbrev pub rel_kind_of : List ℕ → Option RelKind
rel_kind_of word = among (
    (codes "removal", RelKind.Removal) ∷
    (codes "ejection", RelKind.Ejection) ∷ []) word

abbrev pub kind_of : List ℕ → Option Kind
kind_of word = among (
    (codes "port", Kind.Port) ∷
    (codes "irq", Kind.Irq) ∷
    (codes "mem", Kind.Mem) ∷
    (codes "dma", Kind.Dma) ∷
    (codes "bus", Kind.Bus) ∷ []) word

abbrev pub answer_of : List ℕ → Option Answer
answer_of word = among (
    (codes "ok", Answer.Ok) ∷
    (codes "fail", Answer.Fail) ∷
    (codes "pend", Answer.Pend) ∷ []) word

-- whether a client agrees that a device is removed
abbrev pub agrees_of : List ℕ → Option Bool
agrees_of word = among (
    (codes "ok", true) ∷
    (codes "refuse", false) ∷ []) word

-- how a request is completed
abbrev pub ok_of : List ℕ → Option Bool
ok_of word = among (
    (codes "ok", true) ∷
    (codes "fail", false) ∷ []) word

-- the names of the requests
abbrev pub minor_of : List ℕ → Option Minor
minor_of word = among (
    (codes "START_DEVICE", Minor.Start) ∷
    (codes "QUERY_REMOVE_DEVICE", Minor.QueryRemove) ∷
    (codes "REMOVE_DEVICE", Minor.Remove) ∷
    (codes "CANCEL_REMOVE_DEVICE", Minor.CancelRemove) ∷
    (codes "STOP_DEVICE", Minor.Stop) ∷
    (codes "QUERY_STOP_DEVICE", Minor.QueryStop) ∷
    (codes "CANCEL_STOP_DEVICE", Minor.CancelStop) ∷
    (codes "SURPRISE_REMOVAL", Minor.SurpriseRemoval) ∷ []) word

-- add, or a request
abbrev pub ask_of : List ℕ → Option AskWhat
ask_of word = if bytes_eq word (codes "add") then Some AskWhat.Add else option_map (λ minor. AskWhat.Irp minor) (minor_of word)
