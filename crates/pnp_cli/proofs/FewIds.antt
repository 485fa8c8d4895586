-- The events of a script plug devices with at most 64 identifiers of each kind and alternatives of at most 16 groups, and name drivers by words.
use Rattle.std.proofs.Common.{ℕ, zero, suc, ◌≤◌, ◌<◌, ◌≡◌, Bool, true, get_or, List, [], ◌∷◌, length, subst, arith}
use Rattle.std.specs.List.{AllByRecursion}
use Rattle.pnp_labels.specs.declared.event.Event.{Event}
use Rattle.pnp_labels.specs.declared.event.Event.TheVariants as events
use Rattle.resource_reqs.specs.Resources.{AltList, Reqs}
use Rattle.req_bytes.proofs.Within.{AllShort}
use Rattle.script_reader.specs.Script.{Trace, gives, waits, ends, stops, trace}
use Rattle.script_reader.proofs.FewIds as read
use Rattle.pnp_laws.specs.Held.{AreWithin}
use Rattle.pnp_laws.specs.Needs.{IsEventWithin}
use Rattle.pnp_machine.specs.Machines.{HasFewIds}
use Rattle.pnp_cli.specs.Contents.{events_of}
use Rattle.pnp_cli.specs.Lawful.{events_in}

abbrev pub NamesByWord : Event → Type 0
NamesByWord event = read.NamesByWord event

few : (event : Event) → read.HasFewIds event → HasFewIds event
few (events.Plug parent path hw compat reqs) h = h
few _ h = tt

pub few_ids : (finished : Bool) (passed : ℕ) (bytes : List ℕ) (number : ℕ) (event : Event) (rest : Trace) → trace finished passed bytes ≡ gives number event rest → HasFewIds event
few_ids finished passed bytes number event rest is = few event (read.first_fine finished passed bytes number event rest is).0

-- What a device needs -------------------------------------------------------------

one_more_within : (x : AltList) (xs : Reqs) → length x ≤ 16 → AreWithin 16 xs → (list : AltList) (k : ℕ) → k < length (x ∷ xs) → get_or (x ∷ xs) k list ≡ list → length list ≤ 16
one_more_within x xs short within list zero less is = subst (λ (l : AltList). length l ≤ 16) is short
one_more_within x xs short within list (suc k) less is = within list (k, omega arith, is)

all_within : (reqs : Reqs) → AllShort reqs → AreWithin 16 reqs
all_within [] h = λ list (k, less, is). let none : k < 0 = less in absurd (omega arith)
all_within (x ∷ xs) (few, h) = λ list (k, less, is). one_more_within x xs few (all_within xs h) list k less is

within : (event : Event) → read.NeedsFew event → IsEventWithin 16 event
within (events.Plug parent path hw compat reqs) h = all_within reqs h
within (events.Change path reqs) h = all_within reqs h
within _ h = tt

-- All events of a script ----------------------------------------------------------

events_within : (t : Trace) → read.AllFine t → AllByRecursion (IsEventWithin 16) (events_in t)
events_within (gives number event rest) h = (within event h.0.2, events_within rest h.1)
events_within waits h = tt
events_within ends h = tt
events_within (stops number) h = tt

pub script_within : (script : List ℕ) → AllByRecursion (IsEventWithin 16) (events_in (events_of script))
script_within script = events_within (events_of script) (read.all_fine true 0 script)

named_by_words : (t : Trace) → read.AllFine t → AllByRecursion NamesByWord (events_in t)
named_by_words (gives number event rest) h = (h.0.1, named_by_words rest h.1)
named_by_words waits h = tt
named_by_words ends h = tt
named_by_words (stops number) h = tt

pub names_by_words : (script : List ℕ) → AllByRecursion NamesByWord (events_in (events_of script))
names_by_words script = named_by_words (events_of script) (read.all_fine true 0 script)
