-- What the words of a line say: its event, or the fault of the first word that says nothing.
use Rattle.std.specs.Prelude.{ℕ, Bool, true, false, nat_lt, ◌||◌, List, [], ◌∷◌, length, codes, take, drop, slice_index_or, Option, Some, None, Result, Ok, Err, if◌then◌else◌}
use Rattle.std.specs.Option.{ok_or, is_some}
use Rattle.std.specs.Result.{result_ok}
use Rattle.std.specs.List.{filter_map}
use Rattle.device_ids.specs.Ids.{is_path, joined}
use Rattle.resource_reqs.specs.Resources.{Res, Reqs}
use Rattle.resource_reqs.specs.declared.kind.Kind.{Kind}
use Rattle.resource_reqs.specs.declared.kind.Kind.TheVariants as kinds
use Rattle.device_ids.specs.Cuts.{cut_once}
use Rattle.pnp_labels.specs.declared.words.AskWhat.{AskWhat}
use Rattle.pnp_labels.specs.declared.words.AskWhat.TheVariants as asks
use Rattle.pnp_labels.specs.declared.words.Answer.{Answer}
use Rattle.pnp_labels.specs.declared.words.Answer.TheVariants as answers
use Rattle.pnp_labels.specs.declared.event.Event.{Event}
use Rattle.pnp_labels.specs.declared.event.Event.TheVariants as events
use Rattle.pnp_labels.specs.declared.event.Rule.{Rule}
use Rattle.pnp_labels.specs.declared.label.EventWord.{EventWord}
use Rattle.std.specs.Str.{bytes_eq}
use Rattle.script_reader.specs.Words.{is_name}
use Rattle.script_reader.specs.Tables.{keyword_of, minor_of, driver_kind_of, rel_kind_of, kind_of, answer_of, ask_of, ok_of, agrees_of}
use Rattle.script_reader.specs.Numbers.{only_if, uses_of}
use Rattle.script_reader.specs.Faults.{Fault, fault, ◌>>=◌, ok_if}
use Rattle.script_reader.specs.Wants.{range_at, all_of, list_of, id_of, ids_of, reqs_by_bytes}
use Rattle.script_reader.specs.declared.cause.Cause.{Cause}

-- fewer words than these, or more: then the first that is too many is named
abbrev pub count_fault : List ℕ → ℕ → List (List ℕ) → Fault
count_fault keyword n words = if nat_lt (length words) n then fault Cause.FewWords keyword else fault Cause.ManyWords (slice_index_or words n [])

abbrev pub path_of : List ℕ → Result (List ℕ) Fault
path_of text = ok_if (is_path text) text (fault Cause.NotPath text)

-- the path that is the one word
abbrev pub lone_path : List ℕ → List (List ℕ) → Result (List ℕ) Fault
lone_path keyword (path ∷ []) = path_of path
lone_path keyword words = Err (count_fault keyword 1 words)

abbrev pub name_of : List ℕ → Result (List ℕ) Fault
name_of text = ok_if (is_name text) text (fault Cause.NotName text)

-- what follows the name of an attribute, where the word is one
abbrev pub value_at : List ℕ → List ℕ → Option (List ℕ)
value_at name word = only_if (bytes_eq (take (length name) word) name) (drop (length name) word)

-- the values of the attributes of this name, in order
abbrev pub values : List ℕ → List (List ℕ) → List (List ℕ)
values name words = filter_map (value_at name) words

-- it says what the device requires
abbrev pub is_need : List ℕ → Bool
is_need word = is_some (value_at (codes "need=") word) || is_some (value_at (codes "reqs=") word)

abbrev pub is_attribute : List ℕ → Bool
is_attribute word = is_some (value_at (codes "hw=") word) || is_some (value_at (codes "compat=") word) || is_need word

-- that each word passes the test
abbrev pub each_is : (List ℕ → Bool) → Cause → List (List ℕ) → Result (Unit {0}) Fault
each_is test cause [] = Ok tt
each_is test cause (word ∷ words) = if test word then each_is test cause words else Err (fault cause word)

-- what the one value is, or this where there is none
abbrev pub once : {A : Type 0} → (List ℕ → Result A Fault) → A → List (List ℕ) → Result A Fault
once read otherwise [] = Ok otherwise
once read otherwise (value ∷ []) = read value
once read otherwise (value ∷ second ∷ more) = Err (fault Cause.Twice second)

-- the hardware IDs, of which the device ID is the one where none are given
abbrev pub hw_of : List ℕ → List (List ℕ) → Result (List (List ℕ)) Fault
hw_of device attributes = once ids_of (device ∷ []) (values (codes "hw=") attributes)

-- the compatible IDs
abbrev pub compat_of : List (List ℕ) → Result (List (List ℕ)) Fault
compat_of attributes = once ids_of [] (values (codes "compat=") attributes)

-- the alternative lists, 8 at most; or the bytes that stand in place of them, once
abbrev pub reqs_from : List (List ℕ) → List (List ℕ) → Result Reqs Fault
reqs_from [] needs = all_of 8 (fault Cause.ManyNeeds (slice_index_or needs 8 [])) list_of needs
reqs_from (text ∷ []) [] = reqs_by_bytes text
reqs_from (text ∷ []) (need ∷ needs) = Err (fault Cause.BesideBytes need)
reqs_from (text ∷ second ∷ more) needs = Err (fault Cause.Twice second)

abbrev pub reqs_of : List (List ℕ) → Result Reqs Fault
reqs_of attributes = reqs_from (values (codes "reqs=") attributes) (values (codes "need=") attributes)

-- a word that is no attribute comes first
abbrev pub plugged : List ℕ → List ℕ → List ℕ → List (List ℕ) → Result Event Fault
plugged parent device path attributes = do
  are ← each_is is_attribute Cause.NotAttribute attributes
  hw ← hw_of device attributes
  compat ← compat_of attributes
  reqs ← reqs_of attributes
  Ok (events.Plug parent path hw compat reqs)

-- the path of both, of which a fault names the device
abbrev pub joined_path : List ℕ → List ℕ → Result (List ℕ) Fault
joined_path device instance = ok_if (is_path (joined device instance)) (joined device instance) (fault Cause.NotJoined device)

abbrev pub plug_of : List ℕ → List (List ℕ) → Result Event Fault
plug_of keyword (parent ∷ device ∷ instance ∷ attributes) = do
  parent ← path_of parent
  device ← id_of device
  instance ← id_of instance
  path ← joined_path device instance
  plugged parent device path attributes
plug_of keyword _ = Err (fault Cause.FewWords keyword)

abbrev pub named : List ℕ → List ℕ → Result Event Fault
named name kind = do
  name ← name_of name
  kind ← ok_or (driver_kind_of kind) (fault Cause.NotDriverKind kind)
  Ok (events.Name name kind)

abbrev pub driver_of : List ℕ → List (List ℕ) → Result Event Fault
driver_of keyword (name ∷ kind ∷ []) = named name kind
driver_of keyword words = Err (count_fault keyword 2 words)

-- a star is every path
abbrev pub rule_path_of : List ℕ → Result (Option (List ℕ)) Fault
rule_path_of text =
    if bytes_eq text (codes "*") then Ok None
    else (path_of text >>= λ path. Ok (Some path))

-- only a request may be left unanswered
abbrev pub is_answerable : AskWhat → Answer → Bool
is_answerable asks.Add answers.Pend = false
is_answerable _ _ = true

abbrev pub uses_by : List (List ℕ) → Result (Option ℕ) Fault
uses_by [] = Ok None
uses_by (uses ∷ []) = do
  uses ← ok_or (uses_of uses) (fault Cause.NotUses uses)
  Ok (Some uses)
uses_by (uses ∷ second ∷ more) = Err (fault Cause.ManyWords second)

-- what is asked, for which path, what is answered, and how often
abbrev pub rule_of : List ℕ → List ℕ → List ℕ → List (List ℕ) → Result Rule Fault
rule_of ask path answer uses = do
  what ← ok_or (ask_of ask) (fault Cause.NotAsk ask)
  path ← rule_path_of path
  given ← ok_or (answer_of answer) (fault Cause.NotAnswer answer)
  given ← ok_if (is_answerable what given) given (fault Cause.AddPended answer)
  uses ← uses_by uses
  Ok (record { what = what; path = path; answer = given; uses = uses })

abbrev pub teach_of : List ℕ → List (List ℕ) → Result Event Fault
teach_of keyword (name ∷ ask ∷ path ∷ answer ∷ uses) = do
  name ← name_of name
  rule ← rule_of ask path answer uses
  Ok (events.Teach name rule)
teach_of keyword _ = Err (fault Cause.FewWords keyword)

abbrev pub related : List ℕ → List ℕ → List ℕ → Result Event Fault
related kind owner member = do
  kind ← ok_or (rel_kind_of kind) (fault Cause.NotRelation kind)
  owner ← path_of owner
  member ← path_of member
  Ok (events.Relate kind owner member)

abbrev pub relate_of : List ℕ → List (List ℕ) → Result Event Fault
relate_of keyword (kind ∷ owner ∷ member ∷ []) = related kind owner member
relate_of keyword words = Err (count_fault keyword 3 words)

-- KIND:RANGE, not shared
abbrev pub res_of : List ℕ → Result Res Fault
res_of text = do
  cut ← ok_or (cut_once 0x3A text) (fault Cause.NoKind text)
  kind ← ok_or (kind_of cut.0) (fault Cause.NotKind text)
  range ← range_at text kind cut.1
  Ok (record { kind = kind; lo = range.0; hi = range.1; shared = false })

abbrev pub reserve_of : List ℕ → List (List ℕ) → Result Event Fault
reserve_of keyword (res ∷ []) = do
  res ← res_of res
  Ok (events.Reserve res)
reserve_of keyword words = Err (count_fault keyword 1 words)

abbrev pub completed : List ℕ → List ℕ → List ℕ → Result Event Fault
completed path minor ok = do
  path ← path_of path
  minor ← ok_or (minor_of minor) (fault Cause.NotRequest minor)
  ok ← ok_or (ok_of ok) (fault Cause.NotOk ok)
  Ok (events.Complete path minor ok)

abbrev pub complete_of : List ℕ → List (List ℕ) → Result Event Fault
complete_of keyword (path ∷ minor ∷ ok ∷ []) = completed path minor ok
complete_of keyword words = Err (count_fault keyword 3 words)

-- bridges have windows of ports and of memory
abbrev pub has_windows : Kind → Bool
has_windows kinds.Port = true
has_windows kinds.Mem = true
has_windows _ = false

abbrev pub window_res_of : List ℕ → Result Res Fault
window_res_of text = do
  res ← res_of text
  ok_if (has_windows res.kind) res (fault Cause.NotWindow text)

abbrev pub windowed : List ℕ → List ℕ → Result Event Fault
windowed path res = do
  path ← path_of path
  res ← window_res_of res
  Ok (events.Window path res)

abbrev pub window_of : List ℕ → List (List ℕ) → Result Event Fault
window_of keyword (path ∷ res ∷ []) = windowed path res
window_of keyword words = Err (count_fault keyword 2 words)

-- what the device of a path requires from now on
abbrev pub change_of : List ℕ → List (List ℕ) → Result Event Fault
change_of keyword (path ∷ needs) = do
  path ← path_of path
  are ← each_is is_need Cause.NotNeed needs
  reqs ← reqs_of needs
  Ok (events.Change path reqs)
change_of keyword [] = Err (fault Cause.FewWords keyword)

abbrev pub watched : List ℕ → List ℕ → List ℕ → Result Event Fault
watched client path agrees = do
  client ← name_of client
  path ← path_of path
  agrees ← ok_or (agrees_of agrees) (fault Cause.NotAgreement agrees)
  Ok (events.Watch client path agrees)

abbrev pub watch_of : List ℕ → List (List ℕ) → Result Event Fault
watch_of keyword (client ∷ path ∷ agrees ∷ []) = watched client path agrees
watch_of keyword words = Err (count_fault keyword 3 words)

abbrev pub unwatched : List ℕ → List ℕ → Result Event Fault
unwatched client path = do
  client ← name_of client
  path ← path_of path
  Ok (events.Unwatch client path)

abbrev pub unwatch_of : List ℕ → List (List ℕ) → Result Event Fault
unwatch_of keyword (client ∷ path ∷ []) = unwatched client path
unwatch_of keyword words = Err (count_fault keyword 2 words)

-- a keyword that is followed by one path alone
abbrev pub takes_one_path : EventWord → Bool
takes_one_path EventWord.Pull = true
takes_one_path EventWord.Disable = true
takes_one_path EventWord.Enable = true
takes_one_path EventWord.Eject = true
takes_one_path EventWord.HandleOpen = true
takes_one_path EventWord.HandleClose = true
takes_one_path _ = false

-- what it says of that path
abbrev pub event_at : EventWord → List ℕ → Event
event_at EventWord.Pull path = events.Pull path
event_at EventWord.Disable path = events.Disable path
event_at EventWord.Enable path = events.Enable path
event_at EventWord.Eject path = events.Eject path
event_at EventWord.HandleOpen path = events.OpenHandle path
event_at _ path = events.CloseHandle path

-- what any other says of its words
abbrev pub read_by : EventWord → List ℕ → List (List ℕ) → Result Event Fault
read_by EventWord.Plug keyword words = plug_of keyword words
read_by EventWord.Name keyword words = driver_of keyword words
read_by EventWord.Teach keyword words = teach_of keyword words
read_by EventWord.Relate keyword words = relate_of keyword words
read_by EventWord.Reserve keyword words = reserve_of keyword words
read_by EventWord.Complete keyword words = complete_of keyword words
read_by EventWord.Window keyword words = window_of keyword words
read_by EventWord.Change keyword words = change_of keyword words
read_by EventWord.Watch keyword words = watch_of keyword words
read_by EventWord.Unwatch keyword words = unwatch_of keyword words
read_by event keyword words = do
  path ← lone_path keyword words
  Ok (event_at event path)

-- what a line says by its words, its keyword and the words after it
abbrev pub read_line : List (List ℕ) → Result Event Fault
read_line [] = Err (fault Cause.FewWords [])
read_line (keyword ∷ words) = do
  event ← ok_or (keyword_of keyword) (fault Cause.NotKeyword keyword)
  read_by event keyword words

-- the event, if it says one
abbrev pub event_of : List (List ℕ) → Option Event
event_of words = result_ok (read_line words)
