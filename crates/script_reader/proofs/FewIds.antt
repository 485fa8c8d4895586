-- The events of a script plug devices with at most 64 identifiers of each kind and alternatives of at most 16 groups, and name drivers by words.
use Rattle.std.proofs.Common.{ℕ, ◌+◌, ◌≤◌, ◌≡◌, ◌≢◌, Bool, true, false, cond, List, [], ◌∷◌, length, Result, Ok, Err, refl, subst, ap, suc, arith, nat_le}
use Rattle.std.proofs.lemmas.Bool.Decides.{nat_tests}
use Rattle.std.specs.Prelude.{codes, slice_index_or}
use Rattle.std.specs.List.{AllByRecursion}
use Rattle.std.specs.Option.{ok_or}
use Rattle.std.specs.Result.{result_ok}
use Rattle.std.specs.Str.Lines.{strip_carriage_return}
use Rattle.device_ids.specs.Cuts.{parts}
use Rattle.pnp_labels.specs.declared.event.Event.{Event}
use Rattle.pnp_labels.specs.declared.event.Event.TheVariants as events
use Rattle.pnp_labels.specs.declared.label.EventWord.{EventWord}
use Rattle.pnp_labels.specs.declared.label.EventWord.TheVariants as keywords
use Rattle.resource_reqs.specs.Resources.{AltList, Reqs}
use Rattle.req_bytes.specs.Bytes.{reqs_in}
use Rattle.req_bytes.specs.declared.error.BytesError.{BytesError}
use Rattle.req_bytes.proofs.Within.{AllShort, ReadShort, read_short}
use Rattle.script_reader.specs.Bytes.{hex_bytes}
use Rattle.script_reader.specs.Faults.{Fault, fault, ◌>>=◌, ok_if}
use Rattle.script_reader.specs.declared.cause.Cause.{Cause}
use Rattle.script_reader.specs.Tables.{keyword_of, driver_kind_of, rel_kind_of, minor_of, ok_of, agrees_of}
use Rattle.script_reader.specs.Wants.{each_of, all_of, id_of, id_in, ids_of, group_of, list_of, said}
use Rattle.script_reader.specs.Words.{is_name, words_of}
use Rattle.script_reader.specs.Lines.{read_line, read_by, plug_of, plugged, joined_path, path_of, lone_path, name_of, once, hw_of, compat_of, reqs_of, reqs_from, values, each_is, is_attribute, is_need, rule_of, res_of, window_res_of, event_of}
use Rattle.script_reader.specs.Script.{Meaning, nothing, means, bad, event_or_bad, is_comment, meaning_of, whole_line, last_line, Trace, gives, waits, ends, stops, onward, at_end, of_lines, trace}

-- 64 identifiers of each kind at most
abbrev pub HasFewIds : Event → Type 0
HasFewIds (events.Plug parent path hw compat reqs) = (length hw ≤ 64) × (length compat ≤ 64)
HasFewIds _ = Unit {0}

-- a driver gets a name that is not empty
abbrev pub NamesByWord : Event → Type 0
NamesByWord (events.Name name kind) = name ≢ []
NamesByWord _ = Unit {0}

-- 16 groups at most in each alternative
abbrev pub NeedsFew : Event → Type 0
NeedsFew (events.Plug parent path hw compat reqs) = AllShort reqs
NeedsFew (events.Change path reqs) = AllShort reqs
NeedsFew _ = Unit {0}

abbrev pub Fine : Event → Type 0
Fine event = HasFewIds event × NamesByWord event × NeedsFew event

-- What is true of all that is read ------------------------------------------------------

abbrev Holds : {A : Type 0} → (A → Type 0) → Result A Fault → Type 0
Holds P (Err f) = Unit {0}
Holds P (Ok x) = P x

then_holds : {A B : Type 0} (P : A → Type 0) (Q : B → Type 0) (o : Result A Fault) (f : A → Result B Fault) → Holds P o → ((x : A) → P x → Holds Q (f x)) → Holds Q (o >>= f)
then_holds P Q (Err f) g h next = tt
then_holds P Q (Ok x) g h next = next x h

any : {A B : Type 0} (Q : B → Type 0) (o : Result A Fault) (f : A → Result B Fault) → ((x : A) → Holds Q (f x)) → Holds Q (o >>= f)
any Q (Err f) g next = tt
any Q (Ok x) g next = next x

each_holds : {A : Type 0} (P : A → Type 0) (read : List ℕ → Result A Fault) → ((text : List ℕ) → Holds P (read text)) → (texts : List (List ℕ)) → Holds (AllByRecursion P) (each_of read texts)
each_holds P read one [] = tt
each_holds P read one (text ∷ texts) =
    then_holds P (AllByRecursion P) (read text) (λ x. each_of read texts >>= λ xs. Ok (x ∷ xs)) (one text)
    (λ x here. then_holds (AllByRecursion P) (AllByRecursion P) (each_of read texts) (λ xs. Ok (x ∷ xs)) (each_holds P read one texts) (λ xs more. (here, more)))

as_many : {A : Type 0} (read : List ℕ → Result A Fault) (texts : List (List ℕ)) → Holds (λ xs. length xs ≡ length texts) (each_of read texts)
as_many read [] = refl
as_many read (text ∷ texts) =
    any (λ xs. length xs ≡ suc (length texts)) (read text) (λ x. each_of read texts >>= λ xs. Ok (x ∷ xs))
    (λ x. then_holds (λ xs. length xs ≡ length texts) (λ xs. length xs ≡ suc (length texts)) (each_of read texts) (λ xs. Ok (x ∷ xs)) (as_many read texts) (λ xs same. ap suc same))

no_more : {A : Type 0} (most n : ℕ) (o : Result (List A) Fault) → n ≤ most → Holds (λ xs. length xs ≡ n) o → Holds (λ xs. length xs ≤ most) o
no_more most n (Err f) few h = tt
no_more most n (Ok xs) few h = let same : length xs ≡ n = h in omega arith

at_most : {A : Type 0} (most : ℕ) (many : Fault) (read : List ℕ → Result A Fault) (texts : List (List ℕ)) → Holds (λ xs. length xs ≤ most) (all_of most many read texts)
at_most most many read texts = by_test (nat_le (length texts) most) refl
  where
    by_test : (b : Bool) → nat_le (length texts) most ≡ b → Holds (λ xs. length xs ≤ most) (cond b (each_of read texts) (Err many))
    by_test true e = no_more most (length texts) (each_of read texts) (grind (arith, nat_tests)) (as_many read texts)
    by_test false e = tt

-- Parts of lines ------------------------------------------------------------------------

few_once : (otherwise : List (List ℕ)) → length otherwise ≤ 64 → (vs : List (List ℕ)) → Holds (λ ids. length ids ≤ 64) (once ids_of otherwise vs)
few_once otherwise h [] = h
few_once otherwise h (v ∷ []) = at_most 64 (fault Cause.ManyIds v) (id_in v) (parts 0x2C v)
few_once otherwise h (v ∷ second ∷ more) = tt

lists_short : (needs : List (List ℕ)) → Holds AllShort (reqs_from [] needs)
lists_short needs = by_test (nat_le (length needs) 8)
  where
    by_test : (b : Bool) → Holds AllShort (cond b (each_of list_of needs) (Err (fault Cause.ManyNeeds (slice_index_or needs 8 []))))
    by_test true = each_holds (λ (list : AltList). length list ≤ 16) list_of (λ text. at_most 16 (fault Cause.ManyGroups text) group_of (parts 0x3B text)) needs
    by_test false = tt

said_short : (text : List ℕ) (r : Result Reqs BytesError) → ReadShort r → Holds AllShort (said text r)
said_short text (Ok reqs) h = h
said_short text (Err e) h = tt

needs_short : (texts needs : List (List ℕ)) → Holds AllShort (reqs_from texts needs)
needs_short [] needs = lists_short needs
needs_short (text ∷ []) [] = any AllShort (ok_or (hex_bytes text) (fault Cause.NotHex text)) (λ bytes. said text (reqs_in bytes)) (λ bytes. said_short text (reqs_in bytes) (read_short bytes))
needs_short (text ∷ []) (need ∷ needs) = tt
needs_short (text ∷ second ∷ more) needs = tt

word_of : (word : List ℕ) → Holds (λ name. name ≢ []) (name_of word)
word_of word = by_test (is_name word) refl
  where
    by_test : (b : Bool) → is_name word ≡ b → Holds (λ name. name ≢ []) (ok_if b word (fault Cause.NotName word))
    by_test true e = λ none. let h : is_name [] ≡ true = subst (λ (w : List ℕ). is_name w ≡ true) none e in cc
    by_test false e = tt

-- Events --------------------------------------------------------------------------------

-- of one part, of two, of three
one : {A : Type 0} (o : Result A Fault) (f : A → Event) → ((x : A) → Fine (f x)) → Holds Fine (o >>= (λ x. Ok (f x)))
one (Err e) f h = tt
one (Ok x) f h = h x

two : {A B : Type 0} (o : Result A Fault) (p : Result B Fault) (f : A → B → Event) → ((x : A) (y : B) → Fine (f x y)) → Holds Fine (o >>= (λ x. p >>= (λ y. Ok (f x y))))
two (Err e) p f h = tt
two (Ok x) p f h = one p (f x) (h x)

three : {A B C : Type 0} (o : Result A Fault) (p : Result B Fault) (q : Result C Fault) (f : A → B → C → Event) → ((x : A) (y : B) (z : C) → Fine (f x y z))
    → Holds Fine (o >>= (λ x. p >>= (λ y. q >>= (λ z. Ok (f x y z)))))
three (Err e) p q f h = tt
three (Ok x) p q f h = two p q (f x) (h x)

fine_plugged : (parent device path : List ℕ) (attributes : List (List ℕ)) → Holds Fine (plugged parent device path attributes)
fine_plugged parent device path attributes =
    any Fine (each_is is_attribute Cause.NotAttribute attributes) (λ are. hw_of device attributes >>= (λ hw. compat_of attributes >>= (λ compat. reqs_of attributes >>= (λ reqs. Ok (events.Plug parent path hw compat reqs))))) (λ are.
    then_holds (λ ids. length ids ≤ 64) Fine (hw_of device attributes) (λ hw. compat_of attributes >>= (λ compat. reqs_of attributes >>= (λ reqs. Ok (events.Plug parent path hw compat reqs))))
    (few_once (device ∷ []) (omega arith) (values (codes "hw=") attributes)) (λ hw few_hw.
    then_holds (λ ids. length ids ≤ 64) Fine (compat_of attributes) (λ compat. reqs_of attributes >>= (λ reqs. Ok (events.Plug parent path hw compat reqs)))
    (few_once [] (omega arith) (values (codes "compat=") attributes)) (λ compat few_compat.
    then_holds AllShort Fine (reqs_of attributes) (λ reqs. Ok (events.Plug parent path hw compat reqs))
    (needs_short (values (codes "reqs=") attributes) (values (codes "need=") attributes)) (λ reqs short. ((few_hw, few_compat), tt, short)))))

fine_plug : (keyword : List ℕ) (words : List (List ℕ)) → Holds Fine (plug_of keyword words)
fine_plug keyword (parent ∷ device ∷ instance ∷ attributes) =
    any Fine (path_of parent) (λ p. id_of device >>= (λ d. id_of instance >>= (λ i. joined_path d i >>= (λ path. plugged p d path attributes)))) (λ p.
    any Fine (id_of device) (λ d. id_of instance >>= (λ i. joined_path d i >>= (λ path. plugged p d path attributes))) (λ d.
    any Fine (id_of instance) (λ i. joined_path d i >>= (λ path. plugged p d path attributes)) (λ i.
    any Fine (joined_path d i) (λ path. plugged p d path attributes) (λ path. fine_plugged p d path attributes))))
fine_plug keyword [] = tt
fine_plug keyword (a ∷ []) = tt
fine_plug keyword (a ∷ b ∷ []) = tt

fine_change : (path : List ℕ) (needs : List (List ℕ)) → Holds Fine (each_is is_need Cause.NotNeed needs >>= (λ are. reqs_of needs >>= (λ reqs. Ok (events.Change path reqs))))
fine_change path needs =
    any Fine (each_is is_need Cause.NotNeed needs) (λ are. reqs_of needs >>= (λ reqs. Ok (events.Change path reqs))) (λ are.
    then_holds AllShort Fine (reqs_of needs) (λ reqs. Ok (events.Change path reqs)) (needs_short (values (codes "reqs=") needs) (values (codes "need=") needs)) (λ reqs short. (tt, tt, short)))

fine_by : (event : EventWord) (keyword : List ℕ) (words : List (List ℕ)) → Holds Fine (read_by event keyword words)
fine_by keywords.Plug keyword words = fine_plug keyword words
fine_by keywords.Pull keyword words = one (lone_path keyword words) (λ path. events.Pull path) (λ path. (tt, tt, tt))
fine_by keywords.Disable keyword words = one (lone_path keyword words) (λ path. events.Disable path) (λ path. (tt, tt, tt))
fine_by keywords.Enable keyword words = one (lone_path keyword words) (λ path. events.Enable path) (λ path. (tt, tt, tt))
fine_by keywords.Eject keyword words = one (lone_path keyword words) (λ path. events.Eject path) (λ path. (tt, tt, tt))
fine_by keywords.HandleOpen keyword words = one (lone_path keyword words) (λ path. events.OpenHandle path) (λ path. (tt, tt, tt))
fine_by keywords.HandleClose keyword words = one (lone_path keyword words) (λ path. events.CloseHandle path) (λ path. (tt, tt, tt))
fine_by keywords.Name keyword (name ∷ kind ∷ []) =
    then_holds (λ name. name ≢ []) Fine (name_of name) (λ name. ok_or (driver_kind_of kind) (fault Cause.NotDriverKind kind) >>= (λ kind. Ok (events.Name name kind))) (word_of name)
    (λ name some. one (ok_or (driver_kind_of kind) (fault Cause.NotDriverKind kind)) (λ kind. events.Name name kind) (λ kind. (tt, some, tt)))
fine_by keywords.Teach keyword (name ∷ ask ∷ path ∷ answer ∷ uses) = two (name_of name) (rule_of ask path answer uses) (λ name rule. events.Teach name rule) (λ name rule. (tt, tt, tt))
fine_by keywords.Relate keyword (kind ∷ owner ∷ member ∷ []) =
    three (ok_or (rel_kind_of kind) (fault Cause.NotRelation kind)) (path_of owner) (path_of member) (λ kind owner member. events.Relate kind owner member) (λ kind owner member. (tt, tt, tt))
fine_by keywords.Reserve keyword (res ∷ []) = one (res_of res) (λ res. events.Reserve res) (λ res. (tt, tt, tt))
fine_by keywords.Complete keyword (path ∷ minor ∷ ok ∷ []) =
    three (path_of path) (ok_or (minor_of minor) (fault Cause.NotRequest minor)) (ok_or (ok_of ok) (fault Cause.NotOk ok)) (λ path minor ok. events.Complete path minor ok) (λ path minor ok. (tt, tt, tt))
fine_by keywords.Window keyword (path ∷ res ∷ []) = two (path_of path) (window_res_of res) (λ path res. events.Window path res) (λ path res. (tt, tt, tt))
fine_by keywords.Change keyword (path ∷ needs) =
    any Fine (path_of path) (λ path. each_is is_need Cause.NotNeed needs >>= (λ are. reqs_of needs >>= (λ reqs. Ok (events.Change path reqs)))) (λ path. fine_change path needs)
fine_by keywords.Watch keyword (client ∷ path ∷ agrees ∷ []) =
    three (name_of client) (path_of path) (ok_or (agrees_of agrees) (fault Cause.NotAgreement agrees)) (λ client path agrees. events.Watch client path agrees) (λ client path agrees. (tt, tt, tt))
fine_by keywords.Unwatch keyword (client ∷ path ∷ []) = two (name_of client) (path_of path) (λ client path. events.Unwatch client path) (λ client path. (tt, tt, tt))
fine_by _ _ _ = tt

fine_line : (words : List (List ℕ)) → Holds Fine (read_line words)
fine_line [] = tt
fine_line (keyword ∷ words) = any Fine (ok_or (keyword_of keyword) (fault Cause.NotKeyword keyword)) (λ event. read_by event keyword words) (λ event. fine_by event keyword words)

-- Lines ---------------------------------------------------------------------------------

abbrev FineMeaning : Meaning → Type 0
FineMeaning nothing = Unit {0}
FineMeaning (means event) = Fine event
FineMeaning bad = Unit {0}

event_of_line : (o : Result Event Fault) → Holds Fine o → FineMeaning (event_or_bad (result_ok o))
event_of_line (Err f) h = tt
event_of_line (Ok event) h = h

fine_meaning : (words : List (List ℕ)) → FineMeaning (meaning_of words)
fine_meaning [] = tt
fine_meaning (word ∷ words) = by_test (is_comment word)
  where
    by_test : (b : Bool) → FineMeaning (cond b nothing (event_or_bad (event_of (word ∷ words))))
    by_test true = tt
    by_test false = event_of_line (read_line (word ∷ words)) (fine_line (word ∷ words))

fine_whole : (line : List ℕ) → FineMeaning (whole_line line)
fine_whole line = by_test (nat_le (length line) 4096)
  where
    by_test : (b : Bool) → FineMeaning (cond b (meaning_of (words_of (strip_carriage_return line))) bad)
    by_test true = fine_meaning (words_of (strip_carriage_return line))
    by_test false = tt

fine_last : (line : List ℕ) → FineMeaning (last_line line)
fine_last line = by_test (nat_le (length line) 4096)
  where
    by_test : (b : Bool) → FineMeaning (cond b (meaning_of (words_of line)) bad)
    by_test true = fine_meaning (words_of line)
    by_test false = tt

-- Scripts -------------------------------------------------------------------------------

-- all of its events
abbrev pub AllFine : Trace → Type 0
AllFine (gives number event rest) = Fine event × AllFine rest
AllFine waits = Unit {0}
AllFine ends = Unit {0}
AllFine (stops number) = Unit {0}

fine_onward : (number : ℕ) (m : Meaning) (rest : Trace) → FineMeaning m → AllFine rest → AllFine (onward number m rest)
fine_onward number nothing rest h more = more
fine_onward number (means event) rest h more = (h, more)
fine_onward number bad rest h more = tt

fine_end : (finished : Bool) (passed : ℕ) (rest : List ℕ) → AllFine (at_end finished passed rest)
fine_end true passed [] = tt
fine_end true passed (byte ∷ rest) = fine_onward (passed + 1) (last_line (byte ∷ rest)) ends (fine_last (byte ∷ rest)) tt
fine_end false passed rest = by_test (nat_le (length rest) 4096)
  where
    by_test : (b : Bool) → AllFine (cond b waits (stops (passed + 1)))
    by_test true = tt
    by_test false = tt

fine_lines : (finished : Bool) (passed : ℕ) (lines : List (List ℕ)) → AllFine (of_lines finished passed lines)
fine_lines finished passed [] = tt
fine_lines finished passed (rest ∷ []) = fine_end finished passed rest
fine_lines finished passed (line ∷ next ∷ lines) = fine_onward (passed + 1) (whole_line line) (of_lines finished (passed + 1) (next ∷ lines)) (fine_whole line) (fine_lines finished (passed + 1) (next ∷ lines))

pub all_fine : (finished : Bool) (passed : ℕ) (bytes : List ℕ) → AllFine (trace finished passed bytes)
all_fine finished passed bytes = fine_lines finished passed (parts 0x0A bytes)

-- the first of them
pub first_fine : (finished : Bool) (passed : ℕ) (bytes : List ℕ) (number : ℕ) (event : Event) (rest : Trace) → trace finished passed bytes ≡ gives number event rest → Fine event
first_fine finished passed bytes number event rest is = (subst AllFine is (all_fine finished passed bytes)).0
