-- Wants, groups, lists of groups, lists of identifiers, and the bytes of requirements.
use Rattle.std.specs.Prelude.{ℕ, Bool, true, false, nat_le, ◌==◌, List, [], ◌∷◌, length, codes, Option, Some, None, Result, Ok, Err, if◌then◌else◌}
use Rattle.std.specs.Option.{ok_or}
use Rattle.device_ids.specs.Cuts.{parts, cut_once}
use Rattle.device_ids.specs.Ids.{is_id}
use Rattle.resource_reqs.specs.Resources.{Want, Reqs, is_want}
use Rattle.req_bytes.specs.Bytes.{reqs_in}
use Rattle.req_bytes.specs.declared.error.BytesError.{BytesError}
use Rattle.resource_reqs.specs.declared.kind.Kind.{Kind}
use Rattle.resource_reqs.specs.declared.kind.Kind.TheVariants.{Port, Irq, Mem, Dma, Bus}
use Rattle.std.specs.Str.{bytes_eq}
use Rattle.script_reader.specs.Tables.{kind_of}
use Rattle.script_reader.specs.Numbers.{only_if, number_of, range_in}
use Rattle.script_reader.specs.Bytes.{hex_bytes}
use Rattle.script_reader.specs.Causes.{range_cause, tail_cause, size_cause, bytes_cause}
use Rattle.script_reader.specs.Faults.{Fault, fault, ◌>>=◌, ok_if}
use Rattle.script_reader.specs.declared.cause.Cause.{Cause}

-- a text without its tail, and the tail behind the first such byte where there is one
abbrev pub tail_by : List ℕ → Option (List ℕ × List ℕ) → List ℕ × Option (List ℕ)
tail_by text None = (text, None)
tail_by text (Some cut) = (cut.0, Some cut.1)

abbrev pub tail_at : ℕ → List ℕ → List ℕ × Option (List ℕ)
tail_at at text = tail_by text (cut_once at text)

-- the word `shared`, or no tail
abbrev pub shared_of : Option (List ℕ) → Option Bool
shared_of None = Some false
shared_of (Some text) = only_if (bytes_eq text (codes "shared")) true

-- a number, or 1 for no tail
abbrev pub number_or_one : Option (List ℕ) → Option ℕ
number_or_one None = Some 1
number_or_one (Some text) = number_of text

-- RANGE, of which a fault names the whole text
abbrev pub range_at : List ℕ → Kind → List ℕ → Result (ℕ × ℕ) Fault
range_at whole kind text = ok_or (range_in kind text) (fault (range_cause text) whole)

-- a length, or an alignment
abbrev pub size_at : List ℕ → Option (List ℕ) → Result ℕ Fault
size_at whole tail = ok_or (number_or_one tail) (fault (tail_cause tail) whole)

abbrev pub want_from : List ℕ → Kind → ℕ × ℕ → ℕ → ℕ → Bool → Result Want Fault
want_from whole kind range len align shared =
    ok_if (is_want (record { kind = kind; min = range.0; max = range.1; len = len; align = align; shared = shared }))
    (record { kind = kind; min = range.0; max = range.1; len = len; align = align; shared = shared })
    (fault (size_cause len align) whole)

-- RANGE, then /LEN, beside an alignment
abbrev pub sized_by : List ℕ → Kind → List ℕ → Option (List ℕ) → Bool → Result Want Fault
sized_by whole kind text align shared = do
  range ← range_at whole kind (tail_at 0x2F text).0
  len ← size_at whole (tail_at 0x2F text).1
  align ← size_at whole align
  want_from whole kind range len align shared

-- RANGE, then /LEN, then @ALIGN
abbrev pub sized : List ℕ → Kind → List ℕ → Bool → Result Want Fault
sized whole kind text shared = sized_by whole kind (tail_at 0x40 text).0 (tail_at 0x40 text).1 shared

-- RANGE alone
abbrev pub counted : List ℕ → Kind → List ℕ → Bool → Result Want Fault
counted whole kind text shared = do
  range ← range_at whole kind text
  want_from whole kind range 1 1 shared

abbrev pub want_by : List ℕ → Kind → List ℕ → Bool → Result Want Fault
want_by whole Port text shared = sized whole Port text shared
want_by whole Irq text shared = counted whole Irq text shared
want_by whole Mem text shared = sized whole Mem text shared
want_by whole Dma text shared = counted whole Dma text shared
want_by whole Bus text shared = sized_by whole Bus text None shared

-- KIND:RANGE, the lengths, and :shared at the end
abbrev pub want_of : List ℕ → Result Want Fault
want_of text = do
  cut ← ok_or (cut_once 0x3A text) (fault Cause.NoKind text)
  kind ← ok_or (kind_of cut.0) (fault Cause.NotKind text)
  shared ← ok_or (shared_of (tail_at 0x3A cut.1).1) (fault Cause.NotShared text)
  want_by text kind (tail_at 0x3A cut.1).0 shared

-- what each text is
abbrev pub each_of : {A : Type 0} → (List ℕ → Result A Fault) → List (List ℕ) → Result (List A) Fault
each_of read [] = Ok []
each_of read (text ∷ texts) = do
  x ← read text
  xs ← each_of read texts
  Ok (x ∷ xs)

-- the same of at most so many
abbrev pub all_of : {A : Type 0} → ℕ → Fault → (List ℕ → Result A Fault) → List (List ℕ) → Result (List A) Fault
all_of most many read texts = if nat_le (length texts) most then each_of read texts else Err many

-- 1 to 16 wants, a bar between them
abbrev pub group_of : List ℕ → Result (List Want) Fault
group_of text = all_of 16 (fault Cause.ManyWants text) want_of (parts 0x7C text)

-- 1 to 16 groups, a semicolon between them
abbrev pub list_of : List ℕ → Result (List (List Want)) Fault
list_of text = all_of 16 (fault Cause.ManyGroups text) group_of (parts 0x3B text)

abbrev pub id_of : List ℕ → Result (List ℕ) Fault
id_of text = ok_if (is_id text) text (fault Cause.NotId text)

-- of a list, one that is empty is told by the whole list
abbrev pub id_in : List ℕ → List ℕ → Result (List ℕ) Fault
id_in whole text = if length text == 0 then Err (fault Cause.EmptyId whole) else id_of text

-- 1 to 64 identifiers, a comma between them
abbrev pub ids_of : List ℕ → Result (List (List ℕ)) Fault
ids_of text = all_of 64 (fault Cause.ManyIds text) (id_in text) (parts 0x2C text)

-- what the bytes say
abbrev pub said : List ℕ → Result Reqs BytesError → Result Reqs Fault
said text (Ok reqs) = Ok reqs
said text (Err e) = Err (fault (bytes_cause e) text)

-- the requirements that the bytes of these digits say
abbrev pub reqs_by_bytes : List ℕ → Result Reqs Fault
reqs_by_bytes text = do
  bytes ← ok_or (hex_bytes text) (fault Cause.NotHex text)
  said text (reqs_in bytes)
