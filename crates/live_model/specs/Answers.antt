-- What a line of the answers says to the ask of a number: its words are separated by one blank each, and the first is the number.
use Rattle.std.specs.Prelude.{ℕ, Bool, true, false, ◌&&◌, List, [], ◌∷◌, Option, Some, None, codes, if◌then◌else◌}
use Rattle.std.specs.Fmt.{decimal}
use Rattle.std.specs.List.{list_all}
use Rattle.std.specs.Str.{bytes_eq}
use Rattle.device_ids.specs.Cuts.{parts}
use Rattle.device_ids.specs.Ids.{is_path}
use Rattle.pnp_labels.specs.Texts.{Text}
use Rattle.pnp_labels.specs.declared.words.Answer.{Answer}
use Rattle.pnp_labels.specs.declared.words.Minor.{Minor}
use Rattle.script_reader.specs.Tables.{answer_of, minor_of, ok_of}
use Rattle.script_reader.specs.Words.{is_name}

-- the first line of the answers
abbrev pub hello : Text
hello = codes "live 1"

abbrev pub behind : Text → List Text → Option (List Text)
behind number [] = None
behind number (word ∷ words) = if bytes_eq word number then Some words else None

-- the words behind the number, of a line that begins with it
abbrev pub words_in : ℕ → Text → Option (List Text)
words_in number line = behind (decimal number) (parts 32 line)

-- a tag has the form of a name
abbrev pub are_tags : List Text → Bool
are_tags words = list_all is_name words

-- what a driver answers, and the tags behind it
pub record Reply : Type 0 where
  pub answer : Answer
  pub tags : List Text

-- AddDevice is not pended
abbrev pub is_taken : Bool → Answer → Bool
is_taken may_pend Answer.Pend = may_pend
is_taken may_pend _ = true

abbrev pub reply_by : Bool → List Text → Option Answer → Option Reply
reply_by may_pend tags None = None
reply_by may_pend tags (Some answer) = if is_taken may_pend answer && are_tags tags then Some (record { answer = answer; tags = tags }) else None

abbrev pub reply_words : Bool → Option (List Text) → Option Reply
reply_words may_pend (Some (word ∷ tags)) = reply_by may_pend tags (answer_of word)
reply_words may_pend _ = None

-- N ok, N fail, N pend; and tags
abbrev pub reply_in : ℕ → Bool → Text → Option Reply
reply_in number may_pend line = reply_words may_pend (words_in number line)

-- a request that completes, and the tags behind it
pub record Completion : Type 0 where
  pub path : Text
  pub minor : Minor
  pub ok : Bool
  pub tags : List Text

-- none completes; or this one does
pub data Polled : Type 0 where
  nothing : Polled
  completes : Completion → Polled

abbrev pub completion_by : Text → List Text → Option Minor → Option Bool → Option Polled
completion_by path tags (Some minor) (Some ok) = Some (completes (record { path = path; minor = minor; ok = ok; tags = tags }))
completion_by path tags _ _ = None

abbrev pub polled_words : Option (List Text) → Option Polled
polled_words (Some (word ∷ [])) = if bytes_eq word (codes "none") then Some nothing else None
polled_words (Some (word ∷ path ∷ minor ∷ ok ∷ tags)) =
    if bytes_eq word (codes "complete") && are_tags tags && is_path path then completion_by path tags (minor_of minor) (ok_of ok) else None
polled_words _ = None

-- N none; N complete PATH REQUEST ok, N complete PATH REQUEST fail, and tags
abbrev pub polled_in : ℕ → Text → Option Polled
polled_in number line = polled_words (words_in number line)
