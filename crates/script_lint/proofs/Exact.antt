-- There is a fault exactly where the reader takes the line for a bad one.
use Rattle.std.proofs.Common.{◌≡◌, ℕ, Bool, true, false, List, [], ◌∷◌, length, Option, Some, None, Result, Ok, Err, refl, sym, ◌∙◌, ap, cond, nat_le}
use Rattle.std.specs.Option.{is_some, option_map}
use Rattle.std.specs.Result.{result_ok}
use Rattle.std.specs.Str.Lines.{strip_carriage_return}
use Rattle.pnp_labels.specs.declared.event.Event.{Event}
use Rattle.script_reader.specs.declared.cause.Cause.{Cause}
use Rattle.script_reader.specs.declared.fault.LineFault.{LineFault}
use Rattle.script_reader.specs.Faults.{Fault, fault, seen}
use Rattle.script_reader.specs.Lines.{read_line, event_of}
use Rattle.script_reader.specs.Script.{Meaning, nothing, bad, event_or_bad, is_comment, meaning_of}
use Rattle.script_reader.specs.Words.{words_of}
use Rattle.script_lint.specs.Script.{fault_in, words_fault, text_fault, line_fault, meaning, is_bad}

-- what was read is an event, or not
line_tells : (o : Result Event Fault) → is_some (fault_in o) ≡ is_bad (event_or_bad (result_ok o))
line_tells (Ok event) = refl
line_tells (Err f) = refl

words_tell : (words : List (List ℕ)) → is_some (words_fault words) ≡ is_bad (meaning_of words)
words_tell [] = refl
words_tell (word ∷ words) = by_test (is_comment word)
  where
    by_test : (b : Bool) → is_some (cond b None (fault_in (read_line (word ∷ words)))) ≡ is_bad (cond b nothing (event_or_bad (event_of (word ∷ words))))
    by_test true = refl
    by_test false = line_tells (read_line (word ∷ words))

short : (b : Bool) (f : Option Fault) (g : Fault) (m : Meaning) → is_some f ≡ is_bad m → is_some (cond b f (Some g)) ≡ is_bad (cond b m bad)
short true f g m h = h
short false f g m h = refl

pub tells : (ended : Bool) (line : List ℕ) → is_some (line_fault ended line) ≡ is_bad (meaning ended line)
tells true line =
    short (nat_le (length line) 4096) (text_fault (strip_carriage_return line)) (fault Cause.LongLine line) (meaning_of (words_of (strip_carriage_return line)))
    (words_tell (words_of (strip_carriage_return line)))
tells false line =
    short (nat_le (length line) 4096) (text_fault line) (fault Cause.LongLine line) (meaning_of (words_of line)) (words_tell (words_of line))

is_seen : (f : Option LineFault) → is_some f ≡ is_some (option_map seen f)
is_seen None = refl
is_seen (Some x) = refl

pub exact : (f : Option LineFault) (ended : Bool) (line : List ℕ) → option_map seen f ≡ line_fault ended line → is_some f ≡ is_bad (meaning ended line)
exact f ended line is = is_seen f ∙ ap is_some is ∙ tells ended line

-- A line without an event, and one with words -----------------------------------------------

said_nothing : (o : Option Event) → event_or_bad o ≡ nothing → ⊥
said_nothing None h = cc
said_nothing (Some event) h = cc

no_fault_in : (words : List (List ℕ)) → meaning_of words ≡ nothing → words_fault words ≡ None
no_fault_in [] h = refl
no_fault_in (word ∷ words) h = by_test (is_comment word) h
  where
    by_test : (b : Bool) → cond b nothing (event_or_bad (event_of (word ∷ words))) ≡ nothing → cond b None (fault_in (read_line (word ∷ words))) ≡ None
    by_test true e = refl
    by_test false e = absurd (said_nothing (event_of (word ∷ words)) e)

pub no_fault : (text : List ℕ) → meaning_of (words_of text) ≡ nothing → text_fault text ≡ None
no_fault text h = no_fault_in (words_of text) h

fault_of_all : (words : List (List ℕ)) → meaning_of words ≡ event_or_bad (event_of words) → words_fault words ≡ fault_in (read_line words)
fault_of_all [] h = absurd (said_nothing (event_of []) (sym h))
fault_of_all (word ∷ words) h = by_test (is_comment word) h
  where
    by_test : (b : Bool) → cond b nothing (event_or_bad (event_of (word ∷ words))) ≡ event_or_bad (event_of (word ∷ words))
        → cond b None (fault_in (read_line (word ∷ words))) ≡ fault_in (read_line (word ∷ words))
    by_test true e = absurd (said_nothing (event_of (word ∷ words)) (sym e))
    by_test false e = refl

pub fault_of_words : (text : List ℕ) → meaning_of (words_of text) ≡ event_or_bad (event_of (words_of text)) → text_fault text ≡ fault_in (read_line (words_of text))
fault_of_words text h = fault_of_all (words_of text) h
