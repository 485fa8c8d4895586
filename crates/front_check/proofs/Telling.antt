-- What a line tells by its last letter.
use Rattle.std.proofs.Common.{ℕ, ◌≡◌, Bool, true, false, [], ◌∷◌, ◌++◌, Some, None, refl, sym, ap, ◌∙◌, if◌then◌else◌, append_assoc, append-nil, ◌⊎◌, inl, inr}
use Rattle.std.specs.Prelude.{◌==◌, ◌||◌, codes}
use Rattle.pnp_labels.specs.Texts.{Text, label_line, spaced, minor_text, shown_text, ok_text}
use Rattle.pnp_labels.specs.declared.words.Answer.{Answer}
use Rattle.pnp_labels.specs.declared.words.Answer.TheVariants.{Ok, Fail, Pend}
use Rattle.pnp_labels.specs.declared.words.Minor.{Minor}
use Rattle.pnp_labels.specs.declared.label.Shown.{Shown}
use Rattle.pnp_labels.specs.declared.label.Shown.TheVariants as shows
use Rattle.pnp_labels.specs.declared.label.Label.{Label}
use Rattle.pnp_model.specs.Records.{Settings}
use Rattle.pnp_model.specs.Walks.{shown_of, shown_fail, may_fail}
use Rattle.free_model.specs.Checks.{has_feed}
use Rattle.free_model.proofs.Lines.{or_false}
use Rattle.free_model.specs.Asking.{said}
use Rattle.free_model.proofs.Ways.{KinLabel, one, asks, adds}
use Rattle.notify_front.specs.Fronts.{Front, FrontEntry, front_printed}
use Rattle.free_front.specs.FreeFronts.{FrontStepsBy, FreeFrontSteps}
use Rattle.free_front.proofs.Nexts.{kin_front}
use Rattle.trace_check.specs.Letters.{answer_by, answer_from, answer_of}
use Rattle.trace_check.specs.Turns.{NoneStands}

-- A line and what it tells ----------------------------------------------------------------

-- the last letter, or this one where there is none
abbrev last_of : ℕ → Text → ℕ
last_of letter [] = letter
last_of letter (byte ∷ bytes) = last_of byte bytes

-- an LF ends a line that has none
reads_line : (letter : ℕ) (line more : Text) → has_feed line ≡ false → answer_from letter (line ++ 10 ∷ more) ≡ Some (answer_by (last_of letter line))
reads_line letter [] more e = refl
reads_line letter (byte ∷ line) more e =
    let (own, rest) = or_false (byte == 10) (has_feed line) e in
    ap (λ (b : Bool). if b then Some (answer_by letter) else answer_from byte (line ++ 10 ∷ more)) own ∙ reads_line byte line more rest

-- where no LF is left no line stands at the front
pub none_left : (letter : ℕ) (line more : Text) → answer_from letter (line ++ 10 ∷ more) ≡ None → ⊥
none_left letter [] more e = absurd (cc)
none_left letter (byte ∷ line) more e = by_test (byte == 10) e (λ h. none_left byte line more h)
  where
    by_test : (b : Bool) → (if b then Some (answer_by letter) else answer_from byte (line ++ 10 ∷ more)) ≡ None → (answer_from byte (line ++ 10 ∷ more) ≡ None → ⊥) → ⊥
    by_test true e rest = absurd (cc)
    by_test false e rest = rest e

pub feed_append : (a b : Text) → has_feed (a ++ b) ≡ (has_feed a || has_feed b)
feed_append [] b = refl
feed_append (x ∷ a) b = ap (λ (t : Bool). x == 10 || t) (feed_append a b) ∙ or_or (x == 10) (has_feed a) (has_feed b)
  where
    or_or : (p q r : Bool) → (p || (q || r)) ≡ ((p || q) || r)
    or_or true q r = refl
    or_or false q r = refl

pub no_feed_both : (a b : Text) → has_feed a ≡ false → has_feed b ≡ false → has_feed (a ++ b) ≡ false
no_feed_both a b h g = feed_append a b ∙ ap (λ (t : Bool). t || has_feed b) h ∙ g

no_feed_left : (a b : Text) → has_feed (a ++ b) ≡ false → has_feed a ≡ false
no_feed_left a b h = (or_false (has_feed a) (has_feed b) (sym (feed_append a b) ∙ h)).0

last_append : (letter : ℕ) (a : Text) (byte : ℕ) (b : Text) → last_of letter (a ++ byte ∷ b) ≡ last_of byte b
last_append letter [] byte b = refl
last_append letter (x ∷ a) byte b = last_append x a byte b

-- a line of three words and of one that tells an answer
worded : (a b c word : Text) → spaced (a ∷ b ∷ c ∷ word ∷ []) ≡ spaced (a ∷ b ∷ c ∷ []) ++ 32 ∷ word
worded a b c word =
    ap (λ (t : Text). a ++ 32 ∷ (b ++ 32 ∷ (c ++ 32 ∷ t))) (append-nil word)
    ∙ sym (append_assoc a (32 ∷ (b ++ 32 ∷ (c ++ []))) (32 ∷ word)
    ∙ ap (λ (t : Text). a ++ 32 ∷ t) (append_assoc b (32 ∷ (c ++ [])) (32 ∷ word) ∙ ap (λ (t : Text). b ++ 32 ∷ t) (append_assoc c [] (32 ∷ word))))

shown_clear : (s : Shown) → has_feed (shown_text s) ≡ false
shown_clear shows.Ok = refl
shown_clear shows.Fail = refl
shown_clear shows.Pend = refl
shown_clear shows.Violation = refl

-- each word of an answer ends in a letter of its own
fail_tells : (may : Bool) → answer_by (last_of 32 (shown_text (shown_fail may))) ≡ Fail
fail_tells true = refl
fail_tells false = refl

shown_tells : (minor : Minor) (answer : Answer) → answer_by (last_of 32 (shown_text (shown_of minor answer))) ≡ answer
shown_tells minor Ok = refl
shown_tells minor Fail = fail_tells (may_fail minor)
shown_tells minor Pend = refl

ok_clear : (ok : Bool) → has_feed (ok_text ok) ≡ false
ok_clear true = refl
ok_clear false = refl

said_tells : (answer : Answer) → said (answer_by (last_of 32 (ok_text (said answer)))) ≡ said answer
said_tells Ok = refl
said_tells Fail = refl
said_tells Pend = refl

-- what a line of these words tells
reads_words : (a b c word more : Text) → has_feed (spaced (a ∷ b ∷ c ∷ [])) ≡ false → has_feed word ≡ false
    → answer_of (spaced (a ∷ b ∷ c ∷ word ∷ []) ++ 10 ∷ more) ≡ Some (answer_by (last_of 32 word))
reads_words a b c word more clear none =
    ap (λ (t : Text). answer_from 0 (t ++ 10 ∷ more)) (worded a b c word)
    ∙ reads_line 0 (spaced (a ∷ b ∷ c ∷ []) ++ 32 ∷ word) more (no_feed_both (spaced (a ∷ b ∷ c ∷ [])) (32 ∷ word) clear none)
    ∙ ap (λ (n : ℕ). Some (answer_by n)) (last_append 0 (spaced (a ∷ b ∷ c ∷ [])) 32 word)

same_answer : (a b : Answer) → Some a ≡ Some b → a ≡ b
same_answer a b e = cc

front_clear : (a b c word : Text) → has_feed (spaced (a ∷ b ∷ c ∷ word ∷ [])) ≡ false → has_feed (spaced (a ∷ b ∷ c ∷ [])) ≡ false
front_clear a b c word e = no_feed_left (spaced (a ∷ b ∷ c ∷ [])) (32 ∷ word) (ap has_feed (sym (worded a b c word)) ∙ e)

-- where the line of a label has no LF and is not at the front, none of a kin label is whose answer the line there tells
by_kin : (p q : Answer) (a b : Label) (rest : Text) → KinLabel p q a b → answer_of rest ≡ Some p → has_feed (label_line a) ≡ false
    → ((more : Text) → rest ≡ label_line a ++ 10 ∷ more → ⊥) → (more : Text) → rest ≡ label_line b ++ 10 ∷ more → ⊥
by_kin p q a b rest (one l) reads clear not more is = not more is
by_kin p q a b rest (asks minor path name) reads clear not more is =
    let w : Text = minor_text minor in
    let before : has_feed (spaced (w ∷ path ∷ name ∷ [])) ≡ false = front_clear w path name (shown_text (shown_of minor p)) clear in
    let tells = reads_words w path name (shown_text (shown_of minor q)) more before (shown_clear (shown_of minor q)) in
    let same : p ≡ q = same_answer p q (sym reads ∙ ap answer_of is ∙ tells ∙ ap (λ (x : Answer). Some x) (shown_tells minor q)) in
    not more (is ∙ ap (λ (x : Answer). label_line (Label.Asked minor path name (shown_of minor x)) ++ 10 ∷ more) (sym same))
by_kin p q a b rest (adds path name) reads clear not more is =
    let w : Text = codes "add" in
    let before : has_feed (spaced (w ∷ path ∷ name ∷ [])) ≡ false = front_clear w path name (ok_text (said p)) clear in
    let tells = reads_words w path name (ok_text (said q)) more before (ok_clear (said q)) in
    let told : p ≡ answer_by (last_of 32 (ok_text (said q))) = same_answer p _ (sym reads ∙ ap answer_of is ∙ tells) in
    let same : said p ≡ said q = ap said told ∙ said_tells q in
    not more (is ∙ ap (λ (x : Bool). label_line (Label.Add path name x) ++ 10 ∷ more) (sym same))

-- where no line of its ask is at the front, none of a kin label is
none_by_kin : (p q : Answer) (a b : Label) (rest : Text) → KinLabel p q a b → NoneStands a rest → ((more : Text) → rest ≡ label_line a ++ 10 ∷ more → ⊥) → (more : Text) → rest ≡ label_line b ++ 10 ∷ more → ⊥
none_by_kin p q a b rest (one l) none not more is = not more is
none_by_kin p q a b rest (asks minor path name) none not more is = none q more (is ∙ sym (append_assoc (label_line (Label.Asked minor path name (shown_of minor q))) (10 ∷ []) more))
none_by_kin p q a b rest (adds path name) none not more is = none (said q) more (is ∙ sym (append_assoc (label_line (Label.Add path name (said q))) (10 ∷ []) more))

-- where the line of the step whose answer is read is not at the front, and has no LF or no line of its ask is, no other step's is
pub no_other : (told : Settings) (f : Front) (p : Answer) (a : FrontEntry) (x : Front) (rest : Text) → answer_of rest ≡ Some p → FrontStepsBy p told f a x → (has_feed (label_line (front_printed a)) ≡ false) ⊎ NoneStands (front_printed a) rest
    → ((more : Text) → rest ≡ label_line (front_printed a) ++ 10 ∷ more → ⊥) → (b : FrontEntry) (y : Front) (more : Text) → FreeFrontSteps told f b y → rest ≡ label_line (front_printed b) ++ 10 ∷ more → ⊥
no_other told f p a x rest reads steps (inl clear) not b y more (q, other) is = by_kin p q (front_printed a) (front_printed b) rest (kin_front told f p q a b x y steps other).kin reads clear not more is
no_other told f p a x rest reads steps (inr none) not b y more (q, other) is = none_by_kin p q (front_printed a) (front_printed b) rest (kin_front told f p q a b x y steps other).kin none not more is
