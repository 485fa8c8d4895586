-- What the answers to a poll and to a probe come to.
use Rattle.std.proofs.Common.{arith, ℕ, ◌≡◌, ◌<◌, ◌≤◌, ◌++◌, Bool, true, false, List, [], ◌∷◌, Option, Some, None, length, map, refl, sym, ap, ◌∙◌, subst, inr}
use Rattle.std.specs.Prelude.{◌&&◌, IsErr, IsErrAnd, Result, Ok, Err, codes, if◌then◌else◌, is_some}
use Rattle.std.specs.Str.{bytes_eq}
use Rattle.device_ids.specs.Ids.{is_path}
use Rattle.live_io.specs.Turns.{Past}
use Rattle.pnp_labels.specs.Texts.{Text}
use Rattle.pnp_labels.specs.declared.event.Event.{Event}
use Rattle.pnp_labels.specs.declared.states.DevState.{DevState}
use Rattle.pnp_labels.specs.declared.words.Minor.{Minor}
use Rattle.script_reader.specs.Tables.{minor_of, ok_of}
use Rattle.live_model.specs.Answers as answers
use Rattle.live_model.specs.Answers.{Completion, Reply, are_tags, completes, completion_by, polled_in, polled_words, reply_in}
use Rattle.live_model.specs.Fronts.{IsFront}
use Rattle.live_model.specs.Notes.{broke_lines, done_line, probe_lines}
use Rattle.live_model.specs.Outputs.{Told, is_polled}
use Rattle.live_model.specs.Trails.{Trail}
use Rattle.live_run.specs.Polls.{HasPolled, TakesPolled}
use Rattle.live_run.specs.Probes.{HasProbed, TakesProbed}
use Rattle.live_run.specs.Talks.{HearsLine, told_by}
use Rattle.live_run.specs.declared.poll.Polled.{Polled}
use Rattle.live_run.specs.declared.stop.DriveError.{DriveError}
use Rattle.live_run.specs.declared.stop.Stop.{Stop}
use Rattle.live_run.proofs.Talking.{asks_stay, still_told, told_noted}

-- What the words of an answer to a poll tell ------------------------------------------------------

no_ending : (b : Bool) (m : Option Minor) (path : Text) (tags : List Text) (t : Trail) → is_polled t (if b then completion_by path tags m None else None) ≡ false
no_ending true None path tags t = refl
no_ending true (Some minor) path tags t = refl
no_ending false m path tags t = refl

-- where the words do not say how it ends
pub not_ended : (t : Trail) (word path request how : Text) (tags : List Text) → ok_of how ≡ None → is_polled t (polled_words (Some (word ∷ path ∷ request ∷ how ∷ tags))) ≡ false
not_ended t word path request how tags none =
    let told = bytes_eq word (codes "complete") && are_tags tags && is_path path in
    subst (λ (k : Option Bool). is_polled t (if told then completion_by path tags (minor_of request) k else None) ≡ false) (sym none) (no_ending told (minor_of request) path tags t)

-- neither one word nor four: no answer
pub few_words : {A : Type 0} (f : A → Text) (word : Text) (more : List A) (t : Trail) → 0 < length more → length more < 3 → is_polled t (polled_words (Some (word ∷ map f more))) ≡ false
few_words f word [] t some few = absurd (omega arith)
few_words f word (a ∷ []) t some few = refl
few_words f word (a ∷ b ∷ []) t some few = refl
few_words f word (a ∷ b ∷ c ∷ more) t some few = absurd (omega arith)

pub none_completes : {A : Type 0} (f : A → Text) (word : Text) (more : List A) → length more ≤ 0 → bytes_eq word (codes "none") ≡ true → polled_words (Some (word ∷ map f more)) ≡ Some answers.nothing
none_completes f word [] none is = ap (λ (b : Bool). if b then Some answers.nothing else None) is
none_completes f word (a ∷ more) none is = absurd (omega arith)

pub other_word : {A : Type 0} (f : A → Text) (word : Text) (more : List A) (t : Trail) → length more ≤ 0 → bytes_eq word (codes "none") ≡ false → is_polled t (polled_words (Some (word ∷ map f more))) ≡ false
other_word f word [] t none other = ap (λ (b : Bool). is_polled t (if b then Some answers.nothing else None)) other
other_word f word (a ∷ more) t none other = absurd (omega arith)

-- What a poll comes to -------------------------------------------------------------------------------

pub poll_fails : (r : Result (Option Event) Stop) (e : DriveError) (t : Trail) (old new : Told) (past : Option Past) (taken : Option Text) → IsErr r × IsErrAnd r (λ f. f ≡ Stop.Fault e) → IsFront old past taken → HasPolled r t old new past taken
poll_fails (Ok x) e t old new past taken h begun = absurd h.1
poll_fails (Err f) e t old new past taken h begun = subst (λ (s : Stop). HasPolled (Err s) t old new past taken) (sym h.1) begun

pub completed : (event : Event) (t : Trail) (old : Told) (asks asks' : ℕ) (said said' line : Text) (past : Option Past) (taken answers : Option Text)
    → HearsLine old (told_by asks said past taken answers) line past taken → TakesPolled (Polled.Completes event) (polled_in asks line) asks t said said' → asks' ≡ asks
    → HasPolled (Ok (Some event)) t old (told_by asks' said' past taken answers) past taken
completed event t old asks asks' said said' line past taken answers heard (c, is, done) same = (
  record {
    line = line;
    rest = answers;
    c = c;
    at = done.at;
    comes = heard.comes;
    is = subst (λ (n : ℕ). polled_in n line ≡ Some (completes c)) (asks_stay old asks said line past taken answers heard) is;
    waits = done.waits;
    happens = done.happens;
    talk = told_noted (λ n. done_line n done.at.driver ++ broke_lines n done.at.driver c.tags) old asks asks' said said' line past taken answers heard same done.said;
  },
  heard.front,
)

pub probe_fails : (r : Result (Unit {0}) Stop) (e : DriveError) (driver : Text) (state : DevState) (old new : Told) (past : Option Past) (taken : Option Text) → IsErr r × IsErrAnd r (λ f. f ≡ Stop.Fault e) → IsFront old past taken → HasProbed r driver state old new past taken
probe_fails (Ok x) e driver state old new past taken h begun = absurd h.1
probe_fails (Err f) e driver state old new past taken h begun = subst (λ (s : Stop). HasProbed (Err s) driver state old new past taken) (sym h.1) begun

was_probed_by : (o : Option Reply) (driver : Text) (state : DevState) (old : Told) (asks asks' : ℕ) (said said' line : Text) (past : Option Past) (taken answers : Option Text)
    → reply_in asks true line ≡ o → HearsLine old (told_by asks said past taken answers) line past taken → TakesProbed true o asks driver state said said' → asks' ≡ asks
    → HasProbed (Ok tt) driver state old (told_by asks' said' past taken answers) past taken
was_probed_by None driver state old asks asks' said said' line past taken answers is heard noted same = absurd noted
was_probed_by (Some reply) driver state old asks asks' said said' line past taken answers is heard noted same = record {
  line = line;
  rest = answers;
  reply = reply;
  comes = heard.comes;
  is = subst (λ (n : ℕ). reply_in n true line ≡ Some reply) (asks_stay old asks said line past taken answers heard) is;
  talk = told_noted (λ n. probe_lines n driver state reply.answer reply.tags) old asks asks' said said' line past taken answers heard same noted;
}

pub was_probed : (driver : Text) (state : DevState) (old : Told) (asks asks' : ℕ) (said said' line : Text) (past : Option Past) (taken answers : Option Text)
    → HearsLine old (told_by asks said past taken answers) line past taken → TakesProbed true (reply_in asks true line) asks driver state said said' → asks' ≡ asks
    → HasProbed (Ok tt) driver state old (told_by asks' said' past taken answers) past taken
was_probed driver state old asks asks' said said' line past taken answers heard noted same =
    was_probed_by (reply_in asks true line) driver state old asks asks' said said' line past taken answers refl heard noted same

not_probed_by : (o : Option Reply) (driver : Text) (state : DevState) (old : Told) (asks asks' : ℕ) (said said' line : Text) (past : Option Past) (taken answers : Option Text)
    → reply_in asks true line ≡ o → HearsLine old (told_by asks said past taken answers) line past taken → TakesProbed false o asks driver state said said' → asks' ≡ asks
    → HasProbed (Err Stop.Bad) driver state old (told_by asks' said' past taken answers) past taken
not_probed_by (Some reply) driver state old asks asks' said said' line past taken answers is heard noted same = absurd noted
not_probed_by None driver state old asks asks' said said' line past taken answers is heard kept same =
    inr (record {
      line = line;
      comes = heard.comes;
      other = ap is_some (subst (λ (n : ℕ). reply_in n true line ≡ None) (asks_stay old asks said line past taken answers heard) is);
      talk = still_told asks asks' said said' past taken answers same kept ∙ heard.talk;
    })

pub not_probed : (driver : Text) (state : DevState) (old : Told) (asks asks' : ℕ) (said said' line : Text) (past : Option Past) (taken answers : Option Text)
    → HearsLine old (told_by asks said past taken answers) line past taken → TakesProbed false (reply_in asks true line) asks driver state said said' → asks' ≡ asks
    → HasProbed (Err Stop.Bad) driver state old (told_by asks' said' past taken answers) past taken
not_probed driver state old asks asks' said said' line past taken answers heard noted same =
    not_probed_by (reply_in asks true line) driver state old asks asks' said said' line past taken answers refl heard noted same
