-- A script that is read piece by piece, and what its run comes to.
use Rattle.std.proofs.Common.{Result, Ok, Err, IfOk, ◌≡◌, ℕ, ◌+◌, ◌-◌, ◌≤◌, ◌<◌, Bool, true, false, List, [], ◌∷◌, ◌++◌, Option, Some, None, IfSome, length, take, drop, refl, sym, ◌∙◌, ap, subst, append_assoc, append-nil, arith, nat_le, length-append}
use Rattle.std.proofs.lemmas.List.{take_all, length-take-le}
use Rattle.std.proofs.Math.Seq.{take-append_seam, take-append-add, drop-append_seam, take-add}
use Rattle.std.proofs.lemmas.Bool.Decides.{nat_tests}
use Rattle.std.proofs.Math.Nat.{min-le_left, min-le_right, le-min}
use Rattle.std.specs.Prelude.{min}
use Rattle.pnp_io.specs.Outside.{Appends, AppendsFront, Reads, ReadsTold}
use Rattle.pnp_io.proofs.Tellings.{Begins, BeginsTold, begins_nothing, begins_more_told, ends_told}
use Rattle.pnp_labels.specs.Texts.{Text}
use Rattle.pnp_labels.specs.declared.label.Label.{Label}
use Rattle.pnp_model.specs.Records.{Settings}
use Rattle.script_reader.specs.Reading.{Reading}
use Rattle.script_reader.specs.Script.{Trace, trace, waits, ends, stops, MayFollow, IsStuck}
use Rattle.notify_front.specs.Desks.{Desk, front_of, told_of}
use Rattle.notify_front.specs.Fronts.{Front}
use Rattle.pnp_cli.specs.Outputs.{Plays, text_of, bad_text}
use Rattle.pnp_cli.specs.Infs.{limit}
use Rattle.pnp_cli.specs.Contents.{events_of, decided_of, answer_of, script_status, TookFront}
use Rattle.pnp_cli.specs.Turns.{Told, Awaits, Leads, Goes, Stands, Taken, TakenFront, TakenBad, bad_of, fed_with, shut}
use Rattle.pnp_cli.specs.Pieces.{Ran, line_of_bad, answer_by}
use Rattle.pnp_cli.specs.declared.status.Status.{Status}
use Rattle.pnp_cli.specs.declared.tally.Tally.{Tally}
use Rattle.pnp_cli.specs.declared.turn.Ending.{Ending}
use Rattle.pnp_cli.specs.declared.turn.Ending.TheVariants.{NeedsMore, Over, Bad}
use Rattle.pnp_cli.proofs.Going.{goes_none, goes_both}
use Rattle.pnp_cli.proofs.Settling.{labels_nil}
use Rattle.pnp_cli.proofs.Telling.{told_none, told_both, all_told, labels_told, text_append}
use Rattle.pnp_cli.proofs.Fronts.{front_after}

-- What was read so far ------------------------------------------------------------------

-- These bytes were read, all but the rest of them was run, and the labels told. Where the file is there, it begins with them.
pub record SoFar (contents : Option (List ℕ → Option (List ℕ))) (name : List ℕ) (d : Desk) (t : Option Text) (c : Tally) (at : ℕ) (d' : Desk) (r : Reading) (t' : Option Text) (c' : Tally) : Type 0 where
  pub bytes : List ℕ
  pub begins : BeginsTold contents name bytes
  pub place : at ≡ length bytes
  pub within : at ≤ 16777216
  pub labels : List Label
  pub goes : Goes false d 0 bytes labels d' r.passed r.rest
  pub told : Told t c labels t' c'
  pub idle : length bytes ≡ 0 → t' ≡ t
  pub open_ : r.finished ≡ false
  pub fed : r.fed ≡ at
  pub room : d'.manager.events + length r.rest ≤ at

pub so_far_none : (contents : Option (List ℕ → Option (List ℕ))) (name : List ℕ) (d : Desk) (t : Option Text) (c : Tally) (r : Reading) → Awaits d → d.manager.events ≡ 0
    → r ≡ record { rest = []; passed = 0; line = 0; fed = 0; stored = 0; finished = false; bad = false } → SoFar contents name d t c 0 d r t c
so_far_none contents name d t c r awaits none is =
    let P : Reading → Type 0 = λ x. SoFar contents name d t c 0 d x t c in
    subst P (sym is)
    (record {
      bytes = [];
      begins = begins_nothing contents name;
      place = refl;
      within = omega arith;
      labels = [];
      goes = goes_none false d 0 [] awaits;
      told = told_none t c;
      idle = λ h. refl;
      open_ = refl;
      fed = refl;
      room = omega (arith, none);
    })

-- a front of what a file begins with
begins_front : (file : Option (List ℕ)) (xs ys : List ℕ) → 0 < length xs → Begins file (xs ++ ys) → Begins file xs
begins_front file xs ys some h =
    record {
      front = λ whole is.
          let all : whole ≡ xs ++ (ys ++ drop (length (xs ++ ys)) whole) = h.front whole is ∙ append_assoc xs ys (drop (length (xs ++ ys)) whole) in
          all ∙ ap (λ (z : List ℕ). xs ++ z) (sym (ap (drop (length xs)) all ∙ drop-append_seam xs (ys ++ drop (length (xs ++ ys)) whole)));
      there = λ any. h.there (omega (arith, some, length-append xs ys));
    }

begins_front_told : (contents : Option (List ℕ → Option (List ℕ))) (name xs ys : List ℕ) → 0 < length xs → BeginsTold contents name (xs ++ ys) → BeginsTold contents name xs
begins_front_told None name xs ys some h = tt
begins_front_told (Some told) name xs ys some h = begins_front (told name) xs ys some h

begins_piece : (contents : Option (List ℕ → Option (List ℕ))) (name bytes : List ℕ) (at n count : ℕ) (old new : List ℕ) → at ≡ length bytes → count ≤ n → n ≤ length new → 0 < count
    → BeginsTold contents name bytes → ReadsTold contents name at n old new → BeginsTold contents name (bytes ++ take count new)
begins_piece contents name bytes at n count old new place low within some begins reads =
    let more : BeginsTold contents name (bytes ++ take n new) = begins_more_told contents name bytes at n old new place begins reads in
    let sum : n ≡ count + (n - count) = omega (arith, low) in
    let split : take n new ≡ take count new ++ take (n - count) (drop count new) = ap (λ (k : ℕ). take k new) sum ∙ take-add count (n - count) new in
    let parts : bytes ++ take n new ≡ (bytes ++ take count new) ++ take (n - count) (drop count new) =
    ap (λ (z : List ℕ). bytes ++ z) split ∙ sym (append_assoc bytes (take count new) (take (n - count) (drop count new))) in
    begins_front_told contents name (bytes ++ take count new) (take (n - count) (drop count new))
    (omega (arith, some, low, within, length-append bytes (take count new), long count new (omega (arith, low, within))))
    (subst (λ (z : List ℕ). BeginsTold contents name z) parts more)
  where
    long : (k : ℕ) (xs : List ℕ) → k ≤ length xs → length (take k xs) ≡ k
    long k xs h = length-take-le k xs h

goes_fed : (d d' : Desk) (p : ℕ) (bytes piece rest : List ℕ) (labels : List Label) → Goes false d 0 bytes labels d' p rest → Goes false d 0 (bytes ++ piece) labels d' p (rest ++ piece)
goes_fed d d' p bytes piece rest labels h =
    record {
      leads = λ later more may.
          let P : List ℕ → List ℕ → Type 0 = λ x y. Leads (told_of d) (front_of d) (trace later 0 x) labels (front_of d') (trace later p y) in
          subst (λ (x : List ℕ). P x ((rest ++ piece) ++ more)) (sym (append_assoc bytes piece more))
          (subst (λ (y : List ℕ). P (bytes ++ (piece ++ more)) y) (sym (append_assoc rest piece more))
          (h.leads later (piece ++ more) (λ shut_. absurd (false_true shut_))));
      same = h.same;
      awaits = h.awaits;
    }
  where
    false_true : false ≡ true → ⊥
    false_true e = let h : false ≡ true = e in cc

-- a piece more was fed
pub so_far_fed : (contents : Option (List ℕ → Option (List ℕ))) (name : List ℕ) (d d' : Desk) (t t' : Option Text) (c c' : Tally) (at n count : ℕ) (r r' : Reading) (old new piece : List ℕ)
    → SoFar contents name d t c at d' r t' c' → ReadsTold contents name at n old new → piece ≡ take count new → count ≤ n → n ≤ length new → 0 < count → at + count ≤ 16777216
    → r' ≡ record r { rest = r.rest ++ piece; fed = r.fed + length piece; stored = r.stored + length piece } → SoFar contents name d t c (at + count) d' r' t' c'
so_far_fed contents name d d' t t' c c' at n count r r' old new piece so reads cut low within some small is =
    let long : length piece ≡ count = ap length cut ∙ length-take-le count new (omega (arith, low, within)) in
    let P : Reading → Type 0 = λ x. SoFar contents name d t c (at + count) d' x t' c' in
    subst P (sym is)
    (record {
      bytes = so.bytes ++ piece;
      begins = subst (λ (z : List ℕ). BeginsTold contents name (so.bytes ++ z)) (sym cut) (begins_piece contents name so.bytes at n count old new so.place low within some so.begins reads);
      place = omega (arith, so.place, long, length-append so.bytes piece);
      within = small;
      labels = so.labels;
      goes = goes_fed d d' r.passed so.bytes piece r.rest so.labels so.goes;
      told = so.told;
      idle = λ none. absurd (omega (arith, none, long, some, length-append so.bytes piece));
      open_ = so.open_;
      fed = omega (arith, so.fed, long);
      room = omega (arith, so.room, long, length-append r.rest piece);
    })

-- and its events happened
pub so_far_taken : (contents : Option (List ℕ → Option (List ℕ))) (name : List ℕ) (d d' d'' : Desk) (t t' t'' : Option Text) (c c' c'' : Tally) (at : ℕ) (r r' : Reading) (ending : Ending)
    → SoFar contents name d t c at d' r t' c' → 0 < at → Taken d' r t' [] c' ending d'' r' t'' [] c'' → SoFar contents name d t c at d'' r' t'' c''
so_far_taken contents name d d' d'' t t' t'' c c' c'' at r r' ending so some taken =
    record {
      bytes = so.bytes;
      begins = so.begins;
      place = so.place;
      within = so.within;
      labels = so.labels ++ taken.labels;
      goes = goes_both false d d' d'' 0 r.passed r'.passed so.bytes r.rest r'.rest so.labels taken.labels so.goes
          (subst (λ (f : Bool). Goes f d' r.passed r.rest taken.labels d'' r'.passed r'.rest) so.open_ taken.goes);
      told = told_both t t' t'' c c' c'' so.labels taken.labels so.told (all_told t' t'' c' c'' taken.labels taken.held);
      idle = λ none. absurd (omega (arith, none, so.place, some));
      open_ = taken.finished ∙ so.open_;
      fed = taken.fed ∙ so.fed;
      room = omega (arith, so.room, taken.room);
    }

-- What is decided --------------------------------------------------------------------------

-- what is decided of a script, by its front
decided_is : (bytes more : List ℕ) → length bytes ≤ 16777216
    → decided_of (bytes ++ more) ≡ trace (nat_le (length (bytes ++ more)) limit) 0 (bytes ++ take (limit - length bytes) more)
decided_is bytes more within =
    let e : limit ≡ length bytes + (limit - length bytes) = omega (arith, within) in
    ap (λ (z : List ℕ). trace (nat_le (length (bytes ++ more)) limit) 0 z)
    (ap (λ (k : ℕ). take k (bytes ++ more)) e ∙ take-append-add bytes more (limit - length bytes))

within_limit : (n : ℕ) → n ≤ 16777216 → nat_le n limit ≡ true
within_limit n h = grind (arith, nat_tests)

above_limit : (n : ℕ) → 16777216 < n → nat_le n limit ≡ false
above_limit n h = grind (arith, nat_tests)

-- a script that is read to its end
decided_whole : (script : List ℕ) → length script ≤ 16777216 → decided_of script ≡ trace true 0 script
decided_whole script within =
    ap (λ (b : Bool). trace b 0 (take limit script)) (within_limit (length script) within) ∙ ap (trace true 0) (take_all limit script within)

-- a script that has more bytes than may be read
decided_above : (bytes more : List ℕ) → length bytes ≡ 16777216 → 0 < length more → decided_of (bytes ++ more) ≡ trace false 0 bytes
decided_above bytes more full some =
    ap (λ (b : Bool). trace b 0 (take limit (bytes ++ more))) (above_limit (length (bytes ++ more)) (omega (arith, full, some, length-append bytes more)))
    ∙ ap (trace false 0) (ap (λ (k : ℕ). take k (bytes ++ more)) (sym full) ∙ take-append_seam bytes more)

-- how a trace ends here
abbrev end_of : Option ℕ → Trace
end_of None = ends
end_of (Some number) = stops number

plays_end : (told : Settings) (f : Front) (bad : Option ℕ) → Plays told f (end_of bad) [] f
plays_end told f None = (refl, refl)
plays_end told f (Some number) = (refl, refl)

text_end : (bad : Option ℕ) → bad_text (end_of bad) ≡ line_of_bad bad
text_end None = refl
text_end (Some number) = refl

answer_end : (bad : Option ℕ) → answer_of (end_of bad) ≡ answer_by bad
answer_end None = refl
answer_end (Some number) = refl

-- all events happened
ran_by : (bad : Option ℕ) (d d' : Desk) (file : Option (List ℕ)) (script : List ℕ) (t t' : Option Text) (c c' : Tally) (labels : List Label) (all decided rest rest' : Trace)
    → file ≡ Some script → events_of script ≡ all → decided_of script ≡ decided → rest ≡ end_of bad → rest' ≡ end_of bad
    → Leads (told_of d) (front_of d) all labels (front_of d') rest → Leads (told_of d) (front_of d) decided labels (front_of d') rest' → Told t c labels t' c' → told_of d' ≡ told_of d
    → Ran bad d file t c d' t' c'
ran_by bad d d' file script t t' c c' labels all decided rest rest' there is by ends_ ends' leads leads' told same =
    record {
      script = script;
      there = there;
      labels = labels;
      plays = subst (λ (x : Trace). Plays (told_of d) (front_of d) x labels (front_of d')) (sym is)
          (subst (λ (ls : List Label). Plays (told_of d) (front_of d) all ls (front_of d')) (labels_nil labels)
          (leads.on [] (front_of d') (subst (λ (x : Trace). Plays (told_of d) (front_of d') x [] (front_of d')) (sym ends_) (plays_end (told_of d) (front_of d') bad))));
      told = told;
      line = ap bad_text is ∙ leads.bad ∙ ap bad_text ends_ ∙ text_end bad;
      answer = ap answer_of by ∙ leads'.answer ∙ ap answer_of ends' ∙ answer_end bad;
      same = same;
    }

-- a line is bad, and the script may go on
bad_file : (number : ℕ) (d d' : Desk) (file : Option (List ℕ)) (bytes : List ℕ) (t t' : Option Text) (c c' : Tally) (labels : List Label) (passed : ℕ) (rest : List ℕ)
    → Begins file bytes → 0 < length bytes → length bytes ≤ 16777216 → Goes false d 0 bytes labels d' passed rest → Told t c labels t' c'
    → IsStuck false rest → number ≡ passed + 1 → Ran (Some number) d file t c d' t' c'
bad_file number d d' file bytes t t' c c' labels passed rest begins some within goes told stuck is =
    by_there (begins.there some)
  where
    free : (later : Bool) (more : List ℕ) → MayFollow false [] later more
    free later more = λ shut_. absurd (let e : false ≡ true = shut_ in cc)

    ends_at : (later : Bool) (more : List ℕ) → trace later passed (rest ++ more) ≡ stops number
    ends_at later more = stuck.same later more passed (free later more) ∙ ap stops (sym is)

    by_there : (whole : List ℕ) × (file ≡ Some whole) → Ran (Some number) d file t c d' t' c'
    by_there (whole, there) =
        let parts : whole ≡ bytes ++ drop (length bytes) whole = begins.front whole there in
        let more : List ℕ = drop (length bytes) whole in
        let later : Bool = nat_le (length (bytes ++ more)) limit in
        ran_by (Some number) d d' file whole t t' c c' labels
        (trace true 0 (bytes ++ more)) (trace later 0 (bytes ++ take (limit - length bytes) more)) (trace true passed (rest ++ more)) (trace later passed (rest ++ take (limit - length bytes) more))
        there (ap (trace true 0) parts) (ap decided_of parts ∙ decided_is bytes more within)
        (ends_at true more) (ends_at later (take (limit - length bytes) more))
        (goes.leads true more (free true more)) (goes.leads later (take (limit - length bytes) more) (free later (take (limit - length bytes) more))) told goes.same

-- the script was read to its end
end_file : (bad : Option ℕ) (d d' : Desk) (file : Option (List ℕ)) (bytes : List ℕ) (t t' : Option Text) (c c' : Tally) (labels : List Label) (passed : ℕ) (rest : List ℕ)
    → file ≡ Some bytes → length bytes ≤ 16777216 → Goes true d 0 bytes labels d' passed rest → Told t c labels t' c' → trace true passed (rest ++ []) ≡ end_of bad → Ran bad d file t c d' t' c'
end_file bad d d' file bytes t t' c c' labels passed rest there within goes told is =
    let leads : Leads (told_of d) (front_of d) (trace true 0 (bytes ++ [])) labels (front_of d') (trace true passed (rest ++ [])) = goes.leads true [] (λ shut_. (refl, refl)) in
    ran_by bad d d' file bytes t t' c c' labels (trace true 0 (bytes ++ [])) (trace true 0 (bytes ++ [])) (trace true passed (rest ++ [])) (trace true passed (rest ++ []))
    there (ap (trace true 0) (sym (append-nil bytes))) (decided_whole bytes within ∙ ap (trace true 0) (sym (append-nil bytes))) is is leads leads told goes.same

-- the same run, where no more comes
goes_shut : (d d' : Desk) (passed passed' : ℕ) (bytes rest : List ℕ) (labels : List Label) → Goes false d passed bytes labels d' passed' rest → Goes true d passed bytes labels d' passed' rest
goes_shut d d' passed passed' bytes rest labels h =
    record { leads = λ later more may. h.leads later more (λ shut_. (may refl)); same = h.same; awaits = h.awaits }

-- The answers of the loop ---------------------------------------------------------------------

-- where a line is bad before the end is read
pub ran_bad : (contents : Option (List ℕ → Option (List ℕ))) (name : List ℕ) (number : ℕ) (d d' : Desk) (t t' : Option Text) (c c' : Tally) (at : ℕ) (r : Reading)
    → SoFar contents name d t c at d' r t' c' → 0 < at → Stands (Bad number) r → IfSome contents (λ told. Ran (Some number) d (told name) t c d' t' c')
ran_bad None name number d d' t t' c c' at r so some stands = tt
ran_bad (Some told) name number d d' t t' c c' at r so some stands =
    bad_file number d d' (told name) so.bytes t t' c c' so.labels r.passed r.rest so.begins (omega (arith, some, so.place)) (omega (arith, so.within, so.place)) so.goes so.told
    (subst (λ (f : Bool). IsStuck f r.rest) so.open_ stands.0) stands.1

-- how the trace ends behind the last byte
end_by : (ending : Ending) (r : Reading) → Stands ending r → r.finished ≡ true → trace true r.passed (r.rest ++ []) ≡ end_of (bad_of ending)
end_by NeedsMore r stands shut_ = absurd (let e : true ≡ false = sym shut_ ∙ stands.open_ in cc)
end_by Over r stands shut_ = ap (λ (x : List ℕ). trace true r.passed (x ++ [])) stands.empty
end_by (Bad line) r stands shut_ = (subst (λ (f : Bool). IsStuck f r.rest) shut_ stands.0).same true [] r.passed (λ s. (refl, refl)) ∙ ap stops (sym stands.1)

-- where all was read
pub ran_end : (contents : Option (List ℕ → Option (List ℕ))) (name : List ℕ) (bad : Option ℕ) (d d' d'' : Desk) (t t' t'' : Option Text) (c c' c'' : Tally) (at n : ℕ) (r r'' : Reading) (old new : List ℕ)
    → SoFar contents name d t c at d' r t' c' → ReadsTold contents name at n old new → n ≡ 0 → 0 < length old → TakenBad bad d' (shut r) t' c' d'' r'' t'' c''
    → IfSome contents (λ told. Ran bad d (told name) t c d'' t'' c'')
ran_end None name bad d d' d'' t t' t'' c c' c'' at n r r'' old new so reads none some taken = tt
ran_end (Some told) name bad d d' d'' t t' t'' c c' c'' at n r r'' old new so reads none some taken =
    let events : Taken d' (shut r) t' [] c' taken.ending d'' r'' t'' [] c'' = taken.events in
    subst (λ (x : Option ℕ). Ran x d (told name) t c d'' t'' c'') (sym taken.number)
    (end_file (bad_of taken.ending) d d'' (told name) so.bytes t t'' c c'' (so.labels ++ events.labels) r''.passed r''.rest
    (ends_told (Some told) name so.bytes at n old new so.place none some so.begins reads)
    (omega (arith, so.within, so.place))
    (goes_both true d d' d'' 0 r.passed r''.passed so.bytes r.rest r''.rest so.labels events.labels (goes_shut d d' 0 r.passed so.bytes r.rest so.labels so.goes) events.goes)
    (told_both t t' t'' c c' c'' so.labels events.labels so.told (all_told t' t'' c' c'' events.labels events.held))
    (end_by taken.ending r'' events.stands events.finished))

-- where there is more than may be read
above_file : (d d' : Desk) (file : Option (List ℕ)) (bytes : List ℕ) (at n : ℕ) (labels : List Label) (passed : ℕ) (rest old new : List ℕ) → Begins file bytes → at ≡ length bytes → at ≡ 16777216
    → Goes false d 0 bytes labels d' passed rest → trace false passed rest ≡ waits → Reads file at n old new → 0 < n → script_status file ≡ Some Status.TooLarge
above_file d d' file bytes at n labels passed rest old new begins place full goes waiting reads some =
    let parts : reads.bytes ≡ bytes ++ drop (length bytes) reads.bytes = begins.front reads.bytes reads.there in
    let more : List ℕ = drop (length bytes) reads.bytes in
    let leads : Leads (told_of d) (front_of d) (trace false 0 (bytes ++ [])) labels (front_of d') (trace false passed (rest ++ [])) = goes.leads false [] (λ shut_. absurd (let e : false ≡ true = shut_ in cc)) in
    let long : 0 < length more = omega (arith, ap length parts, length-append bytes more, reads.enough, some, place) in
    ap script_status reads.there
    ∙ ap (λ (x : Trace). Some (answer_of x))
    (ap decided_of parts ∙ decided_above bytes more (sym place ∙ full) long ∙ ap (trace false 0) (sym (append-nil bytes)))
    ∙ ap Some (leads.answer ∙ ap answer_of (ap (trace false passed) (append-nil rest) ∙ waiting))

pub above_told : (contents : Option (List ℕ → Option (List ℕ))) (name : List ℕ) (d d' : Desk) (t t' : Option Text) (c c' : Tally) (at n : ℕ) (r : Reading) (old new : List ℕ)
    → SoFar contents name d t c at d' r t' c' → ((passed : ℕ) → trace false passed r.rest ≡ waits) → ReadsTold contents name at n old new → at ≡ 16777216 → 0 < n
    → IfSome contents (λ told. script_status (told name) ≡ Some Status.TooLarge)
above_told None name d d' t t' c c' at n r old new so waiting reads full some = tt
above_told (Some told) name d d' t t' c c' at n r old new so waiting reads full some =
    above_file d d' (told name) so.bytes at n so.labels r.passed r.rest old new so.begins so.place full so.goes (waiting r.passed) reads some

-- where more is needed, it waits
waits_by : (ending : Ending) (r : Reading) → Stands ending r → r.finished ≡ false → bad_of ending ≡ None → (passed : ℕ) → trace false passed r.rest ≡ waits
waits_by NeedsMore r stands open_ other passed = stands.same passed
waits_by Over r stands open_ other passed = absurd (let e : true ≡ false = sym stands.shut ∙ open_ in cc)
waits_by (Bad line) r stands open_ other passed = absurd (let e : Some line ≡ None = other in cc)

pub waits_on : (bad : Option ℕ) (d d' : Desk) (t t' : Option Text) (c c' : Tally) (r r' : Reading) → TakenBad bad d r t c d' r' t' c' → r.finished ≡ false → bad ≡ None → (passed : ℕ) → trace false passed r'.rest ≡ waits
waits_on bad d d' t t' c c' r r' taken open_ none passed = waits_by taken.ending r' taken.events.stands (taken.events.finished ∙ open_) (sym taken.number ∙ none) passed

stuck_by : (ending : Ending) (r : Reading) (number : ℕ) → Stands ending r → bad_of ending ≡ Some number → Stands (Bad number) r
stuck_by NeedsMore r number stands is = absurd (let e : None ≡ Some number = is in cc)
stuck_by Over r number stands is = absurd (let e : None ≡ Some number = is in cc)
stuck_by (Bad line) r number stands is = let e : line ≡ number = (let h : Some line ≡ Some number = is in cc) in subst (λ (x : ℕ). Stands (Bad x) r) e stands

-- Fronts ----------------------------------------------------------------------------------------

-- of the run of what a file begins with
front_file : (d d' : Desk) (file : Option (List ℕ)) (bytes : List ℕ) (t t' : Option Text) (labels : List Label) (passed : ℕ) (rest : List ℕ) → Begins file bytes → (length bytes ≡ 0 → t' ≡ t)
    → Goes false d 0 bytes labels d' passed rest → Appends t t' (text_of labels) → TookFront (told_of d) (front_of d) file t t'
front_file d d' None bytes t t' labels passed rest begins idle goes took = by_length bytes refl
  where
    by_length : (xs : List ℕ) → xs ≡ bytes → t' ≡ t
    by_length [] e = idle (ap length (sym e))
    by_length (x ∷ xs) e = absurd (let there = begins.there (subst (λ (z : List ℕ). 0 < length z) e (omega arith)) in let h : None ≡ Some there.0 = there.1 in cc)
front_file d d' (Some script) bytes t t' labels passed rest begins idle goes took = λ all last plays.
    let parts : script ≡ bytes ++ drop (length bytes) script = begins.front script refl in
    let leads : Leads (told_of d) (front_of d) (trace true 0 (bytes ++ drop (length bytes) script)) labels (front_of d') (trace true passed (rest ++ drop (length bytes) script)) =
    goes.leads true (drop (length bytes) script) (λ shut_. absurd (let e : false ≡ true = shut_ in cc)) in
    let b = leads.back all last (subst (λ (x : List ℕ). Plays (told_of d) (front_of d) (trace true 0 x) all last) parts plays) in
    labels_told t t' all labels b.0 b.1 took

pub so_far_front : (contents : Option (List ℕ → Option (List ℕ))) (name : List ℕ) (d d' : Desk) (t t' : Option Text) (c c' : Tally) (at : ℕ) (r : Reading)
    → SoFar contents name d t c at d' r t' c' → IfSome contents (λ told. TookFront (told_of d) (front_of d) (told name) t t')
so_far_front None name d d' t t' c c' at r so = tt
so_far_front (Some told) name d d' t t' c c' at r so = front_file d d' (told name) so.bytes t t' so.labels r.passed r.rest so.begins so.idle so.goes so.told.took

-- lines that were written whole, and a front of those that follow
lines_front : (t t' t'' : Option Text) (all done more : List Label) → all ≡ done ++ more → Appends t t' (text_of done) → AppendsFront t' t'' (text_of more) → AppendsFront t t'' (text_of all)
lines_front t t' t'' all done more is took front =
    subst (λ (x : List ℕ). AppendsFront t t'' x) (sym (ap text_of is ∙ text_append done more)) (front_after t t' t'' (text_of done) (text_of more) took front)

-- the same, where more of what the file begins with was run, and the script may go on
more_file : (d d' : Desk) (file : Option (List ℕ)) (bytes : List ℕ) (t t' t'' : Option Text) (labels : List Label) (r : Reading) → Begins file bytes → 0 < length bytes
    → Goes false d 0 bytes labels d' r.passed r.rest → r.finished ≡ false → Appends t t' (text_of labels) → TakenFront d' r [] t' t'' → TookFront (told_of d) (front_of d) file t t''
more_file d d' None bytes t t' t'' labels r begins some goes open_ took front = absurd (let there = begins.there some in let h : None ≡ Some there.0 = there.1 in cc)
more_file d d' (Some script) bytes t t' t'' labels r begins some goes open_ took front = λ all last plays.
    let more : List ℕ = drop (length bytes) script in
    let parts : script ≡ bytes ++ more = begins.front script refl in
    let leads : Leads (told_of d) (front_of d) (trace true 0 (bytes ++ more)) labels (front_of d') (trace true r.passed (r.rest ++ more)) = goes.leads true more (λ shut_. absurd (let e : false ≡ true = shut_ in cc)) in
    let b = leads.back all last (subst (λ (x : List ℕ). Plays (told_of d) (front_of d) (trace true 0 x) all last) parts plays) in
    lines_front t t' t'' all labels b.0 b.1 took
    (front true more b.0 last (λ shut_. absurd (let e : true ≡ false = sym shut_ ∙ open_ in cc))
    (subst (λ (x : Settings). Plays x (front_of d') (trace true r.passed (r.rest ++ more)) b.0 last) (sym goes.same) b.2))

pub so_far_front_more : (contents : Option (List ℕ → Option (List ℕ))) (name : List ℕ) (d d' : Desk) (t t' t'' : Option Text) (c c' : Tally) (at : ℕ) (r : Reading)
    → SoFar contents name d t c at d' r t' c' → 0 < at → TakenFront d' r [] t' t'' → IfSome contents (λ told. TookFront (told_of d) (front_of d) (told name) t t'')
so_far_front_more None name d d' t t' t'' c c' at r so some front = tt
so_far_front_more (Some told) name d d' t t' t'' c c' at r so some front =
    more_file d d' (told name) so.bytes t t' t'' so.labels r so.begins (omega (arith, some, so.place)) so.goes so.open_ so.told.took front

-- and where no more comes
last_file : (d d' : Desk) (file : Option (List ℕ)) (bytes : List ℕ) (t t' t'' : Option Text) (labels : List Label) (r : Reading) → file ≡ Some bytes
    → Goes false d 0 bytes labels d' r.passed r.rest → Appends t t' (text_of labels) → TakenFront d' (shut r) [] t' t'' → TookFront (told_of d) (front_of d) file t t''
last_file d d' file bytes t t' t'' labels r there goes took front =
    subst (λ (x : Option (List ℕ)). TookFront (told_of d) (front_of d) x t t'') (sym there)
    (λ all last plays.
    let leads : Leads (told_of d) (front_of d) (trace true 0 (bytes ++ [])) labels (front_of d') (trace true r.passed (r.rest ++ [])) = goes.leads true [] (λ shut_. absurd (let e : false ≡ true = shut_ in cc)) in
    let b = leads.back all last (subst (λ (x : List ℕ). Plays (told_of d) (front_of d) (trace true 0 x) all last) (sym (append-nil bytes)) plays) in
    lines_front t t' t'' all labels b.0 b.1 took
    (front true [] b.0 last (λ shut_. (refl, refl)) (subst (λ (x : Settings). Plays x (front_of d') (trace true r.passed (r.rest ++ [])) b.0 last) (sym goes.same) b.2)))

pub so_far_front_last : (contents : Option (List ℕ → Option (List ℕ))) (name : List ℕ) (d d' : Desk) (t t' t'' : Option Text) (c c' : Tally) (at n : ℕ) (r : Reading) (old new : List ℕ)
    → SoFar contents name d t c at d' r t' c' → ReadsTold contents name at n old new → n ≡ 0 → 0 < length old → TakenFront d' (shut r) [] t' t''
    → IfSome contents (λ told. TookFront (told_of d) (front_of d) (told name) t t'')
so_far_front_last None name d d' t t' t'' c c' at n r old new so reads none some front = tt
so_far_front_last (Some told) name d d' t t' t'' c c' at n r old new so reads none some front =
    last_file d d' (told name) so.bytes t t' t'' so.labels r (ends_told (Some told) name so.bytes at n old new so.place none some so.begins reads) so.goes so.told.took front

-- A turn of the loop --------------------------------------------------------------------------------

-- so many bytes of what was read are fed
pub record Fed (at n count : ℕ) (new piece : List ℕ) : Type 0 where
  pub cut : piece ≡ take count new
  pub low : count ≤ n
  pub inside : n ≤ length new
  pub some : 0 < count
  pub small : at + count ≤ 16777216

fed_now : (contents : Option (List ℕ → Option (List ℕ))) (name : List ℕ) (d d' : Desk) (t t' : Option Text) (c c' : Tally) (at n count : ℕ) (r : Reading) (old new piece : List ℕ)
    → SoFar contents name d t c at d' r t' c' → ReadsTold contents name at n old new → Fed at n count new piece → SoFar contents name d t c (at + count) d' (fed_with piece r) t' c'
fed_now contents name d d' t t' c c' at n count r old new piece so reads fed =
    so_far_fed contents name d d' t t' c c' at n count r (fed_with piece r) old new piece so reads fed.cut fed.low fed.inside fed.some fed.small refl

pub turn_on : (contents : Option (List ℕ → Option (List ℕ))) (name : List ℕ) (bad : Option ℕ) (d d' d'' : Desk) (t t' t'' : Option Text) (c c' c'' : Tally) (at n count : ℕ) (r r'' : Reading) (old new piece : List ℕ)
    → SoFar contents name d t c at d' r t' c' → ReadsTold contents name at n old new → Fed at n count new piece → TakenBad bad d' (fed_with piece r) t' c' d'' r'' t'' c''
    → SoFar contents name d t c (at + count) d'' r'' t'' c''
turn_on contents name bad d d' d'' t t' t'' c c' c'' at n count r r'' old new piece so reads fed taken =
    so_far_taken contents name d d' d'' t t' t'' c c' c'' (at + count) (fed_with piece r) r'' taken.ending (fed_now contents name d d' t t' c c' at n count r old new piece so reads fed) (omega (arith, fed.some)) taken.events

pub turn_bad : (contents : Option (List ℕ → Option (List ℕ))) (name : List ℕ) (bad : Option ℕ) (number : ℕ) (d d' d'' : Desk) (t t' t'' : Option Text) (c c' c'' : Tally) (at n count : ℕ) (r r'' : Reading) (old new piece : List ℕ)
    → SoFar contents name d t c at d' r t' c' → ReadsTold contents name at n old new → Fed at n count new piece → TakenBad bad d' (fed_with piece r) t' c' d'' r'' t'' c'' → bad ≡ Some number
    → IfSome contents (λ told. Ran (Some number) d (told name) t c d'' t'' c'')
turn_bad contents name bad number d d' d'' t t' t'' c c' c'' at n count r r'' old new piece so reads fed taken is =
    ran_bad contents name number d d'' t t'' c c'' (at + count) r''
    (turn_on contents name bad d d' d'' t t' t'' c c' c'' at n count r r'' old new piece so reads fed taken) (omega (arith, fed.some))
    (stuck_by taken.ending r'' number taken.events.stands (sym taken.number ∙ is))

pub turn_front : (contents : Option (List ℕ → Option (List ℕ))) (name : List ℕ) (d d' : Desk) (t t' t'' : Option Text) (c c' : Tally) (at n count : ℕ) (r : Reading) (old new piece : List ℕ)
    → SoFar contents name d t c at d' r t' c' → ReadsTold contents name at n old new → Fed at n count new piece → TakenFront d' (fed_with piece r) [] t' t''
    → IfSome contents (λ told. TookFront (told_of d) (front_of d) (told name) t t'')
turn_front contents name d d' t t' t'' c c' at n count r old new piece so reads fed front =
    so_far_front_more contents name d d' t t' t'' c c' (at + count) (fed_with piece r) (fed_now contents name d d' t t' c c' at n count r old new piece so reads fed) (omega (arith, fed.some)) front

pub if_ok : {T E : Type 0} (r : Result T E) (P Q : T → Type 0) → ((x : T) → P x → Q x) → IfOk r P → IfOk r Q
if_ok (Ok x) P Q h p = h x p
if_ok (Err e) P Q h p = tt

pub fed_by : (at n count : ℕ) (new : List ℕ) → count ≡ min n (16777216 - at) → n ≤ length new → (n ≡ 0 → ⊥) → (at ≡ 16777216 → ⊥) → at ≤ 16777216 → Fed at n count new (take count new)
fed_by at n count new is inside some full within =
    let left : count ≤ n = omega (arith, is, min-le_left n (16777216 - at)) in
    let right : count ≤ 16777216 - at = omega (arith, is, min-le_right n (16777216 - at)) in
    let one : 1 ≤ n = omega (arith, some) in
    let room : 1 ≤ 16777216 - at = omega (arith, full, within) in
    record {
      cut = refl;
      low = left;
      inside = inside;
      some = omega (arith, is, le-min {k = 1} {a = n} {b = 16777216 - at} one room);
      small = omega (arith, right, within);
    }
