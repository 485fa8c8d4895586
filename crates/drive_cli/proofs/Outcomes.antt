-- What a status says, from what the calls say that led to it.
use Rattle.std.proofs.Common.{ℕ, suc, ◌+◌, ◌<◌, ◌≡◌, ◌⊎◌, inl, inr, ◌≤◌, get_or, length, List, [], ◌∷◌, ◌++◌, map, take, Option, Some, None, Result, Ok, Err, IfOk, OnErr, refl, sym, ap, ◌∙◌, subst, Vec, Global, arith, Bool, false, option_map}
use Rattle.std.proofs.Math.Seq.{take-suc}
use Rattle.std.specs.Prelude.{OnOk, is_err}
use Rattle.inf_reader.specs.Meaning.{inf}
use Rattle.inf_reader.specs.declared.parts.Inf.{Inf}
use Rattle.live_io.specs.Turns.{Past}
use Rattle.pnp_io.specs.Outside.{Holds, Rose}
use Rattle.pnp_labels.specs.Texts.{Text}
use Rattle.pnp_model.specs.Records.{Settings}
use Rattle.script_reader.specs.Script.{Trace}
use Rattle.free_run.specs.FreeRuns.{Free, settings}
use Rattle.live_model.specs.Fronts.{GreetsFront, HasBegun, HasLived}
use Rattle.live_model.specs.Lives.{Lives}
use Rattle.live_model.specs.Outputs.{Acts, Greets, Stand, Told, beginning, untalked}
use Rattle.live_run.specs.Runs.{how}
use Rattle.live_run.specs.declared.stop.DriveError.{DriveError}
use Rattle.live_run.specs.declared.stop.Ended.{Ended}
use Rattle.drive_cli.specs.Files.{AreRead, HoldAll, texts}
use Rattle.drive_cli.specs.Runs.{Answered, FaultSays, HasClient, IsNamed, Outcome, Runs, ended_status, error_status, run_status}
use Rattle.drive_cli.specs.declared.fault.DriveFault.{DriveFault}
use Rattle.drive_cli.specs.declared.status.Status.{Status}

pub runs_of : (r : Result Ended DriveError) (lives : Lives) (told : Settings) (first : Stand) (past : Option Past) (taken : Option Text)
    → IfOk r (λ ended. HasLived lives told first (how ended) past taken) → OnErr r (HasBegun lives told (Acts first) past taken) → Runs (run_status r) lives told first past taken
runs_of (Ok Ended.Done) lives told first past taken h g = h
runs_of (Ok Ended.BadLine) lives told first past taken h g = h
runs_of (Ok Ended.AnswersEnd) lives told first past taken h g = h
runs_of (Ok Ended.AnswersBad) lives told first past taken h g = h
runs_of (Err DriveError.ReadFault) lives told first past taken h g = g
runs_of (Err DriveError.WriteFault) lives told first past taken h g = g
runs_of (Err DriveError.WantOfMemory) lives told first past taken h g = g
runs_of (Err DriveError.TooLarge) lives told first past taken h g = g

pub of_fault : (contents : Option (Text → Option Text)) (script : Text) (infs : List Text) (lives : Lives) (budget : ℕ) (t : Told) (fault : DriveFault) (status : Status) (past : Option Past) (taken : Option Text)
    → FaultSays fault status t.past t.taken past taken → (fault ≡ DriveFault.Client → HasClient contents script) → (fault ≡ DriveFault.BadWords → ⊥)
    → Outcome contents script infs lives budget t past taken status
of_fault contents script infs lives budget t DriveFault.BadWords status past taken says client bad = absurd (bad refl)
of_fault contents script infs lives budget t DriveFault.ReadFault status past taken (is, same, too) client bad =
    subst (λ (s : Status). Outcome contents script infs lives budget t past taken s) (sym is) (Outcome.unread Status.ReadFault tt same too)
of_fault contents script infs lives budget t DriveFault.WantOfMemory status past taken (is, same, too) client bad =
    subst (λ (s : Status). Outcome contents script infs lives budget t past taken s) (sym is) (Outcome.unread Status.WantOfMemory tt same too)
of_fault contents script infs lives budget t DriveFault.TooLarge status past taken (is, same, too) client bad =
    subst (λ (s : Status). Outcome contents script infs lives budget t past taken s) (sym is) (Outcome.unread Status.TooLarge tt same too)
of_fault contents script infs lives budget t DriveFault.Client status past taken (is, same, too) client bad =
    subst (λ (s : Status). Outcome contents script infs lives budget t past taken s) (sym is) (Outcome.has_clients (client refl) same too)
of_fault contents script infs lives budget t (DriveFault.Refused number error) status past taken (line, inl (is, said, appends)) client bad =
    subst (λ (s : Status). Outcome contents script infs lives budget t past taken s) (sym is) (Outcome.refused line said appends)
of_fault contents script infs lives budget t (DriveFault.Refused number error) status past taken (line, inr (unsaid, said, appends)) client bad = Outcome.unsaid status unsaid line said appends

-- INFs that are read one after another

map_on : {A B : Type 0} (f : A → B) (xs : List A) (y : A) → map f (xs ++ y ∷ []) ≡ map f xs ++ f y ∷ []
map_on f [] y = refl
map_on f (x ∷ xs) y = ap (λ t. f x ∷ t) (map_on f xs y)

held_more : (contents : Option (Text → Option Text)) (names all : List Text) (name bytes : Text) → HoldAll contents names all → Holds contents name bytes
    → HoldAll contents (names ++ name ∷ []) (all ++ bytes ∷ [])
held_more None names all name bytes hold here = tt
held_more (Some told) names all name bytes hold here =
    map_on told names name ∙ ap (λ (t : List (Option Text)). t ++ told name ∷ []) hold ∙ ap (λ (o : Option Text). map (λ b. Some b) all ++ o ∷ []) here
    ∙ sym (map_on (λ (b : Text). Some b) all bytes)

pub are_more : (contents : Option (Text → Option Text)) (names : List Text) (infs : List Inf) (name bytes : Text) (i : Inf) → AreRead contents names infs → Holds contents name bytes → inf bytes ≡ Ok i
    → AreRead contents (names ++ name ∷ []) (infs ++ i ∷ [])
are_more contents names infs name bytes i h here is = record {
  all = h.all ++ bytes ∷ [];
  hold = held_more contents names h.all name bytes h.hold here;
  read = map_on (λ b. inf b) h.all bytes ∙ ap (λ t. t ++ inf bytes ∷ []) h.read ∙ ap (λ r. map (λ x. Ok x) infs ++ r ∷ []) is ∙ sym (map_on (λ x. Ok x) infs i);
}

pub texts_more : (names : List (Vec ℕ Global)) (name : Vec ℕ Global) → texts (names ++ name ∷ []) ≡ texts names ++ name.items ∷ []
texts_more names name = map_on (λ (v : Vec ℕ Global). v.items) names name

-- the names up to the next one
pub names_next : (names : List (Vec ℕ Global)) (at : ℕ) (name : Vec ℕ Global) → name ≡ get_or names at name → at < length names
    → texts (take at names) ++ name.items ∷ [] ≡ texts (take (at + 1) names)
names_next names at name is inside =
    ap (λ (v : Vec ℕ Global). texts (take at names) ++ v.items ∷ []) is ∙ sym (texts_more (take at names) (get_or names at name)) ∙ ap texts (sym (take-suc names at name inside))
    ∙ ap (λ (k : ℕ). texts (take k names)) (suc_is at)
  where
    suc_is : (k : ℕ) → suc k ≡ k + 1
    suc_is k = omega arith

pub one_more : {A : Type 0} (xs : List A) (x : A) → length (xs ++ x ∷ []) ≡ length xs + 1
one_more [] x = refl
one_more (y ∷ xs) x = let rest = one_more xs x in omega (arith, rest)

pub no_less : (a b c : ℕ) → a ≤ b → b ≤ c → a ≤ c
no_less a b c low high = omega (arith, low, high)

-- the machine ran, within a budget that is the one of the words
pub ran_of : (contents : Option (Text → Option Text)) (script : Text) (infs : List Text) (lives : Lives) (own budget : ℕ) (t : Told) (machine : Free) (rest : Trace) (status : Status) (past : Option Past) (taken : Option Text)
    → IsNamed contents script infs own machine rest → own ≡ budget → Runs status lives (settings machine) (beginning machine.state t rest) past taken
    → Outcome contents script infs lives budget t past taken status
ran_of contents script infs lives own budget t machine rest status past taken named is runs =
    Outcome.ran status machine rest (subst (λ (b : ℕ). IsNamed contents script infs b machine rest) is named) runs

-- what was opened has not failed
pub on_ok : {A E P : Type 0} (r : Result A E) (b : Bool) → OnOk r P → b ≡ is_err r → b ≡ false → P
on_ok (Ok x) b h is not = h
on_ok (Err e) b h is not = absurd (let bad = sym is ∙ not in cc)

-- before the answers were opened, and behind it
pub first_told : (past past' : Option Past) (taken taken' held answers : Option Text) → past' ≡ past → taken' ≡ taken → answers ≡ held → untalked past' taken' answers ≡ untalked past taken held
first_told past past' taken taken' held answers a b c = ap (λ (p : Option Past). untalked p taken' answers) a ∙ ap (λ (k : Option Text). untalked past k answers) b ∙ ap (untalked past taken) c

-- what is answered behind the opening of the answers

pub began_of : (contents : Option (Text → Option Text)) (script : Text) (infs : List Text) (lives : Lives) (budget : ℕ) (first t0 t : Told) (o : Option Ended) (past : Option Past) (taken : Option Text) (status : Status)
    → t0 ≡ first → Greets t0 (option_map how o) t → o ≡ None → Outcome contents script infs lives budget t past taken status → Answered contents script infs lives budget first past taken status
began_of contents script infs lives budget first t0 t o past taken status is greets none outcome =
    Answered.began status t (subst (λ (x : Told). Greets x None t) is (subst (λ (k : Option Ended). Greets t0 (option_map how k) t) none greets)) outcome

pub badly_of : (contents : Option (Text → Option Text)) (script : Text) (infs : List Text) (lives : Lives) (budget : ℕ) (first t0 : Told) (o : Option Ended) (ended : Ended) (past : Option Past) (taken answers : Option Text)
    (status : Status) → t0 ≡ first → Greets t0 (option_map how o) (untalked past taken answers) → o ≡ Some ended → status ≡ ended_status ended → Answered contents script infs lives budget first past taken status
badly_of contents script infs lives budget first t0 o ended past taken answers status is greets some same =
    subst (λ (s : Status). Answered contents script infs lives budget first past taken s) (sym same)
    (Answered.greeted_badly ended answers
    (subst (λ (x : Told). Greets x (Some (how ended)) (untalked past taken answers)) is (subst (λ (k : Option Ended). Greets t0 (option_map how k) (untalked past taken answers)) some greets)))

pub failed_of : (contents : Option (Text → Option Text)) (script : Text) (infs : List Text) (lives : Lives) (budget : ℕ) (first t0 : Told) (error : DriveError) (past : Option Past) (taken : Option Text) (status : Status)
    → t0 ≡ first → GreetsFront t0 past taken → status ≡ error_status error → Answered contents script infs lives budget first past taken status
failed_of contents script infs lives budget first t0 error past taken status is front same =
    subst (λ (s : Status). Answered contents script infs lives budget first past taken s) (sym same)
    (Answered.greeting_failed error (subst (λ (x : Told). GreetsFront x past taken) is front))
