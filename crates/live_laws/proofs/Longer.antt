-- What more answers change: nothing up to where the answers ended.
use Rattle.std.proofs.Common.{ℕ, ◌+◌, ◌<◌, ◌≤◌, ◌≡◌, ◌⊎◌, inl, inr, Bool, true, false, ◌++◌, Option, Some, None, option_map, length, take, drop, refl, sym, ap, ◌∙◌, subst, arith, if◌then◌else◌}
use Rattle.std.specs.Prelude.{nat_le, nat_lt}
use Rattle.std.proofs.lemmas.List.{drop-append-le, length-append, take-append-le}
use Rattle.live_io.specs.Turns.{Hears, HearsOf, feed_at, heard_by}
use Rattle.live_io.specs.declared.peer.Heard.TheVariants.{Line, LongLine, Over}
use Rattle.pnp_labels.specs.Texts.{Text}
use Rattle.pnp_labels.specs.declared.label.Label.{Label}
use Rattle.pnp_model.specs.Records.{Settings}
use Rattle.script_reader.specs.Script.{Trace}
use Rattle.free_model.specs.Frees.{free_opening}
use Rattle.live_model.specs.Lives.{Lives}
use Rattle.live_model.specs.Outputs.{Acts, AnswersBad, AnswersEnd, Ask, Asks, AsksPoll, AsksProbe, AsksStep, BadLine, Done, Ended, Goes, IsOver, Leads, LiveOutput, Place, Probes, Rests, Stand, Told, behind_line, end_line, is_answer, lived, saying, stand_of, unheard, with_more}
use Rattle.live_model.specs.Outputs as live
use Rattle.live_model.specs.Trails.{drivers_of}
use Rattle.live_laws.specs.Laws.{FrontsLaw, GoesOn}
use Rattle.live_laws.proofs.OneOutput.{ends_there, goes_told, leads_one, leads_through}
use Rattle.live_laws.proofs.Feeds.{above, above_too, below, below_too, feed, feed_grows, feed_is, feed_stays, is_line, is_long}
use Rattle.live_laws.proofs.Going.{goes_to, is_heard}
use Rattle.live_laws.proofs.Saying.{leads_says}

-- Lines ----------------------------------------------------------------------------------------

-- a line that is heard is heard too where more comes, and what comes behind it comes too
line_too : (text more line : Text) (rest : Option Text) → HearsOf text Line line rest → HearsOf (text ++ more) Line line (option_map (with_more more) rest)
line_too text more line rest h =
    let (short, whole) = is_line (nat_le (feed_at text) 4096) (nat_lt (feed_at text) (length text)) h.heard_is in
    let inside : feed_at text < length text = below (feed_at text) (length text) whole in
    let same : feed_at (text ++ more) ≡ feed_at text =
    feed_is (text ++ more) ∙ feed_stays text more (subst (λ (n : ℕ). n < length text) (feed_is text) inside) ∙ sym (feed_is text)
    in
    let len : length (text ++ more) ≡ length text + length more = length-append text more in
    let whole_too : nat_lt (feed_at text) (length (text ++ more)) ≡ true =
    subst (λ (n : ℕ). nat_lt (feed_at text) n ≡ true) (sym len) (below_too (feed_at text) (length text) (length more) inside)
    in
    let heard : heard_by (text ++ more) (feed_at text) ≡ Line =
    ap (λ (b : Bool). if b then (if nat_lt (feed_at text) (length (text ++ more)) then Line else Over) else LongLine) short
    ∙ ap (λ (b : Bool). if b then Line else Over) whole_too
    in
    record {
      heard_is = sym (ap (heard_by (text ++ more)) same ∙ heard);
      line_is = (
        h.line_is.0 ∙ sym (take-append-le (feed_at text) text more (omega arith)) ∙ ap (λ (n : ℕ). take n (text ++ more)) (sym same),
        ap (option_map (with_more more)) h.line_is.1
            ∙ ap (λ (t : Text). Some t) (sym (drop-append-le (feed_at text + 1) text more (omega arith)) ∙ ap (λ (n : ℕ). drop (n + 1) (text ++ more)) (sym same)),
      );
    }

long_too : (text more line : Text) (rest : Option Text) → HearsOf text LongLine line rest → HearsOf (text ++ more) LongLine line (option_map (with_more more) rest)
long_too text more line rest h =
    let long = is_long (nat_le (feed_at text) 4096) (nat_lt (feed_at text) (length text)) h.heard_is in
    let grows : feed_at text ≤ feed_at (text ++ more) =
    subst (λ (n : ℕ). n ≤ feed_at (text ++ more)) (sym (feed_is text)) (subst (λ (n : ℕ). feed text ≤ n) (sym (feed_is (text ++ more))) (feed_grows text more))
    in
    let long_still : nat_le (feed_at (text ++ more)) 4096 ≡ false = above_too (feed_at text) (feed_at (text ++ more)) 4096 (above (feed_at text) 4096 long) grows in
    record {
      heard_is = sym (ap (λ (b : Bool). if b then (if nat_lt (feed_at (text ++ more)) (length (text ++ more)) then Line else Over) else LongLine) long_still);
      line_is = tt;
    }

hears_too : (more : Text) (answers : Option Text) (line : Text) (rest : Option Text) → Hears answers Line line rest
    → Hears (option_map (with_more more) answers) Line line (option_map (with_more more) rest)
hears_too more None line rest h = tt
hears_too more (Some text) line rest h = line_too text more line rest h

hears_long_too : (more : Text) (answers : Option Text) (line : Text) (rest : Option Text) → Hears answers LongLine line rest
    → Hears (option_map (with_more more) answers) LongLine line (option_map (with_more more) rest)
hears_long_too more None line rest h = tt
hears_long_too more (Some text) line rest h = long_too text more line rest h

-- Places ---------------------------------------------------------------------------------------

-- the same, and more comes behind the answers
abbrev longer : Text → Stand → Stand
longer more s = record s { told = record s.told { answers = option_map (with_more more) s.told.answers } }

abbrev longer_at : Text → Place → Place
longer_at more (Acts s) = Acts (longer more s)
longer_at more (Asks ask s) = Asks ask (longer more s)
longer_at more (Probes path state drivers s) = Probes path state drivers (longer more s)
longer_at more (Rests s) = Rests (longer more s)
longer_at more (IsOver ended s) = IsOver ended (longer more s)

-- the answers ended
abbrev is_cut : Place → Bool
is_cut (IsOver AnswersEnd s) = true
is_cut _ = false

record CutAt (p q : Place) : Type 0 where
  ask : Ask
  s : Stand
  from : p ≡ Asks ask s
  to : q ≡ IsOver AnswersEnd (saying (end_line s.told.asks) (unheard s))

answer_same : (more : Text) (ask : Ask) (s : Stand) (line : Text) → is_answer ask (longer more s) line ≡ is_answer ask s line
answer_same more (AsksStep q) s line = refl
answer_same more (AsksProbe path state driver others) s line = refl
answer_same more AsksPoll s line = refl

-- it goes so with more answers too, or the answers end here
abbrev GoesToo : Lives → Settings → Text → Place → Place → Type 0
GoesToo lives settings more p q = (Goes lives settings (longer_at more p) (longer_at more q) × (is_cut q ≡ false)) ⊎ CutAt p q

behind_too : (more : Text) (lives : Lives) (label : Label) (s : Stand) → (longer_at more (behind_line lives label s) ≡ behind_line lives label (longer more s)) × (is_cut (behind_line lives label s) ≡ false)
behind_too more lives (Label.State path state) s = by_probed lives.probed
  where
    by_probed : (probed : Bool) → (longer_at more (if probed then Probes path state (drivers_of path s.trail) s else Acts s)
        ≡ (if probed then Probes path state (drivers_of path s.trail) (longer more s) else Acts (longer more s))) × (is_cut (if probed then Probes path state (drivers_of path s.trail) s else Acts s) ≡ false)
    by_probed true = (refl, refl)
    by_probed false = (refl, refl)
behind_too more lives _ s = (refl, refl)

goes_behind : (lives : Lives) (settings : Settings) (more : Text) (p : Place) (label : Label) (s : Stand) → Goes lives settings (longer_at more p) (behind_line lives label (longer more s))
    → GoesToo lives settings more p (behind_line lives label s)
goes_behind lives settings more p label s h =
    let (same, open_still) = behind_too more lives label s in
    inl (subst (Goes lives settings (longer_at more p)) (sym same) h, open_still)

goes_too : (lives : Lives) (settings : Settings) (more : Text) (p q : Place) → Goes lives settings p q → GoesToo lives settings more p q
goes_too lives settings more _ _ (live.steps s label new h) = goes_behind lives settings more (Acts s) label _ (Goes.steps (longer more s) label new h)
goes_too lives settings more _ _ (live.asks s q is) = inl (Goes.asks (longer more s) q is, refl)
goes_too lives settings more _ _ (live.answered s q line rest reply label new heard is h) =
    goes_behind lives settings more (Asks (AsksStep q) s) label _
    (Goes.answered (longer more s) q line (option_map (with_more more) rest) reply label new (hears_too more s.told.answers line rest heard) is h)
goes_too lives settings more _ _ (live.probes s path state driver others) = inl (Goes.probes (longer more s) path state driver others, refl)
goes_too lives settings more _ _ (live.probed s path state driver others line rest reply heard is) =
    inl (Goes.probed (longer more s) path state driver others line (option_map (with_more more) rest) reply (hears_too more s.told.answers line rest heard) is, refl)
goes_too lives settings more _ _ (live.probed_all s path state) = inl (Goes.probed_all (longer more s) path state, refl)
goes_too lives settings more _ _ (live.rests s quiet none) = inl (Goes.rests (longer more s) quiet none, refl)
goes_too lives settings more _ _ (live.polls s w others quiet some) = inl (Goes.polls (longer more s) w others quiet some, refl)
goes_too lives settings more _ _ (live.waits s line rest heard is) =
    inl (Goes.waits (longer more s) line (option_map (with_more more) rest) (hears_too more s.told.answers line rest heard) is, refl)
goes_too lives settings more _ _ (live.complete s line rest c w heard is there) =
    inl (Goes.complete (longer more s) line (option_map (with_more more) rest) c w (hears_too more s.told.answers line rest heard) is there, refl)
goes_too lives settings more _ _ (live.event s number event rest is) = inl (Goes.event (longer more s) number event rest is, refl)
goes_too lives settings more _ _ (live.done s is) = inl (Goes.done (longer more s) is, refl)
goes_too lives settings more _ _ (live.bad s number is) = inl (Goes.bad (longer more s) number is, refl)
goes_too lives settings more _ _ (live.no_line ask s line rest heard) = inr (record { ask = ask; s = s; from = refl; to = refl })
goes_too lives settings more _ _ (live.long_line ask s line rest heard) =
    inl (Goes.long_line ask (longer more s) line (option_map (with_more more) rest) (hears_long_too more s.told.answers line rest heard), refl)
goes_too lives settings more _ _ (live.no_answer ask s line rest heard missed) =
    inl (Goes.no_answer ask (longer more s) line (option_map (with_more more) rest) (hears_too more s.told.answers line rest heard) (answer_same more ask s line ∙ missed), refl)

-- it leads so with more answers too, or up to the ask at which they ended
record CutFrom (lives : Lives) (settings : Settings) (more : Text) (p q : Place) : Type 0 where
  ask : Ask
  s : Stand
  leads : Leads lives settings (longer_at more p) (Asks ask (longer more s))
  to : q ≡ IsOver AnswersEnd (saying (end_line s.told.asks) (unheard s))

abbrev LeadsToo : Lives → Settings → Text → Place → Place → Type 0
LeadsToo lives settings more p q = (Leads lives settings (longer_at more p) (longer_at more q) × (is_cut q ≡ false)) ⊎ CutFrom lives settings more p q

leads_too : (lives : Lives) (settings : Settings) (more : Text) (p q : Place) → is_heard p ≡ true → is_cut p ≡ false → Leads lives settings p q → LeadsToo lives settings more p q
leads_too lives settings more p _ told going (live.here _) = inl (Leads.here (longer_at more p), going)
leads_too lives settings more p q told going (live.goes _ m _ goes leads) =
    by_way (goes_told lives settings p m told goes) leads (goes_too lives settings more p m goes) (λ still. leads_too lives settings more m q (goes_told lives settings p m told goes) still leads)
  where
    on : (m : Place) → Goes lives settings (longer_at more p) (longer_at more m) → LeadsToo lives settings more m q → LeadsToo lives settings more p q
    on m way (inl (rest, still)) = inl (Leads.goes (longer_at more p) (longer_at more m) (longer_at more q) way rest, still)
    on m way (inr cut) =
        inr (record { ask = cut.ask; s = cut.s; leads = Leads.goes (longer_at more p) (longer_at more m) (Asks cut.ask (longer more cut.s)) way cut.leads; to = cut.to })

    by_way : {m : Place} → is_heard m ≡ true → Leads lives settings m q → GoesToo lives settings more p m → (is_cut m ≡ false → LeadsToo lives settings more m q)
        → LeadsToo lives settings more p q
    by_way {m} heard leads (inl (way, still)) next = on m way (next still)
    by_way {m} heard leads (inr cut) next = inr (record {
      ask = cut.ask;
      s = cut.s;
      leads = subst (λ (x : Place). Leads lives settings (longer_at more p) (longer_at more x)) cut.from (Leads.here (longer_at more p));
      to = ends_there lives settings m q heard (ap (goes_to lives settings) cut.to) leads ∙ cut.to;
    })

-- The law ----------------------------------------------------------------------------------------

-- two texts that begin with one
apart : (a b last rest : Text) (o : Option Text) → Some a ≡ option_map (with_more last) o → Some b ≡ option_map (with_more rest) o → (front : Text) × (a ≡ front ++ last) × (b ≡ front ++ rest)
apart a b last rest None h g = absurd (cc)
apart a b last rest (Some front) h g = (front, cc, cc)

goes_same : (x y : Ended) (a b : Text) (m n : Trace) (s : Stand) → is_cut (IsOver x s) ≡ false → y ≡ x → b ≡ a → n ≡ m → GoesOn x a m y b n
goes_same Done y a b m n s going e f g = (e, f, g)
goes_same BadLine y a b m n s going e f g = (e, f, g)
goes_same AnswersBad y a b m n s going e f g = (e, f, g)
goes_same AnswersEnd y a b m n s going e f g = absurd (cc)

pub fronts : FrontsLaw
fronts lives settings kinds script answers more a b x y m n h g = by_leads (leads_too lives settings more _ (IsOver x h.run.last) refl refl h.run.leads)
  where
    by_leads : LeadsToo lives settings more (Acts (live.beginning (free_opening kinds) (live.untold answers) script)) (IsOver x h.run.last) → GoesOn x a m y b n
    by_leads (inl (leads, going)) =
        let same : IsOver x (longer more h.run.last) ≡ IsOver y g.run.last = leads_one lives settings _ _ _ refl refl refl leads g.run.leads in
        let last : longer more h.run.last ≡ g.run.last = cc in
        let out : Some a ≡ Some b = sym h.is ∙ ap (λ (s : Stand). s.told.taken) last ∙ g.is in
        goes_same x y a b m n h.run.last going (cc) (cc) (g.script_is ∙ ap lived (sym last) ∙ sym h.script_is)
    by_leads (inr cut) =
        let (rest, said) = leads_says lives settings _ _ (leads_through lives settings _ (Asks cut.ask (longer more cut.s)) (IsOver y g.run.last) refl refl cut.leads g.run.leads) in
        let to : IsOver x h.run.last ≡ IsOver AnswersEnd (saying (end_line cut.s.told.asks) (unheard cut.s)) = cut.to in
        let last : h.run.last ≡ saying (end_line cut.s.told.asks) (unheard cut.s) = cc in
        let (front, one, other) = apart a b (end_line cut.s.told.asks) rest cut.s.told.taken (sym h.is ∙ ap (λ (s : Stand). s.told.taken) last) (sym g.is ∙ said) in
        let ended : AnswersEnd ≡ x = cc in
        subst (λ (z : Ended). GoesOn z a m y b n) ended (front, rest, cut.s.told.asks, one, other)
