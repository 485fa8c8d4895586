-- What is said stays said, and no ask is taken back.
use Rattle.std.proofs.Common.{ℕ, ◌+◌, ◌≤◌, ◌≡◌, [], ◌∷◌, ◌++◌, Option, Some, None, option_map, refl, sym, ap, ◌∙◌, subst, arith}
use Rattle.std.proofs.lemmas.List.{append_assoc, append-nil}
use Rattle.pnp_labels.specs.Texts.{Text, label_line}
use Rattle.pnp_labels.specs.declared.label.Label.{Label}
use Rattle.pnp_model.specs.Books.{name_of}
use Rattle.pnp_model.specs.Events.{happens}
use Rattle.pnp_model.specs.Records.{Settings}
use Rattle.live_model.specs.Lives.{Lives}
use Rattle.live_model.specs.Notes.{broke_lines, done_line}
use Rattle.live_model.specs.Outputs.{Goes, Leads, Place, Stand, Told, bad_line, behind_line, completion, end_line, stand_of, with_more}
use Rattle.live_model.specs.Outputs as live
use Rattle.live_laws.proofs.OneOutput.{at_behind}

-- one text behind another

pub more_more : (o : Option Text) (a b : Text) → option_map (with_more b) (option_map (with_more a) o) ≡ option_map (with_more (a ++ b)) o
more_more None a b = refl
more_more (Some text) a b = ap (λ (t : Text). Some t) (append_assoc text a b)

pub no_more : (o : Option Text) → o ≡ option_map (with_more []) o
no_more None = refl
no_more (Some text) = ap (λ (t : Text). Some t) (sym (append-nil text))

-- this was said from the one place to the other
abbrev pub Says : Option Text → Option Text → Type 0
Says old new = (text : Text) × (new ≡ option_map (with_more text) old)

abbrev pub taken_at : Place → Option Text
taken_at p = (stand_of p).told.taken

says_nothing : (o : Option Text) → Says o o
says_nothing o = ([], no_more o)

says_two : (a b : Text) (o : Option Text) → Says o (option_map (with_more b) (option_map (with_more a) o))
says_two a b o = (a ++ b, more_more o a b)

pub behind_says : (lives : Lives) (label : Label) (s : Stand) (o : Option Text) → Says o s.told.taken → Says o (taken_at (behind_line lives label s))
behind_says lives label s o (text, is) = (text, ap (λ (t : Stand). t.told.taken) (at_behind lives label s) ∙ is)

goes_says : (lives : Lives) (settings : Settings) (p q : Place) → Goes lives settings p q → Says (taken_at p) (taken_at q)
goes_says lives settings _ _ (live.steps s label new h) = behind_says lives label _ s.told.taken (_, refl)
goes_says lives settings _ _ (live.asks s q is) = (_, refl)
goes_says lives settings _ _ (live.answered s q line rest reply label new heard is h) =
    behind_says lives label _ s.told.taken (says_two (broke_lines s.told.asks (name_of s.state.core.rack q.driver) reply.tags) (label_line label ++ 10 ∷ []) s.told.taken)
goes_says lives settings _ _ (live.probes s path state driver more) = (_, refl)
goes_says lives settings _ _ (live.probed s path state driver more line rest reply heard is) = (_, refl)
goes_says lives settings _ _ (live.probed_all s path state) = says_nothing s.told.taken
goes_says lives settings _ _ (live.rests s quiet none) = says_nothing s.told.taken
goes_says lives settings _ _ (live.polls s w more quiet some) = (_, refl)
goes_says lives settings _ _ (live.waits s line rest heard is) = says_nothing s.told.taken
goes_says lives settings _ _ (live.complete s line rest c w heard is there) =
    says_two (done_line s.told.asks w.driver ++ broke_lines s.told.asks w.driver c.tags) (label_line (happens s.state (completion c).event).label ++ 10 ∷ []) s.told.taken
goes_says lives settings _ _ (live.event s number event rest is) = (_, refl)
goes_says lives settings _ _ (live.done s is) = (_, refl)
goes_says lives settings _ _ (live.bad s number is) = (_, refl)
goes_says lives settings _ _ (live.no_line ask s line rest heard) = (_, refl)
goes_says lives settings _ _ (live.long_line ask s line rest heard) = (_, refl)
goes_says lives settings _ _ (live.no_answer ask s line rest heard missed) = (_, refl)

says_on : (o p q : Option Text) → Says o p → Says p q → Says o q
says_on o p q (a, is) (b, too) = (a ++ b, too ∙ ap (option_map (with_more b)) is ∙ more_more o a b)

pub leads_says : (lives : Lives) (settings : Settings) (p q : Place) → Leads lives settings p q → Says (taken_at p) (taken_at q)
leads_says lives settings p _ (live.here _) = says_nothing (taken_at p)
leads_says lives settings p q (live.goes _ m _ goes more) = says_on (taken_at p) (taken_at m) (taken_at q) (goes_says lives settings p m goes) (leads_says lives settings m q more)

-- Asks ---------------------------------------------------------------------------------------

abbrev pub asks_at : Place → ℕ
asks_at p = (stand_of p).told.asks

same_asks : (n : ℕ) → n ≤ n
same_asks n = omega arith

one_more_ask : (n : ℕ) → n ≤ n + 1
one_more_ask n = omega arith

behind_asks : (lives : Lives) (label : Label) (s : Stand) → s.told.asks ≤ asks_at (behind_line lives label s)
behind_asks lives label s = subst (λ (t : Stand). s.told.asks ≤ t.told.asks) (sym (at_behind lives label s)) (same_asks s.told.asks)

goes_asks : (lives : Lives) (settings : Settings) (p q : Place) → Goes lives settings p q → asks_at p ≤ asks_at q
goes_asks lives settings _ _ (live.steps s label new h) = behind_asks lives label _
goes_asks lives settings _ _ (live.asks s q is) = one_more_ask s.told.asks
goes_asks lives settings _ _ (live.answered s q line rest reply label new heard is h) = behind_asks lives label _
goes_asks lives settings _ _ (live.probes s path state driver more) = one_more_ask s.told.asks
goes_asks lives settings _ _ (live.probed s path state driver more line rest reply heard is) = same_asks s.told.asks
goes_asks lives settings _ _ (live.probed_all s path state) = same_asks s.told.asks
goes_asks lives settings _ _ (live.rests s quiet none) = same_asks s.told.asks
goes_asks lives settings _ _ (live.polls s w more quiet some) = one_more_ask s.told.asks
goes_asks lives settings _ _ (live.waits s line rest heard is) = same_asks s.told.asks
goes_asks lives settings _ _ (live.complete s line rest c w heard is there) = same_asks s.told.asks
goes_asks lives settings _ _ (live.event s number event rest is) = same_asks s.told.asks
goes_asks lives settings _ _ (live.done s is) = same_asks s.told.asks
goes_asks lives settings _ _ (live.bad s number is) = same_asks s.told.asks
goes_asks lives settings _ _ (live.no_line ask s line rest heard) = same_asks s.told.asks
goes_asks lives settings _ _ (live.long_line ask s line rest heard) = same_asks s.told.asks
goes_asks lives settings _ _ (live.no_answer ask s line rest heard missed) = same_asks s.told.asks

asks_on : (a b c : ℕ) → a ≤ b → b ≤ c → a ≤ c
asks_on a b c x y = omega arith

pub leads_asks : (lives : Lives) (settings : Settings) (p q : Place) → Leads lives settings p q → asks_at p ≤ asks_at q
leads_asks lives settings p _ (live.here _) = same_asks (asks_at p)
leads_asks lives settings p q (live.goes _ m _ goes more) = asks_on (asks_at p) (asks_at m) (asks_at q) (goes_asks lives settings p m goes) (leads_asks lives settings m q more)
