-- One way of a live run and then another: what is so of where the second ends is so of the whole. And the ways that end where no answer is
-- heard.
use Rattle.std.proofs.Common.{ℕ, ◌≡◌, Option, ap, inl, inr, subst, sym}
use Rattle.std.specs.Prelude.{IsErr, IsErrAnd, Result, Ok, Err}
use Rattle.live_io.specs.Turns.{Past}
use Rattle.live_io.specs.declared.peer.Heard.TheVariants.{LongLine, Over}
use Rattle.pnp_labels.specs.Texts.{Text}
use Rattle.pnp_model.specs.Records.{Settings}
use Rattle.live_model.specs.Fronts.{HasBegun}
use Rattle.live_model.specs.Lives.{Lives}
use Rattle.live_model.specs.Outputs as outputs
use Rattle.live_model.specs.Outputs.{Ask, Goes, Leads, Place, Stand, Told, is_answer}
use Rattle.live_run.specs.Runs.{HasEnded, Loses, StopsAt}
use Rattle.live_run.specs.Talks.{HearsBad, HearsNone, HearsOther}
use Rattle.live_run.specs.declared.stop.Stop.{Stop}

pub leads_on : (lives : Lives) (settings : Settings) (p q r : Place) → Leads lives settings p q → Leads lives settings q r → Leads lives settings p r
leads_on lives settings _ _ r (Leads.here p) more = more
leads_on lives settings _ _ r (Leads.goes p m q goes way) more = Leads.goes p m r goes (leads_on lives settings m q r way more)

-- from one place to the next
pub leads_one : (lives : Lives) (settings : Settings) (p q : Place) → Goes lives settings p q → Leads lives settings p q
leads_one lives settings p q goes = Leads.goes p q q goes (Leads.here q)

pub loses_on : (lives : Lives) (settings : Settings) (p q : Place) (ended : outputs.Ended) (line : ℕ → Text) (t : Told) → Leads lives settings p q → Loses lives settings q ended line t → Loses lives settings p ended line t
loses_on lives settings p q ended line t way lost = record {
  last = lost.last;
  leads = leads_on lives settings p q (outputs.IsOver ended (outputs.saying (line lost.last.told.asks) lost.last)) way lost.leads;
  asks = lost.asks;
  past = lost.past;
  taken = lost.taken;
}

pub begun_on : (lives : Lives) (settings : Settings) (p q : Place) (past : Option Past) (taken : Option Text) → Leads lives settings p q → HasBegun lives settings q past taken → HasBegun lives settings p past taken
begun_on lives settings p q past taken way begun = record { there = begun.there; leads = leads_on lives settings p q begun.there way begun.leads; front = begun.front }

pub stops_on : (stop : Stop) (lives : Lives) (settings : Settings) (p q : Place) (t : Told) (past : Option Past) (taken : Option Text) → Leads lives settings p q → StopsAt stop lives settings q t past taken → StopsAt stop lives settings p t past taken
stops_on Stop.End lives settings p q t past taken way stops = loses_on lives settings p q outputs.AnswersEnd outputs.end_line t way stops
stops_on Stop.Bad lives settings p q t past taken way stops = loses_on lives settings p q outputs.AnswersBad outputs.bad_line t way stops
stops_on (Stop.Fault e) lives settings p q t past taken way stops = begun_on lives settings p q past taken way stops

pub ends_on : (lives : Lives) (settings : Settings) (p q : Place) (ended : outputs.Ended) (past : Option Past) (taken : Option Text) → Leads lives settings p q → HasEnded lives settings q ended past taken → HasEnded lives settings p ended past taken
ends_on lives settings p q ended past taken way h = record { last = h.last; leads = leads_on lives settings p q (outputs.IsOver ended h.last) way h.leads; said = h.said }

-- Where an answer is due -------------------------------------------------------------------------

pub lost_none : (lives : Lives) (settings : Settings) (ask : Ask) (s : Stand) (t : Told) → HearsNone Over s.told t → Loses lives settings (outputs.Asks ask s) outputs.AnswersEnd outputs.end_line t
lost_none lives settings ask s t h = record {
  last = outputs.unheard s;
  leads = leads_one lives settings (outputs.Asks ask s) _ (Goes.no_line ask s h.line t.answers h.comes);
  asks = ap (λ (u : Told). u.asks) h.talk;
  past = ap (λ (u : Told). u.past) h.talk;
  taken = ap (λ (u : Told). u.taken) h.talk;
}

lost_long : (lives : Lives) (settings : Settings) (ask : Ask) (s : Stand) (t : Told) → HearsNone LongLine s.told t → Loses lives settings (outputs.Asks ask s) outputs.AnswersBad outputs.bad_line t
lost_long lives settings ask s t h = record {
  last = outputs.unheard s;
  leads = leads_one lives settings (outputs.Asks ask s) _ (Goes.long_line ask s h.line t.answers h.comes);
  asks = ap (λ (u : Told). u.asks) h.talk;
  past = ap (λ (u : Told). u.past) h.talk;
  taken = ap (λ (u : Told). u.taken) h.talk;
}

lost_other : (lives : Lives) (settings : Settings) (ask : Ask) (s : Stand) (t : Told) → HearsOther (is_answer ask s) s.told t → Loses lives settings (outputs.Asks ask s) outputs.AnswersBad outputs.bad_line t
lost_other lives settings ask s t h = record {
  last = outputs.hearing h.line t.answers s;
  leads = leads_one lives settings (outputs.Asks ask s) _ (Goes.no_answer ask s h.line t.answers h.comes h.other);
  asks = ap (λ (u : Told). u.asks) h.talk;
  past = ap (λ (u : Told). u.past) h.talk;
  taken = ap (λ (u : Told). u.taken) h.talk;
}

pub lost_bad : (lives : Lives) (settings : Settings) (ask : Ask) (s : Stand) (t : Told) → HearsBad (is_answer ask s) s.told t → Loses lives settings (outputs.Asks ask s) outputs.AnswersBad outputs.bad_line t
lost_bad lives settings ask s t (inl h) = lost_long lives settings ask s t h
lost_bad lives settings ask s t (inr h) = lost_other lives settings ask s t h

-- An error that is passed on ---------------------------------------------------------------------

pub passed_on : {A : Type 0} (P : Result A Stop → Type 0) (r : Result A Stop) (stop : Stop) → IsErr r × IsErrAnd r (λ f. f ≡ stop) → P (Err stop) → P r
passed_on P (Ok x) stop h p = absurd h.1
passed_on P (Err f) stop h p = subst (λ (s : Stop). P (Err s)) (sym h.1) p
