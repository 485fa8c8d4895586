-- Each step of a rebalance: what it would restore, and whom it asked.
use Rattle.std.proofs.Common.{ℕ, ◌≡◌, ◌⊎◌, inl, inr, Bool, true, false, cond, not, ◌||◌, List, [], ◌∷◌, map, length, Option, Some, None, refl, sym, ap, ◌∙◌, subst, arith, reverse, nat_le}
use Rattle.resource_reqs.specs.Resources.{Reqs, Fits}
use Rattle.resource_reqs.specs.Spelling.{IsAnswer}
use Rattle.resource_reqs.specs.Spelling.Answer.{assignment, no_fit, spent}
use Rattle.resource_reqs.proofs.Answering.{no_fit_means}
use Rattle.pnp_model.specs.Keyed.{changed_first, those}
use Rattle.pnp_model.specs.Records.{Node, Core, Walk, Found, Job, Stage}
use Rattle.pnp_model.specs.Cores.{is_node, node_at, with_problem}
use Rattle.pnp_model.specs.Tests.{has}
use Rattle.pnp_model.specs.Trees.{above}
use Rattle.pnp_model.specs.Walks.{is_bad, has_ended, after}
use Rattle.pnp_model.specs.Frames.{first_node, rest, ended, asked, fixed_beside}
use Rattle.pnp_model.specs.Laws.{IsWithin, NothingFits}
use Rattle.pnp_labels.specs.declared.states.Problem.{Problem}
use Rattle.pnp_labels.specs.declared.words.Minor.{Minor}
use Rattle.pnp_labels.specs.declared.words.Answer.{Answer}
use Rattle.pnp_labels.specs.declared.words.Answer.TheVariants.{Ok, Fail, Pend}
use Rattle.pnp_labels.specs.declared.label.Label.{Label}
use Rattle.pnp_labels.specs.declared.states.DevState.TheVariants.{Started, StopPending}
use Rattle.pnp_laws.specs.Kept.{RebalanceKeeps, TargetFits, Waits, asking_state}
use Rattle.pnp_laws.specs.Holdings.{has_plan}
use Rattle.pnp_laws.specs.Rebalanced.{EndsUndone, Moves, Paused, Undone, Asks, EndsBad, IsHopeless, AskedSince, Refusing}
use Rattle.pnp_laws.proofs.Lists.{HeadIs, cons_here, cons_there, has_cases, head_found, head_has, member, without_none}
use Rattle.pnp_laws.proofs.OpSteps.{is_Started}
use Rattle.pnp_laws.proofs.RebalanceSteps.{head_pending}
use Rattle.pnp_laws.proofs.Stages.{RebalanceAct, RebalanceStep, ended_by, reply}
use Rattle.pnp_laws.proofs.EffectsOfOperations.{SameFrame, re_ask_on, re_cancel_on, re_restart, re_stop_on}
use Rattle.pnp_laws.proofs.Pauses.{above_low, above_paused, hopeless_before}
use Rattle.pnp_laws.proofs.Standing.{Tree}
use Rattle.pnp_laws.proofs.Vetoes.{held_agreed, held_same, held_back, held_still}
use Rattle.pnp_laws.proofs.Askings.{asks_agreed, asks_refused}
use Rattle.pnp_model.specs.Jobs.{asks, each_gets, stands, JobMove, Beside}
use Rattle.pnp_model.specs.Rebalances as re

-- What a step is to show --------------------------------------------------------------

-- the operation goes on
abbrev pub GoesOn : Beside → Type 0
GoesOn Beside.On = Unit {0}
GoesOn (Beside.FailedRestart k) = Unit {0}
GoesOn _ = ⊥

-- it does not print problem 12
abbrev pub NoConflict : Label → Type 0
NoConflict (Label.Trouble path Problem.NormalConflict) = ⊥
NoConflict _ = Unit {0}

pub record SameDevice (r f : Job) : Type 0 where
  pub kind : f.kind ≡ r.kind
  pub target : f.target ≡ r.target
  pub path : f.path ≡ r.path
  pub wanted : f.wanted ≡ r.wanted

pub record MovesOn (before c : Core) (r : Job) (stage : Stage) (m : JobMove) : Type 0 where
  pub within : IsWithin m.label
  pub on : GoesOn m.beside
  pub device : SameDevice r m.frame
  pub undone : Undone before m.core m.frame m.frame.stage
  pub asked : AskedSince before m.frame m.frame.stage
  pub told : (k : ℕ) → has m.frame.refused k ≡ true → (has r.refused k ≡ true) ⊎ Refusing c r stage k
  pub keeps : (k : ℕ) → has r.refused k ≡ true → has m.frame.refused k ≡ true
  pub tells : (k : ℕ) → Refusing c r stage k → has m.frame.refused k ≡ true
  pub quiet : NoConflict m.label ⊎ ((stage ≡ Stage.Stuck) × (m.label ≡ Label.Trouble r.path (re.trouble_of r.found)))

-- nobody is asked in this stage
abbrev NotAsking : Stage → Type 0
NotAsking Stage.Asking = ⊥
NotAsking _ = Unit {0}

not_asking : (c : Core) (r : Job) (stage : Stage) (k : ℕ) → NotAsking stage → Refusing c r stage k → ⊥
not_asking c r stage k none (w, node, e, walk, first, own, bad) = subst (λ (x : Stage). NotAsking x) e none

same_device : (r f : Job) → SameFrame r f → SameDevice r f
same_device r f same = record { kind = same.work.kind; target = same.target; path = same.work.path; wanted = same.work.wanted }

-- a step that asks nobody
asks_nobody : (before c : Core) (r : Job) (stage : Stage) (m : JobMove) → NotAsking stage → IsWithin m.label → GoesOn m.beside → SameFrame r m.frame →
    Undone before m.core m.frame m.frame.stage → AskedSince before m.frame m.frame.stage → (NoConflict m.label ⊎ ((stage ≡ Stage.Stuck) × (m.label ≡ Label.Trouble r.path (re.trouble_of r.found)))) → MovesOn before c r stage m
asks_nobody before c r stage m none within on same undone asked quiet =
    record {
      within = within;
      on = on;
      device = same_device r m.frame same;
      undone = undone;
      asked = asked;
      told = λ k h. inl (subst (λ (x : List ℕ). has x k ≡ true) same.refused h);
      keeps = λ k h. subst (λ (x : List ℕ). has x k ≡ true) (sym same.refused) h;
      tells = λ k h. absurd (not_asking c r stage k none h);
      quiet = quiet;
    }

-- What comes next -----------------------------------------------------------------------

undone_cancelled : (before now : Core) (r : Job) (wanted : Option Reqs) → r.wanted ≡ wanted → Paused before now [] → has_plan r.found ≡ false → Undone before now (stands r [] (re.cancelled wanted)) (re.cancelled wanted)
undone_cancelled before now r None is h e = (h, e)
undone_cancelled before now r (Some wanted) is h e = subst (λ (x : Option Reqs). EndsUndone before now (stands r [] Stage.Ending) x) (sym is) (inr h)

undone_cancel_on : (before now : Core) (r : Job) (ks : List ℕ) → Paused before now ks → has_plan r.found ≡ false → Undone before now (re.cancel_on r ks) (re.cancel_on r ks).stage
undone_cancel_on before now r [] h e = undone_cancelled before now r r.wanted refl h e
undone_cancel_on before now r (k ∷ ks) h e = (h, e)

undone_search_on : (before now : Core) (r : Job) (refused : Bool) → re.has_refused r ≡ refused → Paused before now r.agreed → has_plan r.found ≡ false → Undone before now (cond refused (re.cancel_on r r.agreed) (stands r [] Stage.Searching)) (cond refused (re.cancel_on r r.agreed) (stands r [] Stage.Searching)).stage
undone_search_on before now r false is h e = (h, is)
undone_search_on before now r true is h e = undone_cancel_on before now r r.agreed h e

pub undone_ask_on : (before now : Core) (r : Job) (ks : List ℕ) → Paused before now r.agreed → has_plan r.found ≡ false → Undone before now (re.ask_on r ks) (re.ask_on r ks).stage
undone_ask_on before now r [] h e = undone_search_on before now r (re.has_refused r) refl h e
undone_ask_on before now r (k ∷ ks) h e = (h, e)

undone_stop_on : (before now : Core) (r : Job) (ks : List ℕ) → Moves r → Undone before now (re.stop_on r ks) (re.stop_on r ks).stage
undone_stop_on before now r [] h = h
undone_stop_on before now r (k ∷ ks) h = h

ends_moved : (before now : Core) (r : Job) (wanted : Option Reqs) → Moves r → EndsUndone before now r wanted
ends_moved before now r None h = inl h.0
ends_moved before now r (Some wanted) h = inl h

undone_restart : (before now : Core) (r : Job) (ks : List ℕ) → Moves r → Undone before now (each_gets Minor.Start Stage.Restarting r ks (stands r [] Stage.Ending)) (each_gets Minor.Start Stage.Restarting r ks (stands r [] Stage.Ending)).stage
undone_restart before now r [] h = ends_moved before now (stands r [] Stage.Ending) r.wanted h
undone_restart before now r (k ∷ ks) h = h

asked_cancelled : (before : Core) (r : Job) (wanted : Option Reqs) → Asks before.nodes [] r.agreed r.refused → IsHopeless before r → AskedSince before (stands r [] (re.cancelled wanted)) (re.cancelled wanted)
asked_cancelled before r None h g = (h, g)
asked_cancelled before r (Some wanted) h g = tt

asked_cancel_on : (before : Core) (r : Job) (ks : List ℕ) → Asks before.nodes [] r.agreed r.refused → IsHopeless before r → AskedSince before (re.cancel_on r ks) (re.cancel_on r ks).stage
asked_cancel_on before r [] h g = asked_cancelled before r r.wanted h g
asked_cancel_on before r (k ∷ ks) h g = (h, g)

asked_search_on : (before : Core) (r : Job) (refused : Bool) → re.has_refused r ≡ refused → Asks before.nodes [] r.agreed r.refused → AskedSince before (cond refused (re.cancel_on r r.agreed) (stands r [] Stage.Searching)) (cond refused (re.cancel_on r r.agreed) (stands r [] Stage.Searching)).stage
asked_search_on before r false is h = h
asked_search_on before r true is h =
    asked_cancel_on before r r.agreed h
    (λ plain e. absurd (let none : true ≡ false = sym is ∙ ap (λ (x : Option Reqs). re.has_refused_in x (has r.agreed r.target)) plain in cc))

pub asked_ask_on : (before : Core) (r : Job) (ks : List ℕ) → Asks before.nodes ks r.agreed r.refused → AskedSince before (re.ask_on r ks) (re.ask_on r ks).stage
asked_ask_on before r [] h = asked_search_on before r (re.has_refused r) refl h
asked_ask_on before r (k ∷ ks) h = (h, λ e. absurd (cc))

asked_stop_on : (before : Core) (r : Job) (ks : List ℕ) → AskedSince before (re.stop_on r ks) (re.stop_on r ks).stage
asked_stop_on before r [] = tt
asked_stop_on before r (k ∷ ks) = tt

asked_restart : (before : Core) (r : Job) (ks : List ℕ) → AskedSince before (each_gets Minor.Start Stage.Restarting r ks (stands r [] Stage.Ending)) (each_gets Minor.Start Stage.Restarting r ks (stands r [] Stage.Ending)).stage
asked_restart before r [] = tt
asked_restart before r (k ∷ ks) = tt

-- Asking --------------------------------------------------------------------------------------

-- the head of what is to do
pub head_form : (j : ℕ) (todo : List ℕ) → HeadIs j todo → todo ≡ j ∷ rest todo
head_form j [] h = absurd h
head_form j (i ∷ is) h = ap (λ (x : ℕ). x ∷ is) h

-- the device that is asked, at the head
record AtHead (c : Core) (r : Job) (node : Node) : Type 0 where
  first : first_node c.nodes r.todo ≡ Some node
  form : r.todo ≡ node.serial ∷ rest r.todo
  at : node_at node.serial c.nodes ≡ Some node
  state : node.state ≡ Started

on_agreed : (before c : Core) (r : Job) (node : Node) (w : Walk) → r.walk ≡ Some w → is_bad w ≡ false → AtHead c r node → Paused before c r.agreed → has_plan r.found ≡ false → Asks before.nodes r.todo r.agreed r.refused → MovesOn before c r Stage.Asking (ended_by c node Minor.QueryStop false (re.answers r node false))
on_agreed before c r node w walk good head paused none asks =
    let f = record r { agreed = node.serial ∷ r.agreed } in
    let frame = re_ask_on f (rest r.todo) in
    let asks2 = asks_agreed before.nodes node.serial (rest r.todo) r.agreed r.refused (subst (λ (x : List ℕ). Asks before.nodes x r.agreed r.refused) head.form asks) in
    record {
      within = tt;
      on = tt;
      device = record { kind = frame.work.kind; target = frame.target; path = frame.work.path; wanted = frame.work.wanted };
      undone = undone_ask_on before _ f (rest r.todo) (held_agreed StopPending before c node.serial r.agreed node head.at head.state paused) none;
      asked = asked_ask_on before f (rest r.todo) asks2;
      told = λ k h. inl (subst (λ (x : List ℕ). has x k ≡ true) frame.refused h);
      keeps = λ k h. subst (λ (x : List ℕ). has x k ≡ true) (sym frame.refused) h;
      tells = λ k h. absurd (let own = h.3 in let bad = h.6 in let same : w ≡ h.0 = cc in let here = ap is_bad same in cc);
      quiet = inl tt;
    }

on_refused : (before c : Core) (r : Job) (node : Node) (w : Walk) → r.walk ≡ Some w → is_bad w ≡ true → AtHead c r node → Paused before c r.agreed → has_plan r.found ≡ false → Asks before.nodes r.todo r.agreed r.refused → MovesOn before c r Stage.Asking (ended_by c node Minor.QueryStop true (re.answers r node true))
on_refused before c r node w walk bad head paused none asks =
    record {
      within = tt;
      on = tt;
      device = record { kind = refl; target = refl; path = refl; wanted = refl };
      undone = (held_same StopPending before c node.serial node.state r.agreed node head.at refl paused, none);
      asked = (node.serial, r.refused, refl, head.form, asks);
      told =
          λ k h. elim (has_cases node.serial k r.refused h) [
            | inl e ↦ inr (w, node, refl, walk, head.first, e, bad)
            | inr e ↦ inl e
          ];
      keeps = λ k h. cons_there node.serial r.refused k h;
      tells =
          λ k h.
          let first = head.first in
          let there = h.4 in
          let same_node : node ≡ h.1 = cc in
          subst (λ (i : ℕ). has (node.serial ∷ r.refused) i ≡ true) (ap (λ (x : Node). x.serial) same_node ∙ h.5) (cons_here node.serial r.refused);
      quiet = inl tt;
    }

-- a walk that has not ended is not bad, and after one more answer it waits only where it is not bad

not_bad : (w : Walk) (n : ℕ) → has_ended w n ≡ false → is_bad w ≡ false
not_bad w n h = by_bad (is_bad w) (nat_le n w.asked) h
  where
    by_bad : (a b : Bool) → (a || b) ≡ false → a ≡ false
    by_bad true b h = cc
    by_bad false b h = refl

after_ends : (w : Walk) (answer : Answer) → is_bad w ≡ false → EndsBad (Some (after w answer))
after_ends w Ok h e = refl
after_ends w Fail h e = refl
after_ends w Pend h e = absurd (cc)

-- An ask of any stage --------------------------------------------------------------------------------

-- nodes, relations and ranges stay
ends_still : (before c d : Core) (r : Job) (wanted : Option Reqs) → d.nodes ≡ c.nodes → d.relations ≡ c.relations → d.reserved ≡ c.reserved → EndsUndone before c r wanted → EndsUndone before d r wanted
ends_still before c d r None a b e (inl h) = inl h
ends_still before c d r None a b e (inr h) = inr (record { nodes = a ∙ h.nodes; relations = b ∙ h.relations; reserved = e ∙ h.reserved })
ends_still before c d r (Some wanted) a b e (inl h) = inl h
ends_still before c d r (Some wanted) a b e (inr h) = inr (held_still StopPending before c d [] a b e h)

pub undone_still : (before c d : Core) (r : Job) (stage : Stage) → d.nodes ≡ c.nodes → d.relations ≡ c.relations → d.reserved ≡ c.reserved → Undone before c r stage → Undone before d r stage
undone_still before c d r Stage.Asking a b e h = (held_still StopPending before c d r.agreed a b e h.0, h.1)
undone_still before c d r Stage.TakingBack a b e h = (held_still StopPending before c d r.agreed a b e h.0, h.1)
undone_still before c d r Stage.Searching a b e h = (held_still StopPending before c d r.agreed a b e h.0, h.1)
undone_still before c d r Stage.Cancelling a b e h = (held_still StopPending before c d r.todo a b e h.0, h.1)
undone_still before c d r Stage.Stuck a b e h = (held_still StopPending before c d [] a b e h.0, h.1)
undone_still before c d r Stage.Ending a b e h = ends_still before c d r r.wanted a b e h
undone_still before c d r _ a b e h = h

ends_walked : (before c : Core) (r : Job) (walk : Option Walk) (wanted : Option Reqs) → EndsUndone before c r wanted → EndsUndone before c (record r { walk = walk }) wanted
ends_walked before c r walk None (inl h) = inl h
ends_walked before c r walk None (inr h) = inr (record { nodes = h.nodes; relations = h.relations; reserved = h.reserved })
ends_walked before c r walk (Some wanted) h = h

pub walked_undone : (before c : Core) (r : Job) (walk : Option Walk) (stage : Stage) → Undone before c r stage → Undone before c (record r { walk = walk }) stage
walked_undone before c r walk Stage.Ending h = ends_walked before c r walk r.wanted h
walked_undone before c r walk _ h = h

-- who was asked, where a walk that is bad does not wait for its next answer
pub walked_asked : (before : Core) (r : Job) (walk : Option Walk) (stage : Stage) → EndsBad walk → AskedSince before r stage → AskedSince before (record r { walk = walk }) stage
walked_asked before r walk Stage.Asking ends h = (h.0, ends)
walked_asked before r walk _ ends h = h

pub on_asks : (before c : Core) (r : Job) (node : Node) (w : Walk) → r.walk ≡ Some w → has_ended w (length node.stack) ≡ false → first_node c.nodes r.todo ≡ Some node → Undone before c r r.stage → AskedSince before r r.stage →
    MovesOn before c r r.stage (asks r (asked c node w))
on_asks before c r node w walk more first undone since =
    let good = not_bad w (length node.stack) more in
    let now = (asked c node w).core in
    record {
      within = tt;
      on = tt;
      device = record { kind = refl; target = refl; path = refl; wanted = refl };
      undone = walked_undone before now r (Some (asked c node w).walk) r.stage (undone_still before c now r r.stage refl refl refl undone);
      asked = walked_asked before r (Some (asked c node w).walk) r.stage (after_ends w (reply c node w) good) since;
      told = λ k h. inl h;
      keeps = λ k h. h;
      tells = λ k h. absurd (let own = h.3 in let bad = h.6 in let same : w ≡ h.0 = cc in let here = ap is_bad same in cc);
      quiet = inl tt;
    }

-- Taking back ------------------------------------------------------------------------------------------

on_take_back : (next : ℕ) (before c : Core) (r : Job) (node : Node) (w : Walk) → Tree next before → AtHead c r node → Paused before c r.agreed → has_plan r.found ≡ false → AskedSince before r Stage.TakingBack → MovesOn before c r Stage.TakingBack (ended_by c node Minor.CancelStop false (re.ask_on r (those (re.is_not_above c.nodes node.serial) (rest r.todo))))
on_take_back next before c r node w tree head paused none (j, more, refused, form, asks) =
    let test = re.is_not_above c.nodes node.serial in
    let own : j ≡ node.serial = let f = head.form in cc in
    let up : above c.nodes node.serial ≡ above before.nodes node.serial =
    ap (λ (x : List Node). above x node.serial) paused.nodes ∙ above_paused r.agreed before.nodes node.serial in
    let own_asks = subst (λ (x : List ℕ). Asks before.nodes x r.agreed more) head.form asks in
    let was = own_asks.asks node.serial (cons_here node.serial (rest r.todo)) in
    let asks2 = asks_refused before.nodes node.serial (rest r.todo) r.agreed more (λ k above. above_low next before node.serial k was.0 tree was.1 above) own_asks in
    let asks3 = subst (λ (x : List ℕ). Asks before.nodes (those (λ i. not (has x i)) (rest r.todo)) r.agreed (node.serial ∷ more)) (sym up) asks2 in
    let asks4 = subst (λ (x : List ℕ). Asks before.nodes (those test (rest r.todo)) r.agreed x) (ap (λ (i : ℕ). i ∷ more) (sym own) ∙ sym refused) asks3 in
    asks_nobody before c r Stage.TakingBack _ tt tt tt (re_ask_on r (those test (rest r.todo)))
    (undone_ask_on before _ r (those test (rest r.todo)) (held_same StopPending before c node.serial Started r.agreed node head.at head.state paused) none)
    (asked_ask_on before r (those test (rest r.todo)) asks4) (inl tt)

-- The search ------------------------------------------------------------------------------------

-- the device of a rebalance is none of those that agreed
target_not : (c : Core) (r : Job) → RebalanceKeeps r Stage.Searching c.nodes → r.wanted ≡ None → has r.agreed r.target ≡ false
target_not c r keeps plain =
    let waits : Waits r.target c.nodes = subst (λ (x : Option Reqs). TargetFits x r.target c.nodes) plain keeps.waits in
    elim (member r.agreed r.target) [
      | inl h ↦ absurd (let state = head_pending r.agreed r.target waits.0.state h (keeps.each r.target waits.0 waits.1) in let up = waits.2 in cc)
      | inr h ↦ h
    ]

-- so where nothing was found for it, nothing fits it and them
nothing_fits : (c : Core) (r : Job) (budget : ℕ) → RebalanceKeeps r Stage.Searching c.nodes → IsAnswer (re.group_problem c r).fixed (re.group_problem c r).movers budget no_fit → r.wanted ≡ None → NothingFits c (r.target ∷ r.agreed)
nothing_fits c r budget keeps answer plain fits =
    let alone : re.movers r ≡ r.target ∷ r.agreed = ap (λ (ks : List ℕ). r.target ∷ ks) (without_none r.target r.agreed (target_not c r keeps plain)) in
    let own : re.target_reqs c r ≡ re.reqs_of (node_at r.target c.nodes) = ap (λ (x : Option Reqs). re.reqs_or x (re.reqs_of (node_at r.target c.nodes))) plain in
    ((no_fit_means (re.group_problem c r).fixed (re.group_problem c r).movers budget).0 answer).0
    (subst (λ (x : Reqs). Fits (fixed_beside c (re.movers r)) (x ∷ map (λ k. re.reqs_of (node_at k c.nodes)) (re.others r))) (sym own)
    (subst (λ (ks : List ℕ). Fits (fixed_beside c ks) (map (λ k. re.reqs_of (node_at k c.nodes)) ks)) (sym alone) fits))

found_frame : (r : Job) (found : Found) (p : Job) → SameFrame (record r { found = found }) p → SameFrame r p
found_frame r found p same =
    record { work = record { kind = same.work.kind; path = same.work.path; spared = same.work.spared; wanted = same.work.wanted }; target = same.target; refused = same.refused }

on_searched : (before c : Core) (r : Job) (budget : ℕ) (found : Found) → RebalanceKeeps r Stage.Searching c.nodes → IsAnswer (re.group_problem c r).fixed (re.group_problem c r).movers budget found → Undone before c r Stage.Searching → Asks before.nodes [] r.agreed r.refused →
    MovesOn before c r Stage.Searching (re.searched c r found)
on_searched before c r budget (assignment plan) keeps answer undone asks =
    let f = record r { found = assignment plan } in
    asks_nobody before c r Stage.Searching _ tt tt tt (found_frame r (assignment plan) _ (re_stop_on f (reverse r.agreed))) (undone_stop_on before c f (reverse r.agreed) (refl, undone.1)) (asked_stop_on before f (reverse r.agreed)) (inl tt)
on_searched before c r budget no_fit keeps answer undone asks =
    let f = record r { found = no_fit } in
    asks_nobody before c r Stage.Searching _ tt tt tt (found_frame r no_fit _ (re_cancel_on f r.agreed)) (undone_cancel_on before c f r.agreed undone.0 refl)
    (asked_cancel_on before f r.agreed asks (λ plain e. hopeless_before before c r.agreed (r.target ∷ r.agreed) undone.0 (nothing_fits c r budget keeps answer plain))) (inl tt)
on_searched before c r budget spent keeps answer undone asks =
    let f = record r { found = spent } in
    asks_nobody before c r Stage.Searching _ tt tt tt (found_frame r spent _ (re_cancel_on f r.agreed)) (undone_cancel_on before c f r.agreed undone.0 refl)
    (asked_cancel_on before f r.agreed asks (λ plain e. absurd (cc))) (inl tt)

-- Nothing was found -------------------------------------------------------------------------------

on_cancel : (before c : Core) (r : Job) (node : Node) (w : Walk) → r.todo ≡ node.serial ∷ rest r.todo → Undone before c r Stage.Cancelling → AskedSince before r Stage.Cancelling → MovesOn before c r Stage.Cancelling (ended_by c node Minor.CancelStop false (re.cancel_on r (rest r.todo)))
on_cancel before c r node w form undone asked =
    let back = held_back StopPending before c node.serial (rest r.todo) (subst (λ (x : List ℕ). Paused before c x) form undone.0) in
    asks_nobody before c r Stage.Cancelling _ tt tt tt (re_cancel_on r (rest r.todo)) (undone_cancel_on before _ r (rest r.todo) back undone.1)
    (asked_cancel_on before r (rest r.todo) asked.0 asked.1) (inl tt)

on_stuck : (before c : Core) (r : Job) → r.wanted ≡ None → Undone before c r Stage.Stuck → MovesOn before c r Stage.Stuck (re.stuck c r)
on_stuck before c r plain undone =
    let f = stands r [] Stage.Ending in
    let troubled : EndsUndone before (re.stuck c r).core f None =
    inr (record { nodes = ap (λ (x : List Node). changed_first (is_node r.target) (with_problem (Some (re.trouble_of r.found))) x) undone.0.nodes; relations = undone.0.relations; reserved = undone.0.reserved }) in
    asks_nobody before c r Stage.Stuck _ tt tt tt (record { work = record { kind = refl; path = refl; spared = refl; wanted = refl }; target = refl; refused = refl }) (subst (λ (x : Option Reqs). EndsUndone before (re.stuck c r).core f x) (sym plain) troubled) tt (inr (refl, refl))

-- A plan was found ----------------------------------------------------------------------------------

on_stop : (before c : Core) (r : Job) (node : Node) (w : Walk) → Moves r → MovesOn before c r Stage.Stopping (ended_by c node Minor.Stop false (re.stop_on r (rest r.todo)))
on_stop before c r node w h =
    asks_nobody before c r Stage.Stopping _ tt tt tt (re_stop_on r (rest r.todo)) (undone_stop_on before _ r (rest r.todo) h) (asked_stop_on before r (rest r.todo)) (inl tt)

on_commit : (before c : Core) (r : Job) → Moves r → MovesOn before c r Stage.Committing (re.commit_step c r)
on_commit before c r h =
    let ks = re.startable c.nodes r.agreed in
    asks_nobody before c r Stage.Committing _ tt tt tt (re_restart r ks) (undone_restart before _ r ks h) (asked_restart before r ks) (inl tt)

on_end_restart : (before c : Core) (r : Job) (node : Node) (w : Walk) (bad : Bool) → Moves r → MovesOn before c r Stage.Restarting (ended_by c node Minor.Start bad (re.after_restart c r node bad))
on_end_restart before c r node w true h = asks_nobody before c r Stage.Restarting _ tt tt tt (record { work = record { kind = refl; path = refl; spared = refl; wanted = refl }; target = refl; refused = refl }) h tt (inl tt)
on_end_restart before c r node w false h =
    let ks = re.startable (ended c node Minor.Start false).nodes (rest r.todo) in
    asks_nobody before c r Stage.Restarting _ tt tt tt (re_restart r ks) (undone_restart before _ r ks h) (asked_restart before r ks) (inl tt)

on_failed : (before c : Core) (r : Job) (node : Node) → Moves r → MovesOn before c r Stage.Failed (re.failed c r node)
on_failed before c r node h =
    let ks = re.startable c.nodes (rest r.todo) in
    asks_nobody before c r Stage.Failed _ tt tt tt (re_restart r ks) (undone_restart before _ r ks h) (asked_restart before r ks) (inl tt)

-- All steps -------------------------------------------------------------------------------------------

-- it goes on, or closes in the last stage
abbrev pub OnOrOver : Core → Core → Job → Stage → JobMove → Type 0
OnOrOver before c r stage m = MovesOn before c r stage m ⊎ ((stage ≡ Stage.Ending) × (m ≡ re.close c r))

started_head : (c : Core) (r : Job) (node : Node) → first_node c.nodes r.todo ≡ Some node → ((k : ℕ) (n : Node) → node_at k c.nodes ≡ Some n → asking_state r.todo r.agreed k n.state ≡ true) → AtHead c r node
started_head c r node first each =
    let h = head_found c.nodes r.todo node first in
    let here = head_has node.serial r.todo h.0 in
    let test = each node.serial node h.1 in
    record { first = first; form = head_form node.serial r.todo h.0; at = h.1; state = is_Started node.state (grind (arith)) }

pub rebalance_moves : (next : ℕ) (before c : Core) (r : Job) (stage : Stage) (m : JobMove) → Tree next before → RebalanceKeeps r stage c.nodes → Undone before c r stage → AskedSince before r stage → RebalanceStep c r stage m → OnOrOver before c r stage m
rebalance_moves next before c r stage m tree keeps undone asked (RebalanceStep.agrees node w e good) = inl (on_agreed before c r node w e.walk good (started_head c r node e.first keeps.each) undone.0 undone.1 asked.0)
rebalance_moves next before c r stage m tree keeps undone asked (RebalanceStep.refuses node w e bad) = inl (on_refused before c r node w e.walk bad (started_head c r node e.first keeps.each) undone.0 undone.1 asked.0)
rebalance_moves next before c r stage m tree keeps undone asked (RebalanceStep.takes_back node w e) = inl (on_take_back next before c r node w tree (started_head c r node e.first keeps.each) undone.0 undone.1 asked)
rebalance_moves next before c r stage m tree keeps undone asked (RebalanceStep.acts _ _ (RebalanceAct.searches found budget answer)) = inl (on_searched before c r budget found keeps answer undone asked)
rebalance_moves next before c r stage m tree keeps undone asked (RebalanceStep.cancels node w e) =
    inl (on_cancel before c r node w (head_form node.serial r.todo (head_found c.nodes r.todo node e.first).0) undone asked)
rebalance_moves next before c r stage m tree keeps undone asked (RebalanceStep.acts _ _ RebalanceAct.sticks) = inl (on_stuck before c r keeps.asks undone)
rebalance_moves next before c r stage m tree keeps undone asked (RebalanceStep.stops node w e) = inl (on_stop before c r node w undone)
rebalance_moves next before c r stage m tree keeps undone asked (RebalanceStep.acts _ _ RebalanceAct.commits) = inl (on_commit before c r undone)
rebalance_moves next before c r stage m tree keeps undone asked (RebalanceStep.restarts node w e good) = inl (on_end_restart before c r node w false undone)
rebalance_moves next before c r stage m tree keeps undone asked (RebalanceStep.fails node w e bad) = inl (on_end_restart before c r node w true undone)
rebalance_moves next before c r stage m tree keeps undone asked (RebalanceStep.acts _ _ (RebalanceAct.failed node first)) = inl (on_failed before c r node undone)
rebalance_moves next before c r stage m tree keeps undone asked (RebalanceStep.acts _ _ RebalanceAct.closes) = inr (refl, refl)
