-- A rebalance from its begin on: what it would restore, and who refused, in each state until its end.
use Rattle.std.proofs.Common.{ℕ, ◌≡◌, ◌⊎◌, inl, inr, Bool, true, false, List, [], ◌∷◌, Option, Some, None, refl, sym, ap, ◌∙◌, subst, reverse}
use Rattle.std.specs.Option.{option_map}
use Rattle.resource_reqs.specs.Resources.{Reqs}
use Rattle.pnp_model.specs.Keyed.{those}
use Rattle.pnp_model.specs.Records.{Node, Core, Driver, Walk, State, Step, Settings, Course, Job, Stage, course_of}
use Rattle.pnp_model.specs.Cores.{node_at, serials_of}
use Rattle.pnp_model.specs.Tests.{has}
use Rattle.pnp_model.specs.States.{set_operation, unplug, with_core}
use Rattle.pnp_model.specs.Walks.{after}
use Rattle.pnp_model.specs.Frames.{asked, first_node}
use Rattle.pnp_model.specs.Runs.{Entry, Goes, Run, printed}
use Rattle.pnp_model.specs.Runs.Entry.{Happens, Did, Declines}
use Rattle.pnp_model.specs.Laws.{IsWithin, AllWithin, Refuses, RefusedSince}
use Rattle.pnp_labels.specs.declared.label.Label.{Label}
use Rattle.pnp_labels.specs.declared.label.OpKind.{OpKind}
use Rattle.pnp_labels.specs.declared.words.Minor.{Minor}
use Rattle.pnp_laws.specs.Effects.{begun}
use Rattle.pnp_laws.specs.Kept.{Ascending, IsGood, OperationFits, asked_in}
use Rattle.pnp_laws.specs.Reached.{IsReached}
use Rattle.pnp_laws.specs.Rebalanced.{Undone, EndsBad, AskedSince, Refusing, Underway}
use Rattle.pnp_laws.proofs.Reaching.{reached_on}
use Rattle.pnp_laws.proofs.Declined.{idle_before}
use Rattle.pnp_laws.proofs.EventChanges.{Outside, Answered, happens_outside}
use Rattle.pnp_laws.proofs.Askings.{asks_begun}
use Rattle.pnp_laws.proofs.BeginSteps.{Begun}
use Rattle.pnp_laws.proofs.EffectsOfOperations.{re_ask_on, rebalance_step_is}
use Rattle.pnp_laws.proofs.Finishing.{relist_only}
use Rattle.pnp_laws.proofs.Standing.{Kept, StageKept, Tree}
use Rattle.pnp_laws.proofs.RebalanceMoves.{GoesOn, MovesOn, walked_asked, walked_undone, on_asks, undone_ask_on, undone_still, asked_ask_on, rebalance_moves}
use Rattle.pnp_laws.proofs.Stages.{OperationStep, RebalanceStep, operation_step, own_step}
use Rattle.pnp_laws.proofs.RunsStep.{operation_goes}
use Rattle.pnp_laws.proofs.RunsStand.{reaches_kept}
use Rattle.pnp_laws.proofs.FitsBy.{fits_by, rebalance_fits}
use Rattle.pnp_model.specs.Jobs.{asks, job_of, JobMove, Beside}
use Rattle.pnp_model.specs.Machine as ma
use Rattle.pnp_model.specs.Events as ev
use Rattle.pnp_model.specs.Rebalances as re

-- A step ---------------------------------------------------------------------------------

pub record Stepped (before : Core) (s : State) (r : Job) (step : Step) : Type 0 where
  pub move : JobMove
  pub is : step ≡ ma.job_lifted s move
  pub moves : MovesOn before s.core r r.stage move

pub record IsOver (s : State) (r : Job) (step : Step) : Type 0 where
  pub ending : r.stage ≡ Stage.Ending
  pub is : step ≡ ma.job_lifted s (re.close s.core r)

by_step : (next : ℕ) (before : Core) (s : State) (r : Job) (step : Step) → Tree next before → Ascending 0 s.core.nodes → course_of r.kind ≡ Course.Rebalancing → OperationFits (Some r) s.core.nodes → Undone before s.core r r.stage → AskedSince before r r.stage → OperationStep s r step
    → Stepped before s r step ⊎ IsOver s r step
by_step next before s r step tree order course fits undone since (OperationStep.asks node w a) =
    inl (record { move = asks r (asked s.core node w); is = refl; moves = on_asks before s.core r node w a.walk (a.more order) a.first undone since })
by_step next before s r step tree order course fits undone since (OperationStep.rebalances stage m own is x) =
    let all = rebalance_moves next before s.core r r.stage m tree (fits_by Course.Rebalancing r s.core.nodes course fits) undone since (subst (λ (y : Stage). RebalanceStep s.core r y m) (sym is) x) in
    elim all [
      | inl on ↦ inl (record { move = m; is = refl; moves = on })
      | inr (ending, close) ↦ inr (record { ending = ending; is = ap (ma.job_lifted s) close })
    ]
by_step next before s r step tree order course fits undone since (OperationStep.removes stage m own is x) = absurd (cc)
by_step next before s r step tree order course fits undone since (OperationStep.surprises stage m own is x) = absurd (cc)
by_step next before s r step tree order course fits undone since (OperationStep.finishes stage m own is x) = absurd (cc)

pub rebalance_stepped : (path : List ℕ) (next : ℕ) (before : Core) (settings : Settings) (s : State) (step : Step) (u : Underway path before s) → Tree next before → IsGood s → ma.IsStep settings (ma.next settings s) step →
    Stepped before s u.frame step ⊎ IsOver s u.frame step
rebalance_stepped path next before settings s step u tree good h =
    let fits = subst (λ (x : Option Job). OperationFits x s.core.nodes) u.runs good.fits in
    by_step next before s u.frame step tree good.serials u.course fits u.undone u.asked
    (own_step s u.frame step fits (rebalance_step_is s u.frame step u.course (operation_step settings s u.frame step u.runs h)))

-- The next state ------------------------------------------------------------------------------

-- it is still under way, and who refused is told
record Follows (path : List ℕ) (before : Core) (s : State) (r : Job) (t : State) : Type 0 where
  under : Underway path before t
  told : (k : ℕ) → has under.frame.refused k ≡ true → (has r.refused k ≡ true) ⊎ Refuses s k
  keeps : (k : ℕ) → has r.refused k ≡ true → has under.frame.refused k ≡ true
  tells : (k : ℕ) → Refuses s k → has under.frame.refused k ≡ true
  wanted : under.frame.wanted ≡ r.wanted

pub after_core : (r : Job) (beside : Beside) (c : Core) (s : State) → (ma.after_job r beside (with_core c s)).core ≡ c
after_core r Beside.On c s = refl
after_core r (Beside.Left path born) c s = (relist_only path born (set_operation (Some r) (with_core c s))).core
after_core r (Beside.Ejected path born) c s = (relist_only path born (unplug born (set_operation (Some r) (with_core c s)))).core
after_core r _ c s = refl

after_runs : (r : Job) (beside : Beside) (s : State) → GoesOn beside → (ma.after_job r beside s).operation ≡ Some r
after_runs r Beside.On s on = refl
after_runs r (Beside.FailedRestart k) s on = refl
after_runs r _ s on = absurd on

one_frame : (o : Option Job) (r f : Job) → o ≡ Some r → o ≡ Some f → r ≡ f
one_frame o r f h g = cc

-- it asks whether a device may stop in one stage alone
asking_stage : (stage : Stage) → asked_in Course.Rebalancing stage ≡ Some Minor.QueryStop → stage ≡ Stage.Asking
asking_stage Stage.Asking e = refl
asking_stage _ e = absurd (cc)

-- what a refusing state says of the frame
pub refusing : (s : State) (r : Job) (k : ℕ) → IsGood s → s.operation ≡ Some r → course_of r.kind ≡ Course.Rebalancing → Refuses s k → Refusing s.core r r.stage k
refusing s r k good runs course (f, w, node, runs2, walk, minor, first, own, bad) =
    let same = one_frame s.operation f r runs2 runs in
    let walks : r.walk ≡ Some w = subst (λ (x : Job). x.walk ≡ Some w) same walk in
    let asked : asked_in Course.Rebalancing r.stage ≡ Some Minor.QueryStop =
    sym (rebalance_fits s r good runs course).own ∙ ap (option_map (λ (v : Walk). v.minor)) walks ∙ ap Some minor in
    (w, node, asking_stage r.stage asked, walks, subst (λ (x : Job). first_node s.core.nodes x.todo ≡ Some node) same first, own, bad)

refuses : (s : State) (r : Job) (k : ℕ) → IsGood s → s.operation ≡ Some r → course_of r.kind ≡ Course.Rebalancing → Refusing s.core r r.stage k → Refuses s k
refuses s r k good runs course (w, node, stage, walk, first, own, bad) =
    let asked : Some w.minor ≡ Some Minor.QueryStop =
    ap (option_map (λ (v : Walk). v.minor)) (sym walk) ∙ (rebalance_fits s r good runs course).own ∙ ap (asked_in Course.Rebalancing) stage in
    (r, w, node, runs, walk, cc, first, own, bad)

follows_step : (path : List ℕ) (before : Core) (s : State) (label : Label) (t : State) (u : Underway path before s) → IsGood s → Stepped before s u.frame (record { label = label; state = t }) → Follows path before s u.frame t
follows_step path before s label t u good h =
    let r = u.frame in
    let m = h.move in
    let on = h.moves in
    let state : t ≡ (ma.job_lifted s m).state = ap (λ (x : Step). x.state) h.is in
    let core : t.core ≡ m.core = ap (λ (x : State). x.core) state ∙ after_core m.frame m.beside m.core s in
    record {
      under = record {
        frame = m.frame;
        runs = ap (λ (x : State). x.operation) state ∙ after_runs m.frame m.beside (with_core m.core s) on.on;
        course = ap course_of on.device.kind ∙ u.course;
        named = on.device.path ∙ u.named;
        target = (u.target.0, subst (λ (i : ℕ). node_at i before.nodes ≡ Some u.target.0) (sym on.device.target) u.target.1, u.target.2);
        undone = subst (λ (c : Core). Undone before c m.frame m.frame.stage) (sym core) on.undone;
        asked = on.asked;
      };
      told = λ k g. elim (on.told k g) [ inl e ↦ inl e | inr e ↦ inr (refuses s r k good u.runs u.course e) ];
      keeps = on.keeps;
      tells = λ k g. on.tells k (refusing s r k good u.runs u.course g);
      wanted = on.device.wanted;
    }

-- An event -----------------------------------------------------------------------------------------

answer_ends : (ok : Bool) (w : Walk) → EndsBad (Some (after w (ev.answer_of ok)))
answer_ends true w e = refl
answer_ends false w e = refl

answered_ends : (ok : Bool) (walk : Option Walk) → EndsBad (option_map (λ w. after w (ev.answer_of ok)) walk)
answered_ends ok None = tt
answered_ends ok (Some w) = answer_ends ok w

-- a state in which a device has just refused is not quiet
not_quiet : (before : Core) (settings : Settings) (s : State) (r : Job) (k : ℕ) → Kept s → s.operation ≡ Some r → AskedSince before r r.stage → Refusing s.core r r.stage k → ma.next settings s ≡ None → ⊥
not_quiet before settings s r k kept runs since (w, node, stage, walk, first, own, bad) quiet =
    let ends : EndsBad (Some w) = subst (λ (x : Option Walk). EndsBad x) walk (subst (λ (x : Stage). AskedSince before r x) stage since).1 in
    let waits : ma.is_waiting r.walk ≡ false = ap ma.is_waiting walk ∙ ends bad in
    let is : ma.next settings s ≡ ma.operation_next s r false = ap (λ (x : Option Job). ma.next_of settings s x) runs ∙ ap (λ (b : Bool). ma.operation_next s r b) waits in
    let goes = operation_goes s r (subst (λ (x : Option Job). OperationFits x s.core.nodes) runs kept.good.fits) (subst (λ (x : Option Job). StageKept x s.core) runs kept.stands.stage) in
    let none = sym goes.1 ∙ sym is ∙ quiet in
    cc

same_core : (s t : State) (label : Label) (r : Job) (before : Core) → s.operation ≡ Some r → Outside s (record { label = label; state = t }) → Undone before s.core r r.stage → Undone before t.core r r.stage
same_core s t label r before runs out h = undone_still before s.core t.core r r.stage out.nodes (out.relations r runs) (out.reserved r runs) h

follows_answer : (path : List ℕ) (before : Core) (settings : Settings) (s t : State) (label : Label) (u : Underway path before s) → Kept s → ma.next settings s ≡ None → Outside s (record { label = label; state = t }) → Answered s.operation t.operation → Follows path before s u.frame t
follows_answer path before settings s t label u kept quiet out (inl e) =
    let r = u.frame in
    record {
      under = record { frame = r; runs = e ∙ u.runs; course = u.course; named = u.named; target = u.target; undone = same_core s t label r before u.runs out u.undone; asked = u.asked };
      told = λ k h. inl h;
      keeps = λ k h. h;
      tells = λ k h. absurd (not_quiet before settings s r k kept u.runs u.asked (refusing s r k kept.good u.runs u.course h) quiet);
      wanted = refl;
    }
follows_answer path before settings s t label u kept quiet out (inr (ok, o, e, q)) =
    let r = u.frame in
    let runs = u.runs in
    let same : o ≡ r = cc in
    record {
      under = record {
        frame = ev.completed (ev.answer_of ok) r;
        course = u.course;
        runs = q ∙ ap (λ (x : Job). Some (ev.completed (ev.answer_of ok) x)) same;
        named = u.named;
        target = u.target;
        undone = walked_undone before t.core r (option_map (λ w. after w (ev.answer_of ok)) r.walk) r.stage (same_core s t label r before u.runs out u.undone);
        asked = walked_asked before r (option_map (λ w. after w (ev.answer_of ok)) r.walk) r.stage (answered_ends ok r.walk) u.asked;
      };
      told = λ k h. inl h;
      keeps = λ k h. h;
      tells = λ k h. absurd (not_quiet before settings s r k kept u.runs u.asked (refusing s r k kept.good u.runs u.course h) quiet);
      wanted = refl;
    }

-- One entry of a run -------------------------------------------------------------------------------

not_over : (s : State) (r : Job) (label : Label) (t : State) → IsWithin label → IsOver s r (record { label = label; state = t }) → ⊥
not_over s r label t within over = subst (λ (x : Step). IsWithin x.label) over.is within

follows : (path : List ℕ) (next : ℕ) (before : Core) (settings : Settings) (s : State) (entry : Entry) (t : State) (u : Underway path before s) → Tree next before → Kept s → IsWithin (printed entry) → Goes settings s entry t → Follows path before s u.frame t
follows path next before settings s (Happens event label) t u tree kept within goes =
    let out = subst (λ (x : Step). Outside s x) goes.1 (happens_outside s event) in
    follows_answer path before settings s t label u kept goes.0 out out.operation
follows path next before settings s (Did label) t u tree kept within goes =
    elim (rebalance_stepped path next before settings s (record { label = label; state = t }) u tree kept.good goes) [
      | inl h ↦ follows_step path before s label t u kept.good h
      | inr over ↦ absurd (not_over s u.frame label t within over)
    ]
follows path next before settings s (Declines label) t u tree kept within goes = let idle = idle_before s label t goes in let runs = u.runs in absurd (cc)

-- A run ---------------------------------------------------------------------------------------------

-- from a state with frame r the rebalance goes on, and who refused meanwhile is told at its end
pub record Lasts (settings : Settings) (path : List ℕ) (before : Core) (s : State) (r : Job) (entries : List Entry) (t : State) : Type 0 where
  pub under : Underway path before t
  pub told : (k : ℕ) → has under.frame.refused k ≡ true → (has r.refused k ≡ true) ⊎ RefusedSince settings s entries t k
  pub keeps : (k : ℕ) → has r.refused k ≡ true → has under.frame.refused k ≡ true
  pub tells : (k : ℕ) → Refuses s k → Refuses t k ⊎ (has under.frame.refused k ≡ true)
  pub wanted : under.frame.wanted ≡ r.wanted

-- what was refused later was refused since
refused_later : (settings : Settings) (s mid t : State) (entry : Entry) (rest : List Entry) (k : ℕ) → Goes settings s entry mid → RefusedSince settings mid rest t k → RefusedSince settings s (entry ∷ rest) t k
refused_later settings s mid t entry rest k goes (x, (xs, ys, e, run, more), h) =
    (x, (entry ∷ xs, ys, ap (λ (l : List Entry). entry ∷ l) e, (mid, goes, run), more), h)

pub lasts : (settings : Settings) (rack : List Driver) (path : List ℕ) (next : ℕ) (before : Core) → Tree next before →
    (s : State) (entries : List Entry) (t : State) → IsReached settings rack s → (u : Underway path before s) → AllWithin entries → Run settings s entries t → Lasts settings path before s u.frame entries t
lasts settings rack path next before tree s [] t reached u within run =
    let here : Lasts settings path before s u.frame [] s = record { under = u; told = λ k h. inl h; keeps = λ k h. h; tells = λ k h. inl h; wanted = refl } in
    subst (λ (x : State). Lasts settings path before s u.frame [] x) (sym run) here
lasts settings rack path next before tree s (entry ∷ rest) t reached u within (mid, goes, run) =
    let after = follows path next before settings s entry mid u tree (reaches_kept settings rack reached.0 s reached.1) within.0 goes in
    let more = lasts settings rack path next before tree mid rest t (reached_on settings rack s entry mid reached goes) after.under within.1 run in
    record {
      under = more.under;
      told =
          λ k h. elim (more.told k h) [
            | inl e ↦ elim (after.told k e) [
              | inl old ↦ inl old
              | inr now ↦ inr (s, ([], entry ∷ rest, refl, refl, (mid, goes, run)), now)
            ]
            | inr e ↦ inr (refused_later settings s mid t entry rest k goes e)
          ];
      keeps = λ k h. more.keeps k (after.keeps k h);
      tells = λ k h. inr (more.keeps k (after.tells k h));
      wanted = more.wanted ∙ after.wanted;
    }

-- The begin -----------------------------------------------------------------------------------------

abbrev fresh : OpKind → Node → Option Reqs → Job
fresh kind node wanted = record (job_of kind node) { wanted = wanted }

-- one that began is under way
pub underway_begun : (path : List ℕ) (kind : OpKind) (wanted : Option Reqs) (s t : State) (b : Begun s kind path t) → begun s kind b.node ≡ re.begun_with s.core kind b.node wanted → course_of kind ≡ Course.Rebalancing → Ascending 0 s.core.nodes →
    (u : Underway path s.core t) × (u.frame.refused ≡ []) × (u.frame.wanted ≡ wanted)
underway_begun path kind wanted s t b form course order =
    let node = b.node in
    let first = fresh kind node wanted in
    let ks = reverse (serials_of (those re.is_asked s.core.nodes)) in
    let r = re.begun_with s.core kind node wanted in
    let same = re_ask_on first ks in
    let core : t.core ≡ s.core = ap (λ (x : State). x.core) b.is in (
      record {
        frame = r;
        runs = ap (λ (x : State). x.operation) b.is ∙ ap Some form;
        course = ap course_of same.work.kind ∙ course;
        named = same.work.path ∙ b.named;
        target = (node, subst (λ (i : ℕ). node_at i s.core.nodes ≡ Some node) (sym same.target) b.at, b.named);
        undone = subst (λ (c : Core). Undone s.core c r r.stage) (sym core)
            (undone_ask_on s.core s.core first ks (record { nodes = refl; back = tt; relations = refl; reserved = refl }) refl);
        asked = asked_ask_on s.core first ks (asks_begun s.core.nodes order);
      },
      same.refused,
      same.work.wanted,
    )
