-- Each step of a run keeps births in order, and makes the joins to come cost no more.
use Rattle.std.proofs.Common.{ℕ, ◌<◌, ◌≤◌, ◌≡◌, ◌⊎◌, inl, inr, true, false, List, [], ◌∷◌, Option, Some, None, refl, sym, ap, ◌∙◌, subst, arith}
use Rattle.pnp_model.specs.Records.{Node, Device, Driver, State, Step, Settings, Course, Job, Stage, course_of}
use Rattle.pnp_model.specs.Frames.{first_node}
use Rattle.pnp_model.specs.Laws.{Reaches}
use Rattle.pnp_model.specs.Runs.{Entry, Goes, Run, opening}
use Rattle.pnp_model.specs.Runs.Entry.{Happens, Did, Declines}
use Rattle.pnp_model.specs.Cores.{node_at}
use Rattle.pnp_model.specs.States.{drop_task}
use Rattle.pnp_labels.specs.declared.label.Label.{Label}
use Rattle.pnp_laws.specs.Words.{IsNoJoin}
use Rattle.pnp_laws.specs.Kept.{IsGood, RebalanceAsks, RemovalKeeps, SurpriseKeeps}
use Rattle.pnp_laws.specs.Effects.{NodeEffect, OpEffect, Running, Turn, leaving_in, to_leave}
use Rattle.pnp_laws.proofs.EffectsOf.{effect_of}
use Rattle.pnp_laws.proofs.DiagramSteps.{follows_effect}
use Rattle.pnp_laws.proofs.EffectViews.{gone_left}
use Rattle.pnp_laws.proofs.Lookups.{some_same}
use Rattle.pnp_laws.proofs.Standing.{RemovalOrder, SurpriseOrder, SurpriseTold, ToldKept, kept_by, told_by}
use Rattle.pnp_laws.proofs.Turns.{running_good}
use Rattle.pnp_laws.proofs.TurnsKept.{running_stage, running_told}
use Rattle.pnp_laws.proofs.Runs.{lawful_goes, root_is}
use Rattle.pnp_laws.proofs.SoundMachine.{sound_step}
use Rattle.pnp_laws.proofs.RunsStand.{Kept, may_begin, kept_goes, opening_kept}
use Rattle.pnp_laws.proofs.Joins.{closed, is_live, sub_same, stage_leaving, Leaving, Born, Flows}
use Rattle.pnp_laws.proofs.JoinSteps.{Closing, Joined, Knows, dropped_cheaper, flows_step}
use Rattle.pnp_laws.proofs.JoinRemovals.{ClosesStep, asks_closing, closed_by, finish_closing, removal_closing, running_shuts, surprise_closing}
use Rattle.pnp_laws.proofs.JoinFinishes.{leaving_idle, leaving_operation, left_by, left_in}
use Rattle.pnp_laws.proofs.Stages.{OperationStep, operation_step, own_step}
use Rattle.pnp_laws.proofs.EffectsOfOperations.{turn_work}
use Rattle.pnp_laws.proofs.JoinBirths.{born_flows}
use Rattle.pnp_laws.proofs.JoinCounts.{flows_price, join_price}
use Rattle.pnp_laws.proofs.JoinFalls.{join_goes}
use Rattle.pnp_laws.proofs.JoinEvents.{born_happens}
use Rattle.pnp_model.specs.Machine as ma
use Rattle.pnp_model.specs.Jobs.{stands}
use Rattle.pnp_laws.proofs.FitsBy.{fits_by}
use Rattle.pnp_model.specs.Removals.{queried}
use Rattle.pnp_model.specs.Surprises.{removing}
use Rattle.pnp_model.specs.Finishes.{taken}

-- where none may leave
open_closing : (s : State) (label : Label) (t : State) → ((k : ℕ) → closed s.operation k ≡ false) → ((o : Job) → Running s o → to_leave o ≡ []) → NodeEffect s label t → Closing s t
open_closing s label t free none nodes = record { closes = λ k m at now. inl (free k); gone = λ k n at gone. absurd (let left = gone_left s label t nodes k n at gone in let first = subst (λ (ks : List ℕ). first_node s.core.nodes ks ≡ Some n) (none left.0 left.1) left.2 in cc) }

no_leaving : (r : Job) (stage : Stage) → RebalanceAsks r stage → leaving_in stage r.todo ≡ []
no_leaving r Stage.Settling asks = absurd asks
no_leaving r Stage.Leaving asks = absurd asks
no_leaving r _ asks = refl

rebalance_leaves : (s : State) (r : Job) → course_of r.kind ≡ Course.Rebalancing → IsGood s → Running s r → (o : Job) → Running s o → to_leave o ≡ []
rebalance_leaves s r course good runs o now =
    let first : now.before ≡ runs.before = let a = runs.runs in let b = now.runs in cc in
    let kind : o.kind ≡ r.kind = (turn_work s now.before o now.turn).kind ∙ ap (λ (x : Job). x.kind) first ∙ sym (turn_work s runs.before r runs.turn).kind in
    no_leaving o o.stage (fits_by Course.Rebalancing o s.core.nodes (ap course_of kind ∙ course) (running_good s o now good).fits).asks

-- the device of a finish that was taken now does not leave yet
turn_leaving : (s : State) (o p : Job) → Turn s o p → Leaving (Some o) s.core.nodes s.world → Leaving (Some p) s.core.nodes s.world
turn_leaving s _ _ (Turn.same o) h = h
turn_leaving s _ _ (Turn.queries o node course is idle first asks) h = left_in Course.Removing (queried o) s.core.nodes s.world course tt
turn_leaving s _ _ (Turn.removes o node d ds course is idle first goes full) h = left_in Course.Surprising (removing o) s.core.nodes s.world course tt
turn_leaving s _ _ (Turn.settles o node course is idle first goes none) h = left_in Course.Surprising (stands o o.todo Stage.Settling) s.core.nodes s.world course tt
turn_leaving s _ _ (Turn.finishes f k node course is idle ready at) h = left_in Course.Finishing (taken f node) s.core.nodes s.world course tt

running_leaving : (s : State) (o : Job) → Born s → Running s o → Leaving (Some o) s.core.nodes s.world
running_leaving s o born runs = turn_leaving s runs.before o runs.turn (subst (λ (y : Option Job). Leaving y s.core.nodes s.world) runs.runs born.leaving)

closing_of : (s : State) (o : Job) (step : Step) → Kept s → Born s → NodeEffect s step.label step.state → Running s o → OperationStep s o step → ClosesStep s step
closing_of s o step kept born nodes runs (OperationStep.asks node w a) knows = asks_closing s o node w (running_shuts s o runs) knows
closing_of s o step kept born nodes runs (OperationStep.rebalances stage m course is x) knows =
    open_closing s step.label step.state (λ k. running_shuts s o runs k ∙ closed_by Course.Rebalancing o course k) (rebalance_leaves s o course kept.good runs) nodes
closing_of s o step kept born nodes runs (OperationStep.removes stage m course is x) knows =
    let good = running_good s o runs kept.good in
    removal_closing s o stage m (record { shuts = running_shuts s o runs; course = course; is = is; empty = good.alone })
    (subst (λ (y : Stage). RemovalKeeps o y s.core.nodes) is (fits_by Course.Removing o s.core.nodes course good.fits))
    (subst (λ (y : Stage). RemovalOrder s.core o y) is (kept_by Course.Removing o s.core course (running_stage s o runs kept)).0) x knows
closing_of s o step kept born nodes runs (OperationStep.surprises stage m course is x) knows =
    let good = running_good s o runs kept.good in
    surprise_closing s o stage m (record { shuts = running_shuts s o runs; course = course; empty = good.alone })
    (subst (λ (y : Stage). SurpriseKeeps o y s.core.nodes) is (fits_by Course.Surprising o s.core.nodes course good.fits))
    (subst (λ (y : Stage). SurpriseOrder s.core o y) is (kept_by Course.Surprising o s.core course (running_stage s o runs kept)).0)
    (subst (λ (y : Stage). SurpriseTold s.core o y) is (told_by Course.Surprising o s.core course (running_told s o runs kept))) x knows
closing_of s o step kept born nodes runs (OperationStep.finishes stage m course is x) knows =
    let good = running_good s o runs kept.good in
    let leaving = left_by Course.Finishing o s.core.nodes s.world course (running_leaving s o born runs) in
    finish_closing s o stage m (record { shuts = running_shuts s o runs; course = course; empty = good.alone; order = good.serials; leaving = subst (λ (y : Stage). stage_leaving o y s.core.nodes s.world) is leaving }) x knows

-- what a step leaves of an operation
record Leaves (s : State) (step : Step) : Type 0 where
  closing : ClosesStep s step
  leaving : Leaving step.state.operation step.state.core.nodes step.state.world

leaves_step : (settings : Settings) (s : State) (step : Step) → Kept s → Born s → NodeEffect s step.label step.state → OpEffect s step.label step.state → (o : Option Job) → s.operation ≡ o → ma.IsStep settings (ma.next settings s) step → Leaves s step
leaves_step settings s step kept born nodes op None e is =
    record {
      closing = λ knows. open_closing s step.label step.state (λ k. ap (λ (x : Option Job). closed x k) e) (λ o runs. absurd (let was = runs.runs in cc)) nodes;
      leaving = leaving_idle s step.label step.state e op;
    }
leaves_step settings s step kept born nodes op (Some o) e is =
    let taken = operation_step settings s o step e is in
    let runs : Running s taken.now = record { before = o; runs = e; turn = taken.turn } in
    let fits = (running_good s taken.now runs kept.good).fits in
    let own = own_step s taken.now step fits taken.is in
    record {
      closing = closing_of s taken.now step kept born nodes runs own;
      leaving = leaving_operation s taken.now step kept.stands.tree.rooted (running_leaving s taken.now born runs) fits runs op own;
    }

-- what is known of each step
pub knows_step : (settings : Settings) (s : State) (step : Step) → Kept s → ma.IsStep settings (ma.next settings s) step → Knows s step
knows_step settings s step kept is =
    record {
      sound = sound_step settings s step kept.good kept.waits.told kept.stands is;
      diagram = follows_effect s step.label step.state kept.good (effect_of settings s step.label step.state is).nodes;
      good = (lawful_goes settings s (Did step.label) step.state (may_begin s kept) kept.good is).good;
    }

-- a step is a join, or lets no more devices join
record StepFlows (s : State) (step : Step) : Type 0 where
  knows : Knows s step
  leaving : Leaving step.state.operation step.state.core.nodes step.state.world
  flows : (IsNoJoin step.label × Flows s step.state) ⊎ Joined s step

step_flows : (settings : Settings) (s : State) (step : Step) → Kept s → Born s → ma.IsStep settings (ma.next settings s) step → StepFlows s step
step_flows settings s step kept born is =
    let effect = effect_of settings s step.label step.state is in
    let knows = knows_step settings s step kept is in
    let leaves = leaves_step settings s step kept born effect.nodes effect.operation s.operation refl is in
    record { knows = knows; leaving = leaves.leaving; flows = flows_step s step.label step.state kept knows effect (leaves.closing knows) }

-- births stay in order, and the price of the joins to come falls, or is no more, and no device joined
pub step_goes : (settings : Settings) (s : State) (step : Step) → Kept s → Born s → ma.IsStep settings (ma.next settings s) step
    → Born step.state × ((join_price step.state < join_price s) ⊎ ((join_price step.state ≤ join_price s) × IsNoJoin step.label))
step_goes settings s step kept born is =
    let f = step_flows settings s step kept born is in
    elim f.flows [
      | inl (no_join, flows) ↦ let b = born_flows s step.state born flows f.leaving in (b, inr (flows_price s step.state kept.good f.knows.good kept.stands.tree born flows b.room, no_join))
      | inr joined ↦ let g = join_goes s step kept.good f.knows.good kept.stands.tree (subst (λ (o : Option Job). ToldKept o s.core) joined.none kept.waits.told) born joined in (g.0, inl g.1)
    ]

-- where the first task is dropped, all but tasks stays
pub flows_dropped : (s : State) → Flows s (drop_task s)
flows_dropped s =
    record {
      counts = (refl, refl);
      world = sub_same s.world;
      stays = inl refl;
      from = λ k m at. (m, at, refl, refl);
      start = None;
      started = λ n e. absurd (cc);
      tasks = λ cost. let l = dropped_cheaper s.tasks cost in omega arith;
      live = λ k n m was at live. inl (subst (λ (x : Node). is_live s x ≡ true) (some_same (node_at k s.core.nodes) m n at was) live);
      gone = λ k n at gone. absurd (cc);
    }

pub born_goes : (settings : Settings) (old : State) (entry : Entry) (new : State) → Kept old → Born old → Goes settings old entry new → Born new
born_goes settings old (Happens event label) new kept born goes = subst (λ (t : Step). Born t.state) goes.1 (born_happens old event kept.good born)
born_goes settings old (Did label) new kept born goes = (step_goes settings old (record { label = label; state = new }) kept born goes).0
born_goes settings old (Declines label) new kept born goes = subst (λ (t : State). Born t) (sym goes.dropped) (born_flows old (drop_task old) born (flows_dropped old) born.leaving)

born_run : (settings : Settings) (old : State) (entries : List Entry) (new : State) → Run settings old entries new → Kept old → Born old → Born new
born_run settings old [] new run kept born = subst (λ (s : State). Born s) (sym run) born
born_run settings old (entry ∷ rest) new (mid, goes, run) kept born = born_run settings mid rest new run (kept_goes settings old entry mid kept goes) (born_goes settings old entry mid kept born goes)

pub opening_born : (rack : List Driver) → Born (opening rack)
opening_born rack =
    record {
      room = (refl, omega arith);
      grows = (omega arith, omega arith, tt);
      fresh = λ d there. elim there [ inl e ↦ let f = ap (λ (z : Device). z.born) e in omega arith | inr h ↦ absurd h ];
      apart = λ j k n m at there e. (root_is j n at).1 ∙ sym (root_is k m there).1;
      first = λ k n at e. (root_is k n at).1;
      known = λ k n at. let e = ap (λ (z : Node). z.born) (root_is k n at).0 in omega arith;
      soon = refl;
      links = λ k n p d at there in_world e.
          ap (λ (z : Node). z.born) (sym (root_is n.parent p there).0) ∙ elim in_world [ inl f ↦ ap (λ (z : Device). z.parent) f | inr h ↦ absurd h ];
      leaving = tt;
    }

pub reaches_born : (settings : Settings) (rack : List Driver) (entries : List Entry) (s : State) → Reaches settings rack entries s → Born s
reaches_born settings rack entries s run = born_run settings (opening rack) entries s run (opening_kept rack) (opening_born rack)
