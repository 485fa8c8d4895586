-- In each state of a run in which neither a surprise removal nor a finish runs, all that depends on a device that was told that it
-- has gone was told so as well.
use Rattle.std.proofs.Common.{ℕ, ◌≡◌, true, List, [], ◌∷◌, Option, Some, None, ap, subst}
use Rattle.pnp_labels.specs.declared.states.DevState.TheVariants.{SurpriseRemoved}
use Rattle.pnp_model.specs.Cores.{node_at, serials_of}
use Rattle.pnp_model.specs.Keyed.{those}
use Rattle.pnp_model.specs.Records.{Core, Node, State, Job, Stage, Course, course_of}
use Rattle.pnp_model.specs.Tests.{has, is_surprise_removed}
use Rattle.pnp_model.specs.Trees.{direct, hangs_on}
use Rattle.pnp_laws.specs.Kept.{Ascending, Within}
use Rattle.pnp_laws.specs.Waiting.{DependentsTold, DependentsAreToldLaw, NeitherRuns, Told, IsNeither}
use Rattle.pnp_laws.proofs.Closures.{Closed, closed_within, hangs_some, those_serial}
use Rattle.pnp_laws.proofs.Lists.{those_found}
use Rattle.pnp_laws.proofs.Lookups.{some_same}
use Rattle.pnp_laws.proofs.OpSteps.{is_SurpriseRemoved}
use Rattle.pnp_laws.proofs.RunsStand.{Kept, reaches_kept}
use Rattle.pnp_laws.proofs.Standing.{RemovalTold, ToldKept, JobTold}

-- those that wait
abbrev waiting_ones : Core → List ℕ
waiting_ones c = serials_of (those (λ n. is_surprise_removed n.state) c.nodes)

module _ (c : Core) (order : Ascending 0 c.nodes) (told : Told c) where
  told_one : (k : ℕ) (n : Node) → node_at k c.nodes ≡ Some n → has (waiting_ones c) k ≡ true → n.state ≡ SurpriseRemoved
  told_one k n at h =
      let f = those_found 0 (λ n. is_surprise_removed n.state) c.nodes k order h in
      subst (λ (x : Node). x.state ≡ SurpriseRemoved) (some_same (node_at k c.nodes) f.0 n f.1 at) (is_SurpriseRemoved f.0.state f.2)

  is_one : (k : ℕ) (n : Node) → node_at k c.nodes ≡ Some n → n.state ≡ SurpriseRemoved → has (waiting_ones c) k ≡ true
  is_one k n at state = those_serial 0 (λ n. is_surprise_removed n.state) c.nodes k n order at (ap is_surprise_removed state)

  ones_closed : Closed c (waiting_ones c)
  ones_closed j m at on =
      let some = hangs_some c (waiting_ones c) m on in
      let f = those_found 0 (λ n. is_surprise_removed n.state) c.nodes some.0 order some.1 in
      is_one j m at (told some.0 f.0 f.1 (is_SurpriseRemoved f.0.state f.2) j m at some.2)

  direct_within : (k : ℕ) (n : Node) → node_at k c.nodes ≡ Some n → n.state ≡ SurpriseRemoved → Within (direct c k) (waiting_ones c)
  direct_within k n at state j h =
      let f = those_found 0 (hangs_on c (k ∷ [])) c.nodes j order h in
      is_one j f.0 f.1 (told k n at state j f.0 f.1 f.2)

  pub told_dependents : DependentsTold c
  told_dependents k n at state j m depends there =
      told_one j m there (closed_within c (direct c k) (waiting_ones c) order ones_closed (direct_within k n at state) j depends)

-- where neither runs, what is kept says it of what hangs on the device
told_removal : (o : Job) (c : Core) (stage : Stage) → RemovalTold c o stage → Told c
told_removal o c Stage.Removing h = h.0
told_removal o c Stage.Settling h = h.0
told_removal o c _ h = h

told_in : (course : Course) (o : Job) (c : Core) → IsNeither course → JobTold course o c → Told c
told_in Course.Rebalancing r c neither told = told
told_in Course.Removing o c neither told = told_removal o c o.stage told
told_in Course.Surprising o c neither told = absurd neither
told_in Course.Finishing f c neither told = absurd neither

pub told_beside : (o : Option Job) (c : Core) → NeitherRuns o → ToldKept o c → Told c
told_beside None c neither told = told
told_beside (Some o) c neither told = told_in (course_of o.kind) o c neither told

pub kept_told : (s : State) → Kept s → NeitherRuns s.operation → Told s.core
kept_told s kept neither = told_beside s.operation s.core neither kept.waits.told

pub dependents_are_told : DependentsAreToldLaw
dependents_are_told settings rack entries s run neither =
    let kept = reaches_kept settings rack entries s run in
    told_dependents s.core kept.good.serials (kept_told s kept neither)
