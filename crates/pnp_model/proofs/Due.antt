-- What is due is begun next.
use Rattle.std.proofs.Common.{ℕ, ◌≡◌, Bool, true, false, List, [], ◌∷◌, Option, Some, None, refl, ap, ◌∙◌, subst}
use Rattle.std.specs.List.{find, slice_get}
use Rattle.pnp_model.specs.Records.{State, Settings, Activity, Task, Duty, Job, Beginning}
use Rattle.pnp_model.specs.Records.Doing.{Does}
use Rattle.pnp_model.specs.Cores.{node_at}
use Rattle.pnp_model.specs.Tasks.{begin_step}
use Rattle.pnp_model.specs.Machine as ma
use Rattle.pnp_labels.specs.declared.label.OpKind.{OpKind}

-- nothing runs, and the first task begins this operation
pub record IsFirst (s : State) (first : Beginning) : Type 0 where
  pub idle : s.operation ≡ None
  pub calm : s.activities ≡ []
  pub task : slice_get s.tasks 0 ≡ Some (record { kind = Duty.Begins first.kind; serial = first.serial })
  pub begins : ma.is_begin (begin_step s first.kind first.serial (node_at first.serial s.core.nodes)).label ≡ true

beginning_is : (kind : OpKind) (k : ℕ) (b : Bool) (first : Beginning) → ma.beginning kind k b ≡ Some first → (b ≡ true) × (record { kind = kind; serial = k } ≡ first)
beginning_is kind k false first h = absurd (cc)
beginning_is kind k true first h = (refl, cc)

first_alone : (s : State) (kind : OpKind) (k : ℕ) (acts : List Activity) (first : Beginning) → s.activities ≡ acts → s.operation ≡ None → slice_get s.tasks 0 ≡ Some (record { kind = Duty.Begins kind; serial = k }) →
    ma.due_alone s kind k acts ≡ Some first → IsFirst s first
first_alone s kind k [] first acts idle task h =
    let is = beginning_is kind k (ma.is_begin (begin_step s kind k (node_at k s.core.nodes)).label) first h in
    let own : IsFirst s (record { kind = kind; serial = k }) = record { idle = idle; calm = acts; task = task; begins = is.0 } in
    subst (λ (x : Beginning). IsFirst s x) is.1 own
first_alone s kind k (a ∷ more) first acts idle task h = absurd (cc)

first_duty : (s : State) (duty : Duty) (k : ℕ) (first : Beginning) → s.operation ≡ None → slice_get s.tasks 0 ≡ Some (record { kind = duty; serial = k }) → ma.due_duty s duty k ≡ Some first → IsFirst s first
first_duty s Duty.Listing k first idle task h = absurd (cc)
first_duty s Duty.Starting k first idle task h = absurd (cc)
first_duty s (Duty.Begins kind) k first idle task h = first_alone s kind k s.activities first refl idle task h

first_task : (s : State) (o : Option Task) (first : Beginning) → s.operation ≡ None → slice_get s.tasks 0 ≡ o → ma.due_task s o ≡ Some first → IsFirst s first
first_task s None first idle task h = absurd (cc)
first_task s (Some t) first idle task h = first_duty s t.kind t.serial first idle task h

first_with : (s : State) (o : Option Job) (first : Beginning) → s.operation ≡ o → ma.due_with s o ≡ Some first → IsFirst s first
first_with s (Some o) first idle h = absurd (cc)
first_with s None first idle h = first_task s (slice_get s.tasks 0) first idle refl h

pub due_is_first : (s : State) (first : Beginning) → ma.due s ≡ Some first → IsFirst s first
due_is_first s first h = first_with s s.operation first refl h

pub first_begins : (settings : Settings) (s : State) (first : Beginning) → IsFirst s first → ma.next settings s ≡ Some (Does (begin_step s first.kind first.serial (node_at first.serial s.core.nodes)))
first_begins settings s first h =
    ap (λ (o : Option Job). ma.next_of settings s o) h.idle
    ∙ ap (λ (acts : List Activity). ma.idle_next settings s (find ma.is_ready acts)) h.calm
    ∙ ap (λ (t : Option Task). ma.task_next settings s t) h.task
    ∙ ap (λ (acts : List Activity). ma.begin_alone s first.kind first.serial acts) h.calm
