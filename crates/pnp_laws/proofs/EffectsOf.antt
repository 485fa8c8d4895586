-- Each step and each event has an effect.
use Rattle.std.proofs.Common.{◌≡◌, inl, true, refl, sym, ap, subst, arith}
use Rattle.pnp_labels.specs.declared.label.Label.{Label}
use Rattle.pnp_labels.specs.declared.label.OpKind.{OpKind}
use Rattle.pnp_model.specs.Machine.{IsDeclined, Steps, is_in_order}
use Rattle.pnp_model.specs.Records.{Duty, Settings, State, Step}
use Rattle.pnp_model.specs.Tests.{is_surprise_task}
use Rattle.pnp_model.proofs.Due.{due_is_first}
use Rattle.pnp_model.specs.Runs.Entry.{Happens, Did, Declines}
use Rattle.pnp_laws.specs.Effects.{ActivityEffect, DriverEffect, Effect, EachStepHasAnEffectLaw, HandleEffect, IsUnasked, JoinEffect, NodeEffect, OpEffect, PathEffect, RangeEffect, TaskEffect, WindowEffect, WorldEffect}
use Rattle.pnp_laws.specs.Words.{IsBeside, IsNoJoin, joined}
use Rattle.pnp_laws.proofs.EffectsOfEvents.{Happened, event_effect}
use Rattle.pnp_laws.proofs.EffectsOfOperations.{operation_effect}
use Rattle.pnp_laws.proofs.EffectsOfStarts.{start_effect, task_effect}
use Rattle.pnp_laws.proofs.IdleSteps.{MachineStep, machine_step}

by_step : (s : State) (step : Step) → MachineStep s step → Effect s (Did step.label) step.state
by_step s _ (MachineStep.operates o step runs is) = operation_effect s o step runs is
by_step s _ (MachineStep.starts node phase m at acting is) = start_effect s node at phase m acting is
by_step s _ (MachineStep.does step none is) = task_effect s none step is

-- each step has an effect
pub effect_of : (settings : Settings) (s : State) (label : Label) (t : State) → Steps settings s label t → Effect s (Did label) t
effect_of settings s label t steps = by_step s (record { label = label; state = t }) (machine_step settings s (record { label = label; state = t }) steps)

-- what is due is dropped, where a client declines it
declined : (s : State) (label : Label) (t : State) → IsDeclined s label t → Effect s (Declines label) t
declined s label t declines =
    let first = due_is_first s declines.first declines.is_due in
    subst (λ (x : State). Effect s (Declines label) x) (sym declines.dropped)
    (record {
      nodes = NodeEffect.same refl refl;
      drivers = DriverEffect.same (subst IsUnasked (sym declines.says) tt) refl;
      ranges = RangeEffect.same refl;
      operation = OpEffect.idles first.idle first.idle (inl (subst IsBeside (sym declines.says) tt));
      activities = ActivityEffect.same refl;
      tasks = TaskEffect.dropped (record { kind = Duty.Begins declines.first.kind; serial = declines.first.serial }) first.idle first.task (λ is. absurd (in_order declines.first.kind declines.in_order is)) refl;
      world = WorldEffect.same refl refl;
      paths = PathEffect.same refl;
      windows = WindowEffect.same refl;
      handles = HandleEffect.same refl;
      joins = JoinEffect.none (subst IsNoJoin (sym declines.says) tt);
      serial = let q = ap joined declines.says in omega arith;
    })
  where
    in_order : (kind : OpKind) → is_in_order kind ≡ true → is_surprise_task (Duty.Begins kind) ≡ true → ⊥
    in_order OpKind.Disable h is = cc
    in_order OpKind.Eject h is = cc
    in_order _ h is = cc

-- and so has each event
pub effect_goes : EachStepHasAnEffectLaw
effect_goes settings s (Happens event label) t goes = subst (λ (x : Step). Happened s event x) goes.1 (event_effect s event)
effect_goes settings s (Did label) t goes = effect_of settings s label t goes
effect_goes settings s (Declines label) t goes = declined s label t goes
