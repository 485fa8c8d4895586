use Rattle.std.proofs.Common.{ℕ, ◌≡◌, ◌+◌, ◌≤◌, ◌^◌, Option, Some, None, Vec, Global, length, sym, subst}
use Rattle.std.specs.Prelude.{MatchOption}
use Rattle.pnp_labels.specs.declared.words.Answer.{Answer}
use Rattle.pnp_model.specs.Records.{Settings}
use Rattle.notify_front.specs.Desks.{Desk, front_of, told_of}
use Rattle.notify_front.specs.Fronts.{Front, IsFrontQuiet}
use Rattle.front_hint.specs.Spots.{HasStepped}
use Rattle.front_hint.proofs.Spotting.{rest_moves, step_moves}
use Rattle.front_hint.proofs.spot.run_move.Goals as goal

-- what a step came to
abbrev Stepped : Answer → Desk → Desk → Option (Vec ℕ Global) → Type 0
Stepped answer old new o = MatchOption o (IsFrontQuiet (told_of old) (front_of old) × (front_of new ≡ front_of old)) (λ line. HasStepped answer (told_of old) (front_of old) line.items (front_of new))

pub returns-in-Ok-Some : goal.returns-in-Ok-Some
returns-in-Ok-Some c =
    let d = c.args.run in
    let e = c.step_line.new.run in
    let steps : Stepped c.args.answer d e (Some c.in-Ok-Some.line) = subst (Stepped c.args.answer d e) c.in-Ok-Some.field-0-is c.in-Ok-Some.ensures.steps in
    step_moves c.args.answer d e c.args.reader c.in-Ok-Some.line c.step_line.ensures.told c.step_line.ensures.events c.requires.finished c.requires.events steps

pub rest_move-requires-clause-quiet : goal.rest_move-requires-clause-quiet
rest_move-requires-clause-quiet c =
    let d = c.args.run in
    let e = c.step_line.new.run in
    let steps : Stepped c.args.answer d e None = subst (Stepped c.args.answer d e) c.in-Ok-None.field-0-is c.in-Ok-None.ensures.steps in
    subst (λ (t : Settings). IsFrontQuiet t (front_of e)) (sym c.step_line.ensures.told) (subst (λ (f : Front). IsFrontQuiet (told_of d) f) (sym steps.1) steps.0)

pub rest_move-requires-clause-events : goal.rest_move-requires-clause-events
rest_move-requires-clause-events c = subst (λ n. n + length c.args.reader.rest ≤ 2 ^ 24) (sym c.step_line.ensures.events) c.requires.events

pub returns-in-Ok-None : goal.returns-in-Ok-None
returns-in-Ok-None c =
    let d = c.args.run in
    let e = c.step_line.new.run in
    let steps : Stepped c.args.answer d e None = subst (Stepped c.args.answer d e) c.in-Ok-None.field-0-is c.in-Ok-None.ensures.steps in
    rest_moves c.rest_move.result c.args.answer d e c.args.reader c.step_line.ensures.told steps.1 c.rest_move.ensures
