use Rattle.std.proofs.Common.{ℕ, ◌≡◌, ◌++◌, List, true, sym, ap, ◌∙◌}
use Rattle.inf_reader.specs.declared.parts.Inf.{Inf}
use Rattle.start_sequence.specs.Begins.{settings_of}
use Rattle.script_reader.specs.Reading.{Reading}
use Rattle.script_reader.specs.Script.{trace}
use Rattle.front_check.specs.FrontChecks.{Runs}
use Rattle.free_model.specs.Frees.{free_opening}
use Rattle.notify_front.specs.Desks.{Desk, front_of, told_of}
use Rattle.notify_front.specs.Fronts.{opening_front}
use Rattle.front_hint.proofs.Walking.{one_read}
use Rattle.front_hint.proofs.start.start.Goals as goal

pub returns-clause-begins : goal.returns-clause-begins
returns-clause-begins c = λ read is.
    let none : c.finish.new.self.passed ≡ 0 =
    ap (λ (r : Reading). r.passed) c.finish.ensures.shut ∙ ap (λ (r : Reading). r.passed) c.in_ok-feed.ensures.ok ∙ ap (λ (r : Reading). r.passed) c.new-reader.ensures.new
    in
    let all : c.finish.new.self.rest ≡ c.args.script.now =
    ap (λ (r : Reading). r.rest) c.finish.ensures.shut ∙ ap (λ (r : Reading). r.rest) c.in_ok-feed.ensures.ok ∙ ap (λ (r : Reading). r.rest ++ c.args.script.now) c.new-reader.ensures.new
    in (
      ap (λ (d : Desk). Runs (front_of d) (trace true c.finish.new.self.passed c.finish.new.self.rest)) c.in_ok-run.ensures
          ∙ ap (λ (n : ℕ). Runs (opening_front (free_opening c.args.kinds.now)) (trace true n c.finish.new.self.rest)) none ∙ ap (λ (r : List ℕ). Runs (opening_front (free_opening c.args.kinds.now)) (trace true 0 r)) all,
      ap told_of c.in_ok-run.ensures ∙ ap (λ (i : List Inf). settings_of i c.args.budget) (one_read c.in_ok-infs.infs.items read (sym c.in_ok-infs.ensures.read ∙ is)),
    )
